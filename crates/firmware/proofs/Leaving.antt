-- What a call leaves of a run place in which a run is open, from what the run's own call leaves of the run.
use Rattle.std.proofs.Common.{◌≡◌, ◌+◌, ℕ, ℤ, List, length, sym, refl, subst, ap, ◌∙◌, OnOk, OnErr, Result}
use Rattle.syntax.specs.Tree.{Tree}
use Rattle.store.specs.Lists.{Lists}
use Rattle.values.specs.declared.Value.{Value}
use Rattle.record.specs.Reading.{IsTree}
use Rattle.run.specs.declared.fault.RunFault.{RunFault}
use Rattle.run.specs.Faults.{rewind_answer, grant_answer}
use Rattle.run.specs.Told.{state_of}
use Rattle.run.specs.Standing.{Seen, IsAt, reported}
use Rattle.firmware.specs.declared.reply.Reply.{Reply}
use Rattle.firmware.specs.declared.run_place.RunPlace.{RunPlace}
use Rattle.firmware.specs.declared.run_place.RunPlace.TheVariants.{Open}
use Rattle.firmware.specs.Replies.{replied}
use Rattle.firmware.specs.Places.{KeepsItsOwn, Rewound, Granted}

module _ {S : Type 0} (lists : S → Lists Value) (whole room : S → ℕ) (cost : S → ℕ → ℕ)
    (place : RunPlace S) (run run' : Seen S) (is_open : place ≡ Open run) (keeps : KeepsItsOwn whole cost run run')
    (result : Result (Unit {0}) RunFault) (reply : Reply) (told : reply ≡ replied result)
    (err : OnErr result (run' ≡ run)) where
  pub rewound_where_open : (readings : List ℤ)
      → result ≡ rewind_answer run.rule.readings (length readings)
      → OnOk result ((t : Tree) → IsTree run.rule t → IsAt lists whole room cost run' t readings 0)
      → Rewound lists whole room cost place readings (Open run') reply
  rewound_where_open readings answer ok =
      subst (λ (p : RunPlace S). Rewound lists whole room cost p readings (Open run') reply) (sym is_open) (
        run',
        refl,
        keeps,
        (
          subst (λ (r : Result (Unit {0}) RunFault). OnErr r (run' ≡ run)) answer err,
          subst (λ (r : Result (Unit {0}) RunFault). OnOk r ((t : Tree) → IsTree run.rule t → IsAt lists whole room cost run' t readings 0)) answer ok,
          told ∙ ap replied answer,
        ),
      )

  pub granted_where_open : (steps : ℕ)
      → result ≡ grant_answer (state_of (reported run).state) (reported run).count steps
      → OnOk result ((t : Tree) (readings : List ℤ) (g : ℕ) → IsAt lists whole room cost run t readings g → IsAt lists whole room cost run' t readings (g + steps))
      → Granted lists whole room cost place steps (Open run') reply
  granted_where_open steps answer ok =
      subst (λ (p : RunPlace S). Granted lists whole room cost p steps (Open run') reply) (sym is_open) (
        run',
        refl,
        keeps,
        (
          subst (λ (r : Result (Unit {0}) RunFault). OnErr r (run' ≡ run)) answer err,
          subst (λ (r : Result (Unit {0}) RunFault). OnOk r ((t : Tree) (readings : List ℤ) (g : ℕ) → IsAt lists whole room cost run t readings g → IsAt lists whole room cost run' t readings (g + steps))) answer ok,
          told ∙ ap replied answer,
        ),
      )
