-- What each call leaves of a run place, of a rule place, and what it replies.
use Rattle.std.specs.Prelude.{◌≡◌, ◌+◌, ℕ, ℤ, List, length, replicate, pos, OnOk, OnErr}
use Rattle.syntax.specs.Tree.{Tree, number}
use Rattle.store.specs.Lists.{Lists}
use Rattle.values.specs.declared.Value.{Value}
use Rattle.record.specs.declared.received.Received.{Received}
use Rattle.record.specs.Reading.{IsTree}
use Rattle.typing.specs.Accepting.{IsRule}
use Rattle.run.specs.Faults.{rewind_answer, grant_answer}
use Rattle.run.specs.Told.{state_of}
use Rattle.run.specs.Standing.{Seen, IsAt, reported}
use Rattle.firmware.specs.declared.reply.Reply.{Reply}
use Rattle.firmware.specs.declared.report.Told.{Told}
use Rattle.firmware.specs.declared.run_place.RunPlace.{RunPlace}
use Rattle.firmware.specs.declared.run_place.RunPlace.TheVariants.{Closed, Open}
use Rattle.firmware.specs.declared.fault.CallFault.TheVariants as call
use Rattle.firmware.specs.Replies.{done, misused, replied}
use Rattle.firmware.specs.Reports.{plain, no_run}

-- a run keeps its rule, and its store the whole room and the costs
abbrev pub KeepsItsOwn : {S : Type 0} (whole : S → ℕ) (cost : S → ℕ → ℕ) → Seen S → Seen S → Type 0
KeepsItsOwn whole cost run run' =
    (run'.rule ≡ run.rule) × (whole run'.store ≡ whole run.store) × (cost run'.store ≡ cost run.store)

-- Started: the run of the place's rule, with all readings 0 and nothing granted; the rule place is new.
abbrev pub Started : {S : Type 0} (lists : S → Lists Value) (whole room : S → ℕ) (cost : S → ℕ → ℕ)
    → RunPlace S → Received → RunPlace S → Received → Reply → Type 0
Started {S} lists whole room cost (Closed store) rule place' rule' reply =
    (run : Seen S) ×
    (place' ≡ Open run) ×
    (run.rule ≡ rule) ×
    (whole run.store ≡ whole store) ×
    (cost run.store ≡ cost store) ×
    ((r : ℕ) (t : Tree) → IsRule rule r t → IsAt lists whole room cost run t (replicate r (pos 0)) 0) ×
    IsRule rule' 0 (number (pos 0)) ×
    (reply ≡ done 0)
Started lists whole room cost (Open run) rule place' rule' reply =
    (place' ≡ Open run) × (rule' ≡ rule) × (reply ≡ misused call.Open)

-- Rewound: the run stands at its beginning with these readings, or is refused and as it was.
abbrev pub Rewound : {S : Type 0} (lists : S → Lists Value) (whole room : S → ℕ) (cost : S → ℕ → ℕ)
    → RunPlace S → List ℤ → RunPlace S → Reply → Type 0
Rewound lists whole room cost (Closed store) readings place' reply =
    (place' ≡ Closed store) × (reply ≡ misused call.Closed)
Rewound {S} lists whole room cost (Open run) readings place' reply =
    (run' : Seen S) ×
    (place' ≡ Open run') ×
    KeepsItsOwn whole cost run run' ×
    (let answer = rewind_answer run.rule.readings (length readings) in
    OnErr answer (run' ≡ run) ×
    OnOk answer ((t : Tree) → IsTree run.rule t → IsAt lists whole room cost run' t readings 0) ×
    (reply ≡ replied answer))

-- Granted: the run stands so many steps further, or is refused and as it was.
abbrev pub Granted : {S : Type 0} (lists : S → Lists Value) (whole room : S → ℕ) (cost : S → ℕ → ℕ)
    → RunPlace S → ℕ → RunPlace S → Reply → Type 0
Granted lists whole room cost (Closed store) steps place' reply =
    (place' ≡ Closed store) × (reply ≡ misused call.Closed)
Granted {S} lists whole room cost (Open run) steps place' reply =
    (run' : Seen S) ×
    (place' ≡ Open run') ×
    KeepsItsOwn whole cost run run' ×
    (let answer = grant_answer (state_of (reported run).state) (reported run).count steps in
    OnErr answer (run' ≡ run) ×
    OnOk answer ((t : Tree) (readings : List ℤ) (g : ℕ) → IsAt lists whole room cost run t readings g → IsAt lists whole room cost run' t readings (g + steps)) ×
    (reply ≡ replied answer))

-- Closed: the store stands in the run place, and the rule in the rule place.
abbrev pub Closing : {S : Type 0} → RunPlace S → Received → RunPlace S → Received → Reply → Type 0
Closing (Closed store) rule place' rule' reply =
    (place' ≡ Closed store) × (rule' ≡ rule) × (reply ≡ misused call.Closed)
Closing (Open run) rule place' rule' reply =
    (place' ≡ Closed run.store) × (rule' ≡ run.rule) × (reply ≡ done 0)

-- what ask tells
abbrev pub told : {S : Type 0} → RunPlace S → Told
told (Closed store) = no_run
told (Open run) = plain (reported run)

-- the free room of a store in which no run is open
abbrev pub freed : {S : Type 0} → (S → ℕ) → RunPlace S → Reply
freed room (Closed store) = done (room store)
freed room (Open run) = misused call.Open
