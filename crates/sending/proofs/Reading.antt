-- What compile writes is read.
use Rattle.std.proofs.Common.{◌≡◌, ℕ, ◌≤◌, List, length, Ok, Err, Result, sym, refl, subst}
use Rattle.std.proofs.lemmas.List.{same_from_push}
use Rattle.syntax.specs.Tree.{Tree, nodes}
use Rattle.syntax.specs.Record.{record_of}
use Rattle.grammar.specs.Grammar.{Derives, expr}
use Rattle.grammar.specs.Token.{Name, end}
use Rattle.grammar.specs.Verdict.{Means, Outcome, refused, compiled, Verdict, too_long, no_token, out_of_range}
use Rattle.grammar.specs.Verdict.{unexpected, unknown, too_many_nodes, no_room, a_record}
use Rattle.record.specs.Faults.{number_of, place_of}
use Rattle.record.specs.Proper.{Sendable}
use Rattle.record.specs.Questions.{Refusal}
use Rattle.record.specs.Reading.{IsTree, Judged}
use Rattle.record.specs.declared.fault.RecordFault.{RecordFault}
use Rattle.record.specs.declared.received.Received.{Received}
use Rattle.record.proofs.Deciding.{one_reading}
use Rattle.sending.specs.Sending.{Read, WrittenIsRead}
use Rattle.sending.proofs.Bound.{IfProper, resolved_proper}
use Rattle.sending.proofs.Numbers.{front_fits, derives_in_range}

module _ (book : List Name) (s : List ℕ) (few_names : length book ≤ 8) where
  pub means_sendable : (t : Tree) → Means book s t → nodes t ≤ 512 → Sendable (length book) t
  means_sendable t m few =
      let same : m.tokens ≡ m.sentence.0 = (same_from_push m.tokens m.sentence.0 end end m.sentence.1).0 in
      let derived : Derives expr m.tokens m.expr = subst (λ l. Derives expr l m.expr) (sym same) m.sentence.2 in
      let in_range = derives_in_range derived (front_fits s m.sofar.front) in
      record {
        proper = subst (IfProper (length book)) m.resolves (resolved_proper book m.expr in_range);
        few = few;
        over = few_names;
      }

  module _ (t : Tree) (sendable : Sendable (length book) t) where
    never_refused : (k q : ℕ) → Refusal (record_of (length book) t) k q → ⊥
    never_refused k q = one_reading.never_refused (length book) t k q sendable

    received : (answer : Result Received RecordFault) →
        Judged (record_of (length book) t) answer →
        (x : Received) × (answer ≡ Ok x) × IsTree x t × (x.readings ≡ length book)
    received (Ok x) j =
        let same = one_reading.one_tree (length book) x.readings t j.0 sendable j.1.sendable j.2 in
        (x, refl, subst (IsTree x) (sym same.1) j.1, sym same.0)
    received (Err f) j = absurd (never_refused (number_of f) (place_of f) j)

  abbrev IfWritten : Outcome → Type 0
  IfWritten (refused n place) = Unit {0}
  IfWritten (compiled bytes) = Read book s bytes

  module _ (room : ℕ) where
    written : {o : Outcome} → Verdict book s room o → IfWritten o
    written (too_long h) = tt
    written (no_token a x) = tt
    written (out_of_range a x y) = tt
    written (unexpected a x y z) = tt
    written (unknown a x y z) = tt
    written (too_many_nodes m h) = tt
    written (no_room m h k) = tt
    written (a_record {t} m h k) =
        let sendable = means_sendable t m h in
        record {
          tree = t;
          means = m;
          sendable = sendable;
          is_record = refl;
          never_refused = never_refused t sendable;
          received = received t sendable;
        }

pub written_is_read : WrittenIsRead
written_is_read book s room bytes few v = written book s few room v
