-- What a trial comes to, and what it leaves in its buffers and in the rule place.
use Rattle.std.specs.Prelude.{◌≡◌, ℕ, List, ◌++◌, length, drop, Ok, Err, Result}
use Rattle.syntax.specs.Tree.{Tree}
use Rattle.grammar.specs.Token.{Name}
use Rattle.grammar.specs.Verdict.{Verdict, compiled, refused}
use Rattle.record.specs.declared.received.Received.{Received}
use Rattle.typing.specs.Accepting.{IsRule, Wiped, cleared}
use Rattle.typing.specs.Judging.{Judgement, accepted, worked}
use Rattle.typing.specs.Judging as rule
use Rattle.trial.specs.Faults.{number_of, place_of}
use Rattle.trial.specs.declared.fault.TrialFault.{TrialFault}
use Rattle.trial.specs.declared.fault.TrialFault.TheVariants.{Text, Rule, Run}
use Rattle.trial.specs.declared.trying.Success.{Success}

-- a text, the names of its readings, and how many bytes or entries each buffer has
pub record Asked : Type 0 where
  pub text : List ℕ
  pub names : List Name
  pub out : ℕ
  pub first : ℕ
  pub second : ℕ
  pub types : ℕ

abbrev pub asked : List ℕ → List Name → List ℕ → List ℕ → List ℕ → List ℕ → Asked
asked text names out first second types =
    record {
      text = text;
      names = names;
      out = length out;
      first = length first;
      second = length second;
      types =
          length types;
    }

-- the text compiles to this record
abbrev pub Compiles : Asked → List ℕ → Type 0
Compiles a bytes = Verdict a.names a.text a.out (compiled bytes)

-- the record of the text is accepted: as a tree over r readings, with the type answer w
pub record Accepts (a : Asked) (r : ℕ) (t : Tree) (w : List ℕ) : Type 0 where
  pub bytes : List ℕ
  pub compiles : Compiles a bytes
  pub judged : Judgement bytes a.first a.second a.types (accepted r t w)

-- what the result says of the text: refused so, or compiled
abbrev pub TextTold : Asked → Result Success TrialFault → Type 0
TextTold a (Err (Text f)) = Verdict a.names a.text a.out (refused (number_of (Text f)) (place_of (Text f)))
TextTold a (Err (Rule f)) = (bytes : List ℕ) × Compiles a bytes
TextTold a (Err (Run f)) = (bytes : List ℕ) × Compiles a bytes
TextTold a (Ok done) = (bytes : List ℕ) × Compiles a bytes × (done.bytes ≡ length bytes)

-- what the result says of the record that the text compiles to: refused so, or accepted
abbrev pub RuleTold : Asked → List ℕ → Result Success TrialFault → Type 0
RuleTold a bytes (Err (Text f)) = ⊥
RuleTold a bytes (Err (Rule f)) =
    Judgement bytes a.first a.second a.types (rule.refused (number_of (Rule f)) (place_of (Rule f)))
RuleTold a bytes (Err (Run f)) =
    (r : ℕ) × (t : Tree) × (w : List ℕ) × Judgement bytes a.first a.second a.types (accepted r t w)
RuleTold a bytes (Ok done) =
    (r : ℕ) ×
    (t : Tree) ×
    (w : List ℕ) ×
    Judgement bytes a.first a.second a.types (accepted r t w) ×
    (done.entries ≡ length w)

-- The buffer for the record: as it was where the text is refused, else with the record at its front.
abbrev pub RecordLeft : Asked → List ℕ → List ℕ → Result Success TrialFault → Type 0
RecordLeft a before after (Err (Text f)) = after ≡ before
RecordLeft a before after (Err (Rule f)) = (bytes : List ℕ) → Compiles a bytes
    → after ≡ bytes ++ drop (length bytes) before
RecordLeft a before after (Err (Run f)) = (bytes : List ℕ) → Compiles a bytes
    → after ≡ bytes ++ drop (length bytes) before
RecordLeft a before after (Ok done) = (bytes : List ℕ) → Compiles a bytes → after ≡ bytes ++ drop (length bytes) before

-- A work table: as it was where the text is refused, else as accept leaves it.
abbrev pub TableLeft : Asked → List ℕ → List ℕ → Result Success TrialFault → Type 0
TableLeft a before after (Err (Text f)) = after ≡ before
TableLeft a before after (Err (Rule f)) = (bytes : List ℕ) → Compiles a bytes → Wiped bytes (Err f) before after
TableLeft a before after (Err (Run f)) =
    (r : ℕ) (t : Tree) (w : List ℕ) → Accepts a r t w → after ≡ cleared (worked t) before
TableLeft a before after (Ok done) =
    (r : ℕ) (t : Tree) (w : List ℕ) → Accepts a r t w → after ≡ cleared (worked t) before

-- The type buffer: with the type answer at its front where the rule is accepted, else as it was.
abbrev pub TypesLeft : Asked → List ℕ → List ℕ → Result Success TrialFault → Type 0
TypesLeft a before after (Err (Text f)) = after ≡ before
TypesLeft a before after (Err (Rule f)) = after ≡ before
TypesLeft a before after (Err (Run f)) =
    (r : ℕ) (t : Tree) (w : List ℕ) → Accepts a r t w → after ≡ w ++ drop (length w) before
TypesLeft a before after (Ok done) =
    (r : ℕ) (t : Tree) (w : List ℕ) → Accepts a r t w → after ≡ w ++ drop (length w) before

-- The rule place: with the rule where it is accepted, whatever the run refuses, else as it was.
abbrev pub PlaceLeft : Asked → Received → Received → Result Success TrialFault → Type 0
PlaceLeft a before after (Err (Text f)) = after ≡ before
PlaceLeft a before after (Err (Rule f)) = after ≡ before
PlaceLeft a before after (Err (Run f)) = (r : ℕ) (t : Tree) (w : List ℕ) → Accepts a r t w → IsRule after r t
PlaceLeft a before after (Ok done) = (r : ℕ) (t : Tree) (w : List ℕ) → Accepts a r t w → IsRule after r t

-- a text or a record that is refused leaves the store untouched
abbrev pub StoreKept : {S : Type 0} → S → S → Result Success TrialFault → Type 0
StoreKept before after (Err (Text f)) = after ≡ before
StoreKept before after (Err (Rule f)) = after ≡ before
StoreKept before after (Err (Run f)) = Unit {0}
StoreKept before after (Ok done) = Unit {0}
