-- What compile and accept come to, one after the other. It serves functions inside; what a trial promises does not
-- mention it.
use Rattle.std.specs.Prelude.{◌≡◌, ℕ, List, ◌++◌, length, drop, Ok, Err, Result}
use Rattle.grammar.specs.Token.{Name}
use Rattle.grammar.specs.Verdict.{Verdict, compiled, refused}
use Rattle.record.specs.declared.received.Received.{Received}
use Rattle.text.specs.Faults.{number, place}
use Rattle.syntax.specs.Tree.{Tree}
use Rattle.typing.specs.Accepting.{IsRule, Wiped, cleared}
use Rattle.typing.specs.Faults.{number_of, place_of}
use Rattle.typing.specs.Judging.{Judgement, accepted, worked}
use Rattle.typing.specs.Judging as rule
use Rattle.typing.specs.declared.fault.AcceptFault.{AcceptFault}
use Rattle.trial.specs.declared.fault.TrialFault.{TrialFault}
use Rattle.trial.specs.declared.fault.TrialFault.TheVariants.{Text, Rule, Run}
use Rattle.trial.specs.declared.trying.Success.{Success}
use Rattle.trial.specs.declared.trying.Written.{Written}
use Rattle.run.specs.declared.report.Report.{Report}

-- what is lent: the buffers and the rule place
pub record Lent : Type 0 where
  pub out : List ℕ
  pub first : List ℕ
  pub second : List ℕ
  pub types : List ℕ
  pub place : Received

abbrev pub lent : List ℕ → List ℕ → List ℕ → List ℕ → Received → Lent
lent out first second types rule = record { out = out; first = first; second = second; types = types; place = rule }

-- these bytes were compiled, and stand in the buffer
pub record IsCompiled (s : List ℕ) (book : List Name) (before after : List ℕ) (bytes : List ℕ) : Type 0 where
  pub verdict : Verdict book s (length before) (compiled bytes)
  pub stands : after ≡ bytes ++ drop (length bytes) before

-- what accept makes of these bytes
abbrev pub AcceptedFrom : List ℕ → Lent → Lent → Result ℕ AcceptFault → Type 0
AcceptedFrom bytes before after (Ok n) =
    (r : ℕ) ×
    (t : Tree) ×
    (w : List ℕ) ×
    Judgement bytes (length before.first) (length before.second) (length before.types) (accepted r t w) ×
    IsRule after.place r t ×
    (n ≡ length w) ×
    (after.types ≡ w ++ drop n before.types) ×
    (after.first ≡ cleared (worked t) before.first) ×
    (after.second ≡ cleared (worked t) before.second)
AcceptedFrom bytes before after (Err f) =
    Judgement bytes (length before.first) (length before.second) (length before.types)
    (rule.refused (number_of f) (place_of f)) ×
    (after.place ≡ before.place) ×
    (after.types ≡ before.types) ×
    Wiped bytes (Err f) before.first after.first ×
    Wiped bytes (Err f) before.second after.second

abbrev pub SetUp : List ℕ → List Name → Lent → Lent → Result Written TrialFault → Type 0
SetUp s book before after (Err (Text f)) =
    Verdict book s (length before.out) (refused (number f) (place f)) × (after ≡ before)
SetUp s book before after (Err (Rule f)) =
    (bytes : List ℕ) × IsCompiled s book before.out after.out bytes × AcceptedFrom bytes before after (Err f)
SetUp s book before after (Err (Run f)) = ⊥
SetUp s book before after (Ok written) =
    (bytes : List ℕ) ×
    IsCompiled s book before.out after.out bytes ×
    AcceptedFrom bytes before after (Ok written.entries) ×
    (written.bytes ≡ length bytes)

-- the result of a trial whose run told this
abbrev pub concluded : Written → Result Report TrialFault → Result Success TrialFault
concluded written (Ok report) = Ok (record { bytes = written.bytes; entries = written.entries; report = report })
concluded written (Err f) = Err f
