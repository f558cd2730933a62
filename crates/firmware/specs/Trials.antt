-- What a trial leaves of places and buffers, and what it replies.
use Rattle.std.specs.Prelude.{◌≡◌, ℕ, ℤ, List, IfOk, Ok, Err, Result}
use Rattle.syntax.specs.Tree.{Tree}
use Rattle.grammar.specs.Token.{Name}
use Rattle.store.specs.Lists.{Lists}
use Rattle.values.specs.declared.Value.{Value}
use Rattle.record.specs.declared.received.Received.{Received}
use Rattle.machine.specs.Reducing.{room_of}
use Rattle.trial.specs.declared.fault.TrialFault.{TrialFault}
use Rattle.trial.specs.declared.trying.Success.{Success}
use Rattle.trial.specs.Running.{run_answer, run_end, RunAnswers, RunLeaves, Tells}
use Rattle.trial.specs.Trying.{Asked, asked, Accepts, Compiles, TextTold, RuleTold, RecordLeft, TableLeft, TypesLeft, PlaceLeft, StoreKept}
use Rattle.firmware.specs.declared.reply.Reply.{Reply}
use Rattle.firmware.specs.declared.report.Told.{Told}
use Rattle.firmware.specs.declared.trying.Trial.{Trial}
use Rattle.firmware.specs.declared.run_place.RunPlace.{RunPlace}
use Rattle.firmware.specs.declared.run_place.RunPlace.TheVariants.{Closed, Open}
use Rattle.firmware.specs.declared.fault.CallFault.TheVariants as call
use Rattle.firmware.specs.Replies.{done, misused, refused}
use Rattle.firmware.specs.Reports.{plain, no_run}

-- the buffers of a trial: for the record, the two work tables, and for the type answer
pub record Buffers : Type 0 where
  pub out : List ℕ
  pub first : List ℕ
  pub second : List ℕ
  pub types : List ℕ

abbrev pub buffers : List ℕ → List ℕ → List ℕ → List ℕ → Buffers
buffers out first second types = record { out = out; first = first; second = second; types = types }

abbrev pub asks : List ℕ → List Name → Buffers → Asked
asks text names b = asked text names b.out b.first b.second b.types

-- what the trial of the library promises of a text, of its record, of the run, of the buffers, the rule and the store
pub record Tries {S : Type 0} (lists : S → Lists Value) (whole room : S → ℕ) (cost : S → ℕ → ℕ) (a : Asked)
    (before after : Buffers) (rule rule' : Received) (store store' : S) (readings : List ℤ) (steps : ℕ)
    (result : Result Success TrialFault) : Type 0 where
  pub text : TextTold a result
  pub record_told : (bytes : List ℕ) → Compiles a bytes → RuleTold a bytes result
  pub run : (r : ℕ) (t : Tree) (w : List ℕ) → Accepts a r t w →
      RunAnswers (run_answer (room_of (whole store) (cost store)) r t readings steps) result
  pub report : (r : ℕ) (t : Tree) (w : List ℕ) → Accepts a r t w →
      IfOk result (λ done. Tells done.report (run_end (room_of (whole store) (cost store)) r t readings steps))
  pub out_left : RecordLeft a before.out after.out result
  pub first_left : TableLeft a before.first after.first result
  pub second_left : TableLeft a before.second after.second result
  pub types_left : TypesLeft a before.types after.types result
  pub rule_left : PlaceLeft a rule rule' result
  pub store_kept : StoreKept store store' result
  pub store_left : (r : ℕ) (t : Tree) (w : List ℕ) → Accepts a r t w →
      RunLeaves (room_of (whole store) (cost store)) r t rule'.nodes.items readings steps (room store') (lists store')
  pub whole_kept : whole store' ≡ whole store
  pub cost_kept : cost store' ≡ cost store

-- a trial that was refused
abbrev pub no_trial : Reply → Trial
no_trial reply = record { reply = reply; bytes = 0; entries = 0; report = no_run }

-- of what a trial comes to
abbrev pub tried : Result Success TrialFault → Trial
tried (Ok success) = record { reply = done 0; bytes = success.bytes; entries = success.entries; report = plain success.report }
tried (Err f) = no_trial (refused f)

-- A trial over a run place in which no run is open; where one is, all stays.
abbrev pub TrialLeft : {S : Type 0} (lists : S → Lists Value) (whole room : S → ℕ) (cost : S → ℕ → ℕ)
    → List ℕ → List Name → Buffers → Buffers → RunPlace S → Received → List ℤ → ℕ → RunPlace S → Received → Trial → Type 0
TrialLeft {S} lists whole room cost text names before after (Closed store) rule readings steps place' rule' trial =
    (store' : S) ×
    (result : Result Success TrialFault) ×
    (place' ≡ Closed store') ×
    Tries lists whole room cost (asks text names before) before after rule rule' store store' readings steps result ×
    (trial ≡ tried result)
TrialLeft lists whole room cost text names before after (Open run) rule readings steps place' rule' trial =
    (place' ≡ Open run) × (rule' ≡ rule) × (after ≡ before) × (trial ≡ no_trial (misused call.Open))
