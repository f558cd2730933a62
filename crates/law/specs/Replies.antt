-- Which reply is due to each call.
use Rattle.std.specs.Prelude.{◌≡◌, ℕ, List, [], ◌∷◌, length, Ok, Err}
use Rattle.syntax.specs.Tree.{Tree}
use Rattle.reckoning.specs.Room.{Room}
use Rattle.reckoning.specs.Reckoning.{Reckoned, reckoned, state}
use Rattle.run.specs.Told.{state_of}
use Rattle.run.specs.Faults.{rewind_answer, grant_answer}
use Rattle.law.specs.declared.turn.Call.{Call}
use Rattle.law.specs.declared.turn.Call.TheVariants.{Grant, Ask, Rewind}
use Rattle.law.specs.declared.turn.Reply.{Reply}
use Rattle.law.specs.declared.turn.Reply.TheVariants.{Done, Told, Refused}
use Rattle.law.specs.declared.turn.Turn.{Turn}
use Rattle.law.specs.Turns.{Since, after_call}

-- The reply to a call of a run of a rule with r readings, where s is reckoned right before the call.
abbrev pub IsReply : ℕ → Reckoned → Call → Reply → Type 0
IsReply r s (Grant n) Done = grant_answer (state s) s.count n ≡ Ok tt
IsReply r s (Grant n) (Told report) = ⊥
IsReply r s (Grant n) (Refused fault) = grant_answer (state s) s.count n ≡ Err fault
IsReply r s Ask Done = ⊥
IsReply r s Ask (Told report) = (state_of report.state ≡ state s) × (report.count ≡ s.count)
IsReply r s Ask (Refused fault) = ⊥
IsReply r s (Rewind readings) Done = rewind_answer r (length readings.now) ≡ Ok tt
IsReply r s (Rewind readings) (Told report) = ⊥
IsReply r s (Rewind readings) (Refused fault) = rewind_answer r (length readings.now) ≡ Err fault

-- each of the calls got the reply that was due, from there on
abbrev pub Replied : Room → ℕ → Tree → Since → List Turn → Type 0
Replied room r t now [] = Unit {0}
Replied room r t now (turn ∷ turns) =
    IsReply r (reckoned room now.readings t now.granted) turn.call turn.reply ×
    Replied room r t (after_call now turn.call turn.reply) turns
