-- What was asked of a run since it was started.
use Rattle.std.specs.Prelude.{ℕ, ◌+◌, ℤ, List, [], ◌∷◌, map, replicate, pos}
use Rattle.law.specs.declared.turn.Call.{Call}
use Rattle.law.specs.declared.turn.Call.TheVariants.{Grant, Ask, Rewind}
use Rattle.law.specs.declared.turn.Reply.{Reply}
use Rattle.law.specs.declared.turn.Reply.TheVariants.{Done, Told, Refused}
use Rattle.law.specs.declared.turn.Turn.{Turn}

abbrev pub calls_of : List Turn → List Call
calls_of turns = map (λ turn. turn.call) turns

-- the readings that the run was started or rewound with, and its allowed grants since then added up
pub record Since : Type 0 where
  pub readings : List ℤ
  pub granted : ℕ

-- just started: all r readings are 0
abbrev pub started : ℕ → Since
started r = record { readings = replicate r (pos 0); granted = 0 }

-- An allowed grant adds its steps, an allowed rewind begins anew with its readings; nothing else adds anything.
abbrev pub after_call : Since → Call → Reply → Since
after_call s (Grant n) Done = record { readings = s.readings; granted = s.granted + n }
after_call s (Grant n) (Told report) = s
after_call s (Grant n) (Refused fault) = s
after_call s Ask Done = s
after_call s Ask (Told report) = s
after_call s Ask (Refused fault) = s
after_call s (Rewind readings) Done = record { readings = readings.now; granted = 0 }
after_call s (Rewind readings) (Told report) = s
after_call s (Rewind readings) (Refused fault) = s

abbrev pub since : Since → List Turn → Since
since s [] = s
since s (turn ∷ turns) = since (after_call s turn.call turn.reply) turns
