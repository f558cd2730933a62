-- What is told of a text.
use Rattle.std.specs.Prelude.{ℕ, List, Ok, Err, Result, Vec}
use Rattle.grammar.specs.Token.{Name}
use Rattle.grammar.specs.Verdict.{Verdict, refused, compiled}
use Rattle.text.specs.declared.fault.CompileFault.{CompileFault}
use Rattle.text.specs.Faults.{number, place}

-- its record, or why it is refused: the verdict on it, where a record may have so many bytes
abbrev pub Told : {A : Type 0} → List ℕ → List Name → ℕ → Result (Vec ℕ A) CompileFault → Type 0
Told s book room (Ok bytes) = Verdict book s room (compiled bytes.items)
Told s book room (Err f) = Verdict book s room (refused (number f) (place f))
