-- The number, the place and the layer of each refusal, case by case.
use Rattle.std.specs.Prelude.{ℕ}
use Rattle.lexer.specs.declared.fault.LexFault.TheVariants.{NoToken, OutOfRange}
use Rattle.text.specs.declared.fault.CompileFault.TheVariants.{TooLong, Lex, Unexpected, Unknown, TooManyNodes, NoRoom}
use Rattle.record.specs.declared.fault.RecordFault.TheVariants as received
use Rattle.typing.specs.declared.fault.AcceptFault.TheVariants.{Record, ShortTable, NoType, LongType}
use Rattle.run.specs.declared.fault.RunFault.TheVariants.{WrongCount, NotWaiting, WrongSteps}
use Rattle.trial.specs.declared.fault.Layer.{Layer}
use Rattle.trial.specs.declared.fault.Layer.TheVariants as layer
use Rattle.trial.specs.declared.fault.TrialFault.{TrialFault}
use Rattle.trial.specs.declared.fault.TrialFault.TheVariants.{Text, Rule, Run}

abbrev pub number_of : TrialFault → ℕ
number_of (Text TooLong) = 51
number_of (Text (Lex (NoToken place))) = 52
number_of (Text (Lex (OutOfRange place))) = 54
number_of (Text (Unexpected place)) = 55
number_of (Text (Unknown place)) = 57
number_of (Text TooManyNodes) = 58
number_of (Text NoRoom) = 59
number_of (Rule (Record received.Length)) = 1
number_of (Rule (Record received.Version)) = 2
number_of (Rule (Record received.Readings)) = 3
number_of (Rule (Record (received.NoNode place))) = 4
number_of (Rule (Record (received.TooManyNodes place))) = 5
number_of (Rule (Record (received.UnknownKind place))) = 6
number_of (Rule (Record (received.CutShort place))) = 7
number_of (Rule (Record (received.Unbound place))) = 8
number_of (Rule (Record (received.Spare place))) = 9
number_of (Rule ShortTable) = 10
number_of (Rule (NoType node)) = 11
number_of (Rule LongType) = 12
number_of (Run (WrongCount wanted given)) = 20
number_of (Run NotWaiting) = 21
number_of (Run (WrongSteps most)) = 22

-- a byte of the text, a byte of the record, or a node; 0 where the refusal is of the whole, and for 20 to 22
abbrev pub place_of : TrialFault → ℕ
place_of (Text TooLong) = 0
place_of (Text (Lex (NoToken place))) = place
place_of (Text (Lex (OutOfRange place))) = place
place_of (Text (Unexpected place)) = place
place_of (Text (Unknown place)) = place
place_of (Text TooManyNodes) = 0
place_of (Text NoRoom) = 0
place_of (Rule (Record received.Length)) = 0
place_of (Rule (Record received.Version)) = 2
place_of (Rule (Record received.Readings)) = 3
place_of (Rule (Record (received.NoNode place))) = place
place_of (Rule (Record (received.TooManyNodes place))) = place
place_of (Rule (Record (received.UnknownKind place))) = place
place_of (Rule (Record (received.CutShort place))) = place
place_of (Rule (Record (received.Unbound place))) = place
place_of (Rule (Record (received.Spare place))) = place
place_of (Rule ShortTable) = 0
place_of (Rule (NoType node)) = node
place_of (Rule LongType) = 0
place_of (Run (WrongCount wanted given)) = 0
place_of (Run NotWaiting) = 0
place_of (Run (WrongSteps most)) = 0

abbrev pub layer_of : TrialFault → Layer
layer_of (Text fault) = layer.Text
layer_of (Rule fault) = layer.Rule
layer_of (Run fault) = layer.Run
