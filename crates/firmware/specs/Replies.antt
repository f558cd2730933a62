-- What a call replies, in plain numbers.
use Rattle.std.specs.Prelude.{◌≡◌, ◌++◌, ℕ, List, length, take, drop, Ok, Err, Result, IfOk, IfErr, OnErr}
use Rattle.syntax.specs.Buffers.{OnlyFront}
use Rattle.grammar.specs.Token.{Name}
use Rattle.grammar.specs.Verdict as text
use Rattle.grammar.specs.Verdict.{Verdict}
use Rattle.book.specs.declared.fault.NameFault.{NameFault}
use Rattle.book.specs.Books.{Added}
use Rattle.text.specs.declared.fault.CompileFault.{CompileFault}
use Rattle.text.specs.Faults.{number, place}
use Rattle.record.specs.declared.received.Received.{Received}
use Rattle.typing.specs.declared.fault.AcceptFault.{AcceptFault}
use Rattle.typing.specs.Accepting.{Accepts, Wiped}
use Rattle.typing.specs.Faults as typing
use Rattle.typing.specs.Judging as judging
use Rattle.typing.specs.Judging.{Judgement}
use Rattle.run.specs.declared.fault.RunFault.{RunFault}
use Rattle.trial.specs.declared.fault.Layer.{Layer}
use Rattle.trial.specs.declared.fault.Layer.TheVariants as layer
use Rattle.trial.specs.declared.fault.TrialFault.{TrialFault}
use Rattle.trial.specs.declared.fault.TrialFault.TheVariants.{Text, Rule, Run}
use Rattle.trial.specs.Faults as trial
use Rattle.firmware.specs.declared.fault.CallFault.{CallFault}
use Rattle.firmware.specs.declared.fault.CallFault.TheVariants.{NullPointer, Closed, Open}
use Rattle.firmware.specs.declared.reply.Reply.{Reply}

-- 41: a pointer is null; 42: no run is open in the run place; 43: one is
abbrev pub number_of : CallFault → ℕ
number_of NullPointer = 41
number_of Closed = 42
number_of Open = 43

-- the numbers of the layers; 4 stands for a call that does not fit
abbrev pub code_of : Layer → ℕ
code_of layer.Text = 1
code_of layer.Rule = 2
code_of layer.Run = 3

-- the call is done, and answers with a count
abbrev pub done : ℕ → Reply
done n = record { refusal = 0; layer = 0; place = 0; count = n }

-- the library refuses: with its number, its layer and its place
abbrev pub refused : TrialFault → Reply
refused f = record { refusal = trial.number_of f; layer = code_of (trial.layer_of f); place = trial.place_of f; count = 0 }

-- the call does not fit
abbrev pub misused : CallFault → Reply
misused f = record { refusal = number_of f; layer = 4; place = 0; count = 0 }

-- the book does not take the name: 53, of the text, at place 0
abbrev pub unnamed : Reply
unnamed = record { refusal = 53; layer = code_of layer.Text; place = 0; count = 0 }

-- of what a run answers to rewind and to grant
abbrev pub replied : Result (Unit {0}) RunFault → Reply
replied (Ok _) = done 0
replied (Err f) = refused (Run f)

-- of what accept answers: the count of entries of the type answer, or the refusal
abbrev pub accept_reply : Result ℕ AcceptFault → Reply
accept_reply (Ok n) = done n
accept_reply (Err f) = refused (Rule f)

-- what accept answers, and what it leaves of the rule, the type buffer and the work tables
pub record Accepted (s first second types : List ℕ) (rule : Received) (first' second' types' : List ℕ) (rule' : Received)
    (answer : Result ℕ AcceptFault) : Type 0 where
  pub ok : IfOk answer (λ n. Accepts s (length first) (length second) (length types) (take n types') rule')
  pub err :
      IfErr answer (λ f. Judgement s (length first) (length second) (length types)
      (judging.refused (typing.number_of f) (typing.place_of f)))
  pub kept : OnErr answer (rule' ≡ rule)
  pub front : OnlyFront types types' answer
  pub tables : Wiped s answer first first' × Wiped s answer second second'

-- the record was accepted or refused, the buffers and the rule are as accept leaves them, and the reply says so
abbrev pub AcceptReplied : List ℕ → List ℕ → List ℕ → List ℕ → Received → List ℕ → List ℕ → List ℕ → Received → Reply → Type 0
AcceptReplied s first second types rule first' second' types' rule' reply =
    (answer : Result ℕ AcceptFault) ×
    Accepted s first second types rule first' second' types' rule' answer ×
    (reply ≡ accept_reply answer)

-- of what a book answers
abbrev pub name_reply : Result (Unit {0}) NameFault → Reply
name_reply (Ok _) = done 0
name_reply (Err f) = unnamed

-- the name was taken or refused, and the reply says so
abbrev pub NameReplied : List Name → List Name → Name → Reply → Type 0
NameReplied names names' name reply =
    (answer : Result (Unit {0}) NameFault) × Added names names' name answer × (reply ≡ name_reply answer)

-- of what compile answers: the record's count of bytes, or the refusal
abbrev pub compile_reply : Result ℕ CompileFault → Reply
compile_reply (Ok n) = done n
compile_reply (Err f) = refused (Text f)

-- what compile answers, and what it leaves of the buffer
pub record Compiled (s : List ℕ) (names : List Name) (before after : List ℕ) (answer : Result ℕ CompileFault) : Type 0 where
  pub ok : IfOk answer (λ n. Verdict names s (length before) (text.compiled (take n after)))
  pub err : IfErr answer (λ f. Verdict names s (length before) (text.refused (number f) (place f)))
  pub front : OnlyFront before after answer

-- the text was compiled or refused, the buffer is as compile leaves it, and the reply says so
abbrev pub CompileReplied : List ℕ → List Name → List ℕ → List ℕ → Reply → Type 0
CompileReplied s names before after reply =
    (answer : Result ℕ CompileFault) × Compiled s names before after answer × (reply ≡ compile_reply answer)

-- a text of n bytes stands at the front of the buffer, as much of it as has room
abbrev pub Copied : List ℕ → List ℕ → ℕ → Type 0
Copied before after n =
    (text : List ℕ) × (n ≡ length text) × (after ≡ take (length before) text ++ drop n before)
