-- What becomes of a text: the one record, or the one refusal.
use Rattle.std.specs.Prelude.{◌≡◌, ℕ, ◌<◌, ◌≤◌, true, false, List, [], ◌∷◌, ◌++◌, length, ℤ}
use Rattle.std.proofs.Math.Option.{some}
use Rattle.syntax.specs.Tree.{Tree, nodes}
use Rattle.syntax.specs.Record.{record_of}
use Rattle.grammar.specs.Token.{Name, Token, name, numeral, end}
use Rattle.grammar.specs.Spelling.{in_range, fit}
use Rattle.grammar.specs.Reading.{Next, NoNext}
use Rattle.grammar.specs.Grammar.{Expr}
use Rattle.grammar.specs.Names.{resolved}
use Rattle.grammar.specs.Automaton.{is_end}
use Rattle.grammar.specs.Sentence.{Sentence, Begins, BeginsBound}

-- the first tokens of a text, all in range and none the end, and where the last of them stops
pub data Front (s : List ℕ) : List Token → ℕ → Type 0 where
  none_yet : Front s [] 0
  and_next : {ts : List Token} {to place stop : ℕ} {t : Token} → Front s ts to → Next s to t place stop → fit t ≡ true
      → is_end t ≡ false → Front s (ts ++ t ∷ []) stop

-- the first tokens of a text, and no question about them got a no
pub record Sofar (book : List Name) (s : List ℕ) (ts : List Token) (to : ℕ) : Type 0 where
  pub short : length s ≤ 4096
  pub front : Front s ts to
  pub begins : BeginsBound book ts

-- the tree that a text stands for: its tokens, and then the end, are a sentence whose used names are all in force
pub record Means (book : List Name) (s : List ℕ) (t : Tree) : Type 0 where
  pub tokens : List Token
  pub to : ℕ
  pub sofar : Sofar book s tokens to
  pub expr : Expr
  pub place : ℕ
  pub stop : ℕ
  pub ends : Next s to end place stop
  pub sentence : Sentence (tokens ++ end ∷ []) expr
  pub resolves : resolved book expr ≡ some t

pub data Outcome : Type 0 where
  refused : ℕ → ℕ → Outcome
  compiled : List ℕ → Outcome

-- The questions in their order: 51 once; 52, 54, 55 and 57 for each token; 58 and 59 last. `room` is the size of the
-- output buffer.
pub data Verdict (book : List Name) (s : List ℕ) (room : ℕ) : Outcome → Type 0 where
  too_long : 4096 < length s → Verdict book s room (refused 51 0)
  no_token : {ts : List Token} {to place : ℕ} → Sofar book s ts to → NoNext s to place
      → Verdict book s room (refused 52 place)
  out_of_range : {ts : List Token} {to place stop : ℕ} {z : ℤ} → Sofar book s ts to → Next s to (numeral z) place stop
      → in_range z ≡ false → Verdict book s room (refused 54 place)
  unexpected : {ts : List Token} {to place stop : ℕ} {t : Token} → Sofar book s ts to → Next s to t place stop
      → fit t ≡ true → ¬ Begins (ts ++ t ∷ []) → Verdict book s room (refused 55 place)
  unknown : {ts : List Token} {to place stop : ℕ} {x : Name} → Sofar book s ts to → Next s to (name x) place stop
      → Begins (ts ++ name x ∷ []) → ¬ BeginsBound book (ts ++ name x ∷ []) → Verdict book s room (refused 57 place)
  too_many_nodes : {t : Tree} → Means book s t → 512 < nodes t → Verdict book s room (refused 58 0)
  no_room : {t : Tree} → Means book s t → nodes t ≤ 512 → room < length (record_of (length book) t)
      → Verdict book s room (refused 59 0)
  a_record : {t : Tree} → Means book s t → nodes t ≤ 512 → length (record_of (length book) t) ≤ room
      → Verdict book s room (compiled (record_of (length book) t))
