-- A reader of tokens stands at one token at a time, goes over it, and may be refused. The contracts
-- inside the parser speak of this; nobody has to believe it, since `compile` promises what stands in
-- `Verdict`.
use Rattle.std.specs.Prelude.{◌≡◌, ℕ, ◌<◌, ◌≤◌, Bool, true, false, ◌⊎◌, List, [], ◌∷◌, length, ℤ}
use Rattle.grammar.specs.Token.{Name, Token, mark, name, numeral, end}
use Rattle.grammar.specs.Spelling.{in_range, fit}
use Rattle.grammar.specs.Reading.{part, Next, NoNext}
use Rattle.grammar.specs.Automaton.{State, go, stuck, unknown, is_end, step, run, any, in_force, starts_atom}

-- a token, with its place and where it stops
pub record Stand : Type 0 where
  pub token : Token
  pub place : ℕ
  pub stop : ℕ

-- what is known of the token that a reader stands at
pub record Current (s : List ℕ) (p : Stand) : Type 0 where
  pub forward : p.place ≤ p.stop
  pub inside : p.stop ≤ length s
  pub some_bytes : is_end p.token ≡ false → p.place < p.stop
  pub named : (x : Name) → p.token ≡ name x → x ≡ part s p.place p.stop
  pub in_range : fit p.token ≡ true

-- the next token, in range
abbrev pub Went : List ℕ → Stand → Stand → Type 0
Went s p q = Next s p.stop q.token q.place q.stop × (fit q.token ≡ true)

-- over these tokens, each in range and none the end, from one stand to another
pub data Passes (s : List ℕ) : Stand → List Token → Stand → Type 0 where
  here : {p : Stand} → Passes s p [] p
  over : {p q r : Stand} {ts : List Token} → is_end p.token ≡ false → Went s p q → Passes s q ts r
      → Passes s p (p.token ∷ ts) r

-- the next token after a stop is refused for what it is: no token (52), or a number out of range (54)
pub data Unread (s : List ℕ) (stop : ℕ) : ℕ → ℕ → Type 0 where
  no_token : {q : ℕ} → NoNext s stop q → Unread s stop 52 q
  no_range : {q n : ℕ} {z : ℤ} → Next s stop (numeral z) q n → in_range z ≡ false → Unread s stop 54 q

-- over some tokens from one stand to another
abbrev pub Through : List ℕ → Stand → Stand → Type 0
Through s p q = (ts : List Token) × Passes s p ts q

-- from a stand and a state to a stand and a state
abbrev pub Reached : List Name → List ℕ → Stand → State → Stand → State → Type 0
Reached book s p a q b = (ts : List Token) × Passes s p ts q × (run in_force book a ts ≡ go b)

-- The token of a stand is refused in a state, or the one after it is refused for what it is. The
-- numbers: 55 where no sentence goes on, 57 where a name is not in force.
pub data Wrong (book : List Name) (s : List ℕ) (p : Stand) (a : State) : ℕ → ℕ → Type 0 where
  unread : {n q : ℕ} {a' : State} → is_end p.token ≡ false → step in_force book a p.token ≡ go a'
      → Unread s p.stop n q → Wrong book s p a n q
  no_sentence : step in_force book a p.token ≡ stuck → Wrong book s p a 55 p.place
  no_name : {a' : State} → step in_force book a p.token ≡ unknown → step any book a p.token ≡ go a'
      → Wrong book s p a 57 p.place

-- going on from a stand in a state, a reader is refused with this number at this place
abbrev pub Refuses : List Name → List ℕ → Stand → State → ℕ → ℕ → Type 0
Refuses book s p a n place = (ts : List Token) × (q : Stand) × (a' : State) × Passes s p ts q
    × (run in_force book a ts ≡ go a') × Wrong book s q a' n place

-- here only an atom may begin
abbrev pub Expects : List Name → State → Token → Type 0
Expects book a t = starts_atom t ≡ false → step in_force book a t ≡ stuck

-- a mark or a name was asked for: another token stands here (55), or what comes after it is refused
abbrev pub Missed : (Token → Bool) → List ℕ → Stand → ℕ → ℕ → Type 0
Missed asked s p n q = ((asked p.token ≡ false) × (n ≡ 55) × (q ≡ p.place))
    ⊎ ((asked p.token ≡ true) × Unread s p.stop n q)

abbrev pub is_name : Token → Bool
is_name (mark m) = false
is_name (name x) = true
is_name (numeral z) = false
is_name end = false
