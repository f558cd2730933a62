-- What reading one class of the grammar comes to, whatever is open around it.
use Rattle.std.specs.Prelude.{◌≡◌, ℕ, ◌≤◌, List}
use Rattle.std.proofs.Math.Option.{Option, some, none}
use Rattle.grammar.specs.Token.{Name}
use Rattle.grammar.specs.Grammar.{Expr}
use Rattle.grammar.specs.Automaton.{Frame, State, operand, applied, summed, start, close, scope, step, in_force}
use Rattle.grammar.specs.Walking.{Stand, Through, Reached, Refuses, Expects}

-- book: the readings' names; names: all names in force; from p to q the class with tree e is read
module _ (book names : List Name) (s : List ℕ) (p q : Stand) (e : Expr) where
  abbrev pub ReadAtom : Type 0
  ReadAtom = Through s p q × (p.stop ≤ q.place) × ((cl sl ap : Option Expr) (k : List Frame) → scope book k ≡ names
      → Reached book s p (operand cl sl ap k) q (operand cl sl (some (applied ap e)) k))

  abbrev pub ReadApp : Type 0
  ReadApp = Through s p q × ((cl sl : Option Expr) (k : List Frame) → scope book k ≡ names
      → Reached book s p (operand cl sl none k) q (operand cl sl (some e) k))

  abbrev pub ReadSum : Type 0
  ReadSum = Through s p q × ((cl : Option Expr) (k : List Frame) → scope book k ≡ names → (sl : Option Expr)
      × (f : Expr) × Reached book s p (operand cl none none k) q (operand cl sl (some f) k) × (summed sl f ≡ e))

  -- an expression ends at a token that is not part of it
  abbrev pub ReadExpr : Type 0
  ReadExpr = Through s p q × ((k : List Frame) → scope book k ≡ names → (a : State) × Reached book s p (start k) q a
      × (step in_force book a q.token ≡ close q.token e k))

-- from p on, reading the class is refused with number n at a place
module _ (book names : List Name) (s : List ℕ) (p : Stand) (n place : ℕ) where
  abbrev pub RefusedAtom : Type 0
  RefusedAtom = (cl sl ap : Option Expr) (k : List Frame) → scope book k ≡ names
      → Expects book (operand cl sl ap k) p.token → Refuses book s p (operand cl sl ap k) n place

  abbrev pub RefusedApp : Type 0
  RefusedApp = (cl sl : Option Expr) (k : List Frame) → scope book k ≡ names
      → Expects book (operand cl sl none k) p.token → Refuses book s p (operand cl sl none k) n place

  abbrev pub RefusedSum : Type 0
  RefusedSum = (cl : Option Expr) (k : List Frame) → scope book k ≡ names
      → Expects book (operand cl none none k) p.token → Refuses book s p (operand cl none none k) n place

  abbrev pub RefusedCmp : Type 0
  RefusedCmp = (k : List Frame) → scope book k ≡ names → Expects book (start k) p.token
      → Refuses book s p (start k) n place

  abbrev pub RefusedExpr : Type 0
  RefusedExpr = (k : List Frame) → scope book k ≡ names → Refuses book s p (start k) n place
