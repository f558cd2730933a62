-- A token that is an atom by itself is read as one.
use Rattle.std.proofs.Common.{◌≡◌, ℕ, true, false, List, ℤ, Some, None, inr, sym, refl, ap, ◌∙◌, subst}
use Rattle.std.proofs.Common.{Option as Index}
use mathlib.Core.Option.{Option, some, none}
use Rattle.std.specs.Option.{MatchOption, ok_or}
use Rattle.syntax.specs.Tree.{Tree}
use Rattle.syntax.specs.declared.node.Node.{Node}
use Rattle.syntax.specs.declared.node.Node.TheVariants.{Number, Variable}
use Rattle.grammar.specs.declared.Mark.{Mark}
use Rattle.grammar.specs.declared.Mark.TheVariants.{Fun, Let, In, If, Then, Else, True, False, Arrow, Equals, AtMost}
use Rattle.grammar.specs.declared.Mark.TheVariants.{Plus, Open, Close}
use Rattle.grammar.specs.Automaton.{is_end}
use Rattle.grammar.specs.Grammar.{Expr, literal, used}
use Rattle.grammar.specs.Spelling.{fit}
use Rattle.grammar.specs.Walking.{Stand}
use Rattle.grammar.specs.Names.{variable_at, resolved, distance}
use Rattle.grammar.specs.Token.{Name, Token, mark, name, numeral, end}
use Rattle.grammar.proofs.Classes.{Leaf, leaf_true, leaf_false, leaf_number, leaf_name}
use Rattle.lexer.specs.Amounts.{Amount}
use Rattle.book.specs.Books.{Found}
use Rattle.text.specs.declared.fault.CompileFault.{CompileFault}
use Rattle.text.specs.Faults.{number, place}
use Rattle.text.specs.Parsing.{leaf, Single}

found_at : (o : Option ℕ) (t : Tree) → variable_at o ≡ some t → (d : ℕ) × (o ≡ some d)
found_at none t h = cc
found_at (some d) t h = (d, refl)

-- the end is no atom
pub leaf_on : (t : Token) (e : Expr) → leaf t ≡ some e → is_end t ≡ false
leaf_on (mark m) e h = refl
leaf_on (name x) e h = refl
leaf_on (numeral z) e h = refl
leaf_on end e h = cc

module _ (book names : List Name) (s : List ℕ) where
  leaf_mark : (m : Mark) (e : Expr) → leaf (mark m) ≡ some e → Leaf book names s (mark m) e
  leaf_mark Fun e h = cc
  leaf_mark Let e h = cc
  leaf_mark In e h = cc
  leaf_mark If e h = cc
  leaf_mark Then e h = cc
  leaf_mark Else e h = cc
  leaf_mark True e h = subst (Leaf book names s (mark True)) (cc) (leaf_true book names s)
  leaf_mark False e h = subst (Leaf book names s (mark False)) (cc) (leaf_false book names s)
  leaf_mark Arrow e h = cc
  leaf_mark Equals e h = cc
  leaf_mark AtMost e h = cc
  leaf_mark Plus e h = cc
  leaf_mark Open e h = cc
  leaf_mark Close e h = cc

  pub leaf_fits : (t : Token) (e : Expr) (u : Tree) → leaf t ≡ some e → resolved names e ≡ some u
      → Leaf book names s t e
  leaf_fits (mark m) e u h k = leaf_mark m e h
  leaf_fits (name x) e u h k =
      let q : used x ≡ e = cc in
      let d = found_at (distance names x) u (ap (resolved names) q ∙ k) in
      subst (Leaf book names s (name x)) q (leaf_name book names s x d.0 d.1)
  leaf_fits (numeral z) e u h k = subst (Leaf book names s (numeral z)) (cc) (leaf_number book names s z)
  leaf_fits end e u h k = cc

-- the node of a token, by what was found of it
module _ (names : List Name) (p : Stand) where
  -- a number in hand is in range
  pub number_single : (z : ℤ) (P : Type 0) (Q : ℤ → Type 0) (o : Index ℤ) (m : Index Node) (f : CompileFault)
      → p.token ≡ numeral z → fit p.token ≡ true → Amount z o → MatchOption o P Q → ((k : ℤ) → o ≡ Some k → Q k
      → m ≡ Some (Number k)) → Single names p (ok_or m f)
  number_single z P Q None m f e h a c made = absurd (cc)
  number_single z P Q (Some k) m f e h a c made = subst (λ n. Single names p (ok_or n f)) (sym (made k refl c))
      (literal z, Tree.number z, ap leaf e, refl, ap Number a.1)

  pub name_single : (x : Name) (P : Type 0) (Q : ℕ → Type 0) (o : Index ℕ) (m : Index Node) (f : CompileFault)
      → p.token ≡ name x → number f ≡ 57 → place f ≡ p.place → Found names x o → MatchOption o P Q → (P → m ≡ None)
      → ((d : ℕ) → Q d → m ≡ Some (Variable d)) → Single names p (ok_or m f)
  name_single x P Q None m f e n l a c absent made = subst (λ k. Single names p (ok_or k f)) (sym (absent c))
      (inr (n, l, (x, e, a)))
  name_single x P Q (Some d) m f e n l a c absent made = subst (λ k. Single names p (ok_or k f)) (sym (made d c))
      (used x, Tree.variable d, ap leaf e, ap variable_at a, refl)
