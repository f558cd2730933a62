-- From what the parser came to, the verdict; and that a text has only one.
use Rattle.std.proofs.Common.{◌≡◌, ℕ, ◌≤◌, true, false, cond, List, [], ◌∷◌, ◌++◌, length, sym, refl, ap, ◌∙◌, subst}
use Rattle.std.proofs.Common.{true≢false, append_assoc, append-nil}
use mathlib.Core.Option.{some}
use Rattle.syntax.specs.Tree.{Tree}
use Rattle.grammar.specs.Token.{Name, Token, mark, name, numeral, end}
use Rattle.grammar.specs.Spelling.{fit}
use Rattle.grammar.specs.Reading.{Next}
use Rattle.grammar.specs.Grammar.{Expr}
use Rattle.grammar.specs.Names.{resolved}
use Rattle.grammar.specs.Automaton.{State, accepted, go, stuck, is_end, start, run, in_force}
use Rattle.grammar.specs.Walking.{Stand, Went, Passes, here, over, Unread, no_token, no_range, Wrong, unread}
use Rattle.grammar.specs.Walking.{no_sentence, no_name}
use Rattle.grammar.specs.Classes.{ReadExpr, RefusedExpr}
use Rattle.grammar.specs.Sentence.{Begins, BeginsBound}
use Rattle.grammar.specs.Verdict as verdict
use Rattle.grammar.specs.Verdict.{Front, none_yet, and_next, Sofar, Means, Outcome, refused, Verdict}
use Rattle.grammar.proofs.Completeness.{run_snoc}
use Rattle.grammar.proofs.Judging.{begins_bound, unknown_name, stuck_begins, goes_begins, unknown_begins}
use Rattle.grammar.proofs.Judging.{accepted_sentence}

end_is : (t : Token) → is_end t ≡ true → t ≡ end
end_is (mark m) h = absurd (true≢false (sym h))
end_is (name x) h = absurd (true≢false (sym h))
end_is (numeral z) h = absurd (true≢false (sym h))
end_is end h = refl

-- ── the front of a text ──

-- what stands before a stand, whose own token is the next one
pub record Before (s : List ℕ) (ts : List Token) (p : Stand) : Type 0 where
  pub to : ℕ
  pub front : Front s ts to
  pub next : Next s to p.token p.place p.stop
  pub in_range : fit p.token ≡ true

before_passes : (s : List ℕ) {p q : Stand} {us : List Token} (ts : List Token) → Passes s p us q → Before s ts p
    → Before s (ts ++ us) q
before_passes s {p} ts here b = subst (λ l. Before s l p) (sym (append-nil ts)) b
before_passes s ts (over {p} {q} {r} {ts = us} o w ps) b =
    subst (λ l. Before s l r) (append_assoc ts (p.token ∷ []) us)
    (before_passes s (ts ++ p.token ∷ []) ps
    (record { to = p.stop; front = and_next b.front b.next b.in_range o; next = w.0; in_range = w.1 }))

module _ (book : List Name) (s : List ℕ) (short : length s ≤ 4096) (room : ℕ) where
  sofar : (ts : List Token) (to : ℕ) (a : State) → Front s ts to → run in_force book (start []) ts ≡ go a
      → Sofar book s ts to
  sofar ts to a f h = record { short = short; front = f; begins = begins_bound book ts a h }

  unread_verdict : (ts : List Token) (to : ℕ) (n place : ℕ) → Sofar book s ts to → Unread s to n place
      → Verdict book s room (refused n place)
  unread_verdict ts to n place f (no_token x) = verdict.no_token f x
  unread_verdict ts to n place f (no_range x y) = verdict.out_of_range f x y

  wrong_verdict : (ts : List Token) (p : Stand) (a : State) (n place : ℕ) → Before s ts p
      → run in_force book (start []) ts ≡ go a → Wrong book s p a n place → Verdict book s room (refused n place)
  wrong_verdict ts p a n place b h (unread {a' = a'} o x u) =
      unread_verdict (ts ++ p.token ∷ []) p.stop n place (sofar (ts ++ p.token ∷ []) p.stop a'
      (and_next b.front b.next b.in_range o) (run_snoc in_force book (start []) ts p.token h ∙ x)) u
  wrong_verdict ts p a n place b h (no_sentence x) = verdict.unexpected (sofar ts b.to a b.front h) b.next b.in_range
      (stuck_begins book ts a p.token h x)
  wrong_verdict ts p a n place b h (no_name {a'} x y) =
      let it = unknown_name book a p.token a' x y in
      verdict.unknown (sofar ts b.to a b.front h) (subst (λ t. Next s b.to t p.place p.stop) it.1 b.next)
      (subst (λ t. Begins (ts ++ t ∷ [])) it.1 (goes_begins book ts a a' p.token h y))
      (subst (λ t. BeginsBound book (ts ++ t ∷ []) → ⊥) it.1 (unknown_begins book ts a p.token h x))

  pub first_unread : (n place : ℕ) → Unread s 0 n place → Verdict book s room (refused n place)
  first_unread n place u = unread_verdict [] 0 n place (sofar [] 0 (start []) none_yet refl) u

  first : (p q : Stand) → p.stop ≡ 0 → Went s p q → Before s [] q
  first p q e w = record {
    to = 0;
    front = none_yet;
    next = subst (λ i. Next s i q.token q.place q.stop) e w.0;
    in_range = w.1;
  }

  pub refused_verdict : (p q : Stand) (n place : ℕ) → p.stop ≡ 0 → Went s p q → RefusedExpr book book s q n place
      → Verdict book s room (refused n place)
  refused_verdict p q n place e w x =
      let y = x [] refl in
      wrong_verdict y.0 y.1 y.2 n place (before_passes s [] y.3 (first p q e w)) y.4 y.5

  -- an expression that is not followed by the end
  pub rest_verdict : (p q r : Stand) (e : Expr) → p.stop ≡ 0 → Went s p q → ReadExpr book book s q r e
      → is_end r.token ≡ false → Verdict book s room (refused 55 r.place)
  rest_verdict p q r e z w x h =
      let y = x.1 [] refl in
      wrong_verdict y.1.0 r y.0 55 r.place (before_passes s [] y.1.1 (first p q z w)) y.1.2
      (no_sentence (y.2 ∙ ap (λ b. cond b (go (accepted e)) stuck) h))

  pub means : (p q r : Stand) (e : Expr) (t : Tree) → p.stop ≡ 0 → Went s p q → ReadExpr book book s q r e
      → is_end r.token ≡ true → resolved book e ≡ some t → Means book s t
  means p q r e t z w x h m =
      let y = x.1 [] refl in
      let b = before_passes s [] y.1.1 (first p q z w) in
      let ts = y.1.0 in
      let it : r.token ≡ end = end_is r.token h in
      let done : run in_force book (start []) (ts ++ end ∷ []) ≡ go (accepted e) =
      ap (λ x. run in_force book (start []) (ts ++ x ∷ [])) (sym it)
      ∙ run_snoc in_force book (start []) ts r.token y.1.2 ∙ y.2 ∙ ap (λ c. cond c (go (accepted e)) stuck) h in
      record {
        tokens = ts;
        to = b.to;
        sofar = sofar ts b.to y.0 b.front y.1.2;
        expr = e;
        place = r.place;
        stop = r.stop;
        ends = subst (λ x. Next s b.to x r.place r.stop) it b.next;
        sentence = accepted_sentence book (ts ++ end ∷ []) e done;
        resolves = m;
      }
