-- What stays known from one call of the parser to the next.
use Rattle.std.proofs.Common.{◌≡◌, ℕ, ◌<◌, ◌≤◌, true, false, List, length, min, Ok, sym, refl, ap, subst, true≢false}
use Rattle.std.proofs.Common.{arith}
use Rattle.grammar.specs.Automaton.{is_end, starts_atom}
use Rattle.grammar.specs.Token.{Token, mark, name, numeral, end}
use Rattle.grammar.specs.Walking.{Stand, Current, Went, Through}
use Rattle.grammar.specs.Reading.{Next}
use Rattle.lexer.specs.Shown.{shown, Lexes}
use Rattle.lexer.specs.declared.token.Placed.{Placed}
use Rattle.grammar.proofs.Walking.{went_current, through_current}
use Rattle.text.specs.declared.parser.Parser.{Parser}
use Rattle.text.specs.Standing.{stand}
use Rattle.text.specs.Parsing.{Source, source, at}

-- the lexer's next token, as one that was gone to
pub went : (s : List ℕ) (p : Stand) (next : Placed) → p.stop ≤ length s → Lexes s (min p.stop (length s)) (Ok next)
    → Went s p (stand next)
went s p next le h = let e : min p.stop (length s) ≡ p.stop = omega arith
    in (subst (λ n. Next s n (shown next.token) next.place next.stop) e h.0, h.1)

-- a token that is not the end takes at least a byte
pub further : (src : Source) (p q : Parser) → is_end (at p).token ≡ false → Went src.text (at p) (at q)
    → p.current.place < q.current.place
further src p q e w = omega (arith, p.in_hand.some_bytes e, (went_current src.text (at p) (at q) w).1)

module _ (src : Source) (p : Parser) (own : source p ≡ src) where
  held : Current src.text (at p)
  held = subst (λ k. Current k.text (at p)) own p.in_hand

  pub not_back : (q : Parser) → Through src.text (at p) (at q) → p.current.place ≤ q.current.place
  not_back q t = (through_current src.text (at p) (at q) t held).1

  -- the place lies in the text
  pub lies : (length p.text.now ≡ length src.text) × (p.current.place ≤ length src.text)
  lies = let e = ap (λ k. length k.text) own in (e, omega (arith, e, p.in_hand.forward, p.in_hand.inside))

-- ── tokens that are not the end ──

pub atom_on : (t : Token) → starts_atom t ≡ true → is_end t ≡ false
atom_on (mark n) h = refl
atom_on (name x) h = refl
atom_on (numeral z) h = refl
atom_on end h = absurd (true≢false (sym h))

-- an atom that is there takes at least a byte
pub atom_further : (p q : Parser) → starts_atom (at p).token ≡ true → p.current.stop ≤ q.current.place
    → p.current.place < q.current.place
atom_further p q h le = omega (arith, p.in_hand.some_bytes (atom_on (at p).token h), le)
