-- Whether bytes are a name.
use Rattle.std.proofs.Common.{◌≡◌, ℕ, ◌-◌, ◌<◌, Bool, true, false, ◌&&◌, eqb, List, length, take, Ok, Err, Result}
use Rattle.std.proofs.Common.{sym, refl, ap, ◌∙◌, arith}
use Rattle.std.specs.Result.{MatchResult}
use Rattle.std.proofs.lemmas.Bool.{eqb-true}
use Rattle.std.proofs.lemmas.Bool.Decides.{nat_tests}
use mathlib.Core.Option.{some, none}
use Rattle.std.proofs.lemmas.List.{take_all}
use Rattle.grammar.specs.Spelling.{token}
use Rattle.grammar.specs.Reading.{part, Longest, NoneBeyond}
use Rattle.grammar.specs.Token as plain
use Rattle.grammar.specs.Walking.{is_name}
use Rattle.lexer.specs.declared.fault.LexFault.{LexFault}
use Rattle.lexer.specs.declared.token.Placed.{Placed}
use Rattle.lexer.specs.Shown.{shown, named, TokenAt}

part_whole : (s : List ℕ) → part s 0 (length s) ≡ s
part_whole s = let e : length s - 0 ≡ length s = omega arith in ap (λ n. take n s) e
    ∙ take_all (length s) s (omega arith)

-- the longest token of a name is all of it
token_whole : (s : List ℕ) (stop : ℕ) (t : plain.Token) → Longest s 0 stop t → stop ≡ length s → token s ≡ some t
token_whole s stop t l e = ap token (sym (part_whole s) ∙ ap (part s 0) (sym e)) ∙ l.spells

token_short : (s : List ℕ) (stop : ℕ) → NoneBeyond s 0 stop → stop < length s → token s ≡ none
token_short s stop b h = ap token (sym (part_whole s)) ∙ b (length s) h (omega arith)

-- whether the token at the front, if there is one, is a name and all of the bytes
pub all_name : (s : List ℕ) (r : Result Placed LexFault) (answer : Bool) {Asked : Placed → Type 0} → 0 < length s
    → TokenAt s 0 r → MatchResult r Asked (λ _. answer ≡ false)
    → ((p : Placed) → Asked p → answer ≡ (eqb p.stop (length s) && is_name (shown p.token))) → answer ≡ named (token s)
all_name s (Ok p) answer more at asked is = is p asked ∙ by (eqb p.stop (length s)) refl
  where
    by : (b : Bool) → eqb p.stop (length s) ≡ b → b && is_name (shown p.token) ≡ named (token s)
    by true e = ap named (sym (token_whole s p.stop (shown p.token) at.1 (eqb-true _ _ e)))
    by false e = ap named (sym (token_short s p.stop at.1.longest (let l = at.1.inside in grind (arith, nat_tests))))
all_name s (Err f) answer more at refused is = refused ∙ ap named (sym (token_short s 0 at.1 more))
