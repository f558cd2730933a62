-- What the hashes of names tell.
use Rattle.std.proofs.Common.{◌≡◌, ◌≢◌, ℕ, Bool, true, false, nat_eq, sym, refl, ap, ◌∙◌, rules, ne_eqb}
use Rattle.std.proofs.lemmas.Slice.Eq.{compares_Decides}
use Rattle.grammar.specs.Names.{same}
use Rattle.grammar.specs.Token.{Name}
use Rattle.text.specs.Spellings.{hash_of}

-- names with other hashes are others
pub other_hash : (x y : Name) (m n : ℕ) → m ≡ hash_of x → n ≡ hash_of y → m ≢ n → nat_eq m n ≡ same x y
other_hash x y m n e f apart = by (same x y) refl
  where
    by : (b : Bool) → same x y ≡ b → nat_eq m n ≡ b
    by false h = ne_eqb m n apart
    by true h = absurd (apart (e ∙ ap hash_of ((compares_Decides same (search rules) x y).0 h) ∙ sym f))
