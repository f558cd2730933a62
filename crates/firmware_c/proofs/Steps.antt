-- What the walks of the exports share: a test is decided before it is made, and a pointer that is not null leads into a
-- block.
use Rattle.std.proofs.Common.{◌≡◌, ◌||◌, Bool, true, false, List, refl}
use seplogic.Ra.Ura.{Ura}
use lib.Dec.{T}
use mathlib.Core.Bool.{not}
use types.Logic.{Logic}
use types.Kit.{Item, Goal, Seq}
use denote.RawPtr.{Ptr, block_ptr, null_ptr, block_of, count_of}
use Rattle.firmware_c.specs.Lent.{is_null}

pub both_ways : (b : Bool) → T b → T (not b) → ⊥
both_ways true t f = f
both_ways false t f = t

pub first_false : (a b : Bool) → T (not (a || b)) → T (not a)
first_false true b t = t
first_false false b t = tt

pub second_false : (a b : Bool) → T (not (a || b)) → T (not b)
second_false true b t = absurd t
second_false false b t = t

pub in_block_where : (p : Ptr) → T (not (is_null p)) → p ≡ block_ptr (block_of p) (count_of p)
in_block_where (block_ptr b o) t = refl
in_block_where null_ptr t = absurd t

module _ {M : Type 1} {𝓤 : Ura M} {𝓛 : Logic 𝓤} {K : Type 0} {Γ : List (Item 𝓤)} {G : Goal 𝓤 𝓛.H} where
  pub by_test : K → (b : Bool) → (T b → Seq K 𝓛 Γ G) → (T (not b) → Seq K 𝓛 Γ G) → Seq K 𝓛 Γ G
  by_test t true k l = k tt
  by_test t false k l = l tt
