-- Bytes at their places.
use Rattle.std.proofs.Common.{◌≡◌, ℕ, ◌+◌, ◌≤◌, List, [], ◌∷◌, ◌++◌, length, get_or, take, drop, sym, ap, ◌∙◌, subst}
use Rattle.std.proofs.Common.{append_assoc, add-zero, arith, length-append}
use Rattle.std.proofs.lemmas.List.{drop_more, drop_all, get_or-append-add}
use Rattle.record.specs.Bytes.{Stands}

-- the last of them is still inside
pub stands_inside : (s : List ℕ) (p : ℕ) (w : List ℕ) → Stands s p w → p + length w ≤ length s
stands_inside s p [] h = rw add-zero h
stands_inside s p (x ∷ w) h = let e : p + length (x ∷ w) ≡ (p + 1) + length w = omega arith in
    subst (λ n. n ≤ length s) (sym e) (stands_inside s (p + 1) w h.2)

-- two parts, one behind the other
pub stands_split : (s : List ℕ) (p : ℕ) (v w : List ℕ) → Stands s p (v ++ w) → Stands s p v × Stands s (p + length v) w
stands_split s p [] w h = (let i = stands_inside s p w h in omega arith, rw add-zero h)
stands_split s p (x ∷ v) w h =
    let r = stands_split s (p + 1) v w h.2 in
    let e : (p + 1) + length v ≡ p + length (x ∷ v) = omega arith in
    ((h.0, h.1, r.0), subst (λ n. Stands s n w) e r.1)

pub stands_join : (s : List ℕ) (p : ℕ) (v w : List ℕ) → Stands s p v → Stands s (p + length v) w → Stands s p (v ++ w)
stands_join s p [] w h k = rw add-zero at k
stands_join s p (x ∷ v) w h k =
    let e : p + length (x ∷ v) ≡ (p + 1) + length v = omega arith in
    (h.0, h.1, stands_join s (p + 1) v w h.2 (subst (λ n. Stands s n w) e k))

-- what stands from p up to the end is all that is left there
pub stands_rest : (s : List ℕ) (p : ℕ) (w : List ℕ) → Stands s p w → length s ≤ p + length w → drop p s ≡ w
stands_rest s p [] h e = drop_all p s (let z : length s ≤ p = omega arith in z)
stands_rest s p (x ∷ w) h e = drop_more s p 0 h.0 ∙ ap (λ y. y ∷ drop (p + 1) s) h.1
    ∙ ap (λ v. x ∷ v) (stands_rest s (p + 1) w h.2 (omega arith))

-- a list stands where it was put
pub stands_behind : (v w : List ℕ) → Stands (v ++ w) (length v) w
stands_behind v [] = omega (arith, length-append v [])
stands_behind v (x ∷ w) =
    let long = length-append v (x ∷ w) in
    let first : get_or (v ++ (x ∷ w)) (length v) 0 ≡ x = ap (λ n. get_or (v ++ (x ∷ w)) n 0)
    (sym (add-zero (length v))) ∙ get_or-append-add v (x ∷ w) 0 0 in
    let e : (v ++ (x ∷ [])) ++ w ≡ v ++ (x ∷ w) = append_assoc v (x ∷ []) w in
    let n : length (v ++ (x ∷ [])) ≡ length v + 1 = length-append v (x ∷ []) in
    let rest : Stands (v ++ (x ∷ w)) (length v + 1) w = subst (λ l. Stands l (length v + 1) w) e
    (subst (λ k. Stands ((v ++ (x ∷ [])) ++ w) k w) n (stands_behind (v ++ (x ∷ [])) w)) in
    (omega arith, first, rest)

-- four bytes from a place on
pub four_there : (s : List ℕ) (p : ℕ) → p + 4 ≤ length s → take 4 (drop p s) ≡ get_or s p 0 ∷ get_or s
    (p + 1) 0 ∷ get_or s (p + 1 + 1) 0 ∷ get_or s (p + 1 + 1 + 1) 0 ∷ []
four_there s p inside =
    ap (take 4)
    (drop_more s p 0 (omega arith) ∙ ap (λ l. get_or s p 0 ∷ l)
    (drop_more s (p + 1) 0 (omega arith) ∙ ap (λ l. get_or s (p + 1) 0 ∷ l)
    (drop_more s (p + 1 + 1) 0 (omega arith) ∙ ap (λ l. get_or s (p + 1 + 1) 0 ∷ l)
    (drop_more s (p + 1 + 1 + 1) 0 (omega arith)))))
