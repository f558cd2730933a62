-- What a book says of a name.
use Rattle.std.proofs.Common.{◌≡◌, ℕ, ◌+◌, ◌<◌, ◌≤◌, Bool, true, false, ◌&&◌, ltb, leb, List, [], ◌∷◌, ◌++◌, map}
use Rattle.std.proofs.Common.{length, take, set, is_some, Some, None, Option, refl, ap, ◌∙◌, arith}
use lib.ListN.{length-map}
use Rattle.std.proofs.lemmas.List.{take_more_set, map_push}
use Rattle.grammar.specs.Spelling.{token}
use Rattle.grammar.specs.Names.{distance}
use Rattle.grammar.specs.Token as plain
use Rattle.lexer.specs.Shown.{named}
use Rattle.book.specs.Books.{names, absent, takes, Found}
use Rattle.book.specs.Spelled.{spelled}
use Rattle.book.specs.declared.book.Book.{Book}
use Rattle.book.specs.declared.name.Name.{Name}

-- a book has at most eight
pub names_few : (book : Book) → length (names book) ≤ 8
names_few book = let count = length-map book.names.items spelled in omega (arith, book.few)

-- ── which names a book takes ──

and_false : (b : Bool) → b && false ≡ false
and_false true = refl
and_false false = refl

-- none of more than 32 bytes
pub takes_long : (xs : List plain.Name) (x : plain.Name) → leb (length x) 32 ≡ false → takes xs x ≡ false
takes_long xs x h = ap (λ b. named (token x) && (b && (ltb (length xs) 8 && absent (distance xs x)))) h
    ∙ and_false (named (token x))

-- a new one of at most 32 bytes, while there are fewer than 8
pub takes_new : (xs : List plain.Name) (x : plain.Name) (r : Option ℕ) → named (token x) ≡ true
    → leb (length x) 32 ≡ true → ltb (length xs) 8 ≡ true → Found xs x r → is_some r ≡ false → takes xs x ≡ true
takes_new xs x (Some d) a b c h k = absurd (let w : ◌≡◌ {A = ℕ} 0 1 = cc in omega arith)
takes_new xs x None a b c h k = rw (a, b, c, h)

-- one name more at the end
pub names_more : (ns : List Name) (n : ℕ) (x : Name) → n < length ns
    → map spelled (take (n + 1) (set ns n x)) ≡ map spelled (take n ns) ++ spelled x ∷ []
names_more ns n x h = ap (map spelled) (take_more_set ns n x h) ∙ map_push spelled (take n ns) x
