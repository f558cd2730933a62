-- From a tree in the table to the verdict on the text.
use Rattle.std.specs.Prelude.{IfOk, IfErr}
use Rattle.std.proofs.Common.{◌≡◌, ℕ, ◌+◌, ◌%◌, ◌<◌, ◌≤◌, List, [], ◌∷◌, ◌++◌, length, take, drop, map, reverse, Ok}
use Rattle.std.proofs.Common.{Err, Result, sym, refl, true, ap, ◌∙◌, subst, ⊎_elim, arith}
use Rattle.syntax.specs.Tree.{Tree, nodes}
use Rattle.syntax.specs.Record.{encode, two_bytes, record_of}
use Rattle.syntax.specs.Buffers.{OnlyFront}
use Rattle.syntax.proofs.Buffers.{front_is, only_front}
use Rattle.grammar.specs.Token.{Name}
use Rattle.grammar.specs.Verdict as verdict
use Rattle.grammar.specs.Verdict.{Means, Verdict, refused, compiled}
use Rattle.text.specs.declared.fault.CompileFault.{CompileFault}
use Rattle.text.specs.declared.fault.CompileFault.TheVariants.{TooManyNodes, NoRoom}
use Rattle.nodes.specs.declared.table.Table.{Table}
use Rattle.text.specs.declared.scope.Scope.{Scope}
use Rattle.text.specs.Compiling.{Held, Recorded}
use Rattle.text.specs.Faults.{number, place}
use Rattle.nodes.specs.Nodes.{Grown}
use Rattle.book.specs.Books.{names}
use Rattle.book.specs.declared.book.Book.{Book}
use Rattle.grammar.specs.Automaton.{is_end}
use Rattle.grammar.proofs.Verdicts.{means}
use Rattle.text.specs.Parsing.{source, at, nowhere, Began, ReadsExpr}
use Rattle.text.specs.declared.parser.Parser.{Parser}
use Rattle.text.specs.Scopes.{spelled, open_names}
use Rattle.text.specs.Writing.{written}

-- a table that began empty
pub grown_held : (t₀ table : Table) (t : Tree) (root : ℕ) → (t₀.nodes.items ≡ []) × (t₀.bytes ≡ 0)
    → Grown t₀ table t root → Held table t root
grown_held t₀ table t root z g = record {
  counted = omega (arith, g.counted, ap length z.0);
  wide = λ h. omega (arith, g.wider h, z.1);
  inside = g.inside;
  holds = g.holds;
}

pub none_open : (scope : Scope) → scope.names.items ≡ [] → open_names scope ≡ []
none_open scope e = ap (λ l. map spelled (reverse l)) e

-- a record is four bytes longer than its tree
pub record_length : (readings : ℕ) (t : Tree) → length (record_of readings t) ≡ 4 + length (encode t)
record_length readings t = omega arith

-- the bytes that were written are the record
pub record_bytes : (readings n : ℕ) (t : Tree) (out : List ℕ) → readings ≤ 8 → n ≡ length (encode t)
    → written out 0 (((two_bytes (2 + n) ++ 1 ∷ []) ++ (readings % 256) ∷ []) ++ encode t)
    ≡ record_of readings t ++ drop (4 + n) out
record_bytes readings n t out few e =
    let same : readings % 256 ≡ readings = omega arith in
    let all : 0 + length (record_of readings t) ≡ 4 + n = omega (arith, e) in
    ap (λ m. written out 0 (((two_bytes (2 + m) ++ 1 ∷ []) ++ (readings % 256) ∷ []) ++ encode t)) e
    ∙ ap (λ k. written out 0 (((two_bytes (2 + length (encode t)) ++ 1 ∷ []) ++ k ∷ []) ++ encode t)) same
    ∙ ap (λ m. record_of readings t ++ drop m out) all

-- The verdict on the text, with its number and place. A record stands at the front of the buffer, and behind it what
-- was
-- there; a refusal leaves the buffer.
abbrev pub Compiled : List ℕ → List Name → List ℕ → List ℕ → Result ℕ CompileFault → Type 0
Compiled s book before after (Ok n) = (bytes : List ℕ) × Verdict book s (length before) (compiled bytes)
    × (n ≡ length bytes) × (after ≡ bytes ++ drop n before)
Compiled s book before after (Err f) = Verdict book s (length before) (refused (number f) (place f)) × (after ≡ before)

module _ (s : List ℕ) (book : List Name) (before after : List ℕ) where
  pub compiled_ok : (r : Result ℕ CompileFault) → Compiled s book before after r
      → IfOk r (λ count. Verdict book s (length before) (compiled (take count after)))
  compiled_ok (Ok n) (bytes, v, e, a) = subst (λ w. Verdict book s (length before) (compiled w))
      (sym (front_is bytes before after n e a)) v
  compiled_ok (Err f) c = tt

  pub compiled_err : (r : Result ℕ CompileFault) → Compiled s book before after r
      → IfErr r (λ f. Verdict book s (length before) (refused (number f) (place f)))
  compiled_err (Ok n) c = tt
  compiled_err (Err f) c = c.0

  pub compiled_buffer : (r : Result ℕ CompileFault) → Compiled s book before after r → OnlyFront before after r
  compiled_buffer (Ok n) (bytes, v, e, a) = only_front bytes before after n e a CompileFault
  compiled_buffer (Err f) c = c.1

-- what the record came to, as the verdict
pub recorded_verdict : (s : List ℕ) (book : List Name) (readings : ℕ) (t : Tree) (before after : List ℕ)
    (r : Result ℕ CompileFault) → readings ≡ length book → Means book s t → Recorded readings t before after r
    → Compiled s book before after r
recorded_verdict s book readings t before after (Ok n) e m x =
    let y = subst (λ k. Recorded k t before after (Ok n)) e x in
    (record_of (length book) t, verdict.a_record m y.0 y.1, y.2, y.3)
recorded_verdict s book readings t before after (Err f) e m x =
    let y = subst (λ k. Recorded k t before after (Err f)) e x in (
      ⊎_elim
          (λ (h : (f ≡ TooManyNodes) × (512 < nodes t)). subst (λ g. Verdict book s (length before)
          (refused (number g) (place g))) (sym h.0) (verdict.too_many_nodes m h.1))
          (λ (h : (f ≡ NoRoom) × (nodes t ≤ 512) × (length before < length (record_of (length book) t))).
          subst (λ g. Verdict book s (length before) (refused (number g) (place g))) (sym h.0)
          (verdict.no_room m h.1 h.2))
          y.1,
      y.0,
    )

-- an expression that was read to the end of the text, and its record
pub read_told : (s : List ℕ) (book : Book) (q r : Parser) (scope : Scope) (root readings : ℕ) (before after : List ℕ)
    (answer : Result ℕ CompileFault) →
    length s ≤ 4096 →
    Began s book (Ok q) →
    scope.names.items ≡ [] →
    ReadsExpr (source q) (open_names scope) q r (Ok root) →
    is_end (at r).token ≡ true →
    readings ≡ length (names book) →
    ((t : Tree) → Held r.table t root → Recorded readings t before after answer) →
    Compiled s (names book) before after answer
read_told s book q r scope root readings before after answer short began empty reads ends few recorded =
    let B = names book in
    let b = subst (λ o. ReadsExpr (record { text = s; book = B }) o q r (Ok root)) (none_open scope empty)
    (subst (λ k. ReadsExpr k (open_names scope) q r (Ok root)) began.1 reads) in
    let m = means B s short (length before) nowhere (at q) (at r) b.0 b.1 refl began.0 b.2 ends b.3 in
    let held = grown_held q.table r.table b.1 root (began.2, began.3) b.4 in
    recorded_verdict s B readings b.1 before after answer few m (recorded b.1 held)
