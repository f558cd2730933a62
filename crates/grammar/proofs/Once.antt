-- A text has one verdict.
use Rattle.std.proofs.Common.{◌≡◌, ℕ, ◌+◌, ◌<◌, ◌≤◌, Bool, true, false, ◌||◌, eqb, ◌⊎◌, List, [], ◌∷◌, ◌++◌, length}
use Rattle.std.proofs.Common.{get_or, ℤ, sym, refl, ap, ◌∙◌, subst, inl, inr, ⊎_elim, true≢false, append_assoc}
use Rattle.std.proofs.Common.{append-nil, arith, eqb-true}
use mathlib.Core.Option.{some, none}
use Rattle.std.proofs.lemmas.List.{same_from_push}
use Rattle.std.proofs.str.Laws.{order}
use Rattle.syntax.specs.Tree.{Tree, nodes}
use Rattle.syntax.specs.Record.{record_of}
use Rattle.grammar.specs.Token.{Name, Token, numeral, end}
use Rattle.grammar.specs.Spelling.{blank, token, in_range, fit}
use Rattle.grammar.specs.Reading.{part, Blanks, Longest, Next, NoNext}
use Rattle.grammar.specs.Grammar.{Expr}
use Rattle.grammar.specs.Names.{resolved}
use Rattle.grammar.specs.Automaton.{is_end}
use Rattle.grammar.specs.Sentence.{Sentence, Begins, BeginsBound}
use Rattle.grammar.specs.Verdict.{Front, none_yet, and_next, Sofar, Means, Outcome, refused, compiled, Verdict}
use Rattle.grammar.specs.Verdict.{too_long, no_token, out_of_range, unexpected, unknown, too_many_nodes, no_room}
use Rattle.grammar.specs.Verdict.{a_record}
use Rattle.grammar.proofs.Judging.{one_tree}
use Rattle.grammar.proofs.Lexing.{part_cons}

none_not_some : (t : Token) → none ≡ some t → ⊥
none_not_some t h = let z : ◌≡◌ {A = ℕ} 0 1 = cc in omega arith

-- ── no token begins with a blank ──

blank_token : (c : ℕ) (cs : List ℕ) → blank c ≡ true → token (c ∷ cs) ≡ none
blank_token c cs h = by₁ (eqb c 32) refl
  where
    at : (d : ℕ) → c ≡ d → token (d ∷ cs) ≡ none → token (c ∷ cs) ≡ none
    at d e n = ap (λ x. token (x ∷ cs)) e ∙ n

    by₄ : (b : Bool) → eqb c 13 ≡ b → eqb c 32 ≡ false → eqb c 9 ≡ false → eqb c 10 ≡ false → token (c ∷ cs) ≡ none
    by₄ true e x y z = at 13 (eqb-true c 13 e) refl
    by₄ false e x y z = absurd (true≢false (sym h ∙ ap (λ b. b || (eqb c 9 || (eqb c 10 || eqb c 13))) x
        ∙ ap (λ b. b || (eqb c 10 || eqb c 13)) y ∙ ap (λ b. b || eqb c 13) z ∙ e))

    by₃ : (b : Bool) → eqb c 10 ≡ b → eqb c 32 ≡ false → eqb c 9 ≡ false → token (c ∷ cs) ≡ none
    by₃ true e x y = at 10 (eqb-true c 10 e) refl
    by₃ false e x y = by₄ (eqb c 13) refl x y e

    by₂ : (b : Bool) → eqb c 9 ≡ b → eqb c 32 ≡ false → token (c ∷ cs) ≡ none
    by₂ true e x = at 9 (eqb-true c 9 e) refl
    by₂ false e x = by₃ (eqb c 10) refl x e

    by₁ : (b : Bool) → eqb c 32 ≡ b → token (c ∷ cs) ≡ none
    by₁ true e = at 32 (eqb-true c 32 e) refl
    by₁ false e = by₂ (eqb c 9) refl e

module _ (s : List ℕ) where
  longest_no_blank : (place stop : ℕ) (t : Token) → Longest s place stop t → blank (get_or s place 0) ≡ true → ⊥
  longest_no_blank place stop t l h =
      none_not_some t (sym (blank_token (get_or s place 0) (part s (place + 1) stop) h)
      ∙ ap token (sym (part_cons s place stop l.some_bytes l.inside)) ∙ l.spells)

  -- where a token stands, and where it stops
  abbrev Stops : ℕ → Type 0
  Stops place = (place ≡ length s) ⊎ ((place < length s) × (blank (get_or s place 0) ≡ true → ⊥))

  same_place : (from p q : ℕ) → Blanks s from p → Blanks s from q → Stops p → Stops q → p ≡ q
  same_place from p q a b x y =
      ⊎_elim
      (λ (lt : p < q). absurd (⊎_elim (λ (e : p ≡ length s). omega (arith, b.1))
      (λ (z : (p < length s) × (blank (get_or s p 0) ≡ true → ⊥)). z.1 (b.2 p a.0 lt)) x))
      (λ (le : q ≤ p). ⊎_elim
      (λ (lt : q < p). absurd (⊎_elim (λ (e : q ≡ length s). omega (arith, a.1))
      (λ (z : (q < length s) × (blank (get_or s q 0) ≡ true → ⊥)). z.1 (a.2 q b.0 lt)) y))
      (λ (ge : p ≤ q). omega arith)
      (order q p))
      (order p q)

  next_stops : (from place stop : ℕ) (t : Token) → Next s from t place stop → Stops place
  next_stops from place stop t n =
      ⊎_elim (λ (e : (t ≡ end) × (place ≡ length s) × (stop ≡ place)). inl e.1) (λ (l : Longest s place stop t).
      inr (omega (arith, l.some_bytes, l.inside), longest_no_blank place stop t l)) n.1

  no_next_stops : (from place : ℕ) → NoNext s from place → Stops place
  no_next_stops from place n = inr (n.1, λ h. true≢false (sym h ∙ n.2))

  -- the longest token at a place is one
  same_stop : (place p q : ℕ) (t u : Token) → Longest s place p t → Longest s place q u → p ≡ q
  same_stop place p q t u a b =
      ⊎_elim
      (λ (lt : p < q). absurd (none_not_some u (sym (a.longest q lt b.inside) ∙ b.spells)))
      (λ (le : q ≤ p). ⊎_elim (λ (lt : q < p). absurd (none_not_some t (sym (b.longest p lt a.inside) ∙ a.spells)))
      (λ (ge : p ≤ q). omega arith) (order q p))
      (order p q)

  same_some : (t u : Token) → some t ≡ some u → t ≡ u
  same_some t u h = cc

  pub record Same (p q : ℕ) (t : Token) (p' q' : ℕ) (t' : Token) : Type 0 where
    pub places : p ≡ p'
    pub stops : q ≡ q'
    pub tokens : t ≡ t'

  same_next : (from p q p' q' : ℕ) (t t' : Token) → Next s from t p q → Next s from t' p' q' → Same p q t p' q' t'
  same_next from p q p' q' t t' a b =
      let e = same_place from p p' a.0 b.0 (next_stops from p q t a) (next_stops from p' q' t' b) in
      ⊎_elim
      (λ (x : (t ≡ end) × (p ≡ length s) × (q ≡ p)). ⊎_elim
      (λ (y : (t' ≡ end) × (p' ≡ length s) × (q' ≡ p')).
      let r : Same p q t p' q' t' = record { places = e; stops = omega (arith, x.2, y.2); tokens = x.0 ∙ sym y.0 }
      in r)
      (λ (y : Longest s p' q' t'). absurd (omega (arith, x.1, y.some_bytes, y.inside)))
      b.1)
      (λ (x : Longest s p q t). ⊎_elim
      (λ (y : (t' ≡ end) × (p' ≡ length s) × (q' ≡ p')). absurd (omega (arith, y.1, x.some_bytes, x.inside)))
      (λ (y : Longest s p' q' t').
      let z = subst (λ i. Longest s i q' t') (sym e) y in
      let f = same_stop p q q' t t' x z in
      let r : Same p q t p' q' t' = record {
        places = e;
        stops = f;
        tokens = same_some t t' (sym x.spells
            ∙ ap (λ i. token (part s p i)) f ∙ z.spells);
      } in r)
      b.1)
      a.1

  no_both : (from p q p' : ℕ) (t : Token) → Next s from t p q → NoNext s from p' → ⊥
  no_both from p q p' t a b =
      let e = same_place from p p' a.0 b.0 (next_stops from p q t a) (no_next_stops from p' b) in
      ⊎_elim
      (λ (x : (t ≡ end) × (p ≡ length s) × (q ≡ p)). omega (arith, x.1, b.1))
      (λ (x : Longest s p q t). none_not_some t
      (sym (subst (λ i. (n : ℕ) → i < n → n ≤ length s → token (part s i n) ≡ none) (sym e) b.3 q x.some_bytes
      x.inside) ∙ x.spells))
      a.1

  -- ── one front goes on to the other ──

  data Onward : List Token → ℕ → List Token → ℕ → Type 0 where
    same : {ts : List Token} {to : ℕ} → Onward ts to ts to
    on : {ts us : List Token} {to to' place stop : ℕ} {t : Token} → Next s to t place stop → fit t ≡ true
        → is_end t ≡ false → Onward (ts ++ t ∷ []) stop us to' → Onward ts to us to'

  onward_snoc : {ts us : List Token} {to to' place stop : ℕ} {t : Token} → Onward ts to us to'
      → Next s to' t place stop → fit t ≡ true → is_end t ≡ false → Onward ts to (us ++ t ∷ []) stop
  onward_snoc same n f e = on n f e same
  onward_snoc (on m g h o) n f e = on m g h (onward_snoc o n f e)

  from_start : {ts : List Token} {to : ℕ} → Front s ts to → Onward [] 0 ts to
  from_start none_yet = same
  from_start (and_next f n g e) = onward_snoc (from_start f) n g e

  -- a step from where the other stops
  step_or : {ts us : List Token} {to to' place stop : ℕ} {t : Token} → Onward us to' ts to → Next s to' t place stop
      → fit t ≡ true → is_end t ≡ false → Onward ts to (us ++ t ∷ []) stop ⊎ Onward (us ++ t ∷ []) stop ts to
  step_or same n f e = inl (on n f e same)
  step_or {ts} {us} {to} {to'} {place} {stop} {t} (on {place = p} {stop = q} {t = u} m g h o) n f e =
      let r = same_next to' p q place stop u t m n in
      inr (subst (λ x. Onward (us ++ x ∷ []) stop ts to) r.tokens (subst (λ x. Onward (us ++ u ∷ []) x ts to) r.stops
      o))

  compare : {ts us : List Token} {to to' : ℕ} → Front s ts to → Front s us to' → Onward ts to us to'
      ⊎ Onward us to' ts to
  compare f none_yet = inr (from_start f)
  compare f (and_next g n h e) = ⊎_elim (λ o. inl (onward_snoc o n h e)) (λ o. step_or o n h e) (compare f g)

  -- the tokens of the further front begin with those of the other
  onward_prefix : {ts us : List Token} {to to' : ℕ} → Onward ts to us to' → (rest : List Token) × (us ≡ ts ++ rest)
  onward_prefix {ts} same = ([], sym (append-nil ts))
  onward_prefix {ts} (on {t = t} n f e o) = let r = onward_prefix o in (t ∷ r.0, r.1 ∙ append_assoc ts (t ∷ []) r.0)

  module _ (book : List Name) where
    begins_front : (ts us : List Token) → BeginsBound book (ts ++ us) → BeginsBound book ts
    begins_front ts us b = (us ++ b.0, b.1, b.2, subst (λ l. Sentence l b.1) (append_assoc ts us b.0) b.3, b.4)

    bound_begins : (ts : List Token) → BeginsBound book ts → Begins ts
    bound_begins ts b = (b.0, b.1, b.3)

    -- a front that has been judged, and the next token
    pub record Beyond (ts : List Token) (to : ℕ) : Type 0 where
      pub place : ℕ
      pub stop : ℕ
      pub token : Token
      pub next : Next s to token place stop
      pub fits : fit token ≡ true
      pub bound : BeginsBound book (ts ++ token ∷ [])

    -- if another front goes on, the next token passed every question
    beyond : {ts us : List Token} {to to' : ℕ} → Onward ts to us to' → BeginsBound book us → ((ts ≡ us) × (to ≡ to'))
        ⊎ Beyond ts to
    beyond same b = inl (refl, refl)
    beyond {ts} (on {place = p} {stop = q} {t = t} n f e o) b =
        let r = onward_prefix o in
        inr (record {
          place = p;
          stop = q;
          token = t;
          next = n;
          fits = f;
          bound = begins_front (ts ++ t ∷ []) r.0
              (subst (BeginsBound book) r.1 b);
        })

    -- what refuses the token that comes next, and what a sentence has there
    pub data Ends (ts : List Token) (to : ℕ) : ℕ → ℕ → Type 0 where
      ends_52 : {place : ℕ} → NoNext s to place → Ends ts to 52 place
      ends_54 : {place stop : ℕ} {z : ℤ} → Next s to (numeral z) place stop → in_range z ≡ false → Ends ts to 54 place
      ends_55 : {place stop : ℕ} {t : Token} → Next s to t place stop → fit t ≡ true → ¬ Begins (ts ++ t ∷ [])
          → Ends ts to 55 place
      ends_57 : {place stop : ℕ} {t : Token} → Next s to t place stop → fit t ≡ true → Begins (ts ++ t ∷ [])
          → ¬ BeginsBound book (ts ++ t ∷ []) → Ends ts to 57 place

    beyond_ends : (ts : List Token) (to n place : ℕ) → Beyond ts to → Ends ts to n place → ⊥
    beyond_ends ts to n place b (ends_52 x) = no_both to b.place b.stop place b.token b.next x
    beyond_ends ts to n place b (ends_54 {stop = q} {z = z} x y) =
        let r = same_next to b.place b.stop place q b.token (numeral z) b.next x in
        true≢false (sym b.fits ∙ ap fit r.tokens ∙ y)
    beyond_ends ts to n place b (ends_55 {stop = q} {t = t} x y w) =
        let r = same_next to b.place b.stop place q b.token t b.next x in
        w (subst (λ u. Begins (ts ++ u ∷ [])) r.tokens (bound_begins (ts ++ b.token ∷ []) b.bound))
    beyond_ends ts to n place b (ends_57 {stop = q} {t = t} x y v w) =
        let r = same_next to b.place b.stop place q b.token t b.next x in
        w (subst (λ u. BeginsBound book (ts ++ u ∷ [])) r.tokens b.bound)

    -- at one front, one refusal
    abbrev Told : ℕ → ℕ → ℕ → ℕ → Type 0
    Told n p m q = (n ≡ m) × (p ≡ q)

    ends_once : (ts : List Token) (to n p m q : ℕ) → Ends ts to n p → Ends ts to m q → Told n p m q
    ends_once ts to n p m q (ends_52 x) (ends_52 y) = (
      refl,
      same_place to p q x.0 y.0 (no_next_stops to p x)
          (no_next_stops to q y),
    )
    ends_once ts to n p m q (ends_52 x) (ends_54 {stop = b} {z = z} y w) = absurd (no_both to q b p (numeral z) y x)
    ends_once ts to n p m q (ends_52 x) (ends_55 {stop = b} {t = t} y w v) = absurd (no_both to q b p t y x)
    ends_once ts to n p m q (ends_52 x) (ends_57 {stop = b} {t = t} y w v u) = absurd (no_both to q b p t y x)
    ends_once ts to n p m q (ends_54 {stop = b} {z = z} y w) (ends_52 x) = absurd (no_both to p b q (numeral z) y x)
    ends_once ts to n p m q (ends_54 {stop = a} {z = z} x w) (ends_54 {stop = b} {z = z'} y v) =
        (refl, (same_next to p a q b (numeral z) (numeral z') x y).places)
    ends_once ts to n p m q (ends_54 {stop = a} {z = z} x w) (ends_55 {stop = b} {t = t} y v u) =
        absurd (true≢false (sym v ∙ ap fit (sym (same_next to p a q b (numeral z) t x y).tokens) ∙ w))
    ends_once ts to n p m q (ends_54 {stop = a} {z = z} x w) (ends_57 {stop = b} {t = t} y v u r) =
        absurd (true≢false (sym v ∙ ap fit (sym (same_next to p a q b (numeral z) t x y).tokens) ∙ w))
    ends_once ts to n p m q (ends_55 {stop = b} {t = t} y w v) (ends_52 x) = absurd (no_both to p b q t y x)
    ends_once ts to n p m q (ends_55 {stop = b} {t = t} y v u) (ends_54 {stop = a} {z = z} x w) =
        absurd (true≢false (sym v ∙ ap fit (same_next to p b q a t (numeral z) y x).tokens ∙ w))
    ends_once ts to n p m q (ends_55 {stop = a} {t = t} x v w) (ends_55 {stop = b} {t = t'} y v' w') =
        (refl, (same_next to p a q b t t' x y).places)
    ends_once ts to n p m q (ends_55 {stop = a} {t = t} x v w) (ends_57 {stop = b} {t = t'} y v' g w') =
        absurd (w (subst (λ u. Begins (ts ++ u ∷ [])) (sym (same_next to p a q b t t' x y).tokens) g))
    ends_once ts to n p m q (ends_57 {stop = b} {t = t} y w v u) (ends_52 x) = absurd (no_both to p b q t y x)
    ends_once ts to n p m q (ends_57 {stop = b} {t = t} y v u r) (ends_54 {stop = a} {z = z} x w) =
        absurd (true≢false (sym v ∙ ap fit (same_next to p b q a t (numeral z) y x).tokens ∙ w))
    ends_once ts to n p m q (ends_57 {stop = a} {t = t} x v g w) (ends_55 {stop = b} {t = t'} y v' w') =
        absurd (w' (subst (λ u. Begins (ts ++ u ∷ [])) (same_next to p a q b t t' x y).tokens g))
    ends_once ts to n p m q (ends_57 {stop = a} {t = t} x v g w) (ends_57 {stop = b} {t = t'} y v' g' w') =
        (refl, (same_next to p a q b t t' x y).places)

    -- ── sentences ──

    -- after the tokens of a sentence stands the end
    means_beyond : (t : Tree) (m : Means book s t) → Beyond m.tokens m.to
    means_beyond t m = record {
      place = m.place;
      stop = m.stop;
      token = end;
      next = m.ends;
      fits = refl;
      bound = (
        [],
        m.expr,
        t,
        subst (λ l. Sentence l m.expr) (sym (append-nil (m.tokens ++ end ∷ []))) m.sentence,
        m.resolves,
      );
    }

    means_stays : (t : Tree) (m : Means book s t) (ts : List Token) (to : ℕ) → Onward m.tokens m.to ts to
        → (m.tokens ≡ ts) × (m.to ≡ to)
    means_stays t m ts to o = by o m.ends
      where
        by : {us : List Token} {from p q : ℕ} → Onward us from ts to → Next s from end p q → (us ≡ ts) × (from ≡ to)
        by same n = (refl, refl)
        by {us} {from} {p} {q} (on {place = p'} {stop = q'} {t = u} x f e o) n =
            absurd (true≢false (ap is_end (same_next from p q p' q' end u n x).tokens ∙ e))

    ends_means : (ts : List Token) (to n p : ℕ) (t : Tree) → Sofar book s ts to → Ends ts to n p → Means book s t → ⊥
    ends_means ts to n p t a x m =
        let here : (m.tokens ≡ ts) × (m.to ≡ to) → ⊥ = λ e. beyond_ends ts to n p (subst (λ l. Beyond l to) e.0
        (subst (Beyond m.tokens) e.1 (means_beyond t m))) x in
        ⊎_elim
        (λ (o : Onward ts to m.tokens m.to). ⊎_elim (λ (e : (ts ≡ m.tokens) × (to ≡ m.to)). here (sym e.0, sym e.1))
        (λ (b : Beyond ts to). beyond_ends ts to n p b x) (beyond o m.sofar.begins))
        (λ (o : Onward m.tokens m.to ts to). here (means_stays t m ts to o))
        (compare a.front m.sofar.front)

    ends_ends : (ts us : List Token) (to to' n p n' p' : ℕ) → Sofar book s ts to → Ends ts to n p
        → Sofar book s us to' → Ends us to' n' p' → Told n p n' p'
    ends_ends ts us to to' n p n' p' a x b y =
        ⊎_elim
        (λ (o : Onward ts to us to'). ⊎_elim
        (λ (e : (ts ≡ us) × (to ≡ to')). ends_once us to' n p n' p' (subst (λ l. Ends l to' n p) e.0
        (subst (λ i. Ends ts i n p) e.1 x)) y)
        (λ (z : Beyond ts to). absurd (beyond_ends ts to n p z x))
        (beyond o b.begins))
        (λ (o : Onward us to' ts to). ⊎_elim
        (λ (e : (us ≡ ts) × (to' ≡ to)). ends_once ts to n p n' p' x (subst (λ l. Ends l to n' p') e.0
        (subst (λ i. Ends us i n' p') e.1 y)))
        (λ (z : Beyond us to'). absurd (beyond_ends us to' n' p' z y))
        (beyond o a.begins))
        (compare a.front b.front)

    sentence_tokens : (ts : List Token) (e : Expr) (x : Sentence (ts ++ end ∷ []) e)
        → Rattle.grammar.specs.Grammar.Derives Rattle.grammar.specs.Grammar.expr ts e
    sentence_tokens ts e x = subst (λ l. Rattle.grammar.specs.Grammar.Derives Rattle.grammar.specs.Grammar.expr l e)
        (sym (same_from_push ts x.0 end end x.1).0) x.2

    same_tree : (t u : Tree) → some t ≡ some u → t ≡ u
    same_tree t u h = cc

    means_once : (t u : Tree) → Means book s t → Means book s u → t ≡ u
    means_once t u m n =
        let same_tokens : m.tokens ≡ n.tokens = ⊎_elim (λ (o : Onward m.tokens m.to n.tokens n.to).
        (means_stays t m n.tokens n.to o).0) (λ (o : Onward n.tokens n.to m.tokens m.to).
        sym (means_stays u n m.tokens m.to o).0) (compare m.sofar.front n.sofar.front) in
        let d = sentence_tokens m.tokens m.expr m.sentence in
        let d' = subst (λ l. Rattle.grammar.specs.Grammar.Derives Rattle.grammar.specs.Grammar.expr l n.expr)
        (sym same_tokens) (sentence_tokens n.tokens n.expr n.sentence) in
        let same_expr = one_tree m.tokens m.expr n.expr d d' in
        same_tree t u (sym m.resolves ∙ ap (resolved book) same_expr ∙ n.resolves)

    -- ── verdicts ──

    module _ (room : ℕ) where
      data Final (t : Tree) : Outcome → Type 0 where
        final_58 : 512 < nodes t → Final t (refused 58 0)
        final_59 : nodes t ≤ 512 → room < length (record_of (length book) t) → Final t (refused 59 0)
        final_record : nodes t ≤ 512 → length (record_of (length book) t) ≤ room
            → Final t (compiled (record_of (length book) t))

      data View : Outcome → Type 0 where
        long : 4096 < length s → View (refused 51 0)
        judged : {ts : List Token} {to n p : ℕ} → Sofar book s ts to → Ends ts to n p → View (refused n p)
        final : {t : Tree} {o : Outcome} → Means book s t → Final t o → View o

      view : {o : Outcome} → Verdict book s room o → View o
      view (too_long h) = long h
      view (no_token a x) = judged a (ends_52 x)
      view (out_of_range a x y) = judged a (ends_54 x y)
      view (unexpected a x y z) = judged a (ends_55 x y z)
      view (unknown a x y z) = judged a (ends_57 x refl y z)
      view (too_many_nodes m h) = final m (final_58 h)
      view (no_room m h k) = final m (final_59 h k)
      view (a_record m h k) = final m (final_record h k)

      final_once : {t : Tree} {o o' : Outcome} → Final t o → Final t o' → o ≡ o'
      final_once (final_58 h) (final_58 k) = refl
      final_once (final_58 h) (final_59 k l) = absurd (omega arith)
      final_once (final_58 h) (final_record k l) = absurd (omega arith)
      final_once (final_59 h i) (final_58 k) = absurd (omega arith)
      final_once (final_59 h i) (final_59 k l) = refl
      final_once (final_59 h i) (final_record k l) = absurd (omega arith)
      final_once (final_record h i) (final_58 k) = absurd (omega arith)
      final_once (final_record h i) (final_59 k l) = absurd (omega arith)
      final_once (final_record h i) (final_record k l) = refl

      refused_same : (n p m q : ℕ) → Told n p m q → refused n p ≡ refused m q
      refused_same n p m q e = ap (λ i. refused i p) e.0 ∙ ap (refused m) e.1

      once : {o o' : Outcome} → View o → View o' → o ≡ o'
      once (long h) (long k) = refl
      once (long h) (judged a x) = absurd (omega (arith, a.short))
      once (long h) (final m f) = absurd (omega (arith, m.sofar.short))
      once (judged a x) (long h) = absurd (omega (arith, a.short))
      once (judged {ts} {to} {n} {p} a x) (judged {ts = us} {to = to'} {n = n'} {p = p'} b y) = refused_same n p n' p'
          (ends_ends ts us to to' n p n' p' a x b y)
      once (judged {ts} {to} {n} {p} a x) (final {t = t} m f) = absurd (ends_means ts to n p t a x m)
      once (final m f) (long h) = absurd (omega (arith, m.sofar.short))
      once (final {t = t} m f) (judged {ts} {to} {n} {p} a x) = absurd (ends_means ts to n p t a x m)
      once (final {t = t} {o = o} m f) (final {t = u} {o = o'} n g) =
          final_once (subst (λ x. Final x o) (means_once t u m n) f) g

pub one_verdict : (book : List Name) (s : List ℕ) (room : ℕ) (o o' : Outcome) → Verdict book s room o
    → Verdict book s room o' → o ≡ o'
one_verdict book s room o o' x y = once s book room (view s book room x) (view s book room y)
