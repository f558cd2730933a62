-- Each rule of the grammar as the parser goes through it: where it ends well, and each way in which
-- it is refused.
use Rattle.std.proofs.Common.{◌≡◌, ℕ, true, false, List, [], ◌∷◌, ◌++◌, Ok, Err, sym, ap, ◌∙◌, subst, ⊎_elim, Bor}
use mathlib.Core.Option.{Option, some, none}
use Rattle.syntax.specs.Tree.{Tree, function, application, let_in, sum, at_most, if_else}
use Rattle.grammar.specs.declared.Mark.TheVariants.{Fun, Let, In, If, Then, Else, Arrow, Equals, AtMost, Plus, Open}
use Rattle.grammar.specs.declared.Mark.TheVariants.{Close}
use Rattle.grammar.specs.Automaton.{starts_atom}
use Rattle.grammar.specs.Classes.{ReadApp, ReadSum, ReadExpr, RefusedAtom, RefusedApp, RefusedSum, RefusedCmp}
use Rattle.grammar.specs.Classes.{RefusedExpr}
use Rattle.grammar.specs.Grammar as G
use Rattle.grammar.specs.Grammar.{Expr}
use Rattle.grammar.specs.Names.{one, two, three, resolved, distance}
use Rattle.grammar.specs.Token as plain
use Rattle.grammar.specs.Token.{Name, is}
use Rattle.grammar.specs.Walking.{Stand, Went, Through, Unread, Missed, is_name}
use Rattle.grammar.proofs.Soundness.{is_mark}
use Rattle.grammar.proofs.Walking.{through_one, through-++, mark_on}
use Rattle.grammar.proofs.Binders as binders
use Rattle.grammar.proofs.Classes as classes
use Rattle.text.specs.declared.fault.CompileFault.{CompileFault}
use Rattle.syntax.specs.declared.node.Node.{Node}
use Rattle.syntax.specs.declared.node.Node.TheVariants.{Function, Application, LetIn, Sum, AtMost as AtMostNode, IfElse}
use Rattle.nodes.specs.declared.table.Table.{Table}
use Rattle.text.specs.declared.parser.Parser.{Parser}
use Rattle.text.specs.Faults.{number, place}
use Rattle.nodes.specs.Nodes.{Pushed, Grown}
use Rattle.text.specs.Parsing.{Source, source, at, Advanced, Passed, Named, ReadsExpr, ReadsComparison, ReadsSum}
use Rattle.text.specs.Parsing.{ReadsApplication, ReadsAtom, Single}
use Rattle.nodes.proofs.Growing.{grown_leaf, grown_function, grown_application, grown_let, grown_sum, grown_at_most}
use Rattle.nodes.proofs.Growing.{grown_if}
use Rattle.text.proofs.Leaves.{leaf_fits, leaf_on}
use Rattle.text.proofs.Turns.{Read, ApplicationSoFar, SumSoFar}

-- what holds over one text with some names open holds over the same text with the same names open
pub carried : (P : Source → List Name → Type 0) {k l : Source} {o q : List Name} → k ≡ l → o ≡ q → P k o → P l q
carried P {k} {l} {o} {q} e f h = subst (P l) f (subst (λ m. P m o) e h)

one_some : (mk : Tree → Tree) (o : Option Tree) (t : Tree) → o ≡ some t → one mk o ≡ some (mk t)
one_some mk o t h = ap (one mk) h

two_some : (mk : Tree → Tree → Tree) (o p : Option Tree) (t u : Tree) → o ≡ some t → p ≡ some u
    → two mk o p ≡ some (mk t u)
two_some mk o p t u h k = ap (λ x. two mk x p) h ∙ ap (one (mk t)) k

three_some : (mk : Tree → Tree → Tree → Tree) (o p q : Option Tree) (t u v : Tree) → o ≡ some t → p ≡ some u
    → q ≡ some v → three mk o p q ≡ some (mk t u v)
three_some mk o p q t u v h k l = ap (λ x. three mk x p q) h ∙ two_some (mk t) p q u v k l

-- the table of a parser that stands further on
abbrev pub onto : Parser → Table → Parser
onto p t = record p { table = t }

module _ (src : Source) (O : List Name) where
  abbrev s : List ℕ
  s = src.text

  abbrev B : List Name
  B = src.book

  -- ── fun ──

  module _ (p q r u : Parser) (x : Bor (List ℕ)) (t : (at p).token ≡ plain.mark Fun) (w : Advanced src p q (Ok tt))
      (n : Named src q r (Ok x)) (y : Passed (is Arrow) src r u (Ok tt)) where
    fun_name : binders.name_of (at q).token ≡ x.now
    fun_name = ap binders.name_of n.0

    fun_named : is_name (at q).token ≡ true
    fun_named = ap is_name n.0

    fun_table : u.table ≡ p.table
    fun_table = y.2 ∙ n.2 ∙ w.1

    pub fun_body_refused : (i j : ℕ) → RefusedExpr B (x.now ∷ (O ++ B)) s (at u) i j
        → RefusedExpr B (O ++ B) s (at p) i j
    fun_body_refused i j h =
        binders.fun_refused B (O ++ B) s (at p) (at q) (at r) (at u) t w.0 fun_named n.1 y.0 y.1 i j
        (subst (λ m. RefusedExpr B (m ∷ (O ++ B)) s (at u) i j) (sym fun_name) h)

    pub fun_done : (z : Parser) (T : Table) (a root : ℕ) → ReadsExpr src (x.now ∷ O) u z (Ok a)
        → Pushed z.table T (Function a) root → ReadsExpr src O p (onto z T) (Ok root)
    fun_done z T a root b g =
        let m = binders.name_of (at q).token in
        let e = b.0 in
        let read = binders.fun_read B (O ++ B) s (at p) (at q) (at r) (at u) t w.0 fun_named n.1 y.0 y.1 (at z) e
        (subst (λ k. ReadExpr B (k ∷ (O ++ B)) s (at u) (at z) e) (sym fun_name) b.2) in
        let whole = one_some function (resolved (m ∷ (O ++ B)) e) b.1 (ap (λ k. resolved (k ∷ (O ++ B)) e) fun_name
        ∙ b.3) in (
          G.lambda m e,
          function b.1,
          read,
          whole,
          grown_function p.table z.table T a root b.1
              (subst (λ k. Grown k z.table b.1 a) fun_table b.4) g,
          b.5,
        )

  -- ── let ──

  module _ (p q r u : Parser) (x : Bor (List ℕ)) (t : (at p).token ≡ plain.mark Let) (w : Advanced src p q (Ok tt))
      (n : Named src q r (Ok x)) (y : Passed (is Equals) src r u (Ok tt)) where
    let_name : binders.name_of (at q).token ≡ x.now
    let_name = ap binders.name_of n.0

    let_named : is_name (at q).token ≡ true
    let_named = ap is_name n.0

    let_table : u.table ≡ p.table
    let_table = y.2 ∙ n.2 ∙ w.1

    module _ (z : Parser) (a : ℕ) (b : ReadsExpr src O u z (Ok a)) where
      pub let_no_in : (i j : ℕ) → Missed (is In) s (at z) i j → RefusedExpr B (O ++ B) s (at p) i j
      let_no_in i j h = binders.let_no_in B (O ++ B) s (at p) (at q) (at r) (at u) t w.0 let_named n.1 y.0 y.1
          (at z) b.0 b.2 i j h

      module _ (v : Parser) (o : Passed (is In) src z v (Ok tt)) where
        pub let_body_refused : (i j : ℕ) → RefusedExpr B (x.now ∷ (O ++ B)) s (at v) i j
            → RefusedExpr B (O ++ B) s (at p) i j
        let_body_refused i j h =
            binders.let_body_refused B (O ++ B) s (at p) (at q) (at r) (at u) t w.0 let_named n.1 y.0 y.1
            (at z) b.0 b.2 (at v) o.0 o.1 i j (subst (λ m. RefusedExpr B (m ∷ (O ++ B)) s (at v) i j)
            (sym let_name) h)

        pub let_done : (z' : Parser) (T : Table) (a' root : ℕ) → ReadsExpr src (x.now ∷ O) v z' (Ok a')
            → Pushed z'.table T (LetIn a a') root → ReadsExpr src O p (onto z' T) (Ok root)
        let_done z' T a' root b' g =
            let m = binders.name_of (at q).token in
            let e = b.0 in
            let f = b'.0 in
            let read = binders.let_read B (O ++ B) s (at p) (at q) (at r) (at u) t w.0 let_named n.1 y.0 y.1
            (at z) e b.2 (at v) o.0 o.1 (at z') f (subst (λ k. ReadExpr B (k ∷ (O ++ B)) s (at v) (at z') f)
            (sym let_name) b'.2) in
            let whole = two_some let_in (resolved (O ++ B) e) (resolved (m ∷ (O ++ B)) f) b.1 b'.1 b.3
            (ap (λ k. resolved (k ∷ (O ++ B)) f) let_name ∙ b'.3) in (
              G.let_in m e f,
              let_in b.1 b'.1,
              read,
              whole,
              grown_let p.table z.table z'.table T a a' root b.1 b'.1
                  (subst (λ k. Grown k z.table b.1 a) let_table b.4) (subst (λ k. Grown k z'.table b'.1 a') o.2 b'.4) g,
              b'.5,
            )

  -- ── if ──

  module _ (p q : Parser) (t : (at p).token ≡ plain.mark If) (w : Advanced src p q (Ok tt)) (r : Parser) (a : ℕ)
      (b : ReadsExpr src O q r (Ok a)) where
    pub if_no_then : (i j : ℕ) → Missed (is Then) s (at r) i j → RefusedExpr B (O ++ B) s (at p) i j
    if_no_then i j h = binders.if_no_then B (O ++ B) s (at p) (at q) t w.0 (at r) b.0 b.2 i j h

    module _ (u : Parser) (o : Passed (is Then) src r u (Ok tt)) where
      pub if_then_refused : (i j : ℕ) → RefusedExpr B (O ++ B) s (at u) i j → RefusedExpr B (O ++ B) s (at p) i j
      if_then_refused i j h = binders.if_then_refused B (O ++ B) s (at p) (at q) t w.0 (at r) b.0 b.2 (at u) o.0 o.1 i
          j h

      module _ (z : Parser) (a' : ℕ) (b' : ReadsExpr src O u z (Ok a')) where
        pub if_no_else : (i j : ℕ) → Missed (is Else) s (at z) i j → RefusedExpr B (O ++ B) s (at p) i j
        if_no_else i j h = binders.if_no_else B (O ++ B) s (at p) (at q) t w.0 (at r) b.0 b.2 (at u) o.0 o.1
            (at z) b'.0 b'.2 i j h

        module _ (v : Parser) (o' : Passed (is Else) src z v (Ok tt)) where
          pub if_else_refused : (i j : ℕ) → RefusedExpr B (O ++ B) s (at v) i j → RefusedExpr B (O ++ B) s (at p) i j
          if_else_refused i j h = binders.if_else_refused B (O ++ B) s (at p) (at q) t w.0 (at r) b.0 b.2
              (at u) o.0 o.1 (at z) b'.0 b'.2 (at v) o'.0 o'.1 i j h

          pub if_done : (z' : Parser) (T : Table) (a'' root : ℕ) → ReadsExpr src O v z' (Ok a'')
              → Pushed z'.table T (IfElse a a' a'') root → ReadsExpr src O p (onto z' T) (Ok root)
          if_done z' T a'' root b'' g =
              let read = binders.if_read B (O ++ B) s (at p) (at q) t w.0 (at r) b.0 b.2 (at u) o.0 o.1
              (at z) b'.0 b'.2 (at v) o'.0 o'.1 (at z') b''.0 b''.2 in
              let whole = three_some if_else _ _ _ b.1 b'.1 b''.1 b.3 b'.3 b''.3 in (
                G.if_else b.0 b'.0 b''.0,
                if_else b.1 b'.1 b''.1,
                read,
                whole,
                grown_if p.table r.table z.table z'.table T a a' a'' root b.1 b'.1 b''.1
                    (subst (λ k. Grown k r.table b.1 a) w.1 b.4) (subst (λ k. Grown k z.table b'.1 a') o.2 b'.4)
                    (subst (λ k. Grown k z'.table b''.1 a'') o'.2 b''.4) g,
                b''.5,
              )

  -- ── comparisons ──

  module _ (p q : Parser) (a : ℕ) (b : ReadsSum src O p q (Ok a)) where
    pub sum_alone : is AtMost (at q).token ≡ false → ReadsComparison src O p q (Ok a)
    sum_alone h = (b.0, b.1, classes.cmp_sum B (O ++ B) s (at p) (at q) b.0 b.2.0 b.2.1 b.2.2 h, b.3, b.4, b.5)

    module _ (m : is AtMost (at q).token ≡ true) where
      at_most_here : (at q).token ≡ plain.mark AtMost
      at_most_here = is_mark AtMost (at q).token m

      pub at_most_unread : (i j : ℕ) → Unread s (at q).stop i j → RefusedCmp B (O ++ B) s (at p) i j
      at_most_unread i j u = classes.cmp_at_most_unread B (O ++ B) s (at p) (at q) b.0 i j b.2.0 at_most_here u

      module _ (r : Parser) (w : Advanced src q r (Ok tt)) where
        pub at_most_refused : (i j : ℕ) → RefusedSum B (O ++ B) s (at r) i j → RefusedCmp B (O ++ B) s (at p) i j
        at_most_refused i j x = classes.cmp_at_most_refused B (O ++ B) s (at p) (at q) (at r) b.0 i j b.2.0
            at_most_here w.0 x

        pub at_most_done : (z : Parser) (T : Table) (a' root : ℕ) → ReadsSum src O r z (Ok a')
            → Pushed z.table T (AtMostNode a a') root → ReadsComparison src O p (onto z T) (Ok root)
        at_most_done z T a' root b' g =
            let read = classes.cmp_at_most B (O ++ B) s (at p) (at q) (at r) (at z) b.0 b'.0 b.2.0 at_most_here w.0
            b'.2.0 b'.2.1 b'.2.2 in
            let whole = two_some at_most _ _ b.1 b'.1 b.3 b'.3 in (
              G.at_most b.0 b'.0,
              at_most b.1 b'.1,
              read,
              whole,
              grown_at_most p.table q.table z.table T a a' root b.1
                  b'.1 b.4 (subst (λ k. Grown k z.table b'.1 a') w.1 b'.4) g,
              b'.5,
            )

  -- ── sums ──

  pub sum_holds : (first : Parser) (root : ℕ) → source first ≡ src → SumSoFar src O first root first root
  sum_holds first root own = (([], Rattle.grammar.specs.Walking.here), own, λ h. h, λ p before x. x)

  -- what an application is as a sum
  module _ (p first : Parser) (root : ℕ) (b : ReadsApplication src O p first (Ok root)) (now : Parser) (l : ℕ)
      (o : SumSoFar src O first root now l) where
    sum_now : Read (ReadSum B (O ++ B) s (at p)) (O ++ B) p.table now l
    sum_now = o.3 (at p) p.table (b.0, b.1, classes.sum_first B (O ++ B) s (at p) (at first) b.0 b.2.0, b.3, b.4)

    pub sum_done : is Plus (at now).token ≡ false → ReadsSum src O p now (Ok l)
    sum_done h = let x = sum_now in (x.0, x.1, (x.2, o.2 b.2.1, h), x.3, x.4, o.1)

    module _ (m : is Plus (at now).token ≡ true) where
      pub plus_unread : (i j : ℕ) → Unread s (at now).stop i j → RefusedSum B (O ++ B) s (at p) i j
      plus_unread i j u = let x = sum_now in classes.sum_plus_unread B (O ++ B) s (at p) (at now) x.0 i j x.2
          (is_mark Plus (at now).token m) u

      pub plus_refused : (r : Parser) → Advanced src now r (Ok tt) → (i j : ℕ) → RefusedApp B (O ++ B) s (at r) i j
          → RefusedSum B (O ++ B) s (at p) i j
      plus_refused r w i j y = let x = sum_now in classes.sum_more_refused B (O ++ B) s (at p) (at now) (at r) x.0 i j
          x.2 (is_mark Plus (at now).token m) w.0 y

  pub sum_again : (first now r z : Parser) (T : Table) (root l a t : ℕ) → SumSoFar src O first root now l
      → is Plus (at now).token ≡ true → Advanced src now r (Ok tt) → ReadsApplication src O r z (Ok a)
      → Pushed z.table T (Sum l a) t → SumSoFar src O first root (onto z T) t
  sum_again first now r z T root l a t o m w b g = (
    through-++ s (at first) (at now) (at z) o.0 (through-++ s (at now) (at r) (at z) (through_one s (at now) (at r)
        (mark_on Plus (at now).token m) w.0) b.2.0.0),
    b.5,
    λ h. b.2.1,
    λ p before x.
        let y = o.3 p before x in
        let read = classes.sum_more B (O ++ B) s p (at now) (at r) (at z) y.0 b.0 y.2 (is_mark Plus (at now).token m)
        w.0 b.2.0 in (
          G.plus y.0 b.0,
          sum y.1 b.1,
          read,
          two_some sum _ _ y.1 b.1 y.3 b.3,
          grown_sum before now.table z.table T l a t y.1 b.1 y.4 (subst (λ k. Grown k z.table b.1 a) w.1 b.4) g,
        ),
  )

  -- ── applications ──

  pub application_holds : (first : Parser) (root : ℕ) → source first ≡ src
      → ApplicationSoFar src O first root first root
  application_holds first root own = (([], Rattle.grammar.specs.Walking.here), own, λ p before x. x)

  module _ (p first : Parser) (root : ℕ) (b : ReadsAtom src O p first (Ok root)) (now : Parser) (l : ℕ)
      (o : ApplicationSoFar src O first root now l) where
    application_now : Read (ReadApp B (O ++ B) s (at p)) (O ++ B) p.table now l
    application_now = o.2 (at p) p.table (b.0, b.1, classes.app_first B (O ++ B) s (at p) (at first) b.0 b.2, b.3, b.4)

    pub application_done : starts_atom (at now).token ≡ false → ReadsApplication src O p now (Ok l)
    application_done h = let x = application_now in (x.0, x.1, (x.2, h), x.3, x.4, o.1)

    pub argument_refused : starts_atom (at now).token ≡ true → (i j : ℕ) → RefusedAtom B (O ++ B) s (at now) i j
        → RefusedApp B (O ++ B) s (at p) i j
    argument_refused h i j y = let x = application_now in classes.app_more_refused B (O ++ B) s (at p) (at now) x.0 i
        j x.2 h y

  pub application_again : (first now z : Parser) (T : Table) (root l a t : ℕ)
      → ApplicationSoFar src O first root now l → ReadsAtom src O now z (Ok a) → Pushed z.table T (Application l a) t
      → ApplicationSoFar src O first root (onto z T) t
  application_again first now z T root l a t o b g = (
    through-++ s (at first) (at now) (at z) o.0 b.2.0,
    b.5,
    λ p before x.
        let y = o.2 p before x in
        let read = classes.app_more B (O ++ B) s p (at now) (at z) y.0 b.0 y.2 b.2 in (
          G.apply y.0 b.0,
          application y.1 b.1,
          read,
          two_some application _ _ y.1 b.1 y.3 b.3,
          grown_application before now.table z.table T l a t y.1 b.1 y.4 b.4 g,
        ),
  )

  -- ── atoms ──

  module _ (p : Parser) (m : is Open (at p).token ≡ true) where
    open_here : (at p).token ≡ plain.mark Open
    open_here = is_mark Open (at p).token m

    pub open_unread : (i j : ℕ) → Unread s (at p).stop i j → RefusedAtom B (O ++ B) s (at p) i j
    open_unread i j u = classes.paren_unread B (O ++ B) s (at p) i j open_here u

    module _ (q : Parser) (w : Advanced src p q (Ok tt)) where
      pub open_refused : (i j : ℕ) → RefusedExpr B (O ++ B) s (at q) i j → RefusedAtom B (O ++ B) s (at p) i j
      open_refused i j x = classes.paren_refused B (O ++ B) s (at p) (at q) i j open_here w.0 x

      module _ (r : Parser) (a : ℕ) (b : ReadsExpr src O q r (Ok a)) where
        pub open_missed : (i j : ℕ) → Missed (is Close) s (at r) i j → RefusedAtom B (O ++ B) s (at p) i j
        open_missed i j x = classes.paren_missed B (O ++ B) s (at p) (at q) (at r) b.0 i j open_here w.0 b.2 x

        pub open_done : (u : Parser) → Passed (is Close) src r u (Ok tt) → ReadsAtom src O p u (Ok a)
        open_done u o = (
          b.0,
          b.1,
          classes.atom_paren B (O ++ B) s (at p) (at q) (at r) (at u) b.0 open_here w.0 b.2 o.0 o.1,
          b.3,
          subst (λ k. Grown p.table k b.1 a) (sym o.2) (subst (λ k. Grown k r.table b.1 a) w.1 b.4),
          o.3,
        )

  -- ── atoms of one token ──

  pub leaf_refused : (p : Parser) (f : CompileFault) → Single (O ++ B) (at p) (Err f)
      → RefusedAtom B (O ++ B) s (at p) (number f) (place f)
  leaf_refused p f h =
      ⊎_elim
      (λ (x : (number f ≡ 55) × (place f ≡ p.current.place) × (starts_atom (at p).token ≡ false)).
      subst (λ i. RefusedAtom B (O ++ B) s (at p) i (place f)) (sym x.0) (subst (RefusedAtom B (O ++ B) s (at p) 55)
      (sym x.1) (classes.atom_none B (O ++ B) s (at p) x.2)))
      (λ (x : (number f ≡ 57) × (place f ≡ p.current.place) × ((y : Name) × ((at p).token ≡ plain.name y)
      × (distance (O ++ B) y ≡ none))).
      subst (λ i. RefusedAtom B (O ++ B) s (at p) i (place f)) (sym x.0) (subst (RefusedAtom B (O ++ B) s (at p) 57)
      (sym x.1) (classes.atom_unknown B (O ++ B) s (at p) x.2.0 x.2.1 x.2.2)))
      h

  module _ (p : Parser) (n : Node) (l : Single (O ++ B) (at p) (Ok n)) where
    pub leaf_unread : (i j : ℕ) → Unread s (at p).stop i j → RefusedAtom B (O ++ B) s (at p) i j
    leaf_unread i j u = classes.atom_leaf_unread B (O ++ B) s (at p) l.0 i j (leaf_on (at p).token l.0 l.2)
        (leaf_fits B (O ++ B) s (at p).token l.0 l.1 l.2 l.3) u

    pub leaf_done : (q : Parser) (T : Table) (root : ℕ) → Advanced src p q (Ok tt) → Pushed q.table T n root
        → ReadsAtom src O p (onto q T) (Ok root)
    leaf_done q T root w g = (
      l.0,
      l.1,
      classes.atom_leaf B (O ++ B) s (at p) (at q) l.0 (leaf_on (at p).token l.0 l.2)
          (leaf_fits B (O ++ B) s (at p).token l.0 l.1 l.2 l.3) w.0,
      l.3,
      grown_leaf p.table T n root l.1
          (subst (λ k. Pushed k T n root) w.1 g) l.4,
      w.2,
    )
