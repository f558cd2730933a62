-- What a table holds after a node was put before its children, and which refusals come from behind.
use Rattle.std.proofs.Common.{◌≡◌, ℕ, ◌+◌, ◌<◌, ◌≤◌, ◌≢◌, List, [], ◌∷◌, ◌++◌, length, set, pos, sym, refl, ap, ◌∙◌}
use Rattle.std.proofs.Common.{subst, arith, length-append, get_or-set_other, get_or-set_same, length-set}
use Rattle.std.proofs.lemmas.List.{get_or_append_left}
use Rattle.syntax.specs.Tree.{Tree, nodes, function, if_else}
use Rattle.syntax.specs.Record.{encode}
use Rattle.syntax.specs.declared.node.Node.{Node}
use Rattle.syntax.specs.declared.node.Node.TheVariants.{Number, Function, IfElse}
use Rattle.record.specs.Bytes.{Stands}
use Rattle.record.specs.Nodes.{node_at, Holds}
use Rattle.record.specs.Proper.{Proper}
use Rattle.record.specs.Questions.{Refused}
use Rattle.record.specs.Reading.{Grown, GrownTwice}
use Rattle.record.proofs.Holding.{holds_same, some_node}
use Rattle.record.proofs.Standing.{stands_join}
use Rattle.record.proofs.Walking.{over}

-- ── refusals ──

-- a refusal behind one tree, and behind two
pub fault_behind : (s : List ℕ) (r b p k q e : ℕ) (before after : List Node) (t : Tree) (more : List ℕ)
    → b + r ≤ (length before) + 8 → Grown s r b p before after t e
    → Refused s more (length after) e k q → Refused s ((b + r) ∷ more) (length before) p k q
fault_behind s r b p k q e before after t more small g f =
    let few = g.few in
    let counted = g.counted in
    (over t s (b + r) (length before) p small (omega arith) g.bytes g.proper k q more).1
    (subst (λ x. Refused s more x (p + length (encode t)) k q) counted
    (subst (λ x. Refused s more (length after) x k q) g.ends f))

pub fault_behind_two : (s : List ℕ) (r b c p k q m e : ℕ) (before after : List Node) (t u : Tree) (more : List ℕ)
    → b + r ≤ (length before) + 8 → c + r ≤ (length before) + 9 → GrownTwice s r b c p before after t u m e
    → Refused s more (length after) e k q → Refused s ((b + r) ∷ (c + r) ∷ more) (length before) p k q
fault_behind_two s r b c p k q m e before after t u more small next g f =
    let few = g.few in
    let counted = g.counted in
    let some = some_node t in
    let there : e ≡ p + length (encode t) + length (encode u) = omega (arith, g.ends) in
    let that : (length after) ≡ (length before) + nodes t + nodes u = omega arith in
    (over t s (b + r) (length before) p small (omega arith) g.first_bytes g.first_proper k q ((c + r) ∷ more)).1
    ((over u s (c + r) ((length before) + nodes t) (p + length (encode t)) (omega arith) (omega arith) g.second_bytes
    g.second_proper k q more).1
    (subst (λ x. Refused s more x (p + length (encode t) + length (encode u)) k q) that
    (subst (λ x. Refused s more (length after) x k q) there f)))

-- ── trees ──

-- one tree behind another
pub grown_twice : (s : List ℕ) (r b c p e f : ℕ) (before mid after : List Node) (t u : Tree)
    → Grown s r b p before mid t e → Grown s r c e mid after u f → GrownTwice s r b c p before after t u (length mid) f
grown_twice s r b c p e f before mid after t u g h =
    let first = g.counted in
    let ends = g.ends in
    record {
      second = first;
      counted = omega (arith, h.counted);
      few = h.few;
      ends = omega (arith, h.ends);
      first_bytes = g.bytes;
      second_bytes = subst (λ x. Stands s x (encode u)) ends h.bytes;
      first_proper = g.proper;
      second_proper = h.proper;
      first_holds = holds_same mid after b (length before) t (λ j a l. h.kept j (omega arith)) g.holds;
      second_holds = subst (λ x. Holds after c x u) first h.holds;
      kept = λ i l. h.kept i (omega arith) ∙ g.kept i l;
    }

-- A place was taken for a node, its children were put behind, and then the node into its place.
pub record Put (before opened mid after : List Node) (node : Node) : Type 0 where
  pub among : length before < 512
  pub opened_is : opened ≡ before ++ Number (pos 0) ∷ []
  pub room : length before < length mid
  pub after_is : after ≡ set mid (length before) node

module _ (before opened mid after : List Node) (node : Node) (put : Put before opened mid after node) where
  opened_count : length opened ≡ length before + 1
  opened_count = ap length put.opened_is ∙ length-append before (Number (pos 0) ∷ [])

  after_count : length after ≡ length mid
  after_count = ap length put.after_is ∙ length-set mid (length before) node

  put_root : node_at after (length before) ≡ node
  put_root =
      ap (λ l. node_at l (length before)) put.after_is ∙ get_or-set_same mid (length before) node (Number (pos 0))
      put.room

  put_other : (j : ℕ) → j ≢ (length before) → node_at after j ≡ node_at mid j
  put_other j apart = ap (λ l. node_at l j) put.after_is ∙ get_or-set_other mid (length before) j node
      (Number (pos 0)) apart

  put_kept : ((i : ℕ) → i < (length opened) → node_at mid i ≡ node_at opened i) → (i : ℕ) → i < (length before)
      → node_at after i ≡ node_at before i
  put_kept kept i l =
      let apart : i ≢ (length before) = λ e. omega arith in
      let count = opened_count in
      put_other i apart ∙ kept i (omega arith) ∙ ap (λ x. node_at x i) put.opened_is
      ∙ get_or_append_left before (Number (pos 0) ∷ []) (Number (pos 0)) i l

  pub grown_leaf : (s : List ℕ) (r b p : ℕ) (t : Tree) → mid ≡ opened → nodes t ≡ 1 → Stands s p (encode t)
      → Proper (b + r) t → (node_at after (length before) ≡ node → Holds after b (length before) t)
      → Grown s r b p before after t (p + length (encode t))
  grown_leaf s r b p t same one bytes proper holds =
      let few = put.among in
      let count = opened_count in
      let size : (length after) ≡ (length before) + 1 = after_count ∙ ap (length) same ∙ count in
      record {
        counted = omega arith;
        few = omega arith;
        ends = refl;
        bytes = bytes;
        proper = proper;
        holds = holds put_root;
        kept = put_kept (λ i l. ap (λ x. node_at x i) same);
      }

  pub grown_body : (s : List ℕ) (r b p e : ℕ) (t : Tree) → node ≡ Function ((length before) + 1) → Stands s p (5 ∷ [])
      → Grown s r (b + 1) (p + 1) opened mid t e → Grown s r b p before after (function t) e
  grown_body s r b p e t is w g =
      let count = opened_count in
      record {
        counted = after_count ∙ g.counted ∙ (let z : (length opened) + nodes t ≡ (length before) + (1 + nodes t) =
            omega arith in z);
        few = omega (arith, g.few, after_count);
        ends = omega (arith, g.ends);
        bytes = (w.0, w.1, g.bytes);
        proper = let one_more : b + 1 + r ≡ b + r + 1 = omega arith in subst (λ x. Proper x t) one_more g.proper;
        holds = (
          put_root ∙ is,
          holds_same mid after (b + 1) ((length before) + 1) t
              (λ j a l. let apart : j ≢ (length before) = λ z. omega arith in put_other j apart)
              (subst (λ x. Holds mid (b + 1) x t) count g.holds),
        );
        kept = put_kept g.kept;
      }

  -- the parts of two children, for every kind of node that has two
  pub grown_pair : (s : List ℕ) (r b c p m e z : ℕ) (t u v : Tree) → Stands s p (z ∷ [])
      → GrownTwice s r b c (p + 1) opened mid t u m e
      → nodes v ≡ 1 + (nodes t + nodes u) → encode v ≡ z ∷ (encode t ++ encode u)
      → (Proper (b + r) t → Proper (c + r) u → Proper (b + r) v)
      → (m ≡ (length before) + (1 + nodes t) → node_at after (length before) ≡ node
      → Holds after b ((length before) + 1) t → Holds after c ((length before) + (1 + nodes t)) u
      → Holds after b (length before) v)
      → Grown s r b p before after v e
  grown_pair s r b c p m e z t u v w g size code proper holds =
      let count = opened_count in
      let long = length-append (encode t) (encode u) in
      let wide : length (encode v) ≡ length (z ∷ (encode t ++ encode u)) = ap length code in
      let second : (length opened) + nodes t ≡ (length before) + (1 + nodes t) = omega arith in
      let bytes : Stands s p (z ∷ (encode t ++ encode u)) = (
        w.0,
        w.1,
        stands_join s (p + 1) (encode t)
            (encode u) g.first_bytes g.second_bytes,
      ) in
      record {
        counted = omega (arith, after_count, g.counted);
        few = omega (arith, g.few, after_count);
        ends = omega (arith, g.ends);
        bytes = subst (λ x. Stands s p x) (sym code) bytes;
        proper = proper g.first_proper g.second_proper;
        holds = holds (g.second ∙ second) put_root
            (holds_same mid after b ((length before) + 1) t
            (λ j a l. let apart : j ≢ (length before) = λ x. omega arith in put_other j apart)
            (subst (λ x. Holds mid b x t) count g.first_holds))
            (holds_same mid after c ((length before) + (1 + nodes t)) u
            (λ j a l. let apart : j ≢ (length before) = λ x. omega arith in put_other j apart)
            (subst (λ x. Holds mid c x u) second g.second_holds));
        kept = put_kept g.kept;
      }

  pub grown_three : (s : List ℕ) (r b p m e f at third : ℕ) (half : List Node) (t u v : Tree) → Stands s p (10 ∷ [])
      → GrownTwice s r b b (p + 1) opened half t u m e → Grown s r b e half mid v f
      → at ≡ (length before) → third ≡ (length half) → node ≡ IfElse (at + 1) m third → Grown s r b p before after
      (if_else t u v) f
  grown_three s r b p m e f at third half t u v w g h at_is third_is is =
      let count = opened_count in
      let long = length-append (encode t) (encode u ++ encode v) in
      let longer = length-append (encode u) (encode v) in
      let ends = g.ends in
      let counted = g.counted in
      let second : (length opened) + nodes t ≡ (length before) + (1 + nodes t) = omega arith in
      let third_at : (length half) ≡ (length before) + (1 + (nodes t + nodes u)) = omega arith in
      let there : e ≡ p + 1 + length (encode t) + length (encode u) = omega arith in
      let apart_from : (j : ℕ) → (length before) + 1 ≤ j → node_at after j ≡ node_at mid j = λ j a.
      let apart : j ≢ (length before) = λ x. omega arith in put_other j apart in
      let root : IfElse (at + 1) m third ≡ IfElse ((length before) + 1) ((length before) + (1 + nodes t))
      ((length before) + (1 + (nodes t + nodes u))) = let x = g.second ∙ second in
      let y = third_is ∙ third_at in cc in
      record {
        counted = omega (arith, after_count, h.counted);
        few = omega (arith, h.few, after_count);
        ends = omega (arith, h.ends);
        bytes = (
          w.0,
          w.1,
          stands_join s (p + 1) (encode t) (encode u ++ encode v) g.first_bytes
              (stands_join s (p + 1 + length (encode t)) (encode u) (encode v) g.second_bytes
              (subst (λ x. Stands s x (encode v)) there h.bytes)),
        );
        proper = (g.first_proper, g.second_proper, h.proper);
        holds = (
          put_root ∙ is ∙ root,
          holds_same half after b ((length before) + 1) t (λ j a l. apart_from j a ∙ h.kept j (omega arith))
              (subst (λ x. Holds half b x t) count g.first_holds),
          holds_same half after b ((length before) + (1 + nodes t)) u (λ j a l. apart_from j (omega arith)
              ∙ h.kept j (omega arith)) (subst (λ x. Holds half b x u) second g.second_holds),
          holds_same mid after b ((length before) + (1 + (nodes t + nodes u))) v (λ j a l. apart_from j (omega arith))
              (subst (λ x. Holds mid b x v) third_at h.holds),
        );
        kept = put_kept (λ i l. h.kept i (omega arith) ∙ g.kept i l);
      }
