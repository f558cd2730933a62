use Rattle.std.proofs.Common.{◌≡◌, ◌+◌, ◌≤◌, true, false, [], ◌∷◌, refl, sym, ap, ◌∙◌, subst, rules, tests, arith}
use Rattle.std.proofs.Common.{w32, length, length-append, pos}
use Rattle.std.proofs.lemmas.Int.{to_z-of_z}
use Rattle.std.proofs.lemmas.Result.{err_from_is_err_and}
use Rattle.syntax.specs.Tree.{number, variable, application, let_in, sum, at_most}
use Rattle.syntax.specs.declared.node.Node.{Node}
use Rattle.syntax.specs.Kinds.{byte_of, operands_of}
use Rattle.syntax.specs.Record.{two_bytes, four_bytes}
use Rattle.record.specs.Bytes.{Stands, two_at}
use Rattle.record.specs.Proper.{Proper}
use Rattle.record.specs.Questions.{here}
use Rattle.record.proofs.Asking.{unbound}
use Rattle.record.proofs.Holding.{some_node, some_byte}
use Rattle.record.proofs.Stepping.{begun, begun_plain, one_more, in_reach, fault_below, done, read_leaf, read_truth}
use Rattle.record.proofs.Stepping.{read_body, read_pair, read_three, read_two, fault_after, fault_after_two}
use Rattle.record.proofs.reader.Reader.+tree_two.Goals as goal
use Rattle.record.proofs.reader.Reader.+tree_two.Goals.{tree-in-Number, tree-in-False, tree-in-True}
use Rattle.record.proofs.reader.Reader.+tree_two.Goals.{tree-in-Variable+in_ok-distance-in-Variable}
use Rattle.record.proofs.reader.Reader.+tree_two.Goals.{tree-in-Function+in_ok-tree-in-Function}
use Rattle.record.proofs.reader.Reader.+tree_two.Goals.{tree-in-Application+in_ok-two-in-Application}
use Rattle.record.proofs.reader.Reader.+tree_two.Goals.{tree-in-LetIn+in_ok-two-in-LetIn}
use Rattle.record.proofs.reader.Reader.+tree_two.Goals.{tree-in-Sum+in_ok-two-in-Sum}
use Rattle.record.proofs.reader.Reader.+tree_two.Goals.{tree-in-AtMost+in_ok-two-in-AtMost}
use Rattle.record.proofs.reader.Reader.+tree_two.Goals.{tree-in-IfElse+in_ok-then-in-IfElse+in_ok-tree-in-IfElse}

pub tree-returns-in_err-kind : goal.tree-returns-in_err-kind
tree-returns-in_err-kind t c =
    let p = err_from_is_err_and c.from_residual.result c.from_residual.ensures.1 in
    rw (p.1, p.2) (λ more. here (c.in_err-kind.ensures (c.args.binders + c.args.readings)))

pub tree-returns-in_err-distance-in-Variable : goal.tree-returns-in_err-distance-in-Variable
tree-returns-in_err-distance-in-Variable t c =
    let p = err_from_is_err_and c.from_residual-in_err-distance-in-Variable.result
    c.from_residual-in_err-distance-in-Variable.ensures.1 in
    let told = c.in_err-distance-in-Variable.ensures in
    let head = c.in_ok-kind.ensures in
    let wide = ap operands_of c.in-Variable.is in
    let whole = head.whole in
    rw (p.1, p.2, told.0) (λ more. here (unbound c.args.self.now.bytes.now (c.args.binders + c.args.readings)
    (length c.args.self.now.nodes.items) c.args.self.now.place head.among (omega arith) (head.byte
    ∙ ap byte_of c.in-Variable.is) (subst (λ x. (c.args.binders + c.args.readings) ≤ two_at x
    (c.args.self.now.place + 1)) c.open-at.ensures.bytes told.1)))

pub tree-returns-in_err-tree-in-Function : goal.tree-returns-in_err-tree-in-Function
tree-returns-in_err-tree-in-Function t c =
    let p = err_from_is_err_and c.from_residual-in_err-tree-in-Function.result
    c.from_residual-in_err-tree-in-Function.ensures.1 in
    let start = begun_plain _ c.args.self.now c.open-at.new.self _ (Node.Function 0) c.in-Function.is refl tt
    c.in_ok-kind.ensures c.open-at.ensures.bytes c.open-at.ensures.place c.open-at.ensures.nodes in
    rw (p.1, p.2) (fault_below (c.args.binders + c.args.readings) _ _ _ _ (Node.Function 0)
    ((c.args.binders + 1 + c.args.readings) ∷ []) (ap (λ x. x ∷ []) (one_more c.args.binders c.args.readings))
    (in_reach c.args.binders c.args.readings _ c.requires.binders c.requires.readings) start
    c.in_err-tree-in-Function.ensures)

pub tree-returns-in_err-two-in-Application : goal.tree-returns-in_err-two-in-Application
tree-returns-in_err-two-in-Application t c =
    let p = err_from_is_err_and c.from_residual-in_err-two-in-Application.result
    c.from_residual-in_err-two-in-Application.ensures.1 in
    let start = begun_plain _ c.args.self.now c.open-at.new.self _ (Node.Application 0 0) c.in-Application.is refl tt
    c.in_ok-kind.ensures c.open-at.ensures.bytes c.open-at.ensures.place c.open-at.ensures.nodes in
    rw (p.1, p.2) (fault_below (c.args.binders + c.args.readings) _ _ _ _ (Node.Application 0 0)
    ((c.args.binders + c.args.readings) ∷ (c.args.binders + c.args.readings) ∷ []) refl
    (in_reach c.args.binders c.args.readings _ c.requires.binders c.requires.readings) start
    c.in_err-two-in-Application.ensures)

pub tree-returns-in_err-two-in-LetIn : goal.tree-returns-in_err-two-in-LetIn
tree-returns-in_err-two-in-LetIn t c =
    let p = err_from_is_err_and c.from_residual-in_err-two-in-LetIn.result
    c.from_residual-in_err-two-in-LetIn.ensures.1 in
    let start = begun_plain _ c.args.self.now c.open-at.new.self _ (Node.LetIn 0 0) c.in-LetIn.is refl tt
    c.in_ok-kind.ensures c.open-at.ensures.bytes c.open-at.ensures.place c.open-at.ensures.nodes in
    rw (p.1, p.2) (fault_below (c.args.binders + c.args.readings) _ _ _ _ (Node.LetIn 0 0)
    ((c.args.binders + c.args.readings) ∷ (c.args.binders + 1 + c.args.readings) ∷ [])
    (ap (λ x. (c.args.binders + c.args.readings) ∷ x ∷ []) (one_more c.args.binders c.args.readings))
    (in_reach c.args.binders c.args.readings _ c.requires.binders c.requires.readings) start
    c.in_err-two-in-LetIn.ensures)

pub tree-returns-in_err-two-in-Sum : goal.tree-returns-in_err-two-in-Sum
tree-returns-in_err-two-in-Sum t c =
    let p = err_from_is_err_and c.from_residual-in_err-two-in-Sum.result c.from_residual-in_err-two-in-Sum.ensures.1 in
    let start = begun_plain _ c.args.self.now c.open-at.new.self _ (Node.Sum 0 0) c.in-Sum.is refl tt
    c.in_ok-kind.ensures c.open-at.ensures.bytes c.open-at.ensures.place c.open-at.ensures.nodes in
    rw (p.1, p.2) (fault_below (c.args.binders + c.args.readings) _ _ _ _ (Node.Sum 0 0)
    ((c.args.binders + c.args.readings) ∷ (c.args.binders + c.args.readings) ∷ []) refl
    (in_reach c.args.binders c.args.readings _ c.requires.binders c.requires.readings) start
    c.in_err-two-in-Sum.ensures)

pub tree-returns-in_err-two-in-AtMost : goal.tree-returns-in_err-two-in-AtMost
tree-returns-in_err-two-in-AtMost t c =
    let p = err_from_is_err_and c.from_residual-in_err-two-in-AtMost.result
    c.from_residual-in_err-two-in-AtMost.ensures.1 in
    let start = begun_plain _ c.args.self.now c.open-at.new.self _ (Node.AtMost 0 0) c.in-AtMost.is refl tt
    c.in_ok-kind.ensures c.open-at.ensures.bytes c.open-at.ensures.place c.open-at.ensures.nodes in
    rw (p.1, p.2) (fault_below (c.args.binders + c.args.readings) _ _ _ _ (Node.AtMost 0 0)
    ((c.args.binders + c.args.readings) ∷ (c.args.binders + c.args.readings) ∷ []) refl
    (in_reach c.args.binders c.args.readings _ c.requires.binders c.requires.readings) start
    c.in_err-two-in-AtMost.ensures)

pub tree-returns-in_err-then-in-IfElse : goal.tree-returns-in_err-then-in-IfElse
tree-returns-in_err-then-in-IfElse t c =
    let p = err_from_is_err_and c.from_residual-in_err-then-in-IfElse.result
    c.from_residual-in_err-then-in-IfElse.ensures.1 in
    let start = begun_plain _ c.args.self.now c.open-at.new.self _ (Node.IfElse 0 0 0) c.in-IfElse.is refl tt
    c.in_ok-kind.ensures c.open-at.ensures.bytes c.open-at.ensures.place c.open-at.ensures.nodes in
    rw (p.1, p.2) (fault_below (c.args.binders + c.args.readings) _ _ _ _ (Node.IfElse 0 0 0)
    ((c.args.binders + c.args.readings) ∷ (c.args.binders + c.args.readings) ∷
    (c.args.binders + c.args.readings) ∷ []) refl (in_reach c.args.binders c.args.readings _ c.requires.binders
    c.requires.readings) start (λ more. c.in_err-then-in-IfElse.ensures
    ((c.args.binders + c.args.readings) ∷ more)))

pub tree-returns-in_err-tree-in-IfElse : goal.tree-returns-in_err-tree-in-IfElse
tree-returns-in_err-tree-in-IfElse t c =
    let p = err_from_is_err_and c.from_residual-in_err-tree-in-IfElse.result
    c.from_residual-in_err-tree-in-IfElse.ensures.1 in
    let start = begun_plain _ c.args.self.now c.open-at.new.self _ (Node.IfElse 0 0 0) c.in-IfElse.is refl tt
    c.in_ok-kind.ensures c.open-at.ensures.bytes c.open-at.ensures.place c.open-at.ensures.nodes in
    let g = c.in_ok-then-in-IfElse.ensures in
    let few = c.requires.binders in
    let small = c.requires.readings in
    let long : length c.open-at.new.self.nodes.items ≡ length c.args.self.now.nodes.items + 1 = ap length start.nodes
    ∙ length-append c.args.self.now.nodes.items (Node.Number (pos 0) ∷ []) in
    rw (p.1, p.2) (fault_below (c.args.binders + c.args.readings) _ _ _ _ (Node.IfElse 0 0 0)
    ((c.args.binders + c.args.readings) ∷ (c.args.binders + c.args.readings) ∷
    (c.args.binders + c.args.readings) ∷ []) refl (in_reach c.args.binders c.args.readings _ c.requires.binders
    c.requires.readings) start
    (λ more. fault_after_two _ _ _ _ _ _ c.open-at.new.self c.two-in-IfElse.new.self g.1 g.2
    ((c.args.binders + c.args.readings) ∷ more) (omega arith) (omega arith) g.0 g.3
    (c.in_err-tree-in-IfElse.ensures more)))

pub tree-returns : goal.tree-returns
tree-returns t c =
    elim c.match-kind.branch [
      | tree-in-Number w ↦ (let start = begun (c.args.binders + c.args.readings) c.args.self.now c.open-at.new.self _
          (Node.Number w.four_bytes.result) w.in-Number.is c.in_ok-kind.ensures
          (subst (λ x. Stands x (c.args.self.now.place + 1) (four_bytes w.four_bytes.result)) c.open-at.ensures.bytes
          w.four_bytes.ensures.bytes) (search (rules, tests)) c.open-at.ensures.bytes c.open-at.ensures.place
          c.open-at.ensures.nodes in
          let end = done _ c.args.self.now c.match-kind.self c.open-at.new.self c.put.new.self _ _
          c.open-at.ensures.at w.self-is w.node-is c.put.ensures.bytes c.put.ensures.place c.put.ensures.nodes in
          read_leaf c.args.readings c.args.binders _ _ _ (Node.Number w.four_bytes.result) _
          (number w.four_bytes.result) start end refl refl start.opens.fine (λ root. root
          ∙ ap (λ k. Node.Number k) (to_z-of_z w32 w.four_bytes.result start.opens.fine)))
      | tree-in-False w ↦ (let start = begun_plain _ c.args.self.now c.open-at.new.self _ (Node.Truth false)
          w.in-False.is refl tt c.in_ok-kind.ensures c.open-at.ensures.bytes
          c.open-at.ensures.place c.open-at.ensures.nodes in
          let end = done _ c.args.self.now c.match-kind.self c.open-at.new.self c.put.new.self _ _
          c.open-at.ensures.at w.self-is w.node-is c.put.ensures.bytes c.put.ensures.place c.put.ensures.nodes in
          read_truth c.args.readings c.args.binders _ _ _ _ start end)
      | tree-in-True w ↦ (let start = begun_plain _ c.args.self.now c.open-at.new.self _ (Node.Truth true)
          w.in-True.is refl tt c.in_ok-kind.ensures c.open-at.ensures.bytes
          c.open-at.ensures.place c.open-at.ensures.nodes in
          let end = done _ c.args.self.now c.match-kind.self c.open-at.new.self c.put.new.self _ _
          c.open-at.ensures.at w.self-is w.node-is c.put.ensures.bytes c.put.ensures.place c.put.ensures.nodes in
          read_truth c.args.readings c.args.binders _ _ _ _ start end)
      | tree-in-Variable+in_ok-distance-in-Variable w ↦ (let d = w.in_ok-distance-in-Variable.field-0 in
          let told = w.in_ok-distance-in-Variable.ensures in
          let start = begun (c.args.binders + c.args.readings) c.args.self.now c.open-at.new.self _ (Node.Variable d)
          w.in-Variable.is c.in_ok-kind.ensures (subst (λ x. Stands x (c.args.self.now.place + 1) (two_bytes d))
          c.open-at.ensures.bytes told.1) told.0 c.open-at.ensures.bytes c.open-at.ensures.place
          c.open-at.ensures.nodes in
          let end = done _ c.args.self.now c.match-kind.self c.open-at.new.self c.put.new.self _ _
          c.open-at.ensures.at w.self-is w.node-is c.put.ensures.bytes c.put.ensures.place c.put.ensures.nodes in
          read_leaf c.args.readings c.args.binders _ _ _ (Node.Variable d) _ (variable d) start end refl refl
          start.opens.fine (λ root. root ∙ w.named-node.ensures))
      | tree-in-Function+in_ok-tree-in-Function w ↦ (let start = begun_plain _ c.args.self.now c.open-at.new.self _
          (Node.Function 0) w.in-Function.is refl tt
          c.in_ok-kind.ensures c.open-at.ensures.bytes c.open-at.ensures.place c.open-at.ensures.nodes in
          let end = done _ c.args.self.now c.match-kind.self w.tree.new.self c.put.new.self _ _ c.open-at.ensures.at
          w.self-is w.node-is c.put.ensures.bytes c.put.ensures.place c.put.ensures.nodes in
          let g = w.in_ok-tree-in-Function.ensures in read_body c.args.readings c.args.binders _ _ _ _ _ g.1 start end
          g.0 g.2 (ap (λ n. Node.Function (n + 1)) c.open-at.ensures.at))
      | tree-in-Application+in_ok-two-in-Application w ↦
          (let start = begun_plain _ c.args.self.now c.open-at.new.self _ (Node.Application 0 0) w.in-Application.is
          refl tt c.in_ok-kind.ensures c.open-at.ensures.bytes c.open-at.ensures.place c.open-at.ensures.nodes in
          let end = done _ c.args.self.now c.match-kind.self w.two.new.self c.put.new.self _ _ c.open-at.ensures.at
          w.self-is w.node-is c.put.ensures.bytes c.put.ensures.place c.put.ensures.nodes in
          let g = w.in_ok-two-in-Application.ensures in
          read_pair c.args.readings c.args.binders _ 6 _ _ _ _ _ (Node.Application 0 0) _ g.1 g.2
          (application g.1 g.2) refl start end g.0 g.3 refl refl (λ x y. (x, y))
          (λ second root x y. (
            root ∙ ap (λ n. Node.Application (n + 1) w.in_ok-two-in-Application.field-0)
                c.open-at.ensures.at ∙ ap (λ n. Node.Application (length c.args.self.now.nodes.items + 1) n) second,
            x,
            y,
          )))
      | tree-in-LetIn+in_ok-two-in-LetIn w ↦ (let start = begun_plain _ c.args.self.now c.open-at.new.self _
          (Node.LetIn 0 0) w.in-LetIn.is refl tt c.in_ok-kind.ensures
          c.open-at.ensures.bytes c.open-at.ensures.place c.open-at.ensures.nodes in
          let end = done _ c.args.self.now c.match-kind.self w.two-in-LetIn.new.self c.put.new.self _ _
          c.open-at.ensures.at w.self-is w.node-is c.put.ensures.bytes c.put.ensures.place c.put.ensures.nodes in
          let g = w.in_ok-two-in-LetIn.ensures in
          read_pair c.args.readings c.args.binders _ 7 _ _ _ _ _ (Node.LetIn 0 0) _ g.1 g.2 (let_in g.1 g.2) refl
          start end g.0 g.3 refl refl (λ x y. (
            x,
            subst (λ z. Proper z g.2) (sym (one_more c.args.binders c.args.readings)) y,
          ))
          (λ second root x y. (
            root ∙ ap (λ n. Node.LetIn (n + 1) w.in_ok-two-in-LetIn.field-0)
                c.open-at.ensures.at ∙ ap (λ n. Node.LetIn (length c.args.self.now.nodes.items + 1) n) second,
            x,
            y,
          )))
      | tree-in-Sum+in_ok-two-in-Sum w ↦ (let start = begun_plain _ c.args.self.now c.open-at.new.self _
          (Node.Sum 0 0) w.in-Sum.is refl tt c.in_ok-kind.ensures
          c.open-at.ensures.bytes c.open-at.ensures.place c.open-at.ensures.nodes in
          let end = done _ c.args.self.now c.match-kind.self w.two-in-Sum.new.self c.put.new.self _ _
          c.open-at.ensures.at w.self-is w.node-is c.put.ensures.bytes c.put.ensures.place c.put.ensures.nodes in
          let g = w.in_ok-two-in-Sum.ensures in
          read_pair c.args.readings c.args.binders _ 8 _ _ _ _ _ (Node.Sum 0 0) _ g.1 g.2 (sum g.1 g.2) refl start end
          g.0 g.3 refl refl (λ x y. (x, y))
          (λ second root x y. (
            root ∙ ap (λ n. Node.Sum (n + 1) w.in_ok-two-in-Sum.field-0) c.open-at.ensures.at
                ∙ ap (λ n. Node.Sum (length c.args.self.now.nodes.items + 1) n) second,
            x,
            y,
          )))
      | tree-in-AtMost+in_ok-two-in-AtMost w ↦ (let start = begun_plain _ c.args.self.now c.open-at.new.self _
          (Node.AtMost 0 0) w.in-AtMost.is refl tt c.in_ok-kind.ensures
          c.open-at.ensures.bytes c.open-at.ensures.place c.open-at.ensures.nodes in
          let end = done _ c.args.self.now c.match-kind.self w.two-in-AtMost.new.self c.put.new.self _ _
          c.open-at.ensures.at w.self-is w.node-is c.put.ensures.bytes c.put.ensures.place c.put.ensures.nodes in
          let g = w.in_ok-two-in-AtMost.ensures in
          read_pair c.args.readings c.args.binders _ 9 _ _ _ _ _ (Node.AtMost 0 0) _ g.1 g.2 (at_most g.1 g.2) refl
          start end g.0 g.3 refl refl (λ x y. (x, y))
          (λ second root x y. (
            root ∙ ap (λ n. Node.AtMost (n + 1) w.in_ok-two-in-AtMost.field-0)
                c.open-at.ensures.at ∙ ap (λ n. Node.AtMost (length c.args.self.now.nodes.items + 1) n) second,
            x,
            y,
          )))
      | tree-in-IfElse+in_ok-then-in-IfElse+in_ok-tree-in-IfElse w ↦
          (let start = begun_plain _ c.args.self.now c.open-at.new.self _ (Node.IfElse 0 0 0) w.in-IfElse.is refl tt
          c.in_ok-kind.ensures c.open-at.ensures.bytes c.open-at.ensures.place c.open-at.ensures.nodes in
          let end = done _ c.args.self.now c.match-kind.self w.tree-in-IfElse.new.self c.put.new.self _ _
          c.open-at.ensures.at w.self-is w.node-is c.put.ensures.bytes c.put.ensures.place c.put.ensures.nodes in
          let g = w.in_ok-then-in-IfElse.ensures in let k = w.in_ok-tree-in-IfElse.ensures in
          read_three c.args.readings c.args.binders _ _ _ _ _ w.two-in-IfElse.new.self _ _ _ g.1 g.2 k.1 start end
          g.0 g.3 k.0 k.2 c.open-at.ensures.at w.next-otherwise.ensures refl)
    ]

pub two-tree-requires-2 : goal.two-tree-requires-2
two-tree-requires-2 t c =
    let g = c.in_ok-tree.ensures in
    let same : length c.tree.new.self.bytes.now ≡ length c.args.self.now.bytes.now = ap length g.0 in
    let ends = g.2.ends in
    let counted = g.2.counted in
    let node = some_node g.1 in
    let byte = some_byte g.1 in
    let bound = c.requires.second in
    (omega arith, omega arith)

pub two-returns-in_err-tree-2 : goal.two-returns-in_err-tree-2
two-returns-in_err-tree-2 t c =
    let p = err_from_is_err_and c.from_residual-in_err-tree-2.result c.from_residual-in_err-tree-2.ensures.1 in
    let g = c.in_ok-tree.ensures in
    rw (p.1, p.2) (λ more. fault_after c.args.readings c.args.first _ _ c.args.self.now c.tree.new.self g.1 _
    (in_reach c.args.first c.args.readings _ c.requires.first c.requires.readings) g.0 g.2
    (c.in_err-tree-2.ensures more))

pub two-returns : goal.two-returns
two-returns t c =
    let g = c.in_ok-tree.ensures in
    let h = c.in_ok-tree-2.ensures in
    read_two _ _ _ _ c.args.self.now c.tree.new.self c.tree-2.new.self g.1 h.1 g.0 g.2 h.0 h.2 c.next-at.ensures
