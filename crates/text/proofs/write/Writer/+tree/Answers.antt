use Rattle.std.proofs.Common.{◌≡◌, ◌≤◌, length, sym, ap, ◌∙◌, subst, arith, w32, to_z, of_z, rules}
use Rattle.syntax.specs.Record.{two_bytes, four_bytes}
use Rattle.syntax.specs.Kinds.{byte_of, kind_of}
use Rattle.syntax.proofs.Complement.{bytes_of, four_bytes_are}
use Rattle.syntax.specs.declared.node.Node.TheVariants.{Number, Variable}
use Rattle.nodes.specs.Nodes.{at}
use Rattle.text.specs.Writing.{Put}
use Rattle.text.proofs.Writes.{encode_some, HasTwo, no_reading, leaf_fits, leaf_wrote, truth_wrote, body_fits}
use Rattle.text.proofs.Writes.{body_wrote, first_fits, second_fits, both_wrote, condition_fits, then_fits, else_fits}
use Rattle.text.proofs.Writes.{all_wrote}
use Rattle.text.proofs.write.Writer.+tree.Goals as goal

pub put-requires : goal.put-requires
put-requires t c = omega (arith, c.requires.3, encode_some c.requires.0)

pub put-requires-in-Number : goal.put-requires-in-Number
put-requires-in-Number t c =
    let ns = c.args.nodes.now in
    let i = c.args.root in
    let w = c.args.self.now in
    let w₁ = c.put.new.self in
    let here : at ns i ≡ at ns c.from.result = ap (at ns) (sym c.from.ensures) in
    let own : c.from-2.result ≡ byte_of (kind_of (at ns i)) = c.from-2.ensures ∙ ap byte_of c.kind.ensures
    ∙ ap (λ n. byte_of (kind_of n)) (sym here) in
    let k = c.in-Number.number in
    let z : to_z w32 (of_z w32 k) ≡ k = search rules in
    let bytes : c.to_be_bytes.result ≡ four_bytes k = c.to_be_bytes.ensures ∙ ap (λ x. bytes_of (of_z w32 x)) z
    ∙ four_bytes_are k in
    let fits = leaf_fits ns i c.from-2.result own w w₁ c.put.ensures.put (Number k) (four_bytes k) (here
    ∙ c.in-Number.is) (λ u s. s) c.requires in
    omega (arith, fits, ap length bytes)

pub put-requires-in-Variable : goal.put-requires-in-Variable
put-requires-in-Variable t c =
    let ns = c.args.nodes.now in
    let i = c.args.root in
    let w = c.args.self.now in
    let w₁ = c.put.new.self in
    let here : at ns i ≡ at ns c.from.result = ap (at ns) (sym c.from.ensures) in
    let own : c.from-2.result ≡ byte_of (kind_of (at ns i)) = c.from-2.ensures ∙ ap byte_of c.kind.ensures
    ∙ ap (λ n. byte_of (kind_of n)) (sym here) in
    let d = c.in-Variable.distance in
    let fits = leaf_fits ns i c.from-2.result own w w₁ c.put.ensures.put (Variable d) (two_bytes d) (here
    ∙ c.in-Variable.is) (λ u s. s) c.requires in
    omega (arith, fits, ap length c.two_bytes.ensures)

pub unreachable-requires : goal.unreachable-requires
unreachable-requires t c =
    let ns = c.args.nodes.now in
    let i = c.args.root in
    let w = c.args.self.now in
    let w₁ = c.put.new.self in
    let here : at ns i ≡ at ns c.from.result = ap (at ns) (sym c.from.ensures) in
    let own : c.from-2.result ≡ byte_of (kind_of (at ns i)) = c.from-2.ensures ∙ ap byte_of c.kind.ensures
    ∙ ap (λ n. byte_of (kind_of n)) (sym here) in
    no_reading ns i c.from-2.result own w w₁ c.put.ensures.put _ (here ∙ c.in-Reading.is) c.requires

pub tree-requires : goal.tree-requires
tree-requires t c =
    let ns = c.args.nodes.now in
    let i = c.args.root in
    let w = c.args.self.now in
    let w₁ = c.put.new.self in
    let here : at ns i ≡ at ns c.from.result = ap (at ns) (sym c.from.ensures) in
    let own : c.from-2.result ≡ byte_of (kind_of (at ns i)) = c.from-2.ensures ∙ ap byte_of c.kind.ensures
    ∙ ap (λ n. byte_of (kind_of n)) (sym here) in
    let x = body_fits ns i c.from-2.result own w w₁ c.put.ensures.put c.in-Function.body (here ∙ c.in-Function.is)
    c.requires in
    (omega (arith, c.decreases, x.0), x.1)

pub tree-requires-in-IfElse : goal.tree-requires-in-IfElse
tree-requires-in-IfElse t c =
    let ns = c.args.nodes.now in
    let i = c.args.root in
    let w = c.args.self.now in
    let w₁ = c.put.new.self in
    let here : at ns i ≡ at ns c.from.result = ap (at ns) (sym c.from.ensures) in
    let own : c.from-2.result ≡ byte_of (kind_of (at ns i)) = c.from-2.ensures ∙ ap byte_of c.kind.ensures
    ∙ ap (λ n. byte_of (kind_of n)) (sym here) in
    let x = condition_fits ns i c.from-2.result own w w₁ c.put.ensures.put c.in-IfElse.condition c.in-IfElse.then
    c.in-IfElse.otherwise (here ∙ c.in-IfElse.is) c.requires in
    (omega (arith, c.decreases, x.0), x.1)

pub tree-requires-in-IfElse-2 : goal.tree-requires-in-IfElse-2
tree-requires-in-IfElse-2 t c =
    let ns = c.args.nodes.now in
    let i = c.args.root in
    let w = c.args.self.now in
    let w₁ = c.put.new.self in
    let here : at ns i ≡ at ns c.from.result = ap (at ns) (sym c.from.ensures) in
    let own : c.from-2.result ≡ byte_of (kind_of (at ns i)) = c.from-2.ensures ∙ ap byte_of c.kind.ensures
    ∙ ap (λ n. byte_of (kind_of n)) (sym here) in
    let x = then_fits ns i c.from-2.result own w w₁ c.put.ensures.put c.in-IfElse.condition c.in-IfElse.then
    c.in-IfElse.otherwise (here ∙ c.in-IfElse.is) c.requires c.tree-in-IfElse.new.self
    c.tree-in-IfElse.ensures.wrote in
    (omega (arith, c.decreases, x.0), x.1)

pub tree-requires-in-IfElse-3 : goal.tree-requires-in-IfElse-3
tree-requires-in-IfElse-3 t c =
    let ns = c.args.nodes.now in
    let i = c.args.root in
    let w = c.args.self.now in
    let w₁ = c.put.new.self in
    let here : at ns i ≡ at ns c.from.result = ap (at ns) (sym c.from.ensures) in
    let own : c.from-2.result ≡ byte_of (kind_of (at ns i)) = c.from-2.ensures ∙ ap byte_of c.kind.ensures
    ∙ ap (λ n. byte_of (kind_of n)) (sym here) in
    let x = else_fits ns i c.from-2.result own w w₁ c.put.ensures.put c.in-IfElse.condition c.in-IfElse.then
    c.in-IfElse.otherwise (here ∙ c.in-IfElse.is) c.requires c.tree-in-IfElse.new.self
    c.tree-in-IfElse.ensures.wrote c.tree-in-IfElse-2.new.self c.tree-in-IfElse-2.ensures.wrote in
    (omega (arith, c.decreases, x.0), x.1)

pub tree-requires-in-Application : goal.tree-requires-in-Application
tree-requires-in-Application t c =
    let ns = c.args.nodes.now in
    let i = c.args.root in
    let w = c.args.self.now in
    let w₁ = c.put.new.self in
    let here : at ns i ≡ at ns c.from.result = ap (at ns) (sym c.from.ensures) in
    let own : c.from-2.result ≡ byte_of (kind_of (at ns i)) = c.from-2.ensures ∙ ap byte_of c.kind.ensures
    ∙ ap (λ n. byte_of (kind_of n)) (sym here) in
    let x = first_fits ns i c.from-2.result own w w₁ c.put.ensures.put c.in-Application.first c.in-Application.second
    (subst (λ n. HasTwo n c.in-Application.first c.in-Application.second) (sym here) c.in-Application.is)
    c.requires in
    (omega (arith, c.decreases, x.0), x.1)

pub tree-requires-in-Application-2 : goal.tree-requires-in-Application-2
tree-requires-in-Application-2 t c =
    let ns = c.args.nodes.now in
    let i = c.args.root in
    let w = c.args.self.now in
    let w₁ = c.put.new.self in
    let here : at ns i ≡ at ns c.from.result = ap (at ns) (sym c.from.ensures) in
    let own : c.from-2.result ≡ byte_of (kind_of (at ns i)) = c.from-2.ensures ∙ ap byte_of c.kind.ensures
    ∙ ap (λ n. byte_of (kind_of n)) (sym here) in
    let x = second_fits ns i c.from-2.result own w w₁ c.put.ensures.put c.in-Application.first c.in-Application.second
    (subst (λ n. HasTwo n c.in-Application.first c.in-Application.second) (sym here) c.in-Application.is)
    c.tree-in-Application.new.self c.tree-in-Application.ensures.wrote c.requires in
    (omega (arith, c.decreases, x.0), x.1)

pub returns-in-Number-clause-wrote : goal.returns-in-Number-clause-wrote
returns-in-Number-clause-wrote t c =
    let ns = c.args.nodes.now in
    let i = c.args.root in
    let w = c.args.self.now in
    let w₁ = c.put.new.self in
    let here : at ns i ≡ at ns c.from.result = ap (at ns) (sym c.from.ensures) in
    let own : c.from-2.result ≡ byte_of (kind_of (at ns i)) = c.from-2.ensures ∙ ap byte_of c.kind.ensures
    ∙ ap (λ n. byte_of (kind_of n)) (sym here) in
    let le : w.at ≤ length w.out.now = omega (arith, c.requires.3) in
    let k = c.in-Number.number in
    let z : to_z w32 (of_z w32 k) ≡ k = search rules in
    let bytes : c.to_be_bytes.result ≡ four_bytes k = c.to_be_bytes.ensures ∙ ap (λ x. bytes_of (of_z w32 x)) z
    ∙ four_bytes_are k in
    leaf_wrote ns i c.from-2.result own w w₁ c.put.ensures.put c.put-in-Number.new.self (Number k) (four_bytes k)
    (here ∙ c.in-Number.is) (λ u s. s) le (subst (Put w₁ c.put-in-Number.new.self) bytes
    c.put-in-Number.ensures.put)

pub returns-in-Truth-clause-wrote : goal.returns-in-Truth-clause-wrote
returns-in-Truth-clause-wrote t c =
    let ns = c.args.nodes.now in
    let i = c.args.root in
    let w = c.args.self.now in
    let w₁ = c.put.new.self in
    let here : at ns i ≡ at ns c.from.result = ap (at ns) (sym c.from.ensures) in
    let own : c.from-2.result ≡ byte_of (kind_of (at ns i)) = c.from-2.ensures ∙ ap byte_of c.kind.ensures
    ∙ ap (λ n. byte_of (kind_of n)) (sym here) in
    truth_wrote ns i c.from-2.result own w w₁ c.put.ensures.put c.in-Truth.field-0 (here ∙ c.in-Truth.is)

pub returns-in-Variable-clause-wrote : goal.returns-in-Variable-clause-wrote
returns-in-Variable-clause-wrote t c =
    let ns = c.args.nodes.now in
    let i = c.args.root in
    let w = c.args.self.now in
    let w₁ = c.put.new.self in
    let here : at ns i ≡ at ns c.from.result = ap (at ns) (sym c.from.ensures) in
    let own : c.from-2.result ≡ byte_of (kind_of (at ns i)) = c.from-2.ensures ∙ ap byte_of c.kind.ensures
    ∙ ap (λ n. byte_of (kind_of n)) (sym here) in
    let le : w.at ≤ length w.out.now = omega (arith, c.requires.3) in
    let d = c.in-Variable.distance in
    leaf_wrote ns i c.from-2.result own w w₁ c.put.ensures.put c.put-in-Variable.new.self (Variable d) (two_bytes d)
    (here ∙ c.in-Variable.is) (λ u s. s) le (subst (Put w₁ c.put-in-Variable.new.self) c.two_bytes.ensures
    c.put-in-Variable.ensures.put)

pub returns-in-Function-clause-wrote : goal.returns-in-Function-clause-wrote
returns-in-Function-clause-wrote t c =
    let ns = c.args.nodes.now in
    let i = c.args.root in
    let w = c.args.self.now in
    let w₁ = c.put.new.self in
    let here : at ns i ≡ at ns c.from.result = ap (at ns) (sym c.from.ensures) in
    let own : c.from-2.result ≡ byte_of (kind_of (at ns i)) = c.from-2.ensures ∙ ap byte_of c.kind.ensures
    ∙ ap (λ n. byte_of (kind_of n)) (sym here) in
    let le : w.at ≤ length w.out.now = omega (arith, c.requires.3) in
    body_wrote ns i c.from-2.result own w w₁ c.put.ensures.put c.in-Function.body (here ∙ c.in-Function.is)
    c.tree.new.self le c.tree.ensures.wrote

pub returns-in-IfElse-clause-wrote : goal.returns-in-IfElse-clause-wrote
returns-in-IfElse-clause-wrote t c =
    let ns = c.args.nodes.now in
    let i = c.args.root in
    let w = c.args.self.now in
    let w₁ = c.put.new.self in
    let here : at ns i ≡ at ns c.from.result = ap (at ns) (sym c.from.ensures) in
    let own : c.from-2.result ≡ byte_of (kind_of (at ns i)) = c.from-2.ensures ∙ ap byte_of c.kind.ensures
    ∙ ap (λ n. byte_of (kind_of n)) (sym here) in
    let le : w.at ≤ length w.out.now = omega (arith, c.requires.3) in
    all_wrote ns i c.from-2.result own w w₁ c.put.ensures.put c.in-IfElse.condition c.in-IfElse.then
    c.in-IfElse.otherwise (here ∙ c.in-IfElse.is) c.tree-in-IfElse.new.self c.tree-in-IfElse-2.new.self
    c.tree-in-IfElse-3.new.self le c.tree-in-IfElse.ensures.wrote c.tree-in-IfElse-2.ensures.wrote
    c.tree-in-IfElse-3.ensures.wrote

pub returns-in-Application-clause-wrote : goal.returns-in-Application-clause-wrote
returns-in-Application-clause-wrote t c =
    let ns = c.args.nodes.now in
    let i = c.args.root in
    let w = c.args.self.now in
    let w₁ = c.put.new.self in
    let here : at ns i ≡ at ns c.from.result = ap (at ns) (sym c.from.ensures) in
    let own : c.from-2.result ≡ byte_of (kind_of (at ns i)) = c.from-2.ensures ∙ ap byte_of c.kind.ensures
    ∙ ap (λ n. byte_of (kind_of n)) (sym here) in
    let le : w.at ≤ length w.out.now = omega (arith, c.requires.3) in
    both_wrote ns i c.from-2.result own w w₁ c.put.ensures.put c.in-Application.first c.in-Application.second
    (subst (λ n. HasTwo n c.in-Application.first c.in-Application.second) (sym here) c.in-Application.is)
    c.tree-in-Application.new.self c.tree-in-Application.ensures.wrote c.tree-in-Application-2.new.self le
    c.tree-in-Application-2.ensures.wrote
