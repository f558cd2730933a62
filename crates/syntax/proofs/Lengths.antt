-- How long a record is.
use Rattle.std.proofs.Common.{ℕ, ◌+◌, ◌*◌, ◌≤◌, true, false, length, arith, length-append, ◌++◌}
use Rattle.syntax.specs.Tree.{Tree, nodes, number, truth, variable, function, application, let_in, sum, at_most}
use Rattle.syntax.specs.Tree.{if_else}
use Rattle.syntax.specs.Record.{encode, record_of}

-- a node has at most 5 bytes
encode_at_most : (t : Tree) → length (encode t) ≤ 5 * nodes t
encode_at_most (number k) = omega arith
encode_at_most (truth true) = omega arith
encode_at_most (truth false) = omega arith
encode_at_most (variable d) = omega arith
encode_at_most (function b) = omega (arith, encode_at_most b)
encode_at_most (application f a) = omega (
  arith,
  length-append (encode f) (encode a),
  encode_at_most f,
  encode_at_most a,
)
encode_at_most (let_in e b) = omega (arith, length-append (encode e) (encode b), encode_at_most e, encode_at_most b)
encode_at_most (sum l r) = omega (arith, length-append (encode l) (encode r), encode_at_most l, encode_at_most r)
encode_at_most (at_most l r) = omega (arith, length-append (encode l) (encode r), encode_at_most l, encode_at_most r)
encode_at_most (if_else c t e) =
    omega (
      arith,
      length-append (encode c) (encode t ++ encode e),
      length-append (encode t) (encode e),
      encode_at_most c,
      encode_at_most t,
      encode_at_most e,
    )

pub record_at_most : (r : ℕ) (t : Tree) → length (record_of r t) ≤ 4 + 5 * nodes t
record_at_most r t = omega (arith, encode_at_most t)
