-- What stands in the output buffer.
use Rattle.std.specs.Prelude.{◌≡◌, ℕ, ◌+◌, ◌<◌, ◌≤◌, List, ◌++◌, length, take, drop}
use Rattle.syntax.specs.Tree.{Tree}
use Rattle.syntax.specs.Record.{encode}
use Rattle.syntax.specs.declared.node.Node.{Node}
use Rattle.nodes.specs.Nodes.{Holds}
use Rattle.text.specs.declared.write.Writer.{Writer}

-- bytes written over a buffer from a place on
abbrev pub written : List ℕ → ℕ → List ℕ → List ℕ
written out from bytes = take from out ++ (bytes ++ drop (from + length bytes) out)

-- bytes were put behind those that were written, and nothing else
abbrev pub Put : Writer → Writer → List ℕ → Type 0
Put before after bytes = (after.at ≡ before.at + length bytes)
    × (after.out.now ≡ written before.out.now before.at bytes)

-- the nodes hold a tree whose bytes fit
abbrev pub Fits : List Node → ℕ → Writer → Type 0
Fits nodes root writer = (t : Tree) × (root < length nodes) × Holds nodes root t
    × (writer.at + length (encode t) ≤ length writer.out.now)

-- the tree is written, and nothing else
abbrev pub Wrote : List Node → ℕ → Writer → Writer → Type 0
Wrote nodes root before after = (t : Tree) → Holds nodes root t → Put before after (encode t)
