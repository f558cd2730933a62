-- What is told of a record.
use Rattle.std.specs.Prelude.{◌≡◌, ℕ, List, Ok, Err, Result}
use Rattle.syntax.specs.Tree.{Tree, nodes}
use Rattle.typing.specs.Faults.{number_of, place_of}
use Rattle.typing.specs.Judging.{Judgement, accepted, refused}
use Rattle.verdicts.specs.declared.verdict.Accepted.{Accepted}
use Rattle.verdicts.specs.declared.verdict.Refused.{Refused}

-- how many nodes and readings the accepted rule has, or why the record is refused: the judgement on these bytes, with
-- work tables that are long enough for every rule and room for 65,536 entries of a type
abbrev pub Told : List ℕ → Result Accepted Refused → Type 0
Told s (Ok rule) = (t : Tree) × (w : List ℕ) × Judgement s 1538 1538 65536 (accepted rule.readings t w)
    × (rule.nodes ≡ nodes t)
Told s (Err r) = (r.record.now ≡ s) × Judgement s 1538 1538 65536 (refused (number_of r.fault) (place_of r.fault))
