use Rattle.std.proofs.Common.{rules}
use Rattle.grammar.specs.Names.{same}
use Rattle.std.proofs.lemmas.Slice.Eq.{slice_eq-Decides, compares_Decides}
use Rattle.std.proofs.lemmas.Bool.Decides.{same_from_decides, Decides-eqb}
use Rattle.book.proofs.name.same_bytes.Goals as goal

pub returns : goal.returns
returns c =
    let a = c.args.a.now in
    let b = c.args.b.now in
    same_from_decides c.eq.result (same a b) (slice_eq-Decides Decides-eqb a b c.eq.result c.eq.ensures)
    (compares_Decides same (search rules) a b)
