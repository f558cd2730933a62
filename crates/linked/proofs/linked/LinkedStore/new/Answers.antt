use Rattle.std.proofs.Common.{arith, rules, tests}
use Rattle.store.proofs.Filled.{filled}
use Rattle.linked.specs.Walk.{blank_cell}
use Rattle.linked.proofs.Telling.{blanks_told, blanks_spare}
use Rattle.linked.proofs.linked.LinkedStore.new.Goals as goal

pub invariant_of-result : goal.invariant_of-result
invariant_of-result g c =
    let blank = blank_cell g.T.Blank.unwritten in
    let all = filled blank _ (λ p x q s. search (rules, tests)) _ _ _ c.fill_with.ensures.len
    c.fill_with.ensures.ran.1 in
    record {
      inside = omega arith;
      told = blanks_told g.T.Blank.unwritten _ _ all;
      spare = blanks_spare g.T.Blank.unwritten _ _ _ all;
    }

pub returns-clause-wiped : goal.returns-clause-wiped
returns-clause-wiped g c = filled (blank_cell g.T.Blank.unwritten) _ (λ p x q s. search (rules, tests)) _ _ _
    c.fill_with.ensures.len c.fill_with.ensures.ran.1
