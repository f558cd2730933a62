use Rattle.std.proofs.Common.{arith, rules, tests}
use Rattle.store.proofs.Filled.{all_filled}
use Rattle.linked.specs.Walk.{blank_cell}
use Rattle.linked.proofs.Telling.{blanks_told, blanks_spare, blanked}
use Rattle.linked.proofs.linked.LinkedStoreStore.clear.Goals as goal

pub invariant_of-self : goal.invariant_of-self
invariant_of-self g c =
    let blank = g.T.Blank.unwritten in
    let front = all_filled (blank_cell blank) (λ p x q s. search (rules, tests)) _ _ _ c.fill_with.ensures.ran.1 in
    let all = blanked blank c.fill_with.new.self c.args.self.now.cells.now c.args.self.now.made front
    c.args.self.now.spare in
    record {
      inside = omega arith;
      told = blanks_told blank _ _ all;
      spare = blanks_spare blank _ _ _ all;
    }

pub returns-clause-wiped : goal.returns-clause-wiped
returns-clause-wiped g c =
    let blank = g.T.Blank.unwritten in
    let front = all_filled (blank_cell blank) (λ p x q s. search (rules, tests)) _ _ _ c.fill_with.ensures.ran.1 in
    blanked blank c.fill_with.new.self c.args.self.now.cells.now c.args.self.now.made front c.args.self.now.spare
