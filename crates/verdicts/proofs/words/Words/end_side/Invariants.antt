-- Each turn ends an open arrow.
use Rattle.std.proofs.Common.{vec_len}
use Rattle.verdicts.proofs.words.Words.end_side.Given as goal

abbrev pub decreases-loop-arrow : goal.decreases-loop-arrow
decreases-loop-arrow l = vec_len l.self.open
