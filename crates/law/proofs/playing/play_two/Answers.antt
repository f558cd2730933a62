use Rattle.law.proofs.Following.{law_of}
use Rattle.law.proofs.playing.play_two.Goals as goal

pub returns-clause-law : goal.returns-clause-law
returns-clause-law g c r q t u is also = law_of _ _ (c.play.ensures.law r t is) (c.play-2.ensures.law q u also)
