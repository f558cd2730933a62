use Rattle.sending.proofs.Reading.{written_is_read}
use Rattle.sending.proofs.written_is_read.Goals as goal

pub returns : goal.returns
returns c = written_is_read
