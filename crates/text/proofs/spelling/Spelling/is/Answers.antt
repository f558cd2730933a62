use Rattle.text.specs.Spellings.{bytes_of}
use Rattle.text.proofs.Hashes.{other_hash}
use Rattle.text.proofs.spelling.Spelling.is.Goals as goal

pub returns-else-self-other : goal.returns-else-self-other
returns-else-self-other c =
    let x = c.args.self.now in
    let y = c.args.other.now in
    other_hash (bytes_of x.name) (bytes_of y.name) x.hash y.hash x.hashed y.hashed c.if-self-other.false
