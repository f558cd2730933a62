use Rattle.std.proofs.Common.{◌+◌, ◌-◌, ◌*◌, length}
use Rattle.record.proofs.reader.Reader.+tree_two.Given as goal

-- what is left of the bytes; of two calls at one place, the inner one reads one tree
abbrev pub decreases-tree : goal.decreases-tree
decreases-tree l = 2 * (length l.self.now.bytes.now - l.self.now.place)

abbrev pub decreases-two : goal.decreases-two
decreases-two l = 2 * (length l.self.now.bytes.now - l.self.now.place) + 1
