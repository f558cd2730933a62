use Rattle.text.proofs.write.Writer.+tree.Given as goal

abbrev pub decreases-tree : goal.decreases-tree
decreases-tree l = l.root
