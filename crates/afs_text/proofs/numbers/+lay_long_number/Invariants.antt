use Rattle.afs_text.proofs.numbers.+lay_long_number.Given as goal

abbrev pub decreases-lay_long_number : goal.decreases-lay_long_number
decreases-lay_long_number l = l.n
