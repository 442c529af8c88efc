use Rattle.afs_text.proofs.acts.+put_octal.Given as goal

abbrev pub decreases-put_octal : goal.decreases-put_octal
decreases-put_octal g l = l.n
