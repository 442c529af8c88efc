use Rattle.std.proofs.Common.{List, ℕ, subst, sym}
use Rattle.afs_xdr.specs.Words.{IsBytes}
use Rattle.spec_ideal.specs.Images.{Image}
use Rattle.afs_restore.specs.Filling.{IsMade}
use Rattle.afs_restore.proofs.Good.{good_made}
use Rattle.afs_restore.proofs.restoring.given_copy.Goals as goal

pub returns-clause-made : goal.returns-clause-made
returns-clause-made c = subst (λ (y : Image). IsMade c.args.pair y) (sym c.in_ok-copy.ensures) (good_made c.args.pair c.args.x.now c.requires (subst (λ (bytes : List ℕ). IsBytes bytes) c.as_slice.ensures c.are_bytes.ensures))
