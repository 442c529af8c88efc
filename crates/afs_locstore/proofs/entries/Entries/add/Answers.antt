use Rattle.std.proofs.Common.{◌≡◌, ◌∙◌, ℕ, List, None, ap, sym, subst}
use Rattle.std.specs.Str.{bytes_eq}
use Rattle.spec_ideal.specs.Directories.{bytes_below}
use Rattle.spec_ideal.specs.Tables.{get, set}
use Rattle.afs_locstore.specs.Indexed.{with_pair}
use Rattle.afs_locstore.specs.Listings.{Listings}
use Rattle.afs_locstore.proofs.Listed.{indexed_as, with_one}
use Rattle.afs_locstore.proofs.entries.Entries.add.Goals as goal

pub invariant_of-self : goal.invariant_of-self
invariant_of-self c =
    let l = c.args.placed.listed in
    indexed_as _ _ _ _ _ _
    (c.in-Ok.ensures.ok ∙ ap (λ (n : ℕ). set n l c.self.inside.listed.table) c.number_of-number.ensures)
    c.put_numbers.ensures.pairs
    (c.put.ensures.pairs
    ∙ (ap (λ (n : ℕ). with_pair bytes_below bytes_eq c.args.placed.name n c.self.inside.names.pairs) c.number_of-number.ensures
    ∙ ap (λ (name : List ℕ). with_pair bytes_below bytes_eq name l.entry.read_write c.self.inside.names.pairs) c.requires.can.titled))
    (with_one l _ _ _ c.self.invariant c.requires.can.fits (subst (λ (v : Listings). get l.entry.read_write v.table ≡ None) (sym c.self.view_is) c.requires.absent))
