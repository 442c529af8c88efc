use Rattle.std.proofs.Common.{◌≡◌, ap, subst, sym, ◌∙◌, Some, None}
use Rattle.std.specs.Option.{option_map}
use Rattle.afs_num.specs.declared.types.Fid.{Fid}
use Rattle.afs_entries.specs.declared.cache.Slot.{Slot}
use Rattle.afs_entries.specs.declared.cache.Entry.{Entry}
use Rattle.afs_entries.specs.Cached.{Kept, fid_in, last_fid}
use Rattle.afs_entries.proofs.Evicting.{last_is}
use Rattle.afs_entries.proofs.cache.Cache.last.Goals as goal

pub returns-in-Some : goal.returns-in-Some
returns-in-Some c =
    subst (λ (k : Kept). Some c.fid_of.result ≡ last_fid k.entries) c.self.view_is
    (ap (λ (f : Fid). Some f) c.fid_of.ensures ∙ (ap (option_map (λ (p : Slot × Entry). fid_in p.0)) c.in-Some.ensures ∙ sym (last_is c.self.inside.entries.entries)))

pub returns-in-None : goal.returns-in-None
returns-in-None c =
    subst (λ (k : Kept). None ≡ last_fid k.entries) c.self.view_is
    (ap (option_map (λ (p : Slot × Entry). fid_in p.0)) c.in-None.ensures ∙ sym (last_is c.self.inside.entries.entries))
