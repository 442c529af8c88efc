use Rattle.std.proofs.Common.{◌≡◌, ◌++◌, ◌∷◌, [], ◌∙◌, List, refl, ap, sym, map}
use Rattle.afs_num.specs.declared.histories.Version.{Version}
use Rattle.afs_num.specs.declared.volumes.VolumeHead.{VolumeHead}
use Rattle.spec_ideal.specs.Tables.{get}
use Rattle.spec_ideal.specs.Volumes.{gone_at}
use Rattle.afs_volume.specs.Seen.{seen}
use Rattle.afs_vnode.specs.Stores.{Held}
use Rattle.afs_memory.specs.Telling.{version_within}
use Rattle.afs_shelves.proofs.Lists.{on_ok}
use Rattle.afs_memory.proofs.Told.{told_gone, told_none}
use Rattle.afs_memory.proofs.lines.tell_gone.Goals as goal

pub returns-in-Some : goal.returns-in-Some
returns-in-Some c =
    on_ok c.push.result (c.push.new.self ≡ c.args.versions.now ++ c.gone.result ∷ []) _
    (λ pushed. pushed ∙ ap (λ (l : List Version). c.args.versions.now ++ l) (ap (λ (v : Version). v ∷ []) (c.gone.ensures ∙ ap (λ (h : VolumeHead). version_within (gone_at h.id c.args.number (seen c.in-Some.x.now))) c.head.ensures.value) ∙ sym (ap (map version_within) (told_gone c.args.volume.now.head.id c.args.number c.args.volume.now.vnodes.table c.in-Some.x.now (ap (λ (s : Held). get c.args.number s.table) (sym c.vnodes.ensures) ∙ sym c.in-Some.ensures.value)))))
    c.push.ensures.ok

pub returns-in-None : goal.returns-in-None
returns-in-None c = sym (ap (λ (l : List Version). c.args.versions.now ++ map version_within l) (told_none c.args.volume.now.head.id c.args.number c.args.volume.now.vnodes.table (ap (λ (s : Held). get c.args.number s.table) (sym c.vnodes.ensures) ∙ sym c.in-None.ensures.value)) ∙ append_nothing c.args.versions.now)
  where
    append_nothing : (l : List Version) → l ++ [] ≡ l
    append_nothing [] = refl
    append_nothing (v ∷ vs) = ap (λ (r : List Version). v ∷ r) (append_nothing vs)
