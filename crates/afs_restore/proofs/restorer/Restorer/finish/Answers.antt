use Rattle.std.proofs.Common.{◌≡◌, ℕ, ◌∙◌, None, ap, subst, sym, rules}
use Rattle.std.specs.Prelude.{Err, Some}
use Rattle.afs_volume.specs.Taking.{stored_of}
use Rattle.afs_volume.specs.declared.faults.AssembleFault.{AssembleFault}
use Rattle.afs_restore.specs.Parts.{dump_in}
use Rattle.afs_restore.specs.Restoring.{MakesVolume}
use Rattle.afs_restore.specs.declared.steps.Step.TheVariants as steps
use Rattle.afs_restore.proofs.Finished.{is_whole, none_refused, refused_seen, whole_fits, whole_seen}
use Rattle.afs_restore.proofs.restorer.Restorer.finish.Goals as goal

pub returns-in-Some-clause-bad : goal.returns-in-Some-clause-bad
returns-in-Some-clause-bad c = λ offset e.
    let r = c.self.inside in
    let same : c.in-Some.offset ≡ offset = cc in
    refused_seen r.step r.parts r.pending.items c.args.self.now c.args.old.now.head.id r.length r.short c.in-Some.offset (stored_of c.args.old.now) r.refused c.in-Some.is c.self.view_is c.self.invariant
    ∙ ap (λ (n : ℕ). Err n) same

pub made-requires : goal.made-requires
made-requires c =
    let r = c.self.inside in
    let end : r.step ≡ steps.End = search rules in
    let whole = is_whole r.step r.parts r.pending.items r.length r.short r.refused (none_refused r.refused c.in_default.not-Some) end c.self.invariant in
    whole_fits r.parts r.pending.items r.length r.short whole

pub returns-in-Ok-clause-ok : goal.returns-in-Ok-clause-ok
returns-in-Ok-clause-ok c =
    let r = c.self.inside in
    let end : r.step ≡ steps.End = search rules in
    let whole = is_whole r.step r.parts r.pending.items r.length r.short r.refused (none_refused r.refused c.in_default.not-Some) end c.self.invariant in
    whole_seen r.step r.parts r.pending.items c.args.self.now c.args.old.now.head.id r.length r.short (stored_of c.args.old.now) (Some (stored_of c.in-Ok.volume)) end c.self.view_is whole c.in-Ok.ensures.value

pub returns-in-Err-NotSound-clause-bad : goal.returns-in-Err-NotSound-clause-bad
returns-in-Err-NotSound-clause-bad c = λ offset e.
    let r = c.self.inside in
    let end : r.step ≡ steps.End = search rules in
    let whole = is_whole r.step r.parts r.pending.items r.length r.short r.refused (none_refused r.refused c.in_default.not-Some) end c.self.invariant in
    let same : c.saturating_sub-in-Err-NotSound.result ≡ offset = cc in
    whole_seen r.step r.parts r.pending.items c.args.self.now c.args.old.now.head.id r.length r.short (stored_of c.args.old.now) None end c.self.view_is whole
    (subst (λ (f : AssembleFault). MakesVolume (dump_in r.parts) c.args.old.now (Err f)) c.in-Err-NotSound.field-0-is c.in-Err-NotSound.ensures.value)
    ∙ ap (λ (n : ℕ). Err n) (sym c.saturating_sub-in-Err-NotSound.ensures ∙ same)
