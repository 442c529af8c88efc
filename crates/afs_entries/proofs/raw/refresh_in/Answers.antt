use Rattle.std.proofs.Common.{◌≡◌, ap, sym, ◌∙◌, map, Some, None, true, false}
use Rattle.std.specs.Map.{lookup, set_value}
use Rattle.afs_entries.specs.declared.cache.Slot.{Slot}
use Rattle.afs_entries.specs.declared.cache.Entry.{Entry}
use Rattle.afs_entries.specs.Cached.{cached, entry_at, made_of, same_slot, slot_of}
use Rattle.std.proofs.lemmas.Map.{length-set_value}
use Rattle.spec_rows.specs.ClientRow.{is_trusted}
use Rattle.afs_entries.proofs.Refreshing.{none, same_set, trusted, untrusted}
use Rattle.afs_entries.proofs.raw.refresh_in.Goals as goal

pub returns-then-is_trusted-clause-seen : goal.returns-then-is_trusted-clause-seen
returns-then-is_trusted-clause-seen c =
    let es = c.args.entries.now.entries in
    let f = c.args.fid.now in
    let v = c.in-Some.entry.now in
    let found : lookup (same_slot (slot_of f)) es ≡ Some v = ap (λ (s : Slot). lookup (same_slot s) es) (sym c.slot_for.ensures) ∙ sym c.in-Some.ensures.value in
    let late : is_trusted c.args.now (entry_at f v) ≡ true = sym (c.is_trusted.ensures f) ∙ c.if-is_trusted.true in
    ap (λ (s : Slot). map cached (set_value (same_slot s) es c.refresh.new.self)) c.slot_for.ensures
    ∙ (ap (λ (w : Entry). map cached (set_value (same_slot (slot_of f)) es w)) c.refresh.ensures
    ∙ sym (trusted c.args.now f c.args.index c.args.status (made_of c.args.contents) v es c.len-count.ensures.valid.0 found late))

pub returns-then-is_trusted-clause-long : goal.returns-then-is_trusted-clause-long
returns-then-is_trusted-clause-long c = length-set_value (same_slot c.slot_for.result) c.args.entries.now.entries c.refresh.new.self

pub returns-else-is_trusted-clause-seen : goal.returns-else-is_trusted-clause-seen
returns-else-is_trusted-clause-seen c =
    let es = c.args.entries.now.entries in
    let f = c.args.fid.now in
    let v = c.in-Some.entry.now in
    let found : lookup (same_slot (slot_of f)) es ≡ Some v = ap (λ (s : Slot). lookup (same_slot s) es) (sym c.slot_for.ensures) ∙ sym c.in-Some.ensures.value in
    let late : is_trusted c.args.now (entry_at f v) ≡ false = sym (c.is_trusted.ensures f) ∙ c.if-is_trusted.false in
    same_set (same_slot c.slot_for.result) v es (sym c.in-Some.ensures.value)
    ∙ sym (untrusted c.args.now f c.args.index c.args.status (made_of c.args.contents) v es c.len-count.ensures.valid.0 found late)

pub returns-else-is_trusted-clause-long : goal.returns-else-is_trusted-clause-long
returns-else-is_trusted-clause-long c = length-set_value (same_slot c.slot_for.result) c.args.entries.now.entries c.in-Some.entry.now

pub returns-in-None-clause-seen : goal.returns-in-None-clause-seen
returns-in-None-clause-seen c =
    let es = c.args.entries.now.entries in
    let f = c.args.fid.now in
    let missing : lookup (same_slot (slot_of f)) es ≡ None = ap (λ (s : Slot). lookup (same_slot s) es) (sym c.slot_for.ensures) ∙ sym c.in-None.ensures.value in
    sym (none c.args.now f c.args.index c.args.status (made_of c.args.contents) es missing)
