use Rattle.std.proofs.Common.{◌≡◌, subst, sym, ap, ◌∙◌, ◌++◌, ◌∷◌, List, map}
use Rattle.std.specs.List.{IsDistinct}
use Rattle.std.specs.Map.{keys_of}
use Rattle.spec_rows.specs.States.{CacheEntry}
use Rattle.afs_entries.specs.declared.cache.Slot.{Slot}
use Rattle.afs_entries.specs.declared.cache.Entry.{Entry}
use Rattle.afs_entries.specs.Cached.{cached, left, same_slot}
use Rattle.afs_entries.proofs.Leaving.{apart_on, is_next, left_end, left_on}
use Rattle.afs_entries.proofs.copies.copy_left.Goals as goal

pub copy_one-requires-clause-missing : goal.copy_one-requires-clause-missing
copy_one-requires-clause-missing c = is_next c.args.drops.now (c.in-Some.slot.now, c.in-Some.entry.now) c.loop-slot.copies.entries c.loop-slot.pairs c.next.new.self c.in-Some.ensures.steps c.loop-slot.invariant.apart

pub loop-slot-preserved : goal.loop-slot-preserved
loop-slot-preserved c =
    let p : Slot × Entry = (c.in-Some.slot.now, c.in-Some.entry.now) in
    let rest = c.next.new.self in
    let es = c.loop-slot.copies.entries in
    let now = sym c.in_ok-copy_one.ensures.entries in
    record {
      all = subst (λ (xs : List (Slot × Entry)). map cached xs ++ left c.args.drops.now (map cached rest) ≡ left c.args.drops.now (map cached c.args.entries.now.entries)) now (left_on c.args.drops.now p es c.loop-slot.pairs rest c.in-Some.ensures.steps ∙ c.loop-slot.invariant.all);
      apart = subst (λ (xs : List (Slot × Entry)). IsDistinct same_slot (keys_of (xs ++ rest))) now (apart_on c.args.drops.now p es c.loop-slot.pairs rest c.in-Some.ensures.steps c.loop-slot.invariant.apart);
      wide = c.copy_one.ensures.wide ∙ c.loop-slot.invariant.wide;
    }

pub returns-clause-left : goal.returns-clause-left
returns-clause-left c = left_end c.args.drops.now c.loop-slot.copies.entries c.loop-slot.pairs (left c.args.drops.now (map cached c.args.entries.now.entries)) c.in_default.ensures.steps.0 c.loop-slot.invariant.all
