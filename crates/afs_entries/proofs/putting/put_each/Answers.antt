use Rattle.std.proofs.Common.{ap, subst, sym, ◌∙◌, List, map, take}
use Rattle.std.specs.Vec.Iter.{into_iter_items}
use Rattle.std.proofs.lemmas.List.Elements.{All-head, All-tail}
use Rattle.spec_rows.specs.ClientRow.{put_entries}
use Rattle.afs_entries.specs.declared.cache.Fresh.{Fresh}
use Rattle.afs_entries.specs.Cached.{cached, entry_of, HasAll, HasKey, slot_of}
use Rattle.afs_entries.proofs.Behind.{all_kept}
use Rattle.afs_entries.proofs.putting.put_each.Goals as goal

pub put_one-count-requires-clause-key : goal.put_one-count-requires-clause-key
put_one-count-requires-clause-key c =
    let all = subst (λ (fs : List Fresh). HasAll fs c.loop-one.entries) c.in-Some.ensures.steps.0 c.loop-one.invariant.keys in
    All-head (λ (f : Fresh). HasKey (slot_of f.fid) c.loop-one.entries) c.in-Some.one (into_iter_items c.next.new.self) all

pub loop-one-preserved : goal.loop-one-preserved
loop-one-preserved c =
    let rest = into_iter_items c.next.new.self in
    let all = subst (λ (fs : List Fresh). HasAll fs c.loop-one.entries) c.in-Some.ensures.steps.0 c.loop-one.invariant.keys in
    record {
      keys = all_kept rest c.loop-one.entries c.put_one-count.new.entries c.put_one-count.ensures.keys (All-tail (λ (f : Fresh). HasKey (slot_of f.fid) c.loop-one.entries) c.in-Some.one rest all);
      within = c.put_one-count.ensures.within;
      few = c.put_one-count.ensures.few;
      put =
          ap (put_entries c.args.capacity (map entry_of rest)) c.put_one-count.ensures.put
          ∙ (ap (λ (fs : List Fresh). put_entries c.args.capacity (map entry_of fs) (map cached (take c.loop-one.count c.loop-one.entries.entries))) (sym c.in-Some.ensures.steps.0) ∙ c.loop-one.invariant.put);
      wide = c.put_one-count.ensures.wide ∙ c.loop-one.invariant.wide;
    }
