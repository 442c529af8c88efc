use Rattle.std.proofs.Common.{◌≡◌, ◌++◌, drop, filter, not}
use Rattle.std.specs.List.{list_any}
use Rattle.afs_num.specs.declared.location_calls.LocEntry.{LocEntry}
use Rattle.spec_records.specs.Entries.{same_entry}
use Rattle.spec_rows.specs.ClientRow.{stands_for}
use Rattle.afs_acts.proofs.known.with_location.Given as goal

abbrev pub invariant-loop-known : goal.invariant-loop-known
invariant-loop-known l = record {
  lacking : list_any (same_entry l.fn.location) (drop l.known-index l.table) ≡ list_any (same_entry l.fn.location) l.table;
  placed : l.placed.items ++ filter (λ (k : LocEntry). not (stands_for l.fn.location k)) (drop l.known-index l.table) ≡ filter (λ (k : LocEntry). not (stands_for l.fn.location k)) l.table;
}
