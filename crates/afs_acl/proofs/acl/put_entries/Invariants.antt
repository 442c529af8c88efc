use Rattle.std.proofs.Common.{◌≡◌, ◌++◌, take}
use Rattle.std.specs.List.{flat_map}
use Rattle.spec_ideal.specs.AccessLists.{acl_entry_text}
use Rattle.afs_acl.proofs.acl.put_entries.Given as goal

abbrev pub invariant-loop-entry : goal.invariant-loop-entry
invariant-loop-entry l = l.out.items ≡ l.fn.out.items ++ flat_map acl_entry_text (take l.entry-index l.entries)
