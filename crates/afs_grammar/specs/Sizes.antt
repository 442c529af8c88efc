-- How long the first record of a server is, counted by its volumes, whose numbers ascend; and that of the location database.
use Rattle.spec_ideal.specs.SetUp.{first_volume}
use Rattle.std.specs.Prelude.{◌≡◌, ◌≤◌, ℕ, ◌+◌, List, [], ◌∷◌, length}
use Rattle.spec_ideal.specs.Images.{acl_by}
use Rattle.spec_ideal.specs.Tables.{Table}
use Rattle.spec_ideal.specs.Volumes.{Vnode, Volume, bytes_by}
use Rattle.spec_records.specs.Changes.{record_of_volumes}
use Rattle.spec_records.specs.Durable.{place_length}
use Rattle.spec_records.specs.LocDurable.{loc_first_record}
use Rattle.spec_records.specs.LocRecords.{loc_record_bytes}
use Rattle.spec_history.specs.declared.scripts.VolumeLine.{VolumeLine}
use Rattle.afs_grammar.specs.Lines.{filled_up, loc_length, stored_all}

-- a vnode has two words where it is listed, and its image has seventeen and a mark, beside its access list and its bytes
abbrev pub vnode_size : Vnode → ℕ
vnode_size x = 80 + filled_up (length (acl_by x.kind x)) + filled_up (length (bytes_by x.kind x))

abbrev pub vnodes_size : Table Vnode → ℕ
vnodes_size [] = 0
vnodes_size (p ∷ ps) = vnode_size p.1 + vnodes_size ps

abbrev pub volume_size : Volume → ℕ
volume_size v = 44 + filled_up (length v.name) + vnodes_size v.vnodes

abbrev pub volumes_size : List VolumeLine → ℕ
volumes_size [] = 0
volumes_size (l ∷ ls) = volume_size (first_volume l) + volumes_size ls

-- the numbers ascend, from this one on
abbrev pub AscendFrom : ℕ → List VolumeLine → Type 0
AscendFrom n [] = Unit {0}
AscendFrom n (l ∷ ls) = (n ≤ l.id) × AscendFrom (l.id + 1) ls

abbrev pub FirstRecordIsTheSum : Type 0
FirstRecordIsTheSum = (n : ℕ) (ls : List VolumeLine) → AscendFrom n ls → place_length (record_of_volumes (stored_all ls)) ≡ 41 + volumes_size ls

abbrev pub FirstEntriesAreTheSum : Type 0
FirstEntriesAreTheSum = (ls : List VolumeLine) → length (loc_record_bytes (loc_first_record ls)) ≡ loc_length ls
