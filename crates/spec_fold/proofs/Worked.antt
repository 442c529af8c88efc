-- Worked records of a volume server: what each does and tells, and which can't be taken, each for one reason.
use Rattle.std.proofs.Common.{◌≡◌, ℕ, zero, suc, ◌+◌, List, [], ◌∷◌, ◌++◌, Some, None, refl}
use Rattle.std.specs.Prelude.{codes, true, false}
use Rattle.afs_num.specs.Names.{name_ok}
use Rattle.afs_num.specs.declared.histories.Body.TheVariants as shapes
use Rattle.afs_num.specs.declared.histories.Version.{Version}
use Rattle.afs_num.specs.declared.records.RecordBody.TheVariants as bodies
use Rattle.afs_num.specs.declared.types.Node.TheVariants.{Server}
use Rattle.afs_xdr.specs.Words.{word, words, opaque, pad, word_at, opaque_at, counted_at}
use Rattle.spec_history.specs.declared.lines.Line.TheVariants as lines
use Rattle.spec_ideal.specs.AccessLists as acls
use Rattle.spec_ideal.specs.Directories as directories
use Rattle.spec_ideal.specs.Images.{value_of}
use Rattle.spec_ideal.specs.Tables.{Table}
use Rattle.spec_ideal.specs.VnodeImage.{kind_fits}
use Rattle.spec_records.specs.Changes.{no_head}
use Rattle.spec_records.specs.Durable.{nothing_on, Durable, Stored}
use Rattle.spec_records.specs.Sound.{is_sound}
use Rattle.spec_dumps.specs.Restores.{restored_from}
use Rattle.spec_dumps.specs.Streams.{dump_at, dump_field, dump_header_field, image_field, live_field, next_at, volume_header_field}
use Rattle.spec_fold.specs.Deeds.{created}
use Rattle.spec_fold.specs.Effects.{effect_by, version_lines}
use Rattle.spec_fold.specs.Fold.{body_taken, first_folded}

-- ---- a server with one volume, in service, and a forwarding of another

abbrev home : ℕ
home = 536870912

abbrev gone : ℕ
gone = 536870920

abbrev project : Stored
project = created home (codes "proj") 0 0 1000 false

abbrev at : Durable
at = record (nothing_on 268435456) { volumes = (home, project) ∷ []; forwardings = (gone, 2) ∷ [] }

abbrev with_volumes : Table Stored → Durable
with_volumes t = record at { volumes = t }

-- ---- a volume is made: a forwarding of its number is forgotten

abbrev fresh : Stored
fresh = created gone (codes "new") 0 3 1 true

creates : body_taken (bodies.Create gone gone (codes "new") 0 3 1 true) at ≡ Some (record at { volumes = (home, project) ∷ (gone, fresh) ∷ []; forwardings = [] })
creates = refl

-- not where it is there already, and not in a full server
creates_none_again : body_taken (bodies.Create home home (codes "proj") 0 3 1 true) at ≡ None
creates_none_again = refl

abbrev many : ℕ → ℕ → Table Stored
many n zero = []
many n (suc k) = (n, project) ∷ many (n + 1) k

creates_in_the_last_place : body_taken (bodies.Create 63 63 (codes "new") 0 3 1 true) (with_volumes (many 0 63)) ≡ Some (record (with_volumes (many 0 63 ++ (63, created 63 (codes "new") 0 3 1 true) ∷ [])) { forwardings = (gone, 2) ∷ [] })
creates_in_the_last_place = refl

creates_no_more : body_taken (bodies.Create 64 64 (codes "new") 0 3 1 true) (with_volumes (many 0 64)) ≡ None
creates_no_more = refl

-- ---- a volume is deleted

deletes : body_taken (bodies.Delete home) at ≡ Some (with_volumes [])
deletes = refl

deletes_none : body_taken (bodies.Delete gone) at ≡ None
deletes_none = refl

-- ---- a clone, and one that is made anew: its name, kind and flags stay

abbrev raised : Stored
raised = record project { volume = record project.volume { release = 1 } }

abbrev backup : Stored
backup = record project { volume = record project.volume { name = codes "proj.backup"; kind = 2; release = 1 } }

clones : body_taken (bodies.Clone home gone (codes "proj.backup") 2 1) at ≡ Some (record at { volumes = (home, raised) ∷ (gone, backup) ∷ []; forwardings = [] })
clones = refl

abbrev old : Stored
old = record (created home (codes "old") 1 2 5 false) { is_new = true }

abbrev anew : Stored
anew = record project { volume = record project.volume { name = codes "old"; kind = 1; flags = 2; release = 1 }; is_new = true }

clones_anew : body_taken (bodies.Clone home gone (codes "proj.backup") 2 1) (with_volumes ((home, project) ∷ (gone, old) ∷ [])) ≡ Some (with_volumes ((home, raised) ∷ (gone, anew) ∷ []))
clones_anew = refl

clones_none : body_taken (bodies.Clone gone home (codes "proj") 1 1) at ≡ None
clones_none = refl

clones_no_more : body_taken (bodies.Clone 0 64 (codes "proj") 1 1) (with_volumes (many 0 64)) ≡ None
clones_no_more = refl

-- ---- a dump is restored: all but family, name, kind and flags is the dump's

abbrev new_words : List ℕ
new_words =
    1 ∷ 3013677858 ∷ 1 ∷ 536870912 ∷ 4 ∷ 1886547818 ∷ 0 ∷ 2 ∷ 536870912 ∷ 536870912 ∷ 0 ∷ 1000 ∷ 2 ∷ 1 ∷ 0 ∷ 1 ∷ 1 ∷ 1 ∷ 3 ∷ 1 ∷ 1 ∷ 2 ∷ 1 ∷ 1 ∷ 2 ∷ 0 ∷ 0 ∷ 493 ∷ 0
    ∷ 0 ∷ 0 ∷ 0 ∷ 0 ∷ 1 ∷ 23 ∷ 822751242 ∷ 1937339252 ∷ 1701657185 ∷ 1853453683 ∷ 1701972273 ∷ 842467840 ∷ 4 ∷ 0 ∷ 4 ∷ 975260526 ∷ []

restores : body_taken (bodies.Restore gone (words new_words)) (with_volumes ((gone, old) ∷ [])) ≡ Some (with_volumes ((gone, record old { volume = record old.volume { quota = 1000 } }) ∷ []))
unfolding restored_from dump_at dump_field dump_header_field volume_header_field live_field image_field next_at word opaque pad word_at opaque_at counted_at kind_fits value_of is_sound directories.directory_of directories.whole_at directories.count_at directories.names_at directories.name_at directories.spelled_at directories.bytes_below acls.acl_at acls.count_at acls.line_number_at acls.acl_entry_at acls.name_at acls.named_at name_ok
restores = refl

restores_none : body_taken (bodies.Restore gone (words new_words)) at ≡ None
restores_none = refl

restores_no_dump : body_taken (bodies.Restore home []) at ≡ None
unfolding restored_from dump_at dump_field dump_header_field volume_header_field word_at
restores_no_dump = refl

-- ---- flags, a forwarding, and a stamp alone

abbrev flagged_as : ℕ → Stored → Stored
flagged_as flags s = record s { volume = record s.volume { flags = flags } }

flags : body_taken (bodies.Flags home 3) at ≡ Some (with_volumes ((home, flagged_as 3 project) ∷ []))
flags = refl

-- a new volume is new until its flags are 0
stays_new : body_taken (bodies.Flags gone 2) (with_volumes ((gone, fresh) ∷ [])) ≡ Some (with_volumes ((gone, flagged_as 2 fresh) ∷ []))
stays_new = refl

is_new_no_more : body_taken (bodies.Flags gone 0) (with_volumes ((gone, fresh) ∷ [])) ≡ Some (with_volumes ((gone, record (flagged_as 0 fresh) { is_new = false }) ∷ []))
is_new_no_more = refl

flags_none : body_taken (bodies.Flags gone 0) at ≡ None
flags_none = refl

forwards : body_taken (bodies.Forward home 3) at ≡ Some (record at { forwardings = (home, 3) ∷ (gone, 2) ∷ [] })
forwards = refl

forwards_none : body_taken (bodies.Forward gone 3) at ≡ None
forwards_none = refl

stamps : body_taken bodies.Stamp at ≡ Some at
stamps = refl

-- ---- none of them is the first of a disk

stamps_nothing_first : first_folded (record { head = no_head; body = bodies.Stamp }) (nothing_on 1000) ≡ None
stamps_nothing_first = refl

-- ---- what they tell

abbrev first_version : ℕ → Version
first_version id = record { fid = record { volume = id; vnode = 1; unique = 1 }; index = 1; data_version = 1; body = shapes.Dir [] }

tells_a_new_one : effect_by (Server 1) no_head (bodies.Flags gone 0) (with_volumes ((gone, fresh) ∷ [])) ≡ lines.Made (Server 1) gone 1 ∷ version_lines (first_version gone ∷ []) ++ lines.Enable gone (Server 1) ∷ []
tells_a_new_one = refl

tells_a_fence : effect_by (Server 1) no_head (bodies.Flags home 2) at ≡ lines.Fence home (Server 1) ∷ []
tells_a_fence = refl

tells_no_fence_again : effect_by (Server 1) no_head (bodies.Flags home 3) (with_volumes ((home, flagged_as 2 project) ∷ [])) ≡ []
tells_no_fence_again = refl

tells_an_end_of_a_fence : effect_by (Server 1) no_head (bodies.Flags home 0) (with_volumes ((home, flagged_as 2 project) ∷ [])) ≡ lines.Enable home (Server 1) ∷ []
tells_an_end_of_a_fence = refl

-- a read-only volume is told at each time, a backup never
abbrev copy : ℕ → ℕ → Stored
copy kind flags = record project { volume = record project.volume { kind = kind; flags = flags; release = 7 } }

tells_a_release : effect_by (Server 1) no_head (bodies.Flags gone 0) (with_volumes ((gone, copy 1 3) ∷ [])) ≡ lines.Released home gone 7 (Server 1) ∷ []
tells_a_release = refl

tells_a_release_again : effect_by (Server 1) no_head (bodies.Flags gone 0) (with_volumes ((gone, copy 1 0) ∷ [])) ≡ lines.Released home gone 7 (Server 1) ∷ []
tells_a_release_again = refl

tells_no_release : effect_by (Server 1) no_head (bodies.Flags gone 2) (with_volumes ((gone, copy 1 0) ∷ [])) ≡ []
tells_no_release = refl

tells_no_backup : effect_by (Server 1) no_head (bodies.Flags gone 0) (with_volumes ((gone, copy 2 3) ∷ [])) ≡ []
tells_no_backup = refl

-- a volume that is made with flags 0 accepts stores at once; one with flags, or of another kind, tells nothing
tells_one_made_at_once : effect_by (Server 1) no_head (bodies.Create gone gone (codes "new") 0 0 1 false) at ≡ lines.Made (Server 1) gone 1 ∷ version_lines (first_version gone ∷ []) ++ lines.Enable gone (Server 1) ∷ []
tells_one_made_at_once = refl

tells_none_made : effect_by (Server 1) no_head (bodies.Create gone gone (codes "new") 0 3 1 true) at ≡ []
tells_none_made = refl

tells_no_copy_made : effect_by (Server 1) no_head (bodies.Create gone home (codes "new") 1 0 1 false) at ≡ []
tells_no_copy_made = refl

-- a read-write volume that goes
tells_one_gone : effect_by (Server 1) no_head (bodies.Delete home) at ≡ lines.Vanish home (Server 1) ∷ []
tells_one_gone = refl

tells_no_copy_gone : effect_by (Server 1) no_head (bodies.Delete gone) (with_volumes ((gone, copy 1 0) ∷ [])) ≡ []
tells_no_copy_gone = refl

-- at a start, by their numbers: those with the flag of delete on salvage
tells_those_gone :
    effect_by (Server 1) no_head (bodies.Boot 2) (with_volumes ((home, flagged_as 3 project) ∷ (gone, copy 1 3) ∷ (gone + 1, flagged_as 2 project) ∷ (gone + 2, flagged_as 1 project) ∷ []))
    ≡ lines.Vanish home (Server 1) ∷ lines.Vanish (gone + 2) (Server 1) ∷ []
tells_those_gone = refl
