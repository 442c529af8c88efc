-- Worked acts of administrators, against the database and the servers as they are.
use Rattle.std.proofs.Common.{◌≡◌, ℕ, List, [], ◌∷◌, ◌++◌, Some, None, pos, negsuc, zero, suc, refl}
use Rattle.std.specs.Prelude.{codes, Bool, true, false, Option, filter, cond, nat_eq}
use Rattle.std.specs.Fmt.{digits}
use Rattle.afs_num.specs.Names.{is_name_of, name_ok, volume_name_ok}
use Rattle.afs_num.specs.declared.types.Code.{Code}
use Rattle.afs_num.specs.declared.types.Node.{Node}
use Rattle.afs_num.specs.declared.types.Node.TheVariants.{Admin, Client, Loc, Server}
use Rattle.afs_num.specs.declared.histories.Body.TheVariants as bodies
use Rattle.afs_num.specs.declared.location_calls.LocEntry.{LocEntry}
use Rattle.afs_num.specs.declared.location_calls.LocReply.TheVariants as entries
use Rattle.afs_num.specs.declared.messages.Message.{Message}
use Rattle.afs_num.specs.declared.messages.Received.TheVariants.{Whole}
use Rattle.afs_num.specs.declared.messages.Reply.TheVariants as tell
use Rattle.spec_history.specs.declared.lines.Line.{Line}
use Rattle.spec_history.specs.declared.lines.Line.TheVariants as lines
use Rattle.spec_history.specs.declared.scripts.AdminAct.{AdminAct}
use Rattle.spec_history.specs.declared.scripts.AdminAct.TheVariants as acts
use Rattle.afs_xdr.specs.Words.{counted_at, opaque, opaque_at, pad, word, word_at}
use Rattle.spec_ideal.specs.AccessLists as acls
use Rattle.spec_ideal.specs.AccessLists.{rights_of}
use Rattle.spec_ideal.specs.Directories as directories
use Rattle.spec_ideal.specs.Images.{value_of}
use Rattle.spec_ideal.specs.SetUp.{laid_at, led}
use Rattle.spec_ideal.specs.Tables.{Table}
use Rattle.spec_ideal.specs.VnodeImage.{image, kind_fits}
use Rattle.spec_ideal.specs.VnodeMaps.{changed_since}
use Rattle.spec_ideal.specs.Volumes.{Volume}
use Rattle.spec_model.specs.Messages.{spelled}
use Rattle.spec_records.specs.LocRecords.{entry_form, loc_record_bytes}
use Rattle.spec_records.specs.Records.{head_form, record_bytes, volume_form}
use Rattle.spec_records.specs.Sound.{is_sound}
use Rattle.spec_dumps.specs.Restores.{fed, restored_from}
use Rattle.spec_dumps.specs.Streams.{dump_at, dump_field, dump_header_field, image_field, live_field, next_at, volume_header_field}
use Rattle.spec_rows.specs.LocRow.{LocState}
use Rattle.spec_rows.specs.LocSteps.{loc_row}
use Rattle.spec_rows.specs.Runs.{first_loc, first_server, first_volumes}
use Rattle.spec_rows.specs.Steps.{Step}
use Rattle.spec_rows.proofs.Worked.{home, script}
use Rattle.spec_volrows.specs.FileRow.{file_row, file_start}
use Rattle.spec_volrows.specs.VolStates.{NodeState, fresh_vol}
use Rattle.spec_volrows.specs.VolSteps.{node_row}
use Rattle.spec_adminrows.specs.Acts.{lock_answered}
use Rattle.spec_adminrows.specs.AdminRow.{AdminState, admin_begin_row, admin_reborn, admin_row, admin_timeout_row, new_admin}
use Rattle.spec_adminrows.specs.Entries.{new_entry}
use Rattle.spec_adminrows.specs.declared.places.Cause.TheVariants as causes
use Rattle.spec_adminrows.specs.declared.turns.Running.{Running}
use Rattle.spec_adminrows.specs.declared.turns.Turn.TheVariants as turns

-- the database, two servers or three, administrators, the messages that weren't given yet, and the lines so far
pub record Cell : Type 0 where
  pub loc : LocState
  pub server : ℕ → NodeState
  pub admin : ℕ → AdminState
  pub queue : List Message
  pub told : List Line

abbrev put : {A : Type 0} → ℕ → A → (ℕ → A) → ℕ → A
put n x h j = cond (nat_eq n j) x (h j)

abbrev is_told : Line → Bool
is_told (lines.Given place) = false
is_told l = true

abbrev tells : List Line → Cell → Cell
tells ls c = record c { told = c.told ++ filter is_told ls }

abbrev at_loc : Cell → Step LocState → Cell
at_loc c s = tells s.lines (record c { loc = s.state; queue = c.queue ++ s.sent })

abbrev at_server : ℕ → Cell → Step NodeState → Cell
at_server i c s = tells s.lines (record c { server = put i s.state c.server; queue = c.queue ++ s.sent })

abbrev at_admin : ℕ → Cell → Step AdminState → Cell
at_admin i c s = tells s.lines (record c { admin = put i s.state c.admin; queue = c.queue ++ s.sent })

abbrev gives_to : Node → Message → Cell → Cell
gives_to Loc m c = at_loc c (loc_row c.loc 9 (Whole m))
gives_to (Server i) m c = at_server i c (node_row (Server i) (c.server i) 0 9 (Whole m))
gives_to (Client i) m c = c
gives_to (Admin i) m c = at_admin i c (admin_row (Admin i) (c.admin i) 9 (Whole m))

abbrev gives_first : Cell → List Message → Cell
gives_first c [] = c
gives_first c (m ∷ ms) = gives_to m.head.to m (record c { queue = ms })

-- the first so many of the queue, and of what is sent meanwhile
abbrev gives : ℕ → Cell → Cell
gives zero c = c
gives (suc n) c = gives n (gives_first c c.queue)

abbrev begins : ℕ → AdminAct → Cell → Cell
begins i act c = at_admin i c (admin_begin_row (Admin i) (c.admin i) act)

abbrev falls : ℕ → Cell → Cell
falls i c = record c { admin = put i (admin_reborn (c.admin i)) c.admin }

abbrev timed_out : ℕ → Cell → Option Running → Cell
timed_out i c None = c
timed_out i c (Some r) = at_admin i c (admin_timeout_row (Admin i) (c.admin i) r)

abbrev waits : ℕ → Cell → Cell
waits i c = timed_out i c (c.admin i).running

abbrev server_of : Table Volume → NodeState
server_of vs = record { file = first_server 268435456 vs; vol = fresh_vol [] }

abbrev start : ℕ → Cell
start n = record {
  loc = first_loc 268435456 (script 1).volumes;
  server = put 1 (server_of (first_volumes (script 1).volumes)) (λ i. server_of []);
  admin = λ i. new_admin n 1;
  queue = [];
  told = [];
}

abbrev fresh : ℕ
fresh = 536870913

abbrev code : ℕ → Code
code n = record { 0 = pos n }

-- ---- a new volume

abbrev create : AdminAct
create = acts.Create (codes "more") 1 10

row_create : (gives 40 (begins 1 create (start 1))).told ≡
    lines.BeginAdmin (Admin 1) create ∷ lines.Locked fresh 1 16 ∷ lines.Located fresh (Server 1) ∷ lines.Made (Server 1) fresh 1
    ∷ lines.Version (record { fid = record { volume = fresh; vnode = 1; unique = 1 }; index = 1; data_version = 1; body = bodies.Dir [] })
    ∷ lines.Enable fresh (Server 1) ∷ lines.Unlocked fresh ∷ lines.Answer (Admin 1) (code 0) ∷ []
unfolding admin_row admin_begin_row admin_timeout_row loc_row loc_record_bytes entry_form volume_name_ok is_name_of laid_at led node_row file_row file_start spelled record_bytes head_form volume_form restored_from fed dump_at dump_field dump_header_field volume_header_field live_field image_field next_at changed_since word opaque pad word_at opaque_at counted_at kind_fits image value_of is_sound directories.directory_bytes directories.name_bytes directories.directory_of directories.whole_at directories.count_at directories.names_at directories.name_at directories.spelled_at directories.bytes_below acls.acl_text acls.acl_entry_text acls.acl_at acls.count_at acls.line_number_at acls.acl_entry_at acls.name_at acls.named_at rights_of name_ok digits
row_create = refl

-- ---- and one whose name is taken: the volume goes again

abbrev taken : AdminAct
taken = acts.Create (codes "proj") 1 10

row_taken : (gives 40 (begins 1 taken (start 1))).told ≡ lines.BeginAdmin (Admin 1) taken ∷ lines.Vanish fresh (Server 1) ∷ lines.Answer (Admin 1) (code 363522) ∷ []
unfolding admin_row admin_begin_row admin_timeout_row loc_row loc_record_bytes entry_form volume_name_ok is_name_of laid_at led node_row file_row file_start spelled record_bytes head_form volume_form restored_from fed dump_at dump_field dump_header_field volume_header_field live_field image_field next_at changed_since word opaque pad word_at opaque_at counted_at kind_fits image value_of is_sound directories.directory_bytes directories.name_bytes directories.directory_of directories.whole_at directories.count_at directories.names_at directories.name_at directories.spelled_at directories.bytes_below acls.acl_text acls.acl_entry_text acls.acl_at acls.count_at acls.line_number_at acls.acl_entry_at acls.name_at acls.named_at rights_of name_ok digits
row_taken = refl

-- ---- two moves of one volume: the second finds it locked

abbrev moves : AdminAct
moves = acts.Move (codes "proj") 2

row_two_moves : (gives 100 (begins 2 moves (gives 4 (begins 1 moves (start 2))))).told ≡
    lines.BeginAdmin (Admin 1) moves ∷ lines.Locked home 1 16 ∷ lines.BeginAdmin (Admin 2) moves ∷ lines.Answer (Admin 2) (code 363541)
    ∷ lines.Fence home (Server 1) ∷ lines.Located home (Server 2) ∷ lines.Enable home (Server 2) ∷ lines.Vanish home (Server 1) ∷ lines.Unlocked home ∷ lines.Answer (Admin 1) (code 0) ∷ []
unfolding admin_row admin_begin_row admin_timeout_row loc_row loc_record_bytes entry_form volume_name_ok is_name_of laid_at led node_row file_row file_start spelled record_bytes head_form volume_form restored_from fed dump_at dump_field dump_header_field volume_header_field live_field image_field next_at changed_since word opaque pad word_at opaque_at counted_at kind_fits image value_of is_sound directories.directory_bytes directories.name_bytes directories.directory_of directories.whole_at directories.count_at directories.names_at directories.name_at directories.spelled_at directories.bytes_below acls.acl_text acls.acl_entry_text acls.acl_at acls.count_at acls.line_number_at acls.acl_entry_at acls.name_at acls.named_at rights_of name_ok digits
row_two_moves = refl

-- ---- the lock of an entry without a read-write site counts as no answer

abbrev nowhere : LocEntry
nowhere = record (new_entry (codes "proj") home 1) { sites = [] }

row_unusable : lock_answered (record { act = moves; servers = 2 }) causes.Asked (tell.Location (entries.SetLock 1 nowhere)) ≡ turns.Passes
unfolding volume_name_ok is_name_of
row_unusable = refl

-- ---- a move whose administrator falls before the deciding write, and a recovery

abbrev recover : AdminAct
recover = acts.Recover (codes "proj")

row_fallen : (gives 60 (begins 1 recover (falls 1 (gives 34 (begins 1 moves (start 2)))))).told ≡
    lines.BeginAdmin (Admin 1) moves ∷ lines.Locked home 1 16 ∷ lines.Fence home (Server 1) ∷ lines.BeginAdmin (Admin 1) recover ∷ lines.Locked home 2 16
    ∷ lines.Vanish home (Server 2) ∷ lines.Enable home (Server 1) ∷ lines.Recovered home ∷ lines.Unlocked home ∷ lines.Answer (Admin 1) (code 0) ∷ []
unfolding admin_row admin_begin_row admin_timeout_row loc_row loc_record_bytes entry_form volume_name_ok is_name_of laid_at led node_row file_row file_start spelled record_bytes head_form volume_form restored_from fed dump_at dump_field dump_header_field volume_header_field live_field image_field next_at changed_since word opaque pad word_at opaque_at counted_at kind_fits image value_of is_sound directories.directory_bytes directories.name_bytes directories.directory_of directories.whole_at directories.count_at directories.names_at directories.name_at directories.spelled_at directories.bytes_below acls.acl_text acls.acl_entry_text acls.acl_at acls.count_at acls.line_number_at acls.acl_entry_at acls.name_at acls.named_at rights_of name_ok digits
row_fallen = refl

-- ---- a dead call behind the deciding write: the move is put in order, and answered -1; and where that dies too, it is stuck

abbrev dead : Code
dead = record { 0 = negsuc 0 }

abbrev thrice : Cell → Cell
thrice c = waits 1 (waits 1 (waits 1 c))

row_dead : (gives 80 (thrice (gives 38 (begins 1 moves (start 2))))).told ≡
    lines.BeginAdmin (Admin 1) moves ∷ lines.Locked home 1 16 ∷ lines.Fence home (Server 1) ∷ lines.Located home (Server 2) ∷ lines.Timeout (Admin 1) (Server 2) 1 18 1
    ∷ lines.Timeout (Admin 1) (Server 2) 1 18 2 ∷ lines.Timeout (Admin 1) (Server 2) 1 18 3 ∷ lines.Enable home (Server 2) ∷ lines.Locked home 2 16 ∷ lines.Vanish home (Server 1)
    ∷ lines.Recovered home ∷ lines.Unlocked home ∷ lines.Answer (Admin 1) dead ∷ []
unfolding admin_row admin_begin_row admin_timeout_row loc_row loc_record_bytes entry_form volume_name_ok is_name_of laid_at led node_row file_row file_start spelled record_bytes head_form volume_form restored_from fed dump_at dump_field dump_header_field volume_header_field live_field image_field next_at changed_since word opaque pad word_at opaque_at counted_at kind_fits image value_of is_sound directories.directory_bytes directories.name_bytes directories.directory_of directories.whole_at directories.count_at directories.names_at directories.name_at directories.spelled_at directories.bytes_below acls.acl_text acls.acl_entry_text acls.acl_at acls.count_at acls.line_number_at acls.acl_entry_at acls.name_at acls.named_at rights_of name_ok digits
row_dead = refl

row_stuck : (thrice (thrice (gives 38 (begins 1 moves (start 2))))).told ≡
    lines.BeginAdmin (Admin 1) moves ∷ lines.Locked home 1 16 ∷ lines.Fence home (Server 1) ∷ lines.Located home (Server 2) ∷ lines.Timeout (Admin 1) (Server 2) 1 18 1
    ∷ lines.Timeout (Admin 1) (Server 2) 1 18 2 ∷ lines.Timeout (Admin 1) (Server 2) 1 18 3 ∷ lines.Timeout (Admin 1) Loc 1 19 1 ∷ lines.Timeout (Admin 1) Loc 1 19 2
    ∷ lines.Timeout (Admin 1) Loc 1 19 3 ∷ lines.Stuck (Admin 1) dead ∷ []
unfolding admin_row admin_begin_row admin_timeout_row loc_row loc_record_bytes entry_form volume_name_ok is_name_of laid_at led node_row file_row file_start spelled record_bytes head_form volume_form restored_from fed dump_at dump_field dump_header_field volume_header_field live_field image_field next_at changed_since word opaque pad word_at opaque_at counted_at kind_fits image value_of is_sound directories.directory_bytes directories.name_bytes directories.directory_of directories.whole_at directories.count_at directories.names_at directories.name_at directories.spelled_at directories.bytes_below acls.acl_text acls.acl_entry_text acls.acl_at acls.count_at acls.line_number_at acls.acl_entry_at acls.name_at acls.named_at rights_of name_ok digits
row_stuck = refl

-- ---- a dump, and a new volume of it; and no dump

abbrev dump : AdminAct
dump = acts.Dump (codes "proj") (codes "d1") 0

abbrev restore : AdminAct
restore = acts.Restore (codes "copy") 1 (codes "d1")

row_restore : (gives 40 (begins 1 restore (gives 40 (begins 1 dump (begins 1 restore (start 1)))))).told ≡
    lines.BeginAdmin (Admin 1) restore ∷ lines.Answer (Admin 1) (code 2) ∷ lines.BeginAdmin (Admin 1) dump ∷ lines.Locked home 1 64 ∷ lines.Dumped (Admin 1) (codes "d1") 280 ∷ lines.Unlocked home ∷ lines.Answer (Admin 1) (code 0)
    ∷ lines.BeginAdmin (Admin 1) restore ∷ lines.Locked fresh 2 16 ∷ lines.Located fresh (Server 1) ∷ lines.Made (Server 1) fresh 2
    ∷ lines.Version (record { fid = record { volume = fresh; vnode = 1; unique = 1 }; index = 1; data_version = 1; body = bodies.Dir (record { name = codes "a"; vnode = 2; unique = 2 } ∷ []) })
    ∷ lines.Version (record { fid = record { volume = fresh; vnode = 2; unique = 2 }; index = 1; data_version = 1; body = bodies.File (codes "abc") })
    ∷ lines.Enable fresh (Server 1) ∷ lines.Unlocked fresh ∷ lines.Answer (Admin 1) (code 0) ∷ []
unfolding admin_row admin_begin_row admin_timeout_row loc_row loc_record_bytes entry_form volume_name_ok is_name_of laid_at led node_row file_row file_start spelled record_bytes head_form volume_form restored_from fed dump_at dump_field dump_header_field volume_header_field live_field image_field next_at changed_since word opaque pad word_at opaque_at counted_at kind_fits image value_of is_sound directories.directory_bytes directories.name_bytes directories.directory_of directories.whole_at directories.count_at directories.names_at directories.name_at directories.spelled_at directories.bytes_below acls.acl_text acls.acl_entry_text acls.acl_at acls.count_at acls.line_number_at acls.acl_entry_at acls.name_at acls.named_at rights_of name_ok digits
row_restore = refl

-- ---- one after the other: sites, a backup, releases, moves, a removal

abbrev does_all : List AdminAct → Cell → Cell
does_all [] c = c
does_all (a ∷ more) c = does_all more (gives 80 (begins 1 a c))

row_all : (does_all (acts.AddSite (codes "proj") 2
    ∷ acts.AddSite (codes "proj") 3
    ∷ acts.AddSite (codes "proj") 3
    ∷ acts.Backup (codes "proj")
    ∷ acts.Release (codes "proj")
    ∷ acts.Move (codes "proj") 3
    ∷ acts.Move (codes "proj") 3
    ∷ acts.Release (codes "proj")
    ∷ acts.Backup (codes "proj")
    ∷ acts.Backup (codes "proj")
    ∷ acts.Remove (codes "proj")
    ∷ acts.Recover (codes "proj") ∷ []) (start 3)).told ≡
    lines.BeginAdmin (Admin 1) (acts.AddSite (codes "proj") 2) ∷ lines.Locked home 1 32 ∷ lines.Unlocked home ∷ lines.Answer (Admin 1) (code 0) ∷
    lines.BeginAdmin (Admin 1) (acts.AddSite (codes "proj") 3) ∷ lines.Locked home 2 32 ∷ lines.Unlocked home ∷ lines.Answer (Admin 1) (code 0) ∷
    lines.BeginAdmin (Admin 1) (acts.AddSite (codes "proj") 3) ∷ lines.Locked home 3 32 ∷ lines.Unlocked home ∷ lines.Answer (Admin 1) (code 22) ∷
    lines.BeginAdmin (Admin 1) (acts.Backup (codes "proj")) ∷ lines.Locked home 4 64 ∷ lines.Unlocked home ∷ lines.Answer (Admin 1) (code 0) ∷
    lines.BeginAdmin (Admin 1) (acts.Release (codes "proj")) ∷ lines.Locked home 5 32 ∷ lines.Released home 536870914 2 (Server 2) ∷
    lines.Released home 536870914 2 (Server 3) ∷ lines.Unlocked home ∷ lines.Answer (Admin 1) (code 0) ∷
    lines.BeginAdmin (Admin 1) (acts.Move (codes "proj") 3) ∷ lines.Locked home 6 16 ∷ lines.Fence home (Server 1) ∷ lines.Located home (Server 3) ∷
    lines.Enable home (Server 3) ∷ lines.Vanish home (Server 1) ∷ lines.Unlocked home ∷ lines.Answer (Admin 1) (code 0) ∷
    lines.BeginAdmin (Admin 1) (acts.Move (codes "proj") 3) ∷ lines.Locked home 7 16 ∷ lines.Unlocked home ∷ lines.Answer (Admin 1) (code 22) ∷
    lines.BeginAdmin (Admin 1) (acts.Release (codes "proj")) ∷ lines.Locked home 8 32 ∷ lines.Released home 536870914 4 (Server 2) ∷
    lines.Released home 536870914 4 (Server 3) ∷ lines.Unlocked home ∷ lines.Answer (Admin 1) (code 0) ∷
    lines.BeginAdmin (Admin 1) (acts.Backup (codes "proj")) ∷ lines.Locked home 9 64 ∷ lines.Unlocked home ∷ lines.Answer (Admin 1) (code 0) ∷
    lines.BeginAdmin (Admin 1) (acts.Backup (codes "proj")) ∷ lines.Locked home 10 64 ∷ lines.Unlocked home ∷ lines.Answer (Admin 1) (code 0) ∷
    lines.BeginAdmin (Admin 1) (acts.Remove (codes "proj")) ∷ lines.Locked home 11 128 ∷ lines.Fence home (Server 3) ∷ lines.Unlocked home ∷
    lines.Vanish home (Server 3) ∷ lines.Answer (Admin 1) (code 0) ∷ lines.BeginAdmin (Admin 1) (acts.Recover (codes "proj")) ∷
    lines.Answer (Admin 1) (code 363524) ∷ []
unfolding admin_row admin_begin_row admin_timeout_row loc_row loc_record_bytes entry_form volume_name_ok is_name_of laid_at led node_row file_row file_start spelled record_bytes head_form volume_form restored_from fed dump_at dump_field dump_header_field volume_header_field live_field image_field next_at changed_since word opaque pad word_at opaque_at counted_at kind_fits image value_of is_sound directories.directory_bytes directories.name_bytes directories.directory_of directories.whole_at directories.count_at directories.names_at directories.name_at directories.spelled_at directories.bytes_below acls.acl_text acls.acl_entry_text acls.acl_at acls.count_at acls.line_number_at acls.acl_entry_at acls.name_at acls.named_at rights_of name_ok digits
row_all = refl

-- ---- a release whose first site doesn't answer: it is skipped, and that is the answer

abbrev release : AdminAct
release = acts.Release (codes "proj")

row_skipped : (gives 80 (thrice (gives 16 (begins 1 release (does_all (acts.AddSite (codes "proj") 2 ∷ acts.AddSite (codes "proj") 3 ∷ []) (start 3)))))).told ≡
    lines.BeginAdmin (Admin 1) (acts.AddSite (codes "proj") 2) ∷ lines.Locked home 1 32 ∷ lines.Unlocked home ∷ lines.Answer (Admin 1) (code 0) ∷
    lines.BeginAdmin (Admin 1) (acts.AddSite (codes "proj") 3) ∷ lines.Locked home 2 32 ∷ lines.Unlocked home ∷ lines.Answer (Admin 1) (code 0) ∷
    lines.BeginAdmin (Admin 1) release ∷ lines.Locked home 3 32 ∷ lines.Timeout (Admin 1) (Server 2) 1 17 1 ∷ lines.Timeout (Admin 1) (Server 2) 1 17 2 ∷
    lines.Timeout (Admin 1) (Server 2) 1 17 3 ∷ lines.Released home fresh 1 (Server 3) ∷ lines.Unlocked home ∷ lines.Answer (Admin 1) dead ∷ []
unfolding admin_row admin_begin_row admin_timeout_row loc_row loc_record_bytes entry_form volume_name_ok is_name_of laid_at led node_row file_row file_start spelled record_bytes head_form volume_form restored_from fed dump_at dump_field dump_header_field volume_header_field live_field image_field next_at changed_since word opaque pad word_at opaque_at counted_at kind_fits image value_of is_sound directories.directory_bytes directories.name_bytes directories.directory_of directories.whole_at directories.count_at directories.names_at directories.name_at directories.spelled_at directories.bytes_below acls.acl_text acls.acl_entry_text acls.acl_at acls.count_at acls.line_number_at acls.acl_entry_at acls.name_at acls.named_at rights_of name_ok digits
row_skipped = refl
