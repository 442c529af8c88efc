-- Worked histories: what is so at each `enable`; and histories in which a volume comes into service where it may not.
use Rattle.std.proofs.Common.{◌≡◌, ℕ, ◌+◌, zero, suc, List, [], ◌∷◌, true, false, Some, None, refl}
use Rattle.std.specs.Prelude.{codes, take}
use Rattle.afs_num.specs.declared.histories.Actor.TheVariants as actors
use Rattle.afs_num.specs.declared.types.Node.{Node}
use Rattle.afs_num.specs.declared.types.Node.TheVariants.{Loc, Server}
use Rattle.spec_history.specs.declared.lines.Line.{Line}
use Rattle.spec_history.specs.declared.lines.Line.TheVariants as lines
use Rattle.spec_history.specs.declared.scripts.AdminAct.{AdminAct}
use Rattle.spec_history.specs.declared.scripts.AdminAct.TheVariants as acts
use Rattle.spec_history.specs.declared.scripts.Script.{Script}
use Rattle.spec_ideal.specs.Tables.{get}
use Rattle.spec_rows.proofs.Worked.{home, script}
use Rattle.spec_rows.specs.Runs.{gives, steady, Entry}
use Rattle.spec_adminrows.specs.AdminRow.{admin_begin_row, admin_row, admin_timeout_row}
use Rattle.spec_runs.specs.NodeRuns.{admin_begins, node_moved, node_start, usual, usually_moved, CellInput, NodeCell}
use Rattle.law_places.specs.Accepting.{accepts, cell_behind}
use Rattle.law_stamps.specs.Told.{entries_in, home_listed, place_by_lines}
use Rattle.law_enabling.specs.Enabling.{cut_at, line_behind, EnablesStandAlone}
use Rattle.std.specs.Fmt.{digits}
use Rattle.afs_num.specs.Names.{is_name_of, name_ok, volume_name_ok}
use Rattle.afs_xdr.specs.Words.{counted_at, opaque, opaque_at, pad, word, word_at}
use Rattle.spec_ideal.specs.AccessLists as acls
use Rattle.spec_ideal.specs.AccessLists.{rights_of}
use Rattle.spec_ideal.specs.Directories as directories
use Rattle.spec_ideal.specs.Images.{value_of}
use Rattle.spec_ideal.specs.SetUp.{laid_at, led}
use Rattle.spec_ideal.specs.VnodeImage.{image, kind_fits}
use Rattle.spec_ideal.specs.VnodeMaps.{changed_since}
use Rattle.spec_model.specs.Messages.{spelled}
use Rattle.spec_records.specs.LocRecords.{entry_form, loc_record_bytes}
use Rattle.spec_records.specs.Records.{head_form, record_bytes, volume_form}
use Rattle.spec_records.specs.Sound.{is_sound}
use Rattle.spec_dumps.specs.Restores.{fed, restored_from}
use Rattle.spec_dumps.specs.Streams.{dump_at, dump_field, dump_header_field, image_field, live_field, next_at, volume_header_field}
use Rattle.spec_rows.specs.LocSteps.{loc_row}
use Rattle.spec_volrows.specs.FileRow.{file_row, file_start}
use Rattle.spec_volrows.specs.VolSteps.{node_row}

-- a cell of two servers; the script's volume is at the first
abbrev two : Script
two = record (script 1) { servers = 2 }

-- ---- entries

abbrev told_by : Node → List Line → Entry
told_by n ls = record { actor = actors.Node n; lines = ls; sent = []; volumes = [] }

abbrev fences : ℕ → Entry
fences n = told_by (Server n) (lines.Given 1 ∷ lines.Fence home (Server n) ∷ [])

abbrev locates : ℕ → Entry
locates n = told_by Loc (lines.Given 2 ∷ lines.Located home (Server n) ∷ [])

abbrev enables : ℕ → Entry
enables n = told_by (Server n) (lines.Given 3 ∷ lines.Enable home (Server n) ∷ [])

abbrev deletes : ℕ → Entry
deletes n = told_by (Server n) (lines.Given 4 ∷ lines.Vanish home (Server n) ∷ [])

-- ---- a move from the first server to the second

abbrev a_move : List Entry
a_move = fences 1 ∷ locates 2 ∷ enables 2 ∷ deletes 1 ∷ []

-- the second line of the third entry brings the volume in
its_enable : line_behind 2 1 a_move ≡ Some (lines.Enable home (Server 2))
its_enable = refl

-- it accepts stores nowhere then, and is located there
not_here : accepts two (cut_at 2 1 a_move) home 1 ≡ false
not_here = refl

not_there : accepts two (cut_at 2 1 a_move) home 2 ≡ false
not_there = refl

located_there : place_by_lines two (cut_at 2 1 a_move) home ≡ Some (Server 2)
located_there = refl

-- behind that line it accepts them there, and before the fence here: a cut may lie in any entry
accepted_there : accepts two (cut_at 2 2 a_move) home 2 ≡ true
accepted_there = refl

accepted_here : accepts two (cut_at 0 1 a_move) home 1 ≡ true
accepted_here = refl

-- a cut behind the last line leaves the entry whole, and one behind the last entry the history
whole_entry : cut_at 1 9 a_move ≡ fences 1 ∷ locates 2 ∷ []
whole_entry = refl

whole_history : cut_at 9 0 a_move ≡ a_move
whole_history = refl

nothing_more : line_behind 9 0 a_move ≡ None
nothing_more = refl

-- ---- what may not be

-- it is enabled before the fence
before_the_fence : (inputs : List CellInput) → EnablesStandAlone two inputs (locates 2 ∷ enables 2 ∷ fences 1 ∷ []) → ⊥
before_the_fence inputs h = let no : true ≡ false = (h.free 1 1 home (Server 2) refl).nowhere 1 in absurd cc

-- It is enabled and fenced in one entry: behind that, and before, all is well.
within_an_entry : (inputs : List CellInput) → EnablesStandAlone two inputs (told_by (Server 2) (lines.Enable home (Server 2) ∷ lines.Fence home (Server 2) ∷ []) ∷ []) → ⊥
within_an_entry inputs h = let no : suc zero ≡ suc (suc zero) = h.one 0 1 home 1 2 refl refl in absurd cc

-- it is enabled where it accepts stores already
enabled_twice : (inputs : List CellInput) → EnablesStandAlone two inputs (enables 1 ∷ []) → ⊥
enabled_twice inputs h = let no : true ≡ false = (h.free 0 1 home (Server 1) refl).nowhere 1 in absurd cc

-- at the new server, where the database doesn't put it yet
before_it_is_located : (inputs : List CellInput) → EnablesStandAlone two inputs (fences 1 ∷ enables 2 ∷ locates 2 ∷ []) → ⊥
before_it_is_located inputs h = let no : Some (Server 1) ≡ Some (Server 2) = (h.free 1 1 home (Server 2) refl).told in absurd cc

-- at the old one, where it doesn't put it any more
after_it_is_located : (inputs : List CellInput) → EnablesStandAlone two inputs (fences 1 ∷ locates 2 ∷ enables 1 ∷ []) → ⊥
after_it_is_located inputs h = let no : Some (Server 2) ≡ Some (Server 1) = (h.free 2 1 home (Server 1) refl).told in absurd cc

-- where a server says that it is, and not the database
located_by_a_server : (inputs : List CellInput) → EnablesStandAlone two inputs (fences 1 ∷ told_by (Server 2) (lines.Located home (Server 2) ∷ lines.Enable home (Server 2) ∷ []) ∷ []) → ⊥
located_by_a_server inputs h = let no : Some (Server 1) ≡ Some (Server 2) = (h.free 1 1 home (Server 2) refl).told in absurd cc

-- where the database's entry doesn't say so: in this cell nothing happened
not_listed : EnablesStandAlone two [] a_move → ⊥
not_listed h = let no : Some (Server 1) ≡ Some (Server 2) = (h.free 2 1 home (Server 2) refl).listed in absurd cc

-- ---- a volume that an administrator makes

abbrev one : Script
one = record (script 1) { admins = 1 }

abbrev entries : NodeCell → List CellInput → List Entry
entries c [] = []
entries c (x ∷ xs) = (node_moved c x).entry ∷ entries (node_moved c x).cell xs

-- so many messages from this place on are given, one after the other
abbrev given_from : ℕ → ℕ → List CellInput
given_from place zero = []
given_from place (suc n) = usual (gives place steady) ∷ given_from (place + 1) n

abbrev create : AdminAct
create = acts.Create (codes "more") 1 10

abbrev made : List CellInput
made = admin_begins 1 create ∷ given_from 1 18

abbrev fresh : ℕ
fresh = 536870913

-- It comes in with the entry that tells it whole, behind its versions. No server accepts its stores before, and the database has its entry.
record IsMade (history : List Entry) : Type 0 where
  comes : line_behind 13 3 history ≡ Some (lines.Enable fresh (Server 1))
  nowhere : accepts one (cut_at 13 3 history) fresh 1 ≡ false
  told : place_by_lines one (cut_at 13 3 history) fresh ≡ Some (Server 1)
  listed : home_listed (get fresh (entries_in (cell_behind (node_start one) (take 13 made)))) ≡ Some (Server 1)
  behind : accepts one (cut_at 13 4 history) fresh 1 ≡ true

is_made : IsMade (entries (node_start one) made)
unfolding usually_moved admin_row admin_begin_row admin_timeout_row loc_row loc_record_bytes entry_form volume_name_ok is_name_of laid_at led node_row file_row file_start spelled record_bytes head_form volume_form restored_from fed dump_at dump_field dump_header_field volume_header_field live_field image_field next_at changed_since word opaque pad word_at opaque_at counted_at kind_fits image value_of is_sound directories.directory_bytes directories.name_bytes directories.directory_of directories.whole_at directories.count_at directories.names_at directories.name_at directories.spelled_at directories.bytes_below acls.acl_text acls.acl_entry_text acls.acl_at acls.count_at acls.line_number_at acls.acl_entry_at acls.name_at acls.named_at rights_of name_ok digits
is_made = record { comes = refl; nowhere = refl; told = refl; listed = refl; behind = refl }
