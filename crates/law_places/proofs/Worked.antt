-- Worked histories: where stores are accepted behind them; and lines that may not stand where they do.
use Rattle.std.proofs.Common.{◌≡◌, ℕ, ◌+◌, zero, suc, List, [], ◌∷◌, true, false, refl}
use Rattle.std.specs.Prelude.{codes, take}
use Rattle.afs_num.specs.declared.histories.Actor.TheVariants as actors
use Rattle.afs_num.specs.declared.histories.Body.TheVariants as bodies
use Rattle.afs_num.specs.declared.types.Key.{Key}
use Rattle.afs_num.specs.declared.types.Node.TheVariants.{Client, Server}
use Rattle.spec_history.specs.declared.lines.Line.{Line}
use Rattle.spec_rows.proofs.Worked.{file, home, script}
use Rattle.spec_rows.specs.Runs.{gives, steady, Entry}
use Rattle.spec_adminrows.specs.AdminRow.{admin_begin_row, admin_row, admin_timeout_row}
use Rattle.spec_runs.specs.NodeRuns.{admin_begins, node_moved, node_start, usual, usually_moved, CellInput, NodeCell}
use Rattle.law_places.specs.Accepting.{accepts, is_laid_at}
use Rattle.law_places.specs.Standing.{AreGoodIn, StandWell}
use Rattle.spec_history.specs.declared.lines.Line.TheVariants as lines
use Rattle.spec_history.specs.declared.scripts.AdminAct.{AdminAct}
use Rattle.spec_history.specs.declared.scripts.AdminAct.TheVariants as acts
use Rattle.spec_history.specs.declared.scripts.Script.{Script}
use Rattle.std.specs.Fmt.{digits}
use Rattle.afs_num.specs.Names.{is_name_of, name_ok, volume_name_ok}
use Rattle.afs_xdr.specs.Words.{counted_at, opaque, opaque_at, pad, word, word_at}
use Rattle.spec_ideal.specs.AccessLists as acls
use Rattle.spec_ideal.specs.AccessLists.{rights_of}
use Rattle.spec_ideal.specs.Directories as directories
use Rattle.spec_ideal.specs.Images.{value_of}
use Rattle.spec_ideal.specs.SetUp.{laid_at, led}
use Rattle.spec_ideal.specs.VnodeImage.{image, kind_fits}
use Rattle.spec_ideal.specs.VnodeMaps.{changed_since}
use Rattle.spec_model.specs.Messages.{spelled}
use Rattle.spec_records.specs.LocRecords.{entry_form, loc_record_bytes}
use Rattle.spec_records.specs.Records.{head_form, record_bytes, volume_form}
use Rattle.spec_records.specs.Sound.{is_sound}
use Rattle.spec_dumps.specs.Restores.{fed, restored_from}
use Rattle.spec_dumps.specs.Streams.{dump_at, dump_field, dump_header_field, image_field, live_field, next_at, volume_header_field}
use Rattle.spec_rows.specs.LocSteps.{loc_row}
use Rattle.spec_volrows.specs.FileRow.{file_row, file_start}
use Rattle.spec_volrows.specs.VolSteps.{node_row}

-- a cell of two servers; the script's volume is at the first
abbrev two : Script
two = record (script 1) { servers = 2 }

-- ---- entries of a server

abbrev told_by : ℕ → List Line → Entry
told_by n ls = record { actor = actors.Node (Server n); lines = ls; sent = []; volumes = [] }

abbrev fences : ℕ → Entry
fences n = told_by n (lines.Fence home (Server n) ∷ [])

abbrev enables : ℕ → Entry
enables n = told_by n (lines.Enable home (Server n) ∷ [])

abbrev deletes : ℕ → Entry
deletes n = told_by n (lines.Vanish home (Server n) ∷ [])

-- a client's store in a file of the volume
abbrev key : Key
key = record { node = Client 1; epoch = 1; number = 1 }

abbrev stores : ℕ → Entry
stores n = told_by n (lines.Given 1 ∷ lines.Change (Server n) key 1 ∷ lines.Version (record { fid = file; index = 2; data_version = 2; body = bodies.File [] }) ∷ [])

-- ---- a move from the first server to the second

abbrev a_move : List Entry
a_move = stores 1 ∷ fences 1 ∷ enables 2 ∷ deletes 1 ∷ stores 2 ∷ []

-- the volume accepts stores at neither between the fence and the enable, and then at the second alone
before_it : accepts two [] home 1 ≡ true
before_it = refl

between_here : accepts two (take 2 a_move) home 1 ≡ false
between_here = refl

between_there : accepts two (take 2 a_move) home 2 ≡ false
between_there = refl

behind_here : accepts two a_move home 1 ≡ false
behind_here = refl

behind_there : accepts two a_move home 2 ≡ true
behind_there = refl

stands_here : AreGoodIn home (Server 1) (is_laid_at two home 1) a_move
stands_here = ((tt, (tt, ((λ e. refl), tt))), (((λ e. refl), tt), (((λ e. absurd cc), tt), ((tt, tt), ((tt, (tt, ((λ e. absurd cc), tt))), tt)))))

-- ---- what may not stand

-- a store behind the fence
stores_behind_the_fence : StandWell two (fences 1 ∷ stores 1 ∷ []) → ⊥
stores_behind_the_fence h = let no : false ≡ true = (h home 1).1.0.1.1.0 refl in absurd cc

-- a store at a server where the volume isn't
stores_elsewhere : StandWell two (stores 2 ∷ []) → ⊥
stores_elsewhere h = let no : false ≡ true = (h home 2).0.1.1.0 refl in absurd cc

-- a store at the new server before that is enabled
stores_too_early : StandWell two (fences 1 ∷ stores 2 ∷ enables 2 ∷ []) → ⊥
stores_too_early h = let no : false ≡ true = (h home 2).1.0.1.1.0 refl in absurd cc

-- a store at the old server behind its deletion
stores_behind_the_deletion : StandWell two (deletes 1 ∷ stores 1 ∷ []) → ⊥
stores_behind_the_deletion h = let no : false ≡ true = (h home 1).1.0.1.1.0 refl in absurd cc

-- a volume in service is brought into it
enables_twice : StandWell two (enables 1 ∷ []) → ⊥
enables_twice h = let no : true ≡ false = (h home 1).0.0 refl in absurd cc

-- one out of service is taken out of it
fences_twice : StandWell two (fences 1 ∷ fences 1 ∷ []) → ⊥
fences_twice h = let no : false ≡ true = (h home 1).1.0.0 refl in absurd cc

-- ---- a volume that an administrator makes

abbrev one : Script
one = record (script 1) { admins = 1 }

abbrev entries : NodeCell → List CellInput → List Entry
entries c [] = []
entries c (x ∷ xs) = (node_moved c x).entry ∷ entries (node_moved c x).cell xs

-- so many messages from this place on are given, one after the other
abbrev given_from : ℕ → ℕ → List CellInput
given_from place zero = []
given_from place (suc n) = usual (gives place steady) ∷ given_from (place + 1) n

abbrev create : AdminAct
create = acts.Create (codes "more") 1 10

abbrev made : List CellInput
made = admin_begins 1 create ∷ given_from 1 18

abbrev fresh : ℕ
fresh = 536870913

-- it accepts stores once its flags are 0
accepts_what_was_made : accepts one (entries (node_start one) made) fresh 1 ≡ true
unfolding usually_moved admin_row admin_begin_row admin_timeout_row loc_row loc_record_bytes entry_form volume_name_ok is_name_of laid_at led node_row file_row file_start spelled record_bytes head_form volume_form restored_from fed dump_at dump_field dump_header_field volume_header_field live_field image_field next_at changed_since word opaque pad word_at opaque_at counted_at kind_fits image value_of is_sound directories.directory_bytes directories.name_bytes directories.directory_of directories.whole_at directories.count_at directories.names_at directories.name_at directories.spelled_at directories.bytes_below acls.acl_text acls.acl_entry_text acls.acl_at acls.count_at acls.line_number_at acls.acl_entry_at acls.name_at acls.named_at rights_of name_ok digits
accepts_what_was_made = refl

accepts_nothing_before : accepts one (take 10 (entries (node_start one) made)) fresh 1 ≡ false
unfolding usually_moved admin_row admin_begin_row admin_timeout_row loc_row loc_record_bytes entry_form volume_name_ok is_name_of laid_at led node_row file_row file_start spelled record_bytes head_form volume_form restored_from fed dump_at dump_field dump_header_field volume_header_field live_field image_field next_at changed_since word opaque pad word_at opaque_at counted_at kind_fits image value_of is_sound directories.directory_bytes directories.name_bytes directories.directory_of directories.whole_at directories.count_at directories.names_at directories.name_at directories.spelled_at directories.bytes_below acls.acl_text acls.acl_entry_text acls.acl_at acls.count_at acls.line_number_at acls.acl_entry_at acls.name_at acls.named_at rights_of name_ok digits
accepts_nothing_before = refl
