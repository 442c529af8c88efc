-- What an act needs next, act by act, in the order of the program.
use Rattle.spec_ideal.specs.SetUp.{nothing_set}
use Rattle.std.specs.Prelude.{ℕ, ◌||◌, Bool, true, false, List, [], ◌∷◌, Option, Some, None, Result, Ok, Err, nat_eq, if◌then◌else◌}
use Rattle.std.specs.Borrow.{Bor}
use Rattle.spec_history.specs.declared.acts.Act.{Act}
use Rattle.spec_history.specs.declared.acts.Act.TheVariants as acts
use Rattle.spec_history.specs.declared.acts.Operand.{Operand}
use Rattle.spec_history.specs.declared.acts.Path.{Path}
use Rattle.spec_history.specs.Written.{bytes_in}
use Rattle.afs_num.specs.declared.types.Fid.{Fid}
use Rattle.afs_num.specs.declared.calls.FsCall.{FsCall}
use Rattle.afs_num.specs.declared.calls.FsCall.TheVariants as calls
use Rattle.afs_num.specs.declared.histories.Body.{Body}
use Rattle.afs_num.specs.declared.histories.Body.TheVariants as bodies
use Rattle.afs_num.specs.declared.histories.ReadStatus.{ReadStatus}
use Rattle.spec_rows.specs.Going as going
use Rattle.spec_rows.specs.Going.{Need, ReadShown, TakenRead, Homes, Going, Parted, first_status, has_rights, by_kind, mode_set, stored_whole, named_first, reading_status, reading_rights, is_root_path}
use Rattle.afs_acts.specs.Walks.{At, Within, need_of, then_on, goes_to, body_at, object_at, path_at, parent_at}
use Rattle.afs_acts.specs.declared.types.Need as needs
use Rattle.afs_acts.specs.declared.walks.At as walks
use Rattle.afs_acts.specs.declared.walks.Within as walked
use Rattle.afs_acts.specs.declared.walks.Taken as read

-- ---- what the program's functions give, in the words of the rows

abbrev pub at_of : walks.At → At
at_of a = record { fid = a.fid; rest = a.rest.now }

abbrev pub within_of : walked.Within → Within
within_of w = record { directory = w.directory; name = w.name.now; rest = w.rest.now }

abbrev pub taken_of : read.Taken → TakenRead Body
taken_of t = record { found = t.body.now; rest = t.rest.now }

abbrev pub came_fid : Result Fid needs.Need → Result Fid Need
came_fid (Ok f) = Ok f
came_fid (Err need) = Err (need_of need)

abbrev pub came_body : Result read.Taken needs.Need → Result (TakenRead Body) Need
came_body (Ok t) = Ok (taken_of t)
came_body (Err need) = Err (need_of need)

abbrev pub came : Result walks.At needs.Need → Result At Need
came (Ok a) = Ok (at_of a)
came (Err need) = Err (need_of need)

abbrev pub came_within : Result walked.Within needs.Need → Result Within Need
came_within (Ok w) = Ok (within_of w)
came_within (Err need) = Err (need_of need)

-- ---- reads

abbrev pub first_read : List ReadShown → Option (ReadShown × List ReadShown)
first_read [] = None
first_read (r ∷ rs) = Some (r, rs)

abbrev pub status_rest : Option (TakenRead ReadStatus) → Option (List ReadShown)
status_rest None = None
status_rest (Some t) = Some t.rest

abbrev pub first_name : List (List ℕ) → Option (List ℕ × List (List ℕ))
first_name [] = None
first_name (n ∷ names) = Some (n, names)

abbrev pub first_parted : Bor (List (List ℕ)) × Bor (List ℕ) → Parted
first_parted p = record { front = p.0.now; last = p.1.now }

-- ---- acts

-- the body of what was reached is shown, where it is of the right kind
abbrev pub shows_by : ℕ → ℕ → ℕ → Result At Need → Need
shows_by file directory link r = goes_to (λ (t : TakenRead Body). by_kind file directory link t.found) (then_on body_at r)

abbrev pub shown_need : ℕ → ℕ → ℕ → Option ℕ → Operand → List ReadShown → Need
shown_need file directory link home o rs = shows_by file directory link (object_at home o rs)

abbrev pub status_by : Result At Need → Need
status_by r = goes_to (λ (a : At). reading_status a.fid a.rest) r

abbrev pub status_need : Option ℕ → Operand → List ReadShown → Need
status_need home o rs = status_by (object_at home o rs)

abbrev pub rights_by : Result At Need → Need
rights_by r = goes_to (λ (a : At). reading_rights a.fid a.rest) r

abbrev pub rights_need : Option ℕ → Operand → List ReadShown → Need
rights_need home o rs = rights_by (object_at home o rs)

-- each of these was read, in their order
abbrev pub are_read_on : (List ReadShown → Bool) → Option (TakenRead ReadStatus) → Bool
are_read_on more None = false
are_read_on more (Some t) = more t.rest

abbrev pub are_read : List Fid → List ReadShown → Bool
are_read [] rs = true
are_read (f ∷ fs) rs = are_read_on (are_read fs) (first_status f rs)

abbrev pub statuses_seen : ℕ → List ReadShown → Body → Need
statuses_seen volume rs (bodies.Dir names) = if are_read (named_first volume names) rs then going.answers 0 else going.reads_statuses (named_first volume names)
statuses_seen volume rs b = going.answers 20

abbrev pub statuses_by : At → Result (TakenRead Body) Need → Need
statuses_by a r = goes_to (λ (t : TakenRead Body). statuses_seen a.fid.volume t.rest t.found) r

abbrev pub statuses_in : Result At Need → Need
statuses_in r = goes_to (λ (a : At). statuses_by a (body_at a)) r

abbrev pub statuses_need : Option ℕ → Operand → List ReadShown → Need
statuses_need home o rs = statuses_in (object_at home o rs)

-- this call on what was reached
abbrev pub asks_on : (Fid → FsCall) → Result At Need → Need
asks_on call r = goes_to (λ (a : At). going.asks_for (call a.fid)) r

abbrev pub on_object : Option ℕ → Operand → List ReadShown → (Fid → FsCall) → Need
on_object home o rs call = asks_on call (object_at home o rs)

-- this call for the name in the directory that was reached
abbrev pub asks_in : (Fid → List ℕ → FsCall) → Result Within Need → Need
asks_in call r = goes_to (λ (w : Within). going.asks_for (call w.directory w.name)) r

abbrev pub in_parent : Option ℕ → Path → List ReadShown → (Fid → List ℕ → FsCall) → Need
in_parent home p rs call = asks_in call (parent_at home p rs)

-- 22: the two are of different volumes
abbrev pub moved : Within → Within → Need
moved d e = if nat_eq d.directory.volume e.directory.volume then going.asks_for (calls.Rename d.directory d.name e.directory e.name) else going.answers 22

abbrev pub linked : At → Within → Need
linked a d = if nat_eq a.fid.volume d.directory.volume then going.asks_for (calls.Link d.directory d.name a.fid) else going.answers 22

abbrev pub move_need : Homes → Path → Path → List ReadShown → Need
move_need h old new rs = goes_to (λ (d : Within). goes_to (moved d) (parent_at h.second new d.rest)) (parent_at h.first old rs)

abbrev pub link_need : Homes → Path → Path → List ReadShown → Need
link_need h target new rs = goes_to (λ (a : At). goes_to (linked a) (parent_at h.second new a.rest)) (path_at h.first target rs)

abbrev pub needed_by : Homes → Act → List ReadShown → Need
needed_by h (acts.Open o) rs = shown_need 0 21 22 h.first o rs
needed_by h (acts.ListNames o) rs = shown_need 20 0 20 h.first o rs
needed_by h (acts.ReadLink o) rs = shown_need 22 21 0 h.first o rs
needed_by h (acts.Close o contents) rs = on_object h.first o rs (λ f. stored_whole f (bytes_in contents))
needed_by h (acts.SetMode o mode) rs = on_object h.first o rs (λ f. calls.StoreStatus f (mode_set mode))
needed_by h (acts.SetAccessList o text) rs = on_object h.first o rs (λ f. calls.StoreAcl f (bytes_in text))
needed_by h (acts.Make p) rs = in_parent h.first p rs (λ d name. calls.CreateFile d name nothing_set)
needed_by h (acts.MakeDirectory p) rs = in_parent h.first p rs (λ d name. calls.MakeDir d name nothing_set)
needed_by h (acts.Symlink p target) rs = in_parent h.first p rs (λ d name. calls.Symlink d name (bytes_in target) nothing_set)
needed_by h (acts.Remove p) rs = in_parent h.first p rs calls.RemoveFile
needed_by h (acts.RemoveDirectory p) rs = in_parent h.first p rs calls.RemoveDir
needed_by h (acts.Move p q) rs = if (is_root_path p || is_root_path q) then going.answers 22 else move_need h p q rs
needed_by h (acts.Link p q) rs = if is_root_path q then going.answers 22 else link_need h p q rs
needed_by h (acts.Stat o) rs = status_need h.first o rs
needed_by h (acts.StatAll o) rs = statuses_need h.first o rs
needed_by h (acts.GetAccessList o) rs = rights_need h.first o rs
needed_by h acts.GiveUp rs = going.gives_back

unfoldable pub needed : Going → Need
needed g = needed_by g.homes g.act g.reads

-- it needs nothing that an entry of a cache shows
abbrev pub NeedsNoEntry : Need → Type 0
NeedsNoEntry (going.reads f) = ⊥
NeedsNoEntry (going.reads_status f) = ⊥
NeedsNoEntry need = Unit {0}
