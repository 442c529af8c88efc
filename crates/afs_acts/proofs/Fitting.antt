-- What an act within its limits needs can be sent.
use Rattle.std.proofs.Common.{◌≤◌, ◌<◌, ℕ, zero, suc, Bool, true, false, cond, ◌||◌, List, [], ◌∷◌, map, take, length, Option, Some, None, subst, arith}
use Rattle.std.specs.Prelude.{nat_eq}
use Rattle.spec_history.specs.Written.{bytes_in}
use Rattle.spec_history.specs.declared.acts.Act.{Act}
use Rattle.spec_history.specs.declared.acts.Act.TheVariants as acts
use Rattle.afs_num.specs.declared.directories.Name.{Name}
use Rattle.afs_num.specs.declared.types.Fid.{Fid}
use Rattle.afs_num.specs.declared.histories.Body.{Body}
use Rattle.afs_num.specs.declared.histories.ReadStatus.{ReadStatus}
use Rattle.afs_num.specs.declared.histories.Body.TheVariants as bodies
use Rattle.spec_model.specs.FsRows.{name_limit}
use Rattle.spec_shape.specs.Tables.{IsCount}
use Rattle.spec_rows.specs.Going as going
use Rattle.spec_rows.specs.Going.{Need, ReadShown, TakenRead, Homes, Going, Parted, put_front, parted, parted_on, first_body, looked_up, is_even, is_last_name, fid_of, by_kind, first_status, has_rights, reading_status, by_status, named_first, is_root_path, next}
use Rattle.afs_acts.specs.Acts.{FitsCalls, FitsNeed}
use Rattle.afs_acts.specs.Walks.{body_at, path_at, object_at, parent_at}
use Rattle.afs_acts.specs.Needs.{are_read, statuses_seen, moved, linked, needed_by, needed}
use Rattle.afs_acts.proofs.Walking.{needed_is}
use Rattle.afs_acts.proofs.Reaching.{Any, IsWithinSo, goes_fits, body_reached, object_reached, path_reached, parent_reached, shown_fits, one_volume, root_or}

abbrev IsShortName : List ℕ → Type 0
IsShortName n = length n ≤ name_limit

asks : (f : Fid) → FitsNeed (going.reads f)
asks f = tt

told : (n : ℕ) → n < 2147483648 → FitsNeed (going.answers n)
told n h = h

counted : (most n : ℕ) → most ≤ 2097152 → n ≤ most → IsCount most n
counted most n small h = (h, omega (arith, small, h))

name_counted : (n : List ℕ) → IsShortName n → IsCount name_limit (length n)
name_counted n h = counted name_limit (length n) (omega arith) h

status_by_fits : (f : Fid) (o : Option (TakenRead ReadStatus)) → FitsNeed (by_status f o)
status_by_fits f None = tt
status_by_fits f (Some t) = omega arith

rights_by_fits : (b : Bool) (f : Fid) → FitsNeed (cond b (going.answers 0) (going.reads_rights f))
rights_by_fits true f = omega arith
rights_by_fits false f = tt

few : (volume n : ℕ) (ns : List Name) → length (map (fid_of volume) (take n ns)) ≤ n
few volume zero ns = omega arith
few volume (suc n) [] = omega arith
few volume (suc n) (m ∷ ns) = let le = few volume n ns in omega (arith, le)

named_few : (volume : ℕ) (names : List Name) → length (named_first volume names) ≤ 50
named_few volume names = few volume 50 names

seen_fits : (b : Bool) (fs : List Fid) → length fs ≤ 50 → FitsNeed (cond b (going.answers 0) (going.reads_statuses fs))
seen_fits true fs h = omega arith
seen_fits false fs h = h

statuses_fit : (volume : ℕ) (rs : List ReadShown) (b : Body) → FitsNeed (statuses_seen volume rs b)
statuses_fit volume rs (bodies.Dir names) = seen_fits (are_read (named_first volume names) rs) (named_first volume names) (named_few volume names)
statuses_fit volume rs (bodies.File c) = omega arith
statuses_fit volume rs (bodies.Link c) = omega arith
statuses_fit volume rs bodies.Gone = omega arith

pub needs_fit : (h : Homes) (a : Act) (rs : List ReadShown) → FitsCalls a → FitsNeed (needed_by h a rs)
needs_fit h (acts.Open o) rs s = shown_fits FitsNeed asks told 0 21 22 h.first o rs s.first (omega arith) (omega arith) (omega arith)
needs_fit h (acts.ListNames o) rs s = shown_fits FitsNeed asks told 20 0 20 h.first o rs s.first (omega arith) (omega arith) (omega arith)
needs_fit h (acts.ReadLink o) rs s = shown_fits FitsNeed asks told 22 21 0 h.first o rs s.first (omega arith) (omega arith) (omega arith)
needs_fit h (acts.Close o contents) rs s = goes_fits FitsNeed asks told Any _ (object_at h.first o rs) (object_reached FitsNeed asks told h.first o rs s.first) (λ a k. (tt, (tt, (tt, (tt, (tt, (counted 2097152 (length (bytes_in contents)) (omega arith) s.call, tt)))))))
needs_fit h (acts.SetMode o mode) rs s = goes_fits FitsNeed asks told Any _ (object_at h.first o rs) (object_reached FitsNeed asks told h.first o rs s.first) (λ a k. (tt, (tt, tt)))
needs_fit h (acts.SetAccessList o text) rs s = goes_fits FitsNeed asks told Any _ (object_at h.first o rs) (object_reached FitsNeed asks told h.first o rs s.first) (λ a k. (tt, (counted 1024 (length (bytes_in text)) (omega arith) s.call, tt)))
needs_fit h (acts.Make p) rs s = goes_fits FitsNeed asks told (IsWithinSo IsShortName) _ (parent_at h.first p rs) (parent_reached FitsNeed asks told IsShortName h.first p rs s.call s.first) (λ w k. (tt, (name_counted w.name k, (tt, tt))))
needs_fit h (acts.MakeDirectory p) rs s = goes_fits FitsNeed asks told (IsWithinSo IsShortName) _ (parent_at h.first p rs) (parent_reached FitsNeed asks told IsShortName h.first p rs s.call s.first) (λ w k. (tt, (name_counted w.name k, (tt, tt))))
needs_fit h (acts.Symlink p target) rs s = goes_fits FitsNeed asks told (IsWithinSo IsShortName) _ (parent_at h.first p rs) (parent_reached FitsNeed asks told IsShortName h.first p rs s.call.0 s.first) (λ w k. (tt, (name_counted w.name k, (counted 1024 (length (bytes_in target)) (omega arith) s.call.1, (tt, tt)))))
needs_fit h (acts.Remove p) rs s = goes_fits FitsNeed asks told (IsWithinSo IsShortName) _ (parent_at h.first p rs) (parent_reached FitsNeed asks told IsShortName h.first p rs s.call s.first) (λ w k. (tt, (name_counted w.name k, tt)))
needs_fit h (acts.RemoveDirectory p) rs s = goes_fits FitsNeed asks told (IsWithinSo IsShortName) _ (parent_at h.first p rs) (parent_reached FitsNeed asks told IsShortName h.first p rs s.call s.first) (λ w k. (tt, (name_counted w.name k, tt)))
needs_fit h (acts.Move p q) rs s =
    root_or FitsNeed asks told (is_root_path p || is_root_path q) _
    (goes_fits FitsNeed asks told (IsWithinSo IsShortName) _ (parent_at h.first p rs) (parent_reached FitsNeed asks told IsShortName h.first p rs s.call.0 s.first)
    (λ d k. goes_fits FitsNeed asks told (IsWithinSo IsShortName) (moved d) (parent_at h.second q d.rest) (parent_reached FitsNeed asks told IsShortName h.second q d.rest s.call.1 s.second)
    (λ e l. one_volume FitsNeed asks told (nat_eq d.directory.volume e.directory.volume) _ (tt, (name_counted d.name k, (tt, (name_counted e.name l, tt)))))))
needs_fit h (acts.Link p q) rs s =
    root_or FitsNeed asks told (is_root_path q) _
    (goes_fits FitsNeed asks told Any _ (path_at h.first p rs) (path_reached FitsNeed asks told h.first p rs s.first)
    (λ a k. goes_fits FitsNeed asks told (IsWithinSo IsShortName) (linked a) (parent_at h.second q a.rest) (parent_reached FitsNeed asks told IsShortName h.second q a.rest s.call s.second)
    (λ d l. one_volume FitsNeed asks told (nat_eq a.fid.volume d.directory.volume) _ (tt, (name_counted d.name l, (tt, tt))))))
needs_fit h (acts.Stat o) rs s = goes_fits FitsNeed asks told Any _ (object_at h.first o rs) (object_reached FitsNeed asks told h.first o rs s.first) (λ a k. status_by_fits a.fid (first_status a.fid a.rest))
needs_fit h (acts.StatAll o) rs s =
    goes_fits FitsNeed asks told Any _ (object_at h.first o rs) (object_reached FitsNeed asks told h.first o rs s.first)
    (λ a k. goes_fits FitsNeed asks told Any (λ (t : TakenRead Body). statuses_seen a.fid.volume t.rest t.found) (body_at a) (body_reached FitsNeed asks told a.fid (first_body a.fid a.rest)) (λ t l. statuses_fit a.fid.volume t.rest t.found))
needs_fit h (acts.GetAccessList o) rs s = goes_fits FitsNeed asks told Any _ (object_at h.first o rs) (object_reached FitsNeed asks told h.first o rs s.first) (λ a k. rights_by_fits (has_rights a.fid a.rest) a.fid)
needs_fit h acts.GiveUp rs s = tt

pub next_fits : (g : Going) → FitsCalls g.act → FitsNeed (next g)
unfolding needed
next_fits g s = subst FitsNeed (needed_is g) (needs_fit g.homes g.act g.reads s)
