-- The end of a replay: its history is a run of the script, what was read from the disks is what the history leaves, and so are the disks
-- that were given back.
use Rattle.std.specs.Prelude.{◌≡◌, ◌≤◌, ◌⊎◌, ℕ, suc, ◌+◌, List, [], ◌∷◌, ◌++◌, drop, map, length, Option, Some, None, IsSome}
use Rattle.std.proofs.Common.{refl, ap, sym, subst, ◌∙◌, inl, inr, append_assoc, arith}
use Rattle.std.proofs.lemmas.List.{append-nil}
use Rattle.afs_num.specs.Places.{at_place}
use Rattle.afs_num.specs.declared.types.Parcel.{Parcel}
use Rattle.spec_history.specs.declared.lines.Entry as kept
use Rattle.spec_history.specs.declared.scripts.Script.{Script}
use Rattle.afs_disk.specs.Banks as banks
use Rattle.afs_disk.specs.declared.bank.LendFault.{LendFault}
use Rattle.afs_disk.specs.declared.disks.Lent.{Lent}
use Rattle.afs_journal.specs.Records.{whole_records}
use Rattle.spec_records.specs.Durable.{Durable}
use Rattle.spec_fold.specs.Fold.{fold_all}
use Rattle.spec_records.specs.LocDurable.{LocDurable}
use Rattle.afs_volstore.specs.Stands.{StandsForVolumes}
use Rattle.spec_records.proofs.Forms.{some_is}
use Rattle.spec_rows.specs.Runs.{Entry}
use Rattle.spec_runs.specs.NodeRuns.{CellInput, NodeCell}
use Rattle.afs_text.specs.Telling.{entries_as_told}
use Rattle.afs_volstore.specs.Stores.{Store}
use Rattle.afs_clients.specs.Places.{Each}
use Rattle.afs_cell.specs.Steps.{AreStanding, HasPlayed, IsStanding, IsStandingAtLoc, LocStands, MayBeRead, MayBeReadAtLoc}
use Rattle.afs_cell.specs.Lends.{disks_of, lent_from}
use Rattle.afs_host.specs.LocSeated.{loc_seat_disk}
use Rattle.afs_serverhost.specs.Seated.{seat_disk, ServerSeat}
use Rattle.afs_cell.specs.Worlds.{most_history_entries, own_falls, AllTell, IsCell, WorldState}
use Rattle.afs_final.specs.Reading.{fault_in, kept_disk, part, AreFound, IsRead}
use Rattle.afs_final.specs.declared.reading.Left.{Left}
use Rattle.afs_final.specs.declared.reading.Left.TheVariants as left
use Rattle.afs_lending.specs.Lending.{all_kept, kept_disks, GivesBackBut}
use Rattle.afs_command.specs.Spans.{RoseBy, Span}
use Rattle.afs_cell.specs.Replays.{no_other, AreAllKept, AreKept, AreOf, GivesBack, GivesBackThose, HasDisk, IsRun, MayKeep}
use Rattle.afs_cell.proofs.Bare.{told_falls, told_length}

some_of : {A : Type 0} (o : Option A) → IsSome o → (x : A) × (o ≡ Some x)
some_of {A} None some = absurd cc
some_of {A} (Some x) some = (x, refl)

-- ---- what is so of each is so from one on

abbrev pub EachFrom : {A : Type 0} → ℕ → (ℕ → A → Type 0) → List A → Type 0
EachFrom {A} i P [] = Unit {0}
EachFrom {A} i P (x ∷ xs) = P i x × EachFrom (i + 1) P xs

each_from : {A : Type 0} (i : ℕ) (P : ℕ → A → Type 0) (xs : List A) → ((n : ℕ) (x : A) → at_place xs (suc n) ≡ Some x → P (i + n) x) → EachFrom i P xs
each_from {A} i P [] h = tt
each_from {A} i P (x ∷ xs) h =
    (subst (λ (k : ℕ). P k x) (omega (arith)) (h 0 x refl), each_from (i + 1) P xs (λ n y e. subst (λ (k : ℕ). P k y) (omega (arith)) (h (suc n) y e)))

pub each_is : {A : Type 0} (P : ℕ → A → Type 0) (xs : List A) → Each P xs → EachFrom 1 P xs
each_is {A} P xs h = each_from 1 P xs (λ n x e. subst (λ (k : ℕ). P k x) (omega (arith)) (h (suc n) x e))

-- ---- the disks of a world

-- the disk of a server may stand for something in the cell
abbrev Stand : {D : Type 0} → (D → Option (List ℕ)) → (D → ℕ) → NodeCell → ℕ → Lent D → Type 0
Stand {D} seen limit c i l = IsStanding seen limit c i l.disk

abbrev Tells : {D : Type 0} → (D → Option (List ℕ)) → ℕ → Lent D → Type 0
Tells {D} seen i l = IsSome (seen l.disk)

tells_from : {D : Type 0} (seen : D → Option (List ℕ)) (i : ℕ) (ss : List (ServerSeat D)) → EachFrom i (λ (i : ℕ) (s : ServerSeat D). IsSome (seen (seat_disk s))) ss → EachFrom i (Tells seen) (lent_from i ss)
tells_from {D} seen i [] h = tt
tells_from {D} seen i (s ∷ ss) h = (h.0, tells_from seen (i + 1) ss h.1)

pub lent_length : {D : Type 0} (i : ℕ) (ss : List (ServerSeat D)) → length (lent_from i ss) ≡ length ss
lent_length {D} i [] = refl
lent_length {D} i (s ∷ ss) = ap suc (lent_length (i + 1) ss)

-- ---- what was found is what may stand there

-- on a disk of one capacity records stand for one durable part
same_durable : (records : List (List ℕ)) (d e : Durable) → d.capacity ≡ e.capacity → fold_all d.capacity records ≡ Some d → fold_all e.capacity records ≡ Some e → d ≡ e
same_durable records d e capacity hd he = some_is d e (sym hd ∙ (ap (λ (n : ℕ). fold_all n records) capacity ∙ he))

no_fault : (f : LendFault) → Some f ≡ None → ⊥
no_fault f e = absurd cc

one_left : {D : Type 0} (seen : D → Option (List ℕ)) (faults limit : D → ℕ) (c : NodeCell) (i : ℕ) (l : Lent D) (f : Left (Store D) D) (fs : List (Left (Store D) D)) → Stand seen limit c i l → Tells seen i l → IsRead seen faults limit l.disk f → fault_in (f ∷ fs) ≡ None → MayBeRead c i (part f) × (fault_in fs ≡ None)
one_left {D} seen faults limit c i l (left.Kept s) fs stand tells read none =
    let bytes = some_of (seen l.disk) tells in
    let d = stand bytes.0 bytes.1 in
    let same = same_durable (whole_records bytes.0) d.0 s.durable (d.1.1.1 ∙ sym read.is.capacity) d.1.1.0 (read.is.before bytes.0 bytes.1) in
    (subst (λ (x : Durable). MayBeRead c i x) same d.1.0, none)
one_left {D} seen faults limit c i l (left.Bad d) fs stand tells read none =
    let bytes = some_of (seen l.disk) tells in
    let p = stand bytes.0 bytes.1 in
    absurd (read.is.1 bytes.0 bytes.1 p.0 p.1.1.1 p.1.1.0)
one_left {D} seen faults limit c i l (left.Failed d) fs stand tells read none = absurd (no_fault _ none)
one_left {D} seen faults limit c i l (left.Unread d) fs stand tells read none = absurd (no_fault _ none)

all_left : {D : Type 0} (seen : D → Option (List ℕ)) (faults limit : D → ℕ) (c : NodeCell) (i : ℕ) (ls : List (Lent D)) (fs : List (Left (Store D) D)) → EachFrom i (Stand seen limit c) ls → EachFrom i (Tells seen) ls → AreFound seen faults limit ls fs → fault_in fs ≡ None → i + length ls ≡ c.host_count + 1 → MayKeep c i (map part fs)
all_left {D} seen faults limit c i [] [] stand tells found none counted = omega (arith, counted)
all_left {D} seen faults limit c i [] (f ∷ fs) stand tells found none counted = absurd found
all_left {D} seen faults limit c i (l ∷ ls) [] stand tells found none counted = absurd found
all_left {D} seen faults limit c i (l ∷ ls) (f ∷ fs) stand tells found none counted =
    let one = one_left seen faults limit c i l f fs stand.0 tells.0 found.0 none in
    (one.0, all_left seen faults limit c (i + 1) ls fs stand.1 tells.1 found.1 one.1 (omega (arith, counted)))

-- ---- disks that stand for what is kept go back

-- each of these disks, by its server's number from this one on, tells and stands for this
abbrev StandFor : {D : Type 0} → (D → Option (List ℕ)) → ℕ → List (Lent D) → List Durable → Type 0
StandFor {D} seen i [] ds = ds ≡ []
StandFor {D} seen i (l ∷ ls) [] = ⊥
StandFor {D} seen i (l ∷ ls) (d ∷ ds) = ((l.node ≡ i) × (IsSome (seen l.disk) × ((bytes : List ℕ) → seen l.disk ≡ Some bytes → StandsForVolumes bytes d))) × StandFor seen (i + 1) ls ds

abbrev Given : Type 0
Given = List (ℕ × List ℕ)

given_next : (told : Option (List ℕ)) (i : ℕ) (given : Given) (next : Option Given) (bytes : List ℕ) → told ≡ Some bytes → banks.IsTakenBack i told (Some given) next → next ≡ Some (given ++ (i, bytes) ∷ [])
given_next told i given next bytes e back = subst (λ (o : Option (List ℕ)). banks.IsTakenBack i o (Some given) next) e back

-- these were given back, and so many of so many are missing
abbrev Returned : (List (ℕ × List ℕ) → Type 0) → ℕ → ℕ → Given → Option Given → Type 0
Returned AreSuch missing count given new = (disks : Given) × ((new ≡ Some (given ++ disks)) × (AreSuch disks × (length disks + missing ≡ count)))

given_each : {D : Type 0} (seen : D → Option (List ℕ)) (missing i : ℕ) (ls : List (Lent D)) (ds : List Durable) (given : Given) (new : Option Given) → StandFor seen i ls ds → GivesBackBut seen missing ls (Some given) new → Returned (AreKept i ds) missing (length ds) given new
given_each {D} seen missing i [] ds given new stand back =
    let none : length ds ≡ 0 = ap length stand in
    ([], (back.1 ∙ ap (λ (x : Given). Some x) (sym (append-nil given)), (subst (λ (xs : List Durable). AreKept i xs []) (sym stand) refl, omega (arith, back.0, none))))
given_each {D} seen missing i (l ∷ ls) [] given new stand back = absurd stand
given_each {D} seen missing i (l ∷ ls) (d ∷ ds) given new stand (inl (after, (goes, back))) =
    let bytes = some_of (seen l.disk) stand.0.1.0 in
    let next = given_next (seen l.disk) l.node given after bytes.0 bytes.1 goes in
    let more = given_each seen missing (i + 1) ls ds (given ++ (l.node, bytes.0) ∷ []) new stand.1 (subst (λ (o : Option Given). GivesBackBut seen missing ls o new) next back) in
    ((l.node, bytes.0) ∷ more.0, (more.1.0 ∙ ap (λ (x : Given). Some x) (append_assoc given ((l.node, bytes.0) ∷ []) more.0), (inl ((stand.0.0, stand.0.1.1 bytes.0 bytes.1), more.1.1.0), omega (arith, more.1.1.1))))
given_each {D} seen missing i (l ∷ ls) (d ∷ ds) given new stand (inr (others, (one, back))) =
    let more = given_each seen others (i + 1) ls ds given new stand.1 back in
    (more.0, (more.1.0, (inr more.1.1.0, omega (arith, one, more.1.1.1))))

-- as many as the bank took
abbrev pub Missing : {D : Type 0} → (ℕ → Type 0) → (D → Option (List ℕ)) → List (Lent D) → Option Given → Option Given → Type 0
Missing {D} MayBeMissing seen ls old new = (missing : ℕ) × (GivesBackBut seen missing ls old new × MayBeMissing missing)

-- the location database's disk is the first of these
abbrev LocStand : {D : Type 0} → (D → Option (List ℕ)) → LocDurable → Lent D → Type 0
LocStand {D} seen loc l = (l.node ≡ 0) × (IsSome (seen l.disk) × ((bytes : List ℕ) → seen l.disk ≡ Some bytes → LocStands bytes loc))

abbrev pub AllStand : {D : Type 0} → (D → Option (List ℕ)) → LocDurable → List Durable → List (Lent D) → Type 0
AllStand {D} seen loc ds [] = ⊥
AllStand {D} seen loc ds (l ∷ ls) = LocStand seen loc l × StandFor seen 1 ls ds

given_all : {D : Type 0} (seen : D → Option (List ℕ)) (missing : ℕ) (ls : List (Lent D)) (loc : LocDurable) (ds : List Durable) (given : Given) (new : Option Given) → AllStand seen loc ds ls → GivesBackBut seen missing ls (Some given) new → Returned (AreAllKept loc ds) missing (length ds + 1) given new
given_all {D} seen missing [] loc ds given new stand back = absurd stand
given_all {D} seen missing (l ∷ ls) loc ds given new stand (inl (after, (goes, back))) =
    let bytes = some_of (seen l.disk) stand.0.1.0 in
    let next = given_next (seen l.disk) l.node given after bytes.0 bytes.1 goes in
    let more = given_each seen missing 1 ls ds (given ++ (l.node, bytes.0) ∷ []) new stand.1 (subst (λ (o : Option Given). GivesBackBut seen missing ls o new) next back) in
    ((l.node, bytes.0) ∷ more.0, (more.1.0 ∙ ap (λ (x : Given). Some x) (append_assoc given ((l.node, bytes.0) ∷ []) more.0), (inl ((stand.0.0, stand.0.1.1 bytes.0 bytes.1), more.1.1.0), omega (arith, more.1.1.1))))
given_all {D} seen missing (l ∷ ls) loc ds given new stand (inr (others, (one, back))) =
    let more = given_each seen others 1 ls ds given new stand.1 back in
    (more.0, (more.1.0, (inr more.1.1.0, omega (arith, one, more.1.1.1))))

given_by : {D : Type 0} (MayBeMissing : ℕ → Type 0) (seen : D → Option (List ℕ)) (ls : List (Lent D)) (loc : LocDurable) (ds : List Durable) (old new : Option Given) → AllStand seen loc ds ls → Missing MayBeMissing seen ls old new → GivesBack MayBeMissing loc ds old new
given_by {D} MayBeMissing seen ls loc ds None new stand back = tt
given_by {D} MayBeMissing seen ls loc ds (Some given) new stand back =
    let all = given_all seen back.0 ls loc ds given new stand back.1.0 in
    (all.0, (all.1.0, (all.1.1.0, (back.0, (all.1.1.1, back.1.1)))))

-- ---- what is kept at the end of a run, and the disks that stand for it

pub record EndsSo {D : Type 0} (seen : D → Option (List ℕ)) (end : NodeCell) (kept : List Durable) (disks : List (Lent D)) : Type 0 where
  pub keep : MayKeep end 1 kept
  pub loc : LocDurable
  pub keep_loc : MayBeReadAtLoc end loc
  pub stand : AllStand seen loc kept disks

pub given_so : {D : Type 0} (MayBeMissing : ℕ → Type 0) (seen : D → Option (List ℕ)) (c : NodeCell) (kept : List Durable) (disks : List (Lent D)) (old new : Option Given) → (so : EndsSo seen c kept disks) → Missing MayBeMissing seen disks old new → GivesBack MayBeMissing so.loc kept old new
given_so {D} MayBeMissing seen c kept disks old new so back = given_by MayBeMissing seen disks so.loc kept old new so.stand back

-- what the location database's disk stands for
pub record LocEndsSo {D : Type 0} (seen : D → Option (List ℕ)) (end : NodeCell) (disk : D) : Type 0 where
  pub loc : LocDurable
  pub keep : MayBeReadAtLoc end loc
  pub stand : LocStand seen loc (record { node = 0; disk = disk })

loc_so : {D : Type 0} (seen : D → Option (List ℕ)) (limit : D → ℕ) (c : NodeCell) (disk : D) → IsSome (seen disk) → IsStandingAtLoc seen limit c disk → LocEndsSo seen c disk
loc_so {D} seen limit c disk tells stand =
    let bytes = some_of (seen disk) tells in
    let d = stand bytes.0 bytes.1 in
    record { loc = d.0; keep = d.1.0; stand = (refl, (tells, λ bs e. subst (λ (xs : List ℕ). LocStands xs d.0) (some_is bytes.0 bs (sym bytes.1 ∙ e)) d.1.1.0)) }

one_stands : {D : Type 0} (seen : D → Option (List ℕ)) (faults limit : D → ℕ) (c : NodeCell) (i : ℕ) (l : Lent D) (f : Left (Store D) D) (fs : List (Left (Store D) D)) → Stand seen limit c i l → Tells seen i l → IsRead seen faults limit l.disk f → fault_in (f ∷ fs) ≡ None →
    IsSome (seen (kept_disk f)) × ((bytes : List ℕ) → seen (kept_disk f) ≡ Some bytes → StandsForVolumes bytes (part f))
one_stands {D} seen faults limit c i l (left.Kept s) fs stand tells read none = (read.told.1 tells, λ bytes e. read.is.after bytes e)
one_stands {D} seen faults limit c i l (left.Bad d) fs stand tells read none =
    let bytes = some_of (seen l.disk) tells in
    let p = stand bytes.0 bytes.1 in
    absurd (read.is.1 bytes.0 bytes.1 p.0 p.1.1.1 p.1.1.0)
one_stands {D} seen faults limit c i l (left.Failed d) fs stand tells read none = absurd (no_fault _ none)
one_stands {D} seen faults limit c i l (left.Unread d) fs stand tells read none = absurd (no_fault _ none)

all_stand : {D : Type 0} (seen : D → Option (List ℕ)) (faults limit : D → ℕ) (c : NodeCell) (i : ℕ) (ls : List (Lent D)) (fs : List (Left (Store D) D)) → EachFrom i (Stand seen limit c) ls → EachFrom i (Tells seen) ls → AreFound seen faults limit ls fs → fault_in fs ≡ None → StandFor seen i (kept_disks i fs) (map part fs)
all_stand {D} seen faults limit c i [] [] stand tells found none = refl
all_stand {D} seen faults limit c i [] (f ∷ fs) stand tells found none = absurd found
all_stand {D} seen faults limit c i (l ∷ ls) [] stand tells found none = absurd found
all_stand {D} seen faults limit c i (l ∷ ls) (f ∷ fs) stand tells found none =
    let rest = (one_left seen faults limit c i l f fs stand.0 tells.0 found.0 none).1 in
    ((refl, one_stands seen faults limit c i l f fs stand.0 tells.0 found.0 none), all_stand seen faults limit c (i + 1) ls fs stand.1 tells.1 found.1 rest)

-- where the disks were read for the final part
pub read_so : {D : Type 0} (seen : D → Option (List ℕ)) (may_leave : D → List ℕ → Type 0) (faults limit : D → ℕ) (w : WorldState D) (c : NodeCell) (fs : List (Left (Store D) D)) → IsCell seen may_leave limit w c → AllTell seen w → AreStanding seen limit c (disks_of w) →
    AreFound seen faults limit (lent_from 1 w.servers) fs → fault_in fs ≡ None → EndsSo seen c (map part fs) (all_kept (loc_seat_disk w.database) fs)
read_so {D} seen may_leave faults limit w c fs is tells stand found none =
    let each = each_is (Stand seen limit c) (lent_from 1 w.servers) stand.1 in
    let all = tells_from seen 1 w.servers (each_is (λ (i : ℕ) (s : ServerSeat D). IsSome (seen (seat_disk s))) w.servers tells.1) in
    let loc = loc_so seen limit c (loc_seat_disk w.database) tells.0 stand.0 in
    record {
      keep = all_left seen faults limit c 1 (lent_from 1 w.servers) fs each all found none (omega (arith, lent_length 1 w.servers, is.host_count));
      loc = loc.loc;
      keep_loc = loc.keep;
      stand = (loc.stand, all_stand seen faults limit c 1 (lent_from 1 w.servers) fs each all found none);
    }

-- where they go back as they are
abbrev LeftFrom : {D : Type 0} → (D → Option (List ℕ)) → NodeCell → ℕ → List (Lent D) → Type 0
LeftFrom {D} seen c i ls = (ds : List Durable) × (MayKeep c i ds × StandFor seen i ls ds)

abbrev Numbered : {D : Type 0} → ℕ → Lent D → Type 0
Numbered {D} i l = l.node ≡ i

parts_stand : {D : Type 0} (seen : D → Option (List ℕ)) (limit : D → ℕ) (c : NodeCell) (i : ℕ) (ls : List (Lent D)) → EachFrom i (Stand seen limit c) ls → EachFrom i (Tells seen) ls → EachFrom i Numbered ls → i + length ls ≡ c.host_count + 1 → LeftFrom seen c i ls
parts_stand {D} seen limit c i [] stand tells numbered counted = ([], (omega (arith, counted), refl))
parts_stand {D} seen limit c i (l ∷ ls) stand tells numbered counted =
    let bytes = some_of (seen l.disk) tells.0 in
    let d = stand.0 bytes.0 bytes.1 in
    let more = parts_stand seen limit c (i + 1) ls stand.1 tells.1 numbered.1 (omega (arith, counted)) in
    (d.0 ∷ more.0, ((d.1.0, more.1.0), ((numbered.0, (tells.0, λ bs e. subst (λ (xs : List ℕ). StandsForVolumes xs d.0) (some_is bytes.0 bs (sym bytes.1 ∙ e)) d.1.1.0)), more.1.1)))

numbered_from : {D : Type 0} (i : ℕ) (ss : List (ServerSeat D)) → EachFrom i Numbered (lent_from i ss)
numbered_from {D} i [] = tt
numbered_from {D} i (s ∷ ss) = (refl, numbered_from (i + 1) ss)

pub left_so : {D : Type 0} (seen : D → Option (List ℕ)) (may_leave : D → List ℕ → Type 0) (limit : D → ℕ) (w : WorldState D) (c : NodeCell) → IsCell seen may_leave limit w c → AllTell seen w → AreStanding seen limit c (disks_of w) →
    (kept : List Durable) × EndsSo seen c kept (disks_of w)
left_so {D} seen may_leave limit w c is tells stand =
    let each = each_is (Stand seen limit c) (lent_from 1 w.servers) stand.1 in
    let all = tells_from seen 1 w.servers (each_is (λ (i : ℕ) (s : ServerSeat D). IsSome (seen (seat_disk s))) w.servers tells.1) in
    let left = parts_stand seen limit c 1 (lent_from 1 w.servers) each all (numbered_from 1 w.servers) (omega (arith, lent_length 1 w.servers, is.host_count)) in
    let loc = loc_so seen limit c (loc_seat_disk w.database) tells.0 stand.0 in
    (left.0, record { keep = left.1.0; loc = loc.loc; keep_loc = loc.keep; stand = (loc.stand, left.1.1) })

-- ---- disks go back, whatever they hold

-- each of these disks is that of its node, by number from this one on, and tells
abbrev TellFrom : {D : Type 0} → (D → Option (List ℕ)) → ℕ → List (Lent D) → Type 0
TellFrom {D} seen i [] = Unit {0}
TellFrom {D} seen i (l ∷ ls) = ((l.node ≡ i) × IsSome (seen l.disk)) × TellFrom seen (i + 1) ls

come_each : {D : Type 0} (seen : D → Option (List ℕ)) (missing i : ℕ) (ls : List (Lent D)) (given : Given) (new : Option Given) → TellFrom seen i ls → GivesBackBut seen missing ls (Some given) new → Returned (AreOf i (length ls)) missing (length ls) given new
come_each {D} seen missing i [] given new tell back = ([], (back.1 ∙ ap (λ (x : Given). Some x) (sym (append-nil given)), (refl, omega (arith, back.0))))
come_each {D} seen missing i (l ∷ ls) given new tell (inl (after, (goes, back))) =
    let bytes = some_of (seen l.disk) tell.0.1 in
    let next = given_next (seen l.disk) l.node given after bytes.0 bytes.1 goes in
    let more = come_each seen missing (i + 1) ls (given ++ (l.node, bytes.0) ∷ []) new tell.1 (subst (λ (o : Option Given). GivesBackBut seen missing ls o new) next back) in
    ((l.node, bytes.0) ∷ more.0, (more.1.0 ∙ ap (λ (x : Given). Some x) (append_assoc given ((l.node, bytes.0) ∷ []) more.0), (inl (tell.0.0, more.1.1.0), omega (arith, more.1.1.1))))
come_each {D} seen missing i (l ∷ ls) given new tell (inr (others, (one, back))) =
    let more = come_each seen others (i + 1) ls given new tell.1 back in
    (more.0, (more.1.0, (inr more.1.1.0, omega (arith, one, more.1.1.1))))

come_back : {D : Type 0} (MayBeMissing : ℕ → Type 0) (seen : D → Option (List ℕ)) (count : ℕ) (ls : List (Lent D)) (old new : Option Given) → length ls ≡ count → TellFrom seen 0 ls → Missing MayBeMissing seen ls old new → GivesBackThose MayBeMissing count old new
come_back {D} MayBeMissing seen count ls None new are tell back = tt
come_back {D} MayBeMissing seen count ls (Some given) new are tell back =
    let disks = come_each seen back.0 0 ls given new tell back.1.0 in
    (disks.0, (disks.1.0, (subst (λ (n : ℕ). AreOf 0 n disks.0) are disks.1.1.0, (back.0, (disks.1.1.1 ∙ are, back.1.1)))))

tell_lent : {D : Type 0} (seen : D → Option (List ℕ)) (i : ℕ) (ss : List (ServerSeat D)) → EachFrom i (λ (i : ℕ) (s : ServerSeat D). IsSome (seen (seat_disk s))) ss → TellFrom seen i (lent_from i ss)
tell_lent {D} seen i [] tell = tt
tell_lent {D} seen i (s ∷ ss) tell = ((refl, tell.0), tell_lent seen (i + 1) ss tell.1)

-- those of a world, as they are
pub lent_come : {D : Type 0} (MayBeMissing : ℕ → Type 0) (seen : D → Option (List ℕ)) (count : ℕ) (w : WorldState D) (old new : Option Given) → length w.servers ≡ count → AllTell seen w → Missing MayBeMissing seen (disks_of w) old new → GivesBackThose MayBeMissing (count + 1) old new
lent_come {D} MayBeMissing seen count w old new are tell back =
    come_back MayBeMissing seen (count + 1) (disks_of w) old new (omega (arith, lent_length 1 w.servers, are))
    ((refl, tell.0), tell_lent seen 1 w.servers (each_is (λ (i : ℕ) (s : ServerSeat D). IsSome (seen (seat_disk s))) w.servers tell.1)) back

tell_found : {D : Type 0} (seen : D → Option (List ℕ)) (faults limit : D → ℕ) (i : ℕ) (ls : List (Lent D)) (fs : List (Left (Store D) D)) → AreFound seen faults limit ls fs → EachFrom i (Tells seen) ls → TellFrom seen i (kept_disks i fs)
tell_found {D} seen faults limit i [] [] found tells = tt
tell_found {D} seen faults limit i [] (f ∷ fs) found tells = absurd found
tell_found {D} seen faults limit i (l ∷ ls) [] found tells = absurd found
tell_found {D} seen faults limit i (l ∷ ls) (f ∷ fs) found tells = ((refl, found.0.told.1 tells.0), tell_found seen faults limit (i + 1) ls fs found.1 tells.1)

pub found_count : {D : Type 0} (seen : D → Option (List ℕ)) (faults limit : D → ℕ) (i : ℕ) (ls : List (Lent D)) (fs : List (Left (Store D) D)) → AreFound seen faults limit ls fs → length (kept_disks i fs) ≡ length ls
found_count {D} seen faults limit i [] [] found = refl
found_count {D} seen faults limit i [] (f ∷ fs) found = absurd found
found_count {D} seen faults limit i (l ∷ ls) [] found = absurd found
found_count {D} seen faults limit i (l ∷ ls) (f ∷ fs) found = ap suc (found_count seen faults limit (i + 1) ls fs found.1)

-- those of a world, after they were read
pub found_come : {D : Type 0} (MayBeMissing : ℕ → Type 0) (seen : D → Option (List ℕ)) (faults limit : D → ℕ) (count : ℕ) (w : WorldState D) (fs : List (Left (Store D) D)) (old new : Option Given) → length w.servers ≡ count → AllTell seen w → AreFound seen faults limit (lent_from 1 w.servers) fs
    → Missing MayBeMissing seen (all_kept (loc_seat_disk w.database) fs) old new → GivesBackThose MayBeMissing (count + 1) old new
found_come {D} MayBeMissing seen faults limit count w fs old new are tell found back =
    let all = tells_from seen 1 w.servers (each_is (λ (i : ℕ) (s : ServerSeat D). IsSome (seen (seat_disk s))) w.servers tell.1) in
    come_back MayBeMissing seen (count + 1) (all_kept (loc_seat_disk w.database) fs) old new (omega (arith, found_count seen faults limit 1 (lent_from 1 w.servers) fs found, lent_length 1 w.servers, are))
    ((refl, tell.0), tell_found seen faults limit 1 (lent_from 1 w.servers) fs found all) back

-- ---- the history

pub length_told : (ps : List Parcel) (es : List kept.Entry) → length (entries_as_told ps es) ≡ length es
length_told ps [] = refl
length_told ps (e ∷ es) = ap suc (length_told (drop e.sent ps) es)

-- what a world has played is a run of its script, as far as it was played
pub is_run : {D : Type 0} (seen : D → Option (List ℕ)) (may_leave : D → List ℕ → Type 0) (faults limit : D → ℕ) (IsSoFar : List CellInput → Type 0) (others : ℕ → ℕ) (s : Script) (w : WorldState D) (counts : ℕ → Span ℕ) → length w.history ≤ most_history_entries → (p : HasPlayed seen may_leave faults limit IsSoFar s w) → ((i : ℕ) → HasDisk s i → RoseBy (own_falls i p.inputs (entries_as_told w.wire w.history) + others i) (counts i))
    → IsRun s IsSoFar others counts p.runs.history p.cell
is_run {D} seen may_leave faults limit IsSoFar others s w counts few p failures = record {
  inputs = p.inputs;
  leads = p.runs.leads;
  so_far = p.played;
  few = omega (arith, told_length p.runs.history (entries_as_told w.wire w.history) p.runs.tells, length_told w.wire w.history, few);
  failures = λ i has. subst (λ (n : ℕ). RoseBy (n + others i) (counts i)) (told_falls i p.inputs p.runs.history (entries_as_told w.wire w.history) p.runs.tells) (failures i has);
}

-- its failures are all
pub no_others : (s : Script) (own : ℕ → ℕ) (counts : ℕ → Span ℕ) → ((i : ℕ) → HasDisk s i → RoseBy (own i) (counts i)) → (i : ℕ) → HasDisk s i → RoseBy (own i + no_other i) (counts i)
no_others s own counts rose i has = subst (λ (k : ℕ). RoseBy k (counts i)) (omega (arith)) (rose i has)
