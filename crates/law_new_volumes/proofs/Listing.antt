-- A volume that the location database has an entry of is one of the script, or a call that asked for its entry has run. None runs again: so an
-- entry that is gone stays so.
use Rattle.std.proofs.Common.{◌≡◌, ◌≤◌, ◌<◌, ◌⊎◌, inl, inr, ℕ, true, false, List, [], ◌∷◌, ◌++◌, Option, Some, None, is_some, refl, sym, ap, subst, arith, ◌∙◌, append-nil, append_assoc}
use Rattle.std.specs.List.{AllByRecursion}
use Rattle.afs_num.specs.declared.location_calls.LocCall.{LocCall}
use Rattle.afs_num.specs.declared.location_calls.LocCall.TheVariants as calls
use Rattle.afs_num.specs.declared.location_calls.LocEntry.{LocEntry}
use Rattle.afs_num.specs.declared.messages.Call.TheVariants as ask
use Rattle.afs_num.specs.declared.messages.Carried.TheVariants as carried
use Rattle.afs_num.specs.declared.messages.Message.{Message}
use Rattle.afs_num.specs.declared.types.Node.{Node}
use Rattle.afs_num.specs.declared.types.Node.TheVariants.{Admin, Client, Loc, Server}
use Rattle.spec_history.specs.declared.scripts.Script.{Script}
use Rattle.spec_ideal.specs.Tables.{get, set, unset, Table}
use Rattle.spec_model.specs.Calls.{key_of}
use Rattle.spec_records.specs.LocDurable.{entries_after}
use Rattle.spec_records.specs.LocRecords.{Listed}
use Rattle.spec_rows.specs.LocRow.{holds, LocChange, LocLasting}
use Rattle.spec_rows.specs.Runs.{message_at}
use Rattle.spec_runs.specs.NodeRuns.{node_moved, node_start, CellInput, NodeCell}
use Rattle.law_walks.proofs.AllMessages.{grows}
use Rattle.law_places.specs.Accepting.{cell_behind}
use Rattle.law_stamps.specs.Stamps.{next_stamp}
use Rattle.law_stamps.specs.Told.{entries_in}
use Rattle.law_stored_stamps.proofs.Rising.{one_more}
use Rattle.law_keys.specs.Once.{IsNotUnder, IsSpent, SpendsIts}
use Rattle.law_keys.specs.Ran.{one_ran, ran_by, ran_in, RanCall}
use Rattle.law_keys.proofs.Walk.{are_spent}
use Rattle.law_courses.specs.Courses.{ask_in, course_in, Course, IsOnCourse, Question}
use Rattle.law_courses.proofs.Growing.{still_at}
use Rattle.law_courses.proofs.Walk.{are_on_course}
use Rattle.law_locks.specs.Grips.{AreGripped}
use Rattle.law_locks.proofs.Asking.{asked_fits, Fits}
use Rattle.law_locks.proofs.Gifts.{CallBy}
use Rattle.law_locks.proofs.Walk.{calls_by, grips_are_drawn}
use Rattle.law_numbers.specs.Numbers.{next_volume}
use Rattle.law_one_server.proofs.DatabaseChanges.{IsChanged}
use Rattle.law_one_server.proofs.DatabaseDecides.{held_of, same_or, set_other, unset_here, unset_other}
use Rattle.law_one_server.proofs.DatabaseSteps.{each_call, Is, OfCalls}
use Rattle.law_one_server.proofs.FencesRan.{ran_more}
use Rattle.law_new_volumes.specs.MadeEntries.{AsksEntry}
use Rattle.law_new_volumes.proofs.AskedOnce.{asked_once, is_new}
use Rattle.law_new_volumes.proofs.GivenOnce.{front_of, keyed}
use Rattle.law_new_volumes.proofs.Served.{runs_there, IsRun, RunsThere}

-- ---- tables

abbrev pub IsThere : ℕ → Table Listed → Type 0
IsThere v t = is_some (get v t) ≡ true

-- behind a write under a number that is there
set_old : (key v : ℕ) (new l : Listed) (t : Table Listed) → get key t ≡ Some l → IsThere v (set key new t) → IsThere v t
set_old key v new l t at there = elim (same_or v key) [
  | inl is ↦ subst (λ (w : ℕ). IsThere w t) (sym is) (ap is_some at)
  | inr other ↦ sym (ap is_some (set_other key v new t other)) ∙ there
]

set_new : (key v : ℕ) (new : Listed) (t : Table Listed) → IsThere v (set key new t) → IsThere v t ⊎ (key ≡ v)
set_new key v new t there = elim (same_or v key) [
  | inl is ↦ inr (sym is)
  | inr other ↦ inl (sym (ap is_some (set_other key v new t other)) ∙ there)
]

unset_old : (key v : ℕ) (t : Table Listed) → IsThere v (unset key t) → IsThere v t
unset_old key v t there = elim (same_or v key) [
  | inl is ↦ (let none : is_some (get v (unset key t)) ≡ false = ap is_some (unset_here key v t is) in let no : true ≡ false = sym there ∙ none in absurd cc)
  | inr other ↦ sym (ap is_some (unset_other key v t other)) ∙ there
]

-- ---- what was ever there

-- the first number that the script's volumes leave
abbrev pub first_free : Script → ℕ
first_free s = next_volume (node_start s)

-- The call that asks for the volume's entry was sent, and the database ran it.
pub record IsEntered (c : NodeCell) (volume : ℕ) : Type 0 where
  pub m : Message
  pub asked : AsksEntry c volume m
  pub spent : IsSpent c Loc (key_of m.head)

-- it is a volume of the script, below the first number that was left; or this
abbrev pub EverListed : ℕ → NodeCell → ℕ → Type 0
EverListed first c volume = (volume < first) ⊎ IsEntered c volume

-- ---- what is there behind a call

-- it was there before, or the call makes it
abbrev Lists : Table Listed → LocCall → LocChange → Type 0
Lists t call x = (v : ℕ) → IsThere v (entries_after x.deed t) → IsThere v t ⊎ ((e : LocEntry) × ((call ≡ calls.CreateEntry e) × (e.read_write ≡ v)))

module _ (s : Script) (inputs : List CellInput) where
  abbrev c : NodeCell
  c = cell_behind (node_start s) inputs

  abbrev course : Course
  course = course_in s inputs

  abbrev grips : AreGripped course c
  grips = grips_are_drawn s inputs

  -- a call that replaces an entry is under a stamp of it
  abbrev OwnStamp : ℕ → LocCall → Type 0
  OwnStamp stamp call = Fits grips.entry_of stamp (ask.Location call) ⊎ ((id : ℕ) (e : LocEntry) → call ≡ calls.ReplaceEntry id e → ⊥)

  by_who : (place : ℕ) (m : Message) (user : List ℕ) (call : LocCall) (n : Node) → message_at c.sent place ≡ Some m → m.carried ≡ carried.Call user (ask.Location call) → m.head.from ≡ n → CallBy (ask.Location call) n → OwnStamp m.head.stamp call
  by_who place m user call (Admin n) at is from k =
      let on : IsOnCourse course c.sent n (c.admins n) m.head (ask.Location call) = (are_on_course.on s inputs).calls place n m user (ask.Location call) at from is in
      let q : Question = course n m.head.epoch m.head.number in
      inl (subst (λ (b : ℕ). Fits grips.entry_of b (ask.Location call)) (sym on.stamp) (subst (Fits grips.entry_of (ask_in q).stamp) on.asks (asked_fits grips.entry_of (next_stamp c) q.errand q.place (grips.drawn n m.head.epoch m.head.number))))
  by_who place m user call (Server i) at is from k = inr (λ id e same. subst (λ (x : LocCall). CallBy (ask.Location x) (Server i)) same k)
  by_who place m user call (Client i) at is from k = inr (λ id e same. subst (λ (x : LocCall). CallBy (ask.Location x) (Client i)) same k)
  by_who place m user call Loc at is from k = inr (λ id e same. subst (λ (x : LocCall). CallBy (ask.Location x) Loc) same k)

  abbrev lasting : LocLasting
  lasting = c.loc.state.lasting

  abbrev Given : ℕ → LocCall → LocChange → Type 0
  Given stamp call x = OwnStamp stamp call → Lists (entries_in c) call x

  writes : (stamp id : ℕ) (e : LocEntry) (l new : Listed) → get l.entry.read_write (entries_in c) ≡ Some l → holds stamp l.lock ≡ true → OwnStamp stamp (calls.ReplaceEntry id e) → (v : ℕ) → IsThere v (set e.read_write new (entries_in c)) → IsThere v (entries_in c)
  writes stamp id e l new at held (inl fits) v there =
      let key : l.entry.read_write ≡ e.read_write = sym (held_of grips.entry_of (next_stamp c) l.entry.read_write stamp l.lock (grips.line.locks l.entry.read_write l at) held) ∙ (fits.1 ∙ sym fits.0) in
      set_old e.read_write v new l (entries_in c) (subst (λ (w : ℕ). get w (entries_in c) ≡ Some l) key at) there
  writes stamp id e l new at held (inr never) v there = absurd (never id e refl)

  of_calls : (stamp : ℕ) → OfCalls lasting stamp (Given stamp)
  of_calls stamp = record {
    locks = λ id operation force l at own v there. inl (set_old l.entry.read_write v _ l (entries_in c) at there);
    makes = λ e free own v there. elim (set_new e.read_write v _ (entries_in c) there) [ inl old ↦ inl old | inr is ↦ inr (e, (refl, is)) ];
    frees = λ id l at held own v there. inl (set_old l.entry.read_write v _ l (entries_in c) at there);
    writes = λ id e l at held own v there. inl (writes stamp id e l _ at held own v there);
    deletes = λ id l at held own v there. inl (unset_old l.entry.read_write v (entries_in c) there);
    draws = λ own v there. inl there;
  }

  lists_now : (d : NodeCell) (k : IsChanged c d) (v : ℕ) → IsThere v (entries_in d) → IsThere v (entries_in c) ⊎ ((e : LocEntry) × ((k.served.call ≡ calls.CreateEntry e) × (e.read_write ≡ v)))
  lists_now d k v there =
      let own : OwnStamp k.m.head.stamp k.served.call = by_who k.sent.0 k.m k.served.user k.served.call k.m.head.from k.sent.1 k.served.says refl (calls_by s inputs k.sent.0 k.m k.served.user (ask.Location k.served.call) k.sent.1 k.served.says) in
      let does : Given k.m.head.stamp k.served.call k.change = subst (Is lasting (keyed s inputs) k.m.head.stamp (Given k.m.head.stamp) (of_calls k.m.head.stamp) k.served.call) k.served.does (each_call lasting (keyed s inputs) k.m.head.stamp (Given k.m.head.stamp) (of_calls k.m.head.stamp) k.served.call) in
      does own v (subst (IsThere v) k.entries there)

  abbrev Ever : ℕ → Type 0
  Ever v = EverListed (first_free s) c v

  asks_of : (d : NodeCell) (k : IsChanged c d) (v : ℕ) (e : LocEntry) → k.served.call ≡ calls.CreateEntry e → e.read_write ≡ v → AsksEntry c v k.m
  asks_of d k v e is its = record { place = k.sent.0; at = k.sent.1; user = k.served.user; entry = e; asks = k.served.says ∙ ap (λ (x : LocCall). carried.Call k.served.user (ask.Location x)) is; its = its }

  module _ (x : CellInput) where
    abbrev d : NodeCell
    d = (node_moved c x).cell

    abbrev more : List CellInput
    more = inputs ++ x ∷ []

    later : cell_behind (node_start s) more ≡ d
    later = one_more (node_start s) inputs x

    -- what ran now has spent its key, and none that had spent it before runs
    spent_now : (k : IsRun c d (ran_by c x)) → IsSpent d Loc (key_of k.changed.m.head)
    spent_now k =
        let all : AllByRecursion (SpendsIts d) (ran_in (node_start s) inputs ++ ran_by c x) = subst (λ (rs : List RanCall). AllByRecursion (SpendsIts d) rs) (ran_more (node_start s) inputs x) (subst (λ (y : NodeCell). AllByRecursion (SpendsIts y) (ran_in (node_start s) more)) later (are_spent.spend s more)) in
        let its : AllByRecursion (SpendsIts d) (one_ran Loc k.boot true k.changed.m.head) = subst (AllByRecursion (SpendsIts d)) k.ran (front_of (SpendsIts d) (ran_in (node_start s) inputs) (ran_by c x) all).1 in
        its.0 refl

    not_again : (k : IsRun c d (ran_by c x)) → IsSpent c Loc (key_of k.changed.m.head) → ⊥
    not_again k spent =
        let all : AllByRecursion (IsNotUnder Loc (key_of k.changed.m.head)) (ran_by c x ++ []) = are_spent.never s inputs (x ∷ []) Loc (key_of k.changed.m.head) spent in
        let its : AllByRecursion (IsNotUnder Loc (key_of k.changed.m.head)) (one_ran Loc k.boot true k.changed.m.head) = subst (AllByRecursion (IsNotUnder Loc (key_of k.changed.m.head))) k.ran (subst (AllByRecursion (IsNotUnder Loc (key_of k.changed.m.head))) (append-nil (ran_by c x)) all) in
        its.0 refl refl

    -- it stays there, or what makes it now was never there
    pub still_gone : (v : ℕ) → Ever v → get v (entries_in c) ≡ None → get v (entries_in d) ≡ None
    still_gone v ever none = by (get v (entries_in d)) refl
      where
        absent : IsThere v (entries_in c) → ⊥
        absent there = let no : true ≡ false = sym there ∙ ap is_some none in absurd cc

        anew : (k : IsRun c d (ran_by c x)) → AsksEntry c v k.changed.m → Ever v → ⊥
        anew k asks (inl old) = let low : first_free s ≤ v = is_new s inputs v k.changed.m asks in omega (arith, old, low)
        anew k asks (inr entered) = not_again k (subst (IsSpent c Loc) (asked_once s inputs v entered.m k.changed.m entered.asked asks) entered.spent)

        never : IsThere v (entries_in d) → RunsThere c d (ran_by c x) → ⊥
        never there (inl quiet) = absent (subst (IsThere v) quiet.same there)
        never there (inr k) = elim (lists_now d k.changed v there) [ inl old ↦ absent old | inr new ↦ anew k (asks_of d k.changed v new.0 new.1.0 new.1.1) ever ]

        by : (o : Option Listed) → get v (entries_in d) ≡ o → o ≡ None
        by None is = refl
        by (Some l) is = absurd (never (ap is_some is) (runs_there s inputs x))

-- ---- a run

module _ (s : Script) (inputs : List CellInput) (x : CellInput) where
  abbrev was : NodeCell
  was = cell_behind (node_start s) inputs

  abbrev after : List CellInput
  after = inputs ++ x ∷ []

  behind_is : cell_behind (node_start s) after ≡ (node_moved was x).cell
  behind_is = one_more (node_start s) inputs x

  still_asked : (v : ℕ) (m : Message) → AsksEntry was v m → AsksEntry (cell_behind (node_start s) after) v m
  still_asked v m a = subst (λ (y : NodeCell). AsksEntry y v m) (sym behind_is) (record {
    place = a.place;
    at = subst (λ (ms : List Message). message_at ms a.place ≡ Some m) (sym (grows was x)) (still_at a.place was.sent (node_moved was x).entry.sent m a.at);
    user = a.user;
    entry = a.entry;
    asks = a.asks;
    its = a.its;
  })

  pub ever_next : (v : ℕ) → EverListed (first_free s) was v → EverListed (first_free s) (cell_behind (node_start s) after) v
  ever_next v (inl old) = inl old
  ever_next v (inr k) = inr (record { m = k.m; asked = still_asked v k.m k.asked; spent = are_spent.stay s inputs (x ∷ []) Loc (key_of k.m.head) k.spent })

  listed_next : ((v : ℕ) → IsThere v (entries_in was) → EverListed (first_free s) was v) → (v : ℕ) → IsThere v (entries_in (cell_behind (node_start s) after)) → EverListed (first_free s) (cell_behind (node_start s) after) v
  listed_next h v there = by (runs_there s inputs x) (subst (λ (y : NodeCell). IsThere v (entries_in y)) behind_is there)
    where
      entered : (k : IsRun was (node_moved was x).cell (ran_by was x)) (e : LocEntry) → k.changed.served.call ≡ calls.CreateEntry e → e.read_write ≡ v → IsEntered (cell_behind (node_start s) after) v
      entered k e is its = record {
        m = k.changed.m;
        asked = still_asked v k.changed.m (asks_of s inputs (node_moved was x).cell k.changed v e is its);
        spent = subst (λ (y : NodeCell). IsSpent y Loc (key_of k.changed.m.head)) (sym behind_is) (spent_now s inputs x k);
      }

      by : RunsThere was (node_moved was x).cell (ran_by was x) → IsThere v (entries_in (node_moved was x).cell) → EverListed (first_free s) (cell_behind (node_start s) after) v
      by (inl quiet) now = ever_next v (h v (subst (IsThere v) quiet.same now))
      by (inr k) now = elim (lists_now s inputs (node_moved was x).cell k.changed v now) [ inl old ↦ ever_next v (h v old) | inr new ↦ inr (entered k new.0 new.1.0 new.1.1) ]

module _ (s : Script) where
  abbrev cell : List CellInput → NodeCell
  cell inputs = cell_behind (node_start s) inputs

  abbrev AllEver : List CellInput → Type 0
  AllEver inputs = (v : ℕ) → IsThere v (entries_in (cell inputs)) → EverListed (first_free s) (cell inputs) v

  pub led : (done xs : List CellInput) → AllEver done → AllEver (done ++ xs)
  led done [] h = subst AllEver (sym (append-nil done)) h
  led done (x ∷ xs) h = subst AllEver (append_assoc done (x ∷ []) xs) (led (done ++ x ∷ []) xs (listed_next s done x h))

  pub ever_on : (v : ℕ) (done xs : List CellInput) → EverListed (first_free s) (cell done) v → EverListed (first_free s) (cell (done ++ xs)) v
  ever_on v done [] h = subst (λ (ys : List CellInput). EverListed (first_free s) (cell ys) v) (sym (append-nil done)) h
  ever_on v done (x ∷ xs) h = subst (λ (ys : List CellInput). EverListed (first_free s) (cell ys) v) (append_assoc done (x ∷ []) xs) (ever_on v (done ++ x ∷ []) xs (ever_next s done x v h))

  abbrev IsGone : ℕ → List CellInput → Type 0
  IsGone v inputs = get v (entries_in (cell inputs)) ≡ None

  pub gone_on : (v : ℕ) (done xs : List CellInput) → EverListed (first_free s) (cell done) v → IsGone v done → IsGone v (done ++ xs)
  gone_on v done [] ever h = subst (IsGone v) (sym (append-nil done)) h
  gone_on v done (x ∷ xs) ever h =
      subst (IsGone v) (append_assoc done (x ∷ []) xs)
      (gone_on v (done ++ x ∷ []) xs (ever_next s done x v ever) (subst (λ (y : NodeCell). get v (entries_in y) ≡ None) (sym (one_more (node_start s) done x)) (still_gone s done x v ever h)))
