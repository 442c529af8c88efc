-- What the location database answers to a call that it serves is so behind the step: where the volume is, and that it names the new server.
use Rattle.spec_rows.specs.ClientRow.{number_or_none}
use Rattle.std.proofs.Common.{◌≡◌, ◌<◌, ◌⊎◌, inl, inr, ℕ, ℤ, Bool, true, false, cond, List, Option, Some, None, is_some, refl, sym, ap, subst, ◌∙◌, nat_eq, nat_lt}
use Rattle.std.specs.Prelude.{⊤, ◌&&◌, length, not}
use Rattle.afs_num.specs.Names.{volume_name_ok}
use Rattle.afs_num.specs.declared.location_calls.LocCall.{LocCall}
use Rattle.afs_num.specs.declared.location_calls.LocCall.TheVariants as calls
use Rattle.afs_num.specs.declared.location_calls.LocEntry.{LocEntry}
use Rattle.afs_num.specs.declared.location_calls.LocReply.{LocReply}
use Rattle.afs_num.specs.declared.location_calls.LocReply.TheVariants as replies
use Rattle.afs_num.specs.declared.messages.Call.TheVariants as ask
use Rattle.afs_num.specs.declared.messages.Reply.TheVariants as tell
use Rattle.afs_num.specs.declared.types.Head.{Head}
use Rattle.spec_ideal.specs.Tables.{get, set, Table}
use Rattle.spec_records.specs.Entries.{site_of}
use Rattle.spec_records.specs.LocDurable.{entries_after}
use Rattle.spec_records.specs.LocRecords.{Listed, Lock}
use Rattle.spec_rows.specs.LocRow.{any_other, entry_fits, found_id, holds, is_barred, is_force, is_named, is_operation, loc_op, shares_id, with_entry, with_lock, LocChange, LocLasting, LocResult}
use Rattle.spec_rows.specs.LocRow as row
use Rattle.spec_rows.specs.ServerRow.{no_room}
use Rattle.spec_runs.specs.NodeRuns.{NodeCell}
use Rattle.law_stamps.specs.Told.{entries_in}
use Rattle.spec_adminrows.specs.Acts.{asks_at}
use Rattle.spec_adminrows.specs.Asks.{family, home, name_in_act}
use Rattle.spec_adminrows.specs.Entries.{entry_moved, home_in, is_usable, new_entry}
use Rattle.spec_adminrows.specs.declared.places.Cause.{Cause}
use Rattle.spec_adminrows.specs.declared.places.Creating.TheVariants as creating
use Rattle.spec_adminrows.specs.declared.places.Fresh.{Fresh}
use Rattle.spec_adminrows.specs.declared.places.Hold.{Hold}
use Rattle.spec_adminrows.specs.declared.places.Moving.TheVariants as moving
use Rattle.spec_adminrows.specs.declared.places.Place.{Place}
use Rattle.spec_adminrows.specs.declared.places.Place.TheVariants as places
use Rattle.spec_adminrows.specs.declared.places.Seen.{Seen}
use Rattle.spec_adminrows.specs.declared.places.Trip.{Trip}
use Rattle.law_courses.specs.Courses.{ask_in, Course, IsOnCourse, Question}
use Rattle.law_families.specs.Entries.{AreApart, AreKeyed}
use Rattle.law_families.proofs.Entries.{found_id_own}
use Rattle.law_families.proofs.Sites.{moved_site}
use Rattle.law_one_server.specs.Knows.{listed_site, site_by, IsAt, IsListedOr, IsOver, Knows}
use Rattle.law_one_server.proofs.DatabaseSteps.{each_call, Is, OfCalls}
use Rattle.law_one_server.proofs.DatabaseDecides.{set_here}
use Rattle.law_one_server.proofs.KnownLeads.{News}
use Rattle.law_one_server.proofs.DatabaseCalls.{named_by, IsBeside}
use Rattle.law_one_server.proofs.EntriesName.{first_of, UsableAt}

-- ---- replies that tell something, each at one kind of place

abbrev pub TellsNone : LocReply → Type 0
TellsNone (replies.SetLock stamp n) = ⊥
TellsNone (replies.CreateEntry stamp) = ⊥
TellsNone replies.ReplaceEntry = ⊥
TellsNone (replies.GetEntryById n) = ⊥
TellsNone reply = ⊤

module _ (d : NodeCell) where
  pub news_none : (p : Place) (reply : LocReply) → TellsNone reply → News d p (tell.Location reply)
  news_none p (replies.SetLock stamp n) k = absurd k
  news_none p (replies.CreateEntry stamp) k = absurd k
  news_none p replies.ReplaceEntry k = absurd k
  news_none p (replies.GetEntryById n) k = absurd k
  news_none p reply k = tt

  pub news_lock : (p : Place) (stamp : ℕ) (n : LocEntry) → (is_usable n ≡ true → IsAt d n.read_write stamp (home_in n) × IsListedOr d n.read_write stamp) → News d p (tell.Location (replies.SetLock stamp n))
  news_lock (places.Locks cause v) stamp n at = at
  news_lock p stamp n at = tt

  pub news_made : (p : Place) (stamp : ℕ) → ((f : Fresh) (v : ℕ) → p ≡ places.Creates f (creating.Enters v) → IsAt d v stamp f.server) → News d p (tell.Location (replies.CreateEntry stamp))
  news_made (places.Creates f (creating.Enters v)) stamp k = k f v refl
  news_made p stamp k = tt

  pub news_moved : (p : Place) → ((m : Trip) (new old : ℕ) → p ≡ places.Moves m (moving.Decides new old) → IsAt d (family m.hold) m.hold.stamp m.target) → News d p (tell.Location replies.ReplaceEntry)
  news_moved (places.Moves m (moving.Decides new old)) k = k m new old refl
  news_moved p k = tt

  pub news_entry : (p : Place) (n : LocEntry) → ((cause : Cause) (h : Hold) (seen : List Seen) → p ≡ places.Asks cause h seen → is_usable n ≡ true → IsAt d (family h) h.stamp (home_in n)) → News d p (tell.Location (replies.GetEntryById n))
  news_entry (places.Asks cause h seen) n k = k cause h seen refl
  news_entry p n k = tt

-- ---- a call that reads

module _ (t : LocLasting) where
  -- the entry that was found
  pub record IsFound (id : ℕ) (n : LocEntry) : Type 0 where
    pub l : Listed
    pub found : found_id id t.entries ≡ Some l
    pub is : l.entry ≡ n

  abbrev ReadsSo : LocCall → LocReply → Type 0
  ReadsSo (calls.GetEntryById id) (replies.GetEntryById n) = IsFound id n
  ReadsSo call reply = TellsNone reply

  abbrev Reads : LocCall → LocResult → Type 0
  Reads call (row.refused code) = ⊤
  Reads call (row.reads reply) = ReadsSo call reply
  Reads call (row.changes c) = ⊤

  either : (call : LocCall) (b : Bool) (x y : LocResult) → Reads call x → Reads call y → Reads call (cond b x y)
  either call true x y h j = h
  either call false x y h j = j

  entry_reads : (call : LocCall) (o : Option Listed) (more : Listed → LocResult) → ((l : Listed) → o ≡ Some l → Reads call (more l)) → Reads call (with_entry o more)
  entry_reads call None more h = tt
  entry_reads call (Some l) more h = h l refl

  lock_reads : (call : LocCall) (stamp : ℕ) (o : Option Listed) (more : Listed → LocResult) → ((l : Listed) → Reads call (more l)) → Reads call (with_lock stamp o more)
  lock_reads call stamp o more h = entry_reads call o _ (λ l is. either call (holds stamp l.lock) (more l) _ (h l) tt)

  fits_reads : (call : LocCall) (old : Option LocEntry) (new : LocEntry) (more : LocResult) → Reads call more → Reads call (entry_fits old new t.entries more)
  fits_reads call old new more h =
      either call (not (volume_name_ok new.name)) _ _ tt (either call (any_other old (shares_id new) t.entries) _ _ tt (either call (any_other old (is_named new.name) t.entries) _ _ tt (either call (nat_lt row.most_listed_sites (length new.sites)) _ more tt h)))

  pub each_read : (stamp : ℕ) (call : LocCall) → Reads call (loc_op stamp call t)
  each_read stamp (calls.CreateEntry e) = fits_reads (calls.CreateEntry e) None e _ (either (calls.CreateEntry e) (nat_lt t.next_stamp _) _ _ tt tt)
  each_read stamp (calls.DeleteEntry id) = lock_reads (calls.DeleteEntry id) stamp (found_id id t.entries) _ (λ l. tt)
  each_read stamp (calls.GetEntryById id) = entry_reads (calls.GetEntryById id) (found_id id t.entries) _ (λ l is. record { l = l; found = is; is = refl })
  each_read stamp (calls.GetEntryByName name) = entry_reads (calls.GetEntryByName name) (row.found_name name t.entries) _ (λ l is. tt)
  each_read stamp calls.GetNewVolumeId = either calls.GetNewVolumeId (nat_lt t.next_id _) _ _ tt tt
  each_read stamp (calls.ReplaceEntry id e) = lock_reads (calls.ReplaceEntry id e) stamp (found_id id t.entries) _ (λ l. fits_reads (calls.ReplaceEntry id e) (Some l.entry) e _ tt)
  each_read stamp (calls.SetLock id operation force) = entry_reads (calls.SetLock id operation force) (found_id id t.entries) _ (λ l is.
      either (calls.SetLock id operation force) (is_barred l.lock force) _ _ tt (either (calls.SetLock id operation force) (is_operation operation) _ _ (either (calls.SetLock id operation force) (nat_lt t.next_stamp _) _ _ tt tt) tt))
  each_read stamp (calls.ReleaseLock id) = lock_reads (calls.ReleaseLock id) stamp (found_id id t.entries) _ (λ l. tt)
  each_read stamp (calls.ListEntry index) = entry_reads (calls.ListEntry index) (row.nth index (row.all_listed t.entries)) _ (λ l is. tt)

-- ---- what it tells the question that asks

call_same : (x y : LocCall) → ask.Location x ≡ ask.Location y → x ≡ y
call_same x y e = cc

written_id : (a b : ℕ) (x y : LocEntry) → calls.ReplaceEntry a x ≡ calls.ReplaceEntry b y → x ≡ y
written_id a b x y e = cc

made_same : (x y : LocEntry) → calls.CreateEntry x ≡ calls.CreateEntry y → x ≡ y
made_same x y e = cc

read_same : (a b : ℕ) → calls.GetEntryById a ≡ calls.GetEntryById b → a ≡ b
read_same a b e = cc

listed_same : (x y : Listed) → Some x ≡ Some y → x ≡ y
listed_same x y e = cc

usable_site : (n : LocEntry) → is_usable n ≡ true → site_of n ≡ Some (home_in n)
usable_site n usable = named_by (site_of n) (first_of (is_some (site_of n)) _ usable)

module _ (course : Course) (c d : NodeCell) (b : IsBeside c d) (keyed : AreKeyed (entries_in c)) (apart : AreApart (entries_in c)) (knows : (n e k : ℕ) → Knows c (course n e k).place) (usable : (n e k : ℕ) → UsableAt (course n e k).place) where
  abbrev lasting : LocLasting
  lasting = c.loc.state.lasting

  module _ (n : ℕ) (head : Head) (call : LocCall) (on : IsOnCourse course c.sent n (c.admins n) head (ask.Location call)) where
    abbrev q : Question
    q = course n head.epoch head.number

    -- what is asked at the place
    asks : (p : Place) → q.place ≡ p → (asks_at q.errand p).call ≡ ask.Location call
    asks p is = subst (λ (x : Place). (asks_at q.errand x).call ≡ ask.Location call) is on.asks

    -- ---- an entry that is read

    module _ (same : entries_in d ≡ entries_in c) (numbered : (cause : Cause) (h : Hold) (seen : List Seen) → q.place ≡ places.Asks cause h seen → nat_eq (family h) 0 ≡ false) where
      read_at : (id : ℕ) (r : LocEntry) → call ≡ calls.GetEntryById id → IsFound lasting id r → (cause : Cause) (h : Hold) (seen : List Seen) → q.place ≡ places.Asks cause h seen → is_usable r ≡ true → IsAt d (family h) h.stamp (home_in r)
      read_at id r is f cause h seen at usable_r = by (subst (Knows c) at (knows n head.epoch head.number))
        where
          own : family h ≡ id
          own = read_same (family h) id (call_same (calls.GetEntryById (family h)) (calls.GetEntryById id) (asks (places.Asks cause h seen) at ∙ ap ask.Location is))

          found : (o : Option Listed) → get (family h) (entries_in c) ≡ o → is_some o ≡ true → listed_site d (family h) ≡ Some (home_in r)
          found None there some = absurd cc
          found (Some l) there some =
              let first : found_id (family h) (entries_in c) ≡ Some l = found_id_own (entries_in c) (family h) l keyed apart (numbered cause h seen at) there in
              let same_l : l ≡ f.l = listed_same l f.l (sym first ∙ (ap (λ (x : ℕ). found_id x (entries_in c)) own ∙ f.found)) in
              ap (λ (t : Table Listed). site_by (get (family h) t)) same ∙ (ap site_by there ∙ (ap (λ (x : Listed). site_of x.entry) same_l ∙ (ap site_of f.is ∙ usable_site r usable_r)))

          by : IsListedOr c (family h) h.stamp → IsAt d (family h) h.stamp (home_in r)
          by (inl there) = inl (found (get (family h) (entries_in c)) refl there)
          by (inr over) = inr (b.over (family h) h.stamp over)

      read_by : (k : LocCall) (reply : LocReply) → call ≡ k → ReadsSo lasting k reply → News d q.place (tell.Location reply)
      read_by (calls.GetEntryById id) (replies.GetEntryById r) is f = news_entry d q.place r (read_at id r is f)
      read_by (calls.GetEntryById id) (replies.CreateEntry stamp) is f = absurd f
      read_by (calls.GetEntryById id) (replies.SetLock stamp r) is f = absurd f
      read_by (calls.GetEntryById id) replies.ReplaceEntry is f = absurd f
      read_by (calls.GetEntryById id) reply is f = news_none d q.place reply f
      read_by k reply is f = news_none d q.place reply f

      pub read_news : (reply : LocReply) → loc_op head.stamp call lasting ≡ row.reads reply → News d q.place (tell.Location reply)
      read_news reply does = read_by call reply refl (subst (Reads lasting call) does (each_read lasting head.stamp call))

    -- ---- an entry that is changed

    abbrev Done : LocCall → LocChange → Type 0
    Done k x = call ≡ k → entries_in d ≡ entries_after x.deed (entries_in c) → News d q.place (tell.Location x.reply)

    here : (key : ℕ) (l : Listed) → entries_in d ≡ set key l (entries_in c) → get key (entries_in d) ≡ Some l
    here key l now = ap (get key) now ∙ set_here key key l (entries_in c) refl

    locked_news : (l : Listed) (lock : Option Lock) (stamp : ℕ) → entries_in d ≡ set l.entry.read_write (record { entry = l.entry; lock = lock }) (entries_in c) → News d q.place (tell.Location (replies.SetLock stamp l.entry))
    locked_news l lock stamp now =
        let at : get l.entry.read_write (entries_in d) ≡ Some (record { entry = l.entry; lock = lock }) = here l.entry.read_write (record { entry = l.entry; lock = lock }) now in
        news_lock d q.place stamp l.entry (λ fits. (inl (ap site_by at ∙ usable_site l.entry fits), inl (ap is_some at)))

    made_news : (e : LocEntry) (lock : Option Lock) (stamp : ℕ) → call ≡ calls.CreateEntry e → entries_in d ≡ set e.read_write (record { entry = e; lock = lock }) (entries_in c) → News d q.place (tell.Location (replies.CreateEntry stamp))
    made_news e lock stamp is now = news_made d q.place stamp (λ f v at. by f v (made_same (new_entry (name_in_act q.errand.act) v f.server) e (call_same _ _ (asks (places.Creates f (creating.Enters v)) at ∙ ap ask.Location is))))
      where
        by : (f : Fresh) (v : ℕ) → new_entry (name_in_act q.errand.act) v f.server ≡ e → IsAt d v stamp f.server
        by f v same =
            let key : v ≡ e.read_write = ap (λ (x : LocEntry). x.read_write) same in
            inl (ap (λ (x : ℕ). listed_site d x) key ∙ (ap site_by (here e.read_write (record { entry = e; lock = lock }) now) ∙ sym (ap site_of same)))

    moved_news : (id : ℕ) (e : LocEntry) (lock : Option Lock) → call ≡ calls.ReplaceEntry id e → entries_in d ≡ set e.read_write (record { entry = e; lock = lock }) (entries_in c) → News d q.place (tell.Location replies.ReplaceEntry)
    moved_news id e lock is now = news_moved d q.place (λ m new old at. by m new old at (written_id (family m.hold) id (entry_moved m.target m.hold.entry) e (call_same _ _ (asks (places.Moves m (moving.Decides new old)) at ∙ ap ask.Location is))))
      where
        by : (m : Trip) (new old : ℕ) → q.place ≡ places.Moves m (moving.Decides new old) → entry_moved m.target m.hold.entry ≡ e → IsAt d (family m.hold) m.hold.stamp m.target
        by m new old at same =
            let key : family m.hold ≡ e.read_write = ap (λ (x : LocEntry). x.read_write) same in
            let named : site_of m.hold.entry ≡ Some (home m.hold) = named_by (site_of m.hold.entry) (subst UsableAt at (usable n head.epoch head.number)) in
            inl (ap (λ (x : ℕ). listed_site d x) key ∙ (ap site_by (here e.read_write (record { entry = e; lock = lock }) now) ∙ (sym (ap site_of same) ∙ moved_site m.target (home m.hold) m.hold.entry named)))

    news_of : OfCalls lasting head.stamp Done
    news_of = record {
      locks = λ id operation force l at is now. locked_news l (Some (record { operation = operation; stamp = lasting.next_stamp; forced = is_force force })) lasting.next_stamp now;
      makes = λ e free is now. made_news e (Some (record { operation = row.made_for; stamp = lasting.next_stamp; forced = false })) lasting.next_stamp is now;
      frees = λ id l at held is now. news_none d q.place replies.ReleaseLock tt;
      writes = λ id e l at held is now. moved_news id e l.lock is now;
      deletes = λ id l at held is now. news_none d q.place replies.DeleteEntry tt;
      draws = λ is now. news_none d q.place (replies.GetNewVolumeId lasting.next_id) tt;
    }

    pub written_news : (x : LocChange) → loc_op head.stamp call lasting ≡ row.changes x → entries_in d ≡ entries_after x.deed (entries_in c) → News d q.place (tell.Location x.reply)
    written_news x does now = subst (Is lasting keyed head.stamp Done news_of call) does (each_call lasting keyed head.stamp Done news_of call) refl now
