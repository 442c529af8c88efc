-- Where the location database tells that a volume is recovered, it releases a lock that was taken by force.
use Rattle.std.proofs.Common.{◌≡◌, ◌⊎◌, ◌+◌, inl, inr, ℕ, Bool, true, false, cond, List, [], ◌∷◌, ◌++◌, Option, Some, None, refl, sym, ap, subst, ◌∙◌, nat_eq, eqb-true}
use Rattle.std.specs.Prelude.{◌||◌}
use Rattle.std.specs.List.{list_any}
use Rattle.afs_num.specs.declared.location_calls.LocCall.{LocCall}
use Rattle.afs_num.specs.declared.location_calls.LocCall.TheVariants as calls
use Rattle.afs_num.specs.declared.location_calls.LocEntry.{LocEntry}
use Rattle.afs_num.specs.declared.messages.Call.TheVariants as ask
use Rattle.afs_num.specs.declared.messages.Carried.TheVariants as carried
use Rattle.afs_num.specs.declared.messages.Message.{Message}
use Rattle.afs_num.specs.declared.messages.Received.TheVariants.{Whole}
use Rattle.afs_num.specs.declared.types.Node.TheVariants.{Loc, Server}
use Rattle.spec_history.specs.declared.lines.Line.{Line}
use Rattle.spec_history.specs.declared.lines.Line.TheVariants as lines
use Rattle.spec_history.specs.declared.scripts.Script.{Script}
use Rattle.spec_ideal.specs.Tables.{get}
use Rattle.spec_records.specs.Entries.{site_of}
use Rattle.spec_records.specs.LocEffects.{deed_told, located_lines, lock_before, lock_told, locked_new, same_site, set_told, site_before, unlocked_of}
use Rattle.spec_records.specs.LocRecords.{Listed, Lock}
use Rattle.spec_rows.specs.Hosts.{at_rest, begun_from, comes_up, ends, fails_early, fails_midway, fall_line, in_boot, in_step, is_full, served_by, without_boot_record, struck, Blow, Fall, Outcome}
use Rattle.spec_rows.specs.LocRow.{drops, holds, is_force, loc_can_start, loc_decides, loc_device_calls, made_for, refuses, repeats, saves, shows, tells_boot, LocChange, LocDecision, LocLasting, LocState}
use Rattle.spec_rows.specs.LocSteps.{loc_begun_after, loc_kind, loc_row, loc_start_row, loc_told}
use Rattle.spec_rows.specs.Steps.{Begun}
use Rattle.spec_runs.specs.NodeRuns.{loc_stepped, node_moved, node_start, CellInput, NodeCell, NodeMoved}
use Rattle.law_walks.specs.Messages.{FallIs}
use Rattle.law_walks.proofs.EachKind.{any_admin, any_client, any_server, each}
use Rattle.law_places.specs.Accepting.{cell_behind}
use Rattle.law_stamps.specs.Told.{entries_in, is_database}
use Rattle.law_families.specs.Entries.{AreKeyed}
use Rattle.law_locks.proofs.Walk.{grips_are_drawn, loc_falls_sent, WasSent}
use Rattle.law_one_server.proofs.DatabaseSteps.{each_call, hears_serves, Is, OfCalls, Serves}
use Rattle.law_recovered.specs.Ends.{recovers}
use Rattle.law_recovered.proofs.Locks.{lock_of}

-- ---- lines

any_more : (test : Line → Bool) (xs ys : List Line) → list_any test (xs ++ ys) ≡ true → (list_any test xs ≡ true) ⊎ (list_any test ys ≡ true)
any_more test [] ys e = inr e
any_more test (x ∷ xs) ys e = by (test x) refl e (any_more test xs ys)
  where
    by : (b : Bool) → test x ≡ b → (b || list_any test (xs ++ ys)) ≡ true → (list_any test (xs ++ ys) ≡ true → (list_any test xs ≡ true) ⊎ (list_any test ys ≡ true)) → ((test x || list_any test xs) ≡ true) ⊎ (list_any test ys ≡ true)
    by true is e' later = inl (ap (λ (b : Bool). b || list_any test xs) is)
    by false is e' later = elim (later e') [ inl h ↦ inl (ap (λ (b : Bool). b || list_any test xs) is ∙ h) | inr h ↦ inr h ]

abbrev Tells : ℕ → List Line → Type 0
Tells volume ls = list_any (recovers volume) ls ≡ true

one_locked : (volume v : ℕ) (l : Lock) (b : Bool) → Tells volume (cond b [] (lines.Locked v l.stamp l.operation ∷ [])) → ⊥
one_locked volume v l true e = absurd cc
one_locked volume v l false e = absurd cc

none_locked : (volume v : ℕ) (before : Option Lock) (l : Lock) → Tells volume (locked_new v before l) → ⊥
none_locked volume v None l e = absurd cc
none_locked volume v (Some k) l e = one_locked volume v l (nat_eq k.stamp l.stamp) e

none_located_by : (volume v i : ℕ) (b : Bool) → Tells volume (cond b [] (lines.Located v (Server i) ∷ [])) → ⊥
none_located_by volume v i true e = absurd cc
none_located_by volume v i false e = absurd cc

none_located : (volume v : ℕ) (before o : Option ℕ) → Tells volume (located_lines v before o) → ⊥
none_located volume v before None e = absurd cc
none_located volume v before (Some i) e = none_located_by volume v i (same_site before (Some i)) e

either_none : (test : Line → Bool) (xs ys : List Line) → (list_any test xs ≡ true → ⊥) → (list_any test ys ≡ true → ⊥) → list_any test (xs ++ ys) ≡ true → ⊥
either_none test xs ys h k e = elim (any_more test xs ys e) [ inl a ↦ h a | inr b ↦ k b ]

forced_by : (volume v : ℕ) (b : Bool) → Tells volume (cond b (lines.Recovered v ∷ lines.Unlocked v ∷ []) (lines.Unlocked v ∷ [])) → (b ≡ true) × (v ≡ volume)
forced_by volume v false e = absurd cc
forced_by volume v true e = (refl, by (nat_eq v volume) refl e)
  where
    by : (b : Bool) → nat_eq v volume ≡ b → (b || false) ≡ true → v ≡ volume
    by true is e' = eqb-true v volume is
    by false is e' = absurd cc

-- ---- a call that releases such a lock

pub record Releases (c : NodeCell) (volume : ℕ) : Type 0 where
  pub m : Message
  pub sent : WasSent c.sent m
  pub user : List ℕ
  pub id : ℕ
  pub says : m.carried ≡ carried.Call user (ask.Location (calls.ReleaseLock id))
  pub k : Lock
  pub under : k.stamp ≡ m.head.stamp
  pub forced : k.forced ≡ true
  pub locked : lock_of (get volume (entries_in c)) ≡ Some k

record ByCall (d : LocLasting) (stamp volume : ℕ) (call : LocCall) : Type 0 where
  id : ℕ
  is : call ≡ calls.ReleaseLock id
  k : Lock
  under : k.stamp ≡ stamp
  forced : k.forced ≡ true
  locked : lock_of (get volume d.entries) ≡ Some k

module _ (d : LocLasting) (stamp volume : ℕ) where
  abbrev R : LocCall → LocChange → Type 0
  R call change = Tells volume (deed_told change.deed d.entries) → ByCall d stamp volume call

  held_lock : (o : Option Lock) → holds stamp o ≡ true → (k : Lock) × ((o ≡ Some k) × (k.stamp ≡ stamp))
  held_lock None e = absurd cc
  held_lock (Some k) e = (k, (refl, eqb-true k.stamp stamp e))

  freed : (id : ℕ) (l : Listed) → get l.entry.read_write d.entries ≡ Some l → holds stamp l.lock ≡ true → Tells volume (lock_told l.entry.read_write (lock_before (get l.entry.read_write d.entries)) None) → ByCall d stamp volume (calls.ReleaseLock id)
  freed id l at held e =
      let z = held_lock l.lock held in
      let e' : Tells volume (unlocked_of l.entry.read_write z.0) = subst (λ (o : Option Lock). Tells volume (lock_told l.entry.read_write o None)) (ap lock_before at ∙ z.1.0) e in
      let f = forced_by volume l.entry.read_write z.0.forced e' in
      record { id = id; is = refl; k = z.0; under = z.1.1; forced = f.0; locked = subst (λ (v : ℕ). lock_of (get v d.entries) ≡ Some z.0) f.1 (ap lock_of at ∙ z.1.0) }

  -- an entry that is set tells of its lock first
  abbrev LockTells : Listed → Type 0
  LockTells new = Tells volume (lock_told new.entry.read_write (lock_before (get new.entry.read_write d.entries)) new.lock)

  abbrev SiteLines : Listed → List Line
  SiteLines new = located_lines new.entry.read_write (site_before (get new.entry.read_write d.entries)) (site_of new.entry)

  set_so : (new : Listed) → Tells volume (set_told new (get new.entry.read_write d.entries)) → LockTells new
  set_so new e = by (any_more (recovers volume) (lock_told new.entry.read_write (lock_before (get new.entry.read_write d.entries)) new.lock) (SiteLines new) e)
    where
      by : LockTells new ⊎ Tells volume (SiteLines new) → LockTells new
      by (inl a) = a
      by (inr b) = absurd (none_located volume new.entry.read_write (site_before (get new.entry.read_write d.entries)) (site_of new.entry) b)

  none_taken : (e : LocEntry) (lock : Lock) → Tells volume (set_told (record { entry = e; lock = Some lock }) (get e.read_write d.entries)) → ⊥
  none_taken e lock tells = none_locked volume e.read_write (lock_before (get e.read_write d.entries)) lock (set_so (record { entry = e; lock = Some lock }) tells)

  none_written : (e : LocEntry) (o : Option Lock) → holds stamp o ≡ true → Tells volume (set_told (record { entry = e; lock = o }) (get e.read_write d.entries)) → ⊥
  none_written e None held tells = absurd cc
  none_written e (Some k) held tells = none_taken e k tells

  of_calls : OfCalls d stamp R
  of_calls = record {
    locks = λ id operation force l at e. absurd (none_taken l.entry (record { operation = operation; stamp = d.next_stamp; forced = is_force force }) e);
    makes = λ x free e. absurd (none_taken x (record { operation = made_for; stamp = d.next_stamp; forced = false }) e);
    frees = λ id l at held e. freed id l at held (set_so (record { entry = l.entry; lock = None }) e);
    writes = λ id x l at held e. absurd (none_written x l.lock held e);
    deletes = λ id l at held e. absurd cc;
    draws = λ e. absurd cc;
  }

module _ (s : Script) (inputs : List CellInput) (volume : ℕ) where
  abbrev c : NodeCell
  c = cell_behind (node_start s) inputs

  abbrev st : LocState
  st = c.loc.state

  keyed : AreKeyed (entries_in c)
  keyed = let g = grips_are_drawn s inputs in record { ascends = g.line.ascends; keyed = g.line.keyed }

  abbrev Says : NodeMoved → Type 0
  Says m = is_database m.entry.actor ≡ true → Tells volume m.entry.lines → Releases c volume

  decided : (m : Message) → WasSent c.sent m → (dec : LocDecision) → Serves st m dec → Tells volume (loc_told st dec) → Releases c volume
  decided m sent (saves head x) k e =
      let z : ByCall st.lasting m.head.stamp volume k.call = subst (Is st.lasting keyed m.head.stamp (R st.lasting m.head.stamp volume) (of_calls st.lasting m.head.stamp volume) k.call) k.does (each_call st.lasting keyed m.head.stamp (R st.lasting m.head.stamp volume) (of_calls st.lasting m.head.stamp volume) k.call) e in
      record { m = m; sent = sent; user = k.user; id = z.id; says = k.says ∙ ap (λ (y : LocCall). carried.Call k.user (ask.Location y)) z.is; k = z.k; under = z.under; forced = z.forced; locked = z.locked }
  decided m sent drops k e = absurd cc
  decided m sent (tells_boot head) k e = absurd cc
  decided m sent (repeats reply) k e = absurd cc
  decided m sent (refuses head code) k e = absurd cc
  decided m sent (shows head reply) k e = absurd cc

  serves_on : (place : ℕ) (m : Message) (o : Option Blow) → WasSent c.sent m → Says (loc_stepped c (served_by loc_kind c.loc c.clock place m o))
  unfolding loc_row
  serves_on place m None sent is e = decided m sent (loc_decides st (Whole m)) (hears_serves st m.head m.carried) e
  serves_on place m (Some b) sent is e = absurd (by b.stops e)
    where
      by : (b : Bool) → Tells volume (lines.Given place ∷ fall_line Loc b ∷ []) → ⊥
      by true e' = absurd cc
      by false e' = absurd cc

  -- ---- a restart

  begun_told : (m : Message) → WasSent c.sent m → (dec : LocDecision) → Serves st m dec → (last : Line) → recovers volume last ≡ false → Tells volume ((loc_begun_after st dec).before (last ∷ [])) → Releases c volume
  begun_told m sent (saves head x) k last none e = elim (any_more (recovers volume) (deed_told x.deed st.lasting.entries) (last ∷ []) e) [
    | inl a ↦ decided m sent (saves head x) k a
    | inr b ↦ let no : true ≡ false = sym b ∙ ap (λ (y : Bool). y || false) none in absurd cc
  ]
  begun_told m sent drops k last none e = let no : true ≡ false = sym e ∙ ap (λ (y : Bool). y || false) none in absurd cc
  begun_told m sent (tells_boot head) k last none e = let no : true ≡ false = sym e ∙ ap (λ (y : Bool). y || false) none in absurd cc
  begun_told m sent (repeats reply) k last none e = let no : true ≡ false = sym e ∙ ap (λ (y : Bool). y || false) none in absurd cc
  begun_told m sent (refuses head code) k last none e = let no : true ≡ false = sym e ∙ ap (λ (y : Bool). y || false) none in absurd cc
  begun_told m sent (shows head reply) k last none e = let no : true ≡ false = sym e ∙ ap (λ (y : Bool). y || false) none in absurd cc

  -- it begins with no line of an interrupted step
  plain_on : (f : Begun LocState) (fall : Fall) (o : Outcome) → ((ls : List Line) → f.before ls ≡ ls) → Says (loc_stepped c (ends loc_kind c.loc c.clock c.count f fall o))
  unfolding loc_start_row
  plain_on f fall comes_up plain is e = let e' : Tells volume (lines.Restart Loc (f.state.lasting.boot + 1) ∷ []) = subst (Tells volume) (plain _) e in absurd cc
  plain_on f fall fails_early plain is e = absurd cc
  plain_on f fall fails_midway plain is e = let e' : Tells volume (lines.Fault Loc ∷ []) = subst (Tells volume) (plain _) e in absurd cc
  plain_on f fall is_full plain is e = let e' : Tells volume (lines.Full Loc ∷ []) = subst (Tells volume) (plain _) e in absurd cc

  after_on : (m : Message) (at : ℕ) (b : Blow) (o : Outcome) → WasSent c.sent m → Says (loc_stepped c (ends loc_kind c.loc c.clock c.count (begun_from loc_kind st true (in_step m at b)) (in_step m at b) o))
  unfolding loc_start_row
  after_on m at b comes_up sent is e = begun_told m sent (loc_decides st (Whole m)) (hears_serves st m.head m.carried) _ refl e
  after_on m at b fails_early sent is e = absurd cc
  after_on m at b fails_midway sent is e = begun_told m sent (loc_decides st (Whole m)) (hears_serves st m.head m.carried) _ refl e
  after_on m at b is_full sent is e = begun_told m sent (loc_decides st (Whole m)) (hears_serves st m.head m.carried) _ refl e

  restarts_on : (after : Bool) (fall : Fall) (o : Outcome) → FallIs (WasSent c.sent) (Some fall) → Says (loc_stepped c (ends loc_kind c.loc c.clock c.count (begun_from loc_kind st after fall) fall o))
  restarts_on after at_rest o sent = plain_on (begun_from loc_kind st after at_rest) at_rest o (λ ls. refl)
  restarts_on false (in_step m at b) o sent = plain_on (begun_from loc_kind st false (in_step m at b)) (in_step m at b) o (λ ls. refl)
  restarts_on true (in_step m at b) o sent = after_on m at b o sent
  restarts_on false in_boot o sent = plain_on (begun_from loc_kind st false in_boot) in_boot o (λ ls. refl)
  restarts_on true in_boot o sent = plain_on (begun_from loc_kind st true in_boot) in_boot o (λ ls. refl)

  pub said : (x : CellInput) → Says (node_moved c x)
  said x = each Says c (record {
    void = λ is e. absurd cc;
    ticks = λ n is e. absurd cc;
    servers = any_server Says c (λ i step is e. absurd cc);
    database = record {
      serves = λ place luck m up g. serves_on place m (struck c.loc.armed luck (loc_device_calls st (loc_decides st (Whole m)))) (place, g.sent);
      crashes = λ up is e. absurd cc;
      stop_set = λ calls' pick up is e. absurd cc;
      fail_set = λ call up is e. absurd cc;
      restarts = λ after o fall down. restarts_on after fall (without_boot_record (loc_can_start (begun_from loc_kind st after fall).state) o) (subst (FallIs (WasSent c.sent)) down (loc_falls_sent s inputs));
    };
    clients = any_client Says c (λ n step is e. absurd cc) (λ n is e. absurd cc) (λ n is e. absurd cc);
    admins = any_admin Says c (λ n step is e. absurd cc) (λ n is e. absurd cc) (λ n is e. absurd cc);
  }) x
