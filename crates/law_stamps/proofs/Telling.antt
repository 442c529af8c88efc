-- What the records of the location database tell of its entries, and what they make of them.
use Rattle.std.proofs.Common.{◌≡◌, ℕ, ◌+◌, Bool, true, false, cond, List, [], ◌∷◌, ◌++◌, Option, Some, None, refl, sym, ap, subst, ◌∙◌, nat_eq, eq-eqb, eqb-true, if◌then◌else◌}
use Rattle.afs_num.specs.declared.messages.Message.{Message}
use Rattle.afs_num.specs.declared.messages.Received.TheVariants.{Whole}
use Rattle.afs_num.specs.declared.types.Node.{Node}
use Rattle.afs_num.specs.declared.types.Node.TheVariants.{Loc, Server}
use Rattle.spec_history.specs.declared.lines.Line.{Line}
use Rattle.spec_history.specs.declared.lines.Line.TheVariants as lines
use Rattle.spec_ideal.proofs.Tables.{get_set, get_unset}
use Rattle.spec_ideal.specs.Tables.{get, Table}
use Rattle.spec_records.specs.Entries.{site_of}
use Rattle.spec_records.specs.LocDurable.{entries_after}
use Rattle.spec_records.specs.LocEffects.{deed_told, located_lines, lock_before, lock_told, same_site, set_told, site_before}
use Rattle.spec_records.specs.LocRecords.{leaves, removes, sets, EntryDeed, Listed, Lock}
use Rattle.spec_rows.specs.Hosts.{at_rest, begun_from, comes_up, crashed, ends, fails_early, fails_midway, fall_line, in_boot, in_step, is_full, restarted, served, served_by, set_to_fail, set_to_stop, without_boot_record, struck, Blow, Fall, Luck, Outcome}
use Rattle.spec_rows.specs.LocRow.{drops, loc_decides, loc_left, refuses, repeats, saves, shows, tells_boot, LocDecision, LocState}
use Rattle.spec_rows.specs.LocSteps.{loc_begun_after, loc_kind, loc_row, loc_start_row, loc_told, LocHost}
use Rattle.spec_rows.specs.Steps.{Begun}
use Rattle.law_stamps.specs.Told.{home_by, home_listed, lines_turned, lock_turned, site_turned, stamp_by, stamp_in}

-- ---- lines one after the other

pub turned_on : {A : Type 0} (turn : A → Line → A) (was : A) (xs ys : List Line) → lines_turned turn was (xs ++ ys) ≡ lines_turned turn (lines_turned turn was xs) ys
turned_on {A} turn was [] ys = refl
turned_on {A} turn was (x ∷ xs) ys = turned_on turn (turn was x) xs ys

-- The lines lead from what the entries were to what they are.
pub record Tells (a b : Table Listed) (ls : List Line) : Type 0 where
  pub locks : (v : ℕ) → lines_turned (lock_turned v) (stamp_in (get v a)) ls ≡ stamp_in (get v b)
  pub sites : (v : ℕ) (was : Option Node) → ((server : Node) → home_listed (get v a) ≡ Some server → was ≡ Some server) → (server : Node) → home_listed (get v b) ≡ Some server → lines_turned (site_turned v) was ls ≡ Some server

-- lines that tell nothing of them
pub record IsMute (ls : List Line) : Type 0 where
  pub locks : (v : ℕ) (was : Option ℕ) → lines_turned (lock_turned v) was ls ≡ was
  pub sites : (v : ℕ) (was : Option Node) → lines_turned (site_turned v) was ls ≡ was

pub mute_tells : (t : Table Listed) (ls : List Line) → IsMute ls → Tells t t ls
mute_tells t ls h = record { locks = λ v. h.locks v (stamp_in (get v t)); sites = λ v was k server e. h.sites v was ∙ k server e }

pub then_tells : (a b c : Table Listed) (xs ys : List Line) → Tells a b xs → Tells b c ys → Tells a c (xs ++ ys)
then_tells a b c xs ys h k = record {
  locks = λ v. turned_on (lock_turned v) (stamp_in (get v a)) xs ys ∙ (ap (λ (o : Option ℕ). lines_turned (lock_turned v) o ys) (h.locks v) ∙ k.locks v);
  sites = λ v was w server e. turned_on (site_turned v) was xs ys ∙ k.sites v (lines_turned (site_turned v) was xs) (λ n z. h.sites v was w n z) server e;
}

-- ---- an entry that is set: its lock, and then its site

-- of the volume itself, and of another
if_here : {A : Type 0} (v w : ℕ) (b : Bool) (x y : A) → nat_eq v w ≡ b → cond (nat_eq v w) x y ≡ cond b x y
if_here {A} v w b x y e = ap (λ (t : Bool). cond t x y) e

new_locks : (v : ℕ) (b : Bool) (k l : Lock) → nat_eq k.stamp l.stamp ≡ b → lines_turned (lock_turned v) (Some k.stamp) (if b then [] else lines.Locked v l.stamp l.operation ∷ []) ≡ Some l.stamp
new_locks v true k l e = ap (λ (n : ℕ). Some n) (eqb-true k.stamp l.stamp e)
new_locks v false k l e = if_here v v true (Some l.stamp) (Some k.stamp) (eq-eqb v v refl)

gone_locks : (v : ℕ) (b : Bool) (was : Option ℕ) → lines_turned (lock_turned v) was (if b then lines.Recovered v ∷ lines.Unlocked v ∷ [] else lines.Unlocked v ∷ []) ≡ None
gone_locks v true was = if_here v v true None was (eq-eqb v v refl)
gone_locks v false was = if_here v v true None was (eq-eqb v v refl)

own_locks : (v : ℕ) (before after : Option Lock) → lines_turned (lock_turned v) (stamp_by before) (lock_told v before after) ≡ stamp_by after
own_locks v None (Some l) = if_here v v true (Some l.stamp) None (eq-eqb v v refl)
own_locks v (Some k) (Some l) = new_locks v (nat_eq k.stamp l.stamp) k l refl
own_locks v (Some k) None = gone_locks v k.forced (Some k.stamp)
own_locks v None None = refl

-- lines of another volume's lock
far_new : (v w : ℕ) (b : Bool) (l : Lock) (was : Option ℕ) → nat_eq v w ≡ false → lines_turned (lock_turned w) was (if b then [] else lines.Locked v l.stamp l.operation ∷ []) ≡ was
far_new v w true l was e = refl
far_new v w false l was e = if_here v w false (Some l.stamp) was e

far_gone : (v w : ℕ) (b : Bool) (was : Option ℕ) → nat_eq v w ≡ false → lines_turned (lock_turned w) was (if b then lines.Recovered v ∷ lines.Unlocked v ∷ [] else lines.Unlocked v ∷ []) ≡ was
far_gone v w true was e = if_here v w false None was e
far_gone v w false was e = if_here v w false None was e

far_locks : (v w : ℕ) (before after : Option Lock) (was : Option ℕ) → nat_eq v w ≡ false → lines_turned (lock_turned w) was (lock_told v before after) ≡ was
far_locks v w None (Some l) was e = if_here v w false (Some l.stamp) was e
far_locks v w (Some k) (Some l) was e = far_new v w (nat_eq k.stamp l.stamp) l was e
far_locks v w (Some k) None was e = far_gone v w k.forced was e
far_locks v w None None was e = refl

-- lines of locks tell no site
new_sites : (v w : ℕ) (b : Bool) (l : Lock) (was : Option Node) → lines_turned (site_turned w) was (if b then [] else lines.Locked v l.stamp l.operation ∷ []) ≡ was
new_sites v w true l was = refl
new_sites v w false l was = refl

gone_sites : (v w : ℕ) (b : Bool) (was : Option Node) → lines_turned (site_turned w) was (if b then lines.Recovered v ∷ lines.Unlocked v ∷ [] else lines.Unlocked v ∷ []) ≡ was
gone_sites v w true was = refl
gone_sites v w false was = refl

lock_sites : (v w : ℕ) (before after : Option Lock) (was : Option Node) → lines_turned (site_turned w) was (lock_told v before after) ≡ was
lock_sites v w None (Some l) was = refl
lock_sites v w (Some k) (Some l) was = new_sites v w (nat_eq k.stamp l.stamp) l was
lock_sites v w (Some k) None was = gone_sites v w k.forced was
lock_sites v w None None was = refl

-- lines of sites tell no lock
site_locks_by : (v w i : ℕ) (b : Bool) (was : Option ℕ) → lines_turned (lock_turned w) was (if b then [] else lines.Located v (Server i) ∷ []) ≡ was
site_locks_by v w i true was = refl
site_locks_by v w i false was = refl

site_locks : (v w : ℕ) (before after : Option ℕ) (was : Option ℕ) → lines_turned (lock_turned w) was (located_lines v before after) ≡ was
site_locks v w before None was = refl
site_locks v w before (Some i) was = site_locks_by v w i (same_site before (Some i)) was

-- the site of the volume itself
same_is : (before : Option ℕ) (i : ℕ) → same_site before (Some i) ≡ true → home_by before ≡ Some (Server i)
same_is None i e = absurd cc
same_is (Some a) i e = ap (λ (n : ℕ). Some (Server n)) (eqb-true a i e)

own_by : (v i : ℕ) (before : Option ℕ) (b : Bool) (was : Option Node) → same_site before (Some i) ≡ b → ((server : Node) → home_by before ≡ Some server → was ≡ Some server) → lines_turned (site_turned v) was (if b then [] else lines.Located v (Server i) ∷ []) ≡ Some (Server i)
own_by v i before true was e w = w (Server i) (same_is before i e)
own_by v i before false was e w = if_here v v true (Some (Server i)) was (eq-eqb v v refl)

own_sites : (v : ℕ) (before after : Option ℕ) (was : Option Node) → ((server : Node) → home_by before ≡ Some server → was ≡ Some server) → (server : Node) → home_by after ≡ Some server → lines_turned (site_turned v) was (located_lines v before after) ≡ Some server
own_sites v before None was w server e = absurd cc
own_sites v before (Some i) was w server e = own_by v i before (same_site before (Some i)) was refl w ∙ e

far_by : (v w i : ℕ) (b : Bool) (was : Option Node) → nat_eq v w ≡ false → lines_turned (site_turned w) was (if b then [] else lines.Located v (Server i) ∷ []) ≡ was
far_by v w i true was e = refl
far_by v w i false was e = if_here v w false (Some (Server i)) was e

far_sites : (v w : ℕ) (before after : Option ℕ) (was : Option Node) → nat_eq v w ≡ false → lines_turned (site_turned w) was (located_lines v before after) ≡ was
far_sites v w before None was e = refl
far_sites v w before (Some i) was e = far_by v w i (same_site before (Some i)) was e

-- ---- records

before_stamp : (o : Option Listed) → stamp_in o ≡ stamp_by (lock_before o)
before_stamp None = refl
before_stamp (Some l) = refl

before_home : (o : Option Listed) → home_listed o ≡ home_by (site_before o)
before_home None = refl
before_home (Some l) = refl

set_locks : (l : Listed) (t : Table Listed) (w : ℕ) (b : Bool) → nat_eq l.entry.read_write w ≡ b → lines_turned (lock_turned w) (stamp_in (get w t)) (set_told l (get l.entry.read_write t)) ≡ stamp_in (cond b (Some l) (get w t))
set_locks l t w true e =
    let v : ℕ = l.entry.read_write in
    let o : Option Listed = get v t in
    let same : v ≡ w = eqb-true v w e in
    subst (λ (n : ℕ). lines_turned (lock_turned n) (stamp_in (get n t)) (set_told l o) ≡ stamp_in (Some l)) same
    (turned_on (lock_turned v) (stamp_in o) (lock_told v (lock_before o) l.lock) (located_lines v (site_before o) (site_of l.entry))
    ∙ (site_locks v v (site_before o) (site_of l.entry) _
    ∙ (ap (λ (x : Option ℕ). lines_turned (lock_turned v) x (lock_told v (lock_before o) l.lock)) (before_stamp o) ∙ own_locks v (lock_before o) l.lock)))
set_locks l t w false e =
    let v : ℕ = l.entry.read_write in
    let o : Option Listed = get v t in
    turned_on (lock_turned w) (stamp_in (get w t)) (lock_told v (lock_before o) l.lock) (located_lines v (site_before o) (site_of l.entry))
    ∙ (site_locks v w (site_before o) (site_of l.entry) _ ∙ far_locks v w (lock_before o) l.lock (stamp_in (get w t)) e)

set_sites : (l : Listed) (t : Table Listed) (w : ℕ) (b : Bool) (was : Option Node) → nat_eq l.entry.read_write w ≡ b → ((server : Node) → home_listed (get w t) ≡ Some server → was ≡ Some server) → (server : Node) → home_listed (cond b (Some l) (get w t)) ≡ Some server →
    lines_turned (site_turned w) was (set_told l (get l.entry.read_write t)) ≡ Some server
set_sites l t w true was e h server is =
    let v : ℕ = l.entry.read_write in
    let o : Option Listed = get v t in
    let same : v ≡ w = eqb-true v w e in
    subst (λ (n : ℕ). lines_turned (site_turned n) was (set_told l o) ≡ Some server) same
    (turned_on (site_turned v) was (lock_told v (lock_before o) l.lock) (located_lines v (site_before o) (site_of l.entry))
    ∙ (ap (λ (x : Option Node). lines_turned (site_turned v) x (located_lines v (site_before o) (site_of l.entry))) (lock_sites v v (lock_before o) l.lock was)
    ∙ own_sites v (site_before o) (site_of l.entry) was (λ n z. h n (ap (λ (k : ℕ). home_listed (get k t)) (sym same) ∙ (before_home o ∙ z))) server is))
set_sites l t w false was e h server is =
    let v : ℕ = l.entry.read_write in
    let o : Option Listed = get v t in
    turned_on (site_turned w) was (lock_told v (lock_before o) l.lock) (located_lines v (site_before o) (site_of l.entry))
    ∙ (ap (λ (x : Option Node). lines_turned (site_turned w) x (located_lines v (site_before o) (site_of l.entry))) (lock_sites v w (lock_before o) l.lock was)
    ∙ (far_sites v w (site_before o) (site_of l.entry) was e ∙ h server is))

gone_by : (v w : ℕ) (t : Table Listed) (b : Bool) → nat_eq v w ≡ b → lines_turned (lock_turned w) (stamp_in (get w t)) (lines.Unlocked v ∷ []) ≡ stamp_in (cond b None (get w t))
gone_by v w t true e = if_here v w true None (stamp_in (get w t)) e
gone_by v w t false e = if_here v w false None (stamp_in (get w t)) e

left_by : (b : Bool) (o : Option Listed) (was : Option Node) → ((server : Node) → home_listed o ≡ Some server → was ≡ Some server) → (server : Node) → home_listed (cond b None o) ≡ Some server → was ≡ Some server
left_by true o was h server e = absurd cc
left_by false o was h server e = h server e

pub deed_tells : (deed : EntryDeed) (t : Table Listed) → Tells t (entries_after deed t) (deed_told deed t)
deed_tells (sets l) t = record {
  locks = λ w. set_locks l t w (nat_eq l.entry.read_write w) refl ∙ ap stamp_in (sym (get_set w l.entry.read_write l t));
  sites = λ w was h server e. set_sites l t w (nat_eq l.entry.read_write w) was refl h server (ap home_listed (sym (get_set w l.entry.read_write l t)) ∙ e);
}
deed_tells (removes x) t = record {
  locks = λ w. gone_by x.read_write w t (nat_eq x.read_write w) refl ∙ ap stamp_in (sym (get_unset w x.read_write t));
  sites = λ w was h server e. left_by (nat_eq x.read_write w) (get w t) was h server (ap home_listed (sym (get_unset w x.read_write t)) ∙ e);
}
deed_tells leaves t = record { locks = λ w. refl; sites = λ w was h server e. h server e }

-- ---- steps

abbrev pub entries_of : LocState → Table Listed
entries_of s = s.lasting.entries

told_tells : (s : LocState) (d : LocDecision) → Tells (entries_of s) (entries_of (loc_left s d)) (loc_told s d)
told_tells s (saves head c) = deed_tells c.deed s.lasting.entries
told_tells s drops = record { locks = λ w. refl; sites = λ w was h server e. h server e }
told_tells s (tells_boot head) = record { locks = λ w. refl; sites = λ w was h server e. h server e }
told_tells s (repeats reply) = record { locks = λ w. refl; sites = λ w was h server e. h server e }
told_tells s (refuses head code) = record { locks = λ w. refl; sites = λ w was h server e. h server e }
told_tells s (shows head reply) = record { locks = λ w. refl; sites = λ w was h server e. h server e }

given_mute : (place : ℕ) → IsMute (lines.Given place ∷ [])
given_mute place = record { locks = λ v was. refl; sites = λ v was. refl }

fall_mute : (place : ℕ) (stops : Bool) → IsMute (lines.Given place ∷ fall_line Loc stops ∷ [])
fall_mute place true = record { locks = λ v was. refl; sites = λ v was. refl }
fall_mute place false = record { locks = λ v was. refl; sites = λ v was. refl }

serve_by : (h : LocHost) (clock place : ℕ) (m : Message) (o : Option Blow) → Tells (entries_of h.state) (entries_of (served_by loc_kind h clock place m o).host.state) (served_by loc_kind h clock place m o).lines
unfolding loc_row
serve_by h clock place m None = then_tells (entries_of h.state) (entries_of h.state) _ (lines.Given place ∷ []) _ (mute_tells (entries_of h.state) (lines.Given place ∷ []) (given_mute place)) (told_tells h.state (loc_decides h.state (Whole m)))
serve_by h clock place m (Some b) = mute_tells (entries_of h.state) _ (fall_mute place b.stops)

pub serve_tells : (h : LocHost) (clock place : ℕ) (luck : Luck) (m : Message) → Tells (entries_of h.state) (entries_of (served loc_kind h clock place luck m).host.state) (served loc_kind h clock place luck m).lines
serve_tells h clock place luck m = serve_by h clock place m (struck h.armed luck (loc_kind.device_calls h.state clock (Whole m)))

pub crash_tells : (h : LocHost) → Tells (entries_of h.state) (entries_of (crashed loc_kind h).host.state) (crashed loc_kind h).lines
crash_tells h = mute_tells (entries_of h.state) (lines.Crash Loc ∷ []) (record { locks = λ v was. refl; sites = λ v was. refl })

pub stop_tells : (h : LocHost) (calls pick : ℕ) → Tells (entries_of h.state) (entries_of (set_to_stop loc_kind h calls pick).host.state) (set_to_stop loc_kind h calls pick).lines
stop_tells h calls pick = mute_tells (entries_of h.state) (lines.Stop Loc calls pick ∷ []) (record { locks = λ v was. refl; sites = λ v was. refl })

pub fail_tells : (h : LocHost) (call : ℕ) → Tells (entries_of h.state) (entries_of (set_to_fail loc_kind h call).host.state) (set_to_fail loc_kind h call).lines
fail_tells h call = mute_tells (entries_of h.state) (lines.Fail Loc call ∷ []) (record { locks = λ v was. refl; sites = λ v was. refl })

-- ---- a restart tells first what the interrupted step did

abbrev BeginsTelling : Table Listed → Begun LocState → Type 0
BeginsTelling a f = (ls : List Line) → IsMute ls → Tells a (entries_of f.state) (f.before ls)

rests : (s : LocState) → BeginsTelling (entries_of s) (record { state = s; before = λ ls. ls })
rests s ls h = mute_tells (entries_of s) ls h

after_tells : (s : LocState) (d : LocDecision) → BeginsTelling (entries_of s) (loc_begun_after s d)
after_tells s (saves head c) ls h = then_tells (entries_of s) (entries_after c.deed s.lasting.entries) (entries_after c.deed s.lasting.entries) (deed_told c.deed s.lasting.entries) ls (deed_tells c.deed s.lasting.entries) (mute_tells (entries_after c.deed s.lasting.entries) ls h)
after_tells s drops ls h = mute_tells (entries_of s) ls h
after_tells s (tells_boot head) ls h = mute_tells (entries_of s) ls h
after_tells s (repeats reply) ls h = mute_tells (entries_of s) ls h
after_tells s (refuses head code) ls h = mute_tells (entries_of s) ls h
after_tells s (shows head reply) ls h = mute_tells (entries_of s) ls h

begun_tells : (s : LocState) (after : Bool) (fall : Fall) → BeginsTelling (entries_of s) (begun_from loc_kind s after fall)
begun_tells s after at_rest = rests s
begun_tells s false (in_step m clock b) = rests s
begun_tells s true (in_step m clock b) = after_tells s (loc_decides s (Whole m))
begun_tells s false in_boot = rests s
begun_tells s true in_boot = λ ls h. mute_tells (entries_of s) ls h

ends_tell : (h : LocHost) (clock count : ℕ) (f : Begun LocState) (fall : Fall) (o : Outcome) → BeginsTelling (entries_of h.state) f → Tells (entries_of h.state) (entries_of (ends loc_kind h clock count f fall o).host.state) (ends loc_kind h clock count f fall o).lines
unfolding loc_start_row
ends_tell h clock count f fall comes_up b = b (lines.Restart Loc (f.state.lasting.boot + 1) ∷ []) (record { locks = λ v was. refl; sites = λ v was. refl })
ends_tell h clock count f fall fails_early b = mute_tells (entries_of h.state) (lines.Fault Loc ∷ []) (record { locks = λ v was. refl; sites = λ v was. refl })
ends_tell h clock count f fall fails_midway b = b (lines.Fault Loc ∷ []) (record { locks = λ v was. refl; sites = λ v was. refl })
ends_tell h clock count f fall is_full b = b (lines.Full Loc ∷ []) (record { locks = λ v was. refl; sites = λ v was. refl })

pub restart_tells : (h : LocHost) (clock count : ℕ) (after : Bool) (o : Outcome) (fall : Fall) → Tells (entries_of h.state) (entries_of (restarted loc_kind h clock count after o fall).host.state) (restarted loc_kind h clock count after o fall).lines
restart_tells h clock count after o fall = ends_tell h clock count (begun_from loc_kind h.state after fall) fall (without_boot_record (loc_kind.can_start (begun_from loc_kind h.state after fall).state) o) (begun_tells h.state after fall)
