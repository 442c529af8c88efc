-- What each server holds of its volumes is what the lines tell, however many servers a cell has.
use Rattle.spec_model.specs.Calls.{key_of}
use Rattle.law_legal.proofs.DatabaseLines.{is_of_loc}
use Rattle.spec_history.specs.declared.lines.Line.{Line}
use Rattle.spec_history.specs.declared.lines.Line.TheVariants as lines
use Rattle.spec_history.specs.declared.scripts.Script.{Script}
use Rattle.spec_history.specs.declared.scripts.VolumeLine.{VolumeLine}
use Rattle.spec_ideal.specs.Operations.{changes, op, the_user, volume_called}
use Rattle.spec_ideal.specs.SetUp.{first_volume}
use Rattle.spec_ideal.specs.Tables.{Table, get, set}
use Rattle.spec_ideal.specs.Told.{Agrees}
use Rattle.spec_ideal.specs.Volumes.{Edit, Volume, counted, edited_all, versions_by}
use Rattle.law_legal.proofs.ActLines.{Acts, is_of, who_at}
use Rattle.law_legal.proofs.ActSteps.{begins_acts, falls_acts, given_acts, rises_acts, waits_acts, missed_acts}
use Rattle.law_legal.proofs.OwedPasses.{all_lines}
use Rattle.law_legal.proofs.BaseLaws.{ByClient, IfCall, OfCall, at_more, at_put, both, by_client, each_at, same_node-refl}
use Rattle.law_legal.proofs.ServerChooses.{AreLeft, IfCut, Saves, Works, disk_works, is_from, risen_from, risen_lines, serves_works, starts_works, times_works, wakes_works}
use Rattle.law_legal.proofs.VolumeEdits.{Grow, Sound, SoundIn, Told, agrees_of, counted_sound, edits_told, fid_at, get-set, not_touched, on_top, sound_same, untouched}
use Rattle.law_legal.proofs.BaseWords.{AreFine, IsOne}
use Rattle.law_legal.proofs.ServerDiskKeeps.{first_in, volume_put}
use Rattle.law_legal.proofs.CallKeysOnce.{IsKnown, any_told, by_key, server_number}
use Rattle.law_legal.proofs.RunSetUp.{FirstFacts, any_home, first_facts, found_there, ideal_first}
use Rattle.law_legal.proofs.RunWalk.{Behind, EachMove, IsKept, each_moved, run_keeps}
use Rattle.law_legal.proofs.VolumeNames.{fine_after}
use Rattle.law_legal.proofs.ActCallsInRuns.{KnownAsked, asked_first, asked_kept, sought_acts_in}
use Rattle.law_legal.proofs.ActCalls.{of_client, handed_same}
use Rattle.law_legal.proofs.ServerSaves.{ideal_by, onto_versioned, volume_test}
use Rattle.law_legal.specs.Ideal.{IsAccepted, applied, applied_by, brought, call_under, change_key, changed_under, IsPutAt, last_version, set_up_entry, versions_in, volume_after}
use Rattle.law_legal.specs.Laws.{VolumesAreTold}
use Rattle.law_legal.specs.Once.{past_of}
use Rattle.law_legal.specs.Past.{lines_of, onto, sent_of}
use Rattle.afs_num.specs.Nodes.{same_node}
use Rattle.afs_num.specs.declared.calls.FsCall.{FsCall}
use Rattle.afs_num.specs.declared.histories.Actor.TheVariants as actors
use Rattle.afs_num.specs.declared.histories.Version.{Version}
use Rattle.afs_num.specs.declared.messages.Call.TheVariants as ask
use Rattle.afs_num.specs.declared.messages.Carried.{Carried}
use Rattle.afs_num.specs.declared.messages.Carried.TheVariants as carried
use Rattle.afs_num.specs.declared.messages.Message.{Message}
use Rattle.afs_num.specs.declared.messages.Received.TheVariants.{Whole}
use Rattle.afs_num.specs.declared.types.Fid.{Fid}
use Rattle.afs_num.specs.declared.types.Head.{Head}
use Rattle.afs_num.specs.declared.types.Key.{Key}
use Rattle.afs_num.specs.declared.types.Node.{Node}
use Rattle.afs_num.specs.declared.types.Node.TheVariants.{Client, Server}
use Rattle.spec_records.specs.Durable.{Stored}
use Rattle.spec_rows.specs.Callbacks.{put}
use Rattle.law_legal.proofs.RunSteps.{blow_line, server_moves, server_stays}
use Rattle.spec_rows.specs.Runs.{Blow, Armed, Cell, Entry, Fall, RunsTo, at_rest, begun_by_disk, counts_later, first_host, first_volumes, in_boot, in_step, message_at, placed_at, start, unarmed, unless_there, first_volumes_at, ServerHost}
use Rattle.spec_rows.specs.Going.{ClientState}
use Rattle.spec_rows.specs.ServerRow.{Change, stored_by, versioned}
use Rattle.spec_rows.specs.ServerSteps.{back_timeout_row, server_row, start_row, wake_row}
use Rattle.spec_rows.specs.States.{ServerState, volume_in}
use Rattle.spec_rows.specs.Steps.{Step, Begun}
use Rattle.std.proofs.Common.{◌≡◌, ℕ, ◌⊎◌, inl, inr, Bool, true, false, cond, eqb, eqb-true, eq-eqb, nat_eq, length, List, [], ◌∷◌, ◌++◌, Option, Some, None, refl, sym, ap, subst, ◌∙◌}
use Rattle.std.specs.Option.{option_map}
use Rattle.std.specs.Prelude.{is_some}
use Rattle.law_legal.proofs.OwedLoadBreaks.{onto_both}
use Rattle.law_legal.proofs.ServerStepsCut.{same_cut}

-- ---- lines that tell no change and no version

abbrev pub is_blank : Line → Bool
is_blank (lines.Change s k count) = false
is_blank (lines.Version v) = false
is_blank l = true

abbrev pub AreBlank : List Line → Type 0
AreBlank ls = all_lines is_blank ls ≡ true

pub blank_by : (q : Line → Bool) → ((l : Line) → q l ≡ true → is_blank l ≡ true) → (ls : List Line) → all_lines q ls ≡ true → AreBlank ls
blank_by q w [] h = refl
blank_by q w (l ∷ ls) h = let b = both (q l) (all_lines q ls) h in rw (w l b.0, blank_by q w ls b.1) refl

of_loc_blank : (l : Line) → is_of_loc l ≡ true → is_blank l ≡ true
of_loc_blank (lines.Change s k count) h = absurd cc
of_loc_blank (lines.Version v) h = absurd cc
of_loc_blank l h = refl

pub loc_blank : (ls : List Line) → all_lines is_of_loc ls ≡ true → AreBlank ls
loc_blank ls h = blank_by is_of_loc of_loc_blank ls h

pub of_blank : (j : ℕ) (l : Line) → is_of j l ≡ true → is_blank l ≡ true
of_blank j (lines.Change s k count) h = absurd cc
of_blank j (lines.Version v) h = absurd cc
of_blank j l h = refl

pub from_blank : (me : Node) (l : Line) → is_from me l ≡ true → is_blank l ≡ true
from_blank me (lines.Change s k count) h = absurd cc
from_blank me (lines.Version v) h = absurd cc
from_blank me l h = refl

last_line : (f : Fid) (l : Line) (o : List Line) → is_blank l ≡ true → last_version f (l ∷ o) ≡ last_version f o
last_line f (lines.Change s k count) o h = refl
last_line f (lines.Version v) o h = absurd cc
last_line f l o h = refl

pub blank_last : (f : Fid) (ls o : List Line) → AreBlank ls → last_version f (onto o ls) ≡ last_version f o
blank_last f [] o h = refl
blank_last f (l ∷ ls) o h = let q = both (is_blank l) (all_lines is_blank ls) h in blank_last f ls (l ∷ o) q.1 ∙ last_line f l o q.0

key_line : (l : Line) (ls : List Line) → is_blank l ≡ true → change_key (l ∷ ls) ≡ change_key ls
key_line (lines.Change s k count) ls h = absurd cc
key_line l ls h = refl

pub blank_key : (ls more : List Line) → AreBlank ls → change_key (ls ++ more) ≡ change_key more
blank_key [] more h = refl
blank_key (l ∷ ls) more h = let q = both (is_blank l) (all_lines is_blank ls) h in key_line l (ls ++ more) q.0 ∙ blank_key ls more q.1

pub no_more : (ls : List Line) → (ls ++ []) ≡ ls
no_more [] = refl
no_more (l ∷ ls) = ap (λ (x : List Line). l ∷ x) (no_more ls)

-- the ideal volume after an entry that changes none, or one
plain_after : (id : ℕ) (e : Entry) (past : List Entry) (o : Option Key) → e.volumes ≡ [] → change_key e.lines ≡ o → volume_after id (e ∷ past) ≡ changed_under id o (sent_of past) (volume_after id past)
plain_after id e past o none key =
    ap (λ (t : Table Volume). brought id t (changed_under id (change_key e.lines) (sent_of past) (volume_after id past))) none
    ∙ ap (λ (k : Option Key). changed_under id k (sent_of past) (volume_after id past)) key

blank_after : (id : ℕ) (e : Entry) (past : List Entry) → e.volumes ≡ [] → AreBlank e.lines → volume_after id (e ∷ past) ≡ volume_after id past
blank_after id e past none blank = plain_after id e past None none (ap change_key (sym (no_more e.lines)) ∙ blank_key e.lines [] blank)

-- ---- what holds after every entry

-- it has a place among the messages
abbrev pub IsSent : List Message → Message → Type 0
IsSent sent m = (place : ℕ) × (message_at sent place ≡ Some m)

pub record Volumes (s : Script) (hosts : ℕ → ServerHost) (sent : List Message) (past : List Entry) : Type 0 where
  pub ideal : (i id : ℕ) → IsPutAt id (Server i) s.volumes → volume_in id (hosts i).state.lasting.volumes ≡ volume_after id past
  pub sound : (id : ℕ) → SoundIn id (volume_after id past) (lines_of past)
  pub fine : (i : ℕ) → AreFine (hosts i).state.lasting.volumes
  pub home : (i id : ℕ) (v : Volume) → volume_in id (hosts i).state.lasting.volumes ≡ Some v → IsPutAt id (Server i) s.volumes
  -- the message of an interrupted step was sent
  pub cut : (i : ℕ) (m : Message) (clock : ℕ) (hit : Blow) → (hosts i).down ≡ Some (in_step m clock hit) → IsSent sent m
  -- a volume that is nowhere isn't there
  pub none : (id : ℕ) → ((i : ℕ) → IsPutAt id (Server i) s.volumes → ⊥) → volume_after id past ≡ None

abbrev pub VolumesIn : Script → Cell → List Entry → Type 0
VolumesIn s c past = Volumes s c.hosts c.sent past

sound_on : (id : ℕ) (past : List Entry) (e : Entry) → volume_after id (e ∷ past) ≡ volume_after id past → AreBlank e.lines → SoundIn id (volume_after id past) (lines_of past) → SoundIn id (volume_after id (e ∷ past)) (lines_of (e ∷ past))
sound_on id past e same blank h = subst (λ (o : Option Volume). SoundIn id o (lines_of (e ∷ past))) (sym same) (sound_same id (volume_after id past) (lines_of past) (lines_of (e ∷ past)) (λ n u. blank_last (fid_at id n u) e.lines (lines_of past) blank) h)

abbrev Grows : List Message → List Message → Type 0
Grows sent more = (place : ℕ) (m : Message) → message_at sent place ≡ Some m → message_at more place ≡ Some m

sent_over : (sent more : List Message) → Grows sent more → (m : Message) → IsSent sent m → IsSent more m
sent_over sent more g m x = (x.0, g x.0 m x.1)

-- a step that leaves all hosts
still_volumes : (s : Script) (hosts : ℕ → ServerHost) (sent more : List Message) (past : List Entry) (e : Entry) → Volumes s hosts sent past → Grows sent more → e.volumes ≡ [] → AreBlank e.lines → Volumes s hosts more (e ∷ past)
still_volumes s hosts sent more past e V g none blank = record {
  ideal = λ i id at. V.ideal i id at ∙ sym (blank_after id e past none blank);
  sound = λ id. sound_on id past e (blank_after id e past none blank) blank (V.sound id);
  fine = V.fine;
  home = V.home;
  cut = λ i m clock hit d. sent_over sent more g m (V.cut i m clock hit d);
  none = λ id away. blank_after id e past none blank ∙ V.none id away;
}

-- what is left is what there was
left_same : (a b : Table Stored) → AreFine a → AreLeft a b → (id : ℕ) → volume_in id b ≡ volume_in id a
left_same a b fine left id = left id (λ v e. (fine id v e).stays)

left_fine : (a b : Table Stored) → AreFine a → AreLeft a b → AreFine b
left_fine a b fine left id v e = fine id v (sym (left_same a b fine left id) ∙ e)

-- its host after a step, whose message is this where it is cut short
abbrev pub CutIs : (Message → Type 0) → Option Fall → Type 0
CutIs P d = (m : Message) (clock : ℕ) (hit : Blow) → d ≡ Some (in_step m clock hit) → P m

-- one host's step that changes nothing
quiet_volumes : (s : Script) (hosts : ℕ → ServerHost) (sent more : List Message) (past : List Entry) (e : Entry) (i : ℕ) (h : ServerHost) → Volumes s hosts sent past → Grows sent more → e.volumes ≡ [] → AreBlank e.lines → AreLeft (hosts i).state.lasting.volumes h.state.lasting.volumes → CutIs (IsSent more) h.down
    → Volumes s (put i h hosts) more (e ∷ past)
quiet_volumes s hosts sent more past e i h V g none blank left cut =
    let U : Volumes s hosts more (e ∷ past) = still_volumes s hosts sent more past e V g none blank in
    let same : (id : ℕ) → volume_in id h.state.lasting.volumes ≡ volume_in id (hosts i).state.lasting.volumes = left_same (hosts i).state.lasting.volumes h.state.lasting.volumes (V.fine i) left in
    record {
      ideal = λ j id at. at_put i j (λ (x : ServerHost). volume_in id x.state.lasting.volumes ≡ volume_after id (e ∷ past)) h hosts (λ q. same id ∙ U.ideal i id (subst (λ (k : ℕ). IsPutAt id (Server k) s.volumes) (sym q) at)) (λ other. U.ideal j id at);
      sound = U.sound;
      fine = λ j. at_put i j (λ (x : ServerHost). AreFine x.state.lasting.volumes) h hosts (λ q. left_fine (hosts i).state.lasting.volumes h.state.lasting.volumes (V.fine i) left) (λ other. U.fine j);
      home = λ j id v. at_put i j (λ (x : ServerHost). volume_in id x.state.lasting.volumes ≡ Some v → IsPutAt id (Server j) s.volumes) h hosts (λ q f. subst (λ (k : ℕ). IsPutAt id (Server k) s.volumes) q (V.home i id v (sym (same id) ∙ f))) (λ other. V.home j id v);
      cut = λ j m clock hit. at_put i j (λ (x : ServerHost). x.down ≡ Some (in_step m clock hit) → IsSent more m) h hosts (λ q. cut m clock hit) (λ other. U.cut j m clock hit);
      none = U.none;
    }

-- ---- a volume is at one server

some_by : (t : Bool) (V : Volume) (o : Option Volume) → is_some o ≡ true → is_some (cond t (Some V) o) ≡ true
some_by true V o h = refl
some_by false V o h = h

found_counts : (b : Bool) (v : VolumeLine) (t : Table Volume) (id : ℕ) → is_some (get v.id t) ≡ b → (v.id ≡ id) ⊎ (is_some (get id t) ≡ true) → is_some (get id (unless_there b v.id (first_volume v) t)) ≡ true
found_counts true v t id b (inl e) = subst (λ (n : ℕ). is_some (get n t) ≡ true) e b
found_counts true v t id b (inr x) = x
found_counts false v t id b (inl e) = ap is_some (get-set v.id id (first_volume v) t ∙ ap (λ (c : Bool). cond c (Some (first_volume v)) (get id t)) (eq-eqb v.id id e))
found_counts false v t id b (inr x) = ap is_some (get-set v.id id (first_volume v) t) ∙ some_by (eqb v.id id) (first_volume v) (get id t) x

pub at_counts : (id : ℕ) (q : Node) (vs : List VolumeLine) → IsPutAt id q vs → counts_later id vs ≡ true
at_counts id q [] h = absurd h
at_counts id q (v ∷ vs) (inl x) = found_counts (is_some (get v.id (first_volumes vs))) v (first_volumes vs) id refl (inl x.1.0)
at_counts id q (v ∷ vs) (inr x) = found_counts (is_some (get v.id (first_volumes vs))) v (first_volumes vs) id refl (inr (at_counts id q vs x))

pub not_both : (a b id : ℕ) (vs : List VolumeLine) → counts_later a vs ≡ false → a ≡ id → counts_later id vs ≡ true → ⊥
not_both a b id vs not same there = let z : counts_later a vs ≡ true = ap (λ (n : ℕ). counts_later n vs) same ∙ there in absurd cc

pub one_place : (id : ℕ) (q r : Node) (vs : List VolumeLine) → IsPutAt id q vs → IsPutAt id r vs → q ≡ r
one_place id q r [] h k = absurd h
one_place id q r (v ∷ vs) (inl x) (inl y) = sym x.1.1 ∙ y.1.1
one_place id q r (v ∷ vs) (inl x) (inr y) = absurd (not_both v.id 0 id vs x.0 x.1.0 (at_counts id r vs y))
one_place id q r (v ∷ vs) (inr x) (inl y) = absurd (not_both v.id 0 id vs y.0 y.1.0 (at_counts id q vs x))
one_place id q r (v ∷ vs) (inr x) (inr y) = one_place id q r vs x y

-- ---- one host's step with a change

pub found_volume : (id : ℕ) (t : Table Stored) (st : Stored) → get id t ≡ Some st → volume_in id t ≡ Some st.volume
found_volume id t st e = ap (option_map (λ (x : Stored). x.volume)) e

-- what is known of the calls of clients is known of this one
pub of_this : (P : Head → List ℕ → FsCall → Type 0) (j : ℕ) (head : Head) (x : Carried) (user : List ℕ) (call : FsCall) → head.from ≡ Client j → x ≡ carried.Call user (ask.File call) → OfCall (ByClient P) head x → P head user call
of_this P j head x user call from is h = by_client j head.from (P head user call) from (subst (λ (y : Carried). OfCall (ByClient P) head y) is h)

-- the last versions of the volume's fids
sound_by : (t : Bool) (id other : ℕ) (V : Volume) (o : Option Volume) (vs : List Version) (base new : List Line) → eqb id other ≡ t → Sound id V (on_top vs base) → Grow id vs base → SoundIn other o base → ((f : Fid) → last_version f new ≡ last_version f (on_top vs base)) → SoundIn other (cond t (Some V) o) new
sound_by true id other V o vs base new t now g old same = subst (λ (i : ℕ). SoundIn i (Some V) new) (eqb-true id other t) (sound_same id (Some V) (on_top vs base) new (λ n u. same (fid_at id n u)) now)
sound_by false id other V o vs base new t now g old same =
    sound_same other o base new (λ n u. same (fid_at other n u) ∙ untouched (fid_at other n u) vs base (not_touched (fid_at other n u) id vs base g (λ q. let yes : eqb id other ≡ true = eq-eqb id other (sym q) in absurd cc))) old

found_either : (t : Bool) (id other : ℕ) (V u : Volume) (o : Option Volume) (P : Type 0) → eqb id other ≡ t → (id ≡ other → P) → (o ≡ Some u → P) → cond t (Some V) o ≡ Some u → P
found_either true id other V u o P t a b e = a (eqb-true id other t)
found_either false id other V u o P t a b e = b e

-- what an entry with a change makes of the ideal volumes and of the lines
pub record Changes (id : ℕ) (V : Volume) (past : List Entry) (e : Entry) : Type 0 where
  pub after : (other : ℕ) → volume_after other (e ∷ past) ≡ cond (eqb id other) (Some V) (volume_after other past)
  pub sound : (other : ℕ) → SoundIn other (volume_after other past) (lines_of past) → SoundIn other (volume_after other (e ∷ past)) (lines_of (e ∷ past))

pub changes_all : (past : List Entry) (e : Entry) (me : Node) (k : Key) (user : List ℕ) (call : FsCall) (id : ℕ) (v : Volume) (es : List Edit) (shown : ℕ) (front rest : List Line) → e.volumes ≡ [] → e.lines ≡ front ++ (lines.Change me k (length (versions_by id es v)) ∷ versioned (versions_by id es v) rest) → AreBlank front → AreBlank rest
    → call_under k (sent_of past) ≡ Some (user, call) → volume_called call ≡ Some id → volume_after id past ≡ Some v → op id (the_user user) call v ≡ changes es shown → SoundIn id (volume_after id past) (lines_of past) → Changes id (counted (edited_all id es v)) past e
changes_all past e me k user call id v es shown front rest none split before behind one of at res sound =
    let vs : List Version = versions_by id es v in
    let V : Volume = counted (edited_all id es v) in
    let l : Line = lines.Change me k (length vs) in
    let base : List Line = l ∷ onto (lines_of past) front in
    let on : lines_of (e ∷ past) ≡ onto (on_top vs base) rest = ap (onto (lines_of past)) split ∙ (onto_both (lines_of past) front (l ∷ versioned vs rest) ∙ onto_versioned vs rest base) in
    let last : (f : Fid) → last_version f base ≡ last_version f (lines_of past) = λ f. blank_last f front (lines_of past) before in
    let same : (f : Fid) → last_version f (lines_of (e ∷ past)) ≡ last_version f (on_top vs base) = λ f. ap (last_version f) on ∙ blank_last f rest (on_top vs base) behind in
    let old : Sound id v base = sound_same id (Some v) (lines_of past) base (λ n u. last (fid_at id n u)) (subst (λ (o : Option Volume). SoundIn id o (lines_of past)) at sound) in
    let told : Told id (edited_all id es v) vs base = edits_told id es v base old in
    let key : change_key e.lines ≡ Some k = ap change_key split ∙ blank_key front (l ∷ versioned vs rest) before in
    let after : (other : ℕ) → volume_after other (e ∷ past) ≡ cond (eqb id other) (Some V) (volume_after other past) = λ other.
    plain_after other e past (Some k) none key
    ∙ (ap (λ (o : Option (List ℕ × FsCall)). applied other o (volume_after other past)) one
    ∙ (ap (λ (t : Bool). applied_by t other user call (volume_after other past)) (volume_test id other (volume_called call) of)
    ∙ sym (ideal_by (eqb id other) id other user call v es shown (volume_after other past) (volume_after other past) refl res (λ q. subst (λ (i : ℕ). volume_after i past ≡ Some v) q at) refl))) in
    record {
      after = after;
      sound = λ other h. subst (λ (o : Option Volume). SoundIn other o (lines_of (e ∷ past))) (sym (after other))
          (sound_by (eqb id other) id other V (volume_after other past) vs base (lines_of (e ∷ past)) refl (counted_sound id (edited_all id es v) (on_top vs base) told.sound) told.grow (sound_same other (volume_after other past) (lines_of past) base (λ n u. last (fid_at other n u)) h) same);
    }

not_here : (t : Bool) (a b : ℕ) → eqb a b ≡ t → (a ≡ b → ⊥) → t ≡ false
not_here true a b e ne = absurd (ne (eqb-true a b e))
not_here false a b e ne = refl

other_after : (t : Bool) (V : Volume) (o : Option Volume) → t ≡ false → cond t (Some V) o ≡ o
other_after true V o e = absurd cc
other_after false V o e = refl

-- the call is the one under its key
abbrev pub IsCalled : List Message → Message → List Line → List Line → Type 0
IsCalled sent m front rest = IfCall (IsOne sent) m

-- what is known of the volumes where a server saves
pub record Saved (past : List Entry) (user : List ℕ) (call : FsCall) (id : ℕ) (v : Volume) (k : Key) : Type 0 where
  pub at : volume_after id past ≡ Some v
  pub one : call_under k (sent_of past) ≡ Some (user, call)

pub saved_at : (s : Script) (hosts : ℕ → ServerHost) (sent : List Message) (past : List Entry) (i : ℕ) (b : Table Stored) (ls : List Line) → Volumes s hosts sent past → sent_of past ≡ sent → (S : Saves (IsCalled sent) (Server i) (hosts i).state b ls)
    → Saved past S.chosen.user S.chosen.call S.change.id S.change.before.volume (key_of S.head)
saved_at s hosts sent past i b ls V told S =
    let c : Change = S.change in
    let found : volume_in c.id (hosts i).state.lasting.volumes ≡ Some c.before.volume = found_volume c.id (hosts i).state.lasting.volumes c.before S.chosen.found in
    record {
      at = sym (V.ideal i c.id (V.home i c.id c.before.volume found)) ∙ found;
      one = ap (call_under (key_of S.head)) told ∙ (ap (λ (h : Head). call_under (key_of h) sent) S.chosen.head' ∙ of_this (IsOne sent) S.chosen.client S.message.head S.message.carried S.chosen.user S.chosen.call S.chosen.from S.chosen.carries S.given);
    }

saves_volumes : (s : Script) (hosts : ℕ → ServerHost) (sent more : List Message) (past : List Entry) (e : Entry) (i : ℕ) (h : ServerHost) → Volumes s hosts sent past → sent_of past ≡ sent → Grows sent more → e.volumes ≡ [] → Saves (IsCalled sent) (Server i) (hosts i).state h.state.lasting.volumes e.lines → CutIs (IsSent more) h.down
    → Volumes s (put i h hosts) more (e ∷ past)
saves_volumes s hosts sent more past e i h V told g none S cut =
    let c : Change = S.change in
    let v : Volume = c.before.volume in
    let N : Volume = counted (edited_all c.id c.edits v) in
    let a : Table Stored = (hosts i).state.lasting.volumes in
    let z : Table Stored = set c.id (stored_by S.clock c) a in
    let b : Table Stored = h.state.lasting.volumes in
    let found : volume_in c.id a ≡ Some v = found_volume c.id a c.before S.chosen.found in
    let home : IsPutAt c.id (Server i) s.volumes = V.home i c.id v found in
    let d : Saved past S.chosen.user S.chosen.call c.id v (key_of S.head) = saved_at s hosts sent past i b e.lines V told S in
    let q : Changes c.id N past e = changes_all past e (Server i) (key_of S.head) S.chosen.user S.chosen.call c.id v c.edits c.shown S.front S.rest none S.split (blank_by (is_from (Server i)) (from_blank (Server i)) S.front S.before) (blank_by (is_from (Server i)) (from_blank (Server i)) S.rest S.behind) d.one S.chosen.of_volume d.at S.chosen.result (V.sound c.id) in
    let fine : AreFine z = fine_after c.id (the_user S.chosen.user) S.chosen.call v c.edits c.shown a (stored_by S.clock c) refl (V.fine i) S.chosen.of_volume found S.chosen.result in
    let now : (id : ℕ) → volume_in id b ≡ cond (eqb c.id id) (Some N) (volume_in id a) = λ id. left_same z b fine S.left id ∙ volume_put c.id id (stored_by S.clock c) N a refl in
    record {
      ideal = λ j id at. at_put i j (λ (x : ServerHost). volume_in id x.state.lasting.volumes ≡ volume_after id (e ∷ past)) h hosts
          (λ same. now id ∙ (ap (λ (o : Option Volume). cond (eqb c.id id) (Some N) o) (V.ideal i id (subst (λ (k : ℕ). IsPutAt id (Server k) s.volumes) (sym same) at)) ∙ sym (q.after id)))
          (λ other. V.ideal j id at ∙ sym (q.after id ∙ other_after (eqb c.id id) N (volume_after id past) (not_here (eqb c.id id) c.id id refl (λ is. other (server_number i j (one_place id (Server i) (Server j) s.volumes (subst (λ (n : ℕ). IsPutAt n (Server i) s.volumes) is home) at))))));
      sound = λ id. q.sound id (V.sound id);
      fine = λ j. at_put i j (λ (x : ServerHost). AreFine x.state.lasting.volumes) h hosts (λ same. left_fine z b fine S.left) (λ other. V.fine j);
      home = λ j id u. at_put i j (λ (x : ServerHost). volume_in id x.state.lasting.volumes ≡ Some u → IsPutAt id (Server j) s.volumes) h hosts
          (λ same f. subst (λ (k : ℕ). IsPutAt id (Server k) s.volumes) same (found_either (eqb c.id id) c.id id N u (volume_in id a) (IsPutAt id (Server i) s.volumes) refl (λ is. subst (λ (n : ℕ). IsPutAt n (Server i) s.volumes) is home) (V.home i id u) (sym (now id) ∙ f)))
          (λ other. V.home j id u);
      cut = λ j m clock hit. at_put i j (λ (x : ServerHost). x.down ≡ Some (in_step m clock hit) → IsSent more m) h hosts (λ same. cut m clock hit) (λ other p. sent_over sent more g m (V.cut j m clock hit p));
      none = λ id away. q.after id ∙ (other_after (eqb c.id id) N (volume_after id past) (not_here (eqb c.id id) c.id id refl (λ is. away i (subst (λ (n : ℕ). IsPutAt n (Server i) s.volumes) is home))) ∙ V.none id away);
    }

works_volumes : (s : Script) (hosts : ℕ → ServerHost) (sent more : List Message) (past : List Entry) (e : Entry) (i : ℕ) (h : ServerHost) → Volumes s hosts sent past → sent_of past ≡ sent → Grows sent more → e.volumes ≡ [] → Works (IsCalled sent) (Server i) (hosts i).state h.state.lasting.volumes e.lines → CutIs (IsSent more) h.down
    → Volumes s (put i h hosts) more (e ∷ past)
works_volumes s hosts sent more past e i h V told g none (inl w) cut = quiet_volumes s hosts sent more past e i h V g none (blank_by (is_from (Server i)) (from_blank (Server i)) e.lines w.lines) w.left cut
works_volumes s hosts sent more past e i h V told g none (inr w) cut = saves_volumes s hosts sent more past e i h V told g none w cut

-- ---- every step

abbrev pub Held : Script → Cell → List Entry → Type 0
Held s c past = KnownAsked s c past × VolumesIn s c past

pub cut_by : (P : Message → Type 0) (d : Option Fall) (fall : Fall) → d ≡ Some fall → CutIs P d → IfCut P fall
cut_by P d at_rest e w = tt
cut_by P d (in_step m clock hit) e w = w m clock hit e
cut_by P d in_boot e w = tt

pub own_from : (i : ℕ) → same_node (Server i) (Server i) ≡ true
own_from i = same_node-refl (Server i)

no_cut : (P : Message → Type 0) (d : Option Fall) → d ≡ None → CutIs P d
no_cut P d e m clock hit f = let z : None ≡ Some (in_step m clock hit) = sym e ∙ f in absurd cc

-- a client's lines
acts_volumes : (s : Script) (c : Cell) (past : List Entry) (n : ℕ) (st : Step ClientState) → VolumesIn s c past → Acts n (who_at (c.clients n)) (c.clients n).gifts st → Volumes s c.hosts (c.sent ++ st.sent) (of_client n st ∷ past)
acts_volumes s c past n st V a = still_volumes s c.hosts c.sent (c.sent ++ st.sent) past (of_client n st) V (λ place m e. at_more c.sent st.sent place m e) refl (blank_by (is_of n) (of_blank n) st.lines a.of)

same_grows : (sent : List Message) → Grows sent sent
same_grows sent place m e = e

-- a server's step that is done, and one that leaves its state
done_volumes : (s : Script) (c : Cell) (past : List Entry) (i : ℕ) (armed : Armed) (st : Step ServerState) → Held s c past → Works (IsCalled c.sent) (Server i) (c.hosts i).state st.state.lasting.volumes st.lines → Behind (VolumesIn s) c past (server_moves c i armed st)
done_volumes s c past i armed st h w = works_volumes s c.hosts c.sent (c.sent ++ st.sent) past (server_moves c i armed st).entry i (record { state = st.state; down = None; armed = armed }) h.1 h.0.0.hears.told (λ place m e. at_more c.sent st.sent place m e) refl w (no_cut (IsSent (c.sent ++ st.sent)) None refl)

falls_volumes : (s : Script) (c : Cell) (past : List Entry) (i : ℕ) (d : Option Fall) (armed : Armed) (ls : List Line) → Held s c past → AreBlank ls → CutIs (IsSent c.sent) d → Volumes s (put i (record (c.hosts i) { down = d; armed = armed }) c.hosts) c.sent (record { actor = actors.Node (Server i); lines = ls; sent = []; volumes = [] } ∷ past)
falls_volumes s c past i d armed ls h blank cut = quiet_volumes s c.hosts c.sent c.sent past (record { actor = actors.Node (Server i); lines = ls; sent = []; volumes = [] }) i (record (c.hosts i) { down = d; armed = armed }) h.1 (same_grows c.sent) refl blank (λ id w. refl) cut

pub cut_call : (s : Script) (c : Cell) (past : List Entry) (i : ℕ) → Held s c past → CutIs (IfCall (IsOne c.sent)) (c.hosts i).down
cut_call s c past i h m clock hit e = let q : IsSent c.sent m = h.1.cut i m clock hit e in each_at (IfCall (IsOne c.sent)) c.sent q.0 m q.1 h.0.1.ones

stays_volumes : (s : Script) (c : Cell) (past : List Entry) (i : ℕ) (after : Bool) (fall now : Fall) (l : Line) → Held s c past → (c.hosts i).down ≡ Some fall → is_from (Server i) l ≡ true → CutIs (IsSent c.sent) (Some now)
    → Behind (VolumesIn s) c past (server_stays c i (begun_by_disk (Server i) (c.hosts i).state after fall) l now)
stays_volumes s c past i after fall now l h down from cut =
    let f : Begun ServerState = begun_by_disk (Server i) (c.hosts i).state after fall in
    works_volumes s c.hosts c.sent c.sent past (server_stays c i f l now).entry i (record { state = f.state; down = Some now; armed = unarmed }) h.1 h.0.0.hears.told (same_grows c.sent) refl (disk_works (IsCalled c.sent) (Server i) (c.hosts i).state after fall (l ∷ []) (cut_by (IfCall (IsOne c.sent)) (c.hosts i).down fall down (cut_call s c past i h)) (rw from refl)) cut

pub blow_blank : (i place : ℕ) (t : Bool) → AreBlank (lines.Given place ∷ blow_line i t ∷ [])
blow_blank i place true = refl
blow_blank i place false = refl

pub volumes_moves : (s : Script) → EachMove (Held s) (Behind (VolumesIn s))
volumes_moves s = record {
  void = λ c past h. still_volumes s c.hosts c.sent c.sent past _ h.1 (same_grows c.sent) refl refl;
  ticked = λ c past n h. still_volumes s c.hosts c.sent c.sent past _ h.1 (same_grows c.sent) refl refl;
  begun = λ c past n act h r z. acts_volumes s c past n _ h.1 (begins_acts n (c.clients n) c.clock act r z);
  told = λ c past n place m h at to un. acts_volumes s c past n _ h.1 (given_acts (by_key (IsKnown h.0.0.keys.callees c.clients)) any_told n (c.clients n) c.clock place m (h.0.0.keys.replies n) (h.0.1.seats n));
  sought = λ c past n place m k h at to z e. acts_volumes s c past n _ h.1 (sought_acts_in s c past n place m k h.0.1 at z e);
  missed = λ c past n k h r z. acts_volumes s c past n _ h.1 (missed_acts n (c.clients n) k r z);
  waited = λ c past n act h r. acts_volumes s c past n _ h.1 (waits_acts n (c.clients n) act r);
  fallen = λ c past n h. acts_volumes s c past n _ h.1 (falls_acts n c.handed (c.clients n) (handed_same s c past (h.0.1) n));
  risen = λ c past n h. acts_volumes s c past n _ h.1 (rises_acts n (c.clients n));
  loc = λ c past l ls ms h st. still_volumes s c.hosts c.sent (c.sent ++ ms) past _ h.1 (λ place m at. at_more c.sent ms place m at) refl (loc_blank ls st.lines);
  served = λ c past i place m armed h up at to. done_volumes s c past i armed (server_row (Server i) (c.hosts i).state c.clock place (Whole m)) h (serves_works (IsCalled c.sent) (Server i) (c.hosts i).state c.clock place m (λ rest. each_at (IfCall (IsOne c.sent)) c.sent place m at h.0.1.ones));
  cut = λ c past i place m t h up at to. falls_volumes s c past i (Some (in_step m c.clock t)) unarmed _ h (blow_blank i place t.stops) (λ k clock hit e. (place, subst (λ (y : Message). message_at c.sent place ≡ Some y) (same_cut m k c.clock clock t hit e) at));
  stopped = λ c past i h up. falls_volumes s c past i (Some at_rest) unarmed _ h refl (λ m clock hit e. absurd cc);
  stop_set = λ c past i calls pick armed h up. falls_volumes s c past i (c.hosts i).down armed _ h refl (h.1.cut i);
  fail_set = λ c past i call armed h up. falls_volumes s c past i (c.hosts i).down armed _ h refl (h.1.cut i);
  timed = λ c past i n b armed h up at. done_volumes s c past i armed (back_timeout_row (Server i) (c.hosts i).state c.clock n b) h (times_works (IsCalled c.sent) (Server i) (c.hosts i).state c.clock n b);
  woken = λ c past i armed h up. done_volumes s c past i armed (wake_row (Server i) (c.hosts i).state c.clock) h (wakes_works (IsCalled c.sent) (Server i) (c.hosts i).state c.clock);
  started = λ c past i after fall h down. done_volumes s c past i unarmed (start_row (Server i) c.clock c.count (begun_by_disk (Server i) (c.hosts i).state after fall)) h
      (starts_works (IsCalled c.sent) (Server i) (c.hosts i).state c.clock c.count (begun_by_disk (Server i) (c.hosts i).state after fall) (disk_works (IsCalled c.sent) (Server i) (c.hosts i).state after fall (risen_lines (Server i) c.clock c.count (begun_by_disk (Server i) (c.hosts i).state after fall)) (cut_by (IfCall (IsOne c.sent)) (c.hosts i).down fall down (cut_call s c past i h)) (risen_from (Server i) c.clock c.count (begun_by_disk (Server i) (c.hosts i).state after fall))));
  early = λ c past i fall h down. falls_volumes s c past i (Some fall) unarmed _ h refl (λ m clock hit e. h.1.cut i m clock hit (down ∙ e));
  midway = λ c past i after fall h down. stays_volumes s c past i after fall in_boot (lines.Fault (Server i)) h down (own_from i) (λ m clock hit e. absurd cc);
  full = λ c past i after fall h down. stays_volumes s c past i after fall at_rest (lines.Full (Server i)) h down (own_from i) (λ m clock hit e. absurd cc);
}

pub held_kept : (s : Script) → IsKept (Held s)
held_kept s c past x so h = (asked_kept s c past x so h.0, each_moved (Held s) (Behind (VolumesIn s)) (volumes_moves s) c past x so h)

-- ---- the set-up

first_by : (b here t : Bool) (V : Volume) (v : VolumeLine) (id i : ℕ) (vs : List VolumeLine) (o p : Option Volume) → counts_later v.id vs ≡ b → nat_eq v.server i ≡ here → eqb v.id id ≡ t → IsPutAt id (Server i) (v ∷ vs) → (IsPutAt id (Server i) vs → o ≡ p)
    → cond b o (cond here (cond t (Some V) o) o) ≡ cond b p (cond t (Some V) p)
first_by true here t V v id i vs o p b e q (inl x) w = let not : false ≡ true = sym x.0 ∙ b in absurd cc
first_by true here t V v id i vs o p b e q (inr x) w = w x
first_by false true true V v id i vs o p b e q at w = refl
first_by false true false V v id i vs o p b e q (inl x) w = let yes : eqb v.id id ≡ true = eq-eqb v.id id x.1.0 in absurd cc
first_by false true false V v id i vs o p b e q (inr x) w = w x
first_by false false true V v id i vs o p b e q (inl x) w = let yes : nat_eq v.server i ≡ true = eq-eqb v.server i (server_number v.server i x.1.1) in absurd cc
first_by false false true V v id i vs o p b e q (inr x) w = absurd (not_both v.id 0 id vs b (eqb-true v.id id q) (at_counts id (Server i) vs x))
first_by false false false V v id i vs o p b e q (inl x) w = let yes : eqb v.id id ≡ true = eq-eqb v.id id x.1.0 in absurd cc
first_by false false false V v id i vs o p b e q (inr x) w = w x

got_placed : (b here : Bool) (id n : ℕ) (V : Volume) (t : Table Volume) → get id (placed_at b here n V t) ≡ cond b (get id t) (cond here (cond (eqb n id) (Some V) (get id t)) (get id t))
got_placed true here id n V t = refl
got_placed false true id n V t = get-set n id V t
got_placed false false id n V t = refl

got_there : (b : Bool) (id n : ℕ) (V : Volume) (t : Table Volume) → get id (unless_there b n V t) ≡ cond b (get id t) (cond (eqb n id) (Some V) (get id t))
got_there true id n V t = refl
got_there false id n V t = get-set n id V t

first_at : (i id : ℕ) (vs : List VolumeLine) → IsPutAt id (Server i) vs → get id (first_volumes_at i vs) ≡ get id (first_volumes vs)
first_at i id [] at = absurd at
first_at i id (v ∷ vs) at =
    got_placed (counts_later v.id vs) (nat_eq v.server i) id v.id (first_volume v) (first_volumes_at i vs)
    ∙ (first_by (counts_later v.id vs) (nat_eq v.server i) (eqb v.id id) (first_volume v) v id i vs (get id (first_volumes_at i vs)) (get id (first_volumes vs)) refl refl refl at (first_at i id vs)
    ∙ sym (got_there (counts_later v.id vs) id v.id (first_volume v) (first_volumes vs)))

placed_by : (b here t : Bool) (V u : Volume) (v : VolumeLine) (id i : ℕ) (vs : List VolumeLine) (o : Option Volume) → counts_later v.id vs ≡ b → nat_eq v.server i ≡ here → eqb v.id id ≡ t → (o ≡ Some u → IsPutAt id (Server i) vs) → cond b o (cond here (cond t (Some V) o) o) ≡ Some u → IsPutAt id (Server i) (v ∷ vs)
placed_by true here t V u v id i vs o b e q w f = inr (w f)
placed_by false true true V u v id i vs o b e q w f = inl (b, (eqb-true v.id id q, ap Server (eqb-true v.server i e)))
placed_by false true false V u v id i vs o b e q w f = inr (w f)
placed_by false false t V u v id i vs o b e q w f = inr (w f)

placed_there : (i id : ℕ) (u : Volume) (vs : List VolumeLine) → get id (first_volumes_at i vs) ≡ Some u → IsPutAt id (Server i) vs
placed_there i id u [] e = absurd cc
placed_there i id u (v ∷ vs) e =
    placed_by (counts_later v.id vs) (nat_eq v.server i) (eqb v.id id) (first_volume v) u v id i vs (get id (first_volumes_at i vs)) refl refl refl (placed_there i id u vs) (sym (got_placed (counts_later v.id vs) (nat_eq v.server i) id v.id (first_volume v) (first_volumes_at i vs)) ∙ e)

somewhere : (id : ℕ) (u : Volume) (vs : List VolumeLine) → get id (first_volumes vs) ≡ Some u → (i : ℕ) × IsPutAt id (Server i) vs
somewhere id u [] e = absurd cc
somewhere id u (v ∷ vs) e = elim (found_there (is_some (get v.id (first_volumes vs))) v (first_volumes vs) id u ((i : ℕ) × IsPutAt id (Server i) vs) (somewhere id u vs) e) [
  | inl y ↦ (v.server, inl (y.0, (y.1, refl)))
  | inr y ↦ (y.0, inr y.1)
]

nowhere_by : (id : ℕ) (o : Option Volume) (vs : List VolumeLine) → get id (first_volumes vs) ≡ o → ((i : ℕ) → IsPutAt id (Server i) vs → ⊥) → o ≡ None
nowhere_by id None vs e away = refl
nowhere_by id (Some u) vs e away = let x = somewhere id u vs e in absurd (away x.0 x.1)

nowhere : (id : ℕ) (vs : List VolumeLine) → ((i : ℕ) → IsPutAt id (Server i) vs → ⊥) → get id (first_volumes vs) ≡ None
nowhere id vs away = nowhere_by id (get id (first_volumes vs)) vs refl away

pub volumes_first : (s : Script) → VolumesIn s (start s) (set_up_entry s ∷ [])
volumes_first s =
    let facts : FirstFacts (first_volumes s.volumes) (lines_of (set_up_entry s ∷ [])) = first_facts s.volumes in
    let at : (i id : ℕ) (v : Volume) → volume_in id (first_host s i).state.lasting.volumes ≡ Some v → IsPutAt id (Server i) s.volumes = λ i id v e. placed_there i id v s.volumes (sym (first_in id (first_volumes_at i s.volumes)) ∙ e) in
    record {
      ideal = λ i id is. first_in id (first_volumes_at i s.volumes) ∙ (first_at i id s.volumes is ∙ ideal_first s id);
      sound = λ id. subst (λ (o : Option Volume). SoundIn id o (lines_of (set_up_entry s ∷ []))) (ideal_first s id) (facts.sound id);
      fine = λ i id v e. facts.fine id v (sym (first_at i id s.volumes (at i id v e)) ∙ (sym (first_in id (first_volumes_at i s.volumes)) ∙ e));
      home = at;
      cut = λ i m clock hit e. absurd cc;
      none = λ id away. sym (ideal_first s id) ∙ nowhere id s.volumes away;
    }

pub held_at : (s : Script) (h : List Entry) (end : Cell) → RunsTo h s end → Held s end (past_of (set_up_entry s ∷ []) h)
held_at s h end r = run_keeps (Held s) (held_kept s) r.inputs s (set_up_entry s ∷ []) h end (asked_first s, volumes_first s) r.leads

-- ---- the law

run_told : (s : Script) (h : List Entry) (end : Cell) → RunsTo h s end → VolumesIn s end (past_of (set_up_entry s ∷ []) h)
run_told s h end r = (held_at s h end r).1

pub at_home : (s : Script) (id : ℕ) (q : Node) (ls : List Line) → IsAccepted s id q ls → IsPutAt id q s.volumes
at_home s id q [] h = h
at_home s id q (l ∷ ls) h = at_home s id q ls h

agreed : (id : ℕ) (o : Option Volume) (ls : List Line) (v : Volume) → o ≡ Some v → SoundIn id o ls → Agrees id v (versions_in ls)
agreed id o ls v e h = agrees_of id v ls (subst (λ (p : Option Volume). SoundIn id p ls) e h)

pub run_volumes : VolumesAreTold
run_volumes s h end r =
    let past : List Entry = past_of (set_up_entry s ∷ []) h in
    let V : VolumesIn s end past = run_told s h end r in
    record {
      servers = λ i. record {
        held = λ id at. record { ideal = V.ideal i id (at_home s id (Server i) (lines_of past) at); told = λ v e. agreed id (volume_after id past) (lines_of past) v e (V.sound id) };
        alone = λ id v e. any_home s id (Server i) (lines_of past) (V.home i id v e);
      };
      nowhere = λ id away. V.none id (λ i at. away (Server i) (any_home s id (Server i) (lines_of past) at));
    }
