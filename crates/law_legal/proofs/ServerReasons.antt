-- Why a server decides as it does on a client's call: by what it holds of its volumes, of however many servers the cell has.
use Rattle.spec_ideal.specs.Operations.{Caller, Found, Result, Shown, changes, no_operation, op, reads, refused, shows_acl, shows_body, shows_status, shows_statuses, shows_volume, the_user, volume_called}
use Rattle.spec_ideal.specs.Tables.{get}
use Rattle.spec_ideal.specs.Volumes.{Volume, a_directory, vnode_of}
use Rattle.law_legal.proofs.BaseLaws.{OfCall, same_node-true, some_of, not_loc}
use Rattle.law_legal.proofs.BaseWords.{is_passing}
use Rattle.law_legal.proofs.VolumeOperations.{IsFoundAs, IsShown, changes_is, op_code, op_is, reads_is, rights_of_directory}
use Rattle.law_legal.proofs.ServerFinds.{IsAmong, IsTime}
use Rattle.law_legal.specs.Breaks.{IsNamedIn, fids_given_up}
use Rattle.law_legal.specs.Ideal.{volume_after}
use Rattle.law_legal.specs.Legal.{IsChanging, IsPromisedBy, all_on, ideal_answer, answer_on, code_given, op_on, statuses_on}
use Rattle.spec_model.specs.Calls as pairs
use Rattle.spec_model.specs.Calls.{Admitted, admitted}
use Rattle.afs_num.specs.Nodes.{same_node}
use Rattle.afs_num.specs.declared.calls.FsCall.{FsCall}
use Rattle.afs_num.specs.declared.calls.FsCall.TheVariants as calls
use Rattle.afs_num.specs.declared.messages.Call.TheVariants as ask
use Rattle.afs_num.specs.declared.messages.Carried.{Carried}
use Rattle.afs_num.specs.declared.messages.Carried.TheVariants as carried
use Rattle.afs_num.specs.declared.messages.Message.{Message}
use Rattle.afs_num.specs.declared.messages.Received.TheVariants.{Whole}
use Rattle.afs_num.specs.declared.types.Fid.{Fid}
use Rattle.afs_num.specs.declared.types.Head.{Head}
use Rattle.afs_num.specs.declared.types.Node.{Node}
use Rattle.afs_num.specs.declared.types.Node.TheVariants.{Client, Loc}
use Rattle.spec_records.specs.Durable.{Stored, has_room}
use Rattle.spec_rows.specs.Runs.{Entry}
use Rattle.spec_rows.specs.ServerRow.{Change, Decision, Reading, Sight, admits, decided, decides, drops, given_up_read, hears, in_volume, is_client, no_room, no_volume, not_served, reading_in, record_of, refuses, repeats, saves, serves_call, several, shows, sight_by, sight_in, sights, statuses_read, tells_boot, whole, with_volume}
use Rattle.spec_shape.specs.Reading.{◌>>=◌}
use Rattle.spec_rows.specs.States.{ServerState, durable_of, volume_in}
use Rattle.std.proofs.Common.{◌≡◌, ℕ, ◌⊎◌, inl, inr, Bool, true, false, cond, List, [], ◌∷◌, map, Option, Some, None, ℤ, pos, refl, sym, ap, subst, ◌∙◌}
use Rattle.std.specs.Option.{option_map}
use Rattle.std.specs.Prelude as outcome
use Rattle.std.specs.Prelude.{⊤, Ok, Err}

-- ---- what the ideal operation makes of a call, by these volumes

abbrev pub answer_by : (ℕ → Option Volume) → List ℕ → FsCall → Option ℕ → Option Result
answer_by V user call None = None
answer_by V user call (Some id) = Some (op_on id (the_user user) call (V id))

abbrev pub statuses_by : (ℕ → Option Volume) → Caller → List Fid → Result
statuses_by V caller [] = no_operation
statuses_by V caller (f ∷ fs) = all_on (op_on f.volume caller (calls.FetchStatus f) (V f.volume)) (statuses_by V caller fs)

abbrev pub answers_in : (ℕ → Option Volume) → List ℕ → FsCall → Option Result
answers_in V user (calls.GiveUpCallBacks fids callbacks) = Some no_operation
answers_in V user calls.GetTime = Some no_operation
answers_in V user (calls.BulkStatus fids) = Some (statuses_by V (the_user user) fids)
answers_in V user call = answer_by V user call (volume_called call)

statuses_after : (past : List Entry) (caller : Caller) (fs : List Fid) → statuses_by (λ id. volume_after id past) caller fs ≡ statuses_on caller fs past
statuses_after past caller [] = refl
statuses_after past caller (f ∷ fs) = ap (all_on (op_on f.volume caller (calls.FetchStatus f) (volume_after f.volume past))) (statuses_after past caller fs)

after_by : (past : List Entry) (user : List ℕ) (call : FsCall) (o : Option ℕ) → answer_by (λ id. volume_after id past) user call o ≡ answer_on user call o past
after_by past user call None = refl
after_by past user call (Some id) = refl

pub answers_after : (past : List Entry) (user : List ℕ) (call : FsCall) → answers_in (λ id. volume_after id past) user call ≡ ideal_answer user call past
answers_after past user (calls.GiveUpCallBacks fids callbacks) = refl
answers_after past user calls.GetTime = refl
answers_after past user (calls.BulkStatus fids) = ap Some (statuses_after past (the_user user) fids)
answers_after past user call = after_by past user call (volume_called call)

-- the volumes that a call asks
abbrev pub IsOneOf : ℕ → List Fid → Type 0
IsOneOf id [] = ⊥
IsOneOf id (f ∷ fs) = (f.volume ≡ id) ⊎ IsOneOf id fs

abbrev pub IsAsked : FsCall → ℕ → Type 0
IsAsked (calls.GiveUpCallBacks fids callbacks) id = ⊥
IsAsked calls.GetTime id = ⊥
IsAsked (calls.BulkStatus fids) id = IsOneOf id fids
IsAsked call id = volume_called call ≡ Some id

by_same : (V W : ℕ → Option Volume) (user : List ℕ) (call : FsCall) (o : Option ℕ) → ((id : ℕ) → o ≡ Some id → V id ≡ W id) → answer_by V user call o ≡ answer_by W user call o
by_same V W user call None w = refl
by_same V W user call (Some id) w = ap (λ (v : Option Volume). Some (op_on id (the_user user) call v)) (w id refl)

statuses_same : (V W : ℕ → Option Volume) (caller : Caller) (fs : List Fid) → ((id : ℕ) → IsOneOf id fs → V id ≡ W id) → statuses_by V caller fs ≡ statuses_by W caller fs
statuses_same V W caller [] w = refl
statuses_same V W caller (f ∷ fs) w =
    ap (λ (v : Option Volume). all_on (op_on f.volume caller (calls.FetchStatus f) v) (statuses_by V caller fs)) (w f.volume (inl refl))
    ∙ ap (all_on (op_on f.volume caller (calls.FetchStatus f) (W f.volume))) (statuses_same V W caller fs (λ id x. w id (inr x)))

pub answers_same : (V W : ℕ → Option Volume) (user : List ℕ) (call : FsCall) → ((id : ℕ) → IsAsked call id → V id ≡ W id) → answers_in V user call ≡ answers_in W user call
answers_same V W user (calls.GiveUpCallBacks fids callbacks) w = refl
answers_same V W user calls.GetTime w = refl
answers_same V W user (calls.BulkStatus fids) w = ap Some (statuses_same V W (the_user user) fids w)
answers_same V W user call w = by_same V W user call (volume_called call) w

-- ---- what a reading call is told

-- a vnode, as it was found in a volume
pub record IsSeen (V : ℕ → Option Volume) (f : Fid) (st : Stored) (x : Found) : Type 0 where
  pub fid : f ≡ x.fid
  pub at : V x.fid.volume ≡ Some st.volume
  pub found : vnode_of x.fid st.volume ≡ Some x.vnode

-- what is read of one
pub record IsLook (V : ℕ → Option Volume) (f : Fid) (show : Found → Shown) (r : Reading) : Type 0 where
  pub stored : Stored
  pub found : Found
  pub seen : IsSeen V f stored found
  pub caller : Caller
  pub is : r ≡ reading_in f.volume caller stored (show found)

-- rights are read of a directory
pub record IsRights (V : ℕ → Option Volume) (f : Fid) (r : Reading) : Type 0 where
  pub look : IsLook V f shows_acl r
  pub kind : look.found.vnode.kind ≡ a_directory

pub record IsOfVolume (V : ℕ → Option Volume) (id : ℕ) (r : Reading) : Type 0 where
  pub stored : Stored
  pub at : V id ≡ Some stored.volume
  pub caller : Caller
  pub is : r ≡ reading_in id caller stored shows_volume

abbrev pub AllSeen : (ℕ → Option Volume) → List Fid → List Sight → Type 0
AllSeen V [] [] = ⊤
AllSeen V (f ∷ fs) (x ∷ xs) = IsSeen V f x.stored x.found × AllSeen V fs xs
AllSeen V fs xs = ⊥

pub record AreLooked (V : ℕ → Option Volume) (fs : List Fid) (r : Reading) : Type 0 where
  pub sights : List Sight
  pub seen : AllSeen V fs sights
  pub caller : Caller
  pub is : r ≡ statuses_read caller sights

-- what a reading call is told is what it asks for
abbrev pub IsRead : (ℕ → Option Volume) → FsCall → Reading → Type 0
IsRead V (calls.FetchData f position wanted) r = IsLook V f shows_body r
IsRead V (calls.FetchAcl f) r = IsRights V f r
IsRead V (calls.FetchStatus f) r = IsLook V f shows_status r
IsRead V (calls.GetVolumeStatus id) r = IsOfVolume V id r
IsRead V (calls.GiveUpCallBacks fids callbacks) r = r ≡ given_up_read fids
IsRead V calls.GetTime r = IsTime r
IsRead V (calls.BulkStatus fids) r = AreLooked V fids r
IsRead V call r = ⊥

-- ---- where all volumes of the one are those of the other

abbrev pub AreAmong : (ℕ → Option Volume) → (ℕ → Option Volume) → Type 0
AreAmong V W = (id : ℕ) (v : Volume) → V id ≡ Some v → W id ≡ Some v

seen_to : (V W : ℕ → Option Volume) (f : Fid) (st : Stored) (x : Found) → AreAmong V W → IsSeen V f st x → IsSeen W f st x
seen_to V W f st x w h = record { fid = h.fid; at = w x.fid.volume st.volume h.at; found = h.found }

abbrev look_to : (V W : ℕ → Option Volume) (f : Fid) (show : Found → Shown) (r : Reading) → AreAmong V W → IsLook V f show r → IsLook W f show r
look_to V W f show r w h = record { stored = h.stored; found = h.found; seen = seen_to V W f h.stored h.found w h.seen; caller = h.caller; is = h.is }

all_to : (V W : ℕ → Option Volume) (fs : List Fid) (xs : List Sight) → AreAmong V W → AllSeen V fs xs → AllSeen W fs xs
all_to V W [] [] w h = tt
all_to V W [] (x ∷ xs) w h = absurd h
all_to V W (f ∷ fs) [] w h = absurd h
all_to V W (f ∷ fs) (x ∷ xs) w h = (seen_to V W f x.stored x.found w h.0, all_to V W fs xs w h.1)

pub read_to : (V W : ℕ → Option Volume) (call : FsCall) (r : Reading) → AreAmong V W → IsRead V call r → IsRead W call r
read_to V W (calls.FetchData g p n) r w h = look_to V W g shows_body r w h
read_to V W (calls.FetchAcl g) r w h = record { look = look_to V W g shows_acl r w h.look; kind = h.kind }
read_to V W (calls.FetchStatus g) r w h = look_to V W g shows_status r w h
read_to V W (calls.GetVolumeStatus id) r w h = record { stored = h.stored; at = w id h.stored.volume h.at; caller = h.caller; is = h.is }
read_to V W (calls.GiveUpCallBacks fids callbacks) r w h = h
read_to V W calls.GetTime r w h = h
read_to V W (calls.BulkStatus fids) r w h = record { sights = h.sights; seen = all_to V W fids h.sights w h.seen; caller = h.caller; is = h.is }
read_to V W call r w h = absurd h

-- they agree on what was read
there_same : (V W : ℕ → Option Volume) (id k : ℕ) (v : Volume) → AreAmong V W → V k ≡ Some v → k ≡ id → V id ≡ W id
there_same V W id k v w at e = subst (λ (n : ℕ). V n ≡ W n) e (at ∙ sym (w k v at))

seen_same : (V W : ℕ → Option Volume) (f : Fid) (st : Stored) (x : Found) (id : ℕ) → AreAmong V W → IsSeen V f st x → f.volume ≡ id → V id ≡ W id
seen_same V W f st x id w h e = there_same V W id x.fid.volume st.volume w h.at (ap (λ (g : Fid). g.volume) (sym h.fid) ∙ e)

all_same : (V W : ℕ → Option Volume) (fs : List Fid) (xs : List Sight) (id : ℕ) → AreAmong V W → AllSeen V fs xs → IsOneOf id fs → V id ≡ W id
all_same V W [] xs id w h x = absurd x
all_same V W (f ∷ fs) [] id w h x = absurd h
all_same V W (f ∷ fs) (y ∷ ys) id w h (inl e) = seen_same V W f y.stored y.found id w h.0 e
all_same V W (f ∷ fs) (y ∷ ys) id w h (inr z) = all_same V W fs ys id w h.1 z

pub read_same : (V W : ℕ → Option Volume) (call : FsCall) (r : Reading) (id : ℕ) → AreAmong V W → IsRead V call r → IsAsked call id → V id ≡ W id
read_same V W (calls.FetchData g p n) r id w h x = seen_same V W g h.stored h.found id w h.seen (some_of g.volume id x)
read_same V W (calls.FetchAcl g) r id w h x = seen_same V W g h.look.stored h.look.found id w h.look.seen (some_of g.volume id x)
read_same V W (calls.FetchStatus g) r id w h x = seen_same V W g h.stored h.found id w h.seen (some_of g.volume id x)
read_same V W (calls.GetVolumeStatus k) r id w h x = there_same V W id k h.stored.volume w h.at (some_of k id x)
read_same V W (calls.GiveUpCallBacks fids callbacks) r id w h x = absurd x
read_same V W calls.GetTime r id w h x = absurd x
read_same V W (calls.BulkStatus fids) r id w h x = all_same V W fids h.sights id w h.seen x
read_same V W call r id w h x = absurd h

-- ---- what is promised with it

pub record IsThere (V : ℕ → Option Volume) (f : Found) : Type 0 where
  pub stored : Stored
  pub at : V f.fid.volume ≡ Some stored.volume
  pub found : vnode_of f.fid stored.volume ≡ Some f.vnode

seen_there : (V : ℕ → Option Volume) (g : Fid) (st : Stored) (x f : Found) → IsSeen V g st x → x ≡ f → (g ≡ f.fid) × IsThere V f
seen_there V g st x f h e = (
  h.fid ∙ ap (λ (z : Found). z.fid) e,
  record { stored = st; at = subst (λ (z : Found). V z.fid.volume ≡ Some st.volume) e h.at; found = subst (λ (z : Found). vnode_of z.fid st.volume ≡ Some z.vnode) e h.found },
)

look_there : (V : ℕ → Option Volume) (g : Fid) (st : Stored) (x f : Found) → IsSeen V g st x → IsAmong f (x ∷ []) → (g ≡ f.fid) × IsThere V f
look_there V g st x f h (inl e) = seen_there V g st x f h e
look_there V g st x f h (inr none) = absurd none

all_there : (V : ℕ → Option Volume) (fids : List Fid) (xs : List Sight) (f : Found) → AllSeen V fids xs → IsAmong f (map (λ (x : Sight). x.found) xs) → IsNamedIn f.fid fids × IsThere V f
all_there V [] [] f h none = absurd none
all_there V [] (x ∷ xs) f h z = absurd h
all_there V (g ∷ fids) [] f h none = absurd none
all_there V (g ∷ fids) (x ∷ xs) f h (inl e) = let y = seen_there V g x.stored x.found f h.0 e in (inl y.0, y.1)
all_there V (g ∷ fids) (x ∷ xs) f h (inr z) = let y = all_there V fids xs f h.1 z in (inr y.0, y.1)

-- it is what was asked for
pub read_there : (V : ℕ → Option Volume) (call : FsCall) (r : Reading) (o : Option Result) (past : List Entry) (f : Found) → IsRead V call r → IsAmong f r.granted → IsPromisedBy f.fid call o past × IsThere V f
read_there V (calls.FetchData g p w) r o past f x z = look_there V g x.stored x.found f x.seen (subst (λ (y : Reading). IsAmong f y.granted) x.is z)
read_there V (calls.FetchAcl g) r o past f x z = absurd (subst (λ (y : Reading). IsAmong f y.granted) x.look.is z)
read_there V (calls.FetchStatus g) r o past f x z = look_there V g x.stored x.found f x.seen (subst (λ (y : Reading). IsAmong f y.granted) x.is z)
read_there V (calls.GetVolumeStatus k) r o past f x z = absurd (subst (λ (y : Reading). IsAmong f y.granted) x.is z)
read_there V (calls.GiveUpCallBacks fids callbacks) r o past f x z = absurd (subst (λ (y : Reading). IsAmong f y.granted) x z)
read_there V calls.GetTime r o past f x z = absurd (subst (λ (y : Reading). IsAmong f y.granted) x.is z)
read_there V (calls.BulkStatus fids) r o past f x z = all_there V fids x.sights f x.seen (subst (λ (y : Reading). IsAmong f y.granted) x.is z)
read_there V call r o past f x z = absurd x

-- the fids of which promises end are those that the call gives up
pub gives_up_as : (V : ℕ → Option Volume) (call : FsCall) (r : Reading) → IsRead V call r → r.given_up ≡ fids_given_up call
gives_up_as V (calls.FetchData g p w) r x = ap (λ (y : Reading). y.given_up) x.is
gives_up_as V (calls.FetchAcl g) r x = ap (λ (y : Reading). y.given_up) x.look.is
gives_up_as V (calls.FetchStatus g) r x = ap (λ (y : Reading). y.given_up) x.is
gives_up_as V (calls.GetVolumeStatus k) r x = ap (λ (y : Reading). y.given_up) x.is
gives_up_as V (calls.GiveUpCallBacks fids callbacks) r x = ap (λ (y : Reading). y.given_up) x
gives_up_as V calls.GetTime r x = ap (λ (y : Reading). y.given_up) x.is
gives_up_as V (calls.BulkStatus fids) r x = ap (λ (y : Reading). y.given_up) x.is
gives_up_as V call r x = absurd x

-- ---- reasons

-- a refusal has the operation's code, and that changes nothing; or the operation makes a change for which there is no room
pub record IsNo (V : ℕ → Option Volume) (user : List ℕ) (call : FsCall) (code : ℤ) : Type 0 where
  pub some : is_passing code ≡ false
  pub why : ((code_given (answers_in V user call) ≡ code) × (IsChanging (answers_in V user call) → ⊥)) ⊎ ((code ≡ no_room) × IsChanging (answers_in V user call))

pub record IsReading (V : ℕ → Option Volume) (user : List ℕ) (call : FsCall) (r : Reading) : Type 0 where
  pub is : IsRead V call r
  pub code : code_given (answers_in V user call) ≡ pos 0
  pub still : IsChanging (answers_in V user call) → ⊥

pub record IsMaking (V : ℕ → Option Volume) (user : List ℕ) (call : FsCall) (c : Change) : Type 0 where
  pub of_volume : volume_called call ≡ Some c.id
  pub at : V c.id ≡ Some c.before.volume
  pub result : op c.id (the_user user) call c.before.volume ≡ changes c.edits c.shown
  pub caller : c.caller ≡ the_user user
  pub called : c.call ≡ call

abbrev pub Reason : (ℕ → Option Volume) → Head → List ℕ → FsCall → Decision → Type 0
Reason V h user call (refuses head code) = (head ≡ h) × IsNo V user call code
Reason V h user call (shows head r) = (head ≡ h) × IsReading V user call r
Reason V h user call (saves head c) = (head ≡ h) × IsMaking V user call c
Reason V h user call d = ⊥

-- the volumes of a server
abbrev pub held_by : ServerState → ℕ → Option Volume
held_by x id = volume_in id x.lasting.volumes

pub held_at : (x : ServerState) (id : ℕ) (st : Stored) → get id x.lasting.volumes ≡ Some st → held_by x id ≡ Some st.volume
held_at x id st at = ap (option_map (λ (y : Stored). y.volume)) at

pub answer_of : (V : ℕ → Option Volume) (user : List ℕ) (call : FsCall) (id : ℕ) (o : Option Volume) → volume_called call ≡ Some id → V id ≡ o → answers_in V user call ≡ Some (op_on id (the_user user) call o)
answer_of V user (calls.GiveUpCallBacks fids callbacks) id o of at = absurd cc
answer_of V user calls.GetTime id o of at = absurd cc
answer_of V user (calls.BulkStatus fids) id o of at = absurd cc
answer_of V user call id o of at = ap (answer_by V user call) of ∙ ap (λ (v : Option Volume). Some (op_on id (the_user user) call v)) at

no_code : (o : Option Result) (code : ℕ) → o ≡ Some (refused code) → (code_given o ≡ pos code) × (IsChanging o → ⊥)
no_code o code e = subst (λ (x : Option Result). (code_given x ≡ pos code) × (IsChanging x → ⊥)) (sym e) (refl, λ z. z)

no_serve : (o : Option Result) → o ≡ None → (code_given o ≡ not_served) × (IsChanging o → ⊥)
no_serve o e = subst (λ (x : Option Result). (code_given x ≡ not_served) × (IsChanging x → ⊥)) (sym e) (refl, λ z. z)

read_code : (o : Option Result) (shown : Shown) → o ≡ Some (reads shown) → (code_given o ≡ pos 0) × (IsChanging o → ⊥)
read_code o shown e = subst (λ (x : Option Result). (code_given x ≡ pos 0) × (IsChanging x → ⊥)) (sym e) (refl, λ z. z)

roomed_reason : (t : Bool) (x : ServerState) (h : Head) (user : List ℕ) (call : FsCall) (c : Change) → IsMaking (held_by x) user call c → Reason (held_by x) h user call (cond t (saves h c) (refuses h no_room))
roomed_reason true x h user call c m = (refl, m)
roomed_reason false x h user call c m = (refl, record { some = refl; why = inr (refl, subst IsChanging (sym (answer_of (held_by x) user call c.id (Some c.before.volume) m.of_volume m.at ∙ ap Some m.result)) tt) })

abbrev looked : (x : ServerState) (caller : Caller) (g : Fid) (id : ℕ) (st : Stored) (f : Found) (show : Found → Shown) → g.volume ≡ id → get id x.lasting.volumes ≡ Some st → IsFoundAs g st.volume f → IsLook (held_by x) g show (reading_in id caller st (show f))
looked x caller g id st f show of at is = record {
  stored = st;
  found = f;
  seen = record { fid = is.0; at = ap (held_by x) (ap (λ (h : Fid). h.volume) (sym is.0) ∙ of) ∙ held_at x id st at; found = subst (λ (h : Fid). vnode_of h st.volume ≡ Some f.vnode) is.0 is.1 };
  caller = caller;
  is = ap (λ (i : ℕ). reading_in i caller st (show f)) (sym of);
}

-- what an operation shows is read
shown_read : (x : ServerState) (caller : Caller) (call : FsCall) (id : ℕ) (st : Stored) (shown : Shown) → volume_called call ≡ Some id → get id x.lasting.volumes ≡ Some st → IsShown call st.volume shown → op id caller call st.volume ≡ reads shown → IsRead (held_by x) call (reading_in id caller st shown)
shown_read x caller (calls.FetchData g p w) id st (shows_body f) of at is done = looked x caller g id st f shows_body (some_of g.volume id of) at is
shown_read x caller (calls.FetchAcl g) id st (shows_acl f) of at is done = record { look = looked x caller g id st f shows_acl (some_of g.volume id of) at is; kind = rights_of_directory id caller g st.volume (shows_acl f) f.vnode done is.1 }
shown_read x caller (calls.FetchStatus g) id st (shows_status f) of at is done = looked x caller g id st f shows_status (some_of g.volume id of) at is
shown_read x caller (calls.GetVolumeStatus k) id st shows_volume of at is done = record { stored = st; at = ap (held_by x) (some_of k id of) ∙ held_at x id st at; caller = caller; is = ap (λ (i : ℕ). reading_in i caller st shows_volume) (sym (some_of k id of)) }
shown_read x caller call id st shown of at is done = absurd is

decided_reason : (x : ServerState) (clock : ℕ) (h : Head) (user : List ℕ) (call : FsCall) (id : ℕ) (st : Stored) (r : Result) → volume_called call ≡ Some id → get id x.lasting.volumes ≡ Some st → op id (the_user user) call st.volume ≡ r → Reason (held_by x) h user call (decided x clock h (the_user user) call id st r)
decided_reason x clock h user call id st (refused code) of at e = (refl, record { some = op_code id (the_user user) call st.volume code of e; why = inl (no_code (answers_in (held_by x) user call) code (answer_of (held_by x) user call id (Some st.volume) of (held_at x id st at) ∙ ap Some e)) })
decided_reason x clock h user call id st (reads shown) of at e =
    let q = read_code (answers_in (held_by x) user call) shown (answer_of (held_by x) user call id (Some st.volume) of (held_at x id st at) ∙ ap Some e) in
    (refl, record { is = shown_read x (the_user user) call id st shown of at (reads_is id (the_user user) call st.volume shown of e) e; code = q.0; still = q.1 })
decided_reason x clock h user call id st no_operation of at e = absurd (op_is id (the_user user) call st.volume of e)
decided_reason x clock h user call id st (changes es n) of at e =
    let c : Change = record { id = id; caller = the_user user; call = call; before = st; edits = es; shown = n } in
    roomed_reason (has_room (durable_of x.lasting) (record_of x.lasting.boot h clock c)) x h user call c (record { of_volume = of; at = held_at x id st at; result = e; caller = refl; called = refl })

in_reason : (x : ServerState) (clock : ℕ) (h : Head) (user : List ℕ) (call : FsCall) (id : ℕ) (o : Option Stored) → volume_called call ≡ Some id → get id x.lasting.volumes ≡ o → Reason (held_by x) h user call (in_volume x clock h (the_user user) call id o)
in_reason x clock h user call id None of at = (refl, record { some = refl; why = inl (no_code (answers_in (held_by x) user call) 103 (answer_of (held_by x) user call id None of (ap (option_map (λ (y : Stored). y.volume)) at))) })
in_reason x clock h user call id (Some st) of at = decided_reason x clock h user call id st (op id (the_user user) call st.volume) of at refl

with_reason : (x : ServerState) (clock : ℕ) (h : Head) (user : List ℕ) (call : FsCall) (o : Option ℕ) → answers_in (held_by x) user call ≡ answer_by (held_by x) user call o → volume_called call ≡ o → Reason (held_by x) h user call (with_volume x clock h (the_user user) call o)
with_reason x clock h user call None answer of = (refl, record { some = refl; why = inl (no_serve (answers_in (held_by x) user call) answer) })
with_reason x clock h user call (Some id) answer of = in_reason x clock h user call id (get id x.lasting.volumes) of refl

-- ---- several statuses

-- what is told of all of them
abbrev said : outcome.Result (List Sight) ℕ → Result
said (Err code) = refused code
said (Ok xs) = no_operation

abbrev more_sights : outcome.Result Sight ℕ → outcome.Result (List Sight) ℕ → outcome.Result (List Sight) ℕ
more_sights o os = o >>= λ x. (os >>= λ xs. Ok (x ∷ xs))

-- where one is looked up the ideal operation tells the same
record OneSight (x : ServerState) (f : Fid) (q : Result) (o : outcome.Result Sight ℕ) : Type 0 where
  said_so : (os : outcome.Result (List Sight) ℕ) → all_on q (said os) ≡ said (more_sights o os)
  seen : (y : Sight) → o ≡ Ok y → IsSeen (held_by x) f y.stored y.found
  some : (code : ℕ) → o ≡ Err code → is_passing (pos code) ≡ false

said_more : (y : Sight) (os : outcome.Result (List Sight) ℕ) → said os ≡ said (more_sights (Ok y) os)
said_more y (Ok xs) = refl
said_more y (Err code) = refl

one_by : (x : ServerState) (caller : Caller) (f : Fid) (st : Stored) (q : Result) → get f.volume x.lasting.volumes ≡ Some st → op f.volume caller (calls.FetchStatus f) st.volume ≡ q → OneSight x f q (sight_by st q)
one_by x caller f st (refused code) at e = record {
  said_so = λ os. refl;
  seen = λ y z. absurd cc;
  some = λ k z. let same : code ≡ k = cc in subst (λ (i : ℕ). is_passing (pos i) ≡ false) same (op_code f.volume caller (calls.FetchStatus f) st.volume code refl e);
}
one_by x caller f st (reads (shows_status g)) at e =
    let is = reads_is f.volume caller (calls.FetchStatus f) st.volume (shows_status g) refl e in
    record {
      said_so = λ os. said_more (record { stored = st; found = g }) os;
      seen = λ y z. let same : record { stored = st; found = g } ≡ y = cc in
          subst (λ (u : Sight). IsSeen (held_by x) f u.stored u.found) same (record { fid = is.0; at = ap (λ (h : Fid). held_by x h.volume) (sym is.0) ∙ held_at x f.volume st at; found = subst (λ (h : Fid). vnode_of h st.volume ≡ Some g.vnode) is.0 is.1 });
      some = λ k z. absurd cc;
    }
one_by x caller f st (reads (shows_body g)) at e = absurd (reads_is f.volume caller (calls.FetchStatus f) st.volume (shows_body g) refl e)
one_by x caller f st (reads (shows_acl g)) at e = absurd (reads_is f.volume caller (calls.FetchStatus f) st.volume (shows_acl g) refl e)
one_by x caller f st (reads (shows_statuses gs)) at e = absurd (reads_is f.volume caller (calls.FetchStatus f) st.volume (shows_statuses gs) refl e)
one_by x caller f st (reads shows_volume) at e = absurd (reads_is f.volume caller (calls.FetchStatus f) st.volume shows_volume refl e)
one_by x caller f st (changes es n) at e = absurd (changes_is f.volume caller (calls.FetchStatus f) st.volume es n refl e refl)
one_by x caller f st no_operation at e = absurd (op_is f.volume caller (calls.FetchStatus f) st.volume refl e)

one_in : (x : ServerState) (caller : Caller) (f : Fid) (o : Option Stored) → get f.volume x.lasting.volumes ≡ o → OneSight x f (op_on f.volume caller (calls.FetchStatus f) (option_map (λ (y : Stored). y.volume) o)) (sight_in caller f o)
one_in x caller f None at = record { said_so = λ os. refl; seen = λ y z. absurd cc; some = λ k z. let same : no_volume ≡ k = cc in subst (λ (i : ℕ). is_passing (pos i) ≡ false) same refl }
one_in x caller f (Some st) at = one_by x caller f st (op f.volume caller (calls.FetchStatus f) st.volume) at refl

one_at : (x : ServerState) (caller : Caller) (f : Fid) → OneSight x f (op_on f.volume caller (calls.FetchStatus f) (held_by x f.volume)) (sight_in caller f (get f.volume x.lasting.volumes))
one_at x caller f = one_in x caller f (get f.volume x.lasting.volumes) refl

all_said : (x : ServerState) (caller : Caller) (fs : List Fid) → statuses_by (held_by x) caller fs ≡ said (sights x.lasting.volumes caller fs)
all_said x caller [] = refl
all_said x caller (f ∷ fs) =
    ap (all_on (op_on f.volume caller (calls.FetchStatus f) (held_by x f.volume))) (all_said x caller fs)
    ∙ (one_at x caller f).said_so (sights x.lasting.volumes caller fs)

-- what is known of all of them, or of the refusal
abbrev AreSights : ServerState → List Fid → outcome.Result (List Sight) ℕ → Type 0
AreSights x fs (Ok xs) = AllSeen (held_by x) fs xs
AreSights x fs (Err code) = is_passing (pos code) ≡ false

more_seen : (x : ServerState) (f : Fid) (fs : List Fid) (o : outcome.Result Sight ℕ) (os : outcome.Result (List Sight) ℕ) → ((y : Sight) → o ≡ Ok y → IsSeen (held_by x) f y.stored y.found) → ((code : ℕ) → o ≡ Err code → is_passing (pos code) ≡ false) → AreSights x fs os → AreSights x (f ∷ fs) (more_sights o os)
more_seen x f fs (Err code) os seen some h = some code refl
more_seen x f fs (Ok y) (Ok ys) seen some h = (seen y refl, h)
more_seen x f fs (Ok y) (Err code) seen some h = h

are_sights : (x : ServerState) (caller : Caller) (fs : List Fid) → AreSights x fs (sights x.lasting.volumes caller fs)
are_sights x caller [] = tt
are_sights x caller (f ∷ fs) =
    let one = one_at x caller f in
    more_seen x f fs (sight_in caller f (get f.volume x.lasting.volumes)) (sights x.lasting.volumes caller fs) one.seen one.some (are_sights x caller fs)

several_reason : (x : ServerState) (h : Head) (user : List ℕ) (fids : List Fid) (o : outcome.Result (List Sight) ℕ) → statuses_by (held_by x) (the_user user) fids ≡ said o → AreSights x fids o → Reason (held_by x) h user (calls.BulkStatus fids) (several h (the_user user) o)
several_reason x h user fids (Err code) e are = (refl, record { some = are; why = inl (no_code (Some (statuses_by (held_by x) (the_user user) fids)) code (ap Some e)) })
several_reason x h user fids (Ok xs) e are = (refl, record { is = record { sights = xs; seen = are; caller = the_user user; is = refl }; code = ap (λ (q : Result). code_given (Some q)) e; still = λ z. subst (λ (q : Result). IsChanging (Some q)) e z })

pub serves_reason : (x : ServerState) (clock : ℕ) (h : Head) (user : List ℕ) (call : FsCall) → Reason (held_by x) h user call (serves_call x clock h user call)
serves_reason x clock h user (calls.GiveUpCallBacks fids callbacks) = (refl, record { is = refl; code = refl; still = λ z. z })
serves_reason x clock h user calls.GetTime = (refl, record { is = record { time = clock; is = refl }; code = refl; still = λ z. z })
serves_reason x clock h user (calls.BulkStatus fids) = several_reason x h user fids (sights x.lasting.volumes (the_user user) fids) (all_said x (the_user user) fids) (are_sights x (the_user user) fids)
serves_reason x clock h user call = with_reason x clock h user call (volume_called call) refl refl

-- ---- what is decided on a message

-- a client's call that runs here
pub record Runs (me : Node) (x : ServerState) (m : Message) (j : ℕ) : Type 0 where
  pub to : m.head.to ≡ me
  pub runs : admitted x.lasting.boot x.seats m.head ≡ pairs.runs
  pub from : m.head.from ≡ Client j
  pub user : List ℕ
  pub call : FsCall
  pub carries : m.carried ≡ carried.Call user (ask.File call)

-- a call of a client runs for its reason
pub record Ran (me : Node) (x : ServerState) (m : Message) (j : ℕ) (d : Decision) : Type 0 where
  pub run : Runs me x m j
  pub why : Reason (held_by x) m.head run.user run.call d

-- a refusal to what is no client isn't looked at
abbrev pub Why : Node → ServerState → Message → Decision → Type 0
Why me x m (tells_boot head) = (head ≡ m.head) × (m.head.to ≡ me)
Why me x m (repeats reply) = (m.head.to ≡ me) × (admitted x.lasting.boot x.seats m.head ≡ pairs.kept reply)
Why me x m (refuses head code) = (j : ℕ) → m.head.from ≡ Client j → Ran me x m j (refuses head code)
Why me x m (shows head r) = (j : ℕ) × Ran me x m j (shows head r)
Why me x m (saves head c) = (j : ℕ) × Ran me x m j (saves head c)
Why me x m d = ⊤

abbrev pub IsFile : Message → Type 0
IsFile m = OfCall (λ head user call. ⊤) m.head m.carried

client_is : (j k : ℕ) → Client j ≡ Client k → j ≡ k
client_is j k e = cc

no_client : (from : Node) (j : ℕ) → is_client from ≡ false → from ≡ Client j → ⊥
no_client from j not e = let yes : is_client from ≡ true = ap is_client e in absurd cc

why_of : (me : Node) (x : ServerState) (m : Message) (j : ℕ) (d : Decision) → Ran me x m j d → Why me x m d
why_of me x m j drops r = tt
why_of me x m j (tells_boot head) r = absurd r.why
why_of me x m j (repeats reply) r = absurd r.why
why_of me x m j (refuses head code) r = λ k e. let same : j ≡ k = client_is j k (sym r.run.from ∙ e) in subst (λ (n : ℕ). Ran me x m n (refuses head code)) same r
why_of me x m j (shows head rd) r = (j, r)
why_of me x m j (saves head c) r = (j, r)

why_from : (me : Node) (x : ServerState) (clock : ℕ) (m : Message) (user : List ℕ) (call : FsCall) (from : Node) → m.head.from ≡ from → m.head.to ≡ me → admitted x.lasting.boot x.seats m.head ≡ pairs.runs → m.carried ≡ carried.Call user (ask.File call)
    → Why me x m (cond (is_client from) (serves_call x clock m.head user call) (refuses m.head not_served))
why_from me x clock m user call (Client j) from to runs is = why_of me x m j (serves_call x clock m.head user call) (record { run = record { to = to; runs = runs; from = from; user = user; call = call; carries = is }; why = serves_reason x clock m.head user call })
why_from me x clock m user call from e to runs is = λ j z. absurd (no_client from j refl (sym e ∙ z))

why_admits : (me : Node) (x : ServerState) (clock : ℕ) (m : Message) (user : List ℕ) (call : FsCall) (o : Admitted Message) → m.head.to ≡ me → admitted x.lasting.boot x.seats m.head ≡ o → m.carried ≡ carried.Call user (ask.File call) → Why me x m (admits x clock m.head (whole m.head (carried.Call user (ask.File call))) o)
why_admits me x clock m user call pairs.runs to e is = why_from me x clock m user call m.head.from refl to e is
why_admits me x clock m user call (pairs.kept reply) to e is = (to, e)
why_admits me x clock m user call pairs.in_progress to e is = tt
why_admits me x clock m user call pairs.older to e is = tt
why_admits me x clock m user call (pairs.wrong_boot boot) to e is = (refl, to)

why_called : (t : Bool) (me : Node) (x : ServerState) (clock : ℕ) (m : Message) (user : List ℕ) (call : FsCall) → same_node m.head.to me ≡ t → m.carried ≡ carried.Call user (ask.File call)
    → Why me x m (cond t (admits x clock m.head (whole m.head (carried.Call user (ask.File call))) (admitted x.lasting.boot x.seats m.head)) drops)
why_called true me x clock m user call e is = why_admits me x clock m user call (admitted x.lasting.boot x.seats m.head) (same_node-true m.head.to me e) refl is
why_called false me x clock m user call e is = tt

-- what is asked of the location database alone no server decides
why_asked : (t : Bool) (me : Node) (x : ServerState) (m : Message) (d : Decision) → same_node m.head.to me ≡ t → same_node me Loc ≡ false → m.head.to ≡ Loc → Why me x m (cond t d drops)
why_asked true me x m d e ne to = not_loc m.head me _ (same_node-true m.head.to me e) ne to
why_asked false me x m d e ne to = tt

pub why_hears : (me : Node) (x : ServerState) (clock : ℕ) (m : Message) (y : Carried) → same_node me Loc ≡ false → m.carried ≡ y → OfCall (λ head user call. ⊤) m.head y → Why me x m (hears me x clock m.head y)
why_hears me x clock m (carried.Call user (ask.File call)) ne is h = why_called (same_node m.head.to me) me x clock m user call refl is
why_hears me x clock m (carried.Call user (ask.Volume call)) ne is h = absurd h
why_hears me x clock m (carried.Call user (ask.Location call)) ne is h = why_asked (same_node m.head.to me) me x m (admits x clock m.head (whole m.head (carried.Call user (ask.Location call))) (admitted x.lasting.boot x.seats m.head)) refl ne h.0
why_hears me x clock m (carried.Refusal code) ne is h = tt
why_hears me x clock m (carried.Reply reply) ne is h = tt
why_hears me x clock m carried.Notice ne is h = tt

pub why : (me : Node) (x : ServerState) (clock : ℕ) (m : Message) → same_node me Loc ≡ false → IsFile m → Why me x m (decides me x clock (Whole m))
why me x clock m ne h = why_hears me x clock m m.carried ne refl h
