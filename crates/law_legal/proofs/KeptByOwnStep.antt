-- How what holds of a client's cache passes over a step of its own.
use Rattle.law_legal.proofs.KeptPasses.{sent_left, grant_over, whole_over}
use Rattle.spec_history.specs.declared.lines.Line.{Line}
use Rattle.spec_history.specs.declared.lines.Line.TheVariants as lines
use Rattle.spec_history.specs.declared.scripts.Script.{Script}
use Rattle.spec_ideal.specs.Operations.{volume_changed}
use Rattle.law_legal.proofs.ActLines.{last_key}
use Rattle.law_legal.proofs.ClientReplyArrives.{IsFetched, index_is}
use Rattle.law_legal.proofs.BaseLaws.{ByClient, Each, IfCall, OfCall, UpTo, by_client, some_of, yes_no}
use Rattle.law_legal.proofs.VolumeEdits.{index_in}
use Rattle.law_legal.proofs.BaseWords.{InScope, IsOne, IsWhole, Reached, Seen}
use Rattle.law_legal.proofs.KeptBesideOthers.{IsAround, at_given, at_saved, change_of, done_over, dropped_base, may_back, rests_over, waited_or}
use Rattle.law_legal.proofs.VolumesAreIdeal.{AreBlank, blank_last}
use Rattle.law_legal.proofs.VersionsLast.{stop_withdraws, stopped_or, withdrawn_onto}
use Rattle.law_legal.proofs.ServerChangesLater.{stopped_in}
use Rattle.law_legal.proofs.VersionsLatest.{has_onto}
use Rattle.law_legal.proofs.KeptIsLookedAt.{ReadsUpTo, both_up}
use Rattle.law_legal.proofs.ActAnsweredRecently.{sent_before, sent_given}
use Rattle.law_legal.proofs.ServerSaves.{later_not}
use Rattle.law_legal.proofs.ReadOwnStores.{no_key}
use Rattle.law_legal.proofs.KeptTrusting.{AtGiven, AtSaved, Holding, IsDone, IsFresh, IsKeyed, MayHave, Rests, Stands, Trusts, Waits, key_of_rest, since_rest}
use Rattle.law_legal.proofs.ActCalls.{of_client}
use Rattle.law_legal.specs.Breaks.{HasStopped}
use Rattle.law_legal.specs.ClientParts.{lines_since_fetch}
use Rattle.law_legal.specs.Grants.{IsDropped, IsWithdrawn, fetch_reply, has_fetched, since}
use Rattle.law_legal.specs.Ideal.{IsLast, call_under, change_key, last_version, highest_reached}
use Rattle.law_legal.specs.Legal.{HasChange, IsLater}
use Rattle.law_legal.specs.Past.{Called, Sends, called_key, given_message, has_sent, lines_of, lines_on, onto, sent_of}
use Rattle.afs_num.specs.declared.calls.FsCall.{FsCall}
use Rattle.afs_num.specs.declared.histories.Version.{Version}
use Rattle.afs_num.specs.declared.messages.Carried.{Carried}
use Rattle.afs_num.specs.declared.messages.Message.{Message}
use Rattle.afs_num.specs.declared.types.Fid.{Fid}
use Rattle.afs_num.specs.declared.types.Key.{Key}
use Rattle.afs_num.specs.declared.types.Node.{Node}
use Rattle.afs_num.specs.declared.types.Node.TheVariants.{Client}
use Rattle.spec_rows.specs.ClientRow.{call_of}
use Rattle.spec_rows.specs.Going.{ClientState, Going}
use Rattle.spec_rows.specs.Runs.{Entry}
use Rattle.spec_rows.specs.States.{CacheEntry}
use Rattle.spec_rows.specs.Steps.{Step}
use Rattle.std.proofs.Common.{◌≡◌, ◌≤◌, ◌<◌, ℕ, ◌⊎◌, inl, inr, Bool, true, false, cond, List, [], ◌∷◌, ◌++◌, Option, Some, None, refl, sym, ap, subst, ◌∙◌, le_trans}
use Rattle.std.specs.Option.{option_map}
use Rattle.std.specs.Prelude.{⊤}
use Rattle.law_legal.proofs.ActChangesOnce.{has_under}
use Rattle.law_legal.proofs.ClientSent.{each_front}

-- ---- a step

-- its lines change nothing; a file call that it sends is that of the act that then runs
pub record IsTurn (n : ℕ) (st : Step ClientState) : Type 0 where
  pub blank : AreBlank st.lines
  pub sends : (l : Key) (user : List ℕ) (call : FsCall) → l.node ≡ Client n → Sends l user call st.sent → (act : Going) × ((st.state.running ≡ Some act) × (l ≡ last_key n st.state))

-- what is known of the messages before it
pub record IsSound (n : ℕ) (x : ClientState) (past : List Entry) : Type 0 where
  pub ones : Each (IfCall (IsOne (sent_of past))) (sent_of past)
  pub pairs : (l : Key) → l.node ≡ Client n → has_sent l (sent_of past) ≡ true → UpTo l.epoch l.number x.epoch x.last

-- the client waits on
pub record IsStill (n : ℕ) (x y : ClientState) : Type 0 where
  pub running : y.running ≡ x.running
  pub key : last_key n y ≡ last_key n x
  pub call : (act : Going) → call_of y act ≡ call_of x act

-- or it waits for another call, which wasn't sent before, or for none
pub record IsMoved (n : ℕ) (y : ClientState) (past : List Entry) : Type 0 where
  pub unsent : (act : Going) → y.running ≡ Some act → has_sent (last_key n y) (sent_of past) ≡ false
  pub unchanged : (act : Going) → y.running ≡ Some act → HasChange (last_key n y) (lines_of past) → ⊥

-- ---- lines without a change

pub blank_change : (k : Key) (ls o : List Line) → AreBlank ls → HasChange k (onto o ls) → HasChange k o
blank_change k [] o b h = h
blank_change k (lines.Change q l count ∷ ls) o b h = absurd cc
blank_change k (lines.Version v ∷ ls) o b h = absurd cc
blank_change k (l ∷ ls) o b h = blank_change k ls (l ∷ o) b h

last_same : (n : ℕ) (st : Step ClientState) (past : List Entry) (f : Fid) → IsTurn n st → last_version f (lines_of (of_client n st ∷ past)) ≡ last_version f (lines_of past)
last_same n st past f T = blank_last f st.lines (lines_of past) T.blank

-- ---- a call that was sent

sends_one : (S : List Message) (n : ℕ) (l : Key) (user : List ℕ) (call : FsCall) (ms : List Message) → l.node ≡ Client n → Sends l user call ms → Each (IfCall (IsOne S)) ms → call_under l S ≡ Some (user, call)
sends_one S n l user call [] node z h = absurd z
sends_one S n l user call (m ∷ ms) node (inl z) h =
    let from : m.head.from ≡ Client n = ap (λ (k : Key). k.node) z.0 ∙ node in
    subst (λ (k : Key). call_under k S ≡ Some (user, call)) z.0 (by_client n m.head.from (IsOne S m.head user call) from (subst (λ (x : Carried). OfCall (ByClient (IsOne S)) m.head x) z.1 h.0))
sends_one S n l user call (m ∷ ms) node (inr z) h = sends_one S n l user call ms node z h.1

called_one : (S : List Message) (s : Script) (n : ℕ) (l : Key) (user : List ℕ) (call : FsCall) (act : Going) (past : List Entry) → l.node ≡ Client n → Called s l user call act past → Each (IfCall (IsOne S)) (sent_of past) → call_under l S ≡ Some (user, call)
called_one S s n l user call act [] node z h = absurd z
called_one S s n l user call act (e ∷ past) node (inl z) h = sends_one S n l user call e.sent node z.1.0 (each_front (IfCall (IsOne S)) (sent_of past) e.sent h).1
called_one S s n l user call act (e ∷ past) node (inr z) h = called_one S s n l user call act past node z (each_front (IfCall (IsOne S)) (sent_of past) e.sent h).0

-- ---- the facts of an entry, behind the step

-- what is settled
settled_own : (s : Script) (n : ℕ) (y : ClientState) (st : Step ClientState) (past : List Entry) (f : Fid) (server : Node) (k : Key) → st.state ≡ y → IsTurn n st → (HasStopped server st.lines → ⊥)
    → ((l : Key) (user : List ℕ) (call : FsCall) (act : Going) → l.node ≡ Client n → Called s l user call act past → IsLater l k → ((b : Going) → y.running ≡ Some b → l ≡ last_key n y → ⊥) → IsDone server f l call past)
    → (l : Key) (user : List ℕ) (call : FsCall) (act : Going) → l.node ≡ Client n → Called s l user call act (of_client n st ∷ past) → IsLater l k → ((b : Going) → y.running ≡ Some b → l ≡ last_key n y → ⊥) → IsDone server f l call (of_client n st ∷ past)
settled_own s n y st past f server k is T going w l user call act node (inl z) later out =
    let t = T.sends l user call node z.1.0 in absurd (out t.0 (ap (λ (x : ClientState). x.running) (sym is) ∙ t.1.0) (t.1.1 ∙ ap (last_key n) is))
settled_own s n y st past f server k is T going w l user call act node (inr z) later out = done_over server f l call past (of_client n st) going (w l user call act node z later out)

-- where the client waits on
may_still : (n : ℕ) (x y : ClientState) (f : Fid) (past : List Entry) → IsStill n x y → MayHave n y f past → MayHave n x f past
may_still n x y f past q may act r scope has = may act (q.running ∙ r) (subst (λ (c : FsCall). InScope c f) (sym (q.call act)) scope) (subst (λ (k : Key). HasChange k (lines_of past)) (sym q.key) has)

held_still : (s : Script) (n : ℕ) (x : ClientState) (st : Step ClientState) (past : List Entry) (f : Fid) (index : ℕ) (server : Node) (k : Key) → IsTurn n st → IsStill n x st.state → (HasStopped server st.lines → ⊥) → Holding s n x f index server k past → Holding s n st.state f index server k (of_client n st ∷ past)
held_still s n x st past f index server k T q going H = record {
  settled = settled_own s n st.state st past f server k refl T going (λ l user call act node z later out. H.settled l user call act node z later (λ b r same. out b (q.running ∙ r) (same ∙ sym q.key)));
  changed = λ act r. let P : List Entry → Entry → List Entry → Type 0 = λ newer at older. last_version f (lines_of (of_client n st ∷ past)) ≡ last_version f (lines_of (at ∷ older)) in
      subst (λ (l : Key). AtSaved l (of_client n st ∷ past) P) (sym q.key) (at_saved (last_key n x) past (of_client n st) P (λ c. absurd (no_key st.lines (last_key n x) T.blank c))
      (λ newer at older e c. last_same n st past f T ∙ H.changed act (sym q.running ∙ r) newer at older e c));
  plain = λ may. ap (option_map (λ (v : Version). v.index)) (last_same n st past f T) ∙ H.plain (may_back n x f past (of_client n st) (may_still n x st.state f (of_client n st ∷ past) q may));
}

fresh_own : (s : Script) (n : ℕ) (y : ClientState) (st : Step ClientState) (past : List Entry) (f : Fid) (index : ℕ) (server : Node) (k : Key) (newer : List Line) → ((HasStopped server st.lines → ⊥) → Holding s n y f index server k (of_client n st ∷ past)) → IsFresh s n y f index server k (onto newer st.lines) (of_client n st ∷ past)
fresh_own s n y st past f index server k newer w = elim (stopped_or server st.lines) [
  | inl z ↦ elim (stop_withdraws server (Client n) f st.lines [] (stopped_in server st.lines [] z)) [ inl q ↦ absurd q | inr r ↦ inl (r newer) ]
  | inr going ↦ inr (w going)
]

pub stands_still : (s : Script) (n : ℕ) (x : ClientState) (clock : ℕ) (st : Step ClientState) (past : List Entry) (f : Fid) (e : CacheEntry) → IsTurn n st → IsStill n x st.state → has_fetched (Client n) f st.lines ≡ false → (highest_reached (Client n) f (of_client n st ∷ past)).seen ≡ (highest_reached (Client n) f past).seen → (highest_reached (Client n) f (of_client n st ∷ past)).made ≡ (highest_reached (Client n) f past).made
    → Stands s n x clock f e past → Stands s n st.state clock f e (of_client n st ∷ past)
stands_still s n x clock st past f e T q none seen made S = record {
  rests = rests_over s n f e past (of_client n st) none S.rests;
  capped = λ act r. let P : List Entry → Entry → List Entry → Type 0 = λ newer at older. e.index ≤ index_in (last_version f (lines_of (at ∷ older))) in
      subst (λ (l : Key). AtSaved l (of_client n st ∷ past) P) (sym q.key) (at_saved (last_key n x) past (of_client n st) P (λ c. absurd (no_key st.lines (last_key n x) T.blank c)) (S.capped act (sym q.running ∙ r)));
  ordered = λ act r. let P : List Entry → Entry → List Entry → Type 0 = λ newer at older. HasStopped e.server (lines_on (onto [] at.lines) newer) → IsWithdrawn e.server (Client n) f (onto (since_rest s n f e past S.rests) st.lines) in
      subst (λ (l : Key). AtGiven l (of_client n st ∷ past) P) (sym q.key) (at_given (last_key n x) past (of_client n st) P
      (λ c z. elim (stop_withdraws e.server (Client n) f st.lines [] z) [ inl w ↦ absurd w | inr w ↦ w (since_rest s n f e past S.rests) ])
      (λ newer at older split c z. elim (stop_withdraws e.server (Client n) f st.lines (lines_on (onto [] at.lines) newer) z) [
        | inl w ↦ withdrawn_onto e.server (Client n) f st.lines (since_rest s n f e past S.rests) (S.ordered act (sym q.running ∙ r) newer at older split c w)
        | inr w ↦ w (since_rest s n f e past S.rests)
      ]));
  made = λ act r may. made ∙ S.made act (sym q.running ∙ r) (may_back n x f past (of_client n st) (may_still n x st.state f (of_client n st ∷ past) q may));
  low = λ lasts. subst (λ (i : ℕ). i ≤ e.index) (sym seen) (S.low lasts);
  fresh = λ lasts. elim (S.fresh lasts) [
    | inl w ↦ inl (withdrawn_onto e.server (Client n) f st.lines (since_rest s n f e past S.rests) w)
    | inr H ↦ fresh_own s n st.state st past f e.index e.server (key_of_rest s n f e past S.rests) (since_rest s n f e past S.rests) (λ going. held_still s n x st past f e.index e.server (key_of_rest s n f e past S.rests) T q going H)
  ];
}

-- ---- where it moved on

none_saved : (n : ℕ) (st : Step ClientState) (past : List Entry) (act : Going) (P : List Entry → Entry → List Entry → Type 0) → IsTurn n st → IsMoved n st.state past → st.state.running ≡ Some act → AtSaved (last_key n st.state) (of_client n st ∷ past) P
none_saved n st past act P T M r newer at older e c = absurd (M.unchanged act r (blank_change (last_key n st.state) st.lines (lines_of past) T.blank (change_of (last_key n st.state) (of_client n st ∷ past) newer at older e c)))

keyed_by : (k : Key) (ls : List Line) (sent : List Message) (o : Option Message) → given_message ls sent ≡ o → IsKeyed k o → has_sent k sent ≡ true
keyed_by k ls sent None e h = absurd h
keyed_by k ls sent (Some m) e h = sent_given k ls sent m e h

sent_within : (k : Key) (past newer : List Entry) (at : Entry) (older : List Entry) → past ≡ newer ++ (at ∷ older) → has_sent k (sent_of older) ≡ true → has_sent k (sent_of past) ≡ true
sent_within k past newer at older e h = subst (λ (p : List Entry). has_sent k (sent_of p) ≡ true) (sym e) (sent_before k newer (at ∷ older) (sent_left k (sent_of older) at.sent h))

none_given : (n : ℕ) (st : Step ClientState) (past : List Entry) (act : Going) (P : List Entry → Entry → List Entry → Type 0) → IsMoved n st.state past → st.state.running ≡ Some act → AtGiven (last_key n st.state) (of_client n st ∷ past) P
none_given n st past act P M r =
    let k : Key = last_key n st.state in
    at_given k past (of_client n st) P
    (λ c. absurd (yes_no (has_sent k (sent_of past)) (keyed_by k st.lines (sent_of past) (given_message st.lines (sent_of past)) refl c) (M.unsent act r)))
    (λ newer at older e c. absurd (yes_no (has_sent k (sent_of past)) (sent_within k past newer at older e (keyed_by k at.lines (sent_of older) (given_message at.lines (sent_of older)) refl c)) (M.unsent act r)))

-- what was waited for is done
abbrev pub HasDone : ℕ → ClientState → Fid → Node → List Entry → Type 0
HasDone n x f server past = MayHave n x f past × ((act : Going) → x.running ≡ Some act → IsDone server f (last_key n x) (call_of x act) past)

held_moved : (s : Script) (n : ℕ) (x : ClientState) (st : Step ClientState) (past : List Entry) (f : Fid) (index : ℕ) (server : Node) (k : Key) → IsTurn n st → IsSound n x past → IsAround s n x past → IsMoved n st.state past → (HasStopped server st.lines → ⊥) → HasDone n x f server past → Holding s n x f index server k past → Holding s n st.state f index server k (of_client n st ∷ past)
held_moved s n x st past f index server k T N A M going D H = record {
  settled = settled_own s n st.state st past f server k refl T going (λ l user call act node z later out. elim (waited_or n x l) [
    | inl w ↦
        (let one : call_under l (sent_of past) ≡ Some (user, call) = called_one (sent_of past) s n l user call act past node z N.ones in
        let same : (user, call) ≡ (x.user, call_of x w.0) = some_of (user, call) (x.user, call_of x w.0) (sym one ∙ (ap (λ (q : Key). call_under q (sent_of past)) w.1.1 ∙ A.under w.0 w.1.0)) in
        subst (λ (q : Key). IsDone server f q call past) (sym w.1.1) (subst (λ (q : FsCall). IsDone server f (last_key n x) q past) (sym (ap (λ (p : List ℕ × FsCall). p.1) same)) (D.1 w.0 w.1.0)))
    | inr not_ ↦ H.settled l user call act node z later not_
  ]);
  changed = λ act r. none_saved n st past act _ T M r;
  plain = λ may. ap (option_map (λ (v : Version). v.index)) (last_same n st past f T) ∙ H.plain D.0;
}

pub stands_moved : (s : Script) (n : ℕ) (x : ClientState) (clock : ℕ) (st : Step ClientState) (past : List Entry) (f : Fid) (e : CacheEntry) → IsTurn n st → IsSound n x past → IsAround s n x past → IsMoved n st.state past → has_fetched (Client n) f st.lines ≡ false → (S : Stands s n x clock f e past)
    → (clock < e.expiry → IsWithdrawn e.server (Client n) f (since_rest s n f e past S.rests) ⊎ HasDone n x f e.server past) → (clock < e.expiry → Seen n f e.index (of_client n st ∷ past)) → ((act : Going) → st.state.running ≡ Some act → (highest_reached (Client n) f (of_client n st ∷ past)).made ≡ 0) → Stands s n st.state clock f e (of_client n st ∷ past)
stands_moved s n x clock st past f e T N A M none S D low zero = record {
  rests = rests_over s n f e past (of_client n st) none S.rests;
  capped = λ act r. none_saved n st past act _ T M r;
  ordered = λ act r. none_given n st past act _ M r;
  made = λ act r may. zero act r;
  low = low;
  fresh = λ lasts. elim (S.fresh lasts) [
    | inl w ↦ inl (withdrawn_onto e.server (Client n) f st.lines (since_rest s n f e past S.rests) w)
    | inr H ↦ elim (D lasts) [
      | inl w ↦ inl (withdrawn_onto e.server (Client n) f st.lines (since_rest s n f e past S.rests) w)
      | inr d ↦ fresh_own s n st.state st past f e.index e.server (key_of_rest s n f e past S.rests) (since_rest s n f e past S.rests) (λ going. held_moved s n x st past f e.index e.server (key_of_rest s n f e past S.rests) T N A M going d H)
    ]
  ];
}

-- ---- an entry that was fetched just now

called_sent : (s : Script) (l : Key) (user : List ℕ) (call : FsCall) (act : Going) (n : ℕ) (x : ClientState) (past : List Entry) → IsSound n x past → l.node ≡ Client n → Called s l user call act past → UpTo l.epoch l.number x.epoch x.last
called_sent s l user call act n x past N node z = N.pairs l node (has_under l (sent_of past) (user, call) (called_one (sent_of past) s n l user call act past node z N.ones))

new_held : (s : Script) (n : ℕ) (x : ClientState) (st : Step ClientState) (past : List Entry) (f : Fid) (index : ℕ) (server : Node) (k : Key) → IsTurn n st → IsSound n x past → IsMoved n st.state past → k ≡ last_key n x → IsLast f index (lines_of past) → (HasStopped server st.lines → ⊥) → Holding s n st.state f index server k (of_client n st ∷ past)
new_held s n x st past f index server k T N M key last going = record {
  settled = settled_own s n st.state st past f server k refl T going (λ l user call act node z later out.
      absurd (later_not l k x.epoch x.last (ap (λ (q : Key). q.epoch) key) (ap (λ (q : Key). q.number) key) (called_sent s l user call act n x past N node z) later));
  changed = λ act r. none_saved n st past act _ T M r;
  plain = λ may. ap (option_map (λ (v : Version). v.index)) (last_same n st past f T) ∙ last;
}

pub stands_new : (s : Script) (n : ℕ) (x : ClientState) (clock : ℕ) (st : Step ClientState) (past : List Entry) (m : Message) (f : Fid) (e : CacheEntry) → IsTurn n st → IsSound n x past → IsMoved n st.state past → has_fetched (Client n) f st.lines ≡ true → given_message st.lines (sent_of past) ≡ Some m
    → IsFetched s n m e.server (last_key n x) past f e.index e.status e.body e.expiry → (clock < e.expiry → Seen n f e.index (of_client n st ∷ past)) → ((act : Going) → st.state.running ≡ Some act → (highest_reached (Client n) f (of_client n st ∷ past)).made ≡ 0) → Stands s n st.state clock f e (of_client n st ∷ past)
stands_new s n x clock st past m f e T N M some given F low zero = record {
  rests = record {
    reply = m;
    by = ap (λ (t : Bool). cond t (given_message st.lines (sent_of past)) (fetch_reply (Client n) f past)) some ∙ given;
    grant = grant_over (Client n) f e.expiry m (of_client n st) past F.grant;
    server = F.server;
    home = F.home;
    whole = whole_over f e.index e.status e.body (of_client n st) past (λ b z. has_onto f e.index b st.lines (lines_of past) z) F.whole;
    least = F.least;
    calm = λ d. subst (IsDropped e.server (Client n) f) (sym (ap (λ (t : Bool). cond t (onto [] st.lines) (onto (lines_since_fetch (Client n) f past) st.lines)) some))
        (dropped_base e.server (Client n) f st.lines (since (Client n) f e.expiry m past F.grant) [] (λ z. absurd (F.kept z)) d);
    ran = F.ran;
  };
  capped = λ act r. none_saved n st past act _ T M r;
  ordered = λ act r. none_given n st past act _ M r;
  made = λ act r may. zero act r;
  low = low;
  fresh = λ lasts. elim F.newest [
    | inl w ↦ inl (withdrawn_onto e.server (Client n) f st.lines (since (Client n) f e.expiry m past F.grant) w)
    | inr last ↦ fresh_own s n st.state st past f e.index e.server (called_key F.ran.message.head) (since (Client n) f e.expiry m past F.grant) (new_held s n x st past f e.index e.server (called_key F.ran.message.head) T N M F.key last)
  ];
}

-- ---- an entry that the client's own store refreshed

pub stands_stored : (s : Script) (n : ℕ) (x : ClientState) (act : Going) (clock : ℕ) (st : Step ClientState) (past : List Entry) (f : Fid) (e u : CacheEntry) (newer : List Entry) (at : Entry) (older : List Entry) → IsTurn n st → IsSound n x past → IsAround s n x past → x.running ≡ Some act → st.state.running ≡ None → has_fetched (Client n) f st.lines ≡ false
    → (S : Stands s n x clock f e past) → u.server ≡ e.server → u.expiry ≡ e.expiry → IsWhole f u.index u.status u.body past → past ≡ newer ++ (at ∷ older) → change_key at.lines ≡ Some (last_key n x) → IsLast f u.index (lines_of (at ∷ older)) → (clock < e.expiry → Seen n f u.index (of_client n st ∷ past))
    → Stands s n st.state clock f (record e { index = u.index; status = u.status; body = u.body }) (of_client n st ∷ past)
stands_stored s n x act clock st past f e u newer at older T N A r idle none S server expiry whole split key last low =
    let k : Key = key_of_rest s n f e past S.rests in
    let since' : List Line = since_rest s n f e past S.rests in
    let v : CacheEntry = record e { index = u.index; status = u.status; body = u.body } in
    let no_run : (b : Going) → st.state.running ≡ Some b → ⊥ = λ b q. (let no_ : None ≡ Some b = sym idle ∙ q in absurd cc) in
    let R : Rests s n f e (of_client n st ∷ past) = rests_over s n f e past (of_client n st) none S.rests in
    record {
      rests = record {
        reply = R.reply;
        by = R.by;
        grant = R.grant;
        server = R.server;
        home = R.home;
        whole = whole_over f u.index u.status u.body (of_client n st) past (λ b z. has_onto f u.index b st.lines (lines_of past) z) whole;
        least = le_trans S.rests.least (subst (λ (i : ℕ). e.index ≤ i) (index_is (last_version f (lines_of (at ∷ older))) u.index last) (S.capped act r newer at older split key));
        calm = R.calm;
        ran = R.ran;
      };
      capped = λ b q. absurd (no_run b q);
      ordered = λ b q. absurd (no_run b q);
      made = λ b q may. absurd (no_run b q);
      low = low;
      fresh = λ lasts. elim (S.fresh lasts) [
        | inl w ↦ inl (withdrawn_onto e.server (Client n) f st.lines since' w)
        | inr H ↦ fresh_own s n st.state st past f u.index e.server k since' (λ going. record {
          settled = settled_own s n st.state st past f e.server k refl T going (λ l user call b node z later out. elim (waited_or n x l) [
            | inl w ↦ inr (inl (subst (λ (q : Key). HasChange q (lines_of past)) (sym w.1.1) (change_of (last_key n x) past newer at older split key)))
            | inr not_ ↦ H.settled l user call b node z later not_
          ]);
          changed = λ b q. absurd (no_run b q);
          plain = λ may. ap (option_map (λ (w : Version). w.index)) (last_same n st past f T ∙ H.changed act r newer at older split key) ∙ last;
        })
      ];
    }

-- ---- the client

pub waits_still : (n : ℕ) (x : ClientState) (st : Step ClientState) (past : List Entry) (act : Going) → IsTurn n st → IsStill n x st.state → ((f : Fid) → (highest_reached (Client n) f (of_client n st ∷ past)).seen ≡ (highest_reached (Client n) f past).seen) → ((f : Fid) → (highest_reached (Client n) f (of_client n st ∷ past)).made ≡ (highest_reached (Client n) f past).made)
    → ((f : Fid) → Reached (Client n) f (index_in (last_version f (lines_of past))) past) → Waits n x act past → Waits n st.state act (of_client n st ∷ past)
waits_still n x st past act T q seen made reached W = record {
  given = let P : List Entry → Entry → List Entry → Type 0 = λ newer at older. (f : Fid) → Seen n f (index_in (last_version f (lines_of older))) (of_client n st ∷ past) in
      subst (λ (l : Key). AtGiven l (of_client n st ∷ past) P) (sym q.key) (at_given (last_key n x) past (of_client n st) P
      (λ c f. subst (λ (i : ℕ). i ≤ index_in (last_version f (lines_of past))) (sym (seen f)) (reached f).seen)
      (λ newer at older e c f. subst (λ (i : ℕ). i ≤ index_in (last_version f (lines_of older))) (sym (seen f)) (W.given newer at older e c f)));
  saved = let P : List Entry → Entry → List Entry → Type 0 = λ newer at older. (f : Fid) → Reached (Client n) f (index_in (last_version f (lines_of (at ∷ older)))) (of_client n st ∷ past) in
      subst (λ (l : Key). AtSaved l (of_client n st ∷ past) P) (sym q.key) (at_saved (last_key n x) past (of_client n st) P
      (λ c. absurd (no_key st.lines (last_key n x) T.blank c))
      (λ newer at older e c f. record {
        made = subst (λ (i : ℕ). i ≤ index_in (last_version f (lines_of (at ∷ older)))) (sym (made f)) (W.saved newer at older e c f).made;
        seen = subst (λ (i : ℕ). i ≤ index_in (last_version f (lines_of (at ∷ older)))) (sym (seen f)) (W.saved newer at older e c f).seen;
      }));
  made = λ reading f. made f ∙ W.made (ap volume_changed (sym (q.call act)) ∙ reading) f;
}

pub waits_moved : (n : ℕ) (st : Step ClientState) (past : List Entry) (act : Going) → IsTurn n st → IsMoved n st.state past → st.state.running ≡ Some act → ((f : Fid) → (highest_reached (Client n) f (of_client n st ∷ past)).made ≡ 0) → Waits n st.state act (of_client n st ∷ past)
waits_moved n st past act T M r zero = record {
  given = none_given n st past act _ M r;
  saved = none_saved n st past act _ T M r;
  made = λ reading f. zero f;
}

pub reached_own : (s : Script) (n : ℕ) (x : ClientState) (clock : ℕ) (st : Step ClientState) (past : List Entry) (f : Fid) → IsTurn n st → ReadsUpTo (Client n) f (index_in (last_version f (lines_of past))) st.lines → Trusts s n x clock past → Reached (Client n) f (index_in (last_version f (lines_of (of_client n st ∷ past)))) (of_client n st ∷ past)
reached_own s n x clock st past f T up h =
    let p = both_up (Client n) f past false (highest_reached (Client n) f past) st.lines (index_in (last_version f (lines_of past))) T.blank (h.reached f).made (h.reached f).seen up in
    subst (λ (v : Option Version). Reached (Client n) f (index_in v) (of_client n st ∷ past)) (sym (last_same n st past f T)) (record { made = p.0; seen = p.1 })
