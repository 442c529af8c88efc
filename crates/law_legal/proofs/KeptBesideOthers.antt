-- How what holds of a client's cache passes over an entry of another node.
use Rattle.spec_model.specs.Calls.{same_key}
use Rattle.spec_history.specs.declared.lines.Line.{Line}
use Rattle.spec_history.specs.declared.lines.Line.TheVariants as lines
use Rattle.spec_history.specs.declared.scripts.Script.{Script}
use Rattle.spec_ideal.specs.Operations.{the_user, volume_called, volume_changed}
use Rattle.spec_ideal.specs.Volumes.{Volume}
use Rattle.law_legal.proofs.ActLines.{last_key}
use Rattle.law_legal.proofs.BaseLaws.{up_to_same, same_key-refl, same_key-true, same_node-refl, same_node-true, some_of}
use Rattle.law_legal.proofs.VolumeEdits.{Grow, Sound, SoundIn, index_in, touches}
use Rattle.law_legal.proofs.BaseWords.{InScope, IsChangingUnder, Reached}
use Rattle.law_legal.proofs.VolumesAreIdeal.{AreBlank}
use Rattle.law_legal.proofs.VersionsLast.{HasTouched, own_later, saved_by, stop_withdraws, stopped_either, stopped_of, stopped_or, stops_withdraw, touch, touch_home, touch_volume, touch_withdraws, withdrawn_onto}
use Rattle.law_legal.proofs.ServerChangesLater.{later_key, stopped_in}
use Rattle.law_legal.proofs.VersionsLatest.{has_onto}
use Rattle.law_legal.proofs.ActChangesOnce.{new_behind}
use Rattle.law_legal.proofs.VolumeOperations.{changes_is, in_scope}
use Rattle.law_legal.proofs.KeptPasses.{grant_over, no_change, whole_over}
use Rattle.law_legal.proofs.VolumeVersionsTold.{IsAgreed, IsSaved}
use Rattle.law_legal.proofs.ServerSaves.{any_change, later_not, scope_of}
use Rattle.law_legal.proofs.ServerTells.{change_later}
use Rattle.law_legal.proofs.KeptTrusting.{AtGiven, AtSaved, HasRunKey, Holding, IsDone, IsKeyed, MayHave, Rests, Stands, Trusts, Waits, key_of_rest, since_rest}
use Rattle.law_legal.specs.Breaks.{HasStopped}
use Rattle.law_legal.specs.ClientParts.{lines_since_fetch}
use Rattle.law_legal.specs.Grants.{IsDropped, IsWithdrawn, fetch_reply, has_fetched, since}
use Rattle.law_legal.specs.Ideal.{HasVersion, call_under, change_in, change_key, first_key, last_version, highest_reached}
use Rattle.law_legal.specs.Legal.{HasChange, IsKey, IsLater}
use Rattle.law_legal.specs.Past.{Called, called_key, given_message, is_of_act, lines_of, lines_on, onto, sent_of, server_boot}
use Rattle.afs_num.specs.Nodes.{same_node}
use Rattle.afs_num.specs.declared.calls.FsCall.{FsCall}
use Rattle.afs_num.specs.declared.calls.FsCall.TheVariants as calls
use Rattle.afs_num.specs.declared.histories.Actor.TheVariants as actors
use Rattle.afs_num.specs.declared.histories.Body.{Body}
use Rattle.afs_num.specs.declared.histories.Version.{Version}
use Rattle.afs_num.specs.declared.types.Fid.{Fid}
use Rattle.afs_num.specs.declared.types.Key.{Key}
use Rattle.afs_num.specs.declared.types.Node.{Node}
use Rattle.afs_num.specs.declared.types.Node.TheVariants.{Client, Server}
use Rattle.spec_rows.specs.ClientRow.{call_of}
use Rattle.spec_rows.specs.Going.{ClientState, Going}
use Rattle.spec_rows.specs.Runs.{Entry}
use Rattle.spec_rows.specs.States.{CacheEntry}
use Rattle.spec_rows.specs.ServerRow.{versioned}
use Rattle.std.proofs.Common.{◌≡◌, ◌≤◌, ℕ, ◌⊎◌, inl, inr, Bool, true, false, cond, List, [], ◌∷◌, ◌++◌, Option, Some, None, refl, sym, ap, subst, ◌∙◌, arith}
use Rattle.std.specs.Option.{option_map}
use Rattle.law_legal.proofs.OwedPasses.{entries_same, entry_same}

-- ---- an entry more

pub at_saved : (k : Key) (past : List Entry) (y : Entry) (P : List Entry → Entry → List Entry → Type 0) → (change_key y.lines ≡ Some k → P [] y past) → ((newer : List Entry) (at : Entry) (older : List Entry) → past ≡ newer ++ (at ∷ older) → change_key at.lines ≡ Some k → P (y ∷ newer) at older) → AtSaved k (y ∷ past) P
at_saved k past y P now old [] at older e c =
    let p : y ≡ at = entry_same y at past older e in
    subst (λ (o : List Entry). P [] at o) (entries_same y at past older e) (subst (λ (a : Entry). P [] a past) p (now (subst (λ (a : Entry). change_key a.lines ≡ Some k) (sym p) c)))
at_saved k past y P now old (z ∷ newer) at older e c = subst (λ (a : Entry). P (a ∷ newer) at older) (entry_same y z past (newer ++ (at ∷ older)) e) (old newer at older (entries_same y z past (newer ++ (at ∷ older)) e) c)

pub at_given : (k : Key) (past : List Entry) (y : Entry) (P : List Entry → Entry → List Entry → Type 0) → (IsKeyed k (given_message y.lines (sent_of past)) → P [] y past) → ((newer : List Entry) (at : Entry) (older : List Entry) → past ≡ newer ++ (at ∷ older) → IsKeyed k (given_message at.lines (sent_of older)) → P (y ∷ newer) at older) → AtGiven k (y ∷ past) P
at_given k past y P now old [] at older e c =
    let p : y ≡ at = entry_same y at past older e in
    let q : past ≡ older = entries_same y at past older e in
    subst (λ (o : List Entry). P [] at o) q (subst (λ (a : Entry). P [] a past) p (now (subst (λ (a : Entry). IsKeyed k (given_message a.lines (sent_of past))) (sym p) (subst (λ (o : List Entry). IsKeyed k (given_message at.lines (sent_of o))) (sym q) c))))
at_given k past y P now old (z ∷ newer) at older e c = subst (λ (a : Entry). P (a ∷ newer) at older) (entry_same y z past (newer ++ (at ∷ older)) e) (old newer at older (entries_same y z past (newer ++ (at ∷ older)) e) c)

-- a change that an entry tells
now_key : (k q : Key) (o : Option Key) (B : Type 0) → o ≡ Some q → q ≡ k → IsKey k o B
now_key k q None B is e = absurd cc
now_key k q (Some l) B is e = inl (some_of l q is ∙ e)

change_at_by : (o : Option Key) (k : Key) (l : Line) (ls base : List Line) → change_in l ≡ o → first_key o (change_key ls) ≡ Some k → ((b : List Line) → change_key ls ≡ Some k → HasChange k (onto b ls)) → HasChange k (onto (l ∷ base) ls)
change_at_by None k l ls base is e w = w (l ∷ base) e
change_at_by (Some q) k l ls base is e w = change_later k ls (l ∷ base) (now_key k q (change_in l) (HasChange k base) is (some_of q k e))

pub change_in_lines : (k : Key) (ls base : List Line) → change_key ls ≡ Some k → HasChange k (onto base ls)
change_in_lines k [] base e = absurd cc
change_in_lines k (l ∷ ls) base e = change_at_by (change_in l) k l ls base refl e (λ b z. change_in_lines k ls b z)

change_over : (k : Key) (newer older : List Entry) → HasChange k (lines_of older) → HasChange k (lines_of (newer ++ older))
change_over k [] older h = h
change_over k (e ∷ newer) older h = change_later k e.lines (lines_of (newer ++ older)) (change_over k newer older h)

pub change_of : (k : Key) (past newer : List Entry) (at : Entry) (older : List Entry) → past ≡ newer ++ (at ∷ older) → change_key at.lines ≡ Some k → HasChange k (lines_of past)
change_of k past newer at older e c = subst (λ (p : List Entry). HasChange k (lines_of p)) (sym e) (change_over k newer (at ∷ older) (change_in_lines k at.lines (lines_of older) c))

-- ---- an entry of another node

pub record IsBeside (s : Script) (j : ℕ) (past : List Entry) (y : Entry) : Type 0 where
  pub told : AreBlank y.lines ⊎ IsSaved s past y
  pub agreed : IsAgreed s (y ∷ past)
  pub actor : y.actor ≡ actors.Node (Client j) → ⊥
  pub fetched : (f : Fid) → has_fetched (Client j) f y.lines ≡ false
  pub seen : (f : Fid) → (highest_reached (Client j) f (y ∷ past)).seen ≡ (highest_reached (Client j) f past).seen
  pub blank : AreBlank y.lines → (f : Fid) → (highest_reached (Client j) f (y ∷ past)).made ≡ (highest_reached (Client j) f past).made
  pub made : (z : IsSaved s past y) (f : Fid) → (is_of_act (Client j) z.key past ≡ false) ⊎ (touches f z.versions ≡ false) → (highest_reached (Client j) f (y ∷ past)).made ≡ (highest_reached (Client j) f past).made
  pub reached : (f : Fid) → Reached (Client j) f (index_in (last_version f (lines_of (y ∷ past)))) (y ∷ past)

-- what is known of the client
pub record IsAround (s : Script) (j : ℕ) (x : ClientState) (past : List Entry) : Type 0 where
  pub agreed : IsAgreed s past
  pub last : (act : Going) → x.running ≡ Some act → (k : Key) → is_of_act (Client j) k past ≡ true → IsChangingUnder k (sent_of past) → k ≡ last_key j x
  pub under : (act : Going) → x.running ≡ Some act → call_under (last_key j x) (sent_of past) ≡ Some (x.user, call_of x act)

abbrev of_saved : (s : Script) (past : List Entry) (y : Entry) (z : IsSaved s past y) → IsChangingUnder z.key (sent_of past)
of_saved s past y z = record { user = z.ideal.user; call = z.ideal.call; one = z.ideal.one; changes = changes_is z.ideal.id (the_user z.ideal.user) z.ideal.call z.ideal.before z.ideal.edits z.ideal.shown z.ideal.of_volume z.ideal.result }

-- a change is none of the act's, or that of its last call
own_by : (t : Bool) (s : Script) (j : ℕ) (x : ClientState) (past : List Entry) (y : Entry) (act : Going) → IsAround s j x past → x.running ≡ Some act → (z : IsSaved s past y) → is_of_act (Client j) z.key past ≡ t → (is_of_act (Client j) z.key past ≡ false) ⊎ (z.key ≡ last_key j x)
own_by false s j x past y act A r z t = inl t
own_by true s j x past y act A r z t = inr (A.last act r z.key t (of_saved s past y z))

own_or : (s : Script) (j : ℕ) (x : ClientState) (past : List Entry) (y : Entry) (act : Going) → IsAround s j x past → x.running ≡ Some act → (z : IsSaved s past y) → (is_of_act (Client j) z.key past ≡ false) ⊎ (z.key ≡ last_key j x)
own_or s j x past y act A r z = own_by (is_of_act (Client j) z.key past) s j x past y act A r z refl

-- a key changes something once
not_again : (s : Script) (past : List Entry) (y : Entry) (z : IsSaved s past y) → HasChange z.key (lines_of past) → ⊥
not_again s past y z h = no_change z.key (lines_of past) (new_behind z.key (onto [] z.front) (lines_of past) z.ideal.fresh) h

-- the call of a change of the waited key is the one for which the client waits
waited_call : (s : Script) (j : ℕ) (x : ClientState) (past : List Entry) (y : Entry) (act : Going) → IsAround s j x past → x.running ≡ Some act → (z : IsSaved s past y) → z.key ≡ last_key j x → z.ideal.call ≡ call_of x act
waited_call s j x past y act A r z same = ap (λ (p : List ℕ × FsCall). p.1) (some_of (z.ideal.user, z.ideal.call) (x.user, call_of x act) (sym z.ideal.one ∙ (ap (λ (k : Key). call_under k (sent_of past)) same ∙ A.under act r)))

-- what is touched is in the scope of the call
own_scope : (s : Script) (past : List Entry) (y : Entry) (f : Fid) (i : ℕ) (b : Body) → IsAgreed s past → (z : HasTouched s past y f) → HasVersion f i b (lines_of past) → InScope z.saved.ideal.call f
own_scope s past y f i b A z had =
    let I = z.saved.ideal in
    let base : List Line = lines.Change (Server z.saved.server) z.saved.key z.saved.count ∷ onto (lines_of past) z.saved.front in
    let sound : Sound I.id I.before (lines_of past) = subst (λ (o : Option Volume). SoundIn I.id o (lines_of past)) I.at (A.sound I.id) in
    scope_of f i b I.id I.before (lines_of past) (InScope I.call f) sound (touch_volume s past y f z) had
    (in_scope (the_user I.user) I.call I.id I.before I.edits I.shown f base I.result I.of_volume (subst (λ (vs : List Version). Grow I.id vs base) z.saved.are z.saved.grow) (subst (λ (vs : List Version). touches f vs ≡ true) z.saved.are z.touched))

-- ---- the client

waits_beside : (s : Script) (j : ℕ) (x : ClientState) (act : Going) (past : List Entry) (y : Entry) → IsBeside s j past y → IsAround s j x past → x.running ≡ Some act → ((f : Fid) → Reached (Client j) f (index_in (last_version f (lines_of past))) past) → Waits j x act past → Waits j x act (y ∷ past)
waits_beside s j x act past y B A r reached W = record {
  given = at_given (last_key j x) past y _
      (λ k f. subst (λ (n : ℕ). n ≤ index_in (last_version f (lines_of past))) (sym (B.seen f)) (reached f).seen)
      (λ newer at older e k f. subst (λ (n : ℕ). n ≤ index_in (last_version f (lines_of older))) (sym (B.seen f)) (W.given newer at older e k f));
  saved = at_saved (last_key j x) past y _
      (λ k f. B.reached f)
      (λ newer at older e k f. let h : Reached (Client j) f (index_in (last_version f (lines_of (at ∷ older)))) past = W.saved newer at older e k f in record {
        made = subst (λ (n : ℕ). n ≤ index_in (last_version f (lines_of (at ∷ older)))) (sym (elim B.told [
          | inl b ↦ B.blank b f
          | inr z ↦ elim (own_or s j x past y act A r z) [
            | inl not_own ↦ B.made z f (inl not_own)
            | inr own ↦ absurd (not_again s past y z (subst (λ (q : Key). HasChange q (lines_of past)) (sym own) (change_of (last_key j x) past newer at older e k)))
          ]
        ])) h.made;
        seen = subst (λ (n : ℕ). n ≤ index_in (last_version f (lines_of (at ∷ older)))) (sym (B.seen f)) h.seen;
      });
  made = λ reading f. elim B.told [
    | inl b ↦ B.blank b f ∙ W.made reading f
    | inr z ↦ elim (own_or s j x past y act A r z) [
      | inl not_own ↦ B.made z f (inl not_own) ∙ W.made reading f
      | inr own ↦ absurd ((of_saved s past y z).changes (ap volume_changed (waited_call s j x past y act A r z own) ∙ reading))
    ]
  ];
}

-- ---- an entry of its cache

drop_base : (s c : Node) (f : Fid) (l : Line) (a b : List Line) → (IsDropped s c f a → IsDropped s c f b) → IsDropped s c f (l ∷ a) → IsDropped s c f (l ∷ b)
drop_base s c f (lines.Drop m g) a b w (inl h) = inl h
drop_base s c f (lines.Drop m g) a b w (inr h) = inr (w h)
drop_base s c f (lines.DropAll m q) a b w (inl h) = inl h
drop_base s c f (lines.DropAll m q) a b w (inr h) = inr (w h)
drop_base s c f (lines.Crash n) a b w (inl h) = inl h
drop_base s c f (lines.Crash n) a b w (inr h) = inr (w h)
drop_base s c f l a b w h = w h

pub dropped_base : (s c : Node) (f : Fid) (ls a b : List Line) → (IsDropped s c f a → IsDropped s c f b) → IsDropped s c f (onto a ls) → IsDropped s c f (onto b ls)
dropped_base s c f [] a b w h = w h
dropped_base s c f (l ∷ ls) a b w h = dropped_base s c f ls (l ∷ a) (l ∷ b) (drop_base s c f l a b w) h

abbrev pub rests_over : (s : Script) (j : ℕ) (f : Fid) (e : CacheEntry) (past : List Entry) (y : Entry) → has_fetched (Client j) f y.lines ≡ false → Rests s j f e past → Rests s j f e (y ∷ past)
rests_over s j f e past y none h = record {
  reply = h.reply;
  by = ap (λ (t : Bool). cond t (given_message y.lines (sent_of past)) (fetch_reply (Client j) f past)) none ∙ h.by;
  grant = grant_over (Client j) f e.expiry h.reply y past h.grant;
  server = h.server;
  home = h.home;
  whole = whole_over f e.index e.status e.body y past (λ b z. has_onto f e.index b y.lines (lines_of past) z) h.whole;
  least = h.least;
  calm = λ d. subst (IsDropped e.server (Client j) f) (sym (ap (λ (t : Bool). cond t (onto [] y.lines) (onto (lines_since_fetch (Client j) f past) y.lines)) none))
      (dropped_base e.server (Client j) f y.lines (since (Client j) f e.expiry h.reply past h.grant) (lines_since_fetch (Client j) f past) h.calm d);
  ran = h.ran;
}

-- a call of the key changes nothing of it, still
run_over : (server : Node) (k : Key) (past : List Entry) (y : Entry) → (HasStopped server y.lines → ⊥) → HasRunKey server k past → HasRunKey server k (y ∷ past)
run_over server k past y going h = record {
  run = record {
    newer = y ∷ h.run.newer;
    at = h.run.at;
    older = h.run.older;
    split = ap (λ (p : List Entry). y ∷ p) h.run.split;
    message = h.run.message;
    given = h.run.given;
    is_call = h.run.is_call;
    to = h.run.to;
    from = h.run.from;
    up = h.run.up;
    node = h.run.node;
    going = λ z. elim (stopped_either server y.lines (lines_on (onto [] h.run.at.lines) h.run.newer) z) [ inl a ↦ going a | inr b ↦ h.run.going b ];
  };
  key = h.key;
}

pub done_over : (server : Node) (f : Fid) (k : Key) (call : FsCall) (past : List Entry) (y : Entry) → (HasStopped server y.lines → ⊥) → IsDone server f k call past → IsDone server f k call (y ∷ past)
done_over server f k call past y going (inl out) = inl out
done_over server f k call past y going (inr (inl has)) = inr (inl (change_later k y.lines (lines_of past) has))
done_over server f k call past y going (inr (inr ran)) = inr (inr (run_over server k past y going ran))

pub may_back : (j : ℕ) (x : ClientState) (f : Fid) (past : List Entry) (y : Entry) → MayHave j x f (y ∷ past) → MayHave j x f past
may_back j x f past y may act r scope has = may act r scope (change_later (last_key j x) y.lines (lines_of past) has)

settled_beside : (s : Script) (j : ℕ) (x : ClientState) (f : Fid) (index : ℕ) (server : Node) (k : Key) (past : List Entry) (y : Entry) → (y.actor ≡ actors.Node (Client j) → ⊥) → (HasStopped server y.lines → ⊥) → Holding s j x f index server k past
    → (l : Key) (user : List ℕ) (call : FsCall) (act : Going) → l.node ≡ Client j → Called s l user call act (y ∷ past) → IsLater l k → ((b : Going) → x.running ≡ Some b → l ≡ last_key j x → ⊥) → IsDone server f l call (y ∷ past)
settled_beside s j x f index server k past y other going H l user call act node (inl z) later out = absurd (other (z.0 ∙ ap actors.Node node))
settled_beside s j x f index server k past y other going H l user call act node (inr z) later out = done_over server f l call past y going (H.settled l user call act node z later out)

held_same : (s : Script) (j : ℕ) (x : ClientState) (f : Fid) (index : ℕ) (server : Node) (k : Key) (past : List Entry) (y : Entry) → (y.actor ≡ actors.Node (Client j) → ⊥) → (HasStopped server y.lines → ⊥) → last_version f (lines_of (y ∷ past)) ≡ last_version f (lines_of past) → Holding s j x f index server k past → Holding s j x f index server k (y ∷ past)
held_same s j x f index server k past y other going same H = record {
  settled = settled_beside s j x f index server k past y other going H;
  changed = λ act r. at_saved (last_key j x) past y _ (λ c. refl) (λ newer at older e c. same ∙ H.changed act r newer at older e c);
  plain = λ may. ap (option_map (λ (v : Version). v.index)) same ∙ H.plain (may_back j x f past y may);
}

changed_volume : (call : FsCall) (id : ℕ) → volume_called call ≡ Some id → (volume_changed call ≡ None → ⊥) → volume_changed call ≡ Some id
changed_volume (calls.FetchData g p w) id e c = absurd (c refl)
changed_volume (calls.FetchAcl g) id e c = absurd (c refl)
changed_volume (calls.FetchStatus g) id e c = absurd (c refl)
changed_volume (calls.GetVolumeStatus n) id e c = absurd (c refl)
changed_volume call id e c = e

-- whether it is the key for which the client waits
waited_by : (o : Option Going) (t : Bool) (j : ℕ) (x : ClientState) (k : Key) → x.running ≡ o → same_key k (last_key j x) ≡ t → ((act : Going) × ((x.running ≡ Some act) × (k ≡ last_key j x))) ⊎ ((b : Going) → x.running ≡ Some b → k ≡ last_key j x → ⊥)
waited_by None t j x k r e = inr (λ b q same. (let no_ : None ≡ Some b = sym r ∙ q in absurd cc))
waited_by (Some act) true j x k r e = inl (act, (r, same_key-true k (last_key j x) e))
waited_by (Some act) false j x k r e = inr (λ b q same. (let yes : same_key k (last_key j x) ≡ true = ap (λ (l : Key). same_key l (last_key j x)) same ∙ same_key-refl (last_key j x) in absurd cc))

pub waited_or : (j : ℕ) (x : ClientState) (k : Key) → ((act : Going) × ((x.running ≡ Some act) × (k ≡ last_key j x))) ⊎ ((b : Going) → x.running ≡ Some b → k ≡ last_key j x → ⊥)
waited_or j x k = waited_by x.running (same_key k (last_key j x)) j x k refl refl

run_later : (s : Script) (past : List Entry) (y : Entry) (v : IsSaved s past y) (server : Node) → Server v.server ≡ server → (ran : HasRunKey server v.key past) → IsLater v.key (called_key ran.run.message.head)
run_later s past y v server is ran =
    later_key s (Server v.server) v.key v.count past (onto [] v.front) (versioned v.versions v.rest) v.ideal
    (record { newer = ran.run.newer; at = ran.run.at; older = ran.run.older; split = ran.run.split; message = ran.run.message; given = ran.run.given; is_call = ran.run.is_call; to = ran.run.to ∙ sym is; from = ran.run.from; up = subst (λ (q : Node). server_boot q (lines_of ran.run.older) ≡ Some ran.run.message.head.boot) (sym is) ran.run.up; node = ran.run.node ∙ ap actors.Node (sym is); going = subst (λ (q : Node). HasStopped q (lines_on (onto [] ran.run.at.lines) ran.run.newer) → ⊥) (sym is) ran.run.going })

-- a change of another call of the client than the one for which it waits: there is none
no_other : (s : Script) (j : ℕ) (x : ClientState) (f : Fid) (index : ℕ) (server : Node) (k : Key) (past : List Entry) (y : Entry) → (z : HasTouched s past y f) → Server z.saved.server ≡ server → z.saved.key.node ≡ Client j → IsLater z.saved.key k → ((b : Going) → x.running ≡ Some b → z.saved.key ≡ last_key j x → ⊥) → Holding s j x f index server k past → ⊥
no_other s j x f index server k past y z is own later out H =
    let v : IsSaved s past y = z.saved in
    let I = v.ideal in
    elim (H.settled v.key I.user I.call I.act own I.called later out) [
      | inl w ↦ w (changed_volume I.call I.id I.of_volume (of_saved s past y v).changes ∙ ap Some (sym (touch_volume s past y f z)))
      | inr w ↦ elim w [
        | inl has ↦ not_again s past y v has
        | inr ran ↦
            (later_not v.key (called_key ran.run.message.head) v.key.epoch v.key.number (ap (λ (q : Key). q.epoch) ran.key) (ap (λ (q : Key). q.number) ran.key) (up_to_same v.key.epoch v.key.number v.key.epoch v.key.number refl refl) (run_later s past y v server is ran))
      ]
    ]

-- the call that the client waits for has changed it
own_held : (s : Script) (j : ℕ) (x : ClientState) (f : Fid) (index : ℕ) (i : ℕ) (b : Body) (server : Node) (k : Key) (past : List Entry) (y : Entry) (act : Going) → IsAround s j x past → (y.actor ≡ actors.Node (Client j) → ⊥) → (HasStopped server y.lines → ⊥) → HasVersion f i b (lines_of past) → (z : HasTouched s past y f) → x.running ≡ Some act → z.saved.key ≡ last_key j x → Holding s j x f index server k past → Holding s j x f index server k (y ∷ past)
own_held s j x f index i b server k past y act A other going had z r same H = record {
  settled = settled_beside s j x f index server k past y other going H;
  changed = λ a q. at_saved (last_key j x) past y _ (λ c. refl) (λ newer at older e c. absurd (not_again s past y z.saved (subst (λ (l : Key). HasChange l (lines_of past)) (sym same) (change_of (last_key j x) past newer at older e c))));
  plain = λ may. absurd (may act r (subst (λ (c : FsCall). InScope c f) (waited_call s j x past y act A r z.saved same) (own_scope s past y f i b A.agreed z had))
      (subst (λ (l : Key). HasChange l (lines_of (y ∷ past))) same (any_change (Server z.saved.server) z.saved.key (lines_of (y ∷ past)) (saved_by s past y z.saved (lines_of past)))));
}

own_fresh : (s : Script) (j : ℕ) (x : ClientState) (f : Fid) (e : CacheEntry) (past : List Entry) (y : Entry) → IsAround s j x past → (y.actor ≡ actors.Node (Client j) → ⊥) → (HasStopped e.server y.lines → ⊥) → (h : Rests s j f e past) → (z : HasTouched s past y f) → Server z.saved.server ≡ e.server → z.saved.key.node ≡ Client j → Holding s j x f e.index e.server (key_of_rest s j f e past h) past
    → IsWithdrawn e.server (Client j) f (onto (since_rest s j f e past h) y.lines) ⊎ Holding s j x f e.index e.server (key_of_rest s j f e past h) (y ∷ past)
own_fresh s j x f e past y A other going h z is own H =
    elim (stopped_or e.server (lines_on (onto [] h.grant.ran.at.lines) h.grant.ran.newer)) [
      | inl st ↦ elim (stops_withdraw e.server (Client j) f h.grant.ran.newer (onto [] h.grant.ran.at.lines) st) [
        | inl v ↦ absurd (stopped_of e.server h.grant.ran.at.lines h.ran.going v)
        | inr w ↦ inl (withdrawn_onto e.server (Client j) f y.lines (since_rest s j f e past h) (w (onto [] h.grant.after)))
      ]
      | inr on ↦
          (let later : IsLater z.saved.key (key_of_rest s j f e past h) = own_later s e.server j past h.grant.ran.newer h.grant.ran.at h.grant.ran.older y h.grant.ran.split h.ran z.saved is own on in
          elim (waited_or j x z.saved.key) [
            | inl w ↦ inr (own_held s j x f e.index e.index h.whole.is e.server (key_of_rest s j f e past h) past y w.0 A other going h.whole.told z w.1.0 w.1.1 H)
            | inr out ↦ absurd (no_other s j x f e.index e.server (key_of_rest s j f e past h) past y z is own later out H)
          ])
    ]

touched_fresh : (t : Bool) (s : Script) (j : ℕ) (x : ClientState) (f : Fid) (e : CacheEntry) (past : List Entry) (y : Entry) → IsAround s j x past → (y.actor ≡ actors.Node (Client j) → ⊥) → (HasStopped e.server y.lines → ⊥) → (h : Rests s j f e past) → (z : HasTouched s past y f) → same_node z.saved.key.node (Client j) ≡ t → Holding s j x f e.index e.server (key_of_rest s j f e past h) past
    → IsWithdrawn e.server (Client j) f (onto (since_rest s j f e past h) y.lines) ⊎ Holding s j x f e.index e.server (key_of_rest s j f e past h) (y ∷ past)
touched_fresh false s j x f e past y A other going h z t H =
    inl (touch_withdraws s past y f e.server (Client j) (since_rest s j f e past h) z (touch_home s past y f e.server z h.home) (λ q. (let yes : same_node z.saved.key.node (Client j) ≡ true = ap (λ (n : Node). same_node n (Client j)) q ∙ same_node-refl (Client j) in absurd cc)))
touched_fresh true s j x f e past y A other going h z t H = own_fresh s j x f e past y A other going h z (touch_home s past y f e.server z h.home) (same_node-true z.saved.key.node (Client j) t) H

fresh_beside : (s : Script) (j : ℕ) (x : ClientState) (f : Fid) (e : CacheEntry) (past : List Entry) (y : Entry) → AreBlank y.lines ⊎ IsSaved s past y → IsAround s j x past → (y.actor ≡ actors.Node (Client j) → ⊥) → (h : Rests s j f e past) → Holding s j x f e.index e.server (key_of_rest s j f e past h) past
    → IsWithdrawn e.server (Client j) f (onto (since_rest s j f e past h) y.lines) ⊎ Holding s j x f e.index e.server (key_of_rest s j f e past h) (y ∷ past)
fresh_beside s j x f e past y told A other h H = elim (stopped_or e.server y.lines) [
  | inl st ↦ elim (stop_withdraws e.server (Client j) f y.lines [] (stopped_in e.server y.lines [] st)) [
    | inl z ↦ absurd z
    | inr w ↦ inl (w (since_rest s j f e past h))
  ]
  | inr going ↦ elim (touch s past y f told) [
    | inl same ↦ inr (held_same s j x f e.index e.server (key_of_rest s j f e past h) past y other going same H)
    | inr z ↦ touched_fresh (same_node z.saved.key.node (Client j)) s j x f e past y A other going h z refl H
  ]
]

made_beside : (t : Bool) (s : Script) (j : ℕ) (x : ClientState) (f : Fid) (i : ℕ) (b : Body) (past : List Entry) (y : Entry) (act : Going) → IsBeside s j past y → IsAround s j x past → x.running ≡ Some act → HasVersion f i b (lines_of past) → (z : IsSaved s past y) → touches f z.versions ≡ t → z.key ≡ last_key j x → MayHave j x f (y ∷ past) → (highest_reached (Client j) f past).made ≡ 0 → (highest_reached (Client j) f (y ∷ past)).made ≡ 0
made_beside false s j x f i b past y act B A r had z t same may none = B.made z f (inr t) ∙ none
made_beside true s j x f i b past y act B A r had z t same may none =
    absurd (may act r (subst (λ (c : FsCall). InScope c f) (waited_call s j x past y act A r z same) (own_scope s past y f i b A.agreed (record { saved = z; touched = t }) had))
    (subst (λ (l : Key). HasChange l (lines_of (y ∷ past))) same (any_change (Server z.server) z.key (lines_of (y ∷ past)) (saved_by s past y z (lines_of past)))))

stands_beside : (s : Script) (j : ℕ) (x : ClientState) (clock now : ℕ) (f : Fid) (e : CacheEntry) (past : List Entry) (y : Entry) → clock ≤ now → IsBeside s j past y → IsAround s j x past → Stands s j x clock f e past → Stands s j x now f e (y ∷ past)
stands_beside s j x clock now f e past y le B A S = record {
  rests = rests_over s j f e past y (B.fetched f) S.rests;
  capped = λ act r. at_saved (last_key j x) past y _ (λ c. B.agreed.ascend.top f e.index S.rests.whole.is (has_onto f e.index S.rests.whole.is y.lines (lines_of past) S.rests.whole.told)) (λ newer at older q c. S.capped act r newer at older q c);
  ordered = λ act r. at_given (last_key j x) past y _
      (λ c st. elim (stop_withdraws e.server (Client j) f y.lines [] st) [ inl z ↦ absurd z | inr w ↦ w (since_rest s j f e past S.rests) ])
      (λ newer at older q c st. elim (stop_withdraws e.server (Client j) f y.lines (lines_on (onto [] at.lines) newer) st) [
        | inl z ↦ withdrawn_onto e.server (Client j) f y.lines (since_rest s j f e past S.rests) (S.ordered act r newer at older q c z)
        | inr w ↦ w (since_rest s j f e past S.rests)
      ]);
  made = λ act r may. elim B.told [
    | inl b ↦ B.blank b f ∙ S.made act r (may_back j x f past y may)
    | inr z ↦ elim (own_or s j x past y act A r z) [
      | inl not_own ↦ B.made z f (inl not_own) ∙ S.made act r (may_back j x f past y may)
      | inr own ↦ made_beside (touches f z.versions) s j x f e.index S.rests.whole.is past y act B A r S.rests.whole.told z refl own may (S.made act r (may_back j x f past y may))
    ]
  ];
  low = λ lasts. subst (λ (n : ℕ). n ≤ e.index) (sym (B.seen f)) (S.low (omega arith));
  fresh = λ lasts. elim (S.fresh (omega arith)) [
    | inl w ↦ inl (withdrawn_onto e.server (Client j) f y.lines (since_rest s j f e past S.rests) w)
    | inr H ↦ fresh_beside s j x f e past y B.told A B.actor S.rests H
  ];
}

pub trusts_beside : (s : Script) (j : ℕ) (x : ClientState) (clock now : ℕ) (past : List Entry) (y : Entry) → clock ≤ now → IsBeside s j past y → IsAround s j x past → Trusts s j x clock past → Trusts s j x now (y ∷ past)
trusts_beside s j x clock now past y le B A T = record {
  entries = λ f e found. stands_beside s j x clock now f e past y le B A (T.entries f e found);
  waits = λ act r. waits_beside s j x act past y B A r T.reached (T.waits act r);
  reached = B.reached;
}
