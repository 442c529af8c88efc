-- What was acknowledged survives, however many servers a cell has: each server keeps its ideal volumes, and so does what a step that was
-- interrupted may have left; the versions that were made, or later ones, are in these.
use Rattle.spec_ideal.specs.SetUp.{nothing_set}
use Rattle.law_legal.proofs.VolumesAreIdeal.{held_at, VolumesIn}
use Rattle.law_legal.proofs.OwedLoadBreaks.{onto_both}
use Rattle.spec_history.specs.declared.acts.Written.{Written}
use Rattle.spec_history.specs.declared.lines.Line.{Line}
use Rattle.spec_history.specs.declared.lines.Line.TheVariants as lines
use Rattle.spec_history.specs.declared.scripts.Script.{Script}
use Rattle.spec_ideal.specs.Operations.{Caller, changes, op, the_user, volume_called}
use Rattle.spec_ideal.specs.Tables.{get}
use Rattle.spec_ideal.specs.Told.{fid_at}
use Rattle.spec_ideal.specs.Volumes.{Amend, Edit, VnodeKind, Vnode, Volume, a_directory, a_file, a_link, amended, amends_at, body_by, version_at, versions_by}
use Rattle.law_legal.proofs.ClientSent.{called_one, each_front}
use Rattle.law_legal.proofs.BaseLaws.{Each, IfCall, some_of}
use Rattle.law_legal.proofs.VersionsAscend.{run_versions}
use Rattle.law_legal.proofs.RunsAreLegal.{run_legal}
use Rattle.law_legal.proofs.VolumeEdits.{SoundIn, none_has}
use Rattle.law_legal.proofs.BaseWords.{IsOne}
use Rattle.law_legal.proofs.ClientCallsByTable.{IsPlaced, placed, server_at}
use Rattle.law_legal.proofs.ActCallsInRuns.{KnownAsked}
use Rattle.law_legal.proofs.ServerRemains.{accepts, survives}
use Rattle.law_legal.proofs.VersionsLatest.{has_more, has_onto}
use Rattle.law_legal.proofs.RunSetUp.{first_passed}
use Rattle.law_legal.proofs.ActIsMade.{MadeBy, acknowledged_by, good_in}
use Rattle.law_legal.proofs.VolumeOperations.{Storing, amend_of, stored_kind, storing}
use Rattle.law_legal.specs.Grants.{change_below}
use Rattle.law_legal.specs.Ideal.{IsAccepted, HasVersion, IsPutAt, call_in, call_under, set_up_entry, version_in, volume_after}
use Rattle.law_legal.specs.Laws.{AcknowledgedAreKept, HasMade, IsClosed, IsHeldStill, IsOfKey}
use Rattle.law_legal.specs.Legal.{AreGood, GoodChange, HasChange, LegalAfter, as_asked, versions_first}
use Rattle.law_legal.specs.Once.{past_of}
use Rattle.law_legal.specs.Past.{is_called, lines_of, onto, sent_of}
use Rattle.afs_num.specs.declared.calls.FsCall.{FsCall}
use Rattle.afs_num.specs.declared.calls.FsCall.TheVariants as calls
use Rattle.afs_num.specs.declared.histories.Actor.{Actor}
use Rattle.afs_num.specs.declared.histories.Body.{Body}
use Rattle.afs_num.specs.declared.histories.Body.TheVariants as bodies
use Rattle.afs_num.specs.declared.histories.Version.{Version}
use Rattle.afs_num.specs.declared.messages.Message.{Message}
use Rattle.afs_num.specs.declared.types.Fid.{Fid}
use Rattle.afs_num.specs.declared.types.Key.{Key}
use Rattle.afs_num.specs.declared.types.Node.{Node}
use Rattle.afs_num.specs.declared.types.Node.TheVariants.{Server}
use Rattle.spec_history.specs.Written.{bytes_in}
use Rattle.spec_rows.specs.Going.{Going, asked, stored_whole}
use Rattle.spec_rows.specs.Runs.{Cell, Entry, RunsTo, locations}
use Rattle.std.proofs.Common.{◌≡◌, ℕ, ◌⊎◌, inl, inr, ◌+◌, Bool, true, false, cond, length, List, [], ◌∷◌, ◌++◌, Option, Some, None, pos, refl, sym, ap, subst, append-nil, ◌∙◌}

-- ---- further lines

has_behind : (f : Fid) (i : ℕ) (b : Body) (past es : List Entry) → HasVersion f i b (lines_of past) → HasVersion f i b (lines_of (past_of past es))
has_behind f i b past [] h = h
has_behind f i b past (e ∷ es) h = has_behind f i b (e ∷ past) es (has_onto f i b e.lines (lines_of past) h)

-- a version that was made was told
made_told : (k : Key) (v : Version) (ls : List Line) → HasMade k v ls → HasVersion v.fid v.index v.body ls
made_told k v [] h = h
made_told k v (lines.Version w ∷ ls) (inl h) = inl (ap (λ (x : Version). x.fid) h.0, (ap (λ (x : Version). x.index) h.0, ap (λ (x : Version). x.body) h.0))
made_told k v (lines.Version w ∷ ls) (inr h) = inr (made_told k v ls h)
made_told k v (l ∷ ls) h = has_more v.fid v.index v.body (version_in l) ls (made_told k v ls h)

onto_front : (o a : List Line) → onto o a ≡ onto [] a ++ o
onto_front o a = sym (onto_rest [] o a)
  where
    onto_rest : (p o a : List Line) → onto p a ++ o ≡ onto (p ++ o) a
    onto_rest p o [] = refl
    onto_rest p o (l ∷ a) = onto_rest (l ∷ p) o a

past_both : (past a b : List Entry) → past_of past (a ++ b) ≡ past_of (past_of past a) b
past_both past [] b = refl
past_both past (e ∷ a) b = past_both (e ∷ past) a b

-- ---- a version that was told is kept

-- its volume is at a server
record IsAtHome (s : Script) (id : ℕ) : Type 0 where
  server : ℕ
  at : IsPutAt id (Server server) s.volumes

home_by : (s : Script) (past : List Entry) (v : Version) → SoundIn v.fid.volume (volume_after v.fid.volume past) (lines_of past) → (((i : ℕ) → IsPutAt v.fid.volume (Server i) s.volumes → ⊥) → volume_after v.fid.volume past ≡ None) → HasVersion v.fid v.index v.body (lines_of past) → IsPlaced v.fid.volume s.volumes (locations s) → IsAtHome s v.fid.volume
home_by s past v sound none told (inl at) = record { server = server_at (locations s) v.fid.volume; at = at }
home_by s past v sound none told (inr away) = absurd (none_has v.fid v.index v.body (lines_of past) (subst (λ (o : Option Volume). SoundIn v.fid.volume o (lines_of past)) (none (λ i. away (Server i))) sound v.fid.vnode v.fid.unique) told)

version_kept : (s : Script) (h : List Entry) (end : Cell) (v : Version) → RunsTo h s end → HasVersion v.fid v.index v.body (lines_of (past_of (set_up_entry s ∷ []) h)) → IsHeldStill s v end.hosts (past_of (set_up_entry s ∷ []) h)
version_kept s h end v r told =
    let past : List Entry = past_of (set_up_entry s ∷ []) h in
    let V : VolumesIn s end past = (held_at s h end r).1 in
    let here : IsAtHome s v.fid.volume = home_by s past v (V.sound v.fid.volume) (V.none v.fid.volume) told (placed v.fid.volume s.volumes) in
    let home : IsAccepted s v.fid.volume (Server here.server) (lines_of past) = accepts s v.fid.volume (Server here.server) (lines_of past) here.at in
    let k = run_versions s h end r here.server v home told in
    record { server = here.server; home = home; kept = k.0; after = k.1 }

-- ---- the change of a key, in a legal history

made_more : (k : Key) (v : Version) (l : Line) (o : List Line) → HasMade k v o → HasMade k v (l ∷ o)
made_more k v (lines.Version w) o h = inr h
made_more k v l o h = h

made_onto : (k : Key) (v : Version) (ls o : List Line) → HasMade k v o → HasMade k v (onto o ls)
made_onto k v [] o h = h
made_onto k v (l ∷ ls) o h = made_onto k v ls (l ∷ o) (made_more k v l o h)

-- the first version behind a change stands under it
first_made : (k : Key) (v : Version) (vs : List Version) (ls rest o : List Line) → versions_first (ls ++ rest) ≡ v ∷ vs → versions_first rest ≡ [] → IsOfKey k (change_below o) → HasMade k v (onto o ls)
first_made k v vs [] rest o e none key = let no_ : [] ≡ v ∷ vs = sym none ∙ e in absurd cc
first_made k v vs (lines.Version w ∷ ls) rest o e none key = let same : w ≡ v = cc in made_onto k v ls (lines.Version w ∷ o) (inl (same, key))
first_made k v vs (l ∷ ls) rest o e none key = absurd cc

-- a good change under this key, which carried a call of these messages
record IsFound (s : Script) (k : Key) (sent : List Message) (ls : List Line) : Type 0 where
  server : Node
  count : ℕ
  past : List Entry
  own : List Line
  next : List Line
  good : GoodChange s server k count past own next
  under : (v : Version) (vs : List Version) → versions_first next ≡ v ∷ vs → HasMade k v ls
  carried : (x : List ℕ × FsCall) → call_under k (sent_of past) ≡ Some x → call_under k sent ≡ Some x

first_found : (s : Script) (q : Node) (k l : Key) (count : ℕ) (past : List Entry) (own ls rest o : List Line) → l ≡ k → GoodChange s q l count past own (ls ++ rest) → versions_first rest ≡ [] → IsFound s k (sent_of past) (onto (lines.Change q l count ∷ o) ls)
first_found s q k l count past own ls rest o e good none = record {
  server = q;
  count = count;
  past = past;
  own = own;
  next = ls ++ rest;
  good = subst (λ (x : Key). GoodChange s q x count past own (ls ++ rest)) e good;
  under = λ v vs is. first_made k v vs ls rest (lines.Change q l count ∷ o) is none e;
  carried = λ x at. at;
}

in_lines : (s : Script) (k : Key) (who : Actor) (past : List Entry) (own ls rest o : List Line) → AreGood s who past own (ls ++ rest) → versions_first rest ≡ [] → HasChange k (onto o ls) → HasChange k o ⊎ IsFound s k (sent_of past) (onto o ls)
in_lines s k who past own [] rest o good none h = inl h
in_lines s k who past own (lines.Change q l count ∷ ls) rest o good none h = elim (in_lines s k who past (lines.Change q l count ∷ own) ls rest (lines.Change q l count ∷ o) good.1 none h) [
  | inl x ↦ elim x [
    | inl e ↦ inr (first_found s q k l count past own ls rest o e good.0.1 none)
    | inr old ↦ inl old
  ]
  | inr found ↦ inr found
]
in_lines s k who past own (l ∷ ls) rest o good none h = elim (in_lines s k who past (l ∷ own) ls rest (l ∷ o) good.1 none h) [ inl x ↦ inl x | inr found ↦ inr found ]

-- messages and lines behind it
more_carried : (k : Key) (x : List ℕ × FsCall) (ms ns : List Message) → call_under k ms ≡ Some x → call_under k (ms ++ ns) ≡ Some x
more_carried k x [] ns e = absurd cc
more_carried k x (m ∷ ms) ns e = more_by (is_called k m.head m.carried) (call_in m.carried) x (call_under k ms) (call_under k (ms ++ ns)) e (more_carried k x ms ns)
  where
    more_by : (t : Bool) (a : Option (List ℕ × FsCall)) (x : List ℕ × FsCall) (o p : Option (List ℕ × FsCall)) → cond t a o ≡ Some x → (o ≡ Some x → p ≡ Some x) → cond t a p ≡ Some x
    more_by true a x o p e w = e
    more_by false a x o p e w = w e

found_more : (s : Script) (k : Key) (past : List Entry) (e : Entry) → IsFound s k (sent_of past) (lines_of past) → IsFound s k (sent_of (e ∷ past)) (lines_of (e ∷ past))
found_more s k past e h = record {
  server = h.server;
  count = h.count;
  past = h.past;
  own = h.own;
  next = h.next;
  good = h.good;
  under = λ v vs is. made_onto k v e.lines (lines_of past) (h.under v vs is);
  carried = λ x at. more_carried k x (sent_of past) e.sent (h.carried x at);
}

-- those of an entry are as if they were sent before it
found_sent : (s : Script) (k : Key) (past : List Entry) (e : Entry) (ls : List Line) → IsFound s k (sent_of past) ls → IsFound s k (sent_of (e ∷ past)) ls
found_sent s k past e ls h = record {
  server = h.server;
  count = h.count;
  past = h.past;
  own = h.own;
  next = h.next;
  good = h.good;
  under = h.under;
  carried = λ x at. more_carried k x (sent_of past) e.sent (h.carried x at);
}

found_behind : (s : Script) (k : Key) (past es : List Entry) → IsFound s k (sent_of past) (lines_of past) → IsFound s k (sent_of (past_of past es)) (lines_of (past_of past es))
found_behind s k past [] h = h
found_behind s k past (e ∷ es) h = found_behind s k (e ∷ past) es (found_more s k past e h)

in_past : (s : Script) (k : Key) (past es : List Entry) → LegalAfter s past es → HasChange k (lines_of (past_of past es)) → HasChange k (lines_of past) ⊎ IsFound s k (sent_of (past_of past es)) (lines_of (past_of past es))
in_past s k past [] legal h = inl h
in_past s k past (e ∷ es) legal h = elim (in_past s k (e ∷ past) es legal.1 h) [
  | inl x ↦ elim (in_lines s k e.actor past [] e.lines [] (lines_of past) (subst (AreGood s e.actor past []) (sym (append-nil e.lines)) legal.0.0.0) refl x) [
    | inl old ↦ inl old
    | inr found ↦ inr (found_behind s k (e ∷ past) es (found_sent s k past e (lines_of (e ∷ past)) found))
  ]
  | inr found ↦ inr found
]

-- the set-up has no change
set_up_changes : (s : Script) (k : Key) → HasChange k (lines_of (set_up_entry s ∷ [])) → ⊥
set_up_changes s k h = first_passed (λ (o : List Line). HasChange k o → ⊥) (λ v o w. w) s.volumes [] (λ x. x) h

legal_front : (s : Script) (past before es : List Entry) → LegalAfter s past (before ++ es) → LegalAfter s past before
legal_front s past [] es h = tt
legal_front s past (e ∷ before) es h = (h.0, legal_front s (e ∷ past) before es h.1)

-- ---- what a close stores

stored_call : (call : FsCall) (f : Fid) (bytes : List ℕ) → as_asked call ≡ stored_whole f bytes → call ≡ stored_whole f bytes
stored_call (calls.GiveUpCallBacks fids callbacks) f bytes e = absurd cc
stored_call call f bytes e = e

-- the version that it makes
abbrev stored_version : ℕ → Fid → List ℕ → Volume → Vnode → Version
stored_version id f bytes v x = version_at id f.vnode (amended (v.counter + 1) (amend_of (stored_whole f bytes)) x)

one_version : (id n : ℕ) (a : Amend) (v : Volume) (x : Vnode) (o : Option Vnode) → o ≡ Some x → (amends_at id n a v o).versions ++ [] ≡ version_at id n (amended (v.counter + 1) a x) ∷ []
one_version id n a v x None e = absurd cc
one_version id n a v x (Some y) e = ap (λ (z : Vnode). version_at id n (amended (v.counter + 1) a z) ∷ []) (some_of y x e)

-- it is of the file, and has the bytes
record IsStoredBy (id : ℕ) (f : Fid) (bytes : List ℕ) (v : Volume) (es : List Edit) : Type 0 where
  vnode : Vnode
  versions : versions_by id es v ≡ stored_version id f bytes v vnode ∷ []
  fid : (stored_version id f bytes v vnode).fid ≡ f
  body : (stored_version id f bytes v vnode).body ≡ bodies.File bytes

file_body : (id : ℕ) (f : Fid) (bytes : List ℕ) (v : Volume) (x : Vnode) (k : VnodeKind) → k ≡ a_file → body_by k (amended (v.counter + 1) (amend_of (stored_whole f bytes)) x) ≡ bodies.File bytes
file_body id f bytes v x a_file e = refl
file_body id f bytes v x a_directory e = absurd cc
file_body id f bytes v x a_link e = absurd cc

stored_by : (id : ℕ) (caller : Caller) (f : Fid) (bytes : List ℕ) (v : Volume) (es : List Edit) (shown : ℕ) → f.volume ≡ id → op id caller (stored_whole f bytes) v ≡ changes es shown → IsStoredBy id f bytes v es
stored_by id caller f bytes v es shown of is =
    let q : Storing f (amend_of (stored_whole f bytes)) v es shown = storing id caller (stored_whole f bytes) f v es shown refl is in
    record {
      vnode = q.vnode;
      versions = ap (λ (xs : List Edit). versions_by id xs v) q.edits ∙ one_version id f.vnode (amend_of (stored_whole f bytes)) v q.vnode (get f.vnode v.vnodes) q.found;
      fid = ap (λ (i : ℕ). fid_at i f.vnode q.vnode.unique) (sym of) ∙ ap (λ (u : ℕ). fid_at f.volume f.vnode u) q.unique;
      body = file_body id f bytes v q.vnode q.vnode.kind (stored_kind id caller f nothing_set (pos 0) (pos (length bytes)) (pos (length bytes)) bytes v es shown is q.vnode q.found);
    }

one_call : (a b : List ℕ × FsCall) → Some a ≡ Some b → a.1 ≡ b.1
one_call a b e = ap (λ (p : List ℕ × FsCall). p.1) (some_of a b e)

sent_front : (P : Message → Type 0) (past es : List Entry) → Each P (sent_of (past_of past es)) → Each P (sent_of past)
sent_front P past [] h = h
sent_front P past (e ∷ es) h = (each_front P (sent_of past) e.sent (sent_front P (e ∷ past) es h)).0

carried_behind : (k : Key) (x : List ℕ × FsCall) (past es : List Entry) → call_under k (sent_of past) ≡ Some x → call_under k (sent_of (past_of past es)) ≡ Some x
carried_behind k x past [] e = e
carried_behind k x past (y ∷ es) e = carried_behind k x (y ∷ past) es (more_carried k x (sent_of past) y.sent e)

closed_by : (s : Script) (act : Going) (contents : Written) (k : Key) (f : Fid) (user : List ℕ) (call : FsCall) (sent : List Message) (ls : List Line) → IsFound s k sent ls → call_under k sent ≡ Some (user, call) → call ≡ stored_whole f (bytes_in contents) → asked act ≡ stored_whole f (bytes_in contents) → IsClosed act contents k ls
closed_by s act contents k f user call sent ls found at is asks =
    let g = found.good.ideal in
    let bytes : List ℕ = bytes_in contents in
    let same : g.call ≡ stored_whole f bytes = one_call (g.user, g.call) (user, call) (sym (found.carried (g.user, g.call) g.one) ∙ at) ∙ is in
    let of : f.volume ≡ g.id = some_of f.volume g.id (sym (ap volume_called same) ∙ g.of_volume) in
    let q : IsStoredBy g.id f bytes g.before g.edits = stored_by g.id (the_user g.user) f bytes g.before g.edits g.shown of (subst (λ (c : FsCall). op g.id (the_user g.user) c g.before ≡ changes g.edits g.shown) same g.result) in
    let v : Version = stored_version g.id f bytes g.before q.vnode in
    record { version = v; made = found.under v [] (g.versions ∙ q.versions); asked_for = asks ∙ ap (λ (h : Fid). stored_whole h bytes) (sym q.fid); body = q.body }

-- ---- the law

pub run_survives : AcknowledgedAreKept
run_survives s history before after e first rest c code act end cell r split line runs is zero =
    let legal : LegalAfter s (set_up_entry s ∷ []) history = run_legal s history end cell r in
    let past : List Entry = past_of (set_up_entry s ∷ []) before in
    let own : List Line = onto [] first in
    let m : MadeBy s c act past own = acknowledged_by s history before after e first rest c code act legal split line runs is zero in
    let k : Key = m.made.key in
    let a : KnownAsked s end (past_of (set_up_entry s ∷ []) history) = (held_at s history end r).0 in
    let ones : Each (IfCall (IsOne end.sent)) (sent_of past) =
    sent_front (IfCall (IsOne end.sent)) past (e ∷ after) (subst (λ (es : List Entry). Each (IfCall (IsOne end.sent)) (sent_of es)) (ap (past_of (set_up_entry s ∷ [])) split ∙ past_both (set_up_entry s ∷ []) before (e ∷ after)) (subst (Each (IfCall (IsOne end.sent))) (sym a.0.hears.told) a.1.ones)) in
    let all : past_of (set_up_entry s ∷ []) history ≡ past_of past (e ∷ after) = ap (past_of (set_up_entry s ∷ [])) split ∙ past_both (set_up_entry s ∷ []) before (e ∷ after) in
    let here : onto (lines_of past) first ≡ own ++ lines_of past = onto_front (lines_of past) first in
    let good : AreGood s e.actor past [] (first ++ lines.Answer c code ∷ rest) = subst (AreGood s e.actor past []) line (good_in s (set_up_entry s ∷ []) before after e (subst (LegalAfter s (set_up_entry s ∷ [])) split legal)) in
    let found : IsFound s k (sent_of past) (onto (lines_of past) first) =
    elim (in_lines s k e.actor past [] first (lines.Answer c code ∷ rest) (lines_of past) good refl (subst (HasChange k) (sym here) m.made.told)) [
      | inl old ↦ elim (in_past s k (set_up_entry s ∷ []) before (legal_front s (set_up_entry s ∷ []) before (e ∷ after) (subst (LegalAfter s (set_up_entry s ∷ [])) split legal)) old) [
        | inl none ↦ absurd (set_up_changes s k none)
        | inr x ↦ found_lines s k (sent_of past) (lines_of past) first x
      ]
      | inr x ↦ x
    ] in
    record {
      made = m.made;
      closed = λ o contents close. let f = m.stores o contents close in
          closed_by s act contents k f.0 m.made.user m.made.call end.sent (own ++ lines_of past) (found_at_end s k (sent_of past) end.sent (own ++ lines_of past) (subst (IsFound s k (sent_of past)) here found) (λ x at. subst (λ (ms : List Message). call_under k ms ≡ Some x) (ap sent_of (sym all) ∙ a.0.hears.told) (carried_behind k x past (e ∷ after) at)))
          (called_one m.client.0 k m.made.user m.made.call end.sent past (m.made.node ∙ m.client.1) m.made.called ones) (stored_call m.made.call f.0 (bytes_in contents) (m.asks ∙ f.1)) f.1;
      survive = λ i. survives s history end i r;
      versions = λ v has. version_kept s history end v r (subst (λ (es : List Entry). HasVersion v.fid v.index v.body (lines_of es)) (sym all) (has_behind v.fid v.index v.body (e ∷ past) after
          (subst (λ (ls : List Line). HasVersion v.fid v.index v.body (onto (lines_of past) ls)) (sym line) (subst (HasVersion v.fid v.index v.body) (sym (onto_both (lines_of past) first (lines.Answer c code ∷ rest))) (has_onto v.fid v.index v.body (lines.Answer c code ∷ rest) (onto (lines_of past) first) (subst (HasVersion v.fid v.index v.body) (sym here) (made_told k v (own ++ lines_of past) has)))))));
    }
  where
    found_lines : (s : Script) (k : Key) (sent : List Message) (ls more : List Line) → IsFound s k sent ls → IsFound s k sent (onto ls more)
    found_lines s k sent ls more h = record { server = h.server; count = h.count; past = h.past; own = h.own; next = h.next; good = h.good; under = λ v vs is. made_onto k v more ls (h.under v vs is); carried = h.carried }

    found_at_end : (s : Script) (k : Key) (sent all : List Message) (ls : List Line) → IsFound s k sent ls → ((x : List ℕ × FsCall) → call_under k sent ≡ Some x → call_under k all ≡ Some x) → IsFound s k all ls
    found_at_end s k sent all ls h w = record { server = h.server; count = h.count; past = h.past; own = h.own; next = h.next; good = h.good; under = h.under; carried = λ x at. w x (h.carried x at) }
