-- Each step of a client tells what is asked of it of its cache and its reads.
use Rattle.spec_history.specs.declared.acts.Operand.{Operand}
use Rattle.law_legal.proofs.ActFollows.{none_runs, more_not}
use Rattle.spec_history.specs.declared.lines.Line.{Line}
use Rattle.spec_history.specs.declared.lines.Line.TheVariants as lines
use Rattle.spec_history.specs.declared.scripts.Script.{Script}
use Rattle.spec_ideal.specs.Operations.{is_number, the_user, volume_changed}
use Rattle.law_legal.proofs.ActLines.{last_key}
use Rattle.law_legal.proofs.KeptApart.{found_filter}
use Rattle.law_legal.proofs.ClientReplyArrives.{Arrives, index_is, Based, fetched}
use Rattle.law_legal.proofs.VersionsAscend.{Ascend}
use Rattle.law_legal.proofs.BaseLaws.{both, found-cached-fid, found-refreshed, same_fid-refl, same_fid-true, some_of, yes_no}
use Rattle.law_legal.proofs.VolumeEdits.{index_in}
use Rattle.spec_ideal.specs.Replies.{change_reply}
use Rattle.law_legal.proofs.BaseWords.{AreApart, InScope, IsBody, IsKeptBody, IsWhole}
use Rattle.law_legal.proofs.ReadFetches.{been_over, has_over}
use Rattle.law_legal.proofs.VolumesAreIdeal.{AreBlank}
use Rattle.law_legal.proofs.KeptRests.{mapped, not_true}
use Rattle.law_legal.proofs.KeptIsLookedAt.{ReadsUpTo, both_up, seen_up}
use Rattle.law_legal.proofs.KeptByOwnStep.{HasDone}
use Rattle.law_legal.proofs.VolumeOperations.{changes_is}
use Rattle.law_legal.proofs.KeptStepAsks.{Kind, Result}
use Rattle.law_legal.proofs.KeptResolves.{done_apart, done_reading, done_refused, done_scope}
use Rattle.law_legal.proofs.ReadOwnStores.{IsStore, done_of}
use Rattle.law_legal.proofs.ReadRows.{dropped_blank, dropped_unread, dropped_zero, moved_result, quiet_result, unread_shown, unread_up}
use Rattle.law_legal.proofs.ServerTells.{TellsNo, made_well}
use Rattle.law_legal.proofs.KeptTrusting.{Trusts}
use Rattle.law_legal.specs.Grants.{has_fetched}
use Rattle.law_legal.specs.Ideal.{HasBeen, HasVersion, IsLast, is_zero_code, last_version, highest_reached, highest_over}
use Rattle.law_legal.specs.Past.{code_told, lines_of}
use Rattle.afs_num.specs.Fids.{same_fid}
use Rattle.afs_num.specs.Nodes.{same_node}
use Rattle.afs_num.specs.declared.calls.AfsFetchStatus.{AfsFetchStatus}
use Rattle.afs_num.specs.declared.calls.FsCall.{FsCall}
use Rattle.afs_num.specs.declared.calls.FsReply.{FsReply}
use Rattle.afs_num.specs.declared.histories.Actor.TheVariants as actors
use Rattle.afs_num.specs.declared.histories.Body.{Body}
use Rattle.afs_num.specs.declared.histories.Body.TheVariants as bodies
use Rattle.afs_num.specs.declared.histories.ReadBody.TheVariants as seen
use Rattle.afs_num.specs.declared.messages.Carried.TheVariants as carried
use Rattle.afs_num.specs.declared.messages.Message.{Message}
use Rattle.afs_num.specs.declared.messages.Reply.TheVariants as tell
use Rattle.afs_num.specs.declared.types.Code.{Code}
use Rattle.afs_num.specs.declared.types.Fid.{Fid}
use Rattle.afs_num.specs.declared.types.Node.TheVariants.{Client}
use Rattle.spec_rows.specs.ClientRow.{call_of, calls_again, dead_code, dropped, dropped_after, ended, find_cached, with_given, given_up_in, gives_by, is_trusted, left_after, left_in, refreshed, status_told, takes_stored, timeout_line, whole, zero_code, asks_where}
use Rattle.spec_rows.specs.Going.{ClientState, Going, next}
use Rattle.spec_rows.specs.Runs.{Cell, Entry}
use Rattle.spec_rows.specs.Scopes.{may_change}
use Rattle.spec_records.specs.Durable.{time_in}
use Rattle.spec_rows.specs.ServerRow.{carried_by, promise_ticks, result, stored_by}
use Rattle.spec_rows.specs.States.{CacheEntry, Gift}
use Rattle.spec_rows.specs.Steps.{Step}
use Rattle.std.proofs.Common.{◌≡◌, ◌≤◌, ◌<◌, ◌+◌, ℕ, inl, inr, Bool, true, false, cond, not, eq-eqb, nat_eq, ltb-true, lt-ltb, ℤ, List, [], ◌∷◌, ◌++◌, Option, Some, None, pos, refl, sym, ap, subst, ◌∙◌, arith}
use Rattle.std.specs.Prelude.{◌&&◌, ◌||◌}

-- ---- what is given

abbrev pub Env : Script → Cell → List Entry → ℕ → Type 0
Env s c past n = Based s c past × Trusts s n (c.clients n) c.clock past

pub either_result : (t : Bool) (s : Script) (n : ℕ) (x : ClientState) (clock : ℕ) (past : List Entry) (a b : Step ClientState) → Result s n x clock past a → Result s n x clock past b → Result s n x clock past (cond t a b)
either_result true s n x clock past a b h k = h
either_result false s n x clock past a b h k = k

pub and_off : (a b : Bool) → b ≡ false → (a && b) ≡ false
and_off true b e = e
and_off false b e = refl

-- ---- it waits on

pub told_result : (s : Script) (c : Cell) (past : List Entry) (n place : ℕ) (y : ClientState) (ms : List Message) → Env s c past n → y.running ≡ (c.clients n).running → y.last ≡ (c.clients n).last → y.cache ≡ (c.clients n).cache → Result s n (c.clients n) c.clock past (record { state = y; lines = lines.Given place ∷ []; sent = ms })
told_result s c past n place y ms E run last same = quiet_result s n (c.clients n) c.clock past (record { state = y; lines = lines.Given place ∷ []; sent = ms }) E.1 refl refl tt refl run last (λ f e found. ap (find_cached f) (sym same) ∙ found)

-- it calls again, behind a call that changes nothing
pub again_result : (s : Script) (c : Cell) (past : List Entry) (n place : ℕ) (y : ClientState) (act : Going) → Env s c past n → (c.clients n).running ≡ Some act → volume_changed (call_of (c.clients n) act) ≡ None → y.last ≡ (c.clients n).last → y.cache ≡ (c.clients n).cache → Result s n (c.clients n) c.clock past (calls_again (Client n) y place act)
again_result s c past n place y act E r reading last same =
    let x : ClientState = c.clients n in
    let st : Step ClientState = calls_again (Client n) y place act in
    moved_result s n x c.clock past st refl (λ z run l. more_not st.state.last x.last (ap (λ (i : ℕ). i + 1) last) l) (λ b run f. (E.1.waits act r).made reading f)
    (λ f e found. let there : find_cached f x.cache ≡ Some e = ap (find_cached f) (sym same) ∙ found in
    record { found = there; done' = λ lasts S. inr (done_reading n x act f e.server past r reading); low = λ lasts. (E.1.entries f e there).low lasts })

-- ---- its act ends

-- a refusal
pub either_parts : (a b : Bool) → (a || b) ≡ false → (a ≡ false) × (b ≡ false)
either_parts true b e = absurd cc
either_parts false b e = (refl, e)

zero_code_not : (code : Code) → Some code.0 ≡ Some (pos 0) → is_zero_code code ≡ false → ⊥
zero_code_not code e none = let is : code.0 ≡ pos 0 = some_of code.0 (pos 0) e in let yes : is_number code.0 0 ≡ true = ap (λ (i : ℤ). is_number i 0) is in let no_ : false ≡ true = sym none ∙ yes in absurd cc

refused_tells : (s : Script) (c : Cell) (past : List Entry) (n : ℕ) (act : Going) (m : Message) (code : Code) → (a : Arrives s c past n act m) → m.carried ≡ carried.Refusal code → is_zero_code code ≡ false → TellsNo m (a.tells.ran.at ∷ a.tells.ran.older)
refused_tells s c past n act m code a is none = elim a.tells.says [
  | inl y ↦ y
  | inr y ↦ elim y [
    | inl z ↦ (let no_ : carried.Refusal code ≡ carried.Reply _ = sym is ∙ z.is in absurd cc)
    | inr z ↦ absurd (zero_code_not code (sym (ap code_told is) ∙ (ap code_told z.is ∙ (ap (λ (k : FsCall). code_told (carried_by (z.clock + promise_ticks) (change_reply z.change.id z.change.caller (time_in (stored_by z.clock z.change)) (result z.change) z.change.shown k))) z.making.called
        ∙ (made_well a.tells.call (z.clock + promise_ticks) z.change.id z.change.caller (time_in (stored_by z.clock z.change)) (result z.change) z.change.shown (changes_is z.change.id (the_user a.tells.user) a.tells.call z.change.before.volume z.change.edits z.change.shown z.making.of_volume z.making.result)).told))) none)
  ]
]

pub refuse_result : (s : Script) (c : Cell) (past : List Entry) (n place : ℕ) (act : Going) (m : Message) (code : Code) → Env s c past n → (a : Arrives s c past n act m) → m.carried ≡ carried.Refusal code → is_zero_code code ≡ false
    → Result s n (c.clients n) c.clock past (record { state = ended (c.clients n) (c.clients n).cache; lines = lines.Given place ∷ lines.Answer (Client n) code ∷ []; sent = [] })
refuse_result s c past n place act m code E a is none =
    let x : ClientState = c.clients n in
    let st : Step ClientState = record { state = ended x x.cache; lines = lines.Given place ∷ lines.Answer (Client n) code ∷ []; sent = [] } in
    moved_result s n x c.clock past st refl (λ z run l. none_runs st.state.running act refl (run ∙ a.runs)) (λ b run f. absurd (none_runs st.state.running b refl run))
    (λ f e found. record {
      found = found;
      done' = λ lasts S. done_refused s c past n act m f e E.0 a (refused_tells s c past n act m code a is none) S;
      low = λ lasts. seen_up (Client n) f past false (highest_reached (Client n) f past) st.lines e.index refl (and_off (same_node (Client n) (Client n)) (is_zero_code code) none, tt) ((E.1.entries f e found).low lasts) tt;
    })

-- it asks where the volume is
pub where_result : (s : Script) (c : Cell) (past : List Entry) (n place : ℕ) (act : Going) (m : Message) (code : Code) (o : Option Operand) → Env s c past n → (a : Arrives s c past n act m) → m.carried ≡ carried.Refusal code → is_zero_code code ≡ false → Result s n (c.clients n) c.clock past (asks_where (Client n) (c.clients n) place act code o)
where_result s c past n place act m code None E a is none = refuse_result s c past n place act m code E a is none
where_result s c past n place act m code (Some o) E a is none =
    let x : ClientState = c.clients n in
    let st : Step ClientState = asks_where (Client n) x place act code (Some o) in
    moved_result s n x c.clock past st refl (λ z run l. none_runs st.state.running act refl (run ∙ a.runs)) (λ b run f. absurd (none_runs st.state.running b refl run))
    (λ f e found. record {
      found = found;
      done' = λ lasts S. done_refused s c past n act m f e E.0 a (refused_tells s c past n act m code a is none) S;
      low = λ lasts. seen_up (Client n) f past false (highest_reached (Client n) f past) st.lines e.index refl tt ((E.1.entries f e found).low lasts) tt;
    })

-- the third timeout
dead_out : (s : Script) (n : ℕ) (x : ClientState) (act : Going) (past : List Entry) (o : Option ℕ) (f : Fid) (e : CacheEntry) → AreApart x.cache → x.running ≡ Some act → volume_changed (call_of x act) ≡ o → find_cached f (left_in o x.cache) ≡ Some e → (find_cached f x.cache ≡ Some e) × HasDone n x f e.server past
dead_out s n x act past None f e apart r is found = (found, done_reading n x act f e.server past r is)
dead_out s n x act past (Some id) f e apart r is found =
    let p = found_filter (λ u. not (nat_eq u.fid.volume id)) f x.cache e apart found in
    let out : nat_eq e.fid.volume id ≡ false = not_true (nat_eq e.fid.volume id) p.1 in
    let own : e.fid ≡ f = same_fid-true e.fid f (found-cached-fid f x.cache e p.0) in
    (p.0, done_apart n x act f e.server past r (λ z. (let same : id ≡ f.volume = some_of id f.volume (sym is ∙ z) in let yes : nat_eq e.fid.volume id ≡ true = eq-eqb e.fid.volume id (ap (λ (g : Fid). g.volume) own ∙ sym same) in let no_ : false ≡ true = sym out ∙ yes in absurd cc)))

pub dead_result : (s : Script) (c : Cell) (past : List Entry) (n : ℕ) (act : Going) → Env s c past n → (c.clients n).running ≡ Some act → (o : Option ℕ) → volume_changed (call_of (c.clients n) act) ≡ o
    → Result s n (c.clients n) c.clock past (record { state = ended (c.clients n) (left_in o (c.clients n).cache); lines = timeout_line (Client n) (c.clients n) 3 ∷ dropped (Client n) (given_up_in o (c.clients n).cache) (lines.Answer (Client n) dead_code ∷ []); sent = [] })
dead_result s c past n act E r o is =
    let x : ClientState = c.clients n in
    let es : List CacheEntry = given_up_in o x.cache in
    let end : List Line = lines.Answer (Client n) dead_code ∷ [] in
    let st : Step ClientState = record { state = ended x (left_in o x.cache); lines = timeout_line (Client n) x 3 ∷ dropped (Client n) es end; sent = [] } in
    moved_result s n x c.clock past st (dropped_unread (Client n) es end refl) (λ z run l. none_runs st.state.running act refl (run ∙ r)) (λ b run f. absurd (none_runs st.state.running b refl run))
    (λ f e found. let p = dead_out s n x act past o f e (E.0.kept.1 n).0 r is found in record {
      found = p.0;
      done' = λ lasts S. inr p.1;
      low = λ lasts. seen_up (Client n) f past false (highest_reached (Client n) f past) st.lines e.index (dropped_blank (Client n) es end refl) (dropped_zero (Client n) (Client n) es end (and_off (same_node (Client n) (Client n)) (is_zero_code dead_code) refl, tt)) ((E.1.entries f e p.0).low lasts) (unread_up (Client n) f e.index (dropped (Client n) es end) (dropped_unread (Client n) es end refl));
    })

-- an answer 0 shows what the act made; of what it didn't change it made nothing
zero_low : (n : ℕ) (f : Fid) (past : List Entry) (ls : List Line) (k : ℕ) → AreBlank ls → ReadsUpTo (Client n) f k ls → (highest_reached (Client n) f past).made ≡ 0 → (highest_reached (Client n) f past).seen ≤ k → (highest_over (Client n) f past false (highest_reached (Client n) f past) ls).seen ≤ k
zero_low n f past ls k b u none low = (both_up (Client n) f past false (highest_reached (Client n) f past) ls k b (subst (λ (i : ℕ). i ≤ k) (sym none) (omega arith)) low u).1

plain_out : (s : Script) (c : Cell) (past : List Entry) (n : ℕ) (act : Going) (call : FsCall) (f : Fid) (e : CacheEntry) → Env s c past n → (c.clients n).running ≡ Some act → call_of (c.clients n) act ≡ call → find_cached f (left_after call (c.clients n).cache) ≡ Some e → (find_cached f (c.clients n).cache ≡ Some e) × (InScope (call_of (c.clients n) act) f → ⊥)
plain_out s c past n act call f e E r same found =
    let x : ClientState = c.clients n in
    let p = found_filter (λ u. not (may_change call u.fid)) f x.cache e (E.0.kept.1 n).0 found in
    let out : may_change call e.fid ≡ false = not_true (may_change call e.fid) p.1 in
    let own : e.fid ≡ f = same_fid-true e.fid f (found-cached-fid f x.cache e p.0) in
    (p.0, (λ z. yes_no (may_change call f) (ap (λ (k : FsCall). may_change k f) (sym same) ∙ z) (ap (may_change call) (sym own) ∙ out)))

made_none : (s : Script) (c : Cell) (past : List Entry) (n : ℕ) (act : Going) (f : Fid) (e : CacheEntry) → Env s c past n → (c.clients n).running ≡ Some act → find_cached f (c.clients n).cache ≡ Some e → (InScope (call_of (c.clients n) act) f → ⊥) → (highest_reached (Client n) f past).made ≡ 0
made_none s c past n act f e E r found out = (E.1.entries f e found).made act r (λ b q scope has. out (subst (λ (g : Going). InScope (call_of (c.clients n) g) f) (some_of b act (sym q ∙ r)) scope))

pub plain_result : (s : Script) (c : Cell) (past : List Entry) (n place : ℕ) (act : Going) (m : Message) (r : FsReply) (call : FsCall) → Env s c past n → (a : Arrives s c past n act m) → m.carried ≡ carried.Reply (tell.File r) → call_of (c.clients n) act ≡ call
    → Result s n (c.clients n) c.clock past (record { state = ended (c.clients n) (left_after call (c.clients n).cache); lines = lines.Given place ∷ dropped (Client n) (dropped_after call (c.clients n).cache) (lines.Answer (Client n) zero_code ∷ []); sent = [] })
plain_result s c past n place act m r call E a file same =
    let x : ClientState = c.clients n in
    let es : List CacheEntry = dropped_after call x.cache in
    let end : List Line = lines.Answer (Client n) zero_code ∷ [] in
    let st : Step ClientState = record { state = ended x (left_after call x.cache); lines = lines.Given place ∷ dropped (Client n) es end; sent = [] } in
    moved_result s n x c.clock past st (dropped_unread (Client n) es end refl) (λ z run l. none_runs st.state.running act refl (run ∙ a.runs)) (λ b run f. absurd (none_runs st.state.running b refl run))
    (λ f e found. let p = plain_out s c past n act call f e E a.runs same found in record {
      found = p.0;
      done' = λ lasts S. inr (done_scope n x act f e.server past a.runs p.1 (done_of s c past n act m r a file));
      low = λ lasts. zero_low n f past st.lines e.index (dropped_blank (Client n) es end refl) (unread_up (Client n) f e.index (dropped (Client n) es end) (dropped_unread (Client n) es end refl)) (made_none s c past n act f e E a.runs p.0 p.1) ((E.1.entries f e p.0).low lasts);
    })

pub more_result : (s : Script) (c : Cell) (past : List Entry) (n place : ℕ) (act : Going) (more : List Gift) → Env s c past n → (c.clients n).running ≡ Some act → volume_changed (call_of (c.clients n) act) ≡ None → Result s n (c.clients n) c.clock past (gives_by (Client n) (c.clients n) (with_given place) act more)
more_result s c past n place act [] E r reading =
    let x : ClientState = c.clients n in
    let st : Step ClientState = gives_by (Client n) x (with_given place) act [] in
    moved_result s n x c.clock past st refl (λ z run l. none_runs st.state.running act refl (run ∙ r)) (λ b run f. absurd (none_runs st.state.running b refl run))
    (λ f e found. record {
      found = found;
      done' = λ lasts S. inr (done_reading n x act f e.server past r reading);
      low = λ lasts. zero_low n f past st.lines e.index refl tt ((E.1.waits act r).made reading f) ((E.1.entries f e found).low lasts);
    })
more_result s c past n place act (g ∷ more) E r reading = again_result s c past n place (record (c.clients n) { gifts = g ∷ more }) act E r reading refl refl

-- ---- its own store

-- the entry that is refreshed is whole
pub data_whole : (s : Script) (past : List Entry) (f : Fid) (status : AfsFetchStatus) (contents : List ℕ) (newer : List Entry) (at : Entry) (older : List Entry) → past ≡ newer ++ (at ∷ older) → HasVersion f status.sync_counter (bodies.File contents) (lines_of (at ∷ older)) → HasBeen f status.sync_counter (seen.Status (status_told status)) (at ∷ older)
    → IsWhole f status.sync_counter (status_told status) (Some (bodies.File contents)) past
data_whole s past f status contents newer at older split told been = record {
  is = bodies.File contents;
  told = subst (λ (p : List Entry). HasVersion f status.sync_counter (bodies.File contents) (lines_of p)) (sym split) (has_over f status.sync_counter (bodies.File contents) newer (at ∷ older) told);
  holds = (refl, tt);
  been = subst (HasBeen f status.sync_counter (seen.Status (status_told status))) (sym split) (been_over f status.sync_counter (seen.Status (status_told status)) newer (at ∷ older) been);
}

pub body_stays : (s : Script) (past : List Entry) (f : Fid) (u : CacheEntry) (status : AfsFetchStatus) (newer : List Entry) (at : Entry) (older : List Entry) → Ascend (lines_of past) → past ≡ newer ++ (at ∷ older) → u.index + 1 ≡ status.sync_counter → IsKeptBody f status.sync_counter (lines_of (at ∷ older)) → HasBeen f status.sync_counter (seen.Status (status_told status)) (at ∷ older) → IsWhole f u.index u.status u.body past
    → IsWhole f status.sync_counter (status_told status) u.body past
body_stays s past f u status newer at older A split next k been w =
    let on : (i : ℕ) (b : Body) → HasVersion f i b (lines_of (at ∷ older)) → HasVersion f i b (lines_of past) = λ i b h. subst (λ (p : List Entry). HasVersion f i b (lines_of p)) (sym split) (has_over f i b newer (at ∷ older) h) in
    let e : k.before + 1 ≡ u.index + 1 = sym k.next ∙ sym next in
    let index : k.before ≡ u.index = (omega arith) in
    let same : w.is ≡ k.body = A.one f u.index w.is k.body w.told (subst (λ (i : ℕ). HasVersion f i k.body (lines_of past)) index (on k.before k.body k.old)) in
    record {
      is = k.body;
      told = on status.sync_counter k.body k.new;
      holds = subst (IsBody u.body) same w.holds;
      been = subst (HasBeen f status.sync_counter (seen.Status (status_told status))) (sym split) (been_over f status.sync_counter (seen.Status (status_told status)) newer (at ∷ older) been);
    }

fresh_kind : (t : Bool) (s : Script) (c : Cell) (past : List Entry) (n place : ℕ) (act : Going) (m : Message) (r : FsReply) (call : FsCall) (g : Fid) (status : AfsFetchStatus) (made : Option Body → Option Body) (f : Fid) (u e : CacheEntry) (st : Step ClientState) → Env s c past n → (a : Arrives s c past n act m) → m.carried ≡ carried.Reply (tell.File r) → call_of (c.clients n) act ≡ call
    → ((h : Fid) → may_change call h ≡ same_fid g h) → (S : IsStore call g status (last_key n (c.clients n)) past) → st.lines ≡ lines.Given place ∷ lines.Answer (Client n) zero_code ∷ [] → st.state.running ≡ None → find_cached f (c.clients n).cache ≡ Some u
    → ((z : same_fid u.fid g ≡ true) → c.clock < u.expiry → IsWhole g status.sync_counter (status_told status) (made u.body) past) → (same_fid u.fid g && is_trusted c.clock u) ≡ t → cond t (record u { index = status.sync_counter; status = status_told status; body = made u.body }) u ≡ e → Kind s n (c.clients n) c.clock st past f e
fresh_kind true s c past n place act m r call g status made f u e st E a file same scope S is idle found w t put =
    let x : ClientState = c.clients n in
    let p = both (same_fid u.fid g) (is_trusted c.clock u) t in
    let own : u.fid ≡ f = same_fid-true u.fid f (found-cached-fid f x.cache u found) in
    let of : g ≡ f = sym (same_fid-true u.fid g p.0) ∙ own in
    let R = (E.1.waits act a.runs).saved S.newer S.at S.older S.split S.key f in
    let last : IsLast f status.sync_counter (lines_of (S.at ∷ S.older)) = subst (λ (h : Fid). IsLast h status.sync_counter (lines_of (S.at ∷ S.older))) of S.last in
    let up : index_in (last_version f (lines_of (S.at ∷ S.older))) ≡ status.sync_counter = index_is (last_version f (lines_of (S.at ∷ S.older))) status.sync_counter last in
    subst (λ (v : CacheEntry). Kind s n x c.clock st past f v) put (inr (inr (record {
      was = u;
      found = found;
      same = refl;
      act = act;
      runs = a.runs;
      idle = idle;
      fetched = ap (has_fetched (Client n) f) is;
      whole = subst (λ (h : Fid). IsWhole h status.sync_counter (status_told status) (made u.body) past) of (w p.0 (ltb-true _ _ p.1));
      newer = S.newer;
      at = S.at;
      older = S.older;
      split = S.split;
      key = S.key;
      last = last;
      low = λ lasts. subst (λ (ls : List Line). (highest_over (Client n) f past false (highest_reached (Client n) f past) ls).seen ≤ status.sync_counter) (sym is)
          (both_up (Client n) f past false (highest_reached (Client n) f past) (lines.Given place ∷ lines.Answer (Client n) zero_code ∷ []) status.sync_counter refl (subst (λ (i : ℕ). (highest_reached (Client n) f past).made ≤ i) up R.made) (subst (λ (i : ℕ). (highest_reached (Client n) f past).seen ≤ i) up R.seen) tt).1;
    })))
fresh_kind false s c past n place act m r call g status made f u e st E a file same scope S is idle found w t put =
    let x : ClientState = c.clients n in
    let own : u.fid ≡ f = same_fid-true u.fid f (found-cached-fid f x.cache u found) in
    let out : c.clock < u.expiry → InScope (call_of x act) f → ⊥ = λ lasts z. (let yes : same_fid u.fid g ≡ true = ap (λ (h : Fid). same_fid h g) (own ∙ sym (same_fid-true g f (sym (scope f) ∙ (ap (λ (k : FsCall). may_change k f) (sym same) ∙ z)))) ∙ same_fid-refl g in
    yes_no (same_fid u.fid g && is_trusted c.clock u) (rw (yes, lt-ltb _ _ lasts) refl) t) in
    subst (λ (v : CacheEntry). Kind s n x c.clock st past f v) put (inl (record {
      found = found;
      fetched = ap (has_fetched (Client n) f) is;
      after = λ z lasts T. inr (done_scope n x act f u.server past a.runs (out lasts) (done_of s c past n act m r a file));
      low = λ lasts. subst (λ (ls : List Line). (highest_over (Client n) f past false (highest_reached (Client n) f past) ls).seen ≤ u.index) (sym is)
          (zero_low n f past (lines.Given place ∷ lines.Answer (Client n) zero_code ∷ []) u.index refl tt (made_none s c past n act f u E a.runs found (out lasts)) ((E.1.entries f u found).low lasts));
    }))

pub stored_result : (s : Script) (c : Cell) (past : List Entry) (n place : ℕ) (act : Going) (m : Message) (r : FsReply) (call : FsCall) (g : Fid) (status : AfsFetchStatus) (made : Option Body → Option Body) → Env s c past n → (a : Arrives s c past n act m) → m.carried ≡ carried.Reply (tell.File r) → call_of (c.clients n) act ≡ call
    → ((h : Fid) → may_change call h ≡ same_fid g h) → IsStore call g status (last_key n (c.clients n)) past → ((u : CacheEntry) → find_cached g (c.clients n).cache ≡ Some u → c.clock < u.expiry → IsWhole g status.sync_counter (status_told status) (made u.body) past)
    → Result s n (c.clients n) c.clock past (takes_stored (Client n) (c.clients n) c.clock place g status.sync_counter (status_told status) made)
stored_result s c past n place act m r call g status made E a file same scope S w =
    let x : ClientState = c.clients n in
    let st : Step ClientState = takes_stored (Client n) x c.clock place g status.sync_counter (status_told status) made in
    record {
      shown = unread_shown s (actors.Node (Client n)) past [] st.lines refl;
      up = λ f. tt;
      quiet = λ z b now run l. absurd (none_runs st.state.running act refl (run ∙ a.runs));
      zero' = λ b run l f. absurd (none_runs st.state.running b refl run);
      entries = λ f e found.
          let u = mapped (find_cached f x.cache) (refreshed c.clock g status.sync_counter (status_told status) made) e (sym (found-refreshed c.clock g f status.sync_counter (status_told status) made x.cache) ∙ found) in
          let own : u.0.fid ≡ f = same_fid-true u.0.fid f (found-cached-fid f x.cache u.0 u.1.0) in
          fresh_kind (same_fid u.0.fid g && is_trusted c.clock u.0) s c past n place act m r call g status made f u.0 e st E a file same scope S refl refl u.1.0
          (λ z lasts. w u.0 (ap (λ (h : Fid). find_cached h x.cache) (sym (same_fid-true u.0.fid g z) ∙ own) ∙ u.1.0) lasts) refl u.1.1;
    }
