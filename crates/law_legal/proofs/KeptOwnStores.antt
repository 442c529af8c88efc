-- What a client's own store made came to the client: its version stands under a change of the client's call, since its act began.
use Rattle.spec_history.specs.declared.lines.Line.{Line}
use Rattle.spec_history.specs.declared.lines.Line.TheVariants as lines
use Rattle.spec_history.specs.declared.scripts.Script.{Script}
use Rattle.law_legal.proofs.ActLines.{last_key}
use Rattle.law_legal.proofs.ClientReplyArrives.{Arrives, Based}
use Rattle.law_legal.proofs.BaseLaws.{same_fid-true, some_of}
use Rattle.law_legal.proofs.VolumesAreIdeal.{AreBlank, blank_last}
use Rattle.law_legal.proofs.VolumeOperations.{stored_fid}
use Rattle.law_legal.proofs.ActAnsweredRecently.{late_within}
use Rattle.law_legal.proofs.VolumeVersionsTold.{AreRecorded}
use Rattle.law_legal.proofs.ReadOwnStores.{IsStore, IsTelling, status_in, store_of, telling}
use Rattle.law_legal.specs.Grants.{change_below}
use Rattle.law_legal.specs.Ideal.{IsLast, Unless, call_in, call_under, change_key, last_version}
use Rattle.law_legal.specs.Legal.{HasMadeItself, IsOwnChange}
use Rattle.law_legal.specs.Past.{AreWithin, has_begun, has_sent, is_called, is_new_to_act, lines_of, onto, sent_of}
use Rattle.afs_num.specs.Fids.{same_fid}
use Rattle.afs_num.specs.Nodes.{same_node}
use Rattle.afs_num.specs.declared.calls.AfsFetchStatus.{AfsFetchStatus}
use Rattle.afs_num.specs.declared.calls.FsCall.{FsCall}
use Rattle.afs_num.specs.declared.calls.FsReply.{FsReply}
use Rattle.afs_num.specs.declared.histories.Version.{Version}
use Rattle.afs_num.specs.declared.messages.Carried.TheVariants as carried
use Rattle.afs_num.specs.declared.messages.Message.{Message}
use Rattle.afs_num.specs.declared.messages.Reply.TheVariants as tell
use Rattle.afs_num.specs.declared.types.Fid.{Fid}
use Rattle.afs_num.specs.declared.types.Key.{Key}
use Rattle.afs_num.specs.declared.types.Node.{Node}
use Rattle.afs_num.specs.declared.types.Node.TheVariants.{Client, Server}
use Rattle.spec_rows.specs.ClientRow.{call_of}
use Rattle.spec_rows.specs.Going.{Going}
use Rattle.spec_rows.specs.Runs.{Cell, Entry}
use Rattle.spec_rows.specs.ServerRow.{versioned}
use Rattle.std.proofs.Common.{◌≡◌, ◌+◌, ℕ, inl, inr, Bool, true, false, cond, nat_eq, eqb-true, eq-eqb, List, [], ◌∷◌, ◌++◌, Option, Some, None, refl, sym, ap, subst, ◌∙◌, arith}
use Rattle.std.specs.Option.{option_map}

-- ---- further lines, in which the client begins no act

begun_apart : (t x : Bool) → cond t true x ≡ false → (t ≡ false) × (x ≡ false)
begun_apart true x e = absurd cc
begun_apart false x e = (refl, e)

made_onto : (c : Node) (f : Fid) (i : ℕ) (ls o : List Line) → has_begun c ls ≡ false → HasMadeItself c f i o → HasMadeItself c f i (onto o ls)
made_onto c f i [] o none h = h
made_onto c f i (lines.Begin m act ∷ ls) o none h = let p = begun_apart (same_node m c) (has_begun c ls) none in made_onto c f i ls (lines.Begin m act ∷ o) p.1 (subst (λ (t : Bool). Unless t (HasMadeItself c f i o)) (sym p.0) h)
made_onto c f i (lines.Version v ∷ ls) o none h = made_onto c f i ls (lines.Version v ∷ o) none (inr h)
made_onto c f i (l ∷ ls) o none h = made_onto c f i ls (l ∷ o) none h

made_over : (c : Node) (f : Fid) (i : ℕ) (newer : List Entry) (at : Entry) (older : List Entry) → AreWithin c (newer ++ at ∷ []) → HasMadeItself c f i (lines_of (at ∷ older)) → HasMadeItself c f i (lines_of (newer ++ (at ∷ older)))
made_over c f i [] at older w h = h
made_over c f i (e ∷ newer) at older w h = made_onto c f i e.lines (lines_of (newer ++ (at ∷ older))) w.0 (made_over c f i newer at older w.1 h)

within_at : (c : Node) (newer : List Entry) (at : Entry) → AreWithin c (newer ++ at ∷ []) → has_begun c at.lines ≡ false
within_at c [] at w = w.0
within_at c (e ∷ newer) at w = within_at c newer at w.1

begun_behind : (c : Node) (a b : List Line) → has_begun c (a ++ b) ≡ false → has_begun c b ≡ false
begun_behind c [] b e = e
begun_behind c (lines.Begin m act ∷ a) b e = begun_behind c a b (begun_apart (same_node m c) (has_begun c (a ++ b)) e).1
begun_behind c (l ∷ a) b e = begun_behind c a b e

-- ---- the versions of a change

index_by : (f : Fid) (v : Version) (o : List Line) (i : ℕ) (t : Bool) → same_fid v.fid f ≡ t → nat_eq v.index i ≡ false → (IsLast f i o → ⊥) → IsLast f i (lines.Version v ∷ o) → ⊥
index_by f v o i true fid apart none last =
    let same : Some v.index ≡ Some i = sym (ap (λ (t : Bool). option_map (λ (w : Version). w.index) (cond t (Some v) (last_version f o))) fid) ∙ last in
    let no_ : true ≡ false = sym (eq-eqb v.index i (some_of v.index i same)) ∙ apart in absurd cc
index_by f v o i false fid apart none last = none (subst (λ (t : Bool). option_map (λ (w : Version). w.index) (cond t (Some v) (last_version f o)) ≡ Some i) fid last)

other_by : (f : Fid) (v : Version) (o : List Line) (i : ℕ) → same_fid v.fid f ≡ false → (IsLast f i o → ⊥) → IsLast f i (lines.Version v ∷ o) → ⊥
other_by f v o i fid none last = none (subst (λ (t : Bool). option_map (λ (w : Version). w.index) (cond t (Some v) (last_version f o)) ≡ Some i) fid last)

version_case : (c : Node) (f : Fid) (i : ℕ) (v : Version) (o ls : List Line) (t u : Bool) → same_fid v.fid f ≡ t → nat_eq v.index i ≡ u → has_begun c ls ≡ false → IsOwnChange c (change_below o) → (IsLast f i o → ⊥) → ((IsLast f i (lines.Version v ∷ o) → ⊥) → HasMadeItself c f i (onto (lines.Version v ∷ o) ls)) → HasMadeItself c f i (onto (lines.Version v ∷ o) ls)
version_case c f i v o ls true true fid index none own last more = made_onto c f i ls (lines.Version v ∷ o) none (inl (same_fid-true v.fid f fid, (eqb-true v.index i index, own)))
version_case c f i v o ls true false fid index none own last more = more (index_by f v o i true fid index last)
version_case c f i v o ls false u fid index none own last more = more (other_by f v o i fid last)

made_in : (c : Node) (f : Fid) (i : ℕ) (vs : List Version) (rest o : List Line) → has_begun c (versioned vs rest) ≡ false → AreBlank rest → IsOwnChange c (change_below o) → IsLast f i (onto o (versioned vs rest)) → (IsLast f i o → ⊥) → HasMadeItself c f i (onto o (versioned vs rest))
made_in c f i [] rest o none blank own last fresh = absurd (fresh (subst (λ (v : Option Version). option_map (λ (w : Version). w.index) v ≡ Some i) (blank_last f rest o blank) last))
made_in c f i (v ∷ vs) rest o none blank own last fresh = version_case c f i v o (versioned vs rest) (same_fid v.fid f) (nat_eq v.index i) refl refl none own fresh (λ w. made_in c f i vs rest (lines.Version v ∷ o) none blank own last w)

-- ---- the entry that tells the change

under_case : (t b : Bool) (o : Option (List ℕ × FsCall)) (x y : Option (List ℕ × FsCall)) (z : List ℕ × FsCall) → (y ≡ Some z → b ≡ true) → cond t x y ≡ Some z → cond t true b ≡ true
under_case true b o x y z w e = refl
under_case false b o x y z w e = w e

under_sent : (k : Key) (ms : List Message) (z : List ℕ × FsCall) → call_under k ms ≡ Some z → has_sent k ms ≡ true
under_sent k [] z e = absurd cc
under_sent k (m ∷ ms) z e = under_case (is_called k m.head m.carried) (has_sent k ms) None (call_in m.carried) (call_under k ms) z (under_sent k ms z) e

onto_two : (o a b : List Line) → onto o (a ++ b) ≡ onto (onto o a) b
onto_two o [] b = refl
onto_two o (l ∷ a) b = onto_two (l ∷ o) a b

made_here : (s : Script) (c : Cell) (past : List Entry) (n : ℕ) (act : Going) (f : Fid) (before i : ℕ) (newer : List Entry) (at : Entry) (older : List Entry) → Based s c past → (c.clients n).running ≡ Some act → past ≡ newer ++ (at ∷ older) → change_key at.lines ≡ Some (last_key n (c.clients n)) → IsLast f before (lines_of older) → i ≡ before + 1 → IsLast f i (lines_of (at ∷ older))
    → HasMadeItself (Client n) f i (lines_of past)
made_here s c past n act f before i newer at [] B r split key was above last = absurd cc
made_here s c past n act f before i newer at (d ∷ older) B r split key was above last =
    let k : Key = last_key n (c.clients n) in
    let T : IsTelling s k at (d ∷ older) = telling s k newer at d older (subst (AreRecorded s) split B.recorded.all) key in
    let S = T.saved in
    let sent : has_sent k (sent_of (d ∷ older)) ≡ true = subst (λ (l : Key). has_sent l (sent_of (d ∷ older)) ≡ true) T.same (under_sent S.key (sent_of (d ∷ older)) (S.ideal.user, S.ideal.call) S.ideal.one) in
    let within : AreWithin (Client n) (newer ++ at ∷ []) = late_within (Client n) k newer at (d ∷ older) sent (subst (λ (p : List Entry). is_new_to_act (Client n) k p ≡ true) split (B.truthful.0.0.0.1.late n act r)) in
    let none : has_begun (Client n) (versioned S.versions S.rest) ≡ false = begun_behind (Client n) S.front (lines.Change (Server S.server) S.key S.count ∷ versioned S.versions S.rest) (subst (λ (ls : List Line). has_begun (Client n) ls ≡ false) S.split (within_at (Client n) newer at within)) in
    let base : List Line = onto (lines_of (d ∷ older)) S.front in
    let o : List Line = lines.Change (Server S.server) S.key S.count ∷ base in
    let on : lines_of (at ∷ (d ∷ older)) ≡ onto o (versioned S.versions S.rest) = ap (onto (lines_of (d ∷ older))) S.split ∙ onto_two (lines_of (d ∷ older)) S.front (lines.Change (Server S.server) S.key S.count ∷ versioned S.versions S.rest) in
    let same : option_map (λ (w : Version). w.index) (last_version f o) ≡ Some before = ap (option_map (λ (w : Version). w.index)) (blank_last f S.front (lines_of (d ∷ older)) S.before) ∙ was in
    let fresh : IsLast f i o → ⊥ = λ z. (let e : before ≡ i = some_of before i (sym same ∙ z) in absurd (omega (arith, e, above))) in
    let own : S.key.node ≡ Client n = ap (λ (l : Key). l.node) T.same in
    subst (λ (p : List Entry). HasMadeItself (Client n) f i (lines_of p)) (sym split) (made_over (Client n) f i newer at (d ∷ older) within
    (subst (HasMadeItself (Client n) f i) (sym on) (made_in (Client n) f i S.versions S.rest o none S.behind own (subst (IsLast f i) on last) fresh)))

-- what the reply to the client's store tells was made by it
pub store_made : (s : Script) (c : Cell) (past : List Entry) (n : ℕ) (act : Going) (m : Message) (r : FsReply) (call : FsCall) (f : Fid) (status : AfsFetchStatus) → Based s c past → (a : Arrives s c past n act m) → m.carried ≡ carried.Reply (tell.File r) → call_of (c.clients n) act ≡ call → stored_fid call ≡ Some f → status_in m.carried ≡ Some status
    → HasMadeItself (Client n) f status.sync_counter (lines_of past)
store_made s c past n act m r call f status B a file same is told =
    let x : IsStore call f status (last_key n (c.clients n)) past = store_of s c past n act m r call f status B a file same is told in
    made_here s c past n act f x.before status.sync_counter x.newer x.at x.older B a.runs x.split x.key x.was x.above x.last
