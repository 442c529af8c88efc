-- What an entry fetches of an object is of the message that it was given, a reply to a call of its client that reads the object; and that
-- reply is of the server to which the script gives the object's volume.
use Rattle.law_legal.proofs.ClientCallsByTable.{server_at}
use Rattle.spec_history.specs.declared.lines.Line.{Line}
use Rattle.spec_history.specs.declared.lines.Line.TheVariants as lines
use Rattle.spec_history.specs.declared.scripts.Script.{Script}
use Rattle.law_legal.proofs.ClientCallsAtHome.{AsksOf, IsHome, IsOneIn}
use Rattle.law_legal.proofs.BaseLaws.{Each, IfCall, IfReply, same_fid-true, same_node-true, some_of}
use Rattle.law_legal.proofs.ClientReplyCaused.{IsOfCallee, of_callee}
use Rattle.law_legal.proofs.ActAnswersCaused.{HasSent, each_both, since_call}
use Rattle.law_legal.proofs.VolumesAreIdeal.{of_this}
use Rattle.law_legal.proofs.CallKeysOnce.{IsKnown}
use Rattle.law_legal.specs.Breaks.{IsNamedIn}
use Rattle.law_legal.specs.ClientParts.{IsDue, IsUsed}
use Rattle.law_legal.specs.Grants.{has_fetched, is_promised}
use Rattle.law_legal.specs.Ideal.{user_of}
use Rattle.law_legal.specs.Legal.{Brings, IsInPlace, IsUse}
use Rattle.law_legal.specs.Parts.{EachLine}
use Rattle.law_legal.specs.Past.{CalledSince, HasCode, answered_key, given_message, has_given, sent_of}
use Rattle.afs_num.specs.Fids.{same_fid}
use Rattle.afs_num.specs.Nodes.{same_node}
use Rattle.afs_num.specs.declared.calls.FsCall.{FsCall}
use Rattle.afs_num.specs.declared.calls.FsCall.TheVariants as calls
use Rattle.afs_num.specs.declared.histories.Actor.{Actor}
use Rattle.afs_num.specs.declared.histories.ReadBody.{ReadBody}
use Rattle.afs_num.specs.declared.histories.ReadBody.TheVariants as seen
use Rattle.afs_num.specs.declared.histories.ReadSource.TheVariants.{Cached, Fetched}
use Rattle.afs_num.specs.declared.messages.Message.{Message}
use Rattle.afs_num.specs.declared.types.Fid.{Fid}
use Rattle.afs_num.specs.declared.types.Head.{Head}
use Rattle.afs_num.specs.declared.types.Key.{Key}
use Rattle.afs_num.specs.declared.types.Node.{Node}
use Rattle.afs_num.specs.declared.types.Node.TheVariants.{Client, Server}
use Rattle.spec_rows.specs.Going.{ClientState}
use Rattle.spec_rows.specs.Runs.{Entry, locations}
use Rattle.spec_model.specs.Calls.{key_of}
use Rattle.std.proofs.Common.{◌≡◌, ℕ, ◌⊎◌, inl, inr, Bool, true, false, cond, List, [], ◌∷◌, Some, None, refl, sym, ap, subst, ◌∙◌}
use Rattle.std.specs.Prelude.{◌&&◌}

-- ---- the message that an entry was given

-- behind it none is given
given_once : (s : Script) (who : Actor) (past : List Entry) (own ls : List Line) → EachLine (IsInPlace s) who past own ls → has_given own ≡ true → has_given ls ≡ false
given_once s who past own [] place has = refl
given_once s who past own (lines.Given p ∷ ls) place has = let no_ : true ≡ false = sym has ∙ ap has_given place.0 in absurd cc
given_once s who past own (l ∷ ls) place has = given_once s who past (l ∷ own) ls place.1 (still l own has)
  where
    still : (l : Line) (own : List Line) → has_given own ≡ true → has_given (l ∷ own) ≡ true
    still (lines.Given p) own h = refl
    still l own h = h

pub none_given : (ls : List Line) (sent : List Message) → has_given ls ≡ false → given_message ls sent ≡ None
none_given [] sent h = refl
none_given (lines.Given p ∷ ls) sent h = absurd cc
none_given (l ∷ ls) sent h = none_given ls sent h

-- it was given behind these lines already, or is among those that follow
abbrev IsGivenIn : List Message → Message → List Line → List Line → Type 0
IsGivenIn sent m own ls = ((given_message own sent ≡ Some m) × (has_given ls ≡ false)) ⊎ ((has_given own ≡ false) × (given_message ls sent ≡ Some m))

-- ---- the use that a fetched read makes of it

pub record IsUseOf (s : Script) (c : Node) (f : Fid) (m : Message) (past : List Entry) : Type 0 where
  pub call : FsCall
  pub called : CalledSince (answered_key m.head) (user_of s c) call past
  pub body : ReadBody
  pub of : Brings call f body

use_of : (s : Script) (c : Node) (f : Fid) (body : ReadBody) (m : Message) (past : List Entry) (own ls : List Line) → IsGivenIn (sent_of past) m own ls → IsUse s c f body past own → IsUseOf s c f m past
use_of s c f body m past own ls (inl g) u =
    let same : u.used.reply ≡ m = some_of u.used.reply m (sym u.used.by ∙ g.0) in
    record { call = u.used.call; called = subst (λ (r : Message). CalledSince (answered_key r.head) (user_of s c) u.used.call past) same u.used.called; body = body; of = u.of }
use_of s c f body m past own ls (inr g) u = let no_ : None ≡ Some u.used.reply = sym (none_given own (sent_of past) g.0) ∙ u.used.by in absurd cc

read_use : (s : Script) (c n : Node) (f g : Fid) (body : ReadBody) (m : Message) (past : List Entry) (own ls : List Line) (t u v : Bool) → is_promised body ≡ t → same_node n c ≡ u → same_fid g f ≡ v → IsGivenIn (sent_of past) m own ls → IsUsed s (is_promised body) n g Fetched body past own → (rest : Bool) → cond (t && (u && v)) true rest ≡ true → (rest ≡ true → IsUseOf s c f m past) → IsUseOf s c f m past
read_use s c n f g body m past own ls true true true p q r given used rest e w =
    use_of s c f body m past own ls given
    (subst (λ (x : Node). IsUse s x f body past own) (same_node-true n c q) (subst (λ (h : Fid). IsUse s n h body past own) (same_fid-true g f r) ((subst (λ (b : Bool). IsUsed s b n g Fetched body past own) p used).0 refl)))
read_use s c n f g body m past own ls true true false p q r given used rest e w = w e
read_use s c n f g body m past own ls true false v p q r given used rest e w = w e
read_use s c n f g body m past own ls false u v p q r given used rest e w = w e

-- one line on
given_on : (sent : List Message) (m : Message) (l : Line) (own ls : List Line) → IsGivenIn sent m own (l ∷ ls) → (has_given (l ∷ own) ≡ true → has_given ls ≡ false) → IsGivenIn sent m (l ∷ own) ls
given_on sent m (lines.Given p) own ls (inl g) w = let no_ : true ≡ false = g.1 in absurd cc
given_on sent m (lines.Given p) own ls (inr g) w = inl (g.1, w refl)
given_on sent m l own ls g w = g

pub fetched_use : (s : Script) (c : Node) (f : Fid) (m : Message) (who : Actor) (past : List Entry) (own ls : List Line) → EachLine (IsInPlace s) who past own ls → EachLine (IsDue s) who past own ls → IsGivenIn (sent_of past) m own ls → has_fetched c f ls ≡ true → IsUseOf s c f m past
fetched_use s c f m who past own [] place due given e = absurd cc
fetched_use s c f m who past own (lines.Read n g index Fetched body ∷ ls) place due given e =
    read_use s c n f g body m past own ls (is_promised body) (same_node n c) (same_fid g f) refl refl refl given due.0 (has_fetched c f ls) e
    (λ rest. fetched_use s c f m who past (lines.Read n g index Fetched body ∷ own) ls place.1 due.1 given rest)
fetched_use s c f m who past own (lines.Read n g index Cached body ∷ ls) place due given e = fetched_use s c f m who past (lines.Read n g index Cached body ∷ own) ls place.1 due.1 given e
fetched_use s c f m who past own (l ∷ ls) place due given e = fetched_use s c f m who past (l ∷ own) ls place.1 due.1 (given_on (sent_of past) m l own ls given (λ h. given_once s who past (l ∷ own) ls place.1 h)) e

-- ---- who sends it

named_one : (f : Fid) (fs : List Fid) → IsNamedIn f fs → IsOneIn f.volume fs
named_one f [] x = x
named_one f (g ∷ fs) (inl e) = inl (ap (λ (h : Fid). h.volume) e)
named_one f (g ∷ fs) (inr x) = inr (named_one f fs x)

read_asks : (f : Fid) (call : FsCall) (body : ReadBody) → Brings call f body → AsksOf call f.volume
read_asks f (calls.FetchData g position wanted) (seen.Contents body) e = ap (λ (h : Fid). Some h.volume) e
read_asks f (calls.FetchStatus g) (seen.Status status) e = ap (λ (h : Fid). Some h.volume) e
read_asks f (calls.BulkStatus fids) (seen.Status status) x = named_one f fids x
read_asks f call body x = absurd x

pub of_home : (s : Script) (callees : Key → Node) (clients : ℕ → ClientState) (j : ℕ) (f : Fid) (m : Message) (past : List Entry) → IsUseOf s (Client j) f m past → HasCode m.carried → m.head.to ≡ Client j → (i : ℕ) → m.head.from ≡ Server i → IfReply (IsOfCallee callees clients) m → Each (IfCall (λ h u x. IsKnown callees clients h.to (key_of h))) (sent_of past) → Each (IfCall (IsHome s)) (sent_of past)
    → m.head.from ≡ Server (server_at (locations s) f.volume)
of_home s callees clients j f m past u code to i by of known homes =
    let K : Head → List ℕ → FsCall → Type 0 = λ h v x. IsKnown callees clients h.to (key_of h) in
    let k : Key = answered_key m.head in
    let x : HasSent (λ y. IfCall K y × IfCall (IsHome s) y) k (user_of s (Client j)) u.call = since_call (λ y. IfCall K y × IfCall (IsHome s) y) k (user_of s (Client j)) u.call past u.called (each_both (IfCall K) (IfCall (IsHome s)) (sent_of past) known homes) in
    let head : Head = x.message.head in
    let from : head.from ≡ Client j = ap (λ (q : Key). q.node) x.key ∙ to in
    let same : head.to ≡ callees k = (of_this K j head x.message.carried (user_of s (Client j)) u.call from x.carries x.holds.0).called ∙ ap callees x.key in
    of_callee callees clients j m of code to i by ∙ (sym same ∙ (of_this (IsHome s) j head x.message.carried (user_of s (Client j)) u.call from x.carries x.holds.1).to f.volume (read_asks f u.call u.body u.of))
