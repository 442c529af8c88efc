-- What a server finds, and what its replies tell.
use Rattle.spec_ideal.specs.Directories.{directory_of}
use Rattle.afs_num.specs.declared.histories.ReadBody.{ReadBody}
use Rattle.std.proofs.Common.{◌≡◌, ℕ, ◌⊎◌, inl, inr, Bool, true, false, cond, nat_eq, List, [], ◌∷◌, Option, Some, None, ℤ, refl, sym, ap, subst, ◌∙◌, eqb-true}
use Rattle.afs_num.specs.declared.directories.Name.{Name}
use Rattle.spec_ideal.proofs.DirectoryBytes.{spelled_is_read}
use Rattle.spec_ideal.specs.Operations.{Found, Result}
use Rattle.spec_ideal.specs.Volumes.{type_of, bytes_by, Volume, Vnode, VnodeKind, a_file, a_directory, a_link, body_by, vnode_of, if_unique}
use Rattle.law_legal.proofs.BaseLaws.{below-false, same_node-true, Below, Above, above_up, both, same_fid-true, below_up_to, some_of}
use Rattle.law_legal.proofs.BaseWords.{IsReadable}
use Rattle.spec_rows.specs.ClientRow.{names_told, body_told}
use Rattle.law_legal.specs.Ideal.{Tells, TellsIn, TellsOf, version_in, latest, IsThat, last_version, HasVersion}
use Rattle.law_legal.specs.Legal.{IsThere}
use Rattle.spec_history.specs.declared.lines.Line.{Line}
use Rattle.law_legal.specs.Past.{IsCallToOrLater, IsFirstOfItsBoot, IsCall, sent_of, given_message}
use Rattle.spec_rows.specs.Runs.{Entry}
use Rattle.spec_rows.specs.ServerRow.{Reading, time_read}
use Rattle.spec_rows.specs.States.{Seat}
use Rattle.spec_model.specs.Calls.{pair_below}
use Rattle.std.specs.Prelude.{◌&&◌, ⊤, not}
use Rattle.afs_num.specs.Fids.{same_fid}
use Rattle.afs_num.specs.declared.types.Fid.{Fid}
use Rattle.afs_num.specs.declared.types.Key.{Key}
use Rattle.afs_num.specs.declared.types.Node.{Node}
use Rattle.afs_num.specs.declared.messages.Carried.{Carried}
use Rattle.afs_num.specs.declared.messages.Message.{Message}
use Rattle.afs_num.specs.declared.histories.Version.{Version}
use Rattle.afs_num.specs.Nodes.{same_node}
use Rattle.law_legal.specs.Breaks.{is_call_from, is_to_come, is_call}
use Rattle.std.specs.Prelude as std_result
use Rattle.afs_num.specs.declared.messages.Carried.TheVariants as carried
use Rattle.afs_num.specs.declared.histories.Body.TheVariants as bodies

-- ---- a call runs

pub above_more : (o : Option Seat) (e n d m : ℕ) → Above o e n → Below e n d m → Above o d m
above_more o e n d m a b = above_up o e n d m a (below_up_to _ _ _ _ b)

-- ---- what is found

pub has_by : (t : Bool) (f : Fid) (v w : Version) (o : Option Version) (S : Type 0) → same_fid v.fid f ≡ t → (o ≡ Some w → S) → cond t (Some v) o ≡ Some w → ((v.fid ≡ f) × ((v.index ≡ w.index) × (v.body ≡ w.body))) ⊎ S
has_by true f v w o S t h e = let one : v ≡ w = some_of v w e in inl (same_fid-true v.fid f t, (ap (λ (x : Version). x.index) one, ap (λ (x : Version). x.body) one))
has_by false f v w o S t h e = inr (h e)

pub has_in : (f : Fid) (l o : Option Version) (w : Version) (S : Type 0) → (o ≡ Some w → S) → latest f l o ≡ Some w → IsThat f w.index w.body l S
has_in f None o w S h e = h e
has_in f (Some v) o w S h e = has_by (same_fid v.fid f) f v w o S refl h e

pub last_has : (f : Fid) (ls : List Line) (w : Version) → last_version f ls ≡ Some w → HasVersion f w.index w.body ls
last_has f [] w e = absurd cc
last_has f (l ∷ ls) w e = has_in f (version_in l) (last_version f ls) w (HasVersion f w.index w.body ls) (last_has f ls w) e

-- ---- a volume is read

-- what a vnode's reply has is its body
pub told_kind : (n : ℕ) (k : VnodeKind) (x : Vnode) → IsReadable n x → body_told (type_of k) (bytes_by k x) ≡ body_by k x
told_kind n a_file x h = refl
told_kind n a_directory x h = ap (λ (r : std_result.Result (List Name) ℕ). bodies.Dir (names_told r)) (spelled_is_read x.names h.names h.fit)
told_kind n a_link x h = refl

pub unique_by : (t : Bool) (u : ℕ) (y x : Vnode) → nat_eq y.unique u ≡ t → cond t (Some y) None ≡ Some x → x.unique ≡ u
unique_by true u y x t e = ap (λ (z : Vnode). z.unique) (sym (some_of y x e)) ∙ eqb-true y.unique u t
unique_by false u y x t e = absurd cc

pub own_unique : (u : ℕ) (o : Option Vnode) (x : Vnode) → if_unique u o ≡ Some x → x.unique ≡ u
own_unique u None x e = absurd cc
own_unique u (Some y) x e = unique_by (nat_eq y.unique u) u y x refl e

-- what is found under a fid is the vnode of its number
pub own_found_by : (t : Bool) (y x : Vnode) → cond t (Some y) None ≡ Some x → Some y ≡ Some x
own_found_by true y x e = e
own_found_by false y x e = absurd cc

pub own_found : (u : ℕ) (o : Option Vnode) (x : Vnode) → if_unique u o ≡ Some x → o ≡ Some x
own_found u None x e = absurd cc
own_found u (Some y) x e = own_found_by (nat_eq y.unique u) y x e

pub record IsTime (r : Reading) : Type 0 where
  pub time : ℕ
  pub is : r ≡ time_read time

-- it is promised
abbrev pub IsAmong : Found → List Found → Type 0
IsAmong f [] = ⊥
IsAmong f (x ∷ xs) = (x ≡ f) ⊎ IsAmong f xs

-- what a reply tells of a body is there
there_by : (t u : Bool) (bytes : List ℕ) → IsThere (cond t (bodies.File bytes) (cond u (bodies.Dir (names_told (directory_of bytes))) (bodies.Link bytes)))
there_by true u bytes = tt
there_by false true bytes = tt
there_by false false bytes = tt

pub body_there : (kind : ℕ) (bytes : List ℕ) → IsThere (body_told kind bytes)
body_there kind bytes = there_by (nat_eq kind 1) (nat_eq kind 2) bytes

-- what a vnode of the ideal volume shows, it has
pub told_there : (f : Fid) (index : ℕ) (body : ReadBody) (o : Option Volume) (v : Volume) (x : Vnode) → Some v ≡ o → vnode_of f v ≡ Some x → Tells index body x → TellsOf f index body o
told_there f index body o v x at found h = subst (TellsOf f index body) at (subst (TellsIn index body) (sym found) h)

pub and_true : (a b : Bool) → a ≡ true → b ≡ true → (a && b) ≡ true
and_true true b e h = h
and_true false b e h = absurd cc

call_is : (c : Carried) → is_call c ≡ true → IsCall c
call_is (carried.Call user call) e = tt
call_is (carried.Refusal code) e = absurd cc
call_is (carried.Reply reply) e = absurd cc
call_is carried.Notice e = absurd cc

pub not_false : (b : Bool) → not b ≡ true → b ≡ false
not_false true e = absurd cc
not_false false e = refl

from_is : (s : Node) (k : Key) (boot : ℕ) (m : Message) → is_call_from s k boot (Some m) ≡ true → IsCallToOrLater s k boot (Some m)
from_is s k boot m e =
    let a = both (is_call m.carried && same_node m.head.to s) _ e in
    let b = both (is_call m.carried) _ a.0 in
    let d = both (same_node m.head.from k.node && not (pair_below m.head.epoch m.head.number k.epoch k.number)) _ a.1 in
    let f = both (same_node m.head.from k.node) _ d.0 in
    ((call_is m.carried b.0, same_node-true m.head.to s b.1), ((same_node-true m.head.from k.node f.0, below-false m.head.epoch m.head.number k.epoch k.number (not_false _ f.1)), eqb-true m.head.boot boot d.1))

from_not : (t : Bool) (s : Node) (k : Key) (boot : ℕ) (o : Option Message) → is_call_from s k boot o ≡ t → (IsCallToOrLater s k boot o → ⊥) → not t ≡ true
from_not false s k boot o e w = refl
from_not true s k boot None e w = absurd cc
from_not true s k boot (Some m) e w = absurd (w (from_is s k boot m e))

pub comes : (s : Node) (k : Key) (boot : ℕ) (past : List Entry) → IsFirstOfItsBoot s k boot past → is_to_come s k boot past ≡ true
comes s k boot [] h = refl
comes s k boot (e ∷ past) h = and_true (not (is_call_from s k boot (given_message e.lines (sent_of past)))) (is_to_come s k boot past) (from_not (is_call_from s k boot (given_message e.lines (sent_of past))) s k boot (given_message e.lines (sent_of past)) refl h.0) (comes s k boot past h.1)
