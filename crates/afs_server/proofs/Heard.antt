-- Replies and notices to a server's own calls, by the call that they are to.
use Rattle.std.proofs.Common.{◌≡◌, ℕ, Bool, true, false, cond, ◌&&◌, Option, Some, None, refl}
use Rattle.afs_num.specs.Nodes.{same_node}
use Rattle.afs_num.specs.declared.types.Head.{Head}
use Rattle.afs_num.specs.declared.types.Node.{Node}
use Rattle.spec_rows.specs.Callbacks.{is_back_awaited, no_turn, renews, settles}
use Rattle.spec_rows.specs.States.{BackCall, Backs}
use Rattle.afs_callees.specs.Called.{IsGoodOrNone}
use Rattle.afs_server.specs.Hearing.{answered_turn, noticed_turn, renewed_turn, settled_turn}
use Rattle.afs_callbacks.specs.Hearing.{heard_by, is_heard}

settled_at : (a b : Bool) (me : Node) (head : Head) (k : Backs) (c : BackCall) →
    settled_turn me head k (cond (a && b) (Some c) None) ≡ cond a (cond b (settles me head.from c k) (no_turn k)) (no_turn k)
settled_at true true me head k c = refl
settled_at true false me head k c = refl
settled_at false b me head k c = refl

to_either : (a : Bool) (k : Backs) → no_turn k ≡ cond a (no_turn k) (no_turn k)
to_either true k = refl
to_either false k = refl

pub settled_heard : (me : Node) (boot : ℕ) (head : Head) (b : Backs) (o : Option BackCall) → b.calls head.from ≡ o → settled_turn me head b (heard_by me boot head o) ≡ answered_turn me boot head b
settled_heard me boot head b None e = rw e (to_either (same_node head.to me) b)
settled_heard me boot head b (Some c) e = rw e (settled_at (same_node head.to me) (is_back_awaited boot c head) me head b c)

renewed_at : (a b : Bool) (me : Node) (boot : ℕ) (head : Head) (k : Backs) (c : BackCall) →
    renewed_turn me boot head k (cond (a && b) (Some c) None) ≡ cond a (cond b (renews me boot head.from head.boot c k) (no_turn k)) (no_turn k)
renewed_at true true me boot head k c = refl
renewed_at true false me boot head k c = refl
renewed_at false b me boot head k c = refl

pub renewed_heard : (me : Node) (boot : ℕ) (head : Head) (b : Backs) (o : Option BackCall) → b.calls head.from ≡ o → renewed_turn me boot head b (heard_by me boot head o) ≡ noticed_turn me boot head b
renewed_heard me boot head b None e = rw e (to_either (same_node head.to me) b)
renewed_heard me boot head b (Some c) e = rw e (renewed_at (same_node head.to me) (is_back_awaited boot c head) me boot head b c)

-- ---- a call that is heard of is a good one

good_by : (t : Bool) (n : Node) (c : BackCall) → IsGoodOrNone n (Some c) → IsGoodOrNone n (cond t (Some c) None)
good_by true n c good = good
good_by false n c good = tt

pub heard_good : (me : Node) (boot : ℕ) (head : Head) (o : Option BackCall) → IsGoodOrNone head.from o → IsGoodOrNone head.from (heard_by me boot head o)
heard_good me boot head None good = tt
heard_good me boot head (Some c) good = good_by (is_heard me boot head c) head.from c good
