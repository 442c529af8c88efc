-- What answers the unanswered call, and what a server's call does.
use Rattle.std.proofs.Common.{◌≡◌, ℕ, Bool, true, false, cond, not, ◌&&◌, List, [], ◌∷◌, ◌++◌, map, filter, Option, Some, None, Result, Ok, Err, refl, ap, sym, subst, ◌∙◌}
use Rattle.std.specs.Prelude.{nat_eq}
use Rattle.std.proofs.lemmas.Bool.{eq-eqb}
use Rattle.afs_num.specs.Nodes.{same_node}
use Rattle.afs_num.specs.declared.types.Code.{Code}
use Rattle.afs_num.specs.declared.types.Node.{Node}
use Rattle.afs_num.specs.declared.types.Node.TheVariants as nodes
use Rattle.afs_num.specs.declared.types.Head.{Head}
use Rattle.afs_num.specs.declared.calls.FsCall.{FsCall}
use Rattle.afs_num.specs.declared.messages.Message.{Message}
use Rattle.afs_num.specs.declared.messages.Received.{Received}
use Rattle.spec_history.specs.declared.lines.Line.{Line}
use Rattle.spec_history.specs.declared.lines.Line.TheVariants as lines
use Rattle.spec_history.specs.declared.lines.Outs.{Outs}
use Rattle.spec_ideal.specs.Operations.{volume_changed}
use Rattle.spec_model.specs.Calls.{Admitted}
use Rattle.spec_model.specs.Calls as pairs
use Rattle.spec_model.specs.Steps.{NodeState}
use Rattle.spec_rows.specs.States.{CacheEntry, KnownBoot}
use Rattle.spec_rows.specs.Going.{ClientState, Going}
use Rattle.spec_rows.specs.ClientRow.{admits_call, boot_of, dropped, dropped_after, ends_step, given_up_in, left_after, left_in, runs_call, with_boot}
use Rattle.spec_rows.specs.Scopes.{may_change}
use Rattle.spec_rows.specs.Steps.{Step}
use Rattle.afs_entries.specs.Cached.{drops_of, left}
use Rattle.afs_entries.specs.declared.drops.Drops.{Drops}
pub use Rattle.afs_calling.proofs.Stepping.{boot_told_is}
pub use Rattle.afs_cache.proofs.Placing.{goes_answered, goes_taken, takes_same}
use Rattle.afs_cache.proofs.Placing.{stills_same}
use Rattle.spec_copyrows.specs.Sites.{CopyState}
use Rattle.afs_cache.specs.Managing.{TakesStill}
use Rattle.afs_cache.specs.Acting.{changed_in}
use Rattle.afs_cache.specs.Serving.{admits_asking, runs_asking}
use Rattle.afs_cache.specs.declared.serving.Asking.{Asking}

-- ---- entries of a volume

all_left : (es : List CacheEntry) → filter (λ (e : CacheEntry). not false) es ≡ es
all_left [] = refl
all_left (e ∷ es) = ap (λ (xs : List CacheEntry). e ∷ xs) (all_left es)

none_given : (es : List CacheEntry) → filter (λ (e : CacheEntry). false) es ≡ []
none_given [] = refl
none_given (e ∷ es) = none_given es

pub left_is : (o : Option ℕ) (es : List CacheEntry) → left (changed_in o) es ≡ left_in o es
left_is None es = all_left es
left_is (Some v) es = refl

pub given_is : (o : Option ℕ) (es : List CacheEntry) → filter (drops_of (changed_in o)) es ≡ given_up_in o es
given_is None es = none_given es
given_is (Some v) es = refl

-- ---- a server's call

pub asked_by : (me : Node) (c : ClientState) (place : ℕ) (head : Head) (r : Received) (asking : Asking) (a : Admitted Message) → runs_asking me c place head asking ≡ runs_call me c place head r → admits_asking me c place head asking a ≡ admits_call me c place head r a
asked_by me c place head r asking pairs.runs h = h
asked_by me c place head r asking (pairs.kept reply) h = refl
asked_by me c place head r asking pairs.in_progress h = refl
asked_by me c place head r asking pairs.older h = refl
asked_by me c place head r asking (pairs.wrong_boot boot) h = refl

pub asked_as : {E : Type 0} (me : Node) (c : ClientState) (head : Head) (r : Received) (asking : Asking) (a : Admitted Message) (old new : NodeState CopyState) (result : Result Outs E)
    → ((place : ℕ) → runs_asking me c place head asking ≡ runs_call me c place head r) → TakesStill (λ place. admits_asking me c place head asking a) old new result → TakesStill (λ place. admits_call me c place head r a) old new result
asked_as me c head r asking a old new result same h = stills_same (λ place. admits_asking me c place head asking a) (λ place. admits_call me c place head r a) old new result (λ place. asked_by me c place head r asking a (same place)) h

-- ---- entries in a call's scope

kept_as : (b d : Bool) (e : CacheEntry) (xs ys : List CacheEntry) → b ≡ d → xs ≡ ys → cond b (e ∷ xs) xs ≡ cond d (e ∷ ys) ys
kept_as true true e xs ys h ih = ap (λ (zs : List CacheEntry). e ∷ zs) ih
kept_as true false e xs ys h ih = absurd cc
kept_as false true e xs ys h ih = absurd cc
kept_as false false e xs ys h ih = ih

pub filter_as : (p q : CacheEntry → Bool) (es : List CacheEntry) → ((e : CacheEntry) → p e ≡ q e) → filter p es ≡ filter q es
filter_as p q [] h = refl
filter_as p q (e ∷ es) h = kept_as (p e) (q e) e (filter p es) (filter q es) (h e) (filter_as p q es h)

-- the entries of these go, and the act is answered
pub plain_as : (me : Node) (c : ClientState) (d : Drops) (call : FsCall) (place : ℕ) (code : Code) → ((e : CacheEntry) → drops_of d e ≡ may_change call e.fid)
    → ends_step me c (left d c.cache) (λ ls. lines.Given place ∷ dropped me (filter (drops_of d) c.cache) ls) code ≡ ends_step me c (left_after call c.cache) (λ ls. lines.Given place ∷ dropped me (dropped_after call c.cache) ls) code
plain_as me c d call place code h =
    ap (λ (es : List CacheEntry). ends_step me c es (λ ls. lines.Given place ∷ dropped me (filter (drops_of d) c.cache) ls) code)
    (filter_as (λ (e : CacheEntry). not (drops_of d e)) (λ (e : CacheEntry). not (may_change call e.fid)) c.cache (λ e. ap not (h e)))
    ∙ ap (λ (es : List CacheEntry). ends_step me c (left_after call c.cache) (λ ls. lines.Given place ∷ dropped me es ls) code) (filter_as (drops_of d) (λ (e : CacheEntry). may_change call e.fid) c.cache h)
