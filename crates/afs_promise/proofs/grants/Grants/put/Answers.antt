use Rattle.std.proofs.Common.{◌≡◌, ◌+◌, ◌<◌, ℕ, List, Bool, nat_eq, length, arith, refl, sym, ap, subst, ◌∙◌}
use Rattle.indexmap.specs.IndexMap.{get}
use Rattle.afs_num.specs.declared.types.Fid.{Fid}
use Rattle.afs_num.specs.declared.types.Node.{Node}
use Rattle.afs_promise.specs.declared.types.Grant.{Grant}
use Rattle.afs_promise.specs.Granting.{Granted, same_holding, held, goes_on, IsLog}
use Rattle.spec_breaks.specs.Promises.{with_promise}
use Rattle.afs_promise.proofs.Logs.{count_below, granted_log, granted_held}
use Rattle.afs_promise.proofs.grants.Grants.put.Goals as goal

pub note-requires-clause-few : goal.note-requires-clause-few
note-requires-clause-few c = omega (arith, count_below c.self.invariant.0, c.self.invariant.4, ap (λ (v : Granted). v.room) c.self.view_is, c.requires)

abbrev grant_of : ℕ → Node → Fid → ℕ → Grant
grant_of next client fid expiry = record { order = next; promise = record { client = client; fid = fid; expiry = expiry } }

pub invariant_of-self-2 : goal.invariant_of-self-2
invariant_of-self-2 c =
    let some : 0 < c.self.inside.room = omega (arith, ap (λ (v : Granted). v.room) c.self.view_is, c.requires) in
    let x = grant_of c.self.inside.next c.args.client c.args.fid c.args.expiry in
    let goes : c.goes_on-self-inside.result ≡ goes_on (nat_eq (length c.self.inside.log.items) 0) c.self.inside.rising c.self.inside.highest c.args.expiry =
    c.goes_on-self-inside.ensures ∙ ap (λ (b : Bool). goes_on b c.self.inside.rising c.self.inside.highest c.args.expiry) (c.is_empty.ensures ∙ ap (λ (l : List Grant). nat_eq (length l) 0) c.as_slice.ensures.value)
    in (
      subst (λ (l : List Grant). IsLog (get same_holding c.note.new.latest) l c.meet.new.clients.items c.self.inside.ended c.note.new.count (c.self.inside.next + 1) c.goes_on-self-inside.result c.args.expiry) (sym c.in_ok-push.ensures.items) (granted_log (get same_holding c.self.inside.latest) (get same_holding c.note.new.latest) c.args.client c.args.fid x c.self.inside.log.items refl refl c.note.ensures.updates refl c.meet.ensures.keeps c.meet.ensures.known c.note.ensures.count goes c.self.invariant.0),
      omega (arith, some, c.self.invariant.1, c.push.ensures.capacity, c.in_ok-push.ensures.len),
      omega (arith, some, c.self.invariant.2, c.meet.ensures.len, c.meet.ensures.capacity),
      omega (arith, some, c.self.invariant.3, c.note.ensures.spare),
      omega (arith, some, c.self.invariant.4),
    )

pub returns-clause-promises : goal.returns-clause-promises
returns-clause-promises c =
    let x = grant_of c.self.inside.next c.args.client c.args.fid c.args.expiry in
    ap (held (get same_holding c.note.new.latest)) c.in_ok-push.ensures.items
    ∙ (granted_held (get same_holding c.self.inside.latest) (get same_holding c.note.new.latest) c.args.client c.args.fid x c.self.inside.log.items refl refl c.note.ensures.updates c.self.inside.next refl c.self.invariant.0.rises
    ∙ ap (λ (v : Granted). with_promise c.args.client c.args.expiry c.args.fid v.promises) c.self.view_is)
