use Rattle.std.proofs.Common.{◌≡◌, ℕ, Some, sym, ap, subst, to_z-of_z, rules, SFits, ◌∙◌}
use Rattle.std.specs.Int.{w32}
use Rattle.spec_ideal.specs.Tables.{get}
use Rattle.std.specs.Prelude.{pos, ℤ}
use Rattle.std.specs.Option.{option_map}
use Rattle.afs_shelves.specs.Shelving.{is_new_in, stored_as}
use Rattle.spec_volrows.specs.FileRow.{closed_code}
use Rattle.std.proofs.lemmas.Result.{IfOk-weaker}
use Rattle.spec_ideal.specs.Operations.{the_user}
use Rattle.afs_server.specs.Handling.{holds_seen, server_seen}
use Rattle.afs_decisions.proofs.Decisions.{closed_decides, found_decides, missing_decides}
use Rattle.afs_decisions.specs.Deciding.{IsDecision, IsDecisionIn}
use Rattle.afs_decisions.specs.declared.decided.Decided.{Decided}
use Rattle.afs_decisions.specs.declared.decided.Decided.TheVariants as decided
use Rattle.spec_volrows.specs.FileRow.{file_in}
use Rattle.afs_server.proofs.server.FileServer.in_volume.Goals as goal

pub returns-in-None : goal.returns-in-None
returns-in-None g c =
    let fits : SFits w32 c.missing_code.result = search rules in
    let s = server_seen c.args.self.now c.args.store.now in
    subst (λ (z : ℤ). IsDecision s c.args.now c.args.head.now (file_in (holds_seen c.args.store.now) s c.args.now c.args.head.now (the_user c.args.user.now) c.args.call.now c.args.id (get c.args.id c.args.store.now.durable.volumes)) (decided.Refuses z)) (sym (to_z-of_z fits)) (record {
      decides = missing_decides (holds_seen c.args.store.now) (server_seen c.args.self.now c.args.store.now) c.args.now c.args.head.now (the_user c.args.user.now) c.args.call.now c.args.id c.missing_code.result c.in-None.ensures.none c.missing_code.ensures.value;
      told = c.missing_code.ensures.told;
      fits = tt;
    })

pub returns-in-Some-closed_code : goal.returns-in-Some-closed_code
returns-in-Some-closed_code g c =
    let volumes = c.args.store.now.durable.volumes in
    let new = is_new_in c.args.id volumes in
    let held = ap (λ (n : ℕ). option_map pos (closed_code (stored_as new c.in-Some.volume.now) (get n (holds_seen c.args.store.now)))) (sym c.in-Some.ensures.id) ∙ sym (c.closed_code.ensures.value new) in
    let fits : SFits w32 c.in-Some-closed_code.code = search rules in
    let s = server_seen c.args.self.now c.args.store.now in
    subst (λ (z : ℤ). IsDecision s c.args.now c.args.head.now (file_in (holds_seen c.args.store.now) s c.args.now c.args.head.now (the_user c.args.user.now) c.args.call.now c.args.id (get c.args.id volumes)) (decided.Refuses z)) (sym (to_z-of_z fits)) (record {
      decides = closed_decides (holds_seen c.args.store.now) (server_seen c.args.self.now c.args.store.now) c.args.now c.args.head.now (the_user c.args.user.now) c.args.call.now c.args.id new c.in-Some.volume.now c.in-Some-closed_code.code c.in-Some.ensures.some (held ∙ c.in-Some-closed_code.is);
      told = c.in-Some-closed_code.ensures.told;
      fits = tt;
    })

pub returns-in-None-closed_code : goal.returns-in-None-closed_code
returns-in-None-closed_code g c =
    let state = server_seen c.args.self.now c.args.store.now in
    let now = c.args.now in
    let head = c.args.head.now in
    let caller = the_user c.args.user.now in
    let call = c.args.call.now in
    let w = c.in-Some.volume.now in
    let new = is_new_in c.args.id c.args.store.now.durable.volumes in
    let there = subst (λ (n : ℕ). get n c.args.store.now.durable.volumes ≡ Some (stored_as new w)) (sym c.in-Some.ensures.id) c.in-Some.ensures.some in
    let open' = sym (c.closed_code.ensures.value new) ∙ c.in-None-closed_code.is in
    IfOk-weaker _ _ _
    (λ (d : Decided) (h : IsDecisionIn now head caller call w d). record {
      decides = found_decides (holds_seen c.args.store.now) state now head caller call c.args.id new w d c.in-Some.ensures.some c.in-Some.ensures.id open' (h.decides new state there);
      told = h.told;
      fits = h.fits;
    })
    c.in_found.ensures
