use Rattle.std.proofs.Common.{◌≡◌, ℕ, sym, ap, subst, to_z-of_z, rules, SFits, ◌∙◌}
use Rattle.std.specs.Int.{w32}
use Rattle.std.specs.Prelude.{pos, ℤ}
use Rattle.std.specs.Option.{option_map}
use Rattle.spec_ideal.specs.Tables.{get}
use Rattle.afs_shelves.specs.Shelving.{is_new_in, stored_as}
use Rattle.spec_volrows.specs.FileRow.{closed_code, file_sight}
use Rattle.spec_ideal.specs.Operations.{the_user}
use Rattle.afs_server.specs.Handling.{holds_seen}
use Rattle.afs_decisions.specs.Several.{IsRefused}
use Rattle.afs_decisions.proofs.Sights.{closed_sees, missing_sees, open_sees}
use Rattle.afs_sharing.specs.Lasting.{lasting_of}
use Rattle.afs_server.proofs.several.see.Goals as goal

pub returns-in-None : goal.returns-in-None
returns-in-None g c =
    let fits : SFits w32 c.missing_code.result = search rules in
    subst (λ (z : ℤ). IsRefused z (file_sight (holds_seen c.args.store.now) (lasting_of c.args.store.now.durable) (the_user c.args.user.now) c.args.fid.now (get c.args.fid.now.volume c.args.store.now.durable.volumes))) (sym (to_z-of_z fits))
    (missing_sees (holds_seen c.args.store.now) (lasting_of c.args.store.now.durable) (the_user c.args.user.now) c.args.fid.now c.missing_code.result
    c.in-None.ensures.none c.missing_code.ensures.value c.missing_code.ensures.told)

pub returns-in-Some-closed_code : goal.returns-in-Some-closed_code
returns-in-Some-closed_code g c =
    let new = is_new_in c.args.fid.now.volume c.args.store.now.durable.volumes in
    let held = ap (λ (n : ℕ). option_map pos (closed_code (stored_as new c.in-Some.volume.now) (get n (holds_seen c.args.store.now)))) (sym c.in-Some.ensures.id) ∙ sym (c.closed_code.ensures.value new) in
    let fits : SFits w32 c.in-Some-closed_code.code = search rules in
    subst (λ (z : ℤ). IsRefused z (file_sight (holds_seen c.args.store.now) (lasting_of c.args.store.now.durable) (the_user c.args.user.now) c.args.fid.now (get c.args.fid.now.volume c.args.store.now.durable.volumes))) (sym (to_z-of_z fits))
    (closed_sees (holds_seen c.args.store.now) (lasting_of c.args.store.now.durable) (the_user c.args.user.now) c.args.fid.now new c.in-Some.volume.now c.in-Some-closed_code.code
    c.in-Some.ensures.some (held ∙ c.in-Some-closed_code.is) c.in-Some-closed_code.ensures.told)

pub returns-in-None-closed_code : goal.returns-in-None-closed_code
returns-in-None-closed_code g c =
    let new = is_new_in c.args.fid.now.volume c.args.store.now.durable.volumes in
    let held = ap (λ (n : ℕ). option_map pos (closed_code (stored_as new c.in-Some.volume.now) (get n (holds_seen c.args.store.now)))) (sym c.in-Some.ensures.id) ∙ sym (c.closed_code.ensures.value new) in
    open_sees (holds_seen c.args.store.now) (lasting_of c.args.store.now.durable) (the_user c.args.user.now) c.args.fid.now new c.in-Some.volume.now c.see_in.result
    c.in-Some.ensures.some (held ∙ c.in-None-closed_code.is) (c.see_in.ensures new)
