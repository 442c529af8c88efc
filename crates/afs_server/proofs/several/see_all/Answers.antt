use Rattle.std.proofs.Common.{◌≡◌, ◌∷◌, ◌+◌, ℕ, List, drop, get_or, length, refl, rules, sym, subst}
use Rattle.std.specs.Prelude.{Err}
use Rattle.spec_ideal.specs.Operations.{the_user, Caller}
use Rattle.spec_ideal.specs.Tables.{get}
use Rattle.afs_num.specs.declared.types.Fid.{Fid}
use Rattle.spec_volrows.specs.FileRow.{file_sight, file_sights}
use Rattle.afs_server.specs.Handling.{holds_seen}
use Rattle.afs_decisions.specs.Several.{AreFirst, IsFault, SeesAll, TellsOne}
use Rattle.afs_volume.proofs.Walked.{from_place}
use Rattle.afs_decisions.proofs.Sights.{all_first, fault_first, next_first, none_first}
use Rattle.afs_sharing.specs.Lasting.{lasting_of}
use Rattle.afs_server.proofs.several.see_all.Goals as goal

pub loop-fid-init : goal.loop-fid-init
loop-fid-init g c = none_first (the_user c.args.user.now) (file_sights (holds_seen c.args.store.now) (lasting_of c.args.store.now.durable) (the_user c.args.user.now) c.args.fids.now) c.new-told.result (c.new-told.ensures c.args.user.now)

pub loop-fid-preserved : goal.loop-fid-preserved
loop-fid-preserved g c =
    let none : Fid = record { volume = 0; vnode = 0; unique = 0 } in
    let holds = holds_seen c.args.store.now in
    let l = lasting_of c.args.store.now.durable in
    let caller = the_user c.args.user.now in
    let fids = c.args.fids.now in
    let i = c.loop-fid.fid-index in
    let f : Fid = get_or fids i none in
    let all = file_sights holds l caller fids in
    let first = from_place fids i f c.loop-fid-test.true none refl in
    let told = c.in_ok-see_next.ensures in
    let one : TellsOne caller (file_sight holds l caller f (get f.volume l.volumes)) c.loop-fid.told c.see_next.new.told = search (rules, told) in
    let invariant = subst (λ (fs : List Fid). AreFirst caller all (file_sights holds l caller fs) i c.loop-fid.told) first c.loop-fid.invariant in
    next_first caller all (file_sight holds l caller f (get f.volume l.volumes)) (file_sights holds l caller (drop (i + 1) fids)) i c.loop-fid.told c.see_next.new.told invariant one

pub returns-in_err-see_next : goal.returns-in_err-see_next
returns-in_err-see_next g c =
    let none : Fid = record { volume = 0; vnode = 0; unique = 0 } in
    let holds = holds_seen c.args.store.now in
    let l = lasting_of c.args.store.now.durable in
    let caller = the_user c.args.user.now in
    let fids = c.args.fids.now in
    let i = c.loop-fid.fid-index in
    let f : Fid = get_or fids i none in
    let all = file_sights holds l caller fids in
    let first = from_place fids i f c.loop-fid-test.true none refl in
    let told = c.in_err-see_next.ensures in
    let fault : IsFault c.in_err-see_next.field-0.0 (file_sight holds l caller f (get f.volume l.volumes)) = search (rules, told) in
    let invariant = subst (λ (fs : List Fid). AreFirst caller all (file_sights holds l caller fs) i c.loop-fid.told) first c.loop-fid.invariant in
    let refused : SeesAll caller (length fids) all (Err c.in_err-see_next.field-0.0) = fault_first caller all (file_sight holds l caller f (get f.volume l.volumes)) (file_sights holds l caller (drop (i + 1) fids)) i (length fids) c.loop-fid.told c.in_err-see_next.field-0.0 invariant fault in
    search (rules, refused)
