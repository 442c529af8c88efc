use Rattle.std.proofs.Common.{◌+◌, [], List, sym, subst, ◌∙◌}
use Rattle.std.specs.List.{All}
use Rattle.spec_breaks.specs.declared.types.OwedBreak.{OwedBreak}
use Rattle.afs_server_parts.specs.Turning.{IsBreakToNode}
use Rattle.afs_callbacks.specs.Answering.{reply_told, IsRepliedAfter}
use Rattle.afs_callbacks.specs.Saving.{saved_lines}
use Rattle.afs_callbacks.proofs.Planned.{retold}
use Rattle.afs_callbacks.proofs.callbacks.Callbacks.plan_told.Goals as goal

pub plan_saved-requires-clause-clients : goal.plan_saved-requires-clause-clients
plan_saved-requires-clause-clients c = subst (All IsBreakToNode) (sym c.deref-2.ensures.value) c.requires.clients

pub returns : goal.returns
returns c =
    let s = c.args.stand in
    let head = c.args.head.now in
    let reply = reply_told s.boot head (c.args.now + 7200) c.args.told in
    let lines = c.in_ok-lines.ensures ∙ (λ i. saved_lines s.node head (c.args.now + 7200) c.args.versions (c.as_slice-grants.ensures i) (c.deref.ensures.value i)) in
    let is = subst (λ (os : List OwedBreak). IsRepliedAfter s c.args.self.now c.args.now reply os [] c.in_ok-saved.saved.ended c.in_ok-saved.saved.kept) c.deref-2.ensures.value c.in_ok-saved.ensures in
    record { answer = λ l owes. retold s _ [] _ _ _ lines (is.answer l owes); kept = is.kept }
