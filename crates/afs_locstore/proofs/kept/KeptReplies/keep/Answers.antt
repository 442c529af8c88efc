use Rattle.std.proofs.Common.{◌∙◌, ℕ, ap, sym, subst}
use Rattle.afs_num.specs.Nodes.{node_number, is_known}
use Rattle.afs_xdr.specs.Words.{IsBytes}
use Rattle.spec_ideal.specs.Tables.{set}
use Rattle.spec_records.specs.Durable.{Kept}
use Rattle.afs_seats.proofs.Places.{set_seen}
use Rattle.afs_seats.specs.Seated.{seen_as, Seated}
use Rattle.afs_locstore.specs.Kept.{kept_seen}
use Rattle.afs_locstore.specs.declared.kept.KeptReply.{KeptReply}
use Rattle.afs_locstore.proofs.Replies.{still_called}
use Rattle.afs_locstore.proofs.kept.KeptReplies.keep.Goals as goal

pub invariant_of-self : goal.invariant_of-self
invariant_of-self c =
    let reply : KeptReply = record { caller = c.args.caller; epoch = c.args.epoch; number = c.args.number; reply = c.args.reply } in
    still_called c.number.result reply c.self.inside.seats.table c.put.new.self.table c.in-Ok.ensures.ok
    (sym c.number.ensures, (ap is_known c.number.ensures ∙ c.requires.caller, subst IsBytes c.as_slice.ensures c.are_bytes.ensures)) c.self.invariant

pub returns : goal.returns
returns c =
    let reply : KeptReply = record { caller = c.args.caller; epoch = c.args.epoch; number = c.args.number; reply = c.args.reply } in
    ap (seen_as kept_seen) c.in-Ok.ensures.ok
    ∙ (sym (set_seen kept_seen c.number.result reply c.self.inside.seats.table)
    ∙ (ap (λ (n : ℕ). set n (kept_seen reply) (seen_as kept_seen c.self.inside.seats.table)) c.number.ensures
    ∙ ap (λ (v : Seated Kept). set (node_number c.args.caller) (kept_seen reply) v.table) c.self.view_is))
