use Rattle.std.proofs.Common.{◌≡◌, ◌≤◌, ◌+◌, ◌∷◌, [], ℕ, length, ap, sym, subst, ◌∙◌}
use Rattle.afs_num.specs.declared.messages.Message.{Message}
use Rattle.spec_ideal.specs.Tables.{Table}
use Rattle.spec_model.specs.Calls.{call_seated}
use Rattle.spec_rows.specs.ServerRow.{seat_for}
use Rattle.afs_voldecisions.specs.Replies.{answer_message}
use Rattle.afs_voldecisions.specs.Verdicts.{after_of}
use Rattle.spec_volrows.specs.VolRow.{holds_of, last_after, transactions_after}
use Rattle.spec_volrows.specs.VolStates.{Transaction}
use Rattle.afs_volanswers.specs.Flagged.{AreFlagged}
use Rattle.afs_volserv.specs.Sending.{IsSent}
use Rattle.afs_volserv.proofs.Stepping.{alone_of, answer_step, few_after}
use Rattle.afs_volserv.proofs.server.VolServer.answer.Goals as goal

pub end_call-requires-clause-alone : goal.end_call-requires-clause-alone
end_call-requires-clause-alone g c = alone_of c.args.self.now c.args.store.now c.requires.serves

pub end_call-requires-clause-flagged : goal.end_call-requires-clause-flagged
end_call-requires-clause-flagged g c = subst AreFlagged (sym c.in_ok-transactions.ensures.table) c.requires.becomes.flagged

pub end_call-requires-clause-few : goal.end_call-requires-clause-few
end_call-requires-clause-few g c =
    let m = c.args.self.now in
    subst (λ (ts : Table Transaction). length ts ≤ length m.transactions + 1) (sym c.in_ok-transactions.ensures.table) (few_after m.last (after_of c.args.after) m.transactions)

pub keep_at-outs-requires : goal.keep_at-outs-requires
keep_at-outs-requires g c = subst (λ (n : ℕ). n ≤ c.in_ok-ended.ended.last) (sym (ap (λ x. x.drawn) c.in_ok-end_call.ensures.rest)) c.in_ok-ended.ensures.drawn

pub returns : goal.returns
returns g c =
    let m = c.args.self.now in
    let k = c.args.callbacks.now in
    let s = c.args.store.now in
    let head = c.args.head.now in
    let after = after_of c.args.after in
    let ts = transactions_after m.last after m.transactions in
    let last = last_after m.last after in
    let answer = answer_message s.durable.boot head c.args.answer in
    let told : c.in_ok-reply.reply ≡ answer = c.in_ok-reply.ensures ∙ ap (λ (n : ℕ). answer_message n head c.args.answer) c.boot_number.ensures in
    let table = c.in_ok-transactions.ensures.table in
    answer_step m c.end_call.new.self k c.keep_at-outs.new.callbacks s c.end_call.new.store c.keep_at-outs.new.store c.args.now c.in_ok-ended.ended c.keep_at-outs.result head answer ts last
    (subst (λ (r : Message). IsSent c.args.now s.drawn (r ∷ []) k s c.in_ok-ended.ended) told c.in_ok-ended.ensures) c.keep_at-outs.ensures.callbacks c.in_ok-end_call.ensures.rest (c.in_ok-end_call.ensures.holds ∙ ap holds_of table)
    c.keep_at-outs.ensures.store c.keep_at-outs.ensures.outs
    (c.in_ok-end_call.ensures.ok ∙ (λ i. record m { seats = call_seated (seat_for head (told i)) m.seats; transactions = table i; last = c.in_ok-transactions.ensures.last i }))
    c.requires.becomes.apart c.requires.becomes.flagged c.requires.beside c.requires.serves
