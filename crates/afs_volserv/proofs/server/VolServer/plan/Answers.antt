use Rattle.std.proofs.Common.{◌≡◌, ◌++◌, ◌∙◌, ℕ, List, [], false, ap, sym, subst}
use Rattle.afs_num.specs.declared.messages.Message.{Message}
use Rattle.spec_breaks.specs.Promises.{lasting_breaks}
use Rattle.spec_breaks.specs.declared.types.OwedBreak.{OwedBreak}
use Rattle.spec_model.specs.Messages.{spelled}
use Rattle.spec_records.specs.Changes.{keeping}
use Rattle.spec_model.specs.Calls.{key_of}
use Rattle.afs_callbacks.specs.Answering.{with_lists}
use Rattle.afs_callbacks.specs.States.{backs_at}
use Rattle.afs_server_parts.specs.declared.turns.Stand.{Stand}
use Rattle.afs_server_parts.specs.Ending.{IsPlan}
use Rattle.afs_server_parts.specs.Turning.{sent_turns}
use Rattle.afs_voldecisions.specs.Replies.{answer_message}
use Rattle.afs_volserv.specs.Saving.{breaks_by, held_on, sent_now, waits_by}
use Rattle.afs_sharing.specs.Stores.{stand_of}
use Rattle.afs_volserv.proofs.server.VolServer.plan.Goals as goal

pub returns-clause-planned : goal.returns-clause-planned
returns-clause-planned g c =
    let k = c.args.callbacks.now in
    let s = c.args.store.now in
    let head = c.args.head.now in
    let now = c.args.now in
    let parts = c.into_parts-answer.ensures in
    let reply : c.in_ok-reply.reply ≡ answer_message s.durable.boot head c.args.saving.answer = c.in_ok-reply.ensures ∙ (λ i. answer_message (c.boot_number.ensures i) head (parts i).0) in
    let breaks = c.from_vec-breaks.result in
    let waits : c.in_ok-waits.waits ≡ waits_by now breaks k = c.in_ok-waits.ensures ∙ ap (λ (bs : List OwedBreak). waits_by now bs k) c.as_slice.ensures in
    let sent : c.in_ok-sent.sent ≡ sent_now c.in_ok-reply.reply (waits_by now breaks k) = c.in_ok-sent.ensures ∙ ap (sent_now c.in_ok-reply.reply) (c.as_slice-2.ensures ∙ waits) in
    record {
      rec = c.in_ok-rec.ensures.value ∙ (λ i. record { head = record (keeping (key_of head) (spelled (reply i))) { family = (parts i).2; stamp = (parts i).3 }; body = (parts i).1 });
      fits = c.in_ok-rec.ensures.fits;
      read = c.in_ok-rec.ensures.read;
      reply = reply;
      breaks = c.from_vec-breaks.ensures ∙ (c.in_ok-breaks_on.ensures.breaks ∙ (λ i. breaks_by now (parts i).4 k));
      waits = c.in_ok-waits-2.ensures ∙ ap (λ (ws : List ℕ). held_on c.in_ok-reply.reply ws false) waits;
      ended = record {
        plan = λ l owed.
            subst (λ (ms : List Message). IsPlan (stand_of s) (sent_turns ms (with_lists l (backs_at k s.drawn))) [] c.in_ok-ended.ended) sent
            (subst (λ (st : Stand). IsPlan st (sent_turns c.in_ok-sent.sent (with_lists l (backs_at k st.last))) [] c.in_ok-ended.ended) c.stand.ensures
            (c.in_ok-ended.ensures l (owed ∙ ap (λ (bs : List OwedBreak). lasting_breaks now k.lists.owed ++ bs) (sym c.as_slice-3.ensures))));
      };
      withdraws = λ i. (parts i).4;
      transactions = λ i. (parts i).5;
    }
