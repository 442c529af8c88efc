use Rattle.std.proofs.Common.{[], ◌∷◌, ap, ◌∙◌}
use Rattle.spec_model.specs.Messages.{messages_spelled}
use Rattle.spec_rows.specs.States.{Held}
use Rattle.afs_sendings.proofs.Waiting.{sent_one}
use Rattle.afs_sendings.proofs.held.push_sent.Goals as goal

pub returns-clause-sent : goal.returns-clause-sent
returns-clause-sent c =
    let reads = c.into_parcel.ensures ∙ ap (λ (h : Held). messages_spelled (h.reply ∷ [])) c.one.view_is in
    sent_one c.args.out.now.items c.push.new.self.items c.into_parcel.result c.args.one.reply c.in-Ok.ensures.items reads
