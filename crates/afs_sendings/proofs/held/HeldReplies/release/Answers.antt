use Rattle.std.proofs.Common.{◌≡◌, List, false, rules, sym, ap, ◌∙◌}
use Rattle.std.specs.List.{list_any}
use Rattle.spec_model.specs.Messages.{messages_spelled, parcels_read}
use Rattle.spec_rows.specs.Callbacks.{is_ready, replies_of}
use Rattle.spec_rows.specs.States.{Held}
use Rattle.afs_server_parts.proofs.Released.{all_wait, none_sent}
use Rattle.afs_sendings.proofs.held.HeldReplies.release.Goals as goal

pub returns-then-not-any_ready-clause-sent : goal.returns-then-not-any_ready-clause-sent
returns-then-not-any_ready-clause-sent c =
    let held = c.args.self.now.held in
    let none : list_any (is_ready c.args.owed.now.breaks) held ≡ false = search rules in
    ap parcels_read c.new.ensures ∙ ap (λ (hs : List Held). messages_spelled (replies_of hs)) (sym (none_sent (is_ready c.args.owed.now.breaks) held none))

pub returns-then-not-any_ready-clause-held : goal.returns-then-not-any_ready-clause-held
returns-then-not-any_ready-clause-held c =
    let held = c.args.self.now.held in
    let none : list_any (is_ready c.args.owed.now.breaks) held ≡ false = search rules in
    sym (all_wait (is_ready c.args.owed.now.breaks) held none)
