use Rattle.std.proofs.Common.{◌≡◌, ◌++◌, List, false, rules, sym, ap, ◌∙◌}
use Rattle.std.specs.List.{list_any}
use Rattle.std.proofs.lemmas.List.{append-nil}
use Rattle.spec_rows.specs.Callbacks.{is_ready, replies_of}
use Rattle.spec_rows.specs.States.{Held}
use Rattle.afs_server_parts.proofs.Released.{all_wait, none_sent}
use Rattle.afs_server_parts.proofs.turns.Turn.release_held.Goals as goal

pub returns-else-any_ready-clause-sent : goal.returns-else-any_ready-clause-sent
returns-else-any_ready-clause-sent c =
    let t = c.args.self.now in
    let none : list_any (is_ready t.owed.items) t.held ≡ false = search rules in
    sym (append-nil t.calls.sent) ∙ ap (λ (hs : List Held). t.calls.sent ++ replies_of hs) (sym (none_sent (is_ready t.owed.items) t.held none))

pub returns-else-any_ready-clause-held : goal.returns-else-any_ready-clause-held
returns-else-any_ready-clause-held c =
    let t = c.args.self.now in
    let none : list_any (is_ready t.owed.items) t.held ≡ false = search rules in
    sym (all_wait (is_ready t.owed.items) t.held none)
