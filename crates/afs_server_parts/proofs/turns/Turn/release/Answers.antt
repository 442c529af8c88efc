use Rattle.std.proofs.Common.{◌≡◌, ◌++◌, not, rules, refl}
use Rattle.std.specs.Prelude.{filter}
use Rattle.spec_rows.specs.Callbacks.{is_ready, replies_of}
use Rattle.spec_rows.specs.States.{Held}
use Rattle.afs_callees.specs.Called.{call_to, known_to}
use Rattle.afs_server_parts.proofs.Turning.{released}
use Rattle.afs_server_parts.proofs.turns.Turn.release.Goals as goal

pub returns-clause-backs : goal.returns-clause-backs
returns-clause-backs c l q =
    let t = c.args.self.now in
    let calls = c.release_held.new.self.calls in
    let last : calls.last ≡ t.calls.last = search rules in
    let unanswered : call_to calls.callees.items ≡ call_to t.calls.callees.items = search rules in
    let known : known_to calls.callees.items ≡ known_to t.calls.callees.items = search rules in
    let sent : calls.sent ≡ (t.calls.sent ++ replies_of (filter (is_ready t.owed.items) t.outs)) ++ replies_of (filter (is_ready t.owed.items) t.held) = search rules in
    let held : c.hold_all.new.held ≡ filter (λ (h : Held). not (is_ready t.owed.items h)) t.held ++ filter (λ (h : Held). not (is_ready t.owed.items h)) t.outs = search rules in
    released l t c.hold_all.new.held calls q last unanswered known sent held
