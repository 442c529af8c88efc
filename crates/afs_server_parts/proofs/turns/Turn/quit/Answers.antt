use Rattle.std.proofs.Common.{◌≡◌, None, List, ◌∷◌, map, rules, refl, sym, ap, ◌∙◌}
use Rattle.std.specs.Prelude.{filter}
use Rattle.spec_breaks.specs.Promises.{has_break}
use Rattle.spec_breaks.specs.declared.types.OwedBreak.{OwedBreak}
use Rattle.spec_rows.specs.Callbacks.{ends_all, quit_line, timeout_line}
use Rattle.afs_callees.proofs.Calls.{good_put}
use Rattle.afs_server_parts.proofs.Turning.{ends_owed, turn_is}
use Rattle.afs_server_parts.proofs.turns.Turn.quit.Goals as goal

pub returns : goal.returns
returns c =
    let call = c.args.call.now in
    let told : c.tell_quit.new.lines ≡ timeout_line c.args.self.now.stand.node c.args.self.now.stand.boot c.args.node call.number 3 ∷ map (quit_line c.args.self.now.stand.node c.args.node) (filter (λ (o : OwedBreak). has_break o.number c.args.self.now.owed.items) call.content) = search rules in
    record {
      turn = λ l q.
          let fewer = ends_owed call.content l in
          let owed : (ends_all call.content l).owed ≡ c.end_breaks.new.owed.items = search (rules, fewer, q) in
          let lines = told ∙ ap (λ (os : List OwedBreak). timeout_line c.args.self.now.stand.node c.args.self.now.stand.boot c.args.node call.number 3 ∷ map (quit_line c.args.self.now.stand.node c.args.node) (filter (λ (o : OwedBreak). has_break o.number os) call.content)) (sym q) in
          turn_is (ends_all call.content l) _ _ _ _ _ _ _ _ owed refl c.in_ok-end_call.ensures.calls c.in_ok-end_call.ensures.known refl lines c.requires.sent c.requires.outs;
      stand = refl;
      ready = λ h. record {
        node = h.node;
        owed = c.end_breaks.ensures.nodes h.owed;
        calls = good_put c.args.node None _ _ c.in_ok-end_call.ensures.calls h.calls tt;
        drawn = h.drawn;
      };
    }
