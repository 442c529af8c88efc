use Rattle.std.proofs.Common.{◌≡◌, ℕ, ap, sym, ◌∙◌}
use Rattle.spec_model.specs.CellRows.{call_number}
use Rattle.afs_num.specs.declared.messages.Call.{Call}
use Rattle.afs_cache.specs.Serving.{runs_asking}
use Rattle.afs_cache.specs.declared.serving.Asking.TheVariants as askings
use Rattle.afs_cache.proofs.Placing.{stills_same}
use Rattle.afs_cache.proofs.Interfaces.{call_is, refused_else}
use Rattle.afs_cache.proofs.node.CacheManager.run_call.Goals as goal

pub serve-requires-clause-opcode : goal.serve-requires-clause-opcode
serve-requires-clause-opcode c = c.requires.asking ∙ ap call_number (call_is c.args.call _ (sym c.into_file.ensures ∙ c.in-Some.is))

pub returns-in-Some : goal.returns-in-Some
returns-in-Some c =
    let old = c.args.self.now in
    stills_same _ (λ (place : ℕ). runs_asking old.node old.state.client place c.args.head.now (askings.Call c.args.call)) old c.serve.new.self c.serve.result
    (λ place. ap (λ (x : Call). runs_asking old.node old.state.client place c.args.head.now (askings.Call x)) (sym (call_is c.args.call _ (sym c.into_file.ensures ∙ c.in-Some.is)))) c.serve.ensures

pub returns-in-None : goal.returns-in-None
returns-in-None c =
    let old = c.args.self.now in
    stills_same _ (λ (place : ℕ). runs_asking old.node old.state.client place c.args.head.now (askings.Call c.args.call)) old c.refuse_call.new.self c.refuse_call.result
    (λ place. refused_else old.node old.state.client place c.args.head.now c.args.call (sym c.into_file.ensures ∙ c.in-None.is)) c.refuse_call.ensures
