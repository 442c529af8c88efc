use Rattle.std.proofs.Common.{◌≡◌, ℕ, List, [], ◌∷◌, ◌++◌, Some, None, true, false, ap, map, filter, sym, ◌∙◌}
use Rattle.spec_rows.specs.Going.{ClientState, Going}
use Rattle.spec_history.specs.declared.lines.Line.{Line}
use Rattle.spec_history.specs.declared.lines.Line.TheVariants as lines
use Rattle.spec_rows.specs.ClientRow.{goes_on, is_trusted, looked, put_entries, status_look, not_walked, with_statuses}
use Rattle.afs_entries.specs.Cached.{entry_of}
use Rattle.afs_cache.specs.Wanted.{shows_statuses}
use Rattle.afs_cache.specs.Managing.{by_act, by_call, telling}
use Rattle.afs_cache.proofs.Answering.{goes_taken}
use Rattle.std.specs.List.{list_any}
use Rattle.std.proofs.Common.{not}
use Rattle.spec_rows.specs.States.{CacheEntry}
use Rattle.afs_entries.specs.declared.cache.Fresh.{Fresh}
use Rattle.afs_cache.proofs.Replying.{all_spent, statuses_taken, idle_behind}
use Rattle.afs_cache.proofs.node.CacheManager.take_all.Goals as goal

pub returns-in_default : goal.returns-in_default
returns-in_default c =
    let old = c.args.self.now in
    idle_behind (λ (place : ℕ) (act : Going). shows_statuses old.node old.state.client c.args.now place act (map entry_of c.args.all.items)) c.args.lines old old c.ignore_behind.result c.in_default.ensures c.ignore_behind.ensures

pub returns-then-spent : goal.returns-then-spent
returns-then-spent c =
    let old = c.args.self.now in
    let st = old.state.client in
    let told : c.deref.result.now ≡ c.args.all.items = c.deref.ensures.value in
    all_spent old.node st c.args.now (map entry_of c.args.all.items) c.args.lines old c.call_again_behind.new.self c.call_again_behind.result
    (sym c.if-spent.true ∙ (c.is_any_spent-spent.ensures ∙ ap (λ (fs : List Fresh). list_any (λ (e : CacheEntry). not (is_trusted c.args.now e)) (map entry_of fs)) told)) c.call_again_behind.ensures

pub returns : goal.returns
returns c =
    let old = c.args.self.now in
    let st = old.state.client in
    let all = map entry_of c.args.all.items in
    goes_taken (λ (front : List Line → List Line). goes_on old.node st front (not_walked c.in_ok-going.field-0.going (put_entries st.capacity all st.cache)))
    (λ (place : ℕ). telling c.args.lines (by_act st place (λ (act : Going). shows_statuses old.node st c.args.now place act all) st.running)) c.in_ok-going.field-0.lines old c.go_with.new.self c.go_with.result
    (λ place. statuses_taken old.node st c.args.now place c.in-Some.asked.now c.args.lines c.in_ok-going.field-0.lines c.in_ok-going.field-0.going all c.in-Some.ensures
    (c.in_ok-going.ensures.lines ∙ ap (λ (fs : List Fresh). c.args.lines ++ looked old.node (map status_look (map entry_of fs)) []) c.deref-2.ensures.value)
    (c.in_ok-going.ensures.going ∙ ap (λ (fs : List Fresh). with_statuses (map entry_of fs) c.in-Some.asked.now.going) c.deref-2.ensures.value)
    (sym c.if-spent.false ∙ (c.is_any_spent-spent.ensures ∙ ap (λ (fs : List Fresh). list_any (λ (e : CacheEntry). not (is_trusted c.args.now e)) (map entry_of fs)) c.deref.ensures.value))) c.go_with.ensures
