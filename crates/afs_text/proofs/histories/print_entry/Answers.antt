-- The number of an entry, its lines and its messages are laid in a piece, and what that holds in the end is put.
use Rattle.std.proofs.Common.{List, ◌++◌, Ok, Err, ap, refl}
use Rattle.spec_history.specs.declared.lines.Line.{Line}
use Rattle.spec_model.specs.Text.{entry_head_text}
use Rattle.afs_text.specs.KeptText.{kept_entry_text, parcels_text}
use Rattle.afs_text.specs.RunText.{lines_text}
use Rattle.afs_text.proofs.Laid.{lays_put, lays_put_stop, lays_stop, lays_then}
use Rattle.afs_text.proofs.Octal.{puts_same}
use Rattle.afs_text.proofs.histories.print_entry.Goals as goal

pub returns-in_err-lay_step : goal.returns-in_err-lay_step
unfolding kept_entry_text
returns-in_err-lay_step g c =
    let first = lays_stop (entry_head_text c.args.number c.args.entry.now.actor) (lines_text c.args.entry.now.lines) c.clear.new.self c.clear.new.self _ _ _ _ _ (Err c.in_err-lay_step.field-0.0) refl c.in_err-lay_step.ensures in
    lays_put_stop (((entry_head_text c.args.number c.args.entry.now.actor) ++ (lines_text c.args.entry.now.lines)) ++ (parcels_text c.args.wire c.args.first_place c.args.sent.now)) c.clear.new.self _ _ _ _ _ _ c.clear.ensures c.from_residual.ensures.0 (lays_stop ((entry_head_text c.args.number c.args.entry.now.actor) ++ (lines_text c.args.entry.now.lines)) (parcels_text c.args.wire c.args.first_place c.args.sent.now) c.clear.new.self c.clear.new.self _ _ _ _ _ (Err c.in_err-lay_step.field-0.0) refl first)

pub returns-in_err-lay_lines : goal.returns-in_err-lay_lines
unfolding kept_entry_text
returns-in_err-lay_lines g c =
    let first = lays_then (entry_head_text c.args.number c.args.entry.now.actor) (lines_text c.as_slice.result.now) c.clear.new.self c.lay_step.new.piece c.clear.new.self _ _ _ _ _ _ _ (Err c.in_err-lay_lines.field-0.0) c.in_ok-lay_step.ensures c.in_err-lay_lines.ensures in
    puts_same _ _ _ _ _ _ _ (ap (λ (ls : List Line). ((entry_head_text c.args.number c.args.entry.now.actor) ++ lines_text ls) ++ (parcels_text c.args.wire c.args.first_place c.args.sent.now)) c.as_slice.ensures) (lays_put_stop (((entry_head_text c.args.number c.args.entry.now.actor) ++ (lines_text c.as_slice.result.now)) ++ (parcels_text c.args.wire c.args.first_place c.args.sent.now)) c.clear.new.self _ _ _ _ _ _ c.clear.ensures c.from_residual-in_err-lay_lines.ensures.0 (lays_stop ((entry_head_text c.args.number c.args.entry.now.actor) ++ (lines_text c.as_slice.result.now)) (parcels_text c.args.wire c.args.first_place c.args.sent.now) c.clear.new.self c.clear.new.self _ _ _ _ _ (Err c.in_err-lay_lines.field-0.0) refl first))

pub returns-in_err-lay_sent : goal.returns-in_err-lay_sent
unfolding kept_entry_text
returns-in_err-lay_sent g c =
    let first = lays_then (entry_head_text c.args.number c.args.entry.now.actor) (lines_text c.as_slice.result.now) c.clear.new.self c.lay_step.new.piece c.lay_lines.new.piece _ _ _ _ _ _ _ (Ok tt) c.in_ok-lay_step.ensures c.in_ok-lay_lines.ensures in
    let both = lays_then ((entry_head_text c.args.number c.args.entry.now.actor) ++ (lines_text c.as_slice.result.now)) (parcels_text c.args.wire c.args.first_place c.args.sent.now) c.clear.new.self c.lay_lines.new.piece c.clear.new.self _ _ _ _ _ _ _ (Err c.in_err-lay_sent.field-0.0) first c.in_err-lay_sent.ensures in
    puts_same _ _ _ _ _ _ _ (ap (λ (ls : List Line). ((entry_head_text c.args.number c.args.entry.now.actor) ++ lines_text ls) ++ (parcels_text c.args.wire c.args.first_place c.args.sent.now)) c.as_slice.ensures) (lays_put_stop (((entry_head_text c.args.number c.args.entry.now.actor) ++ (lines_text c.as_slice.result.now)) ++ (parcels_text c.args.wire c.args.first_place c.args.sent.now)) c.clear.new.self _ _ _ _ _ _ c.clear.ensures c.from_residual-in_err-lay_sent.ensures.0 both)

pub returns : goal.returns
unfolding kept_entry_text
returns g c =
    let first = lays_then (entry_head_text c.args.number c.args.entry.now.actor) (lines_text c.as_slice.result.now) c.clear.new.self c.lay_step.new.piece c.lay_lines.new.piece _ _ _ _ _ _ _ (Ok tt) c.in_ok-lay_step.ensures c.in_ok-lay_lines.ensures in
    let both = lays_then ((entry_head_text c.args.number c.args.entry.now.actor) ++ (lines_text c.as_slice.result.now)) (parcels_text c.args.wire c.args.first_place c.args.sent.now) c.clear.new.self c.lay_lines.new.piece c.lay_sent.new.piece _ _ _ _ _ _ _ (Ok tt) first c.in_ok-lay_sent.ensures in
    puts_same _ _ _ _ _ _ _ (ap (λ (ls : List Line). ((entry_head_text c.args.number c.args.entry.now.actor) ++ lines_text ls) ++ (parcels_text c.args.wire c.args.first_place c.args.sent.now)) c.as_slice.ensures) (lays_put (((entry_head_text c.args.number c.args.entry.now.actor) ++ (lines_text c.as_slice.result.now)) ++ (parcels_text c.args.wire c.args.first_place c.args.sent.now)) c.clear.new.self c.lay_sent.new.piece _ _ _ _ _ _ _ _ _ c.clear.ensures c.as_slice-2.ensures.value both c.put_bytes.ensures)
