use Rattle.std.proofs.Common.{◌≡◌, ◌<◌, ◌+◌, List, true, subst, refl, sym, ap, ◌∙◌, arith, if◌then◌else◌}
use Rattle.std.specs.List.{list_any, AllByRecursion}
use Rattle.spec_ideal.specs.Operations.{last_count}
use Rattle.afs_changes.specs.Changes.{IsChangeBy, IsKeptAs}
use Rattle.afs_changes.specs.Drawing.{all_freed, all_left, all_told, makes_vnode, CanBeDrawn}
use Rattle.afs_reads.specs.Replying.{caller_seen}
use Rattle.afs_changes.specs.Planning.{edits_seen}
use Rattle.afs_volume.specs.Giving.{volume_of}
use Rattle.afs_changes.specs.declared.edits.Edit.{Edit}
use Rattle.afs_changes.proofs.Changed.{change_of, counter_low, drawable, is_change, replies, row_fits, shown_there, unique_low, IsDrafted}
use Rattle.afs_changes.proofs.Fitting.{can_take, is_kept}
use Rattle.afs_changes.proofs.applying.changed_by.Goals as goal

pub draft_of-requires : goal.draft_of-requires
draft_of-requires c =
    let w = c.args.volume.now in
    let drawn = drawable w.head.id (caller_seen c.args.caller.now) c.args.call.now (volume_of w) (edits_seen c.args.plan.now.edits) c.args.plan.now.shown c.requires.sound c.requires.on c.requires.planned in
    subst (λ (es : List Edit). AllByRecursion (CanBeDrawn (volume_of w)) (edits_seen es)) (sym c.as_slice-edits.ensures) drawn

pub reply-reply-requires-clause-left : goal.reply-reply-requires-clause-left
reply-reply-requires-clause-left c =
    let w = c.args.volume.now in
    shown_there w.head.id (caller_seen c.args.caller.now) c.args.call.now (volume_of w) (edits_seen c.args.plan.now.edits) c.args.plan.now.shown _ c.requires.sound c.requires.on c.requires.planned
    (c.in_ok-draft.ensures.vnodes ∙ ap (λ (es : List Edit). all_left (volume_of w) (edits_seen es)) c.as_slice-edits.ensures)

pub unique_left-requires : goal.unique_left-requires
unique_left-requires c =
    let w = c.args.volume.now in
    subst (λ (es : List Edit). list_any makes_vnode (edits_seen es) ≡ true → w.head.unique < last_count) (sym c.as_slice-edits.ensures)
    (unique_low w.head.id (caller_seen c.args.caller.now) c.args.call.now (volume_of w) (edits_seen c.args.plan.now.edits) c.args.plan.now.shown c.requires.planned)

pub overflow_add-change : goal.overflow_add-change
overflow_add-change c =
    let w = c.args.volume.now in
    let low = counter_low w.head.id (caller_seen c.args.caller.now) c.args.call.now (volume_of w) (edits_seen c.args.plan.now.edits) c.args.plan.now.shown c.requires.planned in
    omega (arith, low)

drafted : (c : goal.After-unique_left) → IsDrafted c.args.volume.now c.args.now (edits_seen c.args.plan.now.edits) c.in_ok-draft.draft
drafted c =
    let w = c.args.volume.now in
    record {
      time = c.in_ok-draft.ensures.time;
      versions = c.in_ok-draft.ensures.versions ∙ ap (λ (es : List Edit). all_told w.head.id (volume_of w) (edits_seen es)) c.as_slice-edits.ensures;
      vnodes = c.in_ok-draft.ensures.vnodes ∙ ap (λ (es : List Edit). all_left (volume_of w) (edits_seen es)) c.as_slice-edits.ensures;
      removed = c.in_ok-draft.ensures.removed ∙ ap (λ (es : List Edit). all_freed (volume_of w) (edits_seen es)) c.as_slice-edits.ensures;
      images = c.in_ok-draft.ensures.images;
    }

changed : (c : goal.After-unique_left) → IsChangeBy c.args.volume.now c.args.now (edits_seen c.args.plan.now.edits) c.args.plan.now.shown (change_of c.in_ok-draft.draft (c.args.volume.now.head.counter + 1) c.unique_left.result c.reply-reply.result)
changed c =
    let w = c.args.volume.now in
    is_change w (caller_seen c.args.caller.now) c.args.call.now c.args.now (edits_seen c.args.plan.now.edits) c.args.plan.now.shown c.unique_left.result c.in_ok-draft.draft c.reply-reply.result c.requires.sound c.requires.on c.requires.planned (drafted c)
    (c.unique_left.ensures ∙ ap (λ (es : List Edit). if list_any makes_vnode (edits_seen es) then w.head.unique + 1 else w.head.unique) c.as_slice-edits.ensures)

pub returns-clause-change : goal.returns-clause-change
returns-clause-change c = changed c

kept : (c : goal.After-unique_left) → IsKeptAs c.args.volume.now c.args.now (edits_seen c.args.plan.now.edits) (change_of c.in_ok-draft.draft (c.args.volume.now.head.counter + 1) c.unique_left.result c.reply-reply.result)
kept c =
    let w = c.args.volume.now in
    is_kept w (caller_seen c.args.caller.now) c.args.call.now c.args.now (edits_seen c.args.plan.now.edits) c.args.plan.now.shown c.in_ok-draft.draft (change_of c.in_ok-draft.draft (w.head.counter + 1) c.unique_left.result c.reply-reply.result) c.requires.sound c.requires.on c.requires.planned c.requires.few (drafted c) (changed c)

pub returns-clause-kept : goal.returns-clause-kept
returns-clause-kept c = kept c

pub returns-clause-fits : goal.returns-clause-fits
returns-clause-fits c =
    let w = c.args.volume.now in
    can_take w c.args.now (edits_seen c.args.plan.now.edits) c.in_ok-draft.draft (change_of c.in_ok-draft.draft (w.head.counter + 1) c.unique_left.result c.reply-reply.result) (drafted c) refl (kept c)

pub returns-clause-reply : goal.returns-clause-reply
returns-clause-reply c =
    let w = c.args.volume.now in
    replies w (caller_seen c.args.caller.now) c.args.call.now c.args.now (edits_seen c.args.plan.now.edits) c.args.plan.now.shown (w.head.counter + 1) c.unique_left.result c.in_ok-draft.draft c.reply-reply.result c.requires.sound c.requires.on c.requires.planned (drafted c) c.reply-reply.ensures

pub returns-clause-row : goal.returns-clause-row
returns-clause-row c =
    let w = c.args.volume.now in
    row_fits w (caller_seen c.args.caller.now) c.args.call.now c.args.now (edits_seen c.args.plan.now.edits) c.args.plan.now.shown (change_of c.in_ok-draft.draft (w.head.counter + 1) c.unique_left.result c.reply-reply.result) (returns-clause-reply c)
