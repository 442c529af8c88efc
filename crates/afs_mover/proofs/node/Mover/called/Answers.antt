use Rattle.std.proofs.Common.{ℕ, [], ap, sym, ◌∙◌}
use Rattle.afs_num.specs.declared.messages.Message.{Message}
use Rattle.afs_call.specs.Admitting.{means}
use Rattle.spec_model.specs.Calls.{admitted}
use Rattle.spec_rows.specs.ServerRow.{not_served, refusal}
use Rattle.spec_adminrows.specs.AdminRow.{admits, serves_not, told}
use Rattle.afs_calling.proofs.Stepping.{takes_same}
use Rattle.afs_mover.proofs.node.Mover.called.Goals as goal

pub returns-in-Run : goal.returns-in-Run
returns-in-Run c =
    let old = c.args.self.now in
    let head = c.args.head.now in
    takes_same (λ (place : ℕ). serves_not old.state place head (refusal old.state.epoch head not_served)) (λ (place : ℕ). admits old.state place head (admitted old.state.epoch old.state.seats head)) old c.refuse_call.new.self c.refuse_call.result
    (λ place. ap (admits old.state place head) (ap (means {R = Message}) (sym c.in-Run.is) ∙ c.admit.ensures)) c.refuse_call.ensures

pub returns-in-Kept : goal.returns-in-Kept
returns-in-Kept c =
    let old = c.args.self.now in
    takes_same _ (λ (place : ℕ). admits old.state place c.args.head.now (admitted old.state.epoch old.state.seats c.args.head.now)) old old c.tell_again.result (λ place. ap (admits old.state place c.args.head.now) c.in-Kept.ensures) c.tell_again.ensures

pub returns-in-InProgress : goal.returns-in-InProgress
returns-in-InProgress c =
    let old = c.args.self.now in
    let head = c.args.head.now in
    takes_same (λ (place : ℕ). told old.state place []) (λ (place : ℕ). admits old.state place head (admitted old.state.epoch old.state.seats head)) old old c.ignore.result
    (λ place. ap (admits old.state place head) (ap (means {R = Message}) (sym c.in-InProgress.is) ∙ c.admit.ensures)) c.ignore.ensures

pub returns-in-Old : goal.returns-in-Old
returns-in-Old c =
    let old = c.args.self.now in
    let head = c.args.head.now in
    takes_same (λ (place : ℕ). told old.state place []) (λ (place : ℕ). admits old.state place head (admitted old.state.epoch old.state.seats head)) old old c.ignore-in-Old.result
    (λ place. ap (admits old.state place head) (ap (means {R = Message}) (sym c.in-Old.is) ∙ c.admit.ensures)) c.ignore-in-Old.ensures

pub returns-in-WrongBoot : goal.returns-in-WrongBoot
returns-in-WrongBoot c =
    let old = c.args.self.now in
    takes_same _ (λ (place : ℕ). admits old.state place c.args.head.now (admitted old.state.epoch old.state.seats c.args.head.now)) old old c.tell_boot.result (λ place. ap (admits old.state place c.args.head.now) c.in-WrongBoot.ensures) c.tell_boot.ensures
