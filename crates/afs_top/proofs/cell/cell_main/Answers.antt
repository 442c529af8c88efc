use Rattle.std.proofs.Common.{map, string_bytes, refl, inl}
use Rattle.afs_command.specs.Reading.{level}
use Rattle.afs_command.specs.Spans.{span}
use Rattle.afs_cell.specs.Replays.{LendingLeaves, SetUpLeaves}
use Rattle.afs_generate.specs.Generated.{generated}
use Rattle.afs_top.proofs.Calls.{as_read, asks_replay, completes_made, completes_replayed, completes_unread, ends_made, ends_read, ends_unread, gives_script, has_form, have_form, is_few, made_isnt_early, replay_isnt_made}
use Rattle.afs_top.proofs.Numbered.{are_numbered}
use Rattle.afs_top.proofs.cell.cell_main.Goals as goal

pub returns-in-Err-clause-ends : goal.returns-in-Err-clause-ends
returns-in-Err-clause-ends g c = (have_form (map string_bytes c.args.words.now) c.in-Err.ensures.err, inl (refl, record { sink = refl; lends = refl; given = refl }))

pub returns-in-Err-clause-no_form : goal.returns-in-Err-clause-no_form
returns-in-Err-clause-no_form g c = λ none. absurd (none (have_form (map string_bytes c.args.words.now) c.in-Err.ensures.err))

pub replay-requires : goal.replay-requires
replay-requires g c = record {
  script = c.scripts_are_of_cells.ensures level c.in-Ok.ensures.script.input c.in-Ok.script c.in-Ok.ensures.script.read;
}

pub returns-in-Ok-clause-ends : goal.returns-in-Ok-clause-ends
returns-in-Ok-clause-ends g c =
    ends_read (map string_bytes c.args.words.now) (span (g.S.Source.left c.args.source.now) (g.S.Source.left c.script_in.new.source)) (span (g.S.Source.faults c.args.source.now) (g.S.Source.faults c.script_in.new.source)) (g.B.Bank.tells c.args.bank.now) (SetUpLeaves g.B.D.Disk.seen g.B.D.Disk.may_leave g.B.D.Disk.faults) (LendingLeaves g.B.D.Disk.seen g.B.D.Disk.faults g.B.D.Disk.limit) _ c.replay.result _ _ c.in-Ok.script
    c.replay.ensures c.in-Ok.ensures.script
    (c.runs_are_lawful.ensures c.in-Ok.script (c.volumes_are_in_cell.ensures c.in-Ok.script (c.scripts_are_of_cells.ensures level c.in-Ok.ensures.script.input c.in-Ok.script c.in-Ok.ensures.script.read)) (are_numbered c.in-Ok.script (c.scripts_are_of_cells.ensures level c.in-Ok.ensures.script.input c.in-Ok.script c.in-Ok.ensures.script.read)) (c.scripts_are_of_cells.ensures level c.in-Ok.ensures.script.input c.in-Ok.script c.in-Ok.ensures.script.read).servers.0)
    (as_read (map string_bytes c.args.words.now) _ _ _ c.in-Ok-Some-Replay.ensures.form c.in-Ok-Some-Replay.field-0-is c.in-Ok-Some-Replay.field-0-0-is)

pub returns-in-Ok-clause-untouched : goal.returns-in-Ok-clause-untouched
returns-in-Ok-clause-untouched g c = λ made. absurd (replay_isnt_made (map string_bytes c.args.words.now) c.in-Ok-Some-Replay.wire c.in-Ok-Some-Replay.place (as_read (map string_bytes c.args.words.now) _ _ _ c.in-Ok-Some-Replay.ensures.form c.in-Ok-Some-Replay.field-0-is c.in-Ok-Some-Replay.field-0-0-is) made)

pub returns-in-Ok-clause-no_form : goal.returns-in-Ok-clause-no_form
returns-in-Ok-clause-no_form g c =
    λ none. absurd (none (has_form (map string_bytes c.args.words.now) _ (as_read (map string_bytes c.args.words.now) _ _ _ c.in-Ok-Some-Replay.ensures.form c.in-Ok-Some-Replay.field-0-is c.in-Ok-Some-Replay.field-0-0-is)))

pub returns-clause-ends : goal.returns-clause-ends
returns-clause-ends g c =
    ends_unread (map string_bytes c.args.words.now) (span (g.S.Source.left c.args.source.now) (g.S.Source.left c.script_in.new.source)) (span (g.S.Source.faults c.args.source.now) (g.S.Source.faults c.script_in.new.source)) (g.B.Bank.tells c.args.bank.now) (SetUpLeaves g.B.D.Disk.seen g.B.D.Disk.may_leave g.B.D.Disk.faults) (LendingLeaves g.B.D.Disk.seen g.B.D.Disk.faults g.B.D.Disk.limit) _ c.in-Err-script_in.status
    (asks_replay (map string_bytes c.args.words.now) c.in-Ok-Some-Replay.wire c.in-Ok-Some-Replay.place (as_read (map string_bytes c.args.words.now) _ _ _ c.in-Ok-Some-Replay.ensures.form c.in-Ok-Some-Replay.field-0-is c.in-Ok-Some-Replay.field-0-0-is)) (record { sink = refl; lends = refl; given = refl }) c.in-Err-script_in.ensures.none

pub returns-clause-untouched : goal.returns-clause-untouched
returns-clause-untouched g c = λ made. absurd (replay_isnt_made (map string_bytes c.args.words.now) c.in-Ok-Some-Replay.wire c.in-Ok-Some-Replay.place (as_read (map string_bytes c.args.words.now) _ _ _ c.in-Ok-Some-Replay.ensures.form c.in-Ok-Some-Replay.field-0-is c.in-Ok-Some-Replay.field-0-0-is) made)

pub returns-clause-complete : goal.returns-clause-complete
returns-clause-complete g c = λ can fine sink bank disks. completes_unread (span (g.S.Source.left c.args.source.now) (g.S.Source.left c.script_in.new.source)) (span (g.S.Source.faults c.args.source.now) (g.S.Source.faults c.script_in.new.source)) c.in-Err-script_in.status c.in-Err-script_in.ensures.none
    (gives_script (map string_bytes c.args.words.now) _ c.in-Ok-Some-Replay.wire c.in-Ok-Some-Replay.place (as_read (map string_bytes c.args.words.now) _ _ _ c.in-Ok-Some-Replay.ensures.form c.in-Ok-Some-Replay.field-0-is c.in-Ok-Some-Replay.field-0-0-is) can) fine

pub returns-clause-no_form : goal.returns-clause-no_form
returns-clause-no_form g c =
    λ none. absurd (none (has_form (map string_bytes c.args.words.now) _ (as_read (map string_bytes c.args.words.now) _ _ _ c.in-Ok-Some-Replay.ensures.form c.in-Ok-Some-Replay.field-0-is c.in-Ok-Some-Replay.field-0-0-is)))

pub returns-in-Ok-clause-complete : goal.returns-in-Ok-clause-complete
returns-in-Ok-clause-complete g c = λ can fine sink bank disks. completes_replayed _ _ _ _ _ _ _ c.replay.result c.replay.ensures sink bank disks

-- ---- a made script

pub make_and_play-requires : goal.make_and_play-requires
make_and_play-requires g c = is_few (map string_bytes c.args.words.now) c.in-Ok-Some-Gen.number (as_read (map string_bytes c.args.words.now) _ _ _ c.in-Ok-Some-Gen.ensures.form c.in-Ok-Some-Gen.field-0-is c.in-Ok-Some-Gen.field-0-0-is)

pub returns-in-Ok-Some-Gen-clause-ends : goal.returns-in-Ok-Some-Gen-clause-ends
returns-in-Ok-Some-Gen-clause-ends g c =
    ends_made (map string_bytes c.args.words.now) (span (g.S.Source.left c.args.source.now) (g.S.Source.left c.args.source.now)) (span (g.S.Source.faults c.args.source.now) (g.S.Source.faults c.args.source.now)) (g.B.Bank.tells c.args.bank.now) (SetUpLeaves g.B.D.Disk.seen g.B.D.Disk.may_leave g.B.D.Disk.faults)
    (LendingLeaves g.B.D.Disk.seen g.B.D.Disk.faults g.B.D.Disk.limit) _ c.make_and_play.result c.in-Ok-Some-Gen.number (as_read (map string_bytes c.args.words.now) _ _ _ c.in-Ok-Some-Gen.ensures.form c.in-Ok-Some-Gen.field-0-is c.in-Ok-Some-Gen.field-0-0-is)
    (c.runs_are_lawful.ensures (generated c.in-Ok-Some-Gen.number) (c.volumes_are_in_cell.ensures (generated c.in-Ok-Some-Gen.number) (c.generated_are_of_cells.ensures c.in-Ok-Some-Gen.number)) (are_numbered (generated c.in-Ok-Some-Gen.number) (c.generated_are_of_cells.ensures c.in-Ok-Some-Gen.number)) (c.generated_are_of_cells.ensures c.in-Ok-Some-Gen.number).servers.0) refl refl c.make_and_play.ensures

pub returns-in-Ok-Some-Gen-clause-no_form : goal.returns-in-Ok-Some-Gen-clause-no_form
returns-in-Ok-Some-Gen-clause-no_form g c =
    λ none. absurd (none (has_form (map string_bytes c.args.words.now) _ (as_read (map string_bytes c.args.words.now) _ _ _ c.in-Ok-Some-Gen.ensures.form c.in-Ok-Some-Gen.field-0-is c.in-Ok-Some-Gen.field-0-0-is)))

pub returns-in-Ok-Some-Gen-clause-complete : goal.returns-in-Ok-Some-Gen-clause-complete
returns-in-Ok-Some-Gen-clause-complete g c = λ can fine sink bank disks. completes_made _ _ _ _ _ _ c.make_and_play.result c.make_and_play.ensures sink bank disks

pub returns-in-Ok-Some-Gen-clause-quiet : goal.returns-in-Ok-Some-Gen-clause-quiet
returns-in-Ok-Some-Gen-clause-quiet g c = λ before. absurd (made_isnt_early _ _ _ _ _ _ c.make_and_play.result c.make_and_play.ensures before)

pub returns-in-Ok-Some-Gen-clause-unread : goal.returns-in-Ok-Some-Gen-clause-unread
returns-in-Ok-Some-Gen-clause-unread g c = λ is. refl

pub returns-in-Ok-Some-Gen-clause-untouched : goal.returns-in-Ok-Some-Gen-clause-untouched
returns-in-Ok-Some-Gen-clause-untouched g c = λ asked. refl
