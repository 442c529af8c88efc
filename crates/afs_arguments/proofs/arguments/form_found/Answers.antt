use Rattle.std.specs.Prelude.{None}
use Rattle.std.proofs.Common.{map, string_bytes, ap, ◌∙◌}
use Rattle.std.proofs.lemmas.Result.{IfOk-weaker}
use Rattle.clap.specs.Simple.{subcommand_rows_of}
use Rattle.afs_command.specs.Forms.{form_by}
use Rattle.afs_arguments.proofs.Asking.{found_made, found_replay, taken_as}
use Rattle.afs_arguments.proofs.arguments.form_found.Goals as goal

pub returns-in-Some-options_of : goal.returns-in-Some-options_of
returns-in-Some-options_of c =
    let words = map string_bytes c.args.words.now in
    let taken = taken_as words c.in_ok-matches.field-0 subcommand_rows_of c.in-Some.matches c.in-Some.is c.in_ok-matches.ensures in
    IfOk-weaker c.replay_by.result _ _ (λ o is. is ∙ (ap (form_by None) c.checked.ensures ∙ found_replay words (subcommand_rows_of c.in-Some.matches) c.in-Some-options_of.options taken c.in-Some-options_of.ensures)) c.replay_by.ensures

pub returns : goal.returns
returns c =
    let words = map string_bytes c.args.words.now in
    let taken = taken_as words c.in_ok-matches.field-0 subcommand_rows_of c.in-Some.matches c.in-Some.is c.in_ok-matches.ensures in
    c.made_by.ensures ∙ found_made words (subcommand_rows_of c.in-Some.matches) _ taken c.in-None.ensures c.word_of.ensures
