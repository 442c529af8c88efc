use Rattle.afs_command.proofs.FewWords.{four_ask_nothing}
use Rattle.afs_command.proofs.statuses.options_in.Goals as goal

pub returns-in-len4-up : goal.returns-in-len4-up
returns-in-len4-up c = four_ask_nothing _ _ c.in-len4-up.len_at_least
