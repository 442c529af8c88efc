use Rattle.afs_text.proofs.MessagesRead.{printed_tell_histories}
use Rattle.afs_text.proofs.laws.printed_tell_histories.Goals as goal

pub returns : goal.returns
returns c = printed_tell_histories
