use Rattle.afs_text.proofs.MessagesRead.{texts_tell_messages}
use Rattle.afs_text.proofs.laws.texts_tell_messages.Goals as goal

pub returns : goal.returns
returns c = texts_tell_messages
