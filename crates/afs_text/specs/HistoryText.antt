-- The text of a run whose clients take every act: its entries, each with its lines and the messages that it sent, and what stands at the end.
use Rattle.std.specs.Prelude.{ℕ, ◌+◌, List, [], ◌∷◌, ◌++◌, Bool, length}
use Rattle.spec_model.specs.Text.{messages_text, entry_head_text}
use Rattle.spec_records.specs.Durable.{Durable}
use Rattle.spec_rows.specs.Runs.{Entry}
use Rattle.afs_text.specs.FinalText.{final_text}
use Rattle.afs_text.specs.RunText.{lines_text}

-- an entry of this number, whose first message has this place; its messages come last
unfoldable pub entry_text : Bool → ℕ → ℕ → Entry → List ℕ
entry_text wire number place e = (entry_head_text number e.actor ++ lines_text e.lines) ++ messages_text wire place e.sent

-- entries are numbered one after another, and so are the places of all messages
abbrev pub entries_text : Bool → ℕ → ℕ → List Entry → List ℕ
entries_text wire number place [] = []
entries_text wire number place (e ∷ es) = entry_text wire number place e ++ entries_text wire (number + 1) (place + length e.sent) es

-- the first entry and the first message have number 1
unfoldable pub history_text : Bool → List Entry → List ℕ
history_text wire h = entries_text wire 1 1 h

-- the text of a history after which the servers' disks keep these, with the bytes of each message or without
unfoldable pub text : Bool → List Entry → List Durable → List ℕ
text wire history ds = history_text wire history ++ final_text ds
