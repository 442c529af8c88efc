-- The text of a run: what is told of each step, and then what stands at the end.
-- The bytes of a message are its spelling. Each definition about messages takes `wire`, which says whether they are told
-- too.
use Rattle.std.specs.Prelude.{ℕ, ◌+◌, List, [], ◌∷◌, ◌++◌, Bool, true, false, ℤ, pos, codes}
use Rattle.std.specs.Fmt.{decimal, signed_decimal}
use Rattle.afs_num.specs.Texts.{node_text}
use Rattle.afs_num.specs.declared.types.Half.{Half}
use Rattle.afs_num.specs.declared.types.Half.TheVariants as halves
use Rattle.afs_num.specs.declared.types.Head.{Head}
use Rattle.afs_num.specs.declared.types.Node.{Node}
use Rattle.afs_num.specs.declared.messages.Carried.{Carried}
use Rattle.afs_num.specs.declared.messages.Carried.TheVariants as carried
use Rattle.afs_num.specs.declared.messages.Message.{Message}
use Rattle.afs_num.specs.declared.histories.Actor.{Actor}
use Rattle.afs_num.specs.declared.histories.Actor.TheVariants as actors
use Rattle.spec_model.specs.LineText.{hex_text}
use Rattle.spec_model.specs.Messages.{spelled}

-- ---- messages

abbrev pub half_word : Half → List ℕ
half_word halves.Call = codes "call "
half_word halves.Reply = codes "reply "
half_word halves.Boot = codes "boot "

-- from where to where, which half of a call, its opcode, and the call's epoch and number
unfoldable pub head_text : Head → List ℕ
head_text h =
    node_text h.from ++ (codes " " ++ (node_text h.to ++ (codes " " ++ (half_word h.half ++ (decimal h.opcode ++ (codes " " ++ (decimal h.epoch ++ (codes "." ++ decimal h.number))))))))

-- a reply alone has its code
unfoldable pub code_text : Half → ℤ → List ℕ
code_text halves.Reply code = codes " " ++ signed_decimal code
code_text half code = []

-- the bytes of a message stand behind it where they are asked for
unfoldable pub tail_text : Bool → List ℕ → List ℕ
tail_text true bytes = codes " " ++ hex_text bytes
tail_text false bytes = []

-- the message of this place, with this header, code and bytes, is sent
unfoldable pub sent_text : Bool → ℕ → Head → ℤ → List ℕ → List ℕ
sent_text wire place h code bytes = codes "sent " ++ (decimal place ++ (codes " " ++ (head_text h ++ (code_text h.half code ++ (tail_text wire bytes ++ codes "\n")))))

-- the code of a reply
abbrev pub code_carried : Carried → ℤ
code_carried (carried.Refusal code) = code.0
code_carried c = pos 0

-- the bytes of a message are its spelling
unfoldable pub message_text : Bool → ℕ → Message → List ℕ
message_text wire place m = sent_text wire place m.head (code_carried m.carried) (spelled m)

abbrev pub messages_text : Bool → ℕ → List Message → List ℕ
messages_text wire place [] = []
messages_text wire place (m ∷ ms) = message_text wire place m ++ messages_text wire (place + 1) ms

-- ---- entries

-- whose an entry is: the clock's where it rises, nobody's where nothing happened
abbrev pub actor_text : Actor → List ℕ
actor_text (actors.Node node) = node_text node
actor_text actors.Clock = codes "clock"
actor_text actors.Nobody = codes "none"

-- the number of an entry, and whose it is
unfoldable pub entry_head_text : ℕ → Actor → List ℕ
entry_head_text number actor = codes "entry " ++ (decimal number ++ (codes " " ++ (actor_text actor ++ codes "\n")))
