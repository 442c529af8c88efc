-- What a server sends and answers in a step.
use Rattle.std.specs.Prelude.{◌≡◌, ℕ, List, [], ◌∷◌, ◌++◌, Bool, false}
use Rattle.afs_num.specs.declared.calls.FsReply.{FsReply}
use Rattle.afs_num.specs.declared.messages.Carried.TheVariants as carried
use Rattle.afs_num.specs.declared.messages.Message.{Message}
use Rattle.afs_num.specs.declared.messages.Reply.TheVariants as tell
use Rattle.afs_num.specs.declared.types.Head.{Head}
use Rattle.spec_history.specs.declared.lines.Line.{Line}
use Rattle.spec_breaks.specs.Promises.{lasting_breaks, Lists}
use Rattle.spec_breaks.specs.declared.types.OwedBreak.{OwedBreak}
use Rattle.afs_message.specs.Spelled.{Spells}
use Rattle.spec_rows.specs.Callbacks as row
use Rattle.spec_rows.specs.Callbacks.{alls, no_turn, break_numbers}
use Rattle.spec_rows.specs.ServerRow.{promised_in, replied}
use Rattle.spec_rows.specs.States.{Backs}
use Rattle.afs_server_parts.specs.Ending.{IsPlan}
use Rattle.afs_server_parts.specs.declared.ending.Ended.{Ended}
use Rattle.afs_server_parts.specs.declared.turns.Stand.{Stand}
use Rattle.afs_server_parts.specs.Turning.{answer_turn}
use Rattle.afs_callbacks.specs.States.{backs_at, CallbackState}
use Rattle.spec_shape.specs.Rows.{IsWithin}
use Rattle.spec_model.specs.CellRows.{cell_replies, reply_number}
use Rattle.spec_model.specs.Heads.{IsSoundHead}

-- with these promises and owed breaks
abbrev pub with_lists : Lists → Backs → Backs
with_lists l b = record b { lists = l }

-- the reply to a call, which is told this, with a promise until this time where it has a place for one
abbrev pub reply_told : ℕ → Head → ℕ → FsReply → Message
reply_told boot head expiry told = replied boot head (carried.Reply (tell.File (promised_in expiry told)))

-- the reply to the call of this header can tell this, and then has a spelling
pub record CanTell (head : Head) (told : FsReply) : Type 0 where
  pub sound : IsSoundHead head
  pub number : head.opcode ≡ reply_number (tell.File told)
  pub within : IsWithin cell_replies (tell.File told)

-- ---- what comes of a reply, whatever is promised besides

-- where these breaks are then owed, and the reply waits for some of them
abbrev pub IsAnswer : Stand → CallbackState → Message → List OwedBreak → List ℕ → List Line → Ended → Type 0
IsAnswer s k reply owed waits ls e = (l : Lists) → l.owed ≡ owed → IsPlan s (answer_turn reply waits false (with_lists l (backs_at k s.last))) ls e

-- and it is to be kept in these bytes
pub record IsReplied (s : Stand) (k : CallbackState) (reply : Message) (owed : List OwedBreak) (waits : List ℕ) (ls : List Line) (e : Ended) (bytes : List ℕ) : Type 0 where
  pub answer : IsAnswer s k reply owed waits ls e
  pub kept : Spells reply bytes

-- it goes out at once
abbrev pub IsRepliedNow : Stand → CallbackState → ℕ → Message → List Line → Ended → List ℕ → Type 0
IsRepliedNow s k now reply ls e bytes = IsReplied s k reply (lasting_breaks now k.lists.owed) [] ls e bytes

-- it waits for these breaks, which are owed from now on, and for those on all
abbrev pub IsRepliedAfter : Stand → CallbackState → ℕ → Message → List OwedBreak → List Line → Ended → List ℕ → Type 0
IsRepliedAfter s k now reply breaks ls e bytes =
    IsReplied s k reply (lasting_breaks now k.lists.owed ++ breaks) (break_numbers breaks ++ alls (lasting_breaks now k.lists.owed)) ls e bytes
