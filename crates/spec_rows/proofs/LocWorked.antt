-- Worked calls of the location database: what it answers, whom it lets lock and change an entry, and what it knows when it has begun
-- again.
use Rattle.std.proofs.Common.{◌≡◌, ◌+◌, ℕ, ℤ, Bool, true, false, List, [], ◌∷◌, Some, None, pos, refl}
use Rattle.std.specs.Prelude.{codes}
use Rattle.afs_num.specs.Names.{volume_name_ok, is_name_of}
use Rattle.afs_num.specs.declared.location_calls.LocCall.{LocCall}
use Rattle.afs_num.specs.declared.location_calls.LocCall.TheVariants as calls
use Rattle.afs_num.specs.declared.location_calls.LocEntry.{LocEntry}
use Rattle.afs_num.specs.declared.location_calls.LocReply.{LocReply}
use Rattle.afs_num.specs.declared.location_calls.LocReply.TheVariants as replies
use Rattle.afs_num.specs.declared.messages.Call.TheVariants as ask
use Rattle.afs_num.specs.declared.messages.Carried.{Carried}
use Rattle.afs_num.specs.declared.messages.Carried.TheVariants as carried
use Rattle.afs_num.specs.declared.messages.Message.{Message}
use Rattle.afs_num.specs.declared.messages.Received.TheVariants.{Whole}
use Rattle.afs_num.specs.declared.messages.Reply.TheVariants as tell
use Rattle.afs_num.specs.declared.types.Half.TheVariants as halves
use Rattle.afs_num.specs.declared.types.Node.TheVariants.{Admin, Loc}
use Rattle.spec_model.specs.CellRows.{call_number}
use Rattle.spec_model.specs.Messages.{spelled}
use Rattle.spec_records.specs.LocRecords.{entry_form, loc_record_bytes, Listed, Lock}
use Rattle.spec_records.specs.Records.{head_form}
use Rattle.spec_rows.specs.LocRow.{loc_decides, loc_left, loc_revived, loc_sent, LocState}
use Rattle.spec_rows.proofs.Worked.{home}
use Rattle.afs_xdr.specs.Words.{opaque, pad, word}

-- ---- calls, one after the other

-- administrator `a` calls, in this boot and with this stamp
abbrev pub call_in : ℕ → ℕ → ℕ → ℕ → LocCall → Message
call_in boot a number stamp call = record {
  head = record { half = halves.Call; from = Admin a; to = Loc; epoch = 1; number = number; boot = boot; stamp = stamp; opcode = call_number (ask.Location call) };
  carried = carried.Call [] (ask.Location call);
}

abbrev pub call_from : ℕ → ℕ → ℕ → LocCall → Message
call_from a number stamp call = call_in 1 a number stamp call

pub data Told : Type 0 where
  refused : ℤ → Told
  answered : LocReply → Told
  told_boot : ℕ → Told
  silent : Told

abbrev by_carried : ℕ → Carried → Told
by_carried boot (carried.Refusal code) = refused code.0
by_carried boot (carried.Reply (tell.Location reply)) = answered reply
by_carried boot carried.Notice = told_boot boot
by_carried boot x = silent

abbrev told_by : List Message → Told
told_by [] = silent
told_by (m ∷ ms) = by_carried m.head.boot m.carried

-- what each of these calls is told
abbrev all_told : LocState → List Message → List Told
all_told s [] = []
all_told s (m ∷ ms) = told_by (loc_sent s (loc_decides s (Whole m))) ∷ all_told (loc_left s (loc_decides s (Whole m))) ms

-- the state behind them
abbrev behind : LocState → List Message → LocState
behind s [] = s
behind s (m ∷ ms) = behind (loc_left s (loc_decides s (Whole m))) ms

abbrev pub proj : LocEntry
proj = record { name = codes "proj"; read_write = home; read_only = 0; backup = 0; flags = 4096; sites = record { server = 1; flags = 4 } ∷ [] }

abbrev unlocked : LocEntry → Listed
unlocked e = record { entry = e; lock = None }

abbrev database : LocState
database = record {
  lasting = record { boot = 1; entries = (home, unlocked proj) ∷ []; next_id = 536870913; next_stamp = 1; kept = []; journal = 100; capacity = 268435456 };
  seats = [];
}

-- a lock, one that stands in the way, one by force; then the first holder, an unknown operation, and the release of a recovery
row_locks : all_told database (call_from 1 1 0 (calls.SetLock home 16 0) ∷ call_from 2 1 0 (calls.SetLock home 16 0) ∷ call_from 2 2 0 (calls.SetLock home 16 1)
    ∷ call_from 1 2 1 (calls.ReplaceEntry home proj) ∷ call_from 1 3 1 (calls.SetLock home 3 1) ∷ call_from 2 3 2 (calls.ReleaseLock home) ∷ []) ≡
    answered (replies.SetLock 1 proj) ∷ refused (pos 363541) ∷ answered (replies.SetLock 2 proj) ∷ refused (pos 363541) ∷ refused (pos 363542) ∷ answered replies.ReleaseLock ∷ []
unfolding loc_record_bytes entry_form head_form spelled opaque pad word
row_locks = refl

abbrev pub at_2 : LocEntry
at_2 = record proj { sites = record { server = 2; flags = 4 } ∷ [] }

abbrev pub more : LocEntry
more = record proj { name = codes "more"; read_write = 536870913 }

-- Another site, and a backup; a name that another entry has, and one that is free; then that goes. The same pair again is told the
-- same, an older one nothing.
row_entries : all_told database (call_from 1 1 0 (calls.SetLock home 16 0) ∷ call_from 1 2 1 (calls.ReplaceEntry home at_2) ∷ call_from 1 3 1 (calls.ReplaceEntry home (record at_2 { backup = 7 })) ∷ call_from 1 4 0 calls.GetNewVolumeId
    ∷ call_from 1 5 0 (calls.CreateEntry (record more { name = codes "proj" })) ∷ call_from 1 6 0 (calls.CreateEntry more) ∷ call_from 1 7 0 (calls.ListEntry 1) ∷ call_from 1 8 2 (calls.DeleteEntry 536870913)
    ∷ call_from 1 9 0 (calls.GetEntryById 7) ∷ call_from 1 9 0 (calls.GetEntryById 7) ∷ call_from 1 8 0 (calls.GetEntryById 7) ∷ []) ≡
    answered (replies.SetLock 1 proj) ∷ answered replies.ReplaceEntry ∷ answered replies.ReplaceEntry ∷ answered (replies.GetNewVolumeId 536870913)
    ∷ refused (pos 363522) ∷ answered (replies.CreateEntry 2) ∷ answered (replies.ListEntry 2 more) ∷ answered replies.DeleteEntry
    ∷ answered (replies.GetEntryById (record at_2 { backup = 7 })) ∷ answered (replies.GetEntryById (record at_2 { backup = 7 })) ∷ silent ∷ []
unfolding loc_record_bytes entry_form head_form spelled opaque pad word volume_name_ok is_name_of
row_entries = refl

-- the refusals of a new entry, in their order: a bad name, a number and a name that are taken, too many sites
abbrev nine_sites : LocEntry
nine_sites = record more { sites = record { server = 1; flags = 4 } ∷ record { server = 2; flags = 2 } ∷ record { server = 3; flags = 2 } ∷ record { server = 4; flags = 2 } ∷ record { server = 5; flags = 2 } ∷ record { server = 6; flags = 2 } ∷ record { server = 7; flags = 2 } ∷ record { server = 8; flags = 2 } ∷ record { server = 8; flags = 2 } ∷ [] }

row_refusals : all_told database (call_from 1 1 0 (calls.CreateEntry (record nine_sites { name = codes "a.backup"; backup = home })) ∷ call_from 1 2 0 (calls.CreateEntry (record nine_sites { name = codes "proj"; backup = home }))
    ∷ call_from 1 3 0 (calls.CreateEntry (record nine_sites { name = codes "proj" })) ∷ call_from 1 4 0 (calls.CreateEntry nine_sites) ∷ call_from 1 5 0 (calls.GetEntryById 0) ∷ call_from 1 6 0 (calls.ReleaseLock home) ∷ []) ≡
    refused (pos 363527) ∷ refused (pos 363520) ∷ refused (pos 363522) ∷ refused (pos 363532) ∷ refused (pos 363524) ∷ refused (pos 363541) ∷ []
unfolding loc_record_bytes entry_form head_form spelled opaque pad word volume_name_ok is_name_of
row_refusals = refl

-- It begins again: a call that names the old boot is told the new one; the change of before has its reply still, and the entry is
-- locked; a look-up runs again.
row_begins_again : all_told (loc_revived (behind database (call_from 1 1 0 (calls.GetEntryById home) ∷ call_from 2 1 0 (calls.SetLock home 32 0) ∷ [])))
    (call_from 1 1 0 (calls.GetEntryById home) ∷ call_in 2 1 1 0 (calls.GetEntryById home) ∷ call_in 2 2 1 0 (calls.SetLock home 32 0) ∷ call_in 2 1 2 0 (calls.SetLock home 64 0) ∷ []) ≡
    told_boot 2 ∷ answered (replies.GetEntryById proj) ∷ answered (replies.SetLock 1 proj) ∷ refused (pos 363541) ∷ []
unfolding loc_record_bytes entry_form head_form spelled opaque pad word
row_begins_again = refl
