-- The row of a volume server: what it decides on a call that runs. Each verdict is of the durable part and the transactions, in the
-- order of refusals: an old stamp; a volume that is there; no such transaction or volume; one that another transaction holds; a dump
-- that is none; no room. A dump that is longer than one may be finds no room, whatever its bytes are.
use Rattle.std.specs.Prelude.{ℕ, ◌+◌, List, [], ◌∷◌, ◌++◌, Bool, not, ◌&&◌, ◌||◌, Option, Some, None, Result, Ok, Err, nat_eq, nat_lt, length, map, filter, if◌then◌else◌}
use Rattle.std.specs.List.{list_any}
use Rattle.afs_num.specs.declared.records.RecordBody.{RecordBody}
use Rattle.afs_num.specs.declared.records.RecordBody.TheVariants as bodies
use Rattle.afs_num.specs.declared.volume_calls.ListedVolume.{ListedVolume}
use Rattle.afs_num.specs.declared.volume_calls.VolCall.{VolCall}
use Rattle.afs_num.specs.declared.volume_calls.VolCall.TheVariants as calls
use Rattle.afs_num.specs.declared.volume_calls.VolReply.{VolReply}
use Rattle.afs_num.specs.declared.volume_calls.VolReply.TheVariants as replies
use Rattle.spec_ideal.specs.Operations.{is_last_count}
use Rattle.spec_ideal.specs.Tables.{get, set, unset, Table}
use Rattle.spec_ideal.specs.Volumes.{blocks_in, has_bit}
use Rattle.spec_records.specs.Durable.{Durable, Stored}
use Rattle.spec_records.specs.Records.{most_dump}
use Rattle.spec_dumps.specs.Clones.{next_release}
use Rattle.spec_dumps.specs.Dumps.{dump_of}
use Rattle.spec_dumps.specs.Restores.{fed, restored_from}
use Rattle.spec_dumps.specs.Streams.{dump_bytes, is_last_at, piece_at}
use Rattle.spec_fold.specs.Deeds.{has_volume, has_volume_room}
use Rattle.spec_volrows.specs.VolStates.{Transaction}

-- ---- codes

-- a lower stamp than the stored one
abbrev pub old_stamp : ℕ
old_stamp = 1492325131

-- the volume that is to be made is there
abbrev pub is_there_already : ℕ
is_there_already = 104

-- no such transaction or volume
abbrev pub no_such : ℕ
no_such = 1492325135

-- another transaction holds the volume
abbrev pub volume_held_code : ℕ
volume_held_code = 1492325133

-- what is given is no dump or no piece of one, or an offset is none that it may be
abbrev pub bad_dump : ℕ
bad_dump = 1492325122

-- no room: for a record, for one more volume, or for a higher count
abbrev pub no_room_left : ℕ
no_room_left = 108

-- at most so many bytes of a dump go in one piece
abbrev pub most_piece : ℕ
most_piece = 33554432

-- ---- what a call does

-- What it does to the transactions, besides what it changes on the disk: they stay; one begins, on a volume of a family, with these flags
-- and under this stamp; the one of this number ends; or that one has then been given these bytes.
pub data After : Type 0 where
  stay : After
  begins : ℕ → ℕ → ℕ → ℕ → After
  ends : ℕ → After
  gives : ℕ → List ℕ → After

-- An accepted call: its reply; what of it is written, if anything; the volume whose promises it withdraws; and what it does to the
-- transactions.
pub record Plan : Type 0 where
  pub reply : VolReply
  pub body : Option RecordBody
  pub withdraws : Option ℕ
  pub after : After

-- a dump that is to be sent: to this server, into a transaction of the family there
pub record Dispatch : Type 0 where
  pub server : ℕ
  pub family : ℕ
  pub target : ℕ
  pub bytes : List ℕ

-- A call is refused with a code, whereby bytes that were given may be forgotten; it is accepted; or a dump is sent, and the reply comes
-- when that went.
pub data Verdict : Type 0 where
  refused : ℕ → After → Verdict
  accepted : Plan → Verdict
  sends : Dispatch → Verdict

abbrev pub refusing : ℕ → Verdict
refusing code = refused code stay

-- nothing is written
abbrev pub tells : VolReply → Verdict
tells reply = accepted (record { reply = reply; body = None; withdraws = None; after = stay })

abbrev pub writes : VolReply → RecordBody → Option ℕ → After → Verdict
writes reply body withdraws after = accepted (record { reply = reply; body = Some body; withdraws = withdraws; after = after })

-- ---- transactions

-- one on a volume of another family isn't this family's
abbrev pub of_family : ℕ → Option Transaction → Option Transaction
of_family family None = None
of_family family (Some t) = if nat_eq t.family family then Some t else None

abbrev pub found : ℕ → ℕ → Table Transaction → Option Transaction
found family number ts = of_family family (get number ts)

-- another than this one holds the volume
abbrev pub holds_other : ℕ → ℕ → ℕ × Transaction → Bool
holds_other number id p = nat_eq p.1.volume id && not (nat_eq p.0 number)

abbrev pub is_held_by_other : ℕ → ℕ → Table Transaction → Bool
is_held_by_other number id ts = list_any (holds_other number id) ts

-- in a transaction: with its volume
abbrev pub in_its_volume : Transaction → (Transaction → Stored → Verdict) → Option Stored → Verdict
in_its_volume t f None = refusing no_such
in_its_volume t f (Some s) = f t s

abbrev pub in_transaction : Durable → Option Transaction → (Transaction → Stored → Verdict) → Verdict
in_transaction d None f = refusing no_such
in_transaction d (Some t) f = in_its_volume t f (get t.volume d.volumes)

abbrev pub volume_of_family : ℕ → Option Stored → Option Stored
volume_of_family family None = None
volume_of_family family (Some s) = if nat_eq s.volume.family family then Some s else None

-- those of the family end
abbrev pub is_of_other : ℕ → ℕ × Transaction → Bool
is_of_other family p = not (nat_eq p.1.family family)

abbrev pub without_family : ℕ → Table Transaction → Table Transaction
without_family family ts = filter (is_of_other family) ts

-- ---- the calls

-- refused with this code where the test is true
abbrev pub refused_where : Bool → ℕ → Verdict → Verdict
refused_where b code v = if b then refusing code else v

-- a volume that is made with flags, and under no stamp, is new
abbrev pub begins_new : ℕ → ℕ → Bool
begins_new stamp flags = nat_eq stamp 0 && not (nat_eq flags 0)

abbrev pub creates : Durable → ℕ → ℕ → ℕ → ℕ → List ℕ → ℕ → ℕ → ℕ → Verdict
creates d last stamp family id name kind flags quota =
    refused_where (has_volume id d) is_there_already (refused_where (not (has_volume_room d)) no_room_left
    (writes (replies.CreateVolume (last + 1)) (bodies.Create id family name kind flags quota (begins_new stamp flags)) None (begins id family 1 stamp)))

-- the last piece, with all bytes that were given: the dump is restored, or it is refused and all of it forgotten
abbrev pub whole_given : ℕ → ℕ → List ℕ → Result Stored ℕ → Verdict
whole_given number id bytes (Ok s) = writes replies.Restore (bodies.Restore id bytes) (Some id) (gives number [])
whole_given number id bytes (Err offset) = refused bad_dump (gives number [])

-- another piece: what came may still become a dump, or is refused and forgotten
abbrev pub part_given : ℕ → List ℕ → Option ℕ → Verdict
part_given number bytes None = accepted (record { reply = replies.Restore; body = None; withdraws = None; after = gives number bytes })
part_given number bytes (Some offset) = refused bad_dump (gives number [])

abbrev pub piece_given : ℕ → ℕ → List ℕ → Transaction → Stored → Verdict
piece_given number last bytes t s =
    if nat_eq last 0 then part_given number bytes (fed bytes) else whole_given number t.volume bytes (restored_from t.volume s bytes)

-- No record holds a longer dump than this. So more bytes find no room, and are forgotten with those before them.
abbrev pub unless_long : ℕ → List ℕ → Verdict → Verdict
unless_long number bytes v = if nat_lt most_dump (length bytes) then refused no_room_left (gives number []) else v

abbrev pub restores : ℕ → ℕ → ℕ → List ℕ → Transaction → Stored → Verdict
restores number offset last piece t s =
    refused_where (not (nat_eq offset (length t.given))) bad_dump (unless_long number (t.given ++ piece) (piece_given number last (t.given ++ piece) t s))

abbrev pub forwards : ℕ → ℕ → ℕ → ℕ → Transaction → Stored → Verdict
forwards family from server target t s = sends (record { server = server; family = family; target = target; bytes = dump_bytes (dump_of t.volume from s) })

-- a clone has the next release, and then the volume has that, too
abbrev pub clones : Durable → ℕ → List ℕ → ℕ → Transaction → Stored → Verdict
clones d id name kind t s =
    refused_where (not (has_volume_room d) || is_last_count s.volume.release) no_room_left
    (writes (replies.Clone s.volume.counter (next_release s)) (bodies.Clone t.volume id name kind (next_release s)) None stay)

-- Promises are withdrawn by each word with the flag of out of service, whether that was set before or not, and by each word that takes the
-- flags from 0.
abbrev pub takes_out : ℕ → ℕ → Bool
takes_out before flags = has_bit 2 flags || (nat_eq before 0 && not (nat_eq flags 0))

abbrev pub sets_flags : ℕ → Transaction → Stored → Verdict
sets_flags flags t s =
    writes replies.SetFlags (bodies.Flags t.volume flags) (if takes_out s.volume.flags flags then Some t.volume else None) stay

-- busy by the word 2, offline by every other
abbrev pub busy_or_offline : ℕ → ℕ
busy_or_offline flags = if nat_eq flags 2 then 2 else 1

abbrev pub begins_on : Table Transaction → ℕ → ℕ → ℕ → ℕ → ℕ → Option Stored → Verdict
begins_on ts last stamp family id flags None = refusing no_such
begins_on ts last stamp family id flags (Some s) =
    refused_where (is_held_by_other 0 id ts) volume_held_code
    (accepted (record { reply = replies.TransCreate (last + 1); body = None; withdraws = None; after = begins id family (busy_or_offline flags) stamp }))

-- 1 with the last piece of a dump, else 0
abbrev pub last_word : ℕ → List ℕ → ℕ
last_word offset bytes = if is_last_at most_piece offset bytes then 1 else 0

abbrev pub dumps_piece : ℕ → List ℕ → Verdict
dumps_piece offset bytes =
    refused_where (nat_lt (length bytes) offset) bad_dump (tells (replies.Dump (last_word offset bytes) (piece_at most_piece offset bytes)))

abbrev pub dumps : ℕ → ℕ → Transaction → Stored → Verdict
dumps from offset t s = dumps_piece offset (dump_bytes (dump_of t.volume from s))

abbrev pub tells_status : Transaction → Stored → Verdict
tells_status t s =
    tells (replies.GetStatus t.volume s.volume.kind s.volume.flags s.volume.quota (blocks_in s.volume.vnodes) s.volume.counter s.volume.release)

abbrev pub volume_listed : ℕ × Stored → ListedVolume
volume_listed p = record { volume = p.0; kind = p.1.volume.kind; flags = p.1.volume.flags; release = p.1.volume.release }

abbrev pub is_of_family : ℕ → ℕ × Stored → Bool
is_of_family family p = nat_eq p.1.volume.family family

abbrev pub list_of : ℕ → Durable → List ListedVolume
list_of family d = map volume_listed (filter (is_of_family family) d.volumes)

abbrev pub clones_anew : ℕ → Table Transaction → ℕ → Transaction → Stored → Option Stored → Verdict
clones_anew number ts id t s None = refusing no_such
clones_anew number ts id t s (Some old) =
    refused_where (is_held_by_other number id ts) volume_held_code (refused_where (is_last_count s.volume.release) no_room_left
    (writes (replies.ReClone s.volume.counter (next_release s)) (bodies.Clone t.volume id old.volume.name old.volume.kind (next_release s)) (Some id) stay))

-- by the durable part, the transactions, the last number of one, and the call's stamp, which isn't below the stored one
abbrev pub verdict : Durable → Table Transaction → ℕ → ℕ → VolCall → Verdict
verdict d ts last stamp (calls.CreateVolume family id name kind flags quota) = creates d last stamp family id name kind flags quota
verdict d ts last stamp (calls.DeleteVolume family number) =
    in_transaction d (found family number ts) (λ t s. writes replies.DeleteVolume (bodies.Delete t.volume) (Some t.volume) (ends number))
verdict d ts last stamp (calls.Restore family number offset final piece) = in_transaction d (found family number ts) (restores number offset final piece)
verdict d ts last stamp (calls.Forward family number from server target) = in_transaction d (found family number ts) (forwards family from server target)
verdict d ts last stamp (calls.EndTrans family number) =
    in_transaction d (found family number ts) (λ t s. accepted (record { reply = replies.EndTrans; body = None; withdraws = None; after = ends number }))
verdict d ts last stamp (calls.Clone family number id name kind) =
    refused_where (has_volume id d) is_there_already (in_transaction d (found family number ts) (clones d id name kind))
verdict d ts last stamp (calls.SetFlags family number flags) = in_transaction d (found family number ts) (sets_flags flags)
verdict d ts last stamp (calls.GetFlags family number) = in_transaction d (found family number ts) (λ t s. tells (replies.GetFlags s.volume.flags))
verdict d ts last stamp (calls.TransCreate family id flags) = begins_on ts last stamp family id flags (volume_of_family family (get id d.volumes))
verdict d ts last stamp (calls.Dump family number from offset) = in_transaction d (found family number ts) (dumps from offset)
verdict d ts last stamp (calls.SetForwarding family number server) =
    in_transaction d (found family number ts) (λ t s. writes replies.SetForwarding (bodies.Forward t.volume server) None stay)
verdict d ts last stamp (calls.GetStatus family number) = in_transaction d (found family number ts) tells_status
verdict d ts last stamp (calls.ListVols family) = tells (replies.ListVols (list_of family d))
verdict d ts last stamp (calls.ReClone family number id) =
    in_transaction d (found family number ts) (λ t s. clones_anew number ts id t s (volume_of_family family (get id d.volumes)))

abbrev pub family_of : VolCall → ℕ
family_of (calls.CreateVolume family id name kind flags quota) = family
family_of (calls.DeleteVolume family number) = family
family_of (calls.Restore family number offset final piece) = family
family_of (calls.Forward family number from server target) = family
family_of (calls.EndTrans family number) = family
family_of (calls.Clone family number id name kind) = family
family_of (calls.SetFlags family number flags) = family
family_of (calls.GetFlags family number) = family
family_of (calls.TransCreate family id flags) = family
family_of (calls.Dump family number from offset) = family
family_of (calls.SetForwarding family number server) = family
family_of (calls.GetStatus family number) = family
family_of (calls.ListVols family) = family
family_of (calls.ReClone family number id) = family

-- ---- what becomes of the transactions

abbrev pub gave : ℕ → List ℕ → Option Transaction → Table Transaction → Table Transaction
gave number bytes None ts = ts
gave number bytes (Some t) ts = set number (record t { given = bytes }) ts

abbrev pub transactions_after : ℕ → After → Table Transaction → Table Transaction
transactions_after last stay ts = ts
transactions_after last (begins id family flags stamp) ts = set (last + 1) (record { volume = id; family = family; flags = flags; stamp = stamp; given = [] }) ts
transactions_after last (ends number) ts = unset number ts
transactions_after last (gives number bytes) ts = gave number bytes (get number ts) ts

abbrev pub last_after : ℕ → After → ℕ
last_after last (begins id family flags stamp) = last + 1
last_after last after = last

-- the volumes that transactions hold, with their flags
abbrev pub holds_of : Table Transaction → Table ℕ
holds_of [] = []
holds_of (p ∷ ps) = set p.1.volume p.1.flags (holds_of ps)
