-- Worked calls of a volume server: what each is answered and tells, and what the file server beside it answers meanwhile.
use Rattle.std.proofs.Common.{◌≡◌, ℕ, List, [], ◌∷◌, ◌++◌, Some, None, map, pos, negsuc, refl}
use Rattle.std.specs.Prelude.{codes, false, true}
use Rattle.std.specs.Fmt.{digits}
use Rattle.afs_num.specs.Names.{name_ok}
use Rattle.afs_num.specs.declared.calls.AfsStoreStatus.{AfsStoreStatus}
use Rattle.afs_num.specs.declared.calls.FsCall.TheVariants as files
use Rattle.afs_num.specs.declared.calls.FsReply.TheVariants as file_replies
use Rattle.afs_num.specs.declared.histories.Body.TheVariants as shapes
use Rattle.afs_num.specs.declared.messages.Call.{Call}
use Rattle.afs_num.specs.declared.messages.Call.TheVariants as ask
use Rattle.afs_num.specs.declared.messages.Carried.{Carried}
use Rattle.afs_num.specs.declared.messages.Carried.TheVariants as carried
use Rattle.afs_num.specs.declared.messages.Message.{Message}
use Rattle.afs_num.specs.declared.messages.Received.TheVariants.{Whole}
use Rattle.afs_num.specs.declared.messages.Reply.TheVariants as tell
use Rattle.afs_num.specs.declared.types.Fid.{Fid}
use Rattle.afs_num.specs.declared.types.Half.TheVariants as halves
use Rattle.afs_num.specs.declared.types.Node.{Node}
use Rattle.afs_num.specs.declared.types.Node.TheVariants.{Loc, Server, Client, Admin}
use Rattle.afs_num.specs.declared.volume_calls.VolCall.{VolCall}
use Rattle.afs_num.specs.declared.volume_calls.VolCall.TheVariants as calls
use Rattle.afs_num.specs.declared.volume_calls.VolReply.{VolReply}
use Rattle.afs_num.specs.declared.volume_calls.VolReply.TheVariants as replies
use Rattle.spec_history.specs.declared.lines.Line.{Line}
use Rattle.spec_history.specs.declared.lines.Line.TheVariants as lines
use Rattle.afs_xdr.specs.Words.{word, opaque, pad, word_at}
use Rattle.spec_ideal.specs.AccessLists.{acl_text, acl_entry_text, rights_of}
use Rattle.spec_ideal.specs.Directories.{directory_bytes, name_bytes}
use Rattle.spec_ideal.specs.SetUp.{new_volume}
use Rattle.spec_ideal.specs.Tables.{Table}
use Rattle.spec_ideal.specs.VnodeImage.{image}
use Rattle.spec_ideal.specs.Volumes.{Volume}
use Rattle.spec_model.specs.CellRows.{call_number}
use Rattle.spec_model.specs.Messages.{spelled}
use Rattle.spec_records.specs.Records.{head_form, record_bytes, volume_form}
use Rattle.spec_records.specs.Durable.{Stored}
use Rattle.spec_dumps.specs.Dumps.{dump_of}
use Rattle.spec_dumps.specs.Restores.{fed, restored_from}
use Rattle.spec_dumps.specs.Streams.{dump_at, dump_bytes, dump_field, dump_header_field, image_field, live_field, volume_header_field}
use Rattle.spec_rows.specs.Hosts as host
use Rattle.spec_rows.specs.Hosts.{comes_up, fails_midway, in_boot, in_step, restarted, steady, HostStep}
use Rattle.spec_rows.specs.Runs.{first_server}
use Rattle.spec_rows.specs.Steps.{begun_before}
use Rattle.spec_fold.specs.Deeds.{created}
use Rattle.spec_fold.specs.Effects.{version_lines}
use Rattle.spec_volrows.specs.FileRow.{file_row, file_start}
use Rattle.spec_volrows.specs.NodeHosts.{node_kind, NodeHost}
use Rattle.spec_volrows.specs.VolStates.{fresh_vol, NodeState}
use Rattle.spec_volrows.specs.VolSteps.{node_begun_after, node_row, node_start_row}

-- ---- a server, and calls to it one after the other

abbrev home : ℕ
home = 536870912

abbrev clone : ℕ
clone = 536870913

abbrev other : ℕ
other = 536870920

abbrev holding : ℕ → Table Volume → NodeState
holding capacity volumes = record { file = first_server capacity volumes; vol = fresh_vol [] }

-- with one new volume
abbrev start : NodeState
start = holding 268435456 ((home, new_volume home (codes "proj") 0 0 1000) ∷ [])

abbrev calls_it : Node → ℕ → ℕ → List ℕ → Call → Message
calls_it from number stamp user call = record {
  head = record { half = halves.Call; from = from; to = Server 1; epoch = 1; number = number; boot = 1; stamp = stamp; opcode = call_number call };
  carried = carried.Call user call;
}

-- by an administrator
abbrev asks : ℕ → ℕ → VolCall → Message
asks number stamp call = calls_it (Admin 1) number stamp [] (ask.Volume call)

-- by a client
abbrev client_asks : ℕ → Call → Message
client_asks number call = calls_it (Client 1) number 0 (codes "guest") call

abbrev after : NodeState → List Message → NodeState
after s [] = s
after s (m ∷ ms) = after (node_row (Server 1) s 0 1 (Whole m)).state ms

-- what is sent, call by call
abbrev answers : NodeState → List Message → List Carried
answers s [] = []
answers s (m ∷ ms) = map (λ (x : Message). x.carried) (node_row (Server 1) s 0 1 (Whole m)).sent ++ answers (node_row (Server 1) s 0 1 (Whole m)).state ms

abbrev told : NodeState → List Message → List Line
told s [] = []
told s (m ∷ ms) = (node_row (Server 1) s 0 1 (Whole m)).lines ++ told (node_row (Server 1) s 0 1 (Whole m)).state ms

abbrev yes : VolReply → Carried
yes reply = carried.Reply (tell.Volume reply)

abbrev no : ℕ → Carried
no code = carried.Refusal (record { 0 = pos code })

abbrev not_served : Carried
not_served = carried.Refusal (record { 0 = negsuc 454 })

-- ---- transactions, stamps, an id that is there, an offset that isn't the next

transactions :
    answers start (
    asks 1 3 (calls.TransCreate home home 1) ∷ asks 2 3 (calls.TransCreate home home 1) ∷ asks 3 2 (calls.GetFlags home 1) ∷ asks 4 3 (calls.EndTrans home 1)
    ∷ asks 5 3 (calls.EndTrans home 1) ∷ asks 6 3 (calls.CreateVolume home home (codes "proj") 0 0 1) ∷ asks 7 3 (calls.TransCreate home home 1)
    ∷ asks 8 3 (calls.Restore home 2 5 1 []) ∷ [])
    ≡ yes (replies.TransCreate 1) ∷ no 1492325133 ∷ no 1492325131 ∷ yes replies.EndTrans ∷ no 1492325135 ∷ no 104 ∷ yes (replies.TransCreate 2) ∷ no 1492325122 ∷ []
unfolding node_row node_start_row file_start file_row spelled record_bytes head_form volume_form word opaque pad directory_bytes name_bytes rights_of image acl_text digits acl_entry_text name_ok
transactions = refl

-- ---- a clone in a busy transaction; a store is refused meanwhile

abbrev root : Fid
root = record { volume = home; vnode = 1; unique = 1 }

abbrev nothing : AfsStoreStatus
nothing = record { mask = 0; client_mod_time = 0; owner = 0; group = 0; unix_mode_bits = 0; seg_size = 0 }

abbrev stores : Call
stores = ask.File (files.StoreData root nothing (pos 0) (pos 0) (pos 0) [])

busy :
    answers start (asks 1 0 (calls.TransCreate home home 2) ∷ asks 2 0 (calls.Clone home 1 clone (codes "proj") 1) ∷ client_asks 1 stores ∷ [])
    ≡ yes (replies.TransCreate 1) ∷ yes (replies.Clone 1 1) ∷ no 110 ∷ []
unfolding node_row node_start_row file_start file_row spelled record_bytes head_form volume_form word opaque pad directory_bytes name_bytes rights_of image acl_text digits acl_entry_text name_ok
busy = refl

-- ---- what the file server answers on closed volumes: 106 offline or out of service, 103 where there is none, 111 where it went on

offline : answers start (asks 1 0 (calls.TransCreate home home 1) ∷ client_asks 1 stores ∷ asks 2 0 (calls.EndTrans home 1) ∷ client_asks 2 stores ∷ []) ≡ yes (replies.TransCreate 1) ∷ no 106 ∷ yes replies.EndTrans ∷ no 21 ∷ []
unfolding node_row node_start_row file_start file_row spelled record_bytes head_form volume_form word opaque pad directory_bytes name_bytes rights_of image acl_text digits acl_entry_text name_ok
offline = refl

out_of_service :
    answers start (asks 1 0 (calls.TransCreate home home 2) ∷ asks 2 0 (calls.SetFlags home 1 2) ∷ asks 3 0 (calls.EndTrans home 1) ∷ client_asks 1 stores ∷ [])
    ≡ yes (replies.TransCreate 1) ∷ yes replies.SetFlags ∷ yes replies.EndTrans ∷ no 106 ∷ []
unfolding node_row node_start_row file_start file_row spelled record_bytes head_form volume_form word opaque pad directory_bytes name_bytes rights_of image acl_text digits acl_entry_text name_ok
out_of_service = refl

deleted :
    answers start (asks 1 0 (calls.TransCreate home home 1) ∷ asks 2 0 (calls.DeleteVolume home 1) ∷ client_asks 1 stores ∷ [])
    ≡ yes (replies.TransCreate 1) ∷ yes replies.DeleteVolume ∷ no 103 ∷ []
unfolding node_row node_start_row file_start file_row spelled record_bytes head_form volume_form word opaque pad directory_bytes name_bytes rights_of image acl_text digits acl_entry_text name_ok
deleted = refl

forwarded :
    answers start (
    asks 1 0 (calls.TransCreate home home 1) ∷ asks 2 0 (calls.SetForwarding home 1 2) ∷ asks 3 0 (calls.DeleteVolume home 1) ∷ client_asks 1 stores
    ∷ client_asks 2 (ask.File (files.BulkStatus (root ∷ []))) ∷ [])
    ≡ yes (replies.TransCreate 1) ∷ yes replies.SetForwarding ∷ yes replies.DeleteVolume ∷ no 111 ∷ no 111 ∷ []
unfolding node_row node_start_row file_start file_row spelled record_bytes head_form volume_form word opaque pad directory_bytes name_bytes rights_of image acl_text digits acl_entry_text name_ok
forwarded = refl

-- ---- whom it serves: a client's call on volumes and an administrator's on files are served by neither half, and the database by none

served :
    answers start (client_asks 1 (ask.Volume (calls.ListVols home)) ∷ calls_it (Admin 1) 1 0 [] stores ∷ calls_it Loc 1 0 [] (ask.Volume (calls.ListVols home)) ∷ calls_it (Server 2) 1 0 [] (ask.Volume (calls.ListVols other)) ∷ [])
    ≡ not_served ∷ not_served ∷ not_served ∷ yes (replies.ListVols []) ∷ []
unfolding node_row node_start_row file_start file_row spelled record_bytes head_form volume_form word opaque pad directory_bytes name_bytes rights_of image acl_text digits acl_entry_text name_ok
served = refl

-- ---- a higher stamp ends the family's transactions, and is stored with a refusal too

raised :
    answers start (
    asks 1 1 (calls.TransCreate home home 1) ∷ asks 2 2 (calls.EndTrans home 1) ∷ asks 3 1 (calls.TransCreate home home 1) ∷ asks 4 2 (calls.TransCreate home home 1) ∷ [])
    ≡ yes (replies.TransCreate 1) ∷ no 1492325135 ∷ no 1492325131 ∷ yes (replies.TransCreate 2) ∷ []
unfolding node_row node_start_row file_start file_row spelled record_bytes head_form volume_form word opaque pad directory_bytes name_bytes rights_of image acl_text digits acl_entry_text name_ok
raised = refl

-- ---- a fence withdraws promises, and its reply waits for the break

abbrev makes : Message
makes = client_asks 1 (ask.File (files.CreateFile root (codes "a") nothing))

abbrev breaks_it : Carried
breaks_it =
    carried.Call [] (ask.File (files.CallBack (record { volume = home; vnode = 2; unique = 2 } ∷ []) (record { version = 1; expiration_time = 7200; kind = 3 } ∷ [])))

fence_waits : answers (after start (makes ∷ [])) (asks 1 1 (calls.TransCreate home home 1) ∷ asks 2 1 (calls.SetFlags home 1 2) ∷ []) ≡ yes (replies.TransCreate 1) ∷ breaks_it ∷ []
unfolding node_row node_start_row file_start file_row spelled record_bytes head_form volume_form word opaque pad directory_bytes name_bytes rights_of image acl_text digits acl_entry_text name_ok
fence_waits = refl

abbrev owes_it : Line
owes_it = lines.Owe (Server 1) (Client 1) (Some (record { volume = home; vnode = 2; unique = 2 })) 1

fence_told : told (after start (makes ∷ asks 1 1 (calls.TransCreate home home 1) ∷ [])) (asks 2 1 (calls.SetFlags home 1 2) ∷ []) ≡ lines.Given 1 ∷ lines.Fence home (Server 1) ∷ owes_it ∷ []
unfolding node_row node_start_row file_start file_row spelled record_bytes head_form volume_form word opaque pad directory_bytes name_bytes rights_of image acl_text digits acl_entry_text name_ok
fence_told = refl

-- so does each word that takes the flags from 0
other_flags_told : told (after start (makes ∷ asks 1 1 (calls.TransCreate home home 1) ∷ [])) (asks 2 1 (calls.SetFlags home 1 4) ∷ []) ≡ lines.Given 1 ∷ lines.Fence home (Server 1) ∷ owes_it ∷ []
unfolding node_row node_start_row file_start file_row spelled record_bytes head_form volume_form word opaque pad directory_bytes name_bytes rights_of image acl_text digits acl_entry_text name_ok
other_flags_told = refl

-- the client answers, and the reply goes out
abbrev answers_the_break : Message
answers_the_break = record {
  head = record { half = halves.Reply; from = Client 1; to = Server 1; epoch = 1; number = 1; boot = 1; stamp = 0; opcode = 204 };
  carried = carried.Reply (tell.File file_replies.CallBack);
}

fence_answered :
    answers (after start (makes ∷ asks 1 1 (calls.TransCreate home home 1) ∷ asks 2 1 (calls.SetFlags home 1 2) ∷ [])) (answers_the_break ∷ []) ≡ yes replies.SetFlags ∷ []
unfolding node_row node_start_row file_start file_row spelled record_bytes head_form volume_form word opaque pad directory_bytes name_bytes rights_of image acl_text digits acl_entry_text name_ok
fence_answered = refl

-- ---- a step that its disk ended behind the record: the restart tells its effect, and deletes what is flagged

flagged_then_gone :
    (node_start_row (Server 1) 9 1 (node_begun_after (Server 1) (after start (asks 1 1 (calls.TransCreate home home 1) ∷ [])) 0 (Whole (asks 2 1 (calls.SetFlags home 1 3))))).lines
    ≡ lines.Fence home (Server 1) ∷ lines.Restart (Server 1) 2 ∷ lines.Vanish home (Server 1) ∷ lines.Owe (Server 1) (Client 1) None 1 ∷ []
unfolding node_row node_start_row file_start file_row spelled record_bytes head_form volume_form word opaque pad directory_bytes name_bytes rights_of image acl_text digits acl_entry_text name_ok
flagged_then_gone = refl

-- so it is at its host: the disk fails at the last of the step's four calls, and the record is whole
abbrev failing : NodeHost
failing = record { state = after start (asks 1 1 (calls.TransCreate home home 1) ∷ []); down = None; armed = record { stop = None; fail = Some 4 } }

abbrev flags_it : Message
flags_it = asks 2 1 (calls.SetFlags home 1 3)

host_falls : (host.served (node_kind (Server 1)) failing 0 1 steady flags_it).lines ≡ lines.Given 1 ∷ lines.Fault (Server 1) ∷ []
unfolding node_row node_start_row file_start file_row spelled record_bytes head_form volume_form word opaque pad directory_bytes name_bytes rights_of image acl_text digits acl_entry_text name_ok
host_falls = refl

host_rises :
    (restarted (node_kind (Server 1)) (host.served (node_kind (Server 1)) failing 0 1 steady flags_it).host 9 1 true comes_up (in_step flags_it 0 (record { call = 4; is_set = true; stops = false; pick = 0 }))).lines
    ≡ lines.Fence home (Server 1) ∷ lines.Restart (Server 1) 2 ∷ lines.Vanish home (Server 1) ∷ lines.Owe (Server 1) (Client 1) None 1 ∷ []
unfolding node_row node_start_row file_start file_row spelled record_bytes head_form volume_form word opaque pad directory_bytes name_bytes rights_of image acl_text digits acl_entry_text name_ok
host_rises = refl

-- The disk fails again behind the record of that start, and the volume that vanished with it is told by the next, first of all.
abbrev rises_halfway : HostStep NodeState
rises_halfway = restarted (node_kind (Server 1)) (host.served (node_kind (Server 1)) failing 0 1 steady flags_it).host 9 1 true fails_midway (in_step flags_it 0 (record { call = 4; is_set = true; stops = false; pick = 0 }))

host_fails_again : rises_halfway.lines ≡ lines.Fence home (Server 1) ∷ lines.Fault (Server 1) ∷ []
unfolding node_row node_start_row file_start file_row spelled record_bytes head_form volume_form word opaque pad directory_bytes name_bytes rights_of image acl_text digits acl_entry_text name_ok
host_fails_again = refl

host_rises_again : (restarted (node_kind (Server 1)) rises_halfway.host 9 1 true comes_up in_boot).lines ≡ lines.Vanish home (Server 1) ∷ lines.Restart (Server 1) 3 ∷ lines.Owe (Server 1) (Client 1) None 1 ∷ []
unfolding node_row node_start_row file_start file_row spelled record_bytes head_form volume_form word opaque pad directory_bytes name_bytes rights_of image acl_text digits acl_entry_text name_ok
host_rises_again = refl

-- ---- a restart ends the transactions, and their numbers begin anew

abbrev in_boot_2 : Message → Message
in_boot_2 m = record m { head = record m.head { boot = 2 } }

anew :
    answers (node_start_row (Server 1) 9 1 (begun_before (after start (asks 1 1 (calls.TransCreate home home 1) ∷ asks 2 2 (calls.TransCreate home home 1) ∷ [])).file)).state
    (map in_boot_2 (asks 3 2 (calls.GetFlags home 2) ∷ asks 4 1 (calls.TransCreate home home 1) ∷ asks 5 2 (calls.TransCreate home home 1) ∷ []))
    ≡ no 1492325135 ∷ no 1492325131 ∷ yes (replies.TransCreate 1) ∷ []
unfolding node_row node_start_row file_start file_row spelled record_bytes head_form volume_form word opaque pad directory_bytes name_bytes rights_of image acl_text digits acl_entry_text name_ok
anew = refl

-- ---- a read-write volume that is made with flags 0 is told whole, and accepts stores at once

abbrev first_of : ℕ → List Line
first_of id = version_lines (record { fid = record { volume = id; vnode = 1; unique = 1 }; index = 1; data_version = 1; body = shapes.Dir [] } ∷ [])

made_at_once : told start (asks 1 0 (calls.CreateVolume other other (codes "new") 0 0 1) ∷ []) ≡ lines.Given 1 ∷ lines.Made (Server 1) other 1 ∷ first_of other ++ lines.Enable other (Server 1) ∷ []
unfolding node_row node_start_row file_start file_row spelled record_bytes head_form volume_form word opaque pad directory_bytes name_bytes rights_of image acl_text digits acl_entry_text name_ok
made_at_once = refl

-- with flags it is told at its first SetFlags 0, and at no other
made_later :
    told start (asks 1 0 (calls.CreateVolume other other (codes "new") 0 3 1) ∷ asks 2 0 (calls.SetFlags other 1 0) ∷ asks 3 0 (calls.SetFlags other 1 2) ∷ asks 4 0 (calls.SetFlags other 1 0) ∷ [])
    ≡ lines.Given 1 ∷ lines.Given 1 ∷ lines.Made (Server 1) other 1 ∷ first_of other ++ lines.Enable other (Server 1) ∷ lines.Given 1 ∷ lines.Fence other (Server 1) ∷ lines.Given 1 ∷ lines.Enable other (Server 1) ∷ []
unfolding node_row node_start_row file_start file_row spelled record_bytes head_form volume_form word opaque pad directory_bytes name_bytes rights_of image acl_text digits acl_entry_text name_ok
made_later = refl

-- under a stamp it is no new one: its flags are told, and nothing else
brought : told start (asks 1 5 (calls.CreateVolume other other (codes "new") 0 3 1) ∷ asks 2 5 (calls.SetFlags other 1 0) ∷ []) ≡ lines.Given 1 ∷ lines.Given 1 ∷ lines.Enable other (Server 1) ∷ []
unfolding node_row node_start_row file_start file_row spelled record_bytes head_form volume_form word opaque pad directory_bytes name_bytes rights_of image acl_text digits acl_entry_text name_ok
brought = refl

-- ---- a dump that is given in pieces: behind a bad one the count begins anew, behind another offset it doesn't

pieces :
    answers start (
    asks 1 0 (calls.TransCreate home home 1) ∷ asks 2 0 (calls.Restore home 1 0 0 (word 1)) ∷ asks 3 0 (calls.Restore home 1 8 0 (word 5)) ∷ asks 4 0 (calls.Restore home 1 4 0 (word 5))
    ∷ asks 5 0 (calls.Restore home 1 4 0 (word 1)) ∷ asks 6 0 (calls.Restore home 1 0 0 (word 1)) ∷ asks 7 0 (calls.Restore home 1 4 1 []) ∷ asks 8 0 (calls.Restore home 1 0 0 []) ∷ [])
    ≡ yes (replies.TransCreate 1) ∷ yes replies.Restore ∷ no 1492325122 ∷ no 1492325122 ∷ no 1492325122 ∷ yes replies.Restore ∷ no 1492325122 ∷ yes replies.Restore ∷ []
unfolding node_row node_start_row file_start file_row spelled record_bytes head_form volume_form word opaque pad directory_bytes name_bytes rights_of image acl_text digits acl_entry_text name_ok fed restored_from dump_at dump_field dump_header_field volume_header_field live_field image_field word_at
pieces = refl

-- ---- a dump that is asked for: a piece from its end on is empty, and none is behind it

abbrev project : Stored
project = created home (codes "proj") 0 0 1000 false

abbrev bytes : List ℕ
bytes = dump_bytes (dump_of home 0 project)

dumped :
    answers start (
    asks 1 0 (calls.TransCreate home home 2) ∷ asks 2 0 (calls.Dump home 1 0 0) ∷ asks 3 0 (calls.Dump home 1 0 180) ∷ asks 4 0 (calls.Dump home 1 0 181) ∷ asks 5 0 (calls.GetStatus home 1)
    ∷ asks 6 0 (calls.ListVols home) ∷ [])
    ≡ yes (replies.TransCreate 1) ∷ yes (replies.Dump 1 bytes) ∷ yes (replies.Dump 1 []) ∷ no 1492325122 ∷ yes (replies.GetStatus home 0 0 1000 1 1 0)
    ∷ yes (replies.ListVols (record { volume = home; kind = 0; flags = 0; release = 0 } ∷ [])) ∷ []
unfolding node_row node_start_row file_start file_row spelled record_bytes head_form volume_form word opaque pad directory_bytes name_bytes rights_of image acl_text digits acl_entry_text name_ok fed restored_from dump_at dump_field dump_header_field volume_header_field live_field image_field word_at
dumped = refl

-- ---- a clone that is made anew: not one that another transaction holds, nor one that isn't there

recloned :
    answers start (
    asks 1 0 (calls.TransCreate home home 2) ∷ asks 2 0 (calls.ReClone home 1 clone) ∷ asks 3 0 (calls.Clone home 1 clone (codes "proj") 1) ∷ asks 4 0 (calls.TransCreate home clone 1)
    ∷ asks 5 0 (calls.ReClone home 1 clone) ∷ asks 6 0 (calls.EndTrans home 2) ∷ asks 7 0 (calls.ReClone home 1 clone) ∷ asks 8 0 (calls.Clone home 1 clone (codes "proj") 1) ∷ [])
    ≡ yes (replies.TransCreate 1) ∷ no 1492325135 ∷ yes (replies.Clone 1 1) ∷ yes (replies.TransCreate 2) ∷ no 1492325133 ∷ yes replies.EndTrans ∷ yes (replies.ReClone 1 2) ∷ no 104 ∷ []
unfolding node_row node_start_row file_start file_row spelled record_bytes head_form volume_form word opaque pad directory_bytes name_bytes rights_of image acl_text digits acl_entry_text name_ok
recloned = refl

-- ---- another family has nothing here: neither the transaction nor the volume

strange :
    answers start (
    asks 1 0 (calls.TransCreate home home 1) ∷ asks 2 0 (calls.GetFlags other 1) ∷ asks 3 0 (calls.TransCreate other home 1) ∷ asks 4 0 (calls.ListVols other) ∷ asks 5 0 (calls.GetFlags home 1) ∷ [])
    ≡ yes (replies.TransCreate 1) ∷ no 1492325135 ∷ no 1492325135 ∷ yes (replies.ListVols []) ∷ yes (replies.GetFlags 0) ∷ []
unfolding node_row node_start_row file_start file_row spelled record_bytes head_form volume_form word opaque pad directory_bytes name_bytes rights_of image acl_text digits acl_entry_text name_ok
strange = refl

-- ---- a full disk

abbrev full : NodeState
full = holding 0 ((home, new_volume home (codes "proj") 0 0 1000) ∷ [])

-- what writes nothing goes on; what would write finds no room
no_room :
    answers full (asks 1 0 (calls.TransCreate home home 1) ∷ asks 2 0 (calls.GetFlags home 1) ∷ asks 3 0 (calls.SetFlags home 1 2) ∷ asks 4 0 (calls.GetFlags home 1) ∷ [])
    ≡ yes (replies.TransCreate 1) ∷ yes (replies.GetFlags 0) ∷ no 108 ∷ yes (replies.GetFlags 0) ∷ []
unfolding node_row node_start_row file_start file_row spelled record_bytes head_form volume_form word opaque pad directory_bytes name_bytes rights_of image acl_text digits acl_entry_text name_ok
no_room = refl

-- a stamp that finds no room isn't raised, and ends no transaction: the call is judged again as if it hadn't come with it
no_room_for_a_stamp :
    answers full (asks 1 1 (calls.ListVols home) ∷ asks 2 0 (calls.TransCreate home home 1) ∷ asks 3 1 (calls.TransCreate home home 1) ∷ asks 4 1 (calls.GetFlags home 1) ∷ asks 5 0 (calls.EndTrans home 1) ∷ [])
    ≡ no 108 ∷ yes (replies.TransCreate 1) ∷ no 1492325133 ∷ no 108 ∷ yes replies.EndTrans ∷ []
unfolding node_row node_start_row file_start file_row spelled record_bytes head_form volume_form word opaque pad directory_bytes name_bytes rights_of image acl_text digits acl_entry_text name_ok
no_room_for_a_stamp = refl

-- behind a piece that found no room for its stamp the count begins anew
no_room_for_a_piece :
    answers full (
    asks 1 0 (calls.TransCreate home home 1) ∷ asks 2 0 (calls.Restore home 1 0 0 (word 1)) ∷ asks 3 1 (calls.Restore home 1 4 0 (word 3013677858)) ∷ asks 4 0 (calls.Restore home 1 4 0 (word 3013677858))
    ∷ asks 5 0 (calls.Restore home 1 0 0 (word 1)) ∷ [])
    ≡ yes (replies.TransCreate 1) ∷ yes replies.Restore ∷ no 108 ∷ no 1492325122 ∷ yes replies.Restore ∷ []
unfolding node_row node_start_row file_start file_row spelled record_bytes head_form volume_form word opaque pad directory_bytes name_bytes rights_of image acl_text digits acl_entry_text name_ok fed restored_from dump_at dump_field dump_header_field volume_header_field live_field image_field word_at
no_room_for_a_piece = refl

-- ---- a dump that is sent to another server

abbrev forward : ℕ → ℕ → Message
forward number target = asks number 0 (calls.Forward home 1 0 2 target)

abbrev piece_to : ℕ → Carried
piece_to target = carried.Call [] (ask.Volume (calls.Restore home target 0 1 bytes))

abbrev sending : NodeState
sending = after start (asks 1 0 (calls.TransCreate home home 2) ∷ forward 2 9 ∷ [])

-- the other server answers its nth call
abbrev answered_so : ℕ → Carried → Message
answered_so number c = record { head = record { half = halves.Reply; from = Server 2; to = Server 1; epoch = 1; number = number; boot = 1; stamp = 0; opcode = 102 }; carried = c }

-- the reply comes when the dump went, and until then the call has none; a second dump goes to that server when the first one went
sent_in_order :
    answers start (asks 1 0 (calls.TransCreate home home 2) ∷ forward 2 9 ∷ forward 2 9 ∷ forward 3 10 ∷ answered_so 1 (yes replies.Restore) ∷ answered_so 1 (yes replies.Restore) ∷ [])
    ≡ yes (replies.TransCreate 1) ∷ piece_to 9 ∷ yes replies.Forward ∷ piece_to 10 ∷ []
unfolding node_row node_start_row file_start file_row spelled record_bytes head_form volume_form word opaque pad directory_bytes name_bytes rights_of image acl_text digits acl_entry_text name_ok fed restored_from dump_at dump_field dump_header_field volume_header_field live_field image_field word_at
sent_in_order = refl

-- refused there, it is refused here
refused_there : answers sending (answered_so 1 (no 1492325131) ∷ []) ≡ no 1492325131 ∷ []
unfolding node_row node_start_row file_start file_row spelled record_bytes head_form volume_form word opaque pad directory_bytes name_bytes rights_of image acl_text digits acl_entry_text name_ok fed restored_from dump_at dump_field dump_header_field volume_header_field live_field image_field word_at
refused_there = refl
