-- What a volume answers is what the row decides.
use Rattle.std.proofs.Common.{◌≡◌, ◌≤◌, ℕ, Bool, true, false, cond, List, [], ◌∷◌, length, Option, Some, None, refl, sym, ap, subst, ◌∙◌, arith}
use Rattle.std.specs.Prelude as outcome
use Rattle.std.specs.Prelude.{nat_eq, ℤ, pos, IfOk, Ok, Err}
use Rattle.std.specs.Option.{option_map}
use Rattle.afs_num.specs.declared.calls.FsCall.{FsCall}
use Rattle.afs_num.specs.declared.calls.FsCall.TheVariants as calls
use Rattle.afs_num.specs.declared.calls.FsReply.{FsReply}
use Rattle.afs_num.specs.declared.calls.FsReply.TheVariants as replies
use Rattle.afs_num.specs.declared.histories.Version.{Version}
use Rattle.afs_num.specs.declared.messages.Call.TheVariants as ask
use Rattle.afs_num.specs.declared.messages.Reply.TheVariants as tell
use Rattle.afs_num.specs.declared.types.Fid.{Fid}
use Rattle.afs_num.specs.declared.types.Head.{Head}
use Rattle.afs_num.specs.declared.vnodes.Vnode as image
use Rattle.afs_num.specs.declared.volumes.Change as made
use Rattle.spec_ideal.specs.Operations.{by_tests, first_failing, limited, op, read_by, refused, reads, changes, no_operation, shows_acl, shows_body, shows_status, shows_volume, tests, volume_called, Caller, IsOn, Result, Shown}
use Rattle.spec_ideal.specs.Replies.{change_reply, reading_reply, stamped}
use Rattle.spec_ideal.specs.Tables.{get, Table}
use Rattle.spec_ideal.specs.Volumes as ideal
use Rattle.spec_ideal.specs.Volumes.{Vnode, vnode_of}
use Rattle.spec_model.specs.CellRows.{call_number, reply_number}
use Rattle.spec_model.specs.Heads.{is_zero}
use Rattle.spec_records.specs.Durable as durable
use Rattle.spec_records.specs.Durable.{or_zero, Stored}
use Rattle.spec_rows.specs.ServerRow as row
use Rattle.spec_rows.specs.ServerRow.{decided, granted_by, reading_in, refuses, shows, Decision}
use Rattle.spec_rows.specs.States.{ServerState}
use Rattle.spec_volrows.specs.FileRow.{closed_code, file_in, missing_code, unless_closed}
use Rattle.afs_callees.specs.Telling.{grants_seen}
use Rattle.afs_changes.specs.Changes.{after, Applies}
use Rattle.afs_changes.specs.Planning.{is_changing}
use Rattle.afs_reads.specs.Replying.{is_reading, refusal_of, reply_of, time_in, times_of, FitsReply, Replies}
use Rattle.afs_volume.specs.Giving.{volume_of}
use Rattle.afs_volume.specs.Taking.{stored_of, times_in, CanTakeIn}
use Rattle.afs_shelves.specs.Shelving.{stored_as}
use Rattle.afs_shelves.proofs.Renewed.{as_new, changed_new}
use Rattle.afs_reads.specs.declared.faults.OpFault.{OpFault}
use Rattle.afs_reads.specs.declared.faults.OpFault.TheVariants as faults
use Rattle.afs_volume.specs.declared.volume.Volume.{Volume}
use Rattle.afs_volume.proofs.Soundly.{volume_sound}
use Rattle.afs_decisions.specs.Deciding.{granted_in, CanBeTold, ChangesAs, Decides, FitsDecided, IsReading, ReadsAs, decided_in, IsDecisionIn}
use Rattle.afs_decisions.specs.declared.decided.Decided.{Decided}
use Rattle.afs_decisions.proofs.Codes.{op_code}
use Rattle.afs_decisions.proofs.Counting.{change_counted}
use Rattle.afs_decisions.proofs.Retold.{change_told}
use Rattle.afs_decisions.proofs.Spelled.{fits_within}
use Rattle.afs_decisions.proofs.Stamped.{told_times}
use Rattle.afs_decisions.proofs.Written.{can_be_written}

abbrev some : {A : Type 0} → A → Option A
some x = Some x

some_of : {A : Type 0} (x y : A) → some x ≡ some y → x ≡ y
some_of x y e = cc

-- ---- times

time_by : (b : Bool) (x : image.Vnode) (o : Option image.Vnode) (p : Option ℕ) → time_in o ≡ or_zero p → time_in (cond b (Some x) o) ≡ or_zero (cond b (Some x.server_time) p)
time_by true x o p e = refl
time_by false x o p e = e

time_at : (n : ℕ) (t : Table image.Vnode) → time_in (get n t) ≡ or_zero (get n (times_in t))
time_at n [] = refl
time_at n (p ∷ ps) = time_by (nat_eq p.0 n) p.1 (get n ps) (get n (times_in ps)) (time_at n ps)

pub same_times : (v : Volume) → times_of v ≡ durable.time_in (stored_of v)
same_times v = λ i f. time_at f.vnode v.vnodes.table i

-- ---- a reading

-- the reply is that of a reading that is decided on, and these promises are granted
pub record IsTold (s : ServerState) (clock : ℕ) (head : Head) (d : Decision) (call : FsCall) (reply : FsReply) : Type 0 where
  pub reading : row.Reading
  pub is : IsReading reply (granted_in call reply) reading
  pub decided : d ≡ shows head reading
  pub number : call_number (ask.File call) ≡ reply_number (tell.File reply)

module _ (s : ServerState) (clock : ℕ) (head : Head) (caller : Caller) (new : Bool) (w : Volume) where
  shown_by : (call : FsCall) (shown : Shown) (reply : FsReply) → let told = reading_reply w.head.id caller (times_of w) (volume_of w) shown in
      grants_seen (granted_by shown) ≡ granted_in call told → call_number (ask.File call) ≡ reply_number (tell.File told) → some told ≡ some reply →
      IsTold s clock head (decided s clock head caller call w.head.id (stored_as new w) (reads shown)) call reply
  shown_by call shown reply grants number e =
      let told = reading_reply w.head.id caller (times_of w) (volume_of w) shown in
      let same = some_of told reply e in
      subst (IsTold s clock head (decided s clock head caller call w.head.id (stored_as new w) (reads shown)) call) same
      record {
        reading = reading_in w.head.id caller (stored_as new w) shown;
        is = record { reply_is = ap (λ (t : Fid → ℕ). reading_reply w.head.id caller t (volume_of w) shown) (sym (same_times w)); grants_are = grants; nothing = refl };
        decided = refl;
        number = number;
      }

  data_told : (f : Fid) (position wanted : ℤ) (o : Option ℕ) (q : Option Vnode) (reply : FsReply) → reply_of caller w (by_tests o (limited w.head.id (volume_of w) (read_by shows_body f q))) ≡ Some reply →
      IsTold s clock head (decided s clock head caller (calls.FetchData f position wanted) w.head.id (stored_as new w) (by_tests o (limited w.head.id (volume_of w) (read_by shows_body f q)))) (calls.FetchData f position wanted) reply
  data_told f position wanted (Some code) q reply e = absurd cc
  data_told f position wanted None None reply e = absurd cc
  data_told f position wanted None (Some x) reply e = shown_by (calls.FetchData f position wanted) (shows_body (record { fid = f; vnode = x })) reply refl refl e

  status_told : (f : Fid) (o : Option ℕ) (q : Option Vnode) (reply : FsReply) → reply_of caller w (by_tests o (limited w.head.id (volume_of w) (read_by shows_status f q))) ≡ Some reply →
      IsTold s clock head (decided s clock head caller (calls.FetchStatus f) w.head.id (stored_as new w) (by_tests o (limited w.head.id (volume_of w) (read_by shows_status f q)))) (calls.FetchStatus f) reply
  status_told f (Some code) q reply e = absurd cc
  status_told f None None reply e = absurd cc
  status_told f None (Some x) reply e = shown_by (calls.FetchStatus f) (shows_status (record { fid = f; vnode = x })) reply refl refl e

  acl_told : (f : Fid) (o : Option ℕ) (q : Option Vnode) (reply : FsReply) → reply_of caller w (by_tests o (limited w.head.id (volume_of w) (read_by shows_acl f q))) ≡ Some reply →
      IsTold s clock head (decided s clock head caller (calls.FetchAcl f) w.head.id (stored_as new w) (by_tests o (limited w.head.id (volume_of w) (read_by shows_acl f q)))) (calls.FetchAcl f) reply
  acl_told f (Some code) q reply e = absurd cc
  acl_told f None None reply e = absurd cc
  acl_told f None (Some x) reply e = shown_by (calls.FetchAcl f) (shows_acl (record { fid = f; vnode = x })) reply refl refl e

  volume_told : (id : ℕ) (o : Option ℕ) (reply : FsReply) → reply_of caller w (by_tests o (reads shows_volume)) ≡ Some reply →
      IsTold s clock head (decided s clock head caller (calls.GetVolumeStatus id) w.head.id (stored_as new w) (by_tests o (reads shows_volume))) (calls.GetVolumeStatus id) reply
  volume_told id (Some code) reply e = absurd cc
  volume_told id None reply e = shown_by (calls.GetVolumeStatus id) shows_volume reply refl refl e

  pub told : (call : FsCall) (reply : FsReply) → is_reading call ≡ true → volume_called call ≡ Some w.head.id → reply_of caller w (op w.head.id caller call (volume_of w)) ≡ Some reply →
      IsTold s clock head (decided s clock head caller call w.head.id (stored_as new w) (op w.head.id caller call (volume_of w))) call reply
  told (calls.FetchData f position wanted) reply r c e = data_told f position wanted (first_failing (tests caller (calls.FetchData f position wanted) (volume_of w))) (vnode_of f (volume_of w)) reply e
  told (calls.FetchAcl f) reply r c e = acl_told f (first_failing (tests caller (calls.FetchAcl f) (volume_of w))) (vnode_of f (volume_of w)) reply e
  told (calls.FetchStatus f) reply r c e = status_told f (first_failing (tests caller (calls.FetchStatus f) (volume_of w))) (vnode_of f (volume_of w)) reply e
  told (calls.GetVolumeStatus id) reply r c e = volume_told id (first_failing (tests caller (calls.GetVolumeStatus id) (volume_of w))) reply e
  told (calls.BulkStatus fids) reply r c e = absurd cc
  told call reply r c e = absurd cc

  refused_by : (call : FsCall) (r : Result) (code : ℤ) → option_map pos (refusal_of r) ≡ Some code → decided s clock head caller call w.head.id (stored_as new w) r ≡ refuses head code
  refused_by call (refused k) code e = ap (refuses head) (some_of (pos k) code e)
  refused_by call (reads shown) code e = absurd cc
  refused_by call (changes es n) code e = absurd cc
  refused_by call no_operation code e = absurd cc

  pub refused_as : (call : FsCall) (code : ℤ) → option_map pos (refusal_of (op w.head.id caller call (volume_of w))) ≡ Some code →
      decided s clock head caller call w.head.id (stored_as new w) (op w.head.id caller call (volume_of w)) ≡ refuses head code
  refused_as call code e = refused_by call (op w.head.id caller call (volume_of w)) code e

coded_by : (r : Result) (code : ℤ) → ((k : ℕ) → r ≡ refused k → nat_eq k 0 ≡ false) → option_map pos (refusal_of r) ≡ Some code → is_zero code ≡ false
coded_by (refused k) code h e = subst (λ (z : ℤ). is_zero z ≡ false) (some_of (pos k) code e) (h k refl)
coded_by (reads shown) code h e = absurd cc
coded_by (changes es n) code h e = absurd cc
coded_by no_operation code h e = absurd cc

-- a refusal's code isn't 0
pub coded : (w : Volume) (caller : Caller) (call : FsCall) (code : ℤ) → option_map pos (refusal_of (op w.head.id caller call (volume_of w))) ≡ Some code → is_zero code ≡ false
coded w caller call code e = coded_by (op w.head.id caller call (volume_of w)) code (λ k q. op_code w.head.id caller call (volume_of w) k q) e

-- a call on a volume that reads nothing changes it
pub changing_else : (call : FsCall) (id : ℕ) → volume_called call ≡ Some id → is_reading call ≡ false → is_changing call ≡ true
changing_else (calls.StoreData f status position stored file_length contents) id c r = refl
changing_else (calls.StoreAcl f acl) id c r = refl
changing_else (calls.StoreStatus f status) id c r = refl
changing_else (calls.RemoveFile d name) id c r = refl
changing_else (calls.CreateFile d name status) id c r = refl
changing_else (calls.Rename d old e new) id c r = refl
changing_else (calls.Symlink d name target status) id c r = refl
changing_else (calls.Link d name f) id c r = refl
changing_else (calls.MakeDir d name status) id c r = refl
changing_else (calls.RemoveDir d name) id c r = refl
changing_else call id c r = absurd cc

-- a call on a volume is on it
pub is_on : (call : FsCall) (id : ℕ) → volume_called call ≡ Some id → IsOn id call
is_on (calls.BulkStatus fids) id c = absurd cc
is_on call id c = c

-- ---- what is decided by what a volume answered

module _ (s : ServerState) (clock : ℕ) (head : Head) (caller : Caller) (new : Bool) (w : Volume) (call : FsCall) where
  pub read_decides : (x : outcome.Result FsReply OpFault) (d : Decided) → is_reading call ≡ true → volume_called call ≡ Some w.head.id → Replies caller w (op w.head.id caller call (volume_of w)) x → ReadsAs call x d →
      Decides s clock head (decided s clock head caller call w.head.id (stored_as new w) (op w.head.id caller call (volume_of w))) d
  read_decides (Ok reply) d reading on replies is =
      let t = told s clock head caller new w call reply reading on replies in
      subst (Decides s clock head (decided s clock head caller call w.head.id (stored_as new w) (op w.head.id caller call (volume_of w)))) (sym is) (t.reading, (t.is, t.decided))
  read_decides (Err (faults.Code code)) d reading on replies is =
      subst (Decides s clock head (decided s clock head caller call w.head.id (stored_as new w) (op w.head.id caller call (volume_of w)))) (sym is) (refused_as s clock head caller new w call code.0 replies)
  read_decides (Err faults.OutOfMemory) d reading on replies is = absurd is

  pub change_decides : (x : outcome.Result made.Change OpFault) (d : Decided) → volume_called call ≡ Some w.head.id → get w.head.id s.lasting.volumes ≡ Some (stored_as new w) → Applies w caller call clock (op w.head.id caller call (volume_of w)) x → ChangesAs w.head.id x d →
      Decides s clock head (decided s clock head caller call w.head.id (stored_as new w) (op w.head.id caller call (volume_of w))) d
  change_decides (Ok x) d on there applies is =
      let es = applies.0 in
      let n = applies.1.0 in
      let changed = applies.1.1.1.0 in
      let sound = volume_sound w.head w.vnodes.table w.readable w.sound in
      let c : row.Change = record { id = w.head.id; caller = caller; call = call; before = stored_as new w; edits = es; shown = n } in
      subst (Decides s clock head (decided s clock head caller call w.head.id (stored_as new w) (op w.head.id caller call (volume_of w)))) (sym is) (
        c,
        (
          there,
          (
            record {
              number = refl;
              versions = changed.versions;
              vnodes = changed.vnodes;
              removed = changed.removed;
              counter = changed.counter;
              unique = changed.unique;
              kept = changed_new new x.counter x.unique x.vnodes x.removed (stored_of w) ∙ ap (option_map (as_new new)) applies.1.1.1.1.1;
              reply =
                  sym (told_times w.head.id clock caller call (stored_as new w) es n sound (is_on call w.head.id on) applies.1.1.0)
                  ∙ (ap (λ (vs : List Version). change_reply w.head.id caller (stamped clock vs (durable.time_in (stored_as new w))) (after w es n) n call) (sym changed.versions)
                  ∙ subst (λ (t : Fid → ℕ). change_reply w.head.id caller (stamped clock x.versions t) (after w es n) n call ≡ Some x.reply) (same_times w) applies.1.1.1.1.0);
              told = change_told w caller call clock es n x sound (is_on call w.head.id on) applies.1.1.0 changed applies.1.1.1.1.1;
              counted = change_counted w caller call clock es n x sound (is_on call w.head.id on) applies.1.1.0 changed;
            },
            ap (decided s clock head caller call w.head.id (stored_as new w)) applies.1.1.0,
          ),
        ),
      )
  change_decides (Err (faults.Code code)) d on there applies is =
      subst (Decides s clock head (decided s clock head caller call w.head.id (stored_as new w) (op w.head.id caller call (volume_of w)))) (sym is) (refused_as s clock head caller new w call code.0 applies)
  change_decides (Err faults.OutOfMemory) d on there applies is = absurd is

-- ---- and that it can be told

-- the reply to a change is of its call's row
change_number : (id : ℕ) (caller : Caller) (times : Fid → ℕ) (v : ideal.Volume) (n : ℕ) (call : FsCall) (reply : FsReply) → change_reply id caller times v n call ≡ Some reply → call_number (ask.File call) ≡ reply_number (tell.File reply)
change_number id caller times v n (calls.StoreData f status position stored file_length contents) reply e = ap (λ (r : FsReply). reply_number (tell.File r)) (some_of _ reply e)
change_number id caller times v n (calls.StoreAcl f acl) reply e = ap (λ (r : FsReply). reply_number (tell.File r)) (some_of _ reply e)
change_number id caller times v n (calls.StoreStatus f status) reply e = ap (λ (r : FsReply). reply_number (tell.File r)) (some_of _ reply e)
change_number id caller times v n (calls.RemoveFile d name) reply e = ap (λ (r : FsReply). reply_number (tell.File r)) (some_of _ reply e)
change_number id caller times v n (calls.CreateFile d name status) reply e = ap (λ (r : FsReply). reply_number (tell.File r)) (some_of _ reply e)
change_number id caller times v n (calls.Rename d old f new) reply e = ap (λ (r : FsReply). reply_number (tell.File r)) (some_of _ reply e)
change_number id caller times v n (calls.Symlink d name target status) reply e = ap (λ (r : FsReply). reply_number (tell.File r)) (some_of _ reply e)
change_number id caller times v n (calls.Link d name f) reply e = ap (λ (r : FsReply). reply_number (tell.File r)) (some_of _ reply e)
change_number id caller times v n (calls.MakeDir d name status) reply e = ap (λ (r : FsReply). reply_number (tell.File r)) (some_of _ reply e)
change_number id caller times v n (calls.RemoveDir d name) reply e = ap (λ (r : FsReply). reply_number (tell.File r)) (some_of _ reply e)
change_number id caller times v n call reply e = absurd cc

module _ (opcode clock : ℕ) (caller : Caller) (w : Volume) (call : FsCall) where
  pub read_can_be_told : (s : ServerState) (head : Head) (x : outcome.Result FsReply OpFault) (d : Decided) → opcode ≡ call_number (ask.File call) → is_reading call ≡ true → volume_called call ≡ Some w.head.id →
      Replies caller w (op w.head.id caller call (volume_of w)) x → IfOk x (λ r. FitsReply r) → ReadsAs call x d → CanBeTold opcode d
  read_can_be_told s head (Ok reply) d number reading on replies fits is =
      subst (CanBeTold opcode) (sym is) (number ∙ (told s clock head caller false w call reply reading on replies).number, fits_within reply fits)
  read_can_be_told s head (Err (faults.Code code)) d number reading on replies fits is = subst (CanBeTold opcode) (sym is) (coded w caller call code.0 replies)
  read_can_be_told s head (Err faults.OutOfMemory) d number reading on replies fits is = absurd is

  pub change_can_be_told : (x : outcome.Result made.Change OpFault) (d : Decided) → opcode ≡ call_number (ask.File call) → Applies w caller call clock (op w.head.id caller call (volume_of w)) x → IfOk x (λ c. FitsReply c.reply) →
      ChangesAs w.head.id x d → CanBeTold opcode d
  change_can_be_told (Ok x) d number applies fits is =
      let replies = applies.1.1.1.1.0 in
      subst (CanBeTold opcode) (sym is) (number ∙ change_number w.head.id caller (stamped clock x.versions (times_of w)) (after w applies.0 applies.1.0) applies.1.0 call x.reply replies, fits_within x.reply fits)
  change_can_be_told (Err (faults.Code code)) d number applies fits is = subst (CanBeTold opcode) (sym is) (coded w caller call code.0 applies)
  change_can_be_told (Err faults.OutOfMemory) d number applies fits is = absurd is

-- ---- and that it is within its limits

one_granted : (call : FsCall) (reply : FsReply) → length (granted_in call reply) ≤ 50
one_granted (calls.FetchData f position wanted) (replies.FetchData contents status callback sync) = omega arith
one_granted (calls.FetchData f position wanted) reply = omega arith
one_granted (calls.FetchStatus f) (replies.FetchStatus status callback sync) = omega arith
one_granted (calls.FetchStatus f) reply = omega arith
one_granted call reply = omega arith

pub read_fits : (call : FsCall) (x : outcome.Result FsReply OpFault) (d : Decided) → ReadsAs call x d → FitsDecided d
read_fits call (Ok reply) d is = subst FitsDecided (sym is) (one_granted call reply)
read_fits call (Err (faults.Code code)) d is = subst FitsDecided (sym is) tt
read_fits call (Err faults.OutOfMemory) d is = absurd is

module _ (clock : ℕ) (caller : Caller) (w : Volume) (call : FsCall) where
  pub change_fits : (x : outcome.Result made.Change OpFault) (d : Decided) → volume_called call ≡ Some w.head.id → Applies w caller call clock (op w.head.id caller call (volume_of w)) x → IfOk x (λ c. CanTakeIn w c) → ChangesAs w.head.id x d → FitsDecided d
  change_fits (Ok x) d on applies takes is =
      subst FitsDecided (sym is)
      (can_be_written w caller call clock applies.0 applies.1.0 x (stamped clock x.versions (times_of w)) (volume_sound w.head w.vnodes.table w.readable w.sound) (is_on call w.head.id on) applies.1.1.0 applies.1.1.1.0 applies.1.1.1.1.0 takes)
  change_fits (Err (faults.Code code)) d on applies takes is = subst FitsDecided (sym is) tt
  change_fits (Err faults.OutOfMemory) d on applies takes is = absurd is

-- ---- by the volume that is found

serves_by : (head : Head) (o : Option ℕ) (d : Decision) → option_map pos o ≡ None → unless_closed head o d ≡ d
serves_by head None d e = refl
serves_by head (Some code) d e = absurd cc

found_by : (holds : Table ℕ) (s : ServerState) (clock : ℕ) (head : Head) (caller : Caller) (call : FsCall) (new : Bool) (w : Volume) (d : Decided) → option_map pos (closed_code (stored_as new w) (get w.head.id holds)) ≡ None
    → Decides s clock head (decided s clock head caller call w.head.id (stored_as new w) (op w.head.id caller call (volume_of w))) d → Decides s clock head (file_in holds s clock head caller call w.head.id (Some (stored_as new w))) d
found_by holds s clock head caller call new w d serves is =
    subst (λ (x : Decision). Decides s clock head x d) (sym (serves_by head (closed_code (stored_as new w) (get w.head.id holds)) (decided s clock head caller call w.head.id (stored_as new w) (op w.head.id caller call (volume_of w))) serves)) is

-- a volume that serves
pub found_decides : (holds : Table ℕ) (s : ServerState) (clock : ℕ) (head : Head) (caller : Caller) (call : FsCall) (id : ℕ) (new : Bool) (w : Volume) (d : Decided) → get id s.lasting.volumes ≡ Some (stored_as new w) → w.head.id ≡ id
    → option_map pos (closed_code (stored_as new w) (get w.head.id holds)) ≡ None → Decides s clock head (decided s clock head caller call w.head.id (stored_as new w) (op w.head.id caller call (volume_of w))) d
    → Decides s clock head (file_in holds s clock head caller call id (get id s.lasting.volumes)) d
found_decides holds s clock head caller call id new w d there same serves is =
    subst (λ (o : Option Stored). Decides s clock head (file_in holds s clock head caller call id o) d) (sym there)
    (subst (λ (k : ℕ). Decides s clock head (file_in holds s clock head caller call k (Some (stored_as new w))) d) same (found_by holds s clock head caller call new w d serves is))

-- none, and one that is closed
pub missing_decides : (holds : Table ℕ) (s : ServerState) (clock : ℕ) (head : Head) (caller : Caller) (call : FsCall) (id : ℕ) (code : ℤ) → get id s.lasting.volumes ≡ None → code ≡ pos (missing_code s.lasting id)
    → file_in holds s clock head caller call id (get id s.lasting.volumes) ≡ refuses head code
missing_decides holds s clock head caller call id code none is = ap (file_in holds s clock head caller call id) none ∙ ap (refuses head) (sym is)

closed_by : (head : Head) (o : Option ℕ) (d : Decision) (code : ℤ) → option_map pos o ≡ Some code → unless_closed head o d ≡ refuses head code
closed_by head None d code e = absurd cc
closed_by head (Some k) d code e = ap (refuses head) (some_of (pos k) code e)

pub closed_decides : (holds : Table ℕ) (s : ServerState) (clock : ℕ) (head : Head) (caller : Caller) (call : FsCall) (id : ℕ) (new : Bool) (w : Volume) (code : ℤ) → get id s.lasting.volumes ≡ Some (stored_as new w) → option_map pos (closed_code (stored_as new w) (get id holds)) ≡ Some code
    → file_in holds s clock head caller call id (get id s.lasting.volumes) ≡ refuses head code
closed_decides holds s clock head caller call id new w code there closed =
    ap (file_in holds s clock head caller call id) there ∙ closed_by head (closed_code (stored_as new w) (get id holds)) (decided s clock head caller call id (stored_as new w) (op id caller call (volume_of w))) code closed

-- ---- what is decided in any state is decided in those of a kind

module _ (clock : ℕ) (head : Head) (caller : Caller) (call : FsCall) (w : Volume) where
  pub in_any : {E : Type 0} (x : outcome.Result Decided E) → IfOk x (λ (d : Decided). (new : Bool) (s : ServerState) → Decides s clock head (decided_in new s clock head caller call w) d) → IfOk x (λ (d : Decided). CanBeTold head.opcode d) → IfOk x FitsDecided
      → IfOk x (IsDecisionIn clock head caller call w)
  in_any {E} (Ok d) decides told fits = record { decides = λ new s there. decides new s; told = told; fits = fits }
  in_any {E} (Err e) decides told fits = tt
