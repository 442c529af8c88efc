-- The step of a server node is that of the server whose message it is, over what was found of the message and over the message.
use Rattle.std.specs.Prelude.{◌≡◌, ℕ, List, [], ◌∷◌, Bool, true, false, Option, None, if◌then◌else◌}
use Rattle.std.proofs.Common.{refl, ap, sym, subst, ◌∙◌, inl, inr}
use Rattle.afs_num.specs.declared.messages.Message.{Message}
use Rattle.afs_num.specs.declared.messages.Received.{Received}
use Rattle.afs_num.specs.declared.messages.Received.TheVariants.{Nothing, Whole}
use Rattle.afs_num.specs.declared.records.StoreRecord.{StoreRecord}
use Rattle.afs_num.specs.declared.types.Node.{Node}
use Rattle.spec_history.specs.declared.lines.Line.TheVariants as lines
use Rattle.spec_model.specs.Messages.{received, received_by, FindsMessages}
use Rattle.spec_shape.proofs.Codecs.{IsBytes}
use Rattle.spec_model.proofs.Spellings.{found_in}
use Rattle.spec_rows.specs.Callbacks.{expired}
use Rattle.spec_rows.specs.ServerRow.{begun_after, device_calls, is_client, Decision}
use Rattle.spec_rows.specs.States.{durable_of, ServerState}
use Rattle.spec_rows.specs.Steps.{Begun, Step}
use Rattle.spec_volrows.specs.FileRow.{file_row}
use Rattle.spec_volrows.specs.VolLaws.{resting}
use Rattle.spec_volrows.specs.VolRow.{holds_of}
use Rattle.spec_volrows.specs.VolStates.{NodeState}
use Rattle.spec_volrows.specs.VolSteps.{from_of, is_of_client, node_begun_after, node_device_calls, node_file_decides, vol_begun_after, vol_decides, vol_device_calls, vol_turned, VolDecision, VolTurn}
use Rattle.afs_server.specs.Handling.{calls_served, record_decided}
use Rattle.afs_volserv.specs.Handling.{vol_calls_served, vol_record}
use Rattle.afs_node.specs.Handling.{let_out, node_record, node_taken, vol_resting, AreSameSteps, IsSameStep}
use Rattle.afs_node.specs.Seen.{found_by, node_found, sent_by_client}
use Rattle.afs_node.proofs.FileSame.{same_row, SameRow}
use Rattle.afs_node.proofs.Heard.{message_of, stands_there}
use Rattle.afs_node.proofs.Taken.{row_let_out}
use Rattle.afs_node.proofs.VolumeSame.{same_turn, volume_message_of, volume_stands, SameTurn}
use Rattle.afs_node.proofs.Whose.{of_client, of_other, sent_by, IsOther}

module _ (me : Node) (s : NodeState) (clock : ℕ) where
  -- ---- its file server's

  abbrev pub file_decided : Received → Decision
  file_decided r = node_file_decides me s clock r

  pub record IsFiles (r : Received) : Type 0 where
    pub taken : (place : ℕ) → node_taken me s clock place r ≡ resting s.vol (file_row me (holds_of s.vol.transactions) s.file clock place r)
    pub calls : node_device_calls me s clock r ≡ device_calls s.file clock (file_decided r)
    pub recorded : node_record me s clock r ≡ record_decided s.file.lasting.boot clock (file_decided r)
    pub begun : node_begun_after me s clock r ≡ begun_after me s.file clock (file_decided r)

  -- ---- its volume server's

  abbrev pub volume_decided : Received → VolDecision
  volume_decided r = vol_decides me (durable_of s.file.lasting) s.vol r

  abbrev pub volume_turn : Received → VolTurn
  volume_turn r = vol_turned me s.file.lasting s.vol (expired clock s.file.backs) (volume_decided r) r

  pub record IsVolumes (r : Received) : Type 0 where
    pub taken : (place : ℕ) → node_taken me s clock place r ≡ vol_resting me s.file (lines.Given place ∷ []) (volume_turn r)
    pub calls : node_device_calls me s clock r ≡ vol_device_calls (durable_of s.file.lasting) (volume_decided r)
    pub recorded : node_record me s clock r ≡ vol_record (volume_decided r)
    pub begun : node_begun_after me s clock r ≡ vol_begun_after me s.file (volume_decided r)

  -- ---- which

  abbrev taken_by : ℕ → Received → Bool → Step NodeState
  taken_by place r t = if t then resting s.vol (file_row me (holds_of s.vol.transactions) s.file clock place r) else vol_resting me s.file (lines.Given place ∷ []) (volume_turn r)

  abbrev calls_by : Received → Bool → ℕ
  calls_by r t = if t then device_calls s.file clock (file_decided r) else vol_device_calls (durable_of s.file.lasting) (volume_decided r)

  abbrev recorded_by : Received → Bool → Option StoreRecord
  recorded_by r t = if t then record_decided s.file.lasting.boot clock (file_decided r) else vol_record (volume_decided r)

  abbrev begun_by : Received → Bool → Begun ServerState
  begun_by r t = if t then begun_after me s.file clock (file_decided r) else vol_begun_after me s.file (volume_decided r)

  pub is_files : (r : Received) → is_of_client (from_of r) ≡ true → IsFiles r
  is_files r client = record { taken = λ place. ap (taken_by place r) client; calls = ap (calls_by r) client; recorded = ap (recorded_by r) client; begun = ap (begun_by r) client }

  -- where nothing was found both servers do the same, which is nothing
  nothing_volumes : IsVolumes Nothing
  unfolding file_row
  nothing_volumes = record { taken = λ place. refl; calls = refl; recorded = refl; begun = refl }

  pub is_volumes : (r : Received) → IsOther r → IsVolumes r
  is_volumes r (inl other) = record { taken = λ place. ap (taken_by place r) other; calls = ap (calls_by r) other; recorded = ap (recorded_by r) other; begun = ap (begun_by r) other }
  is_volumes r (inr nothing) = subst IsVolumes (sym nothing) nothing_volumes

  -- ---- over the message

  client_same : (m : Message) (found : Received) → is_client m.head.from ≡ true → is_of_client (from_of found) ≡ true → SameRow me (holds_of s.vol.transactions) s.file clock m found → IsSameStep me s clock m found
  client_same m found client of same =
      let a = is_files found of in
      let b = is_files (Whole m) client in
      record {
        row = λ place. row_let_out me s clock place found ∙ (ap let_out (a.taken place ∙ (ap (resting s.vol) (same.row place) ∙ sym (b.taken place))) ∙ sym (row_let_out me s clock place (Whole m)));
        calls = a.calls ∙ (ap (device_calls s.file clock) same.decision ∙ sym b.calls);
        recorded = a.recorded ∙ (ap (record_decided s.file.lasting.boot clock) same.decision ∙ sym b.recorded);
        begun = a.begun ∙ (ap (begun_after me s.file clock) same.decision ∙ sym b.begun);
      }

  other_same : (m : Message) (found : Received) → is_client m.head.from ≡ false → IsOther found → SameTurn me (durable_of s.file.lasting) s.vol m found → IsSameStep me s clock m found
  other_same m found other of same =
      let a = is_volumes found of in
      let b = is_volumes (Whole m) (inl other) in
      record {
        row = λ place. row_let_out me s clock place found
            ∙ (ap let_out (a.taken place ∙ (ap (vol_resting me s.file (lines.Given place ∷ [])) (same.turn s.file.lasting (expired clock s.file.backs)) ∙ sym (b.taken place))) ∙ sym (row_let_out me s clock place (Whole m)));
        calls = a.calls ∙ (ap (vol_device_calls (durable_of s.file.lasting)) same.decision ∙ sym b.calls);
        recorded = a.recorded ∙ (ap vol_record same.decision ∙ sym b.recorded);
        begun = a.begun ∙ (ap (vol_begun_after me s.file) same.decision ∙ sym b.begun);
      }

  -- of bytes whose message is a client's, or another's
  files_same : (bytes : List ℕ) → sent_by_client bytes ≡ true → FindsMessages calls_served bytes → AreSameSteps me s clock bytes
  files_same bytes client finds m whole =
      subst (λ (t : Bool). IsSameStep me s clock m (found_by t bytes)) (sym client)
      (client_same m (received_by calls_served bytes) (sym (sent_by bytes m whole) ∙ client) (of_client calls_served bytes client) (same_row me (holds_of s.vol.transactions) s.file clock m (received_by calls_served bytes) (finds m whole)))

  volumes_same : (bytes : List ℕ) → sent_by_client bytes ≡ false → FindsMessages vol_calls_served bytes → AreSameSteps me s clock bytes
  volumes_same bytes other finds m whole =
      subst (λ (t : Bool). IsSameStep me s clock m (found_by t bytes)) (sym other)
      (other_same m (received_by vol_calls_served bytes) (sym (sent_by bytes m whole) ∙ other) (of_other vol_calls_served bytes other) (same_turn me (durable_of s.file.lasting) s.vol m (received_by vol_calls_served bytes) (finds m whole)))

  same_by : (bytes : List ℕ) (t : Bool) → sent_by_client bytes ≡ t → IsBytes bytes → AreSameSteps me s clock bytes
  same_by bytes true client are = files_same bytes client (λ m whole. found_in calls_served bytes m are whole)
  same_by bytes false other are = volumes_same bytes other (λ m whole. found_in vol_calls_served bytes m are whole)

  pub steps_same : (bytes : List ℕ) → IsBytes bytes → AreSameSteps me s clock bytes
  steps_same bytes are = same_by bytes (sent_by_client bytes) refl are

  -- ---- a step that makes a record is that of a message

  some_file : (bytes : List ℕ) → is_of_client (from_of (received_by calls_served bytes)) ≡ true → (node_record me s clock (received_by calls_served bytes) ≡ None → ⊥) → (m : Message) × (received bytes ≡ Whole m)
  some_file bytes client some =
      let r = received_by calls_served bytes in
      let of = message_of me (holds_of s.vol.transactions) s.file s.file.lasting.boot clock r (λ none. some ((is_files r client).recorded ∙ none)) in
      (of.0, stands_there bytes of.0 of.1)

  some_volume : (bytes : List ℕ) → IsOther (received_by vol_calls_served bytes) → (node_record me s clock (received_by vol_calls_served bytes) ≡ None → ⊥) → (m : Message) × (received bytes ≡ Whole m)
  some_volume bytes other some =
      let r = received_by vol_calls_served bytes in
      let of = volume_message_of me (durable_of s.file.lasting) s.vol r (λ none. some ((is_volumes r other).recorded ∙ none)) in
      (of.0, volume_stands bytes of.0 of.1)

  some_by : (bytes : List ℕ) (t : Bool) → sent_by_client bytes ≡ t → (node_record me s clock (found_by t bytes) ≡ None → ⊥) → (m : Message) × (received bytes ≡ Whole m)
  some_by bytes true client some = some_file bytes (of_client calls_served bytes client) some
  some_by bytes false other some = some_volume bytes (of_other vol_calls_served bytes other) some

  pub some_message : (bytes : List ℕ) → (node_record me s clock (node_found bytes) ≡ None → ⊥) → (m : Message) × (received bytes ≡ Whole m)
  some_message bytes some = some_by bytes (sent_by_client bytes) refl some
