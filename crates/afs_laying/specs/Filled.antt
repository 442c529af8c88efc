-- What set-up lays of a file in one change, where the definition makes it and then stores its bytes.
use Rattle.std.specs.Prelude.{◌≡◌, ◌≤◌, ℕ, List, [], ◌∷◌, Bool, true, false, pos, Option, Some, None, nat_lt, length, Result, Ok, Err, if◌then◌else◌}
use Rattle.std.specs.List.{list_all, AllByRecursion}
use Rattle.std.specs.Option.{option_map}
use Rattle.afs_num.specs.declared.types.Fid.{Fid}
use Rattle.afs_num.specs.declared.vnodes.Vnode as image
use Rattle.spec_ideal.specs.Operations.{edit_fits, most_file_bytes, Found}
use Rattle.spec_ideal.specs.Operations as op
use Rattle.afs_num.specs.declared.calls.FsCall.TheVariants as calls
use Rattle.spec_ideal.specs.SetUp.{all_at_first, nothing_set}
use Rattle.spec_ideal.specs.Soundness.{IsSound}
use Rattle.spec_ideal.specs.VnodeMaps.{most_vnodes}
use Rattle.spec_ideal.specs.Volumes.{Edit, makes, Volume, blocks_in, counted, edited_all}
use Rattle.spec_ideal.proofs.Looks.{Distinct, MakesAs}
use Rattle.spec_ideal.proofs.Tellings.{FindEach}
use Rattle.afs_changes.specs.Drawing.{CanBeDrawn}
use Rattle.afs_changes.specs.Planning.{edits_seen}
use Rattle.afs_reads.specs.Replying.{refusal_of}
use Rattle.afs_volume.specs.Giving.{volume_of}
use Rattle.afs_volume.specs.Seen.{seen}
use Rattle.afs_changes.specs.declared.edits.Edit as code
use Rattle.afs_reads.specs.declared.faults.OpFault.{OpFault}
use Rattle.afs_reads.specs.declared.faults.OpFault.TheVariants as faults
use Rattle.afs_volume.specs.declared.volume.Volume as volumes

-- the edits, where what is made has these bytes
abbrev pub filled_one : List ℕ → Edit → Edit
filled_one bytes (makes n x) = makes n (record x { contents = bytes })
filled_one bytes e = e

abbrev pub filled : List ℕ → List Edit → List Edit
filled bytes [] = []
filled bytes (e ∷ es) = filled_one bytes e ∷ filled bytes es

-- the volume after edits, what they changed as at first
abbrev pub at_once : ℕ → List Edit → Volume → Volume
at_once id es v = record (counted (edited_all id es v)) { counter = 1; vnodes = all_at_first es (edited_all id es v).vnodes }

-- a file of these bytes, whose edits are accepted for an empty one: 27 and 109
abbrev pub filled_at_once : ℕ → List ℕ → List Edit → Volume → Result Volume ℕ
filled_at_once id bytes es v =
    if nat_lt most_file_bytes (length bytes) then Err 27
    else (if nat_lt v.quota (blocks_in (edited_all id (filled bytes es) v).vnodes) then Err 109 else Ok (at_once id (filled bytes es) v))

-- edits that can be laid: each can be drawn, they are of different vnodes, and leave a sound volume
pub record CanBeLaid (id : ℕ) (v : Volume) (es : List Edit) : Type 0 where
  pub sound : IsSound v
  pub few : length v.vnodes ≤ most_vnodes
  pub apart : Distinct es
  pub one : MakesAs v.next v.next es
  pub finds : FindEach v es
  pub fits : list_all (edit_fits v) es ≡ true
  pub drawn : AllByRecursion (CanBeDrawn v) es
  pub laid : IsSound (at_once id es v)

-- ---- what set-up is answered

abbrev pub code_in : {A : Type 0} → Result A ℕ → Option ℕ
code_in {A} (Ok x) = None
code_in {A} (Err code) = Some code

-- the refusal of this result, or memory was wanting
abbrev pub IsCodeOf : {A : Type 0} → Result A ℕ → OpFault → Type 0
IsCodeOf {A} r (faults.Code code) = option_map pos (code_in r) ≡ Some code.0
IsCodeOf {A} r faults.OutOfMemory = Unit {0}

-- a vnode that was found
abbrev pub found_seen : ℕ → image.Vnode → Found
found_seen id x = record { fid = record { volume = id; vnode = x.vnode; unique = x.unique }; vnode = seen x }

-- the operation is accepted, or refused with this code
abbrev pub is_accepted : op.Result → Bool
is_accepted (op.changes es n) = true
is_accepted r = false

abbrev pub SetUpAccepts : op.Result → Result (Unit {0}) OpFault → Type 0
SetUpAccepts r (Ok done) = is_accepted r ≡ true
SetUpAccepts r (Err (faults.Code code)) = option_map pos (refusal_of r) ≡ Some code.0
SetUpAccepts r (Err faults.OutOfMemory) = Unit {0}

-- the edits that make a file with these bytes, where CreateFile makes one without
abbrev pub IsFilled : ℕ → Fid → List ℕ → List ℕ → Volume → List Edit → Type 0
IsFilled id d name bytes v fs =
    (es : List Edit) × ((m : ℕ) × ((op.op id op.all_rights (calls.CreateFile d name nothing_set) v ≡ op.changes es m) × (fs ≡ filled bytes es)))

-- where a path leads
abbrev pub fid_in : Result Found ℕ → Option Fid
fid_in (Ok found) = Some found.fid
fid_in (Err code) = None

abbrev pub Leads : Result Found ℕ → Result Fid OpFault → Type 0
Leads r (Ok fid) = fid_in r ≡ Some fid
Leads r (Err e) = IsCodeOf r e

-- the edits that lay what the definition lays
abbrev pub LaysEdits : ℕ → Volume → Result Volume ℕ → Result (List code.Edit) OpFault → Type 0
LaysEdits id v r (Ok es) = CanBeLaid id v (edits_seen es) × (r ≡ Ok (at_once id (edits_seen es) v))
LaysEdits id v r (Err e) = IsCodeOf r e

-- the volume after a line, or as it was
abbrev pub Lays : Result Volume ℕ → volumes.Volume → volumes.Volume → Result (Unit {0}) OpFault → Type 0
Lays r old new (Ok done) = r ≡ Ok (volume_of new)
Lays r old new (Err e) = IsCodeOf r e × ((new.head ≡ old.head) × (new.vnodes.table ≡ old.vnodes.table))

-- ---- edits

-- an image as at first
abbrev pub image_at_first : image.Vnode → image.Vnode
image_at_first x = record x { index = 1; data_version = 1; change_counter = 1 }
