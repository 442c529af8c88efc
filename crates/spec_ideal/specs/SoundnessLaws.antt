-- Laws about sound volumes: what set-up and operations leave is sound.
use Rattle.std.specs.Prelude.{◌≡◌, ◌<◌, ℕ, List, length, true, Ok, Some}
use Rattle.afs_num.specs.declared.calls.FsCall.{FsCall}
use Rattle.spec_history.specs.declared.scripts.SetupLine.{SetupLine}
use Rattle.spec_history.specs.declared.scripts.VolumeLine.{VolumeLine}
use Rattle.afs_xdr.specs.Words.{AreWords, IsBytes}
use Rattle.spec_ideal.specs.Tables.{get}
use Rattle.spec_ideal.specs.VnodeImage.{kind_fits, image_words, FitsImage}
use Rattle.spec_ideal.specs.Volumes.{type_of, Vnode, Volume, Edit, edited_all, counted}
use Rattle.spec_ideal.specs.Images.{Image, IsWord, HasImage, image_of, value_of}
use Rattle.spec_ideal.specs.Operations.{Caller, changes, op}
use Rattle.spec_ideal.specs.SetUp.{Laid, new_volume, laid_at, acl_laid, laid_all, empty_volume, first_volume}
use Rattle.spec_ideal.specs.Soundness.{IsSound}

-- an accepted operation makes at least one edit, and leaves a sound volume
pub record LeavesSound (id : ℕ) (es : List Edit) (v : Volume) : Type 0 where
  pub sound : IsSound (counted (edited_all id es v))
  pub some_edit : 0 < length es

abbrev pub OperationsLeaveSound : Type 0
OperationsLeaveSound = (id : ℕ) (caller : Caller) (call : FsCall) (v : Volume) (es : List Edit) (n : ℕ) → IsSound v → op id caller call v ≡ changes es n → LeavesSound id es v

abbrev pub NewVolumesAreSound : Type 0
NewVolumesAreSound = (family : ℕ) (name : List ℕ) (kind flags quota : ℕ) → IsSound (new_volume family name kind flags quota)

-- and so is what set-up lays in a sound volume
pub record SetUpLeavesSound : Type 0 where
  pub names : (id : ℕ) (path : List (List ℕ)) (x : Laid) (v w : Volume) → IsSound v → laid_at id path x v ≡ Ok w → IsSound w
  pub lists : (id : ℕ) (path : List (List ℕ)) (text : List ℕ) (v w : Volume) → IsSound v → acl_laid id path text v ≡ Ok w → IsSound w

-- what stands at set-up was never changed: index, data version and the counter at its last change are 1
pub record IsAtFirst (x : Vnode) : Type 0 where
  pub index : x.index ≡ 1
  pub data_version : x.data_version ≡ 1
  pub changed : x.changed ≡ 1

-- neither was the volume
pub record IsSetUp (v : Volume) : Type 0 where
  pub counter : v.counter ≡ 1
  pub vnodes : (n : ℕ) (x : Vnode) → get n v.vnodes ≡ Some x → IsAtFirst x

-- and so is a new volume, and what set-up lays in such a one
pub record SetUpTellsOnce : Type 0 where
  pub new : (family : ℕ) (name : List ℕ) (kind flags quota : ℕ) → IsSetUp (new_volume family name kind flags quota)
  pub names : (id : ℕ) (path : List (List ℕ)) (x : Laid) (v w : Volume) → IsSetUp v → laid_at id path x v ≡ Ok w → IsSetUp w
  pub lists : (id : ℕ) (path : List (List ℕ)) (text : List ℕ) (v w : Volume) → IsSetUp v → acl_laid id path text v ≡ Ok w → IsSetUp w

-- What all lines of set-up leave of a new volume is sound, and was never changed.
pub record IsLaidOut (v : Volume) : Type 0 where
  pub sound : IsSound v
  pub set_up : IsSetUp v

abbrev pub SetUpIsLaidOut : Type 0
SetUpIsLaidOut = (id family : ℕ) (name : List ℕ) (kind flags quota : ℕ) (lines : List SetupLine) (w : Volume) →
    laid_all id lines (new_volume family name kind flags quota) ≡ Ok w → IsLaidOut w

-- So is the first volume of a script's line; and where its lines are accepted, it is what they lay.
pub record FirstVolumes : Type 0 where
  pub laid_out : (l : VolumeLine) → IsLaidOut (first_volume l)
  pub accepted : (l : VolumeLine) (w : Volume) → laid_all l.id l.lines (empty_volume l) ≡ Ok w → first_volume l ≡ w

-- A vnode has an image within its limits, whose value it is.
pub record IsReadAgain (n time : ℕ) (x : Vnode) : Type 0 where
  pub fits : FitsImage (image_of n time x)
  pub kind : kind_fits n (type_of x.kind) ≡ true
  pub value : value_of (image_of n time x) ≡ Some x
  pub words : IsWord n → IsWord time → AreWords (image_words (image_of n time x))

-- so has each vnode of a sound volume whose words and lengths are within an image's
abbrev pub SoundAreReadAgain : Type 0
SoundAreReadAgain = (v : Volume) (n time : ℕ) (x : Vnode) → IsSound v → get n v.vnodes ≡ Some x → HasImage x → IsReadAgain n time x

-- an image that has a value is the image of it, so no two images have one value
abbrev pub ValuesAreImagedAgain : Type 0
ValuesAreImagedAgain = (i : Image) (x : Vnode) → IsBytes i.contents → value_of i ≡ Some x → image_of i.vnode i.server_time x ≡ i
