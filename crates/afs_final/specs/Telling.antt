-- The final part, as it is made of what was read: volumes with their vnodes.
use Rattle.std.specs.Prelude.{ℕ, List, [], ◌++◌, codes, Option, Some, None}
use Rattle.std.specs.List.{flat_map}
use Rattle.afs_num.specs.declared.types.Node.{Node}
use Rattle.afs_num.specs.declared.histories.Version.{Version}
use Rattle.afs_num.specs.declared.volumes.VolumeHead.{VolumeHead}
use Rattle.afs_text.specs.FinalText.{head_line_text, version_line_text}

-- a vnode's kind, and its last version
pub record ShownVnode : Type 0 where
  pub kind : ℕ
  pub version : Version

pub record ShownVolume : Type 0 where
  pub server : Node
  pub head : VolumeHead
  pub vnodes : List ShownVnode

abbrev pub shown_text : ShownVnode → List ℕ
shown_text s = version_line_text s.kind s.version

abbrev pub kept_text : ShownVolume → List ℕ
kept_text k = head_line_text k.server k.head ++ flat_map shown_text k.vnodes

-- the text of what stands in a place, where something does
abbrev pub text_at : {A : Type 0} → (A → List ℕ) → Option A → List ℕ
text_at {A} text None = []
text_at {A} text (Some x) = text x

abbrev pub final_of : List ShownVolume → List ℕ
final_of ks = codes "final\n" ++ (flat_map kept_text ks ++ codes "end\n")
