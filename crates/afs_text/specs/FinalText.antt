-- What stands at the end of a run: the volumes of each server, by its disk.
use Rattle.std.specs.Prelude.{ℕ, ◌+◌, List, [], ◌∷◌, ◌++◌, codes}
use Rattle.std.specs.List.{flat_map}
use Rattle.std.specs.Fmt.{decimal}
use Rattle.afs_num.specs.Texts.{fid_text, node_text}
use Rattle.afs_num.specs.declared.types.Node.{Node}
use Rattle.afs_num.specs.declared.types.Node.TheVariants.{Server}
use Rattle.afs_num.specs.declared.histories.Version.{Version}
use Rattle.afs_num.specs.declared.volumes.VolumeHead.{VolumeHead}
use Rattle.spec_ideal.specs.Volumes.{type_of, version_at, Vnode}
use Rattle.spec_model.specs.LineText.{body_text, name_text}
use Rattle.spec_records.specs.Changes.{volume_head}
use Rattle.spec_records.specs.Durable.{Durable, Stored}

-- a vnode: its kind, and its last version
unfoldable pub version_line_text : ℕ → Version → List ℕ
version_line_text kind v =
    codes "vnode " ++ (fid_text v.fid ++ (codes " " ++ (decimal kind ++ (codes " " ++ (decimal v.index ++ (codes " " ++ (decimal v.data_version ++ (codes " " ++ (body_text v.body ++ codes "\n")))))))))

abbrev pub vnode_text : ℕ → ℕ × Vnode → List ℕ
vnode_text id p = version_line_text (type_of p.1.kind) (version_at id p.0 p.1)

unfoldable pub head_line_text : Node → VolumeHead → List ℕ
head_line_text server h =
    codes "volume " ++ (node_text server ++ (codes " " ++ (decimal h.id ++ (codes " " ++ (name_text h.name ++ (codes " " ++ (decimal h.kind ++ (codes " " ++ (decimal h.flags ++ codes "\n")))))))))

-- a volume, and its vnodes in order of number
unfoldable pub volume_text : Node → ℕ × Stored → List ℕ
volume_text server p = head_line_text server (volume_head p.0 p.1.volume) ++ flat_map (vnode_text p.0) p.1.volume.vnodes

-- the volumes of the servers from this number on, each by what its disk keeps
abbrev pub servers_text : ℕ → List Durable → List ℕ
servers_text i [] = []
servers_text i (d ∷ ds) = flat_map (volume_text (Server i)) d.volumes ++ servers_text (i + 1) ds

unfoldable pub final_text : List Durable → List ℕ
final_text ds = codes "final\n" ++ (servers_text 1 ds ++ codes "end\n")
