-- What a dump tells of a volume in memory: what is written of each vnode, place by place.
use Rattle.std.specs.Prelude.{ℕ, List, [], ◌++◌, length, Option, Some, None, nat_lt, if◌then◌else◌}
use Rattle.std.specs.List.{flat_map}
use Rattle.afs_num.specs.declared.vnodes.Vnode as image
use Rattle.afs_num.specs.declared.volumes.VolumeHead.{VolumeHead}
use Rattle.afs_xdr.specs.Words.{word}
use Rattle.spec_ideal.specs.Tables.{Table}
use Rattle.spec_ideal.specs.VnodeImage.{image}
use Rattle.spec_dumps.specs.Dumps.{DumpHeader, VolumeHeader}
use Rattle.spec_dumps.specs.Streams.{dump_header_field, vnode_tag, volume_header_field}

abbrev pub dump_header_told : ℕ → VolumeHead → DumpHeader
dump_header_told from head = record { id = head.id; name = head.name; from = from }

abbrev pub volume_header_told : VolumeHead → VolumeHeader
volume_header_told head = record {
  id = head.id;
  family = head.family;
  kind = head.kind;
  quota = head.quota;
  next = head.unique;
  counter = head.counter;
  release = head.release;
}

-- the bytes of what stands in a place, where something does
abbrev pub told_at : {A : Type 0} → (A → List ℕ) → Option A → List ℕ
told_at {A} f None = []
told_at {A} f (Some x) = f x

-- a vnode in the list
abbrev pub pair_told : ℕ × image.Vnode → List ℕ
pair_told p = word p.0 ++ word p.1.unique

-- its image, where it was changed since
abbrev pub image_told : ℕ → ℕ × image.Vnode → List ℕ
image_told from p = if nat_lt from p.1.change_counter then word vnode_tag ++ image (record p.1 { vnode = p.0 }) else []

-- all but the end
unfoldable pub parts_told : ℕ → VolumeHead → Table image.Vnode → List ℕ
parts_told from head t =
    dump_header_field.spelled (dump_header_told from head)
    ++ (volume_header_field.spelled (volume_header_told head) ++ (word (length t) ++ (flat_map pair_told t ++ flat_map (image_told from) t)))
