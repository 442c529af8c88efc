-- What a message is written from, as its fields.
use Rattle.std.specs.Prelude.{List, map}
use Rattle.spec_shape.specs.declared.kinds.Field.{Field}
use Rattle.spec_shape.specs.declared.kinds.Field.TheVariants as fields
use Rattle.spec_shape.specs.declared.kinds.Part.{Part}
use Rattle.spec_shape.specs.declared.kinds.Part.TheVariants as parts

-- the field that lies there
abbrev pub field_of : Part → Field
field_of (parts.Word n) = fields.Word n.now
field_of (parts.Signed z) = fields.Signed z.now
field_of (parts.VolumeKind n) = fields.VolumeKind n.now
field_of (parts.Server n) = fields.Server n.now
field_of (parts.Fid f) = fields.Fid f.now
field_of (parts.StoreStatus s) = fields.StoreStatus s.now
field_of (parts.FetchStatus s) = fields.FetchStatus s.now
field_of (parts.CallBack c) = fields.CallBack c.now
field_of (parts.VolSync v) = fields.VolSync v.now
field_of (parts.Opaque bytes) = fields.Opaque bytes.now
field_of (parts.Fids fs) = fields.Fids fs.now
field_of (parts.CallBacks cs) = fields.CallBacks cs.now
field_of (parts.Statuses ss) = fields.Statuses ss.now
field_of (parts.Volumes vs) = fields.Volumes vs.now
field_of (parts.Entry e) = fields.Entry e.now

abbrev pub fields_of : List Part → List Field
fields_of ps = map field_of ps
