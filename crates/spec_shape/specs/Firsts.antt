-- The value of a field that stands first is what is taken first.
use Rattle.std.specs.Prelude.{refl}
use Rattle.spec_shape.specs.declared.kinds.Field.TheVariants as fields
use Rattle.spec_shape.specs.Taking.{word_first, signed_first, volume_kind_first, server_first, fid_first, store_status_first, status_first, callback_first, sync_first, entry_first, octets_first, fids_first, callbacks_first, statuses_first, volumes_first}
use Rattle.spec_shape.specs.Taken.{IsFirst}

pub word : IsFirst fields.Word word_first
word x fs = refl

pub signed : IsFirst fields.Signed signed_first
signed x fs = refl

pub volume_kind : IsFirst fields.VolumeKind volume_kind_first
volume_kind x fs = refl

pub server : IsFirst fields.Server server_first
server x fs = refl

pub fid : IsFirst fields.Fid fid_first
fid x fs = refl

pub store_status : IsFirst fields.StoreStatus store_status_first
store_status x fs = refl

pub status : IsFirst fields.FetchStatus status_first
status x fs = refl

pub callback : IsFirst fields.CallBack callback_first
callback x fs = refl

pub sync : IsFirst fields.VolSync sync_first
sync x fs = refl

pub entry : IsFirst fields.Entry entry_first
entry x fs = refl

pub octets : IsFirst fields.Opaque octets_first
octets x fs = refl

pub fids : IsFirst fields.Fids fids_first
fids x fs = refl

pub callbacks : IsFirst fields.CallBacks callbacks_first
callbacks x fs = refl

pub statuses : IsFirst fields.Statuses statuses_first
statuses x fs = refl

pub volumes : IsFirst fields.Volumes volumes_first
volumes x fs = refl
