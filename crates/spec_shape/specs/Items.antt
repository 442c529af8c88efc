-- Reading the parts of a message that are the same number of words in each, and lists of them.
use Rattle.std.specs.Prelude.{ℕ, zero, suc, List, [], ◌∷◌, ◌||◌, Result, Ok, Err, nat_lt, if◌then◌else◌}
use Rattle.afs_xdr.specs.declared.faults.XdrFault.{XdrFault}
use Rattle.afs_xdr.specs.declared.faults.XdrFault.TheVariants.{TooLong, BadType}
use Rattle.afs_xdr.specs.Words.{◌>>=◌, word_at, opaque_at}
use Rattle.afs_num.specs.declared.types.Fid.{Fid}
use Rattle.afs_num.specs.declared.calls.AfsStoreStatus.{AfsStoreStatus}
use Rattle.afs_num.specs.declared.calls.AfsFetchStatus.{AfsFetchStatus}
use Rattle.afs_num.specs.declared.calls.AfsCallBack.{AfsCallBack}
use Rattle.afs_num.specs.declared.calls.AfsVolSync.{AfsVolSync}
use Rattle.afs_num.specs.declared.volume_calls.ListedVolume.{ListedVolume}
use Rattle.afs_num.specs.declared.location_calls.LocSite.{LocSite}
use Rattle.afs_num.specs.declared.location_calls.LocEntry.{LocEntry}

-- a word from low to high
unfoldable pub ranged_at : ℕ → ℕ → List ℕ → Result (ℕ × List ℕ) XdrFault
ranged_at low high bytes = do
  n ← word_at bytes
  if nat_lt n.0 low || nat_lt high n.0 then Err BadType else Ok n

-- the number of a server
abbrev pub server_at : List ℕ → Result (ℕ × List ℕ) XdrFault
server_at bytes = ranged_at 1 8 bytes

-- the kind of a volume
abbrev pub volume_kind_at : List ℕ → Result (ℕ × List ℕ) XdrFault
volume_kind_at bytes = ranged_at 0 2 bytes

unfoldable pub fid_at : List ℕ → Result (Fid × List ℕ) XdrFault
fid_at bytes = do
  volume ← word_at bytes
  vnode ← word_at volume.1
  unique ← word_at vnode.1
  Ok (record { volume = volume.0; vnode = vnode.0; unique = unique.0 }, unique.1)

unfoldable pub store_status_at : List ℕ → Result (AfsStoreStatus × List ℕ) XdrFault
store_status_at bytes = do
  mask ← word_at bytes
  client_mod_time ← word_at mask.1
  owner ← word_at client_mod_time.1
  group ← word_at owner.1
  unix_mode_bits ← word_at group.1
  seg_size ← word_at unix_mode_bits.1
  Ok (record { mask = mask.0; client_mod_time = client_mod_time.0; owner = owner.0; group = group.0; unix_mode_bits = unix_mode_bits.0; seg_size = seg_size.0 }, seg_size.1)

unfoldable pub callback_at : List ℕ → Result (AfsCallBack × List ℕ) XdrFault
callback_at bytes = do
  version ← word_at bytes
  expiration_time ← word_at version.1
  kind ← word_at expiration_time.1
  Ok (record { version = version.0; expiration_time = expiration_time.0; kind = kind.0 }, kind.1)

unfoldable pub sync_at : List ℕ → Result (AfsVolSync × List ℕ) XdrFault
sync_at bytes = do
  release ← word_at bytes
  spare1 ← word_at release.1
  spare2 ← word_at spare1.1
  spare3 ← word_at spare2.1
  spare4 ← word_at spare3.1
  spare5 ← word_at spare4.1
  Ok (record { release = release.0; spare1 = spare1.0; spare2 = spare2.0; spare3 = spare3.0; spare4 = spare4.0; spare5 = spare5.0 }, spare5.1)

unfoldable pub status_at : List ℕ → Result (AfsFetchStatus × List ℕ) XdrFault
status_at bytes = do
  interface_version ← word_at bytes
  file_type ← word_at interface_version.1
  link_count ← word_at file_type.1
  len ← word_at link_count.1
  data_version ← word_at len.1
  author ← word_at data_version.1
  owner ← word_at author.1
  caller_access ← word_at owner.1
  anonymous_access ← word_at caller_access.1
  unix_mode_bits ← word_at anonymous_access.1
  parent_vnode ← word_at unix_mode_bits.1
  parent_unique ← word_at parent_vnode.1
  seg_size ← word_at parent_unique.1
  client_mod_time ← word_at seg_size.1
  server_mod_time ← word_at client_mod_time.1
  group ← word_at server_mod_time.1
  sync_counter ← word_at group.1
  spare1 ← word_at sync_counter.1
  spare2 ← word_at spare1.1
  spare3 ← word_at spare2.1
  spare4 ← word_at spare3.1
  Ok (record { interface_version = interface_version.0; file_type = file_type.0; link_count = link_count.0; length = len.0; data_version = data_version.0; author = author.0; owner = owner.0; caller_access = caller_access.0; anonymous_access = anonymous_access.0; unix_mode_bits = unix_mode_bits.0; parent_vnode = parent_vnode.0; parent_unique = parent_unique.0; seg_size = seg_size.0; client_mod_time = client_mod_time.0; server_mod_time = server_mod_time.0; group = group.0; sync_counter = sync_counter.0; spare1 = spare1.0; spare2 = spare2.0; spare3 = spare3.0; spare4 = spare4.0 }, spare4.1)

-- so many items, one after the other
unfoldable pub items_at : {T : Type 0} → (List ℕ → Result (T × List ℕ) XdrFault) → ℕ → List ℕ → Result (List T × List ℕ) XdrFault
items_at item_at zero bytes = Ok ([], bytes)
items_at item_at (suc n) bytes = do
  first ← item_at bytes
  others ← items_at item_at n first.1
  Ok (first.0 ∷ others.0, others.1)

-- a count of at most so many, and that many items
unfoldable pub list_at : {T : Type 0} → (List ℕ → Result (T × List ℕ) XdrFault) → ℕ → List ℕ → Result (List T × List ℕ) XdrFault
list_at item_at most bytes = do
  count ← word_at bytes
  if nat_lt most count.0 then Err TooLong else items_at item_at count.0 count.1

unfoldable pub listed_volume_at : List ℕ → Result (ListedVolume × List ℕ) XdrFault
listed_volume_at bytes = do
  volume ← word_at bytes
  kind ← volume_kind_at volume.1
  flags ← word_at kind.1
  release ← word_at flags.1
  Ok (record { volume = volume.0; kind = kind.0; flags = flags.0; release = release.0 }, release.1)

unfoldable pub site_at : List ℕ → Result (LocSite × List ℕ) XdrFault
site_at bytes = do
  server ← server_at bytes
  flags ← word_at server.1
  Ok (record { server = server.0; flags = flags.0 }, flags.1)

-- at most so many bytes of a volume's name
abbrev pub volume_name_limit : ℕ
volume_name_limit = 32

-- at most so many sites of a location entry
abbrev pub site_limit : ℕ
site_limit = 16

unfoldable pub entry_at : List ℕ → Result (LocEntry × List ℕ) XdrFault
entry_at bytes = do
  name ← opaque_at volume_name_limit bytes
  read_write ← word_at name.1
  read_only ← word_at read_write.1
  backup ← word_at read_only.1
  flags ← word_at backup.1
  sites ← list_at site_at site_limit flags.1
  Ok (record { name = name.0; read_write = read_write.0; read_only = read_only.0; backup = backup.0; flags = flags.0; sites = sites.0 }, sites.1)
