-- The image of a vnode on a disk and in a dump: fifteen words, then the access list and the contents.
use Rattle.std.specs.Prelude.{◌≤◌, ◌%◌, ℕ, List, [], ◌∷◌, ◌++◌, length, Bool, ◌||◌, Result, Ok, Err, nat_eq, if◌then◌else◌, ◌==◌}
use Rattle.afs_xdr.specs.declared.faults.XdrFault.{XdrFault}
use Rattle.afs_xdr.specs.declared.faults.XdrFault.TheVariants.{BadType}
use Rattle.afs_xdr.specs.Words.{words, opaque, word_at, opaque_at}
use Rattle.afs_num.specs.declared.vnodes.Vnode.{Vnode}
use Rattle.spec_shape.specs.Reading.{◌>>=◌}

-- the numbers of the kinds of vnodes

abbrev pub file_type : ℕ
file_type = 1

abbrev pub directory_type : ℕ
directory_type = 2

abbrev pub link_type : ℕ
link_type = 3

abbrev pub is_directory : Vnode → Bool
is_directory v = nat_eq v.kind directory_type

-- directories have odd numbers, files and links even ones
unfoldable pub kind_fits : ℕ → ℕ → Bool
kind_fits vnode kind = if vnode % 2 == 1 then nat_eq kind directory_type else nat_eq kind file_type || nat_eq kind link_type

-- the spelling

abbrev pub most_acl : ℕ
most_acl = 1024

abbrev pub most_contents : ℕ
most_contents = 2097152

abbrev pub image_words : Vnode → List ℕ
image_words v =
    v.vnode ∷ v.unique ∷ v.kind ∷ v.index ∷ v.data_version ∷ v.link_count ∷ v.owner ∷ v.group ∷ v.mode ∷ v.segment_size ∷ v.client_time ∷ v.server_time
    ∷ v.parent_vnode ∷ v.parent_unique ∷ v.change_counter ∷ []

unfoldable pub image : Vnode → List ℕ
image v = words (image_words v) ++ (opaque v.acl ++ opaque v.contents)

-- within the limits of an image
pub record FitsImage (v : Vnode) : Type 0 where
  pub acl : length v.acl ≤ most_acl
  pub contents : length v.contents ≤ most_contents

-- the reading: a refusal has the place of the first field that is bad, from 1

pub record BadField : Type 0 where
  pub place : ℕ
  pub fault : XdrFault

-- what is read is the field of this place
abbrev pub as_field : {A : Type 0} → ℕ → Result A XdrFault → Result A BadField
as_field place (Ok x) = Ok x
as_field place (Err f) = Err (record { place = place; fault = f })

unfoldable pub word_field : ℕ → List ℕ → Result (ℕ × List ℕ) BadField
word_field place bytes = as_field place (word_at bytes)

unfoldable pub opaque_field : ℕ → ℕ → List ℕ → Result (List ℕ × List ℕ) BadField
opaque_field place most bytes = as_field place (opaque_at most bytes)

-- the kind, which has to fit the number
unfoldable pub kind_field : ℕ → ℕ → List ℕ → Result (ℕ × List ℕ) BadField
kind_field place vnode bytes = do
  kind ← word_field place bytes
  if kind_fits vnode kind.0 then Ok kind else Err (record { place = place; fault = BadType })

unfoldable pub image_at : List ℕ → Result (Vnode × List ℕ) BadField
image_at bytes = do
  vnode ← word_field 1 bytes
  unique ← word_field 2 vnode.1
  kind ← kind_field 3 vnode.0 unique.1
  index ← word_field 4 kind.1
  data_version ← word_field 5 index.1
  link_count ← word_field 6 data_version.1
  owner ← word_field 7 link_count.1
  group ← word_field 8 owner.1
  mode ← word_field 9 group.1
  segment_size ← word_field 10 mode.1
  client_time ← word_field 11 segment_size.1
  server_time ← word_field 12 client_time.1
  parent_vnode ← word_field 13 server_time.1
  parent_unique ← word_field 14 parent_vnode.1
  change_counter ← word_field 15 parent_unique.1
  acl ← opaque_field 16 most_acl change_counter.1
  contents ← opaque_field 17 most_contents acl.1
  Ok (
    record {
      vnode = vnode.0;
      unique = unique.0;
      kind = kind.0;
      index = index.0;
      data_version = data_version.0;
      link_count = link_count.0;
      owner = owner.0;
      group = group.0;
      mode = mode.0;
      segment_size = segment_size.0;
      client_time = client_time.0;
      server_time = server_time.0;
      parent_vnode = parent_vnode.0;
      parent_unique = parent_unique.0;
      change_counter = change_counter.0;
      acl = acl.0;
      contents = contents.0;
    },
    contents.1,
  )
