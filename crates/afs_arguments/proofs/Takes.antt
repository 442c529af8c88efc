-- The words that ask for a replay are taken by clap.
use Rattle.std.proofs.Common.{◌≡◌, List, [], ◌∷◌, ◌++◌, Bool, true, false, codes, refl, ◌⊎◌, inl, inr}
use Rattle.clap.specs.Walk.{Text, walked}
use Rattle.afs_disk.specs.declared.bank.Place.{Place}
use Rattle.afs_disk.specs.declared.bank.Place.TheVariants.{Memory, Folder}
use Rattle.afs_command.specs.Forms.{AreOptions, IsPlace, IsWire}
use Rattle.afs_arguments.proofs.Leaf.{rules, wire_row}
use Rattle.afs_arguments.proofs.Words.{name_is_plain}
use Rattle.afs_arguments.proofs.Walks.{NoDashes, Passes, at_end, kept, kept_wired, onto, pending, plain_turn, plain_walk, start, waiting, wired, wired_kept}

told_first : (wire : Bool) (place : Place) (told words : List Text) → IsWire wire told → IsPlace place words → Passes start (told ++ words)
unfolding walked
told_first false Memory told words w p = rw (w, p) (at_end start refl)
told_first true Memory told words w p = rw (w, p) (onto start wired (codes "--wire") [] refl refl (at_end _ refl))
told_first false (Folder name) told words w (is, inl p) =
    let plain = name_is_plain rules name is in
    rw (w, p) (onto start (waiting []) (codes "--disks") (name ∷ []) refl refl (onto (waiting []) (pending [] name) name [] (plain_turn name [] plain) (plain_walk name [] plain) (at_end _ refl)))
told_first false (Folder name) told words w (is, inr p) = rw (w, p) (onto start (kept name) (codes "--disks=" ++ name) [] refl refl (at_end _ refl))
told_first true (Folder name) told words w (is, inl p) =
    let plain = name_is_plain rules name is in
    rw (w, p) (onto start wired (codes "--wire") (codes "--disks" ∷ name ∷ []) refl refl (onto wired (waiting (wire_row ∷ [])) (codes "--disks") (name ∷ []) refl refl
    (onto (waiting (wire_row ∷ [])) (pending (wire_row ∷ []) name) name [] (plain_turn name (wire_row ∷ []) plain) (plain_walk name (wire_row ∷ []) plain) (at_end _ refl))))
told_first true (Folder name) told words w (is, inr p) =
    rw (w, p) (onto start wired (codes "--wire") ((codes "--disks=" ++ name) ∷ []) refl refl (onto wired (wired_kept name) (codes "--disks=" ++ name) [] refl refl (at_end _ refl)))

kept_first : (wire : Bool) (place : Place) (told words : List Text) → IsWire wire told → IsPlace place words → Passes start (words ++ told)
unfolding walked
kept_first false Memory told words w p = rw (w, p) (at_end start refl)
kept_first true Memory told words w p = rw (w, p) (onto start wired (codes "--wire") [] refl refl (at_end _ refl))
kept_first false (Folder name) told words w (is, inl p) =
    let plain = name_is_plain rules name is in
    rw (w, p) (onto start (waiting []) (codes "--disks") (name ∷ []) refl refl (onto (waiting []) (pending [] name) name [] (plain_turn name [] plain) (plain_walk name [] plain) (at_end _ refl)))
kept_first false (Folder name) told words w (is, inr p) = rw (w, p) (onto start (kept name) (codes "--disks=" ++ name) [] refl refl (at_end _ refl))
kept_first true (Folder name) told words w (is, inl p) =
    let plain = name_is_plain rules name is in
    rw (w, p) (onto start (waiting []) (codes "--disks") (name ∷ codes "--wire" ∷ []) refl refl (onto (waiting []) (pending [] name) name (codes "--wire" ∷ []) (plain_turn name [] plain) (plain_walk name [] plain)
    (onto (pending [] name) (kept_wired name) (codes "--wire") [] refl refl (at_end _ refl))))
kept_first true (Folder name) told words w (is, inr p) =
    rw (w, p) (onto start (kept name) (codes "--disks=" ++ name) (codes "--wire" ∷ []) refl refl (onto (kept name) (kept_wired name) (codes "--wire") [] refl refl (at_end _ refl)))

pub takes : (wire : Bool) (place : Place) (words : List Text) → AreOptions wire place words → Passes start words
takes wire place words o = either o.order where
  either : (words ≡ o.told ++ o.kept) ⊎ (words ≡ o.kept ++ o.told) → Passes start words
  either (inl is) = rw (is) (told_first wire place o.told o.kept o.is_wire o.is_place)
  either (inr is) = rw (is) (kept_first wire place o.told o.kept o.is_wire o.is_place)

-- ---- and none of them is `--`

wire_lacks : (told : Bool) (words : List Text) → IsWire told words → NoDashes words
wire_lacks false words w = rw (w) refl
wire_lacks true words w = rw (w) refl

place_lacks : (place : Place) (words : List Text) → IsPlace place words → NoDashes words
place_lacks Memory words p = rw (p) refl
place_lacks (Folder name) words (is, inl p) = rw (p, (name_is_plain rules name is).dashes) refl
place_lacks (Folder name) words (is, inr p) = rw (p) refl

wire_before : (told : Bool) (words more : List Text) → IsWire told words → NoDashes more → NoDashes (words ++ more)
wire_before false words more w none = rw (w) none
wire_before true words more w none = rw (w) none

place_before : (place : Place) (words more : List Text) → IsPlace place words → NoDashes more → NoDashes (words ++ more)
place_before Memory words more p none = rw (p) none
place_before (Folder name) words more (is, inl p) none = rw (p, (name_is_plain rules name is).dashes) none
place_before (Folder name) words more (is, inr p) none = rw (p) none

pub lacks : (wire : Bool) (place : Place) (words : List Text) → AreOptions wire place words → NoDashes words
lacks wire place words o = either o.order where
  either : (words ≡ o.told ++ o.kept) ⊎ (words ≡ o.kept ++ o.told) → NoDashes words
  either (inl is) = rw (is) (wire_before wire o.told o.kept o.is_wire (place_lacks place o.kept o.is_place))
  either (inr is) = rw (is) (place_before place o.kept o.told o.is_place (wire_lacks wire o.told o.is_wire))
