-- Parcels that are read as messages, one behind another.
use Rattle.std.proofs.Common.{◌≡◌, ℕ, zero, suc, ◌+◌, ◌≤◌, List, [], ◌∷◌, ◌++◌, length, take, drop, refl, ap, sym, ◌∙◌, subst, Bool, Option, arith}
use Rattle.std.proofs.lemmas.List.{take-append-drop}
use Rattle.std.proofs.lemmas.Grind.{flat_map-append}
use Rattle.std.specs.List.{flat_map}
use Rattle.afs_num.specs.declared.types.Head.{Head}
use Rattle.afs_num.specs.declared.types.Parcel.{Parcel}
use Rattle.afs_num.specs.declared.messages.Message.{Message}
use Rattle.afs_num.specs.declared.messages.Received.{Received}
use Rattle.afs_num.specs.declared.messages.Received.TheVariants.{Nothing, Unserved, Unreadable, Whole}
use Rattle.spec_model.specs.Messages.{received, spelled, parcels_read, messages_spelled}
use Rattle.spec_model.specs.Telling.{with_received, messages_of, AreRead, code_at}
use Rattle.spec_model.specs.LineText.{hex_byte, hex_text}
use Rattle.spec_model.specs.Text.{sent_text, messages_text}
use Rattle.spec_model.proofs.Texts.{parcel_same, parcels_length}
use Rattle.afs_text.proofs.Laid.{LaysAll}

-- ---- bytes

hex_split : (n : ℕ) (bytes : List ℕ) → hex_text bytes ≡ hex_text (take n bytes) ++ hex_text (drop n bytes)
unfolding hex_text
hex_split n bytes = ap (flat_map hex_byte) (sym (take-append-drop n bytes)) ∙ flat_map-append hex_byte (take n bytes) (drop n bytes)

-- a chunk is the next, and the bytes behind it are left
pub hex_left : (whole start piece : List ℕ) (a b : Option (List ℕ)) (f g n : ℕ) (bytes chunk behind : List ℕ) → chunk ≡ take n bytes → behind ≡ drop n bytes
    → LaysAll (hex_text bytes) whole start piece a b f g → LaysAll (hex_text chunk ++ hex_text behind) whole start piece a b f g
hex_left whole start piece a b f g n bytes chunk behind front back left = rw (front, back) (subst (λ (t : List ℕ). LaysAll t whole start piece a b f g) (hex_split n bytes) left)

pub hex_laid : (whole start piece : List ℕ) (a b : Option (List ℕ)) (f g : ℕ) (bytes : List ℕ) → length bytes ≤ 0 → LaysAll (hex_text bytes) whole start piece a b f g → LaysAll [] whole start piece a b f g
unfolding hex_text
hex_laid whole start piece a b f g [] none left = left
hex_laid whole start piece a b f g (x ∷ xs) none left = absurd (omega (arith, none))

-- ---- parcels

-- a parcel's header, its bytes, and what is read in them
abbrev Seen : Type 0
Seen = Head × List ℕ × Received

head_is : {X : Type 0} (x y : X) (xs ys : List X) → x ∷ xs ≡ y ∷ ys → x ≡ y
head_is x y xs ys e = cc

tail_is : {X : Type 0} (x y : X) (xs ys : List X) → x ∷ xs ≡ y ∷ ys → xs ≡ ys
tail_is x y xs ys e = cc

-- the first parcel is read as a message whose spelling it has, and so are the others
pub record ReadNext (p : Parcel) (ps : List Parcel) : Type 0 where
  pub message : Message
  pub head : p.head ≡ message.head
  pub bytes : p.bytes ≡ spelled message
  pub read : received p.bytes ≡ Whole message
  pub others : AreRead ps

few_received : (r : Received) (ms : List Message) → length (with_received r ms) ≤ length ms + 1
few_received (Whole m) ms = omega (arith)
few_received Nothing ms = omega (arith)
few_received (Unserved h) ms = omega (arith)
few_received (Unreadable h) ms = omega (arith)

few : (ps : List Parcel) → length (messages_of ps) ≤ length ps
few [] = omega (arith)
few (p ∷ ps) = omega (arith, few_received (received p.bytes) (messages_of ps), few ps)

too_few : (p : Parcel) (ps : List Parcel) → parcels_read (p ∷ ps) ≡ messages_spelled (messages_of ps) → ⊥
too_few p ps e = omega (arith, parcels_length (p ∷ ps) (messages_of ps) e, few ps)

next : (p : Parcel) (ps : List Parcel) (r : Received) → received p.bytes ≡ r → parcels_read (p ∷ ps) ≡ messages_spelled (with_received r (messages_of ps)) → ReadNext p ps
next p ps (Whole m) is e =
    let same = head_is _ _ _ _ e in
    record {
      message = m;
      head = ap (λ (x : Seen). x.0) same;
      bytes = ap (λ (x : Seen). x.1) same;
      read = is;
      others = tail_is _ _ _ _ e;
    }
next p ps Nothing is e = absurd (too_few p ps e)
next p ps (Unserved h) is e = absurd (too_few p ps e)
next p ps (Unreadable h) is e = absurd (too_few p ps e)

pub read_next : (p : Parcel) (ps : List Parcel) → AreRead (p ∷ ps) → ReadNext p ps
read_next p ps e = next p ps (received p.bytes) refl e

read_more : (p : Parcel) (m : Message) (ps : List Parcel) → p.head ≡ m.head → p.bytes ≡ spelled m → received p.bytes ≡ Whole m → AreRead ps → AreRead (p ∷ ps)
read_more p m ps head bytes read e =
    ap (λ (h : Head). (h, p.bytes, received p.bytes) ∷ parcels_read ps) head
    ∙ (ap (λ (b : List ℕ). (m.head, b, received p.bytes) ∷ parcels_read ps) bytes
    ∙ (ap (λ (r : Received). (m.head, spelled m, r) ∷ parcels_read ps) read
    ∙ (ap (λ (t : List Seen). (m.head, spelled m, Whole m) ∷ t) e ∙ ap (λ (r : Received). messages_spelled (with_received r (messages_of ps))) (sym read))))

pub read_take : (n : ℕ) (ps : List Parcel) → AreRead ps → AreRead (take n ps) × AreRead (drop n ps)
read_take zero ps e = (refl, e)
read_take (suc n) [] e = (refl, refl)
read_take (suc n) (p ∷ ps) e =
    let first = read_next p ps e in
    let more = read_take n ps first.others in
    (read_more p first.message (take n ps) first.head first.bytes first.read more.0, more.1)

-- the line of the first parcel, and those of the others
pub messages_next : (wire : Bool) (place : ℕ) (p : Parcel) (ps : List Parcel) → AreRead (p ∷ ps)
    → messages_text wire place (messages_of (p ∷ ps)) ≡ sent_text wire place p.head (code_at p.bytes) p.bytes ++ messages_text wire (place + 1) (messages_of ps)
messages_next wire place p ps e =
    let first = read_next p ps e in
    ap (λ (r : Received). messages_text wire place (with_received r (messages_of ps))) first.read
    ∙ ap (λ (t : List ℕ). t ++ messages_text wire (place + 1) (messages_of ps)) (sym (parcel_same wire place p first.message first.head first.bytes first.read))
