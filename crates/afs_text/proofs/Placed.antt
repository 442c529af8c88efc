-- Texts that are laid among bytes one behind another.
use Rattle.std.proofs.Common.{◌≡◌, ℕ, ◌+◌, ◌*◌, ◌/◌, ◌%◌, ◌<◌, ◌≤◌, Bool, true, false, if◌then◌else◌, List, [], ◌∷◌, ◌++◌, length, take, get_or, refl, ap, sym, ◌∙◌, subst, arith, append_assoc, append-nil, length-append, slice_set, take-take}
use Rattle.std.proofs.Math.Seq.{take-append_seam}
use Rattle.std.specs.List.{flat_map}
use Rattle.std.proofs.lemmas.Grind.{flat_map-append}
use Rattle.std.proofs.lemmas.List.{take_more, take_more_set, length-set, length-take-le}
use Rattle.std.specs.Fmt.{digit_glyph}
use Rattle.spec_model.specs.LineText.{is_plain, name_byte}
use Rattle.afs_text.specs.Laying.{LaysAt}

-- the same text, by other words
pub placed_as : (x y : List ℕ) (at : ℕ) (old new : List ℕ) (end : ℕ) → x ≡ y → LaysAt x at old new end → LaysAt y at old new end
placed_as x y at old new end same p = subst (λ (t : List ℕ). LaysAt t at old new end) same p

-- one byte
pub placed_one : (bytes : List ℕ) (at x behind : ℕ) → at < length bytes → behind ≡ at + 1 → LaysAt (x ∷ []) at bytes (slice_set bytes at x) behind
placed_one bytes at x behind within is = record {
  laid = ap (λ k. take k (slice_set bytes at x)) is ∙ take_more_set bytes at x within;
  end = is;
  room = length-set bytes at x;
}

-- one text, and another behind it
pub placed_both : (x y : List ℕ) (at mid end : ℕ) (old new newer : List ℕ) → LaysAt x at old new mid → LaysAt y mid new newer end → LaysAt (x ++ y) at old newer end
placed_both x y at mid end old new newer p q = record {
  laid = q.laid ∙ ap (λ (l : List ℕ). l ++ y) p.laid ∙ append_assoc (take at old) x y;
  end = omega (arith, p.end, q.end, length-append x y);
  room = q.room ∙ p.room;
}

-- ---- names

name_more : (name : List ℕ) (i d : ℕ) → i < length name → flat_map name_byte (take i name) ++ name_byte (get_or name i d) ≡ flat_map name_byte (take (i + 1) name)
name_more name i d within =
    ap (λ (l : List ℕ). flat_map name_byte (take i name) ++ l) (sym (append-nil (name_byte (get_or name i d))))
    ∙ sym (flat_map-append name_byte (take i name) (get_or name i d ∷ [])) ∙ sym (ap (flat_map name_byte) (take_more name i d within))

-- one byte more of a name was laid
pub placed_more : (name : List ℕ) (i d : ℕ) (at mid behind : ℕ) (old new newer : List ℕ) → i < length name → LaysAt (flat_map name_byte (take i name)) at old new mid
    → LaysAt (name_byte (get_or name i d)) mid new newer behind → LaysAt (flat_map name_byte (take (i + 1) name)) at old newer behind
placed_more name i d at mid behind old new newer within before p =
    placed_as _ _ at old newer behind (name_more name i d within) (placed_both (flat_map name_byte (take i name)) (name_byte (get_or name i d)) at mid behind old new newer before p)

few_if : (p : Bool) (b x y z : ℕ) → length (if p then b ∷ [] else x ∷ y ∷ z ∷ []) ≤ 3
few_if true b x y z = omega arith
few_if false b x y z = omega arith

few_of : (b : ℕ) → length (name_byte b) ≤ 3
few_of b = few_if (is_plain b) b 37 (digit_glyph true (b / 16)) (digit_glyph true (b % 16))

-- it takes no more than three
pub few_more : (name : List ℕ) (i d : ℕ) → i < length name → length (flat_map name_byte (take i name)) ≤ 3 * i → length (flat_map name_byte (take (i + 1) name)) ≤ 3 * (i + 1)
few_more name i d within few =
    omega (arith, few, few_of (get_or name i d), ap length (name_more name i d within), length-append (flat_map name_byte (take i name)) (name_byte (get_or name i d)))

-- of a text that was laid, what stands before the rest was laid
pub placed_part : (x y : List ℕ) (at behind end : ℕ) (old new : List ℕ) → at + length (x ++ y) ≤ length old → end ≡ at + length x → LaysAt (x ++ y) at old new behind → LaysAt x at old new end
placed_part x y at behind end old new room is p =
    let front : length (take at old ++ x) ≡ end = length-append (take at old) x ∙ omega (arith, length-take-le at old (omega (arith, room, length-append x y)), is) in
    let within : end ≤ behind = omega (arith, p.end, is, length-append x y) in
    let laid : take end new ≡ take at old ++ x =
    sym (take-take end behind new within) ∙ ap (λ (l : List ℕ). take end l) (p.laid ∙ sym (append_assoc (take at old) x y))
    ∙ ap (λ k. take k ((take at old ++ x) ++ y)) (sym front) ∙ take-append_seam (take at old ++ x) y in
    record { laid = laid; end = is; room = p.room }
