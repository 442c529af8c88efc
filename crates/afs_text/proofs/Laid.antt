-- Texts that are laid in a piece one behind another, and put with it.
use Rattle.std.proofs.Common.{◌≡◌, ℕ, ℤ, ◌+◌, ◌<◌, ◌≤◌, Bool, true, false, codes, List, [], ◌∷◌, ◌++◌, length, drop, Option, Result, Ok, Err, refl, ap, sym, ◌∙◌, subst, append_assoc, append-nil, drop_of_length-le}
use Rattle.std.specs.Prelude.{IsErr}
use Rattle.std.specs.Fmt.{decimal}
use Rattle.std.proofs.Math.ListN.{get_or}
use Rattle.std.proofs.lemmas.List.{drop_more}
use Rattle.afs_num.specs.declared.types.Head.{Head}
use Rattle.afs_num.specs.declared.types.Parcel.{Parcel}
use Rattle.afs_outside.specs.Outside.{Puts}
use Rattle.afs_outside.specs.declared.outside.Failed.{Failed}
use Rattle.afs_outside.proofs.Puts.{puts_fail, puts_nothing, puts_stop, puts_then}
use Rattle.spec_model.specs.LineText.{hex_text}
use Rattle.spec_model.specs.Telling.{code_at}
use Rattle.spec_model.specs.Text.{code_text, head_text, sent_text, tail_text}
use Rattle.afs_text.specs.KeptText.{parcels_text}
use Rattle.afs_text.specs.Laying.{Lays}

-- texts one behind another, and then the rest
abbrev pub row : List (List ℕ) → List ℕ → List ℕ
row [] rest = rest
row (t ∷ ts) rest = t ++ row ts rest

-- what stands behind a row stands behind its last text
pub behind_row : (ts : List (List ℕ)) (last rest : List ℕ) → row ts last ++ rest ≡ row ts (last ++ rest)
behind_row [] last rest = refl
behind_row (t ∷ ts) last rest = append_assoc t (row ts last) rest ∙ ap (λ (l : List ℕ). t ++ l) (behind_row ts last rest)

puts_as : {T : Type 0} (x y : List ℕ) (a b : Option (List ℕ)) (f g : ℕ) (r : Result T Failed) → x ≡ y → Puts x a b f g r → Puts y a b f g r
puts_as {T} x y a b f g r e p = subst (λ (t : List ℕ). Puts {T = T} t a b f g r) e p

-- ---- a text behind what the piece holds

-- the same text, by other words
pub lays_as : (x y before after : List ℕ) (a b : Option (List ℕ)) (f g : ℕ) (r : Result (Unit {0}) Failed) → x ≡ y → Lays x before after a b f g r → Lays y before after a b f g r
lays_as x y before after a b f g r e p = subst (λ (t : List ℕ). Lays t before after a b f g r) e p

-- there was room, and the text was laid
pub lays_here : (text before after : List ℕ) (a : Option (List ℕ)) (f : ℕ) (v : Unit {0}) → after ≡ before ++ text → Lays text before after a a f f (Ok v)
lays_here text before after a f v is = ([], is, puts_nothing a f v)

-- the piece was put, and holds nothing
pub lays_nothing : (before after : List ℕ) (a b : Option (List ℕ)) (f g : ℕ) (r : Result (Unit {0}) Failed) → after ≡ [] → Puts before a b f g r → Lays [] before after a b f g r
lays_nothing before after a b f g (Ok v) none p = (before, ap (λ (l : List ℕ). before ++ l) none, p)
lays_nothing before after a b f g (Err e) none p = puts_as before (before ++ []) a b f g (Err e) (sym (append-nil before)) p

-- room was made, and the text was laid
pub laid_behind : (text before between after : List ℕ) (a b : Option (List ℕ)) (f g : ℕ) (u v : Unit {0}) → Lays [] before between a b f g (Ok u) → after ≡ between ++ text → Lays text before after a b f g (Ok v)
laid_behind text before between after a b f g u v made is =
    let all : made.0 ++ after ≡ before ++ text = ap (λ (l : List ℕ). made.0 ++ l) is ∙ sym (append_assoc made.0 between text) ∙ ap (λ (l : List ℕ). l ++ text) (made.1 ∙ append-nil before) in
    (made.0, all, record { whole = made.2.whole; front = tt; cause = record { kept = made.2.cause.kept; cause = tt; quiet = made.2.cause.quiet } })

-- what the piece held couldn't be put
pub laid_stop : (text before after : List ℕ) (a b : Option (List ℕ)) (f g : ℕ) (e : Failed) (r : Result (Unit {0}) Failed) → IsErr r → Puts {T = Unit {0}} before a b f g (Err e) → Lays text before after a b f g r
laid_stop text before after a b f g e (Ok v) failed p = cc
laid_stop text before after a b f g e (Err d) failed p = puts_stop before text a b f g e (Err d) failed p

-- no room could be made
pub laid_nowhere : (text before after : List ℕ) (a b : Option (List ℕ)) (f g : ℕ) (e : Failed) (r : Result (Unit {0}) Failed) → IsErr r → Lays {T = Unit {0}} [] before after a b f g (Err e) → Lays text before after a b f g r
laid_nowhere text before after a b f g e r failed p = laid_stop text before after a b f g e r failed (puts_as {T = Unit {0}} (before ++ []) before a b f g (Err e) (append-nil before) p)

-- what the piece held was put, and then the text
pub laid_at_once : (text before after : List ℕ) (a b c : Option (List ℕ)) (f g h : ℕ) (u : Unit {0}) (r : Result (Unit {0}) Failed) → after ≡ [] → Puts before a b f g (Ok u) → Puts text b c g h r → Lays text before after a c f h r
laid_at_once text before after a b c f g h u (Ok v) none p q =
    (before ++ text, ap (λ (l : List ℕ). (before ++ text) ++ l) none ∙ append-nil (before ++ text), puts_then before text a b c f g h u (Ok v) p q)
laid_at_once text before after a b c f g h u (Err e) none p q = puts_then before text a b c f g h u (Err e) p q

-- ---- one text behind another

-- the first text failed
pub lays_stop : (x y before after : List ℕ) (a b : Option (List ℕ)) (f g : ℕ) (e : Failed) (r : Result (Unit {0}) Failed) → IsErr r → Lays {T = Unit {0}} x before before a b f g (Err e) → Lays (x ++ y) before after a b f g r
lays_stop x y before after a b f g e (Ok v) failed p = cc
lays_stop x y before after a b f g e (Err d) failed p =
    puts_as {T = Unit {0}} ((before ++ x) ++ y) (before ++ (x ++ y)) a b f g (Err d) (append_assoc before x y) (puts_stop (before ++ x) y a b f g e (Err d) failed p)

-- the first text was laid, and then what is behind it
pub lays_then : (x y before between after : List ℕ) (a b c : Option (List ℕ)) (f g h : ℕ) (u : Unit {0}) (r : Result (Unit {0}) Failed) → Lays x before between a b f g (Ok u) → Lays y between after b c g h r → Lays (x ++ y) before after a c f h r
lays_then x y before between after a b c f g h u (Ok v) p q =
    let all : (p.0 ++ q.0) ++ after ≡ before ++ (x ++ y) = append_assoc p.0 q.0 after ∙ ap (λ (l : List ℕ). p.0 ++ l) q.1 ∙ sym (append_assoc p.0 between y) ∙ ap (λ (l : List ℕ). l ++ y) p.1 ∙ append_assoc before x y in
    (p.0 ++ q.0, all, puts_then p.0 q.0 a b c f g h u (Ok v) p.2 q.2)
lays_then x y before between after a b c f g h u (Err e) p q =
    let all : p.0 ++ (between ++ y) ≡ before ++ (x ++ y) = sym (append_assoc p.0 between y) ∙ ap (λ (l : List ℕ). l ++ y) p.1 ∙ append_assoc before x y in
    puts_as {T = Unit {0}} (p.0 ++ (between ++ y)) (before ++ (x ++ y)) a c f h (Err e) all (puts_then p.0 (between ++ y) a b c f g h u (Err e) p.2 q)

-- ---- at the end

-- the text was laid in an empty piece, which was then put
pub lays_put : (x start piece seen : List ℕ) (a b c : Option (List ℕ)) (f g h : ℕ) (u : Unit {0}) (r : Result (Unit {0}) Failed) → start ≡ [] → seen ≡ piece → Lays x start piece a b f g (Ok u) → Puts seen b c g h r → Puts x a c f h r
lays_put x start piece seen a b c f g h u r none same p q =
    let all : p.0 ++ seen ≡ x = ap (λ (l : List ℕ). p.0 ++ l) same ∙ p.1 ∙ ap (λ (l : List ℕ). l ++ x) none in
    puts_as (p.0 ++ seen) x a c f h r all (puts_then p.0 seen a b c f g h u r p.2 q)

-- it couldn't be laid
pub lays_put_stop : (x start : List ℕ) (a b : Option (List ℕ)) (f g : ℕ) (e : Failed) (r : Result (Unit {0}) Failed) → start ≡ [] → IsErr r → Lays {T = Unit {0}} x start start a b f g (Err e) → Puts x a b f g r
lays_put_stop x start a b f g e r none failed p = puts_fail x a b f g e r failed (puts_as {T = Unit {0}} (start ++ x) x a b f g (Err e) (ap (λ (l : List ℕ). l ++ x) none) p)

-- ---- in a loop

-- so far as the text was laid, laying the rest of it lays the whole
pub record LaysAll (rest whole start piece : List ℕ) (a b : Option (List ℕ)) (f g : ℕ) : Type 0 where
  pub goes : (after : List ℕ) (c : Option (List ℕ)) (h : ℕ) (r : Result (Unit {0}) Failed) → Lays rest piece after b c g h r → Lays whole start after a c f h r

-- at the beginning all is left
pub lays_itself : (whole piece : List ℕ) (a : Option (List ℕ)) (f : ℕ) → LaysAll whole whole piece piece a a f f
lays_itself whole piece a f = record { goes = λ after c h r p. p }

pub lays_from : (rest whole piece : List ℕ) (a : Option (List ℕ)) (f : ℕ) → rest ≡ whole → LaysAll rest whole piece piece a a f f
lays_from rest whole piece a f same = subst (λ (t : List ℕ). LaysAll t whole piece piece a a f f) (sym same) (lays_itself whole piece a f)

-- the next text was laid
pub lays_more : (x rest whole start piece between : List ℕ) (a b c : Option (List ℕ)) (f g h : ℕ) (u : Unit {0}) → LaysAll (x ++ rest) whole start piece a b f g → Lays x piece between b c g h (Ok u) → LaysAll rest whole start between a c f h
lays_more x rest whole start piece between a b c f g h u left p = record { goes = λ after new k r q. left.goes after new k r (lays_then x rest piece between after b c new g h k u r p q) }

-- the next text failed
pub lays_no_more : (x rest whole start piece after : List ℕ) (a b c : Option (List ℕ)) (f g h : ℕ) (e : Failed) (r : Result (Unit {0}) Failed) → LaysAll (x ++ rest) whole start piece a b f g → IsErr r → Lays {T = Unit {0}} x piece piece b c g h (Err e) → Lays whole start after a c f h r
lays_no_more x rest whole start piece after a b c f g h e r left failed p = left.goes after c h r (lays_stop x rest piece after b c g h e r failed p)

-- nothing is left
pub lays_end : (whole start piece : List ℕ) (a b : Option (List ℕ)) (f g : ℕ) (u : Unit {0}) → LaysAll [] whole start piece a b f g → Lays whole start piece a b f g (Ok u)
lays_end whole start piece a b f g u left = left.goes piece b g (Ok u) (lays_here [] piece piece b g u (sym (append-nil piece)))

-- the item that is at hand is the next, and the others are behind it
pub lays_item : {X : Type 0} (F : List X → List ℕ) (whole start piece : List ℕ) (a b : Option (List ℕ)) (f g : ℕ) (xs : List X) (i : ℕ) (d x : X) → i < length xs → x ≡ get_or xs i d
    → LaysAll (F (drop i xs)) whole start piece a b f g → LaysAll (F (x ∷ drop (i + 1) xs)) whole start piece a b f g
lays_item {X = X} F whole start piece a b f g xs i d x within is left =
    subst (λ (ys : List X). LaysAll (F ys) whole start piece a b f g) (drop_more xs i d within ∙ ap (λ (y : X). y ∷ drop (i + 1) xs) (sym is)) left

-- all items were laid
pub lays_last : {X : Type 0} (F : List X → List ℕ) (whole start piece : List ℕ) (a b : Option (List ℕ)) (f g : ℕ) (xs : List X) (i : ℕ) → length xs ≤ i
    → LaysAll (F (drop i xs)) whole start piece a b f g → LaysAll (F []) whole start piece a b f g
lays_last {X = X} F whole start piece a b f g xs i all left =
    subst (λ (ys : List X). LaysAll (F ys) whole start piece a b f g) (drop_of_length-le xs all) left

-- ---- the line of a message

-- the line, with the bytes that were asked for
pub sent_with_bytes : (wire : Bool) (place : ℕ) (h : Head) (code : ℤ) (bytes : List ℕ) → wire ≡ true
    → row (codes "sent " ∷ decimal place ∷ codes " " ∷ head_text h ∷ code_text h.half code ∷ []) (codes " ") ++ (hex_text bytes ++ codes "\n") ≡ sent_text wire place h code bytes
unfolding sent_text tail_text
sent_with_bytes true place h code bytes asked = behind_row (codes "sent " ∷ decimal place ∷ codes " " ∷ head_text h ∷ code_text h.half code ∷ []) (codes " ") (hex_text bytes ++ codes "\n")
sent_with_bytes false place h code bytes asked = cc

-- the first parcel is at hand, and the others are behind it
pub parcels_left : (wire : Bool) (place after : ℕ) (whole start piece : List ℕ) (a b : Option (List ℕ)) (f g : ℕ) (ps : List Parcel) (i : ℕ) (d p : Parcel) → after ≡ place + 1 → i < length ps → p ≡ get_or ps i d
    → LaysAll (parcels_text wire place (drop i ps)) whole start piece a b f g → LaysAll (sent_text wire place p.head (code_at p.bytes) p.bytes ++ parcels_text wire after (drop (i + 1) ps)) whole start piece a b f g
parcels_left wire place after whole start piece a b f g ps i d p behind within is left = rw (behind) (lays_item (parcels_text wire place) whole start piece a b f g ps i d p within is left)
