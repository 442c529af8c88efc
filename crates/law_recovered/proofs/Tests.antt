-- A read-write volume comes to be by a record that makes one, and goes out of service by a record that deletes it or sets its flags.
use Rattle.std.proofs.Common.{◌≡◌, ◌⊎◌, ◌+◌, ◌<◌, inl, inr, ℕ, suc, Bool, true, false, cond, List, [], ◌∷◌, Option, Some, None, is_some, refl, sym, ap, subst, ◌∙◌, arith, eqb-true, eq-eqb}
use Rattle.std.specs.Prelude.{⊤, ◌&&◌, filter, nat_eq, not}
use Rattle.afs_num.specs.declared.records.RecordBody.{RecordBody}
use Rattle.afs_num.specs.declared.records.RecordBody.TheVariants as bodies
use Rattle.spec_ideal.specs.Tables.{get, AscendsFrom, Table}
use Rattle.spec_ideal.specs.Volumes.{has_bit}
use Rattle.spec_ideal.proofs.Tables.{get_below}
use Rattle.spec_records.specs.Durable.{is_flagged, Durable, Stored}
use Rattle.spec_fold.specs.Deeds.{can_take, done_by, has_volume}
use Rattle.spec_rows.specs.ServerRow.{is_unflagged, stored_by, Change}
use Rattle.law_families.proofs.Volumes.{IsFit}
use Rattle.law_places.specs.Accepting.{is_in_service}
use Rattle.law_recovered.specs.Copies.{is_copy}
use Rattle.law_recovered.proofs.Standing.{change_alike, does, number_in, Alike, Does, IsCloned, IsFlagged, Like, Makes}
use Rattle.law_recovered.proofs.Turned.{Turning}

pub both : (b : Bool) → b ≡ false → b ≡ true → ⊥
both b e f = let no : true ≡ false = sym f ∙ e in absurd cc

-- ---- what a start leaves

pub found_behind : {A : Type 0} (p : ℕ × A) (ps : Table A) (n : ℕ) (x : A) (b : Bool) → AscendsFrom (p.0 + 1) ps → nat_eq p.0 n ≡ b → get n ps ≡ Some x → cond b (Some p.1) (get n ps) ≡ Some x
found_behind {A} p ps n x true up same there =
    let here : p.0 ≡ n = eqb-true p.0 n same in
    let below : n < p.0 + 1 = omega (arith, here) in
    let no : None ≡ Some x = sym (get_below (p.0 + 1) n ps below up) ∙ there in absurd cc
found_behind {A} p ps n x false up same there = there

first_or : {A : Type 0} (c : Bool) (y x : A) (o q : Option A) → (o ≡ Some x → q ≡ Some x) → cond c (Some y) o ≡ Some x → cond c (Some y) q ≡ Some x
first_or {A} true y x o q later e = e
first_or {A} false y x o q later e = later e

kept_by : {A : Type 0} (b : Bool) (n : ℕ) (p : ℕ × A) (ps qs : Table A) (x : A) → AscendsFrom (p.0 + 1) ps → (get n qs ≡ Some x → get n ps ≡ Some x) → get n (cond b (p ∷ qs) qs) ≡ Some x → get n (p ∷ ps) ≡ Some x
kept_by {A} true n p ps qs x up later e = first_or (nat_eq p.0 n) p.1 x (get n qs) (get n ps) later e
kept_by {A} false n p ps qs x up later e = found_behind p ps n x (nat_eq p.0 n) up refl (later e)

-- what stands there stood there before
pub kept_found : {A : Type 0} (keep : ℕ × A → Bool) (m n : ℕ) (t : Table A) (x : A) → AscendsFrom m t → get n (filter keep t) ≡ Some x → get n t ≡ Some x
kept_found {A} keep m n [] x up e = e
kept_found {A} keep m n (p ∷ ps) x up e = kept_by (keep p) n p ps (filter keep ps) x up.1 (kept_found keep (p.0 + 1) n ps x up.1) e

-- a volume that isn't to go stays
stays_by : (same keep : Bool) (n : ℕ) (p : ℕ × Stored) (ps qs : Table Stored) (x : Stored) → nat_eq p.0 n ≡ same → is_unflagged p ≡ keep → is_flagged x ≡ false → cond same (Some p.1) (get n ps) ≡ Some x → (get n ps ≡ Some x → get n qs ≡ Some x) → get n (cond keep (p ∷ qs) qs) ≡ Some x
stays_by true true n p ps qs x here keep un e later = ap (λ (b : Bool). cond b (Some p.1) (get n qs)) here ∙ e
stays_by true false n p ps qs x here keep un e later =
    let same : p.1 ≡ x = cc in
    let gone : not (is_flagged x) ≡ false = ap (λ (s : Stored). not (is_flagged s)) (sym same) ∙ keep in
    let no : true ≡ false = sym (ap not un) ∙ gone in absurd cc
stays_by false true n p ps qs x here keep un e later = ap (λ (b : Bool). cond b (Some p.1) (get n qs)) here ∙ later e
stays_by false false n p ps qs x here keep un e later = later e

pub stays : (n : ℕ) (t : Table Stored) (x : Stored) → is_flagged x ≡ false → get n t ≡ Some x → get n (filter is_unflagged t) ≡ Some x
stays n [] x un e = e
stays n (p ∷ ps) x un e = stays_by (nat_eq p.0 n) (is_unflagged p) n p ps (filter is_unflagged ps) x refl refl un e (stays n ps x un)

-- ---- copies

abbrev pub copy_test : ℕ → Option Stored → Bool
copy_test volume o = is_copy o

-- it makes a read-write volume of this number
abbrev pub MakesCopy : Durable → RecordBody → ℕ → Type 0
MakesCopy d (bodies.Create id family name kind flags quota is_new) volume = (id ≡ volume) × (nat_eq kind 0 ≡ true)
MakesCopy d body volume = ⊥

like_copy : (a b : Option Stored) → Like a b → is_copy b ≡ is_copy a
like_copy None None h = refl
like_copy (Some s) (Some x) h = ap (λ (k : ℕ). nat_eq k 0) h.kind
like_copy None (Some x) h = absurd h
like_copy (Some s) None h = absurd h

makes_copy : (body : RecordBody) (d : Durable) (volume : ℕ) (before after : Option Stored) → before ≡ get volume d.volumes → IsFit d body → number_in body ≡ volume → Makes d body before after → is_copy before ≡ false → is_copy after ≡ true → MakesCopy d body volume
makes_copy (bodies.Create id family name kind flags quota is_new) d volume before after is fit same m rests e = (same, sym (ap is_copy m.1) ∙ e)
makes_copy (bodies.Delete id) d volume before after is fit same m rests e = absurd (both (is_copy after) (ap is_copy m) e)
makes_copy (bodies.Clone source id name kind release) d volume before after is fit same m rests e =
    let none : has_volume id d ≡ false = ap (λ (k : ℕ). is_some (get k d.volumes)) same ∙ ap is_some (sym is ∙ m.0) in
    absurd (both (is_copy after) (ap is_copy m.1.is ∙ fit.0 none) e)
makes_copy (bodies.Flags id flags) d volume before after is fit same m rests e = absurd (both (is_copy before) rests (ap is_copy m.was ∙ (sym (ap is_copy m.is) ∙ e)))
makes_copy body d volume before after is fit same m rests e = absurd m

pub copies_turn : Turning copy_test MakesCopy
copies_turn = record {
  changes = λ clock volume c. ap (λ (k : ℕ). nat_eq k 0) (change_alike clock c).kind;
  starts = λ t volume up rests e. starts_by t volume up rests e (get volume (filter is_unflagged t)) refl;
  bodies = λ body d volume can fit rests e. by body d volume fit rests e (does body d volume fit);
}
  where
    starts_by : (t : Table Stored) (volume : ℕ) → AscendsFrom 0 t → is_copy (get volume t) ≡ false → is_copy (get volume (filter is_unflagged t)) ≡ true → (o : Option Stored) → get volume (filter is_unflagged t) ≡ o → ⊥
    starts_by t volume up rests e None is = both (is_copy (get volume (filter is_unflagged t))) (ap is_copy is) e
    starts_by t volume up rests e (Some x) is = both (is_copy (get volume t)) rests (ap is_copy (kept_found is_unflagged 0 volume t x up is) ∙ (sym (ap is_copy is) ∙ e))

    by : (body : RecordBody) (d : Durable) (volume : ℕ) → IsFit d body → is_copy (get volume d.volumes) ≡ false → is_copy (get volume (done_by body d).volumes) ≡ true → Does d body volume (get volume d.volumes) (get volume (done_by body d).volumes) → MakesCopy d body volume
    by body d volume fit rests e (inl x) = makes_copy body d volume (get volume d.volumes) (get volume (done_by body d).volumes) refl fit x.0 x.1 rests e
    by body d volume fit rests e (inr like) = absurd (both (is_copy (get volume d.volumes)) rests (sym (like_copy (get volume d.volumes) (get volume (done_by body d).volumes) like) ∙ e))

-- ---- volumes in service

abbrev pub shut_test : ℕ → Option Stored → Bool
shut_test volume o = not (is_in_service o)

-- it takes the volume of this number out of service
abbrev pub Closes : Durable → RecordBody → ℕ → Type 0
Closes d (bodies.Delete id) volume = id ≡ volume
Closes d (bodies.Flags id flags) volume = (id ≡ volume) × (nat_eq flags 0 ≡ false)
Closes d body volume = ⊥

not_false : (b : Bool) → not b ≡ false → b ≡ true
not_false true e = refl
not_false false e = absurd cc

pub first_of : (a b : Bool) → (a && b) ≡ true → a ≡ true
first_of true b e = refl
first_of false b e = absurd cc

pub second_of : (a b : Bool) → (a && b) ≡ true → b ≡ true
second_of true b e = e
second_of false b e = absurd cc

second_not : (a b : Bool) → a ≡ true → not (a && b) ≡ true → b ≡ false
second_not true true is e = absurd cc
second_not true false is e = refl
second_not false b is e = absurd cc

like_service : (a b : Option Stored) → Like a b → is_in_service b ≡ is_in_service a
like_service None None h = refl
like_service (Some s) (Some x) h = ap (λ (k : ℕ). nat_eq k 0 && nat_eq x.volume.flags 0) h.kind ∙ ap (λ (k : ℕ). nat_eq s.volume.kind 0 && nat_eq k 0) h.flags
like_service None (Some x) h = absurd h
like_service (Some s) None h = absurd h

none_serves : (o : Option Stored) → o ≡ None → is_in_service o ≡ true → ⊥
none_serves o is e = both (is_in_service o) (ap is_in_service is) e

closes : (body : RecordBody) (d : Durable) (volume : ℕ) (before after : Option Stored) → number_in body ≡ volume → Makes d body before after → is_in_service before ≡ true → not (is_in_service after) ≡ true → Closes d body volume
closes (bodies.Create id family name kind flags quota is_new) d volume before after same m serves e = absurd (none_serves before m.0 serves)
closes (bodies.Delete id) d volume before after same m serves e = same
closes (bodies.Clone source id name kind release) d volume before after same m serves e = absurd (none_serves before m.0 serves)
closes (bodies.Flags id flags) d volume before after same m serves e =
    let kind : nat_eq m.s.volume.kind 0 ≡ true = first_of (nat_eq m.s.volume.kind 0) (nat_eq m.s.volume.flags 0) (sym (ap is_in_service m.was) ∙ serves) in
    (same, second_not (nat_eq m.s.volume.kind 0) (nat_eq flags 0) kind (sym (ap (λ (o : Option Stored). not (is_in_service o)) m.is) ∙ e))
closes body d volume before after same m serves e = absurd m

pub services_turn : Turning shut_test Closes
services_turn = record {
  changes = λ clock volume c. ap not (like_service (Some c.before) (Some (stored_by clock c)) (change_alike clock c));
  starts = λ t volume up rests e. starts_by t volume (not_false (is_in_service (get volume t)) rests) e (get volume t) refl;
  bodies = λ body d volume can fit rests e. by body d volume (not_false (is_in_service (get volume d.volumes)) rests) e (does body d volume fit);
}
  where
    starts_by : (t : Table Stored) (volume : ℕ) → is_in_service (get volume t) ≡ true → not (is_in_service (get volume (filter is_unflagged t))) ≡ true → (o : Option Stored) → get volume t ≡ o → ⊥
    starts_by t volume serves e None is = none_serves (get volume t) is serves
    starts_by t volume serves e (Some x) is =
        let flags : x.volume.flags ≡ 0 = eqb-true x.volume.flags 0 (second_of (nat_eq x.volume.kind 0) (nat_eq x.volume.flags 0) (sym (ap is_in_service is) ∙ serves)) in
        let still : get volume (filter is_unflagged t) ≡ Some x = stays volume t x (ap (has_bit 1) flags) is in
        let there : is_in_service (get volume (filter is_unflagged t)) ≡ true = ap is_in_service (still ∙ sym is) ∙ serves in
        both (not (is_in_service (get volume (filter is_unflagged t)))) (ap not there) e

    by : (body : RecordBody) (d : Durable) (volume : ℕ) → is_in_service (get volume d.volumes) ≡ true → not (is_in_service (get volume (done_by body d).volumes)) ≡ true → Does d body volume (get volume d.volumes) (get volume (done_by body d).volumes) → Closes d body volume
    by body d volume serves e (inl x) = closes body d volume (get volume d.volumes) (get volume (done_by body d).volumes) x.0 x.1 serves e
    by body d volume serves e (inr like) =
        absurd (both (not (is_in_service (get volume (done_by body d).volumes))) (ap not (like_service (get volume d.volumes) (get volume (done_by body d).volumes) like ∙ serves)) e)
