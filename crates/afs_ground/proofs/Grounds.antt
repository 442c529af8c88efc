-- A ground is told by its counts what the definitions tell of its volumes.
use Rattle.std.proofs.Common.{◌≡◌, ℕ, zero, suc, ◌+◌, ◌<◌, ◌≤◌, Bool, true, false, List, [], ◌∷◌, ◌++◌, length, Option, Some, Result, Ok, Err, get_or, slice_get, slice_set, nat_eq, nat_le, if◌then◌else◌, refl, sym, ap, subst, ◌∙◌, arith}
use Rattle.std.specs.Prelude.{◌&&◌}
use Rattle.std.proofs.lemmas.Option.{slice_get-get_or, slice_get_past}
use Rattle.afs_num.specs.declared.scripts.Reason.{Reason}
use Rattle.afs_num.specs.declared.scripts.Reason.TheVariants as reasons
use Rattle.spec_ideal.specs.SetUp.{empty_volume, filled_by, first_volume, laid, laid_or}
use Rattle.spec_ideal.specs.Volumes.{Volume}
use Rattle.spec_history.specs.declared.scripts.SetupLine.{SetupLine}
use Rattle.spec_history.specs.declared.scripts.VolumeLine.{VolumeLine}
use Rattle.spec_model.specs.ScriptWords.{must}
use Rattle.spec_records.specs.Changes.{record_of_volumes}
use Rattle.spec_records.specs.Durable.{place_length}
use Rattle.afs_volume.specs.Giving.{volume_of}
use Rattle.afs_words.specs.Reads.{Gives}
use Rattle.afs_words.specs.declared.faults.LineFault.{LineFault}
use Rattle.afs_words.specs.declared.faults.LineFault.TheVariants as faults
use Rattle.afs_grammar.specs.Grounds.{IsNext}
use Rattle.afs_grammar.specs.Lines.{fits_all, fits_loc, fits_server, stands_at_server, line_fits, line_fits_in, line_laid, line_laid_in, loc_length, setup_accepts, stored_all, volume_fits, lines_of_server, with_line}
use Rattle.afs_grammar.specs.Sizes.{volume_size, volumes_size, AscendFrom}
use Rattle.afs_grammar.proofs.Sizes.{first_record}
use Rattle.afs_ground.specs.Grounds.{names_size, sizes_at, AreLaid, AreNumbered, IsGround, IsLaid}
use Rattle.afs_ground.specs.declared.laid.Laid.{Laid}

-- ---- one line more in a volume

filled_push : (id : ℕ) (ls : List SetupLine) (x : SetupLine) (v : Volume) → filled_by id (ls ++ x ∷ []) v ≡ laid_or (filled_by id ls v) (laid id x (filled_by id ls v))
filled_push id [] x v = refl
filled_push id (l ∷ ls) x v = filled_push id ls x (laid_or v (laid id l v))

-- what is laid in the volume of a line
pub laid_same : (g : Laid) (x : SetupLine) (l : VolumeLine) → IsLaid g l → laid g.volume.head.id x (volume_of g.volume) ≡ laid l.id x (first_volume l)
laid_same g x l h = ap (λ (n : ℕ). laid n x (volume_of g.volume)) h.id ∙ ap (laid l.id x) h.volume

pub still_laid : (old new : Laid) (x : SetupLine) (l : VolumeLine) → IsLaid old l → new.server ≡ old.server → new.name ≡ old.name → new.volume.head.id ≡ old.volume.head.id
    → laid old.volume.head.id x (volume_of old.volume) ≡ Ok (volume_of new.volume) → new.size ≡ volume_size (volume_of new.volume) → IsLaid new (with_line x l)
still_laid old new x l h server name id is size =
    let now : laid l.id x (first_volume l) ≡ Ok (volume_of new.volume) = sym (laid_same old x l h) ∙ is in
    let volume : volume_of new.volume ≡ first_volume (with_line x l) = sym (filled_push l.id l.lines x (empty_volume l) ∙ ap (laid_or (first_volume l)) now) in
    record { server = server ∙ h.server; id = id ∙ h.id; volume = volume; name = name ∙ h.name; size = size ∙ ap volume_size volume }

-- ---- the volumes

as_many : (gs : List Laid) (ls : List VolumeLine) → AreLaid gs ls → length gs ≡ length ls
as_many [] [] h = refl
as_many [] (l ∷ ls) h = absurd h
as_many (g ∷ gs) [] h = absurd h
as_many (g ∷ gs) (l ∷ ls) h = ap suc (as_many gs ls h.1)

pub laid_push : (gs : List Laid) (ls : List VolumeLine) (g : Laid) (l : VolumeLine) → AreLaid gs ls → IsLaid g l → AreLaid (gs ++ g ∷ []) (ls ++ l ∷ [])
laid_push [] [] g l h one = (one, tt)
laid_push [] (y ∷ ys) g l h one = absurd h
laid_push (x ∷ xs) [] g l h one = absurd h
laid_push (x ∷ xs) (y ∷ ys) g l h one = (h.0, laid_push xs ys g l h.1 one)

numbered_push : (n : ℕ) (ls : List VolumeLine) (l : VolumeLine) → AreNumbered n ls → l.id ≡ n + length ls → AreNumbered n (ls ++ l ∷ [])
numbered_push n [] l h is = (let z : l.id ≡ n = omega (arith, is) in z, tt)
numbered_push n (x ∷ xs) l h is = (h.0, numbered_push (n + 1) xs l h.1 (let z : l.id ≡ n + 1 + length xs = omega (arith, is) in z))

pub ground_push : (gs : List Laid) (ls : List VolumeLine) (g : Laid) (l : VolumeLine) → IsGround gs ls → IsLaid g l → IsNext l ls → IsGround (gs ++ g ∷ []) (ls ++ l ∷ [])
ground_push gs ls g l h one next = record { volumes = laid_push gs ls g l h.volumes one; numbers = numbered_push 536870912 ls l h.numbers next }

-- the volume of a place and its line
abbrev pub At : List VolumeLine → ℕ → Laid → Type 0
At ls place g = (l : VolumeLine) × ((slice_get ls place ≡ Some l) × IsLaid g l)

some_laid : (g h : Laid) → Some g ≡ Some h → g ≡ h
some_laid g h e = cc

found : (gs : List Laid) (ls : List VolumeLine) (place : ℕ) (g : Laid) → AreLaid gs ls → slice_get gs place ≡ Some g → At ls place g
found [] ls place g h is = absurd cc
found (x ∷ gs) [] place g h is = absurd h
found (x ∷ gs) (l ∷ ls) zero g h is = (l, (refl, subst (λ (y : Laid). IsLaid y l) (some_laid x g is) h.0))
found (x ∷ gs) (l ∷ ls) (suc place) g h is = found gs ls place g h.1 is

laid_put : (gs : List Laid) (ls : List VolumeLine) (place : ℕ) (g : Laid) (l : VolumeLine) → AreLaid gs ls → IsLaid g l → AreLaid (slice_set gs place g) (slice_set ls place l)
laid_put [] [] place g l h one = tt
laid_put [] (y ∷ ys) place g l h one = absurd h
laid_put (x ∷ xs) [] place g l h one = absurd h
laid_put (x ∷ xs) (y ∷ ys) zero g l h one = (one, h.1)
laid_put (x ∷ xs) (y ∷ ys) (suc place) g l h one = (h.0, laid_put xs ys place g l h.1 one)

some_volume : (x y : VolumeLine) → Some x ≡ Some y → x ≡ y
some_volume x y e = cc

numbered_put : (n : ℕ) (ls : List VolumeLine) (place : ℕ) (x : SetupLine) (l : VolumeLine) → slice_get ls place ≡ Some l → AreNumbered n ls → AreNumbered n (slice_set ls place (with_line x l))
numbered_put n [] place x l is h = tt
numbered_put n (y ∷ ys) zero x l is h = (subst (λ (z : VolumeLine). z.id ≡ n) (some_volume y l is) h.0, h.1)
numbered_put n (y ∷ ys) (suc place) x l is h = (h.0, numbered_put (n + 1) ys place x l is h.1)

ground_put_by : (gs : List Laid) (ls : List VolumeLine) (place : ℕ) (old new : Laid) (x : SetupLine) (at : At ls place old) → IsGround gs ls → ((l : VolumeLine) → IsLaid old l → IsLaid new (with_line x l)) → IsGround (slice_set gs place new) (line_laid place x ls)
ground_put_by gs ls place old new x at h one =
    subst (IsGround (slice_set gs place new)) (ap (line_laid_in place x ls) (sym at.1.0))
    (record { volumes = laid_put gs ls place new (with_line x at.0) h.volumes (one at.0 at.1.1); numbers = numbered_put 536870912 ls place x at.0 at.1.0 h.numbers })

pub ground_put : (gs : List Laid) (ls : List VolumeLine) (place : ℕ) (old new : Laid) (x : SetupLine) → slice_get gs place ≡ Some old → IsGround gs ls → ((l : VolumeLine) → IsLaid old l → IsLaid new (with_line x l)) → IsGround (slice_set gs place new) (line_laid place x ls)
ground_put gs ls place old new x there h one = ground_put_by gs ls place old new x (found gs ls place old h.volumes there) h one

-- ---- sums

sized_by : (t : Bool) (size sizes : ℕ) (l : VolumeLine) (ls : List VolumeLine) → size ≡ volume_size (first_volume l) → sizes ≡ volumes_size ls → (if t then size else 0) + sizes ≡ volumes_size (if t then l ∷ ls else ls)
sized_by true size sizes l ls one more = omega (arith, one, more)
sized_by false size sizes l ls one more = omega (arith, more)

sizes_are : (server : ℕ) (gs : List Laid) (ls : List VolumeLine) → AreLaid gs ls → sizes_at server gs ≡ volumes_size (lines_of_server server ls)
sizes_are server [] [] h = refl
sizes_are server [] (l ∷ ls) h = absurd h
sizes_are server (g ∷ gs) [] h = absurd h
sizes_are server (g ∷ gs) (l ∷ ls) h =
    ap (λ (s : ℕ). (if nat_eq s server then g.size else 0) + sizes_at server gs) h.0.server
    ∙ sized_by (stands_at_server server l) g.size (sizes_at server gs) l (lines_of_server server ls) h.0.size (sizes_are server gs ls h.1)

names_are : (gs : List Laid) (ls : List VolumeLine) → AreLaid gs ls → 40 + names_size gs ≡ loc_length ls
names_are [] [] h = refl
names_are [] (l ∷ ls) h = absurd h
names_are (g ∷ gs) [] h = absurd h
names_are (g ∷ gs) (l ∷ ls) h = let more = names_are gs ls h.1 in let one = h.0.name in omega (arith, more, one)

ascend_by : (t : Bool) (m : ℕ) (l : VolumeLine) (ls : List VolumeLine) → m ≤ l.id → AscendFrom m ls → AscendFrom (l.id + 1) ls → AscendFrom m (if t then l ∷ ls else ls)
ascend_by true m l ls le low high = (le, high)
ascend_by false m l ls le low high = low

ascend : (m n server : ℕ) (ls : List VolumeLine) → m ≤ n → AreNumbered n ls → AscendFrom m (lines_of_server server ls)
ascend m n server [] le h = tt
ascend m n server (l ∷ ls) le h =
    ascend_by (stands_at_server server l) m l (lines_of_server server ls) (omega (arith, le, h.0)) (ascend m (n + 1) server ls (omega (arith, le)) h.1) (ascend (l.id + 1) (n + 1) server ls (omega (arith, h.0)) h.1)

pub server_fits : (capacity server : ℕ) (gs : List Laid) (ls : List VolumeLine) → IsGround gs ls → nat_le (42 + sizes_at server gs) capacity ≡ fits_server capacity (lines_of_server server ls)
server_fits capacity server gs ls h =
    let sizes = sizes_are server gs ls h.volumes in
    let sum = first_record 536870912 (lines_of_server server ls) (ascend 536870912 536870912 server ls (omega arith) h.numbers) in
    ap (λ (n : ℕ). nat_le n capacity) (let z : 42 + sizes_at server gs ≡ 1 + place_length (record_of_volumes (stored_all (lines_of_server server ls))) = omega (arith, sizes, sum) in z)

loc_fits : (capacity : ℕ) (gs : List Laid) (ls : List VolumeLine) → IsGround gs ls → nat_le (50 + names_size gs) capacity ≡ fits_loc capacity ls
loc_fits capacity gs ls h =
    let names = names_are gs ls h.volumes in
    ap (λ (n : ℕ). nat_le n capacity) (let z : 50 + names_size gs ≡ 1 + loc_length ls + 9 = omega (arith, names) in z)

pub both_fit : (capacity server : ℕ) (gs : List Laid) (ls : List VolumeLine) → IsGround gs ls → (nat_le (42 + sizes_at server gs) capacity && nat_le (50 + names_size gs) capacity) ≡ fits_all capacity server ls
both_fit capacity server gs ls h =
    ap (λ (t : Bool). t && nat_le (50 + names_size gs) capacity) (server_fits capacity server gs ls h)
    ∙ ap (λ (t : Bool). fits_server capacity (lines_of_server server ls) && t) (loc_fits capacity gs ls h)

-- ---- a volume

pub added : (capacity : ℕ) (gs new : List Laid) (ls : List VolumeLine) (g : Laid) (l : VolumeLine) (fits : Bool) → new ≡ gs ++ g ∷ [] → IsGround gs ls → IsLaid g l → IsNext l ls
    → fits ≡ (nat_le (42 + sizes_at l.server new) capacity && nat_le (50 + names_size new) capacity) → volume_fits capacity l ls ≡ must fits reasons.Limit
added capacity gs new ls g l fits is h one next sums =
    let laid : IsGround new (ls ++ l ∷ []) = subst (λ (xs : List Laid). IsGround xs (ls ++ l ∷ [])) (sym is) (ground_push gs ls g l h one next) in
    ap (λ (t : Bool). must t reasons.Limit) (sym (sums ∙ both_fit capacity l.server new (ls ++ l ∷ []) laid))

-- ---- what is answered

pub refused : (given : Result (Unit {0}) Reason) (reason : Reason) (answer : Result (Unit {0}) LineFault) → given ≡ Err reason → answer ≡ Err (faults.Bad reason) → Gives given answer
refused given reason answer is told = subst (Gives given) (sym told) is

pub fault_as : (given : Result (Unit {0}) Reason) (e : LineFault) (answer : Result (Unit {0}) LineFault) → Gives given (Err e) → answer ≡ Err e → Gives given answer
fault_as given e answer is told = subst (Gives given) (sym told) is

-- ---- a line

pub is_there : (gs : List Laid) (place : ℕ) (g : Laid) → place < length gs → g ≡ get_or gs place g → slice_get gs place ≡ Some g
is_there gs place g lt is = slice_get-get_or gs place g lt ∙ ap (λ (y : Laid). Some y) (sym is)

pub same_server : (gs : List Laid) (place : ℕ) (g h : Laid) → slice_get gs place ≡ Some g → slice_get gs place ≡ Some h → g.server ≡ h.server
same_server gs place g h p q = ap (λ (y : Laid). y.server) (some_laid g h (sym p ∙ q))

-- there is no volume of this place
pub none_there : (capacity place : ℕ) (x : SetupLine) (gs : List Laid) (ls : List VolumeLine) → length gs ≤ place → IsGround gs ls → line_fits capacity place x ls ≡ Err reasons.Path
unfolding line_fits
none_there capacity place x gs ls le h =
    let many = as_many gs ls h.volumes in
    ap (line_fits_in capacity place x ls) (slice_get_past ls place (omega (arith, le, many)))

-- the volume of a place refuses the line
refuses_by : (capacity place : ℕ) (x : SetupLine) (ls : List VolumeLine) (l : VolumeLine) (e : LineFault) → Gives (setup_accepts (laid l.id x (first_volume l))) (Err e) → Gives (line_fits_in capacity place x ls (Some l)) (Err e)
refuses_by capacity place x ls l (faults.Bad reason) refused = rw refused refl
refuses_by capacity place x ls l faults.OutOfMemory refused = tt

refuses_at : (capacity place : ℕ) (x : SetupLine) (ls : List VolumeLine) (g : Laid) (e : LineFault) (at : At ls place g) → ((l : VolumeLine) → IsLaid g l → Gives (setup_accepts (laid l.id x (first_volume l))) (Err e)) → Gives (line_fits capacity place x ls) (Err e)
unfolding line_fits
refuses_at capacity place x ls g e at refused =
    subst (λ (o : Option VolumeLine). Gives (line_fits_in capacity place x ls o) (Err e)) (sym at.1.0) (refuses_by capacity place x ls at.0 e (refused at.0 at.1.1))

pub refuses : (capacity place : ℕ) (x : SetupLine) (gs : List Laid) (ls : List VolumeLine) (g : Laid) (e : LineFault) → slice_get gs place ≡ Some g → IsGround gs ls → ((l : VolumeLine) → IsLaid g l → Gives (setup_accepts (laid l.id x (first_volume l))) (Err e)) → Gives (line_fits capacity place x ls) (Err e)
refuses capacity place x gs ls g e there h declines = refuses_at capacity place x ls g e (found gs ls place g h.volumes there) declines

-- the volume of a place takes the line, and the sum decides
takes_by : (capacity place : ℕ) (x : SetupLine) (ls : List VolumeLine) (l : VolumeLine) → setup_accepts (laid l.id x (first_volume l)) ≡ Ok tt
    → line_fits_in capacity place x ls (Some l) ≡ must (fits_server capacity (lines_of_server l.server (slice_set ls place (with_line x l)))) reasons.Limit
takes_by capacity place x ls l accepted = rw accepted refl

takes_at : (capacity place : ℕ) (x : SetupLine) (gs : List Laid) (ls : List VolumeLine) (g : Laid) (at : At ls place g) → IsGround gs (line_laid place x ls) → ((l : VolumeLine) → IsLaid g l → setup_accepts (laid l.id x (first_volume l)) ≡ Ok tt)
    → line_fits capacity place x ls ≡ must (nat_le (42 + sizes_at g.server gs) capacity) reasons.Limit
unfolding line_fits
takes_at capacity place x gs ls g at h accepted =
    let l : VolumeLine = at.0 in
    let put : line_laid place x ls ≡ slice_set ls place (with_line x l) = ap (line_laid_in place x ls) at.1.0 in
    let fits : nat_le (42 + sizes_at g.server gs) capacity ≡ fits_server capacity (lines_of_server l.server (slice_set ls place (with_line x l))) =
    server_fits capacity g.server gs (line_laid place x ls) h ∙ (ap (λ (s : ℕ). fits_server capacity (lines_of_server s (line_laid place x ls))) at.1.1.server ∙ ap (λ (zs : List VolumeLine). fits_server capacity (lines_of_server l.server zs)) put) in
    ap (line_fits_in capacity place x ls) at.1.0 ∙ (takes_by capacity place x ls l (accepted l at.1.1) ∙ ap (λ (t : Bool). must t reasons.Limit) (sym fits))

pub takes : (capacity place : ℕ) (x : SetupLine) (gs : List Laid) (ls : List VolumeLine) (old new : Laid) (server : ℕ) (fits : Bool) → slice_get gs place ≡ Some old → IsGround gs ls → ((l : VolumeLine) → IsLaid old l → IsLaid new (with_line x l))
    → ((l : VolumeLine) → IsLaid old l → setup_accepts (laid l.id x (first_volume l)) ≡ Ok tt) → server ≡ old.server → fits ≡ nat_le (42 + sizes_at server (slice_set gs place new)) capacity → line_fits capacity place x ls ≡ must fits reasons.Limit
takes capacity place x gs ls old new server fits there h one accepted here sum =
    takes_at capacity place x (slice_set gs place new) ls old (found gs ls place old h.volumes there) (ground_put gs ls place old new x there h one) accepted
    ∙ ap (λ (t : Bool). must t reasons.Limit) (sym (sum ∙ ap (λ (s : ℕ). nat_le (42 + sizes_at s (slice_set gs place new)) capacity) here))
