-- What an act needs, by the volumes that it names: of these it asks, and an operand whose volume it doesn't know it looks up first.
use Rattle.spec_history.specs.declared.acts.Act.{Act}
use Rattle.spec_history.specs.declared.acts.Act.TheVariants as acts
use Rattle.spec_history.specs.declared.acts.Operand.{Operand}
use Rattle.spec_history.specs.declared.acts.Operand.TheVariants as operands
use Rattle.spec_history.specs.declared.acts.Path.{Path}
use Rattle.spec_ideal.specs.Operations.{volume_called}
use Rattle.law_legal.proofs.BaseLaws.{some_of}
use Rattle.afs_num.specs.declared.calls.FsCall.TheVariants as calls
use Rattle.afs_num.specs.declared.directories.Name.{Name}
use Rattle.afs_num.specs.declared.histories.Body.{Body}
use Rattle.afs_num.specs.declared.histories.Body.TheVariants as bodies
use Rattle.afs_num.specs.declared.histories.ReadStatus.{ReadStatus}
use Rattle.afs_num.specs.declared.types.Fid.{Fid}
use Rattle.spec_rows.specs.Going.{Going, Homes, Need, Parted, ReadShown, TakenRead, act_needs, answers, asks_for, at_parent, by_body, by_kind, by_statuses, by_status, fid_of, first_body, first_status, gives_back, has_rights, homes_of, in_directory, in_home, is_even, is_last_name, is_root_path, locates, looked_up, named_first, next, of_one, parted, reading, reading_rights, reading_status, reading_statuses, reads, reads_rights, reads_status, reads_statuses, root_of, shows, statuses_in, step_to, to_object, to_parent, volume_at, walk}
use Rattle.spec_rows.specs.States.{Location}
use Rattle.std.proofs.Common.{◌⊎◌, inl, inr, ◌≡◌, ℕ, Bool, true, false, cond, List, [], ◌∷◌, map, Option, Some, None, refl, sym, subst, nat_eq, not}
use Rattle.std.specs.Prelude.{⊤, ◌&&◌, ◌||◌}

-- ---- what an act needs is of volumes that it names, and the statuses that it needs at once are of one

-- what is to hold of each volume that is asked for, of each operand that is looked up first, and where promises are given back
pub record Wants : Type 1 where
  pub volume : ℕ → Type 0
  pub unknown : Operand → Type 0
  pub gives : Type 0

-- where this is the volume of the operand, it is such a one, and of a fid its own is; and where there is none, that holds of the operand
abbrev pub IsHomeOf : Wants → Option ℕ → Operand → Type 0
IsHomeOf W home (operands.Fid f) = ((id : ℕ) → home ≡ Some id → W.volume f.volume) × (home ≡ None → W.unknown (operands.Fid f))
IsHomeOf W home (operands.Path p) = ((id : ℕ) → home ≡ Some id → W.volume id) × (home ≡ None → W.unknown (operands.Path p))

abbrev pub AreHomesOf : Wants → Homes → Act → Type 0
AreHomesOf W h (acts.Open o) = IsHomeOf W h.first o
AreHomesOf W h (acts.ListNames o) = IsHomeOf W h.first o
AreHomesOf W h (acts.ReadLink o) = IsHomeOf W h.first o
AreHomesOf W h (acts.Stat o) = IsHomeOf W h.first o
AreHomesOf W h (acts.StatAll o) = IsHomeOf W h.first o
AreHomesOf W h (acts.Close o contents) = IsHomeOf W h.first o
AreHomesOf W h (acts.Make p) = IsHomeOf W h.first (operands.Path p)
AreHomesOf W h (acts.MakeDirectory p) = IsHomeOf W h.first (operands.Path p)
AreHomesOf W h (acts.Remove p) = IsHomeOf W h.first (operands.Path p)
AreHomesOf W h (acts.RemoveDirectory p) = IsHomeOf W h.first (operands.Path p)
AreHomesOf W h (acts.Move p q) = IsHomeOf W h.first (operands.Path p) × IsHomeOf W h.second (operands.Path q)
AreHomesOf W h (acts.Link p q) = IsHomeOf W h.first (operands.Path p) × IsHomeOf W h.second (operands.Path q)
AreHomesOf W h (acts.Symlink p target) = IsHomeOf W h.first (operands.Path p)
AreHomesOf W h (acts.SetMode o mode) = IsHomeOf W h.first o
AreHomesOf W h (acts.SetAccessList o text) = IsHomeOf W h.first o
AreHomesOf W h (acts.GetAccessList o) = IsHomeOf W h.first o
AreHomesOf W h acts.GiveUp = ⊤

abbrev pub AreIn : ℕ → List Fid → Type 0
AreIn v [] = ⊤
AreIn v (f ∷ fs) = (f.volume ≡ v) × AreIn v fs

abbrev pub IsOf : Wants → Need → Type 0
IsOf W (reads f) = W.volume f.volume
IsOf W (reads_status f) = W.volume f.volume
IsOf W (reads_statuses fids) = (v : ℕ) × (W.volume v × AreIn v fids)
IsOf W (reads_rights f) = W.volume f.volume
IsOf W (asks_for call) = (id : ℕ) → volume_called call ≡ Some id → W.volume id
IsOf W gives_back = W.gives
IsOf W (locates o) = W.unknown o
IsOf W need = ⊤

all_named : (v : ℕ) (ns : List Name) → AreIn v (map (fid_of v) ns)
all_named v [] = tt
all_named v (n ∷ ns) = (refl, all_named v ns)

if_of : (W : Wants) (t : Bool) (a b : Need) → IsOf W a → IsOf W b → IsOf W (cond t a b)
if_of W true a b h k = h
if_of W false a b h k = k

body_of : (W : Wants) (f : Fid) (more : Body → List ReadShown → Need) (o : Option (TakenRead Body)) → W.volume f.volume → ((b : Body) (rest : List ReadShown) → IsOf W (more b rest)) → IsOf W (by_body f more o)
body_of W f more None k w = k
body_of W f more (Some t) k w = w t.found t.rest

reading_of : (W : Wants) (f : Fid) (rs : List ReadShown) (more : Body → List ReadShown → Need) → W.volume f.volume → ((b : Body) (rest : List ReadShown) → IsOf W (more b rest)) → IsOf W (reading f rs more)
reading_of W f rs more k w = body_of W f more (first_body f rs) k w

step_of : (W : Wants) (inner : Bool) (more : Fid → Need) (volume : ℕ) (o : Option (Option Name)) → W.volume volume → ((f : Fid) → W.volume f.volume → IsOf W (more f)) → IsOf W (step_to inner more volume o)
step_of W inner more volume None k w = tt
step_of W inner more volume (Some None) k w = tt
step_of W inner more volume (Some (Some n)) k w = if_of W (inner && is_even n.vnode) (answers 20) (more (fid_of volume n)) tt (w (fid_of volume n) k)

abbrev Objects : Wants → (Fid → List ReadShown → Need) → Type 0
Objects W more = (f : Fid) (rest : List ReadShown) → W.volume f.volume → IsOf W (more f rest)

walk_of : (W : Wants) (all : Bool) (more : Fid → List ReadShown → Need) (names : List (List ℕ)) (rs : List ReadShown) (d : Fid) → W.volume d.volume → Objects W more → IsOf W (walk all more names rs d)
walk_of W all more [] rs d k w = w d rs k
walk_of W all more (name ∷ names) rs d k w =
    reading_of W d rs (λ b rest. step_to (all || not (is_last_name names)) (walk all more names rest) d.volume (looked_up name b)) k
    (λ b rest. step_of W (all || not (is_last_name names)) (walk all more names rest) d.volume (looked_up name b) k (λ f h. walk_of W all more names rest f h w))

home_of : (W : Wants) (o : Operand) (home : Option ℕ) (more : ℕ → Need) → (home ≡ None → W.unknown o) → ((id : ℕ) → home ≡ Some id → IsOf W (more id)) → IsOf W (in_home o home more)
home_of W o None more u w = u refl
home_of W o (Some id) more u w = w id refl

object_of : (W : Wants) (home : Option ℕ) (o : Operand) (rs : List ReadShown) (more : Fid → List ReadShown → Need) → IsHomeOf W home o → Objects W more → IsOf W (to_object home o rs more)
object_of W home (operands.Fid f) rs more h w = home_of W (operands.Fid f) home (λ id. more f rs) h.1 (λ id e. w f rs (h.0 id e))
object_of W home (operands.Path p) rs more h w = home_of W (operands.Path p) home (λ id. walk false more p.names rs (root_of id)) h.1 (λ id e. walk_of W false more p.names rs (root_of id) (h.0 id e) w)

directory_of : (W : Wants) (need : Need) (b : Body) → IsOf W need → IsOf W (in_directory need b)
directory_of W need (bodies.Dir names) h = h
directory_of W need b h = tt

abbrev Parents : Wants → (Fid → List ℕ → List ReadShown → Need) → Type 0
Parents W more = (d : Fid) (name : List ℕ) (rest : List ReadShown) → W.volume d.volume → IsOf W (more d name rest)

parent_of : (W : Wants) (a : Operand) (home : Option ℕ) (rs : List ReadShown) (more : Fid → List ℕ → List ReadShown → Need) (o : Option Parted) → (home ≡ None → W.unknown a) → ((id : ℕ) → home ≡ Some id → W.volume id) → Parents W more → IsOf W (at_parent a home rs more o)
parent_of W a home rs more None u h w = tt
parent_of W a home rs more (Some p) u h w =
    home_of W a home (λ id. walk true (λ d rest. reading d rest (λ b later. in_directory (more d p.last later) b)) p.front rs (root_of id)) u
    (λ id e. walk_of W true (λ d rest. reading d rest (λ b later. in_directory (more d p.last later) b)) p.front rs (root_of id) (h id e)
    (λ d rest k. reading_of W d rest (λ b later. in_directory (more d p.last later) b) k (λ b later. directory_of W (more d p.last later) b (w d p.last later k))))

to_of : (W : Wants) (home : Option ℕ) (p : Path) (rs : List ReadShown) (more : Fid → List ℕ → List ReadShown → Need) → IsHomeOf W home (operands.Path p) → Parents W more → IsOf W (to_parent home p rs more)
to_of W home p rs more h w = parent_of W (operands.Path p) home rs more (parted p.names) h.1 h.0 w

kind_of : (W : Wants) (file directory link : ℕ) (b : Body) → IsOf W (by_kind file directory link b)
kind_of W file directory link (bodies.File bytes) = tt
kind_of W file directory link (bodies.Dir names) = tt
kind_of W file directory link b = tt

shows_of : (W : Wants) (file directory link : ℕ) (home : Option ℕ) (o : Operand) (rs : List ReadShown) → IsHomeOf W home o → IsOf W (shows file directory link home o rs)
shows_of W file directory link home o rs h =
    object_of W home o rs (λ f rest. reading f rest (λ b later. by_kind file directory link b)) h (λ f rest k. reading_of W f rest (λ b later. by_kind file directory link b) k (λ b later. kind_of W file directory link b))

statuses_by_of : (W : Wants) (all : List Fid) (more : List ReadShown → Need) (o : Option (TakenRead ReadStatus)) → (v : ℕ) → W.volume v → AreIn v all → ((rest : List ReadShown) → IsOf W (more rest)) → IsOf W (by_statuses all more o)
statuses_by_of W all more None v k h w = (v, (k, h))
statuses_by_of W all more (Some t) v k h w = w t.rest

statuses_of : (W : Wants) (v : ℕ) (all fs : List Fid) (rs : List ReadShown) → W.volume v → AreIn v all → IsOf W (reading_statuses all fs rs)
statuses_of W v all [] rs k h = tt
statuses_of W v all (f ∷ fs) rs k h = statuses_by_of W all (reading_statuses all fs) (first_status f rs) v k h (λ rest. statuses_of W v all fs rest k h)

shown_of : (W : Wants) (volume : ℕ) (rs : List ReadShown) (b : Body) → W.volume volume → IsOf W (statuses_in volume rs b)
shown_of W volume rs (bodies.Dir names) k = statuses_of W volume (named_first volume names) (named_first volume names) rs k (all_named volume _)
shown_of W volume rs b k = tt

status_of : (W : Wants) (f : Fid) (o : Option (TakenRead ReadStatus)) → W.volume f.volume → IsOf W (by_status f o)
status_of W f None k = k
status_of W f (Some t) k = tt

volume_of : (W : Wants) (f g : Fid) (need : Need) → IsOf W need → IsOf W (of_one f g need)
volume_of W f g need h = if_of W (nat_eq f.volume g.volume) need (answers 22) h tt

-- a call is of the volume of its fid
pub call_of : (K : ℕ → Type 0) (v : ℕ) → K v → (id : ℕ) → Some v ≡ Some id → K id
call_of K v k id e = subst K (some_of v id e) k

-- of an act
abbrev pub of_act : (ℕ → Type 0) → (Operand → Type 0) → Act → Wants
of_act K L act = record { volume = K; unknown = L; gives = act ≡ acts.GiveUp }

pub needs_of : (K : ℕ → Type 0) (L : Operand → Type 0) (h : Homes) (act : Act) (rs : List ReadShown) → AreHomesOf (of_act K L act) h act → IsOf (of_act K L act) (act_needs h act rs)
needs_of K L h (acts.Open o) rs k = shows_of (of_act K L (acts.Open o)) 0 21 22 h.first o rs k
needs_of K L h (acts.ListNames o) rs k = shows_of (of_act K L (acts.ListNames o)) 20 0 20 h.first o rs k
needs_of K L h (acts.ReadLink o) rs k = shows_of (of_act K L (acts.ReadLink o)) 22 21 0 h.first o rs k
needs_of K L h (acts.Close o contents) rs k = object_of (of_act K L (acts.Close o contents)) h.first o rs _ k (λ f rest x. call_of K f.volume x)
needs_of K L h (acts.SetMode o mode) rs k = object_of (of_act K L (acts.SetMode o mode)) h.first o rs _ k (λ f rest x. call_of K f.volume x)
needs_of K L h (acts.SetAccessList o text) rs k = object_of (of_act K L (acts.SetAccessList o text)) h.first o rs _ k (λ f rest x. call_of K f.volume x)
needs_of K L h (acts.Make p) rs k = to_of (of_act K L (acts.Make p)) h.first p rs _ k (λ d name rest x. call_of K d.volume x)
needs_of K L h (acts.MakeDirectory p) rs k = to_of (of_act K L (acts.MakeDirectory p)) h.first p rs _ k (λ d name rest x. call_of K d.volume x)
needs_of K L h (acts.Symlink p target) rs k = to_of (of_act K L (acts.Symlink p target)) h.first p rs _ k (λ d name rest x. call_of K d.volume x)
needs_of K L h (acts.Remove p) rs k = to_of (of_act K L (acts.Remove p)) h.first p rs _ k (λ d name rest x. call_of K d.volume x)
needs_of K L h (acts.RemoveDirectory p) rs k = to_of (of_act K L (acts.RemoveDirectory p)) h.first p rs _ k (λ d name rest x. call_of K d.volume x)
needs_of K L h (acts.Move p q) rs k =
    if_of (of_act K L (acts.Move p q)) (is_root_path p || is_root_path q) (answers 22) (to_parent h.first p rs (λ d old rest. to_parent h.second q rest (λ e new later. of_one d e (asks_for (calls.Rename d old e new))))) tt
    (to_of (of_act K L (acts.Move p q)) h.first p rs (λ d old rest. to_parent h.second q rest (λ e new later. of_one d e (asks_for (calls.Rename d old e new)))) k.0
    (λ d old rest x. to_of (of_act K L (acts.Move p q)) h.second q rest (λ e new later. of_one d e (asks_for (calls.Rename d old e new))) k.1 (λ e new later y. volume_of (of_act K L (acts.Move p q)) d e (asks_for (calls.Rename d old e new)) (call_of K d.volume x))))
needs_of K L h (acts.Link p q) rs k =
    if_of (of_act K L (acts.Link p q)) (is_root_path q) (answers 22) (to_object h.first (operands.Path p) rs (λ f rest. to_parent h.second q rest (λ d name later. of_one f d (asks_for (calls.Link d name f))))) tt
    (object_of (of_act K L (acts.Link p q)) h.first (operands.Path p) rs (λ f rest. to_parent h.second q rest (λ d name later. of_one f d (asks_for (calls.Link d name f)))) k.0
    (λ f rest x. to_of (of_act K L (acts.Link p q)) h.second q rest (λ d name later. of_one f d (asks_for (calls.Link d name f))) k.1 (λ d name later y. volume_of (of_act K L (acts.Link p q)) f d (asks_for (calls.Link d name f)) (call_of K d.volume y))))
needs_of K L h (acts.Stat o) rs k = object_of (of_act K L (acts.Stat o)) h.first o rs (λ f rest. reading_status f rest) k (λ f rest x. status_of (of_act K L (acts.Stat o)) f (first_status f rest) x)
needs_of K L h (acts.StatAll o) rs k = object_of (of_act K L (acts.StatAll o)) h.first o rs (λ f rest. reading f rest (λ b later. statuses_in f.volume later b)) k (λ f rest x. reading_of (of_act K L (acts.StatAll o)) f rest (λ b later. statuses_in f.volume later b) x (λ b later. shown_of (of_act K L (acts.StatAll o)) f.volume later b x))
needs_of K L h (acts.GetAccessList o) rs k = object_of (of_act K L (acts.GetAccessList o)) h.first o rs (λ f rest. reading_rights f rest) k (λ f rest x. if_of (of_act K L (acts.GetAccessList o)) (has_rights f rest) (answers 0) (reads_rights f) tt x)
needs_of K L h acts.GiveUp rs k = refl

-- ---- what an act names

-- where it holds of each operand with its number, it holds of an act
pub homes_by : (W : Wants) (t : List Location) (act : Act) → ((o : Operand) → ((homes_of t act).first ≡ volume_at t o) ⊎ ((homes_of t act).second ≡ volume_at t o) → IsHomeOf W (volume_at t o) o) → AreHomesOf W (homes_of t act) act
homes_by W t (acts.Open o) w = w o (inl refl)
homes_by W t (acts.ListNames o) w = w o (inl refl)
homes_by W t (acts.ReadLink o) w = w o (inl refl)
homes_by W t (acts.Stat o) w = w o (inl refl)
homes_by W t (acts.StatAll o) w = w o (inl refl)
homes_by W t (acts.Close o contents) w = w o (inl refl)
homes_by W t (acts.Make p) w = w (operands.Path p) (inl refl)
homes_by W t (acts.MakeDirectory p) w = w (operands.Path p) (inl refl)
homes_by W t (acts.Remove p) w = w (operands.Path p) (inl refl)
homes_by W t (acts.RemoveDirectory p) w = w (operands.Path p) (inl refl)
homes_by W t (acts.Move p q) w = (w (operands.Path p) (inl refl), w (operands.Path q) (inr refl))
homes_by W t (acts.Link p q) w = (w (operands.Path p) (inl refl), w (operands.Path q) (inr refl))
homes_by W t (acts.Symlink p target) w = w (operands.Path p) (inl refl)
homes_by W t (acts.SetMode o mode) w = w o (inl refl)
homes_by W t (acts.SetAccessList o text) w = w o (inl refl)
homes_by W t (acts.GetAccessList o) w = w o (inl refl)
homes_by W t acts.GiveUp w = tt

-- ---- an operand that is looked up first

home_unknown : (t : List Location) (act : Act) (o : Operand) → IsHomeOf (of_act (λ (v : ℕ). ⊤) (λ (a : Operand). volume_at t a ≡ None) act) (volume_at t o) o
home_unknown t act (operands.Fid f) = (λ id e. tt, λ e. e)
home_unknown t act (operands.Path p) = (λ id e. tt, λ e. e)

-- its volume isn't known
pub unlocated : (t : List Location) (g : Going) (o : Operand) → g.homes ≡ homes_of t g.act → next g ≡ locates o → volume_at t o ≡ None
unlocated t g o at e =
    let L : Operand → Type 0 = λ (a : Operand). volume_at t a ≡ None in
    let K : ℕ → Type 0 = λ (v : ℕ). ⊤ in
    subst (IsOf (of_act K L g.act)) e (needs_of K L g.homes g.act g.reads (subst (λ (h : Homes). AreHomesOf (of_act K L g.act) h g.act) (sym at) (homes_by (of_act K L g.act) t g.act (λ a z. home_unknown t g.act a))))
