-- What an act needs behind one more read.
use Rattle.afs_num.specs.declared.calls.FsCall.{FsCall}
use Rattle.law_legal.specs.Legal.{as_asked}
use Rattle.spec_rows.specs.States.{Gift}
use Rattle.spec_rows.specs.ClientRow.{call_by}
use Rattle.std.proofs.Common.{◌≡◌, ℕ, Bool, true, false, cond, List, [], ◌∷◌, ◌++◌, Option, Some, None, nat_eq, refl, sym, ap, subst, ◌∙◌}
use Rattle.std.specs.Prelude.{◌&&◌, ◌||◌, ⊤, not}
use Rattle.spec_ideal.specs.Operations.{volume_changed}
use Rattle.spec_history.specs.declared.acts.Act.{Act}
use Rattle.spec_history.specs.declared.acts.Act.TheVariants as acts
use Rattle.spec_history.specs.declared.acts.Operand.{Operand}
use Rattle.spec_history.specs.declared.acts.Operand.TheVariants as operands
use Rattle.spec_history.specs.declared.acts.Path.{Path}
use Rattle.afs_num.specs.Fids.{same_fid}
use Rattle.afs_num.specs.declared.calls.FsCall.TheVariants as calls
use Rattle.afs_num.specs.declared.directories.Name.{Name}
use Rattle.afs_num.specs.declared.histories.Body.{Body}
use Rattle.afs_num.specs.declared.histories.Body.TheVariants as bodies
use Rattle.afs_num.specs.declared.histories.ReadBody.{ReadBody}
use Rattle.afs_num.specs.declared.histories.ReadBody.TheVariants as seen
use Rattle.afs_num.specs.declared.types.Fid.{Fid}
use Rattle.law_legal.proofs.BaseLaws.{same_fid-refl}
use Rattle.spec_rows.specs.Going.{by_statuses, reading_statuses, statuses_in, named_first, call_for, Need, reads, reads_status, reads_statuses, reads_rights, asks_for, gives_back, locates, answers, ReadShown, TakenRead, Going, Homes, Parted, act_needs, next, with_read, first_body, taken_body, by_body, reading, by_status, first_status, reading_rights, has_rights, has_rights_by, walk, step_to, looked_up, fid_of, root_of, is_last_name, is_even, to_object, to_parent, at_parent, parted, in_home, in_directory, by_kind, of_one, is_root_path, asked}

-- the text of rights that were read of this fid
abbrev pub got : Fid → List ℕ → ReadShown
got g text = record { fid = g; body = seen.AccessList text }

-- what asks for the rights of this fid is answered once they are read, and what asks for a call asks for a change
abbrev pub Ends : Fid → Need → Need → Type 0
Ends g (reads_rights f) later = f ≡ g → later ≡ answers 0
Ends g (asks_for call) later = volume_changed call ≡ None → ⊥
Ends g need later = ⊤

no_body : (b : Bool) (text : List ℕ) (rest : List ReadShown) (later : Option (TakenRead Body)) → taken_body b (seen.AccessList text) rest later ≡ later
no_body true text rest later = refl
no_body false text rest later = refl

abbrev with_rest : ReadShown → Option (TakenRead Body) → Option (TakenRead Body)
with_rest x None = None
with_rest x (Some t) = Some (record { found = t.found; rest = t.rest ++ x ∷ [] })

more_by : (b : Bool) (y : ReadBody) (x : ReadShown) (rs : List ReadShown) (later : Option (TakenRead Body)) → taken_body b y (rs ++ x ∷ []) (with_rest x later) ≡ with_rest x (taken_body b y rs later)
more_by true (seen.Contents body) x rs later = refl
more_by true (seen.Status status) x rs later = refl
more_by true (seen.AccessList text) x rs later = refl
more_by false y x rs later = refl

first_more : (f g : Fid) (text : List ℕ) (rs : List ReadShown) → first_body f (rs ++ got g text ∷ []) ≡ with_rest (got g text) (first_body f rs)
first_more f g text [] = no_body (same_fid g f) text [] None
first_more f g text (r ∷ rs) = ap (taken_body (same_fid r.fid f) r.body (rs ++ got g text ∷ [])) (first_more f g text rs) ∙ more_by (same_fid r.fid f) r.body (got g text) rs (first_body f rs)

-- a body that is read on the way
reading_by : (g f : Fid) (text : List ℕ) (o : Option (TakenRead Body)) (more : Body → List ReadShown → Need) → ((b : Body) (rest : List ReadShown) → Ends g (more b rest) (more b (rest ++ got g text ∷ []))) → Ends g (by_body f more o) (by_body f more (with_rest (got g text) o))
reading_by g f text None more w = tt
reading_by g f text (Some t) more w = w t.found t.rest

reading_ends : (g f : Fid) (text : List ℕ) (rs : List ReadShown) (more : Body → List ReadShown → Need) → ((b : Body) (rest : List ReadShown) → Ends g (more b rest) (more b (rest ++ got g text ∷ []))) → Ends g (reading f rs more) (reading f (rs ++ got g text ∷ []) more)
reading_ends g f text rs more w = subst (λ (o : Option (TakenRead Body)). Ends g (reading f rs more) (by_body f more o)) (sym (first_more f g text rs)) (reading_by g f text (first_body f rs) more w)

step_if : (b : Bool) (g : Fid) (x y : Need) → Ends g x y → Ends g (cond b (answers 20) x) (cond b (answers 20) y)
step_if true g x y h = tt
step_if false g x y h = h

step_ends : (g : Fid) (inner : Bool) (volume : ℕ) (o : Option (Option Name)) (more later : Fid → Need) → ((f : Fid) → Ends g (more f) (later f)) → Ends g (step_to inner more volume o) (step_to inner later volume o)
step_ends g inner volume None more later w = tt
step_ends g inner volume (Some None) more later w = tt
step_ends g inner volume (Some (Some n)) more later w = step_if (inner && is_even n.vnode) g (more (fid_of volume n)) (later (fid_of volume n)) (w (fid_of volume n))

abbrev Walks' : Fid → List ℕ → (Fid → List ReadShown → Need) → Type 0
Walks' g text more = (f : Fid) (rest : List ReadShown) → Ends g (more f rest) (more f (rest ++ got g text ∷ []))

walk_ends : (g : Fid) (text : List ℕ) (all : Bool) (more : Fid → List ReadShown → Need) (names : List (List ℕ)) (rs : List ReadShown) (d : Fid) → Walks' g text more → Ends g (walk all more names rs d) (walk all more names (rs ++ got g text ∷ []) d)
walk_ends g text all more [] rs d w = w d rs
walk_ends g text all more (name ∷ names) rs d w =
    reading_ends g d text rs (λ b rest. step_to (all || not (is_last_name names)) (walk all more names rest) d.volume (looked_up name b))
    (λ b rest. step_ends g (all || not (is_last_name names)) d.volume (looked_up name b) (walk all more names rest) (walk all more names (rest ++ got g text ∷ [])) (λ f. walk_ends g text all more names rest f w))

home_ends : (g : Fid) (o : Operand) (home : Option ℕ) (more later : ℕ → Need) → ((id : ℕ) → Ends g (more id) (later id)) → Ends g (in_home o home more) (in_home o home later)
home_ends g o None more later w = tt
home_ends g o (Some id) more later w = w id

object_ends : (g : Fid) (text : List ℕ) (home : Option ℕ) (o : Operand) (rs : List ReadShown) (more : Fid → List ReadShown → Need) → Walks' g text more → Ends g (to_object home o rs more) (to_object home o (rs ++ got g text ∷ []) more)
object_ends g text home (operands.Fid f) rs more w = home_ends g (operands.Fid f) home _ _ (λ id. w f rs)
object_ends g text home (operands.Path p) rs more w = home_ends g (operands.Path p) home _ _ (λ id. walk_ends g text false more p.names rs (root_of id) w)

directory_ends : (g : Fid) (b : Body) (x y : Need) → Ends g x y → Ends g (in_directory x b) (in_directory y b)
directory_ends g (bodies.File k) x y h = tt
directory_ends g (bodies.Dir k) x y h = h
directory_ends g (bodies.Link k) x y h = tt
directory_ends g bodies.Gone x y h = tt

abbrev Walks'' : Fid → List ℕ → (Fid → List ℕ → List ReadShown → Need) → Type 0
Walks'' g text more = (f : Fid) (name : List ℕ) (rest : List ReadShown) → Ends g (more f name rest) (more f name (rest ++ got g text ∷ []))

parent_by : (g : Fid) (text : List ℕ) (a : Operand) (home : Option ℕ) (o : Option Parted) (rs : List ReadShown) (more : Fid → List ℕ → List ReadShown → Need) → Walks'' g text more → Ends g (at_parent a home rs more o) (at_parent a home (rs ++ got g text ∷ []) more o)
parent_by g text a home None rs more w = tt
parent_by g text a home (Some p) rs more w = home_ends g a home _ _ (λ id. walk_ends g text true (λ d rest. reading d rest (λ b later. in_directory (more d p.last later) b)) p.front rs (root_of id) (λ d rest. reading_ends g d text rest (λ b later. in_directory (more d p.last later) b) (λ b later. directory_ends g b (more d p.last later) (more d p.last (later ++ got g text ∷ [])) (w d p.last later))))

parent_ends : (g : Fid) (text : List ℕ) (home : Option ℕ) (p : Path) (rs : List ReadShown) (more : Fid → List ℕ → List ReadShown → Need) → Walks'' g text more → Ends g (to_parent home p rs more) (to_parent home p (rs ++ got g text ∷ []) more)
parent_ends g text home p rs more w = parent_by g text (operands.Path p) home (parted p.names) rs more w

kind_ends : (g : Fid) (b : Body) (x y z : ℕ) (later : Need) → Ends g (by_kind x y z b) later
kind_ends g (bodies.File k) x y z later = tt
kind_ends g (bodies.Dir k) x y z later = tt
kind_ends g (bodies.Link k) x y z later = tt
kind_ends g bodies.Gone x y z later = tt

shows_ends : (g : Fid) (text : List ℕ) (x y z : ℕ) (home : Option ℕ) (o : Operand) (rs : List ReadShown) → Ends g (to_object home o rs (λ f rest. reading f rest (λ b later. by_kind x y z b))) (to_object home o (rs ++ got g text ∷ []) (λ f rest. reading f rest (λ b later. by_kind x y z b)))
shows_ends g text x y z home o rs = object_ends g text home o rs _ (λ f rest. reading_ends g f text rest (λ b later. by_kind x y z b) (λ b later. kind_ends g b x y z _))

status_ends : (g f : Fid) (o : Option (TakenRead _)) (later : Need) → Ends g (by_status f o) later
status_ends g f None later = tt
status_ends g f (Some t) later = tt

several_by : (g : Fid) (all : List Fid) (more : List ReadShown → Need) (o : Option (TakenRead _)) (later : Need) → ((rest : List ReadShown) → Ends g (more rest) later) → Ends g (by_statuses all more o) later
several_by g all more None later w = tt
several_by g all more (Some t) later w = w t.rest

several_ends : (g : Fid) (all fs : List Fid) (rs : List ReadShown) (later : Need) → Ends g (reading_statuses all fs rs) later
several_ends g all [] rs later = tt
several_ends g all (f ∷ fs) rs later = several_by g all (reading_statuses all fs) (first_status f rs) later (λ rest. several_ends g all fs rest later)

statuses_ends : (g : Fid) (b : Body) (volume : ℕ) (rs : List ReadShown) (later : Need) → Ends g (statuses_in volume rs b) later
statuses_ends g (bodies.File k) volume rs later = tt
statuses_ends g (bodies.Dir k) volume rs later = several_ends g (named_first volume k) (named_first volume k) rs later
statuses_ends g (bodies.Link k) volume rs later = tt
statuses_ends g bodies.Gone volume rs later = tt

rights_by : (b : Bool) (g f : Fid) (later : Need) → (f ≡ g → later ≡ answers 0) → Ends g (cond b (answers 0) (reads_rights f)) later
rights_by true g f later w = tt
rights_by false g f later w = w

has_by : (b later : Bool) (y : ReadBody) → later ≡ true → has_rights_by b y later ≡ true
has_by true later (seen.Contents body) e = e
has_by true later (seen.Status status) e = e
has_by true later (seen.AccessList text) e = refl
has_by false later y e = e

has_got : (g : Fid) (text : List ℕ) (rs : List ReadShown) → has_rights g (rs ++ got g text ∷ []) ≡ true
has_got g text [] = ap (λ (b : Bool). has_rights_by b (seen.AccessList text) false) (same_fid-refl g)
has_got g text (r ∷ rs) = has_by (same_fid r.fid g) (has_rights g (rs ++ got g text ∷ [])) r.body (has_got g text rs)

got_answers : (g f : Fid) (text : List ℕ) (rs : List ReadShown) → f ≡ g → reading_rights f (rs ++ got g text ∷ []) ≡ answers 0
got_answers g f text rs e = ap (λ (h : Fid). reading_rights h (rs ++ got g text ∷ [])) e ∙ ap (λ (b : Bool). cond b (answers 0) (reads_rights g)) (has_got g text rs)

one_if : (b : Bool) (g : Fid) (x y : Need) → Ends g x y → Ends g (cond b x (answers 22)) (cond b y (answers 22))
one_if true g x y h = h
one_if false g x y h = tt

root_if : (b : Bool) (g : Fid) (x y : Need) → Ends g x y → Ends g (cond b (answers 22) x) (cond b (answers 22) y)
root_if true g x y h = tt
root_if false g x y h = h

abbrev renamed : Fid → List ℕ → Fid → List ℕ → List ReadShown → Need
renamed d old e new later = of_one d e (asks_for (calls.Rename d old e new))

move_ends : (g : Fid) (text : List ℕ) (h : Homes) (p q : Path) (rs : List ReadShown) → Ends g (to_parent h.first p rs (λ d old rest. to_parent h.second q rest (renamed d old))) (to_parent h.first p (rs ++ got g text ∷ []) (λ d old rest. to_parent h.second q rest (renamed d old)))
move_ends g text h p q rs = parent_ends g text h.first p rs (λ d old rest. to_parent h.second q rest (renamed d old)) (λ d old rest. parent_ends g text h.second q rest (renamed d old) (λ e new later. one_if (nat_eq d.volume e.volume) g (asks_for (calls.Rename d old e new)) (asks_for (calls.Rename d old e new)) (λ z. absurd cc)))

abbrev linked : Fid → Fid → List ℕ → List ReadShown → Need
linked f d name later = of_one f d (asks_for (calls.Link d name f))

link_ends : (g : Fid) (text : List ℕ) (h : Homes) (p q : Path) (rs : List ReadShown) → Ends g (to_object h.first (operands.Path p) rs (λ f rest. to_parent h.second q rest (linked f))) (to_object h.first (operands.Path p) (rs ++ got g text ∷ []) (λ f rest. to_parent h.second q rest (linked f)))
link_ends g text h p q rs = object_ends g text h.first (operands.Path p) rs (λ f rest. to_parent h.second q rest (linked f)) (λ f rest. parent_ends g text h.second q rest (linked f) (λ d name later. one_if (nat_eq f.volume d.volume) g (asks_for (calls.Link d name f)) (asks_for (calls.Link d name f)) (λ z. absurd cc)))

act_ends : (g : Fid) (text : List ℕ) (h : Homes) (a : Act) (rs : List ReadShown) → Ends g (act_needs h a rs) (act_needs h a (rs ++ got g text ∷ []))
act_ends g text h (acts.Open o) rs = shows_ends g text 0 21 22 h.first o rs
act_ends g text h (acts.ListNames o) rs = shows_ends g text 20 0 20 h.first o rs
act_ends g text h (acts.ReadLink o) rs = shows_ends g text 22 21 0 h.first o rs
act_ends g text h (acts.Stat o) rs = object_ends g text h.first o rs _ (λ f rest. status_ends g f (first_status f rest) _)
act_ends g text h (acts.StatAll o) rs = object_ends g text h.first o rs _ (λ f rest. reading_ends g f text rest (λ b later. statuses_in f.volume later b) (λ b later. statuses_ends g b f.volume later _))
act_ends g text h (acts.Close o contents) rs = object_ends g text h.first o rs _ (λ f rest e. absurd cc)
act_ends g text h (acts.Make p) rs = parent_ends g text h.first p rs _ (λ f name rest e. absurd cc)
act_ends g text h (acts.MakeDirectory p) rs = parent_ends g text h.first p rs _ (λ f name rest e. absurd cc)
act_ends g text h (acts.Remove p) rs = parent_ends g text h.first p rs _ (λ f name rest e. absurd cc)
act_ends g text h (acts.RemoveDirectory p) rs = parent_ends g text h.first p rs _ (λ f name rest e. absurd cc)
act_ends g text h (acts.Move p q) rs = root_if (is_root_path p || is_root_path q) g _ _ (move_ends g text h p q rs)
act_ends g text h (acts.Link p q) rs = root_if (is_root_path q) g _ _ (link_ends g text h p q rs)
act_ends g text h (acts.Symlink p target) rs = parent_ends g text h.first p rs _ (λ f name rest e. absurd cc)
act_ends g text h (acts.SetMode o mode) rs = object_ends g text h.first o rs _ (λ f rest e. absurd cc)
act_ends g text h (acts.SetAccessList o list) rs = object_ends g text h.first o rs _ (λ f rest e. absurd cc)
act_ends g text h (acts.GetAccessList o) rs = object_ends g text h.first o rs _ (λ f rest. rights_by (has_rights f rest) g f _ (got_answers g f text rest))
act_ends g text h acts.GiveUp rs = tt

-- ---- the call that an act waits for is what it asks, but for the promises that are given back

pub as_changed : (call : FsCall) → volume_changed (as_asked call) ≡ volume_changed call
as_changed (calls.GiveUpCallBacks fids callbacks) = refl
as_changed call = refl

changing_as : (call : FsCall) → (volume_changed call ≡ None → ⊥) → as_asked call ≡ call
changing_as (calls.GiveUpCallBacks fids callbacks) w = absurd (w refl)
changing_as call w = refl

-- what asks for a call asks for a change
pub asks_change : (a : Going) (call : FsCall) → next a ≡ asks_for call → volume_changed call ≡ None → ⊥
asks_change a call e = subst (λ (n : Need). Ends (root_of 0) n (next (with_read (root_of 0) (seen.AccessList []) a))) e (act_ends (root_of 0) [] a.homes a.act a.reads)

by_need : (gifts : List Gift) (need : Need) → ((call : FsCall) → need ≡ asks_for call → volume_changed call ≡ None → ⊥) → as_asked (call_by gifts need) ≡ call_for need
by_need gifts (reads f) w = refl
by_need gifts (reads_status f) w = refl
by_need gifts (reads_statuses fs) w = refl
by_need gifts (reads_rights f) w = refl
by_need gifts (asks_for call) w = changing_as call (w call refl)
by_need gifts gives_back w = refl
by_need gifts (locates o) w = refl
by_need gifts (answers code) w = refl

pub asks_is : (gifts : List Gift) (act : Going) → as_asked (call_by gifts (next act)) ≡ asked act
asks_is gifts act = by_need gifts (next act) (asks_change act)
