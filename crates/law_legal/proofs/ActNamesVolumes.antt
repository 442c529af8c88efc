-- An act names volumes that its script has, and what it needs is of these.
use Rattle.spec_history.specs.declared.acts.Act.{Act}
use Rattle.spec_history.specs.declared.acts.Act.TheVariants as acts
use Rattle.spec_history.specs.declared.acts.Path.{Path}
use Rattle.spec_history.specs.declared.acts.Operand.{Operand}
use Rattle.spec_history.specs.declared.acts.Operand.TheVariants as operands
use Rattle.spec_history.specs.declared.lines.Line.{Line}
use Rattle.spec_history.specs.declared.lines.Line.TheVariants as lines
use Rattle.spec_history.specs.declared.scripts.Script.{Script}
use Rattle.spec_history.specs.declared.scripts.VolumeLine.{VolumeLine}
use Rattle.law_legal.proofs.BaseLaws.{some_of}
use Rattle.law_legal.proofs.ClientCallsByTable.{placed, server_at}
use Rattle.law_legal.proofs.VolumesAreIdeal.{at_counts, not_both}
use Rattle.law_legal.proofs.ActNeeds.{AreHomesOf, IsHomeOf, homes_by, of_act}
use Rattle.law_legal.specs.Ideal.{IsPutAt}
use Rattle.law_legal.specs.Past.{running}
use Rattle.afs_num.specs.Nodes.{same_node}
use Rattle.afs_num.specs.declared.histories.ReadBody.{ReadBody}
use Rattle.afs_num.specs.declared.types.Fid.{Fid}
use Rattle.afs_num.specs.declared.types.Node.TheVariants.{Server}
use Rattle.afs_num.specs.declared.types.Node.{Node}
use Rattle.spec_records.specs.Entries.{entry_of_line}
use Rattle.spec_rows.specs.ClientRow.{server_for, server_or_first}
use Rattle.spec_rows.specs.Going.{Copy, Going, Homes, backup, base_of, began, copy_of, find_location, has_number, home_at, homes_of, is_home, itself, number_for, number_in, number_there, operand_in, operands_of, read_only, read_on, volume_at}
use Rattle.spec_rows.specs.Runs.{counts_later, location_by, locations, locations_in}
use Rattle.spec_rows.specs.States.{Location}
use Rattle.std.proofs.Common.{zero, suc, ◌≡◌, ◌∙◌, ◌⊎◌, ℕ, ap, inl, inr, sym, Bool, true, false, cond, eq-eqb, eqb-true, find, nat_eq, not, List, [], ◌∷◌, Option, Some, None, refl, subst}
use Rattle.std.specs.Prelude.{◌&&◌, ◌||◌}
use Rattle.std.specs.Str.{bytes_eq}

-- ---- volumes

-- one of these lines places the volume
abbrev pub IsLaid : List VolumeLine → ℕ → Type 0
IsLaid vs id = (q : Node) × IsPutAt id q vs

-- it has no copy
abbrev IsPlain : Location → Type 0
IsPlain l = (l.read_only ≡ 0) × (l.backup ≡ 0)

abbrev IsFoundIn : (Location → Bool) → List VolumeLine → Location → Type 0
IsFoundIn test vs l = IsLaid vs l.read_write × ((test l ≡ true) × IsPlain l)

found_later : (test : Location → Bool) (v : VolumeLine) (vs : List VolumeLine) (l : Location) → IsFoundIn test vs l → IsFoundIn test (v ∷ vs) l
found_later test v vs l x = ((x.0.0, inr x.0.1), x.1)

found_here : (t : Bool) (test : Location → Bool) (v : VolumeLine) (vs : List VolumeLine) (l : Location) → test (entry_of_line v) ≡ t → counts_later v.id vs ≡ false → cond t (Some (entry_of_line v)) (find test (locations_in vs)) ≡ Some l → (find test (locations_in vs) ≡ Some l → IsFoundIn test vs l) → IsFoundIn test (v ∷ vs) l
found_here true test v vs l t c e w = subst (IsFoundIn test (v ∷ vs)) (some_of (entry_of_line v) l e) ((Server v.server, inl (c, (refl, refl))), (t, (refl, refl)))
found_here false test v vs l t c e w = found_later test v vs l (w e)

found_by : (t : Bool) (test : Location → Bool) (v : VolumeLine) (vs : List VolumeLine) (l : Location) → counts_later v.id vs ≡ t → find test (location_by t v (locations_in vs)) ≡ Some l → (find test (locations_in vs) ≡ Some l → IsFoundIn test vs l) → IsFoundIn test (v ∷ vs) l
found_by true test v vs l c e w = found_later test v vs l (w e)
found_by false test v vs l c e w = found_here (test (entry_of_line v)) test v vs l refl c e w

found_in : (test : Location → Bool) (vs : List VolumeLine) (l : Location) → find test (locations_in vs) ≡ Some l → IsFoundIn test vs l
found_in test [] l e = absurd cc
found_in test (v ∷ vs) l e = found_by (counts_later v.id vs) test v vs l refl e (found_in test vs l)

-- the table has such a volume at its server
pub laid_at : (s : Script) (id : ℕ) → IsLaid s.volumes id → IsPutAt id (Server (server_at (locations s) id)) s.volumes
laid_at s id k = elim (placed id s.volumes) [ inl x ↦ x | inr away ↦ absurd (away k.0 k.1) ]

-- ---- the server of an operand's volume

-- no other entry of the table has its number
only_here : (t u : Bool) (test : Location → Bool) (v : VolumeLine) (vs : List VolumeLine) (l : Location) → counts_later v.id vs ≡ false → nat_eq v.id l.read_write ≡ u → cond t (Some (entry_of_line v)) (find test (locations_in vs)) ≡ Some l
    → (find test (locations_in vs) ≡ Some l → IsLaid vs l.read_write × (find (λ (k : Location). nat_eq k.read_write l.read_write) (locations_in vs) ≡ Some l)) → cond u (Some (entry_of_line v)) (find (λ (k : Location). nat_eq k.read_write l.read_write) (locations_in vs)) ≡ Some l
only_here true true test v vs l c n e w = e
only_here true false test v vs l c n e w = (let same : v.id ≡ l.read_write = ap (λ (k : Location). k.read_write) (some_of (entry_of_line v) l e) in let is : nat_eq v.id l.read_write ≡ true = eq-eqb v.id l.read_write same in absurd cc)
only_here false true test v vs l c n e w = let laid : IsLaid vs l.read_write = (w e).0 in absurd (not_both v.id l.read_write l.read_write vs c (eqb-true v.id l.read_write n) (at_counts l.read_write laid.0 vs laid.1))
only_here false false test v vs l c n e w = (w e).1

only_by : (t : Bool) (test : Location → Bool) (v : VolumeLine) (vs : List VolumeLine) (l : Location) → counts_later v.id vs ≡ t → find test (location_by t v (locations_in vs)) ≡ Some l → (find test (locations_in vs) ≡ Some l → IsLaid vs l.read_write × (find (λ (k : Location). nat_eq k.read_write l.read_write) (locations_in vs) ≡ Some l))
    → find (λ (k : Location). nat_eq k.read_write l.read_write) (location_by t v (locations_in vs)) ≡ Some l
only_by true test v vs l c e w = (w e).1
only_by false test v vs l c e w = only_here (test (entry_of_line v)) (nat_eq v.id l.read_write) test v vs l c refl e w

only_found : (test : Location → Bool) (vs : List VolumeLine) (l : Location) → find test (locations_in vs) ≡ Some l → find (λ (k : Location). nat_eq k.read_write l.read_write) (locations_in vs) ≡ Some l
only_found test [] l e = absurd cc
only_found test (v ∷ vs) l e = only_by (counts_later v.id vs) test v vs l refl e (λ q. ((found_in test vs l q).0, only_found test vs l q))

there_by : (t : Bool) (n m : ℕ) → cond t None (Some n) ≡ Some m → n ≡ m
there_by true n m e = absurd cc
there_by false n m e = some_of n m e

there_is : (n m : ℕ) → number_there n ≡ Some m → n ≡ m
there_is n m e = there_by (nat_eq n 0) n m e

none_there : (n m : ℕ) → n ≡ 0 → number_there n ≡ Some m → ⊥
none_there n m z e = let no : None ≡ Some m = sym (ap number_there z) ∙ e in absurd cc

copy_number : (copy : Copy) (l : Location) (id : ℕ) → IsPlain l → number_in copy l ≡ Some id → l.read_write ≡ id
copy_number itself l id p e = there_is l.read_write id e
copy_number read_only l id p e = absurd (none_there l.read_only id p.0 e)
copy_number backup l id p e = absurd (none_there l.backup id p.1 e)

or_none : (a b c : Bool) → b ≡ false → c ≡ false → (a || (b || c)) ≡ true → a ≡ true
or_none true b c e f h = refl
or_none false b c e f h = let no : false ≡ true = sym (ap (λ (t : Bool). t || c) e ∙ f) ∙ h in absurd cc

-- a number that isn't 0 is that of the volume itself
has_by : (t : Bool) (n : ℕ) (l : Location) → nat_eq n 0 ≡ t → IsPlain l → (not t && (nat_eq l.read_write n || (nat_eq l.read_only n || nat_eq l.backup n))) ≡ true → l.read_write ≡ n
has_by true n l e p h = absurd cc
has_by false n l e p h =
    let none : (m : ℕ) → m ≡ 0 → nat_eq m n ≡ false = λ m z. ap (λ (k : ℕ). nat_eq k n) z ∙ zero_apart (nat_eq 0 n) n refl e in
    eqb-true l.read_write n (or_none (nat_eq l.read_write n) (nat_eq l.read_only n) (nat_eq l.backup n) (none l.read_only p.0) (none l.backup p.1) h)
  where
    zero_apart : (t : Bool) (k : ℕ) → nat_eq 0 k ≡ t → nat_eq k 0 ≡ false → nat_eq 0 k ≡ false
    zero_apart true k is q = (let no : true ≡ false = sym (eq-eqb k 0 (sym (eqb-true 0 k is))) ∙ q in absurd cc)
    zero_apart false k is q = is

has_is : (n : ℕ) (l : Location) → IsPlain l → has_number n l ≡ true → l.read_write ≡ n
has_is n l p h = has_by (nat_eq n 0) n l refl p h

-- what the table has of an operand
record IsEntryAt (vs : List VolumeLine) (o : Operand) (id : ℕ) : Type 0 where
  entry : Location
  found : find_location (locations_in vs) o ≡ Some entry
  number : entry.read_write ≡ id
  laid : IsLaid vs id
  only : find (λ (k : Location). nat_eq k.read_write id) (locations_in vs) ≡ Some entry

entry_at : (vs : List VolumeLine) (o : Operand) (id : ℕ) (test : Location → Bool) (l : Location) → find test (locations_in vs) ≡ Some l → find_location (locations_in vs) o ≡ Some l → (IsFoundIn test vs l → l.read_write ≡ id) → IsEntryAt vs o id
entry_at vs o id test l e f w =
    let x : IsFoundIn test vs l = found_in test vs l e in
    let n : l.read_write ≡ id = w x in
    record { entry = l; found = f; number = n; laid = subst (IsLaid vs) n x.0; only = subst (λ (k : ℕ). find (λ (y : Location). nat_eq y.read_write k) (locations_in vs) ≡ Some l) n (only_found test vs l e) }

path_entry : (vs : List VolumeLine) (p : Path) (id : ℕ) (o : Option Location) → find_location (locations_in vs) (operands.Path p) ≡ o → number_for (operands.Path p) o ≡ Some id → IsEntryAt vs (operands.Path p) id
path_entry vs p id None e is = absurd cc
path_entry vs p id (Some l) e is = entry_at vs (operands.Path p) id (λ k. bytes_eq k.name (base_of p.volume)) l e e (λ x. copy_number (copy_of p.volume) l id x.1.1 is)

fid_entry : (vs : List VolumeLine) (f : Fid) (id : ℕ) (o : Option Location) → find_location (locations_in vs) (operands.Fid f) ≡ o → number_for (operands.Fid f) o ≡ Some id → IsEntryAt vs (operands.Fid f) id
fid_entry vs f id None e is = absurd cc
fid_entry vs f id (Some l) e is = entry_at vs (operands.Fid f) id (has_number f.volume) l e e (λ x. has_is f.volume l x.1.1 x.1.0 ∙ some_of f.volume id is)

entry_of : (vs : List VolumeLine) (o : Operand) (id : ℕ) → volume_at (locations_in vs) o ≡ Some id → IsEntryAt vs o id
entry_of vs (operands.Path p) id e = path_entry vs p id (find_location (locations_in vs) (operands.Path p)) refl e
entry_of vs (operands.Fid f) id e = fid_entry vs f id (find_location (locations_in vs) (operands.Fid f)) refl e

operand_server : (vs : List VolumeLine) (a : Option Operand) (id : ℕ) → home_at (locations_in vs) a ≡ Some id → server_for (locations_in vs) a ≡ server_at (locations_in vs) id
operand_server vs None id e = absurd cc
operand_server vs (Some o) id e = let x : IsEntryAt vs o id = entry_of vs o id e in ap server_or_first x.found ∙ sym (ap server_or_first x.only)

home_is : (o : Option ℕ) (id : ℕ) → is_home o id ≡ true → o ≡ Some id
home_is None id e = absurd cc
home_is (Some n) id e = ap (λ (k : ℕ). Some k) (eqb-true n id e)

is_its : (o : Option ℕ) (id : ℕ) → o ≡ Some id → is_home o id ≡ true
is_its o id e = ap (λ (x : Option ℕ). is_home x id) e ∙ eq-eqb id id refl

-- the operand in whose volume a call is has its entry at that server
chosen_server : (x y : Bool) (vs : List VolumeLine) (a b : Option Operand) (id : ℕ) → is_home (home_at (locations_in vs) a) id ≡ x → is_home (home_at (locations_in vs) b) id ≡ y → (home_at (locations_in vs) a ≡ Some id) ⊎ (home_at (locations_in vs) b ≡ Some id) → server_for (locations_in vs) (cond (y && not x) b a) ≡ server_at (locations_in vs) id
chosen_server true true vs a b id e f h = operand_server vs a id (home_is (home_at (locations_in vs) a) id e)
chosen_server true false vs a b id e f h = operand_server vs a id (home_is (home_at (locations_in vs) a) id e)
chosen_server false true vs a b id e f h = operand_server vs b id (home_is (home_at (locations_in vs) b) id f)
chosen_server false false vs a b id e f (inl h) = let no : false ≡ true = sym e ∙ is_its (home_at (locations_in vs) a) id h in absurd cc
chosen_server false false vs a b id e f (inr h) = let no : false ≡ true = sym f ∙ is_its (home_at (locations_in vs) b) id h in absurd cc

-- ---- the volumes that an act names

-- it is laid, and its server is the one at which the table looks
abbrev pub IsHomeIn : List VolumeLine → Going → ℕ → Type 0
IsHomeIn vs g id = IsLaid vs id × (server_for (locations_in vs) (operand_in g id) ≡ server_at (locations_in vs) id)

in_going : (vs : List VolumeLine) (g : Going) (id : ℕ) → g.homes ≡ homes_of (locations_in vs) g.act → ((homes_of (locations_in vs) g.act).first ≡ Some id) ⊎ ((homes_of (locations_in vs) g.act).second ≡ Some id) → server_for (locations_in vs) (operand_in g id) ≡ server_at (locations_in vs) id
in_going vs g id at h =
    let t : List Location = locations_in vs in
    let a : Option Operand = (operands_of g.act).0 in
    let b : Option Operand = (operands_of g.act).1 in
    subst (λ (hs : Homes). server_for t (cond (is_home hs.second id && not (is_home hs.first id)) b a) ≡ server_at t id) (sym at) (chosen_server (is_home (home_at t a) id) (is_home (home_at t b) id) vs a b id refl refl h)

operand_home : (vs : List VolumeLine) (g : Going) (L : Operand → Type 0) (o : Operand) → ((a : Operand) → volume_at (locations_in vs) a ≡ None → L a) → g.homes ≡ homes_of (locations_in vs) g.act → ((homes_of (locations_in vs) g.act).first ≡ volume_at (locations_in vs) o) ⊎ ((homes_of (locations_in vs) g.act).second ≡ volume_at (locations_in vs) o) → IsHomeOf (of_act (IsHomeIn vs g) L g.act) (volume_at (locations_in vs) o) o
operand_home vs g L (operands.Path p) w at h = (λ id e. ((entry_of vs (operands.Path p) id e).laid, in_going vs g id at (elim h [ inl x ↦ inl (x ∙ e) | inr x ↦ inr (x ∙ e) ])), w (operands.Path p))
operand_home vs g L (operands.Fid f) w at h = (λ id e. (let same : f.volume ≡ id = fid_is (find_location (locations_in vs) (operands.Fid f)) id e in subst (IsHomeIn vs g) (sym same) ((entry_of vs (operands.Fid f) id e).laid, in_going vs g id at (elim h [ inl x ↦ inl (x ∙ e) | inr x ↦ inr (x ∙ e) ]))), w (operands.Fid f))
  where
    fid_is : (o : Option Location) (id : ℕ) → number_for (operands.Fid f) o ≡ Some id → f.volume ≡ id
    fid_is None id e = absurd cc
    fid_is (Some l) id e = some_of f.volume id e

pub homes_laid : (vs : List VolumeLine) (g : Going) → g.homes ≡ homes_of (locations_in vs) g.act → AreHomesOf (of_act (IsHomeIn vs g) (λ (o : Operand). volume_at (locations_in vs) o ≡ None) g.act) (homes_of (locations_in vs) g.act) g.act
homes_laid vs g at = homes_by (of_act (IsHomeIn vs g) (λ (o : Operand). volume_at (locations_in vs) o ≡ None) g.act) (locations_in vs) g.act (λ o. operand_home vs g (λ (a : Operand). volume_at (locations_in vs) a ≡ None) o (λ a e. e) at)

-- ---- an act that runs has the homes of the script

abbrev IsAtHomes : Script → Going → Type 0
IsAtHomes s g = g.homes ≡ homes_of (locations s) g.act

begun_homes : (t : Bool) (s : Script) (act : Act) (o : Option Going) (g : Going) → cond t (Some (began (locations s) act)) o ≡ Some g → (o ≡ Some g → IsAtHomes s g) → IsAtHomes s g
begun_homes true s act o g e w = subst (IsAtHomes s) (some_of (began (locations s) act) g e) refl
begun_homes false s act o g e w = w e

read_homes : (t : Bool) (s : Script) (f : Fid) (body : ReadBody) (o : Option Going) (g : Going) → read_on t f body o ≡ Some g → ((h : Going) → o ≡ Some h → IsAtHomes s h) → IsAtHomes s g
read_homes true s f body None g e w = absurd cc
read_homes true s f body (Some h) g e w = subst (IsAtHomes s) (some_of _ g e) (w h refl)
read_homes false s f body o g e w = w g e

over_homes : (t : Bool) (s : Script) (o : Option Going) (g : Going) → cond t None o ≡ Some g → (o ≡ Some g → IsAtHomes s g) → IsAtHomes s g
over_homes true s o g e w = absurd cc
over_homes false s o g e w = w e

pub running_homes : (s : Script) (n : Node) (ls : List Line) (g : Going) → running s n ls ≡ Some g → g.homes ≡ homes_of (locations s) g.act
running_homes s n [] g e = absurd cc
running_homes s n (lines.Begin m act ∷ older) g e = begun_homes (same_node m n) s act (running s n older) g e (running_homes s n older g)
running_homes s n (lines.Read m f index source body ∷ older) g e = read_homes (same_node m n) s f body (running s n older) g e (λ h. running_homes s n older h)
running_homes s n (lines.Answer m code ∷ older) g e = over_homes (same_node m n) s (running s n older) g e (running_homes s n older g)
running_homes s n (lines.Crash m ∷ older) g e = over_homes (same_node m n) s (running s n older) g e (running_homes s n older g)
running_homes s n (l ∷ older) g e = running_homes s n older g e
