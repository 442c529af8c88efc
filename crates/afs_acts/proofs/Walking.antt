-- What the program's steps reach and need is what the rows say.
use Rattle.spec_ideal.specs.SetUp.{nothing_set}
use Rattle.std.proofs.Common.{◌≡◌, ℕ, Bool, true, false, cond, ◌||◌, ◌&&◌, not, List, [], ◌∷◌, Option, Some, None, Result, Ok, Err, refl, ap, sym, ◌∙◌}
use Rattle.spec_history.specs.Written.{bytes_in}
use Rattle.spec_history.specs.declared.acts.Operand.{Operand}
use Rattle.spec_history.specs.declared.acts.Path.{Path}
use Rattle.spec_history.specs.declared.acts.Operand.TheVariants as operands
use Rattle.spec_history.specs.declared.acts.Act.{Act}
use Rattle.spec_history.specs.declared.acts.Act.TheVariants as acts
use Rattle.afs_num.specs.declared.directories.Name.{Name}
use Rattle.afs_num.specs.declared.types.Fid.{Fid}
use Rattle.afs_num.specs.declared.calls.FsCall.TheVariants as calls
use Rattle.afs_num.specs.declared.histories.Body.{Body}
use Rattle.afs_num.specs.declared.histories.Body.TheVariants as bodies
use Rattle.afs_num.specs.declared.histories.ReadStatus.{ReadStatus}
use Rattle.spec_rows.specs.Going.{Need, ReadShown, TakenRead, Homes, Going, Parted, answers, asks_for, reads_statuses, by_body, by_kind, by_statuses, first_body, first_status, reading, reading_statuses, reading_status, reading_rights, looked_up, is_even, is_last_name, fid_of, walk, step_to, in_directory, at_parent, to_parent, to_object, parted, named_first, statuses_in, act_needs, next, is_root_path, of_one, mode_set, stored_whole}
use Rattle.afs_acts.specs.Walks.{At, Within, then_on, goes_to, body_by, body_at, entry_by, reached, walk_to, at_root, path_at, object_at, within_by, within, parent_by, parent_at}
use Rattle.afs_acts.specs.Needs.{are_read, are_read_on, statuses_seen, statuses_by, needed_by, needed}

-- ---- walks

enters : (b : Bool) (all : Bool) (more : Fid → List ReadShown → Need) (names : List (List ℕ)) (rest : List ReadShown) (f : Fid)
    → ((a : At) → walk all more names a.rest a.fid ≡ goes_to (λ (r : At). more r.fid r.rest) (walk_to all names a))
    → cond b (answers 20) (walk all more names rest f) ≡ goes_to (λ (r : At). more r.fid r.rest) (then_on (walk_to all names) (reached rest (cond b (Err (answers 20)) (Ok f))))
enters true all more names rest f ih = refl
enters false all more names rest f ih = ih (record { fid = f; rest = rest })

steps : (inner all : Bool) (more : Fid → List ReadShown → Need) (names : List (List ℕ)) (rest : List ReadShown) (volume : ℕ) (o : Option (Option Name))
    → ((a : At) → walk all more names a.rest a.fid ≡ goes_to (λ (r : At). more r.fid r.rest) (walk_to all names a))
    → step_to inner (walk all more names rest) volume o ≡ goes_to (λ (r : At). more r.fid r.rest) (then_on (walk_to all names) (reached rest (entry_by inner volume o)))
steps inner all more names rest volume None ih = refl
steps inner all more names rest volume (Some None) ih = refl
steps inner all more names rest volume (Some (Some n)) ih = enters (inner && is_even n.vnode) all more names rest (fid_of volume n) ih

passes : (inner all : Bool) (more : Fid → List ReadShown → Need) (name : List ℕ) (names : List (List ℕ)) (f : Fid) (o : Option (TakenRead Body))
    → ((a : At) → walk all more names a.rest a.fid ≡ goes_to (λ (r : At). more r.fid r.rest) (walk_to all names a))
    → by_body f (λ b rest. step_to inner (walk all more names rest) f.volume (looked_up name b)) o ≡ goes_to (λ (r : At). more r.fid r.rest) (then_on (walk_to all names) (then_on (λ (t : TakenRead Body). reached t.rest (entry_by inner f.volume (looked_up name t.found))) (body_by f o)))
passes inner all more name names f None ih = refl
passes inner all more name names f (Some t) ih = steps inner all more names t.rest f.volume (looked_up name t.found) ih

pub walks : (all : Bool) (more : Fid → List ReadShown → Need) (names : List (List ℕ)) (a : At) → walk all more names a.rest a.fid ≡ goes_to (λ (r : At). more r.fid r.rest) (walk_to all names a)
walks all more [] a = refl
walks all more (name ∷ names) a = passes (all || not (is_last_name names)) all more name names a.fid (first_body a.fid a.rest) (walks all more names)

pub objects : (home : Option ℕ) (o : Operand) (rs : List ReadShown) (more : Fid → List ReadShown → Need) → to_object home o rs more ≡ goes_to (λ (a : At). more a.fid a.rest) (object_at home o rs)
objects None (operands.Fid f) rs more = refl
objects (Some id) (operands.Fid f) rs more = refl
objects None (operands.Path p) rs more = refl
objects (Some id) (operands.Path p) rs more = walks false more p.names (at_root id rs)

directories : (d : Fid) (name : List ℕ) (rest : List ReadShown) (more : Fid → List ℕ → List ReadShown → Need) (b : Body)
    → in_directory (more d name rest) b ≡ goes_to (λ (w : Within). more w.directory w.name w.rest) (within_by d name rest b)
directories d name rest more (bodies.File c) = refl
directories d name rest more (bodies.Dir names) = refl
directories d name rest more (bodies.Link c) = refl
directories d name rest more bodies.Gone = refl

withins_by : (d : Fid) (name : List ℕ) (more : Fid → List ℕ → List ReadShown → Need) (o : Option (TakenRead Body))
    → by_body d (λ b later. in_directory (more d name later) b) o ≡ goes_to (λ (w : Within). more w.directory w.name w.rest) (then_on (λ (t : TakenRead Body). within_by d name t.rest t.found) (body_by d o))
withins_by d name more None = refl
withins_by d name more (Some t) = directories d name t.rest more t.found

withins : (name : List ℕ) (more : Fid → List ℕ → List ReadShown → Need) (r : Result At Need)
    → goes_to (λ (a : At). reading a.fid a.rest (λ b later. in_directory (more a.fid name later) b)) r ≡ goes_to (λ (w : Within). more w.directory w.name w.rest) (then_on (within name) r)
withins name more (Err need) = refl
withins name more (Ok a) = withins_by a.fid name more (first_body a.fid a.rest)

parents_by : (p : Path) (home : Option ℕ) (rs : List ReadShown) (more : Fid → List ℕ → List ReadShown → Need) (o : Option Parted)
    → at_parent (operands.Path p) home rs more o ≡ goes_to (λ (w : Within). more w.directory w.name w.rest) (parent_by p home rs o)
parents_by p None rs more None = refl
parents_by p (Some id) rs more None = refl
parents_by p None rs more (Some parts) = refl
parents_by p (Some id) rs more (Some parts) =
    walks true (λ d rest. reading d rest (λ b later. in_directory (more d parts.last later) b)) parts.front (at_root id rs) ∙ withins parts.last more (walk_to true parts.front (at_root id rs))

pub parents : (home : Option ℕ) (p : Path) (rs : List ReadShown) (more : Fid → List ℕ → List ReadShown → Need) → to_parent home p rs more ≡ goes_to (λ (w : Within). more w.directory w.name w.rest) (parent_at home p rs)
parents home p rs more = parents_by p home rs more (parted p.names)

-- ---- acts

statuses_on : (all : List Fid) (more : List ReadShown → Need) (read : List ReadShown → Bool) (o : Option (TakenRead ReadStatus)) → ((rs : List ReadShown) → more rs ≡ cond (read rs) (answers 0) (reads_statuses all))
    → by_statuses all more o ≡ cond (are_read_on read o) (answers 0) (reads_statuses all)
statuses_on all more read None h = refl
statuses_on all more read (Some t) h = h t.rest

all_statuses : (all fs : List Fid) (rs : List ReadShown) → reading_statuses all fs rs ≡ cond (are_read fs rs) (answers 0) (reads_statuses all)
all_statuses all [] rs = refl
all_statuses all (f ∷ fs) rs = statuses_on all (reading_statuses all fs) (are_read fs) (first_status f rs) (all_statuses all fs)

seen_in : (volume : ℕ) (rs : List ReadShown) (b : Body) → statuses_in volume rs b ≡ statuses_seen volume rs b
seen_in volume rs (bodies.File c) = refl
seen_in volume rs (bodies.Dir names) = all_statuses (named_first volume names) (named_first volume names) rs
seen_in volume rs (bodies.Link c) = refl
seen_in volume rs bodies.Gone = refl

statuses_by_body : (f : Fid) (o : Option (TakenRead Body)) → by_body f (λ b later. statuses_in f.volume later b) o ≡ goes_to (λ (t : TakenRead Body). statuses_seen f.volume t.rest t.found) (body_by f o)
statuses_by_body f None = refl
statuses_by_body f (Some t) = seen_in f.volume t.rest t.found

statuses_at : (r : Result At Need) → goes_to (λ (a : At). reading a.fid a.rest (λ b later. statuses_in a.fid.volume later b)) r ≡ goes_to (λ (a : At). statuses_by a (body_at a)) r
statuses_at (Err need) = refl
statuses_at (Ok a) = statuses_by_body a.fid (first_body a.fid a.rest)

kinds_by : (file directory link : ℕ) (f : Fid) (o : Option (TakenRead Body)) → by_body f (λ b later. by_kind file directory link b) o ≡ goes_to (λ (t : TakenRead Body). by_kind file directory link t.found) (body_by f o)
kinds_by file directory link f None = refl
kinds_by file directory link f (Some t) = refl

kinds_at : (file directory link : ℕ) (r : Result At Need) → goes_to (λ (a : At). reading a.fid a.rest (λ b later. by_kind file directory link b)) r ≡ goes_to (λ (t : TakenRead Body). by_kind file directory link t.found) (then_on body_at r)
kinds_at file directory link (Err need) = refl
kinds_at file directory link (Ok a) = kinds_by file directory link a.fid (first_body a.fid a.rest)

shows_is : (file directory link : ℕ) (home : Option ℕ) (o : Operand) (rs : List ReadShown)
    → to_object home o rs (λ f rest. reading f rest (λ b later. by_kind file directory link b)) ≡ goes_to (λ (t : TakenRead Body). by_kind file directory link t.found) (then_on body_at (object_at home o rs))
shows_is file directory link home o rs = objects home o rs (λ f rest. reading f rest (λ b later. by_kind file directory link b)) ∙ kinds_at file directory link (object_at home o rs)

same_after : {A : Type 0} (m n : A → Need) (r : Result A Need) → ((x : A) → m x ≡ n x) → goes_to m r ≡ goes_to n r
same_after {A} m n (Ok x) h = h x
same_after {A} m n (Err need) h = refl

pub needs_are : (h : Homes) (a : Act) (rs : List ReadShown) → act_needs h a rs ≡ needed_by h a rs
needs_are h (acts.Open o) rs = shows_is 0 21 22 h.first o rs
needs_are h (acts.ListNames o) rs = shows_is 20 0 20 h.first o rs
needs_are h (acts.ReadLink o) rs = shows_is 22 21 0 h.first o rs
needs_are h (acts.Close o contents) rs = objects h.first o rs (λ f rest. asks_for (stored_whole f (bytes_in contents)))
needs_are h (acts.SetMode o mode) rs = objects h.first o rs (λ f rest. asks_for (calls.StoreStatus f (mode_set mode)))
needs_are h (acts.SetAccessList o text) rs = objects h.first o rs (λ f rest. asks_for (calls.StoreAcl f (bytes_in text)))
needs_are h (acts.Make p) rs = parents h.first p rs (λ d name rest. asks_for (calls.CreateFile d name nothing_set))
needs_are h (acts.MakeDirectory p) rs = parents h.first p rs (λ d name rest. asks_for (calls.MakeDir d name nothing_set))
needs_are h (acts.Symlink p target) rs = parents h.first p rs (λ d name rest. asks_for (calls.Symlink d name (bytes_in target) nothing_set))
needs_are h (acts.Remove p) rs = parents h.first p rs (λ d name rest. asks_for (calls.RemoveFile d name))
needs_are h (acts.RemoveDirectory p) rs = parents h.first p rs (λ d name rest. asks_for (calls.RemoveDir d name))
needs_are h (acts.Move p q) rs =
    ap (λ (n : Need). cond (is_root_path p || is_root_path q) (answers 22) n)
    (parents h.first p rs (λ d old rest. to_parent h.second q rest (λ e new later. of_one d e (asks_for (calls.Rename d old e new))))
    ∙ same_after _ _ (parent_at h.first p rs) (λ (w : Within). parents h.second q w.rest (λ e new later. of_one w.directory e (asks_for (calls.Rename w.directory w.name e new)))))
needs_are h (acts.Link p q) rs =
    ap (λ (n : Need). cond (is_root_path q) (answers 22) n)
    (objects h.first (operands.Path p) rs (λ f rest. to_parent h.second q rest (λ d name later. of_one f d (asks_for (calls.Link d name f))))
    ∙ same_after _ _ (path_at h.first p rs) (λ (a : At). parents h.second q a.rest (λ d name later. of_one a.fid d (asks_for (calls.Link d name a.fid)))))
needs_are h (acts.Stat o) rs = objects h.first o rs reading_status
needs_are h (acts.StatAll o) rs = objects h.first o rs (λ f rest. reading f rest (λ b later. statuses_in f.volume later b)) ∙ statuses_at (object_at h.first o rs)
needs_are h (acts.GetAccessList o) rs = objects h.first o rs reading_rights
needs_are h acts.GiveUp rs = refl

pub needed_is : (g : Going) → needed g ≡ next g
unfolding needed
needed_is g = sym (needs_are g.homes g.act g.reads)
