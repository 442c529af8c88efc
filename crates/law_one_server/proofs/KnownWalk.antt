-- The walk: at each question of a run its act knows what it needs, and volumes are in service only where the location database says. It goes on
-- through every input, with what the database's calls leave, and what replies tell to acts that run.
use Rattle.std.proofs.Common.{◌≡◌, ◌⊎◌, inl, inr, ℕ, zero, suc, Bool, true, false, cond, List, [], ◌∷◌, ◌++◌, Option, Some, None, refl, sym, ap, subst, ◌∙◌, nat_eq, eqb-true, append-nil, append_assoc}
use Rattle.std.specs.Prelude.{⊤, ◌&&◌}
use Rattle.std.specs.List.{AllByRecursion}
use Rattle.spec_history.specs.declared.scripts.Script.{Script}
use Rattle.afs_num.specs.declared.types.Code.{Code}
use Rattle.spec_adminrows.specs.Acts.{answered, begins_with, refused}
use Rattle.spec_adminrows.specs.AdminRow.{AdminState}
use Rattle.spec_adminrows.specs.declared.places.Hold.{Hold}
use Rattle.spec_adminrows.specs.declared.places.Moving.TheVariants as moving
use Rattle.spec_adminrows.specs.declared.places.Place.{Place}
use Rattle.spec_adminrows.specs.declared.places.Place.TheVariants as places
use Rattle.spec_adminrows.specs.declared.places.Removing.TheVariants as removing
use Rattle.spec_adminrows.specs.declared.turns.Running.{Running}
use Rattle.spec_runs.specs.NodeRuns.{admin_falls, admin_moves, admin_rises, client_falls, client_moves, client_rises, loc_stepped, node_moved, node_start, server_stepped, ticked, CellInput, NodeCell, NodeMoved}
use Rattle.law_walks.proofs.EachKind.{any_admin, any_client, any_database, any_server, each}
use Rattle.law_places.specs.Accepting.{cell_behind}
use Rattle.law_stamps.specs.Told.{entries_in}
use Rattle.law_stamp_owners.proofs.PlaceStamps.{stamp_at_place}
use Rattle.law_keys.specs.Ran.{ran_by, ran_in, RanCall}
use Rattle.law_courses.specs.Courses.{course_behind, course_in, course_on, no_course, question_noted, question_now, AreOnCourse, Begins, Course, LeadsTo, Question, WasAnswered}
use Rattle.law_courses.specs.Tasks.{task_at, Task}
use Rattle.law_courses.proofs.Continuing.{leads_is}
use Rattle.law_courses.proofs.Runs.{Stepped}
use Rattle.law_courses.proofs.Walk.{all_on, are_on_course, behind_more, first_on, goes, Goes, On}
use Rattle.law_numbers.specs.Numbers.{IsNumbered}
use Rattle.law_one_server.specs.Knows.{AreClosed, Knows}
use Rattle.law_one_server.proofs.AcceptsAtOne.{first_closed}
use Rattle.law_one_server.proofs.KnownAside.{is_aside}
use Rattle.law_one_server.proofs.KnownAsideSteps.{behind_aside, closed_aside, knows_aside}
use Rattle.law_one_server.proofs.ActsBegin.{all_start, asked_now}
use Rattle.law_one_server.proofs.FencesOnCourse.{FenceAt}
use Rattle.law_one_server.proofs.FencesRan.{fenced_next, ran_more, AreFenced, KnowsBehind}
use Rattle.law_stored_stamps.proofs.Rising.{one_more}
use Rattle.law_stored_stamps.proofs.Asked.{places_are}
use Rattle.law_one_server.proofs.KnownKept.{knows_stays}
use Rattle.law_one_server.proofs.KnownLeads.{answered_knows, first_knows, refused_knows, News}
use Rattle.law_one_server.proofs.KnownLeftAlone.{leaves_all, quiet_mild}
use Rattle.law_one_server.proofs.ActsNumbered.{are_numbered}
use Rattle.law_one_server.proofs.StampsOfOneTask.{some}

-- ---- the course of a run

on_led : (course : Course) (c : NodeCell) (xs : List CellInput) → On course c → On (course_behind course c xs) (cell_behind c xs)
on_led course c [] h = h
on_led course c (x ∷ xs) h = on_led (course_on course (node_moved c x).cell.admins) (node_moved c x).cell xs (goes course c h x).on

pub stepped : (s : Script) (inputs : List CellInput) (x : CellInput) → Stepped (course_in s inputs) (cell_behind (node_start s) inputs) (node_moved (cell_behind (node_start s) inputs) x)
stepped s inputs x =
    let on : On (course_in s inputs) (cell_behind (node_start s) inputs) = on_led no_course (node_start s) inputs (first_on s) in
    let g : Goes (course_in s inputs) (cell_behind (node_start s) inputs) (node_moved (cell_behind (node_start s) inputs) x) = goes (course_in s inputs) (cell_behind (node_start s) inputs) on x in
    record { before = all_on (course_in s inputs) (cell_behind (node_start s) inputs) on; asks = g.asks; stays = g.stays; up = g.up }

-- ---- what a step leaves alone

-- the servers and the database are as they were, or the administrators are
pub record IsQuiet (c d : NodeCell) : Type 0 where
  pub hosts : d.hosts ≡ c.hosts
  pub loc : d.loc ≡ c.loc

abbrev LeavesOne : NodeCell → NodeMoved → Type 0
LeavesOne c m = IsQuiet c m.cell ⊎ (m.cell.admins ≡ c.admins)

leaves_one : (c : NodeCell) (x : CellInput) → LeavesOne c (node_moved c x)
leaves_one c x = each (LeavesOne c) c (record {
  void = inl (record { hosts = refl; loc = refl });
  ticks = λ n. inl (record { hosts = refl; loc = refl });
  servers = any_server (LeavesOne c) c (λ i s. inr refl);
  database = any_database (LeavesOne c) c (λ s. inr refl);
  clients = any_client (LeavesOne c) c (λ n s. inl (record { hosts = refl; loc = refl })) (λ n. inl (record { hosts = refl; loc = refl })) (λ n. inl (record { hosts = refl; loc = refl }));
  admins = any_admin (LeavesOne c) c (λ n s. inl (record { hosts = refl; loc = refl })) (λ n. inl (record { hosts = refl; loc = refl })) (λ n. inl (record { hosts = refl; loc = refl }));
}) x

-- ---- where the administrators are as they were, each question is the one that it was

module _ (course : Course) (c : NodeCell) (on : AreOnCourse course c) where
  cond_same : (b : Bool) (q r : Question) → (b ≡ true → q ≡ r) → cond b q r ≡ r
  cond_same true q r h = h refl
  cond_same false q r h = refl

  both : (a b : Bool) → (a && b) ≡ true → (a ≡ true) × (b ≡ true)
  both true true e = (refl, refl)
  both true false e = absurd cc
  both false b e = absurd cc

  noted_same : (n e k : ℕ) (o : Option Running) → (c.admins n).running ≡ o → question_noted (c.admins n) o e k (course n e k) ≡ course n e k
  noted_same n e k None is = refl
  noted_same n e k (Some r) is =
      cond_same (nat_eq e (c.admins n).epoch && nat_eq k (c.admins n).last) (question_now (c.admins n) r) (course n e k) (λ same.
      let z = both (nat_eq e (c.admins n).epoch) (nat_eq k (c.admins n).last) same in
      subst (λ (i : ℕ). question_now (c.admins n) r ≡ course n i k) (sym (eqb-true e (c.admins n).epoch z.0))
      (subst (λ (j : ℕ). question_now (c.admins n) r ≡ course n (c.admins n).epoch j) (sym (eqb-true k (c.admins n).last z.1)) (sym (on.acts n r is).now)))

  same_course : (n e k : ℕ) → course_on course c.admins n e k ≡ course n e k
  same_course n e k = noted_same n e k (c.admins n).running refl

-- ---- what a step of the database has to leave

-- the entries are the same, or this is so of the cell behind it
pub record IsLeft (course : Course) (c d : NodeCell) : Type 0 where
  pub knows : (n e k : ℕ) → Knows d (course n e k).place
  pub closed : AreClosed d
  pub behind : (n e k : ℕ) → KnowsBehind c (course n e k).place → KnowsBehind d (course n e k).place

module _ (s : Script) (numbered : IsNumbered s) (Told : List CellInput → Type 0) where
  abbrev pub cell : List CellInput → NodeCell
  cell inputs = cell_behind (node_start s) inputs

  -- what holds behind these inputs
  pub record Inv (inputs : List CellInput) : Type 0 where
    pub knows : (n e k : ℕ) → Knows (cell inputs) (course_in s inputs n e k).place
    pub closed : AreClosed (cell inputs)
    pub fenced : AreFenced (course_in s inputs) (cell inputs) (ran_in (node_start s) inputs)
    pub told : Told inputs

  abbrev pub behind : List CellInput → CellInput → NodeCell
  behind done x = (node_moved (cell done) x).cell

  -- each answer to an act that runs tells what is so
  abbrev pub AreNews : List CellInput → Type 0
  AreNews inputs = (n : ℕ) (r : Running) → ((cell inputs).admins n).running ≡ Some r → (q : Question) (w : WasAnswered (cell inputs).sent n ((cell inputs).admins n).epoch ((cell inputs).admins n).last (course_in s inputs n ((cell inputs).admins n).epoch ((cell inputs).admins n).last) q) →
      News (cell inputs) (course_in s inputs n ((cell inputs).admins n).epoch ((cell inputs).admins n).last).place w.reply

  module _ (news : (inputs : List CellInput) → Inv inputs → AreNews inputs) (served : (done : List CellInput) (x : CellInput) → Inv done → (entries_in (behind done x) ≡ entries_in (cell done)) ⊎ IsLeft (course_in s done) (cell done) (behind done x)) (told_first : Told [])
      (told_next : (done : List CellInput) (x : CellInput) → Inv done → IsLeft (course_in s done) (cell done) (behind done x) → Told (done ++ x ∷ [])) where
    module _ (done : List CellInput) (x : CellInput) (h : Inv done) where
      abbrev c : NodeCell
      c = cell done

      abbrev d : NodeCell
      d = behind done x

      abbrev course : Course
      course = course_in s done

      abbrev next : Course
      next = course_on course d.admins

      abbrev steps : Stepped course c (node_moved c x)
      steps = stepped s done x

      -- the questions that were asked before
      left : IsLeft course c d
      left = elim (served done x h) [
        | inl same ↦ record { knows = knows_aside s done numbered h.knows h.closed x same; closed = closed_aside s done numbered h.knows h.closed x same; behind = behind_aside s done numbered h.knows h.closed x same }
        | inr z ↦ z
      ]

      -- those that are asked now know it before the step
      asked : (n e k : ℕ) → Knows c (next n e k).place
      asked = asked_now course c (node_moved c x) steps (all_start c x) (Knows c) h.knows
          (λ q b. leads_is (Knows c) q.place (begins_with q.errand.act b.0) (first_knows c q.errand.act b.0) b.1)
          (λ n r q run w.
          let b : Question = course n (c.admins n).epoch (c.admins n).last in
          leads_is (Knows c) q.place (answered b.errand b.place w.reply) (answered_knows c b.errand b.place w.reply (h.knows n (c.admins n).epoch (c.admins n).last) (news done h n r run q w)) w.leads)
          (λ p code q k l. leads_is (Knows c) q (refused p code) (refused_knows c p code k) l)

      knows_next : (n e k : ℕ) → Knows d (next n e k).place
      knows_next n e k = by (leaves_one c x)
        where
          by : IsQuiet c d ⊎ (d.admins ≡ c.admins) → Knows d (next n e k).place
          by (inl quiet) = knows_stays c d (next n e k).place (leaves_all c d (quiet_mild c d (is_aside s done x (ap (λ l. l.state.lasting.entries) quiet.loc)) quiet.hosts) (next n e k).place) (asked n e k)
          by (inr same) = subst (λ (q : Question). Knows d q.place) (sym (ap (λ (f : ℕ → AdminState). course_on course f n e k) same ∙ same_course course c steps.before n e k)) (left.knows n e k)

      some_fence : (n e k t : ℕ) (b : Hold) (p : Place) → (course n e k).place ≡ p → FenceAt b t p → b.stamp ≡ 0 → ⊥
      some_fence n e k t b (places.Moves m (moving.Fences counter new old)) is at none =
          some s done n e k _ (ap task_at is) (ap stamp_at_place is ∙ (ap (λ (y : Hold). y.stamp) at.0 ∙ none))
      some_fence n e k t b (places.Removes y seen (removing.Fences old)) is at none =
          some s done n e k _ (ap task_at is) (ap stamp_at_place is ∙ (ap (λ (y : Hold). y.stamp) at.0 ∙ none))
      some_fence n e k t b p is at none = absurd at

      fenced' : AreFenced next d (ran_in (node_start s) done ++ ran_by c x)
      fenced' = fenced_next s done x course (record {
        steps = steps;
        goes = left.knows;
        stays = left.behind;
        surveyed = places_are s done;
        some = λ n e k t b at. some_fence n e k t b (course n e k).place refl at;
        none = λ n e t b at. subst (λ (q : Question). FenceAt b t q.place) ((are_numbered s done).zero_asks n e) at;
      }) h.fenced

      abbrev more : List CellInput
      more = done ++ x ∷ []

      course_is : course_in s more ≡ next
      course_is = behind_more no_course (node_start s) done (x ∷ [])

      cell_is : cell more ≡ d
      cell_is = one_more (node_start s) done x

      pub inv_next : Inv more
      inv_next = record {
        knows = subst (λ (f : Course). (n e k : ℕ) → Knows (cell more) (f n e k).place) (sym course_is) (subst (λ (y : NodeCell). (n e k : ℕ) → Knows y (next n e k).place) (sym cell_is) knows_next);
        closed = subst AreClosed (sym cell_is) left.closed;
        fenced = subst (AreFenced (course_in s more) (cell more)) (sym (ran_more (node_start s) done x))
            (subst (λ (f : Course). AreFenced f (cell more) (ran_in (node_start s) done ++ ran_by c x)) (sym course_is) (subst (λ (y : NodeCell). AreFenced next y (ran_in (node_start s) done ++ ran_by c x)) (sym cell_is) fenced'));
        told = told_next done x h left;
      }

    first_inv : Inv []
    first_inv = record { knows = λ n e k. tt; closed = first_closed s; fenced = tt; told = told_first }

    led : (done xs : List CellInput) → Inv done → Inv (done ++ xs)
    led done [] h = subst Inv (sym (append-nil done)) h
    led done (x ∷ xs) h = subst Inv (append_assoc done (x ∷ []) xs) (led (done ++ x ∷ []) xs (inv_next done x h))

    pub behind_all : (inputs : List CellInput) → Inv inputs
    behind_all inputs = led [] inputs first_inv
