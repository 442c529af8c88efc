-- Each question that asks for an entry has its number from one answer, and comes once behind it: so an entry is asked for under one key.
use Rattle.std.proofs.Common.{◌≡◌, ◌≤◌, ◌<◌, ◌⊎◌, inl, inr, ℕ, zero, suc, List, Some, None, refl, sym, ap, subst, arith, ◌∙◌}
use Rattle.std.specs.List.{AllByRecursion}
use Rattle.afs_num.specs.declared.location_calls.LocCall.TheVariants as calls
use Rattle.afs_num.specs.declared.messages.Call.TheVariants as ask
use Rattle.afs_num.specs.declared.messages.Carried.{Carried}
use Rattle.afs_num.specs.declared.messages.Message.{Message}
use Rattle.afs_num.specs.declared.types.Key.{Key}
use Rattle.afs_num.specs.declared.types.Node.{Node}
use Rattle.afs_num.specs.declared.types.Node.TheVariants.{Admin, Client, Loc, Server}
use Rattle.spec_history.specs.declared.scripts.Script.{Script}
use Rattle.spec_adminrows.specs.Acts.{answered, begins_with, refused}
use Rattle.spec_adminrows.specs.declared.places.Creating.TheVariants as creating
use Rattle.spec_adminrows.specs.declared.places.Fresh.{Fresh}
use Rattle.spec_adminrows.specs.declared.places.Place.{Place}
use Rattle.spec_adminrows.specs.declared.places.Place.TheVariants as places
use Rattle.spec_rows.specs.Runs.{message_at}
use Rattle.spec_runs.specs.NodeRuns.{node_start, CellInput, NodeCell}
use Rattle.law_legal.specs.Past.{answered_key}
use Rattle.law_walks.proofs.Seats.{found_at}
use Rattle.law_places.specs.Accepting.{cell_behind}
use Rattle.law_courses.specs.Courses.{course_in, Course, Follows, IsOnCourse, Question, Way}
use Rattle.law_courses.proofs.Continuing.{leads_is}
use Rattle.law_courses.proofs.Walk.{are_on_course}
use Rattle.law_numbers.specs.Numbers.{next_volume}
use Rattle.law_one_server.proofs.ActsNumbered.{are_numbered}
use Rattle.law_new_volumes.specs.GivenNumbers.{volume_number_in, GivesOwn}
use Rattle.law_new_volumes.specs.MadeEntries.{AsksEntry, EntriesAreAskedOnce}
use Rattle.law_new_volumes.proofs.Entering.{answered_goes, asked_makes, first_goes, refused_goes, GoesOn, IsEntering, MakesAt}
use Rattle.law_new_volumes.proofs.Plain.{new_at}
use Rattle.law_new_volumes.proofs.GivenOnce.{owned, Own}
use Rattle.law_new_volumes.proofs.Makers.{all_made, AskedBy, AsksBy, IsAdmin}

-- a reply to the call of this number that gives the volume's number was sent
pub record WasNumbered (sent : List Message) (n epoch number volume : ℕ) : Type 0 where
  pub place : ℕ
  pub m : Message
  pub there : message_at sent place ≡ Some m
  pub to : m.head.to ≡ Admin n
  pub in_epoch : m.head.epoch ≡ epoch
  pub of_number : m.head.number ≡ number
  pub gives : volume_number_in m.carried ≡ Some volume

-- ---- whence a number is

module _ (course : Course) (sent : List Message) (n epoch : ℕ) where
  abbrev at : ℕ → Place
  at k = (course n epoch k).place

  -- From an earlier call on; and between that and this no question asks for an entry.
  pub record IsNumberedFrom (k volume : ℕ) : Type 0 where
    pub number : ℕ
    pub earlier : number < k
    pub given : WasNumbered sent n epoch number volume
    pub between : (i : ℕ) → number < i → i < k → IsEntering (at i) → ⊥

  next_goes : (k : ℕ) (b q : Question) → Follows sent n epoch k b q → GoesOn (WasNumbered sent n epoch k) b.place q.place
  next_goes k b q (inl begins) = leads_is (GoesOn (WasNumbered sent n epoch k) b.place) q.place (begins_with q.errand.act begins.0) (first_goes (WasNumbered sent n epoch k) b.place q.errand.act begins.0) begins.1
  next_goes k b q (inr (inl a)) =
      leads_is (GoesOn (WasNumbered sent n epoch k) b.place) q.place (answered b.errand b.place a.reply)
      (answered_goes (WasNumbered sent n epoch k) b.errand b.place a.reply (λ id is. record {
        place = a.place;
        m = a.m;
        there = a.there;
        to = a.to;
        in_epoch = a.in_epoch;
        of_number = a.of_number;
        gives = subst (λ (x : Carried). volume_number_in x ≡ Some id) (sym a.says) is;
      })) a.leads
  next_goes k b q (inr (inr r)) = leads_is (GoesOn (WasNumbered sent n epoch k) b.place) q.place (refused b.place r.code) (refused_goes (WasNumbered sent n epoch k) b.place r.code) r.leads

  same_or_less : (i k : ℕ) → i < suc k → (i < k) ⊎ (i ≡ k)
  same_or_less zero zero less = inr refl
  same_or_less zero (suc k) less = inl (omega (arith))
  same_or_less (suc i) zero less = absurd (omega (arith, less))
  same_or_less (suc i) (suc k) less = elim (same_or_less i k (omega (arith, less))) [ inl below ↦ inl (omega (arith, below)) | inr is ↦ inr (ap suc is) ]

  one_later : (k volume : ℕ) → (IsEntering (at k) → ⊥) → IsNumberedFrom k volume → IsNumberedFrom (suc k) volume
  one_later k volume none g = record { number = g.number; earlier = (let e : g.number < k = g.earlier in omega (arith, e)); given = g.given; between = λ i low high. by i low (same_or_less i k high) }
    where
      by : (i : ℕ) → g.number < i → (i < k) ⊎ (i ≡ k) → IsEntering (at i) → ⊥
      by i low (inl high) entering = g.between i low high entering
      by i low (inr is) entering = none (subst (λ (j : ℕ). IsEntering (at j)) is entering)

  nothing_between : (k i : ℕ) → k < i → i < suc k → ⊥
  nothing_between k i low high = omega (arith, low, high)

  pub numbered_from : (k volume : ℕ) → new_at (at 0) ≡ None → Way course sent n epoch k → new_at (at k) ≡ Some volume → IsNumberedFrom k volume
  numbered_from zero volume first way is = let no : None ≡ Some volume = sym first ∙ is in absurd cc
  numbered_from (suc k) volume first way is = by (λ before. numbered_from k volume first way.1 before) (next_goes k (course n epoch k) (course n epoch (suc k)) way.0 volume is)
    where
      by : (new_at (at k) ≡ Some volume → IsNumberedFrom k volume) → WasNumbered sent n epoch k volume ⊎ ((new_at (at k) ≡ Some volume) × (IsEntering (at k) → ⊥)) → IsNumberedFrom (suc k) volume
      by before (inl given) = record { number = k; earlier = omega (arith); given = given; between = λ i low high entering. nothing_between k i low high }
      by before (inr same) = one_later k volume same.1 (before same.0)

-- ---- to one call

abbrev key_by : Node → ℕ → ℕ → Key
key_by x e k = record { node = x; epoch = e; number = k }

compare : (k l : ℕ) → (k < l) ⊎ ((l < k) ⊎ (k ≡ l))
compare zero zero = inr (inr refl)
compare zero (suc l) = inl (omega (arith))
compare (suc k) zero = inr (inl (omega (arith)))
compare (suc k) (suc l) = elim (compare k l) [ inl low ↦ inl (omega (arith, low)) | inr x ↦ elim x [ inl high ↦ inr (inl (omega (arith, high))) | inr is ↦ inr (inr (ap suc is)) ] ]

module _ (owner : ℕ → Key) (first next : ℕ) (sent : List Message) (own : AllByRecursion (GivesOwn owner first next) sent) where
  owner_is : (n epoch number volume : ℕ) → WasNumbered sent n epoch number volume → owner volume ≡ key_by (Admin n) epoch number
  owner_is n epoch number volume g =
      let key : answered_key g.m.head ≡ owner volume = (found_at (GivesOwn owner first next) g.place sent g.m own g.there volume g.gives).1 in
      sym key ∙ (ap (λ (x : Node). key_by x g.m.head.epoch g.m.head.number) g.to ∙ (ap (λ (x : ℕ). key_by (Admin n) x g.m.head.number) g.in_epoch ∙ ap (λ (x : ℕ). key_by (Admin n) epoch x) g.of_number))

  pub above_first : (n epoch number volume : ℕ) → WasNumbered sent n epoch number volume → first ≤ volume
  above_first n epoch number volume g = (found_at (GivesOwn owner first next) g.place sent g.m own g.there volume g.gives).0.0

  node_same : (n i : ℕ) → Admin n ≡ Admin i → n ≡ i
  node_same n i e = cc

  module _ (course : Course) where
    -- two questions that ask for the entry of one volume
    pub one_question : (n e k i f l volume : ℕ) → IsNumberedFrom course sent n e k volume → IsNumberedFrom course sent i f l volume → IsEntering (course n e k).place → IsEntering (course i f l).place → key_by (Admin n) e k ≡ key_by (Admin i) f l
    one_question n e k i f l volume a b here there =
        let same : key_by (Admin n) e a.number ≡ key_by (Admin i) f b.number = sym (owner_is n e a.number volume a.given) ∙ owner_is i f b.number volume b.given in
        let node : n ≡ i = node_same n i (ap (λ (x : Key). x.node) same) in
        let epoch : e ≡ f = ap (λ (x : Key). x.epoch) same in
        let number : a.number ≡ b.number = ap (λ (x : Key). x.number) same in
        let low : a.number < k = a.earlier in
        let high : b.number < l = b.earlier in
        let its : k ≡ l = elim (compare k l) [
          | inl less ↦ absurd (b.between k (omega (arith, low, number)) less (subst (λ (x : ℕ). IsEntering (course i x k).place) epoch (subst (λ (x : ℕ). IsEntering (course x e k).place) node here)))
          | inr x ↦ elim x [
            | inl more ↦ absurd (a.between l (omega (arith, high, number)) more (subst (λ (y : ℕ). IsEntering (course n y l).place) (sym epoch) (subst (λ (y : ℕ). IsEntering (course y f l).place) (sym node) there)))
            | inr is ↦ is
          ]
        ] in
        ap (λ (x : ℕ). key_by (Admin x) e k) node ∙ (ap (λ (x : ℕ). key_by (Admin i) x k) epoch ∙ ap (λ (x : ℕ). key_by (Admin i) f x) its)

-- ---- a call that asks for an entry

record ByAdmin (from : Node) : Type 0 where
  number : ℕ
  is : from ≡ Admin number

by_admin : (from : Node) → IsAdmin from → ByAdmin from
by_admin (Admin n) k = record { number = n; is = refl }
by_admin (Server i) k = absurd k
by_admin (Client n) k = absurd k
by_admin Loc k = absurd k

module _ (s : Script) (inputs : List CellInput) where
  abbrev c : NodeCell
  c = cell_behind (node_start s) inputs

  abbrev course : Course
  course = course_in s inputs

  -- it is a question of an administrator's creation, with a number that was given to this
  pub record IsCreation (volume : ℕ) (m : Message) : Type 0 where
    pub admin : ℕ
    pub from : m.head.from ≡ Admin admin
    pub fresh : Fresh
    pub at : (course admin m.head.epoch m.head.number).place ≡ places.Creates fresh (creating.Enters volume)
    pub numbered : IsNumberedFrom course c.sent admin m.head.epoch m.head.number volume

  zero_none : (n epoch : ℕ) → new_at (course n epoch 0).place ≡ None
  zero_none n epoch = ap (λ (q : Question). new_at q.place) ((are_numbered s inputs).zero_asks n epoch)

  pub creation_of : (volume : ℕ) (m : Message) → AsksEntry c volume m → IsCreation volume m
  creation_of volume m a = by (by_admin m.head.from (subst (AsksBy m.head.from) a.asks (found_at AskedBy a.place c.sent m (all_made s inputs).sent a.at)))
    where
      by : ByAdmin m.head.from → IsCreation volume m
      by x =
          let n : ℕ = x.number in
          let on : IsOnCourse course c.sent n (c.admins n) m.head (ask.Location (calls.CreateEntry a.entry)) = (are_on_course.on s inputs).calls a.place n m a.user (ask.Location (calls.CreateEntry a.entry)) a.at x.is a.asks in
          let q : Question = course n m.head.epoch m.head.number in
          let makes : (f : Fresh) × (q.place ≡ places.Creates f (creating.Enters a.entry.read_write)) = subst (MakesAt q.place) on.asks (asked_makes q.errand q.place) in
          let its : q.place ≡ places.Creates makes.0 (creating.Enters volume) = makes.1 ∙ ap (λ (v : ℕ). places.Creates makes.0 (creating.Enters v)) a.its in
          record { admin = n; from = x.is; fresh = makes.0; at = its; numbered = numbered_from course c.sent n m.head.epoch m.head.number volume (zero_none n m.head.epoch) on.way (ap new_at its) }

  enters : (volume : ℕ) (m : Message) (x : IsCreation volume m) → IsEntering (course x.admin m.head.epoch m.head.number).place
  enters volume m x = subst IsEntering (sym x.at) tt

  pub asked_once : EntriesAreAskedOnce s inputs
  asked_once volume a b x y =
      let k : IsCreation volume a = creation_of volume a x in
      let l : IsCreation volume b = creation_of volume b y in
      let z = owned s inputs in
      let first : ℕ = next_volume (node_start s) in
      let o : Own z.0 first c = z.1 in
      ap (λ (w : Node). key_by w a.head.epoch a.head.number) k.from
      ∙ (one_question z.0 first (next_volume c) c.sent o.sent course k.admin a.head.epoch a.head.number l.admin b.head.epoch b.head.number volume k.numbered l.numbered (enters volume a k) (enters volume b l)
      ∙ sym (ap (λ (w : Node). key_by w b.head.epoch b.head.number) l.from))

  -- and its number is none of the script's
  pub is_new : (volume : ℕ) (m : Message) → AsksEntry c volume m → next_volume (node_start s) ≤ volume
  is_new volume m x =
      let k : IsCreation volume m = creation_of volume m x in
      let z = owned s inputs in
      let first : ℕ = next_volume (node_start s) in
      let o : Own z.0 first c = z.1 in
      above_first z.0 first (next_volume c) c.sent o.sent k.admin m.head.epoch k.numbered.number volume k.numbered.given
