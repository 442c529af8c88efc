-- A step of a cell: the course goes on, and what is known by it.
use Rattle.std.proofs.Common.{◌≡◌, ◌≤◌, ◌⊎◌, inl, inr, ℕ, suc, ◌+◌, Bool, true, false, cond, List, ◌++◌, Option, Some, None, refl, sym, ap, subst, arith, ◌∙◌, nat_eq, eq-eqb, eqb-true}
use Rattle.std.specs.Prelude.{◌&&◌}
use Rattle.afs_num.specs.declared.messages.Call.{Call}
use Rattle.afs_num.specs.declared.messages.Message.{Message}
use Rattle.afs_num.specs.declared.types.Head.{Head}
use Rattle.afs_num.specs.declared.types.Node.TheVariants.{Admin}
use Rattle.spec_adminrows.specs.AdminRow.{ask_head, ask_of, AdminState}
use Rattle.spec_adminrows.specs.declared.turns.Running.{Running}
use Rattle.law_courses.specs.Courses.{ask_in, course_on, question_noted, question_now, ActIsOnCourse, Course, Follows, IsOnCourse, IsUpTo, Question, Way}
use Rattle.law_courses.proofs.Asking.{Asks, IsNew, IsOld, MadeNone, MadeOne}
use Rattle.law_courses.proofs.Growing.{lower_up_to, still_follows, still_on_way}

-- ---- the question that stands under a number

both : (a b : Bool) → (a && b) ≡ true → (a ≡ true) × (b ≡ true)
both true b e = (refl, e)
both false b e = absurd cc

and_true : (a b : Bool) → a ≡ true → b ≡ true → (a && b) ≡ true
and_true true b h k = k
and_true false b h k = absurd cc

else_by : (b : Bool) (x y : Question) → (b ≡ true → x ≡ y) → cond b x y ≡ y
else_by true x y h = h refl
else_by false x y h = refl

-- what it asks stands under its last number
now_noted : (b : AdminState) (o : Option Running) (r : Running) (q : Question) → o ≡ Some r → question_noted b o b.epoch b.last q ≡ question_now b r
now_noted b o r q is =
    subst (λ (x : Option Running). question_noted b x b.epoch b.last q ≡ question_now b r) (sym is)
    (ap (λ (t : Bool). cond t (question_now b r) q) (and_true (nat_eq b.epoch b.epoch) (nat_eq b.last b.last) (eq-eqb b.epoch b.epoch refl) (eq-eqb b.last b.last refl)))

not_next : (e k : ℕ) (a : AdminState) → IsUpTo e k a → e ≡ a.epoch → k ≡ a.last + 1 → ⊥
not_next e k a (inl below) same next = omega (arith, below, same)
not_next e k a (inr now) same next = let last : k ≤ a.last = now.1 in omega (arith, last, next)

-- what is asked as before is the same question
abbrev question_among : Running → ℕ → Question
question_among r servers = record { errand = record { act = r.act; servers = servers }; place = r.place }

same_question : (a b : AdminState) (r : Running) → b.servers ≡ a.servers → question_now b r ≡ question_now a r
same_question a b r same = ap (question_among r) same

module _ (course : Course) (sent : List Message) (n : ℕ) (a b : AdminState) (asks : Asks course sent n a b) (has : (r : Running) → a.running ≡ Some r → course n a.epoch a.last ≡ question_now a r) where
  -- under a number that was given before, the question stays
  stays_as : (e k : ℕ) (r : Running) → IsUpTo e k a → e ≡ b.epoch → k ≡ b.last → IsNew course sent n a b r ⊎ IsOld a b r → question_now b r ≡ course n e k
  stays_as e k r u epoch number (inl new) = absurd (not_next e k a u (epoch ∙ new.epoch) (number ∙ new.last))
  stays_as e k r u epoch number (inr old) =
      same_question a b r old.servers ∙ (sym (has r old.running) ∙ (ap (λ (i : ℕ). course n i a.last) (sym (epoch ∙ old.epoch)) ∙ ap (λ (j : ℕ). course n e j) (sym (number ∙ old.last))))

  noted_by : (e k : ℕ) (o : Option Running) → b.running ≡ o → IsUpTo e k a → question_noted b o e k (course n e k) ≡ course n e k
  noted_by e k None is u = refl
  noted_by e k (Some r) is u =
      else_by (nat_eq e b.epoch && nat_eq k b.last) (question_now b r) (course n e k)
      (λ t. let x = both (nat_eq e b.epoch) (nat_eq k b.last) t in stays_as e k r u (eqb-true e b.epoch x.0) (eqb-true k b.last x.1) (asks.acts r is))

  pub noted_stays : (e k : ℕ) → IsUpTo e k a → question_noted b b.running e k (course n e k) ≡ course n e k
  noted_stays e k u = noted_by e k b.running refl u

-- ---- a step

-- Messages were sent, and each administrator asked something new or not.
module _ (course : Course) (sent more : List Message) (admins now : ℕ → AdminState) (asks : (n : ℕ) → Asks course sent n (admins n) (now n))
    (has : (n : ℕ) (r : Running) → (admins n).running ≡ Some r → ActIsOnCourse course n (admins n) r) (ways : (n : ℕ) → Way course sent n (admins n).epoch (admins n).last) where
  abbrev pub Next : Course
  Next = course_on course now

  pub stays : (n e k : ℕ) → IsUpTo e k (admins n) → Next n e k ≡ course n e k
  stays n e k u = noted_stays course sent n (admins n) (now n) (asks n) (λ r is. (has n r is).now) e k u

  still_way : (n e k : ℕ) → IsUpTo e k (admins n) → Way course sent n e k → Way Next (sent ++ more) n e k
  still_way n e k u w = still_on_way course Next sent more n e k (λ j le. stays n e j (lower_up_to e j k (admins n) le u)) w

  -- a call stays on its course
  pub still_call : (n : ℕ) (head : Head) (call : Call) → IsOnCourse course sent n (admins n) head call → IsOnCourse Next (sent ++ more) n (now n) head call
  still_call n head call h =
      let same : Next n head.epoch head.number ≡ course n head.epoch head.number = stays n head.epoch head.number h.up_to in
      record {
        up_to = (asks n).up head.epoch head.number h.up_to;
        asks = subst (λ (q : Question). (ask_in q).call ≡ call) (sym same) h.asks;
        stamp = subst (λ (q : Question). head.stamp ≡ (ask_in q).stamp) (sym same) h.stamp;
        callee = subst (λ (q : Question). head.to ≡ (ask_in q).callee) (sym same) h.callee;
        way = still_way n head.epoch head.number h.up_to h.way;
      }

  now_up : (a : AdminState) → IsUpTo a.epoch a.last a
  now_up a = let le : a.last ≤ a.last = omega (arith) in inr (refl, le)

  -- one question more
  one_way : (n : ℕ) (r : Running) → (now n).running ≡ Some r → IsNew course sent n (admins n) (now n) r → Way Next (sent ++ more) n (now n).epoch (now n).last
  one_way n r is new =
      let a : AdminState = admins n in
      let b : AdminState = now n in
      let last : b.last ≡ suc a.last = (let e : b.last ≡ a.last + 1 = new.last in omega (arith, e)) in
      let first : Follows (sent ++ more) n a.epoch a.last (course n a.epoch a.last) (question_now b r) = still_follows sent more n a.epoch a.last (course n a.epoch a.last) (question_now b r) new.follows in
      let second : Follows (sent ++ more) n a.epoch a.last (Next n a.epoch a.last) (question_now b r) = subst (λ (q : Question). Follows (sent ++ more) n a.epoch a.last q (question_now b r)) (sym (stays n a.epoch a.last (now_up a))) first in
      let third : Follows (sent ++ more) n b.epoch a.last (Next n b.epoch a.last) (question_now b r) = subst (λ (e : ℕ). Follows (sent ++ more) n e a.last (Next n e a.last) (question_now b r)) (sym new.epoch) second in
      let here : question_now b r ≡ Next n b.epoch (suc a.last) = subst (λ (k : ℕ). question_now b r ≡ Next n b.epoch k) last (sym (now_noted b b.running r (course n b.epoch b.last) is)) in
      let before : Way Next (sent ++ more) n b.epoch a.last = subst (λ (e : ℕ). Way Next (sent ++ more) n e a.last) (sym new.epoch) (still_way n a.epoch a.last (now_up a) (ways n)) in
      subst (λ (k : ℕ). Way Next (sent ++ more) n b.epoch k) (sym last) (subst (λ (q : Question). Follows (sent ++ more) n b.epoch a.last (Next n b.epoch a.last) q) here third, before)

  -- each administrator is on its way
  pub way_on : (n : ℕ) → Way Next (sent ++ more) n (now n).epoch (now n).last
  way_on n = by (asks n).numbers
    where
      by : MadeNone (admins n) (now n) ⊎ (MadeOne course sent n (admins n) (now n) ⊎ ((now n).last ≡ 0)) → Way Next (sent ++ more) n (now n).epoch (now n).last
      by (inl same) =
          subst (λ (e : ℕ). Way Next (sent ++ more) n e (now n).last) (sym same.epoch)
          (subst (λ (k : ℕ). Way Next (sent ++ more) n (admins n).epoch k) (sym same.last) (still_way n (admins n).epoch (admins n).last (now_up (admins n)) (ways n)))
      by (inr (inl one)) = one_way n one.act one.runs one.new
      by (inr (inr none)) = subst (λ (k : ℕ). Way Next (sent ++ more) n (now n).epoch k) (sym none) tt

  pub act_on : (n : ℕ) (r : Running) → (now n).running ≡ Some r → ActIsOnCourse Next n (now n) r
  act_on n r is = record { now = now_noted (now n) (now n).running r (course n (now n).epoch (now n).last) is }

  -- and so is the call that it makes
  pub own_call : (n : ℕ) (r : Running) → (now n).running ≡ Some r → IsOnCourse Next (sent ++ more) n (now n) (ask_head (Admin n) (now n) (ask_of (now n) r)) (ask_of (now n) r).call
  own_call n r is =
      let t : ActIsOnCourse Next n (now n) r = act_on n r is in
      record {
        up_to = now_up (now n);
        asks = ap (λ (q : Question). (ask_in q).call) t.now;
        stamp = sym (ap (λ (q : Question). (ask_in q).stamp) t.now);
        callee = sym (ap (λ (q : Question). (ask_in q).callee) t.now);
        way = way_on n;
      }
