-- What is known of calls goes on as messages are sent and further questions are asked.
use Rattle.std.proofs.Common.{◌≡◌, ◌≤◌, inl, inr, ℕ, zero, suc, List, [], ◌∷◌, ◌++◌, Some, sym, subst, arith}
use Rattle.afs_num.specs.declared.messages.Message.{Message}
use Rattle.spec_adminrows.specs.AdminRow.{AdminState}
use Rattle.spec_rows.specs.Runs.{message_at}
use Rattle.law_courses.specs.Courses.{Course, Follows, IsUpTo, Question, Way}

-- ---- messages

-- what stands at a place stays there
pub still_at : (place : ℕ) (xs ys : List Message) (m : Message) → message_at xs place ≡ Some m → message_at (xs ++ ys) place ≡ Some m
still_at zero [] ys m e = absurd cc
still_at zero (x ∷ xs) ys m e = absurd cc
still_at (suc zero) [] ys m e = absurd cc
still_at (suc zero) (x ∷ xs) ys m e = e
still_at (suc (suc n)) [] ys m e = absurd cc
still_at (suc (suc n)) (x ∷ xs) ys m e = still_at (suc n) xs ys m e

pub still_follows : (xs ys : List Message) (n epoch number : ℕ) (b q : Question) → Follows xs n epoch number b q → Follows (xs ++ ys) n epoch number b q
still_follows xs ys n epoch number b q (inl begins) = inl begins
still_follows xs ys n epoch number b q (inr (inl a)) = inr (inl (record {
  same = a.same;
  place = a.place;
  m = a.m;
  there = still_at a.place xs ys a.m a.there;
  to = a.to;
  in_epoch = a.in_epoch;
  of_number = a.of_number;
  callee = a.callee;
  reply = a.reply;
  says = a.says;
  leads = a.leads;
}))
still_follows xs ys n epoch number b q (inr (inr r)) = inr (inr r)

-- the same questions stand under all numbers up to this one
pub still_on_way : (course now : Course) (xs ys : List Message) (n epoch number : ℕ) → ((k : ℕ) → k ≤ number → now n epoch k ≡ course n epoch k) → Way course xs n epoch number → Way now (xs ++ ys) n epoch number
still_on_way course now xs ys n epoch zero same w = tt
still_on_way course now xs ys n epoch (suc k) same w =
    let low : k ≤ suc k = omega (arith) in
    let here : suc k ≤ suc k = omega (arith) in (
      subst (λ (b : Question). Follows (xs ++ ys) n epoch k b (now n epoch (suc k))) (sym (same k low))
          (subst (λ (q : Question). Follows (xs ++ ys) n epoch k (course n epoch k) q) (sym (same (suc k) here)) (still_follows xs ys n epoch k (course n epoch k) (course n epoch (suc k)) w.0)),
      still_on_way course now xs ys n epoch k (λ j le. same j (omega (arith, le))) w.1,
    )

-- ---- numbers

-- what comes before a call that was made was made
pub lower_up_to : (epoch k number : ℕ) (a : AdminState) → k ≤ number → IsUpTo epoch number a → IsUpTo epoch k a
lower_up_to epoch k number a le (inl below) = inl below
lower_up_to epoch k number a le (inr now) = let last : number ≤ a.last = now.1 in inr (now.0, omega (arith, le, last))
