-- Disks are given back one by one.
use Rattle.std.proofs.Common.{◌≡◌, ◌⊎◌, inl, inr, ◌≤◌, ℕ, ◌+◌, List, [], ◌∷◌, Option, refl, sym, subst, ap, ◌∙◌, arith}
use Rattle.std.specs.Prelude.{Result, Ok, Err, IsErr, OnErr, OnOk}
use Rattle.afs_num.specs.declared.devices.Failed.{Failed}
use Rattle.afs_disk.specs.Banks.{counted}
use Rattle.afs_disk.specs.Disk.{Rose}
use Rattle.afs_disk.specs.Fuses.{last_of_counter}
use Rattle.afs_disk.specs.declared.disks.Lent.{Lent}
use Rattle.afs_lending.specs.Lending.{with_faults, GivesBackBut, GoBack, HasFailed, OneGoesBack}

-- ---- how often the bank failed

none_failed : (b0 b1 b2 times : ℕ) → b2 ≡ b1 → HasFailed times b0 b1 → HasFailed times b0 b2
none_failed b0 b1 b2 times quiet failed = subst (λ (b : ℕ). HasFailed times b0 b) (sym quiet) failed

once_more : (b0 b1 b2 times : ℕ) → b1 ≤ b2 → Rose b1 b2 → HasFailed times b0 b1 → HasFailed (times + 1) b0 b2
once_more b0 b1 b2 times falls rose failed = (either failed.0 rose, λ none. absurd (omega (arith, none))) where
  either : (b0 + times ≤ b1) ⊎ (last_of_counter ≤ b1) → Rose b1 b2 → (b0 + (times + 1) ≤ b2) ⊎ (last_of_counter ≤ b2)
  either (inl before) (inl more) = inl (omega (arith, before, more))
  either (inl before) (inr full) = inr (omega (arith, full, falls))
  either (inr full) more = inr (omega (arith, full, falls))

-- ---- one of them, and then the others

abbrev Given : Type 0
Given = Option (List (ℕ × List ℕ))

-- So many of those that went back so far are missing, and the bank failed so often; whatever becomes of the rest is added to it.
pub record SoFar {D : Type 0} (seen : D → Option (List ℕ)) (rest all : List (Lent D)) (given old : Given) (before now : ℕ) (taken : Result (Unit {0}) Failed) : Type 0 where
  pub missing : ℕ
  pub adds : (others : ℕ) (last : Given) → GivesBackBut seen others rest given last → GivesBackBut seen (missing + others) all old last
  pub failed : HasFailed missing before now
  pub none : OnOk taken (missing ≡ 0)

-- at first
pub none_yet : {D : Type 0} (seen : D → Option (List ℕ)) (rest all : List (Lent D)) (given : Given) (count : ℕ) (taken : Result (Unit {0}) Failed) → rest ≡ all → SoFar seen rest all given given count count taken
none_yet {D} seen rest all given count taken same = record {
  missing = 0;
  adds = λ others last more.
      let all_others : others ≡ 0 + others = omega (arith) in
      subst (λ (n : ℕ). GivesBackBut seen n all given last) all_others (subst (λ (ds : List (Lent D)). GivesBackBut seen others ds given last) same more);
  failed = (inl (omega (arith)), λ none. refl);
  none = none_of 0 taken;
} where
  none_of : (n : ℕ) (taken : Result (Unit {0}) Failed) → OnOk taken (n ≡ n)
  none_of n (Ok x) = refl
  none_of n (Err e) = tt

nothing_said : (taken : Result (Unit {0}) Failed) (P : Type 0) → IsErr taken → OnOk taken P
nothing_said (Ok x) P err = absurd cc
nothing_said (Err e) P err = tt

pub goes_on : {D : Type 0} (seen : D → Option (List ℕ)) (ls rest all : List (Lent D)) (l : Lent D) (given next old : Given) (b0 b1 b2 : ℕ) (before now : Result (Unit {0}) Failed)
    → ls ≡ l ∷ rest → b1 ≤ b2 → SoFar seen ls all given old b0 b1 before → OneGoesBack l.node (seen l.disk) given next b1 b2 before now → SoFar seen rest all next old b0 b2 now
goes_on {D} seen ls rest all l given next old b0 b1 b2 before now is falls so (inl one) = record {
  missing = so.missing;
  adds = λ others last more. so.adds others last (subst (λ (ds : List (Lent D)). GivesBackBut seen others ds given last) (sym is) (inl (next, (one.0, more))));
  failed = none_failed b0 b1 b2 so.missing one.1.0 so.failed;
  none = subst (λ (r : Result (Unit {0}) Failed). OnOk r (so.missing ≡ 0)) (sym one.1.1) so.none;
}
goes_on {D} seen ls rest all l given next old b0 b1 b2 before now is falls so (inr one) = record {
  missing = so.missing + 1;
  adds = λ others last more.
      let here : GivesBackBut seen others rest given last = subst (λ (g : Given). GivesBackBut seen others rest g last) one.0 more in
      let all_others : so.missing + (others + 1) ≡ (so.missing + 1) + others = omega (arith) in
      subst (λ (n : ℕ). GivesBackBut seen n all old last) all_others (so.adds (others + 1) last (subst (λ (ds : List (Lent D)). GivesBackBut seen (others + 1) ds given last) (sym is) (inr (others, (refl, here)))));
  failed = once_more b0 b1 b2 so.missing falls one.1.0 so.failed;
  none = nothing_said now (so.missing + 1 ≡ 0) one.1.1;
}

-- ---- none is left

but_missing : {D : Type 0} (seen : D → Option (List ℕ)) (ls all : List (Lent D)) (given old : Given) (b0 b1 : ℕ) (taken : Result (Unit {0}) Failed) → ls ≡ [] → (so : SoFar seen ls all given old b0 b1 taken) → GivesBackBut seen so.missing all old given
but_missing {D} seen ls all given old b0 b1 taken none so =
    let same : so.missing + 0 ≡ so.missing = omega (arith) in
    subst (λ (n : ℕ). GivesBackBut seen n all old given) same (so.adds 0 given (subst (λ (ds : List (Lent D)). GivesBackBut seen 0 ds given given) (sym none) (refl, refl)))

pub gone_back : {D : Type 0} (seen : D → Option (List ℕ)) (ls all : List (Lent D)) (given old : Given) (b0 b1 : ℕ) (taken : Result (Unit {0}) Failed) → ls ≡ [] → SoFar seen ls all given old b0 b1 taken → GoBack seen all old given b0 b1
gone_back {D} seen ls all given old b0 b1 taken none so = record {
  missing = so.missing;
  given = but_missing seen ls all given old b0 b1 taken none so;
  failed = so.failed;
}

-- all were taken
pub all_back : {D : Type 0} (seen : D → Option (List ℕ)) (ls all : List (Lent D)) (given old : Given) (b0 b1 : ℕ) (taken : Result (Unit {0}) Failed) → ls ≡ [] → SoFar seen ls all given old b0 b1 taken → OnOk taken (GivesBackBut seen 0 all old given)
all_back {D} seen ls all given old b0 b1 (Ok x) none so = subst (λ (n : ℕ). GivesBackBut seen n all old given) so.none (but_missing seen ls all given old b0 b1 (Ok x) none so)
all_back {D} seen ls all given old b0 b1 (Err e) none so = tt

pub all_quiet : {D : Type 0} (seen : D → Option (List ℕ)) (ls all : List (Lent D)) (given old : Given) (b0 b1 : ℕ) (taken : Result (Unit {0}) Failed) → SoFar seen ls all given old b0 b1 taken → OnOk taken (b1 ≡ b0)
all_quiet {D} seen ls all given old b0 b1 (Ok x) so = so.failed.1 so.none
all_quiet {D} seen ls all given old b0 b1 (Err e) so = tt

-- ---- the faults of the disks

pub sum_next : {D : Type 0} (faults : D → ℕ) (ls rest : List (Lent D)) (l : Lent D) (n count next : ℕ) → ls ≡ l ∷ rest → next ≡ counted l.node (faults l.disk) n count → with_faults faults rest n next ≡ with_faults faults ls n count
sum_next {D} faults ls rest l n count next is more =
    ap (with_faults faults rest n) more ∙ ap (λ (ds : List (Lent D)). with_faults faults ds n count) (sym is)

-- ---- the bank's count rose where one wasn't taken

rose_by : (a b c : ℕ) → a ≤ b → b ≤ c → Rose b c → Rose a c
rose_by a b c first later rose = grind arith

rose_then : (a b c : ℕ) → b ≤ c → Rose a b → Rose a c
rose_then a b c later (inl rose) = inl (omega (arith, rose, later))
rose_then a b c later (inr last) = inr last

pub cause_next : (before now : Result (Unit {0}) Failed) (a b c : ℕ) → a ≤ b → b ≤ c → OnErr before (Rose a b) → OnErr now (Rose b c ⊎ (before ≡ now)) → OnErr now (Rose a c)
cause_next before (Ok x) a b c first later so_far one = tt
cause_next before (Err e) a b c first later so_far (inl rose) = rose_by a b c first later rose
cause_next before (Err e) a b c first later so_far (inr same) = rose_then a b c later (subst (λ (r : Result (Unit {0}) Failed). OnErr r (Rose a b)) same so_far)
