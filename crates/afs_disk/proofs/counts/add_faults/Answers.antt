use Rattle.std.specs.Prelude.{◌≡◌, ◌+◌, ◌<◌, ◌⊎◌, ◌≢◌, ℕ, List, length, min, true, false, get_or, nat_eq, if◌then◌else◌, set}
use Rattle.std.proofs.Common.{subst, ◌∙◌, inl, inr, arith}
use Rattle.std.proofs.lemmas.Bool.Decides.{eqb_tells}
use Rattle.std.proofs.lemmas.List.{get_or-set_other, get_or-set_same}
use Rattle.afs_disk.specs.Fuses.{last_of_counter}
use Rattle.afs_disk.proofs.counts.add_faults.Goals as goal

-- a list with one count raised
raised : (counts : List ℕ) (node faults count n : ℕ) → node < length counts → count ≡ min (get_or counts node 0 + faults) last_of_counter
    → get_or (set counts node count) n 0 ≡ (if nat_eq node n then min (get_or counts n 0 + faults) last_of_counter else get_or counts n 0)
raised counts node faults count n inside is = either (eqb_tells node n) where
  either : ((nat_eq node n ≡ true) × (node ≡ n)) ⊎ ((nat_eq node n ≡ false) × (node ≢ n)) → get_or (set counts node count) n 0 ≡ (if nat_eq node n then min (get_or counts n 0 + faults) last_of_counter else get_or counts n 0)
  either (inl (same, e)) = rw same (subst (λ (k : ℕ). get_or (set counts node count) k 0 ≡ min (get_or counts k 0 + faults) last_of_counter) e (get_or-set_same counts node count 0 inside ∙ is))
  either (inr (other, e)) = rw other (get_or-set_other counts node n count 0 (λ h. e (omega (arith, h))))

pub returns : goal.returns
returns c = λ n. raised c.args.counts.now c.args.node c.args.faults c.saturating_add.result n (omega (arith, c.told-counts, c.ranges.node.fits)) c.saturating_add.ensures
