-- What is found in the vnodes of a volume as they are seen.
use Rattle.std.proofs.Common.{◌≡◌, ℕ, Bool, true, false, [], ◌∷◌, Option, Some, nat_eq, nat_lt, ◌+◌, refl, if◌then◌else◌}
use Rattle.std.specs.Option.{option_map}
use Rattle.afs_num.specs.declared.vnodes.Vnode as image
use Rattle.spec_ideal.specs.Tables.{Table, get, lowest_free}
use Rattle.spec_ideal.specs.Volumes as ideal
use Rattle.afs_volume.specs.Seen.{seen, all_seen}

got_by : (b : Bool) (x : image.Vnode) (o : Option image.Vnode) (p : Option ideal.Vnode) → p ≡ option_map seen o → (if b then Some (seen x) else p) ≡ option_map seen (if b then Some x else o)
got_by true x o p e = refl
got_by false x o p e = e

pub got : (n : ℕ) (t : Table image.Vnode) → get n (all_seen t) ≡ option_map seen (get n t)
unfolding all_seen
got n [] = refl
got n (p ∷ ps) = got_by (nat_eq p.0 n) p.1 (get n ps) (get n (all_seen ps)) (got n ps)

free_by : (b l : Bool) (n : ℕ) (x : image.Vnode) (m k : ℕ) → m ≡ k → (c d : ℕ) → c ≡ d → (if b then c else (if l then n else m)) ≡ (if b then d else (if l then n else k))
free_by b l n x m k e c d f = rw (e, f) refl

pub free_seen : (n : ℕ) (t : Table image.Vnode) → lowest_free n (all_seen t) ≡ lowest_free n t
unfolding all_seen
free_seen n [] = refl
free_seen n (p ∷ ps) = free_by (nat_eq p.0 n) (nat_lt n p.0) n p.1 (lowest_free n (all_seen ps)) (lowest_free n ps) (free_seen n ps) (lowest_free (n + 2) (all_seen ps)) (lowest_free (n + 2) ps) (free_seen (n + 2) ps)
