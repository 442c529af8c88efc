-- Worked histories: changes under keys of their own; and some that are refused, each for one reason.
use Rattle.std.proofs.Common.{◌≡◌, ℕ, [], ◌∷◌, refl, ap}
use Rattle.afs_num.specs.declared.histories.Actor.TheVariants as actors
use Rattle.afs_num.specs.declared.types.Key.{Key}
use Rattle.afs_num.specs.declared.types.Node.TheVariants.{Client, Server}
use Rattle.spec_history.specs.declared.lines.Line.TheVariants as lines
use Rattle.law_legal.specs.Once.{ChangesOnce}
use Rattle.spec_rows.specs.Runs.{Entry}

-- the keys of clients' calls
abbrev key : ℕ → ℕ → ℕ → Key
key client epoch n = record { node = Client client; epoch = epoch; number = n }

-- an entry of this server, in which it changes something under this key
abbrev changes : ℕ → Key → Entry
changes server k = record { actor = actors.Node (Server server); lines = lines.Change (Server server) k 0 ∷ []; sent = []; volumes = [] }

-- ---- the client's next call, the same number of another client, and that of the same client when it has begun again

apart : ChangesOnce (changes 1 (key 1 1 1) ∷ changes 2 (key 1 1 2) ∷ changes 2 (key 2 1 1) ∷ changes 1 (key 1 2 1) ∷ [])
apart = (
  (λ e. let x : Client 1 ≡ Client 2 = ap (λ (k : Key). k.node) e in absurd cc, (λ e. let x : 2 ≡ 1 = ap (λ (k : Key). k.epoch) e in absurd cc, (λ e. let x : 2 ≡ 1 = ap (λ (k : Key). k.epoch) e in absurd cc, tt))),
  (
    (λ e. let x : Client 2 ≡ Client 1 = ap (λ (k : Key). k.node) e in absurd cc, (λ e. let x : Client 2 ≡ Client 1 = ap (λ (k : Key). k.node) e in absurd cc, tt)),
    ((λ e. let x : 2 ≡ 1 = ap (λ (k : Key). k.number) e in absurd cc, tt), (tt, tt)),
  ),
)

-- ---- refused

-- a call that is run again where it ran
twice : ChangesOnce (changes 1 (key 1 1 1) ∷ changes 1 (key 1 1 1) ∷ []) → ⊥
twice h = h.0.0 refl

-- a call that changed something, and is run again by the server to which its volume went since
twice_elsewhere : ChangesOnce (changes 1 (key 1 1 1) ∷ changes 2 (key 1 1 1) ∷ []) → ⊥
twice_elsewhere h = h.0.0 refl

-- it is run again there after other changes
twice_later : ChangesOnce (changes 1 (key 1 1 1) ∷ changes 2 (key 1 1 2) ∷ changes 2 (key 1 1 1) ∷ []) → ⊥
twice_later h = h.0.1.0 refl
