-- The lines of a change in words.
use Rattle.std.specs.Prelude.{ℕ, List, [], ◌∷◌, Option, Some, None, map, slice_get}
use Rattle.afs_num.specs.declared.histories.Version.{Version}
use Rattle.spec_ideal.specs.Images.{Image, value_of}
use Rattle.spec_ideal.specs.Tables.{Table, get}
use Rattle.spec_ideal.specs.Volumes.{Vnode, Volume, version_at}
use Rattle.spec_records.specs.Durable.{gone_versions}
pub use Rattle.afs_shelves.specs.Words.{version_within, in_words}

-- ---- what becomes of each vnode, by the place of its image

abbrev pub value_there : Option Image → Option Vnode
value_there None = None
value_there (Some x) = value_of x

abbrev pub outcome_at : List Image → Option ℕ → Option Vnode
outcome_at is None = None
outcome_at is (Some i) = value_there (slice_get is i)

abbrev pub outcomes_seen : List Image → Table (Option ℕ) → Table (Option Vnode)
outcomes_seen is t = map (λ (p : ℕ × Option ℕ). (p.0, outcome_at is p.1)) t

-- what one of them tells
abbrev pub told_at : ℕ → Volume → ℕ → Option Vnode → List Version
told_at id v n (Some x) = version_at id n x ∷ []
told_at id v n None = gone_versions id n (get n v.vnodes)
