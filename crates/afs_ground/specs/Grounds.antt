-- When a ground lays the volumes of a script.
use Rattle.std.specs.Prelude.{◌≡◌, ℕ, ◌+◌, List, [], ◌∷◌, length, nat_eq, if◌then◌else◌}
use Rattle.spec_ideal.specs.SetUp.{first_volume}
use Rattle.spec_history.specs.declared.scripts.VolumeLine.{VolumeLine}
use Rattle.afs_volume.specs.Giving.{volume_of}
use Rattle.afs_grammar.specs.Lines.{filled_up}
use Rattle.afs_grammar.specs.Sizes.{volume_size}
use Rattle.afs_ground.specs.declared.laid.Laid.{Laid}

-- the volume is the one that this line and the lines laid in it make, and its lengths are counted
pub record IsLaid (g : Laid) (l : VolumeLine) : Type 0 where
  pub server : g.server ≡ l.server
  pub id : g.volume.head.id ≡ l.id
  pub volume : volume_of g.volume ≡ first_volume l
  pub name : g.name ≡ filled_up (length l.name)
  pub size : g.size ≡ volume_size (first_volume l)

-- each volume is that of its line
abbrev pub AreLaid : List Laid → List VolumeLine → Type 0
AreLaid [] [] = Unit {0}
AreLaid (g ∷ gs) (l ∷ ls) = IsLaid g l × AreLaid gs ls
AreLaid gs ls = ⊥

-- the volumes have numbers from this one on
abbrev pub AreNumbered : ℕ → List VolumeLine → Type 0
AreNumbered n [] = Unit {0}
AreNumbered n (l ∷ ls) = (l.id ≡ n) × AreNumbered (n + 1) ls

pub record IsGround (gs : List Laid) (ls : List VolumeLine) : Type 0 where
  pub volumes : AreLaid gs ls
  pub numbers : AreNumbered 536870912 ls

-- how long the volumes of a server are in its first record
abbrev pub sizes_at : ℕ → List Laid → ℕ
sizes_at server [] = 0
sizes_at server (g ∷ gs) = (if nat_eq g.server server then g.size else 0) + sizes_at server gs

-- how long the entries of the volumes are in that of the location database
abbrev pub names_size : List Laid → ℕ
names_size [] = 0
names_size (g ∷ gs) = (44 + g.name) + names_size gs
