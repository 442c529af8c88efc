-- No volume goes with a start where none is flagged.
use Rattle.std.proofs.Common.{◌≡◌, ℕ, false, [], ◌∷◌, refl}
use Rattle.std.specs.List.{AllByRecursion}
use Rattle.afs_num.specs.declared.types.Node.{Node}
use Rattle.spec_ideal.specs.Tables.{Table}
use Rattle.spec_records.specs.Durable.{is_flagged, Stored}
use Rattle.spec_fold.specs.Effects.{vanished_lines}

unflagged : (s : Stored) → s.volume.flags ≡ 0 → is_flagged s ≡ false
unflagged s h = rw h refl

pub none_vanish : (server : Node) (t : Table Stored) → AllByRecursion (λ (p : ℕ × Stored). p.1.volume.flags ≡ 0) t → vanished_lines server t ≡ []
none_vanish server [] all = refl
none_vanish server (p ∷ ps) all = rw (unflagged p.1 all.0) (none_vanish server ps all.1)
