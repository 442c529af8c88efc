-- An administrator in its place was given something.
use Rattle.std.proofs.Common.{refl, arith, ap, sym, ◌∙◌, ◌≡◌, inl, inr, ℕ, List, None, Some}
use Rattle.afs_num.specs.Places.{at_place}
use Rattle.spec_history.specs.declared.lines.Outs.{Outs}
use Rattle.spec_history.specs.declared.scripts.Script.{Script}
use Rattle.afs_clients.specs.Happening.{DisklessHappens}
use Rattle.afs_clients.specs.Places.{put_place}
use Rattle.afs_clients.specs.declared.happening.Happened.{Happened}
use Rattle.afs_admins.specs.Happening.{AdminGoes, AdminsHappened}
use Rattle.afs_admins.specs.Seating.{GoesOn, IsSeated}
use Rattle.afs_admins.specs.declared.admins.AdminSeat.{AdminSeat}

-- it was given it in its place
pub admin_changed : (s : Script) (n : ℕ) (IsVoid : AdminSeat → Type 0) (Takes : AdminSeat → AdminSeat → Outs → Type 0) (old : List AdminSeat) (was now : AdminSeat) → at_place old n ≡ Some was → (new : List AdminSeat) (what : Happened) → new ≡ put_place n now old
    → DisklessHappens IsVoid Takes was now what → AdminGoes s n was now → AdminsHappened s n IsVoid Takes old new what
admin_changed s n IsVoid Takes old was now found new what put happens goes = inr (record { was = was; now = now; found = found; put = put; happens = happens; goes = goes })

-- it stays the one that it was
pub goes_from : (s : Script) (n : ℕ) (old new : AdminSeat) → IsSeated s n old → GoesOn old new → AdminGoes s n old new
goes_from s n old new h g = record {
  seated = record {
    node = g.node ∙ h.node;
    epoch = ap (λ (x : ℕ × ℕ). x.1) g.kept ∙ (h.epoch ∙ sym g.epoch);
    servers = ap (λ (x : ℕ × ℕ). x.0) g.kept ∙ h.servers;
    acts = g.acts h.acts;
  };
  epoch = omega (arith, g.epoch);
  last = g.last;
}
