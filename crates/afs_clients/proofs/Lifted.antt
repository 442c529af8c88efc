-- A client in its place was given something.
use Rattle.std.proofs.Common.{refl, arith, ap, sym, ◌∙◌, ◌≡◌, inl, inr, ℕ, List, None, Some}
use Rattle.afs_num.specs.Places.{at_place}
use Rattle.spec_history.specs.declared.lines.Outs.{Outs}
use Rattle.spec_history.specs.declared.scripts.Script.{Script}
use Rattle.afs_clients.specs.Happening.{ClientGoes, ClientHappens, ClientsHappened}
use Rattle.afs_clients.specs.Places.{put_place, Room}
use Rattle.afs_clients.specs.Seating.{GoesOn, IsHanded}
use Rattle.afs_clients.specs.declared.clients.ClientSeat.{ClientSeat}
use Rattle.afs_clients.specs.declared.happening.Happened.{Happened}
use Rattle.afs_clients.specs.declared.happening.Happened.TheVariants as happened

-- it was given it in its place
pub client_changed : (s : Script) (n : ℕ) (IsVoid : ClientSeat → Type 0) (Takes : ClientSeat → ClientSeat → Outs → Type 0) (old : List ClientSeat) (was now : ClientSeat) → at_place old n ≡ Some was → (new : List ClientSeat) (what : Happened) → new ≡ put_place n now old
    → ClientHappens IsVoid Takes was now what → ClientGoes s n was now what → ClientsHappened s n IsVoid Takes old new what
client_changed s n IsVoid Takes old was now found new what put happens goes = inr (record { was = was; now = now; found = found; put = put; happens = happens; goes = goes })

pub no_client : (s : Script) (n : ℕ) (IsVoid : ClientSeat → Type 0) (Takes : ClientSeat → ClientSeat → Outs → Type 0) (old new : Room ClientSeat) → at_place old.items n ≡ None → new ≡ old → ClientsHappened s n IsVoid Takes old.items new.items happened.Nothing
no_client s n IsVoid Takes old new none same = inl (record { none = none; same = λ j. (same j).items; nothing = refl })

-- what the client was handed stays
pub goes_from : (s : Script) (n : ℕ) (old new : ClientSeat) (what : Happened) → IsHanded s n old → GoesOn old new → ClientGoes s n old new what
goes_from s n old new what h g = record {
  handed = record {
    node = g.node ∙ h.node;
    epoch = ap (λ (x : List ℕ × (ℕ × ℕ)). x.1.1) g.kept ∙ (h.epoch ∙ sym g.epoch);
    capacity = ap (λ (x : List ℕ × (ℕ × ℕ)). x.1.0) g.kept ∙ h.capacity;
    user = ap (λ (x : List ℕ × (ℕ × ℕ)). x.0) g.kept ∙ h.user;
    acts = g.acts h.acts;
  };
  epoch = omega (arith, g.epoch);
  last = g.last;
}
