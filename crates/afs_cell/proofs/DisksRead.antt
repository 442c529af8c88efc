-- The disks of the servers can be read at the end of a run.
use Rattle.std.proofs.Common.{refl, arith, append_assoc, append-nil, ap, sym, subst, ◌∙◌, ◌≡◌, ◌+◌, ◌≤◌, ℕ, zero, suc, List, [], ◌∷◌, ◌++◌, length, false, Option}
use Rattle.afs_num.specs.declared.types.Node.TheVariants.{Server}
use Rattle.spec_history.specs.declared.scripts.Script.{Script}
use Rattle.afs_volstore.specs.Stores.{Store}
use Rattle.afs_host.specs.declared.seats.Seat.TheVariants.{Down, Up}
use Rattle.afs_final.specs.Reading.{AreFound, IsRead}
use Rattle.afs_final.specs.declared.reading.Left.{Left}
use Rattle.afs_clients.specs.Places.{Each}
use Rattle.afs_cell.specs.Readable.{AreReadable, IsOpen, IsReadable}
use Rattle.afs_cell.specs.Lends.{lent_from}
use Rattle.afs_cell.specs.Worlds.{IsSafe, WorldState}
use Rattle.afs_serverhost.specs.Seated.{seat_disk, IsReadySeat, ServerSeat}
use Rattle.afs_clients.proofs.Handed.{server_is_node}

-- ---- each can be read

tail_is : {A : Type 0} (P : A → Type 0) (x : A) (xs : List A) → Each (λ (n : ℕ) (y : A). P y) (x ∷ xs) → Each (λ (n : ℕ) (y : A). P y) xs
tail_is P x [] h n y e = absurd cc
tail_is P x (z ∷ zs) h zero y e = absurd cc
tail_is P x (z ∷ zs) h (suc n) y e = h (suc (suc n)) y e

open_of : {D : Type 0} (i entries : ℕ) (s : ServerSeat D) → IsReadySeat (Server i) entries s → IsOpen s
open_of {D} i entries (Up r) ready = ready.can_run.up
open_of {D} i entries (Down x) ready = tt

readable_from : {D : Type 0} (limit : D → ℕ) (capacity i : ℕ) (ss : List (ServerSeat D)) → Each (λ (n : ℕ) (s : ServerSeat D). IsOpen s) ss → Each (λ (n : ℕ) (s : ServerSeat D). limit (seat_disk s) ≡ capacity) ss → capacity ≤ 268435456 → 1 ≤ i → i + length ss ≤ 9 → AreReadable limit i ss
readable_from {D} limit capacity i [] up hold short low few = tt
readable_from {D} limit capacity i (s ∷ ss) up hold short low few =
    let size : limit (seat_disk s) ≡ capacity = hold 1 s refl in (
      record { node = server_is_node i low (omega (arith, few)); short = omega (arith, size, short); open_is = up 1 s refl },
      readable_from limit capacity (i + 1) ss (tail_is IsOpen s ss up) (tail_is (λ (x : ServerSeat D). limit (seat_disk x) ≡ capacity) s ss hold) short (omega (arith, low)) (omega (arith, few)),
    )

pub readable : {D : Type 0} (limit : D → ℕ) (s : Script) (w : WorldState D) → IsSafe limit s w → w.is_lost ≡ false → AreReadable limit 1 w.servers
readable {D} limit s w safe going =
    readable_from limit s.capacity 1 w.servers (λ n seat at. open_of n (length w.history) seat (safe.servers going n seat at)) safe.disks.1 safe.cell_script.capacity.1 (omega arith) (omega (arith, safe.server_count, safe.cell_script.servers.1))
