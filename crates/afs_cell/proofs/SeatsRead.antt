-- The disks of the servers are read, one after the other.
use Rattle.std.proofs.Common.{append_assoc, append-nil, ap, sym, subst, ◌∙◌, ◌≡◌, ◌+◌, ℕ, List, [], ◌∷◌, ◌++◌, Option}
use Rattle.afs_volstore.specs.Stores.{Store}
use Rattle.afs_final.specs.Reading.{AreFound, IsRead}
use Rattle.afs_final.specs.declared.reading.Left.{Left}
use Rattle.afs_cell.specs.Readable.{AreReadable, IsReadable}
use Rattle.afs_cell.specs.Lends.{lent_from}
use Rattle.afs_serverhost.specs.Seated.{seat_disk, ServerSeat}

-- so far as servers' disks were read, whatever is found on the others
abbrev pub Completes : {D : Type 0} (seen : D → Option (List ℕ)) (faults limit : D → ℕ) (seats : List (ServerSeat D)) (node : ℕ) (rest : List (ServerSeat D)) (found : List (Left (Store D) D)) → Type 0
Completes {D} seen faults limit seats node rest found = (fs : List (Left (Store D) D)) → AreFound seen faults limit (lent_from (node + 1) rest) fs → AreFound seen faults limit (lent_from 1 seats) (found ++ fs)

pub none_found : {D : Type 0} (seen : D → Option (List ℕ)) (faults limit : D → ℕ) (seats rest : List (ServerSeat D)) (found : List (Left (Store D) D)) → rest ≡ seats → found ≡ [] → Completes seen faults limit seats 0 rest found
none_found {D} seen faults limit seats rest found all none fs h =
    subst (λ (gs : List (Left (Store D) D)). AreFound seen faults limit (lent_from 1 seats) (gs ++ fs)) (sym none) (subst (λ (ss : List (ServerSeat D)). AreFound seen faults limit (lent_from 1 ss) fs) all h)

pub one_found : {D : Type 0} (seen : D → Option (List ℕ)) (faults limit : D → ℕ) (seats : List (ServerSeat D)) (node : ℕ) (rest more : List (ServerSeat D)) (found longer : List (Left (Store D) D)) (s : ServerSeat D) (f : Left (Store D) D)
    → more ≡ s ∷ rest → longer ≡ found ++ f ∷ [] → IsRead seen faults limit (seat_disk s) f → Completes seen faults limit seats node more found → Completes seen faults limit seats (node + 1) rest longer
one_found {D} seen faults limit seats node rest more found longer s f first put read all fs h =
    let whole : AreFound seen faults limit (lent_from 1 seats) (found ++ f ∷ fs) = all (f ∷ fs) (subst (λ (ss : List (ServerSeat D)). AreFound seen faults limit (lent_from (node + 1) ss) (f ∷ fs)) (sym first) (read, h)) in
    subst (λ (gs : List (Left (Store D) D)). AreFound seen faults limit (lent_from 1 seats) gs) (sym (ap (λ (gs : List (Left (Store D) D)). gs ++ fs) put ∙ append_assoc found (f ∷ []) fs)) whole

pub all_found : {D : Type 0} (seen : D → Option (List ℕ)) (faults limit : D → ℕ) (seats : List (ServerSeat D)) (node : ℕ) (rest : List (ServerSeat D)) (found : List (Left (Store D) D))
    → rest ≡ [] → Completes seen faults limit seats node rest found → AreFound seen faults limit (lent_from 1 seats) found
all_found {D} seen faults limit seats node rest found none all =
    subst (λ (gs : List (Left (Store D) D)). AreFound seen faults limit (lent_from 1 seats) gs) (append-nil found) (all [] (subst (λ (ss : List (ServerSeat D)). AreFound seen faults limit (lent_from (node + 1) ss) []) (sym none) tt))

pub next_readable : {D : Type 0} (limit : D → ℕ) (i : ℕ) (rest more : List (ServerSeat D)) (s : ServerSeat D) → more ≡ s ∷ rest → AreReadable limit i more → IsReadable limit i s × AreReadable limit (i + 1) rest
next_readable {D} limit i rest more s first h = subst (λ (ss : List (ServerSeat D)). AreReadable limit i ss) first h
