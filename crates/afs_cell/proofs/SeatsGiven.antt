-- One disk after the other goes back.
use Rattle.std.proofs.Common.{refl, arith, append_assoc, ap, ap₂, sym, ◌∙◌, ◌≡◌, ◌+◌, ℕ, List, [], ◌∷◌, ◌++◌, length}
use Rattle.afs_disk.specs.declared.disks.Lent.{Lent}
use Rattle.afs_cell.specs.Lends.{disks_of, lent_from}
use Rattle.afs_cell.specs.Worlds.{WorldState}
use Rattle.afs_host.specs.LocSeated.{loc_seat_disk, DatabaseSeat}
use Rattle.afs_serverhost.specs.Seated.{seat_disk, ServerSeat}

-- nothing is left
pub none_left : {A : Type 0} (xs : List A) (n : ℕ) → n ≡ length xs → n ≡ 0 → xs ≡ []
none_left [] n e none = refl
none_left (x ∷ xs) n e none = absurd (omega (arith, e, none))

-- one disk more goes back
pub gives_on : {D : Type 0} (n : ℕ) (back new all : List (Lent D)) (seat : ServerSeat D) (seats rest : List (ServerSeat D)) (d : D) → seats ≡ seat ∷ rest → new ≡ back ++ record { node = n + 1; disk = d } ∷ [] → d ≡ seat_disk seat → back ++ lent_from (n + 1) seats ≡ all
    → new ++ lent_from ((n + 1) + 1) rest ≡ all
gives_on {D} n back new all seat seats rest d are given is so_far =
    ap (λ (ls : List (Lent D)). ls ++ lent_from ((n + 1) + 1) rest) given
    ∙ (append_assoc back (record { node = n + 1; disk = d } ∷ []) (lent_from ((n + 1) + 1) rest)
    ∙ (ap (λ (x : D). back ++ record { node = n + 1; disk = x } ∷ lent_from ((n + 1) + 1) rest) is
    ∙ (ap (λ (ss : List (ServerSeat D)). back ++ lent_from (n + 1) ss) (sym are) ∙ so_far)))

-- the location database's goes back first, and then those of the servers
pub all_given : {D : Type 0} (w : WorldState D) (back one all : List (Lent D)) (seat : DatabaseSeat D) (seats : List (ServerSeat D)) (d : D) → back ≡ [] → one ≡ back ++ record { node = 0; disk = d } ∷ [] → d ≡ loc_seat_disk seat → seat ≡ w.database → all ≡ one ++ lent_from 1 seats → seats ≡ w.servers
    → all ≡ disks_of w
all_given {D} w back one all seat seats d none put is from given are =
    given
    ∙ ap₂ (λ (ls : List (Lent D)) (ss : List (ServerSeat D)). ls ++ lent_from 1 ss)
    (put ∙ (ap (λ (ls : List (Lent D)). ls ++ record { node = 0; disk = d } ∷ []) none ∙ ap (λ (x : D). record { node = 0; disk = x } ∷ []) (is ∙ ap (λ (s : DatabaseSeat D). loc_seat_disk s) from)))
    are
