-- The servers at set-up, one after the other, and the disks that are handed back.
use Rattle.afs_lending.specs.Lending.{AreLent}
use Rattle.std.proofs.Common.{refl, append_assoc, arith, ap, sym, subst, ◌∙◌, ◌≡◌, ◌≤◌, ◌+◌, inl, inr, ℕ, zero, suc, List, [], ◌∷◌, ◌++◌, length, Option}
use Rattle.afs_num.specs.declared.types.Node.{Node}
use Rattle.afs_num.specs.declared.types.Node.TheVariants.{Server}
use Rattle.spec_history.specs.declared.scripts.Script.{Script}
use Rattle.afs_disk.specs.Disk.{Rose}
use Rattle.afs_disk.specs.declared.disks.Lent.{Lent}
use Rattle.afs_serverhost.specs.Seats.{ServerRunning}
use Rattle.afs_host.specs.declared.seats.Seat.TheVariants.{Down, Up}
use Rattle.afs_cell.specs.Ends.{disk_node, AreLeft, IsRefused, IsRefusedBy, NoneFell, NoneRose, RoseAt}
use Rattle.afs_cell.specs.FirstSeats.{AreBack, AreFirstSeats, IsBack, IsFirstSeat, IsFirstServer, IsRefusedAt}
use Rattle.afs_cell.specs.Lends.{lent_from}
use Rattle.afs_serverhost.specs.Seated.{seat_disk, ServerSeat}
use Rattle.afs_cell.specs.declared.faults.SetupFault.{SetupFault}
use Rattle.afs_cell.specs.declared.faults.SetupFault.TheVariants as setup
use Rattle.afs_cell.proofs.FirstStores.{same_back}

abbrev handed : {D : Type 0} → Lent D → D → Lent D
handed {D} l d = record { node = l.node; disk = d }

-- a server's number is that of a node with a disk
server_number : (i : ℕ) → 1 ≤ i → Server i ≡ disk_node i
server_number zero some = absurd (omega (arith, some))
server_number (suc i) some = refl

-- all disks are handed back, and if one of them is why, its count of faults rose
pub record IsRefusedSetUp {D : Type 0} (seen : D → Option (List ℕ)) (may_leave : D → List ℕ → Type 0) (faults limit : D → ℕ) (s : Script) (disks : List (Lent D)) (e : SetupFault × List (Lent D)) : Type 0 where
  pub back : AreBack seen may_leave faults limit s 1 disks e.1
  pub cause : IsRefusedBy faults 1 disks e.0 e.1

pub length_lent : {D : Type 0} (i : ℕ) (ss : List (ServerSeat D)) → length (lent_from i ss) ≡ length ss
length_lent {D} i [] = refl
length_lent {D} i (s ∷ ss) = ap (λ (n : ℕ). suc n) (length_lent (i + 1) ss)

-- as the program gives them
pub handed_all : {D : Type 0} (back one two three all ls rest : List (Lent D)) (x : Lent D) → back ≡ [] → one ≡ back ++ ls → two ≡ one ++ x ∷ [] → three ≡ two ++ rest → all ≡ three → all ≡ ls ++ (x ∷ rest)
handed_all {D} back one two three all ls rest x none a b c d =
    d ∙ (c ∙ (ap (λ (bs : List (Lent D)). bs ++ rest) (b ∙ ap (λ (bs : List (Lent D)). bs ++ x ∷ []) (a ∙ ap (λ (bs : List (Lent D)). bs ++ ls) none)) ∙ append_assoc ls (x ∷ []) rest))

module _ {D : Type 0} (seen : D → Option (List ℕ)) (may_leave : D → List ℕ → Type 0) (faults limit : D → ℕ) (s : Script) where
  -- one server more
  pub one_seat_more : (i j : ℕ) (ls : List (Lent D)) (seats : List (ServerSeat D)) (l : Lent D) (rest : List (Lent D)) (r : ServerRunning D) → AreFirstSeats seen may_leave faults limit s i ls seats (l ∷ rest) → j ≡ i + length seats → IsFirstServer seen may_leave faults limit s j l.disk r
      → AreFirstSeats seen may_leave faults limit s i ls (seats ++ Up r ∷ []) rest
  one_seat_more i j ls [] l rest r e at first =
      let here : j ≡ i = omega (arith, at) in
      subst (λ (xs : List (Lent D)). AreFirstSeats seen may_leave faults limit s i xs (Up r ∷ []) rest) (sym e) (subst (λ (k : ℕ). IsFirstServer seen may_leave faults limit s k l.disk r) here first, refl)
  one_seat_more i j [] (seat ∷ seats) l rest r h at first = absurd h
  one_seat_more i j (k ∷ ls) (seat ∷ seats) l rest r h at first = (h.0, one_seat_more (i + 1) j ls seats l rest r h.1 (omega (arith, at)) first)

  -- the disk that comes next is that of the next number
  pub next_lent : (capacity i : ℕ) (ls : List (Lent D)) (seats : List (ServerSeat D)) (l : Lent D) (rest : List (Lent D)) → AreLent limit capacity i ls → AreFirstSeats seen may_leave faults limit s i ls seats (l ∷ rest) → (l.node ≡ i + length seats) × (limit l.disk ≡ capacity)
  next_lent capacity i ls [] l rest lent e =
      let here : AreLent limit capacity i (l ∷ rest) = subst (λ (xs : List (Lent D)). AreLent limit capacity i xs) e lent in
      (let node = here.0 in omega (arith, node), here.1.0)
  next_lent capacity i [] (seat ∷ seats) l rest lent h = absurd h
  next_lent capacity i (k ∷ ls) (seat ∷ seats) l rest lent h =
      let more = next_lent capacity (i + 1) ls seats l rest lent.1.1 h.1 in
      (let node = more.0 in omega (arith, node), more.1)

  pub count_seats : (i : ℕ) (ls : List (Lent D)) (seats : List (ServerSeat D)) (rest : List (Lent D)) → AreFirstSeats seen may_leave faults limit s i ls seats rest → length ls ≡ length seats + length rest
  count_seats i ls [] rest e =
      let same = ap (λ (xs : List (Lent D)). length xs) e in
      omega (arith, same)
  count_seats i [] (seat ∷ seats) rest h = absurd h
  count_seats i (k ∷ ls) (seat ∷ seats) rest h =
      let more = count_seats (i + 1) ls seats rest h.1 in
      omega (arith, more)

  -- the disk that comes next, behind those of the servers that stand
  pub record ComesNext (capacity : ℕ) (ls : List (Lent D)) (seats : List (ServerSeat D)) (l : Lent D) (rest : List (Lent D)) : Type 0 where
    pub first : AreFirstSeats seen may_leave faults limit s 1 ls seats (l ∷ rest)
    pub node : l.node ≡ 1 + length seats
    pub room : limit l.disk ≡ capacity
    pub count : length ls ≡ length seats + suc (length rest)

  pub comes_next : (capacity : ℕ) (ls : List (Lent D)) (seats : List (ServerSeat D)) (left : List (Lent D)) (l : Lent D) (rest : List (Lent D)) → left ≡ l ∷ rest → AreLent limit capacity 1 ls → AreFirstSeats seen may_leave faults limit s 1 ls seats left → ComesNext capacity ls seats l rest
  comes_next capacity ls seats left l rest e lent first =
      let here = subst (λ (xs : List (Lent D)). AreFirstSeats seen may_leave faults limit s 1 ls seats xs) e first in
      let at = next_lent capacity 1 ls seats l rest lent here in
      record { first = here; node = at.0; room = at.1; count = count_seats 1 ls seats (l ∷ rest) here }

  -- ---- disks go back

  pub all_same : (i : ℕ) (ls : List (Lent D)) → AreBack seen may_leave faults limit s i ls ls
  all_same i [] = tt
  all_same i (l ∷ ls) = (refl, (same_back seen may_leave faults limit s i l.disk, all_same (i + 1) ls))

  seat_back : (i : ℕ) (old : D) (seat : ServerSeat D) → IsFirstSeat seen may_leave faults limit s i old seat → IsBack seen may_leave faults limit s i old (seat_disk seat)
  seat_back i old (Up r) h = record { same_limit = h.same_limit; no_fewer = (let quiet = h.quiet in omega (arith, quiet)); left = h.left }
  seat_back i old (Down r) h = absurd h

  -- those of the servers that were set up, the one that was refused, and the rest
  seats_back : (capacity i j : ℕ) (ls : List (Lent D)) (seats : List (ServerSeat D)) (l : Lent D) (rest : List (Lent D)) (d : D) → AreLent limit capacity i ls → AreFirstSeats seen may_leave faults limit s i ls seats (l ∷ rest) → j ≡ i + length seats → IsBack seen may_leave faults limit s j l.disk d
      → AreBack seen may_leave faults limit s i ls (lent_from i seats ++ (handed l d ∷ rest))
  seats_back capacity i j ls [] l rest d lent e at back =
      let here : j ≡ i = omega (arith, at) in
      subst (λ (xs : List (Lent D)). AreBack seen may_leave faults limit s i xs (handed l d ∷ rest)) (sym e) (refl, (subst (λ (k : ℕ). IsBack seen may_leave faults limit s k l.disk d) here back, all_same (i + 1) rest))
  seats_back capacity i j [] (seat ∷ seats) l rest d lent h at back = absurd h
  seats_back capacity i j (k ∷ ls) (seat ∷ seats) l rest d lent h at back = (sym lent.0, (seat_back i k.disk seat h.0, seats_back capacity (i + 1) j ls seats l rest d lent.1.1 h.1 (omega (arith, at)) back))

  -- the disks of the servers that were set up didn't fail, nor the one that was refused where it didn't, and the rest is untouched
  pub none_rose : (ls : List (Lent D)) → NoneRose faults ls ls
  none_rose [] = tt
  none_rose (l ∷ ls) = (omega (arith), none_rose ls)

  seat_quiet : (i : ℕ) (old : D) (seat : ServerSeat D) → IsFirstSeat seen may_leave faults limit s i old seat → faults (seat_disk seat) ≤ faults old
  seat_quiet i old (Up r) h =
      let quiet = h.quiet in
      omega (arith, quiet)
  seat_quiet i old (Down r) h = absurd h

  none_rose_at : (i : ℕ) (ls : List (Lent D)) (seats : List (ServerSeat D)) (l : Lent D) (rest : List (Lent D)) (d : D) → AreFirstSeats seen may_leave faults limit s i ls seats (l ∷ rest) → faults d ≡ faults l.disk → NoneRose faults ls (lent_from i seats ++ (handed l d ∷ rest))
  none_rose_at i ls [] l rest d e quiet = subst (λ (xs : List (Lent D)). NoneRose faults xs (handed l d ∷ rest)) (sym e) (omega (arith, quiet), none_rose rest)
  none_rose_at i [] (seat ∷ seats) l rest d h quiet = absurd h
  none_rose_at i (k ∷ ls) (seat ∷ seats) l rest d h quiet = (seat_quiet i k.disk seat h.0, none_rose_at (i + 1) ls seats l rest d h.1 quiet)

  rose_at : (i j : ℕ) (ls : List (Lent D)) (seats : List (ServerSeat D)) (l : Lent D) (rest : List (Lent D)) (n : Node) (d : D) → AreFirstSeats seen may_leave faults limit s i ls seats (l ∷ rest) → j ≡ i + length seats → n ≡ disk_node j → Rose (faults l.disk) (faults d)
      → RoseAt faults n i ls (lent_from i seats ++ (handed l d ∷ rest))
  rose_at i j ls [] l rest n d e at named rose =
      let here : j ≡ i = omega (arith, at) in
      subst (λ (xs : List (Lent D)). RoseAt faults n i xs (handed l d ∷ rest)) (sym e) (inl (subst (λ (k : ℕ). n ≡ disk_node k) here named, (rose, none_rose rest)))
  rose_at i j [] (seat ∷ seats) l rest n d h at named rose = absurd h
  rose_at i j (k ∷ ls) (seat ∷ seats) l rest n d h at named rose = inr (seat_quiet i k.disk seat h.0, rose_at (i + 1) j ls seats l rest n d h.1 (omega (arith, at)) named rose)

  cause_by : (fault : SetupFault) (j : ℕ) (ls : List (Lent D)) (seats : List (ServerSeat D)) (l : Lent D) (rest : List (Lent D)) (d : D) → AreFirstSeats seen may_leave faults limit s 1 ls seats (l ∷ rest) → j ≡ 1 + length seats → IsRefusedAt seen may_leave faults limit s j l.disk (fault, d)
      → IsRefusedBy faults 1 ls fault (lent_from 1 seats ++ (handed l d ∷ rest))
  cause_by (setup.Disk n) j ls seats l rest d h at refused = rose_at 1 j ls seats l rest n d h at (refused.cause.0 ∙ server_number j (omega (arith, at))) refused.cause.1
  cause_by setup.OutOfMemory j ls seats l rest d h at refused = none_rose_at 1 ls seats l rest d h refused.cause

  pub refused_set_up : (capacity j : ℕ) (ls : List (Lent D)) (seats : List (ServerSeat D)) (l : Lent D) (rest : List (Lent D)) (fault : SetupFault) (d : D) → AreLent limit capacity 1 ls → AreFirstSeats seen may_leave faults limit s 1 ls seats (l ∷ rest) → j ≡ 1 + length seats
      → IsRefusedAt seen may_leave faults limit s j l.disk (fault, d) → IsRefusedSetUp seen may_leave faults limit s ls (fault, lent_from 1 seats ++ (handed l d ∷ rest))
  refused_set_up capacity j ls seats l rest fault d lent first at refused = record {
    back = seats_back capacity 1 j ls seats l rest d lent first at refused.back;
    cause = cause_by fault j ls seats l rest d first at refused;
  }

  -- ---- what a refusal tells

  pub none_fell : (i : ℕ) (olds news : List (Lent D)) → AreBack seen may_leave faults limit s i olds news → NoneFell faults olds news
  none_fell i [] news h = tt
  none_fell i (a ∷ olds) [] h = absurd h
  none_fell i (a ∷ olds) (b ∷ news) h = (h.1.0.no_fewer, none_fell (i + 1) olds news h.1.1)

  pub are_left : (i : ℕ) (olds news : List (Lent D)) → AreBack seen may_leave faults limit s i olds news → AreLeft seen may_leave s i olds news
  are_left i [] [] h = tt
  are_left i [] (b ∷ news) h = absurd h
  are_left i (a ∷ olds) [] h = absurd h
  are_left i (a ∷ olds) (b ∷ news) h = (h.1.0.left, are_left (i + 1) olds news h.1.1)

  pub lent_back : (capacity i : ℕ) (olds news : List (Lent D)) → AreLent limit capacity i olds → AreBack seen may_leave faults limit s i olds news → AreLent limit capacity i news
  lent_back capacity i [] [] lent h = tt
  lent_back capacity i [] (b ∷ news) lent h = absurd h
  lent_back capacity i (a ∷ olds) [] lent h = absurd h
  lent_back capacity i (a ∷ olds) (b ∷ news) lent h = (h.0 ∙ lent.0, (h.1.0.same_limit ∙ lent.1.0, lent_back capacity (i + 1) olds news lent.1.1 h.1.1))

  pub as_many_back : (i : ℕ) (olds news : List (Lent D)) → AreBack seen may_leave faults limit s i olds news → length news ≡ length olds
  as_many_back i [] [] h = refl
  as_many_back i [] (b ∷ news) h = absurd h
  as_many_back i (a ∷ olds) [] h = absurd h
  as_many_back i (a ∷ olds) (b ∷ news) h = ap (λ (n : ℕ). suc n) (as_many_back (i + 1) olds news h.1.1)

  -- a set-up that is refused
  pub record IsGivenBack (capacity : ℕ) (ls : List (Lent D)) (fault : SetupFault) (back : List (Lent D)) : Type 0 where
    pub lent : AreLent limit capacity 1 back × (length back ≡ length ls)
    pub refused : IsRefused faults 1 ls (fault, back)
    pub left : AreLeft seen may_leave s 1 ls back

  pub given_back : (capacity : ℕ) (ls : List (Lent D)) (seats : List (ServerSeat D)) (l : Lent D) (rest back : List (Lent D)) (fault : SetupFault) (d : D) → AreLent limit capacity 1 ls → ComesNext capacity ls seats l rest → IsRefusedAt seen may_leave faults limit s l.node l.disk (fault, d)
      → back ≡ lent_from 1 seats ++ (handed l d ∷ rest) → IsGivenBack capacity ls fault back
  given_back capacity ls seats l rest back fault d lent next refused is =
      let r = refused_set_up capacity l.node ls seats l rest fault d lent next.first next.node refused in
      let all : List (Lent D) = lent_from 1 seats ++ (handed l d ∷ rest) in
      subst (λ (bs : List (Lent D)). IsGivenBack capacity ls fault bs) (sym is) (record {
        lent = (lent_back capacity 1 ls all lent r.back, as_many_back 1 ls all r.back);
        refused = (none_fell 1 ls all r.back, r.cause);
        left = are_left 1 ls all r.back;
      })
