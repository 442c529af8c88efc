-- A cell at set-up.
use Rattle.afs_lending.specs.Lending.{AreLent}
use Rattle.std.proofs.Common.{refl, arith, ap, ap₂, sym, subst, ◌∙◌, ◌≡◌, ◌+◌, ℕ, zero, suc, List, [], ◌∷◌, ◌++◌, length, false, Option, Some}
use Rattle.std.specs.Prelude.{IsSome, ◌↔◌}
use Rattle.afs_num.specs.Places.{at_place}
use Rattle.afs_num.specs.declared.types.Node.TheVariants.{Admin, Client, Server}
use Rattle.afs_num.specs.declared.types.Parcel.{Parcel}
use Rattle.spec_history.specs.declared.lines.Entry as kept
use Rattle.spec_history.specs.declared.scripts.Script.{Script}
use Rattle.afs_disk.specs.declared.disks.Lent.{Lent}
use Rattle.afs_grammar.specs.CellScripts.{IsCellScript}
use Rattle.spec_copyrows.specs.Sites.{CopyState, new_copies}
use Rattle.spec_adminrows.specs.AdminRow.{new_admin, AdminState}
use Rattle.spec_rows.specs.Runs.{first_client}
use Rattle.spec_runs.specs.NodeRuns.{first_node, node_start}
use Rattle.afs_host.specs.declared.seats.Seat.TheVariants.{Down, Up}
use Rattle.afs_schedule.specs.Schedules.{tasks_of}
use Rattle.afs_cell.specs.FirstSeats.{AreFirstHosts, AreFirstSeats, IsFirstSeat}
use Rattle.afs_clients.specs.Places.{Each}
use Rattle.afs_clients.specs.Seating.{AreFirstClients, IsFirstClient}
use Rattle.afs_cell.specs.Steps.{IsFirst}
use Rattle.afs_cell.specs.Lends.{LentTell}
use Rattle.afs_host.specs.LocSeats.{DatabaseRunning}
use Rattle.afs_serverhost.specs.Seated.{seat_disk, IsHost, IsReadySeat, ServerSeat}
use Rattle.afs_cell.specs.Worlds.{none_gone, AllTell, IsAdmin, IsCell, IsClient, IsReadyAdmin, IsReadyClient, IsSafe, IsWorld, LetGo, WorldState}
use Rattle.afs_clients.specs.declared.clients.ClientSeat.{ClientSeat}
use Rattle.afs_admins.specs.Seating.{AreFirstAdmins, IsFirstAdmin}
use Rattle.afs_admins.specs.declared.admins.AdminSeat.{AdminSeat}
use Rattle.afs_cell.proofs.FirstSeated.{count_seats}
use Rattle.afs_clients.proofs.Numbers.{none_some, some_is}
use Rattle.afs_cell.proofs.UnderWay.{runs_none}

-- ---- each of a list

-- so it is of each, with its number, from this one on
abbrev pub EachFrom : {A : Type 0} → (ℕ → A → Type 0) → ℕ → List A → Type 0
EachFrom {A} P i [] = Unit {0}
EachFrom {A} P i (x ∷ xs) = P i x × EachFrom P (i + 1) xs

each_at : {A : Type 0} (P : ℕ → A → Type 0) (i : ℕ) (xs : List A) → EachFrom P i xs → (n : ℕ) (x : A) → at_place xs (suc n) ≡ Some x → P (i + n) x
each_at {A} P i [] h n x e = absurd (none_some x e)
each_at {A} P i (y ∷ ys) h zero x e =
    let here : i ≡ i + 0 = omega arith in
    subst (λ (k : ℕ). P k x) here (subst (λ (z : A). P i z) (some_is y x e) h.0)
each_at {A} P i (y ∷ ys) h (suc n) x e =
    let here : (i + 1) + n ≡ i + suc n = omega arith in
    subst (λ (k : ℕ). P k x) here (each_at P (i + 1) ys h.1 n x e)

no_place : {A : Type 0} (xs : List A) (x : A) → at_place xs zero ≡ Some x → ⊥
no_place [] x e = absurd (none_some x e)
no_place (y ∷ ys) x e = absurd (none_some x e)

pub each_from : {A : Type 0} (P : ℕ → A → Type 0) (xs : List A) → EachFrom P 1 xs → Each P xs
each_from {A} P xs h zero x e = absurd (no_place xs x e)
each_from {A} P xs h (suc n) x e =
    let here : 1 + n ≡ suc n = omega arith in
    subst (λ (k : ℕ). P k x) here (each_at P 1 xs h n x e)

pub each_behind : {A : Type 0} (P : ℕ → A → Type 0) (i : ℕ) (xs : List A) (x : A) → EachFrom P i xs → P (i + length xs) x → EachFrom P i (xs ++ x ∷ [])
each_behind {A} P i [] x h one =
    let here : i + 0 ≡ i = omega arith in
    (subst (λ (k : ℕ). P k x) here one, tt)
each_behind {A} P i (y ∷ ys) x h one =
    let here : i + suc (length ys) ≡ (i + 1) + length ys = omega arith in
    (h.0, each_behind P (i + 1) ys x h.1 (subst (λ (k : ℕ). P k x) here one))

-- ---- clients

clients_from : (s : Script) (Q : ℕ → ClientSeat → Type 0) (i : ℕ) (cs : List ClientSeat) → ((n : ℕ) (c : ClientSeat) → IsFirstClient s n c → Q n c) → AreFirstClients s i cs → EachFrom Q i cs
clients_from s Q i [] f h = tt
clients_from s Q i (c ∷ cs) f h = (f i c h.0, clients_from s Q (i + 1) cs f h.1)

each_client : (s : Script) (Q : ℕ → ClientSeat → Type 0) (cs : List ClientSeat) → ((n : ℕ) (c : ClientSeat) → IsFirstClient s n c → Q n c) → AreFirstClients s 1 cs → Each Q cs
each_client s Q cs f h = each_from Q cs (clients_from s Q 1 cs f h)

ready_client : (s : Script) (n : ℕ) (c : ClientSeat) → IsFirstClient s n c → IsReadyClient s n 0 c
ready_client s n c h =
    let epoch = h.epoch in
    let last : c.client.state.client.last ≡ 0 = ap (λ (x : CopyState). x.client.last) h.state in
    record { handed = h.handed; epoch = omega (arith, epoch); last = omega (arith, last) }

-- ---- administrators

admins_from : (s : Script) (Q : ℕ → AdminSeat → Type 0) (i : ℕ) (seats : List AdminSeat) → ((n : ℕ) (a : AdminSeat) → IsFirstAdmin s n a → Q n a) → AreFirstAdmins s i seats → EachFrom Q i seats
admins_from s Q i [] f h = tt
admins_from s Q i (a ∷ seats) f h = (f i a h.0, admins_from s Q (i + 1) seats f h.1)

each_admin : (s : Script) (Q : ℕ → AdminSeat → Type 0) (seats : List AdminSeat) → ((n : ℕ) (a : AdminSeat) → IsFirstAdmin s n a → Q n a) → AreFirstAdmins s 1 seats → Each Q seats
each_admin s Q seats f h = each_from Q seats (admins_from s Q 1 seats f h)

ready_admin : (s : Script) (n : ℕ) (a : AdminSeat) → IsFirstAdmin s n a → IsReadyAdmin s n 0 a
ready_admin s n a h =
    let epoch = h.epoch in
    let last : a.mover.state.last ≡ 0 = ap (λ (x : AdminState). x.last) h.state in
    record { seated = h.seated; epoch = omega (arith, epoch); last = omega (arith, last) }

no_more : {A : Type 0} (x : A) (xs : List A) → x ∷ xs ≡ [] → ⊥
no_more x xs e = absurd cc

module _ {D : Type 0} (seen : D → Option (List ℕ)) (may_leave : D → List ℕ → Type 0) (faults limit : D → ℕ) (s : Script) where
  -- ---- servers

  seats_from : (Q : ℕ → ServerSeat D → Type 0) (capacity i : ℕ) (ls : List (Lent D)) (ss : List (ServerSeat D)) (rest : List (Lent D)) → ((n : ℕ) (l : Lent D) (seat : ServerSeat D) → limit l.disk ≡ capacity → IsFirstSeat seen may_leave faults limit s n l.disk seat → Q n seat)
      → AreLent limit capacity i ls → AreFirstSeats seen may_leave faults limit s i ls ss rest → EachFrom Q i ss
  seats_from Q capacity i ls [] rest f lent h = tt
  seats_from Q capacity i [] (seat ∷ ss) rest f lent h = absurd h
  seats_from Q capacity i (l ∷ ls) (seat ∷ ss) rest f lent h = (f i l seat lent.1.0 h.0, seats_from Q capacity (i + 1) ls ss rest f lent.1.1 h.1)

  ready_seat : (capacity n : ℕ) (l : Lent D) (seat : ServerSeat D) → limit l.disk ≡ capacity → IsFirstSeat seen may_leave faults limit s n l.disk seat → IsReadySeat (Server n) 0 seat
  ready_seat capacity n l (Up r) e h = h.ready
  ready_seat capacity n l (Down r) e h = absurd h

  host_seat : (capacity n : ℕ) (l : Lent D) (seat : ServerSeat D) → limit l.disk ≡ capacity → IsFirstSeat seen may_leave faults limit s n l.disk seat → IsHost seen may_leave limit (Server n) seat (first_node s n)
  host_seat capacity n l (Up r) e h = h.host
  host_seat capacity n l (Down r) e h = absurd h

  held_seat : (capacity n : ℕ) (l : Lent D) (seat : ServerSeat D) → limit l.disk ≡ capacity → IsFirstSeat seen may_leave faults limit s n l.disk seat → limit (seat_disk seat) ≡ capacity
  held_seat capacity n l (Up r) e h = h.same_limit ∙ e
  held_seat capacity n l (Down r) e h = absurd h

  told_seat : (n : ℕ) (old : D) (seat : ServerSeat D) → IsFirstSeat seen may_leave faults limit s n old seat → IsSome (seen (seat_disk seat)) ↔ IsSome (seen old)
  told_seat n old (Up r) h = h.left.told
  told_seat n old (Down r) h = absurd h

  -- the world as set-up makes it
  abbrev first_world : DatabaseRunning D → List (ServerSeat D) → List ClientSeat → List AdminSeat → WorldState D
  first_world database ss cs seats = record { script = s; database = Up database; servers = ss; clients = cs; admins = seats; wire = []; history = []; gone = none_gone; clock = 0; is_lost = false }

  module _ (h : IsCellScript s) (one : Lent D) (ls : List (Lent D)) (database : DatabaseRunning D) (ss : List (ServerSeat D)) (cs : List ClientSeat) (seats : List AdminSeat) (lent : AreLent limit s.capacity 0 (one ∷ ls)) (all : length (one ∷ ls) ≡ s.servers + 1)
      (hosts : AreFirstHosts seen may_leave faults limit s (one ∷ ls) database ss) (clients : AreFirstClients s 1 cs) (count : length cs ≡ s.clients) (admins : AreFirstAdmins s 1 seats) (admin_count : length seats ≡ s.admins) where
    seats_are : length ss ≡ s.servers
    seats_are =
        let counted = count_seats seen may_leave faults limit s 1 ls ss [] hosts.1 in
        omega (arith, counted, all)

    each_seat : (Q : ℕ → ServerSeat D → Type 0) → ((n : ℕ) (l : Lent D) (seat : ServerSeat D) → limit l.disk ≡ s.capacity → IsFirstSeat seen may_leave faults limit s n l.disk seat → Q n seat) → Each Q ss
    each_seat Q f = each_from Q ss (seats_from Q s.capacity 1 ls ss [] f lent.1.1 hosts.1)

    is_cell : IsCell seen may_leave limit (first_world database ss cs seats) (node_start s)
    is_cell = record {
      loc = hosts.0.host;
      host_count = sym seats_are;
      hosts = each_seat (λ (i : ℕ) (seat : ServerSeat D). IsHost seen may_leave limit (Server i) seat (first_node s i)) (host_seat s.capacity);
      count = sym count;
      clients = each_client s (λ (n : ℕ) (c : ClientSeat). IsClient c (new_copies (first_client s n)) false) cs (λ n c first. record { state_is = first.state; away_is = first.up }) clients;
      sent = refl;
      clock = refl;
      handed = refl;
      admin_count = sym admin_count;
      admins = each_admin s (λ (n : ℕ) (a : AdminSeat). IsAdmin a (new_admin s.servers 1) false) seats (λ n a first. record { state_is = first.state; gone_is = first.up }) admins;
    }

    pub is_first : IsFirst seen may_leave limit s (first_world database ss cs seats)
    is_first = record {
      history = refl;
      wire = refl;
      gone = refl;
      clock = refl;
      going = refl;
      acts = each_client s (λ (n : ℕ) (c : ClientSeat). tasks_of (Client n) s.tasks ≡ c.plan) cs (λ n c first. sym first.plan) clients;
      orders = each_admin s (λ (n : ℕ) (a : AdminSeat). tasks_of (Admin n) s.tasks ≡ a.plan) seats (λ n a first. sym first.plan) admins;
      cell = λ tell. is_cell;
    }

    is_safe : IsSafe limit s (first_world database ss cs seats)
    is_safe = record {
      script = refl;
      cell_script = h;
      admin_count = admin_count;
      server_count = seats_are;
      client_count = count;
      database = λ still. hosts.0.ready;
      servers = λ still. each_seat (λ (i : ℕ) (seat : ServerSeat D). IsReadySeat (Server i) 0 seat) (ready_seat s.capacity);
      clients = λ still. each_client s (λ (n : ℕ) (c : ClientSeat). IsReadyClient s n 0 c) cs (ready_client s) clients;
      admins = λ still. each_admin s (λ (n : ℕ) (a : AdminSeat). IsReadyAdmin s n 0 a) seats (ready_admin s) admins;
      disks = (hosts.0.same_limit ∙ lent.1.0, each_seat (λ (i : ℕ) (seat : ServerSeat D). limit (seat_disk seat) ≡ s.capacity) (held_seat s.capacity));
      sent = refl;
      entries = omega arith;
      ticks = omega arith;
    }

    pub is_world_first : IsWorld seen may_leave faults limit s (first_world database ss cs seats)
    is_world_first = record {
      safe = is_safe;
      run = λ tell. record { inputs = []; cell = node_start s; runs = runs_none seen may_leave faults limit s (first_world database ss cs seats) is_first tell };
    }

  -- as the program makes it
  module _ (h : IsCellScript s) (database : DatabaseRunning D) (ss : List (ServerSeat D)) (cs : List ClientSeat) (seats : List AdminSeat) (clients : AreFirstClients s 1 cs) (count : length cs ≡ s.clients) (admins : AreFirstAdmins s 1 seats) (admin_count : length seats ≡ s.admins)
      (ts : List (ServerSeat D)) (ds : List ClientSeat) (more : List AdminSeat) (wire : List Parcel) (history : List kept.Entry) (gone : LetGo) (servers_are : ts ≡ ss) (clients_are : ds ≡ cs) (admins_are : more ≡ seats) (no_wire : wire ≡ []) (no_history : history ≡ []) (not_gone : gone ≡ none_gone) where
    abbrev made_world : WorldState D
    made_world = record { script = s; database = Up database; servers = ts; clients = ds; admins = more; wire = wire; history = history; gone = gone; clock = 0; is_lost = false }

    made_is : made_world ≡ first_world database ss cs seats
    made_is =
        ap₂ (λ (a : List (ServerSeat D)) (b : List ClientSeat). record (first_world database a b more) { wire = wire; history = history; gone = gone }) servers_are clients_are
        ∙ (ap (λ (a : List AdminSeat). record (first_world database ss cs a) { wire = wire; history = history; gone = gone }) admins_are
        ∙ (ap₂ (λ (a : List Parcel) (b : List kept.Entry). record (first_world database ss cs seats) { wire = a; history = b; gone = gone }) no_wire no_history
        ∙ ap (λ (g : LetGo). record (first_world database ss cs seats) { gone = g }) not_gone))

    pub world_made : (ls : List (Lent D)) → AreLent limit s.capacity 0 ls → length ls ≡ s.servers + 1 → AreFirstHosts seen may_leave faults limit s ls database ss → IsWorld seen may_leave faults limit s made_world
    world_made [] lent all hosts = absurd hosts
    world_made (one ∷ ls) lent all hosts = subst (λ (w : WorldState D). IsWorld seen may_leave faults limit s w) (sym made_is) (is_world_first h one ls database ss cs seats lent all hosts clients count admins admin_count)

    pub first_made : (ls : List (Lent D)) → AreLent limit s.capacity 0 ls → length ls ≡ s.servers + 1 → AreFirstHosts seen may_leave faults limit s ls database ss → IsFirst seen may_leave limit s made_world
    first_made [] lent all hosts = absurd hosts
    first_made (one ∷ ls) lent all hosts = subst (λ (w : WorldState D). IsFirst seen may_leave limit s w) (sym made_is) (is_first h one ls database ss cs seats lent all hosts clients count admins admin_count)

  -- ---- which disks tell

  -- the disk at a number, before set-up and after it
  pub record IsPair (ls : List (Lent D)) (ss : List (ServerSeat D)) (n : ℕ) : Type 0 where
    pub lent : Lent D
    pub seat : ServerSeat D
    pub lent_at : at_place ls n ≡ Some lent
    pub seat_at : at_place ss n ≡ Some seat
    pub told : IsSome (seen (seat_disk seat)) ↔ IsSome (seen lent.disk)

  pair_by_seat : (i : ℕ) (ls : List (Lent D)) (ss : List (ServerSeat D)) → AreFirstSeats seen may_leave faults limit s i ls ss [] → (n : ℕ) (seat : ServerSeat D) → at_place ss n ≡ Some seat → IsPair ls ss n
  pair_by_seat i ls [] h n seat e = absurd (none_some seat e)
  pair_by_seat i [] (x ∷ ss) h n seat e = absurd h
  pair_by_seat i (l ∷ ls) (x ∷ ss) h zero seat e = absurd (none_some seat e)
  pair_by_seat i (l ∷ ls) (x ∷ ss) h (suc zero) seat e = record { lent = l; seat = x; lent_at = refl; seat_at = refl; told = told_seat i l.disk x h.0 }
  pair_by_seat i (l ∷ ls) (x ∷ ss) h (suc (suc n)) seat e =
      let more = pair_by_seat (i + 1) ls ss h.1 (suc n) seat e in
      record { lent = more.lent; seat = more.seat; lent_at = more.lent_at; seat_at = more.seat_at; told = more.told }

  pair_by_lent : (i : ℕ) (ls : List (Lent D)) (ss : List (ServerSeat D)) → AreFirstSeats seen may_leave faults limit s i ls ss [] → (n : ℕ) (l : Lent D) → at_place ls n ≡ Some l → IsPair ls ss n
  pair_by_lent i [] [] h n l e = absurd (none_some l e)
  pair_by_lent i (k ∷ ls) [] h n l e = absurd (no_more k ls h)
  pair_by_lent i [] (x ∷ ss) h n l e = absurd h
  pair_by_lent i (k ∷ ls) (x ∷ ss) h zero l e = absurd (none_some l e)
  pair_by_lent i (k ∷ ls) (x ∷ ss) h (suc zero) l e = record { lent = k; seat = x; lent_at = refl; seat_at = refl; told = told_seat i k.disk x h.0 }
  pair_by_lent i (k ∷ ls) (x ∷ ss) h (suc (suc n)) l e =
      let more = pair_by_lent (i + 1) ls ss h.1 (suc n) l e in
      record { lent = more.lent; seat = more.seat; lent_at = more.lent_at; seat_at = more.seat_at; told = more.told }

  seats_tell : (ls : List (Lent D)) (ss : List (ServerSeat D)) → AreFirstSeats seen may_leave faults limit s 1 ls ss [] → LentTell seen ls ↔ Each (λ (i : ℕ) (x : ServerSeat D). IsSome (seen (seat_disk x))) ss
  seats_tell ls ss h = (
    λ tell n seat e.
        let p = pair_by_seat 1 ls ss h n seat e in
        subst (λ (x : ServerSeat D). IsSome (seen (seat_disk x))) (some_is p.seat seat (sym p.seat_at ∙ e)) (p.told.1 (tell n p.lent p.lent_at)),
    λ tell n l e.
        let p = pair_by_lent 1 ls ss h n l e in
        subst (λ (x : Lent D). IsSome (seen x.disk)) (some_is p.lent l (sym p.lent_at ∙ e)) (p.told.0 (tell n p.seat p.seat_at)),
  )

  -- what is so of all disks is so of the first, and of those behind it
  others_tell : (one : Lent D) (ls : List (Lent D)) → LentTell seen (one ∷ ls) → LentTell seen ls
  others_tell one ls tell zero l e = absurd (no_place ls l e)
  others_tell one ls tell (suc n) l e = tell (suc (suc n)) l e

  both_tell : (one : Lent D) (ls : List (Lent D)) → IsSome (seen one.disk) → LentTell seen ls → LentTell seen (one ∷ ls)
  both_tell one ls first tell zero l e = absurd (none_some l e)
  both_tell one ls first tell (suc zero) l e = subst (λ (x : Lent D). IsSome (seen x.disk)) (some_is one l e) first
  both_tell one ls first tell (suc (suc n)) l e = tell (suc n) l e

  -- each disk tells after set-up as before it
  pub tell_so : (ls : List (Lent D)) (database : DatabaseRunning D) (ss : List (ServerSeat D)) (cs : List ClientSeat) (seats : List AdminSeat) → AreFirstHosts seen may_leave faults limit s ls database ss → LentTell seen ls ↔ AllTell seen (first_world database ss cs seats)
  tell_so [] database ss cs seats hosts = absurd hosts
  tell_so (one ∷ ls) database ss cs seats hosts =
      let all = seats_tell ls ss hosts.1 in (
        λ tell. (hosts.0.left.told.1 (tell 1 one refl), all.0 (others_tell one ls tell)),
        λ tell. both_tell one ls (hosts.0.left.told.0 tell.0) (all.1 tell.1),
      )
