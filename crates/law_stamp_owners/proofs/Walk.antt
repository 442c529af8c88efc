-- The walk over the inputs of a cell: whose stamps are, and who uses them.
use Rattle.std.proofs.Common.{◌≡◌, ◌≤◌, ◌<◌, ◌⊎◌, inl, inr, ℕ, suc, Bool, true, false, cond, List, [], ◌∷◌, Option, Some, None, refl, sym, ap, subst, arith, ◌∙◌}
use Rattle.std.proofs.Math.Nat.{le_refl, le_trans}
use Rattle.std.specs.Prelude.{⊤}
use Rattle.std.specs.List.{AllByRecursion}
use Rattle.afs_num.specs.declared.messages.Carried.{Carried}
use Rattle.afs_num.specs.declared.messages.Carried.TheVariants as carried
use Rattle.afs_num.specs.declared.messages.Message.{Message}
use Rattle.afs_num.specs.declared.messages.Received.TheVariants.{Whole}
use Rattle.afs_num.specs.declared.types.Head.{Head}
use Rattle.afs_num.specs.declared.types.Key.{Key}
use Rattle.afs_num.specs.declared.types.Node.{Node}
use Rattle.afs_num.specs.declared.types.Node.TheVariants.{Admin, Client, Loc, Server}
use Rattle.spec_history.specs.declared.scripts.Script.{Script}
use Rattle.spec_adminrows.specs.AdminRow.{admin_begin_row, admin_reborn, admin_row, admin_timeout_row, errand_of, AdminState}
use Rattle.spec_copyrows.specs.Sites.{CopyState}
use Rattle.spec_ideal.specs.Operations.{is_number}
use Rattle.spec_records.specs.Durable.{Durable}
use Rattle.spec_rows.specs.Hosts.{at_rest, begun_from, comes_up, ends, fails_early, fails_midway, in_boot, in_step, is_full, served_by, without_boot_record, struck, Blow, Fall, Host, HostStep, NodeKind, Outcome}
use Rattle.spec_rows.specs.LocRow.{LocState}
use Rattle.spec_history.specs.declared.scripts.Script.{Script}
use Rattle.spec_rows.specs.Runs.{Entry}
use Rattle.spec_rows.specs.States.{durable_of, Seat}
use Rattle.spec_rows.specs.Steps.{Begun, Step}
use Rattle.spec_volrows.specs.NodeHosts.{node_kind, NodeHost}
use Rattle.spec_volrows.specs.VolStates.{NodeState, Sending, VolState}
use Rattle.spec_volrows.specs.VolSteps.{vol_decides}
use Rattle.spec_runs.specs.NodeRuns.{admin_falls, admin_moves, admin_rises, client_falls, client_moves, client_rises, loc_stepped, node_moved, node_start, server_stepped, ticked, voided, CellInput, NodeCell, NodeLeads, NodeMoved}
use Rattle.law_places.specs.Accepting.{cell_behind}
use Rattle.law_stamps.specs.Given.{AreTheirs, IsTheirs}
use Rattle.law_stamps.specs.Stamps.{next_stamp}
use Rattle.law_stamps.proofs.Giving.{none_given, restart_gives, serve_gives, still_theirs, Gave, Give}
use Rattle.law_walks.specs.Messages.{FallIs}
use Rattle.law_walks.specs.Sends.{AnswersAre, AsksIs, CellIs, ClientMakes, HeldIs, LocIs, NodeIs, SeatsAre, ServerMakes, VolMakes}
use Rattle.law_walks.proofs.AdminSends.{admin_begun, admin_given, admin_late, AdminSends}
use Rattle.law_walks.proofs.AllMessages.{admin_falls_is, admin_moves_is, admin_rises_is, all_put, client_falls_is, client_moves_is, client_rises_is, placed_is}
use Rattle.law_walks.proofs.CopySends.{client_begun, client_given, client_late, client_seek_late, CopySends}
use Rattle.law_walks.proofs.EachKind.{each}
use Rattle.law_walks.proofs.LocSends.{loc_crashed, loc_fail_set, loc_makes_any, loc_restarted, loc_served, loc_stop_set, LocCutMakes, LocSends}
use Rattle.law_walks.proofs.Seats.{all_more, found_at, weaker_all, weaker_seats}
use Rattle.law_walks.proofs.ServerSends.{server_break_late, server_crashed, server_fail_set, server_piece_late, server_restarted, server_served, server_stop_set, server_woken, CutMakes, HostSends}
use Rattle.law_walks.proofs.VolDecides.{makes_any}
use Rattle.law_stamp_owners.specs.Owners.{AreAfterGiven, AreUsed, HasGiven, IsAfterGiven, IsGivenIn, IsGivenTo, IsOfAdmin, IsUsed, OneGives, StampsHaveOwners, UsedBy, UsedIn}
use Rattle.law_stamp_owners.proofs.Acts.{begun_owns, given_owns, late_owns, ActOwns, Gives, Owns}
use Rattle.law_stamp_owners.proofs.PlaceStamps.{asked_stamp, stamp_at_place}

-- ---- what is asked of messages

-- a server's call: none, or a given one that is of an administrator
abbrev Lends : (ℕ → Key) → ℕ → (ℕ → Type 0) → ℕ → Type 0
Lends owner next given stamp = (stamp ≡ 0) ⊎ (IsOfAdmin owner next stamp × given stamp)

abbrev UsesBy : (ℕ → Key) → ℕ → (ℕ → Type 0) → Head → Node → Type 0
UsesBy owner next given head (Admin n) = Owns owner next given (Admin n) head.epoch head.number head.stamp
UsesBy owner next given head (Server i) = Lends owner next given head.stamp
UsesBy owner next given head (Client n) = head.stamp ≡ 0
UsesBy owner next given head Loc = head.stamp ≡ 0

abbrev UsesIn : (ℕ → Key) → ℕ → (ℕ → Type 0) → Head → Carried → Type 0
UsesIn owner next given head (carried.Call user call) = UsesBy owner next given head head.from
UsesIn owner next given head c = ⊤

-- It gives stamps as it should, and uses one that is its sender's, both of the given ones.
abbrev IsFair : (ℕ → Key) → ℕ → (ℕ → Type 0) → Message → Type 0
IsFair owner next given m = Gives owner next given m × UsesIn owner next given m.head m.carried

-- the database makes no calls
abbrev AnswerIn : Carried → Type 0
AnswerIn (carried.Call user call) = ⊥
AnswerIn (carried.Refusal code) = ⊤
AnswerIn (carried.Reply reply) = ⊤
AnswerIn carried.Notice = ⊤

abbrev IsAnswer : Message → Type 0
IsAnswer m = AnswerIn m.carried

abbrev FairOf : (ℕ → Key) → ℕ → (ℕ → Type 0) → Node → Message → Type 0
FairOf owner next given Loc = IsAnswer
FairOf owner next given (Server i) = IsFair owner next given
FairOf owner next given (Client n) = IsFair owner next given
FairOf owner next given (Admin n) = IsFair owner next given

-- a dump is sent on under the stamp of the call that asked for it
abbrev IsLent : (ℕ → Key) → ℕ → (ℕ → Type 0) → Node → Sending → Type 0
IsLent owner next given n x = Lends owner next given x.head.stamp

-- the cell behind these entries, the last of them first
record Fair (owner : ℕ → Key) (past : List Entry) (c : NodeCell) : Type 0 where
  nodes : CellIs (FairOf owner (next_stamp c) (IsGivenIn past)) (IsLent owner (next_stamp c) (IsGivenIn past)) c
  gave : Gave owner c.loc.state
  falls : (i : ℕ) → FallIs (IsFair owner (next_stamp c) (IsGivenIn past)) (c.hosts i).down
  sent : AllByRecursion (IsFair owner (next_stamp c) (IsGivenIn past)) c.sent
  acts : (n : ℕ) → ActOwns owner (next_stamp c) (IsGivenIn past) (Admin n) (c.admins n)

-- what comes of an input
record Goes (owner : ℕ → Key) (past : List Entry) (c : NodeCell) (m : NodeMoved) : Type 0 where
  now : ℕ → Key
  stays : (stamp : ℕ) → stamp < next_stamp c → now stamp ≡ owner stamp
  rises : next_stamp c ≤ next_stamp m.cell
  fair : Fair now (m.entry ∷ past) m.cell
  sent : AllByRecursion (IsFair now (next_stamp m.cell) (IsGivenIn (m.entry ∷ past))) m.entry.sent
  given : AllByRecursion (IsAfterGiven past) m.entry.sent

-- ---- what is told of it in the end

used_by : (owner : ℕ → Key) (next : ℕ) (given : ℕ → Type 0) (head : Head) (n : Node) → UsesBy owner next given head n → UsedBy owner next head n
used_by owner next given head (Admin n) (inl none) = inl none
used_by owner next given head (Admin n) (inr g) = inr g.0
used_by owner next given head (Server i) (inl none) = inl none
used_by owner next given head (Server i) (inr g) = inr g.0
used_by owner next given head (Client n) none = none
used_by owner next given head Loc none = none

used_in : (owner : ℕ → Key) (next : ℕ) (given : ℕ → Type 0) (head : Head) (x : Carried) → UsesIn owner next given head x → UsedIn owner next head x
used_in owner next given head (carried.Call user call) h = used_by owner next given head head.from h
used_in owner next given head (carried.Refusal code) h = tt
used_in owner next given head (carried.Reply reply) h = tt
used_in owner next given head carried.Notice h = tt

given_by : (owner : ℕ → Key) (next : ℕ) (given : ℕ → Type 0) (head : Head) (n : Node) → UsesBy owner next given head n → (head.stamp ≡ 0) ⊎ given head.stamp
given_by owner next given head (Admin n) (inl none) = inl none
given_by owner next given head (Admin n) (inr g) = inr g.1
given_by owner next given head (Server i) (inl none) = inl none
given_by owner next given head (Server i) (inr g) = inr g.1
given_by owner next given head (Client n) none = inl none
given_by owner next given head Loc none = inl none

given_before : (owner : ℕ → Key) (next : ℕ) (past : List Entry) (head : Head) (x : Carried) → UsesIn owner next (IsGivenIn past) head x → HasGiven past head x
given_before owner next past head (carried.Call user call) h = given_by owner next (IsGivenIn past) head head.from h
given_before owner next past head (carried.Refusal code) h = tt
given_before owner next past head (carried.Reply reply) h = tt
given_before owner next past head carried.Notice h = tt

theirs_of : (owner : ℕ → Key) (next : ℕ) (given : ℕ → Type 0) (m : Message) → IsFair owner next given m → IsTheirs owner next m
theirs_of owner next given m h stamp e = (h.0 stamp e).0

used_of : (owner : ℕ → Key) (next : ℕ) (given : ℕ → Type 0) (m : Message) → IsFair owner next given m → IsUsed owner next m
used_of owner next given m h = used_in owner next given m.head m.carried h.1

-- ---- what nodes make

module _ (owner : ℕ → Key) (next : ℕ) (given : ℕ → Type 0) where
  answers_fair : (me : Node) (boot : ℕ) → AnswersAre (IsFair owner next given) me boot
  answers_fair me boot = record { notice = λ head to. ((λ stamp e. absurd cc), tt); refusal = λ head code to. ((λ stamp e. absurd cc), tt) }

  either_fair : (b : Bool) (x y : Message) → IsFair owner next given x → IsFair owner next given y → IsFair owner next given (cond b x y)
  either_fair true x y h k = h
  either_fair false x y h k = k

  server_makes : (i boot : ℕ) → ServerMakes (IsFair owner next given) (IsLent owner next given (Server i)) (Server i) boot
  server_makes i boot = record {
    file = record { answers = answers_fair (Server i) boot; reply = λ head reply to. ((λ stamp e. absurd cc), tt); breaks = λ n known c. ((λ stamp e. absurd cc), inl refl) };
    piece = λ n known number x h. ((λ stamp e. absurd cc), h);
    forward = λ x code h. either_fair (is_number code 0) _ _ ((λ stamp e. absurd cc), tt) ((λ stamp e. absurd cc), tt);
    moved = λ x h. h;
  }

  client_makes : (n : ℕ) → ClientMakes (IsFair owner next given) (Client n)
  client_makes n = record {
    answers = λ boot. answers_fair (Client n) boot;
    reply = λ boot head reply to. ((λ stamp e. absurd cc), tt);
    call = λ head user call is none. ((λ stamp e. absurd cc), subst (UsesBy owner next given head) (sym is) none);
    look = λ head user o is none. ((λ stamp e. absurd cc), subst (UsesBy owner next given head) (sym is) none);
  }

  -- a call that a volume server sends a dump on for
  lent_by : (head : Head) (n : Node) → UsesBy owner next given head n → Lends owner next given head.stamp
  lent_by head (Admin n) (inl none) = inl none
  lent_by head (Admin n) (inr g) = inr (record { drawn = g.0.drawn; admin = n; node = g.0.node }, g.1)
  lent_by head (Server i) h = h
  lent_by head (Client n) none = inl none
  lent_by head Loc none = inl none

  volume_by : (i : ℕ) (d : Durable) (v : VolState) (head : Head) (x : Carried) → UsesIn owner next given head x → VolMakes (IsFair owner next given) (IsLent owner next given (Server i)) (vol_decides (Server i) d v (Whole (record { head = head; carried = x })))
  volume_by i d v head (carried.Call user call) used = makes_any (IsFair owner next given) (IsLent owner next given (Server i)) (Server i) d v (record { head = head; carried = carried.Call user call })
      (λ to. record { reply = λ r. ((λ stamp e. absurd cc), tt); refused = λ code. ((λ stamp e. absurd cc), tt); sends_on = λ x. lent_by head head.from used })
  volume_by i d v head (carried.Refusal code) used = tt
  volume_by i d v head (carried.Reply reply) used = tt
  volume_by i d v head carried.Notice used = tt

  volume_makes : (i : ℕ) (d : Durable) (v : VolState) (m : Message) → IsFair owner next given m → VolMakes (IsFair owner next given) (IsLent owner next given (Server i)) (vol_decides (Server i) d v (Whole m))
  volume_makes i d v m h = volume_by i d v m.head m.carried h.1

  -- what an administrator asks
  asks_fair : (n : ℕ) (a : AdminState) → ActOwns owner next given (Admin n) a → AsksIs (IsFair owner next given) (Admin n) a
  asks_fair n a h r is = ((λ stamp e. absurd cc), subst (Owns owner next given (Admin n) a.epoch a.last) (sym (asked_stamp (errand_of a r.act) r.place)) (h r is))

loc_answers : (boot : ℕ) → AnswersAre IsAnswer Loc boot
loc_answers boot = record { notice = λ head to. tt; refusal = λ head code to. tt }

-- ---- as stamps are given

module _ (owner now : ℕ → Key) (n k : ℕ) (was is : ℕ → Type 0) (le : n ≤ k) (same : (stamp : ℕ) → stamp < n → now stamp ≡ owner stamp) (more : (stamp : ℕ) → was stamp → is stamp) where
  still_given : (me : Node) (epoch number stamp : ℕ) → IsGivenTo owner n me epoch number stamp → IsGivenTo now k me epoch number stamp
  still_given me epoch number stamp g = record {
    drawn = (let d : stamp < n = g.drawn in omega (arith, d, le));
    node = subst (λ (x : Key). x.node ≡ me) (sym (same stamp g.drawn)) g.node;
    in_epoch = subst (λ (x : Key). x.epoch ≡ epoch) (sym (same stamp g.drawn)) g.in_epoch;
    before = subst (λ (x : Key). x.number < number) (sym (same stamp g.drawn)) g.before;
  }

  still_of : (stamp : ℕ) → IsOfAdmin owner n stamp → IsOfAdmin now k stamp
  still_of stamp g = record { drawn = (let d : stamp < n = g.drawn in omega (arith, d, le)); admin = g.admin; node = subst (λ (x : Key). x.node ≡ Admin g.admin) (sym (same stamp g.drawn)) g.node }

  still_owns : (me : Node) (epoch number stamp : ℕ) → Owns owner n was me epoch number stamp → Owns now k is me epoch number stamp
  still_owns me epoch number stamp (inl none) = inl none
  still_owns me epoch number stamp (inr g) = inr (still_given me epoch number stamp g.0, more stamp g.1)

  still_lent : (stamp : ℕ) → Lends owner n was stamp → Lends now k is stamp
  still_lent stamp (inl none) = inl none
  still_lent stamp (inr g) = inr (still_of stamp g.0, more stamp g.1)

  still_by : (head : Head) (x : Node) → UsesBy owner n was head x → UsesBy now k is head x
  still_by head (Admin i) h = still_owns (Admin i) head.epoch head.number head.stamp h
  still_by head (Server i) h = still_lent head.stamp h
  still_by head (Client i) h = h
  still_by head Loc h = h

  still_in : (head : Head) (x : Carried) → UsesIn owner n was head x → UsesIn now k is head x
  still_in head (carried.Call user call) h = still_by head head.from h
  still_in head (carried.Refusal code) h = tt
  still_in head (carried.Reply reply) h = tt
  still_in head carried.Notice h = tt

  still_fair : (m : Message) → IsFair owner n was m → IsFair now k is m
  still_fair m h = (λ stamp e. (still_theirs owner now n k le same m (λ other f. (h.0 other f).0) stamp e, more stamp (h.0 stamp e).1), still_in m.head m.carried h.1)

  still_fall : (o : Option Fall) → FallIs (IsFair owner n was) o → FallIs (IsFair now k is) o
  still_fall None h = tt
  still_fall (Some at_rest) h = tt
  still_fall (Some (in_step m clock b)) h = still_fair m h
  still_fall (Some in_boot) h = tt

  still_seats : (seats : List Seat) → SeatsAre (IsFair owner n was) seats → SeatsAre (IsFair now k is) seats
  still_seats seats h = weaker_seats (IsFair owner n was) (IsFair now k is) seats still_fair h

  still_node : (me : Node) (s : NodeState) → NodeIs (IsFair owner n was) (IsLent owner n was me) s → NodeIs (IsFair now k is) (IsLent now k is me) s
  still_node me s h = record {
    file = record { seats = still_seats s.file.seats h.file.seats; kept = still_seats s.file.lasting.kept h.file.kept; held = weaker_all (HeldIs (IsFair owner n was)) (HeldIs (IsFair now k is)) s.file.backs.held (λ x g. still_fair x.reply g) h.file.held };
    seats = still_seats s.vol.seats h.seats;
    held = weaker_all (HeldIs (IsFair owner n was)) (HeldIs (IsFair now k is)) s.vol.held (λ x g. still_fair x.reply g) h.held;
    sendings = λ j. weaker_all (IsLent owner n was me) (IsLent now k is me) (s.vol.sendings j) (λ x. still_lent x.head.stamp) (h.sendings j);
  }

  still_act : (me : Node) (a : AdminState) → ActOwns owner n was me a → ActOwns now k is me a
  still_act me a h r is = still_owns me a.epoch a.last (stamp_at_place r.place) (h r is)

-- An answer of the database that gives stamps as it should is fair: its own entry gives them.
fair_of : (owner : ℕ → Key) (next : ℕ) (given : ℕ → Type 0) (m : Message) → Gives owner next given m → IsAnswer m → IsFair owner next given m
fair_of owner next given m h k = (h, by m.carried k)
  where
    by : (x : Carried) → AnswerIn x → UsesIn owner next given m.head x
    by (carried.Call user call) k = absurd k
    by (carried.Refusal code) k = tt
    by (carried.Reply reply) k = tt
    by carried.Notice k = tt

all_fair : (owner : ℕ → Key) (next : ℕ) (given : ℕ → Type 0) (ms : List Message) → ((stamp : ℕ) → OneGives stamp ms → given stamp) → AllByRecursion (IsTheirs owner next) ms → AllByRecursion IsAnswer ms → AllByRecursion (IsFair owner next given) ms
all_fair owner next given [] among h k = tt
all_fair owner next given (m ∷ ms) among h k = (fair_of owner next given m (λ stamp e. (h.0 stamp e, among stamp (inl e))) k.0, all_fair owner next given ms (λ stamp one. among stamp (inr one)) h.1 k.1)

-- it carries no stamp
all_answers : (past : List Entry) (ms : List Message) → AllByRecursion IsAnswer ms → AllByRecursion (IsAfterGiven past) ms
all_answers past ms k = weaker_all IsAnswer (IsAfterGiven past) ms (λ m. by m.head m.carried) k
  where
    by : (head : Head) (x : Carried) → AnswerIn x → HasGiven past head x
    by head (carried.Call user call) k = absurd k
    by head (carried.Refusal code) k = tt
    by head (carried.Reply reply) k = tt
    by head carried.Notice k = tt

-- with one entry more nothing else changes
fair_on : (owner : ℕ → Key) (past : List Entry) (e : Entry) (c : NodeCell) → Fair owner past c → Fair owner (e ∷ past) c
fair_on owner past e c h =
    let n : ℕ = next_stamp c in
    let was : ℕ → Type 0 = IsGivenIn past in
    let is : ℕ → Type 0 = IsGivenIn (e ∷ past) in
    let more : (stamp : ℕ) → IsGivenIn past stamp → IsGivenIn (e ∷ past) stamp = λ stamp g. inr g in
    let fair : (m : Message) → IsFair owner n was m → IsFair owner n is m = still_fair owner owner n n was is (le_refl n) (λ stamp below. refl) more in
    record {
      nodes = record {
        hosts = λ i. still_node owner owner n n was is (le_refl n) (λ stamp below. refl) more (Server i) (c.hosts i).state (h.nodes.hosts i);
        clients = λ i. still_seats owner owner n n was is (le_refl n) (λ stamp below. refl) more (c.clients i).client.seats (h.nodes.clients i);
        admins = λ i. still_seats owner owner n n was is (le_refl n) (λ stamp below. refl) more (c.admins i).seats (h.nodes.admins i);
        loc = h.nodes.loc;
      };
      gave = h.gave;
      falls = λ i. still_fall owner owner n n was is (le_refl n) (λ stamp below. refl) more (c.hosts i).down (h.falls i);
      sent = weaker_all (IsFair owner n was) (IsFair owner n is) c.sent fair h.sent;
      acts = λ i. still_act owner owner n n was is (le_refl n) (λ stamp below. refl) more (Admin i) (c.admins i) (h.acts i);
    }

-- what comes of a step of others than the database
record Keeps (owner : ℕ → Key) (past : List Entry) (c : NodeCell) (m : NodeMoved) : Type 0 where
  same : next_stamp m.cell ≡ next_stamp c
  fair : Fair owner past m.cell
  sent : AllByRecursion (IsFair owner (next_stamp m.cell) (IsGivenIn past)) m.entry.sent

keeps_on : (owner : ℕ → Key) (past : List Entry) (c : NodeCell) (m : NodeMoved) → Keeps owner past c m → Goes owner past c m
keeps_on owner past c m k =
    let n : ℕ = next_stamp m.cell in record {
      now = owner;
      stays = λ stamp below. refl;
      rises = subst (λ (next : ℕ). next_stamp c ≤ next) (sym k.same) (le_refl (next_stamp c));
      fair = fair_on owner past m.entry m.cell k.fair;
      sent = weaker_all (IsFair owner n (IsGivenIn past)) (IsFair owner n (IsGivenIn (m.entry ∷ past))) m.entry.sent (still_fair owner owner n n (IsGivenIn past) (IsGivenIn (m.entry ∷ past)) (le_refl n) (λ stamp below. refl) (λ stamp g. inr g)) k.sent;
      given = weaker_all (IsFair owner n (IsGivenIn past)) (IsAfterGiven past) m.entry.sent (λ x h. given_before owner n past x.head x.carried h.1) k.sent;
    }

module _ (owner : ℕ → Key) (past : List Entry) (c : NodeCell) (h : Fair owner past c) where
  abbrev n : ℕ
  n = next_stamp c

  abbrev given : ℕ → Type 0
  given = IsGivenIn past

  abbrev P : Node → Message → Type 0
  P = FairOf owner n given

  abbrev S : Node → Sending → Type 0
  S = IsLent owner n given

  -- ---- steps of others than the database

  none_goes : (m : NodeMoved) → m.cell ≡ c → m.entry.sent ≡ [] → Goes owner past c m
  none_goes m same quiet = keeps_on owner past c m (record {
    same = ap (λ (d : NodeCell). next_stamp d) same;
    fair = subst (Fair owner past) (sym same) h;
    sent = subst (AllByRecursion (IsFair owner (next_stamp m.cell) given)) (sym quiet) tt;
  })

  ticked_goes : (k : ℕ) → Goes owner past c (ticked c k)
  ticked_goes k = keeps_on owner past c (ticked c k) (record {
    same = refl;
    fair = record { nodes = record { hosts = h.nodes.hosts; clients = h.nodes.clients; admins = h.nodes.admins; loc = h.nodes.loc }; gave = h.gave; falls = h.falls; sent = h.sent; acts = h.acts };
    sent = tt;
  })

  on_host : (i : ℕ) (s : HostStep NodeState) → HostSends (IsFair owner n given) (S (Server i)) s → FallIs (IsFair owner n given) s.host.down → Goes owner past c (server_stepped c i s)
  on_host i s k fall = keeps_on owner past c (server_stepped c i s) (record {
    same = refl;
    fair = record {
      nodes = (placed_is P S c h.nodes i s k).nodes;
      gave = h.gave;
      falls = all_put i (λ (j : ℕ) (x : NodeHost). FallIs (IsFair owner n given) x.down) s.host c.hosts fall h.falls;
      sent = all_more (IsFair owner n given) c.sent s.sent h.sent k.sent;
      acts = h.acts;
    };
    sent = k.sent;
  })

  on_client : (i : ℕ) (s : Step CopyState) → CopySends (IsFair owner n given) (c.clients i).client.seats s → Goes owner past c (client_moves c i s)
  on_client i s k = keeps_on owner past c (client_moves c i s) (record {
    same = refl;
    fair = record { nodes = (client_moves_is P S c h.nodes i s k).nodes; gave = h.gave; falls = h.falls; sent = all_more (IsFair owner n given) c.sent s.sent h.sent k.sent; acts = h.acts };
    sent = k.sent;
  })

  client_falls_goes : (i : ℕ) → Goes owner past c (client_falls c i)
  client_falls_goes i = keeps_on owner past c (client_falls c i) (record {
    same = refl;
    fair = record { nodes = (client_falls_is P S c h.nodes i).nodes; gave = h.gave; falls = h.falls; sent = all_more (IsFair owner n given) c.sent [] h.sent tt; acts = h.acts };
    sent = tt;
  })

  client_rises_goes : (i : ℕ) → Goes owner past c (client_rises c i)
  client_rises_goes i = keeps_on owner past c (client_rises c i) (record {
    same = refl;
    fair = record { nodes = (client_rises_is P S c h.nodes i).nodes; gave = h.gave; falls = h.falls; sent = all_more (IsFair owner n given) c.sent [] h.sent tt; acts = h.acts };
    sent = tt;
  })

  on_admin : (i : ℕ) (s : Step AdminState) → AdminSends (IsFair owner n given) s → ActOwns owner n given (Admin i) s.state → Goes owner past c (admin_moves c i s)
  on_admin i s k acts = keeps_on owner past c (admin_moves c i s) (record {
    same = refl;
    fair = record {
      nodes = (admin_moves_is P S c h.nodes i s k).nodes;
      gave = h.gave;
      falls = h.falls;
      sent = all_more (IsFair owner n given) c.sent s.sent h.sent k.sent;
      acts = all_put i (λ (j : ℕ) (x : AdminState). ActOwns owner n given (Admin j) x) s.state c.admins acts h.acts;
    };
    sent = k.sent;
  })

  admin_falls_goes : (i : ℕ) → Goes owner past c (admin_falls c i)
  admin_falls_goes i = keeps_on owner past c (admin_falls c i) (record {
    same = refl;
    fair = record {
      nodes = (admin_falls_is P S c h.nodes i).nodes;
      gave = h.gave;
      falls = h.falls;
      sent = all_more (IsFair owner n given) c.sent [] h.sent tt;
      acts = all_put i (λ (j : ℕ) (x : AdminState). ActOwns owner n given (Admin j) x) (admin_reborn (c.admins i)) c.admins (λ r is. absurd cc) h.acts;
    };
    sent = tt;
  })

  admin_rises_goes : (i : ℕ) → Goes owner past c (admin_rises c i)
  admin_rises_goes i = keeps_on owner past c (admin_rises c i) (record {
    same = refl;
    fair = record {
      nodes = (admin_rises_is P S c h.nodes i).nodes;
      gave = h.gave;
      falls = h.falls;
      sent = all_more (IsFair owner n given) c.sent [] h.sent tt;
      acts = all_put i (λ (j : ℕ) (x : AdminState). ActOwns owner n given (Admin j) x) (c.admins i) c.admins (h.acts i) h.acts;
    };
    sent = tt;
  })

  -- ---- a step of the database

  on_loc : (s : HostStep LocState) → Give owner c.loc.state s.host.state s.sent → LocSends IsAnswer s → Goes owner past c (loc_stepped c s)
  on_loc s g k =
      let next : ℕ = s.host.state.lasting.next_stamp in
      let e : Entry = (loc_stepped c s).entry in
      let now_given : ℕ → Type 0 = IsGivenIn (e ∷ past) in
      let more : (stamp : ℕ) → IsGivenIn past stamp → IsGivenIn (e ∷ past) stamp = λ stamp one. inr one in
      let up : (m : Message) → IsFair owner n given m → IsFair g.now next now_given m = still_fair owner g.now n next given now_given g.rises g.stays more in
      let new : AllByRecursion (IsFair g.now next now_given) s.sent = all_fair g.now next now_given s.sent (λ stamp one. inl (refl, one)) g.sent k.sent in
      record {
        now = g.now;
        stays = g.stays;
        rises = g.rises;
        fair = record {
          nodes = record {
            hosts = λ i. still_node owner g.now n next given now_given g.rises g.stays more (Server i) (c.hosts i).state (h.nodes.hosts i);
            clients = λ i. still_seats owner g.now n next given now_given g.rises g.stays more (c.clients i).client.seats (h.nodes.clients i);
            admins = λ i. still_seats owner g.now n next given now_given g.rises g.stays more (c.admins i).seats (h.nodes.admins i);
            loc = k.has;
          };
          gave = g.gave;
          falls = λ i. still_fall owner g.now n next given now_given g.rises g.stays more (c.hosts i).down (h.falls i);
          sent = all_more (IsFair g.now next now_given) c.sent s.sent (weaker_all (IsFair owner n given) (IsFair g.now next now_given) c.sent up h.sent) new;
          acts = λ i. still_act owner g.now n next given now_given g.rises g.stays more (Admin i) (c.admins i) (h.acts i);
        };
        sent = new;
        given = all_answers past s.sent k.sent;
      }

  -- ---- steps that fall

  served_falls : {X : Type 0} (kind : NodeKind X) (x : Host X) (clock place : ℕ) (m : Message) (o : Option Blow) → IsFair owner n given m → FallIs (IsFair owner n given) (served_by kind x clock place m o).host.down
  served_falls {X} kind x clock place m None q = tt
  served_falls {X} kind x clock place m (Some b) q = q

  ended_falls : {X : Type 0} (kind : NodeKind X) (x : Host X) (clock count : ℕ) (f : Begun X) (fall : Fall) (o : Outcome) → FallIs (IsFair owner n given) (Some fall) → FallIs (IsFair owner n given) (ends kind x clock count f fall o).host.down
  ended_falls {X} kind x clock count f fall comes_up q = tt
  ended_falls {X} kind x clock count f fall fails_early q = q
  ended_falls {X} kind x clock count f fall fails_midway q = tt
  ended_falls {X} kind x clock count f fall is_full q = tt

  cut_makes : (i : ℕ) (fall : Fall) → FallIs (IsFair owner n given) (Some fall) → CutMakes (IsFair owner n given) (S (Server i)) (Server i) (c.hosts i).state fall
  cut_makes i at_rest q = tt
  cut_makes i (in_step m clock b) q = volume_makes owner n given i (durable_of (c.hosts i).state.file.lasting) (c.hosts i).state.vol m q
  cut_makes i in_boot q = tt

  loc_cut : (fall : Fall) → LocCutMakes IsAnswer c.loc h.nodes.loc fall
  loc_cut at_rest = tt
  loc_cut (in_step m clock b) = loc_makes_any IsAnswer c.loc.state m (λ head reply to. tt)
  loc_cut in_boot = tt

  -- ---- every input

  goes : (x : CellInput) → Goes owner past c (node_moved c x)
  goes x = each (Goes owner past c) c (record {
    void = none_goes (voided c) refl refl;
    ticks = λ k. ticked_goes (suc k);
    servers = record {
      serves = λ i place luck m up g.
          let q : IsFair owner n given m = found_at (IsFair owner n given) place c.sent m h.sent g.sent in
          on_host i _ (server_served (IsFair owner n given) (S (Server i)) (Server i) (c.hosts i) (h.nodes.hosts i) c.clock place luck m (server_makes owner n given i _) (volume_makes owner n given i (durable_of (c.hosts i).state.file.lasting) (c.hosts i).state.vol m q))
          (served_falls (node_kind (Server i)) (c.hosts i) c.clock place m (struck (c.hosts i).armed luck _) q);
      crashes = λ i up. on_host i _ (server_crashed (IsFair owner n given) (S (Server i)) (Server i) (c.hosts i) (h.nodes.hosts i)) tt;
      stop_set = λ i calls pick up. on_host i _ (server_stop_set (IsFair owner n given) (S (Server i)) (Server i) (c.hosts i) (h.nodes.hosts i) calls pick) (h.falls i);
      fail_set = λ i call up. on_host i _ (server_fail_set (IsFair owner n given) (S (Server i)) (Server i) (c.hosts i) (h.nodes.hosts i) call) (h.falls i);
      restarts = λ i after o fall there down.
          let q : FallIs (IsFair owner n given) (Some fall) = subst (FallIs (IsFair owner n given)) down (h.falls i) in
          on_host i _ (server_restarted (IsFair owner n given) (S (Server i)) (Server i) (c.hosts i) (h.nodes.hosts i) c.clock c.count after o fall (λ boot. (server_makes owner n given i boot).file) (cut_makes i fall q))
          (ended_falls (node_kind (Server i)) (c.hosts i) c.clock c.count (begun_from (node_kind (Server i)) (c.hosts i).state after fall) fall (without_boot_record _ o) q);
      piece_late = λ i k p up is. on_host i _ (server_piece_late (IsFair owner n given) (S (Server i)) (Server i) (c.hosts i) (h.nodes.hosts i) c.clock k p (server_makes owner n given i _)) tt;
      break_late = λ i k b up is. on_host i _ (server_break_late (IsFair owner n given) (S (Server i)) (Server i) (c.hosts i) (h.nodes.hosts i) c.clock k b (server_makes owner n given i _)) tt;
      wakes = λ i up. on_host i _ (server_woken (IsFair owner n given) (S (Server i)) (Server i) (c.hosts i) (h.nodes.hosts i) c.clock (server_makes owner n given i _)) tt;
    };
    database = record {
      serves = λ place luck m up g. on_loc _ (serve_gives owner c.loc c.clock place luck m h.gave) (loc_served IsAnswer c.loc h.nodes.loc c.clock place luck m (loc_answers _) (loc_makes_any IsAnswer c.loc.state m (λ head reply to. tt)));
      crashes = λ up. on_loc _ (none_given owner c.loc.state h.gave) (loc_crashed IsAnswer c.loc h.nodes.loc);
      stop_set = λ calls pick up. on_loc _ (none_given owner c.loc.state h.gave) (loc_stop_set IsAnswer c.loc h.nodes.loc calls pick);
      fail_set = λ call up. on_loc _ (none_given owner c.loc.state h.gave) (loc_fail_set IsAnswer c.loc h.nodes.loc call);
      restarts = λ after o fall down. on_loc _ (restart_gives owner c.loc c.clock c.count after o fall h.gave) (loc_restarted IsAnswer c.loc h.nodes.loc c.clock c.count after o fall (loc_cut fall));
    };
    clients = record {
      begins = λ i act up idle. on_client i _ (client_begun (IsFair owner n given) (Client i) (client_makes owner n given i) (c.clients i) c.clock act);
      given = λ i place m up g. on_client i _ (client_given (IsFair owner n given) (Client i) (client_makes owner n given i) (c.clients i) c.clock place m (h.nodes.clients i));
      seek_late = λ i k up is. on_client i _ (client_seek_late (IsFair owner n given) (Client i) (client_makes owner n given i) (c.clients i) k);
      late = λ i act up is. on_client i _ (client_late (IsFair owner n given) (Client i) (client_makes owner n given i) (c.clients i) act);
      stops = λ i up. client_falls_goes i;
      starts = λ i away. client_rises_goes i;
    };
    admins = record {
      begins = λ i act up idle.
          let acts : ActOwns owner n given (Admin i) (admin_begin_row (Admin i) (c.admins i) act).state = begun_owns owner n given (Admin i) (c.admins i) (h.acts i) act in
          on_admin i _ (admin_begun (IsFair owner n given) (Admin i) (c.admins i) (h.nodes.admins i) act (asks_fair owner n given i (admin_begin_row (Admin i) (c.admins i) act).state acts)) acts;
      given = λ i place m up g.
          let q : IsFair owner n given m = found_at (IsFair owner n given) place c.sent m h.sent g.sent in
          let acts : ActOwns owner n given (Admin i) (admin_row (Admin i) (c.admins i) place (Whole m)).state = given_owns owner n given (Admin i) (c.admins i) (h.acts i) place m g.to q.0 in
          on_admin i _ (admin_given (IsFair owner n given) (Admin i) (c.admins i) (h.nodes.admins i) place m (answers_fair owner n given (Admin i) _) (asks_fair owner n given i (admin_row (Admin i) (c.admins i) place (Whole m)).state acts)) acts;
      late = λ i r up is.
          let acts : ActOwns owner n given (Admin i) (admin_timeout_row (Admin i) (c.admins i) r).state = late_owns owner n given (Admin i) (c.admins i) (h.acts i) r is in
          on_admin i _ (admin_late (IsFair owner n given) (Admin i) (c.admins i) (h.nodes.admins i) r is (asks_fair owner n given i (admin_timeout_row (Admin i) (c.admins i) r).state acts)) acts;
      stops = λ i up. admin_falls_goes i;
      starts = λ i gone. admin_rises_goes i;
    };
  }) x

-- ---- a run

record Led (owner : ℕ → Key) (past : List Entry) (c : NodeCell) (history : List Entry) (end : NodeCell) : Type 0 where
  now : ℕ → Key
  stays : (stamp : ℕ) → stamp < next_stamp c → now stamp ≡ owner stamp
  rises : next_stamp c ≤ next_stamp end
  theirs : AreTheirs now (next_stamp end) history
  given : AreAfterGiven past history
  used : AreUsed now (next_stamp end) history

led : (owner : ℕ → Key) (past : List Entry) (c : NodeCell) (xs : List CellInput) (es : List Entry) (end : NodeCell) → Fair owner past c → NodeLeads c xs es end → Led owner past c es end
led owner past c [] [] end h is = record { now = owner; stays = λ stamp below. refl; rises = subst (λ (d : NodeCell). next_stamp c ≤ next_stamp d) (sym is) (le_refl (next_stamp c)); theirs = tt; given = tt; used = tt }
led owner past c [] (e ∷ es) end h is = absurd is
led owner past c (x ∷ xs) [] end h is = absurd is
led owner past c (x ∷ xs) (e ∷ es) end h is =
    let one : Goes owner past c (node_moved c x) = goes owner past c h x in
    let among : ℕ → Type 0 = IsGivenIn ((node_moved c x).entry ∷ past) in
    let more : Led one.now (e ∷ past) (node_moved c x).cell es end = led one.now (e ∷ past) (node_moved c x).cell xs es end (subst (λ (y : Entry). Fair one.now (y ∷ past) (node_moved c x).cell) (sym is.0) one.fair) is.1 in
    let sent : AllByRecursion (IsFair more.now (next_stamp end) among) e.sent =
    weaker_all (IsFair one.now (next_stamp (node_moved c x).cell) among) (IsFair more.now (next_stamp end) among) e.sent (still_fair one.now more.now _ _ among among more.rises more.stays (λ stamp g. g))
    (subst (λ (y : Entry). AllByRecursion (IsFair one.now (next_stamp (node_moved c x).cell) among) y.sent) (sym is.0) one.sent) in
    record {
      now = more.now;
      stays = λ stamp below. let later : stamp < next_stamp (node_moved c x).cell = (let up : next_stamp c ≤ next_stamp (node_moved c x).cell = one.rises in omega (arith, below, up)) in
          more.stays stamp later ∙ one.stays stamp below;
      rises = le_trans one.rises more.rises;
      theirs = ((λ its. weaker_all (IsFair more.now (next_stamp end) among) (IsTheirs more.now (next_stamp end)) e.sent (theirs_of more.now (next_stamp end) among) sent), more.theirs);
      given = (subst (λ (y : Entry). AllByRecursion (IsAfterGiven past) y.sent) (sym is.0) one.given, more.given);
      used = (weaker_all (IsFair more.now (next_stamp end) among) (IsUsed more.now (next_stamp end)) e.sent (used_of more.now (next_stamp end) among) sent, more.used);
    }

-- at set-up nothing was sent, and no stamp was drawn
no_owner : ℕ → Key
no_owner stamp = record { node = Loc; epoch = 0; number = 0 }

first_fair : (s : Script) → Fair no_owner [] (node_start s)
first_fair s = record {
  nodes = record { hosts = λ i. record { file = record { seats = tt; kept = tt; held = tt }; seats = tt; held = tt; sendings = λ n. tt }; clients = λ n. tt; admins = λ n. tt; loc = record { seats = tt; kept = tt } };
  gave = record { seats = tt; kept = tt };
  falls = λ i. tt;
  sent = tt;
  acts = λ n r is. absurd cc;
}

pub have_owners : StampsHaveOwners
have_owners s inputs history end leads = let one = led no_owner [] (node_start s) inputs history end (first_fair s) leads in record { owner = one.now; theirs = one.theirs; given = one.given; used = one.used }

-- ---- each message that was sent

-- whose stamp it gives, and under whose it is; and whose stamps kept replies give
pub record AllOwned (c : NodeCell) : Type 0 where
  pub owner : ℕ → Key
  pub kept : LocIs (IsTheirs owner (next_stamp c)) c.loc.state
  pub theirs : AllByRecursion (IsTheirs owner (next_stamp c)) c.sent
  pub used : AllByRecursion (IsUsed owner (next_stamp c)) c.sent

owned_behind : (owner : ℕ → Key) (past : List Entry) (c : NodeCell) (xs : List CellInput) → Fair owner past c → AllOwned (cell_behind c xs)
owned_behind owner past c [] h = record {
  owner = owner;
  kept = record { seats = h.gave.seats; kept = h.gave.kept };
  theirs = weaker_all (IsFair owner (next_stamp c) (IsGivenIn past)) (IsTheirs owner (next_stamp c)) c.sent (theirs_of owner (next_stamp c) (IsGivenIn past)) h.sent;
  used = weaker_all (IsFair owner (next_stamp c) (IsGivenIn past)) (IsUsed owner (next_stamp c)) c.sent (used_of owner (next_stamp c) (IsGivenIn past)) h.sent;
}
owned_behind owner past c (x ∷ xs) h = let one = goes owner past c h x in owned_behind one.now ((node_moved c x).entry ∷ past) (node_moved c x).cell xs one.fair

pub all_owned : (s : Script) (inputs : List CellInput) → AllOwned (cell_behind (node_start s) inputs)
all_owned s inputs = owned_behind no_owner [] (node_start s) inputs (first_fair s)
