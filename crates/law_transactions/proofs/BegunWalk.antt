-- The walk over the inputs of a cell: each transaction was asked for.
use Rattle.std.proofs.Common.{◌≡◌, ◌≤◌, arith, ℕ, zero, suc, Bool, true, false, cond, List, [], ◌∷◌, ◌++◌, Option, Some, None, refl, sym, ap, subst, ◌∙◌, append-nil}
use Rattle.std.specs.List.{AllByRecursion}
use Rattle.afs_num.specs.declared.messages.Call.TheVariants as ask
use Rattle.afs_num.specs.declared.messages.Carried.TheVariants as carried
use Rattle.afs_num.specs.declared.messages.Message.{Message}
use Rattle.afs_num.specs.declared.messages.Received.TheVariants.{Whole}
use Rattle.afs_num.specs.declared.types.Head.{Head}
use Rattle.afs_num.specs.declared.types.Node.{Node}
use Rattle.afs_num.specs.declared.types.Node.TheVariants.{Admin, Client, Loc, Server}
use Rattle.afs_num.specs.declared.volume_calls.VolCall.{VolCall}
use Rattle.spec_history.specs.declared.scripts.Script.{Script}
use Rattle.spec_ideal.specs.Tables.{Table}
use Rattle.law_legal.proofs.BaseLaws.{at_more, at_put}
use Rattle.spec_rows.specs.Callbacks.{expired, put}
use Rattle.spec_rows.specs.Hosts.{at_rest, begun_from, comes_up, crashed, ends, fails_early, fails_midway, in_boot, in_step, is_full, restarted, served, served_by, set_to_fail, set_to_stop, without_boot_record, struck, Blow, Fall, HostStep, Luck, Outcome}
use Rattle.spec_rows.specs.Runs.{message_at}
use Rattle.spec_rows.specs.ServerHosts.{can_start}
use Rattle.spec_rows.specs.ServerRow as files
use Rattle.spec_rows.specs.ServerRow.{does, Decision}
use Rattle.spec_rows.specs.States.{durable_of, BackCall, Lasting, ServerState}
use Rattle.spec_rows.specs.Steps.{Begun}
use Rattle.spec_volrows.proofs.VolTurns.{deeds_are_shown, others_leave_files}
use Rattle.spec_volrows.specs.FileRow.{file_decides, file_row}
use Rattle.spec_volrows.specs.NodeHosts.{node_kind, node_timed_out, node_woken, piece_timed_out, NodeHost}
use Rattle.spec_volrows.specs.VolLaws.{is_saved, LeavesFiles, ShowsDeed}
use Rattle.spec_volrows.specs.VolRow.{holds_of}
use Rattle.spec_volrows.specs.VolStates.{NodeState, PieceCall, Transaction, VolState}
use Rattle.spec_volrows.specs.VolSteps.{dispatches, drops, is_of_client, node_back_timeout_row, node_device_calls, node_row, node_start_row, node_wake_row, piece_timeout_row, repeats, replies_to, saves, tells_boot, vol_decides, VolDecision}
use Rattle.spec_rows.specs.ServerSteps.{back_timeout_row, wake_row}
use Rattle.spec_runs.specs.NodeRuns.{admin_falls, admin_moves, admin_rises, client_falls, client_moves, client_rises, loc_stepped, node_moved, node_start, server_stepped, ticked, CellInput, NodeCell, NodeMoved}
use Rattle.law_walks.specs.Kinds.{IsGiven, IsUp}
use Rattle.law_walks.proofs.EachKind.{any_admin, any_client, any_database, each}
use Rattle.law_places.specs.Accepting.{cell_behind}
use Rattle.law_transactions.specs.Begun.{AsksFor, IsAskedFor, TransactionsAreAskedFor}
use Rattle.law_transactions.proofs.Transactions.{all_get, row_all, timed_all, AllAre, AskedBy, Is}

-- ---- the boot of a server is the same but for restarts

does_boot : (me : Node) (s : ServerState) (clock place : ℕ) (d : Decision) → (does me s clock place d []).state.lasting.boot ≡ s.lasting.boot
does_boot me s clock place files.drops = refl
does_boot me s clock place (files.tells_boot head) = refl
does_boot me s clock place (files.repeats reply) = refl
does_boot me s clock place (files.refuses head code) = refl
does_boot me s clock place (files.shows head r) = refl
does_boot me s clock place (files.saves head c) = refl

other_boot : (me : Node) (s : NodeState) (clock place : ℕ) (m : Message) (d : VolDecision) → is_of_client (Some m.head.from) ≡ false → vol_decides me (durable_of s.file.lasting) s.vol (Whole m) ≡ d → (node_row me s clock place (Whole m)).state.file.lasting.boot ≡ s.file.lasting.boot
other_boot me s clock place m (saves head x) other is = let z : ShowsDeed me s clock place head x _ = deeds_are_shown me s clock place (Whole m) head x other is in ap (λ (l : Lasting). l.boot) z.lasting
other_boot me s clock place m drops other is = let z : LeavesFiles clock s.file _ = others_leave_files.given me s clock place (Whole m) other (ap is_saved is) in ap (λ (l : Lasting). l.boot) z.lasting
other_boot me s clock place m (tells_boot head) other is = let z : LeavesFiles clock s.file _ = others_leave_files.given me s clock place (Whole m) other (ap is_saved is) in ap (λ (l : Lasting). l.boot) z.lasting
other_boot me s clock place m (repeats reply) other is = let z : LeavesFiles clock s.file _ = others_leave_files.given me s clock place (Whole m) other (ap is_saved is) in ap (λ (l : Lasting). l.boot) z.lasting
other_boot me s clock place m (replies_to head reply ts last) other is = let z : LeavesFiles clock s.file _ = others_leave_files.given me s clock place (Whole m) other (ap is_saved is) in ap (λ (l : Lasting). l.boot) z.lasting
other_boot me s clock place m (dispatches head x) other is = let z : LeavesFiles clock s.file _ = others_leave_files.given me s clock place (Whole m) other (ap is_saved is) in ap (λ (l : Lasting). l.boot) z.lasting

row_boot_by : (b : Bool) (me : Node) (s : NodeState) (clock place : ℕ) (m : Message) → is_of_client (Some m.head.from) ≡ b → (node_row me s clock place (Whole m)).state.file.lasting.boot ≡ s.file.lasting.boot
unfolding node_row file_row
row_boot_by true me s clock place m is = rw is (does_boot me s.file clock place (file_decides me (holds_of s.vol.transactions) s.file clock (Whole m)))
row_boot_by false me s clock place m is = other_boot me s clock place m _ is refl

pub row_boot : (me : Node) (s : NodeState) (clock place : ℕ) (m : Message) → (node_row me s clock place (Whole m)).state.file.lasting.boot ≡ s.file.lasting.boot
row_boot me s clock place m = row_boot_by (is_of_client (Some m.head.from)) me s clock place m refl

-- ---- a cell

z_le : (n : ℕ) → 0 ≤ n
z_le n = omega (arith)

-- whatever its number is
abbrev Asks : NodeCell → ℕ → ℕ → ℕ → ℕ → ℕ → Type 0
Asks c i n volume family stamp = IsAskedFor c i volume family stamp

abbrev AllAsked : NodeCell → ℕ → Table Transaction → Type 0
AllAsked c i ts = AllAre (Asks c i) 0 ts

-- at a server that is up
abbrev UpAsked : NodeCell → ℕ → NodeHost → Type 0
UpAsked c i h = h.down ≡ None → AllAsked c i h.state.vol.transactions

abbrev Asked : NodeCell → Type 0
Asked c = (i : ℕ) → UpAsked c i (c.hosts i)

-- further messages were sent, and the server is in its boot
kept : (c d : NodeCell) (i : ℕ) (more : List Message) → d.sent ≡ c.sent ++ more → (d.hosts i).state.file.lasting.boot ≡ (c.hosts i).state.file.lasting.boot → (volume family stamp : ℕ) → IsAskedFor c i volume family stamp → IsAskedFor d i volume family stamp
kept c d i more sent boot volume family stamp h = record {
  place = h.place;
  m = h.m;
  user = h.user;
  call = h.call;
  sent = ap (λ (ms : List Message). message_at ms h.place) sent ∙ at_more c.sent more h.place h.m h.sent;
  to = h.to;
  in_boot = h.in_boot ∙ sym boot;
  under = h.under;
  asks = h.asks;
  begins = h.begins;
}

weaker : (c d : NodeCell) (i : ℕ) (ts : Table Transaction) → ((volume family stamp : ℕ) → IsAskedFor c i volume family stamp → IsAskedFor d i volume family stamp) → AllAsked c i ts → AllAsked d i ts
weaker c d i [] more h = tt
weaker c d i (p ∷ ps) more h = (more p.1.volume p.1.family p.1.stamp h.0, weaker c d i ps more h.1)

module _ (c : NodeCell) (h : Asked c) where
  abbrev R : NodeMoved → Type 0
  R m = Asked m.cell

  -- no server did anything
  still : (d : NodeCell) (more : List Message) → d.sent ≡ c.sent ++ more → d.hosts ≡ c.hosts → Asked d
  still d more sent hosts i up =
      let same : d.hosts i ≡ c.hosts i = ap (λ (f : ℕ → NodeHost). f i) hosts in
      subst (λ (x : NodeHost). AllAsked d i x.state.vol.transactions) (sym same)
      (weaker c d i (c.hosts i).state.vol.transactions (kept c d i more sent (ap (λ (x : NodeHost). x.state.file.lasting.boot) same)) (h i (subst (λ (x : NodeHost). x.down ≡ None) same up)))

  -- one did
  module _ (i : ℕ) (s : HostStep NodeState) where
    abbrev d : NodeCell
    d = (server_stepped c i s).cell

    at : d.hosts i ≡ s.host
    at = at_put i i (λ (x : NodeHost). x ≡ s.host) s.host c.hosts (λ one. refl) (λ other. absurd (other refl))

    -- what the server of the step had is asked for behind it, if it is in its boot
    had : s.host.state.file.lasting.boot ≡ (c.hosts i).state.file.lasting.boot → (volume family stamp : ℕ) → IsAskedFor c i volume family stamp → IsAskedFor d i volume family stamp
    had boot = kept c d i s.sent refl (ap (λ (x : NodeHost). x.state.file.lasting.boot) at ∙ boot)

    one : UpAsked d i s.host → R (server_stepped c i s)
    one k j = at_put i j (UpAsked d j) s.host c.hosts (λ same. subst (λ (n : ℕ). UpAsked d n s.host) same k)
        (λ other up. weaker c d j (c.hosts j).state.vol.transactions
        (kept c d j s.sent refl (at_put i j (λ (x : NodeHost). x.state.file.lasting.boot ≡ (c.hosts j).state.file.lasting.boot) s.host c.hosts (λ same. absurd (other same)) (λ apart. refl))) (h j up))

  -- ---- each step of a server

  falls_on : (i : ℕ) (s : HostStep NodeState) (fall : Fall) → s.host.down ≡ Some fall → R (server_stepped c i s)
  falls_on i s fall down = one i s (λ up. let no : None ≡ Some fall = sym up ∙ down in absurd cc)

  serves_by : (i place : ℕ) (m : Message) (o : Option Blow) → (c.hosts i).down ≡ None → IsGiven c place m (Server i) → R (server_stepped c i (served_by (node_kind (Server i)) (c.hosts i) c.clock place m o))
  serves_by i place m None up g =
      let s : HostStep NodeState = served_by (node_kind (Server i)) (c.hosts i) c.clock place m None in
      let now : s.host.state.file.lasting.boot ≡ (c.hosts i).state.file.lasting.boot = row_boot (Server i) (c.hosts i).state c.clock place m in
      one i s (λ still_up.
      (row_all (Asks (d i s) i) 0 (Server i) (c.hosts i).state c.clock place m
      (λ user call n volume family new asks boot begins. record {
        place = place;
        m = m;
        user = user;
        call = call;
        sent = at_more c.sent s.sent place m g.sent;
        to = g.to;
        in_boot = boot ∙ (sym now ∙ ap (λ (x : NodeHost). x.state.file.lasting.boot) (sym (at i s)));
        under = refl;
        asks = asks;
        begins = begins;
      })
      (z_le (c.hosts i).state.vol.last_transaction, weaker c (d i s) i (c.hosts i).state.vol.transactions (had i s now) (h i up))).1)
  serves_by i place m (Some b) up g = falls_on i (served_by (node_kind (Server i)) (c.hosts i) c.clock place m (Some b)) (in_step m c.clock b) refl

  -- it has none, or is down
  ends_on : (i : ℕ) (f : Begun NodeState) (fall : Fall) (o : Outcome) → R (server_stepped c i (ends (node_kind (Server i)) (c.hosts i) c.clock c.count f fall o))
  unfolding node_start_row
  ends_on i f fall comes_up = one i (ends (node_kind (Server i)) (c.hosts i) c.clock c.count f fall comes_up) (λ up. tt)
  ends_on i f fall fails_early = falls_on i (ends (node_kind (Server i)) (c.hosts i) c.clock c.count f fall fails_early) fall refl
  ends_on i f fall fails_midway = falls_on i (ends (node_kind (Server i)) (c.hosts i) c.clock c.count f fall fails_midway) in_boot refl
  ends_on i f fall is_full = falls_on i (ends (node_kind (Server i)) (c.hosts i) c.clock c.count f fall is_full) at_rest refl

  same_on : (i : ℕ) (s : HostStep NodeState) → s.host.state ≡ (c.hosts i).state → s.host.down ≡ (c.hosts i).down → R (server_stepped c i s)
  same_on i s state down = one i s (λ up.
      subst (λ (x : NodeState). AllAsked (d i s) i x.vol.transactions) (sym state)
      (weaker c (d i s) i (c.hosts i).state.vol.transactions (had i s (ap (λ (x : NodeState). x.file.lasting.boot) state)) (h i (sym down ∙ up))))

  piece_on : (i : ℕ) (n : Node) (p : PieceCall) → (c.hosts i).down ≡ None → R (server_stepped c i (piece_timed_out (Server i) (c.hosts i) c.clock n p))
  unfolding piece_timeout_row
  piece_on i n p up =
      let s : HostStep NodeState = piece_timed_out (Server i) (c.hosts i) c.clock n p in
      let z : LeavesFiles c.clock (c.hosts i).state.file _ = others_leave_files.late (Server i) (c.hosts i).state c.clock n p in
      one i s (λ still_up.
      (timed_all (Asks (d i s) i) 0 (Server i) (c.hosts i).state.file.lasting (c.hosts i).state.vol (expired c.clock (c.hosts i).state.file.backs) n p ((c.hosts i).state.vol.sendings n)
      (z_le (c.hosts i).state.vol.last_transaction, weaker c (d i s) i (c.hosts i).state.vol.transactions (had i s (ap (λ (l : Lasting). l.boot) z.lasting)) (h i up))).1)

  break_on : (i : ℕ) (n : Node) (b : BackCall) → (c.hosts i).down ≡ None → R (server_stepped c i (node_timed_out (Server i) (c.hosts i) c.clock n b))
  unfolding node_back_timeout_row back_timeout_row
  break_on i n b up =
      let s : HostStep NodeState = node_timed_out (Server i) (c.hosts i) c.clock n b in
      one i s (λ still_up. weaker c (d i s) i (c.hosts i).state.vol.transactions (had i s refl) (h i up))

  wake_on : (i : ℕ) → (c.hosts i).down ≡ None → R (server_stepped c i (node_woken (Server i) (c.hosts i) c.clock))
  unfolding node_wake_row wake_row
  wake_on i up =
      let s : HostStep NodeState = node_woken (Server i) (c.hosts i) c.clock in
      one i s (λ still_up. weaker c (d i s) i (c.hosts i).state.vol.transactions (had i s refl) (h i up))

  next : (x : CellInput) → R (node_moved c x)
  next x = each R c (record {
    void = h;
    ticks = λ n. still (ticked c (suc n)).cell [] (sym (append-nil c.sent)) refl;
    servers = record {
      serves = λ i place luck m up g. serves_by i place m (struck (c.hosts i).armed luck (node_device_calls (Server i) (c.hosts i).state c.clock (Whole m))) up.up g;
      crashes = λ i up. falls_on i (crashed (node_kind (Server i)) (c.hosts i)) at_rest refl;
      stop_set = λ i calls pick up. same_on i (set_to_stop (node_kind (Server i)) (c.hosts i) calls pick) refl refl;
      fail_set = λ i call up. same_on i (set_to_fail (node_kind (Server i)) (c.hosts i) call) refl refl;
      restarts = λ i after o fall there down. ends_on i (begun_from (node_kind (Server i)) (c.hosts i).state after fall) fall (without_boot_record (can_start (begun_from (node_kind (Server i)) (c.hosts i).state after fall).state.file) o);
      piece_late = λ i n p up is. piece_on i n p up.up;
      break_late = λ i n b up is. break_on i n b up.up;
      wakes = λ i up. wake_on i up.up;
    };
    database = any_database R c (λ s. still (loc_stepped c s).cell s.sent refl refl);
    clients = any_client R c (λ n s. still (client_moves c n s).cell s.sent refl refl) (λ n. still (client_falls c n).cell [] refl refl) (λ n. still (client_rises c n).cell [] refl refl);
    admins = any_admin R c (λ n s. still (admin_moves c n s).cell s.sent refl refl) (λ n. still (admin_falls c n).cell [] refl refl) (λ n. still (admin_rises c n).cell [] refl refl);
  }) x

-- ---- a run

led : (c : NodeCell) (xs : List CellInput) → Asked c → Asked (cell_behind c xs)
led c [] h = h
led c (x ∷ xs) h = led (node_moved c x).cell xs (next c h x)

pub are_asked_for : TransactionsAreAskedFor
are_asked_for s inputs server number t up is =
    let c : NodeCell = cell_behind (node_start s) inputs in
    all_get (Asks c server) 0 number (c.hosts server).state.vol.transactions t (led (node_start s) inputs (λ i up. tt) server up) is
