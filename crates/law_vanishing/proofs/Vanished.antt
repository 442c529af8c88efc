-- Where a server tells that a read-write volume vanishes, a call asked for it, or the server begins again and the volume is flagged.
use Rattle.std.proofs.Common.{◌≡◌, ◌⊎◌, inl, inr, ℕ, zero, suc, Bool, true, false, List, [], ◌∷◌, Option, Some, None, refl, sym, ap, subst, ◌∙◌, eqb-true}
use Rattle.std.specs.Prelude.{nat_eq, slice_get, take}
use Rattle.afs_num.specs.declared.histories.Actor.TheVariants as actors
use Rattle.afs_num.specs.declared.messages.Call.TheVariants as ask
use Rattle.afs_num.specs.declared.messages.Carried.TheVariants as carried
use Rattle.afs_num.specs.declared.messages.Message.{Message}
use Rattle.afs_num.specs.declared.messages.Received.TheVariants.{Whole}
use Rattle.afs_num.specs.declared.records.RecordBody.{RecordBody}
use Rattle.afs_num.specs.declared.types.Node.{Node}
use Rattle.afs_num.specs.declared.types.Node.TheVariants.{Server}
use Rattle.afs_num.specs.declared.volume_calls.VolCall.{VolCall}
use Rattle.afs_num.specs.declared.volume_calls.VolCall.TheVariants as calls
use Rattle.spec_history.specs.declared.scripts.Script.{Script}
use Rattle.spec_ideal.specs.Tables.{get}
use Rattle.spec_model.specs.Calls.{admitted}
use Rattle.spec_model.specs.Calls as pairs
use Rattle.spec_records.specs.Durable.{stamp_of, Durable, Stored}
use Rattle.spec_rows.specs.Hosts.{at_rest, begun_from, crashed, fall_line, in_boot, in_step, restarted, served_by, set_to_fail, set_to_stop, struck, Blow, Fall, HostStep, Outcome}
use Rattle.spec_rows.specs.Runs.{message_at, Entry}
use Rattle.spec_rows.specs.States.{durable_of}
use Rattle.spec_volrows.specs.NodeHosts.{node_kind, node_timed_out, node_woken, piece_timed_out}
use Rattle.spec_volrows.specs.VolRow.{family_of, found}
use Rattle.spec_volrows.specs.VolStates.{NodeState, Transaction}
use Rattle.spec_volrows.specs.VolSteps.{node_device_calls}
use Rattle.spec_runs.specs.NodeRuns.{has_host, node_moved, node_start, server_stepped, CellInput, NodeCell, NodeLeads, NodeMoved}
use Rattle.law_walks.specs.Kinds.{IsGiven}
use Rattle.law_walks.proofs.EachKind.{any_admin, any_client, any_database, each}
use Rattle.law_places.specs.Accepting.{cell_behind}
use Rattle.law_families.specs.Enables.{IsCutIn}
use Rattle.law_families.proofs.Opening.{of_family_is}
use Rattle.law_families.proofs.Turns.{IsWell, OwnBy}
use Rattle.law_families.proofs.Volumes.{all_get}
use Rattle.law_families.proofs.Walk.{first_stands, next, up_well, AllStand, WellBy}
use Rattle.law_vanishing.specs.Deletions.{DeletedElsewhere, IsDelete}
use Rattle.law_fences.proofs.Claiming.{claims, FellIs}
use Rattle.law_one_server.proofs.ServersThere.{is_there}
use Rattle.law_vanishing.specs.Vanishing.{tells_vanish, IsAskedWell, IsUnfilled, VolumesVanishElsewhere}
use Rattle.law_vanishing.proofs.Asked.{decided_saves, BodyAsked, Deletes, DeletesIn, IsSaved, Saves}
use Rattle.law_vanishing.proofs.Restarting.{restart_tells, CutDeletes, Told}
use Rattle.law_vanishing.proofs.Telling.{back_tells, piece_tells, row_tells, woken_tells, TellsDeed}

-- ---- a server that is given a message

module _ (c : NodeCell) (i : ℕ) (own : OwnBy (c.hosts i).state) (well : IsWell (c.hosts i).state) (place : ℕ) (m : Message) (sent : message_at c.sent place ≡ Some m) (to : m.head.to ≡ Server i) (host : has_host c i ≡ true) (live : ((c.hosts i).down ≡ None) ⊎ IsCutIn c i m) where
  abbrev s : NodeState
  s = (c.hosts i).state

  abbrev d : Durable
  d = durable_of s.file.lasting

  -- the family of the transaction is that of the volume, which has the volume's number
  family_found : (volume family number : ℕ) (t : Transaction) (x : Stored) → found family number s.vol.transactions ≡ Some t → t.volume ≡ volume → get volume d.volumes ≡ Some x → nat_eq x.volume.kind 0 ≡ true → family ≡ volume
  family_found volume family number t x there on at kind =
      let z = of_family_is family (get number s.vol.transactions) t there in
      let its : x.volume.family ≡ t.family = well.all number t z.0 x (ap (λ (k : ℕ). get k d.volumes) on ∙ at) in
      sym (eqb-true t.family family z.1) ∙ (sym its ∙ all_get volume d.volumes x own at kind)

  by_call : (volume : ℕ) (user : List ℕ) (call : VolCall) (x : DeletesIn s.vol.transactions call volume) → m.carried ≡ carried.Call user (ask.Volume call) → admitted d.boot s.vol.seats m.head ≡ pairs.runs → x.family ≡ volume → stamp_of (family_of call) d ≡ m.head.stamp → IsDelete c i volume
  by_call volume user call x is_call runs same stored = record {
    host = host;
    place = place;
    m = m;
    sent = sent;
    to = to;
    user = user;
    number = x.number;
    asks = is_call ∙ ap (λ (y : VolCall). carried.Call user (ask.Volume y)) (x.is ∙ ap (λ (f : ℕ). calls.DeleteVolume f x.number) same);
    live = live;
    runs = runs;
    t = x.t;
    there = ap (λ (f : ℕ). found f x.number s.vol.transactions) (sym same) ∙ x.there;
    on = x.on;
    stored = ap (λ (f : ℕ). stamp_of f d) (sym (ap family_of x.is ∙ same)) ∙ stored;
  }

  told_so : (volume : ℕ) → TellsDeed volume (Server i) (Server i) s m → IsDelete c i volume
  told_so volume z =
      let saved : IsSaved d s.vol m.head m.carried z.x = subst (Saves d s.vol m.head m.carried) z.decides (decided_saves (Server i) d s.vol m) in
      let asked : DeletesIn s.vol.transactions saved.call volume = subst (BodyAsked s.vol.transactions saved.call) z.body saved.asked in
      by_call volume saved.user saved.call asked saved.is_call saved.runs (family_found volume asked.family asked.number asked.t z.stored asked.there asked.on z.there z.kind) (saved.stored volume (subst (λ (b : RecordBody). Deletes b volume) (sym z.body) refl))

-- ---- a cell of a run

module _ (s : Script) (inputs : List CellInput) where
  abbrev c : NodeCell
  c = cell_behind (node_start s) inputs

  stands : (d : NodeCell) (xs : List CellInput) → AllStand d → AllStand (cell_behind d xs)
  stands d [] h = h
  stands d (x ∷ xs) h = stands (node_moved d x).cell xs (next d h x)

  h : AllStand c
  h = stands (node_start s) inputs (first_stands s)

  abbrev Goes : ℕ → ℕ → Type 0
  Goes i volume = IsDelete c i volume ⊎ IsUnfilled c i volume

  abbrev TellsSo : NodeMoved → Type 0
  TellsSo m = (volume i : ℕ) → m.entry.actor ≡ actors.Node (Server i) → tells_vanish volume (Server i) m.entry.lines ≡ true → Goes i volume

  one : (i : ℕ) (st : HostStep NodeState) → ((volume : ℕ) → tells_vanish volume (Server i) st.lines ≡ true → Goes i volume) → TellsSo (server_stepped c i st)
  one i st k volume j actor e = let same : i ≡ j = cc in subst (λ (x : ℕ). tells_vanish volume (Server x) st.lines ≡ true → Goes x volume) same (k volume) e

  no : false ≡ true → ⊥
  no e = absurd cc

  falls : (volume : ℕ) (n me : Node) (b : Bool) → tells_vanish volume n (fall_line me b ∷ []) ≡ true → ⊥
  falls volume n me true e = no e
  falls volume n me false e = no e

  serves_on : (i place : ℕ) (m : Message) (o : Option Blow) → has_host c i ≡ true → (c.hosts i).down ≡ None → IsGiven c place m (Server i) → TellsSo (server_stepped c i (served_by (node_kind (Server i)) (c.hosts i) c.clock place m o))
  serves_on i place m None there up g =
      one i (served_by (node_kind (Server i)) (c.hosts i) c.clock place m None)
      (λ volume e. inl (told_so c i (h.hosts i).own (up_well (c.hosts i) up (h.hosts i)) place m g.sent g.to there (inl up) volume (row_tells volume (Server i) (Server i) (c.hosts i).state c.clock place m e)))
  serves_on i place m (Some b) there up g = one i (served_by (node_kind (Server i)) (c.hosts i) c.clock place m (Some b)) (λ volume e. absurd (falls volume (Server i) (Server i) b.stops e))

  -- ---- as it begins again

  cut_on : (i volume : ℕ) (fall : Fall) → (c.hosts i).down ≡ Some fall → CutDeletes volume (Server i) (Server i) (c.hosts i).state fall → IsDelete c i volume
  cut_on i volume at_rest down x = absurd x
  cut_on i volume in_boot down x = absurd x
  cut_on i volume (in_step m clock b) down x =
      let fell : FellIs (claims s inputs).bounds c i (Some (in_step m clock b)) = subst (FellIs (claims s inputs).bounds c i) down ((claims s inputs).fell i) in
      let well : IsWell (c.hosts i).state = subst (λ (o : Option Fall). WellBy o (c.hosts i).state) down (h.hosts i).well in
      told_so c i (h.hosts i).own well fell.1.place m fell.1.at fell.1.to (is_there s inputs i (in_step m clock b) down) (inr (record { clock = clock; blow = b; down = down })) volume x

  restarts_on : (i : ℕ) (after : Bool) (o : Outcome) (fall : Fall) → (c.hosts i).down ≡ Some fall → TellsSo (server_stepped c i (restarted (node_kind (Server i)) (c.hosts i) c.clock c.count after o fall))
  restarts_on i after o fall down = one i (restarted (node_kind (Server i)) (c.hosts i) c.clock c.count after o fall) (λ volume e. by volume (restart_tells volume (Server i) (Server i) (c.hosts i) c.clock c.count after o fall e))
    where
      by : (volume : ℕ) → Told volume (Server i) (Server i) (c.hosts i).state fall (begun_from (node_kind (Server i)) (c.hosts i).state after fall) → Goes i volume
      by volume (inl (inl x)) = inl (cut_on i volume fall down x)
      by volume (inl (inr x)) = inr (record { after = after; fall = fall; down = down; flagged = inl x })
      by volume (inr x) = inr (record { after = after; fall = fall; down = down; flagged = inr x })

  -- ---- every input

  tells_so : (x : CellInput) → TellsSo (node_moved c x)
  tells_so x = each TellsSo c (record {
    void = λ volume i actor. absurd cc;
    ticks = λ n volume i actor. absurd cc;
    servers = record {
      serves = λ i place luck m up g. serves_on i place m (struck (c.hosts i).armed luck (node_device_calls (Server i) (c.hosts i).state c.clock (Whole m))) up.there up.up g;
      crashes = λ i up. one i (crashed (node_kind (Server i)) (c.hosts i)) (λ volume e. absurd (no e));
      stop_set = λ i calls pick up. one i (set_to_stop (node_kind (Server i)) (c.hosts i) calls pick) (λ volume e. absurd (no e));
      fail_set = λ i call up. one i (set_to_fail (node_kind (Server i)) (c.hosts i) call) (λ volume e. absurd (no e));
      restarts = λ i after o fall there down. restarts_on i after o fall down;
      piece_late = λ i n p up is. one i (piece_timed_out (Server i) (c.hosts i) c.clock n p) (λ volume e. absurd (piece_tells volume (Server i) (Server i) (c.hosts i).state c.clock n p e));
      break_late = λ i n b up is. one i (node_timed_out (Server i) (c.hosts i) c.clock n b) (λ volume e. absurd (back_tells volume (Server i) (Server i) (c.hosts i).state c.clock n b e));
      wakes = λ i up. one i (node_woken (Server i) (c.hosts i) c.clock) (λ volume e. absurd (woken_tells volume (Server i) (Server i) (c.hosts i).state c.clock e));
    };
    database = any_database TellsSo c (λ st volume i actor. absurd cc);
    clients = any_client TellsSo c (λ n st volume i actor. absurd cc) (λ n volume i actor. absurd cc) (λ n volume i actor. absurd cc);
    admins = any_admin TellsSo c (λ n st volume i actor. absurd cc) (λ n volume i actor. absurd cc) (λ n volume i actor. absurd cc);
  }) x

-- ---- a run

-- the entry is that of an input
record At (c : NodeCell) (xs : List CellInput) (k : ℕ) (e : Entry) : Type 0 where
  input : CellInput
  entry : e ≡ (node_moved (cell_behind c (take k xs)) input).entry

led_at : (c : NodeCell) (xs : List CellInput) (es : List Entry) (end : NodeCell) (k : ℕ) (e : Entry) → NodeLeads c xs es end → slice_get es k ≡ Some e → At c xs k e
led_at c [] [] end k e leads is = absurd cc
led_at c [] (f ∷ es) end k e leads is = absurd leads
led_at c (x ∷ xs) [] end k e leads is = absurd leads
led_at c (x ∷ xs) (f ∷ es) end zero e leads is = let same : f ≡ e = cc in record { input = x; entry = sym same ∙ leads.0 }
led_at c (x ∷ xs) (f ∷ es) end (suc k) e leads is = let z = led_at (node_moved c x).cell xs es end k e leads.1 is in record { input = z.input; entry = z.entry }

pub vanish_elsewhere : DeletedElsewhere → VolumesVanishElsewhere
vanish_elsewhere elsewhere s inputs history end numbered servers leads k volume server e is actor tells =
    let c : NodeCell = cell_behind (node_start s) (take k inputs) in
    let at : At (node_start s) inputs k e = led_at (node_start s) inputs history end k e leads is in
    by (tells_so s (take k inputs) at.input volume server (sym (ap (λ (f : Entry). f.actor) at.entry) ∙ actor) (sym (ap (λ (f : Entry). tells_vanish volume (Server server) f.lines) at.entry) ∙ tells))
  where
    by : IsDelete (cell_behind (node_start s) (take k inputs)) server volume ⊎ IsUnfilled (cell_behind (node_start s) (take k inputs)) server volume → IsAskedWell s (take k inputs) server volume ⊎ IsUnfilled (cell_behind (node_start s) (take k inputs)) server volume
    by (inl x) = inl (record { asked = x; elsewhere = elsewhere s (take k inputs) server volume numbered servers x })
    by (inr x) = inr x
