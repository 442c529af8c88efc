-- The walk over the inputs of a cell: whose the numbers are that the location database gives.
use Rattle.std.proofs.Common.{◌≡◌, ◌≤◌, ℕ, Bool, true, false, List, [], ◌∷◌, ◌++◌, Option, Some, None, refl, sym, subst, arith, ◌∙◌}
use Rattle.std.proofs.Math.Nat.{le_refl}
use Rattle.std.specs.List.{AllByRecursion}
use Rattle.afs_num.specs.declared.messages.Message.{Message}
use Rattle.afs_num.specs.declared.messages.Received.TheVariants.{Whole}
use Rattle.afs_num.specs.declared.types.Key.{Key}
use Rattle.afs_num.specs.declared.types.Node.TheVariants.{Admin, Client, Loc, Server}
use Rattle.spec_history.specs.declared.scripts.Script.{Script}
use Rattle.spec_copyrows.specs.Sites.{CopyState}
use Rattle.spec_adminrows.specs.AdminRow.{AdminState}
use Rattle.spec_rows.specs.Hosts.{at_rest, begun_from, comes_up, crashed, ends, fails_early, fails_midway, in_boot, in_step, is_full, served_by, set_to_fail, set_to_stop, struck, without_boot_record, Blow, Fall, HostStep, Outcome}
use Rattle.spec_rows.specs.LocRow.{loc_can_start, loc_decides, loc_device_calls, LocState}
use Rattle.spec_rows.specs.LocSteps.{loc_kind, loc_row, loc_start_row}
use Rattle.spec_rows.specs.Runs.{Entry}
use Rattle.spec_rows.specs.Steps.{Begun, Step}
use Rattle.spec_volrows.specs.VolStates.{NodeState}
use Rattle.spec_runs.specs.NodeRuns.{admin_falls, admin_moves, admin_rises, client_falls, client_moves, client_rises, loc_stepped, node_moved, node_start, server_stepped, CellInput, NodeCell, NodeLeads, NodeMoved}
use Rattle.law_walks.specs.Sends.{AnswersAre, LocIs, SentIs}
use Rattle.law_walks.proofs.AllMessages.{grows, next_sent}
use Rattle.law_walks.proofs.EachKind.{any_admin, any_client, any_server, each}
use Rattle.law_walks.proofs.LocSends.{begun_is, ended_is, serve_by, LocSends}
use Rattle.law_walks.proofs.Seats.{all_more, weaker_all, weaker_seats}
use Rattle.law_places.specs.Accepting.{cell_behind}
use Rattle.law_families.specs.Entries.{AreKeyed}
use Rattle.law_stamps.specs.Told.{entries_in}
use Rattle.law_courses.specs.Courses.{course_in, Course}
use Rattle.law_courses.proofs.Runs.{each_run}
use Rattle.law_locks.specs.Grips.{AreGripped}
use Rattle.law_locks.proofs.Walk.{grips_are_drawn}
use Rattle.law_numbers.specs.Numbers.{next_volume}
use Rattle.law_new_volumes.specs.GivenNumbers.{volume_number_in, AllGiveOwn, GivesOwn, NumbersAreGivenOnce}
use Rattle.law_new_volumes.proofs.Giving.{decides_draws, next_begun, next_behind, next_left, still_own, Draws}
use Rattle.law_new_volumes.proofs.Makers.{all_made, rules, AnyDump, AskedBy, MadeBy}

pub keyed : (s : Script) (inputs : List CellInput) → AreKeyed (entries_in (cell_behind (node_start s) inputs))
keyed s inputs = let g : AreGripped (course_in s inputs) (cell_behind (node_start s) inputs) = grips_are_drawn s inputs in record { ascends = g.line.ascends; keyed = g.line.keyed }

-- what gives no number gives its own
none_own : (owner : ℕ → Key) (first next : ℕ) (m : Message) → volume_number_in m.carried ≡ None → GivesOwn owner first next m
none_own owner first next m none id e = let no : None ≡ Some id = sym none ∙ e in absurd cc

-- ---- a cell

-- all that was sent, and all that the database keeps, gives numbers of these owners
pub record Own (owner : ℕ → Key) (first : ℕ) (c : NodeCell) : Type 0 where
  pub low : first ≤ next_volume c
  pub sent : AllByRecursion (GivesOwn owner first (next_volume c)) c.sent
  pub loc : LocIs (GivesOwn owner first (next_volume c)) c.loc.state

abbrev Owned : ℕ → NodeCell → Type 0
Owned first c = (owner : ℕ → Key) × Own owner first c

module _ (first : ℕ) (c : NodeCell) (keys : AreKeyed (entries_in c)) (owner : ℕ → Key) (h : Own owner first c) where
  abbrev n : ℕ
  n = next_volume c

  abbrev s : LocState
  s = c.loc.state

  -- what its entry sent is of its node
  abbrev R : NodeMoved → Type 0
  R m = SentIs MadeBy m.entry → Owned first m.cell

  others : (d : NodeCell) (ms : List Message) → d.loc ≡ c.loc → d.sent ≡ c.sent ++ ms → AllByRecursion (GivesOwn owner first n) ms → Owned first d
  others d ms same sent new = (
    owner,
    record {
      low = subst (λ l. first ≤ l.state.lasting.next_id) (sym same) h.low;
      sent = subst (λ l. AllByRecursion (GivesOwn owner first l.state.lasting.next_id) d.sent) (sym same) (subst (AllByRecursion (GivesOwn owner first n)) (sym sent) (all_more (GivesOwn owner first n) c.sent ms h.sent new));
      loc = subst (λ l. LocIs (GivesOwn owner first l.state.lasting.next_id) l.state) (sym same) h.loc;
    },
  )

  server_on : (i : ℕ) (st : HostStep NodeState) → R (server_stepped c i st)
  server_on i st made = others (server_stepped c i st).cell st.sent refl refl (weaker_all (MadeBy (Server i)) (GivesOwn owner first n) st.sent (λ m k. none_own owner first n m k.1) made)

  client_on : (i : ℕ) (st : Step CopyState) → R (client_moves c i st)
  client_on i st made = others (client_moves c i st).cell st.sent refl refl (weaker_all (MadeBy (Client i)) (GivesOwn owner first n) st.sent (λ m k. none_own owner first n m k.1) made)

  admin_on : (i : ℕ) (st : Step AdminState) → R (admin_moves c i st)
  admin_on i st made = others (admin_moves c i st).cell st.sent refl refl (weaker_all (MadeBy (Admin i)) (GivesOwn owner first n) st.sent (λ m k. none_own owner first n m k.1) made)

  -- ---- the database

  answers : (now : ℕ → Key) (next boot : ℕ) → AnswersAre (GivesOwn now first next) Loc boot
  answers now next boot = record { notice = λ head to id e. absurd cc; refusal = λ head code to id e. absurd cc }

  still_on : (st : HostStep LocState) → st.host.state.lasting.next_id ≡ n → LocIs (GivesOwn owner first n) st.host.state → AllByRecursion (GivesOwn owner first n) st.sent → R (loc_stepped c st)
  still_on st same has sent made = (
    owner,
    record {
      low = subst (λ (k : ℕ). first ≤ k) (sym same) h.low;
      sent = subst (λ (k : ℕ). AllByRecursion (GivesOwn owner first k) (c.sent ++ st.sent)) (sym same) (all_more (GivesOwn owner first n) c.sent st.sent h.sent sent);
      loc = subst (λ (k : ℕ). LocIs (GivesOwn owner first k) st.host.state) (sym same) has;
    },
  )

  -- behind what is decided on a message
  module _ (m : Message) (d : Draws owner first n s.lasting.boot (loc_decides s (Whole m))) where
    abbrev next : ℕ
    next = next_behind n (loc_decides s (Whole m))

    abbrev Now : Message → Type 0
    Now = GivesOwn d.now first next

    more : (k : Message) → GivesOwn owner first n k → Now k
    more = still_own owner d.now first n next d.rises d.stays

    had : LocIs Now s
    had = record { seats = weaker_seats (GivesOwn owner first n) Now s.seats more h.loc.seats; kept = weaker_seats (GivesOwn owner first n) Now s.lasting.kept more h.loc.kept }

    low_on : first ≤ next
    low_on = let a : first ≤ n = h.low in let b : n ≤ next = d.rises in omega (arith, a, b)

    drawn_on : (st : HostStep LocState) → st.host.state.lasting.next_id ≡ next → LocSends Now st → R (loc_stepped c st)
    drawn_on st same z made = (
      d.now,
      record {
        low = subst (λ (k : ℕ). first ≤ k) (sym same) low_on;
        sent = subst (λ (k : ℕ). AllByRecursion (GivesOwn d.now first k) (c.sent ++ st.sent)) (sym same) (all_more Now c.sent st.sent (weaker_all (GivesOwn owner first n) Now c.sent more h.sent) z.sent);
        loc = subst (λ (k : ℕ). LocIs (GivesOwn d.now first k) st.host.state) (sym same) z.has;
      },
    )

    serves_on : (place : ℕ) → R (loc_stepped c (served_by loc_kind c.loc c.clock place m None))
    unfolding loc_row
    serves_on place = drawn_on (served_by loc_kind c.loc c.clock place m None) (next_left s (loc_decides s (Whole m))) (serve_by Now c.loc had c.clock place m None (answers d.now next s.lasting.boot) d.makes)

    ended_next : (clock : ℕ) (b : Blow) (f : Begun LocState) (o : Outcome) → (o ≡ fails_early → ⊥) → (ends loc_kind c.loc c.clock c.count f (in_step m clock b) o).host.state.lasting.next_id ≡ f.state.lasting.next_id
    unfolding loc_start_row
    ended_next clock b f comes_up goes = refl
    ended_next clock b f fails_early goes = absurd (goes refl)
    ended_next clock b f fails_midway goes = refl
    ended_next clock b f is_full goes = refl

    after_on : (clock : ℕ) (b : Blow) (o : Outcome) → (o ≡ fails_early → ⊥) → R (loc_stepped c (ends loc_kind c.loc c.clock c.count (begun_from loc_kind s true (in_step m clock b)) (in_step m clock b) o))
    after_on clock b o goes =
        let f : Begun LocState = begun_from loc_kind s true (in_step m clock b) in
        drawn_on (ends loc_kind c.loc c.clock c.count f (in_step m clock b) o) (ended_next clock b f o goes ∙ next_begun s (loc_decides s (Whole m))) (ended_is Now c.loc had c.clock c.count f (in_step m clock b) o (begun_is Now c.loc had true (in_step m clock b) d.makes))

  draws_of : (m : Message) → Draws owner first n s.lasting.boot (loc_decides s (Whole m))
  draws_of m = decides_draws s m owner first keys h.low

  serves : (place : ℕ) (m : Message) (o : Option Blow) → R (loc_stepped c (served_by loc_kind c.loc c.clock place m o))
  serves place m None = serves_on m (draws_of m) place
  serves place m (Some b) = still_on (served_by loc_kind c.loc c.clock place m (Some b)) refl h.loc tt

  -- where a restart finds the database as it was
  same_next : (f : Begun LocState) (fall : Fall) (o : Outcome) → f.state.lasting.next_id ≡ n → (ends loc_kind c.loc c.clock c.count f fall o).host.state.lasting.next_id ≡ n
  unfolding loc_start_row
  same_next f fall comes_up is = is
  same_next f fall fails_early is = refl
  same_next f fall fails_midway is = is
  same_next f fall is_full is = is

  same_on : (f : Begun LocState) (fall : Fall) (o : Outcome) → f.state.lasting.next_id ≡ n → LocIs (GivesOwn owner first n) f.state → R (loc_stepped c (ends loc_kind c.loc c.clock c.count f fall o))
  same_on f fall o is has = let z : LocSends (GivesOwn owner first n) (ends loc_kind c.loc c.clock c.count f fall o) = ended_is (GivesOwn owner first n) c.loc h.loc c.clock c.count f fall o has in still_on (ends loc_kind c.loc c.clock c.count f fall o) (same_next f fall o is) z.has z.sent

  restarts : (after : Bool) (fall : Fall) (o : Outcome) → R (loc_stepped c (ends loc_kind c.loc c.clock c.count (begun_from loc_kind s after fall) fall o))
  restarts after at_rest o = same_on (begun_from loc_kind s after at_rest) at_rest o refl h.loc
  restarts false (in_step m clock b) o = same_on (begun_from loc_kind s false (in_step m clock b)) (in_step m clock b) o refl h.loc
  restarts true (in_step m clock b) comes_up = after_on m (draws_of m) clock b comes_up (λ e. absurd cc)
  restarts true (in_step m clock b) fails_early = still_on (ends loc_kind c.loc c.clock c.count (begun_from loc_kind s true (in_step m clock b)) (in_step m clock b) fails_early) refl h.loc tt
  restarts true (in_step m clock b) fails_midway = after_on m (draws_of m) clock b fails_midway (λ e. absurd cc)
  restarts true (in_step m clock b) is_full = after_on m (draws_of m) clock b is_full (λ e. absurd cc)
  restarts false in_boot o = same_on (begun_from loc_kind s false in_boot) in_boot o refl h.loc
  restarts true in_boot o = same_on (begun_from loc_kind s true in_boot) in_boot o refl (begun_is (GivesOwn owner first n) c.loc h.loc true in_boot tt)

  -- ---- every input

  pub own_next : (x : CellInput) → R (node_moved c x)
  own_next x = each R c (record {
    void = λ made. (owner, h);
    ticks = λ k made. (owner, record { low = h.low; sent = h.sent; loc = h.loc });
    servers = any_server R c server_on;
    database = record {
      serves = λ place luck m up g. serves place m (struck c.loc.armed luck (loc_device_calls c.loc.state (loc_decides c.loc.state (Whole m))));
      crashes = λ up. still_on (crashed loc_kind c.loc) refl h.loc tt;
      stop_set = λ calls pick up. still_on (set_to_stop loc_kind c.loc calls pick) refl h.loc tt;
      fail_set = λ call up. still_on (set_to_fail loc_kind c.loc call) refl h.loc tt;
      restarts = λ after o fall down. restarts after fall (without_boot_record (loc_can_start (begun_from loc_kind c.loc.state after fall).state) o);
    };
    clients = any_client R c client_on (λ i made. others (client_falls c i).cell [] refl refl tt) (λ i made. others (client_rises c i).cell [] refl refl tt);
    admins = any_admin R c admin_on (λ i made. others (admin_falls c i).cell [] refl refl tt) (λ i made. others (admin_rises c i).cell [] refl refl tt);
  }) x

-- ---- a run

pub owned : (s : Script) (inputs : List CellInput) → Owned (next_volume (node_start s)) (cell_behind (node_start s) inputs)
owned s inputs = each_run s (λ (course : Course) (c : NodeCell). Owned (next_volume (node_start s)) c)
    (λ done x t h.
    let c : NodeCell = cell_behind (node_start s) done in
    own_next (next_volume (node_start s)) c (keyed s done) h.0 h.1 x (next_sent MadeBy AnyDump AskedBy rules c (all_made s done) x))
    ((λ (id : ℕ). record { node = Loc; epoch = 0; number = 0 }), record { low = le_refl (next_volume (node_start s)); sent = tt; loc = record { seats = tt; kept = tt } }) inputs

-- ---- as the history tells it: what its entries sent was sent

pub front_of : {A : Type 0} (P : A → Type 0) (xs ys : List A) → AllByRecursion P (xs ++ ys) → AllByRecursion P xs × AllByRecursion P ys
front_of {A} P [] ys h = (tt, h)
front_of {A} P (x ∷ xs) ys h = let z = front_of P xs ys h.1 in ((h.0, z.0), z.1)

record Told (owner : ℕ → Key) (first next : ℕ) (c : NodeCell) (es : List Entry) : Type 0 where
  before : AllByRecursion (GivesOwn owner first next) c.sent
  entries : AllGiveOwn owner first next es

told : (owner : ℕ → Key) (first next : ℕ) (c : NodeCell) (xs : List CellInput) (es : List Entry) (end : NodeCell) → NodeLeads c xs es end → AllByRecursion (GivesOwn owner first next) end.sent → Told owner first next c es
told owner first next c [] [] end is all = record { before = subst (λ (d : NodeCell). AllByRecursion (GivesOwn owner first next) d.sent) is all; entries = tt }
told owner first next c [] (e ∷ es) end is all = absurd is
told owner first next c (x ∷ xs) [] end is all = absurd is
told owner first next c (x ∷ xs) (e ∷ es) end is all =
    let later : Told owner first next (node_moved c x).cell es = told owner first next (node_moved c x).cell xs es end is.1 all in
    let both = front_of (GivesOwn owner first next) c.sent (node_moved c x).entry.sent (subst (AllByRecursion (GivesOwn owner first next)) (grows c x) later.before) in
    record { before = both.0; entries = (subst (λ (y : Entry). AllByRecursion (GivesOwn owner first next) y.sent) (sym is.0) both.1, later.entries) }

end_is : (c : NodeCell) (xs : List CellInput) (es : List Entry) (end : NodeCell) → NodeLeads c xs es end → end ≡ cell_behind c xs
end_is c [] [] end is = is
end_is c [] (e ∷ es) end is = absurd is
end_is c (x ∷ xs) [] end is = absurd is
end_is c (x ∷ xs) (e ∷ es) end is = end_is (node_moved c x).cell xs es end is.1

pub given_once : NumbersAreGivenOnce
given_once s inputs history end leads =
    let z = owned s inputs in
    let first : ℕ = next_volume (node_start s) in
    let o : Own z.0 first end = subst (Own z.0 first) (sym (end_is (node_start s) inputs history end leads)) z.1 in
    record { number_owner = z.0; own = (told z.0 first (next_volume end) (node_start s) inputs history end leads o.sent).entries }
