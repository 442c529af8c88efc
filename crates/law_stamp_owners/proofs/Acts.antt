-- The steps of an administrator: the stamp at its act's place is its own.
use Rattle.law_legal.specs.Past.{answered_key}
use Rattle.std.proofs.Common.{◌≡◌, ◌<◌, ◌⊎◌, inl, inr, ℕ, ◌+◌, Bool, true, false, cond, List, [], ◌∷◌, Option, Some, None, refl, sym, ap, subst, arith, ◌∙◌, nat_eq, eqb-true}
use Rattle.std.specs.Prelude.{◌&&◌}
use Rattle.afs_num.specs.Nodes.{same_node}
use Rattle.afs_num.specs.declared.messages.Carried.{Carried}
use Rattle.afs_num.specs.declared.messages.Carried.TheVariants as carried
use Rattle.afs_num.specs.declared.messages.Message.{Message}
use Rattle.afs_num.specs.declared.messages.Received.TheVariants.{Whole}
use Rattle.afs_num.specs.declared.types.Head.{Head}
use Rattle.afs_num.specs.declared.types.Key.{Key}
use Rattle.afs_num.specs.declared.types.Node.{Node}
use Rattle.spec_history.specs.declared.lines.Line.{Line}
use Rattle.spec_history.specs.declared.lines.Line.TheVariants as lines
use Rattle.spec_history.specs.declared.scripts.AdminAct.{AdminAct}
use Rattle.spec_model.specs.Calls.{admitted, is_sent_again, Admitted}
use Rattle.spec_model.specs.Calls as pairs
use Rattle.spec_adminrows.specs.Acts.{answered, begins_with, refused}
use Rattle.spec_adminrows.specs.AdminRow.{admin_begin_row, admin_row, admin_timeout_line, admin_timeout_row, admits, ask_of, awaits, dump_held, errand_of, gets, hears, is_awaited, label_in, running_at, sends_again, told, turned, AdminState}
use Rattle.spec_adminrows.specs.Turns.{dead}
use Rattle.spec_adminrows.specs.declared.places.Place.{Place}
use Rattle.spec_adminrows.specs.declared.turns.Ask.{Ask}
use Rattle.spec_adminrows.specs.declared.turns.Running.{Running}
use Rattle.spec_adminrows.specs.declared.turns.Turn.{Turn}
use Rattle.spec_adminrows.specs.declared.turns.Turn.TheVariants as turns
use Rattle.law_stamps.specs.Given.{given_in}
use Rattle.law_stamp_owners.specs.Owners.{IsGivenTo}
use Rattle.law_stamp_owners.proofs.PlaceStamps.{answered_is, first_is, refused_is, stamp_at_place, AtPlace}
use Rattle.law_walks.proofs.Places.{TurnIs}

-- A stamp that the message gives is among the given ones, and its owner's.
abbrev pub Gives : (ℕ → Key) → ℕ → (ℕ → Type 0) → Message → Type 0
Gives owner next given m = (stamp : ℕ) → given_in m.carried ≡ Some stamp → ((stamp < next) × (answered_key m.head ≡ owner stamp)) × given stamp

-- none, or a given one that was given to it before the call of this number
abbrev pub Owns : (ℕ → Key) → ℕ → (ℕ → Type 0) → Node → ℕ → ℕ → ℕ → Type 0
Owns owner next given me epoch number stamp = (stamp ≡ 0) ⊎ (IsGivenTo owner next me epoch number stamp × given stamp)

-- the stamp at the place of its act, if one runs
abbrev pub ActOwns : (ℕ → Key) → ℕ → (ℕ → Type 0) → Node → AdminState → Type 0
ActOwns owner next given me a = (r : Running) → a.running ≡ Some r → Owns owner next given me a.epoch a.last (stamp_at_place r.place)

both : (a b : Bool) → (a && b) ≡ true → (a ≡ true) × (b ≡ true)
both true b e = (refl, e)
both false b e = absurd cc

module _ (owner : ℕ → Key) (next : ℕ) (given : ℕ → Type 0) (me : Node) (a : AdminState) (has : ActOwns owner next given me a) where
  -- what is asked next has a stamp that was given before
  abbrev Next : ℕ → Type 0
  Next stamp = Owns owner next given me a.epoch (a.last + 1) stamp

  none : Next 0
  none = inl refl

  later : (stamp : ℕ) → Owns owner next given me a.epoch a.last stamp → Next stamp
  later stamp (inl zero) = inl zero
  later stamp (inr g) = let before : (owner stamp).number < a.last = g.0.before in inr (record { drawn = g.0.drawn; node = g.0.node; in_epoch = g.0.in_epoch; before = omega (arith, before) }, g.1)

  goes_to : (act : AdminAct) (p : Place) (r : Running) → Some (running_at act p) ≡ Some r → Next (stamp_at_place p) → Next (stamp_at_place r.place)
  goes_to act p r e h = let same : running_at act p ≡ r = cc in subst (λ (x : Running). Next (stamp_at_place x.place)) same h

  turned_owns : (act : AdminAct) (ls : List Line) (t : Turn) → TurnIs (AtPlace Next none) t → ActOwns owner next given me (turned me a act ls t).state
  turned_owns act ls (turns.Goes p) h = λ r is. goes_to act p r is h
  turned_owns act ls (turns.Keeps label bytes p) h = λ r is. goes_to act p r is h
  turned_owns act ls (turns.Ends code) h = λ r is. absurd cc
  turned_owns act ls (turns.Sticks code) h = λ r is. absurd cc
  turned_owns act ls turns.Passes h = has

  pub begun_owns : (act : AdminAct) → ActOwns owner next given me (admin_begin_row me a act).state
  unfolding admin_begin_row
  begun_owns act = turned_owns act (lines.BeginAdmin me act ∷ []) (begins_with act (dump_held (label_in act) a.dumps)) (first_is Next none act (dump_held (label_in act) a.dumps))

  late_by : (r : Running) (b : Bool) → a.running ≡ Some r → ActOwns owner next given me (cond b (sends_again me a (ask_of a r)) (turned me a r.act (admin_timeout_line me a (ask_of a r) ∷ []) (refused r.place dead))).state
  late_by r true is = has
  late_by r false is = turned_owns r.act (admin_timeout_line me a (ask_of a r) ∷ []) (refused r.place dead) (refused_is Next none r.place dead (later (stamp_at_place r.place) (has r is)))

  pub late_owns : (r : Running) → a.running ≡ Some r → ActOwns owner next given me (admin_timeout_row me a r).state
  unfolding admin_timeout_row
  late_owns r is = late_by r (is_sent_again a.tries) is

  admits_owns : (place : ℕ) (head : Head) (o : Admitted Message) → ActOwns owner next given me (admits a place head o).state
  admits_owns place head pairs.runs = has
  admits_owns place head (pairs.kept reply) = has
  admits_owns place head pairs.in_progress = has
  admits_owns place head pairs.older = has
  admits_owns place head (pairs.wrong_boot boot) = has

  -- the stamp that a reply to its last call gives is its own
  is_new : (head : Head) (x : Carried) (q : Ask) → head.to ≡ me → is_awaited a head q ≡ true → Gives owner next given (record { head = head; carried = x }) → (stamp : ℕ) → given_in x ≡ Some stamp → Next stamp
  is_new head x q to same theirs stamp e =
      let k = both (same_node head.from q.callee) _ same in
      let l = both (nat_eq head.epoch a.epoch) _ k.1 in
      let m = both (nat_eq head.number a.last) _ l.1 in
      let its = theirs stamp e in
      let number : (owner stamp).number ≡ a.last = ap (λ (y : Key). y.number) (sym its.0.1) ∙ eqb-true head.number a.last m.0 in
      inr (
        record {
          drawn = its.0.0;
          node = ap (λ (y : Key). y.node) (sym its.0.1) ∙ to;
          in_epoch = ap (λ (y : Key). y.epoch) (sym its.0.1) ∙ eqb-true head.epoch a.epoch l.0;
          before = omega (arith, number);
        },
        its.1,
      )

  hears_owns : (place : ℕ) (r : Running) (head : Head) (x : Carried) → head.to ≡ me → a.running ≡ Some r → is_awaited a head (ask_of a r) ≡ true → Gives owner next given (record { head = head; carried = x }) → ActOwns owner next given me (hears me a place r head x).state
  hears_owns place r head (carried.Call user call) to is its theirs = has
  hears_owns place r head (carried.Refusal code) to is its theirs =
      turned_owns r.act (lines.Given place ∷ []) (refused r.place code) (refused_is Next none r.place code (later (stamp_at_place r.place) (has r is)))
  hears_owns place r head (carried.Reply reply) to is its theirs =
      turned_owns r.act (lines.Given place ∷ []) (answered (errand_of a r.act) r.place reply)
      (answered_is Next none (errand_of a r.act) r.place reply (later (stamp_at_place r.place) (has r is)) (is_new head (carried.Reply reply) (ask_of a r) to its theirs))
  hears_owns place r head carried.Notice to is its theirs = has

  awaits_by : (place : ℕ) (r : Running) (head : Head) (x : Carried) (b : Bool) → is_awaited a head (ask_of a r) ≡ b → head.to ≡ me → a.running ≡ Some r → Gives owner next given (record { head = head; carried = x }) → ActOwns owner next given me (cond b (hears me a place r head x) (told a place [])).state
  awaits_by place r head x true its to is theirs = hears_owns place r head x to is its theirs
  awaits_by place r head x false its to is theirs = has

  awaits_owns : (place : ℕ) (head : Head) (x : Carried) (o : Option Running) → a.running ≡ o → head.to ≡ me → Gives owner next given (record { head = head; carried = x }) → ActOwns owner next given me (awaits me a place head x o).state
  awaits_owns place head x None is to theirs = has
  awaits_owns place head x (Some r) is to theirs = awaits_by place r head x (is_awaited a head (ask_of a r)) refl to is theirs

  gets_owns : (place : ℕ) (head : Head) (x : Carried) → head.to ≡ me → Gives owner next given (record { head = head; carried = x }) → ActOwns owner next given me (gets me a place head x).state
  gets_owns place head (carried.Call user call) to theirs = admits_owns place head (admitted a.epoch a.seats head)
  gets_owns place head (carried.Refusal code) to theirs = awaits_owns place head (carried.Refusal code) a.running refl to theirs
  gets_owns place head (carried.Reply reply) to theirs = awaits_owns place head (carried.Reply reply) a.running refl to theirs
  gets_owns place head carried.Notice to theirs = awaits_owns place head carried.Notice a.running refl to theirs

  given_by : (place : ℕ) (m : Message) (b : Bool) → m.head.to ≡ me → Gives owner next given m → ActOwns owner next given me (cond b (gets me a place m.head m.carried) (told a place [])).state
  given_by place m true to theirs = gets_owns place m.head m.carried to theirs
  given_by place m false to theirs = has

  pub given_owns : (place : ℕ) (m : Message) → m.head.to ≡ me → Gives owner next given m → ActOwns owner next given me (admin_row me a place (Whole m)).state
  unfolding admin_row
  given_owns place m to theirs = given_by place m (same_node m.head.to me) to theirs
