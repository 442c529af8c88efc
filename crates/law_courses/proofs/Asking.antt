-- The steps of an administrator: what it asks next follows what it asked before.
use Rattle.std.proofs.Common.{◌≡◌, ◌≤◌, ◌<◌, ◌⊎◌, inl, inr, ℕ, ◌+◌, Bool, true, false, cond, List, [], ◌∷◌, Option, Some, None, refl, sym, subst, arith, nat_eq, eqb-true}
use Rattle.std.specs.Prelude.{◌&&◌}
use Rattle.afs_num.specs.Nodes.{same_node}
use Rattle.afs_num.specs.declared.messages.Carried.{Carried}
use Rattle.afs_num.specs.declared.messages.Carried.TheVariants as carried
use Rattle.afs_num.specs.declared.messages.Message.{Message}
use Rattle.afs_num.specs.declared.messages.Received.TheVariants.{Whole}
use Rattle.afs_num.specs.declared.messages.Reply.{Reply}
use Rattle.afs_num.specs.declared.types.Code.{Code}
use Rattle.afs_num.specs.declared.types.Head.{Head}
use Rattle.afs_num.specs.declared.types.Node.TheVariants.{Admin}
use Rattle.spec_history.specs.declared.lines.Line.{Line}
use Rattle.spec_history.specs.declared.lines.Line.TheVariants as lines
use Rattle.spec_history.specs.declared.scripts.AdminAct.{AdminAct}
use Rattle.spec_model.specs.Calls.{admitted, is_sent_again, Admitted}
use Rattle.spec_model.specs.Calls as pairs
use Rattle.spec_model.proofs.Basics.{same_node-true}
use Rattle.spec_rows.specs.Runs.{message_at}
use Rattle.spec_adminrows.specs.Acts.{answered, begins_with, refused}
use Rattle.spec_adminrows.specs.AdminRow.{admin_begin_row, admin_row, admin_timeout_line, admin_timeout_row, admits, ask_of, awaits, dump_held, errand_of, gets, hears, is_awaited, label_in, running_at, sends_again, told, turned, AdminState}
use Rattle.spec_adminrows.specs.Turns.{dead}
use Rattle.spec_adminrows.specs.declared.places.Place.{Place}
use Rattle.spec_adminrows.specs.declared.turns.Running.{Running}
use Rattle.spec_adminrows.specs.declared.turns.Turn.{Turn}
use Rattle.spec_adminrows.specs.declared.turns.Turn.TheVariants as turns
use Rattle.law_courses.specs.Courses.{question_now, Course, Follows, IsUpTo, LeadsTo, Question}

-- The question of this act was asked in the step, under the next number, and follows from that under the last.
pub record IsNew (course : Course) (sent : List Message) (n : ℕ) (a b : AdminState) (r : Running) : Type 0 where
  pub epoch : b.epoch ≡ a.epoch
  pub last : b.last ≡ a.last + 1
  pub follows : Follows sent n a.epoch a.last (course n a.epoch a.last) (question_now b r)

-- or it was asked before
pub record IsOld (a b : AdminState) (r : Running) : Type 0 where
  pub epoch : b.epoch ≡ a.epoch
  pub last : b.last ≡ a.last
  pub servers : b.servers ≡ a.servers
  pub running : a.running ≡ Some r

-- it made no call
pub record MadeNone (a b : AdminState) : Type 0 where
  pub epoch : b.epoch ≡ a.epoch
  pub last : b.last ≡ a.last

-- it made one, for the act that runs
pub record MadeOne (course : Course) (sent : List Message) (n : ℕ) (a b : AdminState) : Type 0 where
  pub act : Running
  pub runs : b.running ≡ Some act
  pub new : IsNew course sent n a b act

-- What comes of a step of the administrator of this number, by the messages before it. One that begins again has made no call yet.
pub record Asks (course : Course) (sent : List Message) (n : ℕ) (a b : AdminState) : Type 0 where
  pub up : (e k : ℕ) → IsUpTo e k a → IsUpTo e k b
  pub acts : (r : Running) → b.running ≡ Some r → IsNew course sent n a b r ⊎ IsOld a b r
  pub numbers : MadeNone a b ⊎ (MadeOne course sent n a b ⊎ (b.last ≡ 0))

pub none_asked : (course : Course) (sent : List Message) (n : ℕ) (a : AdminState) → Asks course sent n a a
none_asked course sent n a = record { up = λ e k u. u; acts = λ r is. inr (record { epoch = refl; last = refl; servers = refl; running = is }); numbers = inl (record { epoch = refl; last = refl }) }

both : (a b : Bool) → (a && b) ≡ true → (a ≡ true) × (b ≡ true)
both true b e = (refl, e)
both false b e = absurd cc

one_more : (e k : ℕ) (a : AdminState) → IsUpTo e k a → (e < a.epoch) ⊎ ((e ≡ a.epoch) × (k ≤ a.last + 1))
one_more e k a (inl below) = inl below
one_more e k a (inr now) = let last : k ≤ a.last = now.1 in inr (now.0, omega (arith, last))

module _ (course : Course) (sent : List Message) (n : ℕ) (a : AdminState) (has : (r : Running) → a.running ≡ Some r → course n a.epoch a.last ≡ question_now a r) where
  abbrev asked : AdminAct → Place → Question
  asked act p = record { errand = errand_of a act; place = p }

  -- what is asked next
  asked_at : (act : AdminAct) (p : Place) (r : Running) → Some (running_at act p) ≡ Some r → Follows sent n a.epoch a.last (course n a.epoch a.last) (asked act p) → Follows sent n a.epoch a.last (course n a.epoch a.last) (question_now a r)
  asked_at act p r e h = let same : running_at act p ≡ r = cc in subst (λ (x : Running). Follows sent n a.epoch a.last (course n a.epoch a.last) (question_now a x)) same h

  turned_asks : (act : AdminAct) (ls : List Line) (t : Turn) → ((p : Place) → LeadsTo p t → Follows sent n a.epoch a.last (course n a.epoch a.last) (asked act p)) → Asks course sent n a (turned (Admin n) a act ls t).state
  turned_asks act ls (turns.Goes p) how = record {
    up = λ e k u. one_more e k a u;
    acts = λ r is. inl (record { epoch = refl; last = refl; follows = asked_at act p r is (how p refl) });
    numbers = inr (inl (record { act = running_at act p; runs = refl; new = record { epoch = refl; last = refl; follows = how p refl } }));
  }
  turned_asks act ls (turns.Keeps label bytes p) how = record {
    up = λ e k u. one_more e k a u;
    acts = λ r is. inl (record { epoch = refl; last = refl; follows = asked_at act p r is (how p refl) });
    numbers = inr (inl (record { act = running_at act p; runs = refl; new = record { epoch = refl; last = refl; follows = how p refl } }));
  }
  turned_asks act ls (turns.Ends code) how = record { up = λ e k u. u; acts = λ r is. absurd cc; numbers = inl (record { epoch = refl; last = refl }) }
  turned_asks act ls (turns.Sticks code) how = record { up = λ e k u. u; acts = λ r is. absurd cc; numbers = inl (record { epoch = refl; last = refl }) }
  turned_asks act ls turns.Passes how = none_asked course sent n a

  pub begun_asks : (act : AdminAct) → Asks course sent n a (admin_begin_row (Admin n) a act).state
  unfolding admin_begin_row
  begun_asks act = turned_asks act (lines.BeginAdmin (Admin n) act ∷ []) (begins_with act (dump_held (label_in act) a.dumps)) (λ p l. inl (dump_held (label_in act) a.dumps, l))

  -- a refusal, or that it is given up, leads from the question as it is now
  refused_follows : (r : Running) (code : Code) → a.running ≡ Some r → (p : Place) → LeadsTo p (refused r.place code) → Follows sent n a.epoch a.last (course n a.epoch a.last) (asked r.act p)
  refused_follows r code is p l = subst (λ (b : Question). Follows sent n a.epoch a.last b (asked r.act p)) (sym (has r is)) (inr (inr (record { same = refl; code = code; leads = l })))

  late_by : (r : Running) (b : Bool) → a.running ≡ Some r → Asks course sent n a (cond b (sends_again (Admin n) a (ask_of a r)) (turned (Admin n) a r.act (admin_timeout_line (Admin n) a (ask_of a r) ∷ []) (refused r.place dead))).state
  late_by r true is = record { up = λ e k u. u; acts = λ x at. inr (record { epoch = refl; last = refl; servers = refl; running = at }); numbers = inl (record { epoch = refl; last = refl }) }
  late_by r false is = turned_asks r.act (admin_timeout_line (Admin n) a (ask_of a r) ∷ []) (refused r.place dead) (refused_follows r dead is)

  pub late_asks : (r : Running) → a.running ≡ Some r → Asks course sent n a (admin_timeout_row (Admin n) a r).state
  unfolding admin_timeout_row
  late_asks r is = late_by r (is_sent_again a.tries) is

  -- ---- a message

  admits_asks : (place : ℕ) (head : Head) (o : Admitted Message) → Asks course sent n a (admits a place head o).state
  admits_asks place head pairs.runs = record { up = λ e k u. u; acts = λ x at. inr (record { epoch = refl; last = refl; servers = refl; running = at }); numbers = inl (record { epoch = refl; last = refl }) }
  admits_asks place head (pairs.kept reply) = none_asked course sent n a
  admits_asks place head pairs.in_progress = none_asked course sent n a
  admits_asks place head pairs.older = none_asked course sent n a
  admits_asks place head (pairs.wrong_boot boot) = none_asked course sent n a

  module _ (place : ℕ) (m : Message) (there : message_at sent place ≡ Some m) (to : m.head.to ≡ Admin n) where
    answered_follows : (r : Running) (reply : Reply) → a.running ≡ Some r → is_awaited a m.head (ask_of a r) ≡ true → m.carried ≡ carried.Reply reply → (p : Place) → LeadsTo p (answered (errand_of a r.act) r.place reply) →
        Follows sent n a.epoch a.last (course n a.epoch a.last) (asked r.act p)
    answered_follows r reply is its says p l =
        let x = both (same_node m.head.from (ask_of a r).callee) _ its in
        let y = both (nat_eq m.head.epoch a.epoch) _ x.1 in
        let z = both (nat_eq m.head.number a.last) _ y.1 in
        subst (λ (b : Question). Follows sent n a.epoch a.last b (asked r.act p)) (sym (has r is))
        (inr (inl (record {
          same = refl;
          place = place;
          m = m;
          there = there;
          to = to;
          in_epoch = eqb-true m.head.epoch a.epoch y.0;
          of_number = eqb-true m.head.number a.last z.0;
          callee = same_node-true m.head.from (ask_of a r).callee x.0;
          reply = reply;
          says = says;
          leads = l;
        })))

    hears_asks : (at : ℕ) (r : Running) (x : Carried) → a.running ≡ Some r → is_awaited a m.head (ask_of a r) ≡ true → m.carried ≡ x → Asks course sent n a (hears (Admin n) a at r m.head x).state
    hears_asks at r (carried.Call user call) is its says = none_asked course sent n a
    hears_asks at r (carried.Refusal code) is its says = turned_asks r.act (lines.Given at ∷ []) (refused r.place code) (refused_follows r code is)
    hears_asks at r (carried.Reply reply) is its says = turned_asks r.act (lines.Given at ∷ []) (answered (errand_of a r.act) r.place reply) (answered_follows r reply is its says)
    hears_asks at r carried.Notice is its says = record { up = λ e k u. u; acts = λ x at. inr (record { epoch = refl; last = refl; servers = refl; running = at }); numbers = inl (record { epoch = refl; last = refl }) }

    awaits_by : (at : ℕ) (r : Running) (x : Carried) (b : Bool) → is_awaited a m.head (ask_of a r) ≡ b → a.running ≡ Some r → m.carried ≡ x → Asks course sent n a (cond b (hears (Admin n) a at r m.head x) (told a at [])).state
    awaits_by at r x true its is says = hears_asks at r x is its says
    awaits_by at r x false its is says = none_asked course sent n a

    awaits_asks : (at : ℕ) (x : Carried) (o : Option Running) → a.running ≡ o → m.carried ≡ x → Asks course sent n a (awaits (Admin n) a at m.head x o).state
    awaits_asks at x None is says = none_asked course sent n a
    awaits_asks at x (Some r) is says = awaits_by at r x (is_awaited a m.head (ask_of a r)) refl is says

    gets_asks : (at : ℕ) (x : Carried) → m.carried ≡ x → Asks course sent n a (gets (Admin n) a at m.head x).state
    gets_asks at (carried.Call user call) says = admits_asks at m.head (admitted a.epoch a.seats m.head)
    gets_asks at (carried.Refusal code) says = awaits_asks at (carried.Refusal code) a.running refl says
    gets_asks at (carried.Reply reply) says = awaits_asks at (carried.Reply reply) a.running refl says
    gets_asks at carried.Notice says = awaits_asks at carried.Notice a.running refl says

    given_by : (at : ℕ) (b : Bool) → Asks course sent n a (cond b (gets (Admin n) a at m.head m.carried) (told a at [])).state
    given_by at true = gets_asks at m.carried refl
    given_by at false = none_asked course sent n a

    pub given_asks : (at : ℕ) → Asks course sent n a (admin_row (Admin n) a at (Whole m)).state
    unfolding admin_row
    given_asks at = given_by at (same_node m.head.to (Admin n))
