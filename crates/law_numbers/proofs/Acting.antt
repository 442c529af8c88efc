-- The steps of an administrator: its calls go on, and the numbers of its act stay sound.
use Rattle.std.proofs.Common.{◌≡◌, ◌<◌, inl, inr, ℕ, ◌+◌, Bool, true, false, cond, List, [], ◌∷◌, Option, Some, None, refl, sym, subst, ◌∙◌, arith, eqb-true}
use Rattle.std.specs.Prelude.{◌&&◌, nat_eq}
use Rattle.afs_num.specs.Nodes.{same_node}
use Rattle.afs_num.specs.declared.location_calls.LocReply.{LocReply}
use Rattle.afs_num.specs.declared.location_calls.LocReply.TheVariants as replies
use Rattle.afs_num.specs.declared.messages.Carried.{Carried}
use Rattle.afs_num.specs.declared.messages.Carried.TheVariants as carried
use Rattle.afs_num.specs.declared.messages.Message.{Message}
use Rattle.afs_num.specs.declared.messages.Received.TheVariants.{Whole}
use Rattle.afs_num.specs.declared.messages.Reply.{Reply}
use Rattle.afs_num.specs.declared.messages.Reply.TheVariants as tell
use Rattle.afs_num.specs.declared.types.Head.{Head}
use Rattle.afs_num.specs.declared.types.Node.{Node}
use Rattle.afs_num.specs.declared.types.Node.TheVariants.{Admin}
use Rattle.spec_history.specs.declared.lines.Line.{Line}
use Rattle.spec_history.specs.declared.lines.Line.TheVariants as lines
use Rattle.spec_history.specs.declared.scripts.AdminAct.{AdminAct}
use Rattle.spec_model.specs.Calls.{admitted, is_sent_again, Admitted}
use Rattle.spec_model.specs.Calls as pairs
use Rattle.spec_rows.specs.Steps.{Step}
use Rattle.spec_adminrows.specs.Acts.{answered, begins_with, refused}
use Rattle.spec_adminrows.specs.AdminRow.{admin_begin_row, admin_row, admin_timeout_line, admin_timeout_row, admits, ask_of, awaits, dump_held, errand_of, gets, hears, is_awaited, label_in, running_at, sends_again, told, turned, AdminState}
use Rattle.spec_adminrows.specs.Turns.{dead}
use Rattle.spec_adminrows.specs.declared.places.Place.{Place}
use Rattle.spec_adminrows.specs.declared.turns.Ask.{Ask}
use Rattle.spec_adminrows.specs.declared.turns.Running.{Running}
use Rattle.spec_adminrows.specs.declared.turns.Turn.{Turn}
use Rattle.spec_adminrows.specs.declared.turns.Turn.TheVariants as turns
use Rattle.spec_runs.specs.NodeRuns.{NodeCell}
use Rattle.law_walks.proofs.Places.{TurnIs}
use Rattle.law_numbers.specs.Numbers.{next_volume, PlaceIsSound}
use Rattle.law_numbers.proofs.Knowing.{GoesOn, IsLast, Known, KnownBy, NewTo, ReplyIs}
use Rattle.law_numbers.proofs.Leading.{answered_is, first_is, refused_is, RepliesAt, TellsAt}

pub record ActGoes (n : ℕ) (a : AdminState) (s : Step AdminState) : Type 0 where
  pub on : GoesOn a s.state
  pub sound : (r : Running) → s.state.running ≡ Some r → PlaceIsSound n r.place

one_more : (n : ℕ) → n < n + 1
one_more n = omega (arith)

-- its last call is the one that is answered
both : (a b : Bool) → (a && b) ≡ true → (a ≡ true) × (b ≡ true)
both true b e = (refl, e)
both false b e = absurd cc

is_last : (a : AdminState) (head : Head) (q : Ask) → is_awaited a head q ≡ true → IsLast head.epoch head.number a
is_last a head q e =
    let x = both (same_node head.from q.callee) _ e in
    let y = both (nat_eq head.epoch a.epoch) _ x.1 in
    let z = both (nat_eq head.number a.last) _ y.1 in
    (eqb-true head.epoch a.epoch y.0, eqb-true head.number a.last z.0)

-- what a reply to its last call tells
location_told : (c : NodeCell) (n : ℕ) (head : Head) (reply : LocReply) (r : Running) → ReplyIs c head reply → head.to ≡ Admin n → IsLast head.epoch head.number (c.admins n) → (c.admins n).running ≡ Some r → TellsAt (next_volume c) r.place reply
location_told c n head (replies.SetLock stamp e) r known to last run = known
location_told c n head (replies.GetNewVolumeId k) r known to last run = (known.0, (subst (NewTo c head k) to known.1).now last r run)
location_told c n head reply r known to last run = tt

reply_told : (c : NodeCell) (n : ℕ) (head : Head) (reply : Reply) (r : Running) → KnownBy c head (carried.Reply reply) → head.to ≡ Admin n → IsLast head.epoch head.number (c.admins n) → (c.admins n).running ≡ Some r → RepliesAt (next_volume c) r.place reply
reply_told c n head (tell.Location reply) r known to last run = location_told c n head reply r known to last run
reply_told c n head (tell.File reply) r known to last run = tt
reply_told c n head (tell.Volume reply) r known to last run = tt

pub told_is : (c : NodeCell) (n : ℕ) (m : Message) → Known c m → m.head.to ≡ Admin n → (reply : Reply) (r : Running) → m.carried ≡ carried.Reply reply → IsLast m.head.epoch m.head.number (c.admins n) → (c.admins n).running ≡ Some r → RepliesAt (next_volume c) r.place reply
told_is c n m known to reply r is last run = reply_told c n m.head reply r (subst (KnownBy c m.head) is known) to last run

module _ (n : ℕ) (me : Node) (a : AdminState) (has : (r : Running) → a.running ≡ Some r → PlaceIsSound n r.place) where
  -- of its act nothing changes
  stays : (s : Step AdminState) → s.state.epoch ≡ a.epoch → s.state.last ≡ a.last → s.state.running ≡ a.running → ActGoes n a s
  stays s epoch last running = record {
    on = inr (record { epoch = epoch; last = last; running = inl running });
    sound = λ r is. has r (sym running ∙ is);
  }

  goes_to : (act : AdminAct) (p : Place) (s : Step AdminState) → s.state.epoch ≡ a.epoch → s.state.last ≡ a.last + 1 → s.state.running ≡ Some (running_at act p) → PlaceIsSound n p → ActGoes n a s
  goes_to act p s epoch last running h = record {
    on = inl (inr (sym epoch, subst (λ (k : ℕ). a.last < k) (sym last) (one_more a.last)));
    sound = λ r is. let same : running_at act p ≡ r = (let e : Some (running_at act p) ≡ Some r = sym running ∙ is in cc) in subst (λ (x : Running). PlaceIsSound n x.place) same h;
  }

  ends : (s : Step AdminState) → s.state.epoch ≡ a.epoch → s.state.last ≡ a.last → s.state.running ≡ None → ActGoes n a s
  ends s epoch last running = record {
    on = inr (record { epoch = epoch; last = last; running = inr running });
    sound = λ r is. let no : None ≡ Some r = sym running ∙ is in absurd cc;
  }

  turned_goes : (act : AdminAct) (ls : List Line) (t : Turn) → TurnIs (PlaceIsSound n) t → ActGoes n a (turned me a act ls t)
  turned_goes act ls (turns.Goes p) h = goes_to act p _ refl refl refl h
  turned_goes act ls (turns.Keeps label bytes p) h = goes_to act p _ refl refl refl h
  turned_goes act ls (turns.Ends code) h = ends _ refl refl refl
  turned_goes act ls (turns.Sticks code) h = ends _ refl refl refl
  turned_goes act ls turns.Passes h = stays _ refl refl refl

  pub begun_goes : (act : AdminAct) → ActGoes n a (admin_begin_row me a act)
  unfolding admin_begin_row
  begun_goes act = turned_goes act (lines.BeginAdmin me act ∷ []) (begins_with act (dump_held (label_in act) a.dumps)) (first_is n act (dump_held (label_in act) a.dumps))

  admits_goes : (place : ℕ) (head : Head) (o : Admitted Message) → ActGoes n a (admits a place head o)
  admits_goes place head pairs.runs = stays _ refl refl refl
  admits_goes place head (pairs.kept reply) = stays _ refl refl refl
  admits_goes place head pairs.in_progress = stays _ refl refl refl
  admits_goes place head pairs.older = stays _ refl refl refl
  admits_goes place head (pairs.wrong_boot boot) = stays _ refl refl refl

  hears_goes : (place : ℕ) (r : Running) (head : Head) (x : Carried) → a.running ≡ Some r → ((reply : Reply) → x ≡ carried.Reply reply → RepliesAt n r.place reply) → ActGoes n a (hears me a place r head x)
  hears_goes place r head (carried.Call user call) is tells = stays _ refl refl refl
  hears_goes place r head (carried.Refusal code) is tells = turned_goes r.act (lines.Given place ∷ []) (refused r.place code) (refused_is n r.place code (has r is))
  hears_goes place r head (carried.Reply reply) is tells = turned_goes r.act (lines.Given place ∷ []) (answered (errand_of a r.act) r.place reply) (answered_is n (errand_of a r.act) r.place reply (has r is) (tells reply refl))
  hears_goes place r head carried.Notice is tells = stays _ refl refl refl

  -- what a reply tells for its last call
  abbrev Tells : Head → Carried → Type 0
  Tells head x = (reply : Reply) (r : Running) → x ≡ carried.Reply reply → IsLast head.epoch head.number a → a.running ≡ Some r → RepliesAt n r.place reply

  awaits_by : (place : ℕ) (r : Running) (head : Head) (x : Carried) (b : Bool) → is_awaited a head (ask_of a r) ≡ b → a.running ≡ Some r → Tells head x → ActGoes n a (cond b (hears me a place r head x) (told a place []))
  awaits_by place r head x true its is tells = hears_goes place r head x is (λ reply one. tells reply r one (is_last a head (ask_of a r) its) is)
  awaits_by place r head x false its is tells = stays _ refl refl refl

  awaits_goes : (place : ℕ) (head : Head) (x : Carried) (o : Option Running) → a.running ≡ o → Tells head x → ActGoes n a (awaits me a place head x o)
  awaits_goes place head x None is tells = stays _ refl refl refl
  awaits_goes place head x (Some r) is tells = awaits_by place r head x (is_awaited a head (ask_of a r)) refl is tells

  gets_goes : (place : ℕ) (head : Head) (x : Carried) → Tells head x → ActGoes n a (gets me a place head x)
  gets_goes place head (carried.Call user call) tells = admits_goes place head (admitted a.epoch a.seats head)
  gets_goes place head (carried.Refusal code) tells = awaits_goes place head (carried.Refusal code) a.running refl tells
  gets_goes place head (carried.Reply reply) tells = awaits_goes place head (carried.Reply reply) a.running refl tells
  gets_goes place head carried.Notice tells = awaits_goes place head carried.Notice a.running refl tells

  either_goes : (b : Bool) (x y : Step AdminState) → ActGoes n a x → ActGoes n a y → ActGoes n a (cond b x y)
  either_goes true x y h k = h
  either_goes false x y h k = k

  pub given_goes : (place : ℕ) (m : Message) → Tells m.head m.carried → ActGoes n a (admin_row me a place (Whole m))
  unfolding admin_row
  given_goes place m tells = either_goes (same_node m.head.to me) _ _ (gets_goes place m.head m.carried tells) (stays (told a place []) refl refl refl)

  late_by : (r : Running) (b : Bool) → a.running ≡ Some r → ActGoes n a (cond b (sends_again me a (ask_of a r)) (turned me a r.act (admin_timeout_line me a (ask_of a r) ∷ []) (refused r.place dead)))
  late_by r true is = stays _ refl refl refl
  late_by r false is = turned_goes r.act (admin_timeout_line me a (ask_of a r) ∷ []) (refused r.place dead) (refused_is n r.place dead (has r is))

  pub late_goes : (r : Running) → a.running ≡ Some r → ActGoes n a (admin_timeout_row me a r)
  unfolding admin_timeout_row
  late_goes r is = late_by r (is_sent_again a.tries) is
