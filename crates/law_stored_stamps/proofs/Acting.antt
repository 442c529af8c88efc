-- The steps of an administrator: its calls go on, and its act's place stays one at which the servers have the stamp.
use Rattle.std.proofs.Common.{◌≡◌, ◌<◌, inl, inr, ℕ, ◌+◌, Bool, true, false, cond, List, [], ◌∷◌, Option, Some, None, refl, sym, ap, subst, ◌∙◌, arith, eqb-true}
use Rattle.std.specs.Prelude.{⊤, ◌&&◌, nat_eq}
use Rattle.afs_num.specs.Nodes.{same_node}
use Rattle.afs_num.specs.declared.messages.Carried.{Carried}
use Rattle.afs_num.specs.declared.messages.Carried.TheVariants as carried
use Rattle.afs_num.specs.declared.messages.Message.{Message}
use Rattle.afs_num.specs.declared.messages.Received.TheVariants.{Whole}
use Rattle.afs_num.specs.declared.messages.Reply.{Reply}
use Rattle.afs_num.specs.declared.messages.Reply.TheVariants as tell
use Rattle.afs_num.specs.declared.types.Head.{Head}
use Rattle.afs_num.specs.declared.types.Node.{Node}
use Rattle.afs_num.specs.declared.types.Node.TheVariants.{Admin}
use Rattle.afs_num.specs.declared.volume_calls.ListedVolume.{ListedVolume}
use Rattle.afs_num.specs.declared.volume_calls.VolReply.TheVariants as volumes
use Rattle.spec_history.specs.declared.lines.Line.{Line}
use Rattle.spec_history.specs.declared.lines.Line.TheVariants as lines
use Rattle.spec_history.specs.declared.scripts.AdminAct.{AdminAct}
use Rattle.spec_model.specs.Calls.{admitted, is_sent_again, Admitted}
use Rattle.spec_model.specs.Calls as pairs
use Rattle.spec_rows.specs.Steps.{Step}
use Rattle.spec_adminrows.specs.Acts.{answered, begins_with, refused}
use Rattle.spec_adminrows.specs.AdminRow.{admin_begin_row, admin_row, admin_timeout_line, admin_timeout_row, admits, ask_of, awaits, dump_held, errand_of, gets, hears, is_awaited, label_in, running_at, sends_again, told, turned, AdminState}
use Rattle.spec_adminrows.specs.Turns.{dead}
use Rattle.spec_adminrows.specs.declared.places.Place.{Place}
use Rattle.spec_adminrows.specs.declared.turns.Ask.{Ask}
use Rattle.spec_adminrows.specs.declared.turns.Running.{Running}
use Rattle.spec_adminrows.specs.declared.turns.Turn.{Turn}
use Rattle.spec_adminrows.specs.declared.turns.Turn.TheVariants as turns
use Rattle.spec_runs.specs.NodeRuns.{NodeCell}
use Rattle.law_stored_stamps.specs.Surveys.{IsSurveyed}
use Rattle.law_stored_stamps.proofs.Knowing.{GoesOn, IsLast, Known, KnownBy, ListFor, ListTo}
use Rattle.law_walks.proofs.Places.{TurnIs}
use Rattle.law_stored_stamps.proofs.Surveyed.{answered_is, first_is, refused_is, IsBrought}

pub record ActGoes (c : NodeCell) (a : AdminState) (s : Step AdminState) : Type 0 where
  pub on : GoesOn a s.state
  pub servers : s.state.servers ≡ a.servers
  pub surveyed : (r : Running) → s.state.running ≡ Some r → IsSurveyed c r.place

one_more : (n : ℕ) → n < n + 1
one_more n = omega (arith)

-- its last call is the one that is answered
both : (a b : Bool) → (a && b) ≡ true → (a ≡ true) × (b ≡ true)
both true b e = (refl, e)
both false b e = absurd cc

is_last : (a : AdminState) (head : Head) (q : Ask) → is_awaited a head q ≡ true → IsLast head.epoch head.number a
is_last a head q e =
    let x = both (same_node head.from q.callee) _ e in
    let y = both (nat_eq head.epoch a.epoch) _ x.1 in
    let z = both (nat_eq head.number a.last) _ y.1 in
    (eqb-true head.epoch a.epoch y.0, eqb-true head.number a.last z.0)

pub listed : (c : NodeCell) (m : Message) (n : ℕ) (ls : List ListedVolume) → Known c m → m.head.to ≡ Admin n → m.carried ≡ carried.Reply (tell.Volume (volumes.ListVols ls)) → ListFor c m.head n
listed c m n ls known to is = let k : ListTo c m.head m.head.to = subst (KnownBy c m.head) is known in subst (ListTo c m.head) to k

module _ (c : NodeCell) (me : Node) (a : AdminState) (has : (r : Running) → a.running ≡ Some r → IsSurveyed c r.place) where
  -- of its act nothing changes
  stays : (s : Step AdminState) → s.state.epoch ≡ a.epoch → s.state.last ≡ a.last → s.state.servers ≡ a.servers → s.state.running ≡ a.running → ActGoes c a s
  stays s epoch last servers running = record {
    on = inr (record { epoch = epoch; last = last; servers = servers; running = inl running });
    servers = servers;
    surveyed = λ r is. has r (sym running ∙ is);
  }

  goes_to : (act : AdminAct) (p : Place) (s : Step AdminState) → s.state.epoch ≡ a.epoch → s.state.last ≡ a.last + 1 → s.state.servers ≡ a.servers → s.state.running ≡ Some (running_at act p) → IsSurveyed c p → ActGoes c a s
  goes_to act p s epoch last servers running h = record {
    on = inl (inr (sym epoch, subst (λ (k : ℕ). a.last < k) (sym last) (one_more a.last)));
    servers = servers;
    surveyed = λ r is. let same : running_at act p ≡ r = (let e : Some (running_at act p) ≡ Some r = sym running ∙ is in cc) in subst (λ (x : Running). IsSurveyed c x.place) same h;
  }

  ends : (s : Step AdminState) → s.state.epoch ≡ a.epoch → s.state.last ≡ a.last → s.state.servers ≡ a.servers → s.state.running ≡ None → ActGoes c a s
  ends s epoch last servers running = record {
    on = inr (record { epoch = epoch; last = last; servers = servers; running = inr running });
    servers = servers;
    surveyed = λ r is. let no : None ≡ Some r = sym running ∙ is in absurd cc;
  }

  turned_goes : (act : AdminAct) (ls : List Line) (t : Turn) → TurnIs (IsSurveyed c) t → ActGoes c a (turned me a act ls t)
  turned_goes act ls (turns.Goes p) h = goes_to act p _ refl refl refl refl h
  turned_goes act ls (turns.Keeps label bytes p) h = goes_to act p _ refl refl refl refl h
  turned_goes act ls (turns.Ends code) h = ends _ refl refl refl refl
  turned_goes act ls (turns.Sticks code) h = ends _ refl refl refl refl
  turned_goes act ls turns.Passes h = stays _ refl refl refl refl

  pub begun_goes : (act : AdminAct) → ActGoes c a (admin_begin_row me a act)
  unfolding admin_begin_row
  begun_goes act = turned_goes act (lines.BeginAdmin me act ∷ []) (begins_with act (dump_held (label_in act) a.dumps)) (first_is c act (dump_held (label_in act) a.dumps))

  admits_goes : (place : ℕ) (head : Head) (o : Admitted Message) → ActGoes c a (admits a place head o)
  admits_goes place head pairs.runs = stays _ refl refl refl refl
  admits_goes place head (pairs.kept reply) = stays _ refl refl refl refl
  admits_goes place head pairs.in_progress = stays _ refl refl refl refl
  admits_goes place head pairs.older = stays _ refl refl refl refl
  admits_goes place head (pairs.wrong_boot boot) = stays _ refl refl refl refl

  -- it may be a list for its last call
  module _ (count : a.servers ≡ c.host_count) where
    hears_goes : (place : ℕ) (r : Running) (head : Head) (x : Carried) → a.running ≡ Some r → ((ls : List ListedVolume) → x ≡ carried.Reply (tell.Volume (volumes.ListVols ls)) → IsBrought c (ask_of a r)) → ActGoes c a (hears me a place r head x)
    hears_goes place r head (carried.Call user call) is listed = stays _ refl refl refl refl
    hears_goes place r head (carried.Refusal code) is listed = turned_goes r.act (lines.Given place ∷ []) (refused r.place code) (refused_is c r.place code)
    hears_goes place r head (carried.Reply reply) is listed =
        turned_goes r.act (lines.Given place ∷ []) (answered (errand_of a r.act) r.place reply) (answered_is c (errand_of a r.act) r.place reply count (has r is) (λ ls one. listed ls (ap carried.Reply one)))
    hears_goes place r head carried.Notice is listed = stays _ refl refl refl refl

    awaits_by : (place : ℕ) (r : Running) (head : Head) (x : Carried) (b : Bool) → is_awaited a head (ask_of a r) ≡ b → a.running ≡ Some r → ((ls : List ListedVolume) → x ≡ carried.Reply (tell.Volume (volumes.ListVols ls)) → IsLast head.epoch head.number a → IsBrought c (ask_of a r)) →
        ActGoes c a (cond b (hears me a place r head x) (told a place []))
    awaits_by place r head x true its is listed = hears_goes place r head x is (λ ls one. listed ls one (is_last a head (ask_of a r) its))
    awaits_by place r head x false its is listed = stays _ refl refl refl refl

    awaits_goes : (place : ℕ) (head : Head) (x : Carried) (o : Option Running) → a.running ≡ o → ((ls : List ListedVolume) (r : Running) → x ≡ carried.Reply (tell.Volume (volumes.ListVols ls)) → IsLast head.epoch head.number a → a.running ≡ Some r → IsBrought c (ask_of a r)) →
        ActGoes c a (awaits me a place head x o)
    awaits_goes place head x None is listed = stays _ refl refl refl refl
    awaits_goes place head x (Some r) is listed = awaits_by place r head x (is_awaited a head (ask_of a r)) refl is (λ ls one last. listed ls r one last is)

    gets_goes : (place : ℕ) (head : Head) (x : Carried) → ((ls : List ListedVolume) (r : Running) → x ≡ carried.Reply (tell.Volume (volumes.ListVols ls)) → IsLast head.epoch head.number a → a.running ≡ Some r → IsBrought c (ask_of a r)) → ActGoes c a (gets me a place head x)
    gets_goes place head (carried.Call user call) listed = admits_goes place head (admitted a.epoch a.seats head)
    gets_goes place head (carried.Refusal code) listed = awaits_goes place head (carried.Refusal code) a.running refl listed
    gets_goes place head (carried.Reply reply) listed = awaits_goes place head (carried.Reply reply) a.running refl listed
    gets_goes place head carried.Notice listed = awaits_goes place head carried.Notice a.running refl listed

    either_goes : (b : Bool) (x y : Step AdminState) → ActGoes c a x → ActGoes c a y → ActGoes c a (cond b x y)
    either_goes true x y h k = h
    either_goes false x y h k = k

    pub given_goes : (place : ℕ) (m : Message) → ((ls : List ListedVolume) (r : Running) → m.carried ≡ carried.Reply (tell.Volume (volumes.ListVols ls)) → IsLast m.head.epoch m.head.number a → a.running ≡ Some r → IsBrought c (ask_of a r)) →
        ActGoes c a (admin_row me a place (Whole m))
    unfolding admin_row
    given_goes place m listed = either_goes (same_node m.head.to me) _ _ (gets_goes place m.head m.carried listed) (stays (told a place []) refl refl refl refl)

  late_by : (r : Running) (b : Bool) → ActGoes c a (cond b (sends_again me a (ask_of a r)) (turned me a r.act (admin_timeout_line me a (ask_of a r) ∷ []) (refused r.place dead)))
  late_by r true = stays _ refl refl refl refl
  late_by r false = turned_goes r.act (admin_timeout_line me a (ask_of a r) ∷ []) (refused r.place dead) (refused_is c r.place dead)

  pub late_goes : (r : Running) → ActGoes c a (admin_timeout_row me a r)
  unfolding admin_timeout_row
  late_goes r = late_by r (is_sent_again a.tries)
