-- The walk of the location database's replies: what a reply tells an act that still waits for it goes on being so until the act has it.
use Rattle.std.proofs.Common.{◌≡◌, ◌⊎◌, ◌≤◌, ◌<◌, inl, inr, ℕ, ◌+◌, List, [], ◌∷◌, ◌++◌, Option, Some, None, refl, sym, ap, subst, ◌∙◌, arith}
use Rattle.std.specs.Prelude.{⊤}
use Rattle.std.specs.List.{AllByRecursion}
use Rattle.afs_num.specs.declared.location_calls.LocReply.{LocReply}
use Rattle.afs_num.specs.declared.messages.Call.TheVariants as ask
use Rattle.afs_num.specs.declared.messages.Carried.{Carried}
use Rattle.afs_num.specs.declared.messages.Carried.TheVariants as carried
use Rattle.afs_num.specs.declared.messages.Message.{Message}
use Rattle.afs_num.specs.declared.messages.Reply.{Reply}
use Rattle.afs_num.specs.declared.messages.Reply.TheVariants as tell
use Rattle.afs_num.specs.declared.types.Head.{Head}
use Rattle.afs_num.specs.declared.types.Node.{Node}
use Rattle.afs_num.specs.declared.types.Node.TheVariants.{Admin, Client, Loc, Server}
use Rattle.spec_history.specs.declared.scripts.Script.{Script}
use Rattle.spec_adminrows.specs.AdminRow.{AdminState}
use Rattle.spec_adminrows.specs.declared.turns.Running.{Running}
use Rattle.spec_rows.specs.LocRow.{reply_to}
use Rattle.spec_runs.specs.NodeRuns.{node_moved, node_start, CellInput, NodeCell}
use Rattle.law_places.specs.Accepting.{cell_behind}
use Rattle.law_stamps.specs.Told.{entries_in}
use Rattle.spec_rows.specs.States.{Seat}
use Rattle.law_walks.specs.Sends.{KeptIs, LocIs, SeatsAre}
use Rattle.law_walks.proofs.AllMessages.{grows}
use Rattle.law_walks.proofs.Seats.{all_more, found_at, weaker_all, weaker_seats}
use Rattle.law_courses.specs.Courses.{course_on, no_course, Course, IsUpTo, Question}
use Rattle.law_courses.proofs.Asking.{IsNew, IsOld}
use Rattle.law_courses.proofs.Runs.{Stepped}
use Rattle.law_locks.proofs.Walk.{WasSent}
use Rattle.law_one_server.proofs.DatabaseAnswers.{answers_next, Answers, IsFresh, IsNoReply, IsServedNow}
use Rattle.law_one_server.proofs.KnownLeads.{News}

-- ---- what a reply tells

-- the act that runs waits for the answer to the call of this number
abbrev pub Waits : AdminState → ℕ → ℕ → Running → Type 0
Waits a e k r = (a.running ≡ Some r) × ((a.epoch ≡ e) × (a.last ≡ k))

-- a reply to an administrator is to a call that it has made; if its act waits for it, then what it tells is so
abbrev pub TellsTo : Course → NodeCell → ℕ → ℕ → Reply → Node → Type 0
TellsTo course c e k reply (Admin n) = IsUpTo e k (c.admins n) × ((r : Running) → Waits (c.admins n) e k r → News c (course n e k).place reply)
TellsTo course c e k reply (Server i) = ⊤
TellsTo course c e k reply (Client n) = ⊤
TellsTo course c e k reply Loc = ⊤

abbrev pub Tells : Course → NodeCell → Head → Carried → Type 0
Tells course c head (carried.Reply reply) = TellsTo course c head.epoch head.number reply head.to
Tells course c head (carried.Call user call) = ⊤
Tells course c head (carried.Refusal code) = ⊤
Tells course c head carried.Notice = ⊤

-- of the database's messages
abbrev pub IsTold : Course → NodeCell → Message → Type 0
IsTold course c m = m.head.from ≡ Loc → Tells course c m.head m.carried

plain_tells : (course : Course) (c : NodeCell) (head : Head) (x : Carried) → IsNoReply x → Tells course c head x
plain_tells course c head (carried.Reply reply) k = absurd k
plain_tells course c head (carried.Call user call) k = tt
plain_tells course c head (carried.Refusal code) k = tt
plain_tells course c head carried.Notice k = tt

pub record AreTold (course : Course) (c : NodeCell) : Type 0 where
  pub loc : LocIs (IsTold course c) c.loc.state
  pub sent : AllByRecursion (IsTold course c) c.sent

pub told_first : (s : Script) → AreTold no_course (node_start s)
told_first s = record { loc = record { seats = tt; kept = tt }; sent = tt }

-- ---- a step

-- what is known of each reply of the database besides
abbrev IsGoodReply : (Message → Type 0) → Message → Type 0
IsGoodReply Good m = (reply : Reply) → m.carried ≡ carried.Reply reply → m.head.from ≡ Loc → Good m

pub both_kept : (P Q : Message → Type 0) (o : Option Message) → KeptIs P o → KeptIs Q o → KeptIs (λ (m : Message). P m × Q m) o
both_kept P Q None h k = tt
both_kept P Q (Some m) h k = (h, k)

pub both_seats : (P Q : Message → Type 0) (seats : List Seat) → SeatsAre P seats → SeatsAre Q seats → SeatsAre (λ (m : Message). P m × Q m) seats
both_seats P Q [] h k = tt
both_seats P Q (x ∷ xs) h k = (both_kept P Q x.reply h.0 k.0, both_seats P Q xs h.1 k.1)

pub both_all : (P Q : Message → Type 0) (ms : List Message) → AllByRecursion P ms → AllByRecursion Q ms → AllByRecursion (λ (m : Message). P m × Q m) ms
both_all P Q [] h k = tt
both_all P Q (x ∷ xs) h k = ((h.0, k.0), both_all P Q xs h.1 k.1)

no_reply : (x : Carried) (reply : Reply) → IsNoReply x → x ≡ carried.Reply reply → ⊥
no_reply (carried.Reply w) reply k is = k
no_reply (carried.Call user call) reply k is = absurd cc
no_reply (carried.Refusal code) reply k is = absurd cc
no_reply carried.Notice reply k is = absurd cc

-- Good is what is known besides of the messages that were sent and kept
module _ (s : Script) (done : List CellInput) (x : CellInput) (course : Course) (Good : Message → Type 0) where
  abbrev c : NodeCell
  c = cell_behind (node_start s) done

  abbrev d : NodeCell
  d = (node_moved c x).cell

  abbrev later : Course
  later = course_on course d.admins

  -- what the walk asks: news of an act that waits are left, and a call that is served now tells what is so behind it
  pub record Premises : Type 0 where
    pub steps : Stepped course c (node_moved c x)
    pub good_loc : LocIs Good c.loc.state
    pub good_sent : AllByRecursion Good c.sent
    pub stays : (n e k : ℕ) (r : Running) → Waits (c.admins n) e k r → Waits (d.admins n) e k r → (m : Message) → Good m → m.head.from ≡ Loc → m.head.to ≡ Admin n → m.head.epoch ≡ e → m.head.number ≡ k →
        (reply : Reply) → m.carried ≡ carried.Reply reply → News c (course n e k).place reply → News d (course n e k).place reply
    pub written : (n e k : ℕ) (r : Running) → Waits (c.admins n) e k r → Waits (d.admins n) e k r → (m : Message) → WasSent c.sent m → m.head.from ≡ Admin n → m.head.epoch ≡ e → m.head.number ≡ k →
        (reply : LocReply) → IsServedNow c.loc.state (entries_in d) m reply → News d (course n e k).place (tell.Location reply)

  module _ (f : Premises) where
    -- the act waited before, or this number isn't called yet
    not_new : (n e k : ℕ) (r : Running) → IsUpTo e k (c.admins n) → IsNew course c.sent n (c.admins n) (d.admins n) r → Waits (d.admins n) e k r → ⊥
    not_new n e k r (inl earlier) new w = let a : (d.admins n).epoch ≡ (c.admins n).epoch = new.epoch in let b : (d.admins n).epoch ≡ e = w.1.0 in omega (arith, earlier, a, b)
    not_new n e k r (inr up) new w = let a : (d.admins n).last ≡ (c.admins n).last + 1 = new.last in let b : (d.admins n).last ≡ k = w.1.1 in let low : k ≤ (c.admins n).last = up.1 in omega (arith, low, a, b)

    waited : (n e k : ℕ) (r : Running) → IsUpTo e k (c.admins n) → Waits (d.admins n) e k r → Waits (c.admins n) e k r
    waited n e k r up w = elim ((f.steps.asks n).acts r w.0) [ inl new ↦ absurd (not_new n e k r up new w) | inr old ↦ (old.running, (sym old.epoch ∙ w.1.0, sym old.last ∙ w.1.1)) ]

    on_later : (n e k : ℕ) (reply : Reply) → IsUpTo e k (c.admins n) → News d (course n e k).place reply → News d (later n e k).place reply
    on_later n e k reply up news = subst (λ (q : Question). News d q.place reply) (sym (f.steps.stays n e k up)) news

    -- ---- an old message

    module _ (m : Message) (good : IsGoodReply Good m) (from : m.head.from ≡ Loc) where
      still_to : (reply : Reply) (n : Node) → m.carried ≡ carried.Reply reply → m.head.to ≡ n → TellsTo course c m.head.epoch m.head.number reply n → TellsTo later d m.head.epoch m.head.number reply n
      still_to reply (Admin n) says to h = (
        f.steps.up n m.head.epoch m.head.number h.0,
        λ r w. let old : Waits (c.admins n) m.head.epoch m.head.number r = waited n m.head.epoch m.head.number r h.0 w in
            on_later n m.head.epoch m.head.number reply h.0 (f.stays n m.head.epoch m.head.number r old w m (good reply says from) from to refl refl reply says (h.1 r old)),
      )
      still_to reply (Server i) says to h = tt
      still_to reply (Client n) says to h = tt
      still_to reply Loc says to h = tt

      still_tells : (y : Carried) → m.carried ≡ y → Tells course c m.head y → Tells later d m.head y
      still_tells (carried.Reply reply) says h = still_to reply m.head.to says refl h
      still_tells (carried.Call user call) says h = tt
      still_tells (carried.Refusal code) says h = tt
      still_tells carried.Notice says h = tt

    abbrev Was : Message → Type 0
    Was m = IsTold course c m × IsGoodReply Good m

    still_told : (m : Message) → Was m → IsTold later d m
    still_told m h from = still_tells m h.1 from m.carried refl (h.0 from)

    -- ---- a new reply of the database

    new_to : (m : Message) (reply : LocReply) (n : Node) → m.head.from ≡ n → WasSent c.sent m → IsServedNow c.loc.state (entries_in d) m reply → TellsTo later d m.head.epoch m.head.number (tell.Location reply) n
    new_to m reply (Admin n) from sent served =
        let up : IsUpTo m.head.epoch m.head.number (c.admins n) = (f.steps.before.calls sent.0 n m served.user (ask.Location served.call) sent.1 from served.says).up_to in
        (f.steps.up n m.head.epoch m.head.number up, λ r w. on_later n m.head.epoch m.head.number (tell.Location reply) up (f.written n m.head.epoch m.head.number r (waited n m.head.epoch m.head.number r up w) w m sent from refl refl reply served))
    new_to m reply (Server i) from sent served = tt
    new_to m reply (Client n) from sent served = tt
    new_to m reply Loc from sent served = tt

    new_told : (m : Message) → IsFresh (WasSent c.sent) c.loc.state (entries_in d) m → IsTold later d m
    new_told m k = subst (IsTold later d) (sym k.is) (λ from. new_to k.m k.reply k.m.head.from refl k.sent k.served)

    each_told : (m : Message) → Was m ⊎ IsFresh (WasSent c.sent) c.loc.state (entries_in d) m → IsTold later d m
    each_told m (inl old) = still_told m old
    each_told m (inr new) = new_told m new

    good_reply : (m : Message) → Good m → IsGoodReply Good m
    good_reply m good reply says from = good

    -- So it goes on.
    pub told_next : AreTold course c → AreTold later d
    told_next h =
        let seats_were : SeatsAre Was c.loc.state.seats = both_seats (IsTold course c) (IsGoodReply Good) c.loc.state.seats h.loc.seats (weaker_seats Good (IsGoodReply Good) c.loc.state.seats good_reply f.good_loc.seats) in
        let kept_were : SeatsAre Was c.loc.state.lasting.kept = both_seats (IsTold course c) (IsGoodReply Good) c.loc.state.lasting.kept h.loc.kept (weaker_seats Good (IsGoodReply Good) c.loc.state.lasting.kept good_reply f.good_loc.kept) in
        let sent_were : AllByRecursion Was c.sent = both_all (IsTold course c) (IsGoodReply Good) c.sent h.sent (weaker_all Good (IsGoodReply Good) c.sent good_reply f.good_sent) in
        let a : Answers Was c (node_moved c x) = answers_next s done Was
        (λ m k. (λ from. plain_tells course c m.head m.carried k, λ reply says from. absurd (no_reply m.carried reply k says))) (λ m other. (λ from. absurd (other from), λ reply says from. absurd (other from))) (record { seats = seats_were; kept = kept_were }) x in
        record {
          loc = record { seats = weaker_seats _ (IsTold later d) d.loc.state.seats each_told a.has.seats; kept = weaker_seats _ (IsTold later d) d.loc.state.lasting.kept each_told a.has.kept };
          sent = subst (AllByRecursion (IsTold later d)) (sym (grows c x)) (all_more (IsTold later d) c.sent (node_moved c x).entry.sent (weaker_all Was (IsTold later d) c.sent still_told sent_were) (weaker_all _ (IsTold later d) (node_moved c x).entry.sent each_told a.sent));
        }
