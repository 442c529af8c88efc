-- The walk over all inputs: what servers told recoveries is so; and so where a recovery ends, the named server has the volume in service.
use Rattle.std.proofs.Common.{◌≡◌, ◌≤◌, inl, inr, ℕ, true, List, Some, sym, ap, subst, ◌∙◌}
use Rattle.std.specs.Prelude.{take}
use Rattle.std.specs.List.{AllByRecursion}
use Rattle.afs_num.specs.declared.histories.Actor.{Actor}
use Rattle.afs_num.specs.declared.histories.Actor.TheVariants as actors
use Rattle.afs_num.specs.declared.messages.Message.{Message}
use Rattle.afs_num.specs.declared.messages.Reply.{Reply}
use Rattle.afs_num.specs.declared.messages.Reply.TheVariants as tell
use Rattle.afs_num.specs.declared.types.Node.{Node}
use Rattle.afs_num.specs.declared.volume_calls.VolReply.TheVariants as volumes
use Rattle.spec_history.specs.declared.scripts.Script.{Script}
use Rattle.spec_adminrows.specs.declared.places.Mend.{Mend}
use Rattle.spec_adminrows.specs.declared.places.Mending.TheVariants as mending
use Rattle.spec_adminrows.specs.declared.places.Place.{Place}
use Rattle.spec_adminrows.specs.declared.places.Place.TheVariants as places
use Rattle.spec_adminrows.specs.declared.places.Purpose.TheVariants as purposes
use Rattle.spec_rows.specs.Runs.{Entry}
use Rattle.spec_runs.specs.NodeRuns.{node_moved, node_start, CellInput, NodeCell, NodeLeads}
use Rattle.law_walks.specs.Sends.{CellIs, SentBy}
use Rattle.law_walks.proofs.AllMessages.{grows}
use Rattle.law_walks.proofs.Seats.{all_more, found_at, weaker_all, weaker_seats}
use Rattle.law_places.specs.Accepting.{accepts, cell_behind, serves_at}
use Rattle.law_places.proofs.Walk.{accepted_as_told}
use Rattle.law_stored_stamps.proofs.Serving.{weaker_node, Any}
use Rattle.law_courses.specs.Courses.{course_in, course_on, no_course, Course, Question, WasAnswered, Way}
use Rattle.law_courses.specs.Tasks.{mends, task_at}
use Rattle.law_courses.proofs.Runs.{each_run}
use Rattle.law_numbers.specs.Numbers.{IsNumbered}
use Rattle.law_one_server.specs.Accepts.{AcceptsAtOne}
use Rattle.law_one_server.proofs.AcceptsAtOne.{accepts_at_one}
use Rattle.law_one_server.proofs.AcceptsInRuns.{closed}
use Rattle.law_one_server.proofs.ActsNumbered.{are_numbered}
use Rattle.law_one_server.proofs.StampsOfOneTask.{was_asked}
use Rattle.law_recovered.specs.Ends.{IsAlone, IsEnding}
use Rattle.law_recovered.proofs.Ending.{ends_alone}
use Rattle.law_recovered.proofs.Recovered.{told_ends, HasEnded}
use Rattle.law_recovered.proofs.Replies.{replies_next, New}
use Rattle.law_in_service.specs.Service.{AcceptsAlone, ServesAlone, IsRecovered, RecoveriesEndInService, VolumesAreRecovered}
use Rattle.law_in_service.proofs.Believed.{its_name, new_true, old_true, plain_true, IsTelling, IsTrue}
use Rattle.law_in_service.proofs.Open.{each_stands, IsOpen, Stands, StandsOpen, Tells}

-- ---- of each message

record AllTrue (course : Course) (c : NodeCell) : Type 0 where
  nodes : CellIs (λ (n : Node). IsTrue course c) (λ (n : Node). Any) c
  sent : AllByRecursion (IsTrue course c) c.sent

weaker_cell : (P Q : Message → Type 0) (c : NodeCell) → ((m : Message) → P m → Q m) → CellIs (λ (n : Node). P) (λ (n : Node). Any) c → CellIs (λ (n : Node). Q) (λ (n : Node). Any) c
weaker_cell P Q c more h = record {
  hosts = λ i. weaker_node P Q (c.hosts i).state more (h.hosts i);
  clients = λ n. weaker_seats P Q (c.clients n).client.seats more (h.clients n);
  admins = λ n. weaker_seats P Q (c.admins n).seats more (h.admins n);
  loc = record { seats = weaker_seats P Q c.loc.state.seats more h.loc.seats; kept = weaker_seats P Q c.loc.state.lasting.kept more h.loc.kept };
}

said_by : (P Q : Message → Type 0) (ms : List Message) (who : Actor) → ((m : Message) → P m → Q m) → SentBy (λ (n : Node). P) ms who → AllByRecursion Q ms
said_by P Q ms (actors.Node n) more h = weaker_all P Q ms more h
said_by P Q ms actors.Clock more h = subst (AllByRecursion Q) (sym h) tt
said_by P Q ms actors.Nobody more h = subst (AllByRecursion Q) (sym h) tt

module _ (s : Script) (numbered : IsNumbered s) (servers : 1 ≤ s.servers) where
  module _ (done : List CellInput) (x : CellInput) (h : AllTrue (course_in s done) (cell_behind (node_start s) done)) where
    abbrev c : NodeCell
    c = cell_behind (node_start s) done

    abbrev d : NodeCell
    d = (node_moved c x).cell

    abbrev Was : Message → Type 0
    Was = IsTrue (course_in s done) c

    abbrev Now : Message → Type 0
    Now = IsTrue (course_on (course_in s done) d.admins) d

    new_is : (m : Message) → New s done Was (plain_true (course_in s done) c) d m → Now m
    new_is m (inl old) = old_true s done numbered servers x m old
    new_is m (inr fresh) = new_true s done numbered servers x m fresh

    next_true : AllTrue (course_on (course_in s done) d.admins) d
    next_true =
        let z = replies_next s done Was (plain_true (course_in s done) c) h.nodes x in
        record {
          nodes = weaker_cell (New s done Was (plain_true (course_in s done) c) d) Now d new_is z.nodes;
          sent = subst (AllByRecursion Now) (sym (grows c x)) (all_more Now c.sent (node_moved c x).entry.sent (weaker_all Was Now c.sent (old_true s done numbered servers x) h.sent)
              (said_by (New s done Was (plain_true (course_in s done) c) d) Now (node_moved c x).entry.sent (node_moved c x).entry.actor new_is z.sent));
        }

  first_true : AllTrue no_course (node_start s)
  first_true = record {
    nodes = record {
      hosts = λ i. record { file = record { seats = tt; kept = tt; held = tt }; seats = tt; held = tt; sendings = λ n. tt };
      clients = λ n. tt;
      admins = λ n. tt;
      loc = record { seats = tt; kept = tt };
    };
    sent = tt;
  }

  all_true : (inputs : List CellInput) → AllTrue (course_in s inputs) (cell_behind (node_start s) inputs)
  all_true inputs = each_run s AllTrue (λ done x t h. next_true done x h) first_true inputs

  -- ---- of each answer

  tells_by : (course : Course) (c : NodeCell) (p : Place) (reply : Reply) → (IsTelling reply → Tells course c p reply) → Tells course c p reply
  tells_by course c (places.Surveys h (purposes.Mends cause) server left seen) (tell.Volume (volumes.ListVols ls)) k = k tt
  tells_by course c (places.Mends m (mending.Opens t)) (tell.Volume volumes.SetFlags) k = k tt
  tells_by course c p reply k = tt

  module _ (inputs : List CellInput) where
    abbrev end : NodeCell
    end = cell_behind (node_start s) inputs

    abbrev course : Course
    course = course_in s inputs

    answers_tell : (n e k : ℕ) (q : Question) (w : WasAnswered end.sent n e k (course n e k) q) → Tells course end (course n e k).place w.reply
    answers_tell n e k q w =
        tells_by course end (course n e k).place w.reply (λ telling.
        let its : IsTrue course end w.m = found_at (IsTrue course end) w.place end.sent w.m (all_true inputs).sent w.there in
        subst (λ (j : ℕ). Tells course end (course n e j).place w.reply) w.of_number (subst (λ (j : ℕ). Tells course end (course n j w.m.head.number).place w.reply) w.in_epoch (its n w.reply w.to w.says telling).1))

    -- ---- at each question

    stands_at : (n e k : ℕ) → Way course end.sent n e k → Stands course end (course n e k).place
    stands_at n e k way = each_stands course end end.sent n e (subst (λ (q : Question). Stands course end q.place) (sym ((are_numbered s inputs).zero_asks n e)) tt) (λ j q w. answers_tell n e j q w) k way

    module _ (m : Mend) (z : IsEnding s inputs m) where
      alone : IsAlone end m.volume m.named
      alone = ends_alone s inputs m numbered servers z

      opened : StandsOpen course end m
      opened = subst (Stands course end) z.asks (stands_at z.n z.epoch z.number (was_asked s inputs z.n z.epoch z.number mends (ap task_at z.asks)).way)

      some_same : (a b : ℕ) → Some a ≡ Some b → a ≡ b
      some_same a b e = cc

      serves : IsOpen course end m.volume m.stamp m.named → serves_at end m.volume m.named ≡ true
      serves (inl is) = is
      serves (inr k) = absurd (k.other (some_same m.named k.m.named (sym alone.named ∙ its_name s inputs numbered servers k.n k.e k.k k.m k.step k.at m.volume m.stamp k.of k.under z.locked)))

      pub serves_alone : ServesAlone end m.volume m.named
      serves_alone = record { named = alone.named; serves = serves (opened z.locked); alone = alone.alone }

pub end_in_service : RecoveriesEndInService
end_in_service s inputs numbered servers k m z = serves_alone s numbered servers (take k inputs) m z

-- ---- as the history tells it

module _ (s : Script) (inputs : List CellInput) (history : List Entry) (end : NodeCell) (numbered : IsNumbered s) (servers : 1 ≤ s.servers) (leads : NodeLeads (node_start s) inputs history end) (k : ℕ) where
  abbrev past : List Entry
  past = take k history

  at_one : AcceptsAtOne s history
  at_one = accepts_at_one closed s inputs history end numbered servers leads

  accepts_alone : (volume server : ℕ) → serves_at (cell_behind (node_start s) (take k inputs)) volume server ≡ true → AcceptsAlone s past volume server
  accepts_alone volume server serves =
      let is : accepts s past volume server ≡ true = accepted_as_told s inputs history end leads k volume server ∙ serves in
      record { accepted = is; one = λ i also. at_one.one k volume i server also is; located = at_one.located k volume server is }

  recovered_by : (volume : ℕ) → HasEnded s (take k inputs) volume → IsRecovered s inputs history k volume
  recovered_by volume z =
      let stands : ServesAlone (cell_behind (node_start s) (take k inputs)) volume z.m.named =
      subst (λ (v : ℕ). ServesAlone (cell_behind (node_start s) (take k inputs)) v z.m.named) z.of (serves_alone s numbered servers (take k inputs) z.m z.ending) in
      record { server = z.m.named; told = accepts_alone volume z.m.named stands.serves; stands = stands }

pub are_recovered : VolumesAreRecovered
are_recovered s inputs history end numbered servers leads k volume e at is tells = recovered_by s inputs history end numbered servers leads k volume (told_ends s inputs history end leads k volume e at is tells)
