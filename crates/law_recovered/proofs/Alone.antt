-- The walk over all inputs: what servers told recoveries is so; and so where a recovery ends, the volume has no copy but at the named server.
use Rattle.std.proofs.Common.{◌≡◌, ◌⊎◌, ◌≤◌, inl, inr, ℕ, zero, suc, Bool, true, false, cond, List, [], ◌∷◌, ◌++◌, Option, Some, None, refl, sym, ap, subst, ◌∙◌, nat_eq, eqb-true}
use Rattle.std.specs.Prelude.{⊤, ◌||◌, ◌&&◌}
use Rattle.std.specs.List.{list_any, AllByRecursion}
use Rattle.afs_num.specs.declared.histories.Actor.{Actor}
use Rattle.afs_num.specs.declared.histories.Actor.TheVariants as actors
use Rattle.afs_num.specs.declared.messages.Message.{Message}
use Rattle.afs_num.specs.declared.messages.Reply.{Reply}
use Rattle.afs_num.specs.declared.messages.Reply.TheVariants as tell
use Rattle.afs_num.specs.declared.types.Node.{Node}
use Rattle.afs_num.specs.declared.volume_calls.VolReply.TheVariants as volumes
use Rattle.spec_history.specs.declared.scripts.Script.{Script}
use Rattle.spec_adminrows.specs.AdminRow.{AdminState}
use Rattle.spec_adminrows.specs.declared.places.Cause.TheVariants as causes
use Rattle.spec_adminrows.specs.declared.places.Mend.{Mend}
use Rattle.spec_adminrows.specs.declared.places.Mending.TheVariants as mending
use Rattle.spec_adminrows.specs.declared.places.Place.{Place}
use Rattle.spec_adminrows.specs.declared.places.Place.TheVariants as places
use Rattle.spec_adminrows.specs.declared.places.Purpose.TheVariants as purposes
use Rattle.spec_adminrows.specs.declared.turns.Running.{Running}
use Rattle.spec_runs.specs.NodeRuns.{admin_falls, has_host, node_moved, node_start, CellInput, NodeCell, NodeMoved}
use Rattle.law_walks.specs.Sends.{CellIs, SentBy}
use Rattle.law_walks.proofs.AllMessages.{grows, StepIs}
use Rattle.law_walks.proofs.EachKind.{any_admin, any_client, any_database, any_server, each}
use Rattle.law_walks.proofs.Seats.{all_more, found_at, weaker_all, weaker_seats}
use Rattle.law_places.specs.Accepting.{cell_behind}
use Rattle.law_stored_stamps.proofs.Serving.{weaker_node, Any}
use Rattle.law_stored_stamps.proofs.Surveying.{surveying}
use Rattle.law_courses.specs.Courses.{course_in, course_on, no_course, question_noted, question_now, Course, Question, WasAnswered, Way}
use Rattle.law_courses.specs.Tasks.{mends, task_at}
use Rattle.law_courses.proofs.Runs.{each_run, Stepped}
use Rattle.law_one_server.specs.Knows.{lock_at}
use Rattle.law_one_server.proofs.ActsNumbered.{are_numbered}
use Rattle.law_one_server.proofs.StampsOfOneTask.{was_asked, WasAsked}
use Rattle.law_recovered.specs.Copies.{has_copy_at}
use Rattle.law_recovered.proofs.Believed.{new_true, old_true}
use Rattle.law_recovered.proofs.Mended.{each_mended, Asks, InMend, Mended, Tells}
use Rattle.law_recovered.proofs.Replies.{replies_next, New}
use Rattle.law_recovered.proofs.Truth.{plain_true, IsTelling, IsTrue}

-- ---- of each message

record AllTrue (course : Course) (c : NodeCell) : Type 0 where
  nodes : CellIs (λ (n : Node). IsTrue course c) (λ (n : Node). Any) c
  sent : AllByRecursion (IsTrue course c) c.sent

weaker_cell : (P Q : Message → Type 0) (c : NodeCell) → ((m : Message) → P m → Q m) → CellIs (λ (n : Node). P) (λ (n : Node). Any) c → CellIs (λ (n : Node). Q) (λ (n : Node). Any) c
weaker_cell P Q c more h = record {
  hosts = λ i. weaker_node P Q (c.hosts i).state more (h.hosts i);
  clients = λ n. weaker_seats P Q (c.clients n).client.seats more (h.clients n);
  admins = λ n. weaker_seats P Q (c.admins n).seats more (h.admins n);
  loc = record { seats = weaker_seats P Q c.loc.state.seats more h.loc.seats; kept = weaker_seats P Q c.loc.state.lasting.kept more h.loc.kept };
}

said_by : (P Q : Message → Type 0) (ms : List Message) (who : Actor) → ((m : Message) → P m → Q m) → SentBy (λ (n : Node). P) ms who → AllByRecursion Q ms
said_by P Q ms (actors.Node n) more h = weaker_all P Q ms more h
said_by P Q ms actors.Clock more h = subst (AllByRecursion Q) (sym h) tt
said_by P Q ms actors.Nobody more h = subst (AllByRecursion Q) (sym h) tt

module _ (s : Script) (done : List CellInput) (x : CellInput) (h : AllTrue (course_in s done) (cell_behind (node_start s) done)) where
  abbrev c : NodeCell
  c = cell_behind (node_start s) done

  abbrev d : NodeCell
  d = (node_moved c x).cell

  abbrev later : Course
  later = course_on (course_in s done) d.admins

  abbrev Now : Message → Type 0
  Now = IsTrue later d

  new_is : (m : Message) → New s done (IsTrue (course_in s done) c) (plain_true (course_in s done) c) d m → Now m
  new_is m (inl old) = old_true s done x m old
  new_is m (inr fresh) = new_true s done x m fresh

  next_true : AllTrue later d
  next_true =
      let z = replies_next s done (IsTrue (course_in s done) c) (plain_true (course_in s done) c) h.nodes x in
      record {
        nodes = weaker_cell (New s done (IsTrue (course_in s done) c) (plain_true (course_in s done) c) d) Now d new_is z.nodes;
        sent = subst (AllByRecursion Now) (sym (grows c x)) (all_more Now c.sent (node_moved c x).entry.sent (weaker_all (IsTrue (course_in s done) c) Now c.sent (old_true s done x) h.sent)
            (said_by (New s done (IsTrue (course_in s done) c) (plain_true (course_in s done) c) d) Now (node_moved c x).entry.sent (node_moved c x).entry.actor new_is z.sent));
      }

first_true : (s : Script) → AllTrue no_course (node_start s)
first_true s = record {
  nodes = record {
    hosts = λ i. record { file = record { seats = tt; kept = tt; held = tt }; seats = tt; held = tt; sendings = λ n. tt };
    clients = λ n. tt;
    admins = λ n. tt;
    loc = record { seats = tt; kept = tt };
  };
  sent = tt;
}

all_true : (s : Script) (inputs : List CellInput) → AllTrue (course_in s inputs) (cell_behind (node_start s) inputs)
all_true s inputs = each_run s AllTrue (λ done x t h. next_true s done x h) (first_true s) inputs

-- ---- of each answer

tells_by : (c : NodeCell) (p : Place) (reply : Reply) → (IsTelling reply → Tells c p reply) → Tells c p reply
tells_by c (places.Surveys h (purposes.Mends cause) server left seen) (tell.Volume (volumes.ListVols ls)) k = k tt
tells_by c (places.Mends m (mending.Deletes server t)) (tell.Volume volumes.DeleteVolume) k = k tt
tells_by c p reply k = tt

answers_tell : (s : Script) (inputs : List CellInput) (n e k : ℕ) (q : Question) (w : WasAnswered (cell_behind (node_start s) inputs).sent n e k (course_in s inputs n e k) q) → Tells (cell_behind (node_start s) inputs) (course_in s inputs n e k).place w.reply
answers_tell s inputs n e k q w =
    let c : NodeCell = cell_behind (node_start s) inputs in
    let course : Course = course_in s inputs in
    tells_by c (course n e k).place w.reply (λ telling.
    let its : IsTrue course c w.m = found_at (IsTrue course c) w.place c.sent w.m (all_true s inputs).sent w.there in
    subst (λ (j : ℕ). Tells c (course n e j).place w.reply) w.of_number (subst (λ (j : ℕ). Tells c (course n j w.m.head.number).place w.reply) w.in_epoch (its n w.reply w.to w.says telling).1))

-- ---- how many servers are asked

same_count : (c : NodeCell) (x : CellInput) → (node_moved c x).cell.host_count ≡ c.host_count
same_count c x = each (λ (m : NodeMoved). m.cell.host_count ≡ c.host_count) c (record {
  void = refl;
  ticks = λ n. refl;
  servers = any_server (λ (m : NodeMoved). m.cell.host_count ≡ c.host_count) c (λ i s. refl);
  database = any_database (λ (m : NodeMoved). m.cell.host_count ≡ c.host_count) c (λ s. refl);
  clients = any_client (λ (m : NodeMoved). m.cell.host_count ≡ c.host_count) c (λ n s. refl) (λ n. refl) (λ n. refl);
  admins = any_admin (λ (m : NodeMoved). m.cell.host_count ≡ c.host_count) c (λ n s. refl) (λ n. refl) (λ n. refl);
}) x

cell_more : (c : NodeCell) (xs : List CellInput) (x : CellInput) → cell_behind c (xs ++ x ∷ []) ≡ (node_moved (cell_behind c xs) x).cell
cell_more c [] x = refl
cell_more c (y ∷ xs) x = cell_more (node_moved c y).cell xs x

abbrev IsCounted : NodeCell → Question → Type 0
IsCounted c q = (q.errand.servers ≡ c.host_count) ⊎ (q.place ≡ places.Seeks causes.Asked)

abbrev AreCounted : Course → NodeCell → Type 0
AreCounted course c = (n e k : ℕ) → IsCounted c (course n e k)

noted_counted : (d : NodeCell) (a : AdminState) (o : Option Running) (e k : ℕ) (q : Question) → IsCounted d q → a.servers ≡ d.host_count → IsCounted d (question_noted a o e k q)
noted_counted d a None e k q old now = old
noted_counted d a (Some r) e k q old now = by (nat_eq e a.epoch && nat_eq k a.last)
  where
    by : (b : Bool) → IsCounted d (cond b (question_now a r) q)
    by true = inl now
    by false = old

counted : (s : Script) (inputs : List CellInput) → AreCounted (course_in s inputs) (cell_behind (node_start s) inputs)
counted s inputs = each_run s AreCounted (λ done x t h n e k.
    let c : NodeCell = cell_behind (node_start s) done in
    let d : NodeCell = (node_moved c x).cell in
    let now : (d.admins n).servers ≡ d.host_count = subst (λ (y : NodeCell). (y.admins n).servers ≡ y.host_count) (cell_more (node_start s) done x) ((surveying s (done ++ x ∷ [])).servers n) in
    let old : IsCounted d (course_in s done n e k) = elim (h n e k) [ inl is ↦ inl (is ∙ sym (same_count c x)) | inr at ↦ inr at ] in
    noted_counted d (d.admins n) (d.admins n).running e k (course_in s done n e k) old now) (λ n e k. inr refl) inputs

counts_at : (c : NodeCell) (q : Question) (p : Place) → q.place ≡ p → IsCounted c q → Asks c q.errand p
counts_at c q (places.Locks cause v) at (inl is) = is
counts_at c q (places.Locks cause v) at (inr seeks) = let no : places.Seeks causes.Asked ≡ places.Locks cause v = sym seeks ∙ at in absurd cc
counts_at c q (places.Asks cause h seen) at (inl is) = is
counts_at c q (places.Asks cause h seen) at (inr seeks) = let no : places.Seeks causes.Asked ≡ places.Asks cause h seen = sym seeks ∙ at in absurd cc
counts_at c q p at is = tt

-- ---- at each question

mended_at : (s : Script) (inputs : List CellInput) (n e k : ℕ) → Way (course_in s inputs) (cell_behind (node_start s) inputs).sent n e k → Mended (cell_behind (node_start s) inputs) (course_in s inputs n e k).place
mended_at s inputs n e k way =
    let c : NodeCell = cell_behind (node_start s) inputs in
    let course : Course = course_in s inputs in
    each_mended c course c.sent n e (λ j. counts_at c (course n e j) (course n e j).place refl (counted s inputs n e j)) (subst (λ (q : Question). Mended c q.place) (sym ((are_numbered s inputs).zero_asks n e)) tt) (λ j q w. answers_tell s inputs n e j q w) k way

-- Where a recovery ends, no other server has a copy.
both : (b : Bool) → b ≡ false → b ≡ true → ⊥
both b e f = let no : true ≡ false = sym f ∙ e in absurd cc

pub none_elsewhere : (s : Script) (inputs : List CellInput) (n e k : ℕ) (m : Mend) → (course_in s inputs n e k).place ≡ places.Mends m mending.Frees → lock_at (cell_behind (node_start s) inputs) m.volume ≡ Some m.stamp → (i : ℕ) → has_host (cell_behind (node_start s) inputs) i ≡ true →
    has_copy_at (cell_behind (node_start s) inputs) m.volume i ≡ true → i ≡ m.named
none_elsewhere s inputs n e k m at locked i there has = by (nat_eq i m.named) refl
  where
    its : InMend (cell_behind (node_start s) inputs) m mending.Frees
    its = subst (Mended (cell_behind (node_start s) inputs)) at (mended_at s inputs n e k (was_asked s inputs n e k mends (ap task_at at)).way)

    by : (b : Bool) → nat_eq i m.named ≡ b → i ≡ m.named
    by true is = eqb-true i m.named is
    by false other = let left : list_any (nat_eq i) m.copies ≡ true = its.1 locked i there other has in let no : false ≡ true = sym (ap (list_any (nat_eq i)) its.0) ∙ left in absurd cc
