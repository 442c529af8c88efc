-- A call of the location database that is served in a run leaves what acts know, and volumes in service only where the database says.
use Rattle.std.proofs.Common.{◌≡◌, ◌≤◌, ℕ, List, Some, false, refl, sym, ap, subst, ◌∙◌, arith, nat_eq}
use Rattle.std.proofs.lemmas.Bool.Decides.{nat_tests}
use Rattle.std.specs.Prelude.{⊤}
use Rattle.afs_num.specs.declared.location_calls.LocCall.{LocCall}
use Rattle.afs_num.specs.declared.location_calls.LocCall.TheVariants as calls
use Rattle.afs_num.specs.declared.messages.Call.TheVariants as ask
use Rattle.afs_num.specs.declared.messages.Carried.TheVariants as carried
use Rattle.afs_num.specs.declared.messages.Message.{Message}
use Rattle.afs_num.specs.declared.types.Node.{Node}
use Rattle.afs_num.specs.declared.types.Node.TheVariants.{Admin, Client, Loc, Server}
use Rattle.spec_history.specs.declared.scripts.Script.{Script}
use Rattle.spec_adminrows.specs.declared.places.Place.{Place}
use Rattle.spec_rows.specs.Runs.{message_at}
use Rattle.spec_runs.specs.NodeRuns.{node_moved, node_start, CellInput, NodeCell}
use Rattle.spec_volrows.specs.NodeHosts.{NodeHost}
use Rattle.law_places.specs.Accepting.{cell_behind, has_in_service}
use Rattle.law_stamps.specs.Told.{entries_in}
use Rattle.law_families.specs.Entries.{AreKeyed}
use Rattle.law_courses.specs.Courses.{ask_in, course_in, Course, IsOnCourse, Question}
use Rattle.law_courses.proofs.Walk.{are_on_course}
use Rattle.law_locks.specs.Grips.{AreGripped}
use Rattle.law_locks.proofs.Gifts.{CallBy}
use Rattle.law_locks.proofs.Walk.{calls_by, grips_are_drawn, WasSent}
use Rattle.law_numbers.specs.Numbers.{next_volume, IsNumbered, WritesSound}
use Rattle.law_numbers.proofs.Walk.{are_apart}
use Rattle.law_one_server.specs.Knows.{AreClosed, Knows}
use Rattle.law_one_server.proofs.KnownOneMore.{also, with_own, with_place, IsAlso}
use Rattle.law_one_server.proofs.KnownAside.{over_stays}
use Rattle.law_one_server.proofs.EntriesApart.{some_number}
use Rattle.law_one_server.proofs.KnownWalk.{IsLeft}
use Rattle.law_one_server.proofs.KnownBehindFence.{behind_stands}
use Rattle.law_one_server.proofs.DatabaseChanges.{IsChanged}
use Rattle.law_one_server.proofs.DatabaseSteps.{IsServed}
use Rattle.law_one_server.proofs.KnownGroundDatabase.{ready}
use Rattle.law_one_server.proofs.DatabaseServesKnown.{stands, IsNumberedCall, KnownBy}
use Rattle.law_one_server.proofs.DatabaseCalls.{Grounds, IsBeside, Stands}

-- ---- what is known of a call that was sent

numbered_call : (next : ℕ) (call : LocCall) → WritesSound next call → IsNumberedCall call
numbered_call next (calls.CreateEntry e) h = some_number e.read_write h.0.0
numbered_call next call h = tt

module _ (s : Script) (inputs : List CellInput) where
  abbrev c : NodeCell
  c = cell_behind (node_start s) inputs

  abbrev course : Course
  course = course_in s inputs

  -- any course that has this question where this one has it
  module _ (other : Course) where
    known_by : (place : ℕ) (m : Message) (user : List ℕ) (call : LocCall) (n : Node) → message_at c.sent place ≡ Some m → m.carried ≡ carried.Call user (ask.Location call) → m.head.from ≡ n → ((i : ℕ) → m.head.from ≡ Admin i → other i m.head.epoch m.head.number ≡ course i m.head.epoch m.head.number) →
        CallBy (ask.Location call) n → KnownBy other c m.head call n
    known_by place m user call (Admin n) at is from same k =
        let on : IsOnCourse course c.sent n (c.admins n) m.head (ask.Location call) = (are_on_course.on s inputs).calls place n m user (ask.Location call) at from is in
        record { asks = ap (λ (q : Question). (ask_in q).call) (same n from) ∙ on.asks; stamp = on.stamp ∙ ap (λ (q : Question). (ask_in q).stamp) (sym (same n from)) }
    known_by place m user call (Server i) at is from same k = k
    known_by place m user call (Client i) at is from same k = k
    known_by place m user call Loc at is from same k = k

    known_call : (place : ℕ) (m : Message) (user : List ℕ) (call : LocCall) → message_at c.sent place ≡ Some m → m.carried ≡ carried.Call user (ask.Location call) → ((i : ℕ) → m.head.from ≡ Admin i → other i m.head.epoch m.head.number ≡ course i m.head.epoch m.head.number) →
        KnownBy other c m.head call m.head.from
    known_call place m user call at is same = known_by place m user call m.head.from at is refl same (calls_by s inputs place m user (ask.Location call) at is)

  keyed : AreKeyed (entries_in c)
  keyed = let g : AreGripped course c = grips_are_drawn s inputs in record { ascends = g.line.ascends; keyed = g.line.keyed }

  -- who asks, if it is an administrator
  abbrev pub admin_of : Node → ℕ
  admin_of (Admin n) = n
  admin_of (Server i) = 0
  admin_of (Client i) = 0
  admin_of Loc = 0

  module _ (numbered : IsNumbered s) (servers : 1 ≤ s.servers) (knows : (n e k : ℕ) → Knows c (course n e k).place) (closed : AreClosed c) (x : CellInput) where
    abbrev d : NodeCell
    d = (node_moved c x).cell

    abbrev g : Grounds course c
    g = ready s inputs servers knows closed

    pub beside : IsChanged c d → IsBeside c d
    beside k = record { serves = λ volume server. ap (λ (f : ℕ → NodeHost). has_in_service (f server).state.file.lasting.volumes volume) k.hosts; over = over_stays s inputs x }

    module _ (k : IsChanged c d) where
      stands_on : (other : Course) → Grounds other c → ((i : ℕ) → k.m.head.from ≡ Admin i → other i k.m.head.epoch k.m.head.number ≡ course i k.m.head.epoch k.m.head.number) → Stands other d
      stands_on other h same =
          let z : IsServed c.loc.state k.m k.change = k.served in
          stands other c d h (beside k) keyed k.m.head k.m.head.from z.call k.change z.does (known_call other k.sent.0 k.m z.user z.call k.sent.1 z.says same)
          (numbered_call (next_volume c) z.call ((are_apart s inputs numbered).calls k.sent.0 k.m z.user z.call k.sent.1 z.says)) k.entries

      pub served_stands : Stands course d
      served_stands = stands_on course g (λ i from. refl)

      -- with one more place beside the question that is served
      abbrev pub own : ℕ
      own = admin_of k.m.head.from

      with_same : (p : Place) (a : IsAlso course c g own k.m.head.epoch k.m.head.number p) (i : ℕ) → k.m.head.from ≡ Admin i → with_place course c g own k.m.head.epoch k.m.head.number p a i k.m.head.epoch k.m.head.number ≡ course i k.m.head.epoch k.m.head.number
      with_same p a i from = with_own course c g own k.m.head.epoch k.m.head.number p a ∙ ap (λ (n : Node). course (admin_of n) k.m.head.epoch k.m.head.number) from

      pub also_stands : (p : Place) (a : IsAlso course c g own k.m.head.epoch k.m.head.number p) → Stands (with_place course c g own k.m.head.epoch k.m.head.number p a) d
      also_stands p a = stands_on (with_place course c g own k.m.head.epoch k.m.head.number p a) (also course c g own k.m.head.epoch k.m.head.number p a) (with_same p a)

      -- so all that the walk asks of the database's step
      pub served_left : IsLeft course c d
      served_left = record { knows = served_stands.knows; closed = served_stands.closed; behind = behind_stands course c d g own k.m.head.epoch k.m.head.number also_stands }
