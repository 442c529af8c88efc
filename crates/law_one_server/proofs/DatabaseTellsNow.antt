-- What the location database tells to a call that it serves now is so behind the step, for the act that asked it.
use Rattle.std.proofs.Common.{◌≡◌, ◌⊎◌, ◌≤◌, inl, inr, ℕ, List, Some, false, refl, sym, ap, subst, ◌∙◌, nat_eq}
use Rattle.afs_num.specs.declared.location_calls.LocReply.{LocReply}
use Rattle.afs_num.specs.declared.messages.Call.TheVariants as ask
use Rattle.afs_num.specs.declared.messages.Message.{Message}
use Rattle.afs_num.specs.declared.messages.Reply.{Reply}
use Rattle.afs_num.specs.declared.messages.Reply.TheVariants as tell
use Rattle.afs_num.specs.declared.types.Node.TheVariants.{Admin}
use Rattle.spec_history.specs.declared.scripts.Script.{Script}
use Rattle.spec_adminrows.specs.Asks.{family}
use Rattle.spec_adminrows.specs.declared.places.Cause.{Cause}
use Rattle.spec_adminrows.specs.declared.places.Hold.{Hold}
use Rattle.spec_adminrows.specs.declared.places.Place.{Place}
use Rattle.spec_adminrows.specs.declared.places.Place.TheVariants as places
use Rattle.spec_adminrows.specs.declared.places.Seen.{Seen}
use Rattle.spec_runs.specs.NodeRuns.{node_moved, node_start, CellInput, NodeCell}
use Rattle.law_places.specs.Accepting.{cell_behind}
use Rattle.law_stamps.specs.Told.{entries_in}
use Rattle.law_families.specs.Entries.{AreKeyed}
use Rattle.law_courses.specs.Courses.{course_in, Course, IsOnCourse, Question}
use Rattle.law_courses.proofs.Walk.{are_on_course}
use Rattle.law_locks.specs.Grips.{AreGripped}
use Rattle.law_locks.proofs.Walk.{grips_are_drawn, WasSent}
use Rattle.law_numbers.specs.Numbers.{IsNumbered}
use Rattle.law_one_server.specs.Knows.{AreClosed, Knows}
use Rattle.law_one_server.proofs.DatabaseAnswers.{IsRead, IsServedNow, IsWritten}
use Rattle.law_one_server.proofs.EntriesApart.{all_apart, not_zero}
use Rattle.law_one_server.proofs.KnownAside.{is_aside}
use Rattle.law_one_server.proofs.KnownWalk.{IsLeft}
use Rattle.law_one_server.proofs.DatabaseChanges.{changes, Changes, IsChanged}
use Rattle.law_one_server.proofs.DatabaseAnswersNow.{read_news, written_news}
use Rattle.law_one_server.proofs.KnownLeads.{News}
use Rattle.law_one_server.proofs.NewsAside.{news_aside}
use Rattle.law_one_server.proofs.DatabaseServes.{beside}
use Rattle.law_one_server.proofs.DatabaseCalls.{IsBeside}
use Rattle.law_one_server.proofs.EntriesName.{all_usable}

module _ (s : Script) (done : List CellInput) (x : CellInput) (numbered : IsNumbered s) (servers : 1 ≤ s.servers) where
  abbrev c : NodeCell
  c = cell_behind (node_start s) done

  abbrev d : NodeCell
  d = (node_moved c x).cell

  abbrev course : Course
  course = course_in s done

  keyed : AreKeyed (entries_in c)
  keyed = let g : AreGripped course c = grips_are_drawn s done in record { ascends = g.line.ascends; keyed = g.line.keyed }

  module _ (knows : (n e k : ℕ) → Knows c (course n e k).place) (closed : AreClosed c) (left : IsLeft course c d) where
    -- the servers as they were
    same_beside : IsBeside c c
    same_beside = record { serves = λ volume server. refl; over = λ volume stamp over. over }

    module _ (n : ℕ) (m : Message) (sent : WasSent c.sent m) (from : m.head.from ≡ Admin n) (reply : LocReply) (now : IsServedNow c.loc.state (entries_in d) m reply) where
      on : IsOnCourse course c.sent n (c.admins n) m.head (ask.Location now.call)
      on = (are_on_course.on s done).calls sent.0 n m now.user (ask.Location now.call) sent.1 from now.says

      abbrev q : Question
      q = course n m.head.epoch m.head.number

      none : (cause : Cause) (h : Hold) (seen : List Seen) → q.place ≡ places.Asks cause h seen → nat_eq (family h) 0 ≡ false
      none cause h seen at = not_zero s done numbered n m.head.epoch m.head.number cause h seen at

      -- in a cell with these entries
      told_in : (y : NodeCell) → IsBeside c y → entries_in y ≡ entries_in d → News y q.place (tell.Location reply)
      told_in y b same = by now.does
        where
          by : IsRead c.loc.state (entries_in d) m.head.stamp now.call reply ⊎ IsWritten c.loc.state (entries_in d) m.head.stamp now.call reply → News y q.place (tell.Location reply)
          by (inl read) = read_news course c y b keyed (all_apart s done) knows (all_usable s done) n m.head now.call on (same ∙ read.leaves) none reply read.does
          by (inr w) = subst (λ (z : LocReply). News y q.place (tell.Location z)) w.replies (written_news course c y b keyed (all_apart s done) knows (all_usable s done) n m.head now.call on w.c w.does (same ∙ w.leaves))

      at_once : News d q.place (tell.Location reply)
      at_once = by (changes s done x)
        where
          by : Changes c d → News d q.place (tell.Location reply)
          by (inl same) = news_aside c d (is_aside s done x same) q.place (tell.Location reply) (left.behind n m.head.epoch m.head.number) (told_in c same_beside (sym same))
          by (inr k) = told_in d (beside s done numbered servers knows closed x k) refl

    pub written : (n e k : ℕ) (m : Message) → WasSent c.sent m → m.head.from ≡ Admin n → m.head.epoch ≡ e → m.head.number ≡ k → (reply : LocReply) → IsServedNow c.loc.state (entries_in d) m reply → News d (course n e k).place (tell.Location reply)
    written n e k m sent from epoch number reply now =
        subst (λ (i : ℕ). News d (course n i k).place (tell.Location reply)) epoch (subst (λ (j : ℕ). News d (course n m.head.epoch j).place (tell.Location reply)) number (at_once n m sent from reply now))
