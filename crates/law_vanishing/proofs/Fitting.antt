-- So fit the places of all questions of a run.
use Rattle.std.proofs.Common.{◌≡◌, ℕ, List, Some, sym, ap, subst}
use Rattle.spec_history.specs.declared.scripts.Script.{Script}
use Rattle.spec_adminrows.specs.Acts.{answered, begins_with, refused}
use Rattle.spec_adminrows.specs.declared.places.Place.{Place}
use Rattle.spec_adminrows.specs.declared.turns.Running.{Running}
use Rattle.spec_runs.specs.NodeRuns.{node_moved, node_start, CellInput, NodeCell}
use Rattle.law_walks.proofs.Seats.{found_at}
use Rattle.law_places.specs.Accepting.{cell_behind}
use Rattle.law_courses.specs.Courses.{course_in, Course, Question, WasAnswered}
use Rattle.law_courses.proofs.Continuing.{leads_is}
use Rattle.law_courses.proofs.Runs.{each_run}
use Rattle.law_numbers.specs.Numbers.{next_volume, IsNumbered}
use Rattle.law_numbers.proofs.Acting.{told_is}
use Rattle.law_numbers.proofs.Knowing.{Known}
use Rattle.law_numbers.proofs.Leading.{RepliesAt}
use Rattle.law_vanishing.proofs.Numbering.{all_known}
use Rattle.law_one_server.proofs.ActsBegin.{all_start, asked_now}
use Rattle.law_vanishing.proofs.Fits.{answered_fit, first_fit, refused_fit, Fits}

module _ (s : Script) (numbered : IsNumbered s) where
  abbrev cell : List CellInput → NodeCell
  cell done = cell_behind (node_start s) done

  abbrev AllFit : Course → NodeCell → Type 0
  AllFit course c = (n e k : ℕ) → Fits (course n e k).place

  module _ (done : List CellInput) (n : ℕ) (r : Running) (run : ((cell done).admins n).running ≡ Some r) where
    abbrev c : NodeCell
    c = cell done

    abbrev before : Question
    before = course_in s done n (c.admins n).epoch (c.admins n).last

    -- the act that runs is at the last question
    answer_fits : before.place ≡ r.place → Fits before.place → (q : Question) → WasAnswered c.sent n (c.admins n).epoch (c.admins n).last before q → Fits q.place
    answer_fits at fit q w =
        let told : RepliesAt (next_volume c) r.place w.reply = told_is c n w.m (found_at (Known c) w.place c.sent w.m (all_known s done numbered) w.there) w.to w.reply r w.says (w.in_epoch, w.of_number) run in
        leads_is Fits q.place (answered before.errand before.place w.reply) (answered_fit (next_volume c) before.errand before.place w.reply fit (subst (λ (p : Place). RepliesAt (next_volume c) p w.reply) (sym at) told)) w.leads

  pub fit : (inputs : List CellInput) (n e k : ℕ) → Fits (course_in s inputs n e k).place
  fit inputs = each_run s AllFit (λ done x t h.
      let c : NodeCell = cell done in
      asked_now (course_in s done) c (node_moved c x) t (all_start c x) Fits h
      (λ q b. leads_is Fits q.place (begins_with q.errand.act b.0) (first_fit q.errand.act b.0) b.1)
      (λ n r q run w. answer_fits done n r run (ap (λ (y : Question). y.place) (t.before.acts n r run).now) (h n (c.admins n).epoch (c.admins n).last) q w)
      (λ p code q k l. leads_is Fits q (refused p code) (refused_fit p code k) l)) (λ n e k. tt) inputs
