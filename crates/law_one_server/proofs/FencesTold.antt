-- Where a fence was answered, it was done: so what is known behind it is known then.
use Rattle.std.proofs.Common.{◌≡◌, ◌⊎◌, inl, inr, ℕ, true, List, [], ◌∷◌, ap, subst, ◌∙◌}
use Rattle.afs_num.specs.declared.messages.Carried.{Carried}
use Rattle.afs_num.specs.declared.messages.Carried.TheVariants as carried
use Rattle.afs_num.specs.declared.messages.Message.{Message}
use Rattle.afs_num.specs.declared.messages.Reply.TheVariants as tell
use Rattle.afs_num.specs.declared.types.Key.{Key}
use Rattle.afs_num.specs.declared.types.Node.TheVariants.{Admin, Server}
use Rattle.afs_num.specs.declared.volume_calls.VolReply.TheVariants as volumes
use Rattle.spec_history.specs.declared.scripts.Script.{Script}
use Rattle.spec_adminrows.specs.Acts.{asks_at}
use Rattle.spec_adminrows.specs.declared.places.Place.{Place}
use Rattle.spec_runs.specs.NodeRuns.{node_start, CellInput, NodeCell}
use Rattle.law_walks.proofs.Seats.{found_at}
use Rattle.law_places.specs.Accepting.{cell_behind}
use Rattle.law_keys.specs.Ran.{ran_in, RanCall}
use Rattle.law_keys.specs.Replied.{is_told, tells_change, AnyOf, IsAnswered, WasRun}
use Rattle.law_keys.proofs.Answering.{were_run}
use Rattle.law_courses.specs.Courses.{ask_in, Course, Question, WasAnswered}
use Rattle.law_one_server.proofs.FencesRan.{AreFenced, KnowsBehind}

-- ---- the call that it answers

any_fenced : (course : Course) (c : NodeCell) (m : Message) (n i : ℕ) (rs : List RanCall) → AnyOf (λ (r : RanCall). IsAnswered r m) rs → AreFenced course c rs → m.head.from ≡ Server i → m.head.to ≡ Admin n → tells_change m.carried ≡ true → KnowsBehind c (course n m.head.epoch m.head.number).place
any_fenced course c m n i [] any all from to tells = absurd any
any_fenced course c m n i (r ∷ rs) (inl a) all from to tells =
    subst (λ (k : Key). KnowsBehind c (course n k.epoch k.number).place) a.key (all.0 n i (a.callee ∙ from) (ap (λ (k : Key). k.node) a.key ∙ to) (a.changed tells))
any_fenced course c m n i (r ∷ rs) (inr any) all from to tells = any_fenced course c m n i rs any all.1 from to tells

told_change : (x : Carried) → x ≡ carried.Reply (tell.Volume volumes.SetFlags) → (is_told x ≡ true) × (tells_change x ≡ true)
told_change x is = (ap is_told is, ap tells_change is)

module _ (s : Script) (inputs : List CellInput) (course : Course) (all : AreFenced course (cell_behind (node_start s) inputs) (ran_in (node_start s) inputs)) where
  abbrev c : NodeCell
  c = cell_behind (node_start s) inputs

  module _ (n e k : ℕ) (q : Question) (w : WasAnswered c.sent n e k (course n e k) q) where
    -- a reply of a server that says so
    pub behind_told : (i : ℕ) → (ask_in (course n e k)).callee ≡ Server i → w.reply ≡ tell.Volume volumes.SetFlags → KnowsBehind c (course n e k).place
    behind_told i callee says =
        let z = told_change w.m.carried (w.says ∙ ap carried.Reply says) in
        let any : AnyOf (λ (r : RanCall). IsAnswered r w.m) (ran_in (node_start s) inputs) = found_at (WasRun (ran_in (node_start s) inputs)) w.place c.sent w.m (were_run s inputs).sent w.there z.0 in
        subst (λ (j : ℕ). KnowsBehind c (course n e j).place) w.of_number
        (subst (λ (j : ℕ). KnowsBehind c (course n j w.m.head.number).place) w.in_epoch
        (any_fenced course c w.m n i (ran_in (node_start s) inputs) any all (w.callee ∙ callee) w.to z.1))

    pub callee_is : (p : Place) (i : ℕ) → (course n e k).place ≡ p → (asks_at (course n e k).errand p).callee ≡ Server i → (ask_in (course n e k)).callee ≡ Server i
    callee_is p i is callee = ap (λ (r : Place). (asks_at (course n e k).errand r).callee) is ∙ callee
