-- What an answer tells an act that waits for it is so when it is sent, and as long as the act waits.
use Rattle.std.proofs.Common.{◌≡◌, ◌⊎◌, inl, inr, ℕ, List, Option, Some, None, refl, sym, ap, subst, ◌∙◌}
use Rattle.std.specs.Prelude.{⊤}
use Rattle.afs_num.specs.declared.messages.Carried.{Carried}
use Rattle.afs_num.specs.declared.messages.Carried.TheVariants as carried
use Rattle.afs_num.specs.declared.location_calls.LocReply.TheVariants as entries
use Rattle.afs_num.specs.declared.messages.Reply.{Reply}
use Rattle.afs_num.specs.declared.messages.Reply.TheVariants as tell
use Rattle.afs_num.specs.declared.types.Node.{Node}
use Rattle.afs_num.specs.declared.types.Node.TheVariants.{Admin, Loc, Server}
use Rattle.afs_num.specs.declared.volume_calls.VolReply.TheVariants as volumes
use Rattle.spec_history.specs.declared.scripts.Script.{Script}
use Rattle.spec_adminrows.specs.Acts.{asks_at}
use Rattle.spec_adminrows.specs.Asks.{home}
use Rattle.spec_adminrows.specs.declared.places.Creating.TheVariants as creating
use Rattle.spec_adminrows.specs.declared.places.Hold.{Hold}
use Rattle.spec_adminrows.specs.declared.places.Moving.TheVariants as moving
use Rattle.spec_adminrows.specs.declared.places.Place.{Place}
use Rattle.spec_adminrows.specs.declared.places.Place.TheVariants as places
use Rattle.spec_adminrows.specs.declared.places.Removing.TheVariants as removing
use Rattle.spec_adminrows.specs.declared.places.Seen.{Seen}
use Rattle.spec_adminrows.specs.declared.places.Trip.{Trip}
use Rattle.spec_adminrows.specs.declared.turns.Running.{Running}
use Rattle.spec_runs.specs.NodeRuns.{node_start, CellInput, NodeCell}
use Rattle.law_places.specs.Accepting.{cell_behind}
use Rattle.law_walks.proofs.Seats.{found_at}
use Rattle.law_keys.specs.Ran.{ran_in}
use Rattle.law_courses.specs.Courses.{ask_in, Course, Question, WasAnswered}
use Rattle.law_one_server.proofs.FencesRan.{AreFenced, KnowsBehind}
use Rattle.law_one_server.proofs.FencesTold.{behind_told, callee_is}
use Rattle.law_one_server.proofs.KnownLeads.{quiet_news, News}
use Rattle.law_one_server.proofs.NewsTold.{AreTold, IsTold, Tells, TellsTo, Waits}

module _ (s : Script) (inputs : List CellInput) (course : Course) (told : AreTold course (cell_behind (node_start s) inputs)) (fenced : AreFenced course (cell_behind (node_start s) inputs) (ran_in (node_start s) inputs)) where
  abbrev c : NodeCell
  c = cell_behind (node_start s) inputs

  module _ (n e k : ℕ) (r : Running) (waits : Waits (c.admins n) e k r) (q : Question) (w : WasAnswered c.sent n e k (course n e k) q) where
    -- what the database tells
    of_number : News c (course n w.m.head.epoch w.m.head.number).place w.reply → News c (course n e k).place w.reply
    of_number news =
        subst (λ (j : ℕ). News c (course n e j).place w.reply) w.of_number (subst (λ (j : ℕ). News c (course n j w.m.head.number).place w.reply) w.in_epoch news)

    by_database : w.m.head.from ≡ Loc → News c (course n e k).place w.reply
    by_database from =
        let tells : Tells course c w.m.head w.m.carried = found_at (IsTold course c) w.place c.sent w.m told.sent w.there from in
        let to : TellsTo course c w.m.head.epoch w.m.head.number w.reply w.m.head.to = subst (Tells course c w.m.head) w.says tells in
        let its : TellsTo course c w.m.head.epoch w.m.head.number w.reply (Admin n) = subst (TellsTo course c w.m.head.epoch w.m.head.number w.reply) w.to to in
        of_number (its.1 r (waits.0, (waits.1.0 ∙ sym w.in_epoch, waits.1.1 ∙ sym w.of_number)))

    -- the database was asked
    of_database : (p : Place) → (course n e k).place ≡ p → (asks_at (course n e k).errand p).callee ≡ Loc → News c p w.reply
    of_database p is callee =
        subst (λ (x : Place). News c x w.reply) is (by_database (w.callee ∙ (ap (λ (x : Place). (asks_at (course n e k).errand x).callee) is ∙ callee)))

    -- a fence's answer
    moves_fence : (m : Trip) (counter new old : ℕ) (reply : Reply) → (course n e k).place ≡ places.Moves m (moving.Fences counter new old) → w.reply ≡ reply → News c (places.Moves m (moving.Fences counter new old)) reply
    moves_fence m counter new old (tell.Volume volumes.SetFlags) is says =
        subst (KnowsBehind c) is (behind_told s inputs course fenced n e k q w (home m.hold) (callee_is s inputs course fenced n e k q w (places.Moves m (moving.Fences counter new old)) (home m.hold) is refl) says)
    moves_fence m counter new old (tell.Location (entries.SetLock stamp l)) is says = tt
    moves_fence m counter new old (tell.Location (entries.CreateEntry stamp)) is says = tt
    moves_fence m counter new old (tell.Location entries.ReplaceEntry) is says = tt
    moves_fence m counter new old (tell.Location (entries.GetEntryById l)) is says = tt
    moves_fence m counter new old (tell.Location reply) is says = tt
    moves_fence m counter new old reply is says = tt

    removes_fence : (h : Hold) (seen : List Seen) (t : ℕ) (reply : Reply) → (course n e k).place ≡ places.Removes h seen (removing.Fences t) → w.reply ≡ reply → News c (places.Removes h seen (removing.Fences t)) reply
    removes_fence h seen t (tell.Volume volumes.SetFlags) is says =
        subst (KnowsBehind c) is (behind_told s inputs course fenced n e k q w (home h) (callee_is s inputs course fenced n e k q w (places.Removes h seen (removing.Fences t)) (home h) is refl) says)
    removes_fence h seen t (tell.Location (entries.SetLock stamp l)) is says = tt
    removes_fence h seen t (tell.Location (entries.CreateEntry stamp)) is says = tt
    removes_fence h seen t (tell.Location entries.ReplaceEntry) is says = tt
    removes_fence h seen t (tell.Location (entries.GetEntryById l)) is says = tt
    removes_fence h seen t (tell.Location reply) is says = tt
    removes_fence h seen t reply is says = tt

    by_place : (p : Place) → (course n e k).place ≡ p → News c p w.reply
    by_place (places.Locks cause v) is = of_database (places.Locks cause v) is refl
    by_place (places.Creates f (creating.Enters v)) is = of_database (places.Creates f (creating.Enters v)) is refl
    by_place (places.Moves m (moving.Fences counter new old)) is = moves_fence m counter new old w.reply is refl
    by_place (places.Moves m (moving.Decides new old)) is = of_database (places.Moves m (moving.Decides new old)) is refl
    by_place (places.Removes h seen (removing.Fences t)) is = removes_fence h seen t w.reply is refl
    by_place (places.Asks cause h seen) is = of_database (places.Asks cause h seen) is refl
    by_place p is = quiet_news c p w.reply tt

    pub told_news : News c (course n e k).place w.reply
    told_news = by_place (course n e k).place refl
