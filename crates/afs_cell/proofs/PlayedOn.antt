-- A script that was played and told, and how that ends.
use Rattle.std.specs.Prelude.{◌≡◌, ℕ, ◌+◌, List, length, Bool, false, Option}
use Rattle.std.proofs.Common.{sym, subst, ◌∙◌, arith}
use Rattle.std.proofs.lemmas.List.{length-append}
use Rattle.spec_history.specs.declared.scripts.Script.{Script}
use Rattle.afs_cell.specs.Since.{whole, IsWorldSince}
use Rattle.afs_cell.specs.Steps.{HasPlayedAll, HasPlayedFirst, HasPlayedSome}
use Rattle.afs_cell.specs.Worlds.{most_history_entries, AllTell, IsWorld, WorldState}
use Rattle.afs_lending.specs.Outside.{Outside}
use Rattle.afs_cell.specs.Writing.{EndsSo, HistoryIsWritten, IsWritten}
use Rattle.afs_cell.specs.Replays.{EndsRun}
use Rattle.afs_cell.specs.declared.writing.Ended.{Ended}
use Rattle.afs_cell.specs.declared.writing.Ended.TheVariants as ended
use Rattle.afs_cell.specs.declared.writing.Told.{Told}
use Rattle.afs_command.specs.declared.statuses.Status.{Status}
use Rattle.afs_cell.proofs.Ended.{played_on}

module _ {D : Type 0} (seen : D → Option (List ℕ)) (may_leave : D → List ℕ → Type 0) (faults limit : D → ℕ) (s : Script) (wire : Bool) (tells : Type 0) (old new : Option (List ℕ)) (before after : ℕ) (t : Told (WorldState D)) (told : HistoryIsWritten seen may_leave faults limit s wire tells old new before after t) where
  script_of : t.world.script ≡ s
  script_of = told.world.safe.script

  world_of : IsWorld seen may_leave faults limit t.world.script (whole told.gone t.world)
  world_of = subst (λ (x : Script). IsWorld seen may_leave faults limit x (whole told.gone t.world)) (sym script_of) told.world

  pub since_of : IsWorldSince seen may_leave faults limit t.world
  since_of = record { before = told.gone; is = told.is; world = world_of }

  pub written_of : IsWritten seen may_leave faults limit wire old before told.gone t.world new after t.written
  written_of = record { is = told.is; world = world_of; text = told.written }

  ends_as : (e : Ended) → t.ended ≡ e → EndsSo seen may_leave faults limit s tells e (whole told.gone t.world)
  ends_as e is = subst (λ (x : Ended). EndsSo seen may_leave faults limit s tells x (whole told.gone t.world)) is told.ended

  pub going_all : t.ended ≡ ended.All → t.world.is_lost ≡ false
  going_all is = (ends_as ended.All is).0

  pub going_first : t.ended ≡ ended.Limit → t.world.is_lost ≡ false
  going_first is = (ends_as ended.Limit is).0

  pub full_first : t.ended ≡ ended.Limit → t.world.gone.entries + length t.world.history ≡ most_history_entries
  full_first is = omega (arith, (ends_as ended.Limit is).1.0, told.is.entries, length-append told.gone.history t.world.history)

  module _ (script : Script) (same : s ≡ script) (tells_too left : Type 0) (tell : tells_too → tells) (o : Outside) (status : Status) where
    pub all_ends : t.ended ≡ ended.All → EndsRun t.world.script wire (AllTell seen t.world × HasPlayedAll seen may_leave faults limit t.world.script (whole told.gone t.world)) ⊥ o status → EndsRun script wire tells_too left o status
    all_ends is run =
        played_on script t.world.script wire (AllTell seen t.world × HasPlayedAll seen may_leave faults limit t.world.script (whole told.gone t.world)) tells_too left o status (script_of ∙ same)
        (λ x. subst (λ (y : Script). AllTell seen t.world × HasPlayedAll seen may_leave faults limit y (whole told.gone t.world)) (sym script_of) ((ends_as ended.All is).1 (tell x))) run

    pub first_ends : t.ended ≡ ended.Limit → EndsRun t.world.script wire (AllTell seen t.world × HasPlayedFirst seen may_leave faults limit t.world.script (whole told.gone t.world)) ⊥ o status → EndsRun script wire tells_too left o status
    first_ends is run =
        played_on script t.world.script wire (AllTell seen t.world × HasPlayedFirst seen may_leave faults limit t.world.script (whole told.gone t.world)) tells_too left o status (script_of ∙ same)
        (λ x. subst (λ (y : Script). AllTell seen t.world × HasPlayedFirst seen may_leave faults limit y (whole told.gone t.world)) (sym script_of) ((ends_as ended.Limit is).1.1 (tell x))) run

    pub some_ends : t.ended ≡ ended.OutOfMemory → EndsRun t.world.script wire (AllTell seen t.world × HasPlayedSome seen may_leave faults limit t.world.script (whole told.gone t.world)) ⊥ o status → EndsRun script wire tells_too left o status
    some_ends is run =
        played_on script t.world.script wire (AllTell seen t.world × HasPlayedSome seen may_leave faults limit t.world.script (whole told.gone t.world)) tells_too left o status (script_of ∙ same)
        (λ x. subst (λ (y : Script). AllTell seen t.world × HasPlayedSome seen may_leave faults limit y (whole told.gone t.world)) (sym script_of) (ends_as ended.OutOfMemory is (tell x))) run
