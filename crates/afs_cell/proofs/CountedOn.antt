-- A schedule is played, and each entry is counted and let go.
use Rattle.std.specs.Prelude.{◌≡◌, ◌≤◌, ◌<◌, ◌⊎◌, ℕ, ◌+◌, ◌-◌, List, [], ◌++◌, length, Option}
use Rattle.std.proofs.Common.{refl, ap, sym, subst, ◌∙◌, inl, inr, append-nil, arith}
use Rattle.std.proofs.lemmas.List.{length-append}
use Rattle.spec_history.specs.declared.lines.Entry as kept
use Rattle.spec_history.specs.declared.scripts.Script.{Script}
use Rattle.afs_schedule.specs.Schedules.{events_of}
use Rattle.afs_schedule.specs.Settled.{places_settled}
use Rattle.afs_schedule.specs.Taking.{IsLeft}
use Rattle.afs_schedule.specs.declared.schedule.Schedule.{Schedule}
use Rattle.afs_summary.specs.Counting.{AreCounted}
use Rattle.afs_summary.specs.declared.counts.Counts.{Counts}
use Rattle.afs_cell.specs.Since.{whole, IsBefore, Keeps, LetsGo}
use Rattle.afs_cell.specs.Steps.{IsFirst, TellsNothing}
use Rattle.afs_cell.specs.UnderWay.{GoesSo, IsUnderWay}
use Rattle.afs_cell.specs.UnderWaySince.{GoesSoSince, IsUnderWaySince}
use Rattle.afs_cell.specs.Worlds.{most_history_entries, none_gone, AllTell, HistoryTold, IsSafe, IsWorld, LetGo, WorldState}
use Rattle.afs_cell.specs.declared.playing.Played.TheVariants as played
use Rattle.afs_cell.proofs.UnderWay.{begins}
use Rattle.afs_cell.proofs.Whole.{before_more, whole_more, with_more}
use Rattle.afs_cell.specs.Counted.{CountsOn, IsCounted}
use Rattle.afs_cell.specs.declared.made.Ended.TheVariants as ended

-- ---- the beginning

none_before : HistoryTold
none_before = record { wire = []; history = [] }

whole_none : {D : Type 0} (w : WorldState D) → w.gone ≡ none_gone → whole none_before w ≡ w
unfolding none_before
whole_none {D} w none = ap (λ (g : LetGo). record w { gone = g }) (sym none)

none_is : {D : Type 0} (w : WorldState D) → w.gone ≡ none_gone → IsBefore none_before w
unfolding none_before
none_is {D} w none = record {
  entries = sym (ap (λ (g : LetGo). g.entries) none);
  sent = sym (ap (λ (g : LetGo). g.sent) none);
  messages = sym (ap (λ (g : LetGo). g.messages) none);
  told = subst (λ (g : LetGo). g.messages ≤ g.sent) (sym none) (omega (arith));
}

none_counted : (counts : Option Counts) → AreCounted counts [] → AreCounted counts none_before.history
unfolding none_before
none_counted counts counted = counted

-- what was let go before stays so
before_kept : {D : Type 0} (b : HistoryTold) (w new : WorldState D) → IsBefore b w → Keeps w new → IsBefore b new
before_kept {D} b w new before k = record {
  entries = before.entries ∙ sym (ap (λ (g : LetGo). g.entries) k.gone);
  sent = before.sent ∙ sym (ap (λ (g : LetGo). g.sent) k.gone);
  messages = before.messages ∙ sym (ap (λ (g : LetGo). g.messages) k.gone);
  told = subst (λ (g : LetGo). g.messages ≤ g.sent) (sym k.gone) before.told;
}

module _ {D : Type 0} (seen : D → Option (List ℕ)) (may_leave : D → List ℕ → Type 0) (faults limit : D → ℕ) where
  pub counts_from : (w : WorldState D) (schedule : Schedule) (counts : Option Counts) → IsWorld seen may_leave faults limit w.script w → IsFirst seen may_leave limit w.script w → IsLeft schedule (events_of w.script) [] → AreCounted counts []
      → CountsOn seen may_leave faults limit w.script (AllTell seen w) w schedule counts
  counts_from w schedule counts world first left counted = record {
    script = refl;
    gone = none_before;
    is = none_is w first.gone;
    way = subst (λ (v : WorldState D). IsUnderWay seen may_leave faults limit w.script v schedule) (sym (whole_none w first.gone)) (begins seen may_leave faults limit w.script w schedule world first left);
    none = first.history;
    kept = omega (arith, ap (λ (g : LetGo). g.messages) first.gone);
    tell = λ t. t;
    counted = none_counted counts counted;
  }

  -- ---- one event

  module _ (s : Script) (tells : Type 0) (w : WorldState D) (schedule : Schedule) (counts : Option Counts) (c : CountsOn seen may_leave faults limit s tells w schedule counts) where
    pub way_since : IsUnderWaySince seen may_leave faults limit w schedule
    way_since = record { before = c.gone; is = c.is; way = c.way }

    module _ (new : WorldState D) (after : Schedule) (k : Keeps w new) (tell : AllTell seen w → AllTell seen new) where
      is_new : IsBefore c.gone new
      is_new = before_kept c.gone w new c.is k

      module _ (goes : GoesSoSince seen may_leave faults limit w new schedule after played.Event) where
        went : GoesSo seen may_leave faults limit w.script (whole c.gone w) (whole c.gone new) after played.Event
        went = goes c.gone c.is c.way

        safe_new : IsSafe limit w.script (whole c.gone new)
        safe_new = went.0.world.safe

        pub few_now : new.gone.entries + length new.history ≤ most_history_entries
        few_now = omega (arith, safe_new.entries, is_new.entries, length-append c.gone.history new.history)

        pub counts_on : (es : List kept.Entry) → es ≡ new.history → (later : Option Counts) → ((before : List kept.Entry) → AreCounted counts before → AreCounted later (before ++ es))
            → places_settled schedule ≤ places_settled after → (end : WorldState D) (places : ℕ) → places ≡ places_settled after → LetsGo places new end → CountsOn seen may_leave faults limit s tells end after later
        counts_on es entries later count grows end places is go =
            let script : end.script ≡ w.script = ap (λ (v : WorldState D). v.script) go.is ∙ k.script in
            let same = whole_more c.gone places new end go in
            let safe_here : IsSafe limit new.script (whole c.gone new) = subst (λ (x : Script). IsSafe limit x (whole c.gone new)) (sym k.script) safe_new in
            record {
              script = script ∙ c.script;
              gone = with_more c.gone new go.count;
              is = before_more limit c.gone places new end is_new safe_here go;
              way =
                  subst (λ (x : Script). IsUnderWay seen may_leave faults limit x (whole (with_more c.gone new go.count) end) after) (sym script)
                  (subst (λ (v : WorldState D). IsUnderWay seen may_leave faults limit w.script v after) (sym same) went.0);
              none = ap (λ (v : WorldState D). v.history) go.is;
              kept = kept_now go.none_behind;
              tell = λ t. subst (λ (v : WorldState D). AllTell seen v) (sym go.is) (tell (c.tell t));
              counted = subst (λ (xs : List kept.Entry). AreCounted later (c.gone.history ++ xs)) entries (count c.gone.history c.counted);
            } where
              kept_now : (end.gone.messages ≡ new.gone.messages) ⊎ (end.gone.messages ≤ places) → end.gone.messages ≤ places_settled after
              kept_now (inl same) = omega (arith, same, ap (λ (x : LetGo). x.messages) k.gone, c.kept, grows)
              kept_now (inr few) = omega (arith, few, is)

        -- the history grew by one entry
        pub smaller : (end : WorldState D) (places : ℕ) → LetsGo places new end → most_history_entries - (end.gone.entries + length end.history) < most_history_entries - (w.gone.entries + length w.history)
        smaller end places go =
            let entries : end.gone.entries ≡ new.gone.entries + length new.history = ap (λ (v : WorldState D). v.gone.entries) go.is in
            let none : length end.history ≡ 0 = ap (λ (v : WorldState D). length v.history) go.is in
            omega (arith, entries, none, went.1, safe_new.entries, c.is.entries, is_new.entries, length-append c.gone.history new.history, length-append c.gone.history w.history)

      -- ---- the end

      -- nothing more was told
      still : TellsNothing (whole c.gone w) (whole c.gone new) → AreCounted counts (c.gone.history ++ new.history)
      still nothing = subst (AreCounted counts) (sym (nothing.history ∙ (ap (λ (es : List kept.Entry). c.gone.history ++ es) c.none ∙ append-nil c.gone.history))) c.counted

      pub counted_all : GoesSoSince seen may_leave faults limit w new schedule after played.All → IsCounted seen may_leave faults limit s tells (record { world = new; ended = ended.All; counts = counts })
      counted_all goes =
          let went = goes c.gone c.is c.way in
          subst (λ (x : Script). IsCounted seen may_leave faults limit x tells (record { world = new; ended = ended.All; counts = counts })) c.script
          (record { gone = c.gone; is = is_new; world = went.0.0; ended = (went.1.0, λ t. (tell (c.tell t), went.1.1 (tell (c.tell t)))); counted = still went.0.1 })

      pub counted_first : GoesSoSince seen may_leave faults limit w new schedule after played.Limit → IsCounted seen may_leave faults limit s tells (record { world = new; ended = ended.Limit; counts = counts })
      counted_first goes =
          let went = goes c.gone c.is c.way in
          subst (λ (x : Script). IsCounted seen may_leave faults limit x tells (record { world = new; ended = ended.Limit; counts = counts })) c.script
          (record { gone = c.gone; is = is_new; world = went.0.0; ended = (went.1.0, (went.1.1.0, λ t. (tell (c.tell t), went.1.1.1 (tell (c.tell t))))); counted = still went.0.1 })

      pub counted_some : GoesSoSince seen may_leave faults limit w new schedule after played.OutOfMemory → IsCounted seen may_leave faults limit s tells (record { world = new; ended = ended.OutOfMemory; counts = counts })
      counted_some goes =
          let went = goes c.gone c.is c.way in
          subst (λ (x : Script). IsCounted seen may_leave faults limit x tells (record { world = new; ended = ended.OutOfMemory; counts = counts })) c.script
          (record { gone = c.gone; is = is_new; world = went.0.0; ended = λ t. (tell (c.tell t), went.1 (tell (c.tell t))); counted = still went.0.1 })
