-- How the run of a made script ends, by how its parts end.
use Rattle.std.specs.Prelude.{◌≡◌, ◌≤◌, ◌<◌, ◌⊎◌, ℕ, ◌+◌, List, ◌++◌, length, map, false, Option, Some, None, Result, Ok, Err, OnOk, OnErr}
use Rattle.std.proofs.Common.{refl, ap, sym, subst, ◌∙◌, inl, inr, arith}
use Rattle.afs_num.specs.declared.devices.Failed as bank
use Rattle.spec_history.specs.declared.scripts.Script.{Script}
use Rattle.afs_disk.specs.Disk.{Rose}
use Rattle.afs_disk.specs.declared.bank.Lend.{Lend}
use Rattle.afs_disk.specs.declared.disks.Lent.{Lent}
use Rattle.afs_outside.specs.Outside.{AppendsFront, Puts}
use Rattle.afs_outside.specs.declared.outside.Failed.{Failed}
use Rattle.spec_runs.specs.NodeRuns.{bare_entry, CellInput, NodeCell}
use Rattle.afs_text.specs.Telling.{entries_as_told}
use Rattle.afs_command.specs.Spans.{span, IsUnchanged, RoseBy, Span}
use Rattle.afs_command.specs.declared.statuses.Status.{Status}
use Rattle.afs_command.specs.declared.statuses.Status.TheVariants as statuses
use Rattle.afs_lending.specs.Lending.{with_faults, AreUnused, GivesBackBut, GoBack}
use Rattle.afs_lending.specs.Outside.{Outside, Writes, WritesAll, WritesWhole}
use Rattle.afs_lending.specs.Parts.{returned}
use Rattle.afs_lending.proofs.Written.{rose_outside}
use Rattle.afs_summary.specs.Counting.{counts_kept, counts_of, AreCounted}
use Rattle.afs_summary.specs.Summary.{kept_summary, summary, summary_text}
use Rattle.afs_summary.specs.declared.counts.Counts.{Counts}
use Rattle.afs_summary.specs.declared.summary.Summary.{Summary}
use Rattle.afs_summary.proofs.Counted.{bare_counts, told_counts}
use Rattle.afs_cell.specs.Lends.{disks_of}
use Rattle.afs_cell.specs.Replays.{no_other, AreOfNodes, IsFew, MissedByTheBank, NoneIsMissing, SetUpLeaves, ToItsEnd}
use Rattle.afs_cell.specs.Ends.{AreAllLeft, IsRefused}
use Rattle.afs_cell.specs.Refusing.{set_up_status}
use Rattle.afs_cell.specs.Since.{whole, IsWorldSince, StandsSince}
use Rattle.afs_cell.specs.declared.faults.SetupFault.{SetupFault}
use Rattle.afs_cell.specs.declared.faults.SetupFault.TheVariants as setup
use Rattle.afs_cell.specs.Steps.{HasPlayedAll, HasPlayedSome}
use Rattle.afs_cell.specs.Worlds.{AllTell, IsSafe, IsWorld, Runs, WorldState}
use Rattle.afs_cell.specs.Writing.{world_text}
use Rattle.afs_cell.proofs.Ended.{all_played, entries_of, lent_rose, missed, setting_up_fails, setting_up_stops, stopped, was_cut, GoesBack, HasEnded}
use Rattle.afs_cell.proofs.LentCounts.{rose_once}
use Rattle.afs_cell.proofs.RunEnds.{given_so, is_run, left_so, Missing}
use Rattle.afs_cell.specs.Counted.{EndsAs, Finishes, FinishesBy, IsCounted, IsLeftBehind, Sums, SumsUp}
use Rattle.afs_cell.specs.Made.{unseen, AtDone, AtWriteFault, EndsRunMade, IsSummed, ReturningFails, SumsEntries}
use Rattle.afs_cell.specs.declared.made.Counted.{Counted}
use Rattle.afs_cell.specs.declared.made.Ended.{Ended}
use Rattle.afs_cell.specs.declared.made.Ended.TheVariants as ended

-- ---- the summary is written, and the disks go back

-- it was written and passed on
pub sums_done : {T : Type 0} (text : List ℕ) (a b passed : Option (List ℕ)) (f g : ℕ) (r : Result T Failed) (v : T) → r ≡ Ok v → OnOk r (passed ≡ b) → Puts text a b f g r → Sums text (span a b) passed (span f g) statuses.Done
sums_done text a b passed f g (Ok w) v is all p = (p.whole, (all, p.cause.quiet))
sums_done text a b passed f g (Err e) v is all p = absurd cc

-- or a beginning of it
pub sums_front : {T : Type 0} (text : List ℕ) (a b passed : Option (List ℕ)) (f g : ℕ) (r : Result T Failed) (e : Failed) → r ≡ Err e → Puts text a b f g r → Sums text (span a b) passed (span f g) statuses.WriteFault
sums_front text a b passed f g (Ok v) e is p = absurd cc
sums_front text a b passed f g (Err x) e is p = (rose_outside f g p.cause.cause, p.front)

pub summed : {D : Type 0} (seen : D → Option (List ℕ)) (w : WorldState D) (text : List ℕ) (o : Outside) (disks : List (Lent D)) (told result : Status) (taken : Result (Unit {0}) bank.Failed) → disks ≡ disks_of w → Sums text o.sink o.passed o.sink_faults told
    → OnOk taken (GivesBackBut seen 0 disks o.given.before o.given.after) → OnOk taken (o.bank_faults.after ≡ o.bank_faults.before) → OnErr taken (Rose o.bank_faults.before o.bank_faults.after) → o.bank_faults.before ≤ o.bank_faults.after
    → result ≡ returned told taken → SumsUp seen w text o result
summed {D} seen w text o disks told result taken are sums all quiet cause falls is =
    subst (λ (x : Status). SumsUp seen w text o x) (sym is) (by told taken sums (subst (λ (ls : List (Lent D)). OnOk taken (GivesBackBut seen 0 ls o.given.before o.given.after)) are all) quiet cause) where
      by : (told : Status) (taken : Result (Unit {0}) bank.Failed) → Sums text o.sink o.passed o.sink_faults told → OnOk taken (GivesBackBut seen 0 (disks_of w) o.given.before o.given.after)
          → OnOk taken (o.bank_faults.after ≡ o.bank_faults.before) → OnErr taken (Rose o.bank_faults.before o.bank_faults.after) → SumsUp seen w text o (returned told taken)
      by statuses.Done (Ok u) sums all quiet cause = (sums, (quiet, all))
      by statuses.Done (Err f) sums all quiet cause = (rose_once o.bank_faults.before o.bank_faults.after cause falls, sums)
      by statuses.WriteFault taken sums all quiet cause = sums
      by statuses.Usage taken sums all quiet cause = absurd sums
      by (statuses.Script line reason) taken sums all quiet cause = absurd sums
      by statuses.ReadFault taken sums all quiet cause = absurd sums
      by statuses.BankFault taken sums all quiet cause = absurd sums
      by statuses.OutOfMemory taken sums all quiet cause = absurd sums
      by statuses.Limit taken sums all quiet cause = absurd sums

-- the disks that a world hands out at its end went back
pub left_behind : {D : Type 0} (seen : D → Option (List ℕ)) (may_leave : D → List ℕ → Type 0) (faults limit : D → ℕ) (w : WorldState D) (disks : List (Lent D)) (given : Span (Option (List (ℕ × List ℕ)))) (bank_faults : Span ℕ) (disk_faults : ℕ → Span ℕ) → disks ≡ disks_of w → StandsSince seen may_leave limit w disks
    → GoBack seen disks given.before given.after bank_faults.before bank_faults.after → ((n : ℕ) → (disk_faults n).after ≡ with_faults faults disks n (disk_faults n).before) → bank_faults.before ≤ bank_faults.after → IsLeftBehind seen may_leave faults limit w given bank_faults disk_faults
left_behind {D} seen may_leave faults limit w disks given bank_faults disk_faults are standing back counts falls = record {
  standing = subst (λ (ls : List (Lent D)). StandsSince seen may_leave limit w ls) are standing;
  back = subst (λ (ls : List (Lent D)). GoBack seen ls given.before given.after bank_faults.before bank_faults.after) are back;
  counts = subst (λ (ls : List (Lent D)). (n : ℕ) → (disk_faults n).after ≡ with_faults faults ls n (disk_faults n).before) are counts;
  never_falls = falls;
}

-- ---- what was counted is the history

-- the summary of what a world kept is that of its run
summary_is : {D : Type 0} (seen : D → Option (List ℕ)) (may_leave : D → List ℕ → Type 0) (faults limit : D → ℕ) (number : ℕ) (s : Script) (w : WorldState D) (inputs : List CellInput) (end : NodeCell) → IsWorld seen may_leave faults limit s w → (runs : Runs seen may_leave faults limit s w inputs end)
    → kept_summary number s w.history ≡ summary number s runs.history
summary_is {D} seen may_leave faults limit number s w inputs end is runs =
    ap (λ (c : Counts). summary_text (record { number = number; acts = length s.tasks; counts = c }))
    (sym (told_counts w.wire w.history runs.read is.safe.sent) ∙ bare_counts bare_entry (λ e. refl) runs.history (entries_as_told w.wire w.history) runs.tells)

-- ---- the ends

abbrev All : {D : Type 0} → (D → Option (List ℕ)) → (D → List ℕ → Type 0) → (D → ℕ) → (D → ℕ) → Script → WorldState D → Type 0
All {D} seen may_leave faults limit s w = AllTell seen w × HasPlayedAll seen may_leave faults limit s w

-- played to its end, and not read
is_summed : {D : Type 0} (seen : D → Option (List ℕ)) (may_leave : D → List ℕ → Type 0) (faults limit : D → ℕ) (number : ℕ) (s : Script) (w : WorldState D) (Writes : List ℕ → Type 0) (MayBeMissing : ℕ → Type 0) (o : Outside)
    → HasEnded seen may_leave faults limit s w → Writes (kept_summary number s w.history) → GoesBack seen faults (disks_of w) o → Missing MayBeMissing seen (disks_of w) o.given.before o.given.after → All seen may_leave faults limit s w → IsSummed number s Writes MayBeMissing o
is_summed {D} seen may_leave faults limit number s w Writes MayBeMissing o is written back missing p =
    let cell = p.1.runs.cell_is is.going in
    let left = left_so seen may_leave limit w p.1.cell cell p.0 (is.standing p.0 p.1.cell cell) in
    record {
      history = p.1.runs.history;
      end = p.1.cell;
      run = is_run seen may_leave faults limit (ToItsEnd s) no_other s w o.disk_faults is.world.safe.entries p.1 (lent_rose seen may_leave faults limit s w p.1.inputs p.1.cell o is.world p.1.runs back);
      kept = left.0;
      keep = left.1.keep;
      loc = left.1.loc;
      keep_loc = left.1.keep_loc;
      written = subst Writes (summary_is seen may_leave faults limit number s w p.1.inputs p.1.cell is.world p.1.runs) written;
      given = given_so MayBeMissing seen p.1.cell left.0 (disks_of w) o.given.before o.given.after left.1 missing;
    }

module _ {D : Type 0} (seen : D → Option (List ℕ)) (may_leave : D → List ℕ → Type 0) (faults limit : D → ℕ) (number : ℕ) (s : Script) (tells tells_too left : Type 0) (c : Counted (WorldState D)) (o : Outside) (played : Script) (same : played ≡ s) (is_counted : IsCounted seen may_leave faults limit played tells c) (tell : tells_too → tells)
    (standing : StandsSince seen may_leave limit c.world (disks_of c.world)) (back : GoesBack seen faults (disks_of c.world) o) where
  counted : IsCounted seen may_leave faults limit s tells c
  counted = subst (λ (x : Script). IsCounted seen may_leave faults limit x tells c) same is_counted

  -- the whole world
  abbrev world : WorldState D
  world = whole counted.gone c.world

  ends_as : (e : Ended) → c.ended ≡ e → EndsAs seen may_leave faults limit s tells e world
  ends_as e is = subst (λ (x : Ended). EndsAs seen may_leave faults limit s tells x world) is counted.ended

  safe : IsSafe limit c.world.script world
  safe = subst (λ (x : Script). IsSafe limit x world) (sym counted.world.safe.script) counted.world.safe

  has_ended : c.world.is_lost ≡ false → HasEnded seen may_leave faults limit s world
  has_ended going = record {
    world = counted.world;
    going = going;
    standing = λ told cell is. standing going counted.gone counted.is safe cell is;
  }

  goes : GoesBack seen faults (disks_of world) o
  goes = record { back = back.back; counts = back.counts; never_falls = back.never_falls }

  goes_unseen : GoesBack seen faults (disks_of world) (unseen o)
  goes_unseen = record { back = back.back; counts = back.counts; never_falls = back.never_falls }

  -- the text that the world's entries have
  abbrev told_text : List ℕ
  told_text = world_text false world

  written_nowhere : (text : List ℕ) → Writes (unseen o) text
  written_nowhere text = inl (tt, (refl, refl))

  -- what was counted was written
  ends_summed : (counts : Counts) (status : Status) → c.ended ≡ ended.All → c.counts ≡ Some counts → SumsUp seen c.world (summary_text (record { number = number; acts = length s.tasks; counts = counts })) o status → EndsRunMade number s tells_too left o status
  ends_summed counts status is some sums = by status sums where
    text_is : summary_text (record { number = number; acts = length s.tasks; counts = counts }) ≡ kept_summary number s world.history
    text_is = ap (λ (x : Counts). summary_text (record { number = number; acts = length s.tasks; counts = x })) (subst (λ (x : Option Counts). AreCounted x world.history) some counted.counted)

    over : HasEnded seen may_leave faults limit s world
    over = has_ended (ends_as ended.All is).0

    all : tells_too → AllTell seen world × HasPlayedAll seen may_leave faults limit s world
    all told = (ends_as ended.All is).1 (tell told)

    entries : (Writes : List ℕ → Type 0) → Writes (summary_text (record { number = number; acts = length s.tasks; counts = counts })) → SumsEntries number s Writes
    entries Writes w = record { entries = world.history; few = counted.world.safe.entries; written = subst Writes text_is w }

    whole_run : (Writes : List ℕ → Type 0) (MayBeMissing : ℕ → Type 0) → Writes (summary_text (record { number = number; acts = length s.tasks; counts = counts })) → Missing MayBeMissing seen (disks_of world) o.given.before o.given.after → tells_too → IsSummed number s Writes MayBeMissing o
    whole_run Writes MayBeMissing w missing told = is_summed seen may_leave faults limit number s world Writes MayBeMissing o over (subst Writes text_is w) goes missing (all told)

    by : (status : Status) → SumsUp seen c.world (summary_text (record { number = number; acts = length s.tasks; counts = counts })) o status → EndsRunMade number s tells_too left o status
    by statuses.Done sums = record { quiet = sums.1.0; written = entries (WritesAll o) sums.0; told = whole_run (WritesAll o) NoneIsMissing sums.0 (0, (sums.1.1, refl)) }
    by statuses.WriteFault sums = record { rose = sums.0; written = entries (AppendsFront o.sink.before o.sink.after) sums.1; told = whole_run (AppendsFront o.sink.before o.sink.after) (MissedByTheBank o) sums.1 (missed seen faults (disks_of world) o goes) }
    by statuses.BankFault sums = inr (record { rose = sums.0; written = entries (WritesAll o) sums.1; told = whole_run (WritesAll o) (MissedByTheBank o) sums.1 (missed seen faults (disks_of world) o goes) })
    by statuses.Usage sums = absurd sums
    by (statuses.Script line reason) sums = absurd sums
    by statuses.ReadFault sums = absurd sums
    by statuses.OutOfMemory sums = absurd sums
    by statuses.Limit sums = absurd sums

  -- memory ran out, whatever was played by then
  stops : (status : Status) → (tells → AllTell seen world × HasPlayedSome seen may_leave faults limit s world) → IsUnchanged o.sink → status ≡ statuses.OutOfMemory → EndsRunMade number s tells_too left o status
  stops status part unwritten is =
      subst (λ (x : Status). EndsRunMade number s tells_too left o x) (sym is) (
        unwritten,
        inr (record {
          written = entries_of seen may_leave faults limit s world IsFew false (unseen o) counted.world counted.world.safe.entries (written_nowhere told_text);
          told = λ x. stopped seen may_leave faults limit s world false (unseen o) counted.world (written_nowhere told_text) goes_unseen (part (tell x));
        }),
      )

  ends_stopped : (status : Status) → c.ended ≡ ended.OutOfMemory → IsUnchanged o.sink → status ≡ statuses.OutOfMemory → EndsRunMade number s tells_too left o status
  ends_stopped status is unwritten are = stops status (ends_as ended.OutOfMemory is) unwritten are

  -- all was played, but a number was too long
  ends_uncounted : (status : Status) → c.ended ≡ ended.All → IsUnchanged o.sink → status ≡ statuses.OutOfMemory → EndsRunMade number s tells_too left o status
  ends_uncounted status is unwritten are = stops status (λ t. all_played seen may_leave faults limit s world ((ends_as ended.All is).1 t)) unwritten are

  -- its history was full before its end
  ends_cut : (status : Status) → c.ended ≡ ended.Limit → IsUnchanged o.sink → status ≡ statuses.Limit → EndsRunMade number s tells_too left o status
  ends_cut status is unwritten are =
      let ends = ends_as ended.Limit is in
      let cut = was_cut seen may_leave faults limit s world false (unseen o) (has_ended ends.0) ends.1.0 (written_nowhere told_text) goes_unseen in
      subst (λ (x : Status). EndsRunMade number s tells_too left o x) (sym are) (unwritten, record { written = cut.written; told = λ x. cut.told (ends.1.1 (tell x)) })

  -- by what was done
  pub ends_by : (status : Status) → Finishes seen number (length s.tasks) c o status → EndsRunMade number s tells_too left o status
  ends_by status done = by c.ended c.counts refl refl done where
    by : (e : Ended) (counts : Option Counts) → c.ended ≡ e → c.counts ≡ counts → FinishesBy seen number (length s.tasks) c.world e counts o status → EndsRunMade number s tells_too left o status
    by ended.All (Some counts) is some done = ends_summed counts status is some done
    by ended.All None is none done = ends_uncounted status is done.0 done.1
    by ended.Limit counts is are done = ends_cut status is done.0 done.1
    by ended.OutOfMemory counts is are done = ends_stopped status is done.0 done.1

-- ---- what is done at an end

module _ {D : Type 0} (seen : D → Option (List ℕ)) (number acts : ℕ) (c : Counted (WorldState D)) (o : Outside) (status : Status) where
  finishes_as : (e : Ended) (counts : Option Counts) → c.ended ≡ e → c.counts ≡ counts → FinishesBy seen number acts c.world e counts o status → Finishes seen number acts c o status
  finishes_as e counts is are done =
      subst (λ (x : Ended). FinishesBy seen number acts c.world x c.counts o status) (sym is) (subst (λ (x : Option Counts). FinishesBy seen number acts c.world e x o status) (sym are) done)

  pub finishes_summed : (counts : Counts) (written : Summary) → c.ended ≡ ended.All → c.counts ≡ Some counts → written ≡ record { number = number; acts = acts; counts = counts } → SumsUp seen c.world (summary_text written) o status → Finishes seen number acts c o status
  finishes_summed counts written is are same sums = finishes_as ended.All (Some counts) is are (subst (λ (x : Summary). SumsUp seen c.world (summary_text x) o status) same sums)

  pub finishes_uncounted : c.ended ≡ ended.All → c.counts ≡ None → IsUnchanged o.sink → status ≡ statuses.OutOfMemory → Finishes seen number acts c o status
  finishes_uncounted is are unwritten stops = finishes_as ended.All None is are (unwritten, stops)

  pub finishes_cut : c.ended ≡ ended.Limit → IsUnchanged o.sink → status ≡ statuses.Limit → Finishes seen number acts c o status
  finishes_cut is unwritten stops = finishes_as ended.Limit c.counts is refl (unwritten, stops)

  pub finishes_stopped : c.ended ≡ ended.OutOfMemory → IsUnchanged o.sink → status ≡ statuses.OutOfMemory → Finishes seen number acts c o status
  finishes_stopped is unwritten stops = finishes_as ended.OutOfMemory c.counts is refl (unwritten, stops)

-- ---- a set-up that failed

pub ends_refused : {D : Type 0} (seen : D → Option (List ℕ)) (may_leave : D → List ℕ → Type 0) (faults : D → ℕ) (number : ℕ) (s : Script) (tells : Type 0) (disks : List (Lent D)) (fault : SetupFault) (back : List (Lent D)) (o : Outside) (result status : Status)
    → AreUnused faults disks → IsRefused faults 0 disks (fault, back) → AreAllLeft seen may_leave s disks back → AreOfNodes 0 back × (length back ≡ s.servers + 1) → IsUnchanged o.sink → GoesBack seen faults back o → result ≡ status → status ≡ set_up_status fault → EndsRunMade number s tells (SetUpLeaves seen may_leave faults s o) o result
ends_refused {D} seen may_leave faults number s tells disks (setup.Disk n) back o result status unused refused left whose unwritten goes is meant =
    subst (λ (x : Status). EndsRunMade number s tells (SetUpLeaves seen may_leave faults s o) o x) (sym (is ∙ meant)) (inl (setting_up_fails seen may_leave faults s disks n back o unused refused left whose unwritten goes))
ends_refused {D} seen may_leave faults number s tells disks setup.OutOfMemory back o result status unused refused left whose unwritten goes is meant =
    let stops = setting_up_stops seen may_leave faults s disks back o unused refused left whose unwritten goes in
    subst (λ (x : Status). EndsRunMade number s tells (SetUpLeaves seen may_leave faults s o) o x) (sym (is ∙ meant)) (unwritten, inl (record { quiet = stops.quiet; written = refl; only_set_up = stops.only_set_up }))

-- ---- seen from before the lends, which changed nothing that is told

abbrev Given : Type 0
Given = Option (List (ℕ × List ℕ))

pub goes_lent : {D : Type 0} (seen : D → Option (List ℕ)) (faults : D → ℕ) (ls : List (Lent D)) (sink : Span (Option (List ℕ))) (passed : Option (List ℕ)) (sink_faults : Span ℕ) (lends : Span (Option (List Lend))) (g0 g1 g2 : Given) (b0 b1 b2 : ℕ) (d0 d1 d2 : ℕ → ℕ)
    → g1 ≡ g0 → b1 ≡ b0 → ((n : ℕ) → d1 n ≡ d0 n) → GoBack seen ls g1 g2 b1 b2 → ((n : ℕ) → d2 n ≡ with_faults faults ls n (d1 n)) → b1 ≤ b2
    → GoesBack seen faults ls (record { sink = sink; passed = passed; lends = lends; given = span g0 g2; sink_faults = sink_faults; bank_faults = span b0 b2; disk_faults = λ (n : ℕ). span (d0 n) (d2 n) })
goes_lent {D} seen faults ls sink passed sink_faults lends g0 g1 g2 b0 b1 b2 d0 d1 d2 given quiet counts back counted falls = record {
  back = subst (λ (x : Given). GoBack seen ls x g2 b0 b2) given (subst (λ (y : ℕ). GoBack seen ls g1 g2 y b2) quiet back);
  counts = λ n. counted n ∙ ap (with_faults faults ls n) (counts n);
  never_falls = subst (λ (y : ℕ). y ≤ b2) quiet falls;
}

-- what a world left behind went back
pub behind_lent : {D : Type 0} (seen : D → Option (List ℕ)) (may_leave : D → List ℕ → Type 0) (faults limit : D → ℕ) (w : WorldState D) (sink : Span (Option (List ℕ))) (passed : Option (List ℕ)) (sink_faults : Span ℕ) (lends : Span (Option (List Lend))) (g0 g1 g2 : Given) (b0 b1 b2 : ℕ) (d0 d1 d2 : ℕ → ℕ)
    → g1 ≡ g0 → b1 ≡ b0 → ((n : ℕ) → d1 n ≡ d0 n) → IsLeftBehind seen may_leave faults limit w (span g1 g2) (span b1 b2) (λ (n : ℕ). span (d1 n) (d2 n))
    → GoesBack seen faults (disks_of w) (record { sink = sink; passed = passed; lends = lends; given = span g0 g2; sink_faults = sink_faults; bank_faults = span b0 b2; disk_faults = λ (n : ℕ). span (d0 n) (d2 n) })
behind_lent {D} seen may_leave faults limit w sink passed sink_faults lends g0 g1 g2 b0 b1 b2 d0 d1 d2 given quiet counts left =
    goes_lent seen faults (disks_of w) sink passed sink_faults lends g0 g1 g2 b0 b1 b2 d0 d1 d2 given quiet counts left.back left.counts left.never_falls

-- and so did what was done
module _ {D : Type 0} (seen : D → Option (List ℕ)) (c : Counted (WorldState D)) (sink : Span (Option (List ℕ))) (passed : Option (List ℕ)) (sink_faults : Span ℕ) (lends lends_too : Span (Option (List Lend))) (g0 g1 g2 : Given) (b0 b1 b2 : ℕ) (d d_too : ℕ → Span ℕ) (given : g1 ≡ g0) (quiet : b1 ≡ b0) where
  -- since the lends, and since before them
  abbrev since_lent : Outside
  since_lent = record { sink = sink; passed = passed; lends = lends; given = span g1 g2; sink_faults = sink_faults; bank_faults = span b1 b2; disk_faults = d }

  abbrev since : Outside
  since = record { sink = sink; passed = passed; lends = lends_too; given = span g0 g2; sink_faults = sink_faults; bank_faults = span b0 b2; disk_faults = d_too }

  sums_lent : (text : List ℕ) (status : Status) → SumsUp seen c.world text since_lent status → SumsUp seen c.world text since status
  sums_lent text statuses.Done up = (up.0, (up.1.0 ∙ quiet, subst (λ (x : Given). GivesBackBut seen 0 (disks_of c.world) x g2) given up.1.1))
  sums_lent text statuses.WriteFault up = up
  sums_lent text statuses.BankFault up = (subst (λ (y : ℕ). RoseBy 1 (span y b2)) quiet up.0, up.1)
  sums_lent text statuses.Usage up = absurd up
  sums_lent text (statuses.Script line reason) up = absurd up
  sums_lent text statuses.ReadFault up = absurd up
  sums_lent text statuses.OutOfMemory up = absurd up
  sums_lent text statuses.Limit up = absurd up

  pub finishes_lent : (number acts : ℕ) (status : Status) → Finishes seen number acts c since_lent status → Finishes seen number acts c since status
  finishes_lent number acts status done = by c.ended c.counts done where
    by : (e : Ended) (counts : Option Counts) → FinishesBy seen number acts c.world e counts since_lent status → FinishesBy seen number acts c.world e counts since status
    by ended.All (Some counts) done = sums_lent (summary_text (record { number = number; acts = acts; counts = counts })) status done
    by ended.All None done = done
    by ended.Limit counts done = done
    by ended.OutOfMemory counts done = done

-- a world that was counted, together with what was let go of it
pub world_since : {D : Type 0} (seen : D → Option (List ℕ)) (may_leave : D → List ℕ → Type 0) (faults limit : D → ℕ) (s : Script) (tells : Type 0) (c : Counted (WorldState D)) → IsCounted seen may_leave faults limit s tells c → IsWorldSince seen may_leave faults limit c.world
world_since {D} seen may_leave faults limit s tells c counted = record {
  before = counted.gone;
  is = counted.is;
  world = subst (λ (x : Script). IsWorld seen may_leave faults limit x (whole counted.gone c.world)) (sym counted.world.safe.script) counted.world;
}
