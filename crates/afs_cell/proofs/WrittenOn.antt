-- A script is played, and its history is written as it goes.
use Rattle.std.specs.Prelude.{◌≡◌, ◌≤◌, ◌<◌, ◌⊎◌, ℕ, ◌+◌, ◌-◌, List, [], ◌++◌, length, drop, Bool, Option, Result, Ok}
use Rattle.std.proofs.Common.{refl, ap, ap₂, sym, subst, ◌∙◌, inl, inr, append_assoc, append-nil, arith}
use Rattle.std.proofs.Math.Seq.{drop-append-add}
use Rattle.std.proofs.lemmas.List.{length-append}
use Rattle.afs_num.specs.declared.types.Parcel.{Parcel}
use Rattle.spec_history.specs.declared.lines.Entry as kept
use Rattle.spec_history.specs.declared.scripts.Script.{Script}
use Rattle.afs_outside.specs.Outside.{Puts}
use Rattle.afs_outside.specs.declared.outside.Failed.{Failed}
use Rattle.afs_outside.proofs.Puts.{puts_nothing}
use Rattle.afs_schedule.specs.Schedules.{events_of}
use Rattle.afs_schedule.specs.Settled.{places_settled}
use Rattle.afs_schedule.specs.Taking.{IsLeft}
use Rattle.afs_schedule.specs.declared.schedule.Schedule.{Schedule}
use Rattle.afs_text.specs.KeptText.{kept_entries_text, kept_history_text}
use Rattle.afs_text.specs.Telling.{sent_by}
use Rattle.afs_text.proofs.Split.{history_goes_on}
use Rattle.afs_cell.specs.Since.{whole, IsBefore, Keeps, LetsGo}
use Rattle.afs_cell.specs.Steps.{IsFirst, TellsNothing}
use Rattle.afs_cell.specs.UnderWay.{GoesSo, IsUnderWay}
use Rattle.afs_cell.specs.UnderWaySince.{GoesSoSince, IsUnderWaySince}
use Rattle.afs_cell.specs.Worlds.{most_history_entries, none_gone, AllTell, HistoryTold, IsSafe, IsWorld, LetGo, WorldState}
use Rattle.afs_cell.specs.declared.playing.Played.TheVariants as played
use Rattle.afs_cell.proofs.UnderWay.{begins}
use Rattle.afs_cell.proofs.Whole.{before_more, sent_by-append, whole_more, with_more}
use Rattle.afs_cell.specs.Writing.{world_text, HistoryIsWritten, PlaysOn}
use Rattle.afs_lending.specs.Behind.{PutsBehind}
use Rattle.afs_cell.specs.declared.writing.Ended.TheVariants as ended

-- ---- the text of the whole world

drop_behind : {A : Type 0} (n m : ℕ) (xs ys : List A) → n ≡ length xs + m → drop n (xs ++ ys) ≡ drop m ys
drop_behind {A} n m xs ys e = ap (λ (k : ℕ). drop k (xs ++ ys)) e ∙ drop-append-add xs ys m

-- it goes on with the entries that weren't let go, and with what was sent since
pub text_goes_on : {D : Type 0} (wire : Bool) (b : HistoryTold) (w new : WorldState D) → IsBefore b w → sent_by (b.history ++ w.history) ≡ length (b.wire ++ w.wire) → w.history ≡ [] → (k : Keeps w new)
    → world_text wire (whole b w) ++ kept_entries_text wire (new.gone.entries + 1) (new.gone.sent + 1) (drop (new.gone.sent - new.gone.messages) new.wire) new.history ≡ world_text wire (whole b new)
text_goes_on {D} wire b w new before all none k =
    let entries : new.gone.entries ≡ length b.history = ap (λ (g : LetGo). g.entries) k.gone ∙ sym before.entries in
    let sent : new.gone.sent ≡ sent_by b.history = ap (λ (g : LetGo). g.sent) k.gone ∙ sym before.sent in
    let messages : new.gone.messages ≡ length b.wire = ap (λ (g : LetGo). g.messages) k.gone ∙ sym before.messages in
    let told : length b.wire ≤ sent_by b.history = omega (arith, before.told, before.messages, before.sent) in
    let enough : sent_by b.history ≤ length (b.wire ++ w.wire) = omega (arith, all, sent_by-append b.history w.history) in
    let numbers : new.gone.entries + 1 ≡ 1 + length b.history = omega (arith, entries) in
    let places : new.gone.sent + 1 ≡ 1 + sent_by b.history = omega (arith, sent) in
    let wires : b.wire ++ new.wire ≡ (b.wire ++ w.wire) ++ k.sent = ap (λ (ps : List Parcel). b.wire ++ ps) k.wire ∙ sym (append_assoc b.wire w.wire k.sent) in
    let behind : drop (sent_by b.history) (b.wire ++ new.wire) ≡ drop (new.gone.sent - new.gone.messages) new.wire = drop_behind (sent_by b.history) (new.gone.sent - new.gone.messages) b.wire new.wire (omega (arith, sent, messages, told)) in
    let before_text : world_text wire (whole b w) ≡ kept_history_text wire (b.wire ++ w.wire) b.history = ap (λ (es : List kept.Entry). kept_history_text wire (b.wire ++ w.wire) (b.history ++ es)) none ∙ ap (λ (es : List kept.Entry). kept_history_text wire (b.wire ++ w.wire) es) (append-nil b.history) in
    ap (λ (t : List ℕ). t ++ kept_entries_text wire (new.gone.entries + 1) (new.gone.sent + 1) (drop (new.gone.sent - new.gone.messages) new.wire) new.history) before_text
    ∙ (ap₂ (λ (n p : ℕ). kept_history_text wire (b.wire ++ w.wire) b.history ++ kept_entries_text wire n p (drop (new.gone.sent - new.gone.messages) new.wire) new.history) numbers places
    ∙ (ap (λ (ps : List Parcel). kept_history_text wire (b.wire ++ w.wire) b.history ++ kept_entries_text wire (1 + length b.history) (1 + sent_by b.history) ps new.history)
    (sym behind ∙ ap (λ (ps : List Parcel). drop (sent_by b.history) ps) wires)
    ∙ (sym (history_goes_on wire (b.wire ++ w.wire) k.sent b.history new.history enough) ∙ ap (λ (ps : List Parcel). kept_history_text wire ps (b.history ++ new.history)) (sym wires))))

before_kept : {D : Type 0} (b : HistoryTold) (w new : WorldState D) → IsBefore b w → Keeps w new → IsBefore b new
before_kept {D} b w new before k = record {
  entries = before.entries ∙ sym (ap (λ (g : LetGo). g.entries) k.gone);
  sent = before.sent ∙ sym (ap (λ (g : LetGo). g.sent) k.gone);
  messages = before.messages ∙ sym (ap (λ (g : LetGo). g.messages) k.gone);
  told = subst (λ (g : LetGo). g.messages ≤ g.sent) (sym k.gone) before.told;
}

-- ---- the beginning

none_before : HistoryTold
none_before = record { wire = []; history = [] }

whole_none : {D : Type 0} (w : WorldState D) → w.gone ≡ none_gone → whole none_before w ≡ w
unfolding none_before
whole_none {D} w none = ap (λ (g : LetGo). record w { gone = g }) (sym none)

none_is : {D : Type 0} (w : WorldState D) → w.gone ≡ none_gone → IsBefore none_before w
unfolding none_before
none_is {D} w none = record {
  entries = sym (ap (λ (g : LetGo). g.entries) none);
  sent = sym (ap (λ (g : LetGo). g.sent) none);
  messages = sym (ap (λ (g : LetGo). g.messages) none);
  told = subst (λ (g : LetGo). g.messages ≤ g.sent) (sym none) (omega (arith));
}

none_written : (wire : Bool) (ps : List Parcel) (es : List kept.Entry) (a : Option (List ℕ)) (f : ℕ) → es ≡ [] → Puts {T = Unit {0}} (kept_history_text wire ps es) a a f f (Ok tt)
unfolding kept_history_text
none_written wire ps es a f none = subst (λ (xs : List kept.Entry). Puts {T = Unit {0}} (kept_history_text wire ps xs) a a f f (Ok tt)) (sym none) (puts_nothing a f tt)

module _ {D : Type 0} (seen : D → Option (List ℕ)) (may_leave : D → List ℕ → Type 0) (faults limit : D → ℕ) (wire : Bool) where
  pub begins_on : (w : WorldState D) (schedule : Schedule) (a : Option (List ℕ)) (f : ℕ) → IsWorld seen may_leave faults limit w.script w → IsFirst seen may_leave limit w.script w → IsLeft schedule (events_of w.script) []
      → PlaysOn seen may_leave faults limit w.script wire (AllTell seen w) a a f f w schedule (Ok tt)
  begins_on w schedule a f world first left =
      let same = whole_none w first.gone in
      record {
        script = refl;
        gone = none_before;
        is = none_is w first.gone;
        way = subst (λ (v : WorldState D). IsUnderWay seen may_leave faults limit w.script v schedule) (sym same) (begins seen may_leave faults limit w.script w schedule world first left);
        none = first.history;
        kept = omega (arith, ap (λ (g : LetGo). g.messages) first.gone);
        tell = λ t. t;
        text = subst (λ (v : WorldState D). Puts {T = Unit {0}} (world_text wire v) a a f f (Ok tt)) (sym same) (none_written wire w.wire w.history a f first.history);
      }

  -- ---- one event

  module _ (s : Script) (tells : Type 0) (a b : Option (List ℕ)) (f g : ℕ) (w : WorldState D) (schedule : Schedule) (written : Result (Unit {0}) Failed) (p : PlaysOn seen may_leave faults limit s wire tells a b f g w schedule written) where
    pub way_since : IsUnderWaySince seen may_leave faults limit w schedule
    way_since = record { before = p.gone; is = p.is; way = p.way }

    module _ (new : WorldState D) (after : Schedule) (k : Keeps w new) (tell : AllTell seen w → AllTell seen new) where
      is_new : IsBefore p.gone new
      is_new = before_kept p.gone w new p.is k

      -- what it writes now
      module _ (goes : GoesSoSince seen may_leave faults limit w new schedule after played.Event) where
        went : GoesSo seen may_leave faults limit w.script (whole p.gone w) (whole p.gone new) after played.Event
        went = goes p.gone p.is p.way

        safe_new : IsSafe limit w.script (whole p.gone new)
        safe_new = went.0.world.safe

        pub few_now : new.gone.entries + length new.history ≤ most_history_entries
        few_now = omega (arith, safe_new.entries, is_new.entries, length-append p.gone.history new.history)

        pub all_now : new.gone.sent + sent_by new.history ≡ new.gone.messages + length new.wire
        all_now = omega (arith, safe_new.sent, is_new.sent, is_new.messages, sent_by-append p.gone.history new.history, length-append p.gone.wire new.wire)

        pub plays_on : (c : Option (List ℕ)) (h : ℕ) (later : Result (Unit {0}) Failed)
            → PutsBehind (kept_entries_text wire (new.gone.entries + 1) (new.gone.sent + 1) (drop (new.gone.sent - new.gone.messages) new.wire) new.history) b c g h written later
            → places_settled schedule ≤ places_settled after → (end : WorldState D) (places : ℕ) → places ≡ places_settled after → LetsGo places new end → PlaysOn seen may_leave faults limit s wire tells a c f h end after later
        plays_on c h later puts grows end places is go =
            let script : end.script ≡ w.script = ap (λ (v : WorldState D). v.script) go.is ∙ k.script in
            let same = whole_more p.gone places new end go in
            let safe_here : IsSafe limit new.script (whole p.gone new) = subst (λ (x : Script). IsSafe limit x (whole p.gone new)) (sym k.script) safe_new in
            record {
              script = script ∙ p.script;
              gone = with_more p.gone new go.count;
              is = before_more limit p.gone places new end is_new safe_here go;
              way =
                  subst (λ (x : Script). IsUnderWay seen may_leave faults limit x (whole (with_more p.gone new go.count) end) after) (sym script)
                  (subst (λ (v : WorldState D). IsUnderWay seen may_leave faults limit w.script v after) (sym same) went.0);
              none = ap (λ (v : WorldState D). v.history) go.is;
              kept = kept_now go.none_behind;
              tell = λ t. subst (λ (v : WorldState D). AllTell seen v) (sym go.is) (tell (p.tell t));
              text =
                  subst (λ (v : WorldState D). Puts (world_text wire v) a c f h later) (sym same)
                  (subst (λ (x : List ℕ). Puts x a c f h later) (text_goes_on wire p.gone w new p.is p.way.world.safe.sent p.none k) (puts (world_text wire (whole p.gone w)) a f p.text));
            } where
              kept_now : (end.gone.messages ≡ new.gone.messages) ⊎ (end.gone.messages ≤ places) → end.gone.messages ≤ places_settled after
              kept_now (inl same) = omega (arith, same, ap (λ (x : LetGo). x.messages) k.gone, p.kept, grows)
              kept_now (inr few) = omega (arith, few, is)

        -- the history grew by one entry
        pub smaller : (end : WorldState D) (places : ℕ) → LetsGo places new end → most_history_entries - (end.gone.entries + length end.history) < most_history_entries - (w.gone.entries + length w.history)
        smaller end places go =
            let entries : end.gone.entries ≡ new.gone.entries + length new.history = ap (λ (v : WorldState D). v.gone.entries) go.is in
            let none : length end.history ≡ 0 = ap (λ (v : WorldState D). length v.history) go.is in
            omega (arith, entries, none, went.1, safe_new.entries, p.is.entries, is_new.entries, length-append p.gone.history new.history, length-append p.gone.history w.history)

      -- ---- the end

      text_stays : TellsNothing (whole p.gone w) (whole p.gone new) → Puts (world_text wire (whole p.gone new)) a b f g written
      text_stays nothing = subst (λ (x : List ℕ). Puts x a b f g written) (sym (ap₂ (λ (ps : List Parcel) (es : List kept.Entry). kept_history_text wire ps es) nothing.wire nothing.history)) p.text

      pub told_all : GoesSoSince seen may_leave faults limit w new schedule after played.All → HistoryIsWritten seen may_leave faults limit s wire tells a b f g (record { world = new; ended = ended.All; written = written })
      told_all goes =
          let went = goes p.gone p.is p.way in
          subst (λ (x : Script). HistoryIsWritten seen may_leave faults limit x wire tells a b f g (record { world = new; ended = ended.All; written = written })) p.script
          (record {
            gone = p.gone;
            is = is_new;
            world = went.0.0;
            written = text_stays went.0.1;
            ended = (went.1.0, λ t. (tell (p.tell t), went.1.1 (tell (p.tell t))));
          })

      pub told_first : GoesSoSince seen may_leave faults limit w new schedule after played.Limit → HistoryIsWritten seen may_leave faults limit s wire tells a b f g (record { world = new; ended = ended.Limit; written = written })
      told_first goes =
          let went = goes p.gone p.is p.way in
          subst (λ (x : Script). HistoryIsWritten seen may_leave faults limit x wire tells a b f g (record { world = new; ended = ended.Limit; written = written })) p.script
          (record {
            gone = p.gone;
            is = is_new;
            world = went.0.0;
            written = text_stays went.0.1;
            ended = (went.1.0, (went.1.1.0, λ t. (tell (p.tell t), went.1.1.1 (tell (p.tell t)))));
          })

      pub told_some : GoesSoSince seen may_leave faults limit w new schedule after played.OutOfMemory → HistoryIsWritten seen may_leave faults limit s wire tells a b f g (record { world = new; ended = ended.OutOfMemory; written = written })
      told_some goes =
          let went = goes p.gone p.is p.way in
          subst (λ (x : Script). HistoryIsWritten seen may_leave faults limit x wire tells a b f g (record { world = new; ended = ended.OutOfMemory; written = written })) p.script
          (record {
            gone = p.gone;
            is = is_new;
            world = went.0.0;
            written = text_stays went.0.1;
            ended = λ t. (tell (p.tell t), went.1 (tell (p.tell t)));
          })
