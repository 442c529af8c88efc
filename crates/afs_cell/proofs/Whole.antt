-- A world with what was let go of it: a step of the one is a step of the other.
use Rattle.std.proofs.Common.{ap, ap₂, arith, refl, sym, subst, ◌∙◌, ◌≡◌, ◌≤◌, ◌<◌, ◌+◌, ◌-◌, ℕ, zero, suc, List, [], ◌∷◌, ◌++◌, append_assoc, length, drop, take, false, Option, Some, None, Result, Ok, Err}
use Rattle.std.proofs.lemmas.List.{append-nil, length-append, length-drop, length-take-le, take-append-drop}
use Rattle.afs_num.specs.Places.{at_place}
use Rattle.afs_num.specs.declared.histories.Actor.{Actor}
use Rattle.afs_num.specs.declared.types.Node.{Node}
use Rattle.afs_num.specs.declared.types.Parcel.{Parcel}
use Rattle.spec_history.specs.declared.lines.Entry as kept
use Rattle.spec_history.specs.declared.lines.Line.{Line}
use Rattle.afs_text.specs.Telling.{sent_by}
use Rattle.afs_clients.specs.Happening.{entry_of, front_lines, void_entry}
use Rattle.afs_cell.specs.Happening.{NothingSettles, Settles}
use Rattle.afs_cell.specs.Noting.{one_entry, Notes}
use Rattle.afs_cell.specs.Since.{whole, IsBefore, LetsGo}
use Rattle.afs_cell.specs.Worlds.{most_history_entries, HistoryTold, IsSafe, WorldState}
use Rattle.afs_cell.specs.declared.faults.WorldFault.{WorldFault}
use Rattle.afs_clients.specs.declared.happening.Happened.{Happened}
use Rattle.afs_clients.specs.declared.happening.Happened.TheVariants as happened
use Rattle.afs_cell.proofs.Parcels.{sent_by-push}

-- ---- what is told behind a step

module _ {D : Type 0} (b : HistoryTold) where
  -- one entry more
  entry_more : (w new : WorldState D) (e : kept.Entry) → new ≡ record w { history = w.history ++ e ∷ [] } → whole b new ≡ record (whole b w) { history = (b.history ++ w.history) ++ e ∷ [] }
  entry_more w new e is = ap (whole b) is ∙ ap (λ (h : List kept.Entry). record (whole b w) { history = h }) (sym (append_assoc b.history w.history (e ∷ [])))

  -- and its messages
  sent_more : (w new : WorldState D) (ps : List Parcel) (e : kept.Entry) → new ≡ record w { wire = w.wire ++ ps; history = w.history ++ e ∷ [] } → whole b new ≡ record (whole b w) { wire = (b.wire ++ w.wire) ++ ps; history = (b.history ++ w.history) ++ e ∷ [] }
  sent_more w new ps e is =
      ap (whole b) is ∙ ap₂ (λ (x : List Parcel) (h : List kept.Entry). record (whole b w) { wire = x; history = h }) (sym (append_assoc b.wire w.wire ps)) (sym (append_assoc b.history w.history (e ∷ [])))

  pub notes_whole : (actor : Actor) (line : Line) (w new : WorldState D) (result : Result (Unit {0}) WorldFault) → Notes actor line w new result → Notes actor line (whole b w) (whole b new) result
  notes_whole actor line w new (Ok done) is = entry_more w new (one_entry actor line) is
  notes_whole actor line w new (Err e) wants = (wants.0, ap (whole b) wants.1)

  pub nothing_whole : (w new : WorldState D) (result : Result (Unit {0}) WorldFault) → NothingSettles w new result → NothingSettles (whole b w) (whole b new) result
  nothing_whole w new (Ok done) is = entry_more w new void_entry is
  nothing_whole w new (Err e) wants = (wants.0, ap (whole b) wants.1)

  pub settles_whole : (node : Node) (front : Option Line) (what : Happened) (w new : WorldState D) (result : Result (Unit {0}) WorldFault) → Settles node front what w new result → Settles node front what (whole b w) (whole b new) result
  settles_whole node front happened.Nothing w new (Ok done) is = entry_more w new void_entry is
  settles_whole node front happened.Nothing w new (Err e) wants = (wants.0, ap (whole b) wants.1)
  settles_whole node front (happened.Step outs) w new (Ok done) is = sent_more w new outs.parcels (entry_of node (front_lines front ++ outs.lines) (length outs.parcels)) is
  settles_whole node front (happened.Step outs) w new (Err e) wants = (wants.0, ap (whole b) wants.1)
  settles_whole node front happened.Unchanged w new (Ok done) never = absurd never
  settles_whole node front happened.Unchanged w new (Err e) wants = (wants.0, ap (whole b) wants.1)
  settles_whole node front happened.Lost w new (Ok done) never = absurd never
  settles_whole node front happened.Lost w new (Err e) wants = (wants.0, ap (whole b) wants.1)

  pub few_whole : (w : WorldState D) → IsBefore b w → w.gone.entries + length w.history < most_history_entries → length (b.history ++ w.history) < most_history_entries
  few_whole w before few = omega (arith, length-append b.history w.history, before.entries, few)

-- a message behind those that were let go
pub at_behind : {A : Type 0} (xs ys : List A) (place : ℕ) → length xs < place → at_place (xs ++ ys) place ≡ at_place ys (place - length xs)
at_behind [] ys place behind =
    let same : place ≡ place - 0 = omega arith in
    ap (at_place ys) same
at_behind (x ∷ xs) ys zero behind = absurd (omega (arith, behind))
at_behind (x ∷ xs) ys (suc zero) behind = absurd (omega (arith, behind))
at_behind (x ∷ xs) ys (suc (suc place)) behind =
    let same : suc place - length xs ≡ suc (suc place) - length (x ∷ xs) = omega arith in
    at_behind xs ys (suc place) (omega (arith, behind)) ∙ ap (at_place ys) same

-- ---- more is let go

pub sent_by-append : (es fs : List kept.Entry) → sent_by (es ++ fs) ≡ sent_by es + sent_by fs
sent_by-append [] fs = omega arith
sent_by-append (e ∷ es) fs = let more = sent_by-append es fs in omega (arith, more)

-- what was let go before, and what is now
abbrev pub with_more : {D : Type 0} → HistoryTold → WorldState D → ℕ → HistoryTold
with_more {D} b w count = record { wire = b.wire ++ take count w.wire; history = b.history ++ w.history }

pub before_more : {D : Type 0} (limit : D → ℕ) (b : HistoryTold) (settled : ℕ) (old new : WorldState D) → IsBefore b old → IsSafe limit old.script (whole b old) → (go : LetsGo settled old new) → IsBefore (with_more b old go.count) new
before_more {D} limit b settled old new before safe go =
    subst (λ (w : WorldState D). IsBefore (with_more b old go.count) w) (sym go.is)
    (record {
      entries = omega (arith, length-append b.history old.history, before.entries);
      sent = omega (arith, safe.sent, length-append b.wire old.wire, before.messages);
      messages = omega (arith, length-append b.wire (take go.count old.wire), length-take-le go.count old.wire go.within, before.messages);
      told = omega (arith, go.within);
    })

pub whole_more : {D : Type 0} (b : HistoryTold) (settled : ℕ) (old new : WorldState D) → (go : LetsGo settled old new) → whole (with_more b old go.count) new ≡ whole b old
whole_more {D} b settled old new go =
    ap (whole (with_more b old go.count)) go.is
    ∙ ap₂ (λ (x : List Parcel) (h : List kept.Entry). record (whole b old) { wire = x; history = h })
    (append_assoc b.wire (take go.count old.wire) (drop go.count old.wire) ∙ ap (λ (x : List Parcel). b.wire ++ x) (take-append-drop go.count old.wire))
    (append-nil (b.history ++ old.history))
