-- A lock of a stamp that was drawn before a step is one that was there before it: no entry is locked again under an earlier stamp.
use Rattle.std.proofs.Common.{◌≡◌, ◌⊎◌, ◌<◌, ◌+◌, inl, inr, ℕ, List, [], ◌∷◌, ◌++◌, Option, Some, None, refl, sym, ap, subst, ◌∙◌, arith}
use Rattle.afs_num.specs.declared.location_calls.LocCall.{LocCall}
use Rattle.spec_history.specs.declared.scripts.Script.{Script}
use Rattle.spec_ideal.specs.Tables.{get, set, Table}
use Rattle.spec_records.specs.LocDurable.{entries_after}
use Rattle.spec_records.specs.LocRecords.{removes, Listed, Lock}
use Rattle.spec_rows.specs.LocRow.{LocChange, LocLasting}
use Rattle.spec_runs.specs.NodeRuns.{node_moved, node_start, CellInput, NodeCell}
use Rattle.law_places.specs.Accepting.{cell_behind}
use Rattle.law_stamps.specs.Stamps.{next_stamp}
use Rattle.law_stamps.specs.Told.{entries_in, stamp_by, stamp_in}
use Rattle.law_families.specs.Entries.{AreKeyed}
use Rattle.law_locks.specs.Lines.{AreInLine, LockIsLast}
use Rattle.law_locks.proofs.Walk.{grips_are_drawn}
use Rattle.law_one_server.specs.Knows.{lock_at}
use Rattle.law_one_server.proofs.DatabaseChanges.{changes, Changes, IsChanged}
use Rattle.law_one_server.proofs.DatabaseSteps.{each_call, Is, OfCalls}
use Rattle.law_one_server.proofs.DatabaseDecides.{same_or, set_here, set_other, unset_here, unset_other}

cell_more : (c : NodeCell) (xs : List CellInput) (x : CellInput) → cell_behind c (xs ++ x ∷ []) ≡ (node_moved (cell_behind c xs) x).cell
cell_more c [] x = refl
cell_more c (y ∷ xs) x = cell_more (node_moved c y).cell xs x

abbrev InLine : NodeCell → Type 0
InLine d = (f : ℕ → ℕ) × AreInLine f (next_stamp d) (entries_in d)

in_line : (s : Script) (inputs : List CellInput) → InLine (cell_behind (node_start s) inputs)
in_line s inputs = let g = grips_are_drawn s inputs in (g.entry_of, g.line)

-- the lock of an entry
abbrev pub lock_of : Option Listed → Option Lock
lock_of None = None
lock_of (Some l) = l.lock

-- its stamp tells its entry
pub lock_its : (f : ℕ → ℕ) (next key : ℕ) (k : Lock) (o : Option Lock) → LockIsLast f next key o → o ≡ Some k → f k.stamp ≡ key
lock_its f next key k None last is = absurd cc
lock_its f next key k (Some j) last is = let same : j ≡ k = cc in ap (λ (x : Lock). f x.stamp) (sym same) ∙ last.its

-- behind this table the locks of earlier stamps are those that were there
abbrev WereLocked : ℕ → Table Listed → Table Listed → Type 0
WereLocked next t u = (volume : ℕ) (k : Lock) → k.stamp < next → lock_of (get volume u) ≡ Some k → lock_of (get volume t) ≡ Some k

module _ (next : ℕ) (t : Table Listed) where
  set_locked : (key : ℕ) (l : Listed) → ((k : Lock) → k.stamp < next → l.lock ≡ Some k → lock_of (get key t) ≡ Some k) → WereLocked next t (set key l t)
  set_locked key l own volume k low is = by (same_or volume key)
    where
      by : (volume ≡ key) ⊎ (volume ≡ key → ⊥) → lock_of (get volume t) ≡ Some k
      by (inl same) = subst (λ (v : ℕ). lock_of (get v t) ≡ Some k) (sym same) (own k low (sym (ap lock_of (set_here key volume l t same)) ∙ is))
      by (inr other) = sym (ap lock_of (set_other key volume l t other)) ∙ is

  fresh_by : (l k : Lock) → l.stamp ≡ next → k.stamp < next → Some l ≡ Some k → ⊥
  fresh_by l k new low is = let same : l ≡ k = cc in let at : k.stamp ≡ next = ap (λ (x : Lock). x.stamp) (sym same) ∙ new in omega (arith, low, at)

-- a further entry stands there as it stood
module _ (f : ℕ → ℕ) (next : ℕ) (t : Table Listed) (key : ℕ) (k : Lock) (l new : Listed) (at : get l.entry.read_write t ≡ Some l) (same_lock : new.lock ≡ l.lock) (line : AreInLine f next (set key new t)) where
  written_by : (key ≡ l.entry.read_write) ⊎ (key ≡ l.entry.read_write → ⊥) → l.lock ≡ Some k → lock_of (get key t) ≡ Some k
  written_by (inl same) is = ap lock_of (ap (λ (v : ℕ). get v t) same ∙ at) ∙ is
  written_by (inr other) is =
      let here : get key (set key new t) ≡ Some new = set_here key key new t refl in
      let there : get l.entry.read_write (set key new t) ≡ Some l = set_other key l.entry.read_write new t (λ e. other (sym e)) ∙ at in
      let a : f k.stamp ≡ key = lock_its f next key k new.lock (line.locks key new here) (same_lock ∙ is) in
      let b : f k.stamp ≡ l.entry.read_write = lock_its f next l.entry.read_write k l.lock (line.locks l.entry.read_write l there) is in
      absurd (other (sym a ∙ b))

-- what is locked under a stamp
locked_by : (o : Option Listed) (stamp : ℕ) → stamp_in o ≡ Some stamp → (k : Lock) × ((lock_of o ≡ Some k) × (k.stamp ≡ stamp))
locked_by None stamp is = absurd cc
locked_by (Some l) stamp is = by l.lock refl is
  where
    by : (q : Option Lock) → l.lock ≡ q → stamp_by q ≡ Some stamp → (k : Lock) × ((l.lock ≡ Some k) × (k.stamp ≡ stamp))
    by None at e = absurd cc
    by (Some k) at e = (k, (at, (let same : k.stamp ≡ stamp = cc in same)))

pub stamp_of_lock : (o : Option Listed) (k : Lock) → lock_of o ≡ Some k → stamp_in o ≡ Some k.stamp
stamp_of_lock None k is = absurd cc
stamp_of_lock (Some l) k is = ap stamp_by is

module _ (s : Script) (done : List CellInput) (x : CellInput) where
  abbrev c : NodeCell
  c = cell_behind (node_start s) done

  abbrev d : NodeCell
  d = (node_moved c x).cell

  pub line_behind : InLine d
  line_behind = subst InLine (cell_more (node_start s) done x) (in_line s (done ++ x ∷ []))

  keyed : AreKeyed (entries_in c)
  keyed = let g = grips_are_drawn s done in record { ascends = g.line.ascends; keyed = g.line.keyed }

  module _ (k : IsChanged c d) where
    abbrev lasting : LocLasting
    lasting = c.loc.state.lasting

    abbrev R : LocCall → LocChange → Type 0
    R call change = entries_in d ≡ entries_after change.deed lasting.entries → WereLocked (next_stamp c) lasting.entries (entries_after change.deed lasting.entries)

    of_calls : OfCalls lasting k.m.head.stamp R
    of_calls = record {
      locks = λ id operation force l at now. set_locked (next_stamp c) lasting.entries l.entry.read_write _ (λ j low is. absurd (fresh_by (next_stamp c) lasting.entries _ j refl low is));
      makes = λ e free now. set_locked (next_stamp c) lasting.entries e.read_write _ (λ j low is. absurd (fresh_by (next_stamp c) lasting.entries _ j refl low is));
      frees = λ id l at held now. set_locked (next_stamp c) lasting.entries l.entry.read_write _ (λ j low is. absurd cc);
      writes = λ id e l at held now. set_locked (next_stamp c) lasting.entries e.read_write _
          (λ j low is. written_by line_behind.0 (next_stamp d) lasting.entries e.read_write j l (record { entry = e; lock = l.lock }) at refl (subst (AreInLine line_behind.0 (next_stamp d)) now line_behind.1) (same_or e.read_write l.entry.read_write) is);
      deletes = λ id l at held now volume j low is. gone_locked l volume j is (same_or volume l.entry.read_write);
      draws = λ now volume j low is. is;
    }
      where
        gone_locked : (l : Listed) (volume : ℕ) (j : Lock) → lock_of (get volume (entries_after (removes l.entry) lasting.entries)) ≡ Some j → (volume ≡ l.entry.read_write) ⊎ (volume ≡ l.entry.read_write → ⊥) → lock_of (get volume lasting.entries) ≡ Some j
        gone_locked l volume j is (inl same) = let none : None ≡ Some j = sym (ap lock_of (unset_here l.entry.read_write volume lasting.entries same)) ∙ is in absurd cc
        gone_locked l volume j is (inr other) = sym (ap lock_of (unset_other l.entry.read_write volume lasting.entries other)) ∙ is

    changed_by : WereLocked (next_stamp c) lasting.entries (entries_after k.change.deed lasting.entries)
    changed_by = subst (Is lasting keyed k.m.head.stamp R of_calls k.served.call) k.served.does (each_call lasting keyed k.m.head.stamp R of_calls k.served.call) k.entries

  -- the lock itself
  pub same_lock : (volume : ℕ) (k : Lock) → k.stamp < next_stamp c → lock_of (get volume (entries_in d)) ≡ Some k → lock_of (get volume (entries_in c)) ≡ Some k
  same_lock volume k low is = by (changes s done x)
    where
      by : Changes c d → lock_of (get volume (entries_in c)) ≡ Some k
      by (inl same) = ap (λ (t : Table Listed). lock_of (get volume t)) (sym same) ∙ is
      by (inr j) = changed_by j volume k low (ap (λ (t : Table Listed). lock_of (get volume t)) (sym j.entries) ∙ is)

  pub lock_was : (volume stamp : ℕ) → stamp < next_stamp c → lock_at d volume ≡ Some stamp → lock_at c volume ≡ Some stamp
  lock_was volume stamp low is =
      let z = locked_by (get volume (entries_in d)) stamp is in
      stamp_of_lock (get volume (entries_in c)) z.0 (same_lock volume z.0 (subst (λ (b : ℕ). b < next_stamp c) (sym z.1.1) low) z.1.0) ∙ ap Some z.1.1
