-- The faults that the disks count, as one node makes a step.
use Rattle.std.proofs.Common.{arith, ap, subst, sym, ◌∙◌, ◌≡◌, ◌≤◌, ◌+◌, ◌⊎◌, inl, inr, ℕ, List, [], ◌∷◌, ◌++◌, length, Bool, true, false, not, nat_eq, if◌then◌else◌, Some}
use Rattle.std.proofs.lemmas.Bool.{ne_eqb}
use Rattle.afs_num.specs.Places.{at_place}
use Rattle.afs_num.specs.declared.histories.Actor.{Actor}
use Rattle.afs_num.specs.declared.histories.Actor.TheVariants as actors
use Rattle.afs_num.specs.declared.types.Node.TheVariants.{Loc, Server}
use Rattle.afs_disk.specs.Disk.{Rose}
use Rattle.spec_rows.specs.Runs.{Entry}
use Rattle.spec_runs.specs.NodeRuns.{CellInput}
use Rattle.afs_clients.specs.Places.{put_place}
use Rattle.afs_cell.specs.Worlds.{own_failures, falls_at, is_other_node, own_falls, Counts, IsCounted, WorldState}
use Rattle.afs_host.specs.LocSeated.{loc_seat_disk, DatabaseSeat}
use Rattle.afs_serverhost.specs.Seated.{seat_disk, ServerSeat}
use Rattle.afs_clients.proofs.Numbers.{each_map, each_put, place_within}

-- ---- at which node

at_most_by : (b : Bool) (n : ℕ) → (if b then 0 else n) ≤ n
at_most_by true n = omega arith
at_most_by false n = omega arith

at_most : (i : ℕ) (x : CellInput) (e : Entry) → falls_at i x e ≤ own_failures x
at_most i x e = at_most_by (is_other_node i e.actor) (own_failures x)

-- an input with which no disk fails
pub none_falls : (i : ℕ) (x : CellInput) (e : Entry) → own_failures x ≡ 0 → falls_at i x e ≡ 0
none_falls i x e none =
    let most = at_most i x e in
    omega (arith, most, none)

-- the entry of another node
other_stands : (j : ℕ) (x : CellInput) (e : Entry) (actor : Actor) → e.actor ≡ actor → is_other_node j actor ≡ true → falls_at j x e ≡ 0
other_stands j x e actor of apart = ap (λ (a : Actor). if is_other_node j a then 0 else own_failures x) of ∙ ap (λ (b : Bool). if b then 0 else own_failures x) apart

-- one input more
pub falls_behind : (i : ℕ) (xs : List CellInput) (es : List Entry) (x : CellInput) (e : Entry) → length xs ≡ length es → own_falls i (xs ++ x ∷ []) (es ++ e ∷ []) ≡ own_falls i xs es + falls_at i x e
falls_behind i [] [] x e same = omega arith
falls_behind i [] (f ∷ fs) x e same = absurd (omega (arith, same))
falls_behind i (y ∷ ys) [] x e same = absurd (omega (arith, same))
falls_behind i (y ∷ ys) (f ∷ fs) x e same =
    let more = falls_behind i ys fs x e (omega (arith, same)) in
    omega (arith, more)

-- ---- what they count

-- none more
none_more : (n m count : ℕ) → m ≡ 0 → IsCounted n count → IsCounted (n + m) count
none_more n m count nothing (inl counted) = inl (omega (arith, nothing, counted))
none_more n m count nothing (inr full) = inr full

-- a count doesn't fall
pub counted_still : (n before after : ℕ) → before ≤ after → IsCounted n before → IsCounted n after
counted_still n before after le (inl few) = inl (omega (arith, few, le))
counted_still n before after le (inr full) = inr (omega (arith, full, le))

module _ {D : Type 0} (faults : D → ℕ) where
  -- the same numbers
  pub counts_as : (own same : ℕ → ℕ) (w : WorldState D) → ((i : ℕ) → same i ≡ own i) → Counts faults own w → Counts faults same w
  counts_as own same w is h = (
    subst (λ (n : ℕ). IsCounted n (faults (loc_seat_disk w.database))) (sym (is 0)) h.0,
    each_map (λ (i : ℕ) (s : ServerSeat D). IsCounted (own i) (faults (seat_disk s))) (λ (i : ℕ) (s : ServerSeat D). IsCounted (same i) (faults (seat_disk s))) w.servers
        (λ i s one. subst (λ (n : ℕ). IsCounted n (faults (seat_disk s))) (sym (is i)) one) h.1,
  )

  -- no disk failed with this input
  pub counts_still : (x : CellInput) (e : Entry) (w : WorldState D) → own_failures x ≡ 0 → (own : ℕ → ℕ) → Counts faults own w → Counts faults (λ (i : ℕ). own i + falls_at i x e) w
  counts_still x e w none own = counts_as own (λ (i : ℕ). own i + falls_at i x e) w (λ i. stands i (none_falls i x e none)) where
    stands : (i : ℕ) → falls_at i x e ≡ 0 → own i + falls_at i x e ≡ own i
    stands i nothing = omega (arith, nothing)

  -- a disk failed by itself no time, or once, and that was counted
  abbrev pub Blames : ℕ → D → D → Type 0
  Blames k was now = (k ≡ 0) ⊎ ((k ≡ 1) × Rose (faults was) (faults now))

  counted_more : (n k m : ℕ) (was now : D) → faults was ≤ faults now → m ≤ k → Blames k was now → IsCounted n (faults was) → IsCounted (n + m) (faults now)
  counted_more n k m was now le few blames (inr full) = inr (omega (arith, full, le))
  counted_more n k m was now le few (inl none) (inl counted) = inl (omega (arith, none, few, counted, le))
  counted_more n k m was now le few (inr (one, inl rose)) (inl counted) = inl (omega (arith, one, few, counted, rose))
  counted_more n k m was now le few (inr (one, inr last)) (inl counted) = inr (omega (arith, last, le))

  -- a server's step, with an input that made an entry of this server
  pub counts_put : (i : ℕ) (x : CellInput) (e : Entry) (was now : ServerSeat D) (w : WorldState D) → e.actor ≡ actors.Node (Server i) → at_place w.servers i ≡ Some was → faults (seat_disk was) ≤ faults (seat_disk now) → Blames (own_failures x) (seat_disk was) (seat_disk now)
      → (own : ℕ → ℕ) → Counts faults own w → Counts faults (λ (j : ℕ). own j + falls_at j x e) (record w { servers = put_place i now w.servers })
  counts_put i x e was now w actor found le blames own h =
      let there : nat_eq i 0 ≡ false = ne_eqb i 0 (λ same. absurd (omega (arith, same, (place_within w.servers i was found).0))) in (
        none_more (own 0) (falls_at 0 x e) (faults (loc_seat_disk w.database)) (other_stands 0 x e (actors.Node (Server i)) actor (ap not there)) h.0,
        each_put (λ (j : ℕ) (z : ServerSeat D). IsCounted (own j) (faults (seat_disk z))) (λ (j : ℕ) (z : ServerSeat D). IsCounted (own j + falls_at j x e) (faults (seat_disk z))) i now was w.servers found h.1
            (λ j z apart counted. none_more (own j) (falls_at j x e) (faults (seat_disk z)) (other_stands j x e (actors.Node (Server i)) actor (ap not apart)) counted)
            (counted_more (own i) (own_failures x) (falls_at i x e) (seat_disk was) (seat_disk now) le (at_most i x e) blames (h.1 i was found)),
      )

  -- and where nothing was told of it
  pub counts_kept : (i : ℕ) (was now : ServerSeat D) (w : WorldState D) → at_place w.servers i ≡ Some was → faults (seat_disk was) ≤ faults (seat_disk now) → (own : ℕ → ℕ) → Counts faults own w → Counts faults own (record w { servers = put_place i now w.servers })
  counts_kept i was now w found le own h = (
    h.0,
    each_put (λ (j : ℕ) (z : ServerSeat D). IsCounted (own j) (faults (seat_disk z))) (λ (j : ℕ) (z : ServerSeat D). IsCounted (own j) (faults (seat_disk z))) i now was w.servers found h.1 (λ j z apart counted. counted)
        (counted_still (own i) (faults (seat_disk was)) (faults (seat_disk now)) le (h.1 i was found)),
  )

  -- so it is of the location database
  pub loc_counts_put : (x : CellInput) (e : Entry) (now : DatabaseSeat D) (w : WorldState D) → e.actor ≡ actors.Node Loc → faults (loc_seat_disk w.database) ≤ faults (loc_seat_disk now) → Blames (own_failures x) (loc_seat_disk w.database) (loc_seat_disk now)
      → (own : ℕ → ℕ) → Counts faults own w → Counts faults (λ (j : ℕ). own j + falls_at j x e) (record w { database = now })
  loc_counts_put x e now w actor le blames own h = (
    counted_more (own 0) (own_failures x) (falls_at 0 x e) (loc_seat_disk w.database) (loc_seat_disk now) le (at_most 0 x e) blames h.0,
    λ j z here.
        let there : nat_eq 0 j ≡ false = ne_eqb 0 j (λ same. absurd (omega (arith, same, (place_within w.servers j z here).0))) in
        none_more (own j) (falls_at j x e) (faults (seat_disk z)) (other_stands j x e (actors.Node Loc) actor (ap not there)) (h.1 j z here),
  )

  pub loc_counts_kept : (now : DatabaseSeat D) (w : WorldState D) → faults (loc_seat_disk w.database) ≤ faults (loc_seat_disk now) → (own : ℕ → ℕ) → Counts faults own w → Counts faults own (record w { database = now })
  loc_counts_kept now w le own h = (counted_still (own 0) (faults (loc_seat_disk w.database)) (faults (loc_seat_disk now)) le h.0, h.1)
