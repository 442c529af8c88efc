-- Faults of disks, counted by node as the disks go back to the bank.
use Rattle.std.specs.Prelude.{◌≡◌, ◌≢◌, ◌≤◌, ◌<◌, ◌⊎◌, ℕ, suc, ◌+◌, ◌-◌, List, [], ◌∷◌, length, min, Bool, true, false, nat_eq, if◌then◌else◌, Option, Some, None}
use Rattle.std.proofs.Common.{refl, ap, sym, subst, ◌∙◌, inl, inr, arith}
use Rattle.std.proofs.lemmas.Bool.{eq-eqb, ne_eqb}
use Rattle.std.proofs.lemmas.Bool.Decides.{eqb_tells, leb_tells}
use Rattle.std.proofs.Math.Dec.{leb}
use Rattle.afs_num.specs.declared.types.Node.{Node}
use Rattle.afs_disk.specs.Banks.{counted}
use Rattle.afs_disk.specs.Disk.{Rose}
use Rattle.afs_disk.specs.Fuses.{last_of_counter}
use Rattle.afs_disk.specs.declared.bank.LendFault.{LendFault}
use Rattle.afs_disk.specs.declared.bank.LendFault.TheVariants as lending
use Rattle.afs_disk.specs.declared.disks.Lent.{Lent}
use Rattle.afs_volstore.specs.Stores.{Store}
use Rattle.afs_cell.specs.Ends.{NoneFell, NoneRose, RoseAt}
use Rattle.afs_cell.specs.Lends.{disks_of, lent_from}
use Rattle.afs_cell.specs.Worlds.{Counts, IsCounted, WorldState}
use Rattle.afs_serverhost.specs.Seated.{seat_disk, ServerSeat}
use Rattle.afs_final.specs.Reading.{fault_in, kept_disk, or_memory, AreFound}
use Rattle.afs_final.specs.declared.reading.Left.{Left}
use Rattle.afs_final.specs.declared.reading.Left.TheVariants as left
use Rattle.afs_lending.specs.Lending.{all_kept, kept_disks, with_faults, AreUnused}
use Rattle.afs_command.specs.Spans.{span, RoseBy, Span}
use Rattle.afs_cell.specs.Replays.{one_other, AreOfNodes}
use Rattle.afs_cell.proofs.Counts.{counted_still}
use Rattle.afs_cell.proofs.RunEnds.{each_is, EachFrom}

-- ---- one count

-- a count, or the last value of a counter
abbrev Reaches : ℕ → ℕ → Type 0
Reaches count now = (count ≤ now) ⊎ (last_of_counter ≤ now)

raised : (count k now : ℕ) → Reaches (min (count + k) last_of_counter) now → Reaches (count + k) now
raised count k now (inr full) = inr full
raised count k now (inl h) = either (leb_tells (count + k) last_of_counter) where
  either : ((leb (count + k) last_of_counter ≡ true) × (count + k ≤ last_of_counter)) ⊎ ((leb (count + k) last_of_counter ≡ false) × (last_of_counter < count + k)) → Reaches (count + k) now
  either (inl few) = inl (omega (arith, h, few.1))
  either (inr many) = inr (omega (arith, h, many.1))

fewer : (m n now : ℕ) → m ≤ n → Reaches n now → Reaches m now
fewer m n now le (inl h) = inl (omega (arith, h, le))
fewer m n now le (inr full) = inr full

-- of the node, and of another
counted_here : (node k n count : ℕ) → nat_eq node n ≡ true → counted node k n count ≡ min (count + k) last_of_counter
counted_here node k n count here = ap (λ (b : Bool). if b then min (count + k) last_of_counter else count) here

counted_there : (node k n count : ℕ) → nat_eq node n ≡ false → counted node k n count ≡ count
counted_there node k n count there = ap (λ (b : Bool). if b then min (count + k) last_of_counter else count) there

reached_by : (b : Bool) (k count now : ℕ) → Reaches (if b then min (count + k) last_of_counter else count) now → Reaches count now
reached_by true k count now h = fewer count (count + k) now (omega (arith)) (raised count k now h)
reached_by false k count now h = h

-- a count doesn't fall, or stands at the last value
goes_up : {D : Type 0} (faults : D → ℕ) (ls : List (Lent D)) (n count : ℕ) → Reaches count (with_faults faults ls n count)
goes_up {D} faults [] n count = inl (omega (arith))
goes_up {D} faults (l ∷ ls) n count = reached_by (nat_eq l.node n) (faults l.disk) count (with_faults faults (l ∷ ls) n count) (goes_up faults ls n (counted l.node (faults l.disk) n count))

-- ---- disks that counted their faults

-- each of these disks, of the nodes from this number on, counts so many as are its own here
abbrev pub AreCounted : {D : Type 0} → (D → ℕ) → (ℕ → ℕ) → ℕ → List (Lent D) → Type 0
AreCounted {D} faults own i [] = Unit {0}
AreCounted {D} faults own i (l ∷ ls) = ((l.node ≡ i) × IsCounted (own i) (faults l.disk)) × AreCounted faults own (i + 1) ls

rose_here : (n k count now : ℕ) → IsCounted n k → Reaches (min (count + k) last_of_counter) now → RoseBy n (span count now)
rose_here n k count now (inl few) h = fewer (count + n) (count + k) now (omega (arith, few)) (raised count k now h)
rose_here n k count now (inr full) (inl h) = inr (omega (arith, full, h))
rose_here n k count now (inr full) (inr last) = inr last

above : (i n : ℕ) → i ≤ n → (i ≡ n → ⊥) → i + 1 ≤ n
above i n from apart = either (leb_tells (i + 1) n) where
  either : ((leb (i + 1) n ≡ true) × (i + 1 ≤ n)) ⊎ ((leb (i + 1) n ≡ false) × (n < i + 1)) → i + 1 ≤ n
  either (inl more) = more.1
  either (inr less) = absurd (apart (omega (arith, from, less.1)))

-- As they go back, the count of each rises by its own: the first of them has this number, or those after it have.
rose_first : {D : Type 0} (faults : D → ℕ) (own : ℕ → ℕ) (i n : ℕ) (l : Lent D) (ls : List (Lent D)) (count : ℕ) → AreCounted faults own i (l ∷ ls)
    → (i + 1 ≤ n → n < (i + 1) + length ls → RoseBy (own n) (span count (with_faults faults ls n count))) → i ≤ n → n < i + length (l ∷ ls)
    → ((nat_eq l.node n ≡ true) × (l.node ≡ n)) ⊎ ((nat_eq l.node n ≡ false) × (l.node ≢ n)) → RoseBy (own n) (span count (with_faults faults (l ∷ ls) n count))
rose_first {D} faults own i n l ls count are others from below (inl (here, same)) =
    let mine : IsCounted (own n) (faults l.disk) = subst (λ (k : ℕ). IsCounted (own k) (faults l.disk)) (sym are.0.0 ∙ same) are.0.1 in
    let up : Reaches (counted l.node (faults l.disk) n count) (with_faults faults (l ∷ ls) n count) = goes_up faults ls n (counted l.node (faults l.disk) n count) in
    rose_here (own n) (faults l.disk) count (with_faults faults (l ∷ ls) n count) mine (subst (λ (k : ℕ). Reaches k (with_faults faults (l ∷ ls) n count)) (counted_here l.node (faults l.disk) n count here) up)
rose_first {D} faults own i n l ls count are others from below (inr (there, apart)) =
    subst (λ (k : ℕ). RoseBy (own n) (span count (with_faults faults ls n k))) (sym (counted_there l.node (faults l.disk) n count there))
    (others (above i n from (λ same. apart (are.0.0 ∙ same))) (omega (arith, below)))

pub rose_at : {D : Type 0} (faults : D → ℕ) (own : ℕ → ℕ) (i n : ℕ) (ls : List (Lent D)) (count : ℕ) → AreCounted faults own i ls → i ≤ n → n < i + length ls → RoseBy (own n) (span count (with_faults faults ls n count))
rose_at {D} faults own i n [] count are from below = absurd (omega (arith, from, below))
rose_at {D} faults own i n (l ∷ ls) count are from below =
    rose_first faults own i n l ls count are (λ more less. rose_at faults own (i + 1) n ls count are.1 more less) from below (eqb_tells l.node n)

-- those of a world
lent_counted : {D : Type 0} (faults : D → ℕ) (own : ℕ → ℕ) (i : ℕ) (ss : List (ServerSeat D)) → EachFrom i (λ (i : ℕ) (s : ServerSeat D). IsCounted (own i) (faults (seat_disk s))) ss → AreCounted faults own i (lent_from i ss)
lent_counted {D} faults own i [] h = tt
lent_counted {D} faults own i (s ∷ ss) h = ((refl, h.0), lent_counted faults own (i + 1) ss h.1)

pub counts_lent : {D : Type 0} (faults : D → ℕ) (own : ℕ → ℕ) (w : WorldState D) → Counts faults own w → AreCounted faults own 0 (disks_of w)
counts_lent {D} faults own w counts = ((refl, counts.0), lent_counted faults own 1 w.servers (each_is (λ (i : ℕ) (s : ServerSeat D). IsCounted (own i) (faults (seat_disk s))) w.servers counts.1))

-- each has counted none at least
none_counted : {D : Type 0} (faults : D → ℕ) (i : ℕ) (ss : List (ServerSeat D)) → AreCounted faults (λ (j : ℕ). 0) i (lent_from i ss)
none_counted {D} faults i [] = tt
none_counted {D} faults i (s ∷ ss) = ((refl, inl (omega (arith))), none_counted faults (i + 1) ss)

pub none_of : {D : Type 0} (faults : D → ℕ) (w : WorldState D) → AreCounted faults (λ (j : ℕ). 0) 0 (disks_of w)
none_of {D} faults w = ((refl, inl (omega (arith))), none_counted faults 1 w.servers)

-- ---- disks that were read

pub found_counted : {D : Type 0} (seen : D → Option (List ℕ)) (faults limit : D → ℕ) (own : ℕ → ℕ) (i : ℕ) (ls : List (Lent D)) (fs : List (Left (Store D) D)) → AreFound seen faults limit ls fs → AreCounted faults own i ls → AreCounted faults own i (kept_disks i fs)
found_counted {D} seen faults limit own i [] [] found are = tt
found_counted {D} seen faults limit own i [] (f ∷ fs) found are = absurd found
found_counted {D} seen faults limit own i (l ∷ ls) [] found are = absurd found
found_counted {D} seen faults limit own i (l ∷ ls) (f ∷ fs) found are = ((refl, counted_still (own i) _ _ found.0.never_falls are.0.1), found_counted seen faults limit own (i + 1) ls fs found.1 are.1)

-- the first of the servers, from this number on, whose disk failed as it was read
abbrev pub failed_at : {D : Type 0} → ℕ → List (Left (Store D) D) → ℕ
failed_at {D} i [] = i
failed_at {D} i (left.Kept s ∷ fs) = failed_at (i + 1) fs
failed_at {D} i (left.Bad d ∷ fs) = failed_at (i + 1) fs
failed_at {D} i (left.Failed d ∷ fs) = i
failed_at {D} i (left.Unread d ∷ fs) = failed_at (i + 1) fs

no_fault_here : (f : LendFault) → None ≡ Some f → ⊥
no_fault_here f e = absurd cc

-- once more, where that server is none of these
others_behind : {D : Type 0} (faults : D → ℕ) (own : ℕ → ℕ) (server i : ℕ) (ls : List (Lent D)) → server < i → AreCounted faults own i ls → AreCounted faults (λ (j : ℕ). own j + one_other server j) i ls
others_behind {D} faults own server i [] before are = tt
others_behind {D} faults own server i (l ∷ ls) before are =
    let none : nat_eq server i ≡ false = ne_eqb server i (λ same. absurd (omega (arith, same, before))) in
    let nothing : one_other server i ≡ 0 = ap (λ (b : Bool). if b then 1 else 0) none in
    let same : own i + one_other server i ≡ own i = omega (arith, nothing) in
    ((are.0.0, subst (λ (n : ℕ). IsCounted n (faults l.disk)) (sym same) are.0.1), others_behind faults own server (i + 1) ls (omega (arith, before)) are.1)

-- and at that server
once_more : (own : ℕ → ℕ) (i before after : ℕ) → before ≤ after → Rose before after → IsCounted (own i) before → IsCounted (own i + one_other i i) after
once_more own i before after le rose few =
    let one : one_other i i ≡ 1 = ap (λ (b : Bool). if b then 1 else 0) (eq-eqb i i refl) in
    subst (λ (k : ℕ). IsCounted (own i + k) after) (sym one) (either rose few) where
      either : Rose before after → IsCounted (own i) before → IsCounted (own i + 1) after
      either (inl more) (inl less) = inl (omega (arith, more, less))
      either (inr full) less = inr (omega (arith, full, le))
      either more (inr full) = inr (omega (arith, full, le))

-- and where it comes behind this one
none_more : (own : ℕ → ℕ) (server i count : ℕ) → i < server → IsCounted (own i) count → IsCounted (own i + one_other server i) count
none_more own server i count behind few =
    let none : nat_eq server i ≡ false = ne_eqb server i (λ same. absurd (omega (arith, same, behind))) in
    let nothing : one_other server i ≡ 0 = ap (λ (b : Bool). if b then 1 else 0) none in
    let same : own i + one_other server i ≡ own i = omega (arith, nothing) in
    subst (λ (n : ℕ). IsCounted n count) (sym same) few

-- where memory was wanting for one disk, and a disk failed, it is another one
also_failed : (o : Option LendFault) → Some (or_memory o) ≡ Some lending.Failed → o ≡ Some lending.Failed
also_failed None e = absurd cc
also_failed (Some lending.Failed) e = refl
also_failed (Some lending.OutOfMemory) e = absurd cc

-- one of the servers, from this number on
abbrev pub IsAmong : ℕ → ℕ → ℕ → Type 0
IsAmong i count server = (i ≤ server) × (server < i + count)

further : (i count server : ℕ) → IsAmong (i + 1) count server → IsAmong i (suc count) server
further i count server among = (omega (arith, among.0), omega (arith, among.1))

module _ {D : Type 0} (seen : D → Option (List ℕ)) (faults limit : D → ℕ) where
  pub failed_among : (i : ℕ) (ls : List (Lent D)) (fs : List (Left (Store D) D)) → AreFound seen faults limit ls fs → fault_in fs ≡ Some lending.Failed → IsAmong i (length ls) (failed_at i fs)
  failed_among i [] [] found failed = absurd (no_fault_here _ failed)
  failed_among i [] (f ∷ fs) found failed = absurd found
  failed_among i (l ∷ ls) [] found failed = absurd found
  failed_among i (l ∷ ls) (left.Kept s ∷ fs) found failed = further i (length ls) (failed_at (i + 1) fs) (failed_among (i + 1) ls fs found.1 failed)
  failed_among i (l ∷ ls) (left.Bad d ∷ fs) found failed = further i (length ls) (failed_at (i + 1) fs) (failed_among (i + 1) ls fs found.1 failed)
  failed_among i (l ∷ ls) (left.Failed d ∷ fs) found failed = (omega (arith), omega (arith))
  failed_among i (l ∷ ls) (left.Unread d ∷ fs) found failed = further i (length ls) (failed_at (i + 1) fs) (failed_among (i + 1) ls fs found.1 (also_failed (fault_in fs) failed))

  goes_on : (own : ℕ → ℕ) (i server : ℕ) (l : Lent D) (ls : List (Lent D)) (f : Left (Store D) D) (fs : List (Left (Store D) D)) → AreFound seen faults limit (l ∷ ls) (f ∷ fs) → AreCounted faults own i (l ∷ ls) → IsAmong (i + 1) (length ls) server
      → AreCounted faults (λ (j : ℕ). own j + one_other server j) (i + 1) (kept_disks (i + 1) fs) → AreCounted faults (λ (j : ℕ). own j + one_other server j) i (kept_disks i (f ∷ fs))
  goes_on own i server l ls f fs found are among rest =
      ((refl, none_more own server i (faults (kept_disk f)) (omega (arith, among.0)) (counted_still (own i) (faults l.disk) (faults (kept_disk f)) found.0.never_falls are.0.1)), rest)

  -- the disk that failed counts that too
  pub failed_counted : (own : ℕ → ℕ) (i : ℕ) (ls : List (Lent D)) (fs : List (Left (Store D) D)) → AreFound seen faults limit ls fs → fault_in fs ≡ Some lending.Failed → AreCounted faults own i ls
      → AreCounted faults (λ (j : ℕ). own j + one_other (failed_at i fs) j) i (kept_disks i fs)
  failed_counted own i [] [] found failed are = absurd (no_fault_here _ failed)
  failed_counted own i [] (f ∷ fs) found failed are = absurd found
  failed_counted own i (l ∷ ls) [] found failed are = absurd found
  failed_counted own i (l ∷ ls) (left.Kept s ∷ fs) found failed are = goes_on own i (failed_at (i + 1) fs) l ls (left.Kept s) fs found are (failed_among (i + 1) ls fs found.1 failed) (failed_counted own (i + 1) ls fs found.1 failed are.1)
  failed_counted own i (l ∷ ls) (left.Bad d ∷ fs) found failed are = goes_on own i (failed_at (i + 1) fs) l ls (left.Bad d) fs found are (failed_among (i + 1) ls fs found.1 failed) (failed_counted own (i + 1) ls fs found.1 failed are.1)
  failed_counted own i (l ∷ ls) (left.Failed d ∷ fs) found failed are =
      ((refl, once_more own i (faults l.disk) (faults d) found.0.never_falls found.0.is are.0.1), others_behind faults own i (i + 1) (kept_disks (i + 1) fs) (omega (arith)) (found_counted seen faults limit own (i + 1) ls fs found.1 are.1))
  failed_counted own i (l ∷ ls) (left.Unread d ∷ fs) found failed are = goes_on own i (failed_at (i + 1) fs) l ls (left.Unread d) fs found are (failed_among (i + 1) ls fs found.1 (also_failed (fault_in fs) failed)) (failed_counted own (i + 1) ls fs found.1 (also_failed (fault_in fs) failed) are.1)

-- those that go back: the location database's disk wasn't read
pub all_counted : {D : Type 0} (seen : D → Option (List ℕ)) (faults limit : D → ℕ) (own : ℕ → ℕ) (d : D) (ls : List (Lent D)) (fs : List (Left (Store D) D)) → AreFound seen faults limit ls fs → AreCounted faults own 0 (record { node = 0; disk = d } ∷ ls) → AreCounted faults own 0 (all_kept d fs)
all_counted {D} seen faults limit own d ls fs found are = (are.0, found_counted seen faults limit own 1 ls fs found are.1)

pub all_but_one : {D : Type 0} (seen : D → Option (List ℕ)) (faults limit : D → ℕ) (own : ℕ → ℕ) (d : D) (ls : List (Lent D)) (fs : List (Left (Store D) D)) → AreFound seen faults limit ls fs → fault_in fs ≡ Some lending.Failed → AreCounted faults own 0 (record { node = 0; disk = d } ∷ ls)
    → AreCounted faults (λ (j : ℕ). own j + one_other (failed_at 1 fs) j) 0 (all_kept d fs)
all_but_one {D} seen faults limit own d ls fs found failed are =
    let among = failed_among seen faults limit 1 ls fs found failed in
    ((are.0.0, none_more own (failed_at 1 fs) 0 (faults d) (omega (arith, among.0)) are.0.1), failed_counted seen faults limit own 1 ls fs found failed are.1)

-- its own count rose by that
pub one_rose : (server : ℕ) (count : Span ℕ) → RoseBy (0 + one_other server server) count → RoseBy 1 count
one_rose server count rose = subst (λ (k : ℕ). RoseBy (0 + k) count) (ap (λ (b : Bool). if b then 1 else 0) (eq-eqb server server refl)) rose

-- ---- set-up

adds_none : (b : Bool) (k count : ℕ) → k ≡ 0 → (if b then min (count + k) last_of_counter else count) ≤ count
adds_none true k count none = omega (arith, none)
adds_none false k count none = omega (arith)

no_more : (a b c : ℕ) → a ≤ b → b ≤ c → a ≤ c
no_more a b c first second = omega (arith, first, second)

-- where none of these fails, and none had failed, no count rises
pub none_rose : {D : Type 0} (faults : D → ℕ) (ls back : List (Lent D)) (n count : ℕ) → AreUnused faults ls → NoneRose faults ls back → with_faults faults back n count ≤ count
none_rose {D} faults [] [] n count unused none = omega (arith)
none_rose {D} faults [] (b ∷ back) n count unused none = absurd none
none_rose {D} faults (l ∷ ls) [] n count unused none = absurd none
none_rose {D} faults (l ∷ ls) (b ∷ back) n count unused none =
    no_more _ _ count (none_rose faults ls back n (counted b.node (faults b.disk) n count) unused.1 none.1) (adds_none (nat_eq b.node n) (faults b.disk) count (omega (arith, none.0, unused.0)))

-- where one failed, its count rose, and no other
pub record OneFailed {D : Type 0} (faults : D → ℕ) (i : ℕ) (back : List (Lent D)) (counts : ℕ → ℕ) : Type 0 where
  pub server : ℕ
  pub among : IsAmong i (length back) server
  pub rose : RoseBy 1 (span (counts server) (with_faults faults back server (counts server)))
  pub alone : (j : ℕ) → nat_eq server j ≡ false → with_faults faults back j (counts j) ≤ counts j

rose_counted : (before after : ℕ) → before ≤ after → Rose before after → IsCounted 1 after
rose_counted before after le (inl more) = inl (omega (arith, more))
rose_counted before after le (inr full) = inr (omega (arith, full, le))

pub one_disk_failed : {D : Type 0} (faults : D → ℕ) (n : Node) (i : ℕ) (ls back : List (Lent D)) (counts : ℕ → ℕ) → AreUnused faults ls → NoneFell faults ls back → RoseAt faults n i ls back → AreOfNodes i back → OneFailed faults i back counts
one_disk_failed {D} faults n i [] back counts unused fell rose are = absurd rose
one_disk_failed {D} faults n i (l ∷ ls) [] counts unused fell rose are = absurd fell
one_disk_failed {D} faults n i (l ∷ ls) (b ∷ back) counts unused fell (inl (named, (rose, others))) are = record {
  server = i;
  among = (omega (arith), omega (arith));
  rose =
      rose_here 1 (faults b.disk) (counts i) (with_faults faults (b ∷ back) i (counts i)) (rose_counted (faults l.disk) (faults b.disk) fell.0 rose)
      (subst (λ (k : ℕ). Reaches k (with_faults faults (b ∷ back) i (counts i))) (counted_here b.node (faults b.disk) i (counts i) (eq-eqb b.node i are.0)) (goes_up faults back i (counted b.node (faults b.disk) i (counts i))));
  alone = λ j apart.
      let there : nat_eq b.node j ≡ false = ap (λ (k : ℕ). nat_eq k j) are.0 ∙ apart in
      subst (λ (k : ℕ). with_faults faults back j k ≤ counts j) (sym (counted_there b.node (faults b.disk) j (counts j) there)) (none_rose faults ls back j (counts j) unused.1 others);
}
one_disk_failed {D} faults n i (l ∷ ls) (b ∷ back) counts unused fell (inr (quiet, there)) are =
    let rest = one_disk_failed faults n (i + 1) ls back (λ (j : ℕ). counted b.node (faults b.disk) j (counts j)) unused.1 fell.1 there are.1 in
    let apart : nat_eq b.node rest.server ≡ false = ne_eqb b.node rest.server (λ same. absurd (omega (arith, same, are.0, rest.among.0))) in
    record {
      server = rest.server;
      among = further i (length back) rest.server rest.among;
      rose = subst (λ (k : ℕ). RoseBy 1 (span k (with_faults faults (b ∷ back) rest.server (counts rest.server)))) (counted_there b.node (faults b.disk) rest.server (counts rest.server) apart) rest.rose;
      alone = λ j other. no_more _ _ (counts j) (rest.alone j other) (adds_none (nat_eq b.node j) (faults b.disk) (counts j) (omega (arith, quiet, unused.0)));
    }

-- ---- the bank's count, and the sink's

pub rose_once : (before after : ℕ) → Rose before after → before ≤ after → RoseBy 1 (span before after)
rose_once before after (inl more) never_falls = inl (omega (arith, more))
rose_once before after (inr full) never_falls = inr (omega (arith, full, never_falls))

-- and from an earlier one on
pub rose_since : (n earlier before after : ℕ) → earlier ≤ before → RoseBy n (span before after) → RoseBy n (span earlier after)
rose_since n earlier before after le (inl more) = inl (omega (arith, le, more))
rose_since n earlier before after le (inr full) = inr full
