-- What a disk stands for once its node is down, whatever kind of node it is.
use Rattle.std.specs.Prelude.{◌≡◌, ◌⊎◌, ◌+◌, ℕ, List, [], ◌∷◌, ◌++◌, length, Bool, true, false, Option, Some, None, IfSome, IsSome, if◌then◌else◌}
use Rattle.std.proofs.Common.{refl, ap, sym, subst, inl, inr}
use Rattle.afs_num.specs.declared.records.Mark.{Mark}
use Rattle.afs_num.specs.declared.types.Node.{Node}
use Rattle.spec_history.specs.declared.lines.Line.{Line}
use Rattle.afs_disk.specs.Disk.{LeavesJust}
use Rattle.afs_journal.specs.Records.{whole_records}
use Rattle.spec_rows.specs.Hosts.{begun_from, Fall, MayFind}
use Rattle.afs_store.specs.Sound.{IsSound}
use Rattle.afs_store.specs.Stores.{IsCounted, IsKept, StandFor, StandsAround}
use Rattle.afs_host.specs.Standing.{record_of_fall, IsKeptAs, IsKeptFound, IsKeptIn, Keeping, LiesAfter, LiesBefore}
use Rattle.afs_host.specs.Views.{count_mark}
use Rattle.afs_host.proofs.Folded.{one_taken}

pub some_of : {A : Type 0} (o : Option A) → IsSome o → (x : A) × (o ≡ Some x)
some_of {A} None some = absurd cc
some_of {A} (Some x) some = (x, refl)

pub is_told : (o : Option (List ℕ)) (bytes : List ℕ) → o ≡ Some bytes → IsSome o
is_told o bytes at = subst (λ (p : Option (List ℕ)). IsSome p) (sym at) refl

pub if_some : {A : Type 0} (o : Option A) (P : A → Type 0) (x : A) → o ≡ Some x → IfSome o P → P x
if_some {A} o P x e has = subst (λ (p : Option A). IfSome p P) e has

-- what a crash with a pick leaves is what one may leave
pub left_image : (seen : Option (List ℕ)) (before now : List ℕ → Type 0) → IfSome seen (λ bytes. before bytes × LeavesJust bytes now) → IsSome seen → (c : List ℕ) → now c → before c
left_image seen before now image told c left =
    let bytes = some_of seen told in
    let both = if_some seen (λ b. before b × LeavesJust b now) bytes.0 bytes.1 image in
    subst before (sym (both.1 c left)) both.0

-- what is known of a kind of node
pub record IsSoundKeeping {R T M P L S : Type 0} (k : Keeping R T M P L S) : Type 0 where
  -- its records, what they make and its memory fit together
  pub fold : IsSound k.fold
  -- room and boot number are read as they are kept
  pub sized : (d : T) → k.capacity (k.read d) ≡ k.fold.capacity d
  pub booted : (d : T) → k.boot (k.read d) ≡ k.fold.boot d
  -- no step gives the disk another room
  pub same_capacity : (s : S) (fall : Fall) → k.capacity (k.lasting (begun_from k.kind s true fall).state) ≡ k.capacity (k.lasting s)
  -- the record of a boot makes of what is kept what the state says of it, and tells what a restart tells behind it
  pub revives : (s : S) (d e : T) → k.read d ≡ k.lasting s → k.fold.folded (k.fold.start (k.fold.boot d + 1)) d ≡ Some e → k.read e ≡ k.lasting (k.kind.begun_again s).state
  pub tells : (s : S) (d : T) → k.read d ≡ k.lasting s → (ls : List Line) → (k.kind.begun_again s).before ls ≡ k.fold.in_words (k.fold.effect k.kind.me (k.fold.start (k.fold.boot d + 1)) d) ++ ls
  -- a restart begins with what was read, and whether it can start is in that
  pub begins : (d : T) → k.lasting (k.begun d) ≡ k.read d
  pub same_can : (s t : S) → k.lasting s ≡ k.lasting t → k.kind.can_start s ≡ k.kind.can_start t

module _ {R T M P L S : Type 0} (k : Keeping R T M P L S) where
  -- ---- a disk at rest

  -- the records that a read gives are those of the state, as many as the mark says
  pub kept_there : (durable : T) (count : ℕ) (seen : Option (List ℕ)) (may_leave : List ℕ → Type 0) (s : S) → k.read durable ≡ k.lasting s → IsKept k.fold durable seen may_leave → IsCounted count seen →
      (bytes : List ℕ) → seen ≡ Some bytes → LiesBefore k s (count_mark count) (whole_records bytes)
  kept_there durable count seen may_leave s read kept counted bytes told = record {
    before = record { durable = durable; stands = kept.stands bytes told; read = read };
    marked = ap count_mark (counted bytes told);
  }

  -- and so are those that a crash leaves
  pub kept_before : (durable : T) (count : ℕ) (seen : Option (List ℕ)) (may_leave : List ℕ → Type 0) (s : S) → k.read durable ≡ k.lasting s → IsKept k.fold durable seen may_leave → IsCounted count seen →
      IsSome seen → (c : List ℕ) → may_leave c → LiesBefore k s (count_mark count) (whole_records c)
  kept_before durable count seen may_leave s read kept counted told c left =
      let bytes = some_of seen told in
      subst (λ (b : List ℕ). LiesBefore k s (count_mark count) (whole_records b)) (sym (kept.durable bytes.0 bytes.1 c left)) (kept_there durable count seen may_leave s read kept counted bytes.0 bytes.1)

  -- where a restart may begin either way it finds the one or the other
  pub found_free : (s : S) (fall : Fall) (mark : Mark) (records : List (List ℕ)) → ((after : Bool) → MayFind fall after) → IsKeptIn k s fall mark records → IsKeptFound k s fall mark records
  found_free s fall mark records free (inl b) = (false, (free false, b))
  found_free s fall mark records free (inr a) = (true, (free true, a))

  -- ---- a disk on which a record was begun

  -- what is known of that record, and of a step that makes it: what is left with it, and what it tells
  pub record Begins (s : S) (fall : Fall) (records : List (List ℕ)) (count : ℕ) (durable : T) (r : R) : Type 0 where
    pub stands : StandFor k.fold records durable
    pub read : k.read durable ≡ k.lasting s
    pub counted : length records ≡ count
    pub read_again : k.fold.read (k.fold.spelled r) ≡ Some r
    pub made : record_of_fall k s fall ≡ Some r
    pub left : (e : T) → k.fold.folded r durable ≡ Some e → k.read e ≡ k.lasting (begun_from k.kind s true fall).state
    pub told : (ls : List Line) → (begun_from k.kind s true fall).before ls ≡ k.fold.in_words (k.fold.effect k.kind.me r durable) ++ ls

  module _ (sound : IsSound k.fold) (s : S) (fall : Fall) (records : List (List ℕ)) (count : ℕ) (durable : T) (r : R) (b : Begins s fall records count durable r) where
    abbrev begun_before : LiesBefore k s (count_mark count) records
    begun_before = record {
      before = record { durable = durable; stands = b.stands; read = b.read };
      marked = ap count_mark b.counted;
    }

    begun_after : (e : T) → k.fold.folded r durable ≡ Some e → StandFor k.fold (records ++ k.fold.spelled r ∷ []) e → LiesAfter k s fall (count_mark count) (records ++ k.fold.spelled r ∷ [])
    begun_after e takes stands = record {
      first = records;
      last = r;
      are = refl;
      before = begun_before;
      made = b.made;
      read_again = b.read_again;
      after = record { durable = e; stands = stands; read = b.left e takes };
      told = b.told;
    }

    around : StandFor k.fold (records ++ k.fold.spelled r ∷ []) durable ⊎ ((e : T) × ((k.fold.folded r durable ≡ Some e) × StandFor k.fold (records ++ k.fold.spelled r ∷ []) e)) → LiesAfter k s fall (count_mark count) (records ++ k.fold.spelled r ∷ [])
    around (inl same) = begun_after durable (one_taken k.fold sound records r durable durable b.stands same b.read_again refl) same
    around (inr e) = begun_after e.0 e.1.0 e.1.1

    -- what has the record too
    with_it : (c : List ℕ) → whole_records c ≡ records ++ k.fold.spelled r ∷ [] → StandsAround k.fold r durable c → LiesAfter k s fall (count_mark count) (whole_records c)
    with_it c is stands =
        subst (LiesAfter k s fall (count_mark count)) (sym is) (around (subst (λ (rs : List (List ℕ)). StandFor k.fold rs durable ⊎ ((e : T) × ((k.fold.folded r durable ≡ Some e) × StandFor k.fold rs e))) is stands))

    -- whatever a crash leaves has the records before it, or this one too
    pub begun_lies : (c : List ℕ) → (whole_records c ≡ records) ⊎ (whole_records c ≡ records ++ k.fold.spelled r ∷ []) → StandsAround k.fold r durable c → IsKeptIn k s fall (count_mark count) (whole_records c)
    begun_lies c (inl is) stands = inl (subst (LiesBefore k s (count_mark count)) (sym is) begun_before)
    begun_lies c (inr is) stands = inr (with_it c is stands)

    -- and it is known which
    pub begun_as : (c : List ℕ) (after : Bool) → whole_records c ≡ (if after then records ++ k.fold.spelled r ∷ [] else records) → StandsAround k.fold r durable c → IsKeptAs k s fall (count_mark count) after (whole_records c)
    begun_as c false is stands = subst (LiesBefore k s (count_mark count)) (sym is) begun_before
    begun_as c true is stands = with_it c is stands
