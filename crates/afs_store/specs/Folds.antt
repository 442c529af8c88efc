-- The fold of a disk's records, one after the other.
use Rattle.std.specs.Prelude.{◌≡◌, ℕ, ◌+◌, List, [], ◌∷◌, Bool, true, false, not, Option, Some, None, length, nat_lt, if◌then◌else◌}
use Rattle.std.specs.Option.{option_map}
use Rattle.spec_history.specs.declared.lines.Line.{Line}
use Rattle.afs_num.specs.declared.types.Node.{Node}
use Rattle.spec_shape.specs.Taking.{◌>>=◌}
use Rattle.afs_store.specs.Folding.{Folding}

-- ---- lengths

-- how many bytes the places of these records have
abbrev pub places_length : List (List ℕ) → ℕ
places_length [] = 0
places_length (b ∷ bs) = length b + 9 + places_length bs

-- a record's place has its length, its number and the next gate besides
abbrev pub place_length : {R T S P : Type 0} → Folding R T S P → R → ℕ
place_length k r = length (k.spelled r) + 9

abbrev pub has_room : {R T S P : Type 0} → Folding R T S P → T → R → Bool
has_room k d r = not (nat_lt (k.capacity d) (k.journal d + place_length k r))

-- ---- records from the first on

-- a record that is read and taken, as the first or behind others
abbrev pub taken_as : {R T S P : Type 0} → Folding R T S P → Bool → R → T → Option T
taken_as k true r d = if k.is_first r then k.folded r d else None
taken_as k false r d = k.folded r d

abbrev pub read_taken : {R T S P : Type 0} → Folding R T S P → Bool → List ℕ → T → Option T
read_taken k first bytes d = k.read bytes >>= λ r. taken_as k first r d

abbrev pub folded_from : {R T S P : Type 0} → Folding R T S P → List (List ℕ) → T → Option T
folded_from k [] d = Some d
folded_from k (bytes ∷ rest) d = k.read bytes >>= λ r. (k.folded r d >>= folded_from k rest)

-- what they make on a disk of this capacity; a missing first record counts as one that can't be taken
abbrev pub all_folded : {R T S P : Type 0} → Folding R T S P → ℕ → List (List ℕ) → Option T
all_folded k capacity [] = None
all_folded k capacity (bytes ∷ rest) = k.read bytes >>= λ r. (taken_as k true r (k.placed 1 capacity k.nothing) >>= folded_from k rest)

-- ---- which record can't be taken: its number, from 1

abbrev pub unfit_by : {T : Type 0} → ℕ → Option T → (T → Option ℕ) → Option ℕ
unfit_by number None next = Some number
unfit_by number (Some d) next = next d

abbrev pub unfit_from : {R T S P : Type 0} → Folding R T S P → ℕ → List (List ℕ) → T → Option ℕ
unfit_from k number [] d = None
unfit_from k number (bytes ∷ rest) d = unfit_by number (k.read bytes >>= λ r. k.folded r d) (unfit_from k (number + 1) rest)

abbrev pub first_unfit : {R T S P : Type 0} → Folding R T S P → ℕ → List (List ℕ) → Option ℕ
first_unfit k capacity [] = Some 1
first_unfit k capacity (bytes ∷ rest) = unfit_by 1 (k.read bytes >>= λ r. taken_as k true r (k.placed 1 capacity k.nothing)) (unfit_from k 2 rest)

-- ---- what the last one tells, each taken after the one before

abbrev pub told_from : {R T S P : Type 0} → Folding R T S P → Node → List (List ℕ) → T → List Line → Option (List Line)
told_from k node [] d e = Some e
told_from k node (bytes ∷ rest) d e = k.read bytes >>= λ r. (k.folded r d >>= λ after. told_from k node rest after (k.effect node r d))

abbrev pub last_told : {R T S P : Type 0} → Folding R T S P → Node → ℕ → List (List ℕ) → Option (List Line)
last_told k node capacity [] = None
last_told k node capacity (bytes ∷ rest) =
    k.read bytes >>= λ r. (taken_as k true r (k.placed 1 capacity k.nothing) >>= λ after. told_from k node rest after (k.effect node r (k.placed 1 capacity k.nothing)))

-- ---- one record more

-- what stands before a further record
abbrev pub front_folded : {R T S P : Type 0} → Folding R T S P → ℕ → List (List ℕ) → Option T
front_folded k capacity [] = Some (k.placed 1 capacity k.nothing)
front_folded k capacity (b ∷ bs) = all_folded k capacity (b ∷ bs)

abbrev pub is_none_yet : List (List ℕ) → Bool
is_none_yet [] = true
is_none_yet (b ∷ bs) = false

-- these records, before a further one, make this, on any disk
abbrev pub IsFront : {R T S P : Type 0} → Folding R T S P → List (List ℕ) → T → Type 0
IsFront k records d = (capacity : ℕ) → front_folded k capacity records ≡ Some (k.placed (1 + places_length records) capacity d)

-- the lines of a record, where they are wanted
abbrev pub wanted_lines : {R T S P : Type 0} → Folding R T S P → Bool → List Line → List Line
wanted_lines k wanted e = if wanted then k.in_words e else []

-- what the last record tells
abbrev pub TellsLast : {R T S P : Type 0} → Folding R T S P → Node → Bool → List (List ℕ) → List Line → Type 0
TellsLast k node wanted records ls = (capacity : ℕ) → option_map (wanted_lines k wanted) (k.last_effect node capacity records) ≡ Some ls

abbrev pub TellsOne : {R T S P : Type 0} → Folding R T S P → Node → Bool → List ℕ → T → List Line → Type 0
TellsOne {R} k node wanted bytes d ls = (r : R) → k.read bytes ≡ Some r → ls ≡ wanted_lines k wanted (k.effect node r d)

-- a record that nothing takes
abbrev pub TakesNone : {R T S P : Type 0} → Folding R T S P → Bool → List ℕ → Type 0
TakesNone {R} {T} k first bytes = (d : T) → read_taken k first bytes d ≡ None

-- one that is taken, on any disk, behind a journal of any length
abbrev pub TakesOne : {R T S P : Type 0} → Folding R T S P → Bool → List ℕ → T → T → Type 0
TakesOne k first bytes old new = (journal capacity : ℕ) → read_taken k first bytes (k.placed journal capacity old) ≡ Some (k.placed (journal + (length bytes + 9)) capacity new)

abbrev pub IsBadAt : {R T S P : Type 0} → Folding R T S P → Bool → List ℕ → T → Type 0
IsBadAt k first bytes old = (journal capacity : ℕ) → read_taken k first bytes (k.placed journal capacity old) ≡ None
