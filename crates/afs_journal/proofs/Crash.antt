-- What a crash leaves of a journal, in each step that appends a record or repairs the end.
use Rattle.std.proofs.Common.{◌≡◌, ◌<◌, ◌≤◌, inl, inr, ℕ, suc, ◌+◌, ◌*◌, ◌-◌, ◌^◌, List, [], ◌∷◌, ◌++◌, length, get_or, take, drop, None, refl, sym, ◌∙◌, ap, subst, arith, append_assoc, length-append, take-append-drop, length-drop}
use Rattle.std.proofs.lemmas.List.{append-nil, take_at, drop_at, take_all, drop_all, drop_more, take_more, take-take, length-take, length-take-le, drop-drop, drop-take}
use Rattle.std.proofs.lemmas.Bool.{cases_eq}
use Rattle.std.specs.Prelude.{zero, ◌≢◌, ◌==◌, Bool, false, nat_eq, replicate, if◌then◌else◌}
use Rattle.std.proofs.lemmas.Bool.{ne_eqb}
use Rattle.afs_disk.specs.Disk.{overwritten, struck, written_by, Torn, CutShort}
use Rattle.afs_journal.specs.Left.{records_left}
use Rattle.afs_journal.specs.Records.{place_of, blocks, journal_bytes, whole_record_at, whole_records, IsBeforeOrAfter, Fit, EndsAt}
use Rattle.afs_journal.proofs.Records.{blocks-push, fit-push, length-blocks, length-place_of, closed, short, none_in_front, stands_for, stands_for_nothing}

-- bytes that begin with these and go on with what is behind
split_at : (n : ℕ) (c front : List ℕ) → take n c ≡ front → c ≡ front ++ drop n c
split_at n c front is = sym (take-append-drop n c) ∙ ap (λ (l : List ℕ). l ++ drop n c) is

-- a crash with another pick than these fills what was written
filled : (pick at : ℕ) (bytes left : List ℕ) → nat_eq pick 0 ≡ false → nat_eq pick 1 ≡ false → nat_eq pick 2 ≡ false → written_by pick at bytes left ≡ overwritten at (replicate (length bytes) 255) left
filled pick at bytes left none first second =
    ap (λ (t : Bool). if t then left else overwritten at (struck pick bytes) left) none
    ∙ (ap (λ (t : Bool). overwritten at (if t then bytes else (if pick == 2 then replicate (length bytes) 0 else replicate (length bytes) 255)) left) first
    ∙ ap (λ (t : Bool). overwritten at (if t then replicate (length bytes) 0 else replicate (length bytes) 255) left) second)

module _ (bodies : List (List ℕ)) (gate : ℕ) (size : length (blocks 1 bodies) ≡ gate) (fit : Fit 1 bodies) where
  pub length-journal : length (journal_bytes bodies) ≡ gate + 1
  length-journal = omega (arith, size, length-append (blocks 1 bodies) (0 ∷ []))

  -- behind a closed gate anything may stand
  pub behind_closed : (rest : List ℕ) → whole_records (blocks 1 bodies ++ 0 ∷ rest) ≡ bodies
  behind_closed rest = stands_for bodies (0 ∷ rest) fit (omega arith) (closed (suc (length bodies)) (0 ∷ rest) (omega arith))

  -- a gate alone holds no record, open or closed
  pub gate_alone : (gate_byte : ℕ) → whole_records (blocks 1 bodies ++ gate_byte ∷ []) ≡ bodies
  gate_alone gate_byte = stands_for bodies (gate_byte ∷ []) fit (omega arith) (short (suc (length bodies)) (gate_byte ∷ []) (omega arith))

  pub journal_stands : whole_records (journal_bytes bodies) ≡ bodies
  journal_stands = behind_closed []

  -- the closed gate stands in each outcome of the first write
  pub torn_behind : (n : ℕ) (c : List ℕ) → Torn (gate + 1) n (journal_bytes bodies) c → whole_records c ≡ bodies
  torn_behind n c torn =
      let front : take (gate + 1) c ≡ journal_bytes bodies = torn.before ∙ take_all _ _ (omega (arith, length-journal)) in
      ap whole_records (split_at (gate + 1) c (journal_bytes bodies) front ∙ append_assoc (blocks 1 bodies) (0 ∷ []) (drop (gate + 1) c)) ∙ behind_closed (drop (gate + 1) c)

  -- the end of a file whose front is sound may be cut anywhere behind its gate
  pub cut_keeps : (file c : List ℕ) → EndsAt gate bodies file → CutShort (gate + 1) file c → whole_records c ≡ bodies
  cut_keeps file c ends cut =
      let few : gate + 1 ≤ length c = omega (arith, cut.no_shorter, ends.inside) in
      let long : length c ≤ length file = omega (arith, ap length cut.front, length-take (length c) file) in
      let front : take gate c ≡ blocks 1 bodies = ap (take gate) (sym cut.front) ∙ take-take gate (length c) file (omega arith) ∙ ends.front in
      let after_gate : drop gate c ≡ take (length c - gate) (drop gate file) =
      ap (drop gate) (sym cut.front) ∙ ap (λ (m : ℕ). drop gate (take m file)) (omega arith) ∙ drop-take gate (length c - gate) file in
      let none : whole_record_at (suc (length bodies)) (drop gate c) ≡ None =
      subst (λ (l : List ℕ). whole_record_at (suc (length bodies)) l ≡ None) (sym after_gate) (none_in_front (suc (length bodies)) (length c - gate) (drop gate file) ends.nothing) in
      ap whole_records (split_at gate c (blocks 1 bodies) front) ∙ stands_for bodies (drop gate c) fit (omega (arith, length-drop gate c)) none

  -- a file cut behind its gate
  pub cut_done : (file : List ℕ) → EndsAt gate bodies file → take (gate + 1) file ≡ blocks 1 bodies ++ get_or file gate 0 ∷ []
  cut_done file ends = take_more file gate 0 ends.inside ∙ ap (λ (l : List ℕ). l ++ get_or file gate 0 ∷ []) ends.front

  -- each outcome of closing that gate
  pub torn_end : (gate_byte : ℕ) (c : List ℕ) → Torn gate 1 (blocks 1 bodies ++ gate_byte ∷ []) c → whole_records c ≡ bodies
  torn_end gate_byte c torn =
      let long : length (blocks 1 bodies ++ gate_byte ∷ []) ≡ gate + 1 = omega (arith, size, length-append (blocks 1 bodies) (gate_byte ∷ [])) in
      let front : take gate c ≡ blocks 1 bodies = torn.before ∙ take_at (blocks 1 bodies) (gate_byte ∷ []) gate size in
      let back : length (drop gate c) ≤ 9 = omega (arith, length-drop gate c, torn.no_longer) in
      let some : 0 < length (drop gate c) = omega (arith, length-drop gate c, torn.no_shorter) in
      ap whole_records (split_at gate c (blocks 1 bodies) front) ∙ stands_for bodies (drop gate c) fit some (short (suc (length bodies)) (drop gate c) back)

  pub written_end : (gate_byte : ℕ) → overwritten gate (0 ∷ []) (blocks 1 bodies ++ gate_byte ∷ []) ≡ journal_bytes bodies
  written_end gate_byte =
      let long : length (blocks 1 bodies ++ gate_byte ∷ []) ≡ gate + 1 = omega (arith, size, length-append (blocks 1 bodies) (gate_byte ∷ [])) in
      ap (λ (l : List ℕ). l ++ 0 ∷ drop (gate + 1) (blocks 1 bodies ++ gate_byte ∷ [])) (take_at (blocks 1 bodies) (gate_byte ∷ []) gate size)
      ∙ ap (λ (l : List ℕ). blocks 1 bodies ++ 0 ∷ l) (drop_all (gate + 1) (blocks 1 bodies ++ gate_byte ∷ []) (omega arith))

  pub found : (file : List ℕ) → EndsAt gate bodies file → whole_records file ≡ bodies
  found file ends = ap whole_records (split_at gate file (blocks 1 bodies) ends.front) ∙ stands_for bodies (drop gate file) fit (omega (arith, length-drop gate file, ends.inside)) ends.nothing

  -- a file that ends with a closed gate is a journal
  pub is_journal : (file : List ℕ) → EndsAt gate bodies file → length file ≡ gate + 1 → get_or file gate 0 ≡ 0 → file ≡ journal_bytes bodies
  is_journal file ends long shut = sym (take_all (gate + 1) file (omega arith)) ∙ cut_done file ends ∙ ap (λ (g : ℕ). blocks 1 bodies ++ g ∷ []) shut

  module _ (body : List ℕ) (small : length body < 2 ^ 32) (counted : suc (length bodies) < 2 ^ 32) where
    abbrev pub place : List ℕ
    place = place_of (suc (length bodies)) body

    -- the journal with a place behind its closed gate
    abbrev pub staged : List ℕ
    staged = blocks 1 bodies ++ 0 ∷ (place ++ 0 ∷ [])

    pub written_behind : overwritten (gate + 1) (place ++ 0 ∷ []) (journal_bytes bodies) ≡ staged
    written_behind =
        ap (λ (l : List ℕ). l ++ ((place ++ 0 ∷ []) ++ drop (gate + 1 + length (place ++ 0 ∷ [])) (journal_bytes bodies))) (take_all (gate + 1) (journal_bytes bodies) (omega (arith, length-journal)))
        ∙ ap (λ (l : List ℕ). journal_bytes bodies ++ ((place ++ 0 ∷ []) ++ l)) (drop_all (gate + 1 + length (place ++ 0 ∷ [])) (journal_bytes bodies) (omega (arith, length-journal)))
        ∙ ap (λ (l : List ℕ). journal_bytes bodies ++ l) (append-nil (place ++ 0 ∷ []))
        ∙ append_assoc (blocks 1 bodies) (0 ∷ []) (place ++ 0 ∷ [])

    pub length-staged : length staged ≡ gate + (length body + 10)
    length-staged = omega (arith, size, length-append (blocks 1 bodies) (0 ∷ (place ++ 0 ∷ [])), length-append place (0 ∷ []), length-place_of (suc (length bodies)) body)

    after_gate : drop (gate + 1) staged ≡ place ++ 0 ∷ []
    after_gate = sym (drop-drop 1 gate staged) ∙ ap (λ (l : List ℕ). drop 1 l) (drop_at (blocks 1 bodies) (0 ∷ (place ++ 0 ∷ [])) gate size)

    pub opened : blocks 1 bodies ++ 1 ∷ (place ++ 0 ∷ []) ≡ journal_bytes (bodies ++ body ∷ [])
    opened = ap (λ (n : ℕ). blocks 1 bodies ++ 1 ∷ (place_of n body ++ 0 ∷ [])) (omega arith) ∙ sym (blocks-push bodies 1 body (0 ∷ []))

    pub whole_opened : whole_records (journal_bytes (bodies ++ body ∷ [])) ≡ bodies ++ body ∷ []
    whole_opened = stands_for (bodies ++ body ∷ []) (0 ∷ []) (fit-push bodies 1 body fit small (omega arith)) (omega arith) (closed (suc (length (bodies ++ body ∷ []))) (0 ∷ []) (omega arith))

    -- the place stands whole in each outcome of opening its gate
    pub torn_gate : (c : List ℕ) → Torn gate 1 staged c → IsBeforeOrAfter bodies body c
    torn_gate c torn =
        let gate_byte = get_or c gate 0 in
        let rest : drop gate c ≡ gate_byte ∷ (place ++ 0 ∷ []) =
        drop_more c gate 0 (omega (arith, length-staged, torn.no_shorter)) ∙ ap (λ (l : List ℕ). gate_byte ∷ l) (torn.after ∙ after_gate) in
        let whole : c ≡ blocks 1 bodies ++ gate_byte ∷ (place ++ 0 ∷ []) =
        split_at gate c (blocks 1 bodies) (torn.before ∙ take_at (blocks 1 bodies) (0 ∷ (place ++ 0 ∷ [])) gate size) ∙ ap (λ (l : List ℕ). blocks 1 bodies ++ l) rest in
        elim (cases_eq gate_byte 1) [
          | inl is_open ↦ inr (ap whole_records (whole ∙ ap (λ (g : ℕ). blocks 1 bodies ++ g ∷ (place ++ 0 ∷ [])) is_open ∙ opened) ∙ whole_opened)
          | inr shut ↦ inl (ap whole_records whole ∙ stands_for bodies (gate_byte ∷ (place ++ 0 ∷ [])) fit (omega arith) (closed (suc (length bodies)) (gate_byte ∷ (place ++ 0 ∷ [])) shut))
        ]

    -- the gate with another byte
    written_byte : (gate_byte : ℕ) → overwritten gate (gate_byte ∷ []) staged ≡ blocks 1 bodies ++ gate_byte ∷ (place ++ 0 ∷ [])
    written_byte gate_byte =
        ap (λ (l : List ℕ). l ++ gate_byte ∷ drop (gate + 1) staged) (take_at (blocks 1 bodies) (0 ∷ (place ++ 0 ∷ [])) gate size)
        ∙ ap (λ (l : List ℕ). blocks 1 bodies ++ gate_byte ∷ l) after_gate

    pub written_gate : overwritten gate (1 ∷ []) staged ≡ journal_bytes (bodies ++ body ∷ [])
    written_gate = written_byte 1 ∙ opened

    written_shut : (gate_byte : ℕ) → gate_byte ≢ 1 → whole_records (overwritten gate (gate_byte ∷ []) staged) ≡ bodies
    written_shut gate_byte shut = ap whole_records (written_byte gate_byte) ∙ stands_for bodies (gate_byte ∷ (place ++ 0 ∷ [])) fit (omega arith) (closed (suc (length bodies)) (gate_byte ∷ (place ++ 0 ∷ [])) shut)

    -- what each pick makes of the opened gate
    pub picked_gate : (pick : ℕ) → whole_records (written_by pick gate (1 ∷ []) staged) ≡ records_left 4 pick bodies body
    picked_gate zero = behind_closed (place ++ 0 ∷ [])
    picked_gate (suc zero) = ap whole_records written_gate ∙ whole_opened
    picked_gate (suc (suc zero)) = written_shut 0 (λ same. absurd cc)
    picked_gate (suc (suc (suc more))) =
        let pick : ℕ = suc (suc (suc more)) in
        let first = ne_eqb pick 1 (λ same. omega (arith, same)) in
        ap whole_records (filled pick gate (1 ∷ []) staged (ne_eqb pick 0 (λ same. omega (arith, same))) first (ne_eqb pick 2 (λ same. omega (arith, same))))
        ∙ (written_shut 255 (λ same. absurd cc) ∙ sym (ap (λ (t : Bool). if t then bodies ++ body ∷ [] else bodies) first))

-- a new journal's gate may be torn too
pub torn_new : (c : List ℕ) → Torn 0 1 [] c → whole_records c ≡ []
torn_new c torn =
    elim (cases_eq (length c) 0) [
      | inl none ↦ ap whole_records (take_nothing c none) ∙ stands_for_nothing
      | inr some ↦ stands_for [] c tt (omega arith) (short 1 c (omega (arith, torn.no_longer)))
    ]
  where
    take_nothing : (c : List ℕ) → length c ≡ 0 → c ≡ []
    take_nothing [] none = refl
    take_nothing (x ∷ c) none = absurd (omega arith)

ends_size : (bodies : List (List ℕ)) (gate : ℕ) (bytes : List ℕ) → EndsAt gate bodies bytes → length (blocks 1 bodies) ≡ gate
ends_size bodies gate bytes ends = ap length (sym ends.front) ∙ length-take-le gate bytes (omega (arith, ends.inside))

pub ends_whole : (bodies : List (List ℕ)) (gate : ℕ) (bytes : List ℕ) → EndsAt gate bodies bytes → bodies ≡ whole_records bytes
ends_whole bodies gate bytes ends = sym (found bodies gate (ends_size bodies gate bytes ends) ends.fit bytes ends)

pub ends_counts : (bodies : List (List ℕ)) (gate : ℕ) (bytes : List ℕ) → EndsAt gate bodies bytes → 9 * length bodies ≤ gate
ends_counts bodies gate bytes ends = omega (arith, ends_size bodies gate bytes ends, length-blocks bodies 1)

pub ends_journal : (bodies : List (List ℕ)) (gate : ℕ) (bytes : List ℕ) → EndsAt gate bodies bytes → length bytes ≡ gate + 1 → get_or bytes gate 0 ≡ 0 → bytes ≡ journal_bytes bodies
ends_journal bodies gate bytes ends = is_journal bodies gate (ends_size bodies gate bytes ends) ends.fit bytes ends

pub ends_stands : (bodies : List (List ℕ)) (gate : ℕ) (bytes : List ℕ) → EndsAt gate bodies bytes → whole_records (journal_bytes bodies) ≡ bodies
ends_stands bodies gate bytes ends = journal_stands bodies gate (ends_size bodies gate bytes ends) ends.fit

pub no_bytes : (bytes : List ℕ) → length bytes ≡ 0 → bytes ≡ []
no_bytes [] none = refl
no_bytes (x ∷ bytes) none = absurd (omega arith)

pub nothing_whole : (bytes : List ℕ) → length bytes ≡ 0 → whole_records bytes ≡ []
nothing_whole bytes none = ap whole_records (no_bytes bytes none) ∙ stands_for_nothing
