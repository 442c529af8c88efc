-- How long the first record of the location database is.
use Rattle.std.proofs.Common.{◌≡◌, ℕ, ◌+◌, List, [], ◌∷◌, ◌++◌, length, None, refl, ap, ◌∙◌, arith}
use Rattle.std.specs.List.{flat_map}
use Rattle.std.proofs.lemmas.List.{length-append}
use Rattle.std.proofs.lemmas.List.Concat.{flat_map-cons}
use Rattle.afs_xdr.specs.Words.{word, opaque}
use Rattle.spec_history.specs.declared.scripts.VolumeLine.{VolumeLine}
use Rattle.spec_records.specs.Changes.{no_head}
use Rattle.spec_records.specs.Entries.{entry_of_line, exists_read_write}
use Rattle.spec_records.specs.LocDurable.{first_id, first_stamp, lines_listed, listed_line, loc_first_record}
use Rattle.spec_records.specs.LocRecords.{entry_form, listed_form, lock_form, loc_record_bytes, sites_form}
use Rattle.spec_records.specs.Records.{head_form}
use Rattle.afs_grammar.specs.Lines.{filled_up, loc_length}
use Rattle.afs_grammar.proofs.Sizes.{behind, head_is, opaque_size}

-- an entry's numbers, its flags and its one site have seven words
numbers_are : (v : VolumeLine) → length (word v.id ++ (word 0 ++ (word 0 ++ (word exists_read_write ++ sites_form.spelled (entry_of_line v).sites)))) ≡ 28
unfolding word
numbers_are v = refl

-- no lock has three
no_lock_is : length (lock_form.spelled None) ≡ 12
unfolding word
no_lock_is = refl

entry_is : (v : VolumeLine) → length (listed_form.spelled (listed_line v)) ≡ 44 + filled_up (length v.name)
unfolding entry_form
entry_is v =
    let numbers = word v.id ++ (word 0 ++ (word 0 ++ (word exists_read_write ++ sites_form.spelled (entry_of_line v).sites))) in
    let a = length-append (opaque v.name ++ numbers) (lock_form.spelled None) in
    let b = length-append (opaque v.name) numbers in
    let c = opaque_size v.name in
    let d = numbers_are v in
    omega (arith, a, b, c, d, no_lock_is)

entries_are : (vs : List VolumeLine) → 40 + length (flat_map listed_form.spelled (lines_listed vs)) ≡ loc_length vs
entries_are [] = refl
entries_are (v ∷ vs) =
    let a = ap length (flat_map-cons listed_form.spelled (listed_line v) (lines_listed vs)) in
    let b = length-append (listed_form.spelled (listed_line v)) (flat_map listed_form.spelled (lines_listed vs)) in
    let c = entry_is v in
    let d = entries_are vs in
    omega (arith, a, b, c, d)

-- the next number and the next stamp
counters_are : (vs : List VolumeLine) → length (word (first_id + length vs) ++ (word first_stamp ++ [])) ≡ 8
unfolding word
counters_are vs = refl

pub first_entries : (vs : List VolumeLine) → length (loc_record_bytes (loc_first_record vs)) ≡ loc_length vs
unfolding loc_record_bytes
first_entries vs =
    let entries = flat_map listed_form.spelled (lines_listed vs) in
    let count = word (length (lines_listed vs)) in
    let counters = word (first_id + length vs) ++ (word first_stamp ++ []) in
    let a = behind 1 (head_form.spelled no_head ++ ((count ++ entries) ++ counters)) in
    let b = length-append (head_form.spelled no_head) ((count ++ entries) ++ counters) in
    let c = length-append (count ++ entries) counters in
    let d = behind (length (lines_listed vs)) entries in
    let e = counters_are vs in
    let f = entries_are vs in
    omega (arith, a, b, c, d, e, f, head_is)
