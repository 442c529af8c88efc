-- The name of a volume is within the limit of a record.
use Rattle.std.proofs.Common.{◌≡◌, ℕ, ◌≤◌, true, List, length, arith}
use Rattle.std.specs.Prelude.{◌&&◌, nat_le, nat_lt, not}
use Rattle.std.specs.List.{list_all}
use Rattle.afs_num.specs.Names.{has_size, is_copy_name, is_in, is_name_of, is_plain, volume_name_ok}
use Rattle.spec_ideal.proofs.Basics.{both}
use Rattle.spec_model.proofs.ScriptReaders.{le_of_test}
use Rattle.spec_records.specs.Records.{most_name}

pub short_name : (name : List ℕ) → volume_name_ok name ≡ true → length name ≤ most_name
unfolding volume_name_ok is_name_of
short_name name ok =
    let ends = both (is_name_of 22 name && not (list_all (is_in 48 57) name)) (not (is_copy_name name)) ok in
    let digits = both (is_name_of 22 name) (not (list_all (is_in 48 57) name)) ends.0 in
    let plain = both (has_size 22 name) (list_all is_plain name) digits.0 in
    let size = both (nat_lt 0 (length name)) (nat_le (length name) 22) plain.0 in
    let most = le_of_test (length name) 22 size.1 in
    omega (arith, most)
