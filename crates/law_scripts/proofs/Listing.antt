-- The location database can be set up for the volumes of a script.
use Rattle.std.proofs.Common.{◌≡◌, ◌≤◌, ◌<◌, ◌+◌, ◌*◌, ◌^◌, ℕ, Bool, true, List, [], ◌∷◌, length, Option, Some, None, not, nat_lt, refl, ap, ◌∙◌, arith, lit<, if◌then◌else◌}
use Rattle.std.specs.List.{AllByRecursion}
use Rattle.std.proofs.lemmas.Bool.Decides.{nat_tests}
use Rattle.spec_history.specs.declared.scripts.Script.{Script}
use Rattle.spec_history.specs.declared.scripts.VolumeLine.{VolumeLine}
use Rattle.spec_model.proofs.ScriptReaders.{le_of_test}
use Rattle.spec_records.specs.Entries.{entry_of_line}
use Rattle.spec_records.specs.LocDurable.{entries_set, first_id, first_stamp, lines_listed, listed_line, loc_first_folded, loc_first_record, loc_folded, loc_has_room, loc_placing, loc_with_journal, nothing_listed, numbered_as, LocDurable}
use Rattle.spec_records.specs.LocRecords.{listed_form, loc_record_bytes}
use Rattle.afs_words.specs.declared.nodes.Counts.{Counts}
use Rattle.afs_grammar.specs.CellScripts.{counts_of, AreVolumes, IsCellScript, IsVolume}
use Rattle.afs_grammar.specs.Lines.{fits_loc, loc_length}
use Rattle.afs_grammar.proofs.Entries.{first_entries}
use Rattle.afs_grammar.proofs.Names.{short_name}
use Rattle.afs_locdb.proofs.Formed.{entry_formed, listed_fits, none_fits}
use Rattle.law_scripts.specs.SetUps.{LocSetUpsAreAccepted}

-- ---- each volume has an entry that fits

line_fits : (c : Counts) (n : ℕ) (l : VolumeLine) → c.servers ≤ 8 → n < 2 ^ 32 → IsVolume c n l → listed_form.Fits (listed_line l)
line_fits c n l eight small h =
    let id = h.id in
    let name = short_name l.name h.name in
    let server = h.server in
    listed_fits (entry_of_line l) None (entry_formed
    (entry_of_line l)
    (record { name = (name, omega (arith, name)); count = (omega arith, lit< tt); sites = ((server.0, omega (arith, server.1, eight)), tt) })
    (omega (arith, id, small), (lit< tt, (lit< tt, (lit< tt, tt))))
    ((omega (arith, server.1, eight), (lit< tt, tt)), tt)) none_fits

all_fit : (c : Counts) (n : ℕ) (ls : List VolumeLine) → c.servers ≤ 8 → n + length ls < 2 ^ 32 → AreVolumes c n ls → AllByRecursion (λ (l : VolumeLine). listed_form.Fits (listed_line l)) ls
all_fit c n [] eight small h = tt
all_fit c n (l ∷ ls) eight small h = (line_fits c n l eight (omega (arith, small)) h.0, all_fit c (n + 1) ls eight (omega (arith, small)) h.1)

-- ---- there are few, for each has 44 bytes at least, and all fit on the disk

entries_are_long : (ls : List VolumeLine) → 44 * length ls ≤ loc_length ls
entries_are_long [] = omega arith
entries_are_long (l ∷ ls) = let rest = entries_are_long ls in omega (arith, rest)

few_volumes : (s : Script) → IsCellScript s → first_id + length s.volumes < 2 ^ 32
few_volumes s h =
    let fits = le_of_test (1 + loc_length s.volumes + 9) s.capacity h.loc in
    let most = h.capacity.1 in
    let long = entries_are_long s.volumes in
    omega (arith, fits, most, long)

-- ---- the record has room, and is folded

within : (capacity n : ℕ) → n ≤ capacity → not (nat_lt capacity n) ≡ true
within capacity n le = grind (arith, nat_tests, le)

has_room : (capacity : ℕ) (ls : List VolumeLine) → fits_loc capacity ls ≡ true → loc_has_room (nothing_listed capacity) (loc_first_record ls) ≡ true
has_room capacity ls fits =
    let size = first_entries ls in
    let le = le_of_test (1 + loc_length ls + 9) capacity fits in
    within capacity (1 + (length (loc_record_bytes (loc_first_record ls)) + 9)) (omega (arith, size, le))

folds : (capacity : ℕ) (ls : List VolumeLine) → (d : LocDurable) × (loc_first_folded (loc_first_record ls) (nothing_listed capacity) ≡ Some d)
unfolding loc_folded
folds capacity ls = (
  loc_with_journal (loc_placing (nothing_listed capacity) (loc_first_record ls)).journal (numbered_as (first_id + length ls) first_stamp (record (nothing_listed capacity) { entries = entries_set (lines_listed ls) [] })),
  refl,
)

pub loc_set_ups_are_accepted : LocSetUpsAreAccepted
loc_set_ups_are_accepted s h =
    let few = few_volumes s h in
    let made = folds s.capacity s.volumes in (
      record { fit = all_fit (counts_of s) 536870912 s.volumes h.servers.1 few h.volumes; few = few },
      (made.0, ap (λ (b : Bool). if b then loc_first_folded (loc_first_record s.volumes) (nothing_listed s.capacity) else None) (has_room s.capacity s.volumes h.loc) ∙ made.1),
    )
