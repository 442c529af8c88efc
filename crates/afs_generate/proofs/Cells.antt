-- A made script is one of a cell.
use Rattle.std.specs.Prelude.{◌≡◌, ◌≤◌, ◌<◌, ◌==◌, ℕ, zero, suc, ◌+◌, ◌*◌, ◌%◌, ◌^◌, List, [], ◌∷◌, ◌++◌, Bool, true, false, Option, Some, None, Result, Ok, Err, length, flat_map, replicate, cond, nat_eq, nat_le, if◌then◌else◌}
use Rattle.std.specs.Fmt.{decimal, digits}
use Rattle.std.specs.List.{All}
use Rattle.std.proofs.Common.{refl, ap, ◌∙◌, arith, mod-lt}
use Rattle.std.proofs.lemmas.Fmt.{decimal_nonempty, length-decimal-le_succ}
use Rattle.std.proofs.lemmas.List.{length-replicate}
use Rattle.std.proofs.lemmas.List.Elements.{All-cons, All-head, All-nil, All-tail}
use Rattle.afs_xdr.specs.Words.{opaque, pad, word}
use Rattle.afs_num.specs.Names.{is_name_of, name_ok, volume_name_ok}
use Rattle.spec_ideal.specs.SetUp.{empty_volume, laid, laid_or, laid_at, led}
use Rattle.spec_ideal.specs.AccessLists.{acl_text, acl_entry_text, rights_of}
use Rattle.spec_ideal.specs.Directories.{bytes_below, directory_bytes, name_bytes}
use Rattle.spec_ideal.specs.Volumes.{Volume}
use Rattle.spec_history.specs.declared.scripts.AdminAct.{AdminAct}
use Rattle.spec_history.specs.declared.scripts.AdminAct.TheVariants as admin_acts
use Rattle.spec_history.specs.declared.scripts.Event.TheVariants as events
use Rattle.spec_history.specs.declared.scripts.SetupLine.{SetupLine}
use Rattle.spec_history.specs.declared.scripts.Task.{Task}
use Rattle.spec_history.specs.declared.scripts.Task.TheVariants as tasks
use Rattle.spec_history.specs.declared.scripts.VolumeLine.{VolumeLine}
use Rattle.afs_words.specs.declared.nodes.Counts.{Counts}
use Rattle.afs_grammar.specs.CellScripts.{AreAccepted, AreApart, FitsAdminAct, FitsEvent, FitsPlan, FitsTask, FitsUser, IsCellScript, IsName, IsOperand, IsShortAct, IsVolume}
use Rattle.afs_grammar.specs.Sizes.{volumes_size, AscendFrom}
use Rattle.afs_grammar.proofs.Sizes.{first_record}
use Rattle.afs_grammar.specs.Lines.{fits_loc, fits_server, setup_accepts, ticks_in, lines_of_server}
use Rattle.afs_generate.specs.Generated.{act_drawn, act_drawn_at, acts_from, acts_of, admin_act_behind, drawn, file_at, file_name, generated, lines_from, lot_behind, doer_of, played, tasks_at, volume, volume_name, made_volumes}

-- ---- acts

abbrev counts : Counts
counts = record { servers = 3; clients = 6; admins = 1 }

-- a letter and a small number are a name
short : (most n : ℕ) (letter : ℕ) → n + 2 ≤ most → n < 2 ^ 64 → IsName most (letter ∷ decimal n)
short most n letter few small = (omega (arith, decimal_nonempty n small), omega (arith, length-decimal-le_succ n small, few))

drawn_below : (below x : ℕ) → 0 < below → drawn below x < below
unfolding drawn
drawn_below below x some = mod-lt _ some

operand_is : (file : ℕ) → file < 40 → IsOperand (file_at file)
operand_is file small =
    let third : file % 3 < 3 = mod-lt file (omega (arith)) in
    record { volume = short 32 (file % 3) 118 (omega (arith, third)) (omega (arith, third)); names = All-cons (IsName 256) (file_name file) [] (short 256 file 102 (omega (arith, small)) (omega (arith, small))) (All-nil (IsName 256)) }

filled : (count byte : ℕ) → count < 4096 → length (replicate count byte) ≤ 2097152
filled count byte small = omega (arith, length-replicate count byte, small)

act_is_short : (k file stored x : ℕ) → file < 40 → IsShortAct (act_drawn k file stored x).act
act_is_short k file zero x small = operand_is file small
act_is_short k file (suc other) x small = (operand_is file small, filled (drawn 4096 (lot_behind x)) (k % 256) (drawn_below 4096 (lot_behind x) (omega (arith))))

task_fits : (k x : ℕ) → FitsTask counts (act_drawn_at k x).0
task_fits k x =
    let client = drawn_below 6 (lot_behind x) (omega (arith)) in
    let file = drawn_below 40 (lot_behind (lot_behind x)) (omega (arith)) in
    ((omega (arith), omega (arith, client)), act_is_short k (drawn 40 (lot_behind (lot_behind x))) (drawn 2 (lot_behind (lot_behind (lot_behind x)))) (lot_behind (lot_behind (lot_behind x))) file)

-- ---- what the administrator does

abbrev FitsIfAny : Option AdminAct → Type 0
FitsIfAny None = Unit {0}
FitsIfAny (Some act) = FitsAdminAct counts act

name_is : (volume : ℕ) → volume < 3 → IsName 32 (volume_name volume)
name_is volume small = short 32 volume 118 (omega (arith, small)) (omega (arith, small))

either : (b : Bool) (x y : Option AdminAct) → FitsIfAny x → FitsIfAny y → FitsIfAny (if b then x else y)
either true x y p q = p
either false x y p q = q

behind_fits : (n k : ℕ) → FitsIfAny (admin_act_behind n k)
behind_fits n k =
    either (k == 2 * n) _ _ (name_is 1 (omega arith), (omega arith, omega arith))
    (either (k == 3 * n) _ _ (name_is 1 (omega arith))
    (either (k == 5 * n) _ _ (name_is 0 (omega arith), (omega arith, omega arith))
    (either (k == 8 * n) (Some (admin_acts.Move (volume_name 2) 1)) None (name_is 2 (omega arith), (omega arith, omega arith)) tt)))

-- ---- all acts

both_fit : (task : Task) (admin : Option AdminAct) (more : List Task) → FitsTask counts task → FitsIfAny admin → All (FitsTask counts) more → All (FitsTask counts) (tasks_at task admin ++ more)
both_fit task None more t a rest = All-cons (FitsTask counts) task more t rest
both_fit task (Some act) more t a rest = All-cons (FitsTask counts) task (tasks.Admin 1 act ∷ more) t (All-cons (FitsTask counts) (tasks.Admin 1 act) more ((omega arith, omega arith), a) rest)

acts_fit : (n more k x : ℕ) → All (FitsTask counts) (acts_from n more k x)
unfolding acts_from
acts_fit n zero k x = All-nil (FitsTask counts)
acts_fit n (suc more) k x = both_fit (act_drawn_at k x).0 (admin_act_behind n k) (acts_from n more (k + 1) (act_drawn_at k x).1) (task_fits k x) (behind_fits n k) (acts_fit n more (k + 1) (act_drawn_at k x).1)

-- ---- the schedule

node_fits : (task : Task) → FitsTask counts task → FitsEvent counts (events.Act (doer_of task))
node_fits (tasks.Client client act) t = t.0
node_fits (tasks.Admin admin act) t = t.0

events_fit : (ts : List Task) → All (FitsTask counts) ts → All (FitsEvent counts) (flat_map played ts)
events_fit [] all = All-nil (FitsEvent counts)
events_fit (t ∷ ts) all =
    All-cons (FitsEvent counts) (events.Act (doer_of t)) (events.Drain ∷ flat_map played ts) (node_fits t (All-head (FitsTask counts) t ts all))
    (All-cons (FitsEvent counts) events.Drain (flat_map played ts) tt (events_fit ts (All-tail (FitsTask counts) t ts all)))

no_ticks : (ts : List Task) → ticks_in (flat_map played ts) ≡ 0
no_ticks [] = refl
no_ticks (t ∷ ts) = omega (arith, no_ticks ts)

-- ---- the volumes

-- set-up accepts all lines
abbrev goes_on : (Volume → Bool) → Result Volume ℕ → Bool
goes_on next (Ok w) = next w
goes_on next (Err code) = false

abbrev all_accepted : ℕ → List SetupLine → Volume → Bool
all_accepted id [] v = true
all_accepted id (l ∷ ls) v = goes_on (all_accepted id ls) (laid id l v)

accepted : (id : ℕ) (ls : List SetupLine) (v : Volume) → all_accepted id ls v ≡ true → AreAccepted id ls v
accepted id [] v all = tt
accepted id (l ∷ ls) v all = by (laid id l v) (accepted id ls) all where
  by : (r : Result Volume ℕ) → ((w : Volume) → all_accepted id ls w ≡ true → AreAccepted id ls w) → goes_on (all_accepted id ls) r ≡ true → (setup_accepts r ≡ Ok tt) × AreAccepted id ls (laid_or v r)
  by (Ok w) next all = (refl, next w all)
  by (Err code) next all = absurd cc

abbrev AllAccepted : VolumeLine → Type 0
AllAccepted l = all_accepted l.id l.lines (empty_volume l) ≡ true

first_accepted : AllAccepted (volume 0 14)
unfolding lines_from digits laid_at led rights_of acl_text acl_entry_text directory_bytes name_bytes bytes_below name_ok word opaque pad
first_accepted = refl

second_accepted : AllAccepted (volume 1 13)
unfolding lines_from digits laid_at led rights_of acl_text acl_entry_text directory_bytes name_bytes bytes_below name_ok word opaque pad
second_accepted = refl

third_accepted : AllAccepted (volume 2 13)
unfolding lines_from digits laid_at led rights_of acl_text acl_entry_text directory_bytes name_bytes bytes_below name_ok word opaque pad
third_accepted = refl

one_is : (n number files : ℕ) → 536870912 + number ≡ n → volume_name_ok (volume_name number) ≡ true → number < 3 → AllAccepted (volume number files) → IsVolume counts n (volume number files)
one_is n number files id name small all = record {
  id = id;
  name = name;
  server = (omega arith, omega (arith, small));
  quota = (omega arith, omega arith);
  lines = accepted (536870912 + number) (lines_from files number) (empty_volume (volume number files)) all;
}

first_name : volume_name_ok (volume_name 0) ≡ true
unfolding digits volume_name_ok is_name_of
first_name = refl

second_name : volume_name_ok (volume_name 1) ≡ true
unfolding digits volume_name_ok is_name_of
second_name = refl

third_name : volume_name_ok (volume_name 2) ≡ true
unfolding digits volume_name_ok is_name_of
third_name = refl

are_apart : AreApart made_volumes
unfolding digits
are_apart = ((refl, (refl, tt)), ((refl, tt), (tt, tt)))

-- whichever of them a server has, they fit there
abbrev v0 : VolumeLine
v0 = volume 0 14

abbrev v1 : VolumeLine
v1 = volume 1 13

abbrev v2 : VolumeLine
v2 = volume 2 13

abbrev some_of : Bool → Bool → Bool → List VolumeLine
some_of a b c = cond a (v0 ∷ cond b (v1 ∷ cond c (v2 ∷ []) []) (cond c (v2 ∷ []) [])) (cond b (v1 ∷ cond c (v2 ∷ []) []) (cond c (v2 ∷ []) []))

few : (a b c : Bool) → length (some_of a b c) ≤ 64
few true true true = omega arith
few true true false = omega arith
few true false true = omega arith
few true false false = omega arith
few false true true = omega arith
few false true false = omega arith
few false false true = omega arith
few false false false = omega arith

ascend : (a b c : Bool) → AscendFrom 0 (some_of a b c)
ascend true true true = (omega arith, (omega arith, (omega arith, tt)))
ascend true true false = (omega arith, (omega arith, tt))
ascend true false true = (omega arith, (omega arith, tt))
ascend true false false = (omega arith, tt)
ascend false true true = (omega arith, (omega arith, tt))
ascend false true false = (omega arith, tt)
ascend false false true = (omega arith, tt)
ascend false false false = tt

abbrev IsShort : List VolumeLine → Type 0
IsShort ls = nat_le (1 + (41 + volumes_size ls)) 268435456 ≡ true

short_record : (a b c : Bool) → IsShort (some_of a b c)
unfolding lines_from digits laid_at led rights_of acl_text acl_entry_text directory_bytes name_bytes bytes_below name_ok word opaque pad
short_record true true true = refl
short_record true true false = refl
short_record true false true = refl
short_record true false false = refl
short_record false true true = refl
short_record false true false = refl
short_record false false true = refl
short_record false false false = refl

few_at : (server : ℕ) → length (lines_of_server server made_volumes) ≤ 64
few_at server = few (nat_eq 1 server) (nat_eq 2 server) (nat_eq 3 server)

-- the first record is short
fits : (ls : List VolumeLine) → AscendFrom 0 ls → IsShort ls → fits_server 268435456 ls ≡ true
fits ls is_ascending is_short = ap (λ (n : ℕ). nat_le (1 + n) 268435456) (first_record 0 ls is_ascending) ∙ is_short

fits_at : (server : ℕ) → fits_server 268435456 (lines_of_server server made_volumes) ≡ true
fits_at server = fits (lines_of_server server made_volumes) (ascend (nat_eq 1 server) (nat_eq 2 server) (nat_eq 3 server)) (short_record (nat_eq 1 server) (nat_eq 2 server) (nat_eq 3 server))

fits_at_loc : fits_loc 268435456 made_volumes ≡ true
unfolding digits
fits_at_loc = refl

-- ---- the script

pub of_cell : (n : ℕ) → IsCellScript (generated n)
of_cell n = record {
  servers = (omega arith, omega arith);
  clients = omega arith;
  admins = omega arith;
  cache = (omega arith, omega arith);
  capacity = (omega arith, omega arith);
  users = All-nil (FitsUser counts);
  volumes = (one_is 536870912 0 14 refl first_name (omega arith) first_accepted, (one_is 536870913 1 13 refl second_name (omega arith) second_accepted, (one_is 536870914 2 13 refl third_name (omega arith) third_accepted, tt)));
  few = few_at;
  apart = are_apart;
  fits = fits_at;
  loc = fits_at_loc;
  tasks = acts_fit n (10 * n) 1 n;
  plans = All-nil (FitsPlan counts);
  events = events_fit (acts_of n) (acts_fit n (10 * n) 1 n);
  ticks = omega (arith, no_ticks (acts_of n));
}
