-- The records of a change and of set-up have a spelling.
use Rattle.std.proofs.Common.{◌≡◌, ◌≤◌, ◌<◌, ◌^◌, ℕ, Bool, true, false, List, [], ◌∷◌, length, Option, Some, refl, sym, ap, ◌∙◌, arith, lit<, eqb-true}
use Rattle.std.specs.Prelude.{nat_eq}
use Rattle.std.specs.List.{AllByRecursion}
use Rattle.spec_history.specs.declared.scripts.VolumeLine.{VolumeLine}
use Rattle.spec_model.proofs.Basics.{same_node-refl}
use Rattle.afs_num.specs.Nodes.{node_number, node_of, same_node, IsNode}
use Rattle.afs_num.specs.declared.types.Head.{Head}
use Rattle.afs_num.specs.declared.types.Node.{Node}
use Rattle.afs_num.specs.declared.types.Node.TheVariants.{Loc}
use Rattle.spec_records.specs.Changes.{keeping, no_head}
use Rattle.spec_records.specs.LocDurable.{lines_listed, listed_line, loc_first_record}
use Rattle.spec_records.specs.LocRecords.{deed_form, listed_form, loc_record, Database, EntryDeed, FitsLocRecord}
use Rattle.spec_records.specs.Records.{head_form}
use Rattle.spec_model.specs.Calls.{key_of}
use Rattle.afs_locdb.specs.Creating.{CanBeListed}
use Rattle.spec_records.proofs.Callers.{caller_fits}

abbrev some : {A : Type 0} → A → Option A
some x = Some x

some_is : {A : Type 0} (x y : A) → some x ≡ some y → x ≡ y
some_is x y e = cc

-- a node other than the database itself has another number than 0
other_number : (b : Bool) (n : Node) → nat_eq (node_number n) 0 ≡ b → IsNode n → same_node n Loc ≡ false → b ≡ false
other_number false n e node other = refl
other_number true n e node other =
    let zero = eqb-true (node_number n) 0 e in
    let same : Loc ≡ n = some_is Loc n (ap node_of (sym zero) ∙ node) in
    let yes : same_node n Loc ≡ true = ap (λ (m : Node). same_node m Loc) (sym same) ∙ same_node-refl Loc in
    absurd cc

pub change_fits : (head : Head) (reply : List ℕ) (deed : EntryDeed) (next_id next_stamp : ℕ) → IsNode head.from → same_node head.from Loc ≡ false → head.epoch < 2 ^ 32 → head.number < 2 ^ 32 → length reply ≤ 4294967295 → deed_form.Fits deed →
    next_id < 2 ^ 32 → next_stamp < 2 ^ 32 → FitsLocRecord (loc_record (keeping (key_of head) reply) (Database deed next_id next_stamp))
unfolding head_form
change_fits head reply deed next_id next_stamp node other epoch number short fits id stamp = record {
  head = ((lit< tt, (lit< tt, (caller_fits head.from node (other_number (nat_eq (node_number head.from) 0) head.from refl node other), (epoch, (number, (short, omega (arith, short))))))), refl);
  body = (fits, (id, (stamp, tt)));
  caller = refl;
}

-- ---- set-up

all_fit : (ls : List VolumeLine) → AllByRecursion (λ (l : VolumeLine). listed_form.Fits (listed_line l)) ls → AllByRecursion listed_form.Fits (lines_listed ls)
all_fit [] fit = tt
all_fit (l ∷ ls) fit = (fit.0, all_fit ls fit.1)

as_long : (ls : List VolumeLine) → length (lines_listed ls) ≡ length ls
as_long [] = refl
as_long (l ∷ ls) = let rest = as_long ls in omega (arith, rest)

none_fits : head_form.Fits no_head
unfolding head_form
none_fits = ((lit< tt, (lit< tt, ((lit< tt, refl), (lit< tt, (lit< tt, (omega arith, lit< tt)))))), refl)

pub first_fits : (ls : List VolumeLine) → CanBeListed ls → FitsLocRecord (loc_first_record ls)
first_fits ls can =
    let long = as_long ls in
    let few = can.few in
    record {
      head = none_fits;
      body = ((omega (arith, long, few), all_fit ls can.fit), (few, (lit< tt, tt)));
      caller = refl;
    }
