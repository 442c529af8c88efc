-- A verdict in code on any call is that of the row, with what was looked up for it.
use Rattle.std.proofs.Common.{◌≡◌, ℕ, Bool, false, true, Option, Some, List, refl, sym, ap, subst, ◌∙◌}
use Rattle.std.specs.Prelude.{is_some, IfOk, Result}
use Rattle.std.specs.Borrow.{Bor}
use Rattle.std.specs.Option.{option_copied}
use Rattle.afs_num.specs.declared.messages.Call.TheVariants as ask
use Rattle.afs_num.specs.declared.volume_calls.ListedVolume.{ListedVolume}
use Rattle.afs_num.specs.declared.volume_calls.VolCall.{VolCall}
use Rattle.afs_num.specs.declared.volume_calls.VolCall.TheVariants as calls
use Rattle.spec_ideal.specs.Tables.{get, Table}
use Rattle.spec_model.specs.CellRows.{call_number}
use Rattle.spec_records.specs.Durable.{Durable, Stored}
use Rattle.spec_fold.specs.Deeds.{has_volume, has_volume_room}
use Rattle.afs_shelves.specs.Shelving.{stored_as}
use Rattle.afs_volume.specs.declared.volume.Volume.{Volume}
use Rattle.spec_volrows.specs.VolRow as row
use Rattle.spec_volrows.specs.VolRow.{found}
use Rattle.spec_volrows.specs.VolStates.{Transaction}
use Rattle.afs_voldecisions.specs.Verdicts.{family_in, is_clone, is_outside, judged_in, number_in, IsDecided, IsHeld, IsNamedBy, IsShelf, IsVerdict, Sees}
use Rattle.afs_voldecisions.specs.declared.verdicts.Verdict.{Verdict}
use Rattle.afs_voldecisions.proofs.Judging.{decided_of, row_in, weaker}
use Rattle.afs_voldecisions.proofs.Seeing.{one_of_family, seen_there}

-- a transaction begins on a volume that is there and of the family
pub begins_seen : {E : Type 0} (r : Result Verdict E) (ts : Table Transaction) (last stamp family id flags : ℕ) (named : Option (Bor Volume)) (w : Volume) → family_in family (option_copied named) ≡ Some w →
    IfOk r (λ x. (s : Stored) → IsVerdict 108 (row.begins_on ts last stamp family id flags (Some s)) x) →
    IfOk r (λ x. (o : Option Stored) → IsShelf id named o → IsVerdict 108 (row.begins_on ts last stamp family id flags (row.volume_of_family family o)) x)
begins_seen r ts last stamp family id flags named w of h =
    weaker r h (λ x decides o is.
    let one = one_of_family family id named o w is of in
    subst (λ (s : Option Stored). IsVerdict 108 (row.begins_on ts last stamp family id flags s) x) (sym one.1) (decides (stored_as one.0 w)))

-- in a transaction that is found
pub found_decides : {E : Type 0} (r : Result Verdict E) (ts : Table Transaction) (call : VolCall) (has_room : Bool) (named held : Option (Bor Volume)) (t : Transaction) → found (row.family_of call) (number_in call) ts ≡ Some t →
    IfOk r (λ x. (d : Durable) (o : Option Stored) → has_room ≡ has_volume_room d → IsNamedBy d call named → IsShelf t.volume held o → IsDecided (call_number (ask.Volume call)) held (row.in_its_volume t (judged_in d ts call) o) x) →
    IfOk r (λ x. (d : Durable) → has_room ≡ has_volume_room d → IsNamedBy d call named → IsHeld d ts call held → IsDecided (call_number (ask.Volume call)) held (row.in_transaction d (found (row.family_of call) (number_in call) ts) (judged_in d ts call)) x)
found_decides r ts call has_room named held t is h =
    weaker r h (λ x decides d room seen held_is.
    subst (λ (o : Option Transaction). IsDecided (call_number (ask.Volume call)) held (row.in_transaction d o (judged_in d ts call)) x) (sym is) (decides d (get t.volume d.volumes) room seen (held_is t is)))

-- ---- each call

module _ (ts : Table Transaction) (last stamp : ℕ) (has_room : Bool) (listed : List ListedVolume) (named held : Option (Bor Volume)) where
  abbrev DecidesOn : VolCall → Verdict → Type 0
  DecidesOn call x = (d : Durable) → Sees d ts call named held has_room listed → IsDecided (call_number (ask.Volume call)) held (row.verdict d ts last stamp call) x

  on_call : {E : Type 0} {P : Verdict → Type 0} (r : Result Verdict E) (call made : VolCall) → call ≡ made → IfOk r P → ((x : Verdict) → P x → DecidesOn made x) → IfOk r (DecidesOn call)
  on_call r call made is h f = subst (λ (c : VolCall). IfOk r (DecidesOn c)) (sym is) (weaker r h f)

  pub creates_on : {E : Type 0} (r : Result Verdict E) (call : VolCall) (there : Bool) (before family id : ℕ) (name : List ℕ) (kind flags quota : ℕ) → call ≡ calls.CreateVolume family id name kind flags quota →
      there ≡ is_some named → before ≡ last →
      IfOk r (λ x. (d : Durable) → there ≡ has_volume id d → has_room ≡ has_volume_room d → IsVerdict 100 (row.creates d before stamp family id name kind flags quota) x) → IfOk r (DecidesOn call)
  creates_on r call there before family id name kind flags quota is seen same h =
      on_call r call _ is h (λ x decides d sees.
      decided_of _ held _ x
      (subst (λ (n : ℕ). IsVerdict 100 (row.creates d n stamp family id name kind flags quota) x) same (decides d (seen ∙ seen_there id named (get id d.volumes) (sees.named_is id refl)) sees.room_is)))

  pub begins_in : {E : Type 0} (r : Result Verdict E) (call : VolCall) (family id flags : ℕ) → call ≡ calls.TransCreate family id flags →
      IfOk r (λ x. (o : Option Stored) → IsShelf id named o → IsVerdict 108 (row.begins_on ts last stamp family id flags (row.volume_of_family family o)) x) → IfOk r (DecidesOn call)
  begins_in r call family id flags is h = on_call r call _ is h (λ x decides d sees. decided_of _ held _ x (decides (get id d.volumes) (sees.named_is id refl)))

  pub clones_on : {E : Type 0} (r : Result Verdict E) (call : VolCall) →
      IfOk r (λ x. (d : Durable) (last stamp : ℕ) → has_room ≡ has_volume_room d → IsNamedBy d call named → IsHeld d ts call held → IsDecided (call_number (ask.Volume call)) held (row.verdict d ts last stamp call) x) → IfOk r (DecidesOn call)
  clones_on r call h = weaker r h (λ x decides d sees. decides d last stamp sees.room_is sees.named_is sees.held_is)

  pub others_on : {E : Type 0} (r : Result Verdict E) (call : VolCall) → is_outside call ≡ false → is_clone call ≡ false →
      IfOk r (λ x. (d : Durable) → has_room ≡ has_volume_room d → IsNamedBy d call named → IsHeld d ts call held → IsDecided (call_number (ask.Volume call)) held (row.in_transaction d (found (row.family_of call) (number_in call) ts) (judged_in d ts call)) x) →
      IfOk r (DecidesOn call)
  others_on r call inside other h =
      weaker r h (λ x decides d sees.
      subst (λ (v : row.Verdict). IsDecided (call_number (ask.Volume call)) held v x) (sym (row_in d ts last stamp call inside other)) (decides d sees.room_is sees.named_is sees.held_is))
