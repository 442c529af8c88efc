-- A record that was read does what its parts do, or can't be taken.
use Rattle.std.proofs.Common.{◌≡◌, Bool, true, Option, Some, None, is_some, not, refl, sym, ap, ◌∙◌}
use Rattle.std.specs.Option.{option_map}
use Rattle.spec_records.specs.LocDurable.{loc_body_taken, loc_with_reply, LocDurable}
use Rattle.spec_records.specs.LocRecords.{LocBody, LocRecord}
use Rattle.afs_locstore.specs.States.{loc_done}

none_is : {A : Type 0} (o : Option A) (can : Bool) → can ≡ is_some o → not can ≡ true → o ≡ None
none_is {A} None can is cannot = refl
none_is {A} (Some x) can is cannot = absurd cc

-- v is the record that was read, and b is its body
pub not_done : (r v : LocRecord) (b : LocBody) (d : LocDurable) (can : Bool) → v ≡ r → b ≡ v.body → can ≡ is_some (loc_body_taken b d) → not can ≡ true → loc_done r d ≡ None
not_done r v b d can same told is cannot =
    ap (λ (x : LocRecord). loc_done x d) (sym same)
    ∙ (ap (λ (y : LocBody). option_map (loc_with_reply v.head.caller v.head) (loc_body_taken y d)) (sym told)
    ∙ ap (option_map (loc_with_reply v.head.caller v.head)) (none_is (loc_body_taken b d) can is cannot))

pub is_done : (r v : LocRecord) (b : LocBody) (d m e : LocDurable) → v ≡ r → b ≡ v.body → m ≡ d → loc_done (record { head = v.head; body = b }) m ≡ Some e → loc_done r d ≡ Some e
is_done r v b d m e same told parts done =
    ap (λ (x : LocRecord). loc_done x d) (sym same)
    ∙ (ap (λ (y : LocBody). option_map (loc_with_reply v.head.caller v.head) (loc_body_taken y d)) (sym told)
    ∙ (ap (λ (x : LocDurable). option_map (loc_with_reply v.head.caller v.head) (loc_body_taken b x)) (sym parts) ∙ done))
