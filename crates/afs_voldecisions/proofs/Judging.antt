-- Verdicts in code are those of the row.
use Rattle.std.proofs.Common.{◌≡◌, ℕ, Bool, true, false, Option, Some, None, eqb-true, refl, sym, ap, subst, ◌∙◌}
use Rattle.std.proofs.lemmas.Result.{IfOk-weaker}
use Rattle.std.specs.Prelude.{if◌then◌else◌, nat_eq, IfOk, List, Result}
use Rattle.std.specs.Borrow.{Bor}
use Rattle.afs_num.specs.declared.messages.Call.TheVariants as ask
use Rattle.afs_num.specs.declared.volume_calls.VolCall.{VolCall}
use Rattle.afs_num.specs.declared.volume_calls.VolCall.TheVariants as calls
use Rattle.spec_ideal.specs.Tables.{get, Table}
use Rattle.spec_model.specs.CellRows.{call_number}
use Rattle.spec_records.specs.Durable.{Durable, Stored}
use Rattle.spec_fold.specs.Deeds.{has_volume, has_volume_room}
use Rattle.afs_shelves.specs.Shelving.{stored_as}
use Rattle.afs_volume.specs.declared.volume.Volume.{Volume}
use Rattle.spec_volrows.specs.VolRow as row
use Rattle.spec_volrows.specs.VolRow.{found}
use Rattle.spec_volrows.specs.VolStates.{Transaction}
use Rattle.afs_voldecisions.specs.Verdicts.{is_clone, is_outside, judged_in, made_in, named_in, number_in, IsDecided, IsJudged, IsMadeIn, IsMadeOrNone, IsMadeWith, IsNamedBy, IsShelf, IsVerdict, Judges}
use Rattle.afs_voldecisions.specs.declared.verdicts.Verdict.{Verdict}
use Rattle.afs_voldecisions.specs.declared.verdicts.Verdict.TheVariants as verdicts

pub weaker : {E : Type 0} {P Q : Verdict → Type 0} (r : Result Verdict E) → IfOk r P → ((x : Verdict) → P x → Q x) → IfOk r Q
weaker {E} {P} {Q} r h f = IfOk-weaker r P Q f h

-- ---- where no volume was made to judge a call

unmade_is : (v : Volume) (x : Verdict) → made_in x ≡ None → IsMadeIn v x
unmade_is v (verdicts.Refused code after) e = tt
unmade_is v (verdicts.Accepted p) e = subst (λ (o : Option Volume). IsMadeOrNone v p.body o) (sym e) tt
unmade_is v (verdicts.Sends x) e = tt

pub judged_of : (opcode : ℕ) (v : Volume) (r : row.Verdict) (x : Verdict) → IsVerdict opcode r x → IsJudged opcode v r x
judged_of opcode v r x is = record { decides = is.decides; told = is.told; made = unmade_is v x is.unmade }

made_of : (held : Option (Bor Volume)) (x : Verdict) → made_in x ≡ None → IsMadeWith held x
made_of None x e = e
made_of (Some v) x e = unmade_is v.now x e

pub decided_of : (opcode : ℕ) (held : Option (Bor Volume)) (r : row.Verdict) (x : Verdict) → IsVerdict opcode r x → IsDecided opcode held r x
decided_of opcode held r x is = record { decides = is.decides; told = is.told; made = made_of held x is.unmade }

pub decided_in : (opcode : ℕ) (v : Bor Volume) (r : row.Verdict) (x : Verdict) → IsJudged opcode v.now r x → IsDecided opcode (Some v) r x
decided_in opcode v r x is = record { decides = is.decides; told = is.told; made = is.made }

-- ---- calls in a transaction

some_is : {A : Type 0} (x y : A) → ◌≡◌ {A = Option A} (Some x) (Some y) → x ≡ y
some_is {A} x y e = cc

pub row_in : (d : Durable) (ts : Table Transaction) (last stamp : ℕ) (call : VolCall) → is_outside call ≡ false → is_clone call ≡ false →
    row.verdict d ts last stamp call ≡ row.in_transaction d (found (row.family_of call) (number_in call) ts) (judged_in d ts call)
row_in d ts last stamp (calls.CreateVolume family id name kind flags quota) o c = absurd cc
row_in d ts last stamp (calls.DeleteVolume family number) o c = refl
row_in d ts last stamp (calls.Restore family number offset final piece) o c = refl
row_in d ts last stamp (calls.Forward family number from server target) o c = refl
row_in d ts last stamp (calls.EndTrans family number) o c = refl
row_in d ts last stamp (calls.Clone family number id name kind) o c = absurd cc
row_in d ts last stamp (calls.SetFlags family number flags) o c = refl
row_in d ts last stamp (calls.GetFlags family number) o c = refl
row_in d ts last stamp (calls.TransCreate family id flags) o c = absurd cc
row_in d ts last stamp (calls.Dump family number from offset) o c = refl
row_in d ts last stamp (calls.SetForwarding family number server) o c = refl
row_in d ts last stamp (calls.GetStatus family number) o c = refl
row_in d ts last stamp (calls.ListVols family) o c = absurd cc
row_in d ts last stamp (calls.ReClone family number id) o c = refl

-- a Clone, by whether its volume is there
pub row_of_clone : (d : Durable) (ts : Table Transaction) (last stamp : ℕ) (call : VolCall) (there : Bool) → is_clone call ≡ true → ((id : ℕ) → named_in call ≡ Some id → there ≡ has_volume id d) →
    row.verdict d ts last stamp call ≡ row.refused_where there row.is_there_already (row.in_transaction d (found (row.family_of call) (number_in call) ts) (judged_in d ts call))
row_of_clone d ts last stamp (calls.CreateVolume family id name kind flags quota) there c is = absurd cc
row_of_clone d ts last stamp (calls.DeleteVolume family number) there c is = absurd cc
row_of_clone d ts last stamp (calls.Restore family number offset final piece) there c is = absurd cc
row_of_clone d ts last stamp (calls.Forward family number from server target) there c is = absurd cc
row_of_clone d ts last stamp (calls.EndTrans family number) there c is = absurd cc
row_of_clone d ts last stamp (calls.Clone family number id name kind) there c is =
    ap (λ (b : Bool). row.refused_where b row.is_there_already (row.in_transaction d (found family number ts) (row.clones d id name kind))) (sym (is id refl))
row_of_clone d ts last stamp (calls.SetFlags family number flags) there c is = absurd cc
row_of_clone d ts last stamp (calls.GetFlags family number) there c is = absurd cc
row_of_clone d ts last stamp (calls.TransCreate family id flags) there c is = absurd cc
row_of_clone d ts last stamp (calls.Dump family number from offset) there c is = absurd cc
row_of_clone d ts last stamp (calls.SetForwarding family number server) there c is = absurd cc
row_of_clone d ts last stamp (calls.GetStatus family number) there c is = absurd cc
row_of_clone d ts last stamp (calls.ListVols family) there c is = absurd cc
row_of_clone d ts last stamp (calls.ReClone family number id) there c is = absurd cc

family_by : (b : Bool) (u t : Transaction) (family : ℕ) → b ≡ nat_eq u.family family → (if b then Some u else None) ≡ Some t → t.family ≡ family
family_by true u t family is e = subst (λ (w : Transaction). w.family ≡ family) (some_is u t e) (eqb-true u.family family (sym is))
family_by false u t family is e = absurd cc

-- the transaction that is found is of the call's family
pub found_family : (family : ℕ) (o : Option Transaction) (t : Transaction) → row.of_family family o ≡ Some t → t.family ≡ family
found_family family None t e = absurd cc
found_family family (Some u) t e = family_by (nat_eq u.family family) u t family refl e

-- with its volume
pub judged_with : (opcode : ℕ) (held : Option (Bor Volume)) (v : Bor Volume) (t : Transaction) (f : Transaction → Stored → row.Verdict) (o : Option Stored) (x : Verdict) → held ≡ Some v → IsShelf t.volume held o →
    ((is_new : Bool) → t.volume ≡ v.now.head.id → IsJudged opcode v.now (f t (stored_as is_new v.now)) x) → IsDecided opcode held (row.in_its_volume t f o) x
judged_with opcode held v t f o x at shelf h =
    let is = subst (λ (w : Option (Bor Volume)). IsShelf t.volume w o) at shelf in
    subst (λ (w : Option (Bor Volume)). IsDecided opcode w (row.in_its_volume t f o) x) (sym at)
    (decided_in opcode v (row.in_its_volume t f o) x (subst (λ (s : Option Stored). IsJudged opcode v.now (row.in_its_volume t f s) x) (sym is.1.1) (h is.1.0 (sym is.0))))

-- ---- each call in a transaction

module _ (has_room : Bool) (ts : Table Transaction) (t : Transaction) (v : Volume) (named : Option (Bor Volume)) where
  abbrev JudgedIn : VolCall → Verdict → Type 0
  JudgedIn call x =
      (d : Durable) (is_new : Bool) → has_room ≡ has_volume_room d → t.volume ≡ v.head.id → IsNamedBy d call named → IsJudged (call_number (ask.Volume call)) v (judged_in d ts call t (stored_as is_new v)) x

  in_call : {E : Type 0} {P : Verdict → Type 0} (r : Result Verdict E) (call made : VolCall) → call ≡ made → IfOk r P → ((x : Verdict) → P x → JudgedIn made x) → IfOk r (JudgedIn call)
  in_call r call made is h f = subst (λ (c : VolCall). IfOk r (JudgedIn c)) (sym is) (weaker r h f)

  pub restores_in : {E : Type 0} (r : Result Verdict E) (call : VolCall) (family number offset final : ℕ) (piece : List ℕ) → call ≡ calls.Restore family number offset final piece →
      IfOk r (λ x. (is_new : Bool) → t.volume ≡ v.head.id → IsJudged 102 v (row.restores number offset final piece t (stored_as is_new v)) x) → IfOk r (JudgedIn call)
  restores_in r call family number offset final piece is h = in_call r call _ is h (λ x judges d is_new room held seen. judges is_new held)

  pub forwards_in : {E : Type 0} (r : Result Verdict E) (call : VolCall) (family number from server target : ℕ) → call ≡ calls.Forward family number from server target →
      IfOk r (Judges 103 v (row.forwards family from server target)) → IfOk r (JudgedIn call)
  forwards_in r call family number from server target is h = in_call r call _ is h (λ x judges d is_new room held seen. judged_of _ v _ x (judges is_new t held))

  pub clones_in : {E : Type 0} (r : Result Verdict E) (call : VolCall) (family number id : ℕ) (name : List ℕ) (kind : ℕ) → call ≡ calls.Clone family number id name kind →
      IfOk r (λ x. (d : Durable) (is_new : Bool) → has_room ≡ has_volume_room d → t.volume ≡ v.head.id → IsVerdict 105 (row.clones d id name kind t (stored_as is_new v)) x) → IfOk r (JudgedIn call)
  clones_in r call family number id name kind is h = in_call r call _ is h (λ x judges d is_new room held seen. judged_of _ v _ x (judges d is_new room held))

  pub sets_flags_in : (call : VolCall) (x : Verdict) (family number flags : ℕ) → call ≡ calls.SetFlags family number flags → Judges 106 v (row.sets_flags flags) x → JudgedIn call x
  sets_flags_in call x family number flags is judges = subst (λ (c : VolCall). JudgedIn c x) (sym is) (λ d is_new room held seen. judged_of _ v _ x (judges is_new t held))

  pub dumps_in : {E : Type 0} (r : Result Verdict E) (call : VolCall) (family number from offset : ℕ) → call ≡ calls.Dump family number from offset → IfOk r (Judges 109 v (row.dumps from offset)) → IfOk r (JudgedIn call)
  dumps_in r call family number from offset is h = in_call r call _ is h (λ x judges d is_new room held seen. judged_of _ v _ x (judges is_new t held))

  pub status_in : (call : VolCall) (x : Verdict) (family number : ℕ) → call ≡ calls.GetStatus family number → Judges 113 v row.tells_status x → JudgedIn call x
  status_in call x family number is judges = subst (λ (c : VolCall). JudgedIn c x) (sym is) (λ d is_new room held seen. judged_of _ v _ x (judges is_new t held))

  pub reclones_in : {E : Type 0} (r : Result Verdict E) (call : VolCall) (family number id : ℕ) → t.family ≡ row.family_of call → call ≡ calls.ReClone family number id →
      IfOk r (λ x. (is_new : Bool) (o : Option Stored) → t.volume ≡ v.head.id → IsShelf id named o → IsVerdict 120 (row.clones_anew number ts id t (stored_as is_new v) (row.volume_of_family t.family o)) x) → IfOk r (JudgedIn call)
  reclones_in r call family number id own is h =
      in_call r call _ is h (λ x judges d is_new room held seen.
      let one : t.family ≡ family = own ∙ ap row.family_of is in
      judged_of _ v _ x
      (subst (λ (n : ℕ). IsVerdict 120 (row.clones_anew number ts id t (stored_as is_new v) (row.volume_of_family n (get id d.volumes))) x) one (judges is_new (get id d.volumes) held (seen id refl))))
