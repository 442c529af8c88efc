-- A clone that is made anew.
use Rattle.std.proofs.Common.{◌≡◌, ◌∙◌, ℕ, Bool, false, Option, Some, ap, refl, subst, sym}
use Rattle.std.specs.Borrow.{Bor}
use Rattle.std.specs.Option.{option_copied}
use Rattle.afs_num.specs.declared.records.RecordBody.TheVariants as bodies
use Rattle.afs_num.specs.declared.volume_calls.VolReply.TheVariants as replies
use Rattle.spec_ideal.specs.Operations.{is_last_count}
use Rattle.spec_ideal.specs.Tables.{Table}
use Rattle.spec_records.specs.Durable.{Stored}
use Rattle.spec_dumps.specs.Clones.{next_release}
use Rattle.afs_shelves.specs.Shelving.{stored_as}
use Rattle.afs_volume.specs.declared.volume.Volume.{Volume}
use Rattle.spec_volrows.specs.VolRow as row
use Rattle.spec_volrows.specs.VolStates.{Transaction}
use Rattle.afs_voldecisions.specs.Verdicts.{family_in, IsShelf, IsVerdict}
use Rattle.afs_voldecisions.specs.declared.verdicts.Verdict.{Verdict}
use Rattle.afs_voldecisions.proofs.Seeing.{one_of_family}

-- of the volume of this number, with the name and kind of the one that was there
abbrev pub cloned_again : ℕ → ℕ → Stored → Stored → row.Verdict
cloned_again source id s old =
    row.refused_where (is_last_count s.volume.release) row.no_room_left
    (row.writes (replies.ReClone s.volume.counter (next_release s)) (bodies.Clone source id old.volume.name old.volume.kind (next_release s)) (Some id) row.stay)

-- where no other transaction holds it
unheld : (number : ℕ) (ts : Table Transaction) (id source : ℕ) (t : Transaction) (s old : Stored) → row.is_held_by_other number id ts ≡ false → t.volume ≡ source
    → row.clones_anew number ts id t s (Some old) ≡ cloned_again source id s old
unheld number ts id source t s old free from = rw (free, from) refl

pub again_is : (number : ℕ) (ts : Table Transaction) (id : ℕ) (t : Transaction) (v old : Volume) (named : Option (Bor Volume)) → family_in t.family (option_copied named) ≡ Some old → row.is_held_by_other number id ts ≡ false
    → (x : Verdict) → ((is_new was_new : Bool) → IsVerdict 120 (cloned_again v.head.id id (stored_as is_new v) (stored_as was_new old)) x)
    → (is_new : Bool) (o : Option Stored) → t.volume ≡ v.head.id → IsShelf id named o → IsVerdict 120 (row.clones_anew number ts id t (stored_as is_new v) (row.volume_of_family t.family o)) x
again_is number ts id t v old named one free x again is_new o held is =
    let there = one_of_family t.family id named o old is one in
    let same = ap (row.clones_anew number ts id t (stored_as is_new v)) there.1 ∙ unheld number ts id v.head.id t (stored_as is_new v) (stored_as there.0 old) free held in
    subst (λ (r : row.Verdict). IsVerdict 120 r x) (sym same) (again is_new there.0)
