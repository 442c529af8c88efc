-- What a start leaves on the disk, and of the callers.
use Rattle.std.proofs.Common.{◌≡◌, ◌<◌, ◌+◌, ℕ, Bool, true, false, List, map, Option, Some, None, refl, sym, ap, subst, ◌∙◌, arith, ltb-true}
use Rattle.std.specs.Prelude.{◌&&◌, min, nat_lt}
use Rattle.std.proofs.Math.Nat.{le-min, min-le_left}
use Rattle.law_legal.specs.DatabaseRuns.{IsAfter}
use Rattle.spec_model.specs.Calls.{call_seat}
use Rattle.afs_num.specs.declared.types.Node.TheVariants.{Loc}
use Rattle.spec_records.specs.LocDurable.{loc_boot_record, loc_folded, LocDurable}
use Rattle.spec_records.specs.LocLaws.{loc_started}
use Rattle.spec_rows.specs.LocRow.{loc_lasting_started, loc_revived, LocState}
use Rattle.spec_rows.specs.States.{Seat}
use Rattle.afs_locdb.specs.Saving.{LocStoreOf}
use Rattle.afs_locdb.specs.Seen.{lasting_of, Database, Serves}
use Rattle.afs_saving.specs.Kept.{seat_kept}

abbrev some : {A : Type 0} → A → Option A
some x = Some x

some_is : {A : Type 0} (x y : A) → some x ≡ some y → x ≡ y
some_is x y e = cc

starts : (d : LocDurable) → loc_folded (loc_boot_record (d.boot + 1)) d ≡ Some (loc_started d)
unfolding loc_folded
starts d = refl

pub started : (d e : LocDurable) → loc_folded (loc_boot_record (d.boot + 1)) d ≡ Some e → e ≡ loc_started d
started d e folds = some_is e (loc_started d) (sym folds ∙ starts d)

pub lasting_started : (d e : LocDurable) → loc_folded (loc_boot_record (d.boot + 1)) d ≡ Some e → lasting_of e ≡ loc_lasting_started (lasting_of d)
lasting_started d e folds = ap lasting_of (started d e folds)

-- a boot number that was raised was not the last
pub was_below : (n most : ℕ) (b c : Bool) → nat_lt n most ≡ c → (c && b ≡ false → ⊥) → n < most
was_below n most b true e raised = ltb-true n most e
was_below n most b false e raised = absurd (raised refl)

-- a database whose callers are those to whom replies are kept
pub started_serves : {D : Type 0} (b : Database D) → b.boot ≡ b.store.durable.boot → b.store.node ≡ Loc → b.seats ≡ (lasting_of b.store.durable).kept → Serves b
started_serves {D} b boot node seats = record {
  here = record { boot = boot; node = node };
  settled = record { kept = λ n epoch number h. subst (λ (ss : List Seat). IsAfter (call_seat n ss) epoch number) seats h };
}

-- the next boot number, where this isn't the last
pub next_is : (n next : ℕ) → next ≡ min (n + 1) 4294967295 → n < 4294967295 → next ≡ n + 1
next_is n next is lt =
    let most = min-le_left (n + 1) 4294967295 in
    let least = le-min {k = n + 1} {a = n + 1} {b = 4294967295} (omega arith) (omega (arith, lt)) in
    omega (arith, is, most, least)

-- ---- over a store that began its next boot

module _ {D : Type 0} (old s t : LocStoreOf D) (same : s ≡ old) (is : t ≡ record s { durable = t.durable; disk = t.disk; prepared = None; count = s.count + 1 }) (folds : loc_folded (loc_boot_record (s.durable.boot + 1)) s.durable ≡ Some t.durable) where
  pub store_started : t ≡ record old { durable = loc_started old.durable; disk = t.disk; prepared = None; count = old.count + 1 }
  store_started =
      subst (λ (u : LocStoreOf D). t ≡ record u { durable = loc_started u.durable; disk = t.disk; prepared = None; count = u.count + 1 }) same
      (is ∙ (λ i. record s { durable = started s.durable t.durable folds i; disk = t.disk; prepared = None; count = s.count + 1 }))

  pub durable_started : t.durable ≡ loc_started old.durable
  durable_started = ap (λ (u : LocStoreOf D). u.durable) store_started

  pub revived : (seats kept : List Seat) → seats ≡ map seat_kept old.durable.kept → ◌≡◌ {A = LocState} (record { lasting = lasting_of t.durable; seats = seats }) (loc_revived (record { lasting = lasting_of old.durable; seats = kept }))
  revived seats kept are = λ i. record { lasting = ap lasting_of durable_started i; seats = are i }

  pub boots : (boot : ℕ) (seats : List Seat) → boot ≡ old.durable.boot + 1 → old.node ≡ Loc → seats ≡ map seat_kept old.durable.kept → Serves (record { store = t; boot = boot; seats = seats })
  boots boot seats next node are =
      let d = durable_started in
      started_serves (record { store = t; boot = boot; seats = seats }) (next ∙ sym (ap (λ (e : LocDurable). e.boot) d)) (ap (λ (u : LocStoreOf D). u.node) store_started ∙ node) (are ∙ sym (ap (λ (e : LocDurable). map seat_kept e.kept) d))
