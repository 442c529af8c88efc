use Rattle.std.proofs.Common.{◌≡◌, ℕ, ◌+◌, ◌-◌, ◌++◌, List, Option, Some, drop, length, sym, ap, subst, ◌∙◌, rules}
use Rattle.spec_dumps.specs.Restores.{fed}
use Rattle.afs_restore.specs.ReadOn.{bytes_read, pending_of, IsFed, IsFedSoFar, ReadsOn}
use Rattle.afs_restore.specs.declared.reading.Read.{Read}
use Rattle.afs_restore.specs.declared.reading.Read.TheVariants as reads
use Rattle.afs_restore.proofs.Fed.{refused_before, same_read, same_so_far, so_far_going, stands_more}
use Rattle.afs_restore.proofs.Finished.{none_refused}
use Rattle.afs_restore.proofs.Pieces.{fed_more, not_refused, refused_more, seen_more}
use Rattle.afs_restore.proofs.restorer.Restorer.feed.Goals as goal

pub returns-in-Some-clause-bad : goal.returns-in-Some-clause-bad
returns-in-Some-clause-bad c = λ offset e.
    let r = c.self.inside in
    let piece = c.args.piece.now in
    let same : c.in-Some.offset ≡ offset = cc in
    let both = refused_before r.step r.parts r.pending.items piece r.length r.short r.refused c.in-Some.offset c.in-Some.is c.self.invariant in
    let own : (fed (c.args.self.now ++ piece) ≡ Some c.in-Some.offset) × (fed c.args.self.now ≡ Some c.in-Some.offset) = subst (λ (bytes : List ℕ). (fed (bytes ++ piece) ≡ Some c.in-Some.offset) × (fed bytes ≡ Some c.in-Some.offset)) c.self.view_is both in
    subst (λ (n : ℕ). (fed (c.args.self.now ++ piece) ≡ Some n) × (fed c.args.self.now ≡ Some n)) same own

pub read_more-requires : goal.read_more-requires
read_more-requires c =
    let r = c.self.inside in
    let so_far = not_refused r.step r.parts r.pending.items r.length r.short r.refused (none_refused r.refused c.in_default.not-Some) c.self.invariant in
    stands_more r.step r.parts r.pending.items c.args.piece.now so_far.stands

pub invariant_of-self : goal.invariant_of-self
invariant_of-self c =
    let r = c.self.inside in
    let q = c.read_more.new.parts in
    let before = r.pending.items in
    let piece = c.args.piece.now in
    let w = c.in-Ok-Waits in
    let none = none_refused r.refused c.in_default.not-Some in
    let so_far = not_refused r.step r.parts before r.length r.short r.refused none c.self.invariant in
    let on : ReadsOn r.step r.parts (before ++ piece) q (reads.Waits w.step w._left w.short) = subst (λ (x : Read). ReadsOn r.step r.parts (before ++ piece) q x) w.field-0-is w.ensures.read in
    let last = w.ensures.pending ∙ ap (λ (x : Read). pending_of x (before ++ piece)) w.field-0-is in
    let many : c.in-Some-checked_add.length ≡ r.length + length piece = search rules in
    subst (λ (o : Option ℕ). IsFed w.step q c.read_more.new.pending.items c.in-Some-checked_add.length w.short o) (sym none)
    (subst (λ (t : List ℕ). IsFedSoFar w.step q t c.in-Some-checked_add.length w.short) (sym last)
    (fed_more r.step w.step r.parts q before piece r.length r.short c.in-Some-checked_add.length w._left w.short so_far c.are_bytes.ensures many on.0 on.1))

pub returns-in-Ok-Waits-clause-ok : goal.returns-in-Ok-Waits-clause-ok
returns-in-Ok-Waits-clause-ok c =
    let r = c.self.inside in
    let q = c.read_more.new.parts in
    let before = r.pending.items in
    let piece = c.args.piece.now in
    let w = c.in-Ok-Waits in
    let none = none_refused r.refused c.in_default.not-Some in
    let so_far = not_refused r.step r.parts before r.length r.short r.refused none c.self.invariant in
    let on : ReadsOn r.step r.parts (before ++ piece) q (reads.Waits w.step w._left w.short) = subst (λ (x : Read). ReadsOn r.step r.parts (before ++ piece) q x) w.field-0-is w.ensures.read in
    let last = w.ensures.pending ∙ ap (λ (x : Read). pending_of x (before ++ piece)) w.field-0-is in
    let many : c.in-Some-checked_add.length ≡ r.length + length piece = search rules in
    let now = fed_more r.step w.step r.parts q before piece r.length r.short c.in-Some-checked_add.length w._left w.short so_far c.are_bytes.ensures many on.0 on.1 in (
      ap (bytes_read w.step q) last ∙ (seen_more r.step w.step r.parts q before piece w._left on.0 ∙ ap (λ (t : List ℕ). t ++ piece) c.self.view_is),
      ap (λ (t : List ℕ). fed (bytes_read w.step q t)) last ∙ so_far_going w.step q (drop (length (before ++ piece) - w._left) (before ++ piece)) c.in-Some-checked_add.length w.short now,
    )

pub invariant_of-self-in-Ok-Refused : goal.invariant_of-self-in-Ok-Refused
invariant_of-self-in-Ok-Refused c =
    let r = c.self.inside in
    let q = c.read_more.new.parts in
    let before = r.pending.items in
    let piece = c.args.piece.now in
    let w = c.in-Ok-Refused in
    let none = none_refused r.refused c.in_default.not-Some in
    let so_far = not_refused r.step r.parts before r.length r.short r.refused none c.self.invariant in
    let on : ReadsOn r.step r.parts (before ++ piece) q (reads.Refused w.step w._left w.short) = subst (λ (x : Read). ReadsOn r.step r.parts (before ++ piece) q x) w.field-0-is w.ensures.read in
    let last = w.ensures.pending ∙ ap (λ (x : Read). pending_of x (before ++ piece)) w.field-0-is in
    let many : c.in-Some-checked_add.length ≡ r.length + length piece = search rules in
    ap (λ (t : List ℕ). fed (bytes_read w.step q t)) last
    ∙ (refused_more r.step w.step r.parts q before piece r.length r.short c.in-Some-checked_add.length w._left w.short so_far many on.0 on.1 ∙ ap (λ (n : ℕ). Some n) (sym c.saturating_sub-offset.ensures))

pub returns-in-Ok-Refused-clause-bad : goal.returns-in-Ok-Refused-clause-bad
returns-in-Ok-Refused-clause-bad c = λ offset e.
    let r = c.self.inside in
    let q = c.read_more.new.parts in
    let before = r.pending.items in
    let piece = c.args.piece.now in
    let w = c.in-Ok-Refused in
    let none = none_refused r.refused c.in_default.not-Some in
    let so_far = not_refused r.step r.parts before r.length r.short r.refused none c.self.invariant in
    let on : ReadsOn r.step r.parts (before ++ piece) q (reads.Refused w.step w._left w.short) = subst (λ (x : Read). ReadsOn r.step r.parts (before ++ piece) q x) w.field-0-is w.ensures.read in
    let last = w.ensures.pending ∙ ap (λ (x : Read). pending_of x (before ++ piece)) w.field-0-is in
    let many : c.in-Some-checked_add.length ≡ r.length + length piece = search rules in
    let same : c.saturating_sub-offset.result ≡ offset = cc in
    let bad : fed (bytes_read w.step q (drop (length (before ++ piece) - w._left) (before ++ piece))) ≡ Some offset =
    refused_more r.step w.step r.parts q before piece r.length r.short c.in-Some-checked_add.length w._left w.short so_far many on.0 on.1 ∙ ap (λ (n : ℕ). Some n) (sym c.saturating_sub-offset.ensures ∙ same) in
    let seen = seen_more r.step w.step r.parts q before piece w._left on.0 ∙ ap (λ (t : List ℕ). t ++ piece) c.self.view_is in (
      ap fed (sym seen) ∙ bad,
      ap (λ (t : List ℕ). fed (bytes_read w.step q t)) last ∙ bad,
    )

pub invariant_of-self-in-Err : goal.invariant_of-self-in-Err
invariant_of-self-in-Err c =
    let r = c.self.inside in
    let q = c.read_more.new.parts in
    let before = r.pending.items in
    let none = none_refused r.refused c.in_default.not-Some in
    let so_far = not_refused r.step r.parts before r.length r.short r.refused none c.self.invariant in
    subst (λ (o : Option ℕ). IsFed r.step q c.read_more.new.pending.items r.length r.short o) (sym none)
    (subst (λ (t : List ℕ). IsFedSoFar r.step q t r.length r.short) (sym c.in-Err.ensures.stays) (same_so_far r.step r.parts q before r.length r.short c.in-Err.ensures.same so_far))

pub returns-in-Err-clause-memory : goal.returns-in-Err-clause-memory
returns-in-Err-clause-memory c = λ e.
    let r = c.self.inside in
    let q = c.read_more.new.parts in
    ap (bytes_read r.step q) c.in-Err.ensures.stays ∙ (same_read r.step r.parts q r.pending.items c.in-Err.ensures.same ∙ c.self.view_is)
