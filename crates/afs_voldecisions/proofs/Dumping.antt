-- A piece of a dump that is told is the row's.
use Rattle.std.proofs.Common.{◌≡◌, ◌≤◌, ◌+◌, ◌-◌, ◌∙◌, ℕ, List, Bool, false, None, length, drop, not, nat_lt, refl, ap, sym, subst, arith}
use Rattle.std.specs.Prelude.{if◌then◌else◌}
use Rattle.std.proofs.Math.Nat.{min-le_left}
use Rattle.std.proofs.lemmas.Bool.Decides.{nat_tests}
use Rattle.std.proofs.lemmas.List.{length-take}
use Rattle.afs_num.specs.declared.volume_calls.VolReply.TheVariants as replies
use Rattle.spec_dumps.specs.Dumps.{dump_of}
use Rattle.spec_dumps.specs.Streams.{dump_bytes, is_last_at, piece_at}
use Rattle.afs_volume.specs.Taking.{stored_of}
use Rattle.afs_volume.specs.declared.volume.Volume.{Volume}
use Rattle.spec_volrows.specs.VolRow as row
use Rattle.spec_volrows.specs.VolRow.{most_piece}
use Rattle.afs_voldecisions.specs.Verdicts.{made_in, verdict_of, CanTell, IsReplyTo, IsVerdict, Judges}
use Rattle.afs_voldecisions.specs.declared.verdicts.Verdict.{Verdict}

piece_short : (offset : ℕ) (whole : List ℕ) → length (piece_at most_piece offset whole) ≤ most_piece
piece_short offset whole = rw (length-take most_piece (drop offset whole)) (min-le_left most_piece (length (drop offset whole)))

piece_told : (last offset : ℕ) (piece whole : List ℕ) → piece ≡ piece_at most_piece offset whole → IsReplyTo 109 (replies.Dump last piece)
piece_told last offset piece whole e =
    let short = piece_short offset whole in
    subst (λ (p : List ℕ). IsReplyTo 109 (replies.Dump last p)) (sym e) (refl, (tt, ((short, omega (arith, short)), tt)))

left_same : (offset most n : ℕ) → offset ≤ n → nat_lt most (n - offset) ≡ nat_lt (offset + most) n
left_same offset most n within = grind (arith, nat_tests, within)

pub piece_is : (offset n : ℕ) (piece whole : List ℕ) (last : Bool) (x : Verdict) → offset ≤ length whole → last ≡ not (nat_lt most_piece (length whole - offset)) → piece ≡ piece_at most_piece offset whole
    → verdict_of x ≡ row.tells (replies.Dump n piece) → (IsReplyTo 109 (replies.Dump n piece) → CanTell 109 x) → made_in x ≡ None → n ≡ (if last then 1 else 0) → IsVerdict 109 (row.dumps_piece offset whole) x
piece_is offset n piece whole last x within last_is piece_at_is e told unmade word =
    let inside : nat_lt (length whole) offset ≡ false = grind (arith, nat_tests, within) in
    let final : last ≡ is_last_at most_piece offset whole = last_is ∙ ap not (left_same offset most_piece (length whole) within) in
    let same : row.tells (replies.Dump n piece) ≡ row.dumps_piece offset whole = rw (word, inside, final, piece_at_is) refl in
    record { decides = e ∙ same; told = told (piece_told n offset piece whole piece_at_is); unmade = unmade }

pub dump_judged : (from offset : ℕ) (v : Volume) (whole : List ℕ) → whole ≡ dump_bytes (dump_of v.head.id from (stored_of v)) → (x : Verdict) → IsVerdict 109 (row.dumps_piece offset whole) x → Judges 109 v (row.dumps from offset) x
dump_judged from offset v whole e x is is_new t held =
    subst (λ (r : row.Verdict). IsVerdict 109 r x) (ap (row.dumps_piece offset) (e ∙ ap (λ (id : ℕ). dump_bytes (dump_of id from (stored_of v))) (sym held))) is
