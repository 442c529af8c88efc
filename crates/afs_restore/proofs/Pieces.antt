-- A piece was fed.
use Rattle.std.proofs.Common.{◌≡◌, ℕ, ◌+◌, ◌-◌, List, ◌++◌, length, drop, Option, Some, None, sym, ap, subst, ◌∙◌, arith}
use Rattle.std.proofs.lemmas.List.{length-append}
use Rattle.afs_xdr.specs.Words.{IsBytes}
use Rattle.spec_dumps.specs.Restores.{fed}
use Rattle.afs_restore.specs.ReadOn.{bytes_read, IsFed, IsFedSoFar, Reaches, Waits}
use Rattle.afs_restore.specs.declared.parts.Parts.{Parts}
use Rattle.afs_restore.specs.declared.steps.Step.{Step}
use Rattle.afs_restore.proofs.Fed.{bytes_more}
use Rattle.afs_restore.proofs.Lists.{bytes_with}

-- it wasn't refused before
pub not_refused : (step : Step) (p : Parts) (pending : List ℕ) (count short : ℕ) (o : Option ℕ) → o ≡ None → IsFed step p pending count short o → IsFedSoFar step p pending count short
not_refused step p pending count short o none h = subst (λ (z : Option ℕ). IsFed step p pending count short z) none h

-- what it is seen as
pub seen_more : (from step : Step) (p q : Parts) (pending piece : List ℕ) (left : ℕ) → Reaches from p (pending ++ piece) step q left →
    bytes_read step q (drop (length (pending ++ piece) - left) (pending ++ piece)) ≡ bytes_read from p pending ++ piece
seen_more from step p q pending piece left r = r.same ∙ bytes_more from p pending piece

count_more : (from step : Step) (p q : Parts) (pending piece : List ℕ) (count short many left : ℕ) → IsFedSoFar from p pending count short → many ≡ count + length piece → Reaches from p (pending ++ piece) step q left →
    many ≡ length (bytes_read step q (drop (length (pending ++ piece) - left) (pending ++ piece)))
count_more from step p q pending piece count short many left h is r =
    let all : length (bytes_read step q (drop (length (pending ++ piece) - left) (pending ++ piece))) ≡ length (bytes_read from p pending ++ piece) = ap (λ (t : List ℕ). length t) (seen_more from step p q pending piece left r) in
    let both = length-append (bytes_read from p pending) piece in
    let before = h.many in
    omega (arith, is, all, both, before)

pub fed_more : (from step : Step) (p q : Parts) (pending piece : List ℕ) (count was many left short : ℕ) → IsFedSoFar from p pending count was → IsBytes piece → many ≡ count + length piece → Reaches from p (pending ++ piece) step q left →
    Waits step (bytes_read from p (pending ++ piece)) (drop (length (pending ++ piece) - left) (pending ++ piece)) short → IsFedSoFar step q (drop (length (pending ++ piece) - left) (pending ++ piece)) many short
fed_more from step p q pending piece count was many left short h fits is r w = record {
  stands = r.stands;
  fits = subst (λ (t : List ℕ). IsBytes t) (sym (seen_more from step p q pending piece left r)) (bytes_with (bytes_read from p pending) piece h.fits fits);
  many = count_more from step p q pending piece count was many left h is r;
  waits = subst (λ (t : List ℕ). Waits step t (drop (length (pending ++ piece) - left) (pending ++ piece)) short) (sym r.same) w;
}

pub refused_more : (from step : Step) (p q : Parts) (pending piece : List ℕ) (count was many left short : ℕ) → IsFedSoFar from p pending count was → many ≡ count + length piece → Reaches from p (pending ++ piece) step q left →
    fed (bytes_read from p (pending ++ piece)) ≡ Some (length (bytes_read from p (pending ++ piece)) - short) → fed (bytes_read step q (drop (length (pending ++ piece) - left) (pending ++ piece))) ≡ Some (many - short)
refused_more from step p q pending piece count was many left short h is r bad =
    ap fed r.same ∙ (bad ∙ ap (λ (t : List ℕ). Some (length t - short)) (sym r.same) ∙ ap (λ (n : ℕ). Some (n - short)) (sym (count_more from step p q pending piece count was many left h is r)))
