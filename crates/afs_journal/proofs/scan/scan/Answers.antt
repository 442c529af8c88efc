use Rattle.std.proofs.Common.{◌≡◌, ◌<◌, ◌≤◌, ◌-◌, ◌*◌, ℕ, suc, List, ◌++◌, [], ◌∷◌, length, map, None, arith, refl, sym, ◌∙◌, ap, subst, length-append}
use Rattle.std.proofs.lemmas.List.{length-map, map-append}
use Rattle.afs_journal.specs.Found.{piece_of}
use Rattle.afs_journal.specs.Records.{blocks, whole_record_at, whole_records, Fit, StartsWith, EndsAt}
use Rattle.afs_journal.proofs.Crash.{ends_whole, ends_counts}
use Rattle.afs_journal.proofs.Records.{one_found, all_found, few, fit-push, piece_found}
use Rattle.afs_journal.proofs.scan.scan.Goals as goal

pub loop-body-preserved : goal.loop-body-preserved
loop-body-preserved c =
    let so_far = c.loop-body.invariant in
    let bodies = map (piece_of c.args.bytes.now) c.loop-body.found.items in
    let first : StartsWith (suc (length bodies)) c.in-Some.body.now c.in-Some.behind.now c.loop-body.rest.now = subst (λ (n : ℕ). StartsWith n c.in-Some.body.now c.in-Some.behind.now c.loop-body.rest.now) so_far.counted c.in-Some.ensures.some in
    let lies = c.piece.ensures ∙ piece_found c.args.bytes.now bodies (suc (length bodies)) c.in-Some.body.now c.in-Some.behind.now c.loop-body.rest.now so_far.split first in
    let pushed : map (piece_of c.args.bytes.now) c.push.new.self.items ≡ bodies ++ c.in-Some.body.now ∷ [] =
    ap (map (piece_of c.args.bytes.now)) c.in_ok-push.ensures.items ∙ (map-append (piece_of c.args.bytes.now) c.loop-body.found.items (c.piece.result ∷ []) ∙ ap (λ (b : List ℕ). bodies ++ b ∷ []) lies) in
    record {
      split = one_found c.args.bytes.now bodies c.in-Some.body.now c.loop-body.rest.now c.in-Some.behind.now so_far.split first ∙ ap (λ (l : List (List ℕ)). blocks 1 l ++ c.in-Some.behind.now) (sym pushed);
      more = first.more;
      fit = subst (λ (l : List (List ℕ)). Fit 1 l) (sym pushed) (fit-push bodies 1 c.in-Some.body.now so_far.fit first.small (omega arith));
      counted = omega (arith, so_far.counted, ap length pushed, length-append bodies (c.in-Some.body.now ∷ []));
    }

-- what the loop ends with
module _ (bytes : List ℕ) (bodies : List (List ℕ)) (rest : List ℕ) (number : ℕ) (split : bytes ≡ blocks 1 bodies ++ rest) (more : 0 < length rest) (fit : Fit 1 bodies) (counted : number ≡ suc (length bodies)) (none : whole_record_at number rest ≡ None) where
  ends : EndsAt (length bytes - length rest) bodies bytes
  ends = all_found bytes bodies rest (length bytes - length rest) split refl more fit (subst (λ (n : ℕ). whole_record_at n rest ≡ None) counted none)

  whole : bodies ≡ whole_records bytes
  whole = ends_whole bodies (length bytes - length rest) bytes ends

  counts : 9 * length bodies ≤ length bytes - length rest
  counts = ends_counts bodies (length bytes - length rest) bytes ends

  below : length bytes - length rest < length bytes
  below = ends.inside

pub returns-clause-ends : goal.returns-clause-ends
returns-clause-ends c =
    let so_far = c.loop-body.invariant in
    ends c.args.bytes.now (map (piece_of c.args.bytes.now) c.loop-body.found.items) c.loop-body.rest.now c.loop-body.number so_far.split so_far.more so_far.fit so_far.counted c.in_default.ensures.none

pub returns-clause-whole : goal.returns-clause-whole
returns-clause-whole c =
    let so_far = c.loop-body.invariant in
    whole c.args.bytes.now (map (piece_of c.args.bytes.now) c.loop-body.found.items) c.loop-body.rest.now c.loop-body.number so_far.split so_far.more so_far.fit so_far.counted c.in_default.ensures.none

pub returns-clause-counts : goal.returns-clause-counts
returns-clause-counts c =
    let so_far = c.loop-body.invariant in
    let bodies = map (piece_of c.args.bytes.now) c.loop-body.found.items in
    let many = counts c.args.bytes.now bodies c.loop-body.rest.now c.loop-body.number so_far.split so_far.more so_far.fit so_far.counted c.in_default.ensures.none in
    (omega (arith, many, length-map c.loop-body.found.items (piece_of c.args.bytes.now)), below c.args.bytes.now bodies c.loop-body.rest.now c.loop-body.number so_far.split so_far.more so_far.fit so_far.counted c.in_default.ensures.none)

pub returns-clause-few : goal.returns-clause-few
returns-clause-few c =
    let bodies = map (piece_of c.args.bytes.now) c.loop-body.found.items in
    omega (arith, few bodies 1 (omega arith) c.loop-body.invariant.fit, length-map c.loop-body.found.items (piece_of c.args.bytes.now))
