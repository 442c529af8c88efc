use Rattle.std.proofs.Common.{◌≡◌, ◌++◌, ◌-◌, ℕ, List, ap, arith, drop, length, rules, subst, take, ◌∙◌}
use Rattle.afs_restore.specs.ReadOn.{pending_of, ReadsOn}
use Rattle.afs_restore.proofs.Fed.{left_within}
use Rattle.afs_restore.proofs.Lists.{front_again}
use Rattle.afs_restore.proofs.reading.read_behind.Goals as goal

pub read_or_go_back-requires : goal.read_or_go_back-requires
read_or_go_back-requires c = rw (c.as_slice.ensures.value, c.in_ok-extend_from_slice.ensures.items) c.requires

pub keep_last-requires : goal.keep_last-requires
keep_last-requires c =
    let within = left_within c.args.from c.args.parts.now c.read_or_go_back.new.parts c.as_slice.result.now c.in-Ok.read c.in-Ok.ensures.read in
    omega (arith, within, c.left_of.ensures, ap (λ (t : List ℕ). length t) c.as_slice.ensures.value)

pub returns-in-Ok-clause-read : goal.returns-in-Ok-clause-read
returns-in-Ok-clause-read c =
    subst (λ (t : List ℕ). ReadsOn c.args.from c.args.parts.now t c.read_or_go_back.new.parts c.in-Ok.read) (c.as_slice.ensures.value ∙ c.in_ok-extend_from_slice.ensures.items) c.in-Ok.ensures.read

pub returns-in-Ok-clause-pending : goal.returns-in-Ok-clause-pending
returns-in-Ok-clause-pending c =
    c.keep_last.ensures ∙ (ap (λ (n : ℕ). drop (length c.extend_from_slice.new.self.items - n) c.extend_from_slice.new.self.items) c.left_of.ensures ∙ ap (pending_of c.in-Ok.read) c.in_ok-extend_from_slice.ensures.items)

pub returns-in-Err-clause-stays : goal.returns-in-Err-clause-stays
returns-in-Err-clause-stays c =
    let before = c.args.pending.now.items in
    let piece = c.args.piece.now in
    c.truncate.ensures.items
    ∙ (ap (λ (t : List ℕ). take c.len-before.result t) c.in_ok-extend_from_slice.ensures.items ∙ (ap (λ (n : ℕ). take n (before ++ piece)) (let z : c.len-before.result ≡ length before = search rules in z) ∙ front_again before piece))
