use Rattle.std.proofs.Common.{◌≡◌, List, ℕ, [], Some, length, map, rules, sym, ◌∙◌, ap, subst}
use Rattle.afs_journal.specs.Found.{piece_of}
use Rattle.afs_journal.specs.Records.{whole_records}
use Rattle.afs_journal.proofs.Crash.{no_bytes, nothing_whole}
use Rattle.afs_journal.proofs.Moments.{weaker}
use Rattle.afs_journal.specs.Log.{IsJournal}
use Rattle.afs_journal.proofs.mend.settle.Goals as goal

pub returns-in_err-begin-clause-any_moment : goal.returns-in_err-begin-clause-any_moment
returns-in_err-begin-clause-any_moment g c = λ told only.
    let none : length c.args.bytes.now ≡ 0 = search rules in
    let empty = no_bytes c.args.bytes.now none in
    weaker g.D.Disk.moment g.D.Disk.left_since c.args.disk.now c.begin.new.disk (λ (b : List ℕ). whole_records b ≡ whole_records c.args.bytes.now) (λ (b : List ℕ). whole_records b ≡ [])
    (c.begin.ensures.any_moment (told ∙ ap (λ (l : List ℕ). Some l) empty) (λ b left. only b left ∙ empty)) (λ b are. are ∙ sym (nothing_whole c.args.bytes.now none))

pub returns-then-is_empty-clause-found : goal.returns-then-is_empty-clause-found
returns-then-is_empty-clause-found g c =
    let none : length c.args.bytes.now ≡ 0 = search rules in
    ap (map (piece_of c.args.bytes.now)) c.new.ensures.items ∙ sym (nothing_whole c.args.bytes.now none)

pub returns-then-is_empty-clause-done : goal.returns-then-is_empty-clause-done
returns-then-is_empty-clause-done g c = λ told only.
    let none : length c.args.bytes.now ≡ 0 = search rules in
    let empty = no_bytes c.args.bytes.now none in
    subst (λ (l : List (List ℕ)). IsJournal l (g.D.Disk.seen c.begin.new.disk) (g.D.Disk.may_leave c.begin.new.disk)) (sym (nothing_whole c.args.bytes.now none))
    (c.in_ok-begin.ensures.done (told ∙ ap (λ (l : List ℕ). Some l) empty) (λ b left. only b left ∙ empty))

pub returns-then-is_empty-clause-any_moment : goal.returns-then-is_empty-clause-any_moment
returns-then-is_empty-clause-any_moment g c = λ told only.
    let none : length c.args.bytes.now ≡ 0 = search rules in
    let empty = no_bytes c.args.bytes.now none in
    weaker g.D.Disk.moment g.D.Disk.left_since c.args.disk.now c.begin.new.disk (λ (b : List ℕ). whole_records b ≡ whole_records c.args.bytes.now) (λ (b : List ℕ). whole_records b ≡ [])
    (c.begin.ensures.any_moment (told ∙ ap (λ (l : List ℕ). Some l) empty) (λ b left. only b left ∙ empty)) (λ b are. are ∙ sym (nothing_whole c.args.bytes.now none))
