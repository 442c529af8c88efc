use Rattle.std.proofs.Common.{◌≡◌, List, ℕ, Some, sym, ◌∙◌, ap}
use Rattle.afs_journal.specs.Records.{whole_records}
use Rattle.afs_journal.proofs.Broken.{some_same}
use Rattle.afs_journal.proofs.Sound.{taken_up, stands_now}
use Rattle.afs_journal.proofs.journal.take_up.Goals as goal

-- first the opening, which leaves what might have been left, and then the mending of what was read
pub returns-clause-any_moment : goal.returns-clause-any_moment
returns-clause-any_moment g c = λ bytes told.
    let read : c.deref.result.now ≡ bytes = c.deref.ensures.value ∙ c.in_ok-bytes.ensures.bytes bytes told in
    let second = c.settle.ensures.any_moment (c.open.ensures.seen ∙ told ∙ ap (λ (l : List ℕ). Some l) (sym read)) (λ b left. c.in_ok-bytes.ensures.durable bytes told b left ∙ sym read) in
    taken_up g.D.Disk.may_leave g.D.Disk.moment g.D.Disk.left_since c.args.disk.now c.open.new.disk c.settle.new.disk bytes c.deref.result.now read (g.met.D.Disk.leaves c.args.disk.now 1 bytes (g.met.D.Disk.shows c.args.disk.now ∙ told)) c.open.ensures.steady second

pub returns-in_err-found-clause-any_moment : goal.returns-in_err-found-clause-any_moment
returns-in_err-found-clause-any_moment g c = λ bytes told.
    let read : c.deref.result.now ≡ bytes = c.deref.ensures.value ∙ c.in_ok-bytes.ensures.bytes bytes told in
    let second = c.settle.ensures.any_moment (c.open.ensures.seen ∙ told ∙ ap (λ (l : List ℕ). Some l) (sym read)) (λ b left. c.in_ok-bytes.ensures.durable bytes told b left ∙ sym read) in
    taken_up g.D.Disk.may_leave g.D.Disk.moment g.D.Disk.left_since c.args.disk.now c.open.new.disk c.settle.new.disk bytes c.deref.result.now read (g.met.D.Disk.leaves c.args.disk.now 1 bytes (g.met.D.Disk.shows c.args.disk.now ∙ told)) c.open.ensures.steady second

pub returns-in_err-found-clause-begins : goal.returns-in_err-found-clause-begins
returns-in_err-found-clause-begins g c = λ made bytes told b left.
    let read : c.deref.result.now ≡ bytes = c.deref.ensures.value ∙ c.in_ok-bytes.ensures.bytes bytes told in
    let run = c.settle.ensures.any_moment (c.open.ensures.seen ∙ told ∙ ap (λ (l : List ℕ). Some l) (sym read)) (λ b left. c.in_ok-bytes.ensures.durable bytes told b left ∙ sym read) in
    stands_now g.D.Disk.may_leave g.D.Disk.moment g.D.Disk.left_since g.met.D.Disk.counts_now c.open.new.disk c.settle.new.disk (λ (l : List ℕ). whole_records l ≡ whole_records c.deref.result.now) run b left ∙ ap whole_records read

pub returns-clause-begins : goal.returns-clause-begins
returns-clause-begins g c = λ made bytes told b left.
    let read : c.deref.result.now ≡ bytes = c.deref.ensures.value ∙ c.in_ok-bytes.ensures.bytes bytes told in
    let run = c.settle.ensures.any_moment (c.open.ensures.seen ∙ told ∙ ap (λ (l : List ℕ). Some l) (sym read)) (λ b left. c.in_ok-bytes.ensures.durable bytes told b left ∙ sym read) in
    stands_now g.D.Disk.may_leave g.D.Disk.moment g.D.Disk.left_since g.met.D.Disk.counts_now c.open.new.disk c.settle.new.disk (λ (l : List ℕ). whole_records l ≡ whole_records c.deref.result.now) run b left ∙ ap whole_records read

pub returns-in_err-bytes-clause-begins : goal.returns-in_err-bytes-clause-begins
returns-in_err-bytes-clause-begins g c = λ made bytes told b left. ap whole_records (c.open.ensures.begins made bytes told b left)

-- what a read gives then stands for the same records
pub returns-in_err-bytes-clause-reads : goal.returns-in_err-bytes-clause-reads
returns-in_err-bytes-clause-reads g c = λ bytes now told held. ap whole_records (some_same now bytes (sym held ∙ (c.open.ensures.seen ∙ told)))

pub returns-in_err-found-clause-reads : goal.returns-in_err-found-clause-reads
returns-in_err-found-clause-reads g c = λ bytes now told held.
    let read : c.deref.result.now ≡ bytes = c.deref.ensures.value ∙ c.in_ok-bytes.ensures.bytes bytes told in
    let run = c.settle.ensures.any_moment (c.open.ensures.seen ∙ told ∙ ap (λ (l : List ℕ). Some l) (sym read)) (λ b left. c.in_ok-bytes.ensures.durable bytes told b left ∙ sym read) in
    let left = g.met.D.Disk.leaves c.settle.new.disk 1 now (g.met.D.Disk.shows c.settle.new.disk ∙ held) in
    stands_now g.D.Disk.may_leave g.D.Disk.moment g.D.Disk.left_since g.met.D.Disk.counts_now c.open.new.disk c.settle.new.disk (λ (l : List ℕ). whole_records l ≡ whole_records c.deref.result.now) run now left ∙ ap whole_records read

pub returns-clause-reads : goal.returns-clause-reads
returns-clause-reads g c = λ bytes now told held.
    let read : c.deref.result.now ≡ bytes = c.deref.ensures.value ∙ c.in_ok-bytes.ensures.bytes bytes told in
    let run = c.settle.ensures.any_moment (c.open.ensures.seen ∙ told ∙ ap (λ (l : List ℕ). Some l) (sym read)) (λ b left. c.in_ok-bytes.ensures.durable bytes told b left ∙ sym read) in
    let left = g.met.D.Disk.leaves c.settle.new.disk 1 now (g.met.D.Disk.shows c.settle.new.disk ∙ held) in
    stands_now g.D.Disk.may_leave g.D.Disk.moment g.D.Disk.left_since g.met.D.Disk.counts_now c.open.new.disk c.settle.new.disk (λ (l : List ℕ). whole_records l ≡ whole_records c.deref.result.now) run now left ∙ ap whole_records read
