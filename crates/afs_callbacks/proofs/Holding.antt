-- A reply that waits for new breaks, and what a grant and the clock leave of the numbers of breaks.
use Rattle.std.proofs.Common.{◌≡◌, ◌≤◌, ◌+◌, ℕ, not, List, [], ◌∷◌, ◌++◌, length, false, sym, ap, subst, ◌∙◌, arith}
use Rattle.std.specs.Prelude.{nat_lt}
use Rattle.std.proofs.lemmas.List.{length-append}
use Rattle.afs_num.specs.declared.messages.Message.{Message}
use Rattle.afs_num.specs.declared.types.Fid.{Fid}
use Rattle.afs_num.specs.declared.types.Node.{Node}
use Rattle.spec_breaks.specs.Promises.{expired, grants_all, is_promise, with_promise, with_promises, without_promise, Lists}
use Rattle.spec_breaks.specs.declared.types.OwedBreak.{OwedBreak}
use Rattle.spec_breaks.specs.declared.types.Promise.{Promise}
use Rattle.spec_rows.specs.Callbacks.{alls, no_turn, break_numbers}
use Rattle.spec_rows.specs.States.{Backs}
use Rattle.afs_server_parts.specs.Turning.{backs_with, IsTurn, answer_turn}
use Rattle.afs_server_parts.specs.declared.turns.Turn.{Turn}
use Rattle.afs_server_parts.proofs.Turning.{backs_of}
use Rattle.afs_callbacks.specs.Answering.{with_lists}
use Rattle.afs_callbacks.proofs.Withdrawn.{filter_few}

-- the turn of a reply that is held, as the code makes it: with any promises that owe the breaks
abbrev pub Holds : Message → List OwedBreak → Turn → Turn → Type 0
Holds reply os t u = (l : Lists) → l.owed ≡ t.owed.items ++ os → IsTurn (answer_turn reply (break_numbers os ++ alls t.owed.items) false (backs_with l t.held t.calls)) u

pub held_with : (reply : Message) (os : List OwedBreak) (b : Backs) (l : Lists) (t u : Turn) → IsTurn (no_turn b) t → l.owed ≡ b.lists.owed ++ os → Holds reply os t u →
    IsTurn (answer_turn reply (break_numbers os ++ alls b.lists.owed) false (with_lists l b)) u
held_with reply os b l t u is e holds =
    let owed : b.lists.owed ≡ t.owed.items = is.owed in
    let first = holds l (e ∙ ap (λ (xs : List OwedBreak). xs ++ os) owed) in
    let second = subst (λ (x : Backs). IsTurn (answer_turn reply (break_numbers os ++ alls t.owed.items) false x) u) (ap (with_lists l) (backs_of b t is)) first in
    subst (λ (xs : List OwedBreak). IsTurn (answer_turn reply (break_numbers os ++ alls xs) false (with_lists l b)) u) (sym owed) second

-- ---- the numbers of breaks

with_one : (n : Node) (expiry : ℕ) (f : Fid) (ps : List Promise) → length (with_promise n expiry f ps) ≤ length ps + 1
with_one n expiry f ps =
    let less = filter_few (λ (p : Promise). not (is_promise n f p)) ps in
    let more = length-append (without_promise n f ps) (record { client = n; fid = f; expiry = expiry } ∷ []) in
    omega (arith, less, more)

with_all : (n : Node) (expiry : ℕ) (fs : List Fid) (ps : List Promise) → length (with_promises n expiry fs ps) ≤ length ps + length fs
with_all n expiry [] ps = omega arith
with_all n expiry (f ∷ fs) ps =
    let one = with_one n expiry f ps in
    let rest = with_all n expiry fs (with_promise n expiry f ps) in
    omega (arith, one, rest)

pub all_few : (n : Node) (expiry : ℕ) (fs : List Fid) (l m : Lists) → m ≡ grants_all n expiry fs l → l.last_owed + length l.promises + length fs ≤ 4000000000 → m.last_owed + length m.promises ≤ 4000000000
all_few n expiry fs l m is few =
    let all = with_all n expiry fs l.promises in
    subst (λ (k : Lists). k.last_owed + length k.promises ≤ 4000000000) (sym is) (omega (arith, all, few))

-- the clock leaves no more
pub expired_few : (now : ℕ) (l m : Lists) → m ≡ expired now l → l.last_owed + length l.promises ≤ 4000000000 → m.last_owed + length m.promises ≤ 4000000000
expired_few now l m is few =
    let less = filter_few (λ (p : Promise). nat_lt now p.expiry) l.promises in
    subst (λ (k : Lists). k.last_owed + length k.promises ≤ 4000000000) (sym is) (omega (arith, less, few))
