-- The promises of a file server, and the breaks that it owes.
use Rattle.std.specs.Prelude.{ℕ, ◌+◌, List, [], ◌∷◌, ◌++◌, Bool, true, false, not, ◌&&◌, Option, Some, None, nat_eq, nat_lt, filter, length, if◌then◌else◌}
use Rattle.std.specs.Ordering.{is_lt}
use Rattle.afs_num.specs.Fids.{same_fid, fid_order}
use Rattle.afs_num.specs.Nodes.{same_node}
use Rattle.afs_num.specs.declared.types.Fid.{Fid}
use Rattle.afs_num.specs.declared.types.Node.{Node}
use Rattle.spec_breaks.specs.declared.types.Promise.{Promise}
use Rattle.spec_breaks.specs.declared.types.OwedBreak.{OwedBreak}

-- the promises in the order of granting, the breaks that are owed in the order of their numbers, and the
-- last number of a break in this boot
pub record Lists : Type 0 where
  pub promises : List Promise
  pub owed : List OwedBreak
  pub last_owed : ℕ

abbrev pub no_lists : Lists
no_lists = record { promises = []; owed = []; last_owed = 0 }

-- ---- granting and giving up

abbrev pub is_promise : Node → Fid → Promise → Bool
is_promise client fid p = same_node p.client client && same_fid p.fid fid

abbrev pub without_promise : Node → Fid → List Promise → List Promise
without_promise client fid ps = filter (λ p. not (is_promise client fid p)) ps

-- a new promise takes the place of the client's old one on that fid, and stands last
abbrev pub with_promise : Node → ℕ → Fid → List Promise → List Promise
with_promise client expiry fid ps = without_promise client fid ps ++ record { client = client; fid = fid; expiry = expiry } ∷ []

-- one after the other
abbrev pub with_promises : Node → ℕ → List Fid → List Promise → List Promise
with_promises client expiry [] ps = ps
with_promises client expiry (fid ∷ fids) ps = with_promises client expiry fids (with_promise client expiry fid ps)

abbrev pub grants : Node → ℕ → Fid → Lists → Lists
grants client expiry fid l = record l { promises = with_promise client expiry fid l.promises }

abbrev pub grants_all : Node → ℕ → List Fid → Lists → Lists
grants_all client expiry fids l = record l { promises = with_promises client expiry fids l.promises }

abbrev pub gives_up : Node → Fid → Lists → Lists
gives_up client fid l = record l { promises = without_promise client fid l.promises }

-- ---- owing

-- the breaks that are owed for these promises, numbered behind `last`
abbrev pub owes_from : ℕ → List Promise → List OwedBreak
owes_from last [] = []
owes_from last (p ∷ ps) = record { number = last + 1; client = p.client; what = Some p.fid; expiry = p.expiry } ∷ owes_from (last + 1) ps

-- a break on all that this client holds
abbrev pub owes_all : Node → ℕ → Lists → Lists
owes_all client expiry l = record l {
  owed = l.owed ++ record { number = l.last_owed + 1; client = client; what = None; expiry = expiry } ∷ [];
  last_owed = l.last_owed + 1;
}

-- the promises that stay, and the breaks that are owed for the withdrawn ones
abbrev pub withdrawn : List Promise → List Promise → Lists → Lists
withdrawn stay gone l = record l {
  promises = stay;
  owed = l.owed ++ owes_from l.last_owed gone;
  last_owed = l.last_owed + length gone;
}

-- ---- withdrawing the promises on a fid

-- a change of the fid by the node `except` withdraws the promise
abbrev pub is_hit : Node → Fid → Promise → Bool
is_hit except fid p = same_fid p.fid fid && not (same_node p.client except)

abbrev pub hits : Node → Fid → List Promise → List Promise
hits except fid ps = filter (is_hit except fid) ps

abbrev pub left : Node → Fid → List Promise → List Promise
left except fid ps = filter (λ p. not (is_hit except fid p)) ps

abbrev pub withdraws : Node → Fid → Lists → Lists
withdraws except fid l = withdrawn (left except fid l.promises) (hits except fid l.promises) l

-- ---- withdrawing those on a volume

abbrev pub promise_on_volume : ℕ → Promise → Bool
promise_on_volume volume p = nat_eq p.fid.volume volume

abbrev pub hits_on : ℕ → List Promise → List Promise
hits_on volume ps = filter (promise_on_volume volume) ps

abbrev pub left_off : ℕ → List Promise → List Promise
left_off volume ps = filter (λ p. not (promise_on_volume volume p)) ps

-- behind those on lower fids, and before those on its own fid and on higher ones
abbrev pub promise_put : Promise → List Promise → List Promise
promise_put p [] = p ∷ []
promise_put p (q ∷ qs) = if is_lt (fid_order q.fid p.fid) then q ∷ promise_put p qs else p ∷ q ∷ qs

-- by ascending fid; those on one fid keep their order
abbrev pub by_fid : List Promise → List Promise
by_fid [] = []
by_fid (p ∷ ps) = promise_put p (by_fid ps)

abbrev pub withdraws_volume : ℕ → Lists → Lists
withdraws_volume volume l = withdrawn (left_off volume l.promises) (by_fid (hits_on volume l.promises)) l

-- ---- ends

abbrev pub has_break : ℕ → List OwedBreak → Bool
has_break number [] = false
has_break number (o ∷ os) = if nat_eq o.number number then true else has_break number os

-- of breaks: those under other numbers
abbrev pub without_break : ℕ → List OwedBreak → List OwedBreak
without_break number os = filter (λ o. not (nat_eq o.number number)) os

-- a break was handled, or is given up
abbrev pub break_ended : ℕ → Lists → Lists
break_ended number l = record l { owed = without_break number l.owed }

-- those whose expiry is above the clock
abbrev pub lasting : ℕ → List Promise → List Promise
lasting now ps = filter (λ p. nat_lt now p.expiry) ps

abbrev pub lasting_breaks : ℕ → List OwedBreak → List OwedBreak
lasting_breaks now os = filter (λ o. nat_lt now o.expiry) os

-- all others end
abbrev pub expired : ℕ → Lists → Lists
expired now l = record l { promises = lasting now l.promises; owed = lasting_breaks now l.owed }
