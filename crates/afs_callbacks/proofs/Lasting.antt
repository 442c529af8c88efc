-- Breaks that last are to the same nodes, and so are promises.
use Rattle.std.proofs.Common.{◌≡◌, ℕ, Bool, true, false, cond, not, List, [], ◌∷◌, nat_lt, nat_eq, refl, sym, subst}
use Rattle.std.specs.List.{All}
use Rattle.std.proofs.lemmas.List.Elements.{All-filter}
use Rattle.spec_breaks.specs.Promises.{break_ended, lasting, lasting_breaks, without_break, Lists}
use Rattle.spec_breaks.specs.declared.types.OwedBreak.{OwedBreak}
use Rattle.spec_breaks.specs.declared.types.Promise.{Promise}
use Rattle.spec_rows.specs.Callbacks.{ends_all}
use Rattle.spec_rows.specs.States.{BackCall}
use Rattle.afs_server_parts.specs.Turning.{breaks_left, IsBreakToNode}
use Rattle.afs_server_parts.proofs.Turning.{ends_owed}
use Rattle.afs_callbacks.specs.Waiting.{lists_timed}
use Rattle.afs_callbacks.specs.States.{IsPromiseToNode}

pub lasting_to_nodes : (now : ℕ) (os : List OwedBreak) → All IsBreakToNode os → All IsBreakToNode (lasting_breaks now os)
lasting_to_nodes now os h = All-filter (λ (o : OwedBreak). nat_lt now o.expiry) IsBreakToNode os h

left_to_nodes : (bs os : List OwedBreak) → All IsBreakToNode os → All IsBreakToNode (breaks_left bs os)
left_to_nodes [] os h = h
left_to_nodes (b ∷ bs) os h = left_to_nodes bs (without_break b.number os) (All-filter (λ (o : OwedBreak). not (nat_eq o.number b.number)) IsBreakToNode os h)

-- breaks that end take no promise away
pub ended_promises : (bs : List OwedBreak) (l : Lists) → (ends_all bs l).promises ≡ l.promises
ended_promises [] l = refl
ended_promises (b ∷ bs) l = ended_promises bs (break_ended b.number l)

pub ended_to_nodes : (bs : List OwedBreak) (l : Lists) → All IsBreakToNode l.owed → All IsBreakToNode (ends_all bs l).owed
ended_to_nodes bs l h = subst (All IsBreakToNode) (sym (ends_owed bs l)) (left_to_nodes bs l.owed h)

pub ended_promised : (bs : List OwedBreak) (l : Lists) → All IsPromiseToNode l.promises → All IsPromiseToNode (ends_all bs l).promises
ended_promised bs l h = subst (All IsPromiseToNode) (sym (ended_promises bs l)) h

timed_by : (t : Bool) (l k : Lists) → All IsBreakToNode l.owed → All IsBreakToNode k.owed → All IsBreakToNode (cond t l k).owed
timed_by true l k h i = h
timed_by false l k h i = i

pub timed_to_nodes : (c : BackCall) (l : Lists) → All IsBreakToNode l.owed → All IsBreakToNode (lists_timed c l).owed
timed_to_nodes c l h = timed_by (nat_lt c.tries 2) l (ends_all c.content l) h (ended_to_nodes c.content l h)

promised_by : (t : Bool) (l k : Lists) → All IsPromiseToNode l.promises → All IsPromiseToNode k.promises → All IsPromiseToNode (cond t l k).promises
promised_by true l k h i = h
promised_by false l k h i = i

pub timed_promised : (c : BackCall) (l : Lists) → All IsPromiseToNode l.promises → All IsPromiseToNode (lists_timed c l).promises
timed_promised c l h = promised_by (nat_lt c.tries 2) l (ends_all c.content l) h (ended_promised c.content l h)

pub lasting_promised : (now : ℕ) (ps : List Promise) → All IsPromiseToNode ps → All IsPromiseToNode (lasting now ps)
lasting_promised now ps h = All-filter (λ (p : Promise). nat_lt now p.expiry) IsPromiseToNode ps h
