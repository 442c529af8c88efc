-- What is written has a record.
use Rattle.std.proofs.Common.{◌≡◌, ◌≤◌, ◌<◌, ◌^◌, ℕ, Bool, true, false, List, length, Some, refl, arith, ne_eqb}
use Rattle.std.specs.Prelude.{nat_eq}
use Rattle.afs_num.specs.Nodes.{node_number, IsNode}
use Rattle.afs_num.specs.declared.records.RecordBody.{RecordBody}
use Rattle.afs_num.specs.declared.records.RecordBody.TheVariants as bodies
use Rattle.afs_num.specs.declared.types.Head.{Head}
use Rattle.afs_num.specs.declared.types.Node.{Node}
use Rattle.afs_num.specs.declared.types.Node.TheVariants.{Admin, Client, Loc, Server}
use Rattle.spec_fold.specs.Deeds.{can_take}
use Rattle.spec_records.specs.Changes.{keeping}
use Rattle.spec_records.specs.Durable.{Durable}
use Rattle.spec_records.specs.Records.{caller_form, head_form, may_call, row, FitsRecord}
use Rattle.spec_model.specs.Calls.{key_of}
use Rattle.spec_records.proofs.Callers.{caller_fits}
use Rattle.afs_voldecisions.specs.Verdicts.{HasForm}
use Rattle.spec_volrows.specs.VolSteps.{is_vol_caller}
use Rattle.afs_volstore.specs.Stores.{IsNoChange}

-- the number of a server is its place, and servers are from 1 on
not_first : (b : Bool) (n : ℕ) → nat_eq n 0 ≡ b → IsNode (Server n) → b ≡ false
not_first false n e node = refl
not_first true n e node = absurd cc

vol_caller_fits : (n : Node) → IsNode n → is_vol_caller n ≡ true → caller_form.Fits (Some n)
vol_caller_fits (Server k) node is = caller_fits (Server k) node (not_first (nat_eq k 0) k refl node)
vol_caller_fits (Admin k) node is = caller_fits (Admin k) node (ne_eqb (node_number (Admin k)) 0 (λ e. absurd (omega (arith, e))))
vol_caller_fits Loc node is = absurd cc
vol_caller_fits (Client k) node is = absurd cc

-- every record of the volume server may have a caller
pub called_for : (body : RecordBody) (d : Durable) (n : Node) → can_take body d ≡ true → may_call (row body).number (Some n) ≡ true
called_for (bodies.First volumes) d n can = absurd cc
called_for (bodies.Change id counter unique vnodes removed) d n can = absurd cc
called_for (bodies.Boot boot) d n can = absurd cc
called_for (bodies.Create id family name kind flags quota is_new) d n can = refl
called_for (bodies.Delete id) d n can = refl
called_for (bodies.Clone source id name kind release) d n can = refl
called_for (bodies.Restore id dump) d n can = refl
called_for (bodies.Flags id flags) d n can = refl
called_for (bodies.Forward id to) d n can = refl
called_for bodies.Stamp d n can = refl

-- and is none of a change
pub no_change : (body : RecordBody) (d : Durable) → can_take body d ≡ true → IsNoChange body
no_change (bodies.First volumes) d can = tt
no_change (bodies.Change id counter unique vnodes removed) d can = absurd cc
no_change (bodies.Boot boot) d can = tt
no_change (bodies.Create id family name kind flags quota is_new) d can = tt
no_change (bodies.Delete id) d can = tt
no_change (bodies.Clone source id name kind release) d can = tt
no_change (bodies.Restore id dump) d can = tt
no_change (bodies.Flags id flags) d can = tt
no_change (bodies.Forward id to) d can = tt
no_change bodies.Stamp d can = tt

pub record_fits : (head : Head) (reply : List ℕ) (family stamp : ℕ) (body : RecordBody) → IsNode head.from → is_vol_caller head.from ≡ true → head.epoch < 2 ^ 32 → head.number < 2 ^ 32 → length reply ≤ 4294967295 → family < 2 ^ 32 → stamp < 2 ^ 32 → HasForm (Some body) →
    may_call (row body).number (Some head.from) ≡ true → FitsRecord (record { head = record (keeping (key_of head) reply) { family = family; stamp = stamp }; body = body })
unfolding head_form
record_fits head reply family stamp body node served epoch number short family_fits stamp_fits form may = record {
  head = ((family_fits, (stamp_fits, (vol_caller_fits head.from node served, (epoch, (number, (short, omega (arith, short))))))), refl);
  body = form;
  caller = may;
}
