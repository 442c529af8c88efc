-- A change has a record.
use Rattle.spec_model.specs.Calls.{key_of}
use Rattle.std.proofs.Common.{◌≡◌, ◌<◌, ◌^◌, ℕ, true, List, [], ◌∷◌, length, Some, refl, arith, lit<, ne_eqb}
use Rattle.std.specs.List.{AllByRecursion}
use Rattle.spec_ideal.specs.Images.{Image}
use Rattle.spec_ideal.specs.VnodeImage.{image_words, FitsImage}
use Rattle.afs_num.specs.Nodes.{node_number, IsNode}
use Rattle.afs_num.specs.declared.records.RecordBody.TheVariants as bodies
use Rattle.afs_num.specs.declared.types.Head.{Head}
use Rattle.afs_num.specs.declared.types.Node.{Node}
use Rattle.afs_num.specs.declared.types.Node.TheVariants.{Admin, Client, Loc, Server}
use Rattle.afs_xdr.specs.Words.{AreWords}
use Rattle.spec_rows.specs.ServerRow.{is_client}
use Rattle.spec_records.specs.Changes.{keeping}
use Rattle.spec_records.specs.Forms.{HasImageForm}
use Rattle.spec_records.specs.Records.{caller_form, head_form, FitsRecord}
use Rattle.spec_records.proofs.Callers.{caller_fits}
use Rattle.afs_callbacks.specs.Saving.{HasKind}

formed : (vs : List Image) → AllByRecursion FitsImage vs → AllByRecursion (λ (v : Image). AreWords (image_words v)) vs → AllByRecursion HasKind vs → AllByRecursion HasImageForm vs
formed [] limits words kinds = tt
formed (v ∷ vs) limits words kinds = (record { limits = limits.0; words = words.0; kind = kinds.0 }, formed vs limits.1 words.1 kinds.1)

client_fits : (n : Node) → IsNode n → is_client n ≡ true → caller_form.Fits (Some n)
client_fits (Client k) node is = caller_fits (Client k) node (ne_eqb (node_number (Client k)) 0 (λ e. absurd (omega (arith, e))))
client_fits Loc node is = absurd cc
client_fits (Server k) node is = absurd cc
client_fits (Admin k) node is = absurd cc

pub record_fits : (head : Head) (reply : List ℕ) (id counter unique : ℕ) (vnodes : List Image) (removed : List ℕ) → IsNode head.from → is_client head.from ≡ true → head.epoch < 2 ^ 32 → head.number < 2 ^ 32 → length reply < 2 ^ 32 →
    id < 2 ^ 32 → counter < 2 ^ 32 → unique < 2 ^ 32 → length vnodes < 2 ^ 32 → length removed < 2 ^ 32 → AllByRecursion FitsImage vnodes → AllByRecursion (λ (v : Image). AreWords (image_words v)) vnodes → AllByRecursion HasKind vnodes → AreWords removed →
    FitsRecord (record { head = keeping (key_of head) reply; body = bodies.Change id counter unique vnodes removed })
unfolding head_form
record_fits head reply id counter unique vnodes removed node client epoch number short id_fits counter_fits unique_fits few few_removed limits words kinds numbers = record {
  head = ((lit< tt, (lit< tt, (client_fits head.from node client, (epoch, (number, (omega (arith, short), short)))))), refl);
  body = (id_fits, (counter_fits, (unique_fits, ((few, formed vnodes limits words kinds), ((few_removed, numbers), tt)))));
  caller = refl;
}
