-- A client that knows no read-only volume does what the row of clients without them says.
use Rattle.std.proofs.Common.{◌≡◌, ℕ, Bool, true, false, cond, not, List, [], ◌∷◌, Option, Some, None, refl, sym, ap, ◌∙◌, eq-eqb, eqb-true}
use Rattle.std.specs.Prelude.{⊤, ◌&&◌, nat_eq, find}
use Rattle.spec_history.specs.declared.acts.Act.{Act}
use Rattle.spec_history.specs.declared.acts.Operand.{Operand}
use Rattle.spec_history.specs.declared.acts.Operand.TheVariants as operands
use Rattle.afs_num.specs.declared.location_calls.LocEntry.{LocEntry}
use Rattle.afs_num.specs.declared.messages.Message.{Message}
use Rattle.afs_num.specs.declared.messages.Received.{Received}
use Rattle.afs_num.specs.declared.messages.Received.TheVariants.{Nothing, Unserved, Unreadable, Whole}
use Rattle.afs_num.specs.declared.types.Node.{Node}
use Rattle.afs_num.specs.Nodes.{same_node}
use Rattle.std.specs.Str.{bytes_eq}
use Rattle.spec_rows.specs.ClientRow.{begin_row, call_of, guest_row, is_awaited, timeout_row, volume_asked}
use Rattle.spec_rows.specs.Going.{base_of, has_number, operand_in, ClientState, Going, Seek}
use Rattle.spec_rows.specs.States.{Location}
use Rattle.spec_rows.specs.Steps.{Step}
use Rattle.spec_copyrows.specs.CopyRow.{answers_in, answers_to, copy_begin_row, copy_row, copy_timeout_row, entry_told, hears_by, renewing, tells_new, times_out, uses}
use Rattle.spec_copyrows.specs.PlainCopies.{plain_step, CopiesArePlain, KnowsNoReadOnly, TellsNothingNew}
use Rattle.spec_copyrows.specs.Sites.{asked_since, entry_located, new_copies, new_round, round_by_entry, round_in, round_of, sited, sited_by, sited_in, with_client}

-- ---- there is no round

abbrev HasNoCopy : Option LocEntry → Type 0
HasNoCopy None = ⊤
HasNoCopy (Some e) = e.read_only ≡ 0

found_by : (b : Bool) (e : LocEntry) (o : Option LocEntry) → e.read_only ≡ 0 → HasNoCopy o → HasNoCopy (cond b (Some e) o)
found_by true e o h k = h
found_by false e o h k = k

found : (test : LocEntry → Bool) (table : List Location) → KnowsNoReadOnly table → HasNoCopy (find test table)
found test [] h = tt
found test (e ∷ es) h = found_by (test e) e (find test es) h.0 (found test es h.1)

at_operand : (table : List Location) (o : Option Operand) → KnowsNoReadOnly table → HasNoCopy (entry_located table o)
at_operand table None h = tt
at_operand table (Some (operands.Path p)) h = found (λ (e : LocEntry). bytes_eq e.name (base_of p.volume)) table h
at_operand table (Some (operands.Fid f)) h = found (has_number f.volume) table h

-- 0 is no volume's number
not_by : (a b : Bool) → (b ≡ true → a ≡ true) → (not a && b) ≡ false
not_by true b h = refl
not_by false true h = (let y : false ≡ true = h refl in absurd cc)
not_by false false h = refl

not_of : (id n : ℕ) → n ≡ 0 → (not (nat_eq id 0) && nat_eq n id) ≡ false
not_of id n e = not_by (nat_eq id 0) (nat_eq n id) (λ t. eq-eqb id 0 (sym (eqb-true n id t) ∙ e))

no_round_by : (id : ℕ) (o : Option LocEntry) → HasNoCopy o → round_by_entry id o ≡ None
no_round_by id None h = refl
no_round_by id (Some e) h = ap (λ (b : Bool). cond b (Some (new_round id e)) None) (not_of id e.read_only h)

no_round : (k : ClientState) (act : Going) (id : ℕ) → KnowsNoReadOnly k.table → round_in (new_copies k) act id ≡ None
no_round k act id h = no_round_by id (entry_located k.table (operand_in act id)) (at_operand k.table (operand_in act id) h)

none_runs : (k : ClientState) (act : Going) → KnowsNoReadOnly k.table → round_of (new_copies k) act ≡ None
none_runs k act h = no_round k act (volume_asked (call_of k act)) h

-- ---- so a call goes where the client's row sends it

sited_plain_by : (me : Node) (k : ClientState) (s : Step ClientState) (o : Option Going) → KnowsNoReadOnly s.state.table → sited_by me (new_copies k) s o ≡ plain_step s
sited_plain_by me k s None h = refl
sited_plain_by me k s (Some act) h = ap (sited_in me (new_copies k) s act) (none_runs s.state act h)

sited_plain : (me : Node) (k : ClientState) (s : Step ClientState) → KnowsNoReadOnly s.state.table → sited me (new_copies k) s ≡ plain_step s
sited_plain me k s h = sited_plain_by me k s (asked_since k.last s.state) h

-- ---- and no reply is another site's

module _ (me : Node) (k : ClientState) (clock place : ℕ) (before : KnowsNoReadOnly k.table) where
  answers_plain_by : (m : Message) (act : Going) (b : Bool) → KnowsNoReadOnly (guest_row me k clock place (Whole m)).state.table →
      cond b (answers_in me (new_copies k) clock place m act (round_of (new_copies k) act)) (uses me (new_copies k) clock place m) ≡ plain_step (guest_row me k clock place (Whole m))
  answers_plain_by m act true h = ap (answers_in me (new_copies k) clock place m act) (none_runs k act before) ∙ sited_plain me k (guest_row me k clock place (Whole m)) h
  answers_plain_by m act false h = sited_plain me k (guest_row me k clock place (Whole m)) h

  answers_plain : (m : Message) (o : Option Going) → KnowsNoReadOnly (guest_row me k clock place (Whole m)).state.table → answers_to me (new_copies k) clock place m o ≡ plain_step (guest_row me k clock place (Whole m))
  answers_plain m None h = sited_plain me k (guest_row me k clock place (Whole m)) h
  answers_plain m (Some act) h = answers_plain_by m act (same_node m.head.to me && is_awaited k act m.head) h

  hears_plain_by : (m : Message) (o : Option Seek) → ((s : Seek) → o ≡ Some s → tells_new me k m s ≡ false) → KnowsNoReadOnly (guest_row me k clock place (Whole m)).state.table → hears_by me (new_copies k) clock place m o ≡ plain_step (guest_row me k clock place (Whole m))
  hears_plain_by m None new h = answers_plain m k.running h
  hears_plain_by m (Some s) new h =
      ap (λ (b : Bool). cond b (uses me (with_client (new_copies k) (renewing k s (entry_told m.carried))) clock place m) (uses me (new_copies k) clock place m)) (new s refl)
      ∙ sited_plain me k (guest_row me k clock place (Whole m)) h

  hears_plain : (r : Received) → TellsNothingNew me k r → KnowsNoReadOnly (guest_row me k clock place r).state.table → copy_row me (new_copies k) clock place r ≡ plain_step (guest_row me k clock place r)
  unfolding copy_row
  hears_plain Nothing new h = sited_plain me k (guest_row me k clock place Nothing) h
  hears_plain (Unserved head) new h = sited_plain me k (guest_row me k clock place (Unserved head)) h
  hears_plain (Unreadable head) new h = sited_plain me k (guest_row me k clock place (Unreadable head)) h
  hears_plain (Whole m) new h = hears_plain_by m k.seeking new h

-- ---- the rows

begins_plain : (me : Node) (k : ClientState) (clock : ℕ) (act : Act) → KnowsNoReadOnly (begin_row me k clock act).state.table → copy_begin_row me (new_copies k) clock act ≡ plain_step (begin_row me k clock act)
unfolding copy_begin_row
begins_plain me k clock act h = sited_plain me k (begin_row me k clock act) h

waits_plain : (me : Node) (k : ClientState) (act : Going) → KnowsNoReadOnly k.table → copy_timeout_row me (new_copies k) act ≡ plain_step (timeout_row me k act)
unfolding copy_timeout_row
waits_plain me k act h = ap (times_out me (new_copies k) act) (none_runs k act h)

pub copies_plain : CopiesArePlain
copies_plain = record {
  begins = begins_plain;
  hears = λ me k clock place r before new h. hears_plain me k clock place before r new h;
  waits = waits_plain;
  seeks = λ me k s. refl;
  reborn = λ table k. refl;
}
