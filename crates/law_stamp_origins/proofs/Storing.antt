-- What a server's step does to its stored stamps: they stay, but for the stamp of the call that the step runs.
use Rattle.std.proofs.Common.{◌≡◌, ◌⊎◌, inl, inr, ℕ, Bool, true, false, cond, List, [], Option, Some, None, refl, sym, ap, subst, ◌∙◌, eqb-true, nat_eq}
use Rattle.std.specs.Prelude.{⊤}
use Rattle.afs_num.specs.declared.messages.Message.{Message}
use Rattle.afs_num.specs.declared.messages.Received.TheVariants.{Whole}
use Rattle.afs_num.specs.declared.records.RecordBody.{RecordBody}
use Rattle.afs_num.specs.declared.records.RecordBody.TheVariants as bodies
use Rattle.afs_num.specs.declared.types.Head.{Head}
use Rattle.afs_num.specs.declared.types.Node.{Node}
use Rattle.afs_num.specs.declared.types.Node.TheVariants.{Server}
use Rattle.spec_ideal.specs.Tables.{get, set, Table}
use Rattle.spec_ideal.proofs.Tables.{get_set}
use Rattle.spec_dumps.specs.Restores.{restored_from}
use Rattle.spec_fold.specs.Deeds.{clone_made, clone_put, done_by, flagged, on_stored, or_as_was}
use Rattle.spec_records.specs.Durable.{or_zero, stamp_of, with_stamp, Durable, Stored}
use Rattle.spec_rows.specs.Hosts.{at_rest, begun_from, in_boot, in_step, Blow, Fall}
use Rattle.spec_rows.specs.ServerRow as files
use Rattle.spec_rows.specs.ServerRow.{begun_after, does, Decision}
use Rattle.spec_rows.specs.States.{durable_of, Lasting, ServerState}
use Rattle.spec_rows.specs.Steps.{Begun}
use Rattle.spec_volrows.proofs.VolTurns.{deeds_are_shown, others_leave_files}
use Rattle.spec_volrows.specs.FileRow.{file_decides, file_row}
use Rattle.spec_volrows.specs.NodeHosts.{node_kind}
use Rattle.spec_volrows.specs.VolLaws.{is_saved, stamp_at, LeavesFiles, ShowsDeed}
use Rattle.spec_volrows.specs.VolRow.{holds_of}
use Rattle.spec_volrows.specs.VolStates.{NodeState}
use Rattle.spec_volrows.specs.VolSteps.{deed_done, deed_head, dispatches, drops, is_of_client, node_begun_after, node_file_decides, node_row, repeats, replies_to, saves, tells_boot, vol_begun_after, vol_decides, Deed, VolDecision}
use Rattle.law_stamp_origins.proofs.Deciding.{decides_brings, Brings, IsIn, Writes}

-- ---- what is written

stored_stamps : (id : ℕ) (f : Stored → Stored) (o : Option Stored) (d : Durable) → (on_stored id f o d).stamps ≡ d.stamps
stored_stamps id f None d = refl
stored_stamps id f (Some s) d = refl

put_stamps : (source id : ℕ) (name : List ℕ) (kind release : ℕ) (s : Stored) (o : Option Stored) (d : Durable) → (clone_put source id name kind release s o d).stamps ≡ d.stamps
put_stamps source id name kind release s None d = refl
put_stamps source id name kind release s (Some old) d = refl

clone_stamps : (source id : ℕ) (name : List ℕ) (kind release : ℕ) (o : Option Stored) (d : Durable) → (clone_made source id name kind release o d).stamps ≡ d.stamps
clone_stamps source id name kind release None d = refl
clone_stamps source id name kind release (Some s) d = put_stamps source id name kind release s (get id d.volumes) d

done_stamps : (body : RecordBody) (d : Durable) → (done_by body d).stamps ≡ d.stamps
done_stamps (bodies.First volumes) d = refl
done_stamps (bodies.Change id counter unique vnodes removed) d = refl
done_stamps (bodies.Boot boot) d = refl
done_stamps (bodies.Create id family name kind flags quota is_new) d = refl
done_stamps (bodies.Delete id) d = refl
done_stamps (bodies.Clone source id name kind release) d = clone_stamps source id name kind release (get source d.volumes) d
done_stamps (bodies.Restore id dump) d = stored_stamps id (λ s. or_as_was s (restored_from id s dump)) (get id d.volumes) d
done_stamps (bodies.Flags id flags) d = stored_stamps id (flagged flags) (get id d.volumes) d
done_stamps (bodies.Forward id to) d = refl
done_stamps bodies.Stamp d = refl

-- The stamp stays, or it is the call's, in the call's family.
abbrev pub IsStored : Message → ℕ → ℕ → ℕ → Type 0
IsStored m family old new = (new ≡ old) ⊎ (IsIn m.carried family × (new ≡ m.head.stamp))

set_by : (m : Message) (b : Bool) (family stamp f : ℕ) (t : Table ℕ) → nat_eq family f ≡ b → IsIn m.carried family → stamp ≡ m.head.stamp → IsStored m f (or_zero (get f t)) (or_zero (cond b (Some stamp) (get f t)))
set_by m true family stamp f t same is under = inr (subst (IsIn m.carried) (eqb-true family f same) is, under)
set_by m false family stamp f t same is under = inl refl

set_stored : (m : Message) (family stamp f : ℕ) (t : Table ℕ) → IsIn m.carried family → stamp ≡ m.head.stamp → IsStored m f (or_zero (get f t)) (or_zero (get f (set family stamp t)))
set_stored m family stamp f t is under = subst (λ (o : Option ℕ). IsStored m f (or_zero (get f t)) (or_zero o)) (sym (get_set f family stamp t)) (set_by m (nat_eq family f) family stamp f t refl is under)

stamp_by : (m : Message) (b : Bool) (family stamp f : ℕ) (d : Durable) → nat_eq stamp 0 ≡ b → (stamp ≡ 0) ⊎ (IsIn m.carried family × (stamp ≡ m.head.stamp)) → IsStored m f (stamp_of f d) (stamp_of f (cond b d (record d { stamps = set family stamp d.stamps })))
stamp_by m true family stamp f d is w = inl refl
stamp_by m false family stamp f d is (inl none) = absurd (no_zero stamp is none)
  where
    no_zero : (n : ℕ) → nat_eq n 0 ≡ false → n ≡ 0 → ⊥
    no_zero n e z = let k : nat_eq 0 0 ≡ false = subst (λ (i : ℕ). nat_eq i 0 ≡ false) z e in absurd cc
stamp_by m false family stamp f d is (inr w) = set_stored m family stamp f d.stamps w.0 w.1

deed_stored : (m : Message) (head : Head) (x : Deed) (d : Durable) (f : ℕ) → Writes m.head m.carried x → IsStored m f (stamp_of f d) (stamp_of f (with_stamp (deed_head head x) (done_by x.body d)))
deed_stored m head x d f w =
    subst (λ (n : ℕ). IsStored m f n (stamp_of f (with_stamp (deed_head head x) (done_by x.body d)))) (ap (λ (t : Table ℕ). or_zero (get f t)) (done_stamps x.body d))
    (stamp_by m (nat_eq x.stamp 0) x.family x.stamp f (done_by x.body d) refl w)

-- ---- a step on a message

does_stamps : (me : Node) (s : ServerState) (clock place : ℕ) (d : Decision) → (does me s clock place d []).state.lasting.stamps ≡ s.lasting.stamps
does_stamps me s clock place files.drops = refl
does_stamps me s clock place (files.tells_boot head) = refl
does_stamps me s clock place (files.repeats reply) = refl
does_stamps me s clock place (files.refuses head code) = refl
does_stamps me s clock place (files.shows head r) = refl
does_stamps me s clock place (files.saves head c) = refl

abbrev RowStored : Node → NodeState → ℕ → ℕ → Message → ℕ → Type 0
RowStored me s clock place m f = IsStored m f (stamp_at s.file f) (stamp_at (node_row me s clock place (Whole m)).state.file f)

left_stored : (me : Node) (s : NodeState) (clock place : ℕ) (m : Message) (f : ℕ) → is_of_client (Some m.head.from) ≡ false → is_saved (vol_decides me (durable_of s.file.lasting) s.vol (Whole m)) ≡ false → RowStored me s clock place m f
left_stored me s clock place m f other quiet' =
    let z : LeavesFiles clock s.file _ = others_leave_files.given me s clock place (Whole m) other quiet' in
    inl (ap (λ (l : Lasting). or_zero (get f l.stamps)) z.lasting)

other_stored : (me : Node) (s : NodeState) (clock place : ℕ) (m : Message) (f : ℕ) (d : VolDecision) → is_of_client (Some m.head.from) ≡ false → vol_decides me (durable_of s.file.lasting) s.vol (Whole m) ≡ d → Brings m.head m.carried d → RowStored me s clock place m f
other_stored me s clock place m f (saves head x) other is w =
    let z : ShowsDeed me s clock place head x _ = deeds_are_shown me s clock place (Whole m) head x other is in
    subst (IsStored m f (stamp_at s.file f)) (sym (ap (λ (l : Lasting). or_zero (get f l.stamps)) z.lasting)) (deed_stored m head x (durable_of s.file.lasting) f w)
other_stored me s clock place m f drops other is w = left_stored me s clock place m f other (ap is_saved is)
other_stored me s clock place m f (tells_boot head) other is w = left_stored me s clock place m f other (ap is_saved is)
other_stored me s clock place m f (repeats reply) other is w = left_stored me s clock place m f other (ap is_saved is)
other_stored me s clock place m f (replies_to head reply ts last) other is w = left_stored me s clock place m f other (ap is_saved is)
other_stored me s clock place m f (dispatches head x) other is w = left_stored me s clock place m f other (ap is_saved is)

row_by : (b : Bool) (me : Node) (s : NodeState) (clock place : ℕ) (m : Message) (f : ℕ) → is_of_client (Some m.head.from) ≡ b → RowStored me s clock place m f
unfolding node_row file_row
row_by true me s clock place m f is = rw is (inl (ap (λ (t : Table ℕ). or_zero (get f t)) (does_stamps me s.file clock place (file_decides me (holds_of s.vol.transactions) s.file clock (Whole m)))))
row_by false me s clock place m f is = other_stored me s clock place m f _ is refl (decides_brings me (durable_of s.file.lasting) s.vol m)

pub row_stored : (me : Node) (s : NodeState) (clock place : ℕ) (m : Message) (f : ℕ) → RowStored me s clock place m f
row_stored me s clock place m f = row_by (is_of_client (Some m.head.from)) me s clock place m f refl

-- ---- what a restart begins with

file_begun : (me : Node) (s : ServerState) (clock : ℕ) (d : Decision) → (begun_after me s clock d).state.lasting.stamps ≡ s.lasting.stamps
file_begun me s clock files.drops = refl
file_begun me s clock (files.tells_boot head) = refl
file_begun me s clock (files.repeats reply) = refl
file_begun me s clock (files.refuses head code) = refl
file_begun me s clock (files.shows head r) = refl
file_begun me s clock (files.saves head c) = refl

vol_begun : (me : Node) (s : ServerState) (m : Message) (f : ℕ) (d : VolDecision) → Brings m.head m.carried d → IsStored m f (stamp_at s f) (stamp_at (vol_begun_after me s d).state f)
vol_begun me s m f (saves head x) w = deed_stored m head x (durable_of s.lasting) f w
vol_begun me s m f drops w = inl refl
vol_begun me s m f (tells_boot head) w = inl refl
vol_begun me s m f (repeats reply) w = inl refl
vol_begun me s m f (replies_to head reply ts last) w = inl refl
vol_begun me s m f (dispatches head x) w = inl refl

either_begun : (m : Message) (f old : ℕ) (b : Bool) (x y : Begun ServerState) → IsStored m f old (stamp_at x.state f) → IsStored m f old (stamp_at y.state f) → IsStored m f old (stamp_at (cond b x y).state f)
either_begun m f old true x y h k = h
either_begun m f old false x y h k = k

after_stored : (me : Node) (s : NodeState) (clock : ℕ) (m : Message) (f : ℕ) → IsStored m f (stamp_at s.file f) (stamp_at (node_begun_after me s clock (Whole m)).state f)
after_stored me s clock m f =
    either_begun m f (stamp_at s.file f) (is_of_client (Some m.head.from)) (begun_after me s.file clock (node_file_decides me s clock (Whole m))) (vol_begun_after me s.file (vol_decides me (durable_of s.file.lasting) s.vol (Whole m)))
    (inl (ap (λ (t : Table ℕ). or_zero (get f t)) (file_begun me s.file clock (node_file_decides me s clock (Whole m))))) (vol_begun me s.file m f (vol_decides me (durable_of s.file.lasting) s.vol (Whole m)) (decides_brings me (durable_of s.file.lasting) s.vol m))

-- by the message of the interrupted step, if there is one
abbrev pub FallStores : Fall → ℕ → ℕ → ℕ → Type 0
FallStores (in_step m clock b) family old new = IsStored m family old new
FallStores at_rest family old new = new ≡ old
FallStores in_boot family old new = new ≡ old

pub begun_stored : (i : ℕ) (s : NodeState) (after : Bool) (fall : Fall) (f : ℕ) → FallStores fall f (stamp_at s.file f) (stamp_at (begun_from (node_kind (Server i)) s after fall).state.file f)
begun_stored i s after at_rest f = refl
begun_stored i s false (in_step m clock b) f = inl refl
begun_stored i s true (in_step m clock b) f = after_stored (Server i) s clock m f
begun_stored i s false in_boot f = refl
begun_stored i s true in_boot f = refl
