-- What stands in memory, as what a disk keeps of it.
use Rattle.std.proofs.Common.{◌≡◌, ℕ, [], ◌∷◌, Bool, true, false, not, zero, suc, Option, Some, None, is_some, refl, sym, ap, ◌∙◌, nat_eq, nat_lt, subst, slice_get, filter, if◌then◌else◌, Bor, IfSome, IfNone, arith}
use Rattle.std.proofs.lemmas.Bool.Decides.{nat_tests}
use Rattle.spec_ideal.specs.Tables.{set, Table}
use Rattle.afs_seats.specs.Seated.{seen_as}
use Rattle.afs_seats.proofs.Places.{filter_seen, set_seen}
use Rattle.afs_num.specs.Nodes.{node_number, node_of}
use Rattle.afs_num.specs.declared.types.Node.{Node}
use Rattle.afs_num.specs.declared.records.RecordHead.{RecordHead}
use Rattle.afs_num.specs.declared.records.StoreRecord.{StoreRecord}
use Rattle.spec_shape.specs.Taking.{◌>>=◌}
use Rattle.spec_records.specs.Records.{caller_number, caller_numbered, head_form, FitsRecord}
use Rattle.spec_records.specs.Durable.{Durable, Kept, booted, is_flagged, kept_by, noted, with_reply}
use Rattle.afs_memory.specs.declared.memory.KeptReply.{KeptReply}
use Rattle.afs_memory.specs.Called.{AreBytes, AreCalled, AreKnown, IsCalled, IsCaller}
use Rattle.afs_shelves.specs.Shelving.{shelved}
use Rattle.afs_shelves.specs.declared.shelf.Shelf.{Shelf}
use Rattle.afs_shelves.proofs.Found.{nth_some}
use Rattle.afs_memory.specs.States.{kept_in, kept_seen, parts_seen}

-- ---- replies that are found

called_nth : (i : ℕ) (t : Table KeptReply) (p : ℕ × KeptReply) → AreCalled t → slice_get t i ≡ Some p → node_number p.1.caller ≡ p.0
called_nth i [] p are found = absurd cc
called_nth zero (q ∷ qs) p are found = ap (λ (x : ℕ × KeptReply). node_number x.1.caller) (sym (same_item found)) ∙ (are.0.0 ∙ ap (λ (x : ℕ × KeptReply). x.0) (same_item found))
  where
    same_item : Some q ≡ Some p → q ≡ p
    same_item e = cc
called_nth (suc i) (q ∷ qs) p are found = called_nth i qs p are.1 found

pub nth_reply : (i : ℕ) (t : Table KeptReply) (p : ℕ × KeptReply) → AreCalled t → Some p ≡ slice_get t i → slice_get (seen_as kept_seen t) i ≡ Some (node_number p.1.caller, kept_seen p.1)
nth_reply i t p are e = nth_some kept_seen i (node_number p.1.caller) t p (called_nth i t p are (sym e)) e

called_by : (q p : ℕ × KeptReply) (ps rest : Table KeptReply) (same below : Bool) → IsCalled q → IsCalled p → AreCalled ps → AreCalled rest
    → AreCalled (if same then q ∷ ps else (if below then q ∷ p ∷ ps else p ∷ rest))
called_by q p ps rest true below is its are later = (is, are)
called_by q p ps rest false true is its are later = (is, (its, are))
called_by q p ps rest false false is its are later = (its, later)

called_set : (n : ℕ) (k : KeptReply) (t : Table KeptReply) → IsCalled (n, k) → AreCalled t → AreCalled (set n k t)
called_set n k [] is are = (is, tt)
called_set n k (p ∷ ps) is are = called_by (n, k) p ps (set n k ps) (nat_eq p.0 n) (nat_lt n p.0) is are.0 are.1 (called_set n k ps is are.1)

-- a reply is put by its caller's number
pub still_called : (n : ℕ) (k : KeptReply) (t u : Table KeptReply) → u ≡ set n k t → IsCalled (n, k) → AreCalled t → AreCalled u
still_called n k t u e is are = subst AreCalled (sym e) (called_set n k t is are)

-- the numbers are those of nodes
pub all_known : (t : Table KeptReply) → AreCalled t → AreKnown (seen_as kept_seen t)
all_known [] are = tt
all_known (p ∷ ps) are = (are.0.1.0, all_known ps are.1)

-- the replies are bytes
pub all_bytes : (t : Table KeptReply) → AreCalled t → AreBytes (seen_as kept_seen t)
all_bytes [] are = tt
all_bytes (p ∷ ps) are = (are.0.1.1, all_bytes ps are.1)

-- a record within its limits has a caller that is a node
known_by : (n : Node) (b : Bool) (o : Option Node) → (if b then Some None else (o >>= λ m. Some (Some m))) ≡ Some (Some n) → is_some o ≡ true
known_by n true o e = absurd cc
known_by n false None e = absurd cc
known_by n false (Some m) e = refl

is_caller : (c : Option Node) → caller_numbered (caller_number c) ≡ Some c → IsCaller c
is_caller None e = tt
is_caller (Some n) e = known_by n (nat_eq (node_number n) 0) (node_of (node_number n)) e

pub fits_caller : (r : StoreRecord) → FitsRecord r → IsCaller r.head.caller
unfolding head_form
fits_caller r fits = is_caller r.head.caller fits.head.0.1.1.0.1

-- ---- those that stay

pub parts_started : (before boot : ℕ) (t u : Table Shelf) (forwardings : Table Node) (stamps : Table ℕ) (kept : Table KeptReply) → u ≡ filter (λ p. not (is_flagged (shelved p.1))) t
    → parts_seen boot u forwardings stamps kept ≡ booted boot (parts_seen before t forwardings stamps kept)
parts_started before boot t u forwardings stamps kept e =
    rw e (ap (λ vs. record (parts_seen boot t forwardings stamps kept) { volumes = vs }) (sym (filter_seen shelved (λ s. not (is_flagged s)) t)))

-- ---- what a head says

noted_by : (h : RecordHead) (d : Durable) (caller : Option Node) (t : Table KeptReply) → d.kept ≡ seen_as kept_seen t
    → record d { kept = seen_as kept_seen (kept_in caller h.epoch h.number h.reply t) } ≡ with_reply caller h d
noted_by h d None t e = ap (λ (ks : Table Kept). record d { kept = ks }) (sym e)
noted_by h d (Some n) t e =
    ap (λ (ks : Table Kept). record d { kept = ks }) (sym (set_seen kept_seen (node_number n) (record { caller = n; epoch = h.epoch; number = h.number; reply = h.reply }) t) ∙ ap (set (node_number n) (kept_by h)) (sym e))

raised_by : (h : RecordHead) (boot : ℕ) (volumes : Table Shelf) (forwardings : Table Node) (stamps : Table ℕ) (kept : Table KeptReply) (b : Bool)
    → parts_seen boot volumes forwardings (if b then stamps else set h.family h.stamp stamps) kept
    ≡ (if b then parts_seen boot volumes forwardings stamps kept else record (parts_seen boot volumes forwardings stamps kept) { stamps = set h.family h.stamp stamps })
raised_by h boot volumes forwardings stamps kept true = refl
raised_by h boot volumes forwardings stamps kept false = refl

pub parts_noted : (h : RecordHead) (boot : ℕ) (volumes : Table Shelf) (forwardings : Table Node) (stamps new : Table ℕ) (kept last : Table KeptReply) → new ≡ (if nat_eq h.stamp 0 then stamps else set h.family h.stamp stamps)
    → last ≡ kept_in h.caller h.epoch h.number h.reply kept → parts_seen boot volumes forwardings new last ≡ noted h (parts_seen boot volumes forwardings stamps kept)
parts_noted h boot volumes forwardings stamps new kept last e f =
    ap (λ (t : Table KeptReply). parts_seen boot volumes forwardings new t) f
    ∙ (ap (λ (t : Table ℕ). parts_seen boot volumes forwardings t (kept_in h.caller h.epoch h.number h.reply kept)) e
    ∙ (noted_by h (parts_seen boot volumes forwardings (if nat_eq h.stamp 0 then stamps else set h.family h.stamp stamps) kept) h.caller kept refl
    ∙ ap (λ (d : Durable). with_reply h.caller h d) (raised_by h boot volumes forwardings stamps kept (nat_eq h.stamp 0))))

-- with the same volumes and forwardings
pub parts_same : (boot : ℕ) (t u : Table Shelf) (f g : Table Node) (stamps : Table ℕ) (kept : Table KeptReply) → u ≡ t → g ≡ f → parts_seen boot u g stamps kept ≡ parts_seen boot t f stamps kept
parts_same boot t u f g stamps kept e h = rw (e, h) refl
