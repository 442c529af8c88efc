-- A message that is taken while it is read, behind what stands before it.
use Rattle.std.proofs.Common.{◌≡◌, ℕ, Bool, true, List, Option, Some, Result, Ok, Err, refl, sym, subst}
use Rattle.afs_xdr.specs.Words.{opaque_at}
use Rattle.spec_shape.specs.declared.faults.ShapeFault.{ShapeFault}
use Rattle.spec_shape.specs.declared.faults.ShapeFault.TheVariants as faults
use Rattle.spec_shape.specs.declared.kinds.Kind.{Kind}
use Rattle.spec_shape.specs.Reading.{in_place, GivesShape}
use Rattle.spec_shape.specs.Rows.{MessageTable, message_of}
use Rattle.spec_shape.specs.Bodies.{row_at, body_at}
use Rattle.spec_shape.specs.Taken.{row_fields_at, TakesRead}
use Rattle.afs_fields.proofs.TakenLaws.{is_body}
use Rattle.spec_model.specs.Heads.{user_limit}
use Rattle.spec_model.specs.Rpc.{asked_at, answer_at}

abbrev Asked : {X : Type 0} → MessageTable X → ℕ → List ℕ → Result (List ℕ × X) ShapeFault → Type 0
Asked table opcode bytes r = GivesShape (λ c. c) (asked_at table opcode bytes) r

-- a call behind its user
pub asked : {X : Type 0} (table : MessageTable X) (opcode : ℕ) (ks : List Kind) (bytes after user : List ℕ) (call : X) → row_at table opcode ≡ Ok ks → in_place 0 (opaque_at user_limit bytes) ≡ Ok (user, after)
    → TakesRead (message_of table opcode) (row_fields_at table opcode after) (Ok call) → asked_at table opcode bytes ≡ Ok (user, call)
unfolding asked_at
asked {X} table opcode ks bytes after user call e u h =
    let b : body_at table opcode ks after ≡ Ok call = is_body table opcode ks after (Ok call) e h in
    rw (e, u, b) refl

no_call : {X : Type 0} (table : MessageTable X) (opcode : ℕ) (ks : List Kind) (bytes after user : List ℕ) (f : ShapeFault) → row_at table opcode ≡ Ok ks → in_place 0 (opaque_at user_limit bytes) ≡ Ok (user, after) → body_at table opcode ks after ≡ Err f → asked_at table opcode bytes ≡ Err f
unfolding asked_at
no_call {X} table opcode ks bytes after user f e u b = rw (e, u, b) refl

not_asked : {X : Type 0} (table : MessageTable X) (opcode : ℕ) (ks : List Kind) (bytes after user : List ℕ) (f : ShapeFault) → row_at table opcode ≡ Ok ks → in_place 0 (opaque_at user_limit bytes) ≡ Ok (user, after)
    → TakesRead (message_of table opcode) (row_fields_at table opcode after) (Err f) → Asked table opcode bytes (Err f)
not_asked {X} table opcode ks bytes after user faults.OutOfMemory e u h = tt
not_asked {X} table opcode ks bytes after user (faults.Head g) e u h = no_call table opcode ks bytes after user (faults.Head g) e u (is_body table opcode ks after (Err (faults.Head g)) e h)
not_asked {X} table opcode ks bytes after user (faults.NoRow n) e u h = no_call table opcode ks bytes after user (faults.NoRow n) e u (is_body table opcode ks after (Err (faults.NoRow n)) e h)
not_asked {X} table opcode ks bytes after user (faults.Field i g) e u h = no_call table opcode ks bytes after user (faults.Field i g) e u (is_body table opcode ks after (Err (faults.Field i g)) e h)

pub refused : {X : Type 0} (table : MessageTable X) (opcode : ℕ) (ks : List Kind) (bytes after user : List ℕ) (f : ShapeFault) (r : Result (List ℕ × X) ShapeFault) → r ≡ Err f → row_at table opcode ≡ Ok ks → in_place 0 (opaque_at user_limit bytes) ≡ Ok (user, after)
    → TakesRead (message_of table opcode) (row_fields_at table opcode after) (Err f) → GivesShape (λ c. c) (asked_at table opcode bytes) r
refused {X} table opcode ks bytes after user f r is e u h = subst (λ (o : Result (List ℕ × X) ShapeFault). Asked table opcode bytes o) (sym is) (not_asked table opcode ks bytes after user f e u h)

-- ---- a reply behind its code

abbrev Answered : {X : Type 0} → MessageTable X → ℕ → Bool → List ℕ → Result (Option X) ShapeFault → Type 0
Answered table opcode done bytes r = GivesShape (λ x. x) (answer_at table opcode done bytes) r

pub answered : {X : Type 0} (table : MessageTable X) (opcode : ℕ) (ks : List Kind) (done : Bool) (bytes : List ℕ) (reply : X) → done ≡ true → row_at table opcode ≡ Ok ks → TakesRead (message_of table opcode) (row_fields_at table opcode bytes) (Ok reply)
    → answer_at table opcode done bytes ≡ Ok (Some reply)
unfolding answer_at
answered {X} table opcode ks done bytes reply d e h =
    let b : body_at table opcode ks bytes ≡ Ok reply = is_body table opcode ks bytes (Ok reply) e h in
    rw (d, e, b) refl

no_reply : {X : Type 0} (table : MessageTable X) (opcode : ℕ) (ks : List Kind) (done : Bool) (bytes : List ℕ) (f : ShapeFault) → done ≡ true → row_at table opcode ≡ Ok ks → body_at table opcode ks bytes ≡ Err f → answer_at table opcode done bytes ≡ Err f
unfolding answer_at
no_reply {X} table opcode ks done bytes f d e b = rw (d, e, b) refl

not_answered : {X : Type 0} (table : MessageTable X) (opcode : ℕ) (ks : List Kind) (done : Bool) (bytes : List ℕ) (f : ShapeFault) → done ≡ true → row_at table opcode ≡ Ok ks → TakesRead (message_of table opcode) (row_fields_at table opcode bytes) (Err f) → Answered table opcode done bytes (Err f)
not_answered {X} table opcode ks done bytes faults.OutOfMemory d e h = tt
not_answered {X} table opcode ks done bytes (faults.Head g) d e h = no_reply table opcode ks done bytes (faults.Head g) d e (is_body table opcode ks bytes (Err (faults.Head g)) e h)
not_answered {X} table opcode ks done bytes (faults.NoRow n) d e h = no_reply table opcode ks done bytes (faults.NoRow n) d e (is_body table opcode ks bytes (Err (faults.NoRow n)) e h)
not_answered {X} table opcode ks done bytes (faults.Field i g) d e h = no_reply table opcode ks done bytes (faults.Field i g) d e (is_body table opcode ks bytes (Err (faults.Field i g)) e h)

pub unanswered : {X : Type 0} (table : MessageTable X) (opcode : ℕ) (ks : List Kind) (done : Bool) (bytes : List ℕ) (f : ShapeFault) (r : Result (Option X) ShapeFault) → r ≡ Err f → done ≡ true → row_at table opcode ≡ Ok ks
    → TakesRead (message_of table opcode) (row_fields_at table opcode bytes) (Err f) → GivesShape (λ x. x) (answer_at table opcode done bytes) r
unanswered {X} table opcode ks done bytes f r is d e h = subst (λ (o : Result (Option X) ShapeFault). Answered table opcode done bytes o) (sym is) (not_answered table opcode ks done bytes f d e h)
