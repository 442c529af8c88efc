-- Several fids are looked up one after the other.
use Rattle.std.proofs.Common.{◌≡◌, ◌≤◌, ℕ, ◌+◌, Bool, false, List, [], ◌∷◌, ◌++◌, map, length, Option, Some, None, refl, sym, ap, subst, ◌∙◌, append_assoc, arith}
use Rattle.std.specs.Option.{option_map}
use Rattle.std.specs.Prelude.{Result, Ok, Err, ℤ, pos, nat_eq}
use Rattle.std.proofs.lemmas.List.{append-nil, length-append, length-map, map-append}
use Rattle.afs_num.specs.declared.calls.AfsCallBack.{AfsCallBack}
use Rattle.afs_num.specs.declared.calls.AfsFetchStatus.{AfsFetchStatus}
use Rattle.afs_num.specs.declared.calls.AfsVolSync.{AfsVolSync}
use Rattle.afs_num.specs.declared.calls.FsCall.TheVariants as calls
use Rattle.afs_num.specs.declared.calls.FsReply.{FsReply}
use Rattle.afs_num.specs.declared.calls.FsReply.TheVariants as replies
use Rattle.afs_num.specs.declared.types.Fid.{Fid}
use Rattle.afs_num.specs.declared.types.Head.{Head}
use Rattle.spec_ideal.specs.Operations as operations
use Rattle.spec_ideal.specs.Operations.{by_tests, first_failing, limited, op, read_by, refused, reads, changes, no_operation, shows_status, tests, Caller, Found}
use Rattle.spec_ideal.specs.Replies.{found_status, sync_of}
use Rattle.spec_ideal.specs.Tables.{get, Table}
use Rattle.spec_ideal.specs.Volumes.{Vnode, vnode_of}
use Rattle.spec_records.specs.Durable.{Stored}
use Rattle.spec_shape.specs.Reading.{◌>>=◌}
use Rattle.spec_shape.specs.Rows.{no_callback}
use Rattle.spec_shape.specs.Tables.{IsCount}
use Rattle.spec_model.specs.Heads.{is_zero}
use Rattle.spec_rows.specs.ServerRow.{refuses, several, sight_by, sight_in, sight_status, statuses_read, sync_of_first, Sight}
use Rattle.spec_rows.specs.States.{Lasting, ServerState}
use Rattle.spec_volrows.specs.FileRow.{closed_code, file_sight, missing_code, sight_unless}
use Rattle.afs_callees.specs.Telling.{grants_seen}
use Rattle.afs_callees.specs.declared.telling.Grant.{Grant}
use Rattle.afs_reads.specs.Replying.{refusal_of, reply_of, Replies}
use Rattle.afs_volume.specs.Giving.{volume_of}
use Rattle.afs_shelves.specs.Shelving.{stored_as}
use Rattle.afs_reads.specs.declared.faults.OpFault.{OpFault}
use Rattle.afs_reads.specs.declared.faults.OpFault.TheVariants as faults
use Rattle.afs_volume.specs.declared.volume.Volume.{Volume}
use Rattle.afs_decisions.specs.Deciding.{CanBeTold, Decides, FitsDecided}
use Rattle.afs_decisions.specs.Several.{behind, or_first, seen_in, sync_seen, sync_told, AreFirst, AreSeen, AreTold, IsFault, IsRefused, IsSeen, IsSight, IsStatusRead, Sees, SeesAll, TellsOne, ToldAs}
use Rattle.afs_decisions.specs.declared.decided.Decided.{Decided}
use Rattle.afs_decisions.specs.declared.several.Seen.{Seen}
use Rattle.afs_decisions.specs.declared.several.Told.{Told}
use Rattle.afs_decisions.proofs.Codes.{op_code}
use Rattle.afs_decisions.proofs.Decisions.{same_times}

behind_by : (xs : List Sight) (x : Sight) (r : Result (List Sight) ℕ) → behind xs (r >>= λ ys. Ok (x ∷ ys)) ≡ behind (xs ++ x ∷ []) r
behind_by xs x (Ok ys) = ap Ok (sym (append_assoc xs (x ∷ []) ys))
behind_by xs x (Err code) = refl

-- one more is seen
pub behind_next : (xs : List Sight) (x : Sight) (s : Result Sight ℕ) (r : Result (List Sight) ℕ) → s ≡ Ok x → behind xs (s >>= λ y. (r >>= λ ys. Ok (y ∷ ys))) ≡ behind (xs ++ x ∷ []) r
behind_next xs x s r e = rw e (behind_by xs x r)

-- one is refused
pub behind_refused : (xs : List Sight) (code : ℕ) (s : Result Sight ℕ) (r : Result (List Sight) ℕ) → s ≡ Err code → behind xs (s >>= λ y. (r >>= λ ys. Ok (y ∷ ys))) ≡ Err code
behind_refused xs code s r e = rw e refl

first_by : (xs : List Sight) (x : Sight) (sync : AfsVolSync) (o : Option AfsVolSync) → o ≡ sync_seen xs → sync ≡ sync_of x.stored.volume → or_first sync o ≡ sync_seen (xs ++ x ∷ [])
first_by [] x sync o e q = rw e (ap Some q)
first_by (y ∷ xs) x sync o e q = rw e refl

pub told_more : (caller : Caller) (xs : List Sight) (x : Sight) (f : Fid) (seen : Seen) (t u : Told) → AreTold caller xs t → IsSight caller f seen x →
    u.statuses ≡ t.statuses ++ seen.status ∷ [] → u.callbacks ≡ t.callbacks ++ no_callback ∷ [] → u.grants ≡ t.grants ++ record { fid = f; index = seen.status.sync_counter } ∷ [] → u.sync ≡ or_first seen.sync t.sync →
    AreTold caller (xs ++ x ∷ []) u
told_more caller xs x f seen t u told is statuses callbacks grants sync =
    let index : seen.status.sync_counter ≡ x.found.vnode.index = ap (λ (s : AfsFetchStatus). s.sync_counter) is.status in
    let grant : ◌≡◌ {A = Grant} (record { fid = f; index = seen.status.sync_counter }) (record { fid = x.found.fid; index = x.found.vnode.index }) = λ i. record { fid = sym is.fid i; index = index i } in
    record {
      statuses = statuses ∙ (ap (λ (ss : List AfsFetchStatus). ss ++ seen.status ∷ []) told.statuses ∙ (ap (λ (s : AfsFetchStatus). map (sight_status caller) xs ++ s ∷ []) is.status ∙ sym (map-append (sight_status caller) xs (x ∷ []))));
      callbacks = callbacks ∙ (ap (λ (cs : List AfsCallBack). cs ++ no_callback ∷ []) told.callbacks ∙ sym (map-append (λ (y : Sight). no_callback) xs (x ∷ [])));
      grants =
          grants ∙ (ap (λ (gs : List Grant). gs ++ record { fid = f; index = seen.status.sync_counter } ∷ []) told.grants
          ∙ (ap (λ (g : Grant). grants_seen (map (λ (y : Sight). y.found) xs) ++ g ∷ []) grant
          ∙ (sym (map-append (λ (g : Found). record { fid = g.fid; index = g.vnode.index }) (map (λ (y : Sight). y.found) xs) (x.found ∷ [])) ∙ ap grants_seen (sym (map-append (λ (y : Sight). y.found) xs (x ∷ []))))));
      sync = sync ∙ first_by xs x seen.sync t.sync told.sync is.sync;
    }

-- ---- what is seen of a fid in its volume

abbrev some : {A : Type 0} → A → Option A
some x = Some x

some_is : {A : Type 0} (x y : A) → some x ≡ some y → x ≡ y
some_is x y e = cc

-- a refusal of the volume is one of the fid
refused_as : (st : Stored) (r : operations.Result) (code : ℤ) → ((k : ℕ) → r ≡ refused k → nat_eq k 0 ≡ false) → option_map pos (refusal_of r) ≡ Some code → IsRefused code (sight_by st r)
refused_as st (refused k) code h e = (some_is (pos k) code e, h k refl)
refused_as st (reads shown) code h e = absurd cc
refused_as st (changes es n) code h e = absurd cc
refused_as st no_operation code h e = absurd cc

module _ (caller : Caller) (f : Fid) (new : Bool) (w : Volume) where
  abbrev read_by_tests : Option ℕ → Option Vnode → operations.Result
  read_by_tests o q = by_tests o (limited w.head.id (volume_of w) (read_by shows_status f q))

  -- a status, and nothing else, is read
  status_by : (o : Option ℕ) (q : Option Vnode) (reply : FsReply) → reply_of caller w (read_by_tests o q) ≡ Some reply → IsStatusRead (Ok reply)
  status_by (Some code) q reply e = absurd cc
  status_by None None reply e = absurd cc
  status_by None (Some x) reply e = subst (λ (r : FsReply). IsStatusRead (Ok r)) (some_is _ reply e) tt

  pub status_read : (x : Result FsReply OpFault) → Replies caller w (op w.head.id caller (calls.FetchStatus f) (volume_of w)) x → IsStatusRead x
  status_read (Ok reply) e = status_by (first_failing (tests caller (calls.FetchStatus f) (volume_of w))) (vnode_of f (volume_of w)) reply e
  status_read (Err fault) e = tt

  seen_by : (o : Option ℕ) (q : Option Vnode) (reply : FsReply) → reply_of caller w (read_by_tests o q) ≡ Some reply → Sees caller f (sight_by (stored_as new w) (read_by_tests o q)) (seen_in (Ok reply))
  seen_by (Some code) q reply e = absurd cc
  seen_by None None reply e = absurd cc
  seen_by None (Some x) reply e =
      let found : Found = record { fid = f; vnode = x } in
      subst (λ (r : FsReply). Sees caller f (Ok (record { stored = stored_as new w; found = found })) (seen_in (Ok r))) (some_is _ reply e)
      record { status = ap (λ (t : Fid → ℕ). found_status caller (volume_of w) t found) (same_times w); sync = refl; fid = refl }

  pub seen_as : (x : Result FsReply OpFault) → Replies caller w (op w.head.id caller (calls.FetchStatus f) (volume_of w)) x → Sees caller f (sight_by (stored_as new w) (op w.head.id caller (calls.FetchStatus f) (volume_of w))) (seen_in x)
  seen_as (Ok reply) e = seen_by (first_failing (tests caller (calls.FetchStatus f) (volume_of w))) (vnode_of f (volume_of w)) reply e
  seen_as (Err (faults.Code code)) e =
      refused_as (stored_as new w) (op w.head.id caller (calls.FetchStatus f) (volume_of w)) code.0 (λ k q. op_code w.head.id caller (calls.FetchStatus f) (volume_of w) k q) e
  seen_as (Err faults.OutOfMemory) e = tt

-- ---- where the volume isn't there, or is closed

abbrev refused_with : ℤ → Result Seen OpFault
refused_with code = Err (faults.Code (record { 0 = code }))

pub missing_sees : (holds : Table ℕ) (l : Lasting) (caller : Caller) (f : Fid) (code : ℤ) → get f.volume l.volumes ≡ None → code ≡ pos (missing_code l f.volume) → is_zero code ≡ false → Sees caller f (file_sight holds l caller f (get f.volume l.volumes)) (refused_with code)
missing_sees holds l caller f code none is coded =
    subst (λ (o : Option Stored). Sees caller f (file_sight holds l caller f o) (refused_with code)) (sym none) (sym is, subst (λ (z : ℤ). is_zero z ≡ false) is coded)

shut_by : (o : Option ℕ) (r : Result Sight ℕ) (code : ℤ) → option_map pos o ≡ Some code → is_zero code ≡ false → IsRefused code (sight_unless o r)
shut_by None r code e coded = absurd cc
shut_by (Some k) r code e coded = let is = some_is (pos k) code e in (is, subst (λ (z : ℤ). is_zero z ≡ false) (sym is) coded)

pub closed_sees : (holds : Table ℕ) (l : Lasting) (caller : Caller) (f : Fid) (new : Bool) (w : Volume) (code : ℤ) → get f.volume l.volumes ≡ Some (stored_as new w) → option_map pos (closed_code (stored_as new w) (get f.volume holds)) ≡ Some code → is_zero code ≡ false
    → Sees caller f (file_sight holds l caller f (get f.volume l.volumes)) (refused_with code)
closed_sees holds l caller f new w code there closed coded =
    subst (λ (o : Option Stored). Sees caller f (file_sight holds l caller f o) (refused_with code)) (sym there)
    (shut_by (closed_code (stored_as new w) (get f.volume holds)) (sight_by (stored_as new w) (op f.volume caller (calls.FetchStatus f) (stored_as new w).volume)) code closed coded)

serves_by : (o : Option ℕ) (r : Result Sight ℕ) → option_map pos o ≡ None → sight_unless o r ≡ r
serves_by None r e = refl
serves_by (Some code) r e = absurd cc

-- and where it serves
pub open_sees : (holds : Table ℕ) (l : Lasting) (caller : Caller) (f : Fid) (new : Bool) (w : Volume) (x : Result Seen OpFault) → get f.volume l.volumes ≡ Some (stored_as new w) → option_map pos (closed_code (stored_as new w) (get f.volume holds)) ≡ None
    → Sees caller f (sight_in caller f (Some (stored_as new w))) x → Sees caller f (file_sight holds l caller f (get f.volume l.volumes)) x
open_sees holds l caller f new w x there serves sees =
    subst (λ (o : Option Stored). Sees caller f (file_sight holds l caller f o) x) (sym there)
    (subst (λ (s : Result Sight ℕ). Sees caller f s x) (sym (serves_by (closed_code (stored_as new w) (get f.volume holds)) (sight_by (stored_as new w) (op f.volume caller (calls.FetchStatus f) (stored_as new w).volume)) serves)) sees)

tells_by : (caller : Caller) (f : Fid) (seen : Seen) (s : Result Sight ℕ) (t u : Told) → IsSeen caller f seen s → u.statuses ≡ t.statuses ++ seen.status ∷ [] → u.callbacks ≡ t.callbacks ++ no_callback ∷ []
    → u.grants ≡ t.grants ++ record { fid = f; index = seen.status.sync_counter } ∷ [] → u.sync ≡ or_first seen.sync t.sync → TellsOne caller s t u
tells_by caller f seen (Ok x) t u is statuses callbacks grants sync = record { sight = x; seen = refl; told = λ xs told. told_more caller xs x f seen t u told is statuses callbacks grants sync }
tells_by caller f seen (Err code) t u is statuses callbacks grants sync = absurd is

pub tells_one : (caller : Caller) (f : Fid) (seen : Seen) (s : Result Sight ℕ) (t u : Told) → IsSeen caller f seen s → u.statuses ≡ t.statuses ++ seen.status ∷ [] → u.callbacks ≡ t.callbacks ++ no_callback ∷ []
    → u.grants ≡ t.grants ++ record { fid = f; index = seen.status.sync_counter } ∷ [] → u.sync ≡ or_first seen.sync t.sync → TellsOne caller s t u
tells_one caller f seen s t u is statuses callbacks grants sync = tells_by caller f seen s t u is statuses callbacks grants sync

-- ---- one after the other

-- none is seen yet
pub none_first : (caller : Caller) (all : Result (List Sight) ℕ) (t : Told) → AreTold caller [] t → AreFirst caller all all 0 t
none_first caller (Ok ys) t told = record { sights = []; behind = refl; told = told; few = refl }
none_first caller (Err code) t told = record { sights = []; behind = refl; told = told; few = refl }

next_few : (xs : List Sight) (x : Sight) (count : ℕ) → length xs ≡ count → length (xs ++ x ∷ []) ≡ count + 1
next_few xs x count few = length-append xs (x ∷ []) ∙ ap (λ (k : ℕ). k + 1) few

pub next_first : (caller : Caller) (all : Result (List Sight) ℕ) (s : Result Sight ℕ) (rest : Result (List Sight) ℕ) (count : ℕ) (t u : Told) → AreFirst caller all (s >>= λ y. (rest >>= λ ys. Ok (y ∷ ys))) count t → TellsOne caller s t u →
    AreFirst caller all rest (count + 1) u
next_first caller all s rest count t u are one = record {
  sights = are.sights ++ one.sight ∷ [];
  behind = are.behind ∙ behind_next are.sights one.sight s rest one.seen;
  told = one.told are.sights are.told;
  few = next_few are.sights one.sight count are.few;
}

seen_behind : (caller : Caller) (count : ℕ) (xs : List Sight) (t : Told) → AreTold caller xs t → length xs ≡ count → AreSeen caller count t (behind xs (Ok []))
seen_behind caller count xs t told few = (subst (λ (ys : List Sight). AreTold caller ys t) (sym (append-nil xs)) told, ap length (append-nil xs) ∙ few)

-- all are seen
pub all_first : (caller : Caller) (all : Result (List Sight) ℕ) (count : ℕ) (t : Told) → AreFirst caller all (Ok []) count t → SeesAll caller count all (Ok t)
all_first caller all count t are = subst (AreSeen caller count t) (sym are.behind) (seen_behind caller count are.sights t are.told are.few)

fault_by : (fault : OpFault) (xs : List Sight) (s : Result Sight ℕ) (rest : Result (List Sight) ℕ) → IsFault fault s → IsFault fault (behind xs (s >>= λ y. (rest >>= λ ys. Ok (y ∷ ys))))
fault_by (faults.Code code) xs (Ok x) rest is = absurd is
fault_by (faults.Code code) xs (Err k) rest is = is
fault_by faults.OutOfMemory xs s rest is = tt

-- one isn't
pub fault_first : (caller : Caller) (all : Result (List Sight) ℕ) (s : Result Sight ℕ) (rest : Result (List Sight) ℕ) (i count : ℕ) (t : Told) (fault : OpFault) → AreFirst caller all (s >>= λ y. (rest >>= λ ys. Ok (y ∷ ys))) i t → IsFault fault s →
    SeesAll caller count all (Err fault)
fault_first caller all s rest i count t fault are is = subst (IsFault fault) (sym are.behind) (fault_by fault are.sights s rest is)

-- ---- what is then decided

sync_by : (xs : List Sight) → sync_told (sync_seen xs) ≡ sync_of_first xs
sync_by [] = refl
sync_by (x ∷ xs) = refl

module _ (s : ServerState) (clock : ℕ) (head : Head) (caller : Caller) (count : ℕ) where
  pub told_decides : (r : Result (List Sight) ℕ) (x : Result Told OpFault) (d : Decided) → SeesAll caller count r x → ToldAs x d → Decides s clock head (several head caller r) d
  told_decides (Ok xs) (Ok t) d sees is =
      let told = sees.0 in
      subst (Decides s clock head (several head caller (Ok xs))) (sym is) (
        statuses_read caller xs,
        (
          record {
            reply_is = λ i. replies.BulkStatus (sym told.statuses i) (sym told.callbacks i) ((sym (sync_by xs) ∙ ap sync_told (sym told.sync)) i);
            grants_are = sym told.grants;
            nothing = refl;
          },
          refl,
        ),
      )
  told_decides (Err code) (Ok t) d sees is = absurd sees
  told_decides (Ok xs) (Err (faults.Code code)) d sees is = absurd sees
  told_decides (Err k) (Err (faults.Code code)) d sees is = subst (Decides s clock head (several head caller (Err k))) (sym is) (ap (refuses head) sees.0)
  told_decides (Ok xs) (Err faults.OutOfMemory) d sees is = absurd is
  told_decides (Err k) (Err faults.OutOfMemory) d sees is = absurd is

coded_by : (k : ℕ) (code : ℤ) → pos k ≡ code → nat_eq k 0 ≡ false → is_zero code ≡ false
coded_by k code e h = subst (λ (z : ℤ). is_zero z ≡ false) e h

few_within : (n count : ℕ) → n ≡ count → count ≤ 50 → IsCount 50 n
few_within n count e few = (omega (arith, e, few), omega (arith, e, few))

pub told_can_be_told : (caller : Caller) (count opcode : ℕ) (r : Result (List Sight) ℕ) (x : Result Told OpFault) (d : Decided) → count ≤ 50 → opcode ≡ 155 → SeesAll caller count r x → ToldAs x d → CanBeTold opcode d
told_can_be_told caller count opcode (Ok xs) (Ok t) d few number sees is =
    let told = sees.0 in
    subst (CanBeTold opcode) (sym is)
    (number, (few_within (length t.statuses) count (ap length told.statuses ∙ (length-map xs (sight_status caller) ∙ sees.1)) few, (few_within (length t.callbacks) count (ap length told.callbacks ∙ (length-map xs (λ (y : Sight). no_callback) ∙ sees.1)) few, (tt, tt))))
told_can_be_told caller count opcode (Err code) (Ok t) d few number sees is = absurd sees
told_can_be_told caller count opcode (Ok xs) (Err (faults.Code code)) d few number sees is = absurd sees
told_can_be_told caller count opcode (Err k) (Err (faults.Code code)) d few number sees is = subst (CanBeTold opcode) (sym is) (coded_by k code.0 sees.0 sees.1)
told_can_be_told caller count opcode (Ok xs) (Err faults.OutOfMemory) d few number sees is = absurd is
told_can_be_told caller count opcode (Err k) (Err faults.OutOfMemory) d few number sees is = absurd is

granted_few : (xs : List Sight) → length (grants_seen (map (λ (x : Sight). x.found) xs)) ≡ length xs
granted_few [] = refl
granted_few (x ∷ xs) = let rest = granted_few xs in omega (arith, rest)

pub told_fits : (caller : Caller) (count : ℕ) (r : Result (List Sight) ℕ) (x : Result Told OpFault) (d : Decided) → count ≤ 50 → SeesAll caller count r x → ToldAs x d → FitsDecided d
told_fits caller count (Ok xs) (Ok t) d few sees is =
    let told = sees.0 in
    let long = ap length told.grants ∙ (granted_few xs ∙ sees.1) in
    subst FitsDecided (sym is) (omega (arith, long, few))
told_fits caller count (Err code) (Ok t) d few sees is = absurd sees
told_fits caller count r (Err (faults.Code code)) d few sees is = subst FitsDecided (sym is) tt
told_fits caller count r (Err faults.OutOfMemory) d few sees is = absurd is
