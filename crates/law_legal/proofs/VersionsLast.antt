-- What becomes of the last version of an object behind an entry that ran a client's call: it is changed for other nodes, which withdraws that
-- client's promise, or under a later key of this client.
use Rattle.law_legal.proofs.VolumesAreIdeal.{at_home, AreBlank, blank_last, one_place}
use Rattle.law_legal.proofs.OwedLoadBreaks.{onto_both}
use Rattle.spec_history.specs.declared.lines.Line.{Line}
use Rattle.spec_history.specs.declared.lines.Line.TheVariants as lines
use Rattle.spec_history.specs.declared.scripts.Script.{Script}
use Rattle.law_legal.proofs.BaseLaws.{same_node-refl, same_node-true}
use Rattle.law_legal.proofs.VolumeEdits.{on_top, touched_volume, touches, untouched}
use Rattle.law_legal.proofs.ServerChangesLater.{later_key}
use Rattle.law_legal.proofs.VolumeVersionsTold.{AreRecorded, IsSaved, told_at}
use Rattle.law_legal.proofs.ServerSaves.{on_breaks, onto_versioned}
use Rattle.law_legal.specs.Breaks.{HasStopped}
use Rattle.law_legal.specs.Grants.{IsWithdrawn}
use Rattle.law_legal.specs.Ideal.{IsPutAt, last_version}
use Rattle.law_legal.specs.Legal.{HasChangeBy, IsLater}
use Rattle.law_legal.specs.Past.{IsCall, called_key, given_message, lines_of, lines_on, onto, sent_of, server_boot}
use Rattle.afs_num.specs.Nodes.{same_node}
use Rattle.afs_num.specs.declared.histories.Actor.TheVariants as actors
use Rattle.afs_num.specs.declared.histories.Version.{Version}
use Rattle.afs_num.specs.declared.messages.Message.{Message}
use Rattle.afs_num.specs.declared.types.Fid.{Fid}
use Rattle.afs_num.specs.declared.types.Key.{Key}
use Rattle.afs_num.specs.declared.types.Node.{Node}
use Rattle.afs_num.specs.declared.types.Node.TheVariants.{Client, Server}
use Rattle.spec_rows.specs.Runs.{Entry}
use Rattle.spec_rows.specs.ServerRow.{versioned}
use Rattle.std.proofs.Common.{◌≡◌, ℕ, ◌⊎◌, inl, inr, Bool, true, false, List, [], ◌∷◌, ◌++◌, Some, refl, sym, ap, subst, ◌∙◌}

-- ---- further lines

withdrawn_more : (s c : Node) (f : Fid) (l : Line) (o : List Line) → IsWithdrawn s c f o → IsWithdrawn s c f (l ∷ o)
withdrawn_more s c f (lines.Version v) o h = inr h
withdrawn_more s c f (lines.Crash n) o h = inr h
withdrawn_more s c f (lines.Fault n) o h = inr h
withdrawn_more s c f l o h = h

pub withdrawn_onto : (s c : Node) (f : Fid) (ls o : List Line) → IsWithdrawn s c f o → IsWithdrawn s c f (onto o ls)
withdrawn_onto s c f [] o h = h
withdrawn_onto s c f (l ∷ ls) o h = withdrawn_onto s c f ls (l ∷ o) (withdrawn_more s c f l o h)

-- a stop withdraws, wherever it stands
pub stop_withdraws : (s c : Node) (f : Fid) (ls o : List Line) → HasStopped s (onto o ls) → HasStopped s o ⊎ ((b : List Line) → IsWithdrawn s c f (onto b ls))
stop_withdraws s c f [] o h = inl h
stop_withdraws s c f (lines.Crash n ∷ ls) o h = elim (stop_withdraws s c f ls (lines.Crash n ∷ o) h) [
  | inl x ↦ elim x [
    | inl e ↦ inr (λ b. withdrawn_onto s c f ls (lines.Crash n ∷ b) (inl e))
    | inr y ↦ inl y
  ]
  | inr w ↦ inr (λ b. w (lines.Crash n ∷ b))
]
stop_withdraws s c f (lines.Fault n ∷ ls) o h = elim (stop_withdraws s c f ls (lines.Fault n ∷ o) h) [
  | inl x ↦ elim x [
    | inl e ↦ inr (λ b. withdrawn_onto s c f ls (lines.Fault n ∷ b) (inl e))
    | inr y ↦ inl y
  ]
  | inr w ↦ inr (λ b. w (lines.Fault n ∷ b))
]
stop_withdraws s c f (l ∷ ls) o h = elim (stop_withdraws s c f ls (l ∷ o) h) [
  | inl x ↦ inl x
  | inr w ↦ inr (λ b. w (l ∷ b))
]

pub stops_withdraw : (s c : Node) (f : Fid) (newer : List Entry) (o : List Line) → HasStopped s (lines_on o newer) → HasStopped s o ⊎ ((b : List Line) → IsWithdrawn s c f (lines_on b newer))
stops_withdraw s c f [] o h = inl h
stops_withdraw s c f (e ∷ newer) o h = elim (stop_withdraws s c f e.lines (lines_on o newer) h) [
  | inl x ↦ elim (stops_withdraw s c f newer o x) [
    | inl y ↦ inl y
    | inr w ↦ inr (λ b. withdrawn_onto s c f e.lines (lines_on b newer) (w b))
  ]
  | inr w ↦ inr (λ b. w (lines_on b newer))
]

by_more : (q : Node) (k : Key) (l : Line) (o : List Line) → HasChangeBy q k o → HasChangeBy q k (l ∷ o)
by_more q k (lines.Change s l n) o h = inr h
by_more q k l o h = h

pub by_onto : (q : Node) (k : Key) (ls o : List Line) → HasChangeBy q k o → HasChangeBy q k (onto o ls)
by_onto q k [] o h = h
by_onto q k (l ∷ ls) o h = by_onto q k ls (l ∷ o) (by_more q k l o h)

-- whether it stopped
stopped_line : (s n : Node) (t : Bool) (R : Type 0) → same_node n s ≡ t → R ⊎ (R → ⊥) → ((n ≡ s) ⊎ R) ⊎ (((n ≡ s) ⊎ R) → ⊥)
stopped_line s n true R e h = inl (inl (same_node-true n s e))
stopped_line s n false R e (inl r) = inl (inr r)
stopped_line s n false R e (inr no_) = inr (λ z. elim z [
  | inl y ↦ (let yes : same_node n s ≡ true = ap (λ (q : Node). same_node q s) y ∙ same_node-refl s in absurd cc)
  | inr r ↦ no_ r
])

pub stopped_or : (s : Node) (ls : List Line) → HasStopped s ls ⊎ (HasStopped s ls → ⊥)
stopped_or s [] = inr (λ z. z)
stopped_or s (lines.Crash n ∷ ls) = stopped_line s n (same_node n s) (HasStopped s ls) refl (stopped_or s ls)
stopped_or s (lines.Fault n ∷ ls) = stopped_line s n (same_node n s) (HasStopped s ls) refl (stopped_or s ls)
stopped_or s (l ∷ ls) = stopped_or s ls

-- ---- an entry that touches the object

pub record HasTouched (s : Script) (past : List Entry) (e : Entry) (f : Fid) : Type 0 where
  pub saved : IsSaved s past e
  pub touched : touches f saved.versions ≡ true

saved_lines : (s : Script) (past : List Entry) (e : Entry) (x : IsSaved s past e) (o : List Line) → onto o e.lines ≡ onto (on_top x.versions (lines.Change (Server x.server) x.key x.count ∷ onto o x.front)) x.rest
saved_lines s past e x o = ap (onto o) x.split ∙ (onto_both o x.front (lines.Change (Server x.server) x.key x.count ∷ versioned x.versions x.rest) ∙ onto_versioned x.versions x.rest (lines.Change (Server x.server) x.key x.count ∷ onto o x.front))

touch_by : (t : Bool) (s : Script) (past : List Entry) (e : Entry) (f : Fid) (x : IsSaved s past e) → touches f x.versions ≡ t → (last_version f (lines_of (e ∷ past)) ≡ last_version f (lines_of past)) ⊎ HasTouched s past e f
touch_by true s past e f x t = inr (record { saved = x; touched = t })
touch_by false s past e f x t =
    let base : List Line = lines.Change (Server x.server) x.key x.count ∷ onto (lines_of past) x.front in
    inl (ap (last_version f) (saved_lines s past e x (lines_of past)) ∙ (blank_last f x.rest (on_top x.versions base) x.behind ∙ (untouched f x.versions base t ∙ blank_last f x.front (lines_of past) x.before)))

-- the last version stays, or the entry tells one
pub touch : (s : Script) (past : List Entry) (e : Entry) (f : Fid) → AreBlank e.lines ⊎ IsSaved s past e → (last_version f (lines_of (e ∷ past)) ≡ last_version f (lines_of past)) ⊎ HasTouched s past e f
touch s past e f (inl b) = inl (blank_last f e.lines (lines_of past) b)
touch s past e f (inr x) = touch_by (touches f x.versions) s past e f x refl

pub touch_volume : (s : Script) (past : List Entry) (e : Entry) (f : Fid) → (x : HasTouched s past e f) → f.volume ≡ x.saved.ideal.id
touch_volume s past e f x = touched_volume f x.saved.ideal.id x.saved.versions (lines.Change (Server x.saved.server) x.saved.key x.saved.count ∷ onto (lines_of past) x.saved.front) x.saved.grow x.touched

-- the server that tells it is the one of its volume
pub touch_home : (s : Script) (past : List Entry) (e : Entry) (f : Fid) (server : Node) → (x : HasTouched s past e f) → IsPutAt f.volume server s.volumes → Server x.saved.server ≡ server
touch_home s past e f server x home =
    one_place f.volume (Server x.saved.server) server s.volumes (subst (λ (id : ℕ). IsPutAt id (Server x.saved.server) s.volumes) (sym (touch_volume s past e f x)) (at_home s x.saved.ideal.id (Server x.saved.server) (onto [] x.saved.front ++ lines_of past) x.saved.ideal.home)) home

-- under another node's key it withdraws
pub touch_withdraws : (s : Script) (past : List Entry) (e : Entry) (f : Fid) (server c : Node) (o : List Line) → (x : HasTouched s past e f) → Server x.saved.server ≡ server → (x.saved.key.node ≡ c → ⊥) → IsWithdrawn server c f (onto o e.lines)
touch_withdraws s past e f server c o x is other =
    let y : IsSaved s past e = x.saved in
    let base : List Line = lines.Change (Server y.server) y.key y.count ∷ onto o y.front in
    subst (IsWithdrawn server c f) (sym (saved_lines s past e y o)) (withdrawn_onto server c f y.rest (on_top y.versions base) (on_breaks server c f y.versions base (is, other) x.touched))

by_front : (q : Node) (k : Key) (n : ℕ) (front rest o : List Line) → HasChangeBy q k (onto o (front ++ lines.Change q k n ∷ rest))
by_front q k n [] rest o = by_onto q k rest (lines.Change q k n ∷ o) (inl (refl, refl))
by_front q k n (l ∷ front) rest o = by_front q k n front rest (l ∷ o)

pub saved_by : (s : Script) (past : List Entry) (e : Entry) → (x : IsSaved s past e) → (o : List Line) → HasChangeBy (Server x.server) x.key (onto o e.lines)
saved_by s past e x o = subst (λ (ls : List Line). HasChangeBy (Server x.server) x.key (onto o ls)) (sym x.split) (by_front (Server x.server) x.key x.count x.front (versioned x.versions x.rest) o)

-- ---- behind an entry that ran a call of the client

-- the server was given this call there, was in its boot, and didn't stop there
pub record HasRunAt (server : Node) (j : ℕ) (at : Entry) (older : List Entry) : Type 0 where
  pub message : Message
  pub given : given_message at.lines (sent_of older) ≡ Some message
  pub is_call : IsCall message.carried
  pub to : message.head.to ≡ server
  pub from : message.head.from ≡ Client j
  pub up : server_boot server (lines_of older) ≡ Some message.head.boot
  pub node : at.actor ≡ actors.Node server
  pub going : HasStopped server at.lines → ⊥

-- the client's change under a later key
pub record OwnChange (server : Node) (j : ℕ) (k : Key) (past : List Entry) : Type 0 where
  pub key : Key
  pub node : key.node ≡ Client j
  pub later : IsLater key k
  pub by : HasChangeBy server key (lines_of past)

own_more : (server : Node) (j : ℕ) (k : Key) (e : Entry) (past : List Entry) → OwnChange server j k past → OwnChange server j k (e ∷ past)
own_more server j k e past h = record { key = h.key; node = h.node; later = h.later; by = by_onto server h.key e.lines (lines_of past) h.by }

pub stopped_either : (s : Node) (ls o : List Line) → HasStopped s (onto o ls) → HasStopped s ls ⊎ HasStopped s o
stopped_either s [] o h = inr h
stopped_either s (lines.Crash n ∷ ls) o h = elim (stopped_either s ls (lines.Crash n ∷ o) h) [
  | inl x ↦ inl (inr x)
  | inr x ↦ elim x [
    | inl e ↦ inl (inl e)
    | inr y ↦ inr y
  ]
]
stopped_either s (lines.Fault n ∷ ls) o h = elim (stopped_either s ls (lines.Fault n ∷ o) h) [
  | inl x ↦ inl (inr x)
  | inr x ↦ elim x [
    | inl e ↦ inl (inl e)
    | inr y ↦ inr y
  ]
]
stopped_either s (l ∷ ls) o h = stopped_either s ls (l ∷ o) h

pub stopped_of : (s : Node) (ls : List Line) → (HasStopped s ls → ⊥) → HasStopped s (onto [] ls) → ⊥
stopped_of s ls none h = none (elim (stopped_either s ls [] h) [ inl x ↦ x | inr x ↦ absurd x ])

-- a change there of an own key is under a later one
pub own_later : (s : Script) (server : Node) (j : ℕ) (past newer : List Entry) (at : Entry) (older : List Entry) (e : Entry) → past ≡ newer ++ (at ∷ older) → (r : HasRunAt server j at older) → (x : IsSaved s past e) → Server x.server ≡ server → x.key.node ≡ Client j → (HasStopped server (lines_on (onto [] at.lines) newer) → ⊥) → IsLater x.key (called_key r.message.head)
own_later s server j past newer at older e split r x is own going =
    later_key s (Server x.server) x.key x.count past (onto [] x.front) (versioned x.versions x.rest) x.ideal
    (record { newer = newer; at = at; older = older; split = split; message = r.message; given = r.given; is_call = r.is_call; to = r.to ∙ sym is; from = r.from ∙ sym own; up = subst (λ (q : Node). server_boot q (lines_of older) ≡ Some r.message.head.boot) (sym is) r.up; node = r.node ∙ ap actors.Node (sym is); going = subst (λ (q : Node). HasStopped q (lines_on (onto [] at.lines) newer) → ⊥) (sym is) going })

abbrev Fate : Node → ℕ → Fid → Key → List Line → List Entry → Entry → List Entry → Type 0
Fate server j f k base newer at older =
    IsWithdrawn server (Client j) f (lines_on base newer) ⊎ ((last_version f (lines_of (newer ++ (at ∷ older))) ≡ last_version f (lines_of (at ∷ older))) ⊎ OwnChange server j k (newer ++ (at ∷ older)))

own_fate : (t : Bool) (s : Script) (server : Node) (j : ℕ) (f : Fid) (base : List Line) (e : Entry) (newer : List Entry) (at : Entry) (older : List Entry) → (r : HasRunAt server j at older) → (x : HasTouched s (newer ++ (at ∷ older)) e f) → Server x.saved.server ≡ server → same_node x.saved.key.node (Client j) ≡ t → Fate server j f (called_key r.message.head) base (e ∷ newer) at older
own_fate false s server j f base e newer at older r x is t =
    inl (touch_withdraws s (newer ++ (at ∷ older)) e f server (Client j) (lines_on base newer) x is (λ z. (let yes : same_node x.saved.key.node (Client j) ≡ true = ap (λ (n : Node). same_node n (Client j)) z ∙ same_node-refl (Client j) in absurd cc)))
own_fate true s server j f base e newer at older r x is t =
    let own : x.saved.key.node ≡ Client j = same_node-true x.saved.key.node (Client j) t in
    elim (stopped_or server (lines_on (onto [] at.lines) newer)) [
      | inl st ↦ elim (stops_withdraw server (Client j) f newer (onto [] at.lines) st) [
        | inl z ↦ absurd (stopped_of server at.lines r.going z)
        | inr w ↦ inl (withdrawn_onto server (Client j) f e.lines (lines_on base newer) (w base))
      ]
      | inr going ↦ inr (inr (record { key = x.saved.key; node = own; later = own_later s server j (newer ++ (at ∷ older)) newer at older e refl r x.saved is own going; by = subst (λ (q : Node). HasChangeBy q x.saved.key (lines_of (e ∷ (newer ++ (at ∷ older))))) is (saved_by s (newer ++ (at ∷ older)) e x.saved (lines_of (newer ++ (at ∷ older)))) }))
    ]

touched_fate : (s : Script) (server : Node) (j : ℕ) (f : Fid) (base : List Line) (e : Entry) (newer : List Entry) (at : Entry) (older : List Entry) → IsPutAt f.volume server s.volumes → (r : HasRunAt server j at older) → (last_version f (lines_of (e ∷ (newer ++ (at ∷ older)))) ≡ last_version f (lines_of (newer ++ (at ∷ older)))) ⊎ HasTouched s (newer ++ (at ∷ older)) e f
    → Fate server j f (called_key r.message.head) base newer at older → Fate server j f (called_key r.message.head) base (e ∷ newer) at older
touched_fate s server j f base e newer at older home r t (inl w) = inl (withdrawn_onto server (Client j) f e.lines (lines_on base newer) w)
touched_fate s server j f base e newer at older home r t (inr (inr o)) = inr (inr (own_more server j (called_key r.message.head) e (newer ++ (at ∷ older)) o))
touched_fate s server j f base e newer at older home r (inl same) (inr (inl z)) = inr (inl (same ∙ z))
touched_fate s server j f base e newer at older home r (inr x) (inr (inl z)) = own_fate (same_node x.saved.key.node (Client j)) s server j f base e newer at older r x (touch_home s (newer ++ (at ∷ older)) e f server x home) refl

told_behind : (s : Script) (e : Entry) (newer : List Entry) (at : Entry) (older : List Entry) → AreRecorded s (e ∷ (newer ++ (at ∷ older))) → AreBlank e.lines ⊎ IsSaved s (newer ++ (at ∷ older)) e
told_behind s e [] at older h = told_at s [] e at older h
told_behind s e (d ∷ newer) at older h = told_at s [] e d (newer ++ (at ∷ older)) h

pub fate : (s : Script) (server : Node) (j : ℕ) (f : Fid) (base : List Line) (newer : List Entry) (at : Entry) (older : List Entry) → AreRecorded s (newer ++ (at ∷ older)) → IsPutAt f.volume server s.volumes → (r : HasRunAt server j at older) → Fate server j f (called_key r.message.head) base newer at older
fate s server j f base [] at older h home r = inr (inl refl)
fate s server j f base (e ∷ newer) at older h home r =
    touched_fate s server j f base e newer at older home r (touch s (newer ++ (at ∷ older)) e f (told_behind s e newer at older h)) (fate s server j f base newer at older h.1 home r)
