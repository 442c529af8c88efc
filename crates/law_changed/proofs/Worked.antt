-- Worked histories: a file is stored at its server, in the step of the call, or as its restart tells; and some that are refused, each for one reason.
use Rattle.std.proofs.Common.{◌≡◌, ℕ, ◌+◌, inl, inr, true, false, List, [], ◌∷◌, Option, Some, None, refl, sym, ap, subst, ◌∙◌, pos, nat_eq, eq-eqb}
use Rattle.std.specs.Prelude.{codes}
use Rattle.afs_num.specs.Nodes.{node_number}
use Rattle.afs_num.specs.declared.acls.AccessList.{AccessList}
use Rattle.afs_num.specs.declared.calls.AfsStoreStatus.{AfsStoreStatus}
use Rattle.afs_num.specs.declared.calls.FsCall.{FsCall}
use Rattle.afs_num.specs.declared.calls.FsCall.TheVariants as calls
use Rattle.afs_num.specs.declared.histories.Actor.TheVariants as actors
use Rattle.afs_num.specs.declared.histories.Body.TheVariants as bodies
use Rattle.afs_num.specs.declared.messages.Call.TheVariants as ask
use Rattle.afs_num.specs.declared.messages.Carried.TheVariants as carried
use Rattle.afs_num.specs.declared.messages.Message.{Message}
use Rattle.afs_num.specs.declared.types.Fid.{Fid}
use Rattle.afs_num.specs.declared.types.Half.TheVariants as halves
use Rattle.afs_num.specs.declared.types.Key.{Key}
use Rattle.afs_num.specs.declared.types.Node.{Node}
use Rattle.afs_num.specs.declared.types.Node.TheVariants.{Admin, Client, Server}
use Rattle.spec_history.specs.declared.lines.Line.{Line}
use Rattle.spec_history.specs.declared.lines.Line.TheVariants as lines
use Rattle.spec_ideal.specs.AccessLists.{anyuser, no_acl, rights_of}
use Rattle.spec_ideal.specs.Directories.{directory_bytes, name_bytes}
use Rattle.spec_ideal.specs.Operations.{changes, made_by, no_amend, op, the_user}
use Rattle.spec_ideal.specs.Volumes.{a_directory, a_file, amends, counted, edited_all, versions_by, Edit, Vnode, Volume}
use Rattle.law_legal.proofs.BaseLaws.{some_of}
use Rattle.law_legal.specs.Legal.{versions_first}
use Rattle.law_legal.specs.Past.{called_key}
use Rattle.spec_records.proofs.Kept.{same_rest}
use Rattle.spec_rows.specs.Runs.{Entry}
use Rattle.spec_rows.specs.ServerRow.{is_client}
use Rattle.afs_xdr.specs.Words.{opaque, pad, word}
use Rattle.law_changed.specs.Changed.{AreMadeSo, IsOperation, RunsMessage}

-- ---- a volume with one file, and a client's call that stores it

abbrev home : ℕ
home = 5

abbrev file : Fid
file = record { volume = home; vnode = 2; unique = 2 }

abbrev everyone : AccessList
everyone = record { positive = record { name = anyuser; rights = 127 } ∷ []; negative = [] }

abbrev root : Vnode
root = record {
  unique = 1;
  kind = a_directory;
  index = 1;
  data_version = 1;
  links = 2;
  owner = 0;
  group = 0;
  mode = 493;
  segment_size = 0;
  client_time = 0;
  parent = 0;
  parent_unique = 0;
  changed = 1;
  contents = [];
  names = record { name = codes "a"; vnode = 2; unique = 2 } ∷ [];
  acl = everyone;
}

abbrev holding : List ℕ → Vnode
holding bytes = record root { unique = 2; kind = a_file; links = 1; mode = 420; parent = 1; parent_unique = 1; contents = bytes; names = []; acl = no_acl }

-- of this kind and with these flags
abbrev volume : ℕ → ℕ → Volume
volume kind flags = record { family = home; name = codes "proj"; kind = kind; flags = flags; quota = 1000; next = 3; counter = 1; release = 0; vnodes = (1, root) ∷ (2, holding (codes "abc")) ∷ [] }

abbrev as_it_is : AfsStoreStatus
as_it_is = record { mask = 0; client_mod_time = 0; owner = 0; group = 0; unix_mode_bits = 0; seg_size = 0 }

abbrev stores : FsCall
stores = calls.StoreData file as_it_is (pos 0) (pos 3) (pos 3) (codes "def")

abbrev sent_by : Node → Node → Message
sent_by from to = record {
  head = record { half = halves.Call; from = from; to = to; epoch = 1; number = 1; boot = 1; stamp = 0; opcode = 133 };
  carried = carried.Call (codes "u") (ask.File stores);
}

abbrev key : Node → ℕ → Key
key from number = record { node = from; epoch = 1; number = number }

-- it was sent
abbrev sending : Message → List Entry
sending m = record { actor = actors.Node m.head.from; lines = []; sent = m ∷ []; volumes = [] } ∷ []

-- the edits that it makes, and the volume behind them
abbrev edits : List Edit
edits = amends 2 (record no_amend { contents = Some (codes "def"); status = Some as_it_is }) ∷ []

abbrev changed_volume : Volume
changed_volume = counted (edited_all home edits (volume 0 0))

stores_file : op home (the_user (codes "u")) stores (volume 0 0) ≡ changes edits 2
unfolding rights_of directory_bytes name_bytes word opaque pad
stores_file = refl

-- the version of the file with these contents
abbrev told : List ℕ → Line
told bytes = lines.Version (record { fid = file; index = 2; data_version = 2; body = bodies.File bytes })

-- the server has this volume under each number
abbrev having : Volume → Node → ℕ → Option Volume
having v n id = Some v

abbrev change : Node → ℕ → ℕ → Line
change from number count = lines.Change (Server 1) (key from number) count

-- ---- in the step of the call

of_call : (past : List Entry) (own next : List Line) (runs : RunsMessage (Server 1) (sent_by (Client 1) (Server 1)) past own (told (codes "def") ∷ next)) → versions_first next ≡ [] → IsOperation (having (volume 0 0)) (having changed_volume) (Server 1) (key (Client 1) 1) 1 past own (told (codes "def") ∷ next)
of_call past own next runs none = record {
  message = sent_by (Client 1) (Server 1);
  runs = runs;
  to = refl;
  key = refl;
  client = refl;
  user = codes "u";
  call = stores;
  carries = refl;
  id = home;
  of_volume = refl;
  before = volume 0 0;
  found = refl;
  read_write = refl;
  in_service = refl;
  edits = edits;
  shown = 2;
  result = stores_file;
  versions = rw none refl;
  number = rw none refl;
  left = refl;
}

stored : AreMadeSo (having (volume 0 0)) (having changed_volume) (actors.Node (Server 1)) (sending (sent_by (Client 1) (Server 1))) [] (lines.Given 1 ∷ change (Client 1) 1 1 ∷ told (codes "def") ∷ [])
stored = (tt, ((refl, of_call (sending (sent_by (Client 1) (Server 1))) (lines.Given 1 ∷ []) [] (inl refl) refl), (tt, tt)))

-- ---- or as the restart tells, behind the step in which the server stopped

abbrev stopping : List Entry
stopping = record { actor = actors.Node (Server 1); lines = lines.Given 1 ∷ lines.Crash (Server 1) ∷ []; sent = []; volumes = [] } ∷ sending (sent_by (Client 1) (Server 1))

stored_again : AreMadeSo (having (volume 0 0)) (having changed_volume) (actors.Node (Server 1)) stopping [] (change (Client 1) 1 1 ∷ told (codes "def") ∷ lines.Restart (Server 1) 2 ∷ [])
stored_again = ((refl, of_call stopping [] (lines.Restart (Server 1) 2 ∷ []) (inr (refl, (inl refl, inl (refl, (refl, inl refl))))) refl), (tt, (tt, tt)))

-- ---- refused

differ : (a b : ℕ) → nat_eq a b ≡ false → a ≡ b → ⊥
differ a b apart same = let yes : nat_eq a b ≡ true = eq-eqb a b same in absurd cc

never : false ≡ true → ⊥
never e = absurd cc

nothing : (m : Message) → None ≡ Some m → ⊥
nothing m e = absurd cc

no_line : (l : Line) (ls : List Line) → l ∷ ls ≡ [] → ⊥
no_line l ls e = absurd cc

-- what is said of the change of an entry that was given the first message
abbrev Stored : Volume → Volume → Message → Key → ℕ → List ℕ → Type 0
Stored before behind m k count bytes = IsOperation (having before) (having behind) (Server 1) k count (sending m) (lines.Given 1 ∷ []) (told bytes ∷ [])

module _ (before behind : Volume) (m : Message) (k : Key) (count : ℕ) (bytes : List ℕ) (h : Stored before behind m k count bytes) where
  -- it is of that message, and of the volume that the server has
  is_given : h.message ≡ m
  is_given = elim h.runs [
    | inl e ↦ some_of h.message m (sym e)
    | inr e ↦ absurd (no_line (lines.Given 1) [] e.0)
  ]

  is_before : h.before ≡ before
  is_before = some_of h.before before (sym h.found)

-- two versions where one is told
told_as_two : Stored (volume 0 0) changed_volume (sent_by (Client 1) (Server 1)) (key (Client 1) 1) 2 (codes "def") → ⊥
told_as_two h = differ 2 1 refl h.number

-- the volume is out of service
shut : Stored (volume 0 2) changed_volume (sent_by (Client 1) (Server 1)) (key (Client 1) 1) 1 (codes "def") → ⊥
shut h = differ 2 0 refl (subst (λ (v : Volume). v.flags ≡ 0) (is_before (volume 0 2) changed_volume (sent_by (Client 1) (Server 1)) (key (Client 1) 1) 1 (codes "def") h) h.in_service)

-- it is a copy that is only read
read_only : Stored (volume 1 0) changed_volume (sent_by (Client 1) (Server 1)) (key (Client 1) 1) 1 (codes "def") → ⊥
read_only h = differ 1 0 refl (subst (λ (v : Volume). v.kind ≡ 0) (is_before (volume 1 0) changed_volume (sent_by (Client 1) (Server 1)) (key (Client 1) 1) 1 (codes "def") h) h.read_write)

-- the call was sent to another server
to_another : Stored (volume 0 0) changed_volume (sent_by (Client 1) (Server 2)) (key (Client 1) 1) 1 (codes "def") → ⊥
to_another h = differ 2 1 refl (ap node_number (subst (λ (m : Message). m.head.to ≡ Server 1) (is_given (volume 0 0) changed_volume (sent_by (Client 1) (Server 2)) (key (Client 1) 1) 1 (codes "def") h) h.to))

-- it was sent under another key
under_another : Stored (volume 0 0) changed_volume (sent_by (Client 1) (Server 1)) (key (Client 1) 2) 1 (codes "def") → ⊥
under_another h =
    let same : key (Client 1) 1 ≡ key (Client 1) 2 = subst (λ (m : Message). called_key m.head ≡ key (Client 1) 2) (is_given (volume 0 0) changed_volume (sent_by (Client 1) (Server 1)) (key (Client 1) 2) 1 (codes "def") h) h.key in
    differ 1 2 refl (ap (λ (k : Key). k.number) same)

-- an administrator sent it
by_an_administrator : Stored (volume 0 0) changed_volume (sent_by (Admin 1) (Server 1)) (key (Admin 1) 1) 1 (codes "def") → ⊥
by_an_administrator h = never h.client

-- the server has the volume as it was
not_left : Stored (volume 0 0) (volume 0 0) (sent_by (Client 1) (Server 1)) (key (Client 1) 1) 1 (codes "def") → ⊥
not_left h =
    let behind : 1 ≡ (edited_all h.id h.edits h.before).counter + 1 = ap (λ (v : Volume). v.counter) (some_of (volume 0 0) (counted (edited_all h.id h.edits h.before)) h.left) in
    let same : (edited_all h.id h.edits h.before).counter ≡ h.before.counter = ap (λ (v : Volume). v.counter) (same_rest h.id h.edits h.before) in
    let before : h.before.counter ≡ 1 = ap (λ (v : Volume). v.counter) (is_before (volume 0 0) (volume 0 0) (sent_by (Client 1) (Server 1)) (key (Client 1) 1) 1 (codes "def") h) in
    differ 1 2 refl (behind ∙ ap (λ (n : ℕ). n + 1) (same ∙ before))

-- nothing was given, and it is no restart
out_of_nothing : IsOperation (having (volume 0 0)) (having changed_volume) (Server 1) (key (Client 1) 1) 1 (sending (sent_by (Client 1) (Server 1))) [] (told (codes "def") ∷ []) → ⊥
out_of_nothing h = elim h.runs [
  | inl e ↦ absurd (nothing h.message e)
  | inr e ↦ absurd e.1.0
]

-- the server begins again, but didn't stop in the step of any call
without_a_step : IsOperation (having (volume 0 0)) (having changed_volume) (Server 1) (key (Client 1) 1) 1 (sending (sent_by (Client 1) (Server 1))) [] (told (codes "def") ∷ lines.Restart (Server 1) 2 ∷ []) → ⊥
without_a_step h = elim h.runs [
  | inl e ↦ absurd (nothing h.message e)
  | inr e ↦ elim e.1.1 [
    | inl x ↦ absurd x.1.1
    | inr x ↦ absurd x.1
  ]
]
