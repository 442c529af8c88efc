-- Calls under stamps that are whose they should be, and histories with others: those are refused.
use Rattle.std.proofs.Common.{◌≡◌, ◌<◌, ◌⊎◌, inl, inr, ℕ, [], ◌∷◌, refl, ap, arith, ◌∙◌}
use Rattle.afs_num.specs.declared.histories.Actor.TheVariants as actors
use Rattle.afs_num.specs.declared.location_calls.LocCall.TheVariants as calls
use Rattle.afs_num.specs.declared.location_calls.LocReply.TheVariants as replies
use Rattle.afs_num.specs.declared.messages.Call.TheVariants as ask
use Rattle.afs_num.specs.declared.messages.Carried.TheVariants as carried
use Rattle.afs_num.specs.declared.messages.Reply.TheVariants as tell
use Rattle.afs_num.specs.declared.types.Half.TheVariants as halves
use Rattle.afs_num.specs.declared.types.Key.{Key}
use Rattle.afs_num.specs.declared.types.Node.{Node}
use Rattle.afs_num.specs.declared.types.Node.TheVariants.{Admin, Client, Loc, Server}
use Rattle.spec_rows.specs.Runs.{Entry}
use Rattle.spec_runs.specs.NodeRuns.{NodeCell}
use Rattle.law_stamp_owners.specs.Owners.{AreAfterGiven, AreUsed, HaveOwners, IsGivenIn, IsGivenTo}

-- the database tells administrator 1's call of number 3 that its entry is made, under stamp 1
abbrev gives : Entry
gives = record {
  actor = actors.Node Loc;
  lines = [];
  sent = record {
    head = record { half = halves.Reply; from = Loc; to = Admin 1; epoch = 1; number = 3; boot = 1; stamp = 0; opcode = 501 };
    carried = carried.Reply (tell.Location (replies.CreateEntry 1));
  } ∷ [];
  volumes = [];
}

-- this node's call in this epoch, of this number, under stamp 1
abbrev uses : Node → ℕ → ℕ → Entry
uses n epoch number = record {
  actor = actors.Node n;
  lines = [];
  sent = record {
    head = record { half = halves.Call; from = n; to = Loc; epoch = epoch; number = number; boot = 1; stamp = 1; opcode = 509 };
    carried = carried.Call [] (ask.Location (calls.ReleaseLock 7));
  } ∷ [];
  volumes = [];
}

abbrev owner : ℕ → Key
owner stamp = record { node = Admin 1; epoch = 1; number = 3 }

-- the next call of the administrator that it was given to
own : AreUsed owner 2 (gives ∷ uses (Admin 1) 1 4 ∷ [])
own = ((tt, tt), ((inr (record { drawn = omega (arith); node = refl; in_epoch = refl; before = omega (arith) }), tt), tt))

-- a server's, which sends a dump on
lent : AreUsed owner 2 (gives ∷ uses (Server 5) 2 1 ∷ [])
lent = ((tt, tt), ((inr (record { drawn = omega (arith); admin = 1; node = refl }), tt), tt))

-- both behind the reply that gives it
own_after : AreAfterGiven [] (gives ∷ uses (Admin 1) 1 4 ∷ [])
own_after = ((tt, tt), ((inr (inl (refl, inl refl)), tt), tt))

lent_after : AreAfterGiven [] (gives ∷ uses (Server 5) 2 1 ∷ [])
lent_after = ((tt, tt), ((inr (inl (refl, inl refl)), tt), tt))

-- whoever has the stamp, it was given to that call
given_to : (end : NodeCell) (es : Entry) (h : HaveOwners (gives ∷ es ∷ []) end) → owner 1 ≡ h.owner 1
given_to end es h = ((h.theirs.0 refl).0 1 refl).1

-- it is 1, and not 0
abbrev IsNone : Type 0
IsNone = ◌≡◌ {A = ℕ} 1 0

no_stamp : IsNone → ⊥
no_stamp e = absurd cc

-- another administrator uses it
anothers : (end : NodeCell) → HaveOwners (gives ∷ uses (Admin 2) 1 4 ∷ []) end → ⊥
anothers end h = by h.used.1.0.0
  where
    by : IsNone ⊎ IsGivenTo h.owner (end.loc.state.lasting.next_stamp) (Admin 2) 1 4 1 → ⊥
    by (inl e) = no_stamp e
    by (inr g) = let same : Admin 1 ≡ Admin 2 = ap (λ (k : Key). k.node) (given_to end (uses (Admin 2) 1 4) h) ∙ g.node in absurd cc

-- the same one uses it after it began again
in_its_next_epoch : (end : NodeCell) → HaveOwners (gives ∷ uses (Admin 1) 2 1 ∷ []) end → ⊥
in_its_next_epoch end h = by h.used.1.0.0
  where
    by : IsNone ⊎ IsGivenTo h.owner (end.loc.state.lasting.next_stamp) (Admin 1) 2 1 1 → ⊥
    by (inl e) = no_stamp e
    by (inr g) = let same : ◌≡◌ {A = ℕ} 1 2 = ap (λ (k : Key). k.epoch) (given_to end (uses (Admin 1) 2 1) h) ∙ g.in_epoch in absurd cc

-- it uses it in a call before it was given it
before_it_has_it : (end : NodeCell) → HaveOwners (gives ∷ uses (Admin 1) 1 2 ∷ []) end → ⊥
before_it_has_it end h = by h.used.1.0.0
  where
    by : IsNone ⊎ IsGivenTo h.owner (end.loc.state.lasting.next_stamp) (Admin 1) 1 2 1 → ⊥
    by (inl e) = no_stamp e
    by (inr g) = let number : ◌≡◌ {A = ℕ} 3 (h.owner 1).number = ap (λ (k : Key). k.number) (given_to end (uses (Admin 1) 1 2) h) in let below : (h.owner 1).number < 2 = g.before in omega (arith, number, below)

-- a client uses one
a_clients : (end : NodeCell) → HaveOwners (gives ∷ uses (Client 1) 1 4 ∷ []) end → ⊥
a_clients end h = no_stamp h.used.1.0.0

-- one is used that no reply gives
nobodys : (end : NodeCell) → HaveOwners (uses (Admin 1) 1 4 ∷ []) end → ⊥
nobodys end h = by h.given.0.0
  where
    by : IsNone ⊎ IsGivenIn [] 1 → ⊥
    by (inl e) = no_stamp e
    by (inr g) = g

-- it is used further up in the history than the reply that gives it, also by a server
before_it_is_given : (n : Node) (end : NodeCell) → HaveOwners (uses n 1 4 ∷ gives ∷ []) end → ⊥
before_it_is_given n end h = by h.given.0.0
  where
    by : IsNone ⊎ IsGivenIn [] 1 → ⊥
    by (inl e) = no_stamp e
    by (inr g) = g

-- a server tells it in a reply, which gives nothing
a_server_gives_it : (end : NodeCell) → HaveOwners (record gives { actor = actors.Node (Server 5) } ∷ uses (Admin 1) 1 4 ∷ []) end → ⊥
a_server_gives_it end h = by h.given.1.0.0
  where
    by : IsNone ⊎ IsGivenIn (record gives { actor = actors.Node (Server 5) } ∷ []) 1 → ⊥
    by (inl e) = no_stamp e
    by (inr (inl g)) = absurd cc
    by (inr (inr g)) = g
