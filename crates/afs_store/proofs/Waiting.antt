-- A record that waits goes on waiting.
use Rattle.std.proofs.Common.{◌≡◌, ℕ, Bool, true, false, Option, Some, None, is_some, length, sym, ap, subst, ◌∙◌}
use Rattle.afs_disk.specs.Disk.{Room}
use Rattle.afs_journal.specs.Log.{Log, KeepsRoom}
use Rattle.afs_store.specs.Folding.{Folding}
use Rattle.afs_store.specs.Waiting.{HasPlaceOn, KeepsMemory, Waits, WaitsReady}

module _ {R T S P D : Type 0} (k : Folding R T S P) (limit : D → ℕ) (space : D → Room) where
  -- a new one
  pub waits_now : (log : Log D) (old new : S) (p : P) → is_some (k.done (k.record_of p) (k.held old)) ≡ true → k.held new ≡ k.held old → k.IsReady p → k.Suits p (k.held old) → k.HasRoomFor p new → HasPlaceOn limit space (length (k.spelled (k.record_of p))) log → Waits k limit space log new p
  waits_now log old new p taken same ready suits room place = record {
    taken = ap (λ (d : T). is_some (k.done (k.record_of p) d)) same ∙ taken;
    ready = ready;
    suits = subst (λ (d : T). k.Suits p d) (sym same) suits;
    room = room;
    place = place;
  }

  -- where more memory was asked for
  pub waits_still : (o : Option P) (log now : Log D) (old new : S) → WaitsReady k limit space log old o → k.held new ≡ k.held old → KeepsMemory k old new → KeepsRoom limit space log now → now.closed ≡ log.closed → now.gate ≡ log.gate → limit now.disk ≡ limit log.disk
      → WaitsReady k limit space now new o
  waits_still None log now old new waits same keeps places closed gate capacity = tt
  waits_still (Some p) log now old new waits same keeps places closed gate capacity = record {
    taken = ap (λ (d : T). is_some (k.done (k.record_of p) d)) same ∙ waits.taken;
    ready = waits.ready;
    suits = subst (λ (d : T). k.Suits p d) (sym same) waits.suits;
    room = keeps p waits.room;
    place = λ here. (let was = waits.place (sym closed ∙ here) in (rw (gate, capacity) was.0, places _ was.1));
  }

  -- after a failure nothing is said of a place
  pub waits_closed : (o : Option P) (log now : Log D) (s : S) → WaitsReady k limit space log s o → now.closed ≡ true → WaitsReady k limit space now s o
  waits_closed None log now s waits closed = tt
  waits_closed (Some p) log now s waits closed = record {
    taken = waits.taken;
    ready = waits.ready;
    suits = waits.suits;
    room = waits.room;
    place = λ here. absurd (no (sym here ∙ closed));
  }
    where
      no : ◌≡◌ {A = Bool} false true → ⊥
      no e = cc
