-- Over a step that leaves the database's entries, news stay so.
use Rattle.std.proofs.Common.{◌≡◌, ◌⊎◌, inl, inr, ℕ, List, refl, sym, ap, subst, ◌∙◌}
use Rattle.std.specs.Prelude.{⊤}
use Rattle.afs_num.specs.declared.location_calls.LocEntry.{LocEntry}
use Rattle.afs_num.specs.declared.location_calls.LocReply.TheVariants as entries
use Rattle.afs_num.specs.declared.messages.Reply.{Reply}
use Rattle.afs_num.specs.declared.messages.Reply.TheVariants as tell
use Rattle.afs_num.specs.declared.volume_calls.VolReply.TheVariants as volumes
use Rattle.spec_adminrows.specs.Asks.{family}
use Rattle.spec_adminrows.specs.Entries.{home_in}
use Rattle.spec_adminrows.specs.declared.places.Cause.{Cause}
use Rattle.spec_adminrows.specs.declared.places.Creating.TheVariants as creating
use Rattle.spec_adminrows.specs.declared.places.Fresh.{Fresh}
use Rattle.spec_adminrows.specs.declared.places.Hold.{Hold}
use Rattle.spec_adminrows.specs.declared.places.Moving.TheVariants as moving
use Rattle.spec_adminrows.specs.declared.places.Place.{Place}
use Rattle.spec_adminrows.specs.declared.places.Place.TheVariants as places
use Rattle.spec_adminrows.specs.declared.places.Removing.TheVariants as removing
use Rattle.spec_adminrows.specs.declared.places.Seen.{Seen}
use Rattle.spec_adminrows.specs.declared.places.Trip.{Trip}
use Rattle.spec_runs.specs.NodeRuns.{NodeCell}
use Rattle.law_one_server.specs.Knows.{IsAt, IsListedOr}
use Rattle.law_one_server.proofs.KnownAside.{aside_listed, aside_site, IsAside}
use Rattle.law_one_server.proofs.FencesRan.{KnowsBehind}
use Rattle.law_one_server.proofs.KnownLeads.{FenceNews, LockNews, MadeNews, News, ReadNews, WrittenNews}

module _ (c d : NodeCell) (a : IsAside c d) where
  at_aside : (volume stamp server : ℕ) → IsAt c volume stamp server → IsAt d volume stamp server
  at_aside volume stamp server (inl named) = inl (aside_site c d a volume stamp ∙ named)
  at_aside volume stamp server (inr over) = inr (a.over volume stamp over)

  listed_aside : (volume stamp : ℕ) → IsListedOr c volume stamp → IsListedOr d volume stamp
  listed_aside volume stamp (inl there) = inl (aside_listed c d a volume stamp there)
  listed_aside volume stamp (inr over) = inr (a.over volume stamp over)

  lock_aside : (stamp : ℕ) (n : LocEntry) (p : Place) → LockNews c stamp n p → LockNews d stamp n p
  lock_aside stamp n (places.Locks cause v) x = λ usable. (at_aside n.read_write stamp (home_in n) (x usable).0, listed_aside n.read_write stamp (x usable).1)
  lock_aside stamp n p x = tt

  made_aside : (stamp : ℕ) (p : Place) → MadeNews c stamp p → MadeNews d stamp p
  made_aside stamp (places.Creates f (creating.Enters v)) x = at_aside v stamp f.server x
  made_aside stamp p x = tt

  written_aside : (p : Place) → WrittenNews c p → WrittenNews d p
  written_aside (places.Moves m (moving.Decides new old)) x = at_aside (family m.hold) m.hold.stamp m.target x
  written_aside p x = tt

  read_aside : (n : LocEntry) (p : Place) → ReadNews c n p → ReadNews d n p
  read_aside n (places.Asks cause h seen) x = λ usable. at_aside (family h) h.stamp (home_in n) (x usable)
  read_aside n p x = tt

-- at a fence it is what is known behind it
pub fence_on : (c d : NodeCell) (p : Place) → (KnowsBehind c p → KnowsBehind d p) → FenceNews c p → FenceNews d p
fence_on c d (places.Moves m (moving.Fences counter new old)) behind x = behind x
fence_on c d (places.Removes h seen (removing.Fences t)) behind x = behind x
fence_on c d p behind x = tt

pub news_aside : (c d : NodeCell) → IsAside c d → (p : Place) (reply : Reply) → (KnowsBehind c p → KnowsBehind d p) → News c p reply → News d p reply
news_aside c d a p (tell.Location (entries.SetLock stamp n)) behind x = lock_aside c d a stamp n p x
news_aside c d a p (tell.Location (entries.CreateEntry stamp)) behind x = made_aside c d a stamp p x
news_aside c d a p (tell.Location entries.ReplaceEntry) behind x = written_aside c d a p x
news_aside c d a p (tell.Location (entries.GetEntryById n)) behind x = read_aside c d a n p x
news_aside c d a p (tell.Volume volumes.SetFlags) behind x = fence_on c d p behind x
news_aside c d a p reply behind x = tt
