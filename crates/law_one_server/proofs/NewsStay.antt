-- What an act that waits is told goes on being so over a call that the location database serves.
use Rattle.std.proofs.Common.{◌≡◌, ◌≤◌, ◌<◌, ◌⊎◌, inl, inr, ℕ, zero, suc, ◌+◌, Bool, true, false, List, [], ◌∷◌, Option, Some, None, is_some, refl, sym, ap, subst, arith, ◌∙◌, nat_eq, nat_lt}
use Rattle.std.proofs.lemmas.Bool.Decides.{nat_tests}
use Rattle.std.specs.Prelude.{⊤}
use Rattle.std.specs.List.{list_any}
use Rattle.afs_num.specs.declared.location_calls.LocEntry.{LocEntry}
use Rattle.afs_num.specs.declared.location_calls.LocReply.TheVariants as entries
use Rattle.afs_num.specs.declared.messages.Carried.TheVariants as carried
use Rattle.afs_num.specs.declared.messages.Reply.{Reply}
use Rattle.afs_num.specs.declared.messages.Reply.TheVariants as tell
use Rattle.afs_num.specs.declared.types.Head.{Head}
use Rattle.afs_num.specs.declared.types.Key.{Key}
use Rattle.afs_num.specs.declared.types.Node.{Node}
use Rattle.afs_num.specs.declared.types.Node.TheVariants.{Admin}
use Rattle.afs_num.specs.declared.volume_calls.VolReply.TheVariants as volumes
use Rattle.spec_records.specs.Entries.{site_of}
use Rattle.spec_runs.specs.NodeRuns.{NodeCell}
use Rattle.law_stamps.specs.Given.{given_in}
use Rattle.law_stamps.specs.Stamps.{next_stamp}
use Rattle.law_stored_stamps.specs.Surveys.{IsStored, IsSurveyed}
use Rattle.spec_adminrows.specs.Asks.{family, home}
use Rattle.spec_adminrows.specs.Entries.{home_in, is_usable}
use Rattle.spec_adminrows.specs.declared.places.Cause.{Cause}
use Rattle.spec_adminrows.specs.declared.places.Cause.TheVariants as causes
use Rattle.spec_adminrows.specs.declared.places.Creating.TheVariants as creating
use Rattle.spec_adminrows.specs.declared.places.Fresh.{Fresh}
use Rattle.spec_adminrows.specs.declared.places.Hold.{Hold}
use Rattle.spec_adminrows.specs.declared.places.Mending.TheVariants as mending
use Rattle.spec_adminrows.specs.declared.places.Moving.TheVariants as moving
use Rattle.spec_adminrows.specs.declared.places.Place.{Place}
use Rattle.spec_adminrows.specs.declared.places.Place.TheVariants as places
use Rattle.spec_adminrows.specs.declared.places.Purpose.TheVariants as purposes
use Rattle.spec_adminrows.specs.declared.places.Removing.TheVariants as removing
use Rattle.spec_adminrows.specs.declared.places.Seen.{Seen}
use Rattle.spec_adminrows.specs.declared.places.Trip.{Trip}
use Rattle.law_stamp_owners.proofs.PlaceStamps.{stamp_at_place}
use Rattle.law_courses.specs.Courses.{Course}
use Rattle.law_courses.specs.Tasks.{mends, moves, task_at, Task}
use Rattle.law_locks.specs.Grips.{grip_at, GivesFor, GripIs}
use Rattle.law_locks.specs.Lines.{IsDrawnFor}
use Rattle.law_one_server.specs.Knows.{IsAt, IsListedOr, Knows}
use Rattle.law_one_server.proofs.KnownOneMore.{also_knows, with_place, IsAlso}
use Rattle.law_one_server.proofs.FencesRan.{KnowsBehind}
use Rattle.law_one_server.proofs.KnownLeads.{FenceNews, LockNews, MadeNews, News, ReadNews, WrittenNews}
use Rattle.law_one_server.proofs.DatabaseCalls.{Agree, Grounds, Stands}
use Rattle.law_one_server.proofs.EntriesName.{first_of, IsUsable, UsableAt}

-- ---- a survey that hasn't asked any server

abbrev all_up : ℕ → List ℕ
all_up zero = []
all_up (suc n) = suc n ∷ all_up n

among : (b : Bool) (n i : ℕ) (rest : List ℕ) → nat_eq i n ≡ b → (b ≡ false → list_any (nat_eq i) rest ≡ true) → list_any (nat_eq i) (n ∷ rest) ≡ true
among true n i rest is k = rw is refl
among false n i rest is k = rw is (k refl)

in_up : (i n : ℕ) → nat_lt i n ≡ true → list_any (nat_eq (suc i)) (all_up n) ≡ true
in_up i zero is = let below : i < 0 = grind (arith, nat_tests, is) in absurd (omega (arith, below))
in_up i (suc n) is = among (nat_eq (suc i) (suc n)) (suc n) (suc i) (all_up n) refl (λ other. in_up i n (grind (arith, nat_tests, is, other)))

not_asked : (c : NodeCell) (volume stamp : ℕ) → IsStored c volume stamp (0 ∷ all_up c.host_count)
not_asked c volume stamp zero there none = absurd cc
not_asked c volume stamp (suc i) there none = let no : true ≡ false = sym (among (nat_eq (suc i) 0) 0 (suc i) (all_up c.host_count) refl (λ other. in_up i c.host_count there)) ∙ none in absurd cc

module _ (course : Course) (c d : NodeCell) (g : Grounds course c) (n0 e0 k0 : ℕ) (also_stands : (p : Place) (a : IsAlso course c g n0 e0 k0 p) → Stands (with_place course c g n0 e0 k0 p a) d) where
  abbrev served : Place
  served = (course n0 e0 k0).place

  abbrev Drawn : ℕ → ℕ → Type 0
  Drawn = IsDrawnFor g.entry_of (next_stamp c)

  goes_on : (p : Place) → IsAlso course c g n0 e0 k0 p → Knows d p
  goes_on p a = also_knows course c g n0 e0 k0 p a d (also_stands p a)

  -- ---- under a stamp that nothing was asked under yet

  lock_goes : (stamp : ℕ) (l : LocEntry) → Drawn l.read_write stamp → (stamp_at_place served ≡ stamp → ⊥) → (is_usable l ≡ true → IsAt c l.read_write stamp (home_in l) × IsListedOr c l.read_write stamp) → is_usable l ≡ true → IsAt d l.read_write stamp (home_in l) × IsListedOr d l.read_write stamp
  lock_goes stamp l drawn unused x fits =
      let h : Hold = record { entry = l; stamp = stamp } in
      let usable : IsUsable l = first_of (is_some (site_of l)) _ fits in (
        goes_on (places.Adds h 0) (record { drawn = drawn; knows = (x fits).0; usable = usable; surveyed = tt; agrees = λ same. absurd (unused same) }),
        goes_on (places.Surveys h (purposes.Mends causes.Asked) 0 (all_up c.host_count) []) (record { drawn = drawn; knows = (x fits).1; usable = usable; surveyed = not_asked c l.read_write stamp; agrees = λ same. absurd (unused same) }),
      )

  made_goes : (f : Fresh) (v stamp : ℕ) → Drawn v stamp → (stamp_at_place served ≡ stamp → ⊥) → IsAt c v stamp f.server → IsAt d v stamp f.server
  made_goes f v stamp drawn unused x = goes_on (places.Creates f (creating.Begins v stamp)) (record { drawn = drawn; knows = x; usable = tt; surveyed = tt; agrees = λ same. absurd (unused same) })

  -- ---- of a question that was asked

  module _ (n e k : ℕ) where
    abbrev own : Place
    own = (course n e k).place

    -- under one stamp the tasks agree
    agree_with : (p : Place) (t : Task) (stamp : ℕ) → 0 < stamp → stamp_at_place own ≡ stamp → task_at own ≡ Some t → stamp_at_place p ≡ stamp → task_at p ≡ Some t → stamp_at_place served ≡ stamp_at_place p → Agree (task_at served) (task_at p)
    agree_with p t stamp some at task at_p task_p same =
        subst (Agree (task_at served)) (task ∙ sym task_p) (g.one n0 e0 k0 n e k (same ∙ (at_p ∙ sym at)) (λ none. let zero : stamp ≡ 0 = sym at_p ∙ (sym same ∙ none) in omega (arith, some, zero)))

    moved_goes : (m : Trip) (new old : ℕ) → own ≡ places.Moves m (moving.Decides new old) → IsAt c (family m.hold) m.hold.stamp m.target → IsAt d (family m.hold) m.hold.stamp m.target
    moved_goes m new old is x =
        let drawn : Drawn (family m.hold) m.hold.stamp = subst (λ (p : Place). GripIs Drawn (grip_at p)) is (g.drawn n e k) in
        goes_on (places.Moves m (moving.Starts new old)) (record {
          drawn = drawn;
          knows = x;
          usable = subst UsableAt is (g.usable n e k);
          surveyed = subst (IsSurveyed c) is (g.surveyed n e k);
          agrees = agree_with (places.Moves m (moving.Starts new old)) (moves m.target) m.hold.stamp drawn.0.0 (ap stamp_at_place is) (ap task_at is) refl refl;
        })

    read_goes : (cause : Cause) (h : Hold) (seen : List Seen) (l : LocEntry) → own ≡ places.Asks cause h seen → (is_usable l ≡ true → IsAt c (family h) h.stamp (home_in l)) → is_usable l ≡ true → IsAt d (family h) h.stamp (home_in l)
    read_goes cause h seen l is x fits =
        let drawn : Drawn (family h) h.stamp = subst (λ (p : Place). GripIs Drawn (grip_at p)) is (g.drawn n e k) in
        let p : Place = places.Mends (record { cause = cause; stamp = h.stamp; volume = family h; named = home_in l; copies = []; others = []; flags = None }) mending.Begins in
        goes_on p (record {
          drawn = drawn;
          knows = x fits;
          usable = tt;
          surveyed = subst (IsSurveyed c) is (g.surveyed n e k);
          agrees = agree_with p mends h.stamp drawn.0.0 (ap stamp_at_place is) (ap task_at is) refl refl;
        })

    -- ---- by what the reply tells

    module _ (behind : KnowsBehind c own → KnowsBehind d own) where
      lock_news : (stamp : ℕ) (l : LocEntry) (p : Place) → Drawn l.read_write stamp → (stamp_at_place served ≡ stamp → ⊥) → LockNews c stamp l p → LockNews d stamp l p
      lock_news stamp l (places.Locks cause v) drawn unused x = lock_goes stamp l drawn unused x
      lock_news stamp l p drawn unused x = tt

      made_news : (stamp : ℕ) (p : Place) → ((f : Fresh) (v : ℕ) → p ≡ places.Creates f (creating.Enters v) → Drawn v stamp) → (0 < stamp → stamp_at_place served ≡ stamp → ⊥) → MadeNews c stamp p → MadeNews d stamp p
      made_news stamp (places.Creates f (creating.Enters v)) drawn unused x = made_goes f v stamp (drawn f v refl) (unused (drawn f v refl).0.0) x
      made_news stamp p drawn unused x = tt

      moved_news : (p : Place) → own ≡ p → WrittenNews c p → WrittenNews d p
      moved_news (places.Moves m (moving.Decides new old)) is x = moved_goes m new old is x
      moved_news p is x = tt

      read_news : (l : LocEntry) (p : Place) → own ≡ p → ReadNews c l p → ReadNews d l p
      read_news l (places.Asks cause h seen) is x = read_goes cause h seen l is x
      read_news l p is x = tt

      fence_news : (p : Place) → own ≡ p → FenceNews c p → FenceNews d p
      fence_news (places.Moves m (moving.Fences counter new old)) is x = subst (KnowsBehind d) is (behind (subst (KnowsBehind c) (sym is) x))
      fence_news (places.Removes h seen (removing.Fences t)) is x = subst (KnowsBehind d) is (behind (subst (KnowsBehind c) (sym is) x))
      fence_news p is x = tt

      -- of a stamp that the reply gives it is known for which entry it was drawn, and that nothing was asked under it
      pub record IsGood (reply : Reply) : Type 0 where
        pub drawn : GivesFor Drawn own reply
        pub unused : (stamp : ℕ) → given_in (carried.Reply reply) ≡ Some stamp → 0 < stamp → stamp_at_place served ≡ stamp → ⊥

      created_for : (p : Place) (stamp : ℕ) → own ≡ p → GivesFor Drawn own (tell.Location (entries.CreateEntry stamp)) → (f : Fresh) (v : ℕ) → p ≡ places.Creates f (creating.Enters v) → Drawn v stamp
      created_for p stamp is given f v at = subst (λ (x : Place). GivesFor Drawn x (tell.Location (entries.CreateEntry stamp))) (is ∙ at) given

      pub news_stay : (reply : Reply) → IsGood reply → News c own reply → News d own reply
      news_stay (tell.Location (entries.SetLock stamp l)) good x = lock_news stamp l own good.drawn (good.unused stamp refl good.drawn.0.0) x
      news_stay (tell.Location (entries.CreateEntry stamp)) good x = made_news stamp own (created_for own stamp refl good.drawn) (good.unused stamp refl) x
      news_stay (tell.Location entries.ReplaceEntry) good x = moved_news own refl x
      news_stay (tell.Location (entries.GetEntryById l)) good x = read_news l own refl x
      news_stay (tell.Volume volumes.SetFlags) good x = fence_news own refl x
      news_stay reply good x = tt
