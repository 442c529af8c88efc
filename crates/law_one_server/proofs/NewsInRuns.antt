-- What replies tell to acts that wait is left by every input, and what is told now is so.
use Rattle.std.proofs.Common.{◌≡◌, ◌⊎◌, ◌≤◌, ◌<◌, inl, inr, ℕ, List, [], ◌∷◌, Option, Some, None, refl, sym, ap, subst, ◌∙◌, arith}
use Rattle.std.specs.List.{AllByRecursion}
use Rattle.afs_num.specs.declared.location_calls.LocReply.TheVariants as entries
use Rattle.afs_num.specs.declared.messages.Carried.{Carried}
use Rattle.afs_num.specs.declared.messages.Carried.TheVariants as carried
use Rattle.afs_num.specs.declared.messages.Message.{Message}
use Rattle.afs_num.specs.declared.messages.Reply.{Reply}
use Rattle.afs_num.specs.declared.messages.Reply.TheVariants as tell
use Rattle.afs_num.specs.declared.types.Head.{Head}
use Rattle.afs_num.specs.declared.types.Node.TheVariants.{Admin}
use Rattle.spec_history.specs.declared.scripts.Script.{Script}
use Rattle.spec_adminrows.specs.declared.places.Creating.TheVariants as creating
use Rattle.spec_adminrows.specs.declared.places.Fresh.{Fresh}
use Rattle.spec_adminrows.specs.declared.places.Place.{Place}
use Rattle.spec_adminrows.specs.declared.places.Place.TheVariants as places
use Rattle.spec_adminrows.specs.declared.turns.Running.{Running}
use Rattle.spec_rows.specs.LocRow.{LocState}
use Rattle.spec_rows.specs.States.{Seat}
use Rattle.spec_runs.specs.NodeRuns.{node_moved, node_start, CellInput, NodeCell}
use Rattle.law_walks.specs.Sends.{KeptIs, LocIs, SeatsAre}
use Rattle.law_places.specs.Accepting.{cell_behind}
use Rattle.law_stamps.specs.Given.{given_in, IsTheirs}
use Rattle.law_stamps.specs.Stamps.{next_stamp}
use Rattle.law_stamp_owners.proofs.PlaceStamps.{stamp_at_place}
use Rattle.law_stamp_owners.proofs.Walk.{all_owned, AllOwned}
use Rattle.law_courses.specs.Courses.{course_in, Course}
use Rattle.law_locks.specs.Grips.{GivesFor}
use Rattle.law_locks.specs.Lines.{IsDrawnFor}
use Rattle.law_locks.proofs.Gifts.{GiftIn, IsGift, MadeBy, ReplyGives}
use Rattle.law_locks.proofs.Walk.{all_gripped, AllGripped}
use Rattle.law_numbers.specs.Numbers.{IsNumbered}
use Rattle.law_one_server.specs.Knows.{AreClosed, Knows}
use Rattle.law_one_server.proofs.KnownAside.{is_aside}
use Rattle.law_one_server.proofs.KnownWalk.{stepped, IsLeft}
use Rattle.law_one_server.proofs.DatabaseChanges.{changes, Changes, IsChanged}
use Rattle.law_one_server.proofs.KnownLeads.{News}
use Rattle.law_one_server.proofs.NewsAside.{news_aside}
use Rattle.law_one_server.proofs.StampsOfOneTask.{stamp_asked, WasAsked}
use Rattle.law_one_server.proofs.KnownGroundDatabase.{ready}
use Rattle.law_one_server.proofs.DatabaseServes.{admin_of, also_stands}
use Rattle.law_one_server.proofs.NewsStay.{news_stay, IsGood}
use Rattle.law_one_server.proofs.DatabaseCalls.{Grounds}
use Rattle.law_one_server.proofs.NewsTold.{both_all, both_seats, Premises, Waits}
use Rattle.law_one_server.proofs.StampsUnused.{unused}
use Rattle.law_one_server.proofs.DatabaseTellsNow.{written}

-- ---- two things that are known of messages

loc_both : (P Q : Message → Type 0) (s : LocState) → LocIs P s → LocIs Q s → LocIs (λ (m : Message). P m × Q m) s
loc_both P Q s h k = record { seats = both_seats P Q s.seats h.seats k.seats; kept = both_seats P Q s.lasting.kept h.kept k.kept }

module _ (s : Script) (done : List CellInput) where
  abbrev c : NodeCell
  c = cell_behind (node_start s) done

  abbrev course : Course
  course = course_in s done

  abbrev owned : AllOwned c
  owned = all_owned s done

  abbrev all : AllGripped course c
  all = all_gripped s done

  abbrev Theirs : Message → Type 0
  Theirs m = IsTheirs owned.owner (next_stamp c) m

  abbrev Gift : Message → Type 0
  Gift m = IsGift all.gripped.entry_of (next_stamp c) course c.admins m

  -- whose the stamps are that it gives, and of which entries
  abbrev pub Good : Message → Type 0
  Good m = Theirs m × Gift m

  abbrev Drawn : ℕ → ℕ → Type 0
  Drawn = IsDrawnFor all.gripped.entry_of (next_stamp c)

  -- ---- what a reply gives to the question that it answers

  created_new : (p : Place) (stamp : ℕ) → ((f : Fresh) (v : ℕ) → p ≡ places.Creates f (creating.Enters v) → Drawn v stamp) → GivesFor Drawn p (tell.Location (entries.CreateEntry stamp))
  created_new (places.Creates f (creating.Enters v)) stamp k = k f v refl
  created_new p stamp k = tt

  reply_new : (head : Head) (n : ℕ) (reply : Reply) → head.to ≡ Admin n → ReplyGives all.gripped.entry_of (next_stamp c) course c.admins head reply → GivesFor Drawn (course n head.epoch head.number).place reply
  reply_new head n (tell.Location (entries.SetLock stamp e)) to k = k
  reply_new head n (tell.Location (entries.CreateEntry stamp)) to k =
      let made : MadeBy all.gripped.entry_of (next_stamp c) course c.admins head stamp (Admin n) = subst (MadeBy all.gripped.entry_of (next_stamp c) course c.admins head stamp) to k in
      created_new (course n head.epoch head.number).place stamp made.1
  reply_new head n reply to k = tt

  module _ (numbered : IsNumbered s) (servers : 1 ≤ s.servers) (x : CellInput) (knows : (n e k : ℕ) → Knows c (course n e k).place) (closed : AreClosed c) (left : IsLeft course c (node_moved c x).cell) where
    abbrev d : NodeCell
    d = (node_moved c x).cell

    abbrev g : Grounds course c
    g = ready s done servers knows closed

    -- of the reply to an act that waits, over a served call
    module _ (n : ℕ) (m : Message) (r : Running) (waits : Waits (c.admins n) m.head.epoch m.head.number r) (good : Good m) (to : m.head.to ≡ Admin n) (reply : Reply) (says : m.carried ≡ carried.Reply reply) (k : IsChanged c d) where
      abbrev who : ℕ
      who = admin_of s done k.m.head.from

      none_under : (stamp : ℕ) → given_in (carried.Reply reply) ≡ Some stamp → 0 < stamp → stamp_at_place (course who k.m.head.epoch k.m.head.number).place ≡ stamp → ⊥
      none_under stamp gives low at =
          let some : stamp ≡ 0 → ⊥ = λ none. omega (arith, low, none) in
          let was : WasAsked course c who k.m.head.epoch k.m.head.number = stamp_asked s done who k.m.head.epoch k.m.head.number (λ none. some (sym at ∙ none)) in
          unused s done n m.head.epoch m.head.number r waits m good.0 to refl refl stamp (ap given_in says ∙ gives) some who k.m.head.epoch k.m.head.number was.up_to was.way at

      goes_on : News c (course n m.head.epoch m.head.number).place reply → News d (course n m.head.epoch m.head.number).place reply
      unfolding ready
      goes_on = news_stay course c d g who k.m.head.epoch k.m.head.number (also_stands s done numbered servers knows closed x k) n m.head.epoch m.head.number (left.behind n m.head.epoch m.head.number) reply (record {
        drawn = reply_new m.head n reply to (subst (GiftIn all.gripped.entry_of (next_stamp c) course c.admins m.head) says good.1);
        unused = none_under;
      })

    stays_by : (n : ℕ) (m : Message) (r : Running) → Waits (c.admins n) m.head.epoch m.head.number r → Good m → m.head.to ≡ Admin n → (reply : Reply) → m.carried ≡ carried.Reply reply → News c (course n m.head.epoch m.head.number).place reply → News d (course n m.head.epoch m.head.number).place reply
    stays_by n m r waits good to reply says news = by (changes s done x)
      where
        by : Changes c d → News d (course n m.head.epoch m.head.number).place reply
        by (inl same) = news_aside c d (is_aside s done x same) (course n m.head.epoch m.head.number).place reply (left.behind n m.head.epoch m.head.number) news
        by (inr k) = goes_on n m r waits good to reply says k news

    abbrev StaysAt : ℕ → ℕ → ℕ → Running → Message → Reply → Type 0
    StaysAt n e k r m reply = Waits (c.admins n) e k r → News c (course n e k).place reply → News d (course n e k).place reply

    stays : (n e k : ℕ) (r : Running) → Waits (c.admins n) e k r → (m : Message) → Good m → m.head.to ≡ Admin n → m.head.epoch ≡ e → m.head.number ≡ k → (reply : Reply) → m.carried ≡ carried.Reply reply → News c (course n e k).place reply → News d (course n e k).place reply
    stays n e k r waits m good to epoch number reply says news =
        subst (λ (i : ℕ). StaysAt n i k r m reply) epoch (subst (λ (j : ℕ). StaysAt n m.head.epoch j r m reply) number (λ w y. stays_by n m r w good to reply says y)) waits news

    pub premised : Premises s done x course Good
    premised = record {
      steps = stepped s done x;
      good_loc = loc_both Theirs Gift c.loc.state owned.kept all.kept;
      good_sent = both_all Theirs Gift c.sent owned.theirs all.sent;
      stays = λ n e k r waits later m good from to epoch number reply says news. stays n e k r waits m good to epoch number reply says news;
      written = λ n e k r waits later m sent from epoch number reply now. written s done x numbered servers knows closed left n e k m sent from epoch number reply now;
    }
