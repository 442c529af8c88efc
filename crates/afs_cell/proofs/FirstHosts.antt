-- The location database and the servers at set-up, and the disks that are handed back.
use Rattle.std.proofs.Common.{refl, arith, ap, sym, subst, ◌∙◌, ◌≡◌, ◌≤◌, ◌+◌, inl, inr, ℕ, List, [], ◌∷◌, length, Option, Some}
use Rattle.std.specs.List.{remove}
use Rattle.std.specs.Prelude.{slice_index_or}
use Rattle.afs_num.specs.declared.types.Node.{Node}
use Rattle.spec_history.specs.declared.scripts.Script.{Script}
use Rattle.afs_disk.specs.declared.disks.Lent.{Lent}
use Rattle.afs_journal.specs.Records.{whole_records}
use Rattle.afs_clients.proofs.Numbers.{some_is}
use Rattle.afs_host.specs.LocSeats.{loc_disk_of, DatabaseRunning}
use Rattle.afs_serverhost.specs.Seated.{ServerSeat}
use Rattle.afs_cell.specs.Ends.{AreAllLeft, AreLeft, IsRefused, IsRefusedBy, NoneFell, NoneRose, RoseAt}
use Rattle.afs_cell.specs.FirstSeats.{AreFirstHosts, AreFirstSeats}
use Rattle.afs_cell.specs.Founding.{IsFirstDatabase, IsLocLeft, IsLocRefused}
use Rattle.afs_lending.specs.Lending.{AreLent}
use Rattle.afs_cell.specs.declared.faults.SetupFault.{SetupFault}
use Rattle.afs_cell.specs.declared.faults.SetupFault.TheVariants as setup
use Rattle.afs_cell.proofs.FirstSeated.{all_same, are_left}
use Rattle.afs_cell.proofs.FirstStores.{none_whole}

-- the first of some
pub first_is : {A : Type 0} (xs : List A) (x : A) (rest : List A) → 1 ≤ length xs → x ≡ slice_index_or xs 0 x → rest ≡ remove xs 0 → xs ≡ x ∷ rest
first_is {A} [] x rest some at behind = absurd (omega (arith, some))
first_is {A} (y ∷ ys) x rest some at behind = ap (λ (z : A). z ∷ ys) (sym at) ∙ ap (λ (zs : List A). x ∷ zs) (sym behind)

-- ---- disks of which none was touched

pub none_fell_alone : {D : Type 0} (faults : D → ℕ) (ls : List (Lent D)) → NoneFell faults ls ls
none_fell_alone {D} faults [] = tt
none_fell_alone {D} faults (l ∷ ls) = (omega (arith), none_fell_alone faults ls)

pub none_rose_alone : {D : Type 0} (faults : D → ℕ) (ls : List (Lent D)) → NoneRose faults ls ls
none_rose_alone {D} faults [] = tt
none_rose_alone {D} faults (l ∷ ls) = (omega (arith), none_rose_alone faults ls)

module _ {D : Type 0} (seen : D → Option (List ℕ)) (may_leave : D → List ℕ → Type 0) (faults limit : D → ℕ) (s : Script) where
  left_alone : (d : D) → IsLocLeft seen may_leave s d d
  left_alone d = record { told = (λ h. h, λ h. h); holds = λ none just bytes sees. inl (subst (λ (b : List ℕ). whole_records b ≡ []) (some_is [] bytes (sym none ∙ sees)) none_whole) }

  servers_alone : (ls : List (Lent D)) → AreLeft seen may_leave s 1 ls ls
  servers_alone ls = are_left seen may_leave faults limit s 1 ls ls (all_same seen may_leave faults limit s 1 ls)

  pub all_left_alone : (ls : List (Lent D)) → AreLent limit s.capacity 0 ls → length ls ≡ s.servers + 1 → AreAllLeft seen may_leave s ls ls
  all_left_alone [] lent all = absurd (omega (arith, all))
  all_left_alone (l ∷ ls) lent all = (left_alone l.disk, servers_alone ls)

  -- ---- the first disk, and the others

  -- the first is the location database's
  pub record ComesFirst (ls : List (Lent D)) (l : Lent D) (rest : List (Lent D)) : Type 0 where
    pub is : ls ≡ l ∷ rest
    pub node : l.node ≡ 0
    pub room : limit l.disk ≡ s.capacity
    pub others : AreLent limit s.capacity 1 rest
    pub count : length rest ≡ s.servers

  pub comes_first : (ls items : List (Lent D)) (l : Lent D) (rest : List (Lent D)) → AreLent limit s.capacity 0 ls → length ls ≡ s.servers + 1 → items ≡ ls → items ≡ l ∷ rest → ComesFirst ls l rest
  comes_first ls items l rest lent all same first =
      let is : ls ≡ l ∷ rest = sym same ∙ first in
      let here : AreLent limit s.capacity 0 (l ∷ rest) = subst (λ (xs : List (Lent D)). AreLent limit s.capacity 0 xs) is lent in
      let long = ap (λ (xs : List (Lent D)). length xs) is in
      record { is = is; node = here.0; room = here.1.0; others = here.1.1; count = omega (arith, long, all) }

  pub are_first : (ls : List (Lent D)) (l : Lent D) (rest : List (Lent D)) (database : DatabaseRunning D) (seats : List (ServerSeat D)) → ComesFirst ls l rest → IsFirstDatabase seen may_leave faults limit s l.disk database → AreFirstSeats seen may_leave faults limit s 1 rest seats []
      → AreFirstHosts seen may_leave faults limit s ls database seats
  are_first ls l rest database seats first founded seated = subst (λ (xs : List (Lent D)). AreFirstHosts seen may_leave faults limit s xs database seats) (sym first.is) (founded, seated)

  -- ---- a set-up that is refused hands all disks back

  pub record IsHandedBack (ls : List (Lent D)) (fault : SetupFault) (back : List (Lent D)) : Type 0 where
    pub lent : AreLent limit s.capacity 0 back × (length back ≡ s.servers + 1)
    pub refused : IsRefused faults 0 ls (fault, back)
    pub left : AreAllLeft seen may_leave s ls back

  -- as the location database's disk is refused
  cause_first : (fault : SetupFault) (l : Lent D) (rest : List (Lent D)) (d : D) → IsLocRefused seen may_leave faults limit s l.disk (fault, d) → IsRefusedBy faults 0 (l ∷ rest) fault (record { node = l.node; disk = d } ∷ rest)
  cause_first (setup.Disk n) l rest d refused = inl (refused.cause.0, (refused.cause.1, none_rose_alone faults rest))
  cause_first setup.OutOfMemory l rest d refused =
      let same = refused.cause in
      (omega (arith, same), none_rose_alone faults rest)

  pub first_refused : (ls : List (Lent D)) (l : Lent D) (rest back : List (Lent D)) (fault : SetupFault) (d : D) → ComesFirst ls l rest → IsLocRefused seen may_leave faults limit s l.disk (fault, d) → back ≡ record { node = l.node; disk = d } ∷ rest → IsHandedBack ls fault back
  first_refused ls l rest back fault d first refused is =
      subst (λ (xs : List (Lent D)). IsHandedBack xs fault back) (sym first.is) (subst (λ (bs : List (Lent D)). IsHandedBack (l ∷ rest) fault bs) (sym is) (record {
        lent = ((first.node, (refused.back.same_limit ∙ first.room, first.others)), let count = first.count in omega (arith, count));
        refused = ((refused.back.no_fewer, none_fell_alone faults rest), cause_first fault l rest d refused);
        left = (refused.back.left, servers_alone rest);
      }))

  -- and as one of the servers' is
  cause_later : (fault : SetupFault) (l : Lent D) (rest others : List (Lent D)) (d : D) → faults d ≡ faults l.disk → IsRefusedBy faults 1 rest fault others → IsRefusedBy faults 0 (l ∷ rest) fault (record { node = l.node; disk = d } ∷ others)
  cause_later (setup.Disk n) l rest others d quiet cause = inr (omega (arith, quiet), cause)
  cause_later setup.OutOfMemory l rest others d quiet cause = (omega (arith, quiet), cause)

  pub later_refused : (ls : List (Lent D)) (l : Lent D) (rest back others : List (Lent D)) (fault : SetupFault) (database : DatabaseRunning D) (d : D) → ComesFirst ls l rest → IsFirstDatabase seen may_leave faults limit s l.disk database → d ≡ loc_disk_of database
      → AreLent limit s.capacity 1 others × (length others ≡ s.servers) → IsRefused faults 1 rest (fault, others) → AreLeft seen may_leave s 1 rest others → back ≡ record { node = l.node; disk = d } ∷ others → IsHandedBack ls fault back
  later_refused ls l rest back others fault database d first founded same lent refused left is =
      let quiet : faults d ≡ faults l.disk = ap faults same ∙ founded.quiet in
      let room : limit d ≡ s.capacity = ap limit same ∙ (founded.same_limit ∙ first.room) in
      let kept : IsLocLeft seen may_leave s l.disk d = subst (λ (x : D). IsLocLeft seen may_leave s l.disk x) (sym same) founded.left in
      subst (λ (xs : List (Lent D)). IsHandedBack xs fault back) (sym first.is) (subst (λ (bs : List (Lent D)). IsHandedBack (l ∷ rest) fault bs) (sym is) (record {
        lent = ((first.node, (room, lent.0)), let count = lent.1 in omega (arith, count));
        refused = ((omega (arith, quiet), refused.0), cause_later fault l rest others d quiet refused.1);
        left = (kept, left);
      }))
