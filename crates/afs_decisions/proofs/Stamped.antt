-- The reply to a change tells the times that its volume has after it: those of the change.
use Rattle.std.proofs.Common.{◌≡◌, ℕ, Bool, true, false, cond, List, [], ◌∷◌, ◌++◌, map, Option, Some, None, refl, sym, ap, ◌∙◌, eqb, eqb-true, is_some}
use Rattle.std.specs.Prelude.{nat_eq}
use Rattle.std.specs.List.{AllByRecursion}
use Rattle.afs_num.specs.declared.calls.FsCall.{FsCall}
use Rattle.afs_num.specs.declared.histories.Version.{Version}
use Rattle.afs_num.specs.declared.types.Fid.{Fid}
use Rattle.spec_ideal.specs.Operations.{changes, op, Caller, IsOn}
use Rattle.spec_ideal.specs.Replies.{change_reply, stamped, vnode_at, vnode_or_none}
use Rattle.spec_ideal.specs.Soundness.{IsSound}
use Rattle.spec_ideal.specs.Tables.{get, set, unset, Table}
use Rattle.spec_ideal.specs.Volumes.{counted, edited_all, edit_number, fid_of, versions_by, Edit, Vnode, Volume}
use Rattle.spec_ideal.proofs.Proper.{operations_change}
use Rattle.spec_ideal.proofs.Tables.{get_set, get_unset}
use Rattle.spec_records.specs.Changes.{gone_between, images_left, numbers_gone, set_times, stored_after, unset_times}
use Rattle.spec_records.specs.Durable.{or_zero, time_in, Stored}
use Rattle.afs_changes.specs.Drafts.{numbers_shown, IsLeftIn}
use Rattle.spec_ideal.specs.Images.{Image}
use Rattle.afs_changes.specs.Drawing.{all_left}
use Rattle.afs_changes.proofs.Changed.{shown_there}
use Rattle.afs_changes.proofs.Drawn.{each_leaves, imaged, images_are, sees, versions_are}
use Rattle.afs_changes.proofs.Replied.{reply_same, stamped_left, status_same, FoundAlike, SameStatus}

some_there : {A : Type 0} (o : Option A) → is_some o ≡ true → (x : A) × (o ≡ Some x)
some_there {A} None h = absurd cc
some_there {A} (Some x) h = (x, refl)

-- ---- times that are set

now_either : (b : Bool) (now : ℕ) (o : Option ℕ) → o ≡ Some now → cond b (Some now) o ≡ Some now
now_either true now o e = refl
now_either false now o e = e

stays_set : (now m : ℕ) (xs : Table Vnode) (t : Table ℕ) → get m t ≡ Some now → get m (set_times (map (imaged now) xs) t) ≡ Some now
stays_set now m [] t e = e
stays_set now m (p ∷ xs) t e = stays_set now m xs (set p.0 now t) (get_set m p.0 now t ∙ now_either (eqb p.0 m) now (get m t) e)

set_by : (b : Bool) (now m : ℕ) (p : ℕ × Vnode) (xs : Table Vnode) (y : Vnode) (t : Table ℕ) → nat_eq p.0 m ≡ b → cond b (Some p.1) (get m xs) ≡ Some y
    → (get m xs ≡ Some y → get m (set_times (map (imaged now) xs) (set p.0 now t)) ≡ Some now) → get m (set_times (map (imaged now) (p ∷ xs)) t) ≡ Some now
set_by true now m p xs y t is e more = stays_set now m xs (set p.0 now t) (get_set m p.0 now t ∙ rw is refl)
set_by false now m p xs y t is e more = more e

-- a vnode that is left has this time
time_set : (now m : ℕ) (xs : Table Vnode) (y : Vnode) (t : Table ℕ) → get m xs ≡ Some y → get m (set_times (map (imaged now) xs) t) ≡ Some now
time_set now m [] y t e = absurd cc
time_set now m (p ∷ xs) y t e = set_by (nat_eq p.0 m) now m p xs y t refl e (λ h. time_set now m xs y (set p.0 now t) h)

-- ---- times that go

other_number : (b : Bool) (n m : ℕ) (t : Table Vnode) (y : Vnode) (o : Option ℕ) → nat_eq n m ≡ b → get n t ≡ None → get m t ≡ Some y → cond b None o ≡ o
other_number true n m t y o is none there = let same = ap (λ (k : ℕ). get k t) (eqb-true n m is) in absurd cc
other_number false n m t y o is none there = refl

stays_by : (n m : ℕ) (b a : Option Vnode) (ns : List ℕ) (after : Table Vnode) (y : Vnode) (t : Table ℕ) → get n after ≡ a → get m after ≡ Some y
    → ((u : Table ℕ) → get m (unset_times ns u) ≡ get m u) → get m (unset_times (gone_between n b a ++ ns) t) ≡ get m t
stays_by n m (Some x) None ns after y t is there more = more (unset n t) ∙ (get_unset m n t ∙ other_number (nat_eq n m) n m after y (get m t) refl is there)
stays_by n m None None ns after y t is there more = more t
stays_by n m None (Some z) ns after y t is there more = more t
stays_by n m (Some x) (Some z) ns after y t is there more = more t

-- of a vnode that is there after the change none does
time_stays : (es : List Edit) (before after : Volume) (m : ℕ) (y : Vnode) (t : Table ℕ) → get m after.vnodes ≡ Some y → get m (unset_times (numbers_gone es before after) t) ≡ get m t
time_stays [] before after m y t there = refl
time_stays (e ∷ es) before after m y t there =
    stays_by (edit_number e) m (get (edit_number e) before.vnodes) (get (edit_number e) after.vnodes) (numbers_gone es before after) after.vnodes y t refl there (λ u. time_stays es before after m y u there)

-- ---- what is found first

here_by : (b : Bool) (x y : Vnode) (o p : Option Vnode) → cond b (Some x) o ≡ Some y → (o ≡ Some y → p ≡ Some y) → cond b (Some x) p ≡ Some y
here_by true x y o p e more = e
here_by false x y o p e more = more e

found_here : (m : ℕ) (s t : Table Vnode) (y : Vnode) → get m s ≡ Some y → get m (s ++ t) ≡ Some y
found_here m [] t y e = absurd cc
found_here m (p ∷ s) t y e = here_by (nat_eq p.0 m) p.1 y (get m s) (get m (s ++ t)) e (found_here m s t y)

-- ---- the reply

alike : (v : Volume) → FoundAlike v v
alike v = record { kind = refl; release = refl; vnodes = λ m. refl }

-- the vnode that is left under a number is there after the change
module _ (id now : ℕ) (v : Volume) (es : List Edit) where
  is_now : (caller : Caller) (times : Fid → ℕ) (ms : List ℕ) → AllByRecursion (IsLeftIn (all_left v es)) ms → ((m : ℕ) (y : Vnode) → get m (all_left v es) ≡ Some y → vnode_at (counted (edited_all id es v)) m ≡ y)
      → ((m : ℕ) (y : Vnode) → get m (all_left v es) ≡ Some y → times (fid_of id m y) ≡ now)
      → AllByRecursion (SameStatus id caller now times (counted (edited_all id es v)) (counted (edited_all id es v))) ms
  is_now caller times [] left there time = tt
  is_now caller times (m ∷ ms) left there time =
      let found = some_there (get m (all_left v es)) left.0 in
      let after = counted (edited_all id es v) in (
        status_same id caller now times after after m (alike after) (ap (λ (x : Vnode). times (fid_of id m x)) (there m found.0 found.1) ∙ time m found.0 found.1),
        is_now caller times ms left.1 there time,
      )

-- and has the time of the change
after_time : (id now : ℕ) (st : Stored) (es : List Edit) (m : ℕ) (y : Vnode) → get m (edited_all id es st.volume).vnodes ≡ Some y → get m (all_left st.volume es) ≡ Some y
    → images_left now es (counted (edited_all id es st.volume)) ≡ map (imaged now) (all_left st.volume es) → time_in (stored_after id now es st) (fid_of id m y) ≡ now
after_time id now st es m y there left images =
    let v = st.volume in
    let after = counted (edited_all id es v) in
    ap or_zero (time_stays es v after m y (set_times (images_left now es after) st.times) there
    ∙ (ap (λ (is : List Image). get m (set_times is st.times)) images ∙ time_set now m (all_left v es) y st.times left))

pub told_times : (id now : ℕ) (caller : Caller) (call : FsCall) (st : Stored) (es : List Edit) (n : ℕ) → IsSound st.volume → IsOn id call → op id caller call st.volume ≡ changes es n
    → change_reply id caller (stamped now (versions_by id es st.volume) (time_in st)) (counted (edited_all id es st.volume)) n call ≡ change_reply id caller (time_in (stored_after id now es st)) (counted (edited_all id es st.volume)) n call
told_times id now caller call st es n sound on is =
    let v = st.volume in
    let after = counted (edited_all id es v) in
    let ch = operations_change id caller call v es n sound on is in
    let leaves = each_leaves id v es ch.apart ch.one in
    let shown = shown_there id caller call v es n (all_left v es) sound on is refl in
    let there : (m : ℕ) (y : Vnode) → get m (all_left v es) ≡ Some y → get m after.vnodes ≡ Some y = λ m y e. sym (sees id es v m ch.apart ch.one ch.finds) ∙ found_here m (all_left v es) _ y e in
    let got : (m : ℕ) (y : Vnode) → get m (all_left v es) ≡ Some y → vnode_at after m ≡ y = λ m y e. ap vnode_or_none (there m y e) in
    let first = reply_same id caller now (stamped now (versions_by id es v) (time_in st)) after after n call (alike after) (is_now id now v es caller (stamped now (versions_by id es v) (time_in st)) (numbers_shown n call) shown got
    (λ m y e. ap (λ (vs : List Version). stamped now vs (time_in st) (fid_of id m y)) (versions_are id es v ch.apart ch.one ch.finds) ∙ stamped_left id now (time_in st) v es m y e)) in
    let second = reply_same id caller now (time_in (stored_after id now es st)) after after n call (alike after) (is_now id now v es caller (time_in (stored_after id now es st)) (numbers_shown n call) shown got
    (λ m y e. after_time id now st es m y (there m y e) e (images_are now v after es leaves))) in
    sym first ∙ second
