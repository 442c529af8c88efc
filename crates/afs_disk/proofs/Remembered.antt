-- How what a crash may leave of a disk in memory goes on.
use Rattle.std.proofs.Common.{◌≡◌, ◌≤◌, ◌⊎◌, inl, inr, ⊎_elim, ℕ, zero, suc, ◌==◌, Bool, true, false, if◌then◌else◌, List, [], ◌∷◌, ◌++◌, length, take, drop, replicate, refl, sym, ◌∙◌, ap, subst, arith, length-append}
use Rattle.afs_disk.specs.Disk.{overwritten, written_by, cut_by, Torn, CutShort, ComesBy, LeavesJust, Passes}
use Rattle.afs_disk.specs.Images.{Held, MayLeave, image, paint, painted}
use Rattle.afs_disk.specs.Past.{HadLeft, Since}
use Rattle.afs_disk.proofs.Painting.{torn_painted, torn_here, torn_same, torn_written, painted-push, painted-take, painted-overwritten, cut_same, cut_front}

keeps : (past : List Held) (held : Held) (c : List ℕ) → HadLeft past c → HadLeft (past ++ held ∷ []) c
keeps [] held c had = absurd had
keeps (p ∷ past) held c (inl here) = inl here
keeps (p ∷ past) held c (inr there) = inr (keeps past held c there)

adds : (past : List Held) (held : Held) (c : List ℕ) → HadLeft (past ++ held ∷ []) c → HadLeft past c ⊎ MayLeave held c
adds [] held c (inl here) = inr here
adds [] held c (inr none) = absurd none
adds (p ∷ past) held c (inl here) = inl (inl here)
adds (p ∷ past) held c (inr there) = ⊎_elim (λ had. inl (inr had)) (λ new. inr new) (adds past held c there)

newest : (past : List Held) (held : Held) (c : List ℕ) → MayLeave held c → HadLeft (past ++ held ∷ []) c
newest [] held c is = inl is
newest (p ∷ past) held c is = inr (newest past held c is)

drop_push : (t : ℕ) (past : List Held) (held : Held) → t ≤ length past → drop t (past ++ held ∷ []) ≡ drop t past ++ held ∷ []
drop_push zero past held le = refl
drop_push (suc t) [] held le = absurd (omega arith)
drop_push (suc t) (p ∷ past) held le = drop_push t past held (omega arith)

-- nothing happened
pub passes_same : (past : List Held) (held : Held) → Passes (length past) (length past) (Since past held) (Since past held) (MayLeave held)
passes_same past held = record { later = omega arith; no_more = λ t c le left. inl left; keeps = λ t c le left. left }

passes_push : (past : List Held) (old new : Held) → Passes (length past) (length (past ++ old ∷ [])) (Since past old) (Since (past ++ old ∷ []) new) (MayLeave new)
passes_push past old new = record {
  later = omega (arith, length-append past (old ∷ []));
  no_more = λ t c le left. ⊎_elim (λ now. inr now) (λ had. inl (was t c (adds (drop t past) old c (subst (λ (l : List Held). HadLeft l c) (drop_push t past old le) had)))) left;
  keeps = λ t c le left. inr (subst (λ (l : List Held). HadLeft l c) (sym (drop_push t past old le)) (⊎_elim (λ now. newest (drop t past) old c now) (λ had. keeps (drop t past) old c had) left));
}
  where
    was : (t : ℕ) (c : List ℕ) → HadLeft (drop t past) c ⊎ MayLeave old c → Since past old t c
    was t c (inl had) = inr had
    was t c (inr now) = inl now

-- the state before joins the past
pub passes : (past later : List Held) (old new : Held) → later ≡ past ++ old ∷ [] → Passes (length past) (length later) (Since past old) (Since later new) (MayLeave new)
passes past later old new is = subst (λ (l : List Held). Passes (length past) (length l) (Since past old) (Since l new) (MayLeave new)) (sym is) (passes_push past old new)

-- an image by the three tests of the pick
abbrev chosen : Bool → Bool → Bool → Held → List ℕ
chosen a b d held =
    if a then held.kept
    else (if b then held.now
    else (if d then painted 0 held.unsynced held.now
    else painted 255 held.unsynced held.now))

module _ (old new : Held) (at : ℕ) (bytes : List ℕ) (inside : at ≤ length old.now) (kept : new.kept ≡ old.kept) (now : new.now ≡ overwritten at bytes old.now) (unsynced : new.unsynced ≡ old.unsynced ++ (at, length bytes) ∷ []) where
  one_write : Torn at (length bytes) old.now new.now
  one_write = subst (λ (l : List ℕ). Torn at (length bytes) old.now l) (sym now) (torn_written at bytes old.now inside)

  ranges_written : (v : ℕ) → Torn at (length bytes) (painted v old.unsynced old.now) (painted v new.unsynced new.now)
  ranges_written v =
      let is : painted v new.unsynced new.now ≡ paint v at (length bytes) (painted v old.unsynced new.now) = ap (λ (l : List (ℕ × ℕ)). painted v l new.now) unsynced ∙ painted-push v old.unsynced (at, length bytes) new.now in
      subst (λ (l : List ℕ). Torn at (length bytes) (painted v old.unsynced old.now) l) (sym is) (torn_here at (length bytes) v (painted v old.unsynced old.now) (painted v old.unsynced new.now) (torn_painted at (length bytes) v old.unsynced old.now new.now one_write))

  each_written : (a b d : Bool) → Torn at (length bytes) (chosen a b d old) (chosen a b d new)
  each_written true b d = subst (λ (l : List ℕ). Torn at (length bytes) old.kept l) (sym kept) (torn_same at (length bytes) old.kept)
  each_written false true d = one_write
  each_written false false true = ranges_written 0
  each_written false false false = ranges_written 255

  pub comes_by_write : ComesBy (Torn at (length bytes)) (MayLeave old) (MayLeave new)
  comes_by_write c left = (image left.0 old, (left.0, refl), subst (λ (l : List ℕ). Torn at (length bytes) (image left.0 old) l) (sym left.1) (each_written (left.0 == 0) (left.0 == 1) (left.0 == 2)))

module _ (old new : Held) (len : ℕ) (kept : new.kept ≡ old.kept) (now : new.now ≡ take len old.now) (unsynced : new.unsynced ≡ old.unsynced) where
  ranges_cut : (v : ℕ) → CutShort len (painted v old.unsynced old.now) (painted v new.unsynced new.now)
  ranges_cut v =
      let is : painted v new.unsynced new.now ≡ take len (painted v old.unsynced old.now) = ap (λ (l : List (ℕ × ℕ)). painted v l new.now) unsynced ∙ ap (painted v old.unsynced) now ∙ painted-take len v old.unsynced old.now in
      subst (λ (l : List ℕ). CutShort len (painted v old.unsynced old.now) l) (sym is) (cut_front len (painted v old.unsynced old.now))

  each_cut : (a b d : Bool) → CutShort len (chosen a b d old) (chosen a b d new)
  each_cut true b d = subst (λ (l : List ℕ). CutShort len old.kept l) (sym kept) (cut_same len old.kept)
  each_cut false true d = subst (λ (l : List ℕ). CutShort len old.now l) (sym now) (cut_front len old.now)
  each_cut false false true = ranges_cut 0
  each_cut false false false = ranges_cut 255

  pub comes_by_cut : ComesBy (CutShort len) (MayLeave old) (MayLeave new)
  comes_by_cut c left = (image left.0 old, (left.0, refl), subst (λ (l : List ℕ). CutShort len (image left.0 old) l) (sym left.1) (each_cut (left.0 == 0) (left.0 == 1) (left.0 == 2)))

-- where nothing is unsynced each image is what a read gives
pub just_kept : (held : Held) (bytes : List ℕ) → held.kept ≡ bytes → held.now ≡ bytes → held.unsynced ≡ [] → LeavesJust bytes (MayLeave held)
just_kept held bytes kept now none c left = left.1 ∙ all (left.0 == 0) (left.0 == 1) (left.0 == 2)
  where
    all : (a b d : Bool) → chosen a b d held ≡ bytes
    all true b d = kept
    all false true d = now
    all false false true = ap (λ (l : List (ℕ × ℕ)). painted 0 l held.now) none ∙ now
    all false false false = ap (λ (l : List (ℕ × ℕ)). painted 255 l held.now) none ∙ now

-- what a pick leaves after a write, a cut and a sync
module _ (old new : Held) (at : ℕ) (bytes : List ℕ) (inside : at ≤ length old.now) (kept : new.kept ≡ old.kept) (now : new.now ≡ overwritten at bytes old.now) (unsynced : new.unsynced ≡ old.unsynced ++ (at, length bytes) ∷ []) where
  painted_written : (v : ℕ) → painted v new.unsynced new.now ≡ overwritten at (replicate (length bytes) v) (painted v old.unsynced old.now)
  painted_written v =
      ap (λ (l : List (ℕ × ℕ)). painted v l new.now) unsynced ∙ ap (painted v (old.unsynced ++ (at, length bytes) ∷ [])) now
      ∙ painted-push v old.unsynced (at, length bytes) (overwritten at bytes old.now) ∙ painted-overwritten v at bytes old.unsynced old.now inside

  by_test : (a b d : Bool) → chosen a b d new ≡ (if a then chosen a b d old else overwritten at (if b then bytes else (if d then replicate (length bytes) 0 else replicate (length bytes) 255)) (chosen a b d old))
  by_test true b d = kept
  by_test false true d = now
  by_test false false true = painted_written 0
  by_test false false false = painted_written 255

  pub image_written : (pick : ℕ) → image pick new ≡ written_by pick at bytes (image pick old)
  image_written pick = by_test (pick == 0) (pick == 1) (pick == 2)

module _ (old new : Held) (len : ℕ) (kept : new.kept ≡ old.kept) (now : new.now ≡ take len old.now) (unsynced : new.unsynced ≡ old.unsynced) where
  painted_cut : (v : ℕ) → painted v new.unsynced new.now ≡ take len (painted v old.unsynced old.now)
  painted_cut v = ap (λ (l : List (ℕ × ℕ)). painted v l new.now) unsynced ∙ ap (painted v old.unsynced) now ∙ painted-take len v old.unsynced old.now

  cut_by_test : (a b d : Bool) → chosen a b d new ≡ (if a then chosen a b d old else take len (chosen a b d old))
  cut_by_test true b d = kept
  cut_by_test false true d = now
  cut_by_test false false true = painted_cut 0
  cut_by_test false false false = painted_cut 255

  pub image_cut : (pick : ℕ) → image pick new ≡ cut_by pick len (image pick old)
  image_cut pick = cut_by_test (pick == 0) (pick == 1) (pick == 2)
