-- The database's records, what they make and its memory fit together.
use Rattle.std.proofs.Common.{◌≡◌, ℕ, ◌+◌, Bool, true, false, List, [], ◌∷◌, Option, Some, None, if◌then◌else◌, refl, ap, ◌∙◌}
use Rattle.std.specs.Option.{option_map}
use Rattle.spec_history.specs.declared.lines.Line.{Line}
use Rattle.afs_num.specs.declared.records.RecordHead.{RecordHead}
use Rattle.afs_num.specs.declared.types.Node.{Node}
use Rattle.spec_shape.specs.Taking.{◌>>=◌}
use Rattle.spec_records.proofs.LocSpelled.{loc_record_read}
use Rattle.spec_records.specs.LocDurable.{can_do, entries_after, loc_bad_by, loc_bad_from, loc_body_taken, loc_first_bad, loc_first_folded, loc_fold_all, loc_fold_from, loc_folded, loc_place_length, loc_with_journal, loc_with_reply, nothing_listed, numbered_as, LocDurable}
use Rattle.spec_records.specs.LocEffects.{loc_effect_by, loc_effect_of}
use Rattle.spec_records.specs.LocRecords.{loc_record_at, Boot, Database, EntryDeed, First, LocBody, LocRecord}
use Rattle.afs_store.specs.Folds.{all_folded, first_unfit, folded_from, last_told, told_from, unfit_by, unfit_from}
use Rattle.afs_store.specs.Sound.{IsSound}
use Rattle.afs_locstore.specs.LocFold.{loc_fold, loc_last_effect, loc_last_from}
use Rattle.afs_locstore.specs.States.{loc_done, loc_on_disk}

-- ---- the fold does the same whatever the journal's length and the capacity

deed_placed : (deed : EntryDeed) (next_id next_stamp j c : ℕ) (d : LocDurable) (can : Bool) →
    (if can then Some (numbered_as next_id next_stamp (record (loc_on_disk j c d) { entries = entries_after deed d.entries })) else None)
    ≡ option_map (loc_on_disk j c) (if can then Some (numbered_as next_id next_stamp (record d { entries = entries_after deed d.entries })) else None)
deed_placed deed next_id next_stamp j c d true = refl
deed_placed deed next_id next_stamp j c d false = refl

taken_placed : (b : LocBody) (j c : ℕ) (d : LocDurable) → loc_body_taken b (loc_on_disk j c d) ≡ option_map (loc_on_disk j c) (loc_body_taken b d)
taken_placed (First ls next_id next_stamp) j c d = refl
taken_placed (Boot boot) j c d = refl
taken_placed (Database deed next_id next_stamp) j c d = deed_placed deed next_id next_stamp j c d (can_do deed d.entries)

reply_placed : (o : Option Node) (h : RecordHead) (j c : ℕ) (d : LocDurable) → loc_with_reply o h (loc_on_disk j c d) ≡ loc_on_disk j c (loc_with_reply o h d)
reply_placed None h j c d = refl
reply_placed (Some n) h j c d = refl

folded_by : (r : LocRecord) (j c : ℕ) (o : Option LocDurable) → (option_map (loc_on_disk j c) o >>= λ d. Some (loc_with_journal (j + loc_place_length r) (loc_with_reply r.head.caller r.head d))) ≡ option_map (loc_on_disk (j + loc_place_length r) c) (option_map (loc_with_reply r.head.caller r.head) o)
folded_by r j c None = refl
folded_by r j c (Some d) = ap (λ (x : LocDurable). Some (loc_with_journal (j + loc_place_length r) x)) (reply_placed r.head.caller r.head j c d)

folds : (r : LocRecord) (j c : ℕ) (d : LocDurable) → loc_folded r (loc_on_disk j c d) ≡ option_map (loc_on_disk (j + loc_place_length r) c) (loc_done r d)
unfolding loc_folded
folds r j c d =
    ap (λ (o : Option LocDurable). o >>= λ x. Some (loc_with_journal (j + loc_place_length r) (loc_with_reply r.head.caller r.head x))) (taken_placed r.body j c d) ∙ folded_by r j c (loc_body_taken r.body d)

effect_placed : (b : LocBody) (j c : ℕ) (d : LocDurable) → loc_effect_by b (loc_on_disk j c d) ≡ loc_effect_by b d
effect_placed (First ls next_id next_stamp) j c d = refl
effect_placed (Boot boot) j c d = refl
effect_placed (Database deed next_id next_stamp) j c d = refl

-- ---- all records are folded one after the other

bind_same : {A B : Type 0} (o : Option A) (f g : A → Option B) → ((x : A) → f x ≡ g x) → (o >>= f) ≡ (o >>= g)
bind_same {A} {B} None f g same = refl
bind_same {A} {B} (Some x) f g same = same x

from_same : (records : List (List ℕ)) (d : LocDurable) → folded_from loc_fold records d ≡ loc_fold_from records d
from_same [] d = refl
from_same (b ∷ bs) d =
    bind_same (loc_record_at b) (λ r. loc_folded r d >>= folded_from loc_fold bs) (λ r. loc_folded r d >>= loc_fold_from bs) (λ r. bind_same (loc_folded r d) (folded_from loc_fold bs) (loc_fold_from bs) (from_same bs))

all_same : (c : ℕ) (records : List (List ℕ)) → all_folded loc_fold c records ≡ loc_fold_all c records
all_same c [] = refl
all_same c (b ∷ bs) =
    bind_same (loc_record_at b) (λ r. loc_first_folded r (nothing_listed c) >>= folded_from loc_fold bs) (λ r. loc_first_folded r (nothing_listed c) >>= loc_fold_from bs)
    (λ r. bind_same (loc_first_folded r (nothing_listed c)) (folded_from loc_fold bs) (loc_fold_from bs) (from_same bs))

by_same : (n : ℕ) (o : Option LocDurable) (f g : LocDurable → Option ℕ) → ((d : LocDurable) → f d ≡ g d) → unfit_by n o f ≡ loc_bad_by n o g
by_same n None f g same = refl
by_same n (Some d) f g same = same d

unfit_same : (n : ℕ) (records : List (List ℕ)) (d : LocDurable) → unfit_from loc_fold n records d ≡ loc_bad_from n records d
unfit_same n [] d = refl
unfit_same n (b ∷ bs) d = by_same n (loc_record_at b >>= λ r. loc_folded r d) (unfit_from loc_fold (n + 1) bs) (loc_bad_from (n + 1) bs) (unfit_same (n + 1) bs)

bad_same : (c : ℕ) (records : List (List ℕ)) → first_unfit loc_fold c records ≡ loc_first_bad c records
bad_same c [] = refl
bad_same c (b ∷ bs) = by_same 1 (loc_record_at b >>= λ r. loc_first_folded r (nothing_listed c)) (unfit_from loc_fold 2 bs) (loc_bad_from 2 bs) (unfit_same 2 bs)

told_same : (node : Node) (records : List (List ℕ)) (d : LocDurable) (e : List Line) → told_from loc_fold node records d e ≡ loc_last_from records d e
told_same node [] d e = refl
told_same node (b ∷ bs) d e =
    bind_same (loc_record_at b) (λ r. loc_folded r d >>= λ after. told_from loc_fold node bs after (loc_effect_of r d)) (λ r. loc_folded r d >>= λ after. loc_last_from bs after (loc_effect_of r d))
    (λ r. bind_same (loc_folded r d) (λ after. told_from loc_fold node bs after (loc_effect_of r d)) (λ after. loc_last_from bs after (loc_effect_of r d)) (λ after. told_same node bs after (loc_effect_of r d)))

last_same : (node : Node) (c : ℕ) (records : List (List ℕ)) → last_told loc_fold node c records ≡ loc_last_effect c records
last_same node c [] = refl
last_same node c (b ∷ bs) =
    bind_same (loc_record_at b) (λ r. loc_first_folded r (nothing_listed c) >>= λ after. told_from loc_fold node bs after (loc_effect_of r (nothing_listed c))) (λ r. loc_first_folded r (nothing_listed c) >>= λ after. loc_last_from bs after (loc_effect_of r (nothing_listed c)))
    (λ r. bind_same (loc_first_folded r (nothing_listed c)) (λ after. told_from loc_fold node bs after (loc_effect_of r (nothing_listed c))) (λ after. loc_last_from bs after (loc_effect_of r (nothing_listed c)))
    (λ after. told_same node bs after (loc_effect_of r (nothing_listed c))))

pub loc_sound : IsSound loc_fold
loc_sound = record {
  again = loc_record_read;
  folds = folds;
  tells = λ node r j c d. effect_placed r.body j c d;
  long = λ j c d. refl;
  sized = λ j c d. refl;
  boots = λ j c d. refl;
  starts = λ n d. refl;
  suits = λ p j c d. (λ x. x, λ x. x);
  fits = λ p ready. ready.fits;
  all = all_same;
  bad = bad_same;
  last = last_same;
}
