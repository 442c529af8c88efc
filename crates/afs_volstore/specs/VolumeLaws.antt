-- A server's records, what they make and its memory fit together.
use Rattle.std.specs.Prelude.{◌↔◌}
use Rattle.std.proofs.Common.{◌≡◌, ℕ, ◌+◌, Bool, true, false, List, [], ◌∷◌, length, Option, Some, None, nat_eq, nat_lt, if◌then◌else◌, refl, ap, ◌∙◌}
use Rattle.std.specs.Option.{option_map}
use Rattle.spec_history.specs.declared.lines.Line.{Line}
use Rattle.afs_num.specs.declared.types.Node.{Node}
use Rattle.afs_num.specs.declared.records.RecordBody.{RecordBody}
use Rattle.afs_num.specs.declared.records.RecordBody.TheVariants as bodies
use Rattle.afs_num.specs.declared.records.RecordHead.{RecordHead}
use Rattle.afs_num.specs.declared.records.StoredVolume.{StoredVolume}
use Rattle.afs_num.specs.declared.records.StoreRecord.{StoreRecord}
use Rattle.spec_shape.specs.Taking.{◌>>=◌}
use Rattle.spec_ideal.specs.Tables.{get, set}
use Rattle.spec_records.specs.Records.{record_at}
use Rattle.spec_records.specs.Durable.{changed_stored, most_volumes, noted, nothing_on, place_length, replaced, stored_of, with_journal, with_reply, with_stamp, with_stored, with_volumes, Durable, Stored}
use Rattle.spec_fold.specs.Fold.{bad_by, bad_from, body_taken, first_bad, first_folded, fold_all, fold_from, folded}
use Rattle.spec_fold.specs.Deeds.{can_take, clone_made, clone_put, done_by, flagged, on_stored, or_as_was}
use Rattle.spec_fold.specs.Effects.{effect_by, effect_of}
use Rattle.spec_dumps.specs.Restores.{restored_from}
use Rattle.spec_records.proofs.Spelled.{record_read}
use Rattle.afs_shelves.specs.Deeds.{SuitsDeed}
use Rattle.afs_shelves.specs.declared.deed.Deed.{Deed}
use Rattle.afs_shelves.specs.declared.deed.Deed.TheVariants as deeds
use Rattle.afs_memory.specs.Redos.{Suits}
use Rattle.afs_memory.specs.States.{on_disk}
use Rattle.afs_memory.specs.declared.redo.Redo.{Redo}
use Rattle.afs_memory.specs.declared.redo.Redo.TheVariants as redos
use Rattle.afs_store.specs.Folds.{all_folded, first_unfit, folded_from, last_told, told_from, unfit_by, unfit_from}
use Rattle.afs_store.specs.Sound.{IsSound}
use Rattle.afs_volstore.specs.Opening.{last_effect, last_from}
use Rattle.afs_volstore.specs.VolumeFold.{volume_fold}

-- ---- the fold does the same whatever the journal's length and the capacity

volumes_by : (s : StoredVolume) (ss : List StoredVolume) (j c : ℕ) (d : Durable) (x : Stored) (many : Bool) → ((e : Durable) → with_volumes ss (on_disk j c e) ≡ option_map (on_disk j c) (with_volumes ss e))
    → ((if many then None else Some (record (on_disk j c d) { volumes = set s.head.id x d.volumes })) >>= with_volumes ss) ≡ option_map (on_disk j c) ((if many then None else Some (record d { volumes = set s.head.id x d.volumes })) >>= with_volumes ss)
volumes_by s ss j c d x true later = refl
volumes_by s ss j c d x false later = later (record d { volumes = set s.head.id x d.volumes })

volume_by : (s : StoredVolume) (ss : List StoredVolume) (j c : ℕ) (d : Durable) (o : Option Stored) → ((e : Durable) → with_volumes ss (on_disk j c e) ≡ option_map (on_disk j c) (with_volumes ss e))
    → (o >>= λ x. (with_stored s.head.id x (on_disk j c d) >>= with_volumes ss)) ≡ option_map (on_disk j c) (o >>= λ x. (with_stored s.head.id x d >>= with_volumes ss))
volume_by s ss j c d None later = refl
volume_by s ss j c d (Some x) later = volumes_by s ss j c d x (nat_lt most_volumes (length (set s.head.id x d.volumes))) later

volumes_placed : (vs : List StoredVolume) (j c : ℕ) (d : Durable) → with_volumes vs (on_disk j c d) ≡ option_map (on_disk j c) (with_volumes vs d)
volumes_placed [] j c d = refl
volumes_placed (s ∷ ss) j c d = volume_by s ss j c d (stored_of s) (volumes_placed ss j c)

replaced_placed : (id : ℕ) (o : Option Stored) (j c : ℕ) (d : Durable) → replaced id o (on_disk j c d) ≡ option_map (on_disk j c) (replaced id o d)
replaced_placed id None j c d = refl
replaced_placed id (Some s) j c d = refl

change_placed : (id : ℕ) (f : Stored → Option Stored) (j c : ℕ) (d : Durable) (o : Option Stored) → (o >>= λ s. replaced id (f s) (on_disk j c d)) ≡ option_map (on_disk j c) (o >>= λ s. replaced id (f s) d)
change_placed id f j c d None = refl
change_placed id f j c d (Some s) = replaced_placed id (f s) j c d

stored_placed : (id : ℕ) (f : Stored → Stored) (o : Option Stored) (j c : ℕ) (d : Durable) → on_stored id f o (on_disk j c d) ≡ on_disk j c (on_stored id f o d)
stored_placed id f None j c d = refl
stored_placed id f (Some s) j c d = refl

put_placed : (source id : ℕ) (name : List ℕ) (kind release : ℕ) (s : Stored) (o : Option Stored) (j c : ℕ) (d : Durable) → clone_put source id name kind release s o (on_disk j c d) ≡ on_disk j c (clone_put source id name kind release s o d)
put_placed source id name kind release s None j c d = refl
put_placed source id name kind release s (Some old) j c d = refl

clone_placed : (source id : ℕ) (name : List ℕ) (kind release : ℕ) (o : Option Stored) (j c : ℕ) (d : Durable) → clone_made source id name kind release o (on_disk j c d) ≡ on_disk j c (clone_made source id name kind release o d)
clone_placed source id name kind release None j c d = refl
clone_placed source id name kind release (Some s) j c d = put_placed source id name kind release s (get id d.volumes) j c d

done_if : (b : Bool) (d e : Durable) (j c : ℕ) → d ≡ on_disk j c e → (if b then Some d else None) ≡ option_map (on_disk j c) (if b then Some e else None)
done_if true d e j c same = ap (λ (x : Durable). Some x) same
done_if false d e j c same = refl

taken_placed : (b : RecordBody) (j c : ℕ) (d : Durable) → body_taken b (on_disk j c d) ≡ option_map (on_disk j c) (body_taken b d)
taken_placed (bodies.First vs) j c d = volumes_placed vs j c d
taken_placed (bodies.Change id counter unique vnodes removed) j c d = change_placed id (changed_stored counter unique vnodes removed) j c d (get id d.volumes)
taken_placed (bodies.Boot boot) j c d = refl
taken_placed (bodies.Create id family name kind flags quota is_new) j c d = done_if (can_take (bodies.Create id family name kind flags quota is_new) d) _ (done_by (bodies.Create id family name kind flags quota is_new) d) j c refl
taken_placed (bodies.Delete id) j c d = done_if (can_take (bodies.Delete id) d) _ (done_by (bodies.Delete id) d) j c refl
taken_placed (bodies.Clone source id name kind release) j c d =
    done_if (can_take (bodies.Clone source id name kind release) d) _ (done_by (bodies.Clone source id name kind release) d) j c (clone_placed source id name kind release (get source d.volumes) j c d)
taken_placed (bodies.Restore id dump) j c d =
    done_if (can_take (bodies.Restore id dump) d) _ (done_by (bodies.Restore id dump) d) j c (stored_placed id (λ (s : Stored). or_as_was s (restored_from id s dump)) (get id d.volumes) j c d)
taken_placed (bodies.Flags id flags) j c d = done_if (can_take (bodies.Flags id flags) d) _ (done_by (bodies.Flags id flags) d) j c (stored_placed id (flagged flags) (get id d.volumes) j c d)
taken_placed (bodies.Forward id to) j c d = done_if (can_take (bodies.Forward id to) d) _ (done_by (bodies.Forward id to) d) j c refl
taken_placed bodies.Stamp j c d = refl

stamp_placed : (h : RecordHead) (j c : ℕ) (d : Durable) (b : Bool) → (if b then on_disk j c d else record (on_disk j c d) { stamps = set h.family h.stamp d.stamps }) ≡ on_disk j c (if b then d else record d { stamps = set h.family h.stamp d.stamps })
stamp_placed h j c d true = refl
stamp_placed h j c d false = refl

reply_placed : (o : Option Node) (h : RecordHead) (j c : ℕ) (d : Durable) → with_reply o h (on_disk j c d) ≡ on_disk j c (with_reply o h d)
reply_placed None h j c d = refl
reply_placed (Some n) h j c d = refl

noted_placed : (h : RecordHead) (j c : ℕ) (d : Durable) → noted h (on_disk j c d) ≡ on_disk j c (noted h d)
noted_placed h j c d = ap (with_reply h.caller h) (stamp_placed h j c d (nat_eq h.stamp 0)) ∙ reply_placed h.caller h j c (with_stamp h d)

folded_by : (r : StoreRecord) (j c : ℕ) (o : Option Durable) → (option_map (on_disk j c) o >>= λ d. Some (with_journal (j + place_length r) (noted r.head d))) ≡ option_map (on_disk (j + place_length r) c) (option_map (noted r.head) o)
folded_by r j c None = refl
folded_by r j c (Some d) = ap (λ (x : Durable). Some (with_journal (j + place_length r) x)) (noted_placed r.head j c d)

folds : (r : StoreRecord) (j c : ℕ) (d : Durable) → folded r (on_disk j c d) ≡ option_map (on_disk (j + place_length r) c) (option_map (noted r.head) (body_taken r.body d))
unfolding folded
folds r j c d =
    ap (λ (o : Option Durable). o >>= λ x. Some (with_journal (j + place_length r) (noted r.head x))) (taken_placed r.body j c d) ∙ folded_by r j c (body_taken r.body d)

effect_placed_by : (node : Node) (h : RecordHead) (b : RecordBody) (j c : ℕ) (d : Durable) → effect_by node h b (on_disk j c d) ≡ effect_by node h b d
effect_placed_by node h (bodies.First vs) j c d = refl
effect_placed_by node h (bodies.Change id counter unique vnodes removed) j c d = refl
effect_placed_by node h (bodies.Boot boot) j c d = refl
effect_placed_by node h (bodies.Create id family name kind flags quota is_new) j c d = refl
effect_placed_by node h (bodies.Delete id) j c d = refl
effect_placed_by node h (bodies.Clone source id name kind release) j c d = refl
effect_placed_by node h (bodies.Restore id dump) j c d = refl
effect_placed_by node h (bodies.Flags id flags) j c d = refl
effect_placed_by node h (bodies.Forward id to) j c d = refl
effect_placed_by node h bodies.Stamp j c d = refl

-- ---- what was made beforehand is what a record makes, whatever the journal's length and the capacity

suits_anywhere : (x : Deed) (j c : ℕ) (d : Durable) → SuitsDeed x (on_disk j c d) → SuitsDeed x d
suits_anywhere (deeds.Create s) j c d is = record { can = is.can; made = is.made }
suits_anywhere (deeds.Delete id) j c d is = record { can = is.can; made = is.made }
suits_anywhere (deeds.Clone x) j c d is = record { can = is.can; made = is.made }
suits_anywhere (deeds.Restore x) j c d is = record { can = is.can; made = is.made }
suits_anywhere (deeds.Flags id flags) j c d is = record { can = is.can; made = is.made }
suits_anywhere (deeds.Forward id to) j c d is = record { can = is.can; made = is.made }
suits_anywhere deeds.Stamp j c d is = record { can = is.can; made = is.made }

suits_there : (x : Deed) (j c : ℕ) (d : Durable) → SuitsDeed x d → SuitsDeed x (on_disk j c d)
suits_there (deeds.Create s) j c d is = record { can = is.can; made = is.made }
suits_there (deeds.Delete id) j c d is = record { can = is.can; made = is.made }
suits_there (deeds.Clone x) j c d is = record { can = is.can; made = is.made }
suits_there (deeds.Restore x) j c d is = record { can = is.can; made = is.made }
suits_there (deeds.Flags id flags) j c d is = record { can = is.can; made = is.made }
suits_there (deeds.Forward id to) j c d is = record { can = is.can; made = is.made }
suits_there deeds.Stamp j c d is = record { can = is.can; made = is.made }

suits : (r : Redo) (j c : ℕ) (d : Durable) → Suits r (on_disk j c d) ↔ Suits r d
suits (redos.Volumes vs) j c d = (λ is. is, λ is. is)
suits (redos.Change id change) j c d = (λ is. is, λ is. is)
suits (redos.Start boot) j c d = (λ is. is, λ is. is)
suits (redos.Deed x) j c d = (suits_anywhere x j c d, suits_there x j c d)

-- ---- all records are folded one after the other

bind_same : {A B : Type 0} (o : Option A) (f g : A → Option B) → ((x : A) → f x ≡ g x) → (o >>= f) ≡ (o >>= g)
bind_same {A} {B} None f g same = refl
bind_same {A} {B} (Some x) f g same = same x

from_same : (records : List (List ℕ)) (d : Durable) → folded_from volume_fold records d ≡ fold_from records d
from_same [] d = refl
from_same (b ∷ bs) d =
    bind_same (record_at b) (λ r. folded r d >>= folded_from volume_fold bs) (λ r. folded r d >>= fold_from bs) (λ r. bind_same (folded r d) (folded_from volume_fold bs) (fold_from bs) (from_same bs))

all_same : (c : ℕ) (records : List (List ℕ)) → all_folded volume_fold c records ≡ fold_all c records
all_same c [] = refl
all_same c (b ∷ bs) =
    bind_same (record_at b) (λ r. first_folded r (nothing_on c) >>= folded_from volume_fold bs) (λ r. first_folded r (nothing_on c) >>= fold_from bs)
    (λ r. bind_same (first_folded r (nothing_on c)) (folded_from volume_fold bs) (fold_from bs) (from_same bs))

by_same : (n : ℕ) (o : Option Durable) (f g : Durable → Option ℕ) → ((d : Durable) → f d ≡ g d) → unfit_by n o f ≡ bad_by n o g
by_same n None f g same = refl
by_same n (Some d) f g same = same d

unfit_same : (n : ℕ) (records : List (List ℕ)) (d : Durable) → unfit_from volume_fold n records d ≡ bad_from n records d
unfit_same n [] d = refl
unfit_same n (b ∷ bs) d = by_same n (record_at b >>= λ r. folded r d) (unfit_from volume_fold (n + 1) bs) (bad_from (n + 1) bs) (unfit_same (n + 1) bs)

bad_same : (c : ℕ) (records : List (List ℕ)) → first_unfit volume_fold c records ≡ first_bad c records
bad_same c [] = refl
bad_same c (b ∷ bs) = by_same 1 (record_at b >>= λ r. first_folded r (nothing_on c)) (unfit_from volume_fold 2 bs) (bad_from 2 bs) (unfit_same 2 bs)

told_same : (node : Node) (records : List (List ℕ)) (d : Durable) (e : List Line) → told_from volume_fold node records d e ≡ last_from node records d e
told_same node [] d e = refl
told_same node (b ∷ bs) d e =
    bind_same (record_at b) (λ r. folded r d >>= λ after. told_from volume_fold node bs after (effect_of node r d)) (λ r. folded r d >>= λ after. last_from node bs after (effect_of node r d))
    (λ r. bind_same (folded r d) (λ after. told_from volume_fold node bs after (effect_of node r d)) (λ after. last_from node bs after (effect_of node r d)) (λ after. told_same node bs after (effect_of node r d)))

last_same : (node : Node) (c : ℕ) (records : List (List ℕ)) → last_told volume_fold node c records ≡ last_effect node c records
last_same node c [] = refl
last_same node c (b ∷ bs) =
    bind_same (record_at b) (λ r. first_folded r (nothing_on c) >>= λ after. told_from volume_fold node bs after (effect_of node r (nothing_on c))) (λ r. first_folded r (nothing_on c) >>= λ after. last_from node bs after (effect_of node r (nothing_on c)))
    (λ r. bind_same (first_folded r (nothing_on c)) (λ after. told_from volume_fold node bs after (effect_of node r (nothing_on c))) (λ after. last_from node bs after (effect_of node r (nothing_on c)))
    (λ after. told_same node bs after (effect_of node r (nothing_on c))))

pub volume_sound : IsSound volume_fold
volume_sound = record {
  again = record_read;
  folds = folds;
  tells = λ node r j c d. effect_placed_by node r.head r.body j c d;
  long = λ j c d. refl;
  sized = λ j c d. refl;
  boots = λ j c d. refl;
  starts = λ n d. refl;
  suits = λ p j c d. suits p.redo j c d;
  fits = λ p ready. ready.fits;
  all = all_same;
  bad = bad_same;
  last = last_same;
}
