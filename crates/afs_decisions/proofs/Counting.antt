-- The counts of the versions that a change tells are words, where those of the images that it leaves are.
use Rattle.std.proofs.Common.{◌≡◌, ℕ, ◌+◌, ◌<◌, ◌≤◌, ◌^◌, ◌++◌, true, List, [], ◌∷◌, map, length, Option, Some, None, refl, sym, subst, ◌∙◌, arith}
use Rattle.std.specs.Prelude.{nat_lt, not, ⊤}
use Rattle.std.specs.List.{list_all, AllByRecursion}
use Rattle.std.specs.Option.{option_map}
use Rattle.afs_num.specs.declared.calls.FsCall.{FsCall}
use Rattle.afs_num.specs.declared.histories.Version.{Version}
use Rattle.afs_num.specs.declared.volumes.Change.{Change}
use Rattle.spec_ideal.specs.Operations.{changes, edit_fits, free_fits, is_last_count, last_count, op, Caller, IsOn}
use Rattle.spec_ideal.specs.Soundness.{IsSound}
use Rattle.spec_ideal.specs.Tables.{Table}
use Rattle.spec_ideal.specs.Volumes.{amended, amends, edit_number, frees, makes, Edit, Vnode, Volume}
use Rattle.spec_ideal.proofs.Basics.{both}
use Rattle.spec_ideal.proofs.Looks.{one_edit}
use Rattle.spec_ideal.proofs.Proper.{operations_change}
use Rattle.spec_ideal.proofs.Tellings.{FindEach, Finds}
use Rattle.afs_changes.specs.Changes.{after, IsChangeBy}
use Rattle.afs_changes.specs.Drawing.{after_edit, all_left, all_told, before_edit, left_at, told_between}
use Rattle.afs_volume.specs.Giving.{volume_of}
use Rattle.afs_volume.specs.declared.volume.Volume as volumes
use Rattle.afs_changes.proofs.Changed.{not_last, within}
use Rattle.afs_changes.proofs.Drawn.{each_leaves, imaged, images_are, versions_are}
use Rattle.afs_decisions.specs.Deciding.{AreCounted, IsCounted, IsOfWords}
use Rattle.afs_decisions.proofs.Written.{few_versions}

-- what is freed has counts that can be raised
Raises : Option Vnode → Option Vnode → Type 0
Raises b (Some x) = ⊤
Raises b None = free_fits b ≡ true

raises_by : (v : Volume) (e : Edit) → Finds e (before_edit v e) → edit_fits v e ≡ true → Raises (before_edit v e) (after_edit v e)
unfolding Raises
raises_by v (amends n a) f fits = subst (λ (o : Option Vnode). Raises o (option_map (amended (v.counter + 1) a) o)) (sym f.1) tt
raises_by v (frees n) f fits = fits
raises_by v (makes n x) f fits = subst (λ (o : Option Vnode). Raises o (one_edit (v.counter + 1) v.next (makes n x) o)) (sym f) tt

below : (n : ℕ) → not (is_last_count n) ≡ true → n + 1 ≤ last_count
below n fits = let lt = not_last (nat_lt n last_count) n refl fits in omega (arith, lt)

counted_one : (id time n : ℕ) (b a : Option Vnode) (ps : Table Vnode) (ws : List Version) → Raises b a → AllByRecursion IsOfWords (map (imaged time) (left_at n a ++ ps)) → (AllByRecursion IsOfWords (map (imaged time) ps) → AllByRecursion IsCounted ws) →
    AllByRecursion IsCounted (told_between id n b a ++ ws)
unfolding Raises
counted_one id time n b (Some x) ps ws raises words more =
    let index : x.index < 2 ^ 32 = words.0.1.1.1.0 in
    let body : x.data_version < 2 ^ 32 = words.0.1.1.1.1.0 in
    ((omega (arith, index), omega (arith, body)), more words.1)
counted_one id time n (Some y) None ps ws raises words more =
    let two = both (not (is_last_count y.index)) (not (is_last_count y.data_version)) raises in
    ((below y.index two.0, below y.data_version two.1), more words)
counted_one id time n None None ps ws raises words more = more words

all_counted : (id time : ℕ) (v : Volume) (es : List Edit) → list_all (edit_fits v) es ≡ true → FindEach v es → AllByRecursion IsOfWords (map (imaged time) (all_left v es)) → AllByRecursion IsCounted (all_told id v es)
all_counted id time v [] fits finds words = tt
all_counted id time v (e ∷ es) fits finds words =
    let two = both (edit_fits v e) (list_all (edit_fits v) es) fits in
    counted_one id time (edit_number e) (before_edit v e) (after_edit v e) (all_left v es) (all_told id v es) (raises_by v e finds.0 two.0) words (all_counted id time v es two.1 finds.1)

pub change_counted : (w : volumes.Volume) (caller : Caller) (call : FsCall) (now : ℕ) (es : List Edit) (n : ℕ) (x : Change) → IsSound (volume_of w) → IsOn w.head.id call → op w.head.id caller call (volume_of w) ≡ changes es n → IsChangeBy w now es n x →
    AllByRecursion IsOfWords x.vnodes → AreCounted x.versions
change_counted w caller call now es n x sound on e is words =
    let v = volume_of w in
    let id : ℕ = w.head.id in
    let ch = operations_change id caller call v es n sound on e in
    let left = each_leaves id v es ch.apart ch.one in
    let told = versions_are id es v ch.apart ch.one ch.finds in
    let images = is.vnodes ∙ images_are now v (after w es n) es left in
    let few = ch.few in
    let versions = few_versions id es v in (
      subst (λ (ws : List Version). length ws ≤ last_count) (sym is.versions) (omega (arith, few, versions)),
      subst (AllByRecursion IsCounted) (sym (is.versions ∙ told)) (all_counted id now v es (within id caller call v es n e).fits ch.finds (subst (AllByRecursion IsOfWords) images words)),
    )
