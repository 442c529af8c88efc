-- What a restart tells of the record of a change is what the row tells then.
use Rattle.spec_model.specs.Calls.{key_of}
use Rattle.std.proofs.Common.{◌≡◌, ◌≤◌, ℕ, ◌+◌, List, [], ◌∷◌, ◌++◌, map, length, Option, Some, refl, sym, ap, subst, ◌∙◌, arith}
use Rattle.std.specs.Prelude.{min}
use Rattle.std.specs.List.{AllByRecursion}
use Rattle.afs_num.specs.declared.histories.Version.{Version}
use Rattle.afs_num.specs.declared.records.StoreRecord.{StoreRecord}
use Rattle.afs_num.specs.declared.types.Head.{Head}
use Rattle.afs_num.specs.declared.types.Key.{Key}
use Rattle.afs_num.specs.declared.types.Node.{Node}
use Rattle.afs_num.specs.declared.vnodes.Vnode as image
use Rattle.afs_num.specs.declared.volumes.Change as made_of
use Rattle.spec_history.specs.declared.lines.Line.{Line}
use Rattle.spec_history.specs.declared.lines.Line.TheVariants as lines
use Rattle.spec_ideal.specs.Operations.{last_count}
use Rattle.spec_ideal.specs.Tables.{get}
use Rattle.spec_records.specs.Durable.{change_lines, versions_told, Durable, Stored}
use Rattle.spec_fold.specs.Effects.{effect_of}
use Rattle.spec_records.specs.Forms.{HasImageForm}
use Rattle.spec_records.specs.Records.{FitsRecord}
use Rattle.spec_rows.specs.ServerRow.{versions_made, record_of, saves, versioned, Change}
use Rattle.spec_rows.specs.States.{ServerState}
use Rattle.afs_memory.specs.Telling.{in_words, version_within}
use Rattle.afs_decisions.specs.Deciding.{AreCounted, IsCounted, IsMade, IsOfWords}
use Rattle.afs_server.specs.Putting.{IsToldAgain}
use Rattle.afs_callbacks.specs.Saving.{change_kept}

-- ---- lines in words

kept_min : (n : ℕ) → n ≤ last_count → min n last_count ≡ n
kept_min n le = grind (arith, le)

version_as_it_is : (w : Version) → IsCounted w → version_within w ≡ w
version_as_it_is w counted = λ i. record w { index = kept_min w.index counted.0 i; data_version = kept_min w.data_version counted.1 i }

versions_as_they_are : (ws : List Version) → AllByRecursion IsCounted ws → map in_words (map lines.Version ws) ≡ map lines.Version ws
versions_as_they_are [] counted = refl
versions_as_they_are (w ∷ ws) counted = λ i. lines.Version (version_as_it_is w counted.0 i) ∷ versions_as_they_are ws counted.1 i

lines_as_they_are : (server : Node) (key : Key) (ws : List Version) → AreCounted ws → map in_words (change_lines server key ws) ≡ change_lines server key ws
lines_as_they_are server key ws counted = λ i. lines.Change server key (kept_min (length ws) counted.0 i) ∷ versions_as_they_are ws counted.1 i

versioned_first : (ws : List Version) (ls : List Line) → versioned ws ls ≡ map lines.Version ws ++ ls
versioned_first [] ls = refl
versioned_first (w ∷ ws) ls = ap (λ (ks : List Line). lines.Version w ∷ ks) (versioned_first ws ls)

-- ---- the record

images_of_words : (vs : List image.Vnode) → AllByRecursion HasImageForm vs → AllByRecursion IsOfWords vs
images_of_words [] all = tt
images_of_words (v ∷ vs) all = (all.0.words, images_of_words vs all.1)

record_told : (me : Node) (clock id : ℕ) (head : Head) (c : Change) (x : made_of.Change) (bytes : List ℕ) (d : Durable) → get id d.volumes ≡ Some c.before → IsMade clock id c x → effect_of me (change_kept head id x bytes) d ≡ change_lines me (key_of head) (versions_made c)
record_told me clock id head c x bytes d there is =
    ap (λ (o : Option Stored). change_lines me (key_of head) (versions_told id x.vnodes x.removed o)) there ∙ ap (change_lines me (key_of head)) (is.told ∙ is.versions)

pub told_again : (me : Node) (clock id : ℕ) (head : Head) (c : Change) (x : made_of.Change) (bytes : List ℕ) (s : ServerState) (d : Durable) (r : StoreRecord) → get id d.volumes ≡ Some c.before → IsMade clock id c x → FitsRecord (change_kept head id x bytes) → change_kept head id x bytes ≡ r →
    IsToldAgain me s clock (saves head c) r d
told_again me clock id head c x bytes s d r there is fits same ls =
    let words : AllByRecursion IsOfWords x.vnodes = images_of_words x.vnodes fits.body.1.1.1.0.1 in
    let counted : AreCounted (versions_made c) = subst AreCounted is.versions (is.counted words) in
    ap (λ (ks : List Line). lines.Change me (key_of head) (length (versions_made c)) ∷ ks) (versioned_first (versions_made c) ls)
    ∙ (ap (λ (ks : List Line). ks ++ ls) (sym (ap (map in_words) (record_told me clock id head c x bytes d there is) ∙ lines_as_they_are me (key_of head) (versions_made c) counted))
    ∙ ap (λ (q : StoreRecord). map in_words (effect_of me q d) ++ ls) same)
