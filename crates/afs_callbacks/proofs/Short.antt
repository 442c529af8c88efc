-- The reply to a change is short: it has no list.
use Rattle.std.proofs.Common.{◌≡◌, ◌≤◌, ◌<◌, ◌^◌, ℕ, ◌+◌, ◌*◌, List, [], ◌∷◌, ◌++◌, length, refl, ap, ◌∙◌, arith}
use Rattle.std.specs.Prelude.{pos}
use Rattle.std.specs.List.{flat_map, AllByRecursion}
use Rattle.std.proofs.lemmas.List.{length-append}
use Rattle.std.proofs.lemmas.List.Concat.{flat_map-cons}
use Rattle.afs_num.specs.declared.calls.FsReply.{FsReply}
use Rattle.afs_num.specs.declared.calls.FsReply.TheVariants as replies
use Rattle.afs_num.specs.declared.messages.Carried.TheVariants as carried
use Rattle.afs_num.specs.declared.messages.Reply.TheVariants as tell
use Rattle.afs_num.specs.declared.types.Head.{Head}
use Rattle.afs_xdr.specs.Words.{word, words}
use Rattle.spec_shape.specs.Spelling.{callback_words, field_spelled, fields_spelled, fid_words, status_words, sync_words}
use Rattle.spec_shape.specs.declared.kinds.Field.{Field}
use Rattle.spec_shape.specs.declared.kinds.Field.TheVariants as fields
use Rattle.spec_model.specs.Heads.{head_words, signed_word}
use Rattle.spec_model.specs.Messages.{spelled}
use Rattle.spec_rows.specs.ServerRow.{promise_until, promised_in, replied, reply_head}
use Rattle.afs_callbacks.specs.Saving.{IsChanged}

words_long : (ns : List ℕ) → length (words ns) ≡ 4 * length ns
unfolding word
words_long [] = refl
words_long (n ∷ ns) = ap length (flat_map-cons word n ns) ∙ (length-append (word n) (words ns) ∙ omega (arith, words_long ns))

word_long : (n : ℕ) → length (word n) ≡ 4
unfolding word
word_long n = refl

-- ---- fields without a list

abbrev pub IsSmall : Field → Type 0
IsSmall (fields.Fid f) = Unit {0}
IsSmall (fields.FetchStatus s) = Unit {0}
IsSmall (fields.CallBack c) = Unit {0}
IsSmall (fields.VolSync v) = Unit {0}
IsSmall f = ⊥

small_field : (f : Field) → IsSmall f → length (field_spelled f) ≤ 84
small_field (fields.Fid f) small = let long = words_long (fid_words f) in omega (arith, long)
small_field (fields.FetchStatus s) small = let long = words_long (status_words s) in omega (arith, long)
small_field (fields.CallBack c) small = let long = words_long (callback_words c) in omega (arith, long)
small_field (fields.VolSync v) small = let long = words_long (sync_words v) in omega (arith, long)
small_field (fields.Word n) small = absurd small
small_field (fields.Signed z) small = absurd small
small_field (fields.VolumeKind n) small = absurd small
small_field (fields.Server n) small = absurd small
small_field (fields.StoreStatus s) small = absurd small
small_field (fields.Opaque bytes) small = absurd small
small_field (fields.Fids fs) small = absurd small
small_field (fields.CallBacks cs) small = absurd small
small_field (fields.Statuses ss) small = absurd small
small_field (fields.Volumes vs) small = absurd small
small_field (fields.Entry e) small = absurd small

small_fields : (fs : List Field) → AllByRecursion IsSmall fs → length (fields_spelled fs) ≤ 84 * length fs
small_fields [] small = omega arith
small_fields (f ∷ fs) small =
    let one = small_field f small.0 in
    let rest = small_fields fs small.1 in
    let all = ap length (flat_map-cons field_spelled f fs) ∙ length-append (field_spelled f) (fields_spelled fs) in
    omega (arith, one, rest, all)

short_by : (ns : List ℕ) (n : ℕ) (fs : List Field) → length ns ≤ 8 → length fs ≤ 5 → AllByRecursion IsSmall fs → length (words ns ++ (word n ++ fields_spelled fs)) < 2 ^ 32
short_by ns n fs eight five small =
    let head = words_long ns in
    let code = word_long n in
    let all = length-append (words ns) (word n ++ fields_spelled fs) in
    let tail = length-append (word n) (fields_spelled fs) in
    let most = small_fields fs small in
    omega (arith, eight, five, head, code, all, tail, most)

-- ---- the reply

pub reply_short : (boot : ℕ) (head : Head) (expiry : ℕ) (reply : FsReply) → IsChanged reply → length (spelled (replied boot head (carried.Reply (tell.File (promised_in expiry reply))))) < 2 ^ 32
unfolding spelled
reply_short boot head expiry (replies.StoreData status sync) is = short_by (head_words (reply_head boot head)) (signed_word (pos 0)) (fields.FetchStatus status ∷ fields.VolSync sync ∷ []) (omega arith) (omega arith) (tt, (tt, tt))
reply_short boot head expiry (replies.StoreAcl status sync) is = short_by (head_words (reply_head boot head)) (signed_word (pos 0)) (fields.FetchStatus status ∷ fields.VolSync sync ∷ []) (omega arith) (omega arith) (tt, (tt, tt))
reply_short boot head expiry (replies.StoreStatus status sync) is = short_by (head_words (reply_head boot head)) (signed_word (pos 0)) (fields.FetchStatus status ∷ fields.VolSync sync ∷ []) (omega arith) (omega arith) (tt, (tt, tt))
reply_short boot head expiry (replies.RemoveFile directory sync) is = short_by (head_words (reply_head boot head)) (signed_word (pos 0)) (fields.FetchStatus directory ∷ fields.VolSync sync ∷ []) (omega arith) (omega arith) (tt, (tt, tt))
reply_short boot head expiry (replies.CreateFile fid status directory callback sync) is =
    short_by (head_words (reply_head boot head)) (signed_word (pos 0)) (fields.Fid fid ∷ fields.FetchStatus status ∷ fields.FetchStatus directory ∷ fields.CallBack (promise_until expiry) ∷ fields.VolSync sync ∷ []) (omega arith) (omega arith) (tt, (tt, (tt, (tt, (tt, tt)))))
reply_short boot head expiry (replies.Rename old new sync) is = short_by (head_words (reply_head boot head)) (signed_word (pos 0)) (fields.FetchStatus old ∷ fields.FetchStatus new ∷ fields.VolSync sync ∷ []) (omega arith) (omega arith) (tt, (tt, (tt, tt)))
reply_short boot head expiry (replies.Symlink fid status directory sync) is =
    short_by (head_words (reply_head boot head)) (signed_word (pos 0)) (fields.Fid fid ∷ fields.FetchStatus status ∷ fields.FetchStatus directory ∷ fields.VolSync sync ∷ []) (omega arith) (omega arith) (tt, (tt, (tt, (tt, tt))))
reply_short boot head expiry (replies.Link status directory sync) is = short_by (head_words (reply_head boot head)) (signed_word (pos 0)) (fields.FetchStatus status ∷ fields.FetchStatus directory ∷ fields.VolSync sync ∷ []) (omega arith) (omega arith) (tt, (tt, (tt, tt)))
reply_short boot head expiry (replies.MakeDir fid status directory callback sync) is =
    short_by (head_words (reply_head boot head)) (signed_word (pos 0)) (fields.Fid fid ∷ fields.FetchStatus status ∷ fields.FetchStatus directory ∷ fields.CallBack (promise_until expiry) ∷ fields.VolSync sync ∷ []) (omega arith) (omega arith) (tt, (tt, (tt, (tt, (tt, tt)))))
reply_short boot head expiry (replies.RemoveDir directory sync) is = short_by (head_words (reply_head boot head)) (signed_word (pos 0)) (fields.FetchStatus directory ∷ fields.VolSync sync ∷ []) (omega arith) (omega arith) (tt, (tt, tt))
reply_short boot head expiry (replies.FetchData contents status callback sync) is = absurd is
reply_short boot head expiry (replies.FetchAcl acl status sync) is = absurd is
reply_short boot head expiry (replies.FetchStatus status callback sync) is = absurd is
reply_short boot head expiry replies.GiveUpCallBacks is = absurd is
reply_short boot head expiry (replies.GetVolumeStatus id kind quota blocks name) is = absurd is
reply_short boot head expiry (replies.GetTime clock microseconds) is = absurd is
reply_short boot head expiry (replies.BulkStatus statuses callbacks sync) is = absurd is
reply_short boot head expiry replies.CallBack is = absurd is
reply_short boot head expiry replies.InitCallBackState is = absurd is
reply_short boot head expiry replies.Probe is = absurd is
