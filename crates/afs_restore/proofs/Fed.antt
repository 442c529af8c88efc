-- What a restorer was fed, and how far it was read.
use Rattle.std.proofs.Common.{◌≡◌, ℕ, zero, suc, ◌-◌, ◌≤◌, ◌<◌, List, [], ◌∷◌, ◌++◌, length, take, drop, Option, Some, None, refl, sym, ap, subst, ◌∙◌, append_assoc, arith}
use Rattle.afs_num.specs.declared.vnodes.Vnode as image
use Rattle.afs_xdr.specs.Words.{word_at, IsBytes}
use Rattle.spec_dumps.specs.Dumps.{Dump}
use Rattle.spec_dumps.specs.Feeding.{Stage, at_headers, at_count, at_pair, at_image, at_acl, at_contents, at_magic, at_end, stepped, IsAtEnd}
use Rattle.spec_dumps.specs.Fields.{FieldTaken, took, cut_at, bad_at, ◌>>=◌}
use Rattle.spec_dumps.specs.Laws.{IsReading}
use Rattle.spec_dumps.specs.Restores.{fed, refused_at}
use Rattle.spec_dumps.specs.Streams.{dump_at, dump_header_field, dump_ended}
use Rattle.spec_dumps.proofs.Feeding.{readers_read_on}
use Rattle.spec_dumps.proofs.Streams.{refused_stays}
use Rattle.afs_restore.specs.Parts.{dump_in, AreSame, IsAtFirst, IsNoted, Keeps}
use Rattle.afs_restore.specs.ReadOn.{bytes_before, bytes_read, left_of, IsFed, IsFedSoFar, Reaches, ReadsOn, ReaderStands, Waits}
use Rattle.afs_restore.specs.Reading.{headers_told, words_in}
use Rattle.afs_restore.specs.Steps.{past_pairs, stage_of, stepped_past, IsStep}
use Rattle.afs_restore.specs.declared.headers.Headers as read
use Rattle.afs_restore.specs.declared.parts.Noted.{Noted}
use Rattle.afs_restore.specs.declared.parts.Parts.{Parts}
use Rattle.afs_restore.specs.declared.reading.Read.{Read}
use Rattle.afs_restore.specs.declared.reading.Read.TheVariants as reads
use Rattle.afs_restore.specs.declared.steps.Step.{Step}
use Rattle.afs_restore.specs.declared.steps.Step.TheVariants as steps
use Rattle.afs_restore.proofs.Fronts.{past_is}
use Rattle.afs_restore.proofs.Lists.{no_bytes, still_first}

-- ---- what came so far

pub fed_cut : (bytes left : List ℕ) → dump_at bytes ≡ cut_at left → fed bytes ≡ None
unfolding fed
fed_cut bytes left e = ap (refused_at bytes) e

pub fed_bad : (bytes left : List ℕ) → dump_at bytes ≡ bad_at left → fed bytes ≡ Some (length bytes - length left)
unfolding fed
fed_bad bytes left e = ap (refused_at bytes) e

fed_took : (bytes : List ℕ) (d : Dump) (rest : List ℕ) → dump_at bytes ≡ took d rest → fed bytes ≡ None
unfolding fed
fed_took bytes d rest e = ap (refused_at bytes) e

-- ---- at first

nothing_cut : stepped at_headers [] ≡ cut_at []
unfolding dump_header_field word_at
nothing_cut = refl

pub none_read : (p : Parts) → bytes_read steps.Headers p [] ≡ []
unfolding bytes_read stage_of bytes_before
none_read p = refl

first_stage : (p : Parts) → stage_of steps.Headers p ≡ at_headers
unfolding stage_of
first_stage p = refl

pub at_first : (p : Parts) → IsAtFirst p → IsFedSoFar steps.Headers p [] 0 0
at_first p first =
    let none = none_read p in
    record {
      stands = record {
        may = first;
        reading = subst (λ (s : Stage). IsReading (bytes_read steps.Headers p []) s []) (sym (first_stage p)) (subst (λ (t : List ℕ). IsReading t at_headers []) (sym none) readers_read_on.begin);
      };
      fits = subst (λ (t : List ℕ). IsBytes t) (sym none) no_bytes;
      many = ap (λ (t : List ℕ). length t) (sym none);
      waits = ([], (ap dump_at none ∙ readers_read_on.cut [] [] [] at_headers readers_read_on.begin (λ end. end) nothing_cut, refl));
    }

-- ---- a piece more came

pub bytes_more : (step : Step) (p : Parts) (pending piece : List ℕ) → bytes_read step p (pending ++ piece) ≡ bytes_read step p pending ++ piece
unfolding bytes_read
bytes_more step p pending piece = sym (append_assoc (bytes_before (stage_of step p)) pending piece)

pub stands_more : (step : Step) (p : Parts) (pending piece : List ℕ) → ReaderStands step p pending → ReaderStands step p (pending ++ piece)
stands_more step p pending piece s = record {
  may = s.may;
  reading = subst (λ (t : List ℕ). IsReading t (stage_of step p) (pending ++ piece)) (sym (bytes_more step p pending piece)) (readers_read_on.more (bytes_read step p pending) piece pending (stage_of step p) s.reading);
}

-- ---- the same was read

stage_by : Step → read.Headers → List (ℕ × ℕ) → List image.Vnode → image.Vnode → Stage
stage_by steps.Headers h live is x = at_headers
stage_by steps.Count h live is x = at_count (headers_told h)
stage_by (steps.Pair more least) h live is x = at_pair (headers_told h) more least live
stage_by (steps.Image place) h live is x = at_image (record { headers = headers_told h; live = live; left = drop place live; images = is })
stage_by (steps.Acl place) h live is x = at_acl (record { headers = headers_told h; live = live; left = drop place live; images = is }) (words_in x)
stage_by (steps.Contents place) h live is x = at_contents (record { headers = headers_told h; live = live; left = drop place live; images = is }) (words_in x) x.acl
stage_by steps.Magic h live is x = at_magic (record { headers = headers_told h; live = live; images = is })
stage_by steps.End h live is x = at_end (record { headers = headers_told h; live = live; images = is })

by_parts : (step : Step) (p : Parts) → stage_of step p ≡ stage_by step p.headers p.live.items p.images.items p.next
unfolding stage_of stage_by
by_parts steps.Headers p = refl
by_parts steps.Count p = refl
by_parts (steps.Pair more least) p = refl
by_parts (steps.Image place) p = refl
by_parts (steps.Acl place) p = refl
by_parts (steps.Contents place) p = refl
by_parts steps.Magic p = refl
by_parts steps.End p = refl

same_stage : (step : Step) (p q : Parts) → AreSame p q → stage_of step q ≡ stage_of step p
same_stage step p q same =
    by_parts step q
    ∙ (ap (λ (h : read.Headers). stage_by step h q.live.items q.images.items q.next) same.headers
    ∙ (ap (λ (live : List (ℕ × ℕ)). stage_by step p.headers live q.images.items q.next) same.live
    ∙ (ap (λ (is : List image.Vnode). stage_by step p.headers p.live.items is q.next) same.images
    ∙ (ap (λ (x : image.Vnode). stage_by step p.headers p.live.items p.images.items x) same.next ∙ sym (by_parts step p)))))

pub same_read : (step : Step) (p q : Parts) (pending : List ℕ) → AreSame p q → bytes_read step q pending ≡ bytes_read step p pending
unfolding bytes_read
same_read step p q pending same = ap (λ (s : Stage). bytes_before s ++ pending) (same_stage step p q same)

same_first : (p q : Parts) → AreSame p q → IsAtFirst p → IsAtFirst q
same_first p q same first = record { live = same.live ∙ first.live; images = same.images ∙ first.images }

same_place : (place : ℕ) (p q : Parts) → AreSame p q → place ≤ length p.live.items → place ≤ length q.live.items
same_place place p q same le = subst (λ (live : List (ℕ × ℕ)). place ≤ length live) (sym same.live) le

same_may : (step : Step) (p q : Parts) → AreSame p q → IsStep step p → IsStep step q
same_may steps.Headers p q same may = same_first p q same may
same_may steps.Count p q same may = same_first p q same may
same_may (steps.Pair more least) p q same may = (may.0, same.images ∙ may.1)
same_may (steps.Image place) p q same may = same_place place p q same may
same_may (steps.Acl place) p q same may = same_place place p q same may
same_may (steps.Contents place) p q same may = same_place place p q same may
same_may steps.Magic p q same may = tt
same_may steps.End p q same may = tt

same_stands : (step : Step) (p q : Parts) (pending : List ℕ) → AreSame p q → ReaderStands step p pending → ReaderStands step q pending
same_stands step p q pending same s = record {
  may = same_may step p q same s.may;
  reading = subst (λ (stage : Stage). IsReading (bytes_read step q pending) stage pending) (sym (same_stage step p q same)) (subst (λ (t : List ℕ). IsReading t (stage_of step p) pending) (sym (same_read step p q pending same)) s.reading);
}

pub same_so_far : (step : Step) (p q : Parts) (pending : List ℕ) (count short : ℕ) → AreSame p q → IsFedSoFar step p pending count short → IsFedSoFar step q pending count short
same_so_far step p q pending count short same h =
    let is : bytes_read step p pending ≡ bytes_read step q pending = sym (same_read step p q pending same) in
    record {
      stands = same_stands step p q pending same h.stands;
      fits = subst (λ (t : List ℕ). IsBytes t) is h.fits;
      many = h.many ∙ ap (λ (t : List ℕ). length t) is;
      waits = subst (λ (t : List ℕ). Waits step t pending short) is h.waits;
    }

-- what was noted comes back
pub gone_back : (p q r : Parts) (n : Noted) → IsNoted p n → Keeps p q → r.headers ≡ n.headers → r.live.items ≡ take n.listed q.live.items → r.images.items ≡ take n.imaged q.images.items → r.next ≡ n.next → AreSame p r
gone_back p q r n noted kept heads live images next = record {
  headers = heads ∙ noted.headers;
  live = live ∙ (ap (λ (k : ℕ). take k q.live.items) noted.listed ∙ kept.live);
  images = images ∙ (ap (λ (k : ℕ). take k q.images.items) noted.imaged ∙ kept.images);
  next = next ∙ noted.next;
}

-- ---- a step

past_reading : (bytes rest : List ℕ) (stage : Stage) → IsReading bytes stage rest → IsReading bytes (past_pairs stage) rest
past_reading bytes rest at_headers h = h
past_reading bytes rest (at_count heads) h = h
past_reading bytes rest (at_pair heads zero least ps) h = readers_read_on.step bytes rest rest (at_pair heads zero least ps) (past_pairs (at_pair heads zero least ps)) h refl
past_reading bytes rest (at_pair heads (suc n) least ps) h = h
past_reading bytes rest (at_image b) h = h
past_reading bytes rest (at_acl b w) h = h
past_reading bytes rest (at_contents b w acl) h = h
past_reading bytes rest (at_magic d) h = h
past_reading bytes rest (at_end d) h = h

pub reads_next : (bytes left rest : List ℕ) (stage next : Stage) → stepped_past stage left ≡ took next rest → IsReading bytes stage left → IsReading bytes next rest
reads_next bytes left rest stage next e h =
    let past = past_is stage next left rest e in
    subst (λ (s : Stage). IsReading bytes s rest) past.is (past_reading bytes rest past.middle (readers_read_on.step bytes left rest stage past.middle h past.taken))

cut_by : (o : FieldTaken Stage) (left : List ℕ) → (o >>= λ s. took (past_pairs s.0) s.1) ≡ cut_at left → o ≡ cut_at left
cut_by (took s rest) left e = absurd cc
cut_by (cut_at rest) left e = let z : rest ≡ left = cc in ap (λ (r : List ℕ). cut_at r) z
cut_by (bad_at rest) left e = absurd cc

bad_by : (o : FieldTaken Stage) (left : List ℕ) → (o >>= λ s. took (past_pairs s.0) s.1) ≡ bad_at left → o ≡ bad_at left
bad_by (took s rest) left e = absurd cc
bad_by (cut_at rest) left e = absurd cc
bad_by (bad_at rest) left e = let z : rest ≡ left = cc in ap (λ (r : List ℕ). bad_at r) z

before_end : (step : Step) (p : Parts) → (step ≡ steps.End → ⊥) → IsAtEnd (stage_of step p) → ⊥
unfolding stage_of
before_end steps.Headers p not end = end
before_end steps.Count p not end = end
before_end (steps.Pair more least) p not end = end
before_end (steps.Image place) p not end = end
before_end (steps.Acl place) p not end = end
before_end (steps.Contents place) p not end = end
before_end steps.Magic p not end = end
before_end steps.End p not end = not refl

waits_cut : (step : Step) (bytes pending left : List ℕ) (short : ℕ) → (step ≡ steps.End → ⊥) → dump_at bytes ≡ cut_at left → short ≡ length left → Waits step bytes pending short
waits_cut steps.Headers bytes pending left short not e is = (left, (e, is))
waits_cut steps.Count bytes pending left short not e is = (left, (e, is))
waits_cut (steps.Pair more least) bytes pending left short not e is = (left, (e, is))
waits_cut (steps.Image place) bytes pending left short not e is = (left, (e, is))
waits_cut (steps.Acl place) bytes pending left short not e is = (left, (e, is))
waits_cut (steps.Contents place) bytes pending left short not e is = (left, (e, is))
waits_cut steps.Magic bytes pending left short not e is = (left, (e, is))
waits_cut steps.End bytes pending left short not e is = absurd (not refl)

pub waits_here : (step : Step) (p : Parts) (bytes left pending rest : List ℕ) (short : ℕ) → (step ≡ steps.End → ⊥) → stepped_past (stage_of step p) left ≡ cut_at rest → IsReading bytes (stage_of step p) left → short ≡ length rest → Waits step bytes pending short
unfolding stepped_past
waits_here step p bytes left pending rest short not e h is =
    waits_cut step bytes pending rest short not (readers_read_on.cut bytes left rest (stage_of step p) h (before_end step p not) (cut_by (stepped (stage_of step p) left) rest e)) is

pub refused_here : (step : Step) (p : Parts) (bytes left rest : List ℕ) (short : ℕ) → stepped_past (stage_of step p) left ≡ bad_at rest → IsReading bytes (stage_of step p) left → short ≡ length rest → fed bytes ≡ Some (length bytes - short)
unfolding stepped_past
refused_here step p bytes left rest short e h is =
    fed_bad bytes rest (readers_read_on.bad bytes left rest (stage_of step p) h (bad_by (stepped (stage_of step p) left) rest e)) ∙ ap (λ (n : ℕ). Some (length bytes - n)) (sym is)

-- where the reading stands, as the bytes that are left
pub reaches : (from step : Step) (before after : Parts) (bytes rest : List ℕ) (left : ℕ) → left ≡ length rest → left ≤ length bytes → rest ≡ drop (length bytes - left) bytes → IsStep step after → bytes_read step after rest ≡ bytes_read from before bytes →
    IsReading (bytes_read from before bytes) (stage_of step after) rest → Reaches from before bytes step after left
reaches from step before after bytes rest left many within place may same reading = record {
  within = within;
  same = ap (bytes_read step after) (sym place) ∙ same;
  stands = record {
    may = may;
    reading = subst (λ (t : List ℕ). IsReading (bytes_read step after t) (stage_of step after) t) place (subst (λ (t : List ℕ). IsReading t (stage_of step after) rest) (sym same) reading);
  };
}

-- what is left lies within what was read
pub left_within : (from : Step) (before after : Parts) (bytes : List ℕ) (read : Read) → ReadsOn from before bytes after read → left_of read ≤ length bytes
left_within from before after bytes (reads.Waits step left short) on = on.0.within
left_within from before after bytes (reads.Refused step left short) on = on.0.within

-- ---- at the end

ended_more : (d : Dump) (pending : List ℕ) → 1 ≤ length pending → dump_ended d pending ≡ bad_at pending
ended_more d [] some = absurd (omega (arith, some))
ended_more d (b ∷ bytes) some = refl

pub at_the_end : (p : Parts) (bytes left : List ℕ) → IsReading bytes (stage_of steps.End p) left → dump_at bytes ≡ dump_ended (dump_in p) left
unfolding stage_of
at_the_end p bytes left h = readers_read_on.end bytes left (dump_in p) h

pub end_over : (p : Parts) (bytes left : List ℕ) (short : ℕ) → short ≡ length left → 0 < short → IsReading bytes (stage_of steps.End p) left → fed bytes ≡ Some (length bytes - short)
end_over p bytes left short is some h =
    fed_bad bytes left (at_the_end p bytes left h ∙ ended_more (dump_in p) left (omega (arith, is, some))) ∙ ap (λ (n : ℕ). Some (length bytes - n)) (sym is)

-- ---- what isn't refused

waits_going : (step : Step) (bytes pending : List ℕ) (short : ℕ) (p : Parts) → IsReading bytes (stage_of step p) pending → Waits step bytes pending short → fed bytes ≡ None
waits_going steps.Headers bytes pending short p h w = fed_cut bytes w.0 w.1.0
waits_going steps.Count bytes pending short p h w = fed_cut bytes w.0 w.1.0
waits_going (steps.Pair more least) bytes pending short p h w = fed_cut bytes w.0 w.1.0
waits_going (steps.Image place) bytes pending short p h w = fed_cut bytes w.0 w.1.0
waits_going (steps.Acl place) bytes pending short p h w = fed_cut bytes w.0 w.1.0
waits_going (steps.Contents place) bytes pending short p h w = fed_cut bytes w.0 w.1.0
waits_going steps.Magic bytes pending short p h w = fed_cut bytes w.0 w.1.0
waits_going steps.End bytes pending short p h w = fed_took bytes (dump_in p) [] (at_the_end p bytes pending h ∙ ap (dump_ended (dump_in p)) w)

pub so_far_going : (step : Step) (p : Parts) (pending : List ℕ) (count short : ℕ) → IsFedSoFar step p pending count short → fed (bytes_read step p pending) ≡ None
so_far_going step p pending count short h = waits_going step (bytes_read step p pending) pending short p h.stands.reading h.waits

-- what was refused before stays so
pub refused_before : (step : Step) (p : Parts) (pending piece : List ℕ) (count short : ℕ) (o : Option ℕ) (offset : ℕ) → o ≡ Some offset → IsFed step p pending count short o →
    (fed (bytes_read step p pending ++ piece) ≡ Some offset) × (fed (bytes_read step p pending) ≡ Some offset)
refused_before step p pending piece count short o offset is h =
    let was : fed (bytes_read step p pending) ≡ Some offset = subst (λ (z : Option ℕ). IsFed step p pending count short z) is h in
    (refused_stays (bytes_read step p pending) piece offset was, was)

-- ---- what is kept

pub keeps_then : (p q r : Parts) → Keeps p q → Keeps q r → Keeps p r
keeps_then p q r a b = record { live = still_first p.live.items q.live.items r.live.items a.live b.live; images = still_first p.images.items q.images.items r.images.items a.images b.images }
