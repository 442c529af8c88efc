-- What the program counts of the entries that it keeps is what is counted of the history that they tell.
use Rattle.std.specs.Prelude.{◌≡◌, ◌≤◌, ◌<◌, ◌^◌, ℕ, ◌+◌, List, [], ◌∷◌, ◌++◌, length, map, take, drop, Bool, true, false, Option, Some, None, SomeIff}
use Rattle.std.proofs.Common.{refl, ap, sym, subst, ◌∙◌, arith, length-drop}
use Rattle.std.proofs.lemmas.List.{drop_more, length-take-le}
use Rattle.std.proofs.Math.ListN.{get_or}
use Rattle.afs_num.specs.declared.types.Parcel.{Parcel}
use Rattle.afs_num.specs.declared.histories.Actor.{Actor}
use Rattle.afs_num.specs.declared.histories.Actor.TheVariants as actors
use Rattle.spec_history.specs.declared.lines.Entry as kept
use Rattle.spec_history.specs.declared.lines.Line.{Line}
use Rattle.spec_model.specs.Heads.{is_zero}
use Rattle.spec_model.proofs.Texts.{parcels_length}
use Rattle.spec_rows.specs.Runs.{Entry}
use Rattle.afs_text.specs.Telling.{messages_of, sent_by, entries_as_told, AreRead}
use Rattle.afs_text.proofs.Sent.{read_take}
use Rattle.afs_summary.specs.Counting.{a_change, an_answer, counts_kept, counts_of, item, neither, nothing_yet, with_answered, entry_counted, with_history, with_item, with_kept, line_counted, with_lines, with_step, AreCounted, EntriesAreCounted, Fits, Gives, Item, NoneIsVoid}
use Rattle.afs_summary.specs.declared.counts.Counts.{Counts}

-- further entries are counted behind the others
pub kept_goes_on : (c : Counts) (es more : List kept.Entry) → with_kept c (es ++ more) ≡ with_kept (with_kept c es) more
kept_goes_on c [] more = refl
kept_goes_on c (e ∷ es) more = kept_goes_on (entry_counted c e.actor e.lines e.sent) es more

-- ---- no number falls

record IsBelow (a b : Counts) : Type 0 where
  entries : a.entries ≤ b.entries
  sent : a.sent ≤ b.sent
  changes : a.changes ≤ b.changes
  zero : a.zero ≤ b.zero
  other : a.other ≤ b.other

below : (a b : Counts) → IsBelow a b → (Fits a → ⊥) → Fits b → ⊥
below a b is too_long fits = too_long (record {
  entries = omega (arith, is.entries, fits.entries);
  sent = omega (arith, is.sent, fits.sent);
  changes = omega (arith, is.changes, fits.changes);
  zero = omega (arith, is.zero, fits.zero);
  other = omega (arith, is.other, fits.other);
})

same : (c : Counts) → IsBelow c c
same c = record { entries = omega arith; sent = omega arith; changes = omega arith; zero = omega arith; other = omega arith }

then_below : (a b c : Counts) → IsBelow a b → IsBelow b c → IsBelow a c
then_below a b c p q = record {
  entries = omega (arith, p.entries, q.entries);
  sent = omega (arith, p.sent, q.sent);
  changes = omega (arith, p.changes, q.changes);
  zero = omega (arith, p.zero, q.zero);
  other = omega (arith, p.other, q.other);
}

answered_grows : (is : Bool) (c : Counts) → IsBelow c (with_answered is c)
answered_grows true c = record { entries = omega arith; sent = omega arith; changes = omega arith; zero = omega arith; other = omega arith }
answered_grows false c = record { entries = omega arith; sent = omega arith; changes = omega arith; zero = omega arith; other = omega arith }

item_grows : (c : Counts) (i : Item) → IsBelow c (with_item c i)
item_grows c a_change = record { entries = omega arith; sent = omega arith; changes = omega arith; zero = omega arith; other = omega arith }
item_grows c (an_answer code) = answered_grows (is_zero code) c
item_grows c neither = same c

lines_grow : (c : Counts) (ls : List Line) → IsBelow c (with_lines c ls)
lines_grow c [] = same c
lines_grow c (l ∷ ls) = then_below c (line_counted c l) (with_lines c (l ∷ ls)) (item_grows c (item l)) (lines_grow (line_counted c l) ls)

step_grows : (c : Counts) (ls : List Line) (sent : ℕ) → IsBelow c (with_step c ls sent)
step_grows c ls sent =
    let begun : Counts = record c { entries = c.entries + 1; sent = c.sent + sent } in
    then_below c begun (with_step c ls sent) (record { entries = omega arith; sent = omega arith; changes = omega arith; zero = omega arith; other = omega arith }) (lines_grow begun ls)

entry_grows : (c : Counts) (actor : Actor) (ls : List Line) (sent : ℕ) → IsBelow c (entry_counted c actor ls sent)
entry_grows c actors.Nobody ls sent = same c
entry_grows c actors.Clock ls sent = step_grows c ls sent
entry_grows c (actors.Node n) ls sent = step_grows c ls sent

entries_grow : (c : Counts) (es : List kept.Entry) → IsBelow c (with_kept c es)
entries_grow c [] = same c
entries_grow c (e ∷ es) =
    then_below c (entry_counted c e.actor e.lines e.sent) (with_kept c (e ∷ es)) (entry_grows c e.actor e.lines e.sent) (entries_grow (entry_counted c e.actor e.lines e.sent) es)

-- what is too long stays so
pub lines_too_long : (c : Counts) (ls : List Line) → (Fits c → ⊥) → Fits (with_lines c ls) → ⊥
lines_too_long c ls = below c (with_lines c ls) (lines_grow c ls)

pub entries_too_long : (c : Counts) (es : List kept.Entry) → (Fits c → ⊥) → Fits (with_kept c es) → ⊥
entries_too_long c es = below c (with_kept c es) (entries_grow c es)

-- ---- where there is no room, counting stops

stopped : (whole : Counts) (out : Option Counts) → (Fits whole → ⊥) → out ≡ None → Gives whole out
stopped whole out too_long none = subst (λ (o : Option Counts). Gives whole o) (sym none) too_long

no_room : (c : Counts) (r : Option Counts) → Gives c r → r ≡ None → Fits c → ⊥
no_room c r gives none = subst (λ (o : Option Counts). Gives c o) none gives

-- at the line of this place
pub line_stops : (c whole : Counts) (ls : List Line) (i : ℕ) (l : Line) (r out : Option Counts) → i < length ls → l ≡ get_or ls i l → with_lines c (drop i ls) ≡ whole → Gives (line_counted c l) r → r ≡ None → out ≡ None → Gives whole out
line_stops c whole ls i l r out within is all gives none out_none =
    let here : with_lines (line_counted c l) (drop (i + 1) ls) ≡ whole = ap (λ (x : Line). with_lines (line_counted c x) (drop (i + 1) ls)) is ∙ (sym (ap (with_lines c) (drop_more ls i l within)) ∙ all) in
    stopped whole out (subst (λ (x : Counts). Fits x → ⊥) here (lines_too_long (line_counted c l) (drop (i + 1) ls) (no_room (line_counted c l) r gives none))) out_none

-- at the entry of this place
pub entry_stops : (c whole : Counts) (es : List kept.Entry) (i : ℕ) (e : kept.Entry) (r out : Option Counts) → i < length es → e ≡ get_or es i e → with_kept c (drop i es) ≡ whole → Gives (entry_counted c e.actor e.lines e.sent) r → r ≡ None → out ≡ None → Gives whole out
entry_stops c whole es i e r out within is all gives none out_none =
    let here : with_kept (entry_counted c e.actor e.lines e.sent) (drop (i + 1) es) ≡ whole = ap (λ (x : kept.Entry). with_kept (entry_counted c x.actor x.lines x.sent) (drop (i + 1) es)) is ∙ (sym (ap (with_kept c) (drop_more es i e within)) ∙ all) in
    stopped whole out (subst (λ (x : Counts). Fits x → ⊥) here (entries_too_long (entry_counted c e.actor e.lines e.sent) (drop (i + 1) es) (no_room (entry_counted c e.actor e.lines e.sent) r gives none))) out_none

-- at the numbers of the step itself
pub step_stops : (c : Counts) (ls : List Line) (sent : ℕ) (out : Option Counts) → (Fits (record c { entries = c.entries + 1; sent = c.sent + sent }) → ⊥) → out ≡ None → Gives (with_step c ls sent) out
step_stops c ls sent out too_long none = stopped (with_step c ls sent) out (lines_too_long (record c { entries = c.entries + 1; sent = c.sent + sent }) ls too_long) none

pub too_many : (r : Option ℕ) (n : ℕ) → SomeIff r (n < 2 ^ 64) n → r ≡ None → n < 2 ^ 64 → ⊥
too_many None n iff none fits = iff fits
too_many (Some x) n iff none fits = absurd cc

-- ---- further entries

pub counts_on : (so_far : Option Counts) (c : Counts) (later : Option Counts) (before more : List kept.Entry) → so_far ≡ Some c → AreCounted so_far before → Gives (with_kept c more) later → AreCounted later (before ++ more)
counts_on so_far c later before more some counted gives =
    subst (λ (x : Counts). Gives x later) (ap (λ (y : Counts). with_kept y more) (subst (λ (o : Option Counts). AreCounted o before) some counted) ∙ sym (kept_goes_on nothing_yet before more)) gives

pub counts_no_more : (so_far : Option Counts) (before more : List kept.Entry) → so_far ≡ None → AreCounted so_far before → AreCounted None (before ++ more)
counts_no_more so_far before more none counted =
    let too_long : Fits (counts_kept before) → ⊥ = subst (λ (o : Option Counts). AreCounted o before) none counted in
    subst (λ (x : Counts). Fits x → ⊥) (sym (kept_goes_on nothing_yet before more)) (entries_too_long (counts_kept before) more too_long)

told_from : (c : Counts) (ps : List Parcel) (es : List kept.Entry) → AreRead ps → sent_by es ≤ length ps → with_history c (entries_as_told ps es) ≡ with_kept c es
told_from c ps [] read enough = refl
told_from c ps (e ∷ es) read enough =
    let within : e.sent ≤ length ps = omega (arith, enough) in
    let parts = read_take e.sent ps read in
    let size : length (messages_of (take e.sent ps)) ≡ e.sent = sym (parcels_length (take e.sent ps) (messages_of (take e.sent ps)) parts.0) ∙ length-take-le e.sent ps within in
    ap (λ (n : ℕ). with_history (entry_counted c e.actor e.lines n) (entries_as_told (drop e.sent ps) es)) size
    ∙ told_from (entry_counted c e.actor e.lines e.sent) (drop e.sent ps) es parts.1 (omega (arith, enough, length-drop e.sent ps))

pub told_counts : (ps : List Parcel) (es : List kept.Entry) → AreRead ps → sent_by es ≡ length ps → counts_of (entries_as_told ps es) ≡ counts_kept es
told_counts ps es read all = told_from nothing_yet ps es read (omega (arith, all))

-- no count asks for the volumes that an entry brings
bare_from : (bare : Entry → Entry) → ((e : Entry) → record { actor = (bare e).actor; lines = (bare e).lines; sent = (bare e).sent; volumes = e.volumes } ≡ e) → (c : Counts) (h : List Entry) → with_history c (map bare h) ≡ with_history c h
bare_from bare same c [] = refl
bare_from bare same c (e ∷ es) =
    ap (λ (x : Entry). with_history (entry_counted c x.actor x.lines (length x.sent)) (map bare es)) (same e) ∙ bare_from bare same (entry_counted c e.actor e.lines (length e.sent)) es

pub bare_counts : (bare : Entry → Entry) → ((e : Entry) → record { actor = (bare e).actor; lines = (bare e).lines; sent = (bare e).sent; volumes = e.volumes } ≡ e) → (h told : List Entry) → map bare h ≡ told → counts_of told ≡ counts_of h
bare_counts bare same h told is = sym (ap counts_of is) ∙ bare_from bare same nothing_yet h

-- ---- each entry counts where none is void

answered_keeps : (is : Bool) (c : Counts) → (with_answered is c).entries ≡ c.entries
answered_keeps true c = refl
answered_keeps false c = refl

item_keeps : (c : Counts) (i : Item) → (with_item c i).entries ≡ c.entries
item_keeps c a_change = refl
item_keeps c (an_answer code) = answered_keeps (is_zero code) c
item_keeps c neither = refl

lines_keep : (c : Counts) (ls : List Line) → (with_lines c ls).entries ≡ c.entries
lines_keep c [] = refl
lines_keep c (l ∷ ls) = lines_keep (line_counted c l) ls ∙ item_keeps c (item l)

one_more : (c : Counts) (actor : Actor) (ls : List Line) (sent : ℕ) → (actor ≡ actors.Nobody → ⊥) → (entry_counted c actor ls sent).entries ≡ c.entries + 1
one_more c actors.Nobody ls sent some = absurd (some refl)
one_more c actors.Clock ls sent some = lines_keep (record c { entries = c.entries + 1; sent = c.sent + sent }) ls
one_more c (actors.Node n) ls sent some = lines_keep (record c { entries = c.entries + 1; sent = c.sent + sent }) ls

all_count : (c : Counts) (h : List Entry) → NoneIsVoid h → (with_history c h).entries ≡ c.entries + length h
all_count c [] none = omega arith
all_count c (e ∷ es) none =
    omega (arith, all_count (entry_counted c e.actor e.lines (length e.sent)) es none.1, one_more c e.actor e.lines (length e.sent) none.0)

pub entries_counted : EntriesAreCounted
entries_counted history none =
    let h : (counts_of history).entries ≡ 0 + length history = all_count nothing_yet history none in
    omega (arith, h)
