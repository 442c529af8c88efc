-- What the location database tells in its steps, as walks over the runs of a cell use it.
use Rattle.law_legal.proofs.ServerBoots.{is_running}
use Rattle.std.proofs.Common.{◌≡◌, ◌+◌, ℕ, Bool, true, false, cond, List, [], ◌∷◌, ◌++◌, Option, Some, None, refl, sym, ap, subst, nat_eq}
use Rattle.std.specs.Prelude.{◌&&◌}
use Rattle.afs_num.specs.Nodes.{same_node}
use Rattle.afs_num.specs.declared.histories.Actor.TheVariants as actors
use Rattle.afs_num.specs.declared.messages.Message.{Message}
use Rattle.afs_num.specs.declared.messages.Received.TheVariants.{Whole}
use Rattle.afs_num.specs.declared.types.Node.{Node}
use Rattle.afs_num.specs.declared.types.Node.TheVariants.{Loc, Server}
use Rattle.spec_history.specs.declared.lines.Line.{Line}
use Rattle.spec_history.specs.declared.lines.Line.TheVariants as lines
use Rattle.spec_history.specs.declared.scripts.Script.{Script}
use Rattle.spec_ideal.specs.Tables.{get, Table}
use Rattle.spec_records.specs.Entries.{site_of}
use Rattle.spec_records.specs.LocEffects.{deed_told, located_lines, lock_before, lock_told, same_site, site_before}
use Rattle.spec_records.specs.LocRecords.{leaves, removes, sets, EntryDeed, Listed, Lock}
use Rattle.law_legal.specs.Legal.{IsInPlace}
use Rattle.law_legal.specs.Parts.{EachLine}
use Rattle.law_legal.specs.Past.{given_message, has_given}
use Rattle.law_legal.proofs.OwedPasses.{all_lines}
use Rattle.law_legal.proofs.BaseLaws.{both, same_node-true}
use Rattle.spec_rows.specs.Hosts.{begun_from}
use Rattle.spec_rows.specs.LocRow.{drops, loc_decides, refuses, repeats, saves, shows, tells_boot, LocDecision, LocState}
use Rattle.spec_rows.specs.LocSteps.{loc_begun_after, loc_kind}
use Rattle.spec_rows.specs.Runs.{at_rest, in_boot, in_step, Entry, Fall}

-- ---- its lines

-- a line that the location database tells
abbrev pub is_of_loc : Line → Bool
is_of_loc (lines.Given place) = true
is_of_loc (lines.Crash n) = same_node n Loc
is_of_loc (lines.Fault n) = same_node n Loc
is_of_loc (lines.Restart n boot) = same_node n Loc
is_of_loc (lines.Full n) = same_node n Loc
is_of_loc (lines.Stop n calls pick) = same_node n Loc
is_of_loc (lines.Fail n call) = same_node n Loc
is_of_loc (lines.Locked v stamp operation) = true
is_of_loc (lines.Unlocked v) = true
is_of_loc (lines.Recovered v) = true
is_of_loc (lines.Located v server) = true
is_of_loc l = false

-- of those the lines that it tells of what it does: no message is given in them, and its disk isn't set
abbrev pub is_told : Line → Bool
is_told (lines.Given place) = false
is_told (lines.Stop n calls pick) = false
is_told (lines.Fail n call) = false
is_told l = is_of_loc l

pub loc_node : (n : Node) → same_node n Loc ≡ true → n ≡ Loc
loc_node n h = same_node-true n Loc h

pub all_of_loc : (p : Line → Bool) → ((l : Line) → is_of_loc l ≡ true → p l ≡ true) → (ls : List Line) → all_lines is_of_loc ls ≡ true → all_lines p ls ≡ true
all_of_loc p w [] h = refl
all_of_loc p w (l ∷ ls) h = let q = both (is_of_loc l) (all_lines is_of_loc ls) h in rw (w l q.0, all_of_loc p w ls q.1) refl

-- it is given no message
pub told_gives : (ls : List Line) (sent : List Message) → all_lines is_told ls ≡ true → given_message ls sent ≡ None
told_gives [] sent h = refl
told_gives (lines.Given place ∷ ls) sent h = absurd cc
told_gives (l ∷ ls) sent h = told_gives ls sent (both (is_told l) (all_lines is_told ls) h).1

-- nor tells that it is
pub told_none : (ls : List Line) → all_lines is_told ls ≡ true → has_given ls ≡ false
told_none [] h = refl
told_none (lines.Given place ∷ ls) h = absurd cc
told_none (l ∷ ls) h = told_none ls (both (is_told l) (all_lines is_told ls) h).1

told_of : (l : Line) → is_told l ≡ true → is_of_loc l ≡ true
told_of (lines.Given place) h = absurd cc
told_of (lines.Stop n calls pick) h = absurd cc
told_of (lines.Fail n call) h = absurd cc
told_of l h = h

pub told_are : (ls : List Line) → all_lines is_told ls ≡ true → all_lines is_of_loc ls ≡ true
told_are [] h = refl
told_are (l ∷ ls) h = let q = both (is_told l) (all_lines is_told ls) h in rw (told_of l q.0, told_are ls q.1) refl

pub both_told : (a b : List Line) → all_lines is_told a ≡ true → all_lines is_told b ≡ true → all_lines is_told (a ++ b) ≡ true
both_told [] b h k = k
both_told (l ∷ a) b h k = let q = both (is_told l) (all_lines is_told a) h in rw (q.0, both_told a b q.1 k) refl

-- such a line stands in an entry of it
told_place : (s : Script) (l : Line) (past : List Entry) (own next : List Line) → is_told l ≡ true → IsInPlace s (actors.Node Loc) l past own next
told_place s (lines.Crash n) past own next h = ap actors.Node (sym (loc_node n h))
told_place s (lines.Fault n) past own next h = subst (λ (q : Node). IsInPlace s (actors.Node Loc) (lines.Fault q) past own next) (sym (loc_node n h)) refl
told_place s (lines.Restart n boot) past own next h = subst (λ (q : Node). IsInPlace s (actors.Node Loc) (lines.Restart q boot) past own next) (sym (loc_node n h)) (refl, tt)
told_place s (lines.Full n) past own next h = subst (λ (q : Node). IsInPlace s (actors.Node Loc) (lines.Full q) past own next) (sym (loc_node n h)) refl
told_place s (lines.Locked v stamp operation) past own next h = refl
told_place s (lines.Unlocked v) past own next h = refl
told_place s (lines.Recovered v) past own next h = refl
told_place s (lines.Located v server) past own next h = refl
told_place s l past own next h = absurd cc

pub told_places : (s : Script) (ls : List Line) (past : List Entry) (own : List Line) → all_lines is_told ls ≡ true → EachLine (IsInPlace s) (actors.Node Loc) past own ls
told_places s [] past own h = tt
told_places s (l ∷ ls) past own h = let q = both (is_told l) (all_lines is_told ls) h in (told_place s l past own ls q.0, told_places s ls past (l ∷ own) q.1)

-- ---- what a record tells

-- a line of a lock or a place
abbrev pub is_deed : Line → Bool
is_deed (lines.Locked v stamp operation) = true
is_deed (lines.Unlocked v) = true
is_deed (lines.Recovered v) = true
is_deed (lines.Located v server) = true
is_deed l = false

if_deeds : (t : Bool) (a b : List Line) → all_lines is_deed a ≡ true → all_lines is_deed b ≡ true → all_lines is_deed (cond t a b) ≡ true
if_deeds true a b h k = h
if_deeds false a b h k = k

both_deeds : (a b : List Line) → all_lines is_deed a ≡ true → all_lines is_deed b ≡ true → all_lines is_deed (a ++ b) ≡ true
both_deeds [] b h k = k
both_deeds (l ∷ a) b h k = let q = both (is_deed l) (all_lines is_deed a) h in rw (q.0, both_deeds a b q.1 k) refl

located_deeds : (v : ℕ) (before after : Option ℕ) → all_lines is_deed (located_lines v before after) ≡ true
located_deeds v before None = refl
located_deeds v before (Some i) = if_deeds (same_site before (Some i)) [] (lines.Located v (Server i) ∷ []) refl refl

locks_deeds : (v : ℕ) (before after : Option Lock) → all_lines is_deed (lock_told v before after) ≡ true
locks_deeds v None (Some l) = refl
locks_deeds v (Some k) (Some l) = if_deeds (nat_eq k.stamp l.stamp) [] (lines.Locked v l.stamp l.operation ∷ []) refl refl
locks_deeds v (Some k) None = if_deeds k.forced (lines.Recovered v ∷ lines.Unlocked v ∷ []) (lines.Unlocked v ∷ []) refl refl
locks_deeds v None None = refl

pub are_deeds : (d : EntryDeed) (t : Table Listed) → all_lines is_deed (deed_told d t) ≡ true
are_deeds (sets l) t =
    both_deeds (lock_told l.entry.read_write (lock_before (get l.entry.read_write t)) l.lock) (located_lines l.entry.read_write (site_before (get l.entry.read_write t)) (site_of l.entry))
    (locks_deeds l.entry.read_write (lock_before (get l.entry.read_write t)) l.lock) (located_deeds l.entry.read_write (site_before (get l.entry.read_write t)) (site_of l.entry))
are_deeds (removes e) t = refl
are_deeds leaves t = refl

pub all_deeds : (p : Line → Bool) → ((l : Line) → is_deed l ≡ true → p l ≡ true) → (ls : List Line) → all_lines is_deed ls ≡ true → all_lines p ls ≡ true
all_deeds p w [] h = refl
all_deeds p w (l ∷ ls) h = let q = both (is_deed l) (all_lines is_deed ls) h in rw (w l q.0, all_deeds p w ls q.1) refl

deed_told_line : (l : Line) → is_deed l ≡ true → is_told l ≡ true
deed_told_line (lines.Locked v stamp operation) h = refl
deed_told_line (lines.Unlocked v) h = refl
deed_told_line (lines.Recovered v) h = refl
deed_told_line (lines.Located v server) h = refl
deed_told_line l h = absurd cc

pub deeds_told : (d : EntryDeed) (t : Table Listed) → all_lines is_told (deed_told d t) ≡ true
deeds_told d t = all_deeds is_told deed_told_line (deed_told d t) (are_deeds d t)

-- none of them tells that it stops or begins again
pub deed_runs : (l : Line) → is_deed l ≡ true → is_running l ≡ true
deed_runs (lines.Locked v stamp operation) h = refl
deed_runs (lines.Unlocked v) h = refl
deed_runs (lines.Recovered v) h = refl
deed_runs (lines.Located v server) h = refl
deed_runs l h = absurd cc

pub deeds_run : (d : EntryDeed) (t : Table Listed) → all_lines is_running (deed_told d t) ≡ true
deeds_run d t = all_deeds is_running deed_runs (deed_told d t) (are_deeds d t)
