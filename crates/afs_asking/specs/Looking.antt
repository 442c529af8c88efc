-- What an act reads from the cache, read by read.
use Rattle.std.specs.Prelude.{◌≡◌, ℕ, List, [], ◌∷◌, ◌++◌, Bool, true, false, Option, Some, None, if◌then◌else◌}
use Rattle.afs_num.specs.declared.types.Node.{Node}
use Rattle.afs_num.specs.declared.types.Fid.{Fid}
use Rattle.afs_num.specs.declared.histories.ReadBody.{ReadBody}
use Rattle.afs_num.specs.declared.histories.ReadSource.TheVariants.{Cached}
use Rattle.spec_history.specs.declared.lines.Line.{Line}
use Rattle.spec_history.specs.declared.lines.Line.TheVariants as lines
use Rattle.spec_rows.specs.States.{CacheEntry}
use Rattle.spec_rows.specs.Going.{Need, next, reads, reads_status, with_read}
use Rattle.spec_rows.specs.ClientRow.{Look, Walked, find_cached, is_trusted, look_at, looked, shown_by, walked}
use Rattle.afs_acts.specs.Acts.{FitsCalls}
use Rattle.afs_acts.specs.Walks.{need_of}
use Rattle.afs_entries.specs.Cached.{touched_all}
use Rattle.afs_asking.specs.declared.looks.Look as program
use Rattle.afs_asking.specs.declared.looks.Walked as program_walked

abbrev pub read_line : Node → Look → Line
read_line me l = lines.Read me l.fid l.index l.source l.body

-- what the program looks up, in the words of the rows
abbrev pub look_of : program.Look → Look
look_of l = record { fid = l.fid; index = l.index; source = Cached; body = l.body }

-- the fid of which something is needed that an entry may show
abbrev pub fid_needed : Need → Option Fid
fid_needed (reads f) = Some f
fid_needed (reads_status f) = Some f
fid_needed need = None

abbrev pub found_with : CacheEntry → Option ReadBody → Option Look
found_with e None = None
found_with e (Some body) = Some (look_at Cached e body)

abbrev pub found_at : ℕ → Need → Option CacheEntry → Option Look
found_at clock need None = None
found_at clock need (Some e) = if is_trusted clock e then found_with e (shown_by need e) else None

abbrev pub found_of : ℕ → List CacheEntry → Need → Option Fid → Option Look
found_of clock cache need None = None
found_of clock cache need (Some f) = found_at clock need (find_cached f cache)

-- what is read for a need, where a trusted entry shows it
abbrev pub found_by : ℕ → List CacheEntry → Need → Option Look
found_by clock cache need = found_of clock cache need (fid_needed need)

-- a read was noted, and what the act needs behind it
pub record Notes (me : Node) (l : Look) (old new : program_walked.Walked) (told_old told_new : List Line) : Type 0 where
  pub act : new.going ≡ with_read l.fid l.body old.going
  pub need : need_of new.need ≡ next new.going
  pub used : new.used.items ≡ old.used.items ++ l.fid ∷ []
  pub told : told_new ≡ told_old ++ read_line me l ∷ []

-- one read from the cache, where there is one
abbrev pub Turns : Node → Option Look → Bool → program_walked.Walked → program_walked.Walked → List Line → List Line → Type 0
Turns me None read old new told_old told_new = (read ≡ false) × (new ≡ old) × (told_new ≡ told_old)
Turns me (Some l) read old new told_old told_new = (read ≡ true) × Notes me l old new told_old told_new

-- where an act comes that has read and used so much, with so many reads left at most
abbrev pub comes_to : ℕ → ℕ → List CacheEntry → program_walked.Walked → Walked
comes_to left clock cache w = walked left clock w.going (touched_all w.used.items cache)

-- the act has come so far along its whole walk from these entries; the reads so far were told behind other lines
pub record IsOnWay (me : Node) (clock : ℕ) (entries : List CacheEntry) (whole : Walked) (before : List Line) (left : ℕ) (w : program_walked.Walked) (ls : List Line) : Type 0 where
  pub short : FitsCalls w.going.act
  pub need : need_of w.need ≡ next w.going
  pub act : (comes_to left clock entries w).act ≡ whole.act
  pub cache : (comes_to left clock entries w).cache ≡ whole.cache
  pub told : ls ++ looked me (comes_to left clock entries w).looks [] ≡ before ++ looked me whole.looks []

-- the act has made its whole walk from these entries, and it was found what it needs then
pub record HasWalked (me : Node) (entries : List CacheEntry) (whole : Walked) (before : List Line) (w : program_walked.Walked) (ls : List Line) : Type 0 where
  pub short : FitsCalls w.going.act
  pub need : need_of w.need ≡ next w.going
  pub act : w.going ≡ whole.act
  pub cache : touched_all w.used.items entries ≡ whole.cache
  pub told : ls ≡ before ++ looked me whole.looks []
