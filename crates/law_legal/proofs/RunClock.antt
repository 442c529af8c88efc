-- The clock of a cell is what the lines tell, however many servers it has.
use Rattle.spec_model.specs.Calls.{key_of}
use Rattle.law_legal.proofs.DatabaseLines.{is_of_loc, all_of_loc}
use Rattle.spec_history.specs.declared.lines.Line.{Line}
use Rattle.spec_history.specs.declared.lines.Line.TheVariants as lines
use Rattle.spec_history.specs.declared.scripts.Script.{Script}
use Rattle.spec_history.specs.declared.scripts.VolumeLine.{VolumeLine}
use Rattle.spec_ideal.specs.Tables.{Table}
use Rattle.law_legal.proofs.ActSteps.{begins_acts, given_acts, waits_acts, missed_acts}
use Rattle.law_legal.proofs.ActLines.{is_of}
use Rattle.law_legal.proofs.OwedPasses.{all_lines}
use Rattle.law_legal.proofs.BaseLaws.{both}
use Rattle.law_legal.proofs.ServerChooses.{IfCut, Works, disk_works, is_from, risen_from, risen_lines, serves_works, starts_works, times_works, wakes_works}
use Rattle.law_legal.proofs.VolumesAreIdeal.{Held, held_kept, own_from, volumes_first}
use Rattle.law_legal.proofs.CallKeysOnce.{IsKnown, any_told, by_key}
use Rattle.law_legal.proofs.RunSetUp.{first_passed}
use Rattle.law_legal.proofs.OwedLoadBreaks.{is_tickless, lines_both, clock_back}
use Rattle.law_legal.proofs.RunWalk.{Behind, EachMove, IsKept, each_moved}
use Rattle.law_legal.proofs.ActCallsInRuns.{asked_first, sought_acts_in}
use Rattle.law_legal.specs.Ideal.{clock_of, first_lines, set_up_entry}
use Rattle.law_legal.specs.Past.{lines_of, onto}
use Rattle.afs_num.specs.declared.histories.Version.{Version}
use Rattle.afs_num.specs.declared.messages.Message.{Message}
use Rattle.afs_num.specs.declared.types.Key.{Key}
use Rattle.afs_num.specs.declared.types.Node.{Node}
use Rattle.afs_num.specs.declared.types.Node.TheVariants.{Client, Server}
use Rattle.spec_records.specs.Durable.{Stored}
use Rattle.afs_num.specs.declared.messages.Received.TheVariants.{Whole}
use Rattle.spec_rows.specs.ClientRow.{begin_row, client_row, timeout_row, sought_by, seek_timeout_row}
use Rattle.law_legal.proofs.RunSteps.{blow_line}
use Rattle.spec_rows.specs.Steps.{Begun}
use Rattle.spec_rows.specs.Runs.{Cell, Entry, Fall, at_rest, begun_by_disk, in_boot, in_step, start}
use Rattle.spec_rows.specs.ServerRow.{versions_made, versioned}
use Rattle.spec_rows.specs.States.{ServerState}
use Rattle.std.proofs.Common.{suc, ◌≡◌, ℕ, ◌+◌, inl, inr, Bool, true, false, List, [], ◌∷◌, length, refl, ap, ◌∙◌}
use Rattle.std.specs.Prelude.{⊤}

-- ---- what holds of each line of a server's step

-- nothing is asked of the message
abbrev pub AnyCall : Message → List Line → List Line → Type 0
AnyCall m front rest = ⊤

pub any_cut : (ls : List Line) (fall : Fall) → IfCut (λ m. AnyCall m [] ls) fall
any_cut ls at_rest = tt
any_cut ls (in_step m clock hit) = tt
any_cut ls in_boot = tt

lines_by : (q p : Line → Bool) → ((l : Line) → p l ≡ true → q l ≡ true) → (ls : List Line) → all_lines p ls ≡ true → all_lines q ls ≡ true
lines_by q p w [] h = refl
lines_by q p w (l ∷ ls) h = let b = both (p l) (all_lines p ls) h in rw (w l b.0, lines_by q p w ls b.1) refl

pub lines_told : (q : Line → Bool) → ((v : Version) → q (lines.Version v) ≡ true) → (vs : List Version) (ls : List Line) → all_lines q ls ≡ true → all_lines q (versioned vs ls) ≡ true
lines_told q w [] ls h = h
lines_told q w (v ∷ vs) ls h = rw (w v, lines_told q w vs ls h) refl

-- a test that holds of a server's lines, of changes and of versions
pub record IsCalm (me : Node) (q : Line → Bool) : Type 0 where
  pub own : (l : Line) → is_from me l ≡ true → q l ≡ true
  pub change : (k : Key) (n : ℕ) → q (lines.Change me k n) ≡ true
  pub version : (v : Version) → q (lines.Version v) ≡ true

pub works_lines : (P : Message → List Line → List Line → Type 0) (me : Node) (x : ServerState) (b : Table Stored) (ls : List Line) (q : Line → Bool) → IsCalm me q → Works P me x b ls → all_lines q ls ≡ true
works_lines P me x b ls q w (inl s) = lines_by q (is_from me) w.own ls s.lines
works_lines P me x b ls q w (inr s) =
    let behind : all_lines q (versioned (versions_made s.change) s.rest) ≡ true = lines_told q w.version (versions_made s.change) s.rest (lines_by q (is_from me) w.own s.rest s.behind) in
    ap (all_lines q) s.split ∙ lines_both q s.front _ (lines_by q (is_from me) w.own s.front s.before) (rw (w.change (key_of s.head) (length (versions_made s.change)), behind) refl)

-- ---- the clock

own_tickless : (me : Node) (l : Line) → is_from me l ≡ true → is_tickless l ≡ true
own_tickless me (lines.Tick n) h = absurd cc
own_tickless me l h = refl

of_tickless : (j : ℕ) (l : Line) → is_of j l ≡ true → is_tickless l ≡ true
of_tickless j (lines.Tick n) h = absurd cc
of_tickless j l h = refl

loc_tickless : (l : Line) → is_of_loc l ≡ true → is_tickless l ≡ true
loc_tickless (lines.Tick n) h = absurd cc
loc_tickless l h = refl

calm_tickless : (me : Node) → IsCalm me is_tickless
calm_tickless me = record { own = own_tickless me; change = λ k n. refl; version = λ v. refl }

abbrev pub TicksIn : Cell → List Entry → Type 0
TicksIn c past = clock_of (lines_of past) ≡ c.clock

abbrev pub HeldTicks : Script → Cell → List Entry → Type 0
HeldTicks s c past = Held s c past × TicksIn c past

stands : (c : Cell) (past : List Entry) (ls : List Line) → TicksIn c past → all_lines is_tickless ls ≡ true → clock_of (onto (lines_of past) ls) ≡ c.clock
stands c past ls t h = clock_back ls (lines_of past) h ∙ t

pub works_stand : (c : Cell) (past : List Entry) (i : ℕ) (b : Table Stored) (ls : List Line) → TicksIn c past → Works AnyCall (Server i) (c.hosts i).state b ls → clock_of (onto (lines_of past) ls) ≡ c.clock
works_stand c past i b ls t w = stands c past ls t (works_lines AnyCall (Server i) (c.hosts i).state b ls is_tickless (calm_tickless (Server i)) w)

acts_stand : (c : Cell) (past : List Entry) (n : ℕ) (ls : List Line) → TicksIn c past → all_lines (is_of n) ls ≡ true → clock_of (onto (lines_of past) ls) ≡ c.clock
acts_stand c past n ls t h = stands c past ls t (lines_by is_tickless (is_of n) (of_tickless n) ls h)

blow_stands : (c : Cell) (past : List Entry) (i place : ℕ) (t : Bool) → TicksIn c past → clock_of (onto (lines_of past) (lines.Given place ∷ blow_line i t ∷ [])) ≡ c.clock
blow_stands c past i place true h = h
blow_stands c past i place false h = h

ticks_moves : (s : Script) → EachMove (HeldTicks s) (Behind TicksIn)
ticks_moves s = record {
  void = λ c past h. h.1;
  ticked = λ c past n h. ap (λ (t : ℕ). t + suc n) h.1;
  begun = λ c past n act h r z. acts_stand c past n (begin_row (Client n) (c.clients n) c.clock act).lines h.1 (begins_acts n (c.clients n) c.clock act r z).of;
  told = λ c past n place m h at to un. acts_stand c past n (client_row (Client n) (c.clients n) c.clock place (Whole m)).lines h.1 (given_acts (by_key (IsKnown h.0.0.0.keys.callees c.clients)) any_told n (c.clients n) c.clock place m (h.0.0.0.keys.replies n) (h.0.0.1.seats n)).of;
  sought = λ c past n place m k h at to z e. acts_stand c past n (sought_by (Client n) (c.clients n) c.clock place k m.head m.carried).lines h.1 (sought_acts_in s c past n place m k h.0.0.1 at z e).of;
  missed = λ c past n k h r z. acts_stand c past n (seek_timeout_row (Client n) (c.clients n) k).lines h.1 (missed_acts n (c.clients n) k r z).of;
  waited = λ c past n act h r. acts_stand c past n (timeout_row (Client n) (c.clients n) act).lines h.1 (waits_acts n (c.clients n) act r).of;
  fallen = λ c past n h. h.1;
  risen = λ c past n h. h.1;
  loc = λ c past l ls ms h st. stands c past ls h.1 (all_of_loc is_tickless loc_tickless ls st.lines);
  served = λ c past i place m armed h up at to. works_stand c past i _ _ h.1 (serves_works AnyCall (Server i) (c.hosts i).state c.clock place m (λ rest. tt));
  cut = λ c past i place m t h up at to. blow_stands c past i place t.stops h.1;
  stopped = λ c past i h up. h.1;
  stop_set = λ c past i calls pick armed h up. h.1;
  fail_set = λ c past i call armed h up. h.1;
  timed = λ c past i n b armed h up at. works_stand c past i _ _ h.1 (times_works AnyCall (Server i) (c.hosts i).state c.clock n b);
  woken = λ c past i armed h up. works_stand c past i _ _ h.1 (wakes_works AnyCall (Server i) (c.hosts i).state c.clock);
  started = λ c past i after fall h down.
      let f : Begun ServerState = begun_by_disk (Server i) (c.hosts i).state after fall in
      let ls : List Line = risen_lines (Server i) c.clock c.count f in
      works_stand c past i _ _ h.1 (starts_works AnyCall (Server i) (c.hosts i).state c.clock c.count f (disk_works AnyCall (Server i) (c.hosts i).state after fall ls (any_cut ls fall) (risen_from (Server i) c.clock c.count f)));
  early = λ c past i fall h down. h.1;
  midway = λ c past i after fall h down. works_stand c past i _ _ h.1 (disk_works AnyCall (Server i) (c.hosts i).state after fall (lines.Fault (Server i) ∷ []) (any_cut (lines.Fault (Server i) ∷ []) fall) (rw (own_from i) refl));
  full = λ c past i after fall h down. works_stand c past i _ _ h.1 (disk_works AnyCall (Server i) (c.hosts i).state after fall (lines.Full (Server i) ∷ []) (any_cut (lines.Full (Server i) ∷ []) fall) (rw (own_from i) refl));
}

pub ticks_kept : (s : Script) → IsKept (HeldTicks s)
ticks_kept s c past x so h = (held_kept s c past x so h.0, each_moved (HeldTicks s) (Behind TicksIn) (ticks_moves s) c past x so h)

first_clock : (vs : List VolumeLine) → clock_of (onto [] (first_lines vs)) ≡ 0
first_clock vs = first_passed (λ ls. clock_of ls ≡ 0) (λ v o h. h) vs [] refl

pub ticks_first : (s : Script) → HeldTicks s (start s) (set_up_entry s ∷ [])
ticks_first s = ((asked_first s, volumes_first s), first_clock s.volumes)
