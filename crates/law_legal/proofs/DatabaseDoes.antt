-- What the location database does, whatever it is given: what its steps tell and send. And what it keeps and tells where nobody changes
-- what it has.
use Rattle.law_legal.proofs.ServerBoots.{is_running}
use Rattle.law_legal.proofs.DatabaseLines.{all_of_loc, both_told, deeds_told, is_of_loc, is_told, loc_node, deeds_run}
use Rattle.afs_num.specs.declared.messages.Call.{Call}
use Rattle.spec_history.specs.declared.lines.Line.{Line}
use Rattle.spec_history.specs.declared.lines.Line.TheVariants as lines
use Rattle.spec_ideal.specs.Operations.{last_count}
use Rattle.spec_ideal.specs.Tables.{Table}
use Rattle.law_legal.proofs.OwedPasses.{all_lines, is_unchanging}
use Rattle.law_legal.proofs.BaseLaws.{OfNotice, ByClient, LastSeat, kept_last, Each, OfCall}
use Rattle.law_legal.proofs.ClientCalls.{IsUncalled}
use Rattle.law_legal.proofs.ServerRefusesForGood.{IsFirm, IsSentBy}
use Rattle.law_legal.proofs.ServerSeats.{AreSeated, code_gift, code_half, kept_from, seated}
use Rattle.law_legal.proofs.ServerSeats as seats
use Rattle.law_legal.proofs.BaseWords.{is_passing}
use Rattle.law_legal.specs.Past.{HasCode, IsCall}
use Rattle.spec_model.specs.Calls as pairs
use Rattle.spec_model.specs.Calls.{Admitted, admitted, call_seat, paired}
use Rattle.afs_num.specs.Nodes.{same_node}
use Rattle.afs_num.specs.declared.location_calls.LocCall.{LocCall}
use Rattle.afs_num.specs.declared.location_calls.LocCall.TheVariants as calls
use Rattle.afs_num.specs.declared.location_calls.LocEntry.{LocEntry}
use Rattle.afs_num.specs.declared.messages.Call.TheVariants as ask
use Rattle.afs_num.specs.declared.messages.Carried.{Carried}
use Rattle.afs_num.specs.declared.messages.Carried.TheVariants as carried
use Rattle.afs_num.specs.declared.messages.Message.{Message}
use Rattle.afs_num.specs.declared.messages.Received.TheVariants.{Whole}
use Rattle.afs_num.specs.declared.messages.Reply.TheVariants as tell
use Rattle.afs_num.specs.declared.types.Head.{Head}
use Rattle.afs_num.specs.declared.types.Node.TheVariants.{Loc}
use Rattle.spec_records.specs.LocEffects.{deed_told}
use Rattle.spec_records.specs.LocRecords.{Listed}
use Rattle.afs_num.specs.Names.{volume_name_ok}
use Rattle.spec_rows.specs.LocRow.{bad_name, most_listed_sites, taken_id, taken_name, too_many_sites, LocChange, LocDecision, LocResult, LocState, admits, all_listed, any_other, changes, decided, drops, entry_fits, found_id, found_name, hears, holds, is_barred, is_locked, is_named, is_operation, loc_decides, loc_op, loc_saved, nth, raises, reads, refused, refuses, repeats, runs_carried, saves, shares_id, shows, tells_boot, with_entry, with_lock}
use Rattle.spec_rows.specs.LocSteps.{loc_begun_after, loc_does, loc_kind}
use Rattle.spec_rows.specs.Hosts.{begun_from}
use Rattle.afs_num.specs.declared.calls.FsCall.{FsCall}
use Rattle.spec_rows.specs.Runs.{Fall, at_rest, in_boot, in_step}
use Rattle.spec_rows.specs.ServerRow.{not_served, no_room, replied, reply_head, whole}
use Rattle.spec_rows.specs.States.{Seat}
use Rattle.spec_rows.specs.Steps.{Begun, Step}
use Rattle.std.proofs.Common.{◌≡◌, ℕ, Bool, true, false, cond, List, [], ◌∷◌, Option, Some, None, refl, nat_eq, ◌∙◌}
use Rattle.std.specs.Prelude.{⊤, not, nat_lt, length}

-- ---- its lines

loc_changes : (l : Line) → is_of_loc l ≡ true → is_unchanging l ≡ true
loc_changes (lines.Change s k count) h = absurd cc
loc_changes l h = refl

-- it changes no volume
pub loc_unchanging : (ls : List Line) → all_lines is_of_loc ls ≡ true → all_lines is_unchanging ls ≡ true
loc_unchanging ls h = all_of_loc is_unchanging loc_changes ls h

-- ---- its refusals

abbrev IsFirmLoc : LocResult → Type 0
IsFirmLoc (refused code) = is_passing code ≡ false
IsFirmLoc r = ⊤

either_result : (P : LocResult → Type 0) (t : Bool) (a b : LocResult) → P a → P b → P (cond t a b)
either_result P true a b h k = h
either_result P false a b h k = k

entry_firm : (o : Option Listed) (more : Listed → LocResult) → ((l : Listed) → IsFirmLoc (more l)) → IsFirmLoc (with_entry o more)
entry_firm None more w = refl
entry_firm (Some l) more w = w l

locked_firm : (stamp : ℕ) (o : Option Listed) (more : Listed → LocResult) → ((l : Listed) → IsFirmLoc (more l)) → IsFirmLoc (with_lock stamp o more)
locked_firm stamp o more w = entry_firm o _ (λ l. either_result IsFirmLoc (holds stamp l.lock) (more l) (refused is_locked) (w l) refl)

fits_firm : (old : Option LocEntry) (new : LocEntry) (t : Table Listed) (more : LocResult) → IsFirmLoc more → IsFirmLoc (entry_fits old new t more)
fits_firm old new t more h =
    let e : IsFirmLoc (cond (nat_lt most_listed_sites (length new.sites)) (refused too_many_sites) more) = either_result IsFirmLoc (nat_lt most_listed_sites (length new.sites)) (refused too_many_sites) more refl h in
    let d : IsFirmLoc (cond (any_other old (is_named new.name) t) (refused taken_name) (cond (nat_lt most_listed_sites (length new.sites)) (refused too_many_sites) more)) = either_result IsFirmLoc (any_other old (is_named new.name) t) (refused taken_name) _ refl e in
    let c : IsFirmLoc (cond (any_other old (shares_id new) t) (refused taken_id) (cond (any_other old (is_named new.name) t) (refused taken_name) (cond (nat_lt most_listed_sites (length new.sites)) (refused too_many_sites) more))) = either_result IsFirmLoc (any_other old (shares_id new) t) (refused taken_id) _ refl d in
    either_result IsFirmLoc (not (volume_name_ok new.name)) (refused bad_name) _ refl c

raises_firm : (n : ℕ) (more : LocResult) → IsFirmLoc more → IsFirmLoc (raises n more)
raises_firm n more h = either_result IsFirmLoc (nat_lt n last_count) more (refused no_room) h refl

op_firm : (stamp : ℕ) (call : LocCall) (d : _) → IsFirmLoc (loc_op stamp call d)
op_firm stamp (calls.CreateEntry e) d = fits_firm None e d.entries _ (raises_firm d.next_stamp _ tt)
op_firm stamp (calls.DeleteEntry id) d = locked_firm stamp (found_id id d.entries) _ (λ l. tt)
op_firm stamp (calls.GetEntryById id) d = entry_firm (found_id id d.entries) _ (λ l. tt)
op_firm stamp (calls.GetEntryByName name) d = entry_firm (found_name name d.entries) _ (λ l. tt)
op_firm stamp calls.GetNewVolumeId d = raises_firm d.next_id _ tt
op_firm stamp (calls.ReplaceEntry id e) d = locked_firm stamp (found_id id d.entries) _ (λ l. fits_firm (Some l.entry) e d.entries _ tt)
op_firm stamp (calls.SetLock id operation force) d = entry_firm (found_id id d.entries) _ (λ l. either_result IsFirmLoc (is_barred l.lock force) _ _ refl (either_result IsFirmLoc (is_operation operation) _ _ (raises_firm d.next_stamp _ tt) refl))
op_firm stamp (calls.ReleaseLock id) d = locked_firm stamp (found_id id d.entries) _ (λ l. tt)
op_firm stamp (calls.ListEntry index) d = entry_firm (nth index (all_listed d.entries)) _ (λ l. tt)

-- ---- what it decides: what runs was sent to it, a refusal is firm, and what is repeated it keeps

abbrev pub IsDueLoc : LocState → LocDecision → Type 0
IsDueLoc s drops = ⊤
IsDueLoc s (tells_boot head) = head.to ≡ Loc
IsDueLoc s (repeats m) = IsSentBy Loc m × HasCode m.carried
IsDueLoc s (refuses head code) = (head.to ≡ Loc) × (is_passing code ≡ false)
IsDueLoc s (shows head reply) = head.to ≡ Loc
IsDueLoc s (saves head c) = head.to ≡ Loc

either_due : (s : LocState) (t : Bool) (a b : LocDecision) → IsDueLoc s a → IsDueLoc s b → IsDueLoc s (cond t a b)
either_due s true a b h k = h
either_due s false a b h k = k

decided_due : (s : LocState) (head : Head) (r : LocResult) → head.to ≡ Loc → IsFirmLoc r → IsDueLoc s (decided s head r)
decided_due s head (refused code) to h = (to, h)
decided_due s head (reads reply) to h = to
decided_due s head (changes c) to h = either_due s _ (saves head c) (refuses head _) to (to, refl)

carried_due : (s : LocState) (head : Head) (x : Carried) → head.to ≡ Loc → IsDueLoc s (runs_carried s head x)
carried_due s head (carried.Call user (ask.Location call)) to = decided_due s head (loc_op head.stamp call s.lasting) to (op_firm head.stamp call s.lasting)
carried_due s head (carried.Call user (ask.File call)) to = (to, refl)
carried_due s head (carried.Call user (ask.Volume call)) to = (to, refl)
carried_due s head (carried.Refusal code) to = tt
carried_due s head (carried.Reply reply) to = tt
carried_due s head carried.Notice to = tt

kept_code : (t : Bool) (boot : ℕ) (ss : List Seat) (head : Head) (m : Message) → AreSeated Loc ss → cond t (paired head.epoch head.number (call_seat head.from ss)) (pairs.wrong_boot boot) ≡ pairs.kept m → HasCode m.carried
kept_code true boot ss head m h e = let l : LastSeat head.epoch head.number (call_seat head.from ss) m = kept_last head.epoch head.number (call_seat head.from ss) m e in (h head.from l.seat m l.at l.reply).reply.1
kept_code false boot ss head m h e = absurd cc

admits_due : (s : LocState) (head : Head) (x : Carried) (o : Admitted Message) → AreSeated Loc s.seats → head.to ≡ Loc → admitted s.lasting.boot s.seats head ≡ o → IsDueLoc s (admits s head (whole head x) o)
admits_due s head x pairs.runs h to e = either_due s (same_node head.from Loc) (refuses head not_served) (runs_carried s head x) (to, refl) (carried_due s head x to)
admits_due s head x (pairs.kept reply) h to e = (kept_from Loc s.lasting.boot s.seats head reply h e, kept_code (nat_eq head.boot s.lasting.boot) s.lasting.boot s.seats head reply h e)
admits_due s head x pairs.in_progress h to e = tt
admits_due s head x pairs.older h to e = tt
admits_due s head x (pairs.wrong_boot boot) h to e = to

called_due : (t : Bool) (s : LocState) (head : Head) (x : Carried) → AreSeated Loc s.seats → same_node head.to Loc ≡ t → IsDueLoc s (cond t (admits s head (whole head x) (admitted s.lasting.boot s.seats head)) drops)
called_due true s head x h e = admits_due s head x (admitted s.lasting.boot s.seats head) h (loc_node head.to e) refl
called_due false s head x h e = tt

pub hears_due : (s : LocState) (head : Head) (x : Carried) → AreSeated Loc s.seats → IsDueLoc s (hears s head x)
hears_due s head (carried.Call user call) h = called_due (same_node head.to Loc) s head (carried.Call user call) h refl
hears_due s head (carried.Refusal code) h = tt
hears_due s head (carried.Reply reply) h = tt
hears_due s head carried.Notice h = tt

-- ---- what it keeps and sends

-- each reply that it keeps, in memory or on its disk, is its own
pub record IsSoundLoc (s : LocState) : Type 0 where
  pub seats : AreSeated Loc s.seats
  pub kept : AreSeated Loc s.lasting.kept

-- what it sends is its own, and no call
abbrev pub IsOfLoc : Message → Type 0
IsOfLoc m = IsSentBy Loc m × IsUncalled m

code_uncalled : (P : Head → List ℕ → FsCall → Type 0) (head : Head) (x : Carried) → HasCode x → OfCall P head x
code_uncalled P head (carried.Call user call) h = absurd h
code_uncalled P head (carried.Refusal code) h = tt
code_uncalled P head (carried.Reply reply) h = tt
code_uncalled P head carried.Notice h = absurd h

reply_of : (boot : ℕ) (head : Head) (x : Carried) → head.to ≡ Loc → HasCode x → IsFirm (reply_head boot head) x → IsOfLoc (replied boot head x)
reply_of boot head x to code firm = (record { from = to; half = code_half (replied boot head x) code; firm = firm; gift = λ z ls. code_gift (reply_head boot head) x ls code }, code_uncalled (ByClient (λ h user call. ⊥)) (reply_head boot head) x code)

-- ---- a decision that is done

pub record DoesLoc (place b : ℕ) (s : Step LocState) : Type 0 where
  pub sound : IsSoundLoc s.state
  pub sent : Each IsOfLoc s.sent
  pub told : List Line
  pub running : all_lines is_running (lines.Given place ∷ told) ≡ true
  pub lines : s.lines ≡ lines.Given place ∷ told
  pub are : all_lines is_told told ≡ true
  pub boot : s.state.lasting.boot ≡ b
  pub notices : Each (λ (m : Message). OfNotice (m.head.boot ≡ b) m.carried) s.sent

saved_sound : (s : LocState) (head : Head) (c : LocChange) → head.to ≡ Loc → IsSoundLoc s → IsSoundLoc (loc_saved head c s)
saved_sound s head c to h = record {
  seats = seated Loc s.lasting.boot head (carried.Reply (tell.Location c.reply)) s.seats to tt refl h.seats;
  kept = seats.placed Loc s.lasting.boot head (carried.Reply (tell.Location c.reply)) s.lasting.kept to tt refl h.kept;
}

code_notice : (a b : ℕ) (x : Carried) → HasCode x → OfNotice (a ≡ b) x
code_notice a b (carried.Call user call) h = tt
code_notice a b (carried.Refusal code) h = tt
code_notice a b (carried.Reply reply) h = tt
code_notice a b carried.Notice h = absurd h

pub does_loc : (s : LocState) (place : ℕ) (d : LocDecision) → IsDueLoc s d → IsSoundLoc s → DoesLoc place s.lasting.boot (loc_does s place d)
does_loc s place drops due h = record { sound = h; sent = tt; told = []; lines = refl; are = refl; boot = refl; running = refl; notices = tt }
does_loc s place (tells_boot head) due h = record { sound = h; sent = ((record { from = due; half = λ z. absurd z; firm = tt; gift = λ z ls. tt }, tt), tt); told = []; lines = refl; are = refl; boot = refl; running = refl; notices = (refl, tt) }
does_loc s place (repeats m) due h = record { sound = h; sent = ((due.0, code_uncalled (ByClient (λ h user call. ⊥)) m.head m.carried due.1), tt); told = []; lines = refl; are = refl; boot = refl; running = refl; notices = (code_notice m.head.boot s.lasting.boot m.carried due.1, tt) }
does_loc s place (refuses head code) due h = record {
  sound = record { seats = seated Loc s.lasting.boot head (carried.Refusal (record { 0 = code })) s.seats due.0 tt (refl, due.1) h.seats; kept = h.kept };
  sent = (reply_of s.lasting.boot head (carried.Refusal (record { 0 = code })) due.0 tt (refl, due.1), tt);
  told = [];
  lines = refl;
  are = refl;
  boot = refl;
  running = refl;
  notices = (tt, tt);
}
does_loc s place (shows head reply) due h = record {
  sound = record { seats = seated Loc s.lasting.boot head (carried.Reply (tell.Location reply)) s.seats due tt refl h.seats; kept = h.kept };
  sent = (reply_of s.lasting.boot head (carried.Reply (tell.Location reply)) due tt refl, tt);
  told = [];
  lines = refl;
  are = refl;
  boot = refl;
  running = refl;
  notices = (tt, tt);
}
does_loc s place (saves head c) due h = record {
  sound = saved_sound s head c due h;
  sent = (reply_of s.lasting.boot head (carried.Reply (tell.Location c.reply)) due tt refl, tt);
  told = deed_told c.deed s.lasting.entries;
  lines = refl;
  are = deeds_told c.deed s.lasting.entries;
  boot = refl;
  running = deeds_run c.deed s.lasting.entries;
  notices = (tt, tt);
}

-- what it sends is no call, and goes to whom a call came from
abbrev pub IsBack : Head → Carried → LocDecision → Type 0
IsBack k x drops = ⊤
IsBack k x (tells_boot head) = (head.from ≡ k.from) × IsCall x
IsBack k x (repeats m) = ((m.head.to ≡ k.from) × HasCode m.carried) × IsCall x
IsBack k x (refuses head code) = (head.from ≡ k.from) × IsCall x
IsBack k x (shows head reply) = (head.from ≡ k.from) × IsCall x
IsBack k x (saves head c) = (head.from ≡ k.from) × IsCall x

either_back : (k : Head) (x : Carried) (t : Bool) (a b : LocDecision) → IsBack k x a → IsBack k x b → IsBack k x (cond t a b)
either_back k x true a b h w = h
either_back k x false a b h w = w

decided_back : (s : LocState) (head : Head) (x : Carried) (r : LocResult) → IsCall x → IsBack head x (decided s head r)
decided_back s head x (refused code) is = (refl, is)
decided_back s head x (reads reply) is = (refl, is)
decided_back s head x (changes c) is = either_back head x _ (saves head c) (refuses head _) (refl, is) (refl, is)

carried_back : (s : LocState) (head : Head) (x : Carried) → IsBack head x (runs_carried s head x)
carried_back s head (carried.Call user (ask.Location call)) = decided_back s head (carried.Call user (ask.Location call)) (loc_op head.stamp call s.lasting) tt
carried_back s head (carried.Call user (ask.File call)) = (refl, tt)
carried_back s head (carried.Call user (ask.Volume call)) = (refl, tt)
carried_back s head (carried.Refusal code) = tt
carried_back s head (carried.Reply reply) = tt
carried_back s head carried.Notice = tt

kept_back : (t : Bool) (boot : ℕ) (ss : List Seat) (head : Head) (m : Message) → AreSeated Loc ss → cond t (paired head.epoch head.number (call_seat head.from ss)) (pairs.wrong_boot boot) ≡ pairs.kept m → (m.head.to ≡ head.from) × HasCode m.carried
kept_back true boot ss head m h e = let l : LastSeat head.epoch head.number (call_seat head.from ss) m = kept_last head.epoch head.number (call_seat head.from ss) m e in let r = h head.from l.seat m l.at l.reply in (r.to, r.reply.1)
kept_back false boot ss head m h e = absurd cc

admits_back : (s : LocState) (head : Head) (user : List ℕ) (call : Call) (o : Admitted Message) → AreSeated Loc s.seats → admitted s.lasting.boot s.seats head ≡ o → IsBack head (carried.Call user call) (admits s head (whole head (carried.Call user call)) o)
admits_back s head user call pairs.runs h e = either_back head (carried.Call user call) (same_node head.from Loc) (refuses head not_served) (runs_carried s head (carried.Call user call)) (refl, tt) (carried_back s head (carried.Call user call))
admits_back s head user call (pairs.kept reply) h e = (kept_back (nat_eq head.boot s.lasting.boot) s.lasting.boot s.seats head reply h e, tt)
admits_back s head user call pairs.in_progress h e = tt
admits_back s head user call pairs.older h e = tt
admits_back s head user call (pairs.wrong_boot boot) h e = (refl, tt)

pub hears_back : (s : LocState) (head : Head) (x : Carried) → AreSeated Loc s.seats → IsBack head x (hears s head x)
hears_back s head (carried.Call user call) h = either_back head (carried.Call user call) (same_node head.to Loc) _ drops (admits_back s head user call (admitted s.lasting.boot s.seats head) h refl) tt
hears_back s head (carried.Refusal code) h = tt
hears_back s head (carried.Reply reply) h = tt
hears_back s head carried.Notice h = tt

abbrev pub IsBackTo : Head → Carried → Message → Type 0
IsBackTo k x r = (IsCall r.carried → ⊥) × ((r.head.to ≡ k.from) × IsCall x)

code_not_call : (x : Carried) → HasCode x → IsCall x → ⊥
code_not_call (carried.Call user call) h k = absurd h
code_not_call (carried.Refusal code) h k = absurd k
code_not_call (carried.Reply reply) h k = absurd k
code_not_call carried.Notice h k = absurd h

pub does_back : (k : Head) (x : Carried) (s : LocState) (place : ℕ) (d : LocDecision) → IsBack k x d → Each (IsBackTo k x) (loc_does s place d).sent
does_back k x s place drops h = tt
does_back k x s place (tells_boot head) h = ((λ z. absurd z, h), tt)
does_back k x s place (repeats m) h = ((code_not_call m.carried h.0.1, (h.0.0, h.1)), tt)
does_back k x s place (refuses head code) h = ((λ z. absurd z, h), tt)
does_back k x s place (shows head reply) h = ((λ z. absurd z, h), tt)
does_back k x s place (saves head c) h = ((λ z. absurd z, h), tt)

-- and has the call's pair
abbrev pub IsUnderKey : Head → Message → Type 0
IsUnderKey k r = (r.head.epoch ≡ k.epoch) × (r.head.number ≡ k.number)

abbrev pub IsUnder : Head → LocDecision → Type 0
IsUnder k drops = ⊤
IsUnder k (tells_boot head) = (head.epoch ≡ k.epoch) × (head.number ≡ k.number)
IsUnder k (repeats m) = IsUnderKey k m
IsUnder k (refuses head code) = (head.epoch ≡ k.epoch) × (head.number ≡ k.number)
IsUnder k (shows head reply) = (head.epoch ≡ k.epoch) × (head.number ≡ k.number)
IsUnder k (saves head c) = (head.epoch ≡ k.epoch) × (head.number ≡ k.number)

either_under : (k : Head) (t : Bool) (a b : LocDecision) → IsUnder k a → IsUnder k b → IsUnder k (cond t a b)
either_under k true a b h w = h
either_under k false a b h w = w

decided_under : (s : LocState) (head : Head) (r : LocResult) → IsUnder head (decided s head r)
decided_under s head (refused code) = (refl, refl)
decided_under s head (reads reply) = (refl, refl)
decided_under s head (changes c) = either_under head _ (saves head c) (refuses head _) (refl, refl) (refl, refl)

carried_under : (s : LocState) (head : Head) (x : Carried) → IsUnder head (runs_carried s head x)
carried_under s head (carried.Call user (ask.Location call)) = decided_under s head (loc_op head.stamp call s.lasting)
carried_under s head (carried.Call user (ask.File call)) = (refl, refl)
carried_under s head (carried.Call user (ask.Volume call)) = (refl, refl)
carried_under s head (carried.Refusal code) = tt
carried_under s head (carried.Reply reply) = tt
carried_under s head carried.Notice = tt

kept_under : (t : Bool) (boot : ℕ) (ss : List Seat) (head : Head) (m : Message) → AreSeated Loc ss → cond t (paired head.epoch head.number (call_seat head.from ss)) (pairs.wrong_boot boot) ≡ pairs.kept m → IsUnderKey head m
kept_under true boot ss head m h e = let l : LastSeat head.epoch head.number (call_seat head.from ss) m = kept_last head.epoch head.number (call_seat head.from ss) m e in let r = h head.from l.seat m l.at l.reply in (r.epoch ∙ l.epoch, r.number ∙ l.number)
kept_under false boot ss head m h e = absurd cc

admits_under : (s : LocState) (head : Head) (x : Carried) (o : Admitted Message) → AreSeated Loc s.seats → admitted s.lasting.boot s.seats head ≡ o → IsUnder head (admits s head (whole head x) o)
admits_under s head x pairs.runs h e = either_under head (same_node head.from Loc) (refuses head not_served) (runs_carried s head x) (refl, refl) (carried_under s head x)
admits_under s head x (pairs.kept reply) h e = kept_under (nat_eq head.boot s.lasting.boot) s.lasting.boot s.seats head reply h e
admits_under s head x pairs.in_progress h e = tt
admits_under s head x pairs.older h e = tt
admits_under s head x (pairs.wrong_boot boot) h e = (refl, refl)

pub hears_under : (s : LocState) (head : Head) (x : Carried) → AreSeated Loc s.seats → IsUnder head (hears s head x)
hears_under s head (carried.Call user call) h = either_under head (same_node head.to Loc) _ drops (admits_under s head (carried.Call user call) (admitted s.lasting.boot s.seats head) h refl) tt
hears_under s head (carried.Refusal code) h = tt
hears_under s head (carried.Reply reply) h = tt
hears_under s head carried.Notice h = tt

pub does_under : (k : Head) (s : LocState) (place : ℕ) (d : LocDecision) → IsUnder k d → Each (IsUnderKey k) (loc_does s place d).sent
does_under k s place drops h = tt
does_under k s place (tells_boot head) h = (h, tt)
does_under k s place (repeats m) h = (h, tt)
does_under k s place (refuses head code) h = (h, tt)
does_under k s place (shows head reply) h = (h, tt)
does_under k s place (saves head c) h = (h, tt)

-- it sends one message at most
abbrev pub AreAlone : List Message → Type 0
AreAlone [] = ⊤
AreAlone (m ∷ []) = ⊤
AreAlone (m ∷ n ∷ ms) = ⊥

pub does_alone : (s : LocState) (place : ℕ) (d : LocDecision) → AreAlone (loc_does s place d).sent
does_alone s place drops = tt
does_alone s place (tells_boot head) = tt
does_alone s place (repeats m) = tt
does_alone s place (refuses head code) = tt
does_alone s place (shows head reply) = tt
does_alone s place (saves head c) = tt

-- ---- what a restart begins with

pub record BegunLoc (f : Begun LocState) : Type 0 where
  pub sound : IsSoundLoc f.state
  pub told : (ls : List Line) → all_lines is_told ls ≡ true → all_lines is_told (f.before ls) ≡ true

after_loc : (s : LocState) (d : LocDecision) → IsDueLoc s d → IsSoundLoc s → BegunLoc (loc_begun_after s d)
after_loc s drops due h = record { sound = h; told = λ ls w. w }
after_loc s (tells_boot head) due h = record { sound = h; told = λ ls w. w }
after_loc s (repeats m) due h = record { sound = h; told = λ ls w. w }
after_loc s (refuses head code) due h = record { sound = h; told = λ ls w. w }
after_loc s (shows head reply) due h = record { sound = h; told = λ ls w. w }
after_loc s (saves head c) due h = record { sound = saved_sound s head c due h; told = λ ls w. both_told (deed_told c.deed s.lasting.entries) ls (deeds_told c.deed s.lasting.entries) w }

pub disk_loc : (s : LocState) (after : Bool) (fall : Fall) → IsSoundLoc s → BegunLoc (begun_from loc_kind s after fall)
disk_loc s after at_rest h = record { sound = h; told = λ ls w. w }
disk_loc s false (in_step m clock hit) h = record { sound = h; told = λ ls w. w }
disk_loc s true (in_step m clock hit) h = after_loc s (loc_decides s (Whole m)) (hears_due s m.head m.carried h.seats) h
disk_loc s false in_boot h = record { sound = h; told = λ ls w. w }
disk_loc s true in_boot h = record { sound = record { seats = h.kept; kept = h.kept }; told = λ ls w. w }
