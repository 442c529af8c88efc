-- What an act does whose call is in a round.
use Rattle.std.proofs.Common.{◌≡◌, ◌+◌, ℕ, Bool, true, false, cond, ◌||◌, ◌&&◌, List, [], ◌∷◌, ◌++◌, map, filter, Option, Some, None, Result, Ok, Err, refl, ap, sym, subst, ◌∙◌, not}
use Rattle.std.proofs.lemmas.List.{append-nil}
use Rattle.std.specs.declared.alloc.AllocError.{AllocError}
use Rattle.std.specs.List.{list_any}
use Rattle.std.specs.Option.{option_map}
use Rattle.std.specs.Prelude.{nat_lt, IfOk, IsSome, is_some, IfSome}
use Rattle.spec_history.specs.declared.acts.Act.{Act}
use Rattle.spec_history.specs.declared.lines.Line.{Line}
use Rattle.spec_history.specs.declared.lines.Line.TheVariants as lines
use Rattle.spec_history.specs.declared.lines.Outs.{Outs}
use Rattle.spec_ideal.specs.Operations.{volume_changed}
use Rattle.spec_ideal.specs.Tables.{set, Table}
use Rattle.spec_model.specs.Steps.{NodeState}
use Rattle.afs_num.specs.Nodes.{same_node}
use Rattle.afs_num.specs.declared.calls.AfsCallBack.{AfsCallBack}
use Rattle.afs_num.specs.declared.calls.AfsFetchStatus.{AfsFetchStatus}
use Rattle.afs_num.specs.declared.calls.AfsVolSync.{AfsVolSync}
use Rattle.afs_num.specs.declared.calls.FsReply.{FsReply}
use Rattle.afs_num.specs.declared.calls.FsReply.TheVariants as replies
use Rattle.afs_num.specs.declared.messages.Carried.{Carried}
use Rattle.afs_num.specs.declared.messages.Carried.TheVariants as carried
use Rattle.afs_num.specs.declared.messages.Message.{Message}
use Rattle.afs_num.specs.declared.messages.Received.{Received}
use Rattle.afs_num.specs.declared.messages.Received.TheVariants.{Whole, Nothing, Unserved, Unreadable}
use Rattle.afs_num.specs.declared.messages.Reply.{Reply}
use Rattle.afs_num.specs.declared.messages.Reply.TheVariants as tell
use Rattle.afs_num.specs.declared.types.Code.{Code}
use Rattle.afs_num.specs.declared.types.Fid.{Fid}
use Rattle.afs_num.specs.declared.types.Head.{Head}
use Rattle.afs_num.specs.declared.types.Node.{Node}
use Rattle.spec_model.specs.Calls.{is_sent_again, last_timeout}
use Rattle.spec_model.specs.Messages.{messages_spelled, parcels_read, HasSpelling}
use Rattle.afs_num.specs.Messages.{file_reply}
use Rattle.afs_num.specs.declared.calls.FsCall.{FsCall}
use Rattle.spec_rows.specs.States.{CacheEntry, Gift, Location}
use Rattle.spec_rows.specs.Going.{ClientState, Going, next, Seek, filled}
use Rattle.spec_rows.specs.ClientRow.{awaits, begin_row, boot_of, call_by, call_of, calls_again, client_row, counts, drop_line, dropped, given_up_in, gives_up, guest_row, hears, ignores, is_awaited, is_busy_code, is_spent, left_in, sought_or, takes, takes_in, timeout_line, timeout_row, tries_again, has_location, is_sought, put_location}
use Rattle.spec_rows.specs.Steps.{Step}
use Rattle.afs_calling.specs.Stepping as stepping
use Rattle.afs_calling.proofs.Stepping as stepped
use Rattle.afs_entries.specs.Cached.{drops_of, left, unlisted}
use Rattle.afs_entries.specs.declared.drops.Drops.{Drops}
use Rattle.afs_entries.specs.declared.drops.Drops.TheVariants as drops
use Rattle.spec_copyrows.specs.CopyRow as copy_rows
use Rattle.spec_copyrows.specs.CopyRow.{answers_at, answers_in, answers_to, by_release, copy_begin_row, copy_row, copy_timeout_row, dies_at, dropping, entry_told as entry_carried, hears_by, is_below_release, is_over, offer_in, offers, Offer, refuses_at, renewing, tells_new, uses, uses_newer, without_older, forgotten, is_new_entry}
use Rattle.spec_copyrows.specs.Sites.{as_it_is, behind_first, calls_round, leaves_site, round_of, seen_of, sited, with_client, CopyState, Round}
use Rattle.afs_asking.specs.Asking.{Asking, asking_of}
use Rattle.afs_cache.specs.Acting.{but_for, but_for_these, changed_in, followed, IsDropping, outs_of, PlansRound, sent_to}
use Rattle.afs_cache.specs.Managing.{Answers, AnswersCopy, AnswersStill, by_call, copy_seek_times_out, copy_times_out, Makes, sent_to_site, seek_times_out, spent_by, Takes, TakesCopy, telling, given_up, sought_by_head}
use Rattle.afs_cache.specs.Rounds.{dies_by, IsHeard, KeepsThen, keeping, OfAct, round_running}
use Rattle.afs_cache.specs.Wanted.{awaited_by}
use Rattle.afs_cache.specs.declared.acting.Dropping.{Dropping}
use Rattle.afs_cache.specs.declared.acting.Plan.{Plan}
use Rattle.afs_cache.proofs.Answering.{given_is, left_is}
use Rattle.afs_cache.proofs.Placing.{placed_is}
use Rattle.afs_cache.proofs.Planning.{done_as, dropped_front, round_taken}
use Rattle.afs_num.specs.declared.location_calls.LocEntry.{LocEntry}
use Rattle.spec_shape.specs.Tables.{IsEntry}
use Rattle.afs_acts.specs.Located.{Puts}
use Rattle.afs_cache.specs.Locating.{entry_answered, renewed_by, renewed_in}
use Rattle.afs_cache.proofs.Sought.{entry_fits}
use Rattle.afs_cache.proofs.Replying.{gifts_is, this_runs}
use Rattle.afs_sites.specs.Offers.{offered_at}
use Rattle.afs_sites.specs.declared.offers.Offered.{Offered}

-- ---- the message is used

-- as the client's row has it
pub used_taken : {E : Type 0} (clock : ℕ) (m : Message) (old new : NodeState CopyState) (r : Result Outs E) → Takes (λ place. guest_row old.node old.state.client clock place (Whole m)) old new r → TakesCopy (λ place. uses old.node old.state clock place m) old new r
used_taken clock m old new r h =
    stepped.takes_same (λ place. sent_to_site old.node old.state (guest_row old.node old.state.client clock place (Whole m))) (λ place. uses old.node old.state clock place m) old new r
    (λ place. placed_is old.node old.state (guest_row old.node old.state.client clock place (Whole m))) h

-- steps that are the same, in other words
pub copies_same : {E : Type 0} (step other : ℕ → Step CopyState) (old new : NodeState CopyState) (r : Result Outs E) → ((place : ℕ) → step place ≡ other place) → TakesCopy step old new r → TakesCopy other old new r
copies_same step other old new r same h = stepped.takes_same step other old new r same h

then_same : {A : Type 0} (b : Bool) (x y : A) → true ≡ b → x ≡ cond b x y
then_same true x y e = refl
then_same false x y e = absurd cc

else_same : {A : Type 0} (b : Bool) (x y : A) → false ≡ b → y ≡ cond b x y
else_same true x y e = absurd cc
else_same false x y e = refl

-- whether a break overtook the reply to the act's reading call
pub spent_is : (c : ClientState) (act : Going) → c.running ≡ Some act → spent_by c c.running ≡ is_spent c act
spent_is c act e = ap (spent_by c) e

pub awaited_is : (c : ClientState) (head : Head) (act : Going) → c.running ≡ Some act → awaited_by c head c.running ≡ is_awaited c act head
awaited_is c head act e = ap (awaited_by c head) e

pub round_is : (c : CopyState) (act : Going) → c.client.running ≡ Some act → round_running c c.client.running ≡ round_of c act
round_is c act e = ap (round_running c) e

-- ---- a refusal

pub refusal_used : {E : Type 0} (clock : ℕ) (m : Message) (act : Going) (round : Round) (code : Code) (old new : NodeState CopyState) (r : Result Outs E) → true ≡ (is_busy_code code || is_spent old.state.client act)
    → Takes (λ place. guest_row old.node old.state.client clock place (Whole m)) old new r → TakesCopy (λ place. refuses_at old.node old.state clock place m act round code) old new r
refusal_used clock m act round code old new r e h =
    copies_same (λ place. uses old.node old.state clock place m) (λ place. refuses_at old.node old.state clock place m act round code) old new r
    (λ place. then_same (is_busy_code code || is_spent old.state.client act) (uses old.node old.state clock place m) (leaves_site old.node old.state act (record round { refusal = Some code }) (lines.Given place ∷ [])) e) (used_taken clock m old new r h)

pub refusal_leaves : {E : Type 0} (clock : ℕ) (m : Message) (act : Going) (round : Round) (code : Code) (old new : NodeState CopyState) (r : Result Outs E) → false ≡ (is_busy_code code || is_spent old.state.client act)
    → TakesCopy (λ place. leaves_site old.node old.state act (record round { refusal = Some code }) (lines.Given place ∷ [])) old new r → TakesCopy (λ place. refuses_at old.node old.state clock place m act round code) old new r
refusal_leaves clock m act round code old new r e h =
    copies_same (λ place. leaves_site old.node old.state act (record round { refusal = Some code }) (lines.Given place ∷ [])) (λ place. refuses_at old.node old.state clock place m act round code) old new r
    (λ place. else_same (is_busy_code code || is_spent old.state.client act) (uses old.node old.state clock place m) (leaves_site old.node old.state act (record round { refusal = Some code }) (lines.Given place ∷ [])) e) h

-- ---- a release

pub release_older : {E : Type 0} (clock : ℕ) (m : Message) (act : Going) (round : Round) (n : ℕ) (old new : NodeState CopyState) (r : Result Outs E) → true ≡ nat_lt n (seen_of old.state round.volume)
    → TakesCopy (λ place. leaves_site old.node old.state act (record round { offered = Some n }) (lines.Given place ∷ [])) old new r → TakesCopy (λ place. by_release old.node old.state clock place m act round n) old new r
release_older clock m act round n old new r e h =
    copies_same (λ place. leaves_site old.node old.state act (record round { offered = Some n }) (lines.Given place ∷ [])) (λ place. by_release old.node old.state clock place m act round n) old new r
    (λ place. then_same (nat_lt n (seen_of old.state round.volume)) (leaves_site old.node old.state act (record round { offered = Some n }) (lines.Given place ∷ []))
    (cond (nat_lt (seen_of old.state round.volume) n) (uses_newer old.node old.state clock place m round.volume n) (uses old.node old.state clock place m)) e) h

pub release_newer : {E : Type 0} (clock : ℕ) (m : Message) (act : Going) (round : Round) (n : ℕ) (old new : NodeState CopyState) (r : Result Outs E) → false ≡ nat_lt n (seen_of old.state round.volume) → true ≡ nat_lt (seen_of old.state round.volume) n
    → TakesCopy (λ place. uses_newer old.node old.state clock place m round.volume n) old new r → TakesCopy (λ place. by_release old.node old.state clock place m act round n) old new r
release_newer clock m act round n old new r f e h =
    copies_same (λ place. uses_newer old.node old.state clock place m round.volume n) (λ place. by_release old.node old.state clock place m act round n) old new r
    (λ place. then_same (nat_lt (seen_of old.state round.volume) n) (uses_newer old.node old.state clock place m round.volume n) (uses old.node old.state clock place m) e
    ∙ else_same (nat_lt n (seen_of old.state round.volume)) (leaves_site old.node old.state act (record round { offered = Some n }) (lines.Given place ∷ []))
    (cond (nat_lt (seen_of old.state round.volume) n) (uses_newer old.node old.state clock place m round.volume n) (uses old.node old.state clock place m)) f) h

pub release_same : {E : Type 0} (clock : ℕ) (m : Message) (act : Going) (round : Round) (n : ℕ) (old new : NodeState CopyState) (r : Result Outs E) → false ≡ nat_lt n (seen_of old.state round.volume) → false ≡ nat_lt (seen_of old.state round.volume) n
    → Takes (λ place. guest_row old.node old.state.client clock place (Whole m)) old new r → TakesCopy (λ place. by_release old.node old.state clock place m act round n) old new r
release_same clock m act round n old new r f e h =
    copies_same (λ place. uses old.node old.state clock place m) (λ place. by_release old.node old.state clock place m act round n) old new r
    (λ place. else_same (nat_lt (seen_of old.state round.volume) n) (uses_newer old.node old.state clock place m round.volume n) (uses old.node old.state clock place m) e
    ∙ else_same (nat_lt n (seen_of old.state round.volume)) (leaves_site old.node old.state act (record round { offered = Some n }) (lines.Given place ∷ []))
    (cond (nat_lt (seen_of old.state round.volume) n) (uses_newer old.node old.state clock place m round.volume n) (uses old.node old.state clock place m)) f) (used_taken clock m old new r h)

-- ---- an offer

pub offer_spent : {E : Type 0} (clock : ℕ) (m : Message) (act : Going) (round : Round) (o : Offer) (old new : NodeState CopyState) (r : Result Outs E) → true ≡ (is_spent old.state.client act || list_any (is_over clock) o.expiries)
    → TakesCopy (λ place. calls_round old.node old.state act round (lines.Given place ∷ [])) old new r → TakesCopy (λ place. offers old.node old.state clock place m act round (Some o)) old new r
offer_spent clock m act round o old new r e h =
    copies_same (λ place. calls_round old.node old.state act round (lines.Given place ∷ [])) (λ place. offers old.node old.state clock place m act round (Some o)) old new r
    (λ place. then_same (is_spent old.state.client act || list_any (is_over clock) o.expiries) (calls_round old.node old.state act round (lines.Given place ∷ [])) (by_release old.node old.state clock place m act round o.release) e) h

pub offer_taken : {E : Type 0} (clock : ℕ) (m : Message) (act : Going) (round : Round) (o : Offer) (old new : NodeState CopyState) (r : Result Outs E) → false ≡ (is_spent old.state.client act || list_any (is_over clock) o.expiries)
    → TakesCopy (λ place. by_release old.node old.state clock place m act round o.release) old new r → TakesCopy (λ place. offers old.node old.state clock place m act round (Some o)) old new r
offer_taken clock m act round o old new r e h =
    copies_same (λ place. by_release old.node old.state clock place m act round o.release) (λ place. offers old.node old.state clock place m act round (Some o)) old new r
    (λ place. else_same (is_spent old.state.client act || list_any (is_over clock) o.expiries) (calls_round old.node old.state act round (lines.Given place ∷ [])) (by_release old.node old.state clock place m act round o.release) e) h

-- ---- a newer release

-- the row of a message that answers the act's call, where no break overtook it
guest_is : (me : Node) (c : ClientState) (clock place : ℕ) (head : Head) (reply : FsReply) (act : Going) → c.seeking ≡ None → same_node head.to me ≡ true → c.running ≡ Some act → is_awaited c act head ≡ true → is_spent c act ≡ false
    → guest_row me c clock place (Whole (record { head = head; carried = carried.Reply (tell.File reply) })) ≡ takes me c clock place act (call_of c act) reply
unfolding client_row
guest_is me c clock place head reply act idle here run awaited used =
    let m : Message = record { head = head; carried = carried.Reply (tell.File reply) } in
    ap (sought_or me c clock place m) idle
    ∙ (sym (then_same (same_node head.to me) (hears me c clock place head (carried.Reply (tell.File reply))) (ignores c place) (sym here))
    ∙ (ap (awaits me c clock place head (carried.Reply (tell.File reply))) run
    ∙ (sym (then_same (is_awaited c act head) (counts me c clock place act head (carried.Reply (tell.File reply))) (ignores c place) (sym awaited))
    ∙ sym (else_same (is_spent c act) (calls_again me c place act) (takes me c clock place act (call_of c act) reply) (sym used)))))

-- the lines of entries that go stand behind the one that names the message
telling_dropped : (me : Node) (cache : List CacheEntry) (id n : ℕ) (x : Dropping) (s : Step ClientState) → IsDropping me cache (drops.Below id n) [] x → telling x.lines s ≡ dropping me (filter (is_below_release id n) cache) s
telling_dropped me cache id n x s h =
    ap (λ (ls : List Line). telling ls s)
    (h.lines ∙ (ap (map (drop_line me)) h.fids ∙ (sym (append-nil (map (drop_line me) (map (λ (e : CacheEntry). e.fid) (filter (is_below_release id n) cache)))) ∙ sym (dropped_front me (filter (is_below_release id n) cache) []))))

newer_as : (me : Node) (c : CopyState) (clock place : ℕ) (head : Head) (reply : FsReply) (act : Going) (id n : ℕ) (x : Dropping) → IsDropping me c.client.cache (drops.Below id n) [] x → c.client.seeking ≡ None → same_node head.to me ≡ true → c.client.running ≡ Some act
    → is_awaited c.client act head ≡ true → is_spent c.client act ≡ false
    → sent_to_site me (without_older c id n) (telling x.lines (by_call (without_older c id n).client place (λ g call. takes me (without_older c id n).client clock place g call reply) c.client.running)) ≡ uses_newer me c clock place (record { head = head; carried = carried.Reply (tell.File reply) }) id n
newer_as me c clock place head reply act id n x d idle here run awaited used =
    let k : ClientState = (without_older c id n).client in
    ap (λ (o : Option Going). sent_to_site me (without_older c id n) (telling x.lines (by_call k place (λ g call. takes me k clock place g call reply) o))) run
    ∙ (ap (λ (s : Step ClientState). sent_to_site me (without_older c id n) (telling x.lines s)) (sym (guest_is me k clock place head reply act idle here run awaited used))
    ∙ (ap (sent_to_site me (without_older c id n)) (telling_dropped me c.client.cache id n x (guest_row me k clock place (Whole (record { head = head; carried = carried.Reply (tell.File reply) }))) d)
    ∙ placed_is me (without_older c id n) (dropping me (filter (is_below_release id n) c.client.cache) (guest_row me k clock place (Whole (record { head = head; carried = carried.Reply (tell.File reply) }))))))

pub newer_taken : {E : Type 0} (clock : ℕ) (head : Head) (reply : FsReply) (id n : ℕ) (x : Dropping) (cache : List CacheEntry) (seen : Table ℕ) (old new : NodeState CopyState) (r : Result Outs E) → IsDropping old.node old.state.client.cache (drops.Below id n) [] x
    → cache ≡ left (drops.Below id n) old.state.client.cache → seen ≡ set id n old.state.seen → IsHeard old head → spent_by old.state.client old.state.client.running ≡ false
    → KeepsThen cache seen (λ c place. telling x.lines (by_call c place (λ act call. takes old.node c clock place act call reply) c.running)) old new r
    → OfAct (λ place act. uses_newer old.node old.state clock place (record { head = head; carried = carried.Reply (tell.File reply) }) id n) old new r
newer_taken {E} clock head reply id n x cache seen old new r d e q heard used h act run =
    let c : CopyState = old.state in
    let step : ClientState → ℕ → Step ClientState = λ k place. telling x.lines (by_call k place (λ g call. takes old.node k clock place g call reply) k.running) in
    let same : KeepsThen (left (drops.Below id n) c.client.cache) (set id n c.seen) step old new r =
    subst (λ (t : Table ℕ). KeepsThen (left (drops.Below id n) c.client.cache) t step old new r) q (subst (λ (es : List CacheEntry). KeepsThen es seen step old new r) e h) in
    copies_same (λ place. sent_to_site old.node (without_older c id n) (step (without_older c id n).client place)) (λ place. uses_newer old.node c clock place (record { head = head; carried = carried.Reply (tell.File reply) }) id n) old new r
    (λ place. newer_as old.node c clock place head reply act id n x d heard.idle heard.here run (sym (awaited_is c.client head act run) ∙ heard.awaited) (sym (spent_is c.client act run) ∙ used)) same

-- where memory was wanting it keeps what it kept
pub newer_back : (old mid new last : NodeState CopyState) (cache known : List CacheEntry) (seen kept : Table ℕ) → mid ≡ record old { state = keeping old.state cache seen } → known ≡ old.state.client.cache → kept ≡ old.state.seen → new ≡ mid
    → last ≡ record new { state = keeping new.state known kept } → last ≡ old
newer_back old mid new last cache known seen kept m b q n l =
    l ∙ (ap (λ (s : NodeState CopyState). record s { state = keeping s.state known kept }) (n ∙ m)
    ∙ (ap (λ (es : List CacheEntry). record old { state = keeping old.state es kept }) b ∙ ap (λ (t : Table ℕ). record old { state = keeping old.state old.state.client.cache t }) q))

pub keeping_taken : (step : ClientState → ℕ → Step ClientState) (old mid new : NodeState CopyState) (cache : List CacheEntry) (seen : Table ℕ) (outs : Outs) → mid ≡ record old { state = keeping old.state cache seen }
    → Takes {E = AllocError} (λ place. step mid.state.client place) mid new (Ok outs) → KeepsThen {E = AllocError} cache seen step old new (Ok outs)
keeping_taken step old mid new cache seen outs m h = subst (λ (s : NodeState CopyState). Takes {E = AllocError} (λ (place : ℕ). step s.state.client place) s new (Ok outs)) m h

-- ---- what the site answers

pub offer_none : {E : Type 0} (clock : ℕ) (m : Message) (act : Going) (round : Round) (o : Option Offer) (old new : NodeState CopyState) (r : Result Outs E) → o ≡ None
    → Takes (λ place. guest_row old.node old.state.client clock place (Whole m)) old new r → TakesCopy (λ place. offers old.node old.state clock place m act round o) old new r
offer_none clock m act round o old new r e h =
    copies_same (λ place. uses old.node old.state clock place m) (λ place. offers old.node old.state clock place m act round o) old new r (λ place. ap (offers old.node old.state clock place m act round) (sym e)) (used_taken clock m old new r h)

other_reply : (me : Node) (c : CopyState) (clock place : ℕ) (m : Message) (act : Going) (round : Round) (reply : Reply) → file_reply reply ≡ None → uses me c clock place m ≡ answers_at me c clock place m act round (carried.Reply reply)
other_reply me c clock place m act round (tell.File reply) e = absurd cc
other_reply me c clock place m act round (tell.Volume reply) e = refl
other_reply me c clock place m act round (tell.Location reply) e = refl

pub other_used : {E : Type 0} (clock : ℕ) (m : Message) (act : Going) (round : Round) (reply : Reply) (old new : NodeState CopyState) (r : Result Outs E) → file_reply reply ≡ None
    → Takes (λ place. guest_row old.node old.state.client clock place (Whole m)) old new r → TakesCopy (λ place. answers_at old.node old.state clock place m act round (carried.Reply reply)) old new r
other_used clock m act round reply old new r e h =
    copies_same (λ place. uses old.node old.state clock place m) (λ place. answers_at old.node old.state clock place m act round (carried.Reply reply)) old new r (λ place. other_reply old.node old.state clock place m act round reply e) (used_taken clock m old new r h)

-- ---- whose answer a message is

both_true : (a b : Bool) → a ≡ true → b ≡ true → (a && b) ≡ true
both_true true true p q = refl
both_true true false p q = absurd cc
both_true false b p q = absurd cc

pub unheard_by : (me : Node) (c : CopyState) (clock place : ℕ) (m : Message) (o : Option Going) → (same_node m.head.to me && awaited_by c.client m.head o) ≡ false → uses me c clock place m ≡ answers_to me c clock place m o
unheard_by me c clock place m None e = refl
unheard_by me c clock place m (Some act) e = else_same (same_node m.head.to me && is_awaited c.client act m.head) (answers_in me c clock place m act (round_of c act)) (uses me c clock place m) (sym e)

-- ---- a timeout

pub dead_as : (me : Node) (c : CopyState) (act : Going) (o : Option Round) → is_sent_again c.client.tries ≡ false → dies_by me c act o ≡ copy_rows.times_out me c act o
dead_as me c act None e = ap (as_it_is c) (else_same (is_sent_again c.client.tries) (tries_again me c.client act) (gives_up me c.client (call_of c.client act)) (sym e))
dead_as me c act (Some r) e = else_same (is_sent_again c.client.tries) (as_it_is c (timeout_row me c.client act)) (dies_at me c act r) (sym e)

sent_again : (me : Node) (c : CopyState) (act : Going) (o : Option Round) → is_sent_again c.client.tries ≡ true → as_it_is c (tries_again me c.client act) ≡ copy_rows.times_out me c act o
sent_again me c act None e = ap (as_it_is c) (then_same (is_sent_again c.client.tries) (tries_again me c.client act) (gives_up me c.client (call_of c.client act)) (sym e))
sent_again me c act (Some r) e =
    ap (as_it_is c) (then_same (is_sent_again c.client.tries) (tries_again me c.client act) (gives_up me c.client (call_of c.client act)) (sym e))
    ∙ then_same (is_sent_again c.client.tries) (as_it_is c (timeout_row me c.client act)) (dies_at me c act r) (sym e)

waits_as : (me : Node) (c : CopyState) (act : Going) → copy_rows.times_out me c act (round_of c act) ≡ copy_timeout_row me c act
unfolding copy_timeout_row
waits_as me c act = refl

-- the act that runs is timed out
pub times_as : (me : Node) (c : CopyState) (act : Going) → c.client.running ≡ Some act → copy_rows.times_out me c act (round_of c act) ≡ copy_times_out me c c.client.running
times_as me c act run = waits_as me c act ∙ ap (copy_times_out me c) (sym run)

pub dead_answered : {E : Type 0} (act : Going) (old new : NodeState CopyState) (r : Result Outs E) → old.state.client.running ≡ Some act → is_sent_again old.state.client.tries ≡ false → AnswersCopy (dies_by old.node old.state act (round_of old.state act)) old new r
    → AnswersCopy (copy_times_out old.node old.state old.state.client.running) old new r
dead_answered act old new r run e h =
    subst (λ (s : Step CopyState). AnswersCopy s old new r) (dead_as old.node old.state act (round_of old.state act) e ∙ times_as old.node old.state act run) h

pub again_answered : (act : Going) (gifts : List Gift) (tries : ℕ) (old new : NodeState CopyState) (outs : Outs) → old.state.client.running ≡ Some act → gifts ≡ old.state.client.gifts → is_sent_again old.state.client.tries ≡ true → tries ≡ old.state.client.tries + 1
    → new ≡ record old { state = with_client old.state (record old.state.client { tries = tries }) } → outs.lines ≡ timeout_line old.node old.state.client tries ∷ []
    → parcels_read outs.parcels ≡ messages_spelled (sent_to old.node old.state.client old.state.client.last old.state.client.callee (boot_of old.state.client.callee old.state.client.boots) (call_by gifts (next act)) ∷ [])
    → AnswersCopy {E = AllocError} (copy_times_out old.node old.state old.state.client.running) old new (Ok outs)
again_answered act gifts tries old new outs run g e t n l p = (
  ap (λ (s : NodeState CopyState). s.node) n,
  subst (λ (s : Step CopyState). Makes s new.state (λ ls. ls) outs) (sent_again old.node old.state act (round_of old.state act) e ∙ times_as old.node old.state act run) (record {
    state = ap (λ (s : NodeState CopyState). s.state) n ∙ ap (λ (k : ℕ). with_client old.state (record old.state.client { tries = k })) t;
    lines = l ∙ ap (λ (k : ℕ). timeout_line old.node old.state.client k ∷ []) t;
    sent = p ∙ ap (λ (gs : List Gift). messages_spelled (sent_to old.node old.state.client old.state.client.last old.state.client.callee (boot_of old.state.client.callee old.state.client.boots) (call_by gs (next act)) ∷ [])) g;
  }),
)

seek_as : (me : Node) (c : CopyState) (o : Option Seek) → as_it_is c (seek_times_out me c.client o) ≡ copy_seek_times_out me c o
seek_as me c None = refl
seek_as me c (Some k) = refl

pub idle_timed : {E : Type 0} (old new : NodeState CopyState) (r : Result Outs E) → old.state.client.running ≡ None → AnswersStill (seek_times_out old.node old.state.client old.state.client.seeking) old new r
    → AnswersCopy (copy_times_out old.node old.state old.state.client.running) old new r
idle_timed old new r e h =
    subst (λ (s : Step CopyState). AnswersCopy s old new r) (seek_as old.node old.state old.state.client.seeking ∙ ap (copy_times_out old.node old.state) (sym e)) h

gone_is : (d : Drops) (o : Option ℕ) (cache : List CacheEntry) → d ≡ changed_in o → left d cache ≡ left_in o cache
gone_is d o cache e = ap (λ (x : Drops). left x cache) e ∙ left_is o cache

given_is_by : (d : Drops) (o : Option ℕ) (cache : List CacheEntry) → d ≡ changed_in o → filter (drops_of d) cache ≡ given_up_in o cache
given_is_by d o cache e = ap (λ (x : Drops). filter (drops_of x) cache) e ∙ given_is o cache

dies_lines : (me : Node) (c : ClientState) (d : Drops) (o : Option ℕ) (told : List Line) (dx : Dropping) → d ≡ changed_in o → told ≡ timeout_line me c last_timeout ∷ [] → IsDropping me c.cache d told dx → dx.lines ≡ timeout_line me c last_timeout ∷ dropped me (given_up_in o c.cache) []
dies_lines me c d o told dx e t h =
    h.lines
    ∙ (ap (λ (ls : List Line). ls ++ map (drop_line me) dx.fids.items) t
    ∙ (ap (λ (fs : List Fid). timeout_line me c last_timeout ∷ map (drop_line me) fs) h.fids
    ∙ (ap (λ (es : List CacheEntry). timeout_line me c last_timeout ∷ map (drop_line me) (map (λ (x : CacheEntry). x.fid) es)) (given_is_by d o c.cache e)
    ∙ ap (λ (ls : List Line). timeout_line me c last_timeout ∷ ls) (sym (append-nil (map (drop_line me) (map (λ (x : CacheEntry). x.fid) (given_up_in o c.cache)))) ∙ sym (dropped_front me (given_up_in o c.cache) [])))))

dies_as : (me : Node) (c : CopyState) (x : Asking) (act : Going) (call : FsCall) (round left_round : Round) (d : Drops) (told : List Line) (dx : Dropping) → x ≡ record { going = act; gifts = c.client.gifts } → call ≡ call_of c.client act
    → left_round ≡ record round { sites = behind_first round.sites } → d ≡ changed_in (volume_changed call) → told ≡ timeout_line me c.client last_timeout ∷ [] → IsDropping me c.client.cache d told dx
    → calls_round me (with_client c (record (but_for c.client (unlisted dx.fids.items c.client.cache) c.client.busy c.client.moved) { gifts = x.gifts })) x.going left_round dx.lines ≡ dies_at me c act round
dies_as me c x act call round left_round d told dx a k q e t h =
    let o : Option ℕ = volume_changed (call_of c.client act) in
    let same : d ≡ changed_in o = e ∙ ap (λ (y : FsCall). changed_in (volume_changed y)) k in
    ap (λ (y : Asking). calls_round me (with_client c (record c.client { cache = unlisted dx.fids.items c.client.cache; gifts = y.gifts })) y.going left_round dx.lines) a
    ∙ (ap (λ (y : Round). calls_round me (with_client c (record c.client { cache = unlisted dx.fids.items c.client.cache })) act y dx.lines) q
    ∙ (ap (λ (es : List CacheEntry). leaves_site me (with_client c (record c.client { cache = es })) act round dx.lines) (h.rest ∙ gone_is d o c.client.cache same)
    ∙ ap (leaves_site me (with_client c (record c.client { cache = left_in o c.client.cache })) act round) (dies_lines me c.client d o told dx same t h)))

-- its call is dead, and it leaves the site
pub dies_made : (x : Asking) (act : Going) (call : FsCall) (round left_round : Round) (d : Drops) (told : List Line) (dx : Dropping) (plan : Plan) (old new : NodeState CopyState) (outs : Outs) → PlansRound x left_round dx.lines old plan
    → x ≡ record { going = act; gifts = old.state.client.gifts } → call ≡ call_of old.state.client act → left_round ≡ record round { sites = behind_first round.sites } → d ≡ changed_in (volume_changed call) → told ≡ timeout_line old.node old.state.client last_timeout ∷ []
    → IsDropping old.node old.state.client.cache d told dx → new.node ≡ old.node → new.state ≡ followed (but_for_these old.state (unlisted dx.fids.items old.state.client.cache) old.state.client.busy old.state.client.moved) plan → outs ≡ outs_of plan
    → AnswersCopy {E = AllocError} (dies_at old.node old.state act round) old new (Ok outs)
dies_made x act call round left_round d told dx plan old new outs p a k q e t h n s o = (
  n,
  subst (λ (y : Step CopyState). Makes y new.state (λ ls. ls) outs) (dies_as old.node old.state x act call round left_round d told dx a k q e t h)
      (done_as (calls_round old.node (with_client old.state (record (but_for old.state.client (unlisted dx.fids.items old.state.client.cache) old.state.client.busy old.state.client.moved) { gifts = x.gifts })) x.going left_round dx.lines)
      (but_for_these old.state (unlisted dx.fids.items old.state.client.cache) old.state.client.busy old.state.client.moved) (but_for_these old.state (unlisted dx.fids.items old.state.client.cache) old.state.client.busy old.state.client.moved) plan new.state outs (λ ls. ls)
      (p (unlisted dx.fids.items old.state.client.cache) old.state.client.busy old.state.client.moved []) s refl o),
)

-- ---- an act begins, in no round

pub begun_anew : (clock : ℕ) (act : Act) (old mid new : NodeState CopyState) (outs : Outs) → mid ≡ record old { state = record old.state { round = None } } → Answers {E = AllocError} (begin_row mid.node mid.state.client clock act) mid new (Ok outs)
    → AnswersCopy {E = AllocError} (copy_begin_row old.node old.state clock act) old new (Ok outs)
unfolding sent_to_site copy_begin_row
begun_anew clock act old mid new outs m h = subst (λ (s : NodeState CopyState). Answers {E = AllocError} (begin_row s.node s.state.client clock act) s new (Ok outs)) m h

pub round_back : (old mid new last : NodeState CopyState) (known : Option Round) → mid ≡ record old { state = record old.state { round = None } } → known ≡ old.state.round → new ≡ mid → last ≡ record new { state = record new.state { round = known } } → last ≡ old
round_back old mid new last known m b n l =
    l ∙ (ap (λ (s : NodeState CopyState). record s { state = record s.state { round = known } }) (n ∙ m) ∙ ap (λ (o : Option Round). record old { state = record old.state { round = o } }) b)

-- ---- replies to reading calls

pub reads_none : (reply : FsReply) → ((b : List ℕ) (s : AfsFetchStatus) (k : AfsCallBack) (y : AfsVolSync) → reply ≡ replies.FetchData b s k y → ⊥) → ((b : List ℕ) (s : AfsFetchStatus) (y : AfsVolSync) → reply ≡ replies.FetchAcl b s y → ⊥) → ((s : AfsFetchStatus) (k : AfsCallBack) (y : AfsVolSync) → reply ≡ replies.FetchStatus s k y → ⊥) → ((s : List AfsFetchStatus) (k : List AfsCallBack) (y : AfsVolSync) → reply ≡ replies.BulkStatus s k y → ⊥)
    → IsSome (offer_in reply) → ⊥
reads_none (replies.FetchData qb qs qk qy) no_data no_rights no_status no_statuses reads = no_data qb qs qk qy refl
reads_none (replies.FetchAcl qa qs qy) no_data no_rights no_status no_statuses reads = no_rights qa qs qy refl
reads_none (replies.FetchStatus qs qk qy) no_data no_rights no_status no_statuses reads = no_status qs qk qy refl
reads_none (replies.StoreData qs qy) no_data no_rights no_status no_statuses reads = absurd cc
reads_none (replies.StoreAcl qs qy) no_data no_rights no_status no_statuses reads = absurd cc
reads_none (replies.StoreStatus qs qy) no_data no_rights no_status no_statuses reads = absurd cc
reads_none (replies.RemoveFile qd qy) no_data no_rights no_status no_statuses reads = absurd cc
reads_none (replies.CreateFile qf qs qd qk qy) no_data no_rights no_status no_statuses reads = absurd cc
reads_none (replies.Rename qd qe qy) no_data no_rights no_status no_statuses reads = absurd cc
reads_none (replies.Symlink qf qs qd qy) no_data no_rights no_status no_statuses reads = absurd cc
reads_none (replies.Link qs qd qy) no_data no_rights no_status no_statuses reads = absurd cc
reads_none (replies.MakeDir qf qs qd qk qy) no_data no_rights no_status no_statuses reads = absurd cc
reads_none (replies.RemoveDir qd qy) no_data no_rights no_status no_statuses reads = absurd cc
reads_none replies.GiveUpCallBacks no_data no_rights no_status no_statuses reads = absurd cc
reads_none (replies.GetVolumeStatus qv qk qq qu qn) no_data no_rights no_status no_statuses reads = absurd cc
reads_none (replies.GetTime qc qm) no_data no_rights no_status no_statuses reads = absurd cc
reads_none (replies.BulkStatus qs qk qy) no_data no_rights no_status no_statuses reads = no_statuses qs qk qy refl
reads_none replies.CallBack no_data no_rights no_status no_statuses reads = absurd cc
reads_none replies.InitCallBackState no_data no_rights no_status no_statuses reads = absurd cc
reads_none replies.Probe no_data no_rights no_status no_statuses reads = absurd cc

-- ---- what was received

pub some_seeks : (o : Option Seek) → is_some o ≡ true → IsSome o
some_seeks None e = absurd cc
some_seeks (Some k) e = refl

pub none_seeks : (o : Option Seek) → is_some o ≡ false → o ≡ None
none_seeks None e = refl
none_seeks (Some k) e = absurd cc

pub message_heard : {E : Type 0} (clock : ℕ) (m : Message) (old new : NodeState CopyState) (r : Result Outs E) → TakesCopy (λ place. hears_by old.node old.state clock place m old.state.client.seeking) old new r → TakesCopy (λ place. copy_row old.node old.state clock place (Whole m)) old new r
unfolding copy_row
message_heard clock m old new r h = h

pub idle_heard : {E : Type 0} (clock : ℕ) (m : Message) (old new : NodeState CopyState) (r : Result Outs E) → old.state.client.seeking ≡ None → TakesCopy (λ place. answers_to old.node old.state clock place m old.state.client.running) old new r
    → TakesCopy (λ place. copy_row old.node old.state clock place (Whole m)) old new r
idle_heard clock m old new r e h =
    message_heard clock m old new r
    (copies_same (λ place. answers_to old.node old.state clock place m old.state.client.running) (λ place. hears_by old.node old.state clock place m old.state.client.seeking) old new r (λ place. ap (hears_by old.node old.state clock place m) (sym e)) h)

pub received_as : {E : Type 0} (clock : ℕ) (x received : Received) (old new : NodeState CopyState) (r : Result Outs E) → x ≡ received → TakesCopy (λ place. copy_row old.node old.state clock place x) old new r → TakesCopy (λ place. copy_row old.node old.state clock place received) old new r
received_as clock x received old new r e t = subst (λ (y : Received). TakesCopy (λ (place : ℕ). copy_row old.node old.state clock place y) old new r) e t

placed_taken : {E : Type 0} (step : ℕ → Step ClientState) (old new : NodeState CopyState) (r : Result Outs E) → Takes step old new r → TakesCopy (λ place. sited old.node old.state (step place)) old new r
placed_taken step old new r h = copies_same (λ place. sent_to_site old.node old.state (step place)) (λ place. sited old.node old.state (step place)) old new r (λ place. placed_is old.node old.state (step place)) h

pub nothing_heard : {E : Type 0} (clock : ℕ) (old new : NodeState CopyState) (r : Result Outs E) → Takes (λ place. guest_row old.node old.state.client clock place Nothing) old new r → TakesCopy (λ place. copy_row old.node old.state clock place Nothing) old new r
unfolding copy_row
nothing_heard clock old new r h = placed_taken (λ place. guest_row old.node old.state.client clock place Nothing) old new r h

pub unserved_heard : {E : Type 0} (clock : ℕ) (head : Head) (old new : NodeState CopyState) (r : Result Outs E) → Takes (λ place. guest_row old.node old.state.client clock place (Unserved head)) old new r → TakesCopy (λ place. copy_row old.node old.state clock place (Unserved head)) old new r
unfolding copy_row
unserved_heard clock head old new r h = placed_taken (λ place. guest_row old.node old.state.client clock place (Unserved head)) old new r h

pub unreadable_heard : {E : Type 0} (clock : ℕ) (head : Head) (old new : NodeState CopyState) (r : Result Outs E) → Takes (λ place. guest_row old.node old.state.client clock place (Unreadable head)) old new r → TakesCopy (λ place. copy_row old.node old.state clock place (Unreadable head)) old new r
unfolding copy_row
unreadable_heard clock head old new r h = placed_taken (λ place. guest_row old.node old.state.client clock place (Unreadable head)) old new r h

-- ---- the database tells an entry

pub entry_when : (me : Node) (c : ClientState) (head : Head) (x : Carried) (o : Option Seek) → true ≡ sought_by_head me c head x o → entry_carried x ≡ entry_answered me c head x o
entry_when me c head x o e = then_same (sought_by_head me c head x o) (entry_carried x) None e

pub entry_unless : (me : Node) (c : ClientState) (head : Head) (x : Carried) (o : Option Seek) → false ≡ sought_by_head me c head x o → None ≡ entry_answered me c head x o
entry_unless me c head x o e = else_same (sought_by_head me c head x o) (entry_carried x) None e

-- it is one of a reply that has a spelling
fits_by : (b : Bool) (o : Option LocEntry) (e : LocEntry) → IfSome o IsEntry → Some e ≡ cond b o None → IsEntry e
fits_by true None e h q = absurd cc
fits_by true (Some x) e h q = let same : e ≡ x = cc in subst IsEntry (sym same) h
fits_by false o e h q = absurd cc

carried_fits : (x : Carried) (head : Head) → HasSpelling (record { head = head; carried = x }) → IfSome (entry_carried x) IsEntry
carried_fits (carried.Call user call) head h = tt
carried_fits (carried.Refusal code) head h = tt
carried_fits (carried.Reply (tell.File reply)) head h = tt
carried_fits (carried.Reply (tell.Volume reply)) head h = tt
carried_fits (carried.Reply (tell.Location reply)) head h = entry_fits (tell.Location reply) head h
carried_fits carried.Notice head h = tt

pub entry_is_fit : (me : Node) (c : ClientState) (head : Head) (x : Carried) (o : Option Seek) (e : LocEntry) → Some e ≡ entry_answered me c head x o → HasSpelling (record { head = head; carried = x }) → IsEntry e
entry_is_fit me c head x o e q h = fits_by (sought_by_head me c head x o) (entry_carried x) e (carried_fits x head h) q

-- the act that waits goes on with another table
pub renewed_ok : {E : Type 0} (table : List Location) (found : Seek) (o : Option Seek) (r : Result Seek E) → Some found ≡ o → IfOk r (λ k. k ≡ record found { act = filled table (forgotten found.act) }) → IfOk r (λ k. Some k ≡ renewed_in table o)
renewed_ok table found o (Ok k) e h = ap (λ (x : Seek). Some x) h ∙ ap (renewed_in table) e
renewed_ok table found o (Err x) e h = tt

tells_not : (me : Node) (c : ClientState) (m : Message) (k : Seek) (sought : Bool) (o : Option LocEntry) → cond sought o None ≡ None → (sought && is_new_entry c.table o) ≡ false
tells_not me c m k true None e = refl
tells_not me c m k true (Some x) e = absurd cc
tells_not me c m k false o e = refl

unrenewed : {A : Type 0} (b : Bool) (x : Option A) → b ≡ false → None ≡ cond b x None
unrenewed true x e = absurd cc
unrenewed false x e = refl

pub renewed_none : (me : Node) (c : ClientState) (m : Message) (o : Option Seek) → None ≡ entry_answered me c m.head m.carried o → None ≡ renewed_by me c m o
renewed_none me c m None e = refl
renewed_none me c m (Some k) e = unrenewed (tells_new me c m k) (renewing c k (entry_carried m.carried)).seeking (tells_not me c m k (is_sought me c k m.head m.carried) (entry_carried m.carried) (sym e))

known_not : (c : ClientState) (sought : Bool) (o : Option LocEntry) (e : LocEntry) → Some e ≡ cond sought o None → has_location e c.table ≡ true → (sought && is_new_entry c.table o) ≡ false
known_not c true None e q h = absurd cc
known_not c true (Some x) e q h = let same : e ≡ x = cc in ap not (sym (ap (λ (y : LocEntry). has_location y c.table) same) ∙ h)
known_not c false o e q h = refl

pub renewed_known : (me : Node) (c : ClientState) (m : Message) (o : Option Seek) (e : LocEntry) → Some e ≡ entry_answered me c m.head m.carried o → Puts e c.table None → None ≡ renewed_by me c m o
renewed_known me c m None e q h = refl
renewed_known me c m (Some k) e q h = unrenewed (tells_new me c m k) (renewing c k (entry_carried m.carried)).seeking (known_not c (is_sought me c k m.head m.carried) (entry_carried m.carried) e q h)

new_is : (me : Node) (c : ClientState) (k found : Seek) (sought : Bool) (o : Option LocEntry) (e : LocEntry) (table : List Location) → Some e ≡ cond sought o None → Puts e c.table (Some table) → Some found ≡ renewed_in table (Some k)
    → Some found ≡ cond (sought && is_new_entry c.table o) (renewing c k o).seeking None
new_is me c k found true None e table q h f = absurd cc
new_is me c k found true (Some x) e table q h f =
    let same : e ≡ x = cc in
    f ∙ (ap (λ (t : List Location). renewed_in t (Some k)) h.1
    ∙ (ap (λ (y : LocEntry). renewed_in (put_location y c.table) (Some k)) same
    ∙ then_same (not (has_location x c.table)) (renewing c k (Some x)).seeking None (sym (ap not (sym (ap (λ (y : LocEntry). has_location y c.table) same) ∙ h.0)))))
new_is me c k found false o e table q h f = absurd cc

pub renewed_new : (me : Node) (c : ClientState) (m : Message) (o : Option Seek) (e : LocEntry) (table : List Location) (found : Seek) → IsSome o → Some e ≡ entry_answered me c m.head m.carried o → Puts e c.table (Some table) → Some found ≡ renewed_in table o → Some found ≡ renewed_by me c m o
renewed_new me c m None e table found i q h f = absurd cc
renewed_new me c m (Some k) e table found i q h f = new_is me c k found (is_sought me c k m.head m.carried) (entry_carried m.carried) e table q h f

-- the row doesn't look further at what it was told
renewing_uses : (me : Node) (c : CopyState) (clock place : ℕ) (m : Message) (k found : Seek) (o : Option LocEntry) → Some found ≡ (renewing c.client k o).seeking → c.client.seeking ≡ Some k
    → uses me (with_client c (record c.client { seeking = Some found })) clock place m ≡ uses me (with_client c (renewing c.client k o)) clock place m
renewing_uses me c clock place m k found None e s = ap (λ (x : Option Seek). uses me (with_client c (record c.client { seeking = x })) clock place m) e
renewing_uses me c clock place m k found (Some y) e s = ap (λ (x : Option Seek). uses me (with_client c (record c.client { seeking = x })) clock place m) e

-- and takes the message so
renewed_by_is : (me : Node) (c : CopyState) (clock place : ℕ) (m : Message) (k found : Seek) (b : Bool) → c.client.seeking ≡ Some k → tells_new me c.client m k ≡ b → Some found ≡ cond b (renewing c.client k (entry_carried m.carried)).seeking None
    → uses me (with_client c (record c.client { seeking = Some found })) clock place m ≡ hears_by me c clock place m (Some k)
renewed_by_is me c clock place m k found true s t e =
    renewing_uses me c clock place m k found (entry_carried m.carried) e s
    ∙ then_same (tells_new me c.client m k) (uses me (with_client c (renewing c.client k (entry_carried m.carried))) clock place m) (uses me c clock place m) (sym t)
renewed_by_is me c clock place m k found false s t e = absurd cc

renewed_heard : {E : Type 0} (clock : ℕ) (m : Message) (found : Seek) (o : Option Seek) (old new : NodeState CopyState) (r : Result Outs E) → old.state.client.seeking ≡ o → Some found ≡ renewed_by old.node old.state.client m o
    → Takes (λ place. guest_row old.node (record old.state.client { seeking = Some found }) clock place (Whole m)) old new r → TakesCopy (λ place. hears_by old.node old.state clock place m o) old new r
unfolding sent_to_site
renewed_heard clock m found None old new r q e h = absurd cc
renewed_heard clock m found (Some k) old new r q e h =
    copies_same (λ place. uses old.node (with_client old.state (record old.state.client { seeking = Some found })) clock place m) (λ place. hears_by old.node old.state clock place m (Some k)) old new r
    (λ place. renewed_by_is old.node old.state clock place m k found (tells_new old.node old.state.client m k) q refl e) h

unrenewed_by : {A : Type 0} (b : Bool) (x y : A) (s : Option Seek) → IsSome s → None ≡ cond b s None → y ≡ cond b x y
unrenewed_by true x y None i e = absurd cc
unrenewed_by true x y (Some k) i e = absurd cc
unrenewed_by false x y s i e = refl

renewing_some : (c : ClientState) (k : Seek) (o : Option LocEntry) → c.seeking ≡ Some k → IsSome (renewing c k o).seeking
renewing_some c k None e = subst IsSome (sym e) refl
renewing_some c k (Some x) e = refl

unrenewed_heard : {E : Type 0} (clock : ℕ) (m : Message) (o : Option Seek) (old new : NodeState CopyState) (r : Result Outs E) → old.state.client.seeking ≡ o → IsSome o → None ≡ renewed_by old.node old.state.client m o
    → Takes (λ place. guest_row old.node old.state.client clock place (Whole m)) old new r → TakesCopy (λ place. hears_by old.node old.state clock place m o) old new r
unrenewed_heard clock m None old new r q i e h = absurd cc
unrenewed_heard clock m (Some k) old new r q i e h =
    copies_same (λ place. uses old.node old.state clock place m) (λ place. hears_by old.node old.state clock place m (Some k)) old new r
    (λ place. unrenewed_by (tells_new old.node old.state.client m k) (uses old.node (with_client old.state (renewing old.state.client k (entry_carried m.carried))) clock place m) (uses old.node old.state clock place m) (renewing old.state.client k (entry_carried m.carried)).seeking (renewing_some old.state.client k (entry_carried m.carried) q) e)
    (used_taken clock m old new r h)

pub renewed_taken : {E : Type 0} (clock : ℕ) (m : Message) (found : Seek) (old new : NodeState CopyState) (r : Result Outs E) → Some found ≡ renewed_by old.node old.state.client m old.state.client.seeking
    → Takes (λ place. guest_row old.node (record old.state.client { seeking = Some found }) clock place (Whole m)) old new r → TakesCopy (λ place. hears_by old.node old.state clock place m old.state.client.seeking) old new r
renewed_taken clock m found old new r e h = renewed_heard clock m found old.state.client.seeking old new r refl e h

pub unrenewed_taken : {E : Type 0} (clock : ℕ) (m : Message) (old new : NodeState CopyState) (r : Result Outs E) → IsSome old.state.client.seeking → None ≡ renewed_by old.node old.state.client m old.state.client.seeking
    → Takes (λ place. guest_row old.node old.state.client clock place (Whole m)) old new r → TakesCopy (λ place. hears_by old.node old.state clock place m old.state.client.seeking) old new r
unrenewed_taken clock m old new r i e h = unrenewed_heard clock m old.state.client.seeking old new r refl i e h

-- ---- in the act's round, or in none

pub in_round : {E : Type 0} (clock : ℕ) (m : Message) (act : Going) (round : Round) (old new : NodeState CopyState) (r : Result Outs E) → Some round ≡ round_of old.state act
    → TakesCopy (λ place. answers_at old.node old.state clock place m act round m.carried) old new r → TakesCopy (λ place. answers_in old.node old.state clock place m act (round_of old.state act)) old new r
in_round clock m act round old new r e h =
    copies_same (λ place. answers_at old.node old.state clock place m act round m.carried) (λ place. answers_in old.node old.state clock place m act (round_of old.state act)) old new r (λ place. ap (answers_in old.node old.state clock place m act) e) h

pub in_no_round : {E : Type 0} (clock : ℕ) (m : Message) (act : Going) (old new : NodeState CopyState) (r : Result Outs E) → None ≡ round_of old.state act
    → Takes (λ place. guest_row old.node old.state.client clock place (Whole m)) old new r → TakesCopy (λ place. answers_in old.node old.state clock place m act (round_of old.state act)) old new r
in_no_round clock m act old new r e h =
    copies_same (λ place. uses old.node old.state clock place m) (λ place. answers_in old.node old.state clock place m act (round_of old.state act)) old new r (λ place. ap (answers_in old.node old.state clock place m act) e) (used_taken clock m old new r h)

pub dies_in : {E : Type 0} (act : Going) (round : Round) (old new : NodeState CopyState) (r : Result Outs E) → Some round ≡ round_of old.state act → AnswersCopy (dies_at old.node old.state act round) old new r
    → AnswersCopy (dies_by old.node old.state act (round_of old.state act)) old new r
dies_in act round old new r e h = subst (λ (o : Option Round). AnswersCopy (dies_by old.node old.state act o) old new r) e h

pub dies_given_up : {E : Type 0} (act : Going) (old new : NodeState CopyState) (r : Result Outs E) → old.state.client.running ≡ Some act → None ≡ round_of old.state act → AnswersStill (given_up old.node old.state.client old.state.client.running) old new r
    → AnswersCopy (dies_by old.node old.state act (round_of old.state act)) old new r
dies_given_up act old new r run e h =
    subst (λ (o : Option Round). AnswersCopy (dies_by old.node old.state act o) old new r) e (subst (λ (o : Option Going). AnswersStill (given_up old.node old.state.client o) old new r) run h)

-- the act that runs calls in its round
pub round_called : (x a : Asking) (act : Going) (round : Round) (told : List Line) (plan : Plan) (old new : NodeState CopyState) (outs : Outs) → PlansRound x round told old plan → x ≡ a → Some a ≡ asking_of old.state.client.running old.state.client.gifts → old.state.client.running ≡ Some act
    → new.node ≡ old.node → new.state ≡ followed old.state plan → outs ≡ outs_of plan → told ≡ [] → TakesCopy {E = AllocError} (λ place. calls_round old.node old.state act round (lines.Given place ∷ [])) old new (Ok outs)
round_called x a act round told plan old new outs p e s run n st o t =
    let k : ClientState = old.state.client in
    copies_same {E = AllocError} (λ place. calls_round old.node old.state x.going round (lines.Given place ∷ [])) (λ place. calls_round old.node old.state act round (lines.Given place ∷ [])) old new (Ok outs)
    (λ place. ap (λ (g : Going). calls_round old.node old.state g round (lines.Given place ∷ [])) (ap (λ (y : Asking). y.going) e ∙ this_runs k.running k.gifts a act s run))
    (round_taken x round told plan old new outs p (ap (λ (y : Asking). y.gifts) e ∙ gifts_is k.running k.gifts a s) n st o t)

pub none_offered : (clock : ℕ) (o : Option Offer) → None ≡ option_map (offered_at clock) o → o ≡ None
none_offered clock None e = refl
none_offered clock (Some x) e = absurd cc

-- ---- an offer, as the program has it

pub offered_some : (clock : ℕ) (o : Option Offer) (x : Offered) → Some x ≡ option_map (offered_at clock) o → IsSome o
offered_some clock None x e = absurd cc
offered_some clock (Some y) x e = refl

pub unspent : (a b : Bool) → (a || b) ≡ false → a ≡ false
unspent true b e = absurd cc
unspent false b e = refl

some_offered : (x y : Offered) → Some x ≡ Some y → x ≡ y
some_offered x y e = cc

passed_by : {E : Type 0} (clock : ℕ) (m : Message) (act : Going) (round : Round) (x : Offered) (o : Option Offer) (old new : NodeState CopyState) (r : Result Outs E) → Some x ≡ option_map (offered_at clock) o → true ≡ (is_spent old.state.client act || x.is_over)
    → TakesCopy (λ place. calls_round old.node old.state act round (lines.Given place ∷ [])) old new r → TakesCopy (λ place. offers old.node old.state clock place m act round o) old new r
passed_by clock m act round x None old new r e s h = absurd cc
passed_by clock m act round x (Some y) old new r e s h = offer_spent clock m act round y old new r (s ∙ ap (λ (z : Offered). is_spent old.state.client act || z.is_over) (some_offered x (offered_at clock y) e)) h

pub offer_passed : {E : Type 0} (clock : ℕ) (m : Message) (act : Going) (round : Round) (x : Offered) (o : Option Offer) (old new : NodeState CopyState) (r : Result Outs E) → old.state.client.running ≡ Some act → Some x ≡ option_map (offered_at clock) o → true ≡ (spent_by old.state.client old.state.client.running || x.is_over)
    → TakesCopy (λ place. calls_round old.node old.state act round (lines.Given place ∷ [])) old new r → TakesCopy (λ place. offers old.node old.state clock place m act round o) old new r
offer_passed clock m act round x o old new r run e s h = passed_by clock m act round x o old new r e (s ∙ ap (λ (b : Bool). b || x.is_over) (spent_is old.state.client act run)) h

used_by : {E : Type 0} (clock : ℕ) (m : Message) (act : Going) (round : Round) (x : Offered) (o : Option Offer) (old new : NodeState CopyState) (r : Result Outs E) → Some x ≡ option_map (offered_at clock) o → false ≡ (is_spent old.state.client act || x.is_over)
    → TakesCopy (λ place. by_release old.node old.state clock place m act round x.release) old new r → TakesCopy (λ place. offers old.node old.state clock place m act round o) old new r
used_by clock m act round x None old new r e s h = absurd cc
used_by {E} clock m act round x (Some y) old new r e s h =
    let same : x ≡ offered_at clock y = some_offered x (offered_at clock y) e in
    offer_taken clock m act round y old new r (s ∙ ap (λ (z : Offered). is_spent old.state.client act || z.is_over) same)
    (subst (λ (z : Offered). TakesCopy (λ (place : ℕ). by_release old.node old.state clock place m act round z.release) old new r) same h)

pub offer_used : {E : Type 0} (clock : ℕ) (m : Message) (act : Going) (round : Round) (x : Offered) (o : Option Offer) (old new : NodeState CopyState) (r : Result Outs E) → old.state.client.running ≡ Some act → Some x ≡ option_map (offered_at clock) o → false ≡ (spent_by old.state.client old.state.client.running || x.is_over)
    → TakesCopy (λ place. by_release old.node old.state clock place m act round x.release) old new r → TakesCopy (λ place. offers old.node old.state clock place m act round o) old new r
offer_used clock m act round x o old new r run e s h = used_by clock m act round x o old new r e (s ∙ ap (λ (b : Bool). b || x.is_over) (spent_is old.state.client act run)) h

-- ---- whom a message is for

both_left : (a b : Bool) → (a && b) ≡ true → a ≡ true
both_left true b e = refl
both_left false b e = absurd cc

both_right : (a b : Bool) → (a && b) ≡ true → b ≡ true
both_right true b e = e
both_right false b e = absurd cc

pub is_heard_by : (n : NodeState CopyState) (head : Head) → n.state.client.seeking ≡ None → (same_node head.to n.node && awaited_by n.state.client head n.state.client.running) ≡ true → IsHeard n head
is_heard_by n head idle e = record { idle = idle; here = both_left (same_node head.to n.node) (awaited_by n.state.client head n.state.client.running) e; awaited = both_right (same_node head.to n.node) (awaited_by n.state.client head n.state.client.running) e }

heard_with : {E : Type 0} (clock : ℕ) (m : Message) (o : Option Going) (old new : NodeState CopyState) (r : Result Outs E) → old.state.client.running ≡ o → same_node m.head.to old.node ≡ true → awaited_by old.state.client m.head o ≡ true
    → ((act : Going) → o ≡ Some act → TakesCopy (λ place. answers_in old.node old.state clock place m act (round_of old.state act)) old new r) → TakesCopy (λ place. answers_to old.node old.state clock place m o) old new r
heard_with clock m None old new r run here awaited h = absurd cc
heard_with clock m (Some act) old new r run here awaited h =
    copies_same (λ place. answers_in old.node old.state clock place m act (round_of old.state act)) (λ place. answers_to old.node old.state clock place m (Some act)) old new r
    (λ place. then_same (same_node m.head.to old.node && is_awaited old.state.client act m.head) (answers_in old.node old.state clock place m act (round_of old.state act)) (uses old.node old.state clock place m)
    (sym (both_true (same_node m.head.to old.node) (is_awaited old.state.client act m.head) here awaited))) (h act refl)

pub heard_taken : {E : Type 0} (clock : ℕ) (m : Message) (old new : NodeState CopyState) (r : Result Outs E) → IsHeard old m.head → OfAct (λ place act. answers_in old.node old.state clock place m act (round_of old.state act)) old new r
    → TakesCopy (λ place. answers_to old.node old.state clock place m old.state.client.running) old new r
heard_taken clock m old new r heard h = heard_with clock m old.state.client.running old new r refl heard.here heard.awaited h

pub unheard_taken : {E : Type 0} (clock : ℕ) (m : Message) (old new : NodeState CopyState) (r : Result Outs E) → (same_node m.head.to old.node && awaited_by old.state.client m.head old.state.client.running) ≡ false
    → Takes (λ place. guest_row old.node old.state.client clock place (Whole m)) old new r → TakesCopy (λ place. answers_to old.node old.state clock place m old.state.client.running) old new r
unheard_taken clock m old new r e h =
    copies_same (λ place. uses old.node old.state clock place m) (λ place. answers_to old.node old.state clock place m old.state.client.running) old new r (λ place. unheard_by old.node old.state clock place m old.state.client.running e) (used_taken clock m old new r h)

-- ---- replies of file servers, and other messages

none_there : (o : Option FsReply) → is_some o ≡ false → o ≡ None
none_there None e = refl
none_there (Some x) e = absurd cc

pub none_file : (reply : Reply) → is_some (file_reply reply) ≡ false → file_reply reply ≡ None
none_file reply e = none_there (file_reply reply) e

pub some_file : (reply : Reply) → is_some (file_reply reply) ≡ true → file_reply reply ≡ None → ⊥
some_file reply e n = let no : false ≡ true = ap is_some (sym n) ∙ e in absurd cc

pub file_heard : {E : Type 0} (clock : ℕ) (head : Head) (reply : Reply) (file : FsReply) (round : Round) (old new : NodeState CopyState) (r : Result Outs E) → reply ≡ tell.File file
    → OfAct (λ place act. offers old.node old.state clock place (record { head = head; carried = carried.Reply (tell.File file) }) act round (offer_in file)) old new r
    → OfAct (λ place act. answers_at old.node old.state clock place (record { head = head; carried = carried.Reply reply }) act round (carried.Reply reply)) old new r
file_heard clock head reply file round old new r e h act run =
    subst (λ (y : Reply). TakesCopy (λ (place : ℕ). answers_at old.node old.state clock place (record { head = head; carried = carried.Reply y }) act round (carried.Reply y)) old new r) (sym e) (h act run)

other_as : (me : Node) (c : CopyState) (clock place : ℕ) (m : Message) (act : Going) (round : Round) (x : Carried) → ((code : Code) → x ≡ carried.Refusal code → ⊥) → ((reply : Reply) → x ≡ carried.Reply reply → ⊥) → uses me c clock place m ≡ answers_at me c clock place m act round x
other_as me c clock place m act round (carried.Call user call) no_code no_reply = refl
other_as me c clock place m act round (carried.Refusal code) no_code no_reply = absurd (no_code code refl)
other_as me c clock place m act round (carried.Reply reply) no_code no_reply = absurd (no_reply reply refl)
other_as me c clock place m act round carried.Notice no_code no_reply = refl

pub other_heard : {E : Type 0} (clock : ℕ) (head : Head) (x : Carried) (round : Round) (old new : NodeState CopyState) (r : Result Outs E) → ((code : Code) → x ≡ carried.Refusal code → ⊥) → ((reply : Reply) → x ≡ carried.Reply reply → ⊥)
    → Takes (λ place. guest_row old.node old.state.client clock place (Whole (record { head = head; carried = x }))) old new r → OfAct (λ place act. answers_at old.node old.state clock place (record { head = head; carried = x }) act round x) old new r
other_heard clock head x round old new r no_code no_reply h act run =
    copies_same (λ place. uses old.node old.state clock place (record { head = head; carried = x })) (λ place. answers_at old.node old.state clock place (record { head = head; carried = x }) act round x) old new r
    (λ place. other_as old.node old.state clock place (record { head = head; carried = x }) act round x no_code no_reply) (used_taken clock (record { head = head; carried = x }) old new r h)
