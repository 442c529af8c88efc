-- What a server makes of a call is known: the transaction that it tells of is the one that it has just begun.
use Rattle.std.proofs.Common.{◌≡◌, ◌≤◌, ◌<◌, ◌⊎◌, inl, inr, ℕ, ℤ, Bool, true, false, cond, List, [], ◌∷◌, Option, Some, None, refl, sym, ap, subst, ◌∙◌, arith}
use Rattle.std.proofs.Math.Nat.{le_refl, le_trans}
use Rattle.std.specs.Prelude.{⊤}
use Rattle.std.specs.List.{AllByRecursion}
use Rattle.afs_num.specs.Nodes.{same_node}
use Rattle.afs_num.specs.declared.messages.Call.TheVariants as ask
use Rattle.afs_num.specs.declared.messages.Carried.{Carried}
use Rattle.afs_num.specs.declared.messages.Carried.TheVariants as carried
use Rattle.afs_num.specs.declared.messages.Message.{Message}
use Rattle.afs_num.specs.declared.messages.Received.TheVariants.{Whole}
use Rattle.afs_num.specs.declared.messages.Reply.TheVariants as tell
use Rattle.afs_num.specs.declared.types.Head.{Head}
use Rattle.afs_num.specs.declared.types.Node.{Node}
use Rattle.afs_num.specs.declared.types.Node.TheVariants.{Admin, Client, Loc, Server}
use Rattle.afs_num.specs.declared.volume_calls.VolReply.TheVariants as volumes
use Rattle.spec_history.specs.declared.lines.Line.{Line}
use Rattle.spec_history.specs.declared.lines.Line.TheVariants as lines
use Rattle.spec_ideal.specs.Operations.{is_number}
use Rattle.spec_ideal.specs.Tables.{AscendsFrom, Table}
use Rattle.law_legal.proofs.BaseLaws.{at_put}
use Rattle.spec_model.proofs.Basics.{same_node-true}
use Rattle.spec_records.specs.Durable.{Durable}
use Rattle.spec_rows.specs.Callbacks.{expired}
use Rattle.spec_rows.specs.Hosts.{HostStep}
use Rattle.spec_rows.specs.Runs.{message_at}
use Rattle.spec_rows.specs.ServerRow.{boot_told, refusal, replied, reply_head}
use Rattle.spec_rows.specs.States.{durable_of, Backs, Lasting}
use Rattle.spec_rows.specs.Steps.{Step}
use Rattle.spec_volrows.proofs.VolApart.{transactions_stay_apart}
use Rattle.spec_volrows.proofs.VolTurns.{saved_row}
use Rattle.spec_volrows.specs.VolLaws.{AreApart, IsApart, KeepsApart}
use Rattle.spec_volrows.specs.VolStates.{NodeState, Sending, Transaction, VolState}
use Rattle.spec_volrows.specs.VolSteps.{dispatches, drops, is_of_client, node_row, repeats, replies_to, saves, tells_boot, vol_answers, vol_decides, vol_hears, vol_seated, vol_stepped, vol_turn, with_transactions, Deed, VolDecision}
use Rattle.spec_runs.specs.NodeRuns.{server_stepped, NodeCell}
use Rattle.law_walks.specs.Sends.{AnswersAre, ServerMakes, VolMakes}
use Rattle.law_stored_stamps.proofs.Serving.{Any}
use Rattle.law_keys.proofs.Deciding.{OfHead}
use Rattle.law_transactions.specs.Numbers.{boot_at}
use Rattle.law_fences.proofs.Knowing.{bounds_on, same_bound, Bounds, CallBy, Grows, IsBound, IsPast, IsTold, Known, KnownBy, NoticeBy, ToldBy}
use Rattle.law_fences.specs.Claims.{IsLive}
use Rattle.law_fences.proofs.Live.{IsNumbered}
use Rattle.law_fences.proofs.Telling.{all_named, IfTells, IfTold, IsFresh, TellsFresh}

-- ---- what a decision leaves, where the memory counts in this boot

abbrev pub LeftIn : NodeCell → ℕ → ℕ → Table Transaction → ℕ → Type 0
LeftIn d i boot ts last = IsLive d i → boot_at d i ≡ boot → ((d.hosts i).state.vol.transactions ≡ ts) × (((d.hosts i).state.vol.last_transaction ≡ last) × AscendsFrom 1 ts)

abbrev pub LeftAs : NodeCell → ℕ → ℕ → VolDecision → Type 0
LeftAs d i boot (replies_to head reply ts last) = LeftIn d i boot ts last
LeftAs d i boot (saves head x) = LeftIn d i boot x.transactions x.last
LeftAs d i boot drops = ⊤
LeftAs d i boot (tells_boot head) = ⊤
LeftAs d i boot (repeats reply) = ⊤
LeftAs d i boot (dispatches head x) = ⊤

-- it counts no more
pub left_never : (d : NodeCell) (i boot : ℕ) (x : VolDecision) → (IsLive d i → boot_at d i ≡ boot → ⊥) → LeftAs d i boot x
left_never d i boot (replies_to head reply ts last) never = λ live is. absurd (never live is)
left_never d i boot (saves head x) never = λ live is. absurd (never live is)
left_never d i boot drops never = tt
left_never d i boot (tells_boot head) never = tt
left_never d i boot (repeats reply) never = tt
left_never d i boot (dispatches head x) never = tt

-- ---- a step that is done leaves it so

abbrev HasThem : VolState → Table Transaction → ℕ → Type 0
HasThem v ts last = (v.transactions ≡ ts) × (v.last_transaction ≡ last)

answers_have : (l : Lasting) (v : VolState) (b : Backs) (ls : List Line) (reply : Message) (waits : List ℕ) (again : Bool) → HasThem (vol_answers l v b ls reply waits again).vol v.transactions v.last_transaction
answers_have l v b ls reply [] again = (refl, refl)
answers_have l v b ls reply (k ∷ ks) again = (refl, refl)

module _ (me : Node) (s : NodeState) (clock place : ℕ) (m : Message) (other : is_of_client (Some m.head.from) ≡ false) where
  abbrev row_vol : VolState
  row_vol = (node_row me s clock place (Whole m)).state.vol

  saved_have : (head : Head) (x : Deed) → vol_decides me (durable_of s.file.lasting) s.vol (Whole m) ≡ saves head x → HasThem row_vol x.transactions x.last
  saved_have head x is =
      subst (λ (r : Step NodeState). HasThem r.state.vol x.transactions x.last) (sym (saved_row me s clock place (Whole m) head x other is))
      (answers_have _ (vol_seated head x.reply (with_transactions x.transactions x.last s.vol)) _ _ x.reply _ false)

told_have : (me : Node) (s : NodeState) (clock place : ℕ) (h : Head) (x : Carried) (head : Head) (reply : Message) (ts : Table Transaction) (last : ℕ) → is_of_client (Some h.from) ≡ false →
    vol_decides me (durable_of s.file.lasting) s.vol (Whole (record { head = h; carried = x })) ≡ replies_to head reply ts last → HasThem (node_row me s clock place (Whole (record { head = h; carried = x }))).state.vol ts last
unfolding node_row
told_have me s clock place h (carried.Call user call) head reply ts last other is = rw (other, is) (refl, refl)
told_have me s clock place h (carried.Refusal code) head reply ts last other is = absurd cc
told_have me s clock place h (carried.Reply r) head reply ts last other is = absurd cc
told_have me s clock place h carried.Notice head reply ts last other is = absurd cc

module _ (c d : NodeCell) (i place boot : ℕ) (m : Message) (same : (d.hosts i).state ≡ (node_row (Server i) (c.hosts i).state c.clock place (Whole m)).state) (other : is_of_client (Some m.head.from) ≡ false) (apart : IsApart (c.hosts i).state) where
  abbrev dur : Durable
  dur = durable_of (c.hosts i).state.file.lasting

  row_left_by : (x : VolDecision) → vol_decides (Server i) dur (c.hosts i).state.vol (Whole m) ≡ x → KeepsApart dur x → LeftAs d i boot x
  row_left_by (replies_to head reply ts last) is keeps = λ live now.
      let z : HasThem (node_row (Server i) (c.hosts i).state c.clock place (Whole m)).state.vol ts last = told_have (Server i) (c.hosts i).state c.clock place m.head m.carried head reply ts last other is in
      (ap (λ (y : NodeState). y.vol.transactions) same ∙ z.0, (ap (λ (y : NodeState). y.vol.last_transaction) same ∙ z.1, keeps.ascend))
  row_left_by (saves head x) is keeps = λ live now.
      let z : HasThem (node_row (Server i) (c.hosts i).state c.clock place (Whole m)).state.vol x.transactions x.last = saved_have (Server i) (c.hosts i).state c.clock place m other head x is in
      (ap (λ (y : NodeState). y.vol.transactions) same ∙ z.0, (ap (λ (y : NodeState). y.vol.last_transaction) same ∙ z.1, keeps.ascend))
  row_left_by drops is keeps = tt
  row_left_by (tells_boot head) is keeps = tt
  row_left_by (repeats reply) is keeps = tt
  row_left_by (dispatches head x) is keeps = tt

  pub row_left : LeftAs d i boot (vol_decides (Server i) dur (c.hosts i).state.vol (Whole m))
  row_left = row_left_by (vol_decides (Server i) dur (c.hosts i).state.vol (Whole m)) refl (transactions_stay_apart (Server i) dur (c.hosts i).state.vol (Whole m) apart)

-- ---- then what it tells is known

module _ (bounds : Bounds) (c d : NodeCell) (up : Grows c d) (low : (n epoch number i : ℕ) → IsPast epoch number (c.admins n) → bounds n epoch number i ≤ boot_at c i) where
  abbrev then : Bounds
  then = bounds_on c d bounds

  module _ (i place : ℕ) (m : Message) (sent : message_at d.sent place ≡ Some m) (to : m.head.to ≡ Server i) (known : Known bounds c m) where
    abbrev boot : ℕ
    boot = boot_at c i

    fresh_numbered : (last : ℕ) (ts : Table Transaction) (number : ℕ) (f : IsFresh m.head m.carried last ts number) → LeftIn d i boot ts last → IsNumbered d i boot number f.volume f.family m.head.stamp
    fresh_numbered last ts number f left = record {
      not_before = up.boots i;
      given = λ live is. subst (λ (k : ℕ). number ≤ k) (sym (left live is).1.0) f.low;
      names = λ live is. subst (λ (t : Table Transaction). AllByRecursion (λ (q : ℕ × Transaction). q.0 ≡ number → (q.1.volume ≡ f.volume) × ((q.1.family ≡ f.family) × (q.1.stamp ≡ m.head.stamp))) t) (sym (left live is).0)
          (all_named 1 number ts f.t (λ (t : Transaction). (t.volume ≡ f.volume) × ((t.family ≡ f.family) × (t.stamp ≡ m.head.stamp))) (left live is).1.1 f.there f.on);
    }

    told_of : (last : ℕ) (ts : Table Transaction) (number n : ℕ) → m.head.from ≡ Admin n → IsBound bounds c m.head n i → IsFresh m.head m.carried last ts number → LeftIn d i boot ts last → IsTold then d (reply_head boot m.head) number n i
    told_of last ts number n from bound f left = record {
      place = place;
      m = m;
      user = f.user;
      call = f.call;
      volume = f.volume;
      family = f.family;
      sent = sent;
      from = from;
      to = to;
      in_epoch = refl;
      of_number = refl;
      asks = f.asks;
      begins = f.begins;
      named = fresh_numbered last ts number f left;
      past = up.admins n m.head.epoch m.head.number bound.past;
      after = subst (λ (b : ℕ). b ≤ boot) (sym (same_bound bounds c d up n m.head.epoch m.head.number i bound.past)) (low n m.head.epoch m.head.number i bound.past);
    }

    other_caller : (n : ℕ) → m.head.from ≡ Admin n → is_of_client (Some m.head.from) ≡ false
    other_caller n from = ap (λ (q : Node). is_of_client (Some q)) from

    told_at : (from at : Node) (last : ℕ) (ts : Table Transaction) (number : ℕ) → m.head.from ≡ from → m.head.to ≡ at → CallBy bounds c m.head from at → IsFresh m.head m.carried last ts number → (is_of_client (Some m.head.from) ≡ false → LeftIn d i boot ts last) →
        ToldBy then d (reply_head boot m.head) number from at
    told_at (Admin n) (Server j) last ts number from at bound f left =
        let same : j ≡ i = (let e : Server j ≡ Server i = sym at ∙ to in cc) in
        subst (λ (k : ℕ). IsTold then d (reply_head boot m.head) number n k) (sym same) (told_of last ts number n from (subst (IsBound bounds c m.head n) same bound) f (left (other_caller n from)))
    told_at (Admin n) (Admin j) last ts number from at bound f left = tt
    told_at (Admin n) (Client j) last ts number from at bound f left = tt
    told_at (Admin n) Loc last ts number from at bound f left = tt
    told_at (Server n) at last ts number from is bound f left = tt
    told_at (Client n) at last ts number from is bound f left = tt
    told_at Loc at last ts number from is bound f left = tt

    tells : (last : ℕ) (ts : Table Transaction) (number : ℕ) → IsFresh m.head m.carried last ts number → (is_of_client (Some m.head.from) ≡ false → LeftIn d i boot ts last) → ToldBy then d (reply_head boot m.head) number m.head.from m.head.to
    tells last ts number f left = told_at m.head.from m.head.to last ts number refl refl (subst (KnownBy bounds c m.head) f.asks known) f left

    -- a message of its own that is no reply
    own_call : (at : Node) → at ≡ Server i → CallBy then d (reply_head boot m.head) at m.head.from
    own_call at is = subst (λ (q : Node). CallBy then d (reply_head boot m.head) q m.head.from) (sym is) tt

    own_notice : (at : Node) → at ≡ Server i → NoticeBy d (reply_head boot m.head) at
    own_notice at is = subst (NoticeBy d (reply_head boot m.head)) (sym is) (up.boots i)

    answer_by : (x : Carried) (last : ℕ) (ts : Table Transaction) → IfTells (IsFresh m.head m.carried last ts) x → (is_of_client (Some m.head.from) ≡ false → LeftIn d i boot ts last) → KnownBy then d (reply_head boot m.head) x
    answer_by (carried.Reply (tell.Volume (volumes.TransCreate number))) last ts f left = tells last ts number f left
    answer_by (carried.Reply (tell.Volume (volumes.CreateVolume number))) last ts f left = tells last ts number f left
    answer_by (carried.Reply reply) last ts f left = tt
    answer_by (carried.Refusal code) last ts f left = tt
    answer_by (carried.Call user call) last ts f left = own_call m.head.to to
    answer_by carried.Notice last ts f left = own_notice m.head.to to

    answer_known : (reply : Message) (last : ℕ) (ts : Table Transaction) → reply.head ≡ reply_head boot m.head → IfTells (IsFresh m.head m.carried last ts) reply.carried → (is_of_client (Some m.head.from) ≡ false → LeftIn d i boot ts last) → Known then d reply
    answer_known reply last ts head f left = subst (λ (h : Head). KnownBy then d h reply.carried) (sym head) (answer_by reply.carried last ts f left)

    pub decision_known : (x : VolDecision) → OfHead boot m.head x → TellsFresh (durable_of (c.hosts i).state.file.lasting) m.head m.carried x → (is_of_client (Some m.head.from) ≡ false → LeftAs d i boot x) → VolMakes (Known then d) Any x
    decision_known (replies_to h reply ts last) of f left = answer_known reply last ts of.1.0 f left
    decision_known (saves h x) of f left = answer_known x.reply x.last x.transactions of.1 f left
    decision_known drops of f left = tt
    decision_known (tells_boot h) of f left = tt
    decision_known (repeats reply) of f left = tt
    decision_known (dispatches h x) of f left = tt

  -- ---- and what it makes whoever asks

  notice_known : (i boot : ℕ) (head : Head) → boot ≤ boot_at d i → same_node head.to (Server i) ≡ true → Known then d (boot_told boot head)
  notice_known i boot head now to = subst (NoticeBy d (boot_told boot head).head) (sym (same_node-true head.to (Server i) to)) now

  forwarded : (at : ℕ) (head : Head) (b : Bool) (code : ℤ) → Known then d (cond b (replied at head (carried.Reply (tell.Volume volumes.Forward))) (refusal at head code))
  forwarded at head true code = tt
  forwarded at head false code = tt

  pub makes : (i boot : ℕ) → boot ≤ boot_at d i → ServerMakes (Known then d) Any (Server i) boot
  makes i boot now = record {
    file = record { answers = record { notice = λ head to. notice_known i boot head now to; refusal = λ head code to. tt }; reply = λ head reply to. tt; breaks = λ n known c. tt };
    piece = λ n known number x h. tt;
    forward = λ x code h. forwarded boot x.head (is_number code 0) code;
    moved = λ x h. tt;
  }
