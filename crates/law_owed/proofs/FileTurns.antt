-- What a file server's step makes of its breaks and its own calls, before those calls begin that are due.
use Rattle.std.proofs.Common.{◌≡◌, ℕ, ◌+◌, ◌≤◌, inl, inr, Bool, true, false, cond, List, [], ◌∷◌, Option, Some, None, refl, sym, ap, subst, ◌∙◌, arith, nat_eq}
use Rattle.std.specs.Prelude.{⊤, map, not, ◌&&◌, nat_lt, length}
use Rattle.std.proofs.Math.Nat.{eq-or-lt_of_le, le_refl}
use Rattle.afs_num.specs.Nodes.{same_node}
use Rattle.afs_num.specs.declared.calls.FsReply.{FsReply}
use Rattle.afs_num.specs.declared.histories.Version.{Version}
use Rattle.afs_num.specs.declared.messages.Call.TheVariants as ask
use Rattle.afs_num.specs.declared.messages.Carried.{Carried}
use Rattle.afs_num.specs.declared.messages.Carried.TheVariants as carried
use Rattle.afs_num.specs.declared.messages.Message.{Message}
use Rattle.afs_num.specs.declared.types.Head.{Head}
use Rattle.afs_num.specs.declared.types.Node.{Node}
use Rattle.spec_history.specs.declared.lines.Line.{Line}
use Rattle.spec_history.specs.declared.lines.Line.TheVariants as lines
use Rattle.spec_breaks.specs.declared.types.OwedBreak.{OwedBreak}
use Rattle.spec_breaks.specs.Promises.{owes_from, without_break}
use Rattle.spec_ideal.specs.Operations.{Found}
use Rattle.law_legal.proofs.BaseLaws.{a_key, some_of}
use Rattle.law_legal.proofs.OwedLoadBreaks.{onto_granted}
use Rattle.law_legal.proofs.OwedFacts.{all_both, all_filter, AllOf, IsOwed}
use Rattle.law_legal.proofs.PromiseLists.{ended_is, hits, new_owes_are, saves_turn_is, shows_turn_is, without_all}
use Rattle.law_legal.proofs.OwedTurns.{put_call}
use Rattle.law_legal.specs.Breaks.{HasTimeout}
use Rattle.law_legal.specs.Past.{lines_of, onto, sent_of}
use Rattle.spec_model.specs.Calls.{call_seat, is_sent_again, key_of}
use Rattle.law_places.proofs.Choices.{Chooses}
use Rattle.spec_rows.specs.Callbacks.{break_message, breaks_call, ends_call, expired, held_under, is_back_awaited, is_ready, is_seat_of, key_answered, new_owes, no_turn, owe_line, quits, renews, renews_by, repeats_by, retries, settles, settles_by, call_timed_out, timeout_line, turn_for, turned_by, CallbackStep}
use Rattle.spec_rows.specs.Runs.{Entry}
use Rattle.spec_rows.specs.ServerRow.{boot_told, carried_by, change_reply_to, drops, granted, granted_in, versions_made, promise_ticks, refuses, repeats, replied, saves, shows, tells_boot, versioned, Change, Decision}
use Rattle.spec_rows.specs.States.{BackCall, Backs, Held, ServerState}
use Rattle.law_walks.specs.Sends.{AdmittedIs, HeldAre, SeatsAre}
use Rattle.law_walks.proofs.Seats.{admitted_is}
use Rattle.law_owed.proofs.Owing.{IsKnown, IsNoCall, no_call_this, Alone, CarriesThis, Out, Owes, new_owed}

-- what was sent before the newest entry
abbrev pub sent_before : List Entry → List Message
sent_before [] = []
sent_before (e ∷ older) = sent_of older

-- what holds before the step, with its entry the newest
pub record Base (me : Node) (boot last : ℕ) (es : List Entry) (b : Backs) : Type 0 where
  pub owes : Owes me boot b es
  pub rises : last ≤ b.last_call
  pub held : HeldAre IsNoCall b.held
  pub earlier : Alone me boot b (sent_before es)

pub record GoodTurn (me : Node) (boot last : ℕ) (es : List Entry) (t : CallbackStep) : Type 0 where
  pub owes : Owes me boot t.backs es
  pub rises : last ≤ t.backs.last_call
  pub known : AllOf (IsKnown me None t.backs.last_call boot) t.sent
  pub held : HeldAre IsNoCall t.backs.held
  pub outs : HeldAre IsNoCall t.outs
  pub earlier : Alone me boot t.backs (sent_before es)
  pub alone : Alone me boot t.backs t.sent

-- a step begins with what the clock has ended
pub expired_base : (me : Node) (boot last clock : ℕ) (es : List Entry) (b : Backs) → Base me boot last es b → Base me boot last es (expired clock b)
expired_base me boot last clock es b h = record {
  owes = record { owing = all_filter (λ (o : OwedBreak). IsOwed me o.client (lines_of es) o) (λ (o : OwedBreak). nat_lt clock o.expiry) b.lists.owed h.owes.owing; outs = h.owes.outs };
  rises = h.rises;
  held = h.held;
  earlier = h.earlier;
}

-- ---- replies

change_by : (boot : ℕ) (head : Head) (expiry : ℕ) (o : Option FsReply) → IsNoCall (replied boot head (carried_by expiry o))
change_by boot head expiry None = refl
change_by boot head expiry (Some reply) = refl

pub change_no_call : (boot : ℕ) (head : Head) (clock : ℕ) (c : Change) → IsNoCall (change_reply_to boot head clock c)
change_no_call boot head clock c = change_by boot head (clock + promise_ticks) _

none_by : (t : Bool) (o : Option BackCall) (c : BackCall) → cond t None o ≡ Some c → o ≡ Some c
none_by true o c e = absurd cc
none_by false o c e = e

all_without : (P : OwedBreak → Type 0) (xs os : List OwedBreak) → AllOf P os → AllOf P (without_all xs os)
all_without P [] os h = h
all_without P (x ∷ xs) os h = all_without P xs (without_break x.number os) (all_filter P (λ z. not (nat_eq z.number x.number)) os h)

versioned_onto : (vs : List Version) (ls o : List Line) → onto o (versioned vs ls) ≡ onto (onto o (versioned vs [])) ls
versioned_onto [] ls o = refl
versioned_onto (v ∷ vs) ls o = versioned_onto vs ls (lines.Version v ∷ o)

module _ (me : Node) (boot last : ℕ) (e : Entry) (older : List Entry) (b : Backs) (h : Base me boot last (e ∷ older) b) where
  quiet : (ls : List Line) → GoodTurn me boot last (e ∷ older) (record { backs = b; lines = ls; sent = []; outs = [] })
  quiet ls = record { owes = h.owes; rises = h.rises; known = tt; held = h.held; outs = tt; earlier = h.earlier; alone = λ j k at. tt }

  pub nothing : GoodTurn me boot last (e ∷ older) (no_turn b)
  nothing = quiet []

  either_turn : (t : Bool) (x y : CallbackStep) → GoodTurn me boot last (e ∷ older) x → GoodTurn me boot last (e ∷ older) y → GoodTurn me boot last (e ∷ older) (cond t x y)
  either_turn true x y k l = k
  either_turn false x y k l = l

  repeats_turn : (reply : Message) (o : Option Held) (good : Bool) → IsNoCall reply → GoodTurn me boot last (e ∷ older) (repeats_by b reply o good)
  repeats_turn reply (Some w) good r = either_turn (w.again && is_ready b.lists.owed w) _ _ (record { owes = h.owes; rises = h.rises; known = tt; held = h.held; outs = (r, tt); earlier = h.earlier; alone = λ j k at. tt }) nothing
  repeats_turn reply None true r = record { owes = h.owes; rises = h.rises; known = tt; held = h.held; outs = (r, tt); earlier = h.earlier; alone = λ j k at. tt }
  repeats_turn reply None false r = record { owes = h.owes; rises = h.rises; known = tt; held = h.held; outs = (r, tt); earlier = h.earlier; alone = λ j k at. tt }

  -- ---- its own calls

  ended : (n : Node) (c : BackCall) → Owes me boot (ends_call n c b) (e ∷ older)
  ended n c = subst (λ (x : Backs). Owes me boot x (e ∷ older)) (sym (ended_is n c b)) (record {
    owing = all_without (λ (o : OwedBreak). IsOwed me o.client (lines_of (e ∷ older)) o) c.content b.lists.owed h.owes.owing;
    outs = λ j k at. h.owes.outs j k (none_by (same_node n j) (b.calls j) k at);
  })

  ended_earlier : (n : Node) (c : BackCall) → Alone me boot (ends_call n c b) (sent_of older)
  ended_earlier n c j k at = h.earlier j k (none_by (same_node n j) (b.calls j) k at)

  settled_turn : (n : Node) (c : BackCall) → GoodTurn me boot last (e ∷ older) (settles me n c b)
  settled_turn n c = record { owes = ended n c; rises = h.rises; known = tt; held = h.held; outs = tt; earlier = ended_earlier n c; alone = λ j k at. tt }

  quit_turn : (n : Node) (c : BackCall) → GoodTurn me boot last (e ∷ older) (quits me boot n c b)
  quit_turn n c = record { owes = ended n c; rises = h.rises; known = tt; held = h.held; outs = tt; earlier = ended_earlier n c; alone = λ j k at. tt }

  settles_turn : (head : Head) (o : Option BackCall) → GoodTurn me boot last (e ∷ older) (settles_by me boot head b o)
  settles_turn head None = nothing
  settles_turn head (Some c) = either_turn (is_back_awaited boot c head) _ _ (settled_turn head.from c) nothing

  -- an unanswered call that is sent again
  this_call : (n : Node) (known : ℕ) (c : BackCall) (j : Node) (k : BackCall) → b.calls n ≡ Some c → b.calls j ≡ Some k → CarriesThis j (a_key me boot k.number) (breaks_call k.content) (break_message me boot n known c)
  this_call n known c j k at old is to under =
      let here : b.calls j ≡ Some c = subst (λ (x : Node). b.calls x ≡ Some c) to at in
      ap (λ (x : BackCall). carried.Call [] (ask.File (breaks_call x.content))) (some_of c k (sym here ∙ old))

  renewed_turn : (n : Node) (known : ℕ) (c : BackCall) → b.calls n ≡ Some c → GoodTurn me boot last (e ∷ older) (renews me boot n known c b)
  renewed_turn n known c at = record { owes = record { owing = h.owes.owing; outs = h.owes.outs }; rises = h.rises; known = ((λ own. (le_refl _, λ up same. (h.owes.outs n c at).number)), tt); held = h.held; outs = tt; earlier = h.earlier; alone = λ j k y. (this_call n known c j k at y, tt) }

  renews_turn : (head : Head) (o : Option BackCall) → b.calls head.from ≡ o → GoodTurn me boot last (e ∷ older) (renews_by me boot head b o)
  renews_turn head None at = nothing
  renews_turn head (Some c) at = either_turn (is_back_awaited boot c head) _ _ (renewed_turn head.from head.boot c at) nothing

  tried : (n : Node) (c : BackCall) → b.calls n ≡ Some c → e.lines ≡ timeout_line me boot n c.number (c.tries + 1) ∷ [] → Out me n (record c { tries = c.tries + 1 }) b.last_call boot (e ∷ older)
  tried n c at is = let k : Out me n c b.last_call boot (e ∷ older) = h.owes.outs n c at in record {
    number = k.number;
    sent = k.sent;
    up = k.up;
    tries = λ t x y. elim (eq-or-lt_of_le y) [
      | inl q ↦ subst (λ (ls : List Line). HasTimeout me n boot c.number t (onto (lines_of older) ls)) (sym is) (inl (refl, (refl, (refl, (refl, sym q)))))
      | inr l ↦ k.tries t x (omega arith)
    ];
    owes = k.owes;
    carries = k.carries;
  }

  retried_turn : (n : Node) (c : BackCall) → b.calls n ≡ Some c → e.lines ≡ timeout_line me boot n c.number (c.tries + 1) ∷ [] → GoodTurn me boot last (e ∷ older) (retries me boot n c b)
  retried_turn n c at is = record {
    owes = record {
      owing = h.owes.owing;
      outs = λ j k y. put_call n j (record c { tries = c.tries + 1 }) k b.calls (Out me j k b.last_call boot (e ∷ older)) y
          (λ q z. subst (λ (i : Node). Out me i k b.last_call boot (e ∷ older)) q (subst (λ (u : BackCall). Out me n u b.last_call boot (e ∷ older)) z (tried n c at is))) (λ old. h.owes.outs j k old);
    };
    rises = h.rises;
    known = ((λ own. (le_refl _, λ up same. (h.owes.outs n c at).number)), tt);
    held = h.held;
    outs = tt;
    earlier = λ j k y. put_call n j (record c { tries = c.tries + 1 }) k b.calls (AllOf (CarriesThis j (a_key me boot k.number) (breaks_call k.content)) (sent_of older)) y
        (λ q z. subst (λ (u : BackCall). AllOf (CarriesThis j (a_key me boot u.number) (breaks_call u.content)) (sent_of older)) z (subst (λ (i : Node). AllOf (CarriesThis i (a_key me boot c.number) (breaks_call c.content)) (sent_of older)) q (h.earlier n c at)))
        (λ old. h.earlier j k old);
    alone = λ j k y. (
      put_call n j (record c { tries = c.tries + 1 }) k b.calls (CarriesThis j (a_key me boot k.number) (breaks_call k.content) (break_message me boot n (b.known n) c)) y
          (λ q z. subst (λ (u : BackCall). CarriesThis j (a_key me boot u.number) (breaks_call u.content) (break_message me boot n (b.known n) c)) z (λ is to under. refl)) (λ old. this_call n (b.known n) c j k at old),
      tt,
    );
  }

  timed_by : (t : Bool) (n : Node) (c : BackCall) → b.calls n ≡ Some c → e.lines ≡ (cond t (retries me boot n c b) (quits me boot n c b)).lines → GoodTurn me boot last (e ∷ older) (cond t (retries me boot n c b) (quits me boot n c b))
  timed_by true n c at is = retried_turn n c at is
  timed_by false n c at is = quit_turn n c

  pub timed_turn : (n : Node) (c : BackCall) → b.calls n ≡ Some c → e.lines ≡ (call_timed_out me boot n c b).lines → GoodTurn me boot last (e ∷ older) (call_timed_out me boot n c b)
  timed_turn n c at is = timed_by (is_sent_again c.tries) n c at is

  -- ---- a change owes breaks

  saved_owed : (place count clock : ℕ) (head : Head) (vs : List Version) (fs : List Found) → e.lines ≡ lines.Given place ∷ lines.Change me (key_of head) count ∷ versioned vs (granted me head.from (clock + promise_ticks) fs (map (owe_line me) (new_owes head.from vs b.lists)))
      → AllOf (λ (o : OwedBreak). IsOwed me o.client (lines_of (e ∷ older)) o) (owes_from b.lists.last_owed (hits head.from vs b.lists.promises))
  saved_owed place count clock head vs fs is =
      let os : List OwedBreak = owes_from b.lists.last_owed (hits head.from vs b.lists.promises) in
      let front : List Line = lines.Change me (key_of head) count ∷ lines.Given place ∷ lines_of older in
      let middle : List Line = onto front (versioned vs []) in
      let tail : List Line = map (owe_line me) (new_owes head.from vs b.lists) in
      new_owed me os (onto middle (granted me head.from (clock + promise_ticks) fs [])) (e ∷ older)
      (ap (onto (lines_of older)) is
      ∙ (versioned_onto vs (granted me head.from (clock + promise_ticks) fs tail) front
      ∙ (onto_granted me head.from (clock + promise_ticks) fs tail middle
      ∙ ap (λ (xs : List OwedBreak). onto (onto middle (granted me head.from (clock + promise_ticks) fs [])) (map (owe_line me) xs)) (new_owes_are head.from vs b.lists))))

-- ---- what is decided

-- where something is saved, the entry tells the change and then what it owes
abbrev pub IsToldSo : Node → Entry → Backs → ℕ → ℕ → Decision → Type 0
IsToldSo me e b place clock (saves head c) =
    e.lines ≡ lines.Given place ∷ lines.Change me (key_of head) (length (versions_made c)) ∷ versioned (versions_made c) (granted me head.from (clock + promise_ticks) (granted_in c) (map (owe_line me) (new_owes head.from (versions_made c) b.lists)))
IsToldSo me e b place clock d = ⊤

kept_no_call : (x : ServerState) (reply : Message) → SeatsAre IsNoCall x.seats → Chooses x (repeats reply) → IsNoCall reply
kept_no_call x reply seats k = subst (AdmittedIs IsNoCall) k.1 (admitted_is IsNoCall x.lasting.boot x.seats k.0 seats)

module _ (me : Node) (last : ℕ) (e : Entry) (older : List Entry) (b : Backs) (x : ServerState) (seats : SeatsAre IsNoCall x.seats) (h : Base me x.lasting.boot last (e ∷ older) b) where
  saves_turned : (clock : ℕ) (head : Head) (c : Change) → AllOf (λ (o : OwedBreak). IsOwed me o.client (lines_of (e ∷ older)) o) (owes_from b.lists.last_owed (hits head.from (versions_made c) b.lists.promises)) → GoodTurn me x.lasting.boot last (e ∷ older) (turn_for me x clock b (saves head c))
  saves_turned clock head c new = subst (GoodTurn me x.lasting.boot last (e ∷ older)) (sym (saves_turn_is me x clock b head c)) (record {
    owes = record { owing = all_both (λ (o : OwedBreak). IsOwed me o.client (lines_of (e ∷ older)) o) b.lists.owed (owes_from b.lists.last_owed (hits head.from (versions_made c) b.lists.promises)) h.owes.owing new; outs = h.owes.outs };
    rises = h.rises;
    known = tt;
    held = h.held;
    outs = (change_no_call x.lasting.boot head clock c, tt);
    earlier = h.earlier;
    alone = λ j k at. tt;
  })

  for_turn : (clock place : ℕ) (d : Decision) → Chooses x d → IsToldSo me e b place clock d → GoodTurn me x.lasting.boot last (e ∷ older) (turn_for me x clock b d)
  for_turn clock place drops k is = nothing me x.lasting.boot last e older b h
  for_turn clock place (tells_boot head) k is = record { owes = h.owes; rises = h.rises; known = (tt, tt); held = h.held; outs = tt; earlier = h.earlier; alone = λ j k at. (no_call_this j _ _ (boot_told x.lasting.boot head) refl, tt) }
  for_turn clock place (repeats reply) k is = repeats_turn me x.lasting.boot last e older b h reply (held_under (key_answered reply) b.held) (is_seat_of reply (call_seat reply.head.to x.lasting.kept)) (kept_no_call x reply seats k)
  for_turn clock place (refuses head code) k is = record { owes = h.owes; rises = h.rises; known = tt; held = h.held; outs = (refl, tt); earlier = h.earlier; alone = λ j k at. tt }
  for_turn clock place (shows head r) k is =
      subst (GoodTurn me x.lasting.boot last (e ∷ older)) (sym (shows_turn_is me x clock b head r)) (record { owes = record { owing = h.owes.owing; outs = h.owes.outs }; rises = h.rises; known = tt; held = h.held; outs = (refl, tt); earlier = h.earlier; alone = λ j k at. tt })
  for_turn clock place (saves head c) k is = saves_turned clock head c (saved_owed me x.lasting.boot last e older b h place (length (versions_made c)) clock head (versions_made c) (granted_in c) is)

  pub carried_turn : (clock place : ℕ) (d : Decision) (head : Head) (c : Carried) → Chooses x d → IsToldSo me e b place clock d → GoodTurn me x.lasting.boot last (e ∷ older) (turned_by me x clock b d head c)
  carried_turn clock place d head (carried.Call user call) k is = for_turn clock place d k is
  carried_turn clock place d head (carried.Refusal code) k is =
      either_turn me x.lasting.boot last e older b h (same_node head.to me) _ _ (settles_turn me x.lasting.boot last e older b h head (b.calls head.from)) (nothing me x.lasting.boot last e older b h)
  carried_turn clock place d head (carried.Reply reply) k is =
      either_turn me x.lasting.boot last e older b h (same_node head.to me) _ _ (settles_turn me x.lasting.boot last e older b h head (b.calls head.from)) (nothing me x.lasting.boot last e older b h)
  carried_turn clock place d head carried.Notice k is =
      either_turn me x.lasting.boot last e older b h (same_node head.to me) _ _ (renews_turn me x.lasting.boot last e older b h head (b.calls head.from) refl) (nothing me x.lasting.boot last e older b h)
