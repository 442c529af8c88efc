-- Worked histories: an answer to the call that its server was given; and some that are refused, each for one reason.
use Rattle.std.proofs.Common.{◌≡◌, ℕ, ◌⊎◌, inl, inr, true, false, List, [], ◌∷◌, ◌++◌, Option, Some, None, pos, nat_eq, refl, sym, ap, subst, ◌∙◌, eq-eqb}
use Rattle.afs_num.specs.declared.calls.AfsFetchStatus.{AfsFetchStatus}
use Rattle.afs_num.specs.declared.calls.AfsStoreStatus.{AfsStoreStatus}
use Rattle.afs_num.specs.declared.calls.AfsVolSync.{AfsVolSync}
use Rattle.afs_num.specs.declared.calls.FsCall.{FsCall}
use Rattle.afs_num.specs.declared.calls.FsCall.TheVariants as calls
use Rattle.afs_num.specs.declared.calls.FsReply.TheVariants as replies
use Rattle.afs_num.specs.declared.histories.Actor.TheVariants as actors
use Rattle.afs_num.specs.declared.messages.Call.TheVariants as ask
use Rattle.afs_num.specs.declared.messages.Carried.{Carried}
use Rattle.afs_num.specs.declared.messages.Carried.TheVariants as carried
use Rattle.afs_num.specs.declared.messages.Message.{Message}
use Rattle.afs_num.specs.declared.messages.Reply.TheVariants as tell
use Rattle.afs_num.specs.declared.types.Fid.{Fid}
use Rattle.afs_num.specs.declared.types.Half.TheVariants as halves
use Rattle.afs_num.specs.declared.types.Head.{Head}
use Rattle.afs_num.specs.declared.types.Key.{Key}
use Rattle.afs_num.specs.declared.types.Node.TheVariants.{Client, Server}
use Rattle.spec_history.specs.declared.lines.Line.{Line}
use Rattle.spec_history.specs.declared.lines.Line.TheVariants as lines
use Rattle.spec_model.specs.FsRows.{call_number, reply_number}
use Rattle.spec_rows.specs.Runs.{Entry}
use Rattle.law_legal.specs.Past.{answered_key, called_key, given_message, lines_of, sent_of, server_boot}
use Rattle.law_replies.specs.Heard.{AreHeard, IsAnswerOf, WasHeard}

-- ---- messages and entries

-- the client's first call
abbrev call_head : FsCall → Head
call_head call = record { half = halves.Call; from = Client 1; to = Server 1; epoch = 1; number = 1; boot = 1; stamp = 0; opcode = call_number call }

abbrev asks_for : FsCall → Message
asks_for call = record { head = call_head call; carried = carried.Call [] (ask.File call) }

-- an answer to the client's call of this number, by this server in this boot of it
abbrev answer : ℕ → ℕ → ℕ → FsCall → Carried → Message
answer server number boot call c = record { head = record { half = halves.Reply; from = Server server; to = Client 1; epoch = 1; number = number; boot = boot; stamp = 0; opcode = call_number call }; carried = c }

-- the client calls
abbrev calls_for : FsCall → Entry
calls_for call = record { actor = actors.Node (Client 1); lines = []; sent = asks_for call ∷ []; volumes = [] }

-- the first server tells these lines and sends this
abbrev serves : List Line → Message → Entry
serves ls m = record { actor = actors.Node (Server 1); lines = ls; sent = m ∷ []; volumes = [] }

-- it stops
abbrev stops : Entry
stops = record { actor = actors.Node (Server 1); lines = lines.Crash (Server 1) ∷ []; sent = []; volumes = [] }

-- the client is given the second message of all
abbrev takes : Entry
takes = record { actor = actors.Node (Client 1); lines = lines.Given 2 ∷ []; sent = []; volumes = [] }

-- the server is given the call, and the client what the server then sends
abbrev plays : FsCall → List Line → Message → List Entry
plays call ls m = calls_for call ∷ serves (lines.Given 1 ∷ ls) m ∷ takes ∷ []

abbrev time_told : Carried
time_told = carried.Reply (tell.File (replies.GetTime 7 0))

-- ---- the call is answered

told_the_time : AreHeard [] (plays calls.GetTime [] (answer 1 1 1 calls.GetTime time_told))
told_the_time = (
  tt,
  (
    λ is. absurd cc,
    (
      λ is. record {
        newer = [];
        at = serves (lines.Given 1 ∷ []) (answer 1 1 1 calls.GetTime time_told);
        older = calls_for calls.GetTime ∷ [];
        split = refl;
        node = refl;
        call = asks_for calls.GetTime;
        given = refl;
        is_call = tt;
        callee = refl;
        key = refl;
        opcode = refl;
        boot = refl;
        up = refl;
        kind = refl;
        made = λ change. absurd cc;
      },
      tt,
    ),
  ),
)

-- ---- where the call of a reply is looked for

abbrev Fits : Message → Entry → List Entry → Option Message → Type 0
Fits m e older None = ⊥
Fits m e older (Some call) = (server_boot m.head.from (lines_of older) ≡ Some m.head.boot) × ((e.actor ≡ actors.Node m.head.from) × ((called_key call.head ≡ answered_key m.head) × ((call.head.boot ≡ m.head.boot) × ((call.head.opcode ≡ m.head.opcode) × IsAnswerOf call.carried m.carried))))

abbrev Found : Message → List Entry → Type 0
Found m [] = ⊥
Found m (e ∷ older) = Fits m e older (given_message e.lines (sent_of older)) ⊎ Found m older

found_in : (m : Message) (newer : List Entry) (e : Entry) (older : List Entry) → Fits m e older (given_message e.lines (sent_of older)) → Found m (newer ++ e ∷ older)
found_in m [] e older h = inl h
found_in m (n ∷ newer) e older h = inr (found_in m newer e older h)

found : (m : Message) (past : List Entry) → WasHeard m past → Found m past
found m past h = subst (Found m) (sym h.split) (found_in m h.newer h.at h.older (subst (Fits m h.at h.older) (sym h.given) (h.up, (h.node, (h.key, (h.boot, (h.opcode, h.kind)))))))

apart : (n k : ℕ) → nat_eq n k ≡ false → n ≡ k → ⊥
apart n k h e = let no : true ≡ false = sym (eq-eqb n k e) ∙ h in absurd cc

-- ---- refused

-- the server was never given the call
unasked : AreHeard [] (calls_for calls.GetTime ∷ serves [] (answer 1 1 1 calls.GetTime time_told) ∷ takes ∷ []) → ⊥
unasked h = elim (found _ _ (h.1.1.0 refl)) [ inl x ↦ absurd x | inr x ↦ elim x [ inl y ↦ absurd y | inr y ↦ absurd y ] ]

-- the one that it was given has another number
of_another_call : AreHeard [] (plays calls.GetTime [] (answer 1 2 1 calls.GetTime time_told)) → ⊥
of_another_call h = elim (found _ _ (h.1.1.0 refl)) [ inl x ↦ absurd (apart 1 2 refl (ap (λ (k : Key). k.number) x.1.1.0)) | inr x ↦ elim x [ inl y ↦ absurd y | inr y ↦ absurd y ] ]

-- it was for another boot
in_another_boot : AreHeard [] (plays calls.GetTime [] (answer 1 1 2 calls.GetTime time_told)) → ⊥
in_another_boot h = elim (found _ _ (h.1.1.0 refl)) [ inl x ↦ absurd (apart 1 2 refl x.1.1.1.0) | inr x ↦ elim x [ inl y ↦ absurd y | inr y ↦ absurd y ] ]

-- another server was given it
by_another_server : AreHeard [] (plays calls.GetTime [] (answer 2 1 1 calls.GetTime time_told)) → ⊥
by_another_server h = elim (found _ _ (h.1.1.0 refl)) [ inl x ↦ (let no = x.1.0 in absurd cc) | inr x ↦ elim x [ inl y ↦ absurd y | inr y ↦ absurd y ] ]

-- it had stopped before
stopped_before : AreHeard [] (calls_for calls.GetTime ∷ stops ∷ serves (lines.Given 1 ∷ []) (answer 1 1 1 calls.GetTime time_told) ∷ takes ∷ []) → ⊥
stopped_before h = elim (found _ _ (h.1.1.1.0 refl)) [ inl x ↦ (let no = x.0 in absurd cc) | inr x ↦ elim x [ inl y ↦ absurd y | inr y ↦ elim y [ inl z ↦ absurd z | inr z ↦ absurd z ] ] ]

-- what it is told is none of that kind
of_another_kind : AreHeard [] (plays calls.GetTime [] (answer 1 1 1 calls.GetTime (carried.Reply (tell.File replies.GiveUpCallBacks)))) → ⊥
of_another_kind h = elim (found _ _ (h.1.1.0 refl)) [ inl x ↦ absurd (apart (reply_number replies.GiveUpCallBacks) (call_number calls.GetTime) refl x.1.1.1.1.1) | inr x ↦ elim x [ inl y ↦ absurd y | inr y ↦ absurd y ] ]

-- it is refused with code 0
refused_with_zero : AreHeard [] (plays calls.GetTime [] (answer 1 1 1 calls.GetTime (carried.Refusal (record { 0 = pos 0 })))) → ⊥
refused_with_zero h = elim (found _ _ (h.1.1.0 refl)) [ inl x ↦ absurd (x.1.1.1.1.1 refl) | inr x ↦ elim x [ inl y ↦ absurd y | inr y ↦ absurd y ] ]

-- ---- a change is told before it is acknowledged

-- the status of an object is stored, and then it is so
module _ (f : Fid) (set : AfsStoreStatus) (status : AfsFetchStatus) (sync : AfsVolSync) where
  abbrev stores : FsCall
  stores = calls.StoreStatus f set

  abbrev stored : Message
  stored = answer 1 1 1 stores (carried.Reply (tell.File (replies.StoreStatus status sync)))

  abbrev key : Key
  key = record { node = Client 1; epoch = 1; number = 1 }

  told_the_change : AreHeard [] (plays stores (lines.Change (Server 1) key 0 ∷ []) stored)
  told_the_change = (
    tt,
    (
      λ is. absurd cc,
      (
        λ is. record {
          newer = [];
          at = serves (lines.Given 1 ∷ lines.Change (Server 1) key 0 ∷ []) stored;
          older = calls_for stores ∷ [];
          split = refl;
          node = refl;
          call = asks_for stores;
          given = refl;
          is_call = tt;
          callee = refl;
          key = refl;
          opcode = refl;
          boot = refl;
          up = refl;
          kind = refl;
          made = λ change. inl (refl, refl);
        },
        tt,
      ),
    ),
  )

  -- its server told none
  untold : AreHeard [] (plays stores [] stored) → ⊥
  untold h = let no = (h.1.1.0 refl).made refl in absurd no
