-- What an administrator claims of a transaction is true: the number that it was told names, at its next call, one on the volume that it asked for.
use Rattle.std.proofs.Common.{◌≡◌, ◌≤◌, ◌<◌, ◌⊎◌, inl, inr, ℕ, ◌+◌, Bool, true, false, cond, List, [], ◌∷◌, Option, Some, None, refl, sym, ap, subst, ◌∙◌, arith, eqb-true, nat_eq}
use Rattle.std.proofs.Math.Nat.{eq-or-lt_of_le, le_trans}
use Rattle.std.specs.Prelude.{⊤}
use Rattle.std.specs.List.{AllByRecursion}
use Rattle.afs_num.specs.declared.messages.Call.{Call}
use Rattle.afs_num.specs.declared.messages.Call.TheVariants as ask
use Rattle.afs_num.specs.declared.messages.Carried.{Carried}
use Rattle.afs_num.specs.declared.messages.Carried.TheVariants as carried
use Rattle.afs_num.specs.declared.messages.Message.{Message}
use Rattle.afs_num.specs.declared.messages.Reply.TheVariants as tell
use Rattle.afs_num.specs.declared.types.Head.{Head}
use Rattle.afs_num.specs.declared.types.Key.{Key}
use Rattle.afs_num.specs.declared.types.Node.{Node}
use Rattle.afs_num.specs.declared.types.Node.TheVariants.{Admin, Server}
use Rattle.afs_num.specs.declared.volume_calls.VolCall.{VolCall}
use Rattle.afs_num.specs.declared.volume_calls.VolCall.TheVariants as calls
use Rattle.afs_num.specs.declared.volume_calls.VolReply.TheVariants as volumes
use Rattle.spec_history.specs.declared.scripts.Script.{Script}
use Rattle.spec_ideal.specs.Tables.{get, Table}
use Rattle.law_legal.proofs.BaseLaws.{runs_admitted, Above, Below}
use Rattle.spec_rows.specs.Runs.{message_at}
use Rattle.spec_rows.specs.ServerRow.{is_client}
use Rattle.spec_model.specs.Calls.{call_seat, key_of}
use Rattle.spec_volrows.specs.VolRow.{found, of_family}
use Rattle.spec_volrows.specs.VolStates.{Transaction}
use Rattle.spec_volrows.specs.VolLaws.{stamp_at}
use Rattle.spec_runs.specs.NodeRuns.{node_start, CellInput, NodeCell}
use Rattle.law_walks.proofs.Seats.{found_at}
use Rattle.law_places.specs.Accepting.{cell_behind}
use Rattle.law_keys.specs.Asked.{AreOneCall, IsCall}
use Rattle.law_keys.proofs.Asking.{calls_one}
use Rattle.law_keys.proofs.Memories.{pair_of, within_above, IsWithin}
use Rattle.law_keys.proofs.VolSeats.{above_pair}
use Rattle.law_transactions.specs.Begun.{AsksFor}
use Rattle.law_transactions.specs.Numbers.{boot_at, IsOn}
use Rattle.law_transactions.proofs.Transactions.{all_get}
use Rattle.law_fences.specs.Claims.{ClaimsAreTrue, Finds, IsForOne, IsLive, TellsOf, WasSent, WasTold}
use Rattle.law_fences.proofs.Claiming.{claims, Claims}
use Rattle.law_fences.proofs.Knowing.{Bounds, CallBy, IsBound, IsTold, Known, KnownBy, ToldBy}
use Rattle.law_fences.proofs.Live.{IsNumbered}
use Rattle.law_fences.proofs.Makers.{make_none, no_server, MakesNone}
use Rattle.law_fences.proofs.Owning.{are_owned, one_owner, IsOfOne, Owned}
use Rattle.law_fences.proofs.Seated.{are_seated, last_in, IsSeated}
use Rattle.law_fences.proofs.Standing.{live_stamped}

-- ---- a call asks for one volume

volume_in : (v w f g : ℕ) (call : VolCall) → AsksFor v f call → AsksFor w g call → v ≡ w
volume_in v w f g (calls.TransCreate family id flags) a b = sym a.0 ∙ b.0
volume_in v w f g (calls.CreateVolume family id name kind flags quota) a b = sym a.0 ∙ b.0
volume_in v w f g (calls.DeleteVolume family number) a b = absurd a
volume_in v w f g (calls.Restore family number offset final piece) a b = absurd a
volume_in v w f g (calls.Forward family number from server target) a b = absurd a
volume_in v w f g (calls.EndTrans family number) a b = absurd a
volume_in v w f g (calls.Clone family number id name kind) a b = absurd a
volume_in v w f g (calls.SetFlags family number flags) a b = absurd a
volume_in v w f g (calls.GetFlags family number) a b = absurd a
volume_in v w f g (calls.Dump family number from offset) a b = absurd a
volume_in v w f g (calls.SetForwarding family number server) a b = absurd a
volume_in v w f g (calls.GetStatus family number) a b = absurd a
volume_in v w f g (calls.ListVols family) a b = absurd a
volume_in v w f g (calls.ReClone family number id) a b = absurd a

same_volume : (v w f g : ℕ) (x y : Carried) → x ≡ y → (user other : List ℕ) (a b : VolCall) → x ≡ carried.Call user (ask.Volume a) → y ≡ carried.Call other (ask.Volume b) → AsksFor v f a → AsksFor w g b → v ≡ w
same_volume v w f g x y same user other a b x_is y_is for_a for_b =
    let calls : carried.Call user (ask.Volume a) ≡ carried.Call other (ask.Volume b) = sym x_is ∙ (same ∙ y_is) in
    let one : a ≡ b = cc in
    volume_in v w f g b (subst (AsksFor v f) one for_a) for_b

-- ---- what is found

family_by : (family : ℕ) (t u : Transaction) (b : Bool) → nat_eq t.family family ≡ b → cond b (Some t) None ≡ Some u → (t ≡ u) × (t.family ≡ family)
family_by family t u true is e = let same : t ≡ u = cc in (same, eqb-true t.family family is)
family_by family t u false is e = absurd cc

found_by : (family : ℕ) (o : Option Transaction) (u : Transaction) → of_family family o ≡ Some u → (o ≡ Some u) × (u.family ≡ family)
found_by family None u e = absurd cc
found_by family (Some t) u e = let z = family_by family t u (nat_eq t.family family) refl e in (ap Some z.0, subst (λ (x : Transaction). x.family ≡ family) z.0 z.1)

-- ---- the claim

numbers : (a b : ℕ) → a < b + 1 → (a ≡ b) ⊎ (a < b)
numbers a b up = let low : a ≤ b = omega (arith, up) in eq-or-lt_of_le low

told_of : (bounds : Bounds) (c : NodeCell) (head : Head) (x : Carried) (number n i : ℕ) → KnownBy bounds c head x → TellsOf number x → head.to ≡ Admin n → head.from ≡ Server i → IsTold bounds c head number n i
told_of bounds c head x number n i known tells to from =
    let k : ToldBy bounds c head number head.to head.from = elim tells [ inl is ↦ subst (KnownBy bounds c head) is known | inr is ↦ subst (KnownBy bounds c head) is known ] in
    let z : ToldBy bounds c head number (Admin n) head.from = subst (λ (q : Node). ToldBy bounds c head number q head.from) to k in
    subst (ToldBy bounds c head number (Admin n)) from z

bound_of : (bounds : Bounds) (c : NodeCell) (head : Head) (x : Carried) (user : List ℕ) (call : Call) (n i : ℕ) → KnownBy bounds c head x → x ≡ carried.Call user call → head.from ≡ Admin n → head.to ≡ Server i → IsBound bounds c head n i
bound_of bounds c head x user call n i known is from to =
    let k : CallBy bounds c head head.from head.to = subst (KnownBy bounds c head) is known in
    let z : CallBy bounds c head (Admin n) head.to = subst (λ (q : Node). CallBy bounds c head q head.to) from k in
    subst (CallBy bounds c head (Admin n)) to z

below_number : (e n d m : ℕ) → e ≡ d → Below e n d m → n < m
below_number e n d m same (inl low) = absurd (omega (arith, same, low))
below_number e n d m same (inr low) = low.1

named_in : (c : NodeCell) (i boot number volume family stamp : ℕ) (t : Transaction) → IsNumbered c i boot number volume family stamp → IsLive c i → boot_at c i ≡ boot → get number (c.hosts i).state.vol.transactions ≡ Some t → t.volume ≡ volume
named_in c i boot number volume family stamp t h live now there =
    (all_get (λ (n v f s : ℕ). n ≡ number → (v ≡ volume) × ((f ≡ family) × (s ≡ stamp))) 0 number (c.hosts i).state.vol.transactions t (h.names live now) there refl).0

one_key : (a b : Head) → a.from ≡ b.from → a.epoch ≡ b.epoch → a.number ≡ b.number → key_of a ≡ key_of b
one_key a b from epoch number =
    ap (λ (n : Node). record { node = n; epoch = a.epoch; number = a.number }) from
    ∙ (ap (λ (e : ℕ). record { node = b.from; epoch = e; number = a.number }) epoch ∙ ap (λ (k : ℕ). record { node = b.from; epoch = b.epoch; number = k }) number)

module _ (s : Script) (inputs : List CellInput) (admin server epoch number transaction volume family stamp : ℕ) (m : Message) (t : Transaction) where
  abbrev c : NodeCell
  c = cell_behind (node_start s) inputs

  abbrev ts : Table Transaction
  ts = (c.hosts server).state.vol.transactions

  -- two calls under the key that was answered ask for one volume
  for_same : (first second : ℕ) (a b : Message) → message_at c.sent first ≡ Some a → message_at c.sent second ≡ Some b → a.head.from ≡ Admin admin → b.head.from ≡ Admin admin → a.head.epoch ≡ b.head.epoch → a.head.number ≡ b.head.number →
      (v w f g : ℕ) (user other : List ℕ) (x y : VolCall) → a.carried ≡ carried.Call user (ask.Volume x) → b.carried ≡ carried.Call other (ask.Volume y) → AsksFor v f x → AsksFor w g y → v ≡ w
  for_same first second a b at_a at_b from_a from_b epochs numbers' v w f g user other x y is_a is_b for_a for_b =
      let one : AreOneCall a b = calls_one s inputs admin first second a b at_a at_b from_a (subst IsCall (sym is_a) tt) (subst IsCall (sym is_b) tt) (one_key a.head b.head (from_a ∙ sym from_b) epochs numbers') in
      same_volume v w f g a.carried b.carried one.carried user other x y is_a is_b for_a for_b

  module _ (some : stamp ≡ 0 → ⊥) (told : WasTold c admin server epoch number transaction volume family stamp) (next : WasSent c admin server epoch (number + 1) stamp m) (finds : Finds c server family transaction m t) where
    there : (get transaction ts ≡ Some t) × (t.family ≡ family)
    there = found_by family (get transaction ts) t finds.there

    seated : IsSeated c server t.volume t.family t.stamp
    seated = all_get (λ (n v f st : ℕ). IsSeated c server v f st) 0 transaction ts t (are_seated s inputs server finds.live) there.0

    -- the call that asked for it
    abbrev maker : Message
    maker = seated.asked.m

    its_stamp : maker.head.stamp ≡ m.head.stamp
    its_stamp =
        let file = (c.hosts server).state.file in
        let stamped : t.stamp ≡ stamp_at file t.family = all_get (λ (n v f st : ℕ). st ≡ stamp_at file f) 0 transaction ts t (live_stamped s inputs server finds.live) there.0 in
        seated.asked.under ∙ (stamped ∙ (ap (stamp_at file) there.1 ∙ finds.stored))

    some_stamp : m.head.stamp ≡ 0 → ⊥
    some_stamp none = some (sym next.under ∙ none)

    not_server : (i : ℕ) → maker.head.from ≡ Server i → ⊥
    not_server i is = no_server maker i seated.asked.user seated.asked.call (found_at MakesNone seated.asked.place c.sent maker (make_none s inputs) seated.asked.sent) seated.asked.asks is t.volume t.family seated.asked.begins

    -- it is the same administrator's
    its_own : IsOfOne admin m.head.epoch maker.head.from maker.head.epoch
    its_own = one_owner c (are_owned s inputs) admin next.place seated.asked.place m maker finds.user seated.asked.user (ask.Volume finds.call) (ask.Volume seated.asked.call) next.at seated.asked.sent next.from finds.is_call seated.asked.asks its_stamp some_stamp not_server

    -- and an earlier one, as the server hasn't run a later one
    earlier : maker.head.number < m.head.number
    earlier =
        let seats = (c.hosts server).state.vol.seats in
        let within : IsWithin (pair_of (call_seat (Admin admin) seats)) maker.head.epoch maker.head.number =
        subst (λ (n : Node). IsWithin (last_in c server n) maker.head.epoch maker.head.number) its_own.from' (seated.within (ap is_client its_own.from')) in
        let above = above_pair (call_seat (Admin admin) seats) m.head.epoch m.head.number (subst (λ (n : Node). Above (call_seat n seats) m.head.epoch m.head.number) next.from (runs_admitted (boot_at c server) seats m.head finds.runs).1) in
        below_number maker.head.epoch maker.head.number m.head.epoch m.head.number its_own.epoch' (within_above (pair_of (call_seat (Admin admin) seats)) maker.head.epoch maker.head.number m.head.epoch m.head.number within above)

    known : Claims c
    known = claims s inputs

    was_told : IsTold known.bounds c told.reply.head transaction admin server
    was_told = told_of known.bounds c told.reply.head told.reply.carried transaction admin server (found_at (Known known.bounds c) told.place c.sent told.reply known.sent told.at) told.tells told.to told.from

    -- the epochs are one
    in_epoch : maker.head.epoch ≡ epoch
    in_epoch = its_own.epoch' ∙ next.in_epoch

    -- it is the call that was answered
    same_call : maker.head.number ≡ number → t.volume ≡ volume
    same_call same =
        for_same seated.asked.place told.asked.place maker told.call seated.asked.sent told.asked.at its_own.from' told.asked.from (in_epoch ∙ sym told.asked.in_epoch) (same ∙ sym told.asked.of_number)
        t.volume volume t.family family seated.asked.user told.for_one.user seated.asked.call told.for_one.call seated.asked.asks told.for_one.asks seated.asked.begins told.for_one.begins

    -- or it is one before that: then the server is still in the boot of the reply, and the number names what was told
    told_volume : was_told.volume ≡ volume
    told_volume =
        for_same was_told.place told.asked.place was_told.m told.call was_told.sent told.asked.at was_told.from told.asked.from (was_told.in_epoch ∙ (told.in_epoch ∙ sym told.asked.in_epoch)) (was_told.of_number ∙ (told.of_number ∙ sym told.asked.of_number))
        was_told.volume volume was_told.family family was_told.user told.for_one.user was_told.call told.for_one.call was_told.asks told.for_one.asks was_told.begins told.for_one.begins

    same_boot : maker.head.number < number → boot_at c server ≡ told.reply.head.boot
    same_boot low =
        let bound : IsBound known.bounds c maker.head admin server =
        bound_of known.bounds c maker.head maker.carried seated.asked.user (ask.Volume seated.asked.call) admin server (found_at (Known known.bounds c) seated.asked.place c.sent maker known.sent seated.asked.sent) seated.asked.asks its_own.from' seated.asked.to in
        let held : maker.head.boot ≤ known.bounds admin told.reply.head.epoch told.reply.head.number server =
        bound.held told.reply.head.epoch told.reply.head.number (inr (in_epoch ∙ sym told.in_epoch, subst (λ (k : ℕ). maker.head.number < k) (sym told.of_number) low)) was_told.past in
        let after : known.bounds admin told.reply.head.epoch told.reply.head.number server ≤ told.reply.head.boot = was_told.after in
        let before : told.reply.head.boot ≤ boot_at c server = was_told.named.not_before in
        let now : maker.head.boot ≡ boot_at c server = seated.asked.in_boot in
        omega (arith, held, after, before, now)

    before_it : maker.head.number < number → t.volume ≡ volume
    before_it low = named_in c server told.reply.head.boot transaction was_told.volume was_told.family was_told.m.head.stamp t was_told.named finds.live (same_boot low) there.0 ∙ told_volume

    true_claim : t.volume ≡ volume
    true_claim = elim (numbers maker.head.number number (subst (λ (k : ℕ). maker.head.number < k) next.of_number earlier)) [ inl same ↦ same_call same | inr low ↦ before_it low ]

pub are_true : ClaimsAreTrue
are_true s inputs admin server epoch number transaction volume family stamp m t some told next finds = true_claim s inputs admin server epoch number transaction volume family stamp m t some told next finds
