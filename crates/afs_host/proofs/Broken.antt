-- The disk ended a step, of whatever kind of node.
use Rattle.std.specs.Prelude.{◌≡◌, ◌≤◌, ◌⊎◌, ◌&&◌, ◌||◌, ◌+◌, ◌-◌, ℕ, List, ◌∷◌, [], ◌++◌, Bool, true, false, not, nat_eq, Option, Some, None, IsSome}
use Rattle.std.proofs.Common.{refl, ap, sym, subst, ◌∙◌, arith}
use Rattle.afs_num.specs.declared.messages.Message.{Message}
use Rattle.afs_num.specs.declared.messages.Received.TheVariants.{Whole}
use Rattle.afs_num.specs.declared.records.Mark.{Mark}
use Rattle.afs_num.specs.declared.types.Node.{Node}
use Rattle.spec_history.specs.declared.lines.Line.{Line}
use Rattle.spec_history.specs.declared.lines.Line.TheVariants as lines
use Rattle.afs_disk.specs.Disk.{IsBeyond, LeavesOnly, Rose, Setting, Trips}
use Rattle.afs_disk.specs.Fuses.{Fused}
use Rattle.afs_disk.specs.declared.disk.Disk.{Ghosts}
use Rattle.afs_journal.specs.Left.{is_left_whole, records_left, ReachesCall}
use Rattle.afs_journal.specs.Records.{whole_records}
use Rattle.spec_rows.specs.Hosts.{fall_line, in_step, leaves_after, served, served_by, struck, Armed, Blow, Host}
use Rattle.spec_rows.specs.Steps.{Begun}
use Rattle.afs_store.specs.Stores.{IsCounted, IsKept, LeftAround, StoreOf}
use Rattle.afs_host.specs.Seats.{IsHostStepDown, IsHostUp, Resting, Running}
use Rattle.afs_host.specs.Serving.{HasGoneDown, HasServed}
use Rattle.afs_host.specs.Setting.{pick_of, stops_now, IsSet}
use Rattle.afs_host.specs.Standing.{IsKeptAs, IsKeptFound, IsKeptIn, Keeping}
use Rattle.afs_host.specs.Starting.{Sight}
use Rattle.afs_host.specs.Views.{count_mark, StoreView}
use Rattle.afs_host.proofs.Blows.{explained, neither, IsSetBlow}
use Rattle.afs_host.proofs.Lying.{begun_as, begun_lies, found_free, is_told, some_of, Begins, IsSoundKeeping}
use Rattle.afs_host.proofs.Stepping.{as_host_up}

one_of : {A : Type 0} (o : Option A) → (o ≡ None → ⊥) → (r : A) × (o ≡ Some r)
one_of {A} None some = absurd (some refl)
one_of {A} (Some r) some = (r, refl)

-- which call of the step wasn't made, and which pick the disk was left with: that is what the blow leaves
left_by_stop : (b : Blow) (n pick : ℕ) → n ≡ b.call → (b.stops ≡ true → pick ≡ b.pick) → (b.stops ≡ false → pick ≡ 1) → (t : Bool) → b.stops ≡ t → is_left_whole n pick ≡ leaves_after b
left_by_stop b n pick is stop fail true e =
    ap (λ (k : ℕ). nat_eq k 4 && nat_eq pick 1) is ∙ (ap (λ (p : ℕ). nat_eq b.call 4 && nat_eq p 1) (stop e) ∙ ap (λ (t : Bool). nat_eq b.call 4 && (not t || nat_eq b.pick 1)) (sym e))
left_by_stop b n pick is stop fail false e =
    ap (λ (k : ℕ). nat_eq k 4 && nat_eq pick 1) is ∙ (ap (λ (p : ℕ). nat_eq b.call 4 && nat_eq p 1) (fail e) ∙ ap (λ (t : Bool). nat_eq b.call 4 && (not t || nat_eq b.pick 1)) (sym e))

module _ {R T M P L S : Type 0} (k : Keeping R T M P L S) where
  -- ---- what a crash leaves of its disk

  -- What is known of a step that its disk ended, where this was decided: with the record of that, if it has one, a restart would begin so.
  -- And what is known of a crash after it.
  pub record Ended {D : Type 0} (w : Ghosts D) (decided : Option R) (next : Begun S) (durable : T) (count : ℕ) (before after : D) : Type 0 where
    pub kept : IsKept k.fold durable (w.seen before) (w.may_leave before)
    pub counted : IsCounted count (w.seen before)
    pub some : decided ≡ None → ⊥
    pub left : (r : R) → decided ≡ Some r → (e : T) → k.fold.folded r durable ≡ Some e → k.read e ≡ k.lasting next.state
    pub around : (r : R) → decided ≡ Some r → (bytes : List ℕ) → w.seen before ≡ Some bytes → LeavesOnly w.moment w.left_since before after (LeftAround k.fold (whole_records bytes) r durable)
    pub fits : (r : R) → decided ≡ Some r → k.fold.Fits r
    pub effects : (r : R) → decided ≡ Some r → (ls : List Line) → next.before ls ≡ k.fold.in_words (k.fold.effect k.kind.me r durable) ++ ls
    pub told : IsSome (w.seen after) → IsSome (w.seen before)

  -- that it is the step of this message, in this state
  pub record IsStepOf (s : S) (m : Message) (clock : ℕ) (decided : Option R) (next : Begun S) (durable : T) : Type 0 where
    pub read : k.read durable ≡ k.lasting s
    pub decides : k.decided s clock m ≡ decided
    pub begins : k.kind.begun_after s clock m ≡ next

  module _ (fit : IsSoundKeeping k) {D : Type 0} (w : Ghosts D) (now : (disk : D) (t : ℕ) (c : List ℕ) → t ≤ w.moment disk → w.may_leave disk c → w.left_since disk t c) (decided : Option R) (next : Begun S) (durable : T) (count : ℕ) (before after : D) (ended : Ended w decided next durable count before after)
      (s : S) (m : Message) (clock : ℕ) (of : IsStepOf s m clock decided next durable) (b : Blow) (told : IsSome (w.seen after)) where
    -- its record was begun
    ended_begins : (bytes : List ℕ) → w.seen before ≡ Some bytes → (r : R) → decided ≡ Some r → Begins k s (in_step m clock b) (whole_records bytes) count durable r
    ended_begins bytes at r is = record {
      stands = ended.kept.stands bytes at;
      read = of.read;
      counted = ended.counted bytes at;
      read_again = fit.fold.again r (ended.fits r is);
      made = of.decides ∙ is;
      left = λ e takes. ended.left r is e takes ∙ ap (λ (x : Begun S). k.lasting x.state) (sym of.begins);
      told = λ ls. ap (λ (x : Begun S). x.before ls) of.begins ∙ ended.effects r is ls;
    }

    -- whatever it leaves stands for the state before the step, or after it
    pub ended_lies : (c : List ℕ) → w.may_leave after c → IsKeptIn k s (in_step m clock b) (count_mark count) (whole_records c)
    ended_lies c left =
        let bytes = some_of (w.seen before) (ended.told told) in
        let r = one_of decided ended.some in
        let only = ended.around r.0 r.1 bytes.0 bytes.1 in
        let around = only.each c (now after (w.moment before) c only.later left) in
        begun_lies k fit.fold s (in_step m clock b) (whole_records bytes.0) count durable r.0 (ended_begins bytes.0 bytes.1 r.0 r.1) c around.0 around.1

    -- Where its disk was set to end the step, what a crash with each pick leaves is told by the call that wasn't made.
    pub ended_left : (leaves : (disk : D) (pick : ℕ) (c : List ℕ) → w.left_by disk pick ≡ Some c → w.may_leave disk c) (n : ℕ) →
        ((r : R) → decided ≡ Some r → (bytes : List ℕ) → w.seen before ≡ Some bytes → (pick : ℕ) (c : List ℕ) → w.left_by after pick ≡ Some c → whole_records c ≡ records_left n pick (whole_records bytes) (k.fold.spelled r)) →
        (pick : ℕ) (c : List ℕ) → w.left_by after pick ≡ Some c → IsKeptAs k s (in_step m clock b) (count_mark count) (is_left_whole n pick) (whole_records c)
    ended_left leaves n picked pick c left =
        let bytes = some_of (w.seen before) (ended.told told) in
        let r = one_of decided ended.some in
        let only = ended.around r.0 r.1 bytes.0 bytes.1 in
        let around = only.each c (now after (w.moment before) c only.later (leaves after pick c left)) in
        begun_as k fit.fold s (in_step m clock b) (whole_records bytes.0) count durable r.0 (ended_begins bytes.0 bytes.1 r.0 r.1) c (is_left_whole n pick) (picked r.0 r.1 bytes.0 bytes.1 pick c left) around.1

  -- ---- the node is down

  -- what a set blow left, of a disk from which this pick leaves these bytes
  set_found : (s : S) (m : Message) (clock : ℕ) (b : Blow) (mark other : Mark) (bytes : List ℕ) (n pick : ℕ) → other ≡ mark → n ≡ b.call → (b.stops ≡ true → pick ≡ b.pick) → (b.stops ≡ false → pick ≡ 1) →
      IsKeptAs k s (in_step m clock b) mark (is_left_whole n pick) (whole_records bytes) → IsKeptFound k s (in_step m clock b) other (whole_records bytes)
  set_found s m clock b mark other bytes n pick marked is stop fail lies = (
    leaves_after b,
    (
      (λ set. refl),
      subst (λ (x : Mark). IsKeptAs k s (in_step m clock b) x (leaves_after b) (whole_records bytes)) (sym marked)
          (subst (λ (t : Bool). IsKeptAs k s (in_step m clock b) mark t (whole_records bytes)) (left_by_stop b n pick is stop fail b.stops refl) lies),
    ),
  )

  -- of a disk that failed by itself it isn't known which
  own_found : (s : S) (m : Message) (clock : ℕ) (b : Blow) (mark : Mark) (records : List (List ℕ)) → b.is_set ≡ false → IsKeptIn k s (in_step m clock b) mark records → IsKeptFound k s (in_step m clock b) mark records
  own_found s m clock b mark records own lies = found_free k s (in_step m clock b) mark records (λ after set. absurd (neither b.is_set set own)) lies

  -- What is known of a node whose step of this message its disk ended, before it falls.
  pub record Broke {N V D : Type 0} (v : Sight N V D S) (w : Ghosts D) (old new : Running N V) (m : Message) (clock : ℕ) : Type 0 where
    pub armed : new.armed ≡ old.armed
    pub set : IsSet old.armed (v.shown old.store).fuse
    pub node : (v.shown new.store).node ≡ k.kind.me
    pub counted : (v.shown new.store).count ≡ (v.shown old.store).count
    pub lies : (b : Blow) → IsSome (w.seen (v.shown new.store).fuse.disk) → (c : List ℕ) → w.may_leave (v.shown new.store).fuse.disk c → IsKeptIn k (v.state old.memory old.store) (in_step m clock b) (count_mark (v.shown old.store).count) (whole_records c)
    pub reached : ReachesCall (record { stop = (v.shown old.store).fuse.stop; fail = (v.shown old.store).fuse.fail }) (v.shown old.store).fuse.calls (v.shown new.store).fuse.calls
    pub left : (b : Blow) → IsSome (w.seen (v.shown new.store).fuse.disk) → Trips (record { stop = (v.shown old.store).fuse.stop; fail = (v.shown old.store).fuse.fail }) (v.shown new.store).fuse.calls → (pick : ℕ) (c : List ℕ) → w.left_by (v.shown new.store).fuse.disk pick ≡ Some c
        → IsKeptAs k (v.state old.memory old.store) (in_step m clock b) (count_mark (v.shown old.store).count) (is_left_whole ((v.shown new.store).fuse.calls - (v.shown old.store).fuse.calls) pick) (whole_records c)
    pub saves : k.kind.device_calls (v.state old.memory old.store) clock (Whole m) ≡ 4
    pub few : (v.shown new.store).fuse.calls ≤ (v.shown old.store).fuse.calls + 4
    pub stop : (v.shown new.store).fuse.stop ≡ (v.shown old.store).fuse.stop
    pub cause : Trips (record { stop = (v.shown old.store).fuse.stop; fail = (v.shown old.store).fuse.fail }) (v.shown new.store).fuse.calls ⊎ Rose (w.faults (v.shown old.store).fuse.disk) (w.faults (v.shown new.store).fuse.disk)
    pub capacity : k.capacity (k.lasting (v.state old.memory old.store)) ≡ w.limit (v.shown new.store).fuse.disk

  module _ {N V D : Type 0} (v : Sight N V D S) (w : Ghosts D) (leaves : (disk : D) (pick : ℕ) (c : List ℕ) → w.left_by disk pick ≡ Some c → w.may_leave disk c) (reads : (disk : D) → w.left_by disk 1 ≡ w.seen disk) (old new : Running N V) (m : Message) (clock : ℕ) (broke : Broke v w old new m clock)
      (s : Resting D) (line : Line) (fallen : HasGoneDown w.seen w.left_by w.may_leave w.faults w.limit (v.shown new.store) new.armed s line) where
    abbrev was : StoreView D
    was = v.shown old.store

    abbrev is : StoreView D
    is = v.shown new.store

    abbrev state : S
    state = v.state old.memory old.store

    -- what a read gives then is what a restart may find
    fallen_found : (b : Blow) → b.stops ≡ stops_now fallen.came old.armed → s.mark ≡ count_mark was.count → (b.is_set ≡ true → IsSetBlow old.armed (record { stop = was.fuse.stop; fail = was.fuse.fail }) was.fuse.calls is.fuse.calls b) →
        (bytes : List ℕ) → w.seen s.disk ≡ Some bytes → IsSome (w.seen s.disk) → (set : Bool) → b.is_set ≡ set → (stops : Bool) → b.stops ≡ stops → IsKeptFound k state (in_step m clock b) s.mark (whole_records bytes)
    fallen_found b stops_is mark_is told bytes at some false own stops e =
        own_found state m clock b s.mark (whole_records bytes) own
        (subst (λ (x : Mark). IsKeptIn k state (in_step m clock b) x (whole_records bytes)) (sym mark_is) (broke.lies b (fallen.told.0 some) bytes (fallen.image some bytes (leaves s.disk 1 bytes (reads s.disk ∙ at)))))
    fallen_found b stops_is mark_is told bytes at some true set true e =
        let t = told set in
        let line_is : line ≡ lines.Crash is.node = fallen.line_is ∙ ap (fall_line is.node) (ap (stops_now fallen.came) broke.armed ∙ (sym stops_is ∙ e)) in
        let left = sym (fallen.picked line_is) ∙ at in
        set_found state m clock b (count_mark was.count) s.mark bytes (is.fuse.calls - was.fuse.calls) (pick_of new.armed) mark_is (omega (arith, t.counted))
        (λ stops. ap pick_of broke.armed ∙ sym (t.pick stops)) (λ no. absurd (neither b.stops e no)) (broke.left b (fallen.told.0 some) t.trips (pick_of new.armed) bytes left)
    fallen_found b stops_is mark_is told bytes at some true set false e =
        let t = told set in
        let line_is : line ≡ lines.Fault is.node = fallen.line_is ∙ ap (fall_line is.node) (ap (stops_now fallen.came) broke.armed ∙ (sym stops_is ∙ e)) in
        let left = reads is.fuse.disk ∙ (ap w.seen (sym (fallen.stays line_is)) ∙ at) in
        set_found state m clock b (count_mark was.count) s.mark bytes (is.fuse.calls - was.fuse.calls) 1 mark_is (omega (arith, t.counted))
        (λ yes. absurd (neither b.stops yes e)) (λ no. refl) (broke.left b (fallen.told.0 some) t.trips 1 bytes left)

    -- the host fell with some luck, and as the line tells
    pub fallen_step : (h : Host S) → IsHostUp v.state old h → (place : ℕ) → HasServed k.kind h clock place m (IsHostStepDown w.seen w.may_leave w.limit k s (lines.Given place ∷ line ∷ [])) (Rose (w.faults was.fuse.disk) (w.faults s.disk))
    fallen_step h up place =
        let x = explained old.armed (record { stop = was.fuse.stop; fail = was.fuse.fail }) was.fuse.calls is.fuse.calls fallen.came (Rose (w.faults was.fuse.disk) (w.faults is.fuse.disk)) (record {
          stop = broke.set.stop;
          fail = broke.set.fail;
          due = broke.set.due;
          few = broke.few;
          reached = broke.reached;
          came_so = λ b. fallen.came_so (subst (λ (o : Option ℕ). IsBeyond o is.fuse.calls) (sym broke.stop) b);
          came_is = λ e. subst (λ (o : Option ℕ). IsBeyond o is.fuse.calls) broke.stop (fallen.came_is e);
          cause = broke.cause;
        }) in
        let hit = ap (struck old.armed x.luck) broke.saves ∙ x.struck_is in
        let line_is = fallen.line_is ∙ (ap (λ (n : Node). fall_line n (stops_now fallen.came new.armed)) broke.node ∙ (ap (λ (a : Armed). fall_line k.kind.me (stops_now fallen.came a)) broke.armed ∙ ap (fall_line k.kind.me) (sym x.stops_is))) in
        let mark_is = fallen.mark ∙ ap count_mark broke.counted in
        record {
          luck = x.luck;
          is_luck = x.is_luck;
          is = as_host_up v.state old h (λ (y : Host S). IsHostStepDown w.seen w.may_leave w.limit k s (lines.Given place ∷ line ∷ []) (served k.kind y clock place x.luck m)) up
              (subst (λ (b : Option Blow). IsHostStepDown w.seen w.may_leave w.limit k s (lines.Given place ∷ line ∷ []) (served_by k.kind (record { state = state; down = None; armed = old.armed }) clock place m b)) (sym hit) (record {
                host = record {
                  fall = in_step m clock x.blow;
                  down = refl;
                  armed = refl;
                  capacity = broke.capacity ∙ sym fallen.same_limit;
                  lies = λ told c left. subst (λ (y : Mark). IsKeptIn k state (in_step m clock x.blow) y (whole_records c)) (sym mark_is) (broke.lies x.blow (fallen.told.0 told) c (fallen.image told c left));
                  found = λ bytes at. fallen_found x.blow x.stops_is mark_is x.told bytes at (is_told (w.seen s.disk) bytes at) x.blow.is_set refl x.blow.stops refl;
                };
                lines = ap (λ (l : Line). lines.Given place ∷ l ∷ []) line_is;
                sent = refl;
              }));
          blame = λ own. subst (λ (n : ℕ). Rose (w.faults was.fuse.disk) n) (sym fallen.same_faults) (x.blame own);
        }
