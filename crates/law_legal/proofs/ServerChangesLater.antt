-- A server that ran a call of a client, and didn't stop since, changes nothing for it under a key that isn't a later one.
use Rattle.spec_history.specs.declared.lines.Line.{Line}
use Rattle.spec_history.specs.declared.lines.Line.TheVariants as lines
use Rattle.spec_history.specs.declared.scripts.Script.{Script}
use Rattle.law_legal.proofs.OwedPasses.{stopped_onto, entries_same, entry_same}
use Rattle.law_legal.proofs.BaseLaws.{node_apart, some_of}
use Rattle.law_legal.specs.Breaks.{HasStopped}
use Rattle.law_legal.specs.Legal.{AreFailed, IdealChange, IsLater}
use Rattle.law_legal.specs.Past.{IsCall, IsCallToOrLater, IsFirstOfItsBoot, IsUpTo, called_key, given_message, lines_of, lines_on, onto, boot_risen, sent_of, server_boot}
use Rattle.afs_num.specs.Nodes.{same_node}
use Rattle.afs_num.specs.declared.histories.Actor.TheVariants as actors
use Rattle.afs_num.specs.declared.messages.Message.{Message}
use Rattle.afs_num.specs.declared.types.Key.{Key}
use Rattle.afs_num.specs.declared.types.Node.{Node}
use Rattle.spec_rows.specs.Runs.{Entry}
use Rattle.std.proofs.Common.{◌≡◌, ◌<◌, ◌≤◌, ℕ, ◌⊎◌, inl, inr, Bool, true, false, cond, List, [], ◌∷◌, ◌++◌, Option, Some, None, refl, sym, ap, subst, ◌∙◌, nat_lt, ltb-true, ltb-false, arith}

-- ---- a server that doesn't stop stays in its boot

pub stopped_in : (s : Node) (ls o : List Line) → HasStopped s ls → HasStopped s (onto o ls)
stopped_in s [] o h = absurd h
stopped_in s (lines.Crash n ∷ ls) o (inl e) = stopped_onto s ls (lines.Crash n ∷ o) (inl e)
stopped_in s (lines.Crash n ∷ ls) o (inr h) = stopped_in s ls (lines.Crash n ∷ o) h
stopped_in s (lines.Fault n ∷ ls) o (inl e) = stopped_onto s ls (lines.Fault n ∷ o) (inl e)
stopped_in s (lines.Fault n ∷ ls) o (inr h) = stopped_in s ls (lines.Fault n ∷ o) h
stopped_in s (l ∷ ls) o h = stopped_in s ls (l ∷ o) h

risen_kept : (t : Bool) (o : Option ℕ) (boot b : ℕ) → o ≡ Some b → cond t (boot_risen o boot) o ≡ Some b
risen_kept true o boot b e = ap (λ (x : Option ℕ). boot_risen x boot) e
risen_kept false o boot b e = e

boot_kept : (s : Node) (ls o : List Line) (b : ℕ) → (HasStopped s ls → ⊥) → server_boot s o ≡ Some b → server_boot s (onto o ls) ≡ Some b
boot_kept s [] o b h e = e
boot_kept s (lines.Crash n ∷ ls) o b h e = boot_kept s ls (lines.Crash n ∷ o) b (λ x. h (inr x)) (ap (λ (t : Bool). cond t None (server_boot s o)) (node_apart n s (λ z. h (inl z))) ∙ e)
boot_kept s (lines.Fault n ∷ ls) o b h e = boot_kept s ls (lines.Fault n ∷ o) b (λ x. h (inr x)) (ap (λ (t : Bool). cond t None (server_boot s o)) (node_apart n s (λ z. h (inl z))) ∙ e)
boot_kept s (lines.Restart n boot ∷ ls) o b h e = boot_kept s ls (lines.Restart n boot ∷ o) b h (risen_kept (same_node n s) (server_boot s o) boot b e)
boot_kept s (l ∷ ls) o b h e = boot_kept s ls (l ∷ o) b h e

boot_since : (s : Node) (newer : List Entry) (at : Entry) (older : List Entry) (b : ℕ) → (HasStopped s (lines_on (onto [] at.lines) newer) → ⊥) → server_boot s (lines_of older) ≡ Some b → server_boot s (lines_of (newer ++ (at ∷ older))) ≡ Some b
boot_since s [] at older b h e = boot_kept s at.lines (lines_of older) b (λ x. h (stopped_in s at.lines [] x)) e
boot_since s (y ∷ newer) at older b h e =
    boot_kept s y.lines (lines_of (newer ++ (at ∷ older))) b (λ x. h (stopped_in s y.lines (lines_on (onto [] at.lines) newer) x)) (boot_since s newer at older b (λ x. h (stopped_onto s y.lines (lines_on (onto [] at.lines) newer) x)) e)

-- ---- the calls that it was given there

pub to_come_at : (s : Node) (k : Key) (b : ℕ) (newer : List Entry) (at : Entry) (older : List Entry) → IsFirstOfItsBoot s k b (newer ++ (at ∷ older)) → IsCallToOrLater s k b (given_message at.lines (sent_of older)) → ⊥
to_come_at s k b [] at older h x = h.0 x
to_come_at s k b (y ∷ newer) at older h x = to_come_at s k b newer at older h.1 x

-- one pair is up to another, or later
up_by : (e n d m : ℕ) (p q r : Bool) → nat_lt e d ≡ p → nat_lt d e ≡ q → nat_lt m n ≡ r → IsUpTo e n d m ⊎ ((d < e) ⊎ ((d ≡ e) × (m < n)))
up_by e n d m true q r x y z = inl (inl (ltb-true e d x))
up_by e n d m false true r x y z = inr (inl (ltb-true d e y))
up_by e n d m false false true x y z = let a : d ≤ e = ltb-false e d x in let b : e ≤ d = ltb-false d e y in inr (inr (omega arith, ltb-true m n z))
up_by e n d m false false false x y z = let a : d ≤ e = ltb-false e d x in let b : e ≤ d = ltb-false d e y in inl (inr (omega arith, ltb-false m n z))

-- the server ran this call of the key's node, in its boot, and didn't stop since
pub record HasRunSince (server : Node) (k : Key) (past : List Entry) : Type 0 where
  pub newer : List Entry
  pub at : Entry
  pub older : List Entry
  pub split : past ≡ newer ++ (at ∷ older)
  pub message : Message
  pub given : given_message at.lines (sent_of older) ≡ Some message
  pub is_call : IsCall message.carried
  pub to : message.head.to ≡ server
  pub from : message.head.from ≡ k.node
  pub up : server_boot server (lines_of older) ≡ Some message.head.boot
  pub node : at.actor ≡ actors.Node server
  pub going : HasStopped server (lines_on (onto [] at.lines) newer) → ⊥

-- a step that was interrupted stands behind it, or before a start
cut_apart : (s : Node) (newer : List Entry) (at : Entry) (older later : List Entry) (cut : Entry) (before : List Entry) → newer ++ (at ∷ older) ≡ later ++ (cut ∷ before) → at.actor ≡ actors.Node s → (HasStopped s (lines_on (onto [] at.lines) newer) → ⊥) → HasStopped s cut.lines → AreFailed s later → ⊥
cut_apart s [] at older [] cut before e node h x f = h (stopped_in s at.lines [] (subst (λ (y : Entry). HasStopped s y.lines) (sym (entry_same at cut older before e)) x))
cut_apart s [] at older (y ∷ later) cut before e node h x f =
    let same : at ≡ y = entry_same at y older (later ++ (cut ∷ before)) e in
    let told : at.lines ≡ lines.Fault s ∷ [] = ap (λ (z : Entry). z.lines) same ∙ f.0 (ap (λ (z : Entry). z.actor) (sym same) ∙ node) in
    h (stopped_in s at.lines [] (subst (HasStopped s) (sym told) (inl refl)))
cut_apart s (y ∷ newer) at older [] cut before e node h x f = h (stopped_in s y.lines (lines_on (onto [] at.lines) newer) (subst (λ (z : Entry). HasStopped s z.lines) (sym (entry_same y cut (newer ++ (at ∷ older)) before e)) x))
cut_apart s (y ∷ newer) at older (z ∷ later) cut before e node h x f =
    cut_apart s newer at older later cut before (entries_same y z (newer ++ (at ∷ older)) (later ++ (cut ∷ before)) e) node (λ w. h (stopped_onto s y.lines (lines_on (onto [] at.lines) newer) w)) x f.1

pub later_key : (s : Script) (server : Node) (k : Key) (count : ℕ) (past : List Entry) (own next : List Line) → IdealChange s server k count past own next → (r : HasRunSince server k past) → IsLater k (called_key r.message.head)
later_key s server k count past own next i r = elim i.place [
  | inl x ↦
      (let boot : server_boot server (lines_of past) ≡ Some r.message.head.boot = ap (λ (p : List Entry). server_boot server (lines_of p)) r.split ∙ boot_since server r.newer r.at r.older r.message.head.boot r.going r.up in
      let same : r.message.head.boot ≡ x.boot = some_of r.message.head.boot x.boot (sym boot ∙ x.up) in
      elim (up_by k.epoch k.number r.message.head.epoch r.message.head.number (nat_lt k.epoch r.message.head.epoch) (nat_lt r.message.head.epoch k.epoch) (nat_lt r.message.head.number k.number) refl refl refl) [
        | inl u ↦ absurd (to_come_at server k x.boot r.newer r.at r.older (subst (IsFirstOfItsBoot server k x.boot) r.split x.first)
            (subst (IsCallToOrLater server k x.boot) (sym r.given) ((r.is_call, r.to), ((r.from, u), same))))
        | inr w ↦ w
      ])
  | inr y ↦ absurd (cut_apart server r.newer r.at r.older y.newer y.at y.older (sym r.split ∙ y.split) r.node r.going y.stopped y.since)
]
