-- Boots rise: the boot in which a server ran a call isn't above that in which it is now, or was last.
use Rattle.spec_history.specs.declared.lines.Line.{Line}
use Rattle.spec_history.specs.declared.lines.Line.TheVariants as lines
use Rattle.law_legal.proofs.BaseLaws.{same_node-true, some_of}
use Rattle.law_legal.proofs.ServerBoots.{HaveRisen}
use Rattle.law_legal.specs.Legal.{AreRising, IsRising}
use Rattle.law_legal.specs.Past.{Ran, last_boot, lines_of, onto, boot_risen, server_boot}
use Rattle.afs_num.specs.Nodes.{same_node}
use Rattle.afs_num.specs.declared.types.Head.{Head}
use Rattle.afs_num.specs.declared.types.Node.{Node}
use Rattle.afs_num.specs.declared.types.Node.TheVariants.{Admin, Client, Loc, Server}
use Rattle.spec_rows.specs.Runs.{Entry}
use Rattle.std.proofs.Common.{◌≡◌, ℕ, ◌<◌, ◌≤◌, Bool, true, false, cond, List, [], ◌∷◌, ◌++◌, Option, Some, None, refl, sym, subst, arith}
use Rattle.std.proofs.Math.Nat.{le_refl, le_trans}
use Rattle.std.specs.Prelude.{⊤}

abbrev pub LinesRise : List Line → Type 0
LinesRise [] = ⊤
LinesRise (l ∷ o) = IsRising l o × LinesRise o

rise_onto : (o ls : List Line) → LinesRise o → AreRising o ls → LinesRise (onto o ls)
rise_onto o [] h r = h
rise_onto o (l ∷ ls) h r = rise_onto (l ∷ o) ls (r.0, h) r.1

pub rise_past : (past : List Entry) → HaveRisen past → LinesRise (lines_of past)
rise_past [] h = tt
rise_past (e ∷ past) h = rise_onto (lines_of past) e.lines (rise_past past h.1) h.0

restart_above : (k : ℕ) → (t : Bool) (i b last : ℕ) (o : List Line) → same_node (Server i) (Server k) ≡ t → last_boot (Server i) o < b → last ≡ last_boot (Server k) o → last ≤ cond t b last
restart_above k true i b last o e r w =
    let l : last_boot (Server k) o < b = subst (λ (n : Node). last_boot n o < b) (same_node-true (Server i) (Server k) e) r in
    subst (λ (n : ℕ). n ≤ b) (sym w) (omega arith)
restart_above k false i b last o e r w = le_refl last

line_above : (k : ℕ) → (l : Line) (o : List Line) → IsRising l o → last_boot (Server k) o ≤ last_boot (Server k) (l ∷ o)
line_above k (lines.Restart (Server i) b) o r = restart_above k (same_node (Server i) (Server k)) i b (last_boot (Server k) o) o refl r.1 refl
line_above k (lines.Restart (Client i) b) o r = le_refl _
line_above k (lines.Restart (Admin i) b) o r = le_refl _
line_above k (lines.Restart Loc b) o r = le_refl _
line_above k l o r = le_refl _

pub lines_above : (k : ℕ) → (ls o : List Line) → AreRising o ls → last_boot (Server k) o ≤ last_boot (Server k) (onto o ls)
lines_above k [] o r = le_refl _
lines_above k (l ∷ ls) o r = le_trans (line_above k l o r.0) (lines_above k ls (l ∷ o) r.1)

-- a boot in which the server is is not above the last
stop_up : (k : ℕ) → (t : Bool) (o : Option ℕ) (b : ℕ) → cond t None o ≡ Some b → o ≡ Some b
stop_up k true o b e = absurd cc
stop_up k false o b e = e

risen_up : (o : Option ℕ) (boot b last : ℕ) → boot_risen o boot ≡ Some b → (o ≡ Some b → b ≤ last) → last < boot → b ≤ boot
risen_up None boot b last e w l = let same : boot ≡ b = some_of boot b e in omega arith
risen_up (Some old) boot b last e w l = let y : b ≤ last = w e in omega arith

restart_up : (k : ℕ) → (t : Bool) (i boot b : ℕ) (o : List Line) → same_node (Server i) (Server k) ≡ t → last_boot (Server i) o < boot → cond t (boot_risen (server_boot (Server k) o) boot) (server_boot (Server k) o) ≡ Some b → (server_boot (Server k) o ≡ Some b → b ≤ last_boot (Server k) o) → b ≤ cond t boot (last_boot (Server k) o)
restart_up k true i boot b o e r x w = risen_up (server_boot (Server k) o) boot b (last_boot (Server k) o) x w (subst (λ (n : Node). last_boot n o < boot) (same_node-true (Server i) (Server k) e) r)
restart_up k false i boot b o e r x w = w x

pub up_last : (k : ℕ) → (ls : List Line) → LinesRise ls → (b : ℕ) → server_boot (Server k) ls ≡ Some b → b ≤ last_boot (Server k) ls
up_last k [] h b e = let same : 1 ≡ b = some_of 1 b e in omega arith
up_last k (lines.Crash n ∷ o) h b e = up_last k o h.1 b (stop_up k (same_node n (Server k)) (server_boot (Server k) o) b e)
up_last k (lines.Fault n ∷ o) h b e = up_last k o h.1 b (stop_up k (same_node n (Server k)) (server_boot (Server k) o) b e)
up_last k (lines.Restart (Server i) boot ∷ o) h b e = restart_up k (same_node (Server i) (Server k)) i boot b o refl h.0.1 e (up_last k o h.1 b)
up_last k (lines.Restart (Client i) boot ∷ o) h b e = up_last k o h.1 b e
up_last k (lines.Restart (Admin i) boot ∷ o) h b e = up_last k o h.1 b e
up_last k (lines.Restart Loc boot ∷ o) h b e = up_last k o h.1 b e
up_last k (l ∷ o) h b e = up_last k o h.1 b e

pub older_rises : (k : ℕ) → (newer : List Entry) (at : Entry) (older : List Entry) → HaveRisen (newer ++ (at ∷ older)) → HaveRisen older × (last_boot (Server k) (lines_of older) ≤ last_boot (Server k) (lines_of (newer ++ (at ∷ older))))
older_rises k [] at older h = (h.1, lines_above k at.lines (lines_of older) h.0)
older_rises k (e ∷ newer) at older h = let r = older_rises k newer at older h.1 in (r.0, le_trans r.1 (lines_above k e.lines (lines_of (newer ++ (at ∷ older))) h.0))

-- who ran a call was in no boot above its last one
pub ran_boot : (k : ℕ) (head : Head) (past : List Entry) → head.from ≡ Server k → HaveRisen past → Ran head past → head.boot ≤ last_boot (Server k) (lines_of past)
ran_boot k head past from rises r =
    let old = older_rises k r.newer r.at r.older (subst HaveRisen r.split rises) in
    let up : server_boot (Server k) (lines_of r.older) ≡ Some head.boot = subst (λ (n : Node). server_boot n (lines_of r.older) ≡ Some head.boot) from r.up in
    le_trans (up_last k (lines_of r.older) (rise_past r.older old.0) head.boot up) (subst (λ (p : List Entry). last_boot (Server k) (lines_of r.older) ≤ last_boot (Server k) (lines_of p)) (sym r.split) old.1)
