-- The way up from a directory.
use Rattle.std.proofs.Common.{◌≡◌, ◌<◌, ℕ, zero, suc, [], ◌∷◌, Option, Some, None, Bool, true, false, length, refl, ap, sym, ◌∙◌, arith, nat_eq}
use Rattle.afs_num.specs.declared.vnodes.Vnode as image
use Rattle.spec_ideal.specs.Operations.{leads_up}
use Rattle.spec_ideal.specs.Tables.{Table, get}
use Rattle.spec_ideal.specs.Volumes.{Vnode, Volume}
use Rattle.afs_volume.specs.Seen.{all_seen}

pub same_length : (t : Table image.Vnode) → length (all_seen t) ≡ length t
unfolding all_seen
same_length [] = refl
same_length (p ∷ ps) = ap (λ (n : ℕ). suc n) (same_length ps)

up_none : (k n top : ℕ) (v : Volume) → leads_up k n top v None ≡ false
up_none zero n top v = refl
up_none (suc k) n top v = refl

pub nowhere : (k n top : ℕ) (v : Volume) (o : Option Vnode) (b : Bool) → o ≡ None → leads_up k n top v o ≡ b → b ≡ false
nowhere k n top v o b none is = sym is ∙ (ap (λ (p : Option Vnode). leads_up k n top v p) none ∙ up_none k n top v)

there_by : (k n top : ℕ) (v : Volume) (x : Vnode) → 0 < k → nat_eq n top ≡ true → leads_up k n top v (Some x) ≡ true
there_by zero n top v x lt same = absurd (omega (arith, lt))
there_by (suc k) n top v x lt same = rw same refl

pub there : (k n top : ℕ) (v : Volume) (o : Option Vnode) (x : Vnode) (b : Bool) → o ≡ Some x → 0 < k → nat_eq n top ≡ true → leads_up k n top v o ≡ b → b ≡ true
there k n top v o x b some lt same is = sym is ∙ (ap (λ (p : Option Vnode). leads_up k n top v p) some ∙ there_by k n top v x lt same)

higher_by : (k m n top : ℕ) (v : Volume) (x : Vnode) → k ≡ suc m → nat_eq n top ≡ false → leads_up k n top v (Some x) ≡ leads_up m x.parent top v (get x.parent v.vnodes)
higher_by k m n top v x next other = rw (next, other) refl

pub higher : (k m n top : ℕ) (v : Volume) (o : Option Vnode) (x : Vnode) (b : Bool) → o ≡ Some x → k ≡ suc m → nat_eq n top ≡ false → leads_up k n top v o ≡ b → leads_up m x.parent top v (get x.parent v.vnodes) ≡ b
higher k m n top v o x b some next other is = sym (higher_by k m n top v x next other) ∙ (ap (λ (p : Option Vnode). leads_up k n top v p) (sym some) ∙ is)
