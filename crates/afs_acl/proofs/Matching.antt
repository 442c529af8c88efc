-- Of which users an entry speaks.
use Rattle.std.proofs.Common.{◌≡◌, ℕ, ◌||◌, Bool, true, false, List, refl, ap, ◌∙◌}
use Rattle.std.specs.Str.{bytes_eq}
use Rattle.afs_num.specs.declared.acls.AclEntry.{AclEntry}
use Rattle.spec_ideal.specs.AccessLists.{anyuser, matches}

same_twice : (b : Bool) → (b || b) ≡ b
same_twice true = refl
same_twice false = refl

swapped : (a b : Bool) → (b || a) ≡ (a || b)
swapped true true = refl
swapped true false = refl
swapped false true = refl
swapped false false = refl

pub twice : (e : AclEntry) → matches anyuser e ≡ bytes_eq e.name anyuser
twice e = same_twice (bytes_eq e.name anyuser)

pub either_way : (user : List ℕ) (e : AclEntry) (everyone : Bool) → everyone ≡ matches anyuser e → (everyone || bytes_eq e.name user) ≡ matches user e
either_way user e everyone is = ap (λ (b : Bool). b || bytes_eq e.name user) (is ∙ twice e) ∙ swapped (bytes_eq e.name user) (bytes_eq e.name anyuser)
