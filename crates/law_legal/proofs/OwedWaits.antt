-- What holds of the replies that wait.
use Rattle.spec_rows.specs.States.{Held}
use Rattle.std.proofs.Common.{ℕ, Bool, true, false, cond, List, [], ◌∷◌, ◌++◌}
use Rattle.std.specs.Prelude.{filter}
use Rattle.afs_num.specs.declared.messages.Message.{Message}
use Rattle.law_legal.proofs.BaseLaws.{Each}
use Rattle.spec_rows.specs.Callbacks.{replies_of}

pub each_kept : (P : Message → Type 0) (t : Bool) (h : Held) (hs : List Held) → P h.reply → Each P (replies_of hs) → Each P (replies_of (cond t (h ∷ hs) hs))
each_kept P true h hs x y = (x, y)
each_kept P false h hs x y = y

pub each_filter : (P : Message → Type 0) (q : Held → Bool) (hs : List Held) → Each P (replies_of hs) → Each P (replies_of (filter q hs))
each_filter P q [] h = tt
each_filter P q (x ∷ hs) h = each_kept P (q x) x (filter q hs) h.0 (each_filter P q hs h.1)

pub each_both : (P : Message → Type 0) (a b : List Held) → Each P (replies_of a) → Each P (replies_of b) → Each P (replies_of (a ++ b))
each_both P [] b h k = k
each_both P (x ∷ a) b h k = (h.0, each_both P a b h.1 k)
