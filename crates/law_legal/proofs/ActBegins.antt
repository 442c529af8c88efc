-- An act begins in the entry that tells so.
use Rattle.spec_history.specs.declared.acts.Act.{Act}
use Rattle.spec_history.specs.declared.lines.Line.{Line}
use Rattle.spec_history.specs.declared.lines.Line.TheVariants as lines
use Rattle.law_legal.proofs.BaseLaws.{same_node-refl}
use Rattle.law_legal.specs.Past.{has_begun}
use Rattle.afs_num.specs.declared.types.Node.TheVariants.{Client}
use Rattle.spec_rows.specs.ClientRow.{Walked, begin_row, begins_by, dropped, gift_of, gives_by, goes_by, in_order, most_reads, trusted_in, untrusted_in, walked}
use Rattle.spec_rows.specs.Going.{ClientState, Going, Need, answers, began, gives_back, locates, next}
use Rattle.spec_rows.specs.States.{CacheEntry, Gift}
use Rattle.std.proofs.Common.{◌≡◌, ℕ, List, [], ◌∷◌, true, refl, map}

goes_begun : (c : ClientState) (n : ℕ) (act : Act) (w : Walked) (need : Need) → has_begun (Client n) (goes_by (Client n) c (λ ls. lines.Begin (Client n) act ∷ ls) w need).lines ≡ true
goes_begun c n act w (locates o) = rw (same_node-refl (Client n)) refl
goes_begun c n act w (answers k) = rw (same_node-refl (Client n)) refl
goes_begun c n act w need = rw (same_node-refl (Client n)) refl

gives_begun : (c : ClientState) (n : ℕ) (act : Act) (a : Going) (es : List CacheEntry) (gs : List Gift) → has_begun (Client n) (gives_by (Client n) c (λ ls. lines.Begin (Client n) act ∷ dropped (Client n) es ls) a gs).lines ≡ true
gives_begun c n act a es [] = rw (same_node-refl (Client n)) refl
gives_begun c n act a es (g ∷ gs) = rw (same_node-refl (Client n)) refl

first_begun : (x : ClientState) (n clock : ℕ) (act : Act) (a : Going) (need : Need) → has_begun (Client n) (begins_by (Client n) x clock (λ ls. lines.Begin (Client n) act ∷ ls) a need).lines ≡ true
first_begun x n clock act a gives_back = gives_begun (record x { cache = untrusted_in clock x.cache }) n act a (trusted_in clock x.cache) (in_order (map gift_of (trusted_in clock x.cache)))
first_begun x n clock act a need = goes_begun x n act (walked (most_reads a) clock a x.cache) (next (walked (most_reads a) clock a x.cache).act)

pub row_begun : (x : ClientState) (n clock : ℕ) (act : Act) → has_begun (Client n) (begin_row (Client n) x clock act).lines ≡ true
unfolding begin_row
row_begun x n clock act = first_begun (record x { busy = 0; moved = 0 }) n clock act (began x.table act) (next (began x.table act))
