-- Where clap takes the words of a replay, they are its options, each at most once.
use Rattle.std.proofs.Common.{◌≡◌, List, [], ◌∷◌, ◌++◌, Bool, true, false, Option, Some, None, codes, refl, sym, ap, subst, ◌∙◌, bytes_eq}
use Rattle.std.proofs.lemmas.Bool.{or_parts}
use Rattle.std.specs.List.{fold, list_any}
use Rattle.clap.specs.Kinds.{Kinds, or_else}
use Rattle.clap.specs.Faults.{flag_word_fault, settle_fault, turn_fault, walk_fault}
use Rattle.clap.specs.Lexer.{long_of}
use Rattle.clap.specs.Walk.{Held, Row, Text, Walk, first_of, idle, one_of, option, settled, walked, with_default}
use Rattle.clap.specs.declared.error.kind.ErrorKind.TheVariants.{UnknownArgument}
use Rattle.afs_command.specs.Forms.{options_in}
use Rattle.afs_arguments.specs.Found.{checked, flag_text}
use Rattle.afs_arguments.proofs.Leaf.{at, disks_row, held, leaf, rules, wire_row}
use Rattle.afs_arguments.proofs.Words.{IsBad, IsPlain, Word, word_is, alike, not_none, asks, bad, names, plain, tells}

pub first : (a b : Kinds) → or_else a b ≡ [] → a ≡ []
first [] b e = refl
first (k ∷ more) b e = absurd cc

pub second : (a b : Kinds) → or_else a b ≡ [] → b ≡ []
second [] b e = e
second (k ∷ more) b e = absurd cc

-- ---- one word after the other

abbrev pub end_of : Walk → List Text → Held
end_of w words = (fold (walked rules []) w words).held

-- clap takes the words from here on
pub record Passes (w : Walk) (words : List Text) : Type 0 where
  pub walk : walk_fault leaf [] w words ≡ []
  pub last : settle_fault rules false (end_of w words) ≡ []

-- what it has found at their end
abbrev pub rows_at : Walk → List Text → List Row
rows_at w words = (settled rules (end_of w words)).rows

after : (w to : Walk) (word : Text) (rest : List Text) → walked rules [] w word ≡ to → Passes w (word ∷ rest) → Passes to rest
unfolding walk_fault
after w to word rest is p = record {
  walk = subst (λ (v : Walk). walk_fault leaf [] v rest ≡ []) is (second (turn_fault leaf [] w word) (walk_fault leaf [] (walked rules [] w word) rest) p.walk);
  last = subst (λ (v : Walk). settle_fault rules false (end_of v rest) ≡ []) is p.last;
}

pub onto : (w to : Walk) (word : Text) (rest : List Text) → turn_fault leaf [] w word ≡ [] → walked rules [] w word ≡ to → Passes to rest → Passes w (word ∷ rest)
unfolding walk_fault
onto w to word rest fine is p = record {
  walk = rw (fine, is) p.walk;
  last = subst (λ (v : Walk). settle_fault rules false (end_of v rest) ≡ []) (sym is) p.last;
}

-- the words end here
pub at_end : (w : Walk) → settle_fault rules false w.held ≡ [] → Passes w []
unfolding walk_fault
at_end w last = record { walk = refl; last = last }

refused : (w : Walk) (word : Text) (rest : List Text) → (turn_fault leaf [] w word ≡ [] → ⊥) → Passes w (word ∷ rest) → ⊥
unfolding walk_fault
refused w word rest fault p = fault (first (turn_fault leaf [] w word) (walk_fault leaf [] (walked rules [] w word) rest) p.walk)

-- the same of a word that is known
no : (w : Walk) (word known : Text) (rest : List Text) → word ≡ known → (turn_fault leaf [] w known ≡ [] → ⊥) → Passes w (word ∷ rest) → ⊥
no w word known rest is fault p = refused w word rest (λ e. fault (subst (λ (t : Text). turn_fault leaf [] w t ≡ []) is e)) p

-- ---- what is found

-- clap finds what these words ask
pub record Finds (words : List Text) (w : Walk) (rest : List Text) : Type 0 where
  pub wire : Bool
  pub folder : Option Text
  pub flag : one_of (codes "wire") (fold with_default (rows_at w rest) rules) ≡ Some (flag_text wire)
  pub name : first_of (codes "disks") (fold with_default (rows_at w rest) rules) ≡ folder
  pub form : options_in words ≡ checked wire folder

moved : (words : List Text) (w to : Walk) (word : Text) (rest : List Text) → walked rules [] w word ≡ to → Finds words to rest → Finds words w (word ∷ rest)
moved words w to word rest is f = record {
  wire = f.wire;
  folder = f.folder;
  flag = subst (λ (v : Walk). one_of (codes "wire") (fold with_default (rows_at v rest) rules) ≡ Some (flag_text f.wire)) (sym is) f.flag;
  name = subst (λ (v : Walk). first_of (codes "disks") (fold with_default (rows_at v rest) rules) ≡ f.folder) (sym is) f.name;
  form = f.form;
}

step : (front : List Text) (w to : Walk) (word known : Text) (rest : List Text) → word ≡ known → walked rules [] w known ≡ to → (Passes to rest → Finds (front ++ known ∷ rest) to rest) → Passes w (word ∷ rest) → Finds (front ++ word ∷ rest) w (word ∷ rest)
step front w to word known rest is moves next p =
    subst (λ (t : Text). Passes w (t ∷ rest) → Finds (front ++ t ∷ rest) w (t ∷ rest)) (sym is) (λ q. moved (front ++ known ∷ rest) w to known rest moves (next (after w to known rest moves q))) p

-- no word is `--`
abbrev pub NoDashes : List Text → Type 0
NoDashes words = list_any (λ (word : Text). bytes_eq word (codes "--")) words ≡ false

pub front : (word : Text) (rest : List Text) → NoDashes (word ∷ rest) → bytes_eq word (codes "--") ≡ false
front word rest none = (or_parts _ _ none).0

pub tail : (word : Text) (rest : List Text) → NoDashes (word ∷ rest) → NoDashes rest
tail word rest none = (or_parts _ _ none).1

-- ---- a word of another kind

bad_idle : (word : Text) (rows : List Row) (pending : Option (Text × List Text)) → IsBad word → turn_fault leaf [] (at idle rows pending) word ≡ [] → ⊥
bad_idle word rows pending b e =
    let refuses = rw (b.dashes) at e in
    b.fault rows pending (first _ _ refuses)

bad_waiting : (word : Text) (rows : List Row) (pending : Option (Text × List Text)) → IsBad word → turn_fault leaf [] (at (option (codes "disks")) rows pending) word ≡ [] → ⊥
bad_waiting word rows pending b e =
    let refuses = rw (b.dashes) at e in
    b.fault rows pending (first _ _ refuses)

plain_idle : (word : Text) (rows : List Row) (pending : Option (Text × List Text)) → IsPlain word → turn_fault leaf [] (at idle rows pending) word ≡ [] → ⊥
plain_idle word rows pending p e =
    let there : turn_fault leaf [] (at idle rows pending) word ≡ UnknownArgument ∷ [] = rw (p.dashes, p.fault rows pending, p.met idle rows pending) refl in
    not_none _ _ (sym there ∙ e)

pub plain_turn : (word : Text) (rows : List Row) → IsPlain word → turn_fault leaf [] (at (option (codes "disks")) rows (Some (codes "disks", []))) word ≡ []
plain_turn word rows p = rw (p.dashes, p.fault rows (Some (codes "disks", [])), p.met (option (codes "disks")) rows (Some (codes "disks", []))) refl

pub plain_walk : (word : Text) (rows : List Row) → IsPlain word → walked rules [] (at (option (codes "disks")) rows (Some (codes "disks", []))) word ≡ at idle rows (Some (codes "disks", word ∷ []))
unfolding walked
plain_walk word rows p = rw (p.dashes, p.met (option (codes "disks")) rows (Some (codes "disks", []))) refl

-- ---- a folder is named twice

-- the folder that waits to be noted isn't the first
abbrev IsTwice : List Row → Type 0
IsTwice rows = (name : Text) → settle_fault rules false (held rows (Some (codes "disks", name ∷ []))) ≡ [] → ⊥

twice : (name : Text) (rows : List Row) (words : List Text) → IsTwice rows → NoDashes words → Passes (at idle rows (Some (codes "disks", name ∷ []))) words → ⊥
twice name rows [] t none p = t name p.last
twice name rows (word ∷ rest) t none p = on (word_is word (front word rest none)) where
  on : Word word → ⊥
  on (tells is) = no (at idle rows (Some (codes "disks", name ∷ []))) word (codes "--wire") rest is (λ e. t name (first _ _ (first _ _ e))) p
  on (asks is) = no (at idle rows (Some (codes "disks", name ∷ []))) word (codes "--disks") rest is (λ e. t name (first _ _ e)) p
  on (names other is) = no (at idle rows (Some (codes "disks", name ∷ []))) word (codes "--disks=" ++ other) rest is (λ e. t name (first _ _ (first _ _ e))) p
  on (bad b) = refused (at idle rows (Some (codes "disks", name ∷ []))) word rest (bad_idle word rows (Some (codes "disks", name ∷ [])) b) p
  on (plain b) = refused (at idle rows (Some (codes "disks", name ∷ []))) word rest (plain_idle word rows (Some (codes "disks", name ∷ [])) b) p

abbrev pub waiting : List Row → Walk
waiting rows = at (option (codes "disks")) rows (Some (codes "disks", []))

-- an option waits for its folder
waits : (rows : List Row) (words : List Text) → IsTwice rows → NoDashes words → Passes (waiting rows) words → ⊥
waits rows [] t none p = not_none _ _ p.last
waits rows (word ∷ rest) t none p = on (word_is word (front word rest none)) where
  on : Word word → ⊥
  on (tells is) = no (waiting rows) word (codes "--wire") rest is (λ e. not_none _ _ e) p
  on (asks is) = no (waiting rows) word (codes "--disks") rest is (λ e. not_none _ _ e) p
  on (names other is) = no (waiting rows) word (codes "--disks=" ++ other) rest is (λ e. not_none _ _ e) p
  on (bad b) = refused (waiting rows) word rest (bad_waiting word rows (Some (codes "disks", [])) b) p
  on (plain b) = twice word rows rest t (tail word rest none) (after (waiting rows) (at idle rows (Some (codes "disks", word ∷ []))) word rest (plain_walk word rows b) p)

-- ---- each state of the walk

abbrev pub wired : Walk
wired = at idle (wire_row ∷ []) None

abbrev pub kept : Text → Walk
kept name = at idle (disks_row name ∷ []) None

abbrev pub pending : List Row → Text → Walk
pending rows name = at idle rows (Some (codes "disks", name ∷ []))

abbrev pub wired_kept : Text → Walk
wired_kept name = at idle (wire_row ∷ disks_row name ∷ []) None

abbrev pub kept_wired : Text → Walk
kept_wired name = at idle (disks_row name ∷ wire_row ∷ []) None

-- a folder was named, so that only `--wire` may follow
record IsNamed (rows : List Row) (pending : Option (Text × List Text)) : Type 0 where
  all : List Row
  disks : walked rules [] (at idle rows pending) (codes "--disks") ≡ waiting all
  named : (name : Text) → turn_fault leaf [] (at idle rows pending) (codes "--disks=" ++ name) ≡ [] → ⊥
  twice : IsTwice all

then_wire : (rows : List Row) (pending : Option (Text × List Text)) (word : Text) (rest : List Text) → IsNamed rows pending → NoDashes (word ∷ rest) → Passes (at idle rows pending) (word ∷ rest) → word ≡ codes "--wire"
then_wire rows pending word rest has none p = on (word_is word (front word rest none)) where
  on : Word word → word ≡ codes "--wire"
  on (tells is) = is
  on (asks is) = absurd (waits has.all rest has.twice (tail word rest none) (after (at idle rows pending) (waiting has.all) word rest (ap (walked rules [] (at idle rows pending)) is ∙ has.disks) p))
  on (names other is) = absurd (no (at idle rows pending) word (codes "--disks=" ++ other) rest is (has.named other) p)
  on (bad b) = absurd (refused (at idle rows pending) word rest (bad_idle word rows pending b) p)
  on (plain b) = absurd (refused (at idle rows pending) word rest (plain_idle word rows pending b) p)

-- and not that, where it came before
then_none : (rows : List Row) (pending : Option (Text × List Text)) (words : List Text) → IsNamed rows pending → (turn_fault leaf [] (at idle rows pending) (codes "--wire") ≡ [] → ⊥) → NoDashes words → Passes (at idle rows pending) words → words ≡ []
then_none rows pending [] has again none p = refl
then_none rows pending (word ∷ rest) has again none p = absurd (no (at idle rows pending) word (codes "--wire") rest (then_wire rows pending word rest has none p) again p)

ended : (front : List Text) (w : Walk) (word : Text) (rest : List Text) → Finds (front ++ word ∷ []) w [] → rest ≡ [] → Finds (front ++ word ∷ rest) w rest
ended front w word rest f is = subst (λ (r : List Text). Finds (front ++ word ∷ r) w r) (sym is) f

-- a word that may name a folder isn't `--wire`
not_wire : (word : Text) → IsPlain word → bytes_eq word (codes "--wire") ≡ false
not_wire word p = either (bytes_eq word (codes "--wire")) refl where
  either : (is : Bool) → bytes_eq word (codes "--wire") ≡ is → is ≡ false
  either true is =
      let same = alike word (codes "--wire") is in
      absurd (not_none _ _ (subst (λ (t : Text). flag_word_fault rules false (long_of t) t (held (wire_row ∷ []) None) ≡ []) same (p.fault (wire_row ∷ []) None)))
  either false is = refl

-- ---- `--disks=DIR` first

kept_named : (name : Text) → IsNamed (disks_row name ∷ []) None
unfolding walked
kept_named name = record { all = disks_row name ∷ []; disks = refl; named = λ other e. not_none _ _ e; twice = λ other e. not_none _ _ e }

kept_wired_named : (name : Text) → IsNamed (disks_row name ∷ wire_row ∷ []) None
unfolding walked
kept_wired_named name = record { all = disks_row name ∷ wire_row ∷ []; disks = refl; named = λ other e. not_none _ _ e; twice = λ other e. not_none _ _ e }

from_kept : (name : Text) (words : List Text) → NoDashes words → Passes (kept name) words → Finds ((codes "--disks=" ++ name) ∷ words) (kept name) words
unfolding walked
from_kept name [] none p = record { wire = false; folder = Some name; flag = refl; name = refl; form = refl }
from_kept name (word ∷ rest) none p =
    step ((codes "--disks=" ++ name) ∷ []) (kept name) (kept_wired name) word (codes "--wire") rest (then_wire (disks_row name ∷ []) None word rest (kept_named name) none p) refl
    (λ q. ended ((codes "--disks=" ++ name) ∷ []) (kept_wired name) (codes "--wire") rest (record { wire = true; folder = Some name; flag = refl; name = refl; form = refl })
    (then_none (disks_row name ∷ wire_row ∷ []) None rest (kept_wired_named name) (λ e. not_none _ _ e) (tail word rest none) q)) p

-- ---- `--disks DIR` first

pending_named : (name : Text) → IsNamed [] (Some (codes "disks", name ∷ []))
unfolding walked
pending_named name = record { all = disks_row name ∷ []; disks = refl; named = λ other e. not_none _ _ e; twice = λ other e. not_none _ _ e }

from_pending : (name : Text) (words : List Text) → IsPlain name → NoDashes words → Passes (pending [] name) words → Finds (codes "--disks" ∷ name ∷ words) (pending [] name) words
unfolding walked
from_pending name [] is_plain none p = record { wire = false; folder = Some name; flag = refl; name = refl; form = rw (not_wire name is_plain) refl }
from_pending name (word ∷ rest) is_plain none p =
    step (codes "--disks" ∷ name ∷ []) (pending [] name) (kept_wired name) word (codes "--wire") rest (then_wire [] (Some (codes "disks", name ∷ [])) word rest (pending_named name) none p) refl
    (λ q. ended (codes "--disks" ∷ name ∷ []) (kept_wired name) (codes "--wire") rest (record { wire = true; folder = Some name; flag = refl; name = refl; form = refl })
    (then_none (disks_row name ∷ wire_row ∷ []) None rest (kept_wired_named name) (λ e. not_none _ _ e) (tail word rest none) q)) p

from_waiting : (words : List Text) → NoDashes words → Passes (waiting []) words → Finds (codes "--disks" ∷ words) (waiting []) words
from_waiting [] none p = absurd (not_none _ _ p.last)
from_waiting (word ∷ rest) none p = on (word_is word (front word rest none)) where
  on : Word word → Finds (codes "--disks" ∷ word ∷ rest) (waiting []) (word ∷ rest)
  on (tells is) = absurd (no (waiting []) word (codes "--wire") rest is (λ e. not_none _ _ e) p)
  on (asks is) = absurd (no (waiting []) word (codes "--disks") rest is (λ e. not_none _ _ e) p)
  on (names other is) = absurd (no (waiting []) word (codes "--disks=" ++ other) rest is (λ e. not_none _ _ e) p)
  on (bad b) = absurd (refused (waiting []) word rest (bad_waiting word [] (Some (codes "disks", [])) b) p)
  on (plain b) =
      let moves = plain_walk word [] b in
      moved (codes "--disks" ∷ word ∷ rest) (waiting []) (pending [] word) word rest moves (from_pending word rest b (tail word rest none) (after (waiting []) (pending [] word) word rest moves p))

-- ---- `--wire` first

wired_kept_named : (name : Text) → IsNamed (wire_row ∷ disks_row name ∷ []) None
unfolding walked
wired_kept_named name = record { all = wire_row ∷ disks_row name ∷ []; disks = refl; named = λ other e. not_none _ _ e; twice = λ other e. not_none _ _ e }

wired_pending_named : (name : Text) → IsNamed (wire_row ∷ []) (Some (codes "disks", name ∷ []))
unfolding walked
wired_pending_named name = record { all = wire_row ∷ disks_row name ∷ []; disks = refl; named = λ other e. not_none _ _ e; twice = λ other e. not_none _ _ e }

from_wired_waiting : (words : List Text) → NoDashes words → Passes (waiting (wire_row ∷ [])) words → Finds (codes "--wire" ∷ codes "--disks" ∷ words) (waiting (wire_row ∷ [])) words
from_wired_waiting [] none p = absurd (not_none _ _ p.last)
from_wired_waiting (word ∷ rest) none p = on (word_is word (front word rest none)) where
  on : Word word → Finds (codes "--wire" ∷ codes "--disks" ∷ word ∷ rest) (waiting (wire_row ∷ [])) (word ∷ rest)
  on (tells is) = absurd (no (waiting (wire_row ∷ [])) word (codes "--wire") rest is (λ e. not_none _ _ e) p)
  on (asks is) = absurd (no (waiting (wire_row ∷ [])) word (codes "--disks") rest is (λ e. not_none _ _ e) p)
  on (names other is) = absurd (no (waiting (wire_row ∷ [])) word (codes "--disks=" ++ other) rest is (λ e. not_none _ _ e) p)
  on (bad b) = absurd (refused (waiting (wire_row ∷ [])) word rest (bad_waiting word (wire_row ∷ []) (Some (codes "disks", [])) b) p)
  on (plain b) =
      let moves = plain_walk word (wire_row ∷ []) b in
      moved (codes "--wire" ∷ codes "--disks" ∷ word ∷ rest) (waiting (wire_row ∷ [])) (pending (wire_row ∷ []) word) word rest moves
      (ended (codes "--wire" ∷ codes "--disks" ∷ []) (pending (wire_row ∷ []) word) word rest (record { wire = true; folder = Some word; flag = refl; name = refl; form = refl })
      (then_none (wire_row ∷ []) (Some (codes "disks", word ∷ [])) rest (wired_pending_named word) (λ e. not_none _ _ e) (tail word rest none) (after (waiting (wire_row ∷ [])) (pending (wire_row ∷ []) word) word rest moves p)))

from_wired : (words : List Text) → NoDashes words → Passes wired words → Finds (codes "--wire" ∷ words) wired words
unfolding walked
from_wired [] none p = record { wire = true; folder = None; flag = refl; name = refl; form = refl }
from_wired (word ∷ rest) none p = on (word_is word (front word rest none)) where
  on : Word word → Finds (codes "--wire" ∷ word ∷ rest) wired (word ∷ rest)
  on (tells is) = absurd (no wired word (codes "--wire") rest is (λ e. not_none _ _ e) p)
  on (asks is) = step (codes "--wire" ∷ []) wired (waiting (wire_row ∷ [])) word (codes "--disks") rest is refl (λ q. from_wired_waiting rest (tail word rest none) q) p
  on (names name is) =
      step (codes "--wire" ∷ []) wired (wired_kept name) word (codes "--disks=" ++ name) rest is refl
      (λ q. ended (codes "--wire" ∷ []) (wired_kept name) (codes "--disks=" ++ name) rest (record { wire = true; folder = Some name; flag = refl; name = refl; form = refl })
      (then_none (wire_row ∷ disks_row name ∷ []) None rest (wired_kept_named name) (λ e. not_none _ _ e) (tail word rest none) q)) p
  on (bad b) = absurd (refused wired word rest (bad_idle word (wire_row ∷ []) None b) p)
  on (plain b) = absurd (refused wired word rest (plain_idle word (wire_row ∷ []) None b) p)

-- ---- all words behind `replay`

abbrev pub start : Walk
start = at idle [] None

pub finds : (words : List Text) → NoDashes words → Passes start words → Finds words start words
unfolding walked
finds [] none p = record { wire = false; folder = None; flag = refl; name = refl; form = refl }
finds (word ∷ rest) none p = on (word_is word (front word rest none)) where
  on : Word word → Finds (word ∷ rest) start (word ∷ rest)
  on (tells is) = step [] start wired word (codes "--wire") rest is refl (λ q. from_wired rest (tail word rest none) q) p
  on (asks is) = step [] start (waiting []) word (codes "--disks") rest is refl (λ q. from_waiting rest (tail word rest none) q) p
  on (names name is) = step [] start (kept name) word (codes "--disks=" ++ name) rest is refl (λ q. from_kept name rest (tail word rest none) q) p
  on (bad b) = absurd (refused start word rest (bad_idle word [] None b) p)
  on (plain b) = absurd (refused start word rest (plain_idle word [] None b) p)
