-- What the words of a line that are read are: nodes of the cell, names and bytes within their limits.
use Rattle.std.proofs.Common.{◌≡◌, ℕ, ◌-◌, ◌<◌, ◌≤◌, Bool, true, false, List, [], ◌∷◌, ◌++◌, length, Option, Some, None, Ok, Err, nat_le, nat_lt, if◌then◌else◌, refl, sym, subst, arith, ltb-true}
use Rattle.std.specs.Prelude.{◌&&◌, codes, drop, nat_eq, not}
use Rattle.std.specs.List.{All, starts_with}
use Rattle.std.specs.Option.{ok_or, option_map}
use Rattle.std.specs.Str.{bytes_eq}
use Rattle.std.proofs.lemmas.List.{length-replicate}
use Rattle.std.proofs.lemmas.List.Elements.{All-nil, All-push}
use Rattle.afs_num.specs.Names.{has_size, volume_name_ok}
use Rattle.afs_num.specs.declared.types.Fid.{Fid}
use Rattle.afs_num.specs.declared.types.Node.{Node}
use Rattle.afs_num.specs.declared.types.Node.TheVariants as nodes
use Rattle.afs_num.specs.declared.scripts.Reason.{Reason}
use Rattle.afs_num.specs.declared.scripts.Reason.TheVariants as reasons
use Rattle.spec_history.specs.declared.acts.Operand.{Operand}
use Rattle.spec_history.specs.declared.acts.Operand.TheVariants as operands
use Rattle.spec_history.specs.declared.acts.Path.{Path}
use Rattle.spec_history.specs.declared.acts.Written.{Written}
use Rattle.spec_model.specs.ScriptWords.{◌>>=◌, fid_of, hex_from, must, node_number_read, number_at, parts, ranged, word_at}
use Rattle.spec_model.proofs.ScriptReaders.{bound, le_of_test, must_true, ok_of, range, some_in}
use Rattle.afs_words.specs.declared.nodes.Counts.{Counts}
use Rattle.afs_words.specs.declared.nodes.Kinds.{Kinds}
use Rattle.afs_words.specs.Words.{act_path_at, byte_of, fill_in, fill_of, fit_in, hex_in, is_fid, is_numeral, label_at, loc_of, name_at, name_of, names_from, node_at, node_number_at, node_of, numbered, operand_at, operand_of, or_else, path_in, path_of, unescaped_from, written_at, written_of}
use Rattle.afs_grammar.specs.CellScripts.{IsFrom, IsInCell, IsName, IsOperand, IsPath, IsWithin}

-- ---- numbers and nodes

pub number_in : (low high : ℕ) (ws : List (List ℕ)) (x : ℕ × List (List ℕ)) → number_at low high ws ≡ Ok x → IsFrom low high x.0
unfolding number_at
number_in low high ws x e =
    let a = bound (List ℕ × List (List ℕ)) _ Reason (word_at ws) _ _ e in
    let b = bound ℕ _ Reason (ok_or (ranged low high a.value.0) reasons.Number) _ _ a.rest in
    subst (λ (y : ℕ × List (List ℕ)). IsFrom low high y.0) (ok_of _ _ _ _ b.rest) (range low high b.value a.value.0 (some_in _ _ _ _ _ b.first))

letter_by : (t : Bool) (count n : ℕ) (digits : List ℕ) → (if t then ranged 1 count digits else None) ≡ Some n → IsFrom 1 count n
letter_by true count n digits e = range 1 count n digits e
letter_by false count n digits e = absurd cc

numbered_in : (letter count n : ℕ) (word : List ℕ) → node_number_read letter count word ≡ Some n → IsFrom 1 count n
unfolding node_number_read
numbered_in letter count n [] e = absurd cc
numbered_in letter count n (b ∷ digits) e = letter_by (nat_eq b letter) count n digits e

pub node_number_in : (letter count : ℕ) (ws : List (List ℕ)) (x : ℕ × List (List ℕ)) → node_number_at letter count ws ≡ Ok x → IsFrom 1 count x.0
unfolding node_number_at
node_number_in letter count ws x e =
    let a = bound (List ℕ × List (List ℕ)) _ Reason (word_at ws) _ _ e in
    let b = bound ℕ _ Reason (ok_or (node_number_read letter count a.value.0) reasons.Node) _ _ a.rest in
    subst (λ (y : ℕ × List (List ℕ)). IsFrom 1 count y.0) (ok_of _ _ _ _ b.rest) (numbered_in letter count b.value a.value.0 (some_in _ _ _ _ _ b.first))

some_node : (m n : Node) → Some m ≡ Some n → m ≡ n
some_node m n e = cc

loc_by : (t : Bool) (c : Counts) (n : Node) → (if t then Some nodes.Loc else None) ≡ Some n → IsInCell c n
loc_by true c n e = subst (IsInCell c) (some_node nodes.Loc n e) tt
loc_by false c n e = absurd cc

loc_in : (allowed : Bool) (c : Counts) (n : Node) (word : List ℕ) → loc_of allowed word ≡ Some n → IsInCell c n
loc_in true c n word e = loc_by (bytes_eq word (codes "loc")) c n e
loc_in false c n word e = absurd cc

kind_by : (node : ℕ → Node) (c : Counts) (count : ℕ) (n : Node) (o : Option ℕ) → ((k : ℕ) → o ≡ Some k → IsInCell c (node k)) → option_map node o ≡ Some n → IsInCell c n
kind_by node c count n None is e = absurd cc
kind_by node c count n (Some k) is e = subst (IsInCell c) (some_node (node k) n e) (is k refl)

kind_in : (node : ℕ → Node) (allowed : Bool) (letter count : ℕ) (c : Counts) (n : Node) (word : List ℕ) → ((k : ℕ) → IsFrom 1 count k → IsInCell c (node k)) → numbered node allowed letter count word ≡ Some n → IsInCell c n
kind_in node true letter count c n word is e = kind_by node c count n (node_number_read letter count word) (λ k f. is k (numbered_in letter count k word f)) e
kind_in node false letter count c n word is e = absurd cc

or_in : (c : Counts) (n : Node) (o p : Option Node) → (o ≡ Some n → IsInCell c n) → (p ≡ Some n → IsInCell c n) → or_else o p ≡ Some n → IsInCell c n
or_in c n None p one other e = other e
or_in c n (Some m) p one other e = one e

node_of_in : (kinds : Kinds) (c : Counts) (n : Node) (word : List ℕ) → node_of kinds c word ≡ Some n → IsInCell c n
unfolding node_of
node_of_in kinds c n word e =
    or_in c n (loc_of kinds.loc word) _ (loc_in kinds.loc c n word)
    (or_in c n (numbered nodes.Server kinds.server 115 c.servers word) _ (kind_in nodes.Server kinds.server 115 c.servers c n word (λ k h. h))
    (or_in c n (numbered nodes.Client kinds.client 99 c.clients word) _ (kind_in nodes.Client kinds.client 99 c.clients c n word (λ k h. h))
    (kind_in nodes.Admin kinds.admin 97 c.admins c n word (λ k h. h)))) e

pub node_in : (kinds : Kinds) (c : Counts) (ws : List (List ℕ)) (x : Node × List (List ℕ)) → node_at kinds c ws ≡ Ok x → IsInCell c x.0
unfolding node_at
node_in kinds c ws x e =
    let a = bound (List ℕ × List (List ℕ)) _ Reason (word_at ws) _ _ e in
    let b = bound Node _ Reason (ok_or (node_of kinds c a.value.0) reasons.Node) _ _ a.rest in
    subst (λ (y : Node × List (List ℕ)). IsInCell c y.0) (ok_of _ _ _ _ b.rest) (node_of_in kinds c b.value a.value.0 (some_in _ _ _ _ _ b.first))

-- ---- names and paths

both_by : (s t : Bool) → (s && t) ≡ true → (s ≡ true) × (t ≡ true)
both_by true t e = (refl, e)
both_by false t e = absurd cc

size_in : (most : ℕ) (name : List ℕ) → has_size most name ≡ true → IsName most name
size_in most name e =
    let p = both_by (nat_lt 0 (length name)) (nat_le (length name) most) e in
    let some : 0 < length name = ltb-true 0 (length name) p.0 in
    (omega (arith, some), le_of_test (length name) most p.1)

name_of_in : (most : ℕ) (reason : Reason) (word name : List ℕ) → name_of most reason word ≡ Ok name → IsName most name
unfolding name_of
name_of_in most reason word name e =
    let a = bound (List ℕ) _ Reason (ok_or (unescaped_from [] word) reason) _ _ e in
    let b = bound (Unit {0}) _ Reason (must (has_size most a.value) reason) _ _ a.rest in
    subst (IsName most) (ok_of _ _ _ _ b.rest) (size_in most a.value (must_true _ _ _ b.first))

pub name_in : (most : ℕ) (ws : List (List ℕ)) (x : List ℕ × List (List ℕ)) → name_at most ws ≡ Ok x → IsName most x.0
unfolding name_at
name_in most ws x e =
    let a = bound (List ℕ × List (List ℕ)) _ Reason (word_at ws) _ _ e in
    let b = bound (List ℕ) _ Reason (name_of most reasons.Name a.value.0) _ _ a.rest in
    subst (λ (y : List ℕ × List (List ℕ)). IsName most y.0) (ok_of _ _ _ _ b.rest) (name_of_in most reasons.Name a.value.0 b.value b.first)

pub label_in : (ws : List (List ℕ)) (x : List ℕ × List (List ℕ)) → label_at ws ≡ Ok x → volume_name_ok x.0 ≡ true
unfolding label_at
label_in ws x e =
    let a = bound (List ℕ × List (List ℕ)) _ Reason (word_at ws) _ _ e in
    let b = bound (Unit {0}) _ Reason (must (volume_name_ok a.value.0) reasons.Name) _ _ a.rest in
    subst (λ (y : List ℕ × List (List ℕ)). volume_name_ok y.0 ≡ true) (ok_of _ _ _ _ b.rest) (must_true _ _ _ b.first)

pub label_named : (ws : List (List ℕ)) (name : List ℕ) (rest : List (List ℕ)) → label_at ws ≡ Ok (name, rest) → volume_name_ok name ≡ true
label_named ws name rest e = label_in ws (name, rest) e

names_in : (out words names : List (List ℕ)) → All (IsName 256) out → names_from out words ≡ Ok names → All (IsName 256) names
names_in out [] names h e = subst (All (IsName 256)) (ok_of _ _ _ _ e) h
names_in out (word ∷ more) names h e =
    let a = bound (List ℕ) _ Reason (name_of 256 reasons.Path word) _ _ e in
    names_in (out ++ a.value ∷ []) more names (All-push (IsName 256) out a.value h (name_of_in 256 reasons.Path word a.value a.first)) a.rest

path_in_in : (words : List (List ℕ)) (p : Path) → path_in words ≡ Ok p → IsPath p
unfolding path_in
path_in_in [] p e = absurd cc
path_in_in (word ∷ more) p e =
    let a = bound (List ℕ) _ Reason (name_of 32 reasons.Name word) _ _ e in
    let b = bound (List (List ℕ)) _ Reason (names_from [] more) _ _ a.rest in
    let c = bound (Unit {0}) _ Reason (must (fit_in (1024 - length a.value) b.value) reasons.Limit) _ _ b.rest in
    subst IsPath (ok_of _ _ _ _ c.rest) (record { volume = name_of_in 32 reasons.Name word a.value a.first; names = names_in [] more b.value (All-nil (IsName 256)) b.first })

path_of_in : (word : List ℕ) (p : Path) → path_of word ≡ Ok p → IsPath p
unfolding path_of
path_of_in word p e = path_in_in (parts 47 word) p e

pub act_path_in : (ws : List (List ℕ)) (x : Path × List (List ℕ)) → act_path_at ws ≡ Ok x → IsPath x.0
unfolding act_path_at
act_path_in ws x e =
    let a = bound (List ℕ × List (List ℕ)) _ Reason (word_at ws) _ _ e in
    let b = bound (Unit {0}) _ Reason (must (not (is_fid a.value.0)) reasons.Path) _ _ a.rest in
    let c = bound Path _ Reason (path_of a.value.0) _ _ b.rest in
    subst (λ (y : Path × List (List ℕ)). IsPath y.0) (ok_of _ _ _ _ c.rest) (path_of_in a.value.0 c.value c.first)

operand_by : (t : Bool) (word : List ℕ) (o : Operand) → (if t then (fid_of (parts 46 (drop 1 word)) >>= (λ (fid : Fid). Ok (operands.Fid fid))) else (path_of word >>= (λ (path : Path). Ok (operands.Path path)))) ≡ Ok o → IsOperand o
operand_by true word o e =
    let a = bound Fid _ Reason (fid_of (parts 46 (drop 1 word))) _ _ e in
    subst IsOperand (ok_of _ _ _ _ a.rest) tt
operand_by false word o e =
    let a = bound Path _ Reason (path_of word) _ _ e in
    subst IsOperand (ok_of _ _ _ _ a.rest) (path_of_in word a.value a.first)

operand_of_in : (word : List ℕ) (o : Operand) → operand_of word ≡ Ok o → IsOperand o
unfolding operand_of
operand_of_in word o e = operand_by (is_fid word) word o e

pub operand_in : (ws : List (List ℕ)) (x : Operand × List (List ℕ)) → operand_at ws ≡ Ok x → IsOperand x.0
unfolding operand_at
operand_in ws x e =
    let a = bound (List ℕ × List (List ℕ)) _ Reason (word_at ws) _ _ e in
    let b = bound Operand _ Reason (operand_of a.value.0) _ _ a.rest in
    subst (λ (y : Operand × List (List ℕ)). IsOperand y.0) (ok_of _ _ _ _ b.rest) (operand_of_in a.value.0 b.value b.first)

-- ---- bytes

hex_in_in : (most : ℕ) (digits : List ℕ) (w : Written) → hex_in most digits ≡ Ok w → IsWithin most w
unfolding hex_in
hex_in_in most digits w e =
    let a = bound (List ℕ) _ Reason (ok_or (hex_from [] digits) reasons.Contents) _ _ e in
    let b = bound (Unit {0}) _ Reason (must (nat_le (length a.value) most) reasons.Limit) _ _ a.rest in
    subst (IsWithin most) (ok_of _ _ _ _ b.rest) (le_of_test (length a.value) most (must_true _ _ _ b.first))

fill_of_in : (most : ℕ) (count digits : List ℕ) (w : Written) → fill_of most count digits ≡ Ok w → IsWithin most w
unfolding fill_of
fill_of_in most count digits w e =
    let a = bound (Unit {0}) _ Reason (must (is_numeral count) reasons.Contents) _ _ e in
    let b = bound ℕ _ Reason (ok_or (byte_of digits) reasons.Contents) _ _ a.rest in
    let c = bound ℕ _ Reason (ok_or (ranged 0 most count) reasons.Limit) _ _ b.rest in
    let n = range 0 most c.value count (some_in _ _ _ _ _ c.first) in
    subst (IsWithin most) (ok_of _ _ _ _ c.rest) (subst (λ (k : ℕ). k ≤ most) (sym (length-replicate c.value b.value)) n.1)

fill_in_in : (most : ℕ) (fields : List (List ℕ)) (w : Written) → fill_in most fields ≡ Ok w → IsWithin most w
fill_in_in most [] w e = absurd cc
fill_in_in most (count ∷ []) w e = absurd cc
fill_in_in most (count ∷ digits ∷ []) w e = fill_of_in most count digits w e
fill_in_in most (count ∷ digits ∷ more ∷ fields) w e = absurd cc

written_by : (s t : Bool) (most : ℕ) (word : List ℕ) (w : Written) → (if s then hex_in most (drop 4 word) else (if t then fill_in most (parts 58 (drop 5 word)) else Err reasons.Contents)) ≡ Ok w → IsWithin most w
written_by true t most word w e = hex_in_in most (drop 4 word) w e
written_by false true most word w e = fill_in_in most (parts 58 (drop 5 word)) w e
written_by false false most word w e = absurd cc

written_of_in : (most : ℕ) (word : List ℕ) (w : Written) → written_of most word ≡ Ok w → IsWithin most w
unfolding written_of
written_of_in most word w e = written_by (starts_with nat_eq word (codes "hex:")) (starts_with nat_eq word (codes "fill:")) most word w e

pub written_in : (most : ℕ) (ws : List (List ℕ)) (x : Written × List (List ℕ)) → written_at most ws ≡ Ok x → IsWithin most x.0
unfolding written_at
written_in most ws x e =
    let a = bound (List ℕ × List (List ℕ)) _ Reason (word_at ws) _ _ e in
    let b = bound Written _ Reason (written_of most a.value.0) _ _ a.rest in
    subst (λ (y : Written × List (List ℕ)). IsWithin most y.0) (ok_of _ _ _ _ b.rest) (written_of_in most a.value.0 b.value b.first)
