-- What versions and reads hold, and acts, as they are read back.
use Rattle.std.proofs.Common.{◌≡◌, ℕ, zero, suc, ◌/◌, ◌%◌, ◌≤◌, Bool, true, false, cond, List, [], ◌∷◌, ◌++◌, drop, length, length-append, None, refl, ap, ◌∙◌, append_assoc, codes, nat_eq, eq-eqb, ne_eqb, Option, Some, arith}
use Rattle.std.specs.List.{flat_map}
use Rattle.std.specs.Fmt.{decimal, digit_glyph}
use Rattle.afs_num.specs.declared.directories.Name.{Name}
use Rattle.afs_num.specs.declared.histories.Body.{Body}
use Rattle.afs_num.specs.declared.histories.Body.TheVariants as bodies
use Rattle.afs_num.specs.declared.histories.ReadBody.{ReadBody}
use Rattle.afs_num.specs.declared.histories.ReadBody.TheVariants.{Contents, Status, AccessList}
use Rattle.afs_num.specs.declared.histories.ReadStatus.{ReadStatus}
use Rattle.spec_history.specs.declared.acts.Act.{Act}
use Rattle.spec_history.specs.declared.acts.Act.TheVariants as acts
use Rattle.spec_history.specs.declared.acts.Operand.{Operand}
use Rattle.spec_history.specs.declared.acts.Operand.TheVariants as operands
use Rattle.spec_history.specs.declared.acts.Path.{Path}
use Rattle.spec_history.specs.declared.acts.Written.{Written}
use Rattle.spec_history.specs.declared.acts.Written.TheVariants.{Hex, Fill}
use Rattle.spec_history.specs.declared.scripts.AdminAct.{AdminAct}
use Rattle.spec_history.specs.declared.scripts.AdminAct.TheVariants as admin_acts
use Rattle.spec_model.specs.LineText.{body_text, directory_text, entry_name_text, hex_byte, hex_text, is_plain, more_names_text, name_byte, name_text, read_body_text, status_text}
use Rattle.afs_text.specs.ActText.{act_text, admin_act_text, names_text, octal, operand_text, path_text, written_text}
use Rattle.afs_text.specs.Whole.{AreWholeNames, IsWholeAct, IsWholeAdminAct, IsWholeBody, IsWholeName, IsWholeOperand, IsWholeReadBody, IsWholeStatus, IsWholeWritten}
use Rattle.afs_text.proofs.WordsRead.{at_word, behind, closed, ends_number, fid_at, fid_last, in_row, is_digit, mode_at, mode_last, number_at, number_last, number_open, number_row, number_tail, read}
use Rattle.afs_text.proofs.BytesRead.{ends_name, hex_at, hex_last, name_open, name_tail, no_name}

-- ---- items, each behind a mark

many_from : {A : Type 0} → ℕ → (List ℕ → A × List ℕ) → ℕ → List ℕ → List A × List ℕ
many_from mark at zero bytes = ([], bytes)
many_from mark at (suc k) [] = ([], [])
many_from mark at (suc k) (b ∷ bs) = cond (nat_eq b mark) (read (at bs) (λ a s. read (many_from mark at k s) (λ xs t. (a ∷ xs, t)))) ([], b ∷ bs)

abbrev starts : ℕ → List ℕ → Bool
starts mark [] = false
starts mark (c ∷ cs) = nat_eq c mark

abbrev AllAre : {A : Type 0} → (A → Type 0) → List A → Type 0
AllAre Good [] = Unit {0}
AllAre Good (x ∷ xs) = Good x × AllAre Good xs

abbrev items_text : {A : Type 0} → ℕ → (A → List ℕ) → List A → List ℕ
items_text {A} mark text xs = flat_map (λ (a : A). mark ∷ text a) xs

module _ {A : Type 0} (mark : ℕ) (at : List ℕ → A × List ℕ) (text : A → List ℕ) (Good : A → Type 0) (ends : List ℕ → Bool) (again : (a : A) → Good a → (tail : List ℕ) → ends tail ≡ true → at (text a ++ tail) ≡ (a, tail)) (marked : (x : List ℕ) → ends (mark ∷ x) ≡ true) where
  many_end : (xs : List A) (tail : List ℕ) → ends tail ≡ true → ends (items_text mark text xs ++ tail) ≡ true
  many_end [] tail e = e
  many_end (x ∷ xs) tail e = marked ((text x ++ items_text mark text xs) ++ tail)

  many_fit : (xs : List A) (tail : List ℕ) → length xs ≤ length (items_text mark text xs ++ tail)
  many_fit [] tail = omega arith
  many_fit (x ∷ xs) tail = omega (arith, many_fit xs tail, length-append (text x ++ items_text mark text xs) tail, length-append (text x) (items_text mark text xs), length-append (items_text mark text xs) tail)

  many_tail : (xs : List A) → AllAre Good xs → (k : ℕ) → length xs ≤ k → (tail : List ℕ) → ends tail ≡ true → starts mark tail ≡ false → many_from mark at k (items_text mark text xs ++ tail) ≡ (xs, tail)
  unfolding many_from
  many_tail [] good zero fit tail e stop = refl
  many_tail [] good (suc k) fit [] e stop = refl
  many_tail [] good (suc k) fit (c ∷ cs) e stop = rw stop refl
  many_tail (x ∷ xs) good zero fit tail e stop = absurd (omega arith)
  many_tail (x ∷ xs) good (suc k) fit tail e stop =
      let here : at ((text x ++ items_text mark text xs) ++ tail) ≡ (x, items_text mark text xs ++ tail) = ap at (append_assoc (text x) (items_text mark text xs) tail) ∙ again x good.0 (items_text mark text xs ++ tail) (many_end xs tail e) in
      rw (eq-eqb mark mark refl, here, many_tail xs good.1 k (omega arith) tail e stop) refl

  -- all of them, as many as there may be in these bytes
  many_again : (xs : List A) → AllAre Good xs → (tail : List ℕ) → ends tail ≡ true → starts mark tail ≡ false → many_from mark at (length (items_text mark text xs ++ tail)) (items_text mark text xs ++ tail) ≡ (xs, tail)
  many_again xs good tail e stop = many_tail xs good (length (items_text mark text xs ++ tail)) (many_fit xs tail) tail e stop

-- ---- names

name_row : (name : List ℕ) (c : ℕ) → ends_name (c ∷ []) ≡ true → (x rest : List ℕ) → name_open ((name_text name ++ c ∷ x) ++ rest) ≡ (name, c ∷ (x ++ rest))
name_row name c stop x rest = ap name_open (append_assoc (name_text name) (c ∷ x) rest) ∙ name_tail name (c ∷ (x ++ rest)) stop

entry_open : List ℕ → Name × List ℕ
entry_open bytes = read (name_open bytes) (λ n r. read (number_at (drop 1 r)) (λ v s. read (number_open s) (λ u t. (record { name = n; vnode = v; unique = u }, t))))

entry_tail : (n : Name) → IsWholeName n → (tail : List ℕ) → ends_number 10 tail ≡ true → entry_open (entry_name_text n ++ tail) ≡ (n, tail)
unfolding entry_open
entry_tail n whole tail stop = rw (name_row n.name 61 refl, number_row n.vnode 46 whole.0 refl, number_tail n.unique whole.1 tail stop) refl

whole_names : (ns : List Name) → AreWholeNames ns → AllAre IsWholeName ns
whole_names [] h = tt
whole_names (n ∷ ns) h = (h.0, whole_names ns h.1)

-- a name and its sign of equality tell that there is one
directory_at : List ℕ → List Name × List ℕ
directory_at bytes =
    at_word (behind (codes "=") (name_open bytes).1)
    (λ s. read (entry_open bytes) (λ n t. read (many_from 44 entry_open (length t) t) (λ ns z. (n ∷ ns, drop 1 z))))
    ([], drop 1 bytes)

directory_last : (ns : List Name) → AreWholeNames ns → (rest : List ℕ) → directory_at (directory_text ns ++ 10 ∷ rest) ≡ (ns, rest)
unfolding directory_at directory_text more_names_text
directory_last [] whole rest = rw (no_name (10 ∷ rest) refl) refl
directory_last (n ∷ ns) whole rest =
    let behind_it = more_names_text ns ++ 10 ∷ rest in
    let apart : directory_text (n ∷ ns) ++ 10 ∷ rest ≡ entry_name_text n ++ behind_it = append_assoc (entry_name_text n) (more_names_text ns) (10 ∷ rest) in
    let ended : ends_number 10 behind_it ≡ true = many_end 44 entry_open entry_name_text IsWholeName (ends_number 10) entry_tail (λ x. refl) ns (10 ∷ rest) refl in
    ap directory_at apart
    ∙ rw (name_row n.name 61 refl, entry_tail n whole.0 behind_it ended, many_again 44 entry_open entry_name_text IsWholeName (ends_number 10) entry_tail (λ x. refl) ns (whole_names ns whole.1) (10 ∷ rest) refl refl) refl

-- ---- bodies

pub body_at : List ℕ → Body × List ℕ
body_at bytes =
    at_word (behind (codes "f:") bytes) (λ r. read (hex_at r) (λ b t. (bodies.File b, t)))
    (at_word (behind (codes "d:") bytes) (λ r. read (directory_at r) (λ ns t. (bodies.Dir ns, t)))
    (at_word (behind (codes "l:") bytes) (λ r. read (hex_at r) (λ b t. (bodies.Link b, t)))
    (bodies.Gone, drop 5 bytes)))

body_last : (b : Body) → IsWholeBody b → (rest : List ℕ) → body_at (body_text b ++ 10 ∷ rest) ≡ (b, rest)
unfolding body_at body_text
body_last (bodies.File contents) whole rest = rw (hex_last contents 10 refl rest) refl
body_last (bodies.Dir names) whole rest = rw (directory_last names whole rest) refl
body_last (bodies.Link target) whole rest = rw (hex_last target 10 refl rest) refl
body_last bodies.Gone whole rest = refl

pub body_row : (b : Body) → IsWholeBody b → (x rest : List ℕ) → body_at ((body_text b ++ 10 ∷ x) ++ rest) ≡ (b, x ++ rest)
body_row b whole x rest = in_row body_at (body_text b) 10 x rest b (body_last b whole (x ++ rest))

status_at : List ℕ → ReadStatus × List ℕ
status_at bytes = read (number_at bytes) (λ k r. read (number_at r) (λ l s. read (number_at s) (λ n t. read (number_at t) (λ m z. (record { kind = k; link_count = l; length = n; mode = m }, z)))))

abbrev numbers_text : ReadStatus → List ℕ
numbers_text s = decimal s.kind ++ (codes "," ++ (decimal s.link_count ++ (codes "," ++ (decimal s.length ++ (codes "," ++ decimal s.mode)))))

status_last : (s : ReadStatus) → IsWholeStatus s → (rest : List ℕ) → status_at (numbers_text s ++ 10 ∷ rest) ≡ (s, rest)
unfolding status_at
status_last s whole rest = rw (number_row s.kind 44 whole.0 refl, number_row s.link_count 44 whole.1 refl, number_row s.length 44 whole.2 refl, number_last s.mode 10 whole.3 refl) refl

pub read_body_at : List ℕ → ReadBody × List ℕ
read_body_at bytes =
    at_word (behind (codes "s:") bytes) (λ r. read (status_at r) (λ s t. (Status s, t)))
    (at_word (behind (codes "a:") bytes) (λ r. read (hex_at r) (λ b t. (AccessList b, t)))
    (read (body_at bytes) (λ b t. (Contents b, t))))

contents_last : (b : Body) → IsWholeBody b → (rest : List ℕ) → read_body_at (body_text b ++ 10 ∷ rest) ≡ (Contents b, rest)
unfolding read_body_at body_text body_at
contents_last (bodies.File contents) whole rest = rw (hex_last contents 10 refl rest) refl
contents_last (bodies.Dir names) whole rest = rw (directory_last names whole rest) refl
contents_last (bodies.Link target) whole rest = rw (hex_last target 10 refl rest) refl
contents_last bodies.Gone whole rest = refl

read_body_last : (b : ReadBody) → IsWholeReadBody b → (rest : List ℕ) → read_body_at (read_body_text b ++ 10 ∷ rest) ≡ (b, rest)
unfolding read_body_at read_body_text status_text
read_body_last (Contents body) whole rest = contents_last body whole rest
read_body_last (Status status) whole rest = rw (status_last status whole rest) refl
read_body_last (AccessList text) whole rest = rw (hex_last text 10 refl rest) refl

pub read_body_row : (b : ReadBody) → IsWholeReadBody b → (x rest : List ℕ) → read_body_at ((read_body_text b ++ 10 ∷ x) ++ rest) ≡ (b, x ++ rest)
read_body_row b whole x rest = in_row read_body_at (read_body_text b) 10 x rest b (read_body_last b whole (x ++ rest))

-- ---- operands of acts

name_mark : (name : List ℕ) → Unit {0} → (tail : List ℕ) → ends_name tail ≡ true → name_open (name_text name ++ tail) ≡ (name, tail)
name_mark name u tail stop = name_tail name tail stop

all_names : (ns : List (List ℕ)) → AllAre (λ (n : List ℕ). Unit {0}) ns
all_names [] = tt
all_names (n ∷ ns) = (tt, all_names ns)

path_at : List ℕ → Path × List ℕ
path_at bytes = read (name_open bytes) (λ v r. read (many_from 47 name_open (length r) r) (λ ns z. (record { volume = v; names = ns }, drop 1 z)))

path_last : (p : Path) (c : ℕ) → ends_name (c ∷ []) ≡ true → nat_eq c 47 ≡ false → (rest : List ℕ) → path_at (path_text p ++ c ∷ rest) ≡ (p, rest)
unfolding path_at path_text names_text
path_last p c stop other rest =
    let behind_it = names_text p.names ++ c ∷ rest in
    let apart : path_text p ++ c ∷ rest ≡ name_text p.volume ++ behind_it = append_assoc (name_text p.volume) (names_text p.names) (c ∷ rest) in
    let ended : ends_name behind_it ≡ true = many_end 47 name_open name_text (λ (n : List ℕ). Unit {0}) ends_name name_mark (λ x. refl) p.names (c ∷ rest) stop in
    ap path_at apart
    ∙ rw (name_tail p.volume behind_it ended, many_again 47 name_open name_text (λ (n : List ℕ). Unit {0}) ends_name name_mark (λ x. refl) p.names (all_names p.names) (c ∷ rest) stop other) refl

path_row : (p : Path) (c : ℕ) → ends_name (c ∷ []) ≡ true → nat_eq c 47 ≡ false → (x rest : List ℕ) → path_at ((path_text p ++ c ∷ x) ++ rest) ≡ (p, x ++ rest)
path_row p c stop other x rest = in_row path_at (path_text p) c x rest p (path_last p c stop other (x ++ rest))

-- no path begins with the sign of a fid
byte_refuses : (b : ℕ) (tail : List ℕ) → behind (codes "@") (name_byte b ++ tail) ≡ None
byte_refuses b tail = by (is_plain b) refl
  where
    by : (t : Bool) → is_plain b ≡ t → behind (codes "@") (cond t (b ∷ []) (37 ∷ digit_glyph true (b / 16) ∷ digit_glyph true (b % 16) ∷ []) ++ tail) ≡ None
    by true e = let other : nat_eq 64 b ≡ false = ne_eqb 64 b (λ p. let no : false ≡ true = ap is_plain p ∙ e in cc) in rw other refl
    by false e = refl

name_refuses : (name tail : List ℕ) → behind (codes "@") tail ≡ None → behind (codes "@") (name_text name ++ tail) ≡ None
unfolding name_text
name_refuses [] tail h = h
name_refuses (b ∷ bs) tail h = ap (behind (codes "@")) (append_assoc (name_byte b) (name_text bs) tail) ∙ byte_refuses b (name_text bs ++ tail)

names_refuse : (ns : List (List ℕ)) (tail : List ℕ) → behind (codes "@") tail ≡ None → behind (codes "@") (names_text ns ++ tail) ≡ None
unfolding names_text
names_refuse [] tail h = h
names_refuse (n ∷ ns) tail h = refl

path_refuses : (p : Path) (tail : List ℕ) → behind (codes "@") tail ≡ None → behind (codes "@") (path_text p ++ tail) ≡ None
unfolding path_text
path_refuses p tail h =
    ap (behind (codes "@")) (append_assoc (name_text p.volume) (names_text p.names) tail)
    ∙ name_refuses p.volume (names_text p.names ++ tail) (names_refuse p.names tail h)

operand_at : List ℕ → Operand × List ℕ
operand_at bytes = at_word (behind (codes "@") bytes) (λ r. read (fid_at r) (λ f t. (operands.Fid f, t))) (read (path_at bytes) (λ p t. (operands.Path p, t)))

-- a byte that ends an operand
pub record EndsOperand (c : ℕ) : Type 0 where
  pub number : is_digit 10 c ≡ false
  pub name : ends_name (c ∷ []) ≡ true
  pub step : nat_eq c 47 ≡ false
  pub sign : nat_eq 64 c ≡ false

space : EndsOperand 32
space = record { number = refl; name = refl; step = refl; sign = refl }

newline : EndsOperand 10
newline = record { number = refl; name = refl; step = refl; sign = refl }

operand_last : (o : Operand) (c : ℕ) → IsWholeOperand o → EndsOperand c → (rest : List ℕ) → operand_at (operand_text o ++ c ∷ rest) ≡ (o, rest)
unfolding operand_at operand_text
operand_last (operands.Path p) c whole stop rest =
    let none : behind (codes "@") (c ∷ rest) ≡ None = rw stop.sign refl in
    rw (path_refuses p (c ∷ rest) none, path_last p c stop.name stop.step rest) refl
operand_last (operands.Fid f) c whole stop rest = rw (fid_last f c whole stop.number rest) refl

operand_row : (o : Operand) (c : ℕ) → IsWholeOperand o → EndsOperand c → (x rest : List ℕ) → operand_at ((operand_text o ++ c ∷ x) ++ rest) ≡ (o, x ++ rest)
operand_row o c whole stop x rest = in_row operand_at (operand_text o) c x rest o (operand_last o c whole stop (x ++ rest))

abbrev first_byte : List ℕ → ℕ
first_byte [] = 0
first_byte (b ∷ bs) = b

written_at : List ℕ → Written × List ℕ
written_at bytes =
    at_word (behind (codes "hex:") bytes) (λ r. read (hex_at r) (λ b t. (Hex b, t)))
    (read (number_at (drop 5 bytes)) (λ n r. read (hex_at r) (λ b t. (Fill n (first_byte b), t))))

byte_last : (b : ℕ) (rest : List ℕ) → hex_at (hex_byte b ++ 10 ∷ rest) ≡ (b ∷ [], rest)
unfolding hex_text
byte_last b rest = hex_last (b ∷ []) 10 refl rest

written_last : (w : Written) → IsWholeWritten w → (rest : List ℕ) → written_at (written_text w ++ 10 ∷ rest) ≡ (w, rest)
unfolding written_at written_text
written_last (Hex bytes) whole rest = rw (hex_last bytes 10 refl rest) refl
written_last (Fill count byte) whole rest = rw (number_row count 58 whole refl, byte_last byte rest) refl

-- ---- acts

abbrev of_operand : (Operand → Act) → List ℕ → Act × List ℕ
of_operand act bytes = read (operand_at bytes) (λ o t. (act o, t))

abbrev of_path : (Path → Act) → List ℕ → Act × List ℕ
of_path act bytes = read (path_at bytes) (λ p t. (act p, t))

abbrev of_paths : (Path → Path → Act) → List ℕ → Act × List ℕ
of_paths act bytes = read (path_at bytes) (λ p r. read (path_at r) (λ q t. (act p q, t)))

abbrev of_written : (Operand → Written → Act) → List ℕ → Act × List ℕ
of_written act bytes = read (operand_at bytes) (λ o r. read (written_at r) (λ w t. (act o w, t)))

pub act_at : List ℕ → Act × List ℕ
act_at bytes =
    at_word (behind (codes "open ") bytes) (of_operand acts.Open)
    (at_word (behind (codes "list ") bytes) (of_operand acts.ListNames)
    (at_word (behind (codes "readlink ") bytes) (of_operand acts.ReadLink)
    (at_word (behind (codes "stat ") bytes) (of_operand acts.Stat)
    (at_word (behind (codes "statall ") bytes) (of_operand acts.StatAll)
    (at_word (behind (codes "close ") bytes) (of_written acts.Close)
    (at_word (behind (codes "make ") bytes) (of_path acts.Make)
    (at_word (behind (codes "mkdir ") bytes) (of_path acts.MakeDirectory)
    (at_word (behind (codes "rm ") bytes) (of_path acts.Remove)
    (at_word (behind (codes "rmdir ") bytes) (of_path acts.RemoveDirectory)
    (at_word (behind (codes "mv ") bytes) (of_paths acts.Move)
    (at_word (behind (codes "ln ") bytes) (of_paths acts.Link)
    (at_word (behind (codes "symlink ") bytes) (λ r. read (path_at r) (λ p s. read (written_at s) (λ w t. (acts.Symlink p w, t))))
    (at_word (behind (codes "chmod ") bytes) (λ r. read (operand_at r) (λ o s. read (mode_at s) (λ m t. (acts.SetMode o m, t))))
    (at_word (behind (codes "setacl ") bytes) (of_written acts.SetAccessList)
    (at_word (behind (codes "getacl ") bytes) (of_operand acts.GetAccessList)
    (acts.GiveUp, drop 7 bytes))))))))))))))))

act_last : (a : Act) → IsWholeAct a → (rest : List ℕ) → act_at (act_text a ++ 10 ∷ rest) ≡ (a, rest)
unfolding act_at act_text octal
act_last (acts.Open o) whole rest = rw (operand_last o 10 whole newline rest) refl
act_last (acts.ListNames o) whole rest = rw (operand_last o 10 whole newline rest) refl
act_last (acts.ReadLink o) whole rest = rw (operand_last o 10 whole newline rest) refl
act_last (acts.Stat o) whole rest = rw (operand_last o 10 whole newline rest) refl
act_last (acts.StatAll o) whole rest = rw (operand_last o 10 whole newline rest) refl
act_last (acts.Close o contents) whole rest = rw (operand_row o 32 whole.0 space, written_last contents whole.1 rest) refl
act_last (acts.Make p) whole rest = rw (path_last p 10 refl refl rest) refl
act_last (acts.MakeDirectory p) whole rest = rw (path_last p 10 refl refl rest) refl
act_last (acts.Remove p) whole rest = rw (path_last p 10 refl refl rest) refl
act_last (acts.RemoveDirectory p) whole rest = rw (path_last p 10 refl refl rest) refl
act_last (acts.Move p q) whole rest = rw (path_row p 32 refl refl, path_last q 10 refl refl rest) refl
act_last (acts.Link p q) whole rest = rw (path_row p 32 refl refl, path_last q 10 refl refl rest) refl
act_last (acts.Symlink p target) whole rest = rw (path_row p 32 refl refl, written_last target whole rest) refl
act_last (acts.SetMode o mode) whole rest = rw (operand_row o 32 whole.0 space, mode_last mode 10 whole.1 refl rest) refl
act_last (acts.SetAccessList o text) whole rest = rw (operand_row o 32 whole.0 space, written_last text whole.1 rest) refl
act_last (acts.GetAccessList o) whole rest = rw (operand_last o 10 whole newline rest) refl
act_last acts.GiveUp whole rest = refl

pub act_row : (a : Act) → IsWholeAct a → (x rest : List ℕ) → act_at ((act_text a ++ 10 ∷ x) ++ rest) ≡ (a, x ++ rest)
act_row a whole x rest = in_row act_at (act_text a) 10 x rest a (act_last a whole (x ++ rest))

-- ---- acts of administrators

-- a name, without the byte that ends it
pub named_at : List ℕ → List ℕ × List ℕ
named_at bytes = closed (name_open bytes)

pub named_last : (name : List ℕ) (c : ℕ) → ends_name (c ∷ []) ≡ true → (rest : List ℕ) → named_at (name_text name ++ c ∷ rest) ≡ (name, rest)
unfolding named_at
named_last name c stop rest = ap (λ (r : List ℕ × List ℕ). closed r) (name_tail name (c ∷ rest) stop)

pub named_row : (name : List ℕ) (c : ℕ) → ends_name (c ∷ []) ≡ true → (x rest : List ℕ) → named_at ((name_text name ++ c ∷ x) ++ rest) ≡ (name, x ++ rest)
named_row name c stop x rest = in_row named_at (name_text name) c x rest name (named_last name c stop (x ++ rest))

-- a server, without the letter before its number
server_at : List ℕ → ℕ × List ℕ
server_at bytes = number_at (drop 1 bytes)

abbrev of_name : (List ℕ → AdminAct) → List ℕ → Option (AdminAct × List ℕ)
of_name act bytes = read (named_at bytes) (λ n t. Some (act n, t))

abbrev of_server : (List ℕ → ℕ → AdminAct) → List ℕ → Option (AdminAct × List ℕ)
of_server act bytes = read (named_at bytes) (λ n r. read (server_at r) (λ s t. Some (act n s, t)))

-- an act of an administrator, where its word stands here
pub admin_act_at : List ℕ → Option (AdminAct × List ℕ)
admin_act_at bytes =
    at_word (behind (codes "create ") bytes) (λ r. read (named_at r) (λ n s. read (server_at s) (λ i u. read (number_at u) (λ q t. Some (admin_acts.Create n i q, t)))))
    (at_word (behind (codes "restore ") bytes) (λ r. read (named_at r) (λ n s. read (server_at s) (λ i u. read (named_at u) (λ l t. Some (admin_acts.Restore n i l, t)))))
    (at_word (behind (codes "addsite ") bytes) (of_server admin_acts.AddSite)
    (at_word (behind (codes "backup ") bytes) (of_name admin_acts.Backup)
    (at_word (behind (codes "release ") bytes) (of_name admin_acts.Release)
    (at_word (behind (codes "move ") bytes) (of_server admin_acts.Move)
    (at_word (behind (codes "dump ") bytes) (λ r. read (named_at r) (λ n s. read (named_at s) (λ l u. read (number_at u) (λ k t. Some (admin_acts.Dump n l k, t)))))
    (at_word (behind (codes "remove ") bytes) (of_name admin_acts.Remove)
    (at_word (behind (codes "recover ") bytes) (of_name admin_acts.Recover)
    None))))))))

admin_act_last : (a : AdminAct) → IsWholeAdminAct a → (rest : List ℕ) → admin_act_at (admin_act_text a ++ 10 ∷ rest) ≡ Some (a, rest)
unfolding admin_act_at admin_act_text server_at
admin_act_last (admin_acts.Create name server quota) whole rest = rw (named_row name 32 refl, number_row server 32 whole.0 refl, number_last quota 10 whole.1 refl rest) refl
admin_act_last (admin_acts.Restore name server label) whole rest = rw (named_row name 32 refl, number_row server 32 whole refl, named_last label 10 refl rest) refl
admin_act_last (admin_acts.AddSite name server) whole rest = rw (named_row name 32 refl, number_last server 10 whole refl rest) refl
admin_act_last (admin_acts.Backup name) whole rest = rw (named_last name 10 refl rest) refl
admin_act_last (admin_acts.Release name) whole rest = rw (named_last name 10 refl rest) refl
admin_act_last (admin_acts.Move name server) whole rest = rw (named_row name 32 refl, number_last server 10 whole refl rest) refl
admin_act_last (admin_acts.Dump name label from) whole rest = rw (named_row name 32 refl, named_row label 32 refl, number_last from 10 whole refl rest) refl
admin_act_last (admin_acts.Remove name) whole rest = rw (named_last name 10 refl rest) refl
admin_act_last (admin_acts.Recover name) whole rest = rw (named_last name 10 refl rest) refl

pub admin_act_row : (a : AdminAct) → IsWholeAdminAct a → (x rest : List ℕ) → admin_act_at ((admin_act_text a ++ 10 ∷ x) ++ rest) ≡ Some (a, x ++ rest)
admin_act_row a whole x rest = ap admin_act_at (append_assoc (admin_act_text a) (10 ∷ x) rest) ∙ admin_act_last a whole (x ++ rest)

-- no act of a client begins with such a word
no_admin_act : (a : Act) (tail : List ℕ) → admin_act_at (act_text a ++ tail) ≡ None
unfolding admin_act_at act_text
no_admin_act (acts.Open o) tail = refl
no_admin_act (acts.ListNames o) tail = refl
no_admin_act (acts.ReadLink o) tail = refl
no_admin_act (acts.Stat o) tail = refl
no_admin_act (acts.StatAll o) tail = refl
no_admin_act (acts.Close o contents) tail = refl
no_admin_act (acts.Make p) tail = refl
no_admin_act (acts.MakeDirectory p) tail = refl
no_admin_act (acts.Remove p) tail = refl
no_admin_act (acts.RemoveDirectory p) tail = refl
no_admin_act (acts.Move p q) tail = refl
no_admin_act (acts.Link p q) tail = refl
no_admin_act (acts.Symlink p target) tail = refl
no_admin_act (acts.SetMode o mode) tail = refl
no_admin_act (acts.SetAccessList o text) tail = refl
no_admin_act (acts.GetAccessList o) tail = refl
no_admin_act acts.GiveUp tail = refl

pub act_is_no_admins : (a : Act) (x rest : List ℕ) → admin_act_at ((act_text a ++ x) ++ rest) ≡ None
act_is_no_admins a x rest = ap admin_act_at (append_assoc (act_text a) x rest) ∙ no_admin_act a (x ++ rest)
