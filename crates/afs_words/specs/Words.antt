-- The words of a line of a script that aren't fixed: nodes, names, paths, operands, bytes, and numbers of eight digits.
use Rattle.std.specs.Prelude.{ℕ, Bool, true, false, List, [], ◌∷◌, ◌++◌, ◌+◌, ◌-◌, ◌*◌, ◌&&◌, ◌||◌, not, nat_eq, nat_le, nat_lt, length, drop, Option, Some, None, Result, Ok, Err, if◌then◌else◌, codes}
use Rattle.std.specs.List.{starts_with, list_all}
use Rattle.std.specs.Option.{ok_or, option_map}
use Rattle.std.specs.Str.{bytes_eq}
use Rattle.afs_num.specs.Names.{is_in, is_plain, has_size, volume_name_ok}
use Rattle.afs_num.specs.declared.types.Node.{Node}
use Rattle.afs_num.specs.declared.types.Node.TheVariants as nodes
use Rattle.afs_num.specs.declared.scripts.Reason.{Reason}
use Rattle.afs_num.specs.declared.scripts.Reason.TheVariants as reasons
use Rattle.spec_model.specs.ScriptWords.{◌>>=◌, must, parts, word_at, ranged, node_number_read, is_hex, hex_value, hex_from, fid_of}
use Rattle.spec_history.specs.declared.acts.Path.{Path}
use Rattle.spec_history.specs.declared.acts.Operand.{Operand}
use Rattle.spec_history.specs.declared.acts.Operand.TheVariants as operands
use Rattle.spec_history.specs.declared.acts.Written.{Written}
use Rattle.spec_history.specs.declared.acts.Written.TheVariants as written
use Rattle.afs_words.specs.declared.nodes.Counts.{Counts}
use Rattle.afs_words.specs.declared.nodes.Kinds.{Kinds}

-- ---- nodes: `loc`, or the letter of a kind and a number up to the count of that kind

abbrev pub numbered : (ℕ → Node) → Bool → ℕ → ℕ → List ℕ → Option Node
numbered node true letter count word = option_map node (node_number_read letter count word)
numbered node false letter count word = None

abbrev pub or_else : Option Node → Option Node → Option Node
or_else None o = o
or_else (Some n) o = Some n

abbrev pub loc_of : Bool → List ℕ → Option Node
loc_of true word = if bytes_eq word (codes "loc") then Some nodes.Loc else None
loc_of false word = None

unfoldable pub node_of : Kinds → Counts → List ℕ → Option Node
node_of kinds counts word =
    or_else (loc_of kinds.loc word) (or_else (numbered nodes.Server kinds.server 115 counts.servers word)
    (or_else (numbered nodes.Client kinds.client 99 counts.clients word) (numbered nodes.Admin kinds.admin 97 counts.admins word)))

unfoldable pub node_at : Kinds → Counts → List (List ℕ) → Result (Node × List (List ℕ)) Reason
node_at kinds counts words = do
  word ← word_at words
  node ← ok_or (node_of kinds counts word.0) reasons.Node
  Ok (node, word.1)

-- the number of a node of one kind
unfoldable pub node_number_at : ℕ → ℕ → List (List ℕ) → Result (ℕ × List (List ℕ)) Reason
node_number_at letter count words = do
  word ← word_at words
  n ← ok_or (node_number_read letter count word.0) reasons.Node
  Ok (n, word.1)

abbrev pub server_at : Counts → List (List ℕ) → Result (ℕ × List (List ℕ)) Reason
server_at counts words = node_number_at 115 counts.servers words

-- ---- the kinds of nodes that may stand in a place

abbrev pub kinds : Bool → Bool → Bool → Bool → Kinds
kinds loc server client admin = record { loc = loc; server = server; client = client; admin = admin }

abbrev pub actors : Kinds
actors = kinds false false true true

abbrev pub callers : Kinds
callers = kinds false true true true

abbrev pub all_nodes : Kinds
all_nodes = kinds true true true true

abbrev pub disk_nodes : Kinds
disk_nodes = kinds true true false false

-- whom a server calls, and whom the others do
abbrev pub callees : Node → Kinds
callees (nodes.Server n) = kinds false true true false
callees node = disk_nodes

-- ---- names: plain bytes, and each other byte as `%` and two digits of base 16

abbrev pub is_high_hex : ℕ → Bool
is_high_hex b = is_in 48 57 b || is_in 65 70 b

abbrev pub high_value : ℕ → ℕ
high_value b = if nat_le b 57 then b - 48 else b - 55

abbrev pub escaped_byte : ℕ → ℕ → ℕ
escaped_byte high low = high_value high * 16 + high_value low

-- a plain byte is never escaped
abbrev pub is_escape : ℕ → ℕ → ℕ → Bool
is_escape mark high low = nat_eq mark 37 && (is_high_hex high && (is_high_hex low && not (is_plain (escaped_byte high low))))

-- `out` with the bytes that are spelled so behind it
abbrev pub unescaped_from : List ℕ → List ℕ → Option (List ℕ)
unescaped_from out [] = Some out
unescaped_from out (a ∷ []) = if is_plain a then Some (out ++ a ∷ []) else None
unescaped_from out (a ∷ b ∷ []) = if is_plain a then unescaped_from (out ++ a ∷ []) (b ∷ []) else None
unescaped_from out (a ∷ b ∷ c ∷ more) =
    if is_plain a then unescaped_from (out ++ a ∷ []) (b ∷ c ∷ more)
    else (if is_escape a b c then unescaped_from (out ++ escaped_byte b c ∷ []) more else None)

-- a name of 1 to `most` bytes
unfoldable pub name_of : ℕ → Reason → List ℕ → Result (List ℕ) Reason
name_of most reason word = do
  name ← ok_or (unescaped_from [] word) reason
  good ← must (has_size most name) reason
  Ok name

unfoldable pub name_at : ℕ → List (List ℕ) → Result (List ℕ × List (List ℕ)) Reason
name_at most words = do
  word ← word_at words
  name ← name_of most reasons.Name word.0
  Ok (name, word.1)

-- a name that a volume may have
unfoldable pub label_at : List (List ℕ) → Result (List ℕ × List (List ℕ)) Reason
label_at words = do
  word ← word_at words
  good ← must (volume_name_ok word.0) reasons.Name
  Ok (word.0, word.1)

-- ---- paths: a volume's name and the names below its root, parted by slashes; its length is that of the bytes

-- `out` with the names that the words spell behind it
abbrev pub names_from : List (List ℕ) → List (List ℕ) → Result (List (List ℕ)) Reason
names_from out [] = Ok out
names_from out (word ∷ more) = do
  name ← name_of 256 reasons.Path word
  names_from (out ++ name ∷ []) more

-- the names, each with a slash before it, have at most so many bytes
abbrev pub fit_in : ℕ → List (List ℕ) → Bool
fit_in room [] = true
fit_in room (name ∷ names) = nat_lt (length name) room && fit_in (room - (length name + 1)) names

unfoldable pub path_in : List (List ℕ) → Result Path Reason
path_in [] = Err reasons.Name
path_in (word ∷ more) = do
  volume ← name_of 32 reasons.Name word
  names ← names_from [] more
  short ← must (fit_in (1024 - length volume) names) reasons.Limit
  Ok (record { volume = volume; names = names })

unfoldable pub path_of : List ℕ → Result Path Reason
path_of word = path_in (parts 47 word)

-- of set-up
unfoldable pub path_at : List (List ℕ) → Result (Path × List (List ℕ)) Reason
path_at words = do
  word ← word_at words
  path ← path_of word.0
  Ok (path, word.1)

abbrev pub is_fid : List ℕ → Bool
is_fid word = starts_with nat_eq word (codes "@")

-- of an act: no fid may stand here
unfoldable pub act_path_at : List (List ℕ) → Result (Path × List (List ℕ)) Reason
act_path_at words = do
  word ← word_at words
  by_names ← must (not (is_fid word.0)) reasons.Path
  path ← path_of word.0
  Ok (path, word.1)

unfoldable pub operand_of : List ℕ → Result Operand Reason
operand_of word =
    if is_fid word then (do
      fid ← fid_of (parts 46 (drop 1 word))
      Ok (operands.Fid fid))
    else (do
      path ← path_of word
      Ok (operands.Path path))

unfoldable pub operand_at : List (List ℕ) → Result (Operand × List (List ℕ)) Reason
operand_at words = do
  word ← word_at words
  operand ← operand_of word.0
  Ok (operand, word.1)

-- ---- bytes: `hex:` and pairs of digits, or `fill:`, a count and the digits of one byte

abbrev pub is_digit : ℕ → Bool
is_digit b = is_in 48 57 b

abbrev pub numeral_goes_on : ℕ → List ℕ → Bool
numeral_goes_on d ds = if nat_eq d 48 then nat_eq (length ds) 0 else is_digit d && list_all is_digit ds

-- a number of any size, without leading zeros
unfoldable pub is_numeral : List ℕ → Bool
is_numeral [] = false
is_numeral (d ∷ ds) = numeral_goes_on d ds

unfoldable pub byte_of : List ℕ → Option ℕ
byte_of (a ∷ b ∷ []) = if is_hex a && is_hex b then Some (hex_value a * 16 + hex_value b) else None
byte_of word = None

unfoldable pub hex_in : ℕ → List ℕ → Result Written Reason
hex_in most digits = do
  bytes ← ok_or (hex_from [] digits) reasons.Contents
  small ← must (nat_le (length bytes) most) reasons.Limit
  Ok (written.Hex bytes)

unfoldable pub fill_of : ℕ → List ℕ → List ℕ → Result Written Reason
fill_of most count digits = do
  spelled ← must (is_numeral count) reasons.Contents
  byte ← ok_or (byte_of digits) reasons.Contents
  n ← ok_or (ranged 0 most count) reasons.Limit
  Ok (written.Fill n byte)

abbrev pub fill_in : ℕ → List (List ℕ) → Result Written Reason
fill_in most (count ∷ digits ∷ []) = fill_of most count digits
fill_in most fields = Err reasons.Contents

unfoldable pub written_of : ℕ → List ℕ → Result Written Reason
written_of most word =
    if starts_with nat_eq word (codes "hex:") then hex_in most (drop 4 word)
    else (if starts_with nat_eq word (codes "fill:") then fill_in most (parts 58 (drop 5 word))
    else Err reasons.Contents)

unfoldable pub written_at : ℕ → List (List ℕ) → Result (Written × List (List ℕ)) Reason
written_at most words = do
  word ← word_at words
  bytes ← written_of most word.0
  Ok (bytes, word.1)

-- ---- modes: numbers of base 8 up to 7777, without leading zeros

-- the number with one more digit
abbrev pub octal_digit : ℕ → ℕ → Option ℕ
octal_digit n d = if is_in 48 55 d && nat_le (n * 8 + (d - 48)) 4095 then Some (n * 8 + (d - 48)) else None

abbrev pub octal_from : ℕ → List ℕ → Option ℕ
octal_from n [] = Some n
octal_from n (d ∷ ds) = if is_in 48 55 d && nat_le (n * 8 + (d - 48)) 4095 then octal_from (n * 8 + (d - 48)) ds else None

unfoldable pub octal_in : List ℕ → Option ℕ
octal_in [] = None
octal_in (d ∷ ds) = if nat_eq d 48 then (if nat_eq (length ds) 0 then Some 0 else None) else octal_from 0 (d ∷ ds)

unfoldable pub mode_at : List (List ℕ) → Result (ℕ × List (List ℕ)) Reason
mode_at words = do
  word ← word_at words
  mode ← ok_or (octal_in word.0) reasons.Number
  Ok (mode, word.1)
