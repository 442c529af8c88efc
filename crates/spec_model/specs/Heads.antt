-- The header of a message: eight words. And what all messages have in common besides: limits, codes.
-- Where something is read from bytes, `.0` is what was read, and `.1` are the bytes behind it.
use Rattle.std.specs.Prelude.{ℕ, List, [], ◌∷◌, Bool, false, Option, Some, None, Result, Ok, Err, ℤ, pos, negsuc, nat_eq, if◌then◌else◌}
use Rattle.std.specs.Int.{w32, cast_unsigned}
use Rattle.afs_num.specs.Nodes.{IsNode, node_number, node_of}
use Rattle.afs_num.specs.declared.types.Node.{Node}
use Rattle.afs_num.specs.declared.types.Half.{Half}
use Rattle.afs_num.specs.declared.types.Half.TheVariants as halves
use Rattle.afs_num.specs.declared.types.Head.{Head}
use Rattle.afs_xdr.specs.declared.faults.XdrFault.{XdrFault}
use Rattle.afs_xdr.specs.declared.faults.XdrFault.TheVariants.{BadHead}
use Rattle.afs_xdr.specs.Words.{◌>>=◌, word_at, AreWords}

-- ---- limits

-- at most so many bytes of a user's name
abbrev pub user_limit : ℕ
user_limit = 64

-- at most so many bytes of a file's contents
abbrev pub contents_limit : ℕ
contents_limit = 2097152

-- ---- spelling

abbrev pub half_number : Half → ℕ
half_number halves.Call = 1
half_number halves.Reply = 2
half_number halves.Boot = 3

abbrev pub head_words : Head → List ℕ
head_words h = half_number h.half ∷ node_number h.from ∷ node_number h.to ∷ h.epoch ∷ h.number ∷ h.boot ∷ h.stamp ∷ h.opcode ∷ []

-- a signed word, by the word of the same bits
abbrev pub signed_word : ℤ → ℕ
signed_word z = cast_unsigned w32 z

-- the code of a reply that has fields
abbrev pub is_zero : ℤ → Bool
is_zero (pos n) = nat_eq n 0
is_zero (negsuc n) = false

-- ---- reading: what a part of the header is, and the bytes behind it

abbrev pub half_of : ℕ → Option Half
half_of n = if nat_eq n 1 then Some halves.Call else (if nat_eq n 2 then Some halves.Reply else (if nat_eq n 3 then Some halves.Boot else None))

-- a word that stands for a value; any other is refused
abbrev pub known : {A : Type 0} → Option A → List ℕ → Result (A × List ℕ) XdrFault
known (Some x) rest = Ok (x, rest)
known None rest = Err BadHead

unfoldable pub half_at : List ℕ → Result (Half × List ℕ) XdrFault
half_at bytes = do
  n ← word_at bytes
  known (half_of n.0) n.1

unfoldable pub node_at : List ℕ → Result (Node × List ℕ) XdrFault
node_at bytes = do
  n ← word_at bytes
  known (node_of n.0) n.1

unfoldable pub head_at : List ℕ → Result (Head × List ℕ) XdrFault
head_at bytes = do
  half ← half_at bytes
  from ← node_at half.1
  to ← node_at from.1
  epoch ← word_at to.1
  number ← word_at epoch.1
  boot ← word_at number.1
  stamp ← word_at boot.1
  opcode ← word_at stamp.1
  Ok (record { half = half.0; from = from.0; to = to.0; epoch = epoch.0; number = number.0; boot = boot.0; stamp = stamp.0; opcode = opcode.0 }, opcode.1)

-- ---- which headers have a spelling

-- its nodes are among the 8 servers, the 16 clients, the 4 administrators and the location database
abbrev pub IsSoundHead : Head → Type 0
IsSoundHead h = IsNode h.from × IsNode h.to

-- and its numbers are words
pub record FitsHead (h : Head) : Type 0 where
  pub from : IsNode h.from
  pub to : IsNode h.to
  pub numbers : AreWords (head_words h)
