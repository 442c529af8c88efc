-- The rights that the text of an access list gives, as they are found in the text itself, line by line.
use Rattle.std.specs.Prelude.{ℕ, zero, suc, List, [], ◌∷◌, take, Bool, false, ◌||◌, Option, Some, None, Result, Ok, Err, nat_eq, bit_or, if◌then◌else◌}
use Rattle.std.specs.Str.{bytes_eq}
use Rattle.afs_num.specs.declared.acls.AccessList.{AccessList}
use Rattle.afs_num.specs.declared.acls.AclEntry.{AclEntry}
use Rattle.spec_ideal.specs.AccessLists.{Refusal, anyuser, matches, matching_rights, name_length, newline, rights_of}
use Rattle.afs_acl.specs.declared.walking.Both.{Both}
use Rattle.afs_acl.specs.declared.walking.Line.{Line}

-- the rights that a user has by a list that was read, and those that everyone has; none where the text was refused
abbrev pub rights_read : List ℕ → Result AccessList Refusal → Option (ℕ × ℕ)
rights_read user (Ok a) = Some (rights_of user a, rights_of anyuser a)
rights_read user (Err why) = None

-- the rights of the entries that speak of a user, and of those that speak of everyone
abbrev pub both_of : List ℕ → List AclEntry → Both
both_of user entries = record { user = matching_rights user 0 entries; everyone = matching_rights anyuser 0 entries }

-- with those of one more
abbrev pub both_with : List ℕ → Both → AclEntry → Both
both_with user both e = record {
  user = if matches user e then bit_or both.user e.rights else both.user;
  everyone = if matches anyuser e then bit_or both.everyone e.rights else both.everyone;
}

-- those of each kind of entries, in a list that was read
abbrev pub kinds_read : List ℕ → Result AccessList Refusal → Option (Both × Both)
kinds_read user (Ok a) = Some (both_of user a.positive, both_of user a.negative)
kinds_read user (Err why) = None

-- those of entries that were read, and what follows these
abbrev pub both_read : List ℕ → Result (List AclEntry × List ℕ) Refusal → Option (Both × List ℕ)
both_read user (Ok x) = Some (both_of user x.0, x.1)
both_read user (Err why) = None

-- the entry of a line
abbrev pub entry_seen : Line → AclEntry
entry_seen l = record { name = l.name.now; rights = l.rights }

-- what follows the line that stands first
abbrev pub behind_line : List ℕ → List ℕ
behind_line [] = []
behind_line (b ∷ bs) = if nat_eq b newline then bs else behind_line bs

-- the name on the line that stands first
abbrev pub name_of_line : List ℕ → List ℕ
name_of_line bytes = take (name_length bytes) bytes

-- one of the first lines, so many, has the name
abbrev pub is_among : List ℕ → ℕ → List ℕ → Bool
is_among name zero lines = false
is_among name (suc n) lines = bytes_eq (name_of_line lines) name || is_among name n (behind_line lines)
