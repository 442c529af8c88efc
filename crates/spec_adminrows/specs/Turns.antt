-- Where answers lead: what all acts have in common.
use Rattle.std.specs.Prelude.{Bool, false, ℤ, pos, negsuc, ◌||◌, Option, Some, None, nat_eq, if◌then◌else◌}
use Rattle.spec_ideal.specs.Operations.{is_number}
use Rattle.afs_num.specs.declared.types.Code.{Code}
use Rattle.spec_adminrows.specs.declared.places.Cause.{Cause}
use Rattle.spec_adminrows.specs.declared.places.Cause.TheVariants as causes
use Rattle.spec_adminrows.specs.declared.places.Hold.{Hold}
use Rattle.spec_adminrows.specs.declared.places.Place.TheVariants as places
use Rattle.spec_adminrows.specs.declared.turns.Turn.{Turn}
use Rattle.spec_adminrows.specs.declared.turns.Turn.TheVariants as turns

-- ---- codes

abbrev pub fine : Code
fine = record { 0 = pos 0 }

-- -1: the call was given up
abbrev pub dead : Code
dead = record { 0 = negsuc 0 }

-- 22: the volume, or its read-only copy, is there already
abbrev pub same_place : Code
same_place = record { 0 = pos 22 }

-- 2: no dump is held under that label
abbrev pub no_dump : Code
no_dump = record { 0 = pos 2 }

-- 103: the named server hasn't the volume
abbrev pub not_there : Code
not_there = record { 0 = pos 103 }

-- an older stamp, or the lock is another's: another administrator has the entry
abbrev pub is_superseded : Code → Bool
is_superseded code = is_number code.0 1492325131 || is_number code.0 363541

-- the database has no such entry
abbrev pub is_unlisted : Code → Bool
is_unlisted code = is_number code.0 363524

abbrev pub is_minus_one : ℤ → Bool
is_minus_one (pos n) = false
is_minus_one (negsuc n) = nat_eq n 0

abbrev pub is_dead : Code → Bool
is_dead code = is_minus_one code.0

-- the first code stands before a later one
abbrev pub code_or : Code → Option Code → Code
code_or code None = code
code_or code (Some first) = first

-- ---- failures

-- what was left is put in order by a recovery of the entry of that name, whose answer is the first code; unless another has the entry
abbrev pub fails : Option Code → Code → Turn
fails first code = if is_superseded code then turns.Ends code else turns.Goes (places.Seeks (causes.After (code_or code first)))

-- in a recovery
abbrev pub code_behind : Cause → Code → Code
code_behind causes.Asked code = code
code_behind (causes.After first) code = first

abbrev pub mend_fails : Cause → Code → Turn
mend_fails c code = if is_superseded code then turns.Ends code else turns.Sticks (code_behind c code)

-- before the entry is locked
abbrev pub seek_fails : Cause → Code → Turn
seek_fails causes.Asked code = turns.Ends code
seek_fails (causes.After first) code = mend_fails (causes.After first) code

-- ---- the end of an act

abbrev pub frees : Hold → Code → Turn
frees h code = turns.Goes (places.Frees h code None)
