-- Forms of scripts: what of the grammar is built. A word that isn't is no word of the form.
use Rattle.std.specs.Prelude.{ℕ, Bool, false, List, [], ◌∷◌, ◌&&◌, ◌||◌, not, nat_lt, Option, Some, None, codes}
use Rattle.std.specs.List.{starts_with, list_any}
use Rattle.std.specs.Str.{bytes_eq}
use Rattle.std.specs.Prelude.{nat_eq}
use Rattle.afs_grammar.specs.declared.spellings.FirstWord.{FirstWord}
use Rattle.afs_grammar.specs.declared.spellings.FirstWord.TheVariants as words
use Rattle.afs_grammar.specs.declared.spellings.ActWord.{ActWord}
use Rattle.afs_grammar.specs.declared.spellings.ActWord.TheVariants as acts
use Rattle.afs_grammar.specs.Spellings.{act_spelled}

-- 3 has the acts `open` and `close` on fids, losses and restarts of one client, 4 disks that stop, 5 every act on paths, 6 several
-- clients and breaks, 7 several servers and the location database, 9 administrators, 10 the whole of it

-- the level that brings lines of this word
abbrev pub level_of : FirstWord → ℕ
level_of words.Capacity = 4
level_of words.Stop = 4
level_of words.Fail = 4
level_of words.User = 5
level_of words.Dir = 5
level_of words.Link = 5
level_of words.Acl = 5
level_of words.Cache = 6
level_of words.Wake = 6
level_of words.Admins = 9
level_of words.Plan = 10
level_of _ = 3

-- that brings this act; an act of no client comes with the others
abbrev pub act_level : Option ActWord → ℕ
act_level None = 5
act_level (Some acts.Open) = 3
act_level (Some acts.Close) = 3
act_level (Some acts.StatAll) = 6
act_level (Some acts.GiveUp) = 6
act_level (Some _) = 5

abbrev pub is_unbuilt_operand : ℕ → List (List ℕ) → Bool
is_unbuilt_operand level [] = false
is_unbuilt_operand level (operand ∷ more) = nat_lt level 5 && not (starts_with nat_eq operand (codes "@"))

abbrev pub is_unbuilt_task : ℕ → List (List ℕ) → Bool
is_unbuilt_task level [] = false
is_unbuilt_task level (node ∷ []) = false
is_unbuilt_task level (node ∷ act ∷ more) = nat_lt level (act_level (act_spelled act)) || is_unbuilt_operand level more

abbrev pub has_loc : List (List ℕ) → Bool
has_loc words = list_any (λ word. bytes_eq word (codes "loc")) words

abbrev pub is_of_server : List (List ℕ) → Bool
is_of_server [] = false
is_of_server (word ∷ more) = starts_with nat_eq word (codes "s")

abbrev pub lacks_loc : ℕ → List (List ℕ) → Bool
lacks_loc level words = nat_lt level 7 && has_loc words

abbrev pub lacks_servers : ℕ → ℕ → List (List ℕ) → Bool
lacks_servers level from words = nat_lt level from && is_of_server words

-- a word behind the first isn't built
unfoldable pub is_unbuilt : ℕ → FirstWord → List (List ℕ) → Bool
is_unbuilt level words.Do more = is_unbuilt_task level more
is_unbuilt level words.Timeout more = lacks_loc level more || lacks_servers level 6 more
is_unbuilt level words.Crash more = lacks_loc level more || lacks_servers level 4 more
is_unbuilt level words.Restart more = lacks_loc level more || lacks_servers level 4 more
is_unbuilt level words.Stop more = lacks_loc level more
is_unbuilt level words.Fail more = lacks_loc level more
is_unbuilt level _ more = false
