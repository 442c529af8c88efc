-- Lines in words: a count that has no word is told as the last.
use Rattle.std.specs.Prelude.{◌≡◌, List, map, min}
use Rattle.spec_history.specs.declared.lines.Line.{Line}
use Rattle.spec_history.specs.declared.lines.Line.TheVariants as lines
use Rattle.afs_num.specs.declared.histories.Version.{Version}
use Rattle.spec_ideal.specs.Operations.{last_count}

-- A server changes nothing whose next count has no word, so this is another version only for a record that no server made.
abbrev pub version_within : Version → Version
version_within v = record v { index = min v.index last_count; data_version = min v.data_version last_count }

abbrev pub in_words : Line → Line
in_words (lines.Change server key count) = lines.Change server key (min count last_count)
in_words (lines.Version v) = lines.Version (version_within v)
in_words l = l

-- each count of these lines has a word
abbrev pub AreInWords : List Line → Type 0
AreInWords ls = map in_words ls ≡ ls
