-- Each server in order is asked which volumes of the family it has, which brings it the stamp: so begin a move, a removal and a recovery.
use Rattle.std.specs.Prelude.{ℕ, List, [], ◌∷◌, ◌++◌, None, map}
use Rattle.afs_num.specs.declared.messages.Reply.{Reply}
use Rattle.afs_num.specs.declared.messages.Reply.TheVariants as tell
use Rattle.afs_num.specs.declared.types.Code.{Code}
use Rattle.afs_num.specs.declared.volume_calls.ListedVolume.{ListedVolume}
use Rattle.afs_num.specs.declared.volume_calls.VolCall.TheVariants as vol
use Rattle.afs_num.specs.declared.volume_calls.VolReply.TheVariants as volumes
use Rattle.spec_adminrows.specs.Asks.{all_servers, family, held_at}
use Rattle.spec_adminrows.specs.Turns.{fails, mend_fails}
use Rattle.spec_adminrows.specs.declared.places.Hold.{Hold}
use Rattle.spec_adminrows.specs.declared.places.Place.TheVariants as places
use Rattle.spec_adminrows.specs.declared.places.Purpose.{Purpose}
use Rattle.spec_adminrows.specs.declared.places.Purpose.TheVariants as purposes
use Rattle.spec_adminrows.specs.declared.places.Removing.TheVariants as removing
use Rattle.spec_adminrows.specs.declared.places.Seen.{Seen}
use Rattle.spec_adminrows.specs.declared.turns.Ask.{Ask}
use Rattle.spec_adminrows.specs.declared.turns.Errand.{Errand}
use Rattle.spec_adminrows.specs.declared.turns.Turn.{Turn}
use Rattle.spec_adminrows.specs.declared.turns.Turn.TheVariants as turns

abbrev pub survey_asks : Hold → ℕ → Ask
survey_asks h s = held_at h s (vol.ListVols (family h))

-- behind the last server
abbrev pub surveyed : Hold → Purpose → List Seen → Turn
surveyed h (purposes.Moves target) seen = turns.Goes (places.Plans h target)
surveyed h purposes.Removes seen = turns.Goes (places.Removes h seen removing.Begins)
surveyed h (purposes.Mends c) seen = turns.Goes (places.Asks c h seen)

abbrev pub surveys : Hold → Purpose → List ℕ → List Seen → Turn
surveys h why [] seen = surveyed h why seen
surveys h why (s ∷ left) seen = turns.Goes (places.Surveys h why s left seen)

-- it begins
abbrev pub surveys_all : Errand → Hold → Purpose → Turn
surveys_all e h why = surveys h why (all_servers e) []

abbrev pub seen_by : ℕ → ListedVolume → Seen
seen_by s l = record { server = s; volume = l }

abbrev pub survey_answered : Hold → Purpose → ℕ → List ℕ → List Seen → Reply → Turn
survey_answered h why s left seen (tell.Volume (volumes.ListVols ls)) = surveys h why left (seen ++ map (seen_by s) ls)
survey_answered h why s left seen reply = turns.Passes

abbrev pub survey_refused : Purpose → Code → Turn
survey_refused (purposes.Moves target) code = fails None code
survey_refused purposes.Removes code = fails None code
survey_refused (purposes.Mends c) code = mend_fails c code
