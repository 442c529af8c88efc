-- Surveys: what is asked can be spelled, and a reply leads to what fits.
use Rattle.std.proofs.Common.{◌≡◌, ◌≤◌, ◌<◌, ℕ, zero, suc, ◌+◌, ◌-◌, List, [], ◌∷◌, ◌++◌, map, None, ap, arith}
use Rattle.std.specs.List.{AllByRecursion}
use Rattle.spec_history.specs.declared.scripts.AdminAct.{AdminAct}
use Rattle.afs_num.specs.declared.messages.Reply.{Reply}
use Rattle.afs_num.specs.declared.messages.Reply.TheVariants as tell
use Rattle.afs_num.specs.declared.types.Code.{Code}
use Rattle.afs_num.specs.declared.volume_calls.ListedVolume.{ListedVolume}
use Rattle.afs_num.specs.declared.volume_calls.VolReply.TheVariants as volumes
use Rattle.spec_shape.specs.Tables.{IsServer}
use Rattle.spec_adminrows.specs.Asks.{all_servers, from_to}
use Rattle.spec_adminrows.specs.Surveying.{seen_by, survey_answered, survey_asks, survey_refused, surveyed, surveys, surveys_all}
use Rattle.spec_adminrows.specs.Turns.{is_superseded}
use Rattle.spec_adminrows.specs.declared.places.Hold.{Hold}
use Rattle.spec_adminrows.specs.declared.places.Purpose.{Purpose}
use Rattle.spec_adminrows.specs.declared.places.Purpose.TheVariants as purposes
use Rattle.spec_adminrows.specs.declared.places.Seen.{Seen}
use Rattle.spec_adminrows.specs.declared.turns.Errand.{Errand}
use Rattle.afs_adminparts.specs.Fitting.{AreServers, FitAllSeen, FitsHold, FitsPurpose, FitsSurvey, FitsTurn, IsSpelledAsk}
use Rattle.afs_adminparts.proofs.Kept.{either_fits}
use Rattle.afs_adminparts.proofs.Spelled.{server_node}

pub survey_spelled : (h : Hold) (s : ℕ) → IsServer s → IsSpelledAsk (survey_asks h s)
survey_spelled h s at_server = record { callee = server_node s at_server; call = (tt, tt) }

-- ---- the servers of the cell

servers_from : (n k : ℕ) → 1 ≤ n → n + k ≤ 9 → AreServers (from_to n k)
servers_from n zero low high = tt
servers_from n (suc k) low high = ((low, omega (arith, high)), servers_from (n + 1) k (omega (arith, low)) (omega (arith, high)))

pub cell_servers : (e : Errand) → e.servers ≤ 8 → AreServers (all_servers e)
cell_servers e few = servers_from 1 e.servers (omega arith) (omega (arith, few))

-- the next of them, and those behind it
pub next_server : (before servers : ℕ) → before < servers → from_to (before + 1) (servers - before) ≡ (before + 1) ∷ from_to (before + 1 + 1) (servers - (before + 1))
next_server before servers more = let one : servers - before ≡ suc (servers - (before + 1)) = omega (arith, more) in ap (from_to (before + 1)) one

-- ---- where a reply leads

surveyed_kept : (act : AdminAct) (h : Hold) (why : Purpose) (seen : List Seen) → FitsHold h → FitsPurpose why → FitAllSeen seen → FitsTurn act (surveyed h why seen)
surveyed_kept act h (purposes.Moves target) seen fits target_fits all = (fits, target_fits)
surveyed_kept act h purposes.Removes seen fits why_fits all = (fits, all)
surveyed_kept act h (purposes.Mends c) seen fits why_fits all = all

surveys_kept : (act : AdminAct) (h : Hold) (why : Purpose) (left : List ℕ) (seen : List Seen) → FitsHold h → FitsPurpose why → AreServers left → FitAllSeen seen → FitsTurn act (surveys h why left seen)
surveys_kept act h why [] seen fits why_fits servers all = surveyed_kept act h why seen fits why_fits all
surveys_kept act h why (s ∷ left) seen fits why_fits servers all = record { hold = fits; why = why_fits; server = servers.0; left = servers.1; seen = all }

pub surveys_all_kept : (act : AdminAct) (e : Errand) (h : Hold) (why : Purpose) → e.servers ≤ 8 → FitsHold h → FitsPurpose why → FitsTurn act (surveys_all e h why)
surveys_all_kept act e h why few fits why_fits = surveys_kept act h why (all_servers e) [] fits why_fits (cell_servers e few) tt

listed_fit : (s : ℕ) (seen : List Seen) (ls : List ListedVolume) → IsServer s → FitAllSeen seen → FitAllSeen (seen ++ map (seen_by s) ls)
listed_fit s [] [] at_server all = tt
listed_fit s [] (l ∷ ls) at_server all = (at_server, listed_fit s [] ls at_server tt)
listed_fit s (x ∷ seen) ls at_server all = (all.0, listed_fit s seen ls at_server all.1)

pub survey_kept : (act : AdminAct) (h : Hold) (why : Purpose) (s : ℕ) (left : List ℕ) (seen : List Seen) (reply : Reply) → FitsSurvey h why s left seen → FitsTurn act (survey_answered h why s left seen reply)
survey_kept act h why s left seen (tell.Volume (volumes.ListVols ls)) fits = surveys_kept act h why left (seen ++ map (seen_by s) ls) fits.hold fits.why fits.left (listed_fit s seen ls fits.server fits.seen)
survey_kept act h why s left seen reply fits = tt

-- ---- where a refusal leads

pub survey_refusal_kept : (act : AdminAct) (why : Purpose) (code : Code) → FitsTurn act (survey_refused why code)
survey_refusal_kept act (purposes.Moves target) code = either_fits act (is_superseded code) _ _ tt tt
survey_refusal_kept act purposes.Removes code = either_fits act (is_superseded code) _ _ tt tt
survey_refusal_kept act (purposes.Mends c) code = either_fits act (is_superseded code) _ _ tt tt
