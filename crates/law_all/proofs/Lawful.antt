-- Every run is lawful, as each law says it for itself.
use Rattle.law_answers.proofs.Walk.{have_causes}
use Rattle.law_one_server.proofs.AcceptsAtOne.{accepts_at_one}
use Rattle.law_one_server.proofs.AcceptsInRuns.{closed}
use Rattle.law_enabling.proofs.Alone.{enabled_alone}
use Rattle.law_stamp_owners.proofs.Walk.{have_owners}
use Rattle.law_changed.proofs.Walk.{changes_made}
use Rattle.law_idle.proofs.Shut.{idle_ends, idle_legal}
use Rattle.law_keys.proofs.Walk.{in_order}
use Rattle.law_latest.proofs.Order.{changes_later}
use Rattle.law_once.proofs.OnceTold.{changes_once}
use Rattle.law_new_volumes.proofs.GivenOnce.{given_once}
use Rattle.law_new_volumes.proofs.MadeOnce.{made_once}
use Rattle.law_owed.proofs.Walk.{quits_late}
use Rattle.law_replies.proofs.Walk.{answers_heard, replies_decided}
use Rattle.law_places.proofs.Walk.{accepted_as_told, lines_stand_well}
use Rattle.law_settled.proofs.SettleWalk.{settles_follow}
use Rattle.law_in_service.proofs.Ending.{are_recovered, end_in_service}
use Rattle.spec_runs.proofs.Plain.{node_runs_end, node_runs_legal}
use Rattle.law_stamps.proofs.ToldWalk.{entries_are_told}
use Rattle.law_stored_stamps.proofs.OldCalls.{past_vain}
use Rattle.law_stored_stamps.proofs.Asked.{surveys_stored}
use Rattle.law_vanishing.proofs.Deleting.{deleted_elsewhere}
use Rattle.law_vanishing.proofs.Vanished.{vanish_elsewhere}
use Rattle.law_walks.proofs.Senders.{senders_are_told}
use Rattle.law_all.specs.Lawful.{RunsAreLawful}

pub lawful : RunsAreLawful
lawful s in_cell numbered some inputs history end leads = record {
  accepted = accepted_as_told s inputs history end leads;
  stand = lines_stand_well s inputs history end leads;
  alone = accepts_at_one closed s inputs history end numbered some leads;
  enabled = enabled_alone closed s inputs history end numbered some leads;
  ended = end_in_service s inputs numbered some;
  recovered = are_recovered s inputs history end numbered some leads;
  vanishes = vanish_elsewhere deleted_elsewhere s inputs history end numbered some leads;
  locked = entries_are_told.locks s inputs history end leads;
  located = entries_are_told.sites s inputs history end leads;
  numbers = given_once s inputs history end leads;
  entries = made_once s inputs numbered;
  senders = senders_are_told s inputs history end leads;
  owners = have_owners s inputs history end leads;
  once = in_order s inputs;
  order = changes_later s inputs history end leads;
  fresh = changes_once s inputs history end leads;
  made = changes_made s inputs history end leads;
  quits = quits_late s inputs history end leads;
  decided = replies_decided s inputs;
  heard = answers_heard s inputs history end leads;
  settles = settles_follow s inputs history end leads;
  past = past_vain s inputs history end leads;
  surveyed = surveys_stored s inputs;
  caused = have_causes s inputs history end leads;
  legal = λ none. node_runs_legal s history end in_cell none (record { inputs = inputs; leads = leads });
  well = λ none. node_runs_end s history end in_cell none (record { inputs = inputs; leads = leads });
  idle = λ idle. idle_legal s history end in_cell idle (record { inputs = inputs; leads = leads });
  idle_well = λ idle. idle_ends s history end in_cell idle (record { inputs = inputs; leads = leads });
}
