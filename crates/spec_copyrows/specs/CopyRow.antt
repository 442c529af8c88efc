-- The row of a client that reads read-only volumes and backups too: the row of a client, and around it to which site its calls go, and which
-- replies of a site are used. Where its act calls in no read-only volume, and the location database tells it nothing new, it is that row.
use Rattle.std.specs.Prelude.{ℕ, List, [], ◌∷◌, ◌++◌, Bool, true, false, not, ◌&&◌, ◌||◌, Option, Some, None, is_some, nat_eq, nat_lt, map, filter, if◌then◌else◌}
use Rattle.std.specs.List.{list_any}
use Rattle.spec_history.specs.declared.acts.Act.{Act}
use Rattle.spec_history.specs.declared.lines.Line.{Line}
use Rattle.spec_history.specs.declared.lines.Line.TheVariants as lines
use Rattle.spec_ideal.specs.Operations.{volume_changed}
use Rattle.spec_ideal.specs.Tables.{set}
use Rattle.afs_num.specs.declared.calls.AfsCallBack.{AfsCallBack}
use Rattle.afs_num.specs.declared.calls.FsReply.{FsReply}
use Rattle.afs_num.specs.declared.calls.FsReply.TheVariants as replies
use Rattle.afs_num.specs.declared.location_calls.LocEntry.{LocEntry}
use Rattle.afs_num.specs.declared.messages.Carried.{Carried}
use Rattle.afs_num.specs.declared.messages.Carried.TheVariants as carried
use Rattle.afs_num.specs.declared.messages.Message.{Message}
use Rattle.afs_num.specs.declared.messages.Received.{Received}
use Rattle.afs_num.specs.declared.messages.Received.TheVariants.{Whole}
use Rattle.afs_num.specs.declared.messages.Reply.TheVariants as tell
use Rattle.afs_num.specs.declared.types.Code.{Code}
use Rattle.afs_num.specs.declared.types.Node.{Node}
use Rattle.afs_num.specs.Nodes.{same_node}
use Rattle.spec_model.specs.Calls.{is_sent_again, last_timeout}
use Rattle.spec_rows.specs.ClientRow.{begin_row, call_of, dropped, entry_in, given_up_in, guest_row, has_location, is_awaited, is_busy_code, is_sought, is_spent, left_in, put_location, reborn, seek_timeout_row, timeout_line, timeout_row}
use Rattle.spec_rows.specs.Going.{filled, locates, next, ClientState, Going, Need, Seek}
use Rattle.spec_rows.specs.States.{CacheEntry, Location}
use Rattle.spec_rows.specs.Steps.{Step}
use Rattle.spec_copyrows.specs.Sites.{as_it_is, calls_round, leaves_site, new_copies, round_of, seen_of, sited, with_client, CopyState, Round}

-- an act begins, in no round
unfoldable pub copy_begin_row : Node → CopyState → ℕ → Act → Step CopyState
copy_begin_row me c clock act = sited me (record c { round = None }) (begin_row me c.client clock act)

-- ---- what the first site of a round answers

-- as the client's row has it
abbrev pub uses : Node → CopyState → ℕ → ℕ → Message → Step CopyState
uses me c clock place m = sited me c (guest_row me c.client clock place (Whole m))

-- the release in a reply to a reading call, and when its promises end
pub record Offer : Type 0 where
  pub release : ℕ
  pub expiries : List ℕ

abbrev pub expiry_in : AfsCallBack → ℕ
expiry_in c = c.expiration_time

abbrev pub offer_in : FsReply → Option Offer
offer_in (replies.FetchData contents status callback sync) = Some (record { release = sync.release; expiries = callback.expiration_time ∷ [] })
offer_in (replies.FetchStatus status callback sync) = Some (record { release = sync.release; expiries = callback.expiration_time ∷ [] })
offer_in (replies.BulkStatus statuses callbacks sync) = Some (record { release = sync.release; expiries = map expiry_in callbacks })
offer_in (replies.FetchAcl text status sync) = Some (record { release = sync.release; expiries = [] })
offer_in reply = None

-- the promise has ended by now
abbrev pub is_over : ℕ → ℕ → Bool
is_over clock expiry = not (nat_lt clock expiry)

-- a higher release than any seen of the volume: its entries of lower ones go, before the reply is used
abbrev pub is_below_release : ℕ → ℕ → CacheEntry → Bool
is_below_release id n e = nat_eq e.fid.volume id && nat_lt e.release n

abbrev pub without_older : CopyState → ℕ → ℕ → CopyState
without_older c id n = record c {
  client = record c.client { cache = filter (λ (e : CacheEntry). not (is_below_release id n e)) c.client.cache };
  seen = set id n c.seen;
}

-- these lines stand behind the one that the message was given
abbrev pub behind_given : List Line → List Line → List Line
behind_given drops [] = drops
behind_given drops (l ∷ ls) = l ∷ (drops ++ ls)

abbrev pub dropping : Node → List CacheEntry → Step ClientState → Step ClientState
dropping me entries s = record s { lines = behind_given (dropped me entries []) s.lines }

abbrev pub uses_newer : Node → CopyState → ℕ → ℕ → Message → ℕ → ℕ → Step CopyState
uses_newer me c clock place m id n =
    sited me (without_older c id n) (dropping me (filter (is_below_release id n) c.client.cache) (guest_row me (without_older c id n).client clock place (Whole m)))

-- a release below the highest seen isn't used, and the site is left
abbrev pub by_release : Node → CopyState → ℕ → ℕ → Message → Going → Round → ℕ → Step CopyState
by_release me c clock place m act r n =
    if nat_lt n (seen_of c r.volume) then leaves_site me c act (record r { offered = Some n }) (lines.Given place ∷ [])
    else (if nat_lt (seen_of c r.volume) n then uses_newer me c clock place m r.volume n else uses me c clock place m)

-- the same site is called again
abbrev pub asks_again : Node → CopyState → ℕ → Going → Round → Step CopyState
asks_again me c place act r = calls_round me c act r (lines.Given place ∷ [])

-- First it is looked whether a break overtook it, then whether a promise in it has ended. In both cases the same site is called again.
abbrev pub offers : Node → CopyState → ℕ → ℕ → Message → Going → Round → Option Offer → Step CopyState
offers me c clock place m act r None = uses me c clock place m
offers me c clock place m act r (Some o) = if (is_spent c.client act || list_any (is_over clock) o.expiries) then asks_again me c place act r else by_release me c clock place m act r o.release

-- Any refusal but 106 and 110 leads to the next site. Where a break overtook the reply to a reading call the same site is called again.
abbrev pub refuses_at : Node → CopyState → ℕ → ℕ → Message → Going → Round → Code → Step CopyState
refuses_at me c clock place m act r code =
    if (is_busy_code code || is_spent c.client act) then uses me c clock place m else leaves_site me c act (record r { refusal = Some code }) (lines.Given place ∷ [])

abbrev pub answers_at : Node → CopyState → ℕ → ℕ → Message → Going → Round → Carried → Step CopyState
answers_at me c clock place m act r (carried.Refusal code) = refuses_at me c clock place m act r code
answers_at me c clock place m act r (carried.Reply (tell.File reply)) = offers me c clock place m act r (offer_in reply)
answers_at me c clock place m act r x = uses me c clock place m

abbrev pub answers_in : Node → CopyState → ℕ → ℕ → Message → Going → Option Round → Step CopyState
answers_in me c clock place m act None = uses me c clock place m
answers_in me c clock place m act (Some r) = answers_at me c clock place m act r m.carried

abbrev pub answers_to : Node → CopyState → ℕ → ℕ → Message → Option Going → Step CopyState
answers_to me c clock place m None = uses me c clock place m
answers_to me c clock place m (Some act) = if (same_node m.head.to me && is_awaited c.client act m.head) then answers_in me c clock place m act (round_of c act) else uses me c clock place m

-- ---- the location database tells an entry that is new to the table: then the volume of an act's second operand is looked up in the table with
-- that entry, unless the act has begun to walk there

abbrev pub without_second : Going → Going
without_second act = record act { homes = record act.homes { second = None } }

abbrev pub is_location : Need → Bool
is_location (locates o) = true
is_location need = false

-- whether the act walks its second operand: the number of its first is known, and without that of the second the act would ask for it
abbrev pub walks_second : Going → Bool
walks_second act = is_some act.homes.first && is_location (next (without_second act))

abbrev pub forgotten : Going → Going
forgotten act = if walks_second act then act else without_second act

abbrev pub renewed : List Location → Seek → Seek
renewed table s = record s { act = filled table (forgotten s.act) }

abbrev pub renewing : ClientState → Seek → Option LocEntry → ClientState
renewing k s None = k
renewing k s (Some e) = record k { seeking = Some (renewed (put_location e k.table) s) }

abbrev pub entry_told : Carried → Option LocEntry
entry_told (carried.Reply (tell.Location reply)) = entry_in reply
entry_told x = None

abbrev pub is_new_entry : List Location → Option LocEntry → Bool
is_new_entry table None = false
is_new_entry table (Some e) = not (has_location e table)

abbrev pub tells_new : Node → ClientState → Message → Seek → Bool
tells_new me k m s = is_sought me k s m.head m.carried && is_new_entry k.table (entry_told m.carried)

abbrev pub hears_by : Node → CopyState → ℕ → ℕ → Message → Option Seek → Step CopyState
hears_by me c clock place m None = answers_to me c clock place m c.client.running
hears_by me c clock place m (Some s) = if tells_new me c.client m s then uses me (with_client c (renewing c.client s (entry_told m.carried))) clock place m else uses me c clock place m

-- the client `me`, given the message of this place
unfoldable pub copy_row : Node → CopyState → ℕ → ℕ → Received → Step CopyState
copy_row me c clock place (Whole m) = hears_by me c clock place m c.client.seeking
copy_row me c clock place r = sited me c (guest_row me c.client clock place r)

-- ---- its call is timed out: a dead one leads to the next site, and where it may have changed something, the volume's entries go first

abbrev pub dies_at : Node → CopyState → Going → Round → Step CopyState
dies_at me c act r =
    leaves_site me (with_client c (record c.client { cache = left_in (volume_changed (call_of c.client act)) c.client.cache })) act r
    (timeout_line me c.client last_timeout ∷ dropped me (given_up_in (volume_changed (call_of c.client act)) c.client.cache) [])

abbrev pub times_out : Node → CopyState → Going → Option Round → Step CopyState
times_out me c act None = as_it_is c (timeout_row me c.client act)
times_out me c act (Some r) = if is_sent_again c.client.tries then as_it_is c (timeout_row me c.client act) else dies_at me c act r

unfoldable pub copy_timeout_row : Node → CopyState → Going → Step CopyState
copy_timeout_row me c act = times_out me c act (round_of c act)

-- or its call to the location database
abbrev pub copy_seek_row : Node → CopyState → Seek → Step CopyState
copy_seek_row me c s = as_it_is c (seek_timeout_row me c.client s)

-- ---- it begins again, with this table, and has seen no release

abbrev pub copies_reborn : List Location → CopyState → CopyState
copies_reborn table c = new_copies (reborn table c.client)
