-- What an unanswered call asks for, and what its reply does with the act.
use Rattle.std.specs.Prelude.{◌≡◌, ℕ, List, [], ◌∷◌, ◌++◌, Bool, true, false, not, Option, Some, None, map, filter, if◌then◌else◌}
use Rattle.std.specs.List.{list_any}
use Rattle.afs_num.specs.declared.types.Node.{Node}
use Rattle.afs_num.specs.declared.types.Fid.{Fid}
use Rattle.afs_num.specs.declared.types.Head.{Head}
use Rattle.afs_num.specs.declared.messages.Reply.{Reply}
use Rattle.afs_num.specs.declared.messages.Reply.TheVariants as tell
use Rattle.afs_num.specs.declared.calls.AfsFetchStatus.{AfsFetchStatus}
use Rattle.afs_num.specs.declared.calls.FsCall.{FsCall}
use Rattle.afs_num.specs.declared.histories.ReadBody.TheVariants as seen
use Rattle.afs_num.specs.declared.histories.ReadSource.TheVariants.{Fetched}
use Rattle.spec_rows.specs.States.{CacheEntry}
use Rattle.spec_rows.specs.Going.{ClientState, Going, with_read}
use Rattle.spec_rows.specs.ClientRow.{call_of, calls_again, dropped, with_given, goes_on, ignores, is_awaited, is_older, is_trusted, look_at, looked, put_entries, put_entry, read_lines, status_look, not_walked, takes_plain, takes_status, with_statuses}
use Rattle.spec_rows.specs.Steps.{Step}
use Rattle.afs_cache.specs.Managing.{hears_reply}
pub use Rattle.afs_asking.specs.Wanted.{body_wanted, bytes_stored, fields_stored, is_gift, rights_wanted, status_wanted, statuses_wanted}

-- ---- calls

-- the unanswered call
abbrev pub call_asked : ClientState → Option Going → Option FsCall
call_asked c None = None
call_asked c (Some act) = Some (call_of c act)

-- what it asks for
abbrev pub wanted_of : {A : Type 0} → (FsCall → Option A) → Option FsCall → Option A
wanted_of f None = None
wanted_of f (Some call) = f call

abbrev pub holds_of : (FsCall → Bool) → Option FsCall → Bool
holds_of f None = false
holds_of f (Some call) = f call

-- whether it is answered by a message with this header
abbrev pub awaited_by : ClientState → Head → Option Going → Bool
awaited_by c head None = false
awaited_by c head (Some act) = is_awaited c act head

-- a reply to it
abbrev pub counts_reply : Node → ClientState → ℕ → ℕ → Going → Reply → Step ClientState
counts_reply me c clock place act (tell.File reply) = hears_reply me c clock place act reply
counts_reply me c clock place act reply = ignores c place

-- ---- what was stored

abbrev pub fields_by : Node → ClientState → ℕ → ℕ → AfsFetchStatus → FsCall → Option Fid → Step ClientState
fields_by me c clock place status call None = takes_plain me c place call
fields_by me c clock place status call (Some fid) = takes_status me c clock place fid status call

-- a status or rights were stored, or nothing that the cache shows
abbrev pub takes_fields : Node → ClientState → ℕ → ℕ → AfsFetchStatus → FsCall → Step ClientState
takes_fields me c clock place status call = fields_by me c clock place status call (fields_stored call)

-- ---- replies that show no body: with what they show the act needs nothing from the cache

abbrev pub shows_status : Node → ClientState → ℕ → ℕ → Going → CacheEntry → Step ClientState
shows_status me c clock place act entry =
    if is_trusted clock entry then goes_on me c (read_lines me place (look_at Fetched entry (seen.Status entry.status))) (not_walked (with_read entry.fid (seen.Status entry.status) act) (put_entry c.capacity entry c.cache))
    else calls_again me c place act

abbrev pub shows_statuses : Node → ClientState → ℕ → ℕ → Going → List CacheEntry → Step ClientState
shows_statuses me c clock place act entries =
    if list_any (λ e. not (is_trusted clock e)) entries then calls_again me c place act
    else goes_on me c (λ ls. with_given place (looked me (map status_look entries) ls)) (not_walked (with_statuses entries act) (put_entries c.capacity entries c.cache))

abbrev pub shows_rights : Node → ClientState → ℕ → Going → Fid → ℕ → ℕ → List ℕ → Step ClientState
shows_rights me c place act fid index release text =
    goes_on me c (λ ls. read_lines me place (record { fid = fid; index = index; source = Fetched; body = seen.AccessList text }) (dropped me (filter (is_older fid index release) c.cache) ls))
    (not_walked (with_read fid (seen.AccessList text) act) (filter (λ e. not (is_older fid index release e)) c.cache))
