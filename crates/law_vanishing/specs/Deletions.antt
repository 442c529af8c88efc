-- How a read-write volume is deleted while its server goes on: by a call of an administrator. And where the location database has it then.
use Rattle.std.specs.Prelude.{◌≡◌, ◌⊎◌, ◌≤◌, ⊤, ℕ, List, Some, None, true}
use Rattle.spec_history.specs.declared.scripts.Script.{Script}
use Rattle.spec_model.specs.Calls.{admitted}
use Rattle.spec_model.specs.Calls as pairs
use Rattle.afs_num.specs.declared.messages.Call.TheVariants as ask
use Rattle.afs_num.specs.declared.messages.Carried.TheVariants as carried
use Rattle.afs_num.specs.declared.messages.Message.{Message}
use Rattle.afs_num.specs.declared.types.Node.TheVariants.{Admin, Server}
use Rattle.afs_num.specs.declared.volume_calls.VolCall.TheVariants as calls
use Rattle.spec_rows.specs.Runs.{message_at}
use Rattle.spec_volrows.specs.VolLaws.{stamp_at}
use Rattle.spec_volrows.specs.VolRow.{found}
use Rattle.spec_volrows.specs.VolStates.{Transaction}
use Rattle.spec_adminrows.specs.declared.places.Creating.TheVariants as creating
use Rattle.spec_adminrows.specs.declared.places.Place.{Place}
use Rattle.spec_adminrows.specs.declared.places.Place.TheVariants as places
use Rattle.spec_runs.specs.NodeRuns.{has_host, node_start, CellInput, NodeCell}
use Rattle.law_places.specs.Accepting.{cell_behind}
use Rattle.law_courses.specs.Courses.{course_in}
use Rattle.law_families.specs.Enables.{IsCutIn}
use Rattle.law_numbers.specs.Numbers.{IsNumbered}
use Rattle.law_one_server.specs.Knows.{listed_site}

-- ---- a call that deletes a read-write volume

-- A message that was sent to the server asks to delete, in a transaction of the volume's own family. It would run there now: the server is up, or
-- begins again behind this very message. It finds the transaction that it names, on the volume itself, and its stamp is the one that the server
-- has stored for the family.
pub record IsDelete (c : NodeCell) (server volume : ℕ) : Type 0 where
  pub host : has_host c server ≡ true
  pub place : ℕ
  pub m : Message
  pub sent : message_at c.sent place ≡ Some m
  pub to : m.head.to ≡ Server server
  pub user : List ℕ
  pub number : ℕ
  pub asks : m.carried ≡ carried.Call user (ask.Volume (calls.DeleteVolume volume number))
  pub live : ((c.hosts server).down ≡ None) ⊎ IsCutIn c server m
  pub runs : admitted (c.hosts server).state.file.lasting.boot (c.hosts server).state.vol.seats m.head ≡ pairs.runs
  pub t : Transaction
  pub there : found volume number (c.hosts server).state.vol.transactions ≡ Some t
  pub on : t.volume ≡ volume
  pub stored : stamp_at (c.hosts server).state.file volume ≡ m.head.stamp

-- ---- acts that let their volume go

-- A creation whose entry was refused deletes what it made.
abbrev pub LetsGo : Place → Type 0
LetsGo (places.Creates f (creating.Scrapped v code t)) = ⊤
LetsGo p = ⊥

-- the act of an administrator by which it was asked is one of these
pub record IsLetGo (s : Script) (inputs : List CellInput) (m : Message) : Type 0 where
  pub admin : ℕ
  pub from : m.head.from ≡ Admin admin
  pub lets : LetsGo (course_in s inputs admin m.head.epoch m.head.number).place

-- So it is in every run of every script that has a server, and whose volumes are numbered one after the other: where a read-write volume is
-- deleted by a call of a move, a removal, a recovery or a release, however late the call comes, the location database doesn't name that server
-- of it. Behind a removal it has no entry of the volume at all.
abbrev pub DeletedElsewhere : Type 0
DeletedElsewhere = (s : Script) (inputs : List CellInput) (server volume : ℕ) → IsNumbered s → 1 ≤ s.servers → (x : IsDelete (cell_behind (node_start s) inputs) server volume) →
    IsLetGo s inputs x.m ⊎ (listed_site (cell_behind (node_start s) inputs) volume ≡ Some server → ⊥)
