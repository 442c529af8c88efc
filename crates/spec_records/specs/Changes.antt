-- The records that a server makes: of set-up, of a change, of a start.
use Rattle.std.specs.Prelude.{ℕ, ◌+◌, List, [], ◌∷◌, ◌++◌, length, map, Bool, false, ◌&&◌, Option, Some, None, Result, Ok, Err, nat_lt}
use Rattle.std.specs.Option.{option_map}
use Rattle.afs_num.specs.declared.types.Key.{Key}
use Rattle.afs_num.specs.declared.volumes.VolumeHead.{VolumeHead}
use Rattle.spec_history.specs.declared.scripts.SetupLine.{SetupLine}
use Rattle.spec_history.specs.declared.scripts.VolumeLine.{VolumeLine}
use Rattle.spec_shape.specs.Taking.{◌>>=◌}
use Rattle.spec_ideal.specs.Tables.{Table, get, set, unset}
use Rattle.spec_ideal.specs.Images.{Image, image_of}
use Rattle.spec_ideal.specs.Volumes.{Vnode, Volume, Edit, edit_number, edited_all, counted}
use Rattle.spec_ideal.specs.Operations.{last_count}
use Rattle.spec_ideal.specs.SetUp.{empty_volume, laid}
use Rattle.afs_num.specs.declared.records.RecordHead.{RecordHead}
use Rattle.afs_num.specs.declared.records.StoredVolume.{StoredVolume}
use Rattle.afs_num.specs.declared.records.RecordBody.TheVariants as bodies
use Rattle.afs_num.specs.declared.records.StoreRecord.{StoreRecord}
use Rattle.spec_records.specs.Records.{record_bytes}
use Rattle.spec_records.specs.Durable.{Stored, Durable, or_zero, has_room}

-- ---- heads

-- no stamp is raised, no reply kept
abbrev pub no_head : RecordHead
no_head = record { family = 0; stamp = 0; caller = None; epoch = 0; number = 0; reply = [] }

-- the reply to the call of this key, as its whole message
abbrev pub keeping : Key → List ℕ → RecordHead
keeping k reply = record no_head { caller = Some k.node; epoch = k.epoch; number = k.number; reply = reply }

-- ---- a change, made from the edits of an operation

-- each vnode that was edited, as it is after the change, at this time
abbrev pub image_left : ℕ → ℕ → Option Vnode → List Image
image_left time n None = []
image_left time n (Some x) = image_of n time x ∷ []

abbrev pub images_left : ℕ → List Edit → Volume → List Image
images_left time [] after = []
images_left time (e ∷ es) after = image_left time (edit_number e) (get (edit_number e) after.vnodes) ++ images_left time es after

-- the numbers of those that went
abbrev pub gone_between : ℕ → Option Vnode → Option Vnode → List ℕ
gone_between n (Some x) None = n ∷ []
gone_between n before after = []

abbrev pub numbers_gone : List Edit → Volume → Volume → List ℕ
numbers_gone [] before after = []
numbers_gone (e ∷ es) before after =
    gone_between (edit_number e) (get (edit_number e) before.vnodes) (get (edit_number e) after.vnodes) ++ numbers_gone es before after

abbrev pub record_between : RecordHead → ℕ → ℕ → List Edit → Volume → Volume → StoreRecord
record_between head id time es before after =
    record { head = head; body = bodies.Change id after.counter after.next (images_left time es after) (numbers_gone es before after) }

-- of edits in the volume of this number, at this time
abbrev pub change_record : RecordHead → ℕ → ℕ → List Edit → Volume → StoreRecord
change_record head id time es v = record_between head id time es v (counted (edited_all id es v))

abbrev pub change_length : RecordHead → ℕ → List Edit → Volume → ℕ
change_length head id es v = length (record_bytes (change_record head id 0 es v))

-- when each vnode was changed last, after the change
abbrev pub set_times : List Image → Table ℕ → Table ℕ
set_times [] t = t
set_times (i ∷ is) t = set_times is (set i.vnode i.server_time t)

abbrev pub unset_times : List ℕ → Table ℕ → Table ℕ
unset_times [] t = t
unset_times (n ∷ ns) t = unset_times ns (unset n t)

-- the volume after the change, and what stands beside it
abbrev pub stored_between : ℕ → List Edit → Volume → Stored → Stored
stored_between time es after s = record s {
  volume = after;
  times = unset_times (numbers_gone es s.volume after) (set_times (images_left time es after) s.times);
}

abbrev pub stored_after : ℕ → ℕ → List Edit → Stored → Stored
stored_after id time es s = stored_between time es (counted (edited_all id es s.volume)) s

-- ---- a start

abbrev pub boot_record : ℕ → StoreRecord
boot_record boot = record { head = no_head; body = bodies.Boot boot }

-- The next boot number fits: it is a word, and there is room for its record.
abbrev pub can_boot : Durable → Bool
can_boot d = nat_lt d.boot last_count && has_room d (boot_record (d.boot + 1))

-- ---- set-up

abbrev pub images_of : Stored → List Image
images_of s = map (λ (p : ℕ × Vnode). image_of p.0 (or_zero (get p.0 s.times)) p.1) s.volume.vnodes

abbrev pub volume_head : ℕ → Volume → VolumeHead
volume_head id v = record {
  id = id;
  family = v.family;
  name = v.name;
  kind = v.kind;
  flags = v.flags;
  quota = v.quota;
  unique = v.next;
  counter = v.counter;
  release = v.release;
}

abbrev pub stored_volume : ℕ → Stored → StoredVolume
stored_volume id s = record { head = volume_head id s.volume; vnodes = images_of s }

abbrev pub accepted : {A : Type 0} → Result A ℕ → Option A
accepted {A} (Ok x) = Some x
accepted {A} (Err code) = None

-- all lines of set-up, in order
abbrev pub laid_all : ℕ → List SetupLine → Volume → Option Volume
laid_all id [] v = Some v
laid_all id (l ∷ ls) v = accepted (laid id l v) >>= laid_all id ls

abbrev pub volume_laid : VolumeLine → Option Volume
volume_laid l = laid_all l.id l.lines (empty_volume l)

-- all times are 0, before the clock's first tick
abbrev pub at_set_up : Volume → Stored
at_set_up v = record { volume = v; times = map (λ (p : ℕ × Vnode). (p.0, 0)) v.vnodes; is_new = false }

-- the volumes of one server, by their numbers
abbrev pub volumes_laid : List VolumeLine → Table Stored → Option (Table Stored)
volumes_laid [] t = Some t
volumes_laid (l ∷ ls) t = volume_laid l >>= λ v. volumes_laid ls (set l.id (at_set_up v) t)

abbrev pub record_of_volumes : Table Stored → StoreRecord
record_of_volumes t = record { head = no_head; body = bodies.First (map (λ (p : ℕ × Stored). stored_volume p.0 p.1) t) }

-- None where set-up refuses a line
abbrev pub first_record : List VolumeLine → Option StoreRecord
first_record ls = volumes_laid ls [] >>= λ t. Some (record_of_volumes t)

abbrev pub first_length : List VolumeLine → Option ℕ
first_length ls = option_map (λ (r : StoreRecord). length (record_bytes r)) (first_record ls)
