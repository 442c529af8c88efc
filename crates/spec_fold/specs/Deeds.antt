-- What a volume server's records do to what the server keeps on its disk: volumes are made, cloned, restored, flagged, forwarded and
-- deleted, and stamps are raised.
use Rattle.std.specs.Prelude.{ℕ, List, [], ◌∷◌, length, Bool, true, false, not, ◌&&◌, ◌||◌, Option, Some, None, Result, Ok, Err, is_some, nat_eq, nat_lt}
use Rattle.afs_num.specs.declared.records.RecordBody.{RecordBody}
use Rattle.afs_num.specs.declared.records.RecordBody.TheVariants as bodies
use Rattle.spec_ideal.specs.SetUp.{new_volume}
use Rattle.spec_ideal.specs.Tables.{get, set, unset}
use Rattle.spec_records.specs.Durable.{Stored, Durable, most_volumes}
use Rattle.spec_dumps.specs.Clones.{cloned, recloned}
use Rattle.spec_dumps.specs.Restores.{restored_from}
use Rattle.spec_dumps.specs.Streams.{is_ok}

-- ---- which of them can be taken

-- one more volume may be made
abbrev pub has_volume_room : Durable → Bool
has_volume_room d = nat_lt (length d.volumes) most_volumes

abbrev pub has_volume : ℕ → Durable → Bool
has_volume id d = is_some (get id d.volumes)

-- the dump makes a sound volume of this one
abbrev pub can_restore : ℕ → List ℕ → Option Stored → Bool
can_restore id dump None = false
can_restore id dump (Some s) = is_ok (restored_from id s dump)

-- Each names a volume that is there, but for one that is made: a new one is not there, and a clone may be, which is then made anew. A
-- stamp alone can always be taken. The records of set-up, of changes and of starts are none of these.
abbrev pub can_take : RecordBody → Durable → Bool
can_take (bodies.Create id family name kind flags quota is_new) d = not (has_volume id d) && has_volume_room d
can_take (bodies.Delete id) d = has_volume id d
can_take (bodies.Clone source id name kind release) d = has_volume source d && (has_volume id d || has_volume_room d)
can_take (bodies.Restore id dump) d = can_restore id dump (get id d.volumes)
can_take (bodies.Flags id flags) d = has_volume id d
can_take (bodies.Forward id to) d = has_volume id d
can_take bodies.Stamp d = true
can_take body d = false

-- ---- what they do

-- the volume of this number is changed
abbrev pub on_stored : ℕ → (Stored → Stored) → Option Stored → Durable → Durable
on_stored id change None d = d
on_stored id change (Some s) d = record d { volumes = set id (change s) d.volumes }

-- a volume that is made where none is: a forwarding of its number is forgotten
abbrev pub one_more_volume : ℕ → Stored → Durable → Durable
one_more_volume id s d = record d { volumes = set id s d.volumes; forwardings = unset id d.forwardings }

-- a volume with its root alone, at time 0
abbrev pub created : ℕ → List ℕ → ℕ → ℕ → ℕ → Bool → Stored
created family name kind flags quota is_new =
    record { volume = new_volume family name kind flags quota; times = (1, 0) ∷ []; is_new = is_new }

-- the volume of which a clone is made has the clone's release, too
abbrev pub with_release : ℕ → Stored → Stored
with_release release s = record s { volume = record s.volume { release = release } }

-- a clone of this volume; where a volume has the clone's number, that one is made anew
abbrev pub clone_put : ℕ → ℕ → List ℕ → ℕ → ℕ → Stored → Option Stored → Durable → Durable
clone_put source id name kind release s None d =
    one_more_volume id (cloned name kind release s) (record d { volumes = set source (with_release release s) d.volumes })
clone_put source id name kind release s (Some old) d =
    record d { volumes = set id (recloned old release s) (set source (with_release release s) d.volumes) }

abbrev pub clone_made : ℕ → ℕ → List ℕ → ℕ → ℕ → Option Stored → Durable → Durable
clone_made source id name kind release None d = d
clone_made source id name kind release (Some s) d = clone_put source id name kind release s (get id d.volumes) d

abbrev pub or_as_was : {E : Type 0} → Stored → Result Stored E → Stored
or_as_was {E} s (Ok t) = t
or_as_was {E} s (Err e) = s

-- a volume whose flags were 0 once isn't new any more
abbrev pub flagged : ℕ → Stored → Stored
flagged flags s = record s { volume = record s.volume { flags = flags }; is_new = not (nat_eq flags 0) && s.is_new }

-- of a record that can be taken
abbrev pub done_by : RecordBody → Durable → Durable
done_by (bodies.Create id family name kind flags quota is_new) d = one_more_volume id (created family name kind flags quota is_new) d
done_by (bodies.Delete id) d = record d { volumes = unset id d.volumes }
done_by (bodies.Clone source id name kind release) d = clone_made source id name kind release (get source d.volumes) d
done_by (bodies.Restore id dump) d = on_stored id (λ s. or_as_was s (restored_from id s dump)) (get id d.volumes) d
done_by (bodies.Flags id flags) d = on_stored id (flagged flags) (get id d.volumes) d
done_by (bodies.Forward id to) d = record d { forwardings = set id to d.forwardings }
done_by body d = d
