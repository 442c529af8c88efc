-- Clones: a volume with all that another one has, under a name and a kind of its own.
use Rattle.std.specs.Prelude.{ℕ, ◌+◌, List, false}
use Rattle.spec_records.specs.Durable.{Stored}

-- a clone's release number: that of the volume, which is raised by one
abbrev pub next_release : Stored → ℕ
next_release s = s.volume.release + 1

-- A clone has all vnodes of the volume as they are, with their times. Its flags are 0, so it isn't new.
abbrev pub cloned : List ℕ → ℕ → ℕ → Stored → Stored
cloned name kind release s = record s { volume = record s.volume { name = name; kind = kind; flags = 0; release = release }; is_new = false }

-- A clone that is made anew from the volume keeps its own name, kind and flags.
abbrev pub recloned : Stored → ℕ → Stored → Stored
recloned clone release s = record s {
  volume = record s.volume { name = clone.volume.name; kind = clone.volume.kind; flags = clone.volume.flags; release = release };
  is_new = clone.is_new;
}
