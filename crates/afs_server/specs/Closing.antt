-- With which code a file server refuses a call on a volume that it has, by the words that it finds.
use Rattle.std.specs.Prelude.{ℕ, Option, Some, None, nat_eq, if◌then◌else◌}
use Rattle.spec_volrows.specs.FileRow.{held_code, out_of_service}

-- what holds it: 0 where nothing does
abbrev pub code_held : ℕ → Option ℕ
code_held held = if nat_eq held 0 then None else held_code (Some held)

-- its flags, and what holds it
abbrev pub code_with : ℕ → ℕ → Option ℕ
code_with flags held = if nat_eq flags 0 then code_held held else Some out_of_service
