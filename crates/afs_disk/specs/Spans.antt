-- How what was written over since the last sync is put back.
use Rattle.std.specs.Prelude.{◌≡◌, ◌≤◌, ℕ, ◌+◌, ◌-◌, List, [], ◌∷◌, take, drop, map}
use Rattle.afs_disk.specs.declared.medium.Span.{Span}
use Rattle.afs_disk.specs.Disk.{overwritten}

-- the bytes as they were before these writes, the oldest first: what each wrote over stands in the saved bytes
abbrev pub unwound : List Span → List ℕ → List ℕ → List ℕ
unwound [] saved bytes = bytes
unwound (span ∷ spans) saved bytes = overwritten span.at (take span.over saved) (unwound spans (drop span.over saved) bytes)

-- the saved bytes are those of these writes, and each lies within so many bytes
abbrev pub Fit : List Span → ℕ → ℕ → Type 0
Fit [] saved size = saved ≡ 0
Fit (span ∷ spans) saved size = (span.over ≤ saved) × (span.at + span.over ≤ size) × Fit spans (saved - span.over) size

abbrev pub ranges : List Span → List (ℕ × ℕ)
ranges spans = map (λ span. (span.at, span.len)) spans
