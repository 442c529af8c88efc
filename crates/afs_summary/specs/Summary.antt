-- The summary of a run of the script that is made for a number.
use Rattle.std.specs.Prelude.{ℕ, List, ◌++◌, codes, length}
use Rattle.std.specs.Fmt.{decimal}
use Rattle.spec_history.specs.declared.lines.Entry as kept
use Rattle.spec_history.specs.declared.scripts.Script.{Script}
use Rattle.spec_rows.specs.Runs.{Entry}
use Rattle.afs_summary.specs.Counting.{counts_kept, counts_of}
use Rattle.afs_summary.specs.declared.summary.Summary.{Summary}

-- one line for each number, and then the end
unfoldable pub summary_text : Summary → List ℕ
summary_text s =
    codes "gen " ++ (decimal s.number ++ (codes "\nacts " ++ (decimal s.acts ++ (codes "\nentries " ++ (decimal s.counts.entries ++ (codes "\nsent " ++ (decimal s.counts.sent
    ++ (codes "\nchanges " ++ (decimal s.counts.changes ++ (codes "\nzero " ++ (decimal s.counts.zero ++ (codes "\nother " ++ (decimal s.counts.other ++ codes "\nend\n")))))))))))))

-- that of a history of this script, which was made for this number
abbrev pub summary : ℕ → Script → List Entry → List ℕ
summary n s history = summary_text (record { number = n; acts = length s.tasks; counts = counts_of history })

-- and of entries as the program keeps them
abbrev pub kept_summary : ℕ → Script → List kept.Entry → List ℕ
kept_summary n s entries = summary_text (record { number = n; acts = length s.tasks; counts = counts_kept entries })
