-- What is given back stays dropped, in whatever order it is told.
use Rattle.law_legal.specs.Legal.{AreDropped, HasDropped}
use Rattle.std.proofs.Common.{ℕ, ◌+◌, Bool, true, false, cond, List, [], ◌∷◌, ◌++◌}
use Rattle.std.specs.List.{flat_map}
use Rattle.afs_num.specs.Nodes.{same_node}
use Rattle.afs_num.specs.declared.types.Node.{Node}
use Rattle.afs_num.specs.declared.types.Node.TheVariants.{Server}
use Rattle.spec_history.specs.declared.lines.Line.{Line}
use Rattle.spec_rows.specs.ClientRow.{gifts_to, in_order}
use Rattle.spec_rows.specs.States.{Gift}
use Rattle.law_legal.proofs.BaseWords.{fids_of_gifts}

-- ---- the step

both_dropped : (c : Node) (a b : List Gift) (ls : List Line) → AreDropped c (fids_of_gifts a) ls → AreDropped c (fids_of_gifts b) ls → AreDropped c (fids_of_gifts (a ++ b)) ls
both_dropped c [] b ls h k = k
both_dropped c (g ∷ a) b ls h k = (h.0, both_dropped c a b ls h.1 k)

dropped_if : (t : Bool) (c : Node) (g : Gift) (gs : List Gift) (ls : List Line) → HasDropped c g.fid ls → AreDropped c (fids_of_gifts gs) ls → AreDropped c (fids_of_gifts (cond t (g ∷ gs) gs)) ls
dropped_if true c g gs ls h k = (h, k)
dropped_if false c g gs ls h k = k

dropped_to : (c : Node) (gs : List Gift) (k : ℕ) (ls : List Line) → AreDropped c (fids_of_gifts gs) ls → AreDropped c (fids_of_gifts (gifts_to gs k)) ls
dropped_to c [] k ls h = tt
dropped_to c (g ∷ gs) k ls h = dropped_if (same_node g.server (Server k)) c g (gifts_to gs k) ls h.0 (dropped_to c gs k ls h.1)

dropped_all : (c : Node) (gs : List Gift) (ns : List ℕ) (ls : List Line) → AreDropped c (fids_of_gifts gs) ls → AreDropped c (fids_of_gifts (flat_map (gifts_to gs) ns)) ls
dropped_all c gs [] ls h = tt
dropped_all c gs (k ∷ ns) ls h = both_dropped c (gifts_to gs k) (flat_map (gifts_to gs) ns) ls (dropped_to c gs k ls h) (dropped_all c gs ns ls h)

pub ordered_dropped : (c : Node) (gs : List Gift) (ls : List Line) → AreDropped c (fids_of_gifts gs) ls → AreDropped c (fids_of_gifts (in_order gs)) ls
ordered_dropped c gs ls h = dropped_all c gs (1 ∷ 2 ∷ 3 ∷ 4 ∷ 5 ∷ 6 ∷ 7 ∷ 8 ∷ []) ls h
