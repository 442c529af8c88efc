-- The items of a list that mostly has one, as they are kept.
use Rattle.std.specs.Prelude.{List}
use Rattle.afs_callees.specs.declared.few.OneOrAll.{OneOrAll}
use Rattle.afs_callees.specs.declared.few.OneOrAll.TheVariants.{One, All}

abbrev pub items_in : {T : Type 0} → OneOrAll T → List T
items_in (One xs) = xs
items_in (All xs) = xs
