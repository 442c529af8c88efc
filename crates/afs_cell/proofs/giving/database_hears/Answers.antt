use Rattle.afs_cell.proofs.giving.database_hears.Goals as goal

pub returns-in-Some : goal.returns-in-Some
returns-in-Some g c = λ clock place. record { happens = c.in-Some.ensures.happens clock place; goes = c.in-Some.ensures.goes; keeps = c.in-Some.ensures.keeps }

pub returns-in-None : goal.returns-in-None
returns-in-None g c = λ clock place. record {
  happens = c.in-None.ensures.happens clock place c.replace_with.new.dest c.replace_with.result c.replace_with.ensures;
  goes = c.in-None.ensures.goes c.replace_with.new.dest c.replace_with.result c.replace_with.ensures;
  keeps = c.in-None.ensures.keeps c.replace_with.new.dest c.replace_with.result c.replace_with.ensures;
}
