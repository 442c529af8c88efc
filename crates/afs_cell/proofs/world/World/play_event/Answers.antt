use Rattle.std.proofs.Common.{arith, sym, ◌∙◌}
use Rattle.afs_grammar.specs.CellScripts.{counts_of}
use Rattle.afs_cell.proofs.Clocks.{nothing_clock}
use Rattle.afs_cell.specs.Since.{whole}
use Rattle.afs_cell.proofs.DatabasePicked.{loc_picked_as}
use Rattle.afs_cell.proofs.Picked.{picked_as}
use Rattle.afs_cell.proofs.Meant.{as_admin, as_client, as_database, as_message, as_server, as_ticks, clock_ticks, some_ticks, ticks_within}
use Rattle.afs_cell.proofs.Since.{as_nothing_since, keeps_skipped, kept_place}
use Rattle.afs_cell.proofs.world.World.play_event.Goals as goal

pub returns-in-Nothing-clause-plays : goal.returns-in-Nothing-clause-plays
returns-in-Nothing-clause-plays g c = record {
  stepped = as_nothing_since g.D.Disk.seen g.D.Disk.may_leave g.D.Disk.faults g.D.Disk.limit c.args.self.now c.skip.new.self c.skip.result c.args.event c.requires.going c.requires.few c.in-Nothing.ensures.meant c.skip.ensures;
  keeps = keeps_skipped c.args.self.now c.skip.new.self c.skip.result c.skip.ensures;
  clock = omega (arith, nothing_clock c.args.self.now c.skip.new.self c.skip.result c.skip.ensures);
}

pub ask-requires-clause-inside : goal.ask-requires-clause-inside
ask-requires-clause-inside g c = c.in-Client.ensures.meant.inside (counts_of c.args.self.now.script) c.requires.fits

pub returns-in-Client-clause-plays : goal.returns-in-Client-clause-plays
returns-in-Client-clause-plays g c = record {
  stepped = λ before is safe. as_client g.D.Disk.seen g.D.Disk.may_leave g.D.Disk.faults g.D.Disk.limit (whole before c.args.self.now) (whole before c.ask.new.self) c.ask.result c.args.event c.in-Client.client c.in-Client.what c.in-Client.ensures.meant (c.ask.ensures.stepped before is safe);
  keeps = c.ask.ensures.keeps;
  clock = omega (arith, c.ask.ensures.clock);
}

pub order-requires-clause-inside : goal.order-requires-clause-inside
order-requires-clause-inside g c = c.in-Admin.ensures.meant.inside (counts_of c.args.self.now.script) c.requires.fits

pub returns-in-Admin-clause-plays : goal.returns-in-Admin-clause-plays
returns-in-Admin-clause-plays g c = record {
  stepped = λ before is safe. as_admin g.D.Disk.seen g.D.Disk.may_leave g.D.Disk.faults g.D.Disk.limit (whole before c.args.self.now) (whole before c.order.new.self) c.order.result c.args.event c.in-Admin.admin c.in-Admin.what c.in-Admin.ensures.meant (c.order.ensures.stepped before is safe);
  keeps = c.order.ensures.keeps;
  clock = omega (arith, c.order.ensures.clock);
}

pub serve-requires-clause-due : goal.serve-requires-clause-due
serve-requires-clause-due g c = c.in-Server.ensures.meant.due (counts_of c.args.self.now.script) c.requires.fits

pub returns-in-Server-clause-plays : goal.returns-in-Server-clause-plays
returns-in-Server-clause-plays g c = record {
  stepped = λ before is safe. as_server g.D.Disk.seen g.D.Disk.may_leave g.D.Disk.faults g.D.Disk.limit (whole before c.args.self.now) (whole before c.serve.new.self) c.serve.result c.args.event c.in-Server.server c.in-Server.what c.in-Server.ensures.meant (c.serve.ensures.stepped before is safe);
  keeps = c.serve.ensures.keeps;
  clock = omega (arith, c.serve.ensures.clock);
}

pub deliver-requires-clause-kept : goal.deliver-requires-clause-kept
deliver-requires-clause-kept g c = kept_place c.args.self.now c.args.event c.in-Message.place c.in-Message.ensures.meant c.requires.kept

pub returns-in-Message-clause-plays : goal.returns-in-Message-clause-plays
returns-in-Message-clause-plays g c = record {
  stepped = λ before is safe. as_message g.D.Disk.seen g.D.Disk.may_leave g.D.Disk.faults g.D.Disk.limit (whole before c.args.self.now) (whole before c.deliver.new.self) c.deliver.result c.args.event c.in-Message.place c.in-Message.ensures.meant (c.deliver.ensures.stepped before is safe);
  keeps = c.deliver.ensures.keeps;
  clock = omega (arith, c.deliver.ensures.clock);
}

pub tick-requires-clause-some : goal.tick-requires-clause-some
tick-requires-clause-some g c = some_ticks c.args.self.now c.args.event c.in-Ticks.ticks c.in-Ticks.ensures.meant c.requires.fits

pub tick-requires-clause-within : goal.tick-requires-clause-within
tick-requires-clause-within g c = ticks_within c.args.self.now c.args.event c.in-Ticks.ticks c.in-Ticks.ensures.meant c.requires.ticks

pub returns-in-Ticks-clause-plays : goal.returns-in-Ticks-clause-plays
returns-in-Ticks-clause-plays g c = record {
  stepped = λ before is safe. as_ticks g.D.Disk.seen g.D.Disk.may_leave g.D.Disk.faults g.D.Disk.limit (whole before c.args.self.now) (whole before c.tick.new.self) c.tick.result c.args.event c.in-Ticks.ticks c.in-Ticks.ensures.meant (c.tick.ensures.stepped before is safe);
  keeps = c.tick.ensures.keeps;
  clock = clock_ticks c.args.self.now c.tick.new.self c.args.event c.in-Ticks.ticks c.in-Ticks.ensures.meant c.tick.ensures.clock;
}

pub returns-in-Nothing-clause-picked : goal.returns-in-Nothing-clause-picked
returns-in-Nothing-clause-picked g c = λ i pick e. absurd (cc (c.in-Nothing.is, c.meaning_of.ensures.picked i pick e))

pub returns-in-Client-clause-picked : goal.returns-in-Client-clause-picked
returns-in-Client-clause-picked g c = λ i pick e. absurd (cc (c.in-Client.is, c.meaning_of.ensures.picked i pick e))

pub returns-in-Admin-clause-picked : goal.returns-in-Admin-clause-picked
returns-in-Admin-clause-picked g c = λ i pick e. absurd (cc (c.in-Admin.is, c.meaning_of.ensures.picked i pick e))

pub returns-in-Message-clause-picked : goal.returns-in-Message-clause-picked
returns-in-Message-clause-picked g c = λ i pick e. absurd (cc (c.in-Message.is, c.meaning_of.ensures.picked i pick e))

pub returns-in-Ticks-clause-picked : goal.returns-in-Ticks-clause-picked
returns-in-Ticks-clause-picked g c = λ i pick e. absurd (cc (c.in-Ticks.is, c.meaning_of.ensures.picked i pick e))

pub returns-in-Server-clause-picked : goal.returns-in-Server-clause-picked
returns-in-Server-clause-picked g c = λ i pick e.
    picked_as g.D.Disk.seen g.D.Disk.left_by i pick c.in-Server.server c.in-Server.what c.args.self.now.servers c.serve.new.self.servers c.serve.result (sym c.in-Server.is ∙ c.meaning_of.ensures.picked i pick e) c.serve.ensures.picked

pub serve_database-requires-clause-due : goal.serve_database-requires-clause-due
serve_database-requires-clause-due g c = c.in-Database.ensures.meant.due (counts_of c.args.self.now.script) c.requires.fits

pub returns-in-Database-clause-plays : goal.returns-in-Database-clause-plays
returns-in-Database-clause-plays g c = record {
  stepped = λ before is safe. as_database g.D.Disk.seen g.D.Disk.may_leave g.D.Disk.faults g.D.Disk.limit (whole before c.args.self.now) (whole before c.serve_database.new.self) c.serve_database.result c.args.event c.in-Database.what c.in-Database.ensures.meant (c.serve_database.ensures.stepped before is safe);
  keeps = c.serve_database.ensures.keeps;
  clock = omega (arith, c.serve_database.ensures.clock);
}

pub returns-in-Database-clause-picked : goal.returns-in-Database-clause-picked
returns-in-Database-clause-picked g c = λ i pick e. absurd (cc (c.in-Database.is, c.meaning_of.ensures.picked i pick e))

pub returns-in-Nothing-clause-picked_at_loc : goal.returns-in-Nothing-clause-picked_at_loc
returns-in-Nothing-clause-picked_at_loc g c = λ pick e. absurd (cc (c.in-Nothing.is, c.meaning_of.ensures.picked_at_loc pick e))

pub returns-in-Client-clause-picked_at_loc : goal.returns-in-Client-clause-picked_at_loc
returns-in-Client-clause-picked_at_loc g c = λ pick e. absurd (cc (c.in-Client.is, c.meaning_of.ensures.picked_at_loc pick e))

pub returns-in-Admin-clause-picked_at_loc : goal.returns-in-Admin-clause-picked_at_loc
returns-in-Admin-clause-picked_at_loc g c = λ pick e. absurd (cc (c.in-Admin.is, c.meaning_of.ensures.picked_at_loc pick e))

pub returns-in-Server-clause-picked_at_loc : goal.returns-in-Server-clause-picked_at_loc
returns-in-Server-clause-picked_at_loc g c = λ pick e. absurd (cc (c.in-Server.is, c.meaning_of.ensures.picked_at_loc pick e))

pub returns-in-Message-clause-picked_at_loc : goal.returns-in-Message-clause-picked_at_loc
returns-in-Message-clause-picked_at_loc g c = λ pick e. absurd (cc (c.in-Message.is, c.meaning_of.ensures.picked_at_loc pick e))

pub returns-in-Ticks-clause-picked_at_loc : goal.returns-in-Ticks-clause-picked_at_loc
returns-in-Ticks-clause-picked_at_loc g c = λ pick e. absurd (cc (c.in-Ticks.is, c.meaning_of.ensures.picked_at_loc pick e))

pub returns-in-Database-clause-picked_at_loc : goal.returns-in-Database-clause-picked_at_loc
returns-in-Database-clause-picked_at_loc g c = λ pick e.
    loc_picked_as g.D.Disk.seen g.D.Disk.left_by pick c.in-Database.what c.args.self.now.database c.serve_database.new.self.database c.serve_database.result (sym c.in-Database.is ∙ c.meaning_of.ensures.picked_at_loc pick e) c.serve_database.ensures.picked
