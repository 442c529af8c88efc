use Rattle.spec_ideal.proofs.Directories.{name_is_short}
use Rattle.afs_dir.proofs.spelling.write_names.Goals as goal

pub write_name-requires : goal.write_name-requires
write_name-requires c = name_is_short c.args.names.now c.requires c.loop-name.name-index c.name-item.result c.loop-name-test.true c.name-item.is
