use Rattle.afs_volume.proofs.volume.Volume.assemble.Goals as goal

pub blocks_in-blocks-requires : goal.blocks_in-blocks-requires
blocks_in-blocks-requires c = c.in_ok-dirs.ensures.readable

pub invariant_of-result : goal.invariant_of-result
invariant_of-result c = record {
  fits = c.requires;
  readable = c.in_ok-dirs.ensures.readable;
  listed = c.in_ok-dirs.ensures.listed;
  counted = c.blocks_in-blocks.ensures;
  sound = c.in_ok-dirs.ensures.sound;
}
