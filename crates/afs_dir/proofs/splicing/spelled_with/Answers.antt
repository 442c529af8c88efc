use Rattle.std.proofs.Common.{sym, ◌∙◌}
use Rattle.afs_dir.proofs.Halves.{four_pieces, with_one}
use Rattle.afs_dir.proofs.splicing.spelled_with.Goals as goal

pub returns : goal.returns
returns c =
    c.in_ok-spelled.ensures
    ∙ (four_pieces _ _ c.in_ok-out.ensures.items c.in_ok-put_word.ensures c.in_ok-extend_from_slice.ensures.items c.parted.ensures.front c.in_ok-put_name.ensures c.in_ok-extend_from_slice-2.ensures.items c.parted.ensures.back
    ∙ sym (with_one c.args.names.now c.args.place (record { name = c.args.name.now; vnode = c.args.vnode; unique = c.args.unique }) c.requires.within))
