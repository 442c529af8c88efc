use Rattle.std.proofs.Common.{◌-◌, length, sym, ◌∙◌, arith}
use Rattle.afs_dir.proofs.Halves.{three_pieces, without_one}
use Rattle.afs_dir.proofs.splicing.spelled_without.Goals as goal

pub returns : goal.returns
returns c =
    let few = c.requires.within in
    c.in_ok-spelled.ensures
    ∙ (three_pieces _ c.in_ok-out.ensures.items c.in_ok-put_word.ensures c.in_ok-extend_from_slice.ensures.items c.parted.ensures.front c.in_ok-extend_from_slice-2.ensures.items c.parted-2.ensures.back
    ∙ sym (without_one c.args.names.now c.args.place (length c.args.names.now - 1) c.requires.within (omega (arith, few))))
