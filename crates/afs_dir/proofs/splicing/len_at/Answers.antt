use Rattle.std.proofs.Common.{◌≡◌, ℕ, ◌+◌, length, get_or, sym, ap, ◌∙◌, arith}
use Rattle.afs_num.specs.declared.directories.Name.{Name}
use Rattle.afs_xdr.specs.Words.{pad_length}
use Rattle.spec_ideal.specs.Directories.{name_bytes}
use Rattle.spec_ideal.proofs.Directories.{name_is_short}
use Rattle.afs_dir.proofs.Halves.{front_more, name_long}
use Rattle.afs_dir.proofs.splicing.len_at.Goals as goal

pub name_len-requires : goal.name_len-requires
name_len-requires c =
    let n = c.index-names-place.result in
    let long : c.len.result ≡ length n.name = c.len.ensures.value ∙ ap (λ (m : Name). length m.name) (sym c.index-names-place.is) in
    omega (arith, long, name_is_short c.args.names.now c.requires.directory c.args.place n c.requires.within c.index-names-place.is)

pub returns-clause-value : goal.returns-clause-value
returns-clause-value c =
    let n = c.index-names-place.result in
    let long : c.len.result ≡ length n.name = c.len.ensures.value ∙ ap (λ (m : Name). length m.name) (sym c.index-names-place.is) in
    let one : c.name_len.result ≡ length (name_bytes n) = c.name_len.ensures.value ∙ (ap (λ (k : ℕ). 12 + (k + pad_length k)) long ∙ sym (name_long n)) in
    let here : length (name_bytes n) ≡ length (name_bytes (get_or c.args.names.now c.args.place n)) = ap (λ (m : Name). length (name_bytes m)) c.index-names-place.is in
    omega (arith, one, here, front_more c.args.names.now c.args.place n c.requires.within)
