use Rattle.std.proofs.Common.{ap, ap₂, arith, ◌∙◌, ◌≡◌, ◌-◌, ℕ, List}
use Rattle.std.specs.Prelude.{slice_get}
use Rattle.afs_num.specs.declared.types.Parcel.{Parcel}
use Rattle.afs_wire.specs.Sent.{Sent}
use Rattle.afs_wire.proofs.Places.{get_before}
use Rattle.afs_wire.proofs.wire.Wire.get.Goals as goal

pub returns : goal.returns
returns c =
    let gone : c.self.inside.gone ≡ c.args.self.now.gone = ap (λ (w : Sent). w.gone) c.self.view_is in
    c.nth.ensures
    ∙ (ap₂ (λ (ps : List Parcel) (n : ℕ). slice_get ps ((c.args.place - n) - 1)) (c.deref.ensures.value ∙ ap (λ (w : Sent). w.messages) c.self.view_is) gone
    ∙ get_before c.args.self.now.messages (c.args.place - c.args.self.now.gone) (λ e. omega (arith, e, c.requires)))
