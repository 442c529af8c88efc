-- What is of a kind has a spelling.
use Rattle.std.proofs.Common.{◌≡◌, List, [], ◌∷◌, All, sym, subst}
use Rattle.std.specs.List.{AllByRecursion}
use Rattle.std.proofs.lemmas.List.Elements.{All-from_recursion}
use Rattle.spec_shape.specs.Spelling.{IsSpellable}
use Rattle.spec_shape.specs.Tables.{IsOf, AreOf}
use Rattle.spec_shape.specs.Parts.{field_of, fields_of}
use Rattle.spec_shape.specs.declared.kinds.Part.{Part}
use Rattle.spec_shape.specs.declared.kinds.Kind.{Kind}
use Rattle.spec_shape.specs.declared.kinds.Kind.TheVariants as kinds
use Rattle.spec_shape.specs.declared.kinds.Field.{Field}
use Rattle.spec_shape.specs.declared.kinds.Field.TheVariants as fields

pub IsOf-spellable : (k : Kind) (f : Field) → IsOf k f → IsSpellable f
IsOf-spellable (kinds.Opaque most) (fields.Opaque bytes) h = h.1
IsOf-spellable (kinds.Fids most) (fields.Fids fs) h = h.1
IsOf-spellable (kinds.CallBacks most) (fields.CallBacks cs) h = h.1
IsOf-spellable (kinds.Statuses most) (fields.Statuses ss) h = h.1
IsOf-spellable (kinds.Volumes most) (fields.Volumes vs) h = h.0.1
IsOf-spellable kinds.Entry (fields.Entry e) h = (h.name.1, h.count.1)
IsOf-spellable _ (fields.Word n) h = tt
IsOf-spellable _ (fields.Signed n) h = tt
IsOf-spellable _ (fields.VolumeKind n) h = tt
IsOf-spellable _ (fields.Server n) h = tt
IsOf-spellable _ (fields.Fid n) h = tt
IsOf-spellable _ (fields.StoreStatus n) h = tt
IsOf-spellable _ (fields.FetchStatus n) h = tt
IsOf-spellable _ (fields.CallBack n) h = tt
IsOf-spellable _ (fields.VolSync n) h = tt
IsOf-spellable _ _ h = absurd h

pub AreOf-each : (ks : List Kind) (fs : List Field) → AreOf ks fs → AllByRecursion IsSpellable fs
AreOf-each [] [] h = tt
AreOf-each (k ∷ ks) (f ∷ fs) h = (IsOf-spellable k f h.0, AreOf-each ks fs h.1)
AreOf-each [] (f ∷ fs) h = absurd h
AreOf-each (k ∷ ks) [] h = absurd h

pub AreOf-spellable : (ks : List Kind) (fs : List Field) → AreOf ks fs → All IsSpellable fs
AreOf-spellable ks fs h = All-from_recursion IsSpellable fs (AreOf-each ks fs h)

parts_each : (ps : List Part) → AllByRecursion IsSpellable (fields_of ps) → AllByRecursion (λ p. IsSpellable (field_of p)) ps
parts_each [] h = tt
parts_each (p ∷ ps) h = (h.0, parts_each ps h.1)

-- parts whose fields have a spelling have one
pub parts_spellable : (ps : List Part) (fs : List Field) → fields_of ps ≡ fs → AllByRecursion IsSpellable fs → All (λ p. IsSpellable (field_of p)) ps
parts_spellable ps fs e h = All-from_recursion (λ p. IsSpellable (field_of p)) ps (parts_each ps (subst (λ (x : List Field). AllByRecursion IsSpellable x) (sym e) h))
