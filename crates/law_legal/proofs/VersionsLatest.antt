-- A version that was told, or a later one, is the last of its object, and a volume that agrees with what was told holds that.
use Rattle.spec_history.specs.declared.lines.Line.{Line}
use Rattle.spec_ideal.specs.Told.{live}
use Rattle.spec_ideal.specs.Volumes.{Volume, version_at, vnode_of}
use Rattle.law_legal.proofs.VolumeEdits.{Ones, SoundIn, Tops, agrees_of, index_in, last_of, none_has}
use Rattle.law_legal.proofs.ServerFinds.{last_has}
use Rattle.law_legal.specs.Ideal.{HasVersion, IsThat, last_version, version_in}
use Rattle.law_legal.specs.Past.{onto}
use Rattle.afs_num.specs.declared.histories.Body.{Body}
use Rattle.afs_num.specs.declared.histories.Version.{Version}
use Rattle.afs_num.specs.declared.types.Fid.{Fid}
use Rattle.std.proofs.Common.{◌≡◌, ℕ, ◌≤◌, inr, List, [], ◌∷◌, Option, Some, None, refl, sym, ap, subst, ◌∙◌}
use Rattle.std.specs.Option.{option_map}

-- ---- further lines

pub has_more : (f : Fid) (i : ℕ) (b : Body) (o : Option Version) (ls : List Line) → HasVersion f i b ls → IsThat f i b o (HasVersion f i b ls)
has_more f i b None ls h = h
has_more f i b (Some v) ls h = inr h

pub has_onto : (f : Fid) (i : ℕ) (b : Body) (ls o : List Line) → HasVersion f i b o → HasVersion f i b (onto o ls)
has_onto f i b [] o h = h
has_onto f i b (l ∷ ls) o h = has_onto f i b ls (l ∷ o) (has_more f i b (version_in l) o h)

-- ---- the last version

-- the last version is the one that was told, or a later one
pub record IsLater (f : Fid) (i : ℕ) (b : Body) (o : Option Version) : Type 0 where
  pub last : Version
  pub is : o ≡ Some last
  pub since : i ≤ last.index
  pub same : last.index ≡ i → last.body ≡ b

pub later_by : (f : Fid) (i : ℕ) (b : Body) (ls : List Line) (o : Option Version) → last_version f ls ≡ o → HasVersion f i b ls → Tops ls → Ones ls → IsLater f i b o
later_by f i b ls None e h top one = absurd (none_has f i b ls e h)
later_by f i b ls (Some last) e h top one = record {
  last = last;
  is = refl;
  since = subst (λ (o : Option Version). i ≤ index_in o) e (top f i b h);
  same = λ q. one f i last.body b (subst (λ (j : ℕ). HasVersion f j last.body ls) q (last_has f ls last e)) h;
}

-- a volume of which a version was told is there, and holds the last one
pub record IsHolding (f : Fid) (last : Version) (o : Option Volume) : Type 0 where
  pub volume : Volume
  pub at : o ≡ Some volume
  pub held : live (Some last) ≡ option_map (version_at f.volume f.vnode) (vnode_of f volume)

pub holding_by : (f : Fid) (last : Version) (o : Option Volume) (ls : List Line) → SoundIn f.volume o ls → last_version f ls ≡ Some last → IsHolding f last o
holding_by f last None ls h e = let no_ : None ≡ Some last = sym (h f.vnode f.unique) ∙ e in absurd cc
holding_by f last (Some v) ls h e = record {
  volume = v;
  at = refl;
  held = ap live (sym e ∙ last_of f ls) ∙ (agrees_of f.volume v ls h).held f.vnode f.unique;
}
