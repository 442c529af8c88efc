-- What each record does to the volume under a number: it makes it, deletes it, sets its flags, or leaves it the kind, the family and the flags that
-- it had.
use Rattle.std.proofs.Common.{◌≡◌, ◌⊎◌, inl, inr, ℕ, Bool, true, false, cond, List, [], ◌∷◌, Option, Some, None, is_some, refl, sym, ap, subst, ◌∙◌, eqb-true}
use Rattle.std.specs.Prelude.{⊤, ◌&&◌, filter, length, nat_eq, nat_lt, not}
use Rattle.afs_num.specs.declared.records.RecordBody.{RecordBody}
use Rattle.afs_num.specs.declared.records.RecordBody.TheVariants as bodies
use Rattle.spec_ideal.specs.Tables.{get, set, unset, Table}
use Rattle.spec_ideal.specs.VnodeMaps.{most_vnodes}
use Rattle.spec_ideal.specs.Volumes.{Volume}
use Rattle.spec_ideal.proofs.Tables.{get_set, get_unset}
use Rattle.spec_records.specs.Durable.{is_flagged, Durable, Stored}
use Rattle.spec_records.specs.Sound.{is_sound}
use Rattle.spec_records.proofs.Kept.{same_rest}
use Rattle.spec_dumps.specs.Clones.{cloned, recloned}
use Rattle.spec_dumps.specs.Dumps.{Dump}
use Rattle.spec_dumps.specs.Fields.{bad_at, cut_at, took, FieldTaken}
use Rattle.spec_dumps.specs.Restores.{allowed_with, restored_from, finished_by, made_or, restored_vnodes, stored_with, Timed}
use Rattle.spec_dumps.specs.Streams.{dump_at}
use Rattle.spec_fold.specs.Deeds.{can_take, clone_made, clone_put, created, done_by, flagged, has_volume, has_volume_room, on_stored, or_as_was, with_release}
use Rattle.spec_rows.specs.ServerRow.{is_unflagged, stored_by, Change}
use Rattle.law_families.proofs.Volumes.{IsFit}

-- ---- alike

pub record Alike (s x : Stored) : Type 0 where
  pub kind : x.volume.kind ≡ s.volume.kind
  pub family : x.volume.family ≡ s.volume.family
  pub flags : x.volume.flags ≡ s.volume.flags

same_alike : (s : Stored) → Alike s s
same_alike s = record { kind = refl; family = refl; flags = refl }

-- a volume stands there as it stood, or none does as before
abbrev pub Like : Option Stored → Option Stored → Type 0
Like None None = ⊤
Like (Some s) (Some x) = Alike s x
Like a b = ⊥

same_like : (o : Option Stored) → Like o o
same_like None = tt
same_like (Some s) = same_alike s

-- a file server's change
pub change_alike : (clock : ℕ) (c : Change) → Alike c.before (stored_by clock c)
change_alike clock c = record {
  kind = ap (λ (x : Volume). x.kind) (same_rest c.id c.edits c.before.volume);
  family = ap (λ (x : Volume). x.family) (same_rest c.id c.edits c.before.volume);
  flags = ap (λ (x : Volume). x.flags) (same_rest c.id c.edits c.before.volume);
}

-- a dump that is restored
allowed_alike : (s x : Stored) (b : Bool) (n : ℕ) → Alike s x → Alike s (or_as_was s (made_or n (cond b (Some x) None)))
allowed_alike s x true n h = h
allowed_alike s x false n h = same_alike s

with_alike : (id n : ℕ) (s : Stored) (d : Dump) (o : Option (Table Timed)) → Alike s (or_as_was s (made_or n (allowed_with id s d o)))
with_alike id n s d None = same_alike s
with_alike id n s d (Some t) = let x : Stored = stored_with id s d t in allowed_alike s x (not (nat_lt most_vnodes (length x.volume.vnodes)) && is_sound x.volume) n (record { kind = refl; family = refl; flags = refl })

taken_alike : (id : ℕ) (s : Stored) (bytes : List ℕ) (t : FieldTaken Dump) → Alike s (or_as_was s (finished_by id s bytes t))
taken_alike id s bytes (took d rest) = with_alike id _ s d (restored_vnodes d.live d.images s)
taken_alike id s bytes (cut_at left) = same_alike s
taken_alike id s bytes (bad_at left) = same_alike s

finished_alike : (id : ℕ) (s : Stored) (bytes : List ℕ) → Alike s (or_as_was s (restored_from id s bytes))
unfolding restored_from
finished_alike id s bytes = taken_alike id s bytes (dump_at bytes)

-- ---- what a record does under a number

-- a clone is made there, of a volume that is there
pub record IsCloned (d : Durable) (source : ℕ) (name : List ℕ) (kind release : ℕ) (after : Option Stored) : Type 0 where
  pub s : Stored
  pub there : get source d.volumes ≡ Some s
  pub is : after ≡ Some (cloned name kind release s)

pub record IsFlagged (flags : ℕ) (before after : Option Stored) : Type 0 where
  pub s : Stored
  pub was : before ≡ Some s
  pub is : after ≡ Some (flagged flags s)

abbrev pub Makes : Durable → RecordBody → Option Stored → Option Stored → Type 0
Makes d (bodies.Create id family name kind flags quota is_new) before after = (before ≡ None) × (after ≡ Some (created family name kind flags quota is_new))
Makes d (bodies.Delete id) before after = after ≡ None
Makes d (bodies.Clone source id name kind release) before after = (before ≡ None) × IsCloned d source name kind release after
Makes d (bodies.Flags id flags) before after = IsFlagged flags before after
Makes d body before after = ⊥

-- the number of the volume that it makes, deletes or flags
abbrev pub number_in : RecordBody → ℕ
number_in (bodies.Create id family name kind flags quota is_new) = id
number_in (bodies.Delete id) = id
number_in (bodies.Clone source id name kind release) = id
number_in (bodies.Flags id flags) = id
number_in body = 0

abbrev pub Does : Durable → RecordBody → ℕ → Option Stored → Option Stored → Type 0
Does d body volume before after = ((number_in body ≡ volume) × Makes d body before after) ⊎ Like before after

-- one volume is put
put_does : (d : Durable) (body : RecordBody) (b : Bool) (volume : ℕ) (x : Stored) (before : Option Stored) → nat_eq (number_in body) volume ≡ b → (number_in body ≡ volume → Makes d body before (Some x)) → Does d body volume before (cond b (Some x) before)
put_does d body true volume x before is makes = let same : number_in body ≡ volume = eqb-true (number_in body) volume is in inl (same, makes same)
put_does d body false volume x before is makes = inr (same_like before)

-- put where one like it stands
alike_put : (b : Bool) (id volume : ℕ) (s x : Stored) (o : Option Stored) → nat_eq id volume ≡ b → (id ≡ volume → o ≡ Some s) → Alike s x → Like o (cond b (Some x) o)
alike_put true id volume s x o is there a = subst (λ (q : Option Stored). Like q (Some x)) (sym (there (eqb-true id volume is))) a
alike_put false id volume s x o is there a = same_like o

like_trans : (o p q : Option Stored) → Like o p → Like p q → Like o q
like_trans None None None a b = tt
like_trans (Some s) (Some x) (Some y) a b = record { kind = b.kind ∙ a.kind; family = b.family ∙ a.family; flags = b.flags ∙ a.flags }
like_trans None (Some x) q a b = absurd a
like_trans (Some s) None q a b = absurd a
like_trans None None (Some y) a b = absurd b
like_trans (Some s) (Some x) None a b = absurd b

gone_does : (d : Durable) (id volume : ℕ) (b : Bool) (before : Option Stored) → nat_eq id volume ≡ b → Does d (bodies.Delete id) volume before (cond b None before)
gone_does d id volume true before is = inl (eqb-true id volume is, refl)
gone_does d id volume false before is = inr (same_like before)

none_of : (o : Option Stored) → is_some o ≡ false → o ≡ None
none_of None e = refl
none_of (Some s) e = absurd cc

at_id : (id volume : ℕ) (v : Table Stored) (o : Option Stored) → get id v ≡ o → id ≡ volume → get volume v ≡ o
at_id id volume v o is same = subst (λ (k : ℕ). get k v ≡ o) same is

on_does : (d : Durable) (body : RecordBody) (id volume : ℕ) (f : Stored → Stored) (o : Option Stored) → get id d.volumes ≡ o → number_in body ≡ id → ((s : Stored) → get id d.volumes ≡ Some s → Makes d body (Some s) (Some (f s))) → Does d body volume (get volume d.volumes) (get volume (on_stored id f o d).volumes)
on_does d body id volume f None is own makes = inr (same_like (get volume d.volumes))
on_does d body id volume f (Some s) is own makes =
    subst (λ (q : Option Stored). Does d body volume (get volume d.volumes) q) (sym (get_set volume id (f s) d.volumes))
    (by (nat_eq id volume) refl)
  where
    by : (b : Bool) → nat_eq id volume ≡ b → Does d body volume (get volume d.volumes) (cond b (Some (f s)) (get volume d.volumes))
    by true same = let e : id ≡ volume = eqb-true id volume same in inl (own ∙ e, subst (λ (q : Option Stored). Makes d body q (Some (f s))) (sym (at_id id volume d.volumes (Some s) is e)) (makes s is))
    by false same = inr (same_like (get volume d.volumes))

on_like : (d : Durable) (id volume : ℕ) (f : Stored → Stored) (o : Option Stored) → get id d.volumes ≡ o → ((s : Stored) → Alike s (f s)) → Like (get volume d.volumes) (get volume (on_stored id f o d).volumes)
on_like d id volume f None is a = same_like (get volume d.volumes)
on_like d id volume f (Some s) is a =
    subst (Like (get volume d.volumes)) (sym (get_set volume id (f s) d.volumes))
    (alike_put (nat_eq id volume) id volume s (f s) (get volume d.volumes) refl (at_id id volume d.volumes (Some s) is) (a s))

module _ (d : Durable) (source id : ℕ) (name : List ℕ) (kind release : ℕ) (s : Stored) (there : get source d.volumes ≡ Some s) (volume : ℕ) where
  abbrev body : RecordBody
  body = bodies.Clone source id name kind release

  abbrev before : Option Stored
  before = get volume d.volumes

  abbrev source_put : Table Stored
  source_put = set source (with_release release s) d.volumes

  -- the volume of which a clone is made stands as it stood
  source_like : Like before (get volume source_put)
  source_like = subst (Like before) (sym (get_set volume source (with_release release s) d.volumes))
      (alike_put (nat_eq source volume) source volume s (with_release release s) before refl (at_id source volume d.volumes (Some s) there) (record { kind = refl; family = refl; flags = refl }))

  clone_by : (b : Bool) (x : Stored) → nat_eq id volume ≡ b → (id ≡ volume → Does d body volume before (Some x)) → Does d body volume before (cond b (Some x) (get volume source_put))
  clone_by true x is here = here (eqb-true id volume is)
  clone_by false x is here = inr source_like

  clone_does : IsFit d body → (o : Option Stored) → get id d.volumes ≡ o → Does d body volume before (get volume (clone_put source id name kind release s o d).volumes)
  clone_does fit None is =
      subst (Does d body volume before) (sym (get_set volume id (cloned name kind release s) source_put))
      (clone_by (nat_eq id volume) (cloned name kind release s) refl (λ e. inl (e, (at_id id volume d.volumes None is e, record { s = s; there = there; is = refl }))))
  clone_does fit (Some old) is =
      subst (Does d body volume before) (sym (get_set volume id (recloned old release s) source_put))
      (clone_by (nat_eq id volume) (recloned old release s) refl (λ e. inr (anew e)))
    where
      anew : id ≡ volume → Like before (Some (recloned old release s))
      anew e = subst (λ (q : Option Stored). Like q (Some (recloned old release s))) (sym (at_id id volume d.volumes (Some old) is e)) (record { kind = refl; family = fit.1 s old there is; flags = refl })

made_does : (d : Durable) (source id : ℕ) (name : List ℕ) (kind release : ℕ) (o : Option Stored) (volume : ℕ) → get source d.volumes ≡ o → IsFit d (bodies.Clone source id name kind release) → Does d (bodies.Clone source id name kind release) volume (get volume d.volumes) (get volume (clone_made source id name kind release o d).volumes)
made_does d source id name kind release None volume is fit = inr (same_like (get volume d.volumes))
made_does d source id name kind release (Some s) volume is fit = clone_does d source id name kind release s is volume fit (get id d.volumes) refl

pub does : (body : RecordBody) (d : Durable) (volume : ℕ) → IsFit d body → Does d body volume (get volume d.volumes) (get volume (done_by body d).volumes)
does (bodies.First volumes) d volume fit = inr (same_like (get volume d.volumes))
does (bodies.Change id counter unique vnodes removed) d volume fit = inr (same_like (get volume d.volumes))
does (bodies.Boot boot) d volume fit = inr (same_like (get volume d.volumes))
does (bodies.Create id family name kind flags quota is_new) d volume fit =
    let x : Stored = created family name kind flags quota is_new in
    subst (Does d (bodies.Create id family name kind flags quota is_new) volume (get volume d.volumes)) (sym (get_set volume id x d.volumes))
    (put_does d (bodies.Create id family name kind flags quota is_new) (nat_eq id volume) volume x (get volume d.volumes) refl (λ same. (at_id id volume d.volumes None (none_of (get id d.volumes) fit.0) same, refl)))
does (bodies.Delete id) d volume fit = subst (Does d (bodies.Delete id) volume (get volume d.volumes)) (sym (get_unset volume id d.volumes)) (gone_does d id volume (nat_eq id volume) (get volume d.volumes) refl)
does (bodies.Clone source id name kind release) d volume fit = made_does d source id name kind release (get source d.volumes) volume refl fit
does (bodies.Restore id dump) d volume fit = inr (on_like d id volume (λ s. or_as_was s (restored_from id s dump)) (get id d.volumes) refl (λ s. finished_alike id s dump))
does (bodies.Flags id flags) d volume fit = on_does d (bodies.Flags id flags) id volume (flagged flags) (get id d.volumes) refl refl (λ s is. record { s = s; was = refl; is = refl })
does (bodies.Forward id to) d volume fit = inr (same_like (get volume d.volumes))
does bodies.Stamp d volume fit = inr (same_like (get volume d.volumes))
