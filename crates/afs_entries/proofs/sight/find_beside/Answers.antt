use Rattle.std.proofs.Common.{◌≡◌, ap, sym, ◌∙◌, Some, None, Bool, true, false, cond}
use Rattle.spec_ideal.proofs.Basics.{same_fid-true}
use Rattle.afs_num.specs.Fids.{same_fid}
use Rattle.afs_num.specs.declared.types.Fid.{Fid}
use Rattle.spec_rows.specs.ClientRow.{find_cached}
use Rattle.afs_entries.specs.Cached.{entry_at, entry_of, evicted, is_fid}
use Rattle.afs_entries.proofs.Evicting.{found_after}
use Rattle.afs_entries.proofs.sight.find_beside.Goals as goal

pub returns-then-eq : goal.returns-then-eq
returns-then-eq c =
    let k = c.args.cache.now in
    let x = c.args.fresh.now in
    let sound = c.evicts-is_out.ensures.sound in
    let same : same_fid x.fid c.args.fid.now ≡ true = sym c.eq.ensures ∙ c.if-eq.true in
    ap (λ (f : Fid). Some (entry_at f x.entry)) (sym (same_fid-true x.fid c.args.fid.now same))
    ∙ sym (found_after k.capacity (entry_of x) c.args.fid.now k.entries c.requires sound.some sound.apart sound.few ∙ ap (λ (b : Bool). cond b (Some (entry_of x)) (cond (is_fid c.args.fid.now (evicted k.capacity x.fid k.entries)) None (find_cached c.args.fid.now k.entries))) same)

pub returns-then-is_out : goal.returns-then-is_out
returns-then-is_out c =
    let k = c.args.cache.now in
    let x = c.args.fresh.now in
    let sound = c.evicts-is_out.ensures.sound in
    let other : same_fid x.fid c.args.fid.now ≡ false = sym c.eq.ensures ∙ c.if-eq.false in
    let out : is_fid c.args.fid.now (evicted k.capacity x.fid k.entries) ≡ true = sym c.evicts-is_out.ensures.value ∙ c.if-is_out.true in
    sym (found_after k.capacity (entry_of x) c.args.fid.now k.entries c.requires sound.some sound.apart sound.few
    ∙ (ap (λ (b : Bool). cond b (Some (entry_of x)) (cond (is_fid c.args.fid.now (evicted k.capacity x.fid k.entries)) None (find_cached c.args.fid.now k.entries))) other
    ∙ ap (λ (b : Bool). cond b None (find_cached c.args.fid.now k.entries)) out))

pub returns : goal.returns
returns c =
    let k = c.args.cache.now in
    let x = c.args.fresh.now in
    let sound = c.evicts-is_out.ensures.sound in
    let other : same_fid x.fid c.args.fid.now ≡ false = sym c.eq.ensures ∙ c.if-eq.false in
    let out : is_fid c.args.fid.now (evicted k.capacity x.fid k.entries) ≡ false = sym c.evicts-is_out.ensures.value ∙ c.if-is_out.false in
    c.find.ensures
    ∙ sym (found_after k.capacity (entry_of x) c.args.fid.now k.entries c.requires sound.some sound.apart sound.few
    ∙ (ap (λ (b : Bool). cond b (Some (entry_of x)) (cond (is_fid c.args.fid.now (evicted k.capacity x.fid k.entries)) None (find_cached c.args.fid.now k.entries))) other
    ∙ ap (λ (b : Bool). cond b None (find_cached c.args.fid.now k.entries)) out))
