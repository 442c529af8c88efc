use Rattle.std.proofs.Common.{◌≡◌, ⊎_elim, ap, ◌∙◌}
use Rattle.std.specs.Prelude.{Err}
use Rattle.afs_num.specs.declared.faults.StoreFault.{StoreFault}
use Rattle.afs_sharing.proofs.committing.commit.Goals as goal

pub returns-in-Ok-clause-disk : goal.returns-in-Ok-clause-disk
returns-in-Ok-clause-disk g c r e = record {
  told = c.commit.ensures.told;
  quiet = λ is. absurd is;
  any_moment = λ q is bytes told. c.commit.ensures.any_moment c.requires.up q (e ∙ is) bytes told;
  reached = λ z. absurd cc;
  left = λ z. absurd cc;
  fits = λ q is. c.requires.fits q (e ∙ is);
  most = c.commit.ensures.most;
  limited = c.commit.ensures.setting.0;
  called = c.in-Ok.ensures.calls;
  ran = record { never_falls = c.commit.ensures.served.never_falls; own_never_falls = c.commit.ensures.served.own_never_falls; down = λ z. absurd cc; passed = c.in-Ok.ensures.served.passed };
  set = c.commit.ensures.setting.1;
}

pub returns-in-Err-clause-disk : goal.returns-in-Err-clause-disk
returns-in-Err-clause-disk g c r e = record {
  told = c.commit.ensures.told;
  quiet = λ is. absurd is;
  any_moment = λ q is bytes told. c.commit.ensures.any_moment c.requires.up q (e ∙ is) bytes told;
  reached = λ z. c.in-Err.ensures.reached (⊎_elim (λ failed. ap (λ (e : StoreFault). Err e) failed) (λ closed. let yes = c.in-Err.ensures.closed.0 (ap (λ (e : StoreFault). Err e) closed) in let no = c.requires.up in absurd cc) c.in-Err.ensures.refusals);
  left = λ z q is bytes told. c.in-Err.ensures.left (⊎_elim (λ failed. ap (λ (e : StoreFault). Err e) failed) (λ closed. let yes = c.in-Err.ensures.closed.0 (ap (λ (e : StoreFault). Err e) closed) in let no = c.requires.up in absurd cc) c.in-Err.ensures.refusals) q (e ∙ is) bytes told;
  fits = λ q is. c.requires.fits q (e ∙ is);
  most = c.commit.ensures.most;
  limited = c.commit.ensures.setting.0;
  called = tt;
  ran = record {
    never_falls = c.commit.ensures.served.never_falls;
    own_never_falls = c.commit.ensures.served.own_never_falls;
    down = λ z. ⊎_elim (λ failed. c.in-Err.ensures.served.failed (ap (λ (e : StoreFault). Err e) failed)) (λ closed. let yes = c.in-Err.ensures.closed.0 (ap (λ (e : StoreFault). Err e) closed) in let no = c.requires.up in absurd cc) c.in-Err.ensures.refusals;
    passed = tt;
  };
  set = c.commit.ensures.setting.1;
}
