use Rattle.std.proofs.Common.{refl, rules, ap, sym, ◌∙◌}
use Rattle.afs_final.specs.Telling.{final_of}
use Rattle.afs_lending.proofs.Written.{all_told, no_memory, not_all_told, untold}
use Rattle.afs_lending.proofs.Behind.{puts_no_more}
use Rattle.afs_lending.proofs.telling.tell_left.Goals as goal

pub returns-in-Some-clause-told : goal.returns-in-Some-clause-told
returns-in-Some-clause-told g c = λ text start count p. untold c.args.written text _ _ c.in-Some.why _ _ _ _ c.tell_none.ensures.status (search rules) (c.tell_none.ensures.written text start count p)

pub returns-then-is_err-clause-told : goal.returns-then-is_err-clause-told
returns-then-is_err-clause-told g c = λ text start count p. not_all_told c.args.written text _ _ _ start _ (g.K.Sink.passed c.args.sink.now) count _ c.args.written (search rules) (search rules) refl (puts_no_more text _ start _ count _ c.args.written c.args.written (search rules) (search rules) p)

pub returns-in_default-told_of-clause-told : goal.returns-in_default-told_of-clause-told
returns-in_default-told_of-clause-told g c = λ text start count p. no_memory c.args.written text _ _ _ _ _ _ c.tell_none-in_default-told_of.ensures.status (search rules) (search rules) (c.tell_none-in_default-told_of.ensures.written text start count p)

pub returns-in-Ok-put_rest-clause-told : goal.returns-in-Ok-put_rest-clause-told
returns-in-Ok-put_rest-clause-told g c = λ text start count p. all_told c.args.written text _ _ _ start _ _ count _ c.put_rest.result (search rules) (search rules) (ap final_of c.as_slice.ensures.value ∙ c.in-Ok.ensures) c.put_rest.ensures.all (c.put_rest.ensures.puts text start count p)

pub returns-clause-told : goal.returns-clause-told
returns-clause-told g c = λ text start count p. not_all_told c.args.written text _ _ _ start _ (g.K.Sink.passed c.put_rest.new.sink) count _ c.put_rest.result (search rules) (search rules) (ap final_of c.as_slice.ensures.value ∙ c.in-Ok.ensures) (c.put_rest.ensures.puts text start count p)
