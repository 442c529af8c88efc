use Rattle.std.proofs.Common.{◌∙◌, ap, arith, [], Vec, Global}
use Rattle.std.proofs.lemmas.Result.{err_from_is_err_and}
use Rattle.afs_num.specs.declared.directories.Name.{Name}
use Rattle.afs_dir.specs.Reads.{last_name}
use Rattle.afs_dir.proofs.Names.{goes_on, stops_all, is_done, last_pushed, follow_pushed}
use Rattle.afs_dir.proofs.reading.read_names.Goals as goal

pub returns-in_err-name-clause-value : goal.returns-in_err-name-clause-value
returns-in_err-name-clause-value c =
    let p = err_from_is_err_and c.from_residual-in_err-name.result c.from_residual-in_err-name.ensures.1 in
    rw (p.1, p.2) (stops_all {X = Vec Name Global} (λ v. v.items) c.loop.names.items c.args.count c.loop.counter c.last_name.result.now c.args.reader.now c.loop.reader c.read_name.new.reader c.in_err-name.field-0.0 c.loop-test.true c.in_err-name.ensures.value (c.last_name.ensures ∙ ap (last_name []) c.deref.ensures.value) c.loop.invariant.all)

pub loop-preserved : goal.loop-preserved
loop-preserved c =
    let last = c.last_name.ensures ∙ ap (last_name []) c.deref.ensures.value in
    let n = c.in_ok-name.name in
    let all = goes_on c.loop.names.items c.args.count c.loop.counter (last_name [] c.loop.names.items) c.loop.reader.left n c.read_name.new.reader.left _ c.loop-test.true (rw last at c.in_ok-name.ensures.value) c.loop.invariant.all in
    record {
      all = rw (c.in_ok-push.ensures.items, last_pushed [] c.loop.names.items n) all;
      ordered = rw c.in_ok-push.ensures.items (follow_pushed [] c.loop.names.items n c.loop.invariant.ordered (rw last at c.in_ok-name.ensures.follows));
      many = omega (arith, c.in_ok-push.ensures.len, c.loop.invariant.many);
      end = c.loop.invariant.end ∙ c.in_ok-name.ensures.end;
      far = omega (arith, c.loop.invariant.far, c.in_ok-name.ensures.far);
    }

pub returns-clause-value : goal.returns-clause-value
returns-clause-value c = is_done c.loop.names.items c.args.count c.loop.counter _ c.loop.reader.left _ c.loop-test.false c.loop.invariant.all
