use Rattle.std.proofs.Common.{ap, map, string_bytes, ◌∙◌}
use Rattle.std.proofs.lemmas.Result.{IfOk-weaker}
use Rattle.clap.specs.Faults.{fault_of, is_simple_and_free}
use Rattle.clap.specs.Simple.{App, is_simple, subcommand_of}
use Rattle.clap.proofs.FaultLemmas.{fails_as}
use Rattle.afs_arguments.proofs.Asking.{simple, simple_and_free}
use Rattle.afs_arguments.proofs.arguments.parsed.Goals as goal

pub returns : goal.returns
returns c =
    let is = c.in_ok-command.ensures in
    let words = map string_bytes c.args.words.now in
    let parse = c.try_get_matches_from in
    record {
      found = IfOk-weaker parse.result _ _ (λ m h. (h (ap is_simple is ∙ simple)).1 ∙ ap (λ (a : App). subcommand_of a words) is) parse.ensures.matches;
      kinds = fails_as parse.result _ _ (ap (λ (a : App). fault_of a words) is) (parse.ensures.kinds (ap is_simple_and_free is ∙ simple_and_free));
    }
