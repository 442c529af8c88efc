use Rattle.std.proofs.Common.{rules, ◌≡◌, ◌++◌, ◌∙◌}
use Rattle.std.specs.Option.{option_copied}
use Rattle.afs_xdr.specs.Words.{word, words}
use Rattle.spec_shape.specs.Spelling.{fields_spelled}
use Rattle.spec_model.specs.Heads.{head_words, signed_word}
use Rattle.spec_model.specs.Rpc.{answer_fields}
use Rattle.spec_model.proofs.RpcLaws.{answer_spellable}
use Rattle.afs_rpc.proofs.Pieces.{three_pieces}
use Rattle.afs_rpc.proofs.replies.spell_reply.Goals as goal

pub write_answer-requires : goal.write_answer-requires
write_answer-requires g c = answer_spellable g.M.Messages.table c.args.code.0 (option_copied c.args.reply) c.requires

pub returns-clause-spelled : goal.returns-clause-spelled
returns-clause-spelled g c =
    let bytes : c.in_ok-bytes.bytes ≡ c.write_answer.new.w = search rules in
    let head : c.write_head.new.w ≡ words (head_words c.args.head.now) = search rules in
    let code : c.word.new.self ≡ c.write_head.new.w ++ word (signed_word c.args.code.0) = search rules in
    let answer : c.write_answer.new.w ≡ c.word.new.self ++ fields_spelled (answer_fields g.M.Messages.table (option_copied c.args.reply)) = search rules in
    bytes ∙ three_pieces (words (head_words c.args.head.now)) (word (signed_word c.args.code.0)) (fields_spelled (answer_fields g.M.Messages.table (option_copied c.args.reply))) c.write_head.new.w c.word.new.self c.write_answer.new.w head code answer
