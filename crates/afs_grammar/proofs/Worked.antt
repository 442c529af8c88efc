-- What is read of some scripts, by computing.
use Rattle.std.proofs.Common.{◌++◌, codes, refl}
use Rattle.afs_num.specs.Names.{volume_name_ok, is_name_of}
use Rattle.afs_num.specs.declared.scripts.Reason.TheVariants as reasons
use Rattle.spec_model.specs.ScriptWords.{word_at, no_word_left, numeral, ranged, number_at, node_number_read, field_at, fid_of}
use Rattle.afs_grammar.specs.Spellings.{first_spelling, first_spelled, act_spelling, act_spelled}
use Rattle.afs_words.specs.Words.{node_of, node_at, name_of, path_in, path_of, operand_of, operand_at, written_at, written_of, fill_of, is_numeral, byte_of, label_at}
use Rattle.afs_grammar.specs.Acts.{act_parts, client_act_read, task_of, task_at, tick_event, act_event}
use Rattle.afs_grammar.specs.Forms.{is_unbuilt}
use Rattle.afs_grammar.specs.Worked.{head, whole, with_client, BadLines, IsBad, OneIsRead}
use Rattle.afs_grammar.specs.Lines.{script_of, line_at, line_of, first_word, last_at, cell_line, servers_line, clients_line, volume_line, do_line, schedule_line, event_line, event_told, end_line}

no_cell : IsBad whole (codes "servers 1\n") 1 reasons.Order
unfolding script_of line_at line_of first_word word_at first_spelling first_spelled
no_cell = refl

unknown : IsBad whole (codes "cell 1\nserver 1\n") 2 reasons.Word
unfolding script_of line_at line_of first_word word_at no_word_left number_at numeral ranged first_spelling first_spelled cell_line is_unbuilt
unknown = refl

no_end : IsBad whole head 3 reasons.Missing
unfolding script_of line_at line_of first_word last_at word_at no_word_left number_at numeral ranged first_spelling first_spelled cell_line servers_line is_unbuilt
no_end = refl

too_many_servers : IsBad 6 (codes "cell 1\nservers 2\n") 2 reasons.Limit
unfolding script_of line_at line_of first_word word_at no_word_left number_at numeral ranged first_spelling first_spelled cell_line servers_line is_unbuilt
too_many_servers = refl

all_digits : IsBad whole (head ++ codes "volume 123 s1 1\n") 3 reasons.Name
unfolding script_of line_at line_of first_word word_at no_word_left number_at numeral ranged first_spelling first_spelled cell_line servers_line is_unbuilt volume_line label_at volume_name_ok is_name_of
all_digits = refl

no_such_client : IsBad whole (with_client ++ codes "do c2 open @1.2.2\n") 4 reasons.Node
unfolding script_of line_at line_of first_word word_at no_word_left number_at numeral ranged first_spelling first_spelled act_spelling act_spelled cell_line servers_line clients_line is_unbuilt do_line task_at node_at node_of node_number_read
no_such_client = refl

plain_escaped : IsBad whole (with_client ++ codes "do c1 open a/%41\n") 4 reasons.Path
unfolding script_of line_at line_of first_word word_at no_word_left number_at numeral ranged first_spelling first_spelled act_spelling act_spelled cell_line servers_line clients_line is_unbuilt do_line task_at node_at node_of node_number_read task_of client_act_read act_parts operand_at operand_of path_of path_in name_of
plain_escaped = refl

filled_too_much : IsBad whole (with_client ++ codes "do c1 close a fill:2097153:00\n") 4 reasons.Limit
unfolding script_of line_at line_of first_word word_at no_word_left number_at numeral ranged first_spelling first_spelled act_spelling act_spelled cell_line servers_line clients_line is_unbuilt do_line task_at node_at node_of node_number_read task_of client_act_read act_parts operand_at operand_of path_of path_in name_of written_at written_of fill_of is_numeral byte_of
filled_too_much = refl

ticks_too_many : IsBad whole (head ++ codes "schedule\ntick 600000000\ntick 600000000\n") 5 reasons.Limit
unfolding script_of line_at line_of first_word word_at no_word_left number_at numeral ranged first_spelling first_spelled cell_line servers_line is_unbuilt schedule_line event_line event_told tick_event
ticks_too_many = refl

word_before_the_sum : IsBad whole (head ++ codes "schedule\ntick 600000000\ntick 600000000 x\n") 5 reasons.Word
unfolding script_of line_at line_of first_word word_at no_word_left number_at numeral ranged first_spelling first_spelled cell_line servers_line is_unbuilt schedule_line event_line event_told tick_event
word_before_the_sum = refl

behind_the_end : IsBad whole (head ++ codes "end\n\n") 4 reasons.Order
unfolding script_of line_at line_of first_word word_at no_word_left number_at numeral ranged first_spelling first_spelled cell_line servers_line is_unbuilt end_line
behind_the_end = refl

pub one_is_read : OneIsRead
unfolding script_of line_at line_of first_word last_at word_at no_word_left number_at numeral ranged first_spelling first_spelled act_spelling act_spelled cell_line servers_line clients_line is_unbuilt do_line task_at node_at node_of node_number_read task_of client_act_read act_parts operand_at operand_of fid_of field_at schedule_line event_line event_told act_event end_line
one_is_read = refl

pub bad_lines : BadLines
bad_lines = record {
  no_cell = no_cell;
  unknown = unknown;
  no_end = no_end;
  too_many_servers = too_many_servers;
  all_digits = all_digits;
  no_such_client = no_such_client;
  plain_escaped = plain_escaped;
  filled_too_much = filled_too_much;
  ticks_too_many = ticks_too_many;
  word_before_the_sum = word_before_the_sum;
  behind_the_end = behind_the_end;
}
