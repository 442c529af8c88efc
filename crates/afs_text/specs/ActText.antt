-- The text of acts, as a script writes them, and of the line with which one begins.
use Rattle.std.specs.Prelude.{ℕ, List, ◌++◌, false, codes}
use Rattle.std.specs.List.{flat_map}
use Rattle.std.specs.Fmt.{decimal, digits}
use Rattle.afs_num.specs.Texts.{node_text, fid_text}
use Rattle.afs_num.specs.declared.types.Node.{Node}
use Rattle.afs_num.specs.declared.types.Node.TheVariants.{Server}
use Rattle.spec_model.specs.LineText.{hex_byte, hex_text, name_text}
use Rattle.spec_history.specs.declared.acts.Act.{Act}
use Rattle.spec_history.specs.declared.acts.Act.TheVariants as acts
use Rattle.spec_history.specs.declared.acts.Operand.{Operand}
use Rattle.spec_history.specs.declared.acts.Operand.TheVariants as operands
use Rattle.spec_history.specs.declared.acts.Path.{Path}
use Rattle.spec_history.specs.declared.acts.Written.{Written}
use Rattle.spec_history.specs.declared.acts.Written.TheVariants.{Hex, Fill}
use Rattle.spec_history.specs.declared.scripts.AdminAct.{AdminAct}
use Rattle.spec_history.specs.declared.scripts.AdminAct.TheVariants as admin_acts

-- ---- operands

-- a mode of Unix
unfoldable pub octal : ℕ → List ℕ
octal n = digits 8 false n

unfoldable pub written_text : Written → List ℕ
written_text (Hex bytes) = codes "hex:" ++ hex_text bytes
written_text (Fill count byte) = codes "fill:" ++ (decimal count ++ (codes ":" ++ hex_byte byte))

-- a slash stands before each name below the volume's root
abbrev pub step_text : List ℕ → List ℕ
step_text name = codes "/" ++ name_text name

unfoldable pub names_text : List (List ℕ) → List ℕ
names_text names = flat_map step_text names

unfoldable pub path_text : Path → List ℕ
path_text p = name_text p.volume ++ names_text p.names

unfoldable pub operand_text : Operand → List ℕ
operand_text (operands.Path p) = path_text p
operand_text (operands.Fid f) = codes "@" ++ fid_text f

-- ---- acts

unfoldable pub act_text : Act → List ℕ
act_text (acts.Open o) = codes "open " ++ operand_text o
act_text (acts.ListNames o) = codes "list " ++ operand_text o
act_text (acts.ReadLink o) = codes "readlink " ++ operand_text o
act_text (acts.Stat o) = codes "stat " ++ operand_text o
act_text (acts.StatAll o) = codes "statall " ++ operand_text o
act_text (acts.Close o contents) = codes "close " ++ (operand_text o ++ (codes " " ++ written_text contents))
act_text (acts.Make p) = codes "make " ++ path_text p
act_text (acts.MakeDirectory p) = codes "mkdir " ++ path_text p
act_text (acts.Remove p) = codes "rm " ++ path_text p
act_text (acts.RemoveDirectory p) = codes "rmdir " ++ path_text p
act_text (acts.Move p q) = codes "mv " ++ (path_text p ++ (codes " " ++ path_text q))
act_text (acts.Link p q) = codes "ln " ++ (path_text p ++ (codes " " ++ path_text q))
act_text (acts.Symlink p target) = codes "symlink " ++ (path_text p ++ (codes " " ++ written_text target))
act_text (acts.SetMode o mode) = codes "chmod " ++ (operand_text o ++ (codes " " ++ octal mode))
act_text (acts.SetAccessList o text) = codes "setacl " ++ (operand_text o ++ (codes " " ++ written_text text))
act_text (acts.GetAccessList o) = codes "getacl " ++ operand_text o
act_text acts.GiveUp = codes "giveup"

-- ---- acts of administrators: each names its volume first

unfoldable pub admin_act_text : AdminAct → List ℕ
admin_act_text (admin_acts.Create name server quota) = codes "create " ++ (name_text name ++ (codes " " ++ (node_text (Server server) ++ (codes " " ++ decimal quota))))
admin_act_text (admin_acts.Restore name server label) = codes "restore " ++ (name_text name ++ (codes " " ++ (node_text (Server server) ++ (codes " " ++ name_text label))))
admin_act_text (admin_acts.AddSite name server) = codes "addsite " ++ (name_text name ++ (codes " " ++ node_text (Server server)))
admin_act_text (admin_acts.Backup name) = codes "backup " ++ name_text name
admin_act_text (admin_acts.Release name) = codes "release " ++ name_text name
admin_act_text (admin_acts.Move name server) = codes "move " ++ (name_text name ++ (codes " " ++ node_text (Server server)))
admin_act_text (admin_acts.Dump name label from) = codes "dump " ++ (name_text name ++ (codes " " ++ (name_text label ++ (codes " " ++ decimal from))))
admin_act_text (admin_acts.Remove name) = codes "remove " ++ name_text name
admin_act_text (admin_acts.Recover name) = codes "recover " ++ name_text name

-- ---- the line with which an act of this text begins

unfoldable pub begin_text : Node → List ℕ → List ℕ
begin_text node act = codes "begin " ++ (node_text node ++ (codes " " ++ (act ++ codes "\n")))
