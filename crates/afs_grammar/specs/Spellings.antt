-- The fixed words of a script: each has one spelling, by which it is read and written.
use Rattle.std.specs.Prelude.{ℕ, List, [], ◌∷◌, Option, codes, find}
use Rattle.std.specs.Str.{bytes_eq}
use Rattle.afs_grammar.specs.declared.spellings.FirstWord.{FirstWord}
use Rattle.afs_grammar.specs.declared.spellings.FirstWord.TheVariants as first_words
use Rattle.afs_grammar.specs.declared.spellings.ActWord.{ActWord}
use Rattle.afs_grammar.specs.declared.spellings.ActWord.TheVariants as act_words
use Rattle.afs_grammar.specs.declared.spellings.AdminWord.{AdminWord}
use Rattle.afs_grammar.specs.declared.spellings.AdminWord.TheVariants as admin_words
use Rattle.afs_grammar.specs.declared.spellings.PlanWord.{PlanWord}
use Rattle.afs_grammar.specs.declared.spellings.PlanWord.TheVariants as plan_words

abbrev pub first_words_all : List FirstWord
first_words_all = first_words.Cell ∷ first_words.Servers ∷ first_words.Clients ∷ first_words.Admins ∷ first_words.Cache ∷ first_words.Capacity ∷ first_words.User ∷ first_words.Volume ∷ first_words.Dir ∷ first_words.File ∷ first_words.Link ∷ first_words.Acl ∷ first_words.Do ∷ first_words.Plan ∷ first_words.Schedule ∷ first_words.Act ∷ first_words.Deliver ∷ first_words.Drain ∷ first_words.Timeout ∷ first_words.Wake ∷ first_words.Tick ∷ first_words.Crash ∷ first_words.Restart ∷ first_words.Stop ∷ first_words.Fail ∷ first_words.End ∷ []

unfoldable pub first_spelling : FirstWord → List ℕ
first_spelling first_words.Cell = codes "cell"
first_spelling first_words.Servers = codes "servers"
first_spelling first_words.Clients = codes "clients"
first_spelling first_words.Admins = codes "admins"
first_spelling first_words.Cache = codes "cache"
first_spelling first_words.Capacity = codes "capacity"
first_spelling first_words.User = codes "user"
first_spelling first_words.Volume = codes "volume"
first_spelling first_words.Dir = codes "dir"
first_spelling first_words.File = codes "file"
first_spelling first_words.Link = codes "link"
first_spelling first_words.Acl = codes "acl"
first_spelling first_words.Do = codes "do"
first_spelling first_words.Plan = codes "plan"
first_spelling first_words.Schedule = codes "schedule"
first_spelling first_words.Act = codes "act"
first_spelling first_words.Deliver = codes "deliver"
first_spelling first_words.Drain = codes "drain"
first_spelling first_words.Timeout = codes "timeout"
first_spelling first_words.Wake = codes "wake"
first_spelling first_words.Tick = codes "tick"
first_spelling first_words.Crash = codes "crash"
first_spelling first_words.Restart = codes "restart"
first_spelling first_words.Stop = codes "stop"
first_spelling first_words.Fail = codes "fail"
first_spelling first_words.End = codes "end"

unfoldable pub first_spelled : List ℕ → Option FirstWord
first_spelled word = find (λ w. bytes_eq (first_spelling w) word) first_words_all

abbrev pub act_words_all : List ActWord
act_words_all = act_words.Open ∷ act_words.List ∷ act_words.ReadLink ∷ act_words.Stat ∷ act_words.StatAll ∷ act_words.Close ∷ act_words.Make ∷ act_words.MkDir ∷ act_words.Rm ∷ act_words.RmDir ∷ act_words.Mv ∷ act_words.Ln ∷ act_words.Symlink ∷ act_words.ChMod ∷ act_words.SetAcl ∷ act_words.GetAcl ∷ act_words.GiveUp ∷ []

unfoldable pub act_spelling : ActWord → List ℕ
act_spelling act_words.Open = codes "open"
act_spelling act_words.List = codes "list"
act_spelling act_words.ReadLink = codes "readlink"
act_spelling act_words.Stat = codes "stat"
act_spelling act_words.StatAll = codes "statall"
act_spelling act_words.Close = codes "close"
act_spelling act_words.Make = codes "make"
act_spelling act_words.MkDir = codes "mkdir"
act_spelling act_words.Rm = codes "rm"
act_spelling act_words.RmDir = codes "rmdir"
act_spelling act_words.Mv = codes "mv"
act_spelling act_words.Ln = codes "ln"
act_spelling act_words.Symlink = codes "symlink"
act_spelling act_words.ChMod = codes "chmod"
act_spelling act_words.SetAcl = codes "setacl"
act_spelling act_words.GetAcl = codes "getacl"
act_spelling act_words.GiveUp = codes "giveup"

unfoldable pub act_spelled : List ℕ → Option ActWord
act_spelled word = find (λ w. bytes_eq (act_spelling w) word) act_words_all

abbrev pub admin_words_all : List AdminWord
admin_words_all = admin_words.Create ∷ admin_words.Restore ∷ admin_words.AddSite ∷ admin_words.Backup ∷ admin_words.Release ∷ admin_words.Move ∷ admin_words.Dump ∷ admin_words.Remove ∷ admin_words.Recover ∷ []

unfoldable pub admin_spelling : AdminWord → List ℕ
admin_spelling admin_words.Create = codes "create"
admin_spelling admin_words.Restore = codes "restore"
admin_spelling admin_words.AddSite = codes "addsite"
admin_spelling admin_words.Backup = codes "backup"
admin_spelling admin_words.Release = codes "release"
admin_spelling admin_words.Move = codes "move"
admin_spelling admin_words.Dump = codes "dump"
admin_spelling admin_words.Remove = codes "remove"
admin_spelling admin_words.Recover = codes "recover"

unfoldable pub admin_spelled : List ℕ → Option AdminWord
admin_spelled word = find (λ w. bytes_eq (admin_spelling w) word) admin_words_all

abbrev pub plan_words_all : List PlanWord
plan_words_all = plan_words.Lose ∷ plan_words.Repeat ∷ plan_words.Crash ∷ []

unfoldable pub plan_spelling : PlanWord → List ℕ
plan_spelling plan_words.Lose = codes "lose"
plan_spelling plan_words.Repeat = codes "repeat"
plan_spelling plan_words.Crash = codes "crash"

unfoldable pub plan_spelled : List ℕ → Option PlanWord
plan_spelled word = find (λ w. bytes_eq (plan_spelling w) word) plan_words_all
