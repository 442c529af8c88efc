-- Made scripts as the reference program writes them.
use Rattle.std.proofs.Common.{◌≡◌, ℕ, ◌/◌, ◌%◌, List, [], ◌∷◌, ◌++◌, codes, map, refl, drop}
use Rattle.std.specs.Fmt.{decimal, digits}
use Rattle.std.specs.Prelude.{flat_map}
use Rattle.spec_history.specs.declared.acts.Act.{Act}
use Rattle.spec_history.specs.declared.acts.Act.TheVariants as acts
use Rattle.spec_history.specs.declared.acts.Operand.{Operand}
use Rattle.spec_history.specs.declared.acts.Operand.TheVariants as operands
use Rattle.spec_history.specs.declared.acts.Written.{Written}
use Rattle.spec_history.specs.declared.acts.Written.TheVariants as written
use Rattle.spec_history.specs.declared.scripts.AdminAct.{AdminAct}
use Rattle.spec_history.specs.declared.scripts.AdminAct.TheVariants as admin_acts
use Rattle.spec_history.specs.declared.scripts.SetupLine.{SetupLine}
use Rattle.spec_history.specs.declared.scripts.SetupLine.TheVariants as setup
use Rattle.spec_history.specs.declared.scripts.Task.{Task}
use Rattle.spec_history.specs.declared.scripts.Task.TheVariants as tasks
use Rattle.spec_history.specs.declared.scripts.VolumeLine.{VolumeLine}
use Rattle.afs_generate.specs.Generated.{acts_from, acts_of, drawn, generated, lines_from, lot_behind}

-- ---- how a script writes what made scripts have

abbrev first : List ℕ → List ℕ
first [] = []
first (x ∷ more) = x ∷ []

abbrev digit : ℕ → List ℕ
digit n = first (drop n (codes "0123456789abcdef"))

abbrev first_name : List (List ℕ) → List ℕ
first_name [] = []
first_name (name ∷ more) = name

abbrev path : Operand → List ℕ
path (operands.Path p) = p.volume ++ (codes "/" ++ first_name p.names)
path (operands.Fid f) = codes "?"

abbrev filled : Written → List ℕ
filled (written.Hex bytes) = codes "?"
filled (written.Fill count byte) = codes "fill:" ++ (decimal count ++ (codes ":" ++ (digit (byte / 16) ++ digit (byte % 16))))

abbrev act : Act → List ℕ
act (acts.Open operand) = codes "open " ++ path operand
act (acts.Close operand contents) = codes "close " ++ (path operand ++ (codes " " ++ filled contents))
act other = codes "?"

abbrev admin_act : AdminAct → List ℕ
admin_act (admin_acts.AddSite name server) = codes "addsite " ++ (name ++ (codes " s" ++ decimal server))
admin_act (admin_acts.Release name) = codes "release " ++ name
admin_act (admin_acts.Move name server) = codes "move " ++ (name ++ (codes " s" ++ decimal server))
admin_act other = codes "?"

abbrev task : Task → List ℕ
task (tasks.Client client a) = codes "c" ++ (decimal client ++ (codes " " ++ act a))
task (tasks.Admin admin a) = codes "a" ++ (decimal admin ++ (codes " " ++ admin_act a))

-- ---- the acts

abbrev of_1 : List (List ℕ)
of_1 =
    codes "c3 close v2/f38 fill:1131:01"
    ∷ codes "c2 open v0/f27"
    ∷ codes "a1 addsite v1 s3"
    ∷ codes "c4 open v0/f12"
    ∷ codes "a1 release v1"
    ∷ codes "c2 open v1/f7"
    ∷ codes "c1 close v1/f25 fill:513:05"
    ∷ codes "a1 move v0 s2"
    ∷ codes "c4 open v2/f17"
    ∷ codes "c3 close v0/f18 fill:2119:07"
    ∷ codes "c4 close v2/f14 fill:857:08"
    ∷ codes "a1 move v2 s1"
    ∷ codes "c5 open v1/f16"
    ∷ codes "c6 open v1/f34"
    ∷ []

made_of_1 : map task (acts_of 1) ≡ of_1
unfolding acts_from digits lot_behind drawn
made_of_1 = refl

abbrev of_4 : List (List ℕ)
of_4 =
    codes "c6 close v0/f6 fill:3711:01"
    ∷ codes "c6 open v1/f16"
    ∷ codes "c6 close v2/f2 fill:2885:03"
    ∷ codes "c6 close v1/f37 fill:103:04"
    ∷ codes "c4 close v1/f13 fill:1664:05"
    ∷ codes "c2 open v0/f9"
    ∷ codes "c2 open v0/f0"
    ∷ codes "c2 close v0/f15 fill:2698:08"
    ∷ codes "a1 addsite v1 s3"
    ∷ codes "c6 close v2/f8 fill:3030:09"
    ∷ codes "c5 close v2/f35 fill:371:0a"
    ∷ codes "c1 open v0/f12"
    ∷ codes "c1 open v2/f17"
    ∷ codes "a1 release v1"
    ∷ codes "c5 open v2/f11"
    ∷ codes "c6 open v2/f38"
    ∷ codes "c5 open v0/f21"
    ∷ codes "c5 close v1/f7 fill:3546:10"
    ∷ codes "c5 open v2/f17"
    ∷ codes "c4 close v2/f38 fill:1042:12"
    ∷ codes "c4 open v2/f17"
    ∷ codes "c1 close v1/f10 fill:463:14"
    ∷ codes "a1 move v0 s2"
    ∷ codes "c2 close v1/f13 fill:2188:15"
    ∷ codes "c2 close v0/f3 fill:3213:16"
    ∷ codes "c1 close v2/f2 fill:3548:17"
    ∷ codes "c5 open v2/f5"
    ∷ codes "c4 close v1/f10 fill:430:19"
    ∷ codes "c4 open v1/f7"
    ∷ codes "c2 open v0/f3"
    ∷ codes "c5 open v1/f10"
    ∷ codes "c6 close v2/f8 fill:881:1d"
    ∷ codes "c3 open v1/f34"
    ∷ codes "c3 open v1/f31"
    ∷ codes "c6 open v0/f36"
    ∷ codes "a1 move v2 s1"
    ∷ codes "c3 close v2/f2 fill:2467:21"
    ∷ codes "c2 open v2/f5"
    ∷ codes "c3 open v0/f33"
    ∷ codes "c2 open v0/f9"
    ∷ codes "c4 close v0/f3 fill:653:25"
    ∷ codes "c5 close v0/f18 fill:1601:26"
    ∷ codes "c6 open v2/f14"
    ∷ codes "c4 open v0/f15"
    ∷ []

made_of_4 : map task (acts_of 4) ≡ of_4
unfolding acts_from digits lot_behind drawn
made_of_4 = refl

-- of the 1,004 acts that 100 makes the last ten
abbrev last_of_100 : List (List ℕ)
last_of_100 =
    codes "c6 open v0/f30"
    ∷ codes "c2 open v2/f23"
    ∷ codes "c4 close v2/f2 fill:2819:e1"
    ∷ codes "c2 open v2/f14"
    ∷ codes "c4 open v1/f25"
    ∷ codes "c3 open v0/f0"
    ∷ codes "c4 open v0/f3"
    ∷ codes "c5 open v2/f11"
    ∷ codes "c2 close v0/f21 fill:1564:e7"
    ∷ codes "c4 open v2/f5"
    ∷ []

made_of_100 : drop 994 (map task (acts_of 100)) ≡ last_of_100
unfolding acts_from digits lot_behind drawn
made_of_100 = refl

-- ---- the volumes and their files

abbrev line : SetupLine → List ℕ
line (setup.File names contents) = codes "f:" ++ (first_name names ++ (codes " " ++ filled contents))
line other = codes "?"

abbrev lines : VolumeLine → List (List ℕ)
lines v = (v.name ++ (codes " s" ++ (decimal v.server ++ (codes " " ++ decimal v.quota)))) ∷ map line v.lines

abbrev volumes : List (List ℕ)
volumes =
    codes "v0 s1 10000"
    ∷ codes "f:f0 fill:0:61"
    ∷ codes "f:f3 fill:3:61"
    ∷ codes "f:f6 fill:6:61"
    ∷ codes "f:f9 fill:9:61"
    ∷ codes "f:f12 fill:12:61"
    ∷ codes "f:f15 fill:15:61"
    ∷ codes "f:f18 fill:18:61"
    ∷ codes "f:f21 fill:21:61"
    ∷ codes "f:f24 fill:24:61"
    ∷ codes "f:f27 fill:27:61"
    ∷ codes "f:f30 fill:30:61"
    ∷ codes "f:f33 fill:33:61"
    ∷ codes "f:f36 fill:36:61"
    ∷ codes "f:f39 fill:39:61"
    ∷ codes "v1 s2 10000"
    ∷ codes "f:f1 fill:1:61"
    ∷ codes "f:f4 fill:4:61"
    ∷ codes "f:f7 fill:7:61"
    ∷ codes "f:f10 fill:10:61"
    ∷ codes "f:f13 fill:13:61"
    ∷ codes "f:f16 fill:16:61"
    ∷ codes "f:f19 fill:19:61"
    ∷ codes "f:f22 fill:22:61"
    ∷ codes "f:f25 fill:25:61"
    ∷ codes "f:f28 fill:28:61"
    ∷ codes "f:f31 fill:31:61"
    ∷ codes "f:f34 fill:34:61"
    ∷ codes "f:f37 fill:37:61"
    ∷ codes "v2 s3 10000"
    ∷ codes "f:f2 fill:2:61"
    ∷ codes "f:f5 fill:5:61"
    ∷ codes "f:f8 fill:8:61"
    ∷ codes "f:f11 fill:11:61"
    ∷ codes "f:f14 fill:14:61"
    ∷ codes "f:f17 fill:17:61"
    ∷ codes "f:f20 fill:20:61"
    ∷ codes "f:f23 fill:23:61"
    ∷ codes "f:f26 fill:26:61"
    ∷ codes "f:f29 fill:29:61"
    ∷ codes "f:f32 fill:32:61"
    ∷ codes "f:f35 fill:35:61"
    ∷ codes "f:f38 fill:38:61"
    ∷ []

made_volumes : flat_map lines (generated 1).volumes ≡ volumes
unfolding lines_from digits
made_volumes = refl
