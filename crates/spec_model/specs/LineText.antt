-- The text of the lines of a history.
use Rattle.std.specs.Prelude.{ℕ, ◌/◌, ◌%◌, ◌||◌, List, [], ◌∷◌, ◌++◌, Bool, true, false, nat_eq, Option, Some, None, codes, if◌then◌else◌}
use Rattle.std.specs.List.{flat_map}
use Rattle.std.specs.Fmt.{decimal, signed_decimal, digit_glyph}
use Rattle.afs_num.specs.Nodes.{is_between}
use Rattle.afs_num.specs.Texts.{node_text, fid_text, key_text}
use Rattle.afs_num.specs.declared.types.Code.{Code}
use Rattle.afs_num.specs.declared.types.Fid.{Fid}
use Rattle.afs_num.specs.declared.types.Key.{Key}
use Rattle.afs_num.specs.declared.types.Node.{Node}
use Rattle.afs_num.specs.declared.directories.Name.{Name}
use Rattle.afs_num.specs.declared.histories.Body.{Body}
use Rattle.afs_num.specs.declared.histories.Body.TheVariants as bodies
use Rattle.afs_num.specs.declared.histories.ReadBody.{ReadBody}
use Rattle.afs_num.specs.declared.histories.ReadBody.TheVariants.{Contents, Status, AccessList}
use Rattle.afs_num.specs.declared.histories.ReadSource.{ReadSource}
use Rattle.afs_num.specs.declared.histories.ReadSource.TheVariants.{Cached, Fetched}
use Rattle.afs_num.specs.declared.histories.ReadStatus.{ReadStatus}
use Rattle.afs_num.specs.declared.histories.Version.{Version}

-- ---- bytes

-- a byte as two lower-case hexadecimal digits
abbrev pub hex_byte : ℕ → List ℕ
hex_byte b = digit_glyph false (b / 16) ∷ digit_glyph false (b % 16) ∷ []

unfoldable pub hex_text : List ℕ → List ℕ
hex_text bytes = flat_map hex_byte bytes

-- a letter, a digit, `.`, `_` or `-`
abbrev pub is_plain : ℕ → Bool
is_plain b = is_between 97 122 b || (is_between 65 90 b || (is_between 48 57 b || (nat_eq b 46 || (nat_eq b 95 || nat_eq b 45))))

-- any other byte of a name is `%` and two upper-case hexadecimal digits
abbrev pub name_byte : ℕ → List ℕ
name_byte b = if is_plain b then b ∷ [] else 37 ∷ digit_glyph true (b / 16) ∷ digit_glyph true (b % 16) ∷ []

unfoldable pub name_text : List ℕ → List ℕ
name_text name = flat_map name_byte name

-- ---- what lines show

-- a name in a directory and what it names; a comma stands before all names but the first
abbrev pub entry_name_text : Name → List ℕ
entry_name_text n = name_text n.name ++ (codes "=" ++ (decimal n.vnode ++ (codes "." ++ decimal n.unique)))

unfoldable pub more_names_text : List Name → List ℕ
more_names_text ns = flat_map (λ (n : Name). codes "," ++ entry_name_text n) ns

unfoldable pub directory_text : List Name → List ℕ
directory_text [] = []
directory_text (n ∷ ns) = entry_name_text n ++ more_names_text ns

unfoldable pub body_text : Body → List ℕ
body_text (bodies.File contents) = codes "f:" ++ hex_text contents
body_text (bodies.Dir names) = codes "d:" ++ directory_text names
body_text (bodies.Link target) = codes "l:" ++ hex_text target
body_text bodies.Gone = codes "gone"

-- kind, links, length and mode, all in decimal
unfoldable pub status_text : ReadStatus → List ℕ
status_text s = codes "s:" ++ (decimal s.kind ++ (codes "," ++ (decimal s.link_count ++ (codes "," ++ (decimal s.length ++ (codes "," ++ decimal s.mode))))))

unfoldable pub read_body_text : ReadBody → List ℕ
read_body_text (Contents body) = body_text body
read_body_text (Status status) = status_text status
read_body_text (AccessList text) = codes "a:" ++ hex_text text

abbrev pub source_text : ReadSource → List ℕ
source_text Cached = codes "cached"
source_text Fetched = codes "fetched"

-- ---- versions, reads and answers

unfoldable pub change_text : Node → Key → ℕ → List ℕ
change_text server key count = codes "change " ++ (node_text server ++ (codes " " ++ (key_text key ++ (codes " " ++ (decimal count ++ codes "\n")))))

unfoldable pub version_text : Version → List ℕ
version_text v =
    codes "version " ++ (fid_text v.fid ++ (codes " " ++ (decimal v.index ++ (codes " " ++ (decimal v.data_version ++ (codes " " ++ (body_text v.body ++ codes "\n")))))))

unfoldable pub read_text : Node → Fid → ℕ → ReadSource → ReadBody → List ℕ
read_text client fid index source body =
    codes "read " ++ (node_text client ++ (codes " " ++ (fid_text fid ++ (codes " " ++ (decimal index ++ (codes " " ++ (source_text source ++ (codes " " ++ (read_body_text body ++ codes "\n")))))))))

unfoldable pub answer_text : Node → Code → List ℕ
answer_text node code = codes "answer " ++ (node_text node ++ (codes " " ++ (signed_decimal code.0 ++ codes "\n")))

-- ---- promises and breaks

unfoldable pub grant_text : Node → Node → Fid → ℕ → ℕ → List ℕ
grant_text server client fid index expiry =
    codes "grant " ++ (node_text server ++ (codes " " ++ (node_text client ++ (codes " " ++ (fid_text fid ++ (codes " " ++ (decimal index ++ (codes " " ++ (decimal expiry ++ codes "\n")))))))))

-- what a break is on; all where no fid is named
abbrev pub owed_text : Option Fid → List ℕ
owed_text (Some fid) = fid_text fid
owed_text None = codes "all"

unfoldable pub owe_text : Node → Node → Option Fid → ℕ → List ℕ
owe_text server client fid number =
    codes "owe " ++ (node_text server ++ (codes " " ++ (node_text client ++ (codes " " ++ (owed_text fid ++ (codes " " ++ (decimal number ++ codes "\n")))))))

unfoldable pub settle_text : Node → Node → ℕ → List ℕ
settle_text server client number = codes "settle " ++ (node_text server ++ (codes " " ++ (node_text client ++ (codes " " ++ (decimal number ++ codes "\n")))))

unfoldable pub quit_text : Node → Node → ℕ → List ℕ
quit_text server client number = codes "quit " ++ (node_text server ++ (codes " " ++ (node_text client ++ (codes " " ++ (decimal number ++ codes "\n")))))

unfoldable pub drop_text : Node → Fid → List ℕ
drop_text client fid = codes "drop " ++ (node_text client ++ (codes " " ++ (fid_text fid ++ codes "\n")))

unfoldable pub drop_all_text : Node → Node → List ℕ
drop_all_text client server = codes "drop " ++ (node_text client ++ (codes " all " ++ (node_text server ++ codes "\n")))

-- ---- crashes and disks

unfoldable pub crash_text : Node → List ℕ
crash_text node = codes "crash " ++ (node_text node ++ codes "\n")

unfoldable pub fault_text : Node → List ℕ
fault_text node = codes "fault " ++ (node_text node ++ codes "\n")

unfoldable pub full_text : Node → List ℕ
full_text node = codes "full " ++ (node_text node ++ codes "\n")

unfoldable pub restart_text : Node → ℕ → List ℕ
restart_text node boot = codes "restart " ++ (node_text node ++ (codes " " ++ (decimal boot ++ codes "\n")))

unfoldable pub stop_text : Node → ℕ → ℕ → List ℕ
stop_text node calls pick = codes "stop " ++ (node_text node ++ (codes " " ++ (decimal calls ++ (codes " " ++ (decimal pick ++ codes "\n")))))

unfoldable pub fail_text : Node → ℕ → List ℕ
fail_text node calls = codes "fail " ++ (node_text node ++ (codes " " ++ (decimal calls ++ codes "\n")))

-- ---- volumes at a server

unfoldable pub made_text : Node → ℕ → ℕ → List ℕ
made_text server volume count = codes "made " ++ (node_text server ++ (codes " " ++ (decimal volume ++ (codes " " ++ (decimal count ++ codes "\n")))))

unfoldable pub fence_text : ℕ → Node → List ℕ
fence_text volume server = codes "fence " ++ (decimal volume ++ (codes " " ++ (node_text server ++ codes "\n")))

unfoldable pub enable_text : ℕ → Node → List ℕ
enable_text volume server = codes "enable " ++ (decimal volume ++ (codes " " ++ (node_text server ++ codes "\n")))

unfoldable pub vanish_text : ℕ → Node → List ℕ
vanish_text volume server = codes "vanish " ++ (decimal volume ++ (codes " " ++ (node_text server ++ codes "\n")))

unfoldable pub released_text : ℕ → ℕ → ℕ → Node → List ℕ
released_text family volume release server =
    codes "released " ++ (decimal family ++ (codes " " ++ (decimal volume ++ (codes " " ++ (decimal release ++ (codes " " ++ (node_text server ++ codes "\n")))))))

-- ---- the location database

unfoldable pub locked_text : ℕ → ℕ → ℕ → List ℕ
locked_text volume stamp operation = codes "locked " ++ (decimal volume ++ (codes " " ++ (decimal stamp ++ (codes " " ++ (decimal operation ++ codes "\n")))))

unfoldable pub unlocked_text : ℕ → List ℕ
unlocked_text volume = codes "unlocked " ++ (decimal volume ++ codes "\n")

unfoldable pub recovered_text : ℕ → List ℕ
recovered_text volume = codes "recovered " ++ (decimal volume ++ codes "\n")

unfoldable pub located_text : ℕ → Node → List ℕ
located_text volume server = codes "located " ++ (decimal volume ++ (codes " " ++ (node_text server ++ codes "\n")))

-- ---- timeouts and the clock

unfoldable pub timeout_text : Node → Node → ℕ → ℕ → ℕ → List ℕ
timeout_text caller callee epoch number count =
    codes "timeout " ++ (node_text caller ++ (codes " " ++ (node_text callee ++ (codes " " ++ (decimal epoch ++ (codes "." ++ (decimal number ++ (codes " " ++ (decimal count ++ codes "\n")))))))))

unfoldable pub tick_text : ℕ → List ℕ
tick_text ticks = codes "tick " ++ (decimal ticks ++ codes "\n")

-- ---- messages that are given

unfoldable pub given_text : ℕ → List ℕ
given_text place = codes "given " ++ (decimal place ++ codes "\n")
