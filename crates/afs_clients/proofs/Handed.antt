-- What a client is handed, by the script.
use Rattle.std.proofs.Common.{refl, arith, ◌≡◌, ◌≤◌, ◌+◌, ◌-◌, ℕ, List, [], ◌∷◌, length, Bool, true, false, codes, nat_eq, nat_le, if◌then◌else◌}
use Rattle.std.specs.List.{All}
use Rattle.std.proofs.lemmas.Bool.{ne_eqb, le-leb, lt-leb}
use Rattle.std.proofs.lemmas.List.Elements.{All-cons, All-head, All-nil, All-tail}
use Rattle.afs_num.specs.Nodes.{IsNode}
use Rattle.afs_num.specs.declared.types.Node.TheVariants.{Client, Server}
use Rattle.spec_history.specs.declared.scripts.Script.{Script}
use Rattle.spec_history.specs.declared.scripts.UserLine.{UserLine}
use Rattle.spec_history.specs.declared.scripts.VolumeLine.{VolumeLine}
use Rattle.afs_acts.specs.Acts.{HasServer}
use Rattle.spec_model.specs.Heads.{user_limit}
use Rattle.spec_rows.specs.Runs.{user_at, user_in}
use Rattle.afs_words.specs.declared.nodes.Counts.{Counts}
use Rattle.afs_grammar.specs.CellScripts.{counts_of, AreVolumes, FitsUser, IsCellScript}

pub server_is_node : (n : ℕ) → 1 ≤ n → n ≤ 8 → IsNode (Server n)
server_is_node n low high =
    let some : nat_eq n 0 ≡ false = ne_eqb n 0 (λ e. absurd (omega (arith, e, low))) in
    let one : nat_le 1 n ≡ true = le-leb 1 n low in
    let eight : nat_le n 8 ≡ true = le-leb n 8 high in
    rw (some, one, eight) refl

pub client_is_node : (n : ℕ) → 1 ≤ n → n ≤ 16 → IsNode (Client n)
client_is_node n low high =
    let some : nat_eq (100 + n) 0 ≡ false = ne_eqb (100 + n) 0 (λ e. absurd (omega (arith, e))) in
    let one : nat_le 1 (100 + n) ≡ true = le-leb 1 (100 + n) (omega arith) in
    let eight : nat_le (100 + n) 8 ≡ false = lt-leb (100 + n) 8 (omega arith) in
    let first : nat_le 101 (100 + n) ≡ true = le-leb 101 (100 + n) (omega (arith, low)) in
    let last : nat_le (100 + n) 116 ≡ true = le-leb (100 + n) 116 (omega (arith, high)) in
    let same : 100 + n - 100 ≡ n = omega arith in
    rw (some, one, eight, first, last, same) refl

chosen : (b : Bool) (name user : List ℕ) → length name ≤ 64 → length user ≤ 64 → length (if b then name else user) ≤ 64
chosen true name user short kept = short
chosen false name user short kept = kept

user_by : (c : Counts) (n : ℕ) (user : List ℕ) (us : List UserLine) → length user ≤ 64 → All (FitsUser c) us → length (user_in n user us) ≤ 64
user_by c n user [] short all = short
user_by c n user (u ∷ us) short all =
    user_by c n (if nat_eq u.client n then u.name else user) us (chosen (nat_eq u.client n) u.name user (All-head (FitsUser c) u us all).1.1 short) (All-tail (FitsUser c) u us all)

pub user_is_short : (s : Script) (n : ℕ) → IsCellScript s → length (user_at s n) ≤ user_limit
user_is_short s n h = user_by (counts_of s) n (codes "guest") s.users (omega arith) h.users

servers_by : (c : Counts) (n : ℕ) (ls : List VolumeLine) → c.servers ≤ 8 → AreVolumes c n ls → All HasServer ls
servers_by c n [] few h = All-nil HasServer
servers_by c n (l ∷ ls) few h = All-cons HasServer l ls (server_is_node l.server h.0.server.0 (omega (arith, few, h.0.server.1))) (servers_by c (n + 1) ls few h.1)

pub all_have_servers : (s : Script) → IsCellScript s → All HasServer s.volumes
all_have_servers s h = servers_by (counts_of s) 536870912 s.volumes h.servers.1 h.volumes
