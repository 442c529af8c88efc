-- Lines of a history, as they are read back: by their first word, and then field by field.
use Rattle.std.proofs.Common.{◌≡◌, ℕ, ℤ, List, [], ◌∷◌, ◌++◌, drop, Option, Some, None, refl, codes}
use Rattle.std.specs.Fmt.{decimal}
use Rattle.afs_num.specs.Texts.{fid_text}
use Rattle.afs_num.specs.declared.types.Fid.{Fid}
use Rattle.afs_num.specs.declared.types.Node.{Node}
use Rattle.afs_num.specs.declared.histories.ReadSource.{ReadSource}
use Rattle.afs_num.specs.declared.histories.ReadSource.TheVariants.{Cached, Fetched}
use Rattle.spec_history.specs.declared.scripts.AdminAct.{AdminAct}
use Rattle.spec_history.specs.declared.lines.Line.{Line}
use Rattle.spec_history.specs.declared.lines.Line.TheVariants as lines
use Rattle.spec_model.specs.LineText.{answer_text, change_text, crash_text, drop_all_text, drop_text, enable_text, fail_text, fault_text, fence_text, full_text, given_text, grant_text, located_text, locked_text, made_text, owe_text, owed_text, quit_text, read_text, recovered_text, released_text, restart_text, settle_text, source_text, stop_text, tick_text, timeout_text, unlocked_text, vanish_text, version_text}
use Rattle.afs_text.specs.ActText.{begin_text}
use Rattle.afs_text.specs.RunText.{dumped_text, line_text, older_text, stuck_text}
use Rattle.afs_text.specs.Whole.{IsWholeFid, IsWholeLine, IsWholeOwed}
use Rattle.afs_text.proofs.WordsRead.{Refuses, at_word, behind, fid_at, fid_row, key_at, key_row, node_at, node_row, number_at, number_refuses, number_row, read, older_code, refuses_joined, signed_before, signed_open}
use Rattle.afs_text.proofs.BodiesRead.{act_at, act_is_no_admins, act_row, admin_act_at, admin_act_row, body_at, body_row, named_at, named_row, read_body_at, read_body_row}

-- ---- what stands for a fid where all promises are meant

fid_refuses : (f : Fid) (x : List ℕ) → IsWholeFid f → Refuses (codes "all ") (fid_text f ++ x)
fid_refuses f x whole =
    let first = refuses_joined (codes "all ") (decimal f.volume) (codes "." ++ (decimal f.vnode ++ (codes "." ++ decimal f.unique))) (number_refuses f.volume 97 (codes "ll ") whole.0 refl) in
    refuses_joined (codes "all ") (fid_text f) x first

owed_at : List ℕ → Option Fid × List ℕ
owed_at bytes = at_word (behind (codes "all ") bytes) (λ r. (None, r)) (read (fid_at bytes) (λ f t. (Some f, t)))

owed_row : (o : Option Fid) → IsWholeOwed o → (x rest : List ℕ) → owed_at ((owed_text o ++ 32 ∷ x) ++ rest) ≡ (o, x ++ rest)
unfolding owed_at
owed_row (Some f) whole x rest = rw (fid_refuses f (32 ∷ x) whole rest, fid_row f 32 whole refl x rest) refl
owed_row None whole x rest = refl

-- ---- reads

source_at : List ℕ → ReadSource × List ℕ
source_at bytes = at_word (behind (codes "cached ") bytes) (λ r. (Cached, r)) (Fetched, drop 8 bytes)

source_row : (s : ReadSource) (x rest : List ℕ) → source_at ((source_text s ++ 32 ∷ x) ++ rest) ≡ (s, x ++ rest)
unfolding source_at
source_row Cached x rest = refl
source_row Fetched x rest = refl

-- ---- lines

abbrev Found : Type 0
Found = Option (Line × List ℕ)

-- an act of an administrator, or else a client's
begun : Node → List ℕ → Option (AdminAct × List ℕ) → Found
begun n bytes (Some r) = Some (lines.BeginAdmin n r.0, r.1)
begun n bytes None = read (act_at bytes) (λ a t. Some (lines.Begin n a, t))

pub begin_at : List ℕ → Found
begin_at bytes = read (node_at bytes) (λ n r. begun n r (admin_act_at r))

pub given_at : List ℕ → Found
given_at bytes = read (number_at bytes) (λ p t. Some (lines.Given p, t))

pub grant_at : List ℕ → Found
grant_at bytes = read (node_at bytes) (λ s q. read (node_at q) (λ c r. read (fid_at r) (λ f u. read (number_at u) (λ i v. read (number_at v) (λ e t. Some (lines.Grant s c f i e, t))))))

pub change_at : List ℕ → Found
change_at bytes = read (node_at bytes) (λ s q. read (key_at q) (λ k r. read (number_at r) (λ n t. Some (lines.Change s k n, t))))

pub version_at : List ℕ → Found
version_at bytes = read (fid_at bytes) (λ f q. read (number_at q) (λ i r. read (number_at r) (λ d u. read (body_at u) (λ b t. Some (lines.Version (record { fid = f; index = i; data_version = d; body = b }), t)))))

pub read_at : List ℕ → Found
read_at bytes = read (node_at bytes) (λ c q. read (fid_at q) (λ f r. read (number_at r) (λ i u. read (source_at u) (λ s v. read (read_body_at v) (λ b t. Some (lines.Read c f i s b, t))))))

-- behind its code an answer ends, or tells that the act is stuck; else two releases stand there
answered : Node → ℤ → List ℕ → Found
answered n z bytes =
    at_word (behind (codes "\n") bytes) (λ t. Some (lines.Answer n (record { 0 = z }), t))
    (at_word (behind (codes " stuck\n") bytes) (λ t. Some (lines.Stuck n (record { 0 = z }), t))
    (read (number_at (drop 1 bytes)) (λ o r. read (number_at r) (λ s t. Some (lines.Older n o s, t)))))

pub answer_at : List ℕ → Found
answer_at bytes = read (node_at bytes) (λ n r. read (signed_open r) (answered n))

pub timeout_at : List ℕ → Found
timeout_at bytes = read (node_at bytes) (λ a q. read (node_at q) (λ b r. read (number_at r) (λ e u. read (number_at u) (λ n v. read (number_at v) (λ c t. Some (lines.Timeout a b e n c, t))))))

pub tick_at : List ℕ → Found
tick_at bytes = read (number_at bytes) (λ n t. Some (lines.Tick n, t))

pub stop_at : List ℕ → Found
stop_at bytes = read (node_at bytes) (λ n q. read (number_at q) (λ k r. read (number_at r) (λ p t. Some (lines.Stop n k p, t))))

pub fail_at : List ℕ → Found
fail_at bytes = read (node_at bytes) (λ n q. read (number_at q) (λ k t. Some (lines.Fail n k, t)))

pub crash_at : List ℕ → Found
crash_at bytes = read (node_at bytes) (λ n t. Some (lines.Crash n, t))

pub fault_at : List ℕ → Found
fault_at bytes = read (node_at bytes) (λ n t. Some (lines.Fault n, t))

pub restart_at : List ℕ → Found
restart_at bytes = read (node_at bytes) (λ n q. read (number_at q) (λ b t. Some (lines.Restart n b, t)))

pub full_at : List ℕ → Found
full_at bytes = read (node_at bytes) (λ n t. Some (lines.Full n, t))

pub drop_at : List ℕ → Found
drop_at bytes = read (node_at bytes) (λ c q. at_word (behind (codes "all ") q) (λ r. read (node_at r) (λ s t. Some (lines.DropAll c s, t))) (read (fid_at q) (λ f t. Some (lines.Drop c f, t))))

pub owe_at : List ℕ → Found
owe_at bytes = read (node_at bytes) (λ s q. read (node_at q) (λ c r. read (owed_at r) (λ f u. read (number_at u) (λ n t. Some (lines.Owe s c f n, t)))))

pub settle_at : List ℕ → Found
settle_at bytes = read (node_at bytes) (λ s q. read (node_at q) (λ c r. read (number_at r) (λ n t. Some (lines.Settle s c n, t))))

pub quit_at : List ℕ → Found
quit_at bytes = read (node_at bytes) (λ s q. read (node_at q) (λ c r. read (number_at r) (λ n t. Some (lines.Quit s c n, t))))

pub made_at : List ℕ → Found
made_at bytes = read (node_at bytes) (λ s q. read (number_at q) (λ v r. read (number_at r) (λ n t. Some (lines.Made s v n, t))))

pub fence_at : List ℕ → Found
fence_at bytes = read (number_at bytes) (λ v q. read (node_at q) (λ s t. Some (lines.Fence v s, t)))

pub enable_at : List ℕ → Found
enable_at bytes = read (number_at bytes) (λ v q. read (node_at q) (λ s t. Some (lines.Enable v s, t)))

pub vanish_at : List ℕ → Found
vanish_at bytes = read (number_at bytes) (λ v q. read (node_at q) (λ s t. Some (lines.Vanish v s, t)))

pub released_at : List ℕ → Found
released_at bytes = read (number_at bytes) (λ f q. read (number_at q) (λ v r. read (number_at r) (λ n u. read (node_at u) (λ s t. Some (lines.Released f v n s, t)))))

pub locked_at : List ℕ → Found
locked_at bytes = read (number_at bytes) (λ v q. read (number_at q) (λ s r. read (number_at r) (λ o t. Some (lines.Locked v s o, t))))

pub unlocked_at : List ℕ → Found
unlocked_at bytes = read (number_at bytes) (λ v t. Some (lines.Unlocked v, t))

pub recovered_at : List ℕ → Found
recovered_at bytes = read (number_at bytes) (λ v t. Some (lines.Recovered v, t))

pub located_at : List ℕ → Found
located_at bytes = read (number_at bytes) (λ v q. read (node_at q) (λ s t. Some (lines.Located v s, t)))

pub dumped_at : List ℕ → Found
dumped_at bytes = read (node_at bytes) (λ n q. read (named_at q) (λ l r. read (number_at r) (λ k t. Some (lines.Dumped n l k, t))))

unfoldable pub line_at : List ℕ → Option (Line × List ℕ)
line_at bytes =
    at_word (behind (codes "begin ") bytes) begin_at
    (at_word (behind (codes "given ") bytes) given_at
    (at_word (behind (codes "grant ") bytes) grant_at
    (at_word (behind (codes "change ") bytes) change_at
    (at_word (behind (codes "version ") bytes) version_at
    (at_word (behind (codes "read ") bytes) read_at
    (at_word (behind (codes "answer ") bytes) answer_at
    (at_word (behind (codes "timeout ") bytes) timeout_at
    (at_word (behind (codes "tick ") bytes) tick_at
    (at_word (behind (codes "stop ") bytes) stop_at
    (at_word (behind (codes "fail ") bytes) fail_at
    (at_word (behind (codes "crash ") bytes) crash_at
    (at_word (behind (codes "fault ") bytes) fault_at
    (at_word (behind (codes "restart ") bytes) restart_at
    (at_word (behind (codes "full ") bytes) full_at
    (at_word (behind (codes "drop ") bytes) drop_at
    (at_word (behind (codes "owe ") bytes) owe_at
    (at_word (behind (codes "settle ") bytes) settle_at
    (at_word (behind (codes "quit ") bytes) quit_at
    (at_word (behind (codes "made ") bytes) made_at
    (at_word (behind (codes "fence ") bytes) fence_at
    (at_word (behind (codes "enable ") bytes) enable_at
    (at_word (behind (codes "vanish ") bytes) vanish_at
    (at_word (behind (codes "released ") bytes) released_at
    (at_word (behind (codes "locked ") bytes) locked_at
    (at_word (behind (codes "unlocked ") bytes) unlocked_at
    (at_word (behind (codes "recovered ") bytes) recovered_at
    (at_word (behind (codes "located ") bytes) located_at
    (at_word (behind (codes "dumped ") bytes) dumped_at
    (at_word (behind (codes "void\n") bytes) (λ r. Some (lines.Void, r))
    None)))))))))))))))))))))))))))))

-- each line is read back, whatever stands behind it
pub line_again : (l : Line) → IsWholeLine l → (rest : List ℕ) → line_at (line_text l ++ rest) ≡ Some (l, rest)
unfolding line_at line_text begin_text given_text grant_text change_text version_text read_text answer_text timeout_text tick_text stop_text fail_text crash_text fault_text restart_text full_text drop_text drop_all_text owe_text settle_text quit_text made_text fence_text enable_text vanish_text released_text locked_text unlocked_text recovered_text located_text older_text stuck_text dumped_text begin_at begun given_at grant_at change_at version_at read_at answer_at answered timeout_at tick_at stop_at fail_at crash_at fault_at restart_at full_at drop_at owe_at settle_at quit_at made_at fence_at enable_at vanish_at released_at locked_at unlocked_at recovered_at located_at dumped_at
line_again (lines.Begin n a) whole rest = rw (node_row n 32 whole.0 refl, act_is_no_admins a (codes "\n") rest, act_row a whole.1 [] rest) refl
line_again (lines.Given p) whole rest = rw (number_row p 10 whole refl [] rest) refl
line_again (lines.Grant s c f i e) whole rest = rw (node_row s 32 whole.0 refl, node_row c 32 whole.1 refl, fid_row f 32 whole.2 refl, number_row i 32 whole.3 refl, number_row e 10 whole.4 refl [] rest) refl
line_again (lines.Change s k n) whole rest = rw (node_row s 32 whole.0 refl, key_row k 32 whole.1 refl, number_row n 10 whole.2 refl [] rest) refl
line_again (lines.Version v) whole rest = rw (fid_row v.fid 32 whole.0 refl, number_row v.index 32 whole.1 refl, number_row v.data_version 32 whole.2 refl, body_row v.body whole.3 [] rest) refl
line_again (lines.Read c f i s b) whole rest = rw (node_row c 32 whole.0 refl, fid_row f 32 whole.1 refl, number_row i 32 whole.2 refl, source_row s, read_body_row b whole.3 [] rest) refl
line_again (lines.Answer n code) whole rest = rw (node_row n 32 whole.0 refl, signed_before code.0 10 whole.1 refl [] rest) refl
line_again (lines.Timeout a b e n c) whole rest = rw (node_row a 32 whole.0 refl, node_row b 32 whole.1 refl, number_row e 46 whole.2 refl, number_row n 32 whole.3 refl, number_row c 10 whole.4 refl [] rest) refl
line_again (lines.Tick n) whole rest = rw (number_row n 10 whole refl [] rest) refl
line_again (lines.Stop n k p) whole rest = rw (node_row n 32 whole.0 refl, number_row k 32 whole.1 refl, number_row p 10 whole.2 refl [] rest) refl
line_again (lines.Fail n k) whole rest = rw (node_row n 32 whole.0 refl, number_row k 10 whole.1 refl [] rest) refl
line_again (lines.Crash n) whole rest = rw (node_row n 10 whole refl [] rest) refl
line_again (lines.Fault n) whole rest = rw (node_row n 10 whole refl [] rest) refl
line_again (lines.Restart n b) whole rest = rw (node_row n 32 whole.0 refl, number_row b 10 whole.1 refl [] rest) refl
line_again (lines.Full n) whole rest = rw (node_row n 10 whole refl [] rest) refl
line_again (lines.Drop c f) whole rest = rw (node_row c 32 whole.0 refl, fid_refuses f (10 ∷ []) whole.1 rest, fid_row f 10 whole.1 refl [] rest) refl
line_again (lines.DropAll c s) whole rest = rw (node_row c 32 whole.0 refl, node_row s 10 whole.1 refl [] rest) refl
line_again (lines.Owe s c f n) whole rest = rw (node_row s 32 whole.0 refl, node_row c 32 whole.1 refl, owed_row f whole.2, number_row n 10 whole.3 refl [] rest) refl
line_again (lines.Settle s c n) whole rest = rw (node_row s 32 whole.0 refl, node_row c 32 whole.1 refl, number_row n 10 whole.2 refl [] rest) refl
line_again (lines.Quit s c n) whole rest = rw (node_row s 32 whole.0 refl, node_row c 32 whole.1 refl, number_row n 10 whole.2 refl [] rest) refl
line_again (lines.Made s v n) whole rest = rw (node_row s 32 whole.0 refl, number_row v 32 whole.1 refl, number_row n 10 whole.2 refl [] rest) refl
line_again (lines.Fence v s) whole rest = rw (number_row v 32 whole.0 refl, node_row s 10 whole.1 refl [] rest) refl
line_again (lines.Enable v s) whole rest = rw (number_row v 32 whole.0 refl, node_row s 10 whole.1 refl [] rest) refl
line_again (lines.Vanish v s) whole rest = rw (number_row v 32 whole.0 refl, node_row s 10 whole.1 refl [] rest) refl
line_again (lines.Released f v n s) whole rest = rw (number_row f 32 whole.0 refl, number_row v 32 whole.1 refl, number_row n 32 whole.2 refl, node_row s 10 whole.3 refl [] rest) refl
line_again (lines.Locked v s o) whole rest = rw (number_row v 32 whole.0 refl, number_row s 32 whole.1 refl, number_row o 10 whole.2 refl [] rest) refl
line_again (lines.Unlocked v) whole rest = rw (number_row v 10 whole refl [] rest) refl
line_again (lines.Recovered v) whole rest = rw (number_row v 10 whole refl [] rest) refl
line_again (lines.Located v s) whole rest = rw (number_row v 32 whole.0 refl, node_row s 10 whole.1 refl [] rest) refl
line_again (lines.Older n o s) whole rest =
    let no_word = refuses_joined (codes "stuck\n") (decimal o) (codes " " ++ (decimal s ++ codes "\n")) (number_refuses o 115 (codes "tuck\n") whole.1 refl) rest in
    rw (node_row n 32 whole.0 refl, older_code, no_word, number_row o 32 whole.1 refl, number_row s 10 whole.2 refl [] rest) refl
line_again (lines.BeginAdmin n a) whole rest = rw (node_row n 32 whole.0 refl, admin_act_row a whole.1 [] rest) refl
line_again (lines.Stuck n code) whole rest = rw (node_row n 32 whole.0 refl, signed_before code.0 32 whole.1 refl (codes "stuck\n") rest) refl
line_again (lines.Dumped n l k) whole rest = rw (node_row n 32 whole.0 refl, named_row l 32 refl, number_row k 10 whole.1 refl [] rest) refl
line_again lines.Void whole rest = refl
