-- A worked history, and some that are refused, each for one reason.
use Rattle.std.proofs.Common.{◌≡◌, ℕ, inl, inr, List, [], ◌∷◌, ◌++◌, Option, Some, None, refl, sym, subst}
use Rattle.afs_num.specs.declared.calls.FsReply.TheVariants as replies
use Rattle.afs_num.specs.declared.histories.Actor.TheVariants as actors
use Rattle.afs_num.specs.declared.messages.Message.{Message}
use Rattle.afs_num.specs.declared.types.Fid.{Fid}
use Rattle.afs_num.specs.declared.types.Node.{Node}
use Rattle.afs_num.specs.declared.types.Node.TheVariants.{Client, Server}
use Rattle.spec_history.specs.declared.lines.Line.{Line}
use Rattle.spec_history.specs.declared.lines.Line.TheVariants as lines
use Rattle.spec_breaks.specs.declared.types.OwedBreak.{OwedBreak}
use Rattle.law_legal.specs.Breaks.{HasDrop, HasOwe}
use Rattle.spec_rows.specs.Callbacks.{break_message, breaks_call}
use Rattle.spec_rows.specs.ClientRow.{reply_carried}
use Rattle.spec_rows.specs.Runs.{Entry}
use Rattle.spec_rows.specs.ServerRow.{replied}
use Rattle.law_settled.proofs.CopyAnswers.{front_drops}
use Rattle.law_settled.specs.Settles.{HasDropSince, IsSettledBehindDrop, SettleBehindDrops}

-- an entry of this node with such lines and messages
abbrev tells : Node → List Line → List Message → Entry
tells n ls ms = record { actor = actors.Node n; lines = ls; sent = ms; volumes = [] }

abbrev file : Fid
file = record { volume = 1; vnode = 2; unique = 2 }

-- the first server owes the first client its break 1, on a file
abbrev broken : OwedBreak
broken = record { number = 1; client = Client 1; what = Some file; expiry = 7200 }

abbrev owes : Line
owes = lines.Owe (Server 1) (Client 1) (Some file) 1

abbrev settles : Line
settles = lines.Settle (Server 1) (Client 1) 1

-- its call 1 in boot 1 carries that, and the client answers it
abbrev asks : Message
asks = break_message (Server 1) 1 (Client 1) 1 (record { number = 1; tries = 0; content = broken ∷ [] })

abbrev answers : Message
answers = replied 1 asks.head (reply_carried replies.CallBack)

abbrev drops : Line
drops = lines.Drop (Client 1) file

abbrev owed : Entry
owed = tells (Server 1) (owes ∷ []) (asks ∷ [])

abbrev dropped : Entry
dropped = tells (Client 1) (lines.Given 1 ∷ drops ∷ []) (answers ∷ [])

settled : IsSettledBehindDrop (actors.Node (Server 1)) (Server 1) (Client 1) 1 (dropped ∷ owed ∷ []) (lines.Given 2 ∷ [])
settled = record {
  own_entry = refl;
  drop = record { what = Some file; newer = lines.Given 2 ∷ drops ∷ lines.Given 1 ∷ []; base = []; split = refl; up = λ x. x; dropped = inl (refl, refl) };
  settle = record {
    going = λ x. x;
    reply = answers;
    by = refl;
    is = tt;
    to = refl;
    from = refl;
    what = Some file;
    back = record {
      carried = record {
        user = [];
        call = breaks_call (broken ∷ []);
        sent = record { newer = dropped ∷ []; at = owed; older = []; split = refl; sent = inl (refl, (refl, refl)); first = refl };
        carries = inl refl;
        owe = record { newer = []; base = []; split = refl; up = λ x. x };
        up = λ x. x;
      };
      dropped = inl (refl, refl);
    };
  };
}

-- the break becomes owed and is carried to the client; the client drops the file and answers; the server settles the break
right : SettleBehindDrops [] (owed ∷ dropped ∷ tells (Server 1) (lines.Given 2 ∷ settles ∷ []) [] ∷ [])
right = ((tt, tt), ((tt, (tt, tt)), ((tt, (settled, tt)), tt)))

-- ---- what the lines before must have

drop_in : (s c : Node) (n : ℕ) (ls : List Line) (h : HasDropSince s c n ls) → HasDrop s c h.what ls
drop_in s c n ls h = subst (HasDrop s c h.what) (sym h.split) (front_drops h.newer (lines.Owe s c h.what n ∷ h.base) s c h.what h.dropped)

owe_in : (s c : Node) (what : Option Fid) (n : ℕ) (newer base : List Line) → HasOwe s c what (newer ++ (lines.Owe s c what n ∷ base))
owe_in s c what n [] base = inl (refl, (refl, refl))
owe_in s c what n (lines.Owe q d w k ∷ newer) base = inr (owe_in s c what n newer base)
owe_in s c what n (l ∷ newer) base = owe_in s c what n newer base

owed_in : (s c : Node) (n : ℕ) (ls : List Line) (h : HasDropSince s c n ls) → HasOwe s c h.what ls
owed_in s c n ls h = subst (HasOwe s c h.what) (sym h.split) (owe_in s c h.what n h.newer h.base)

-- ---- refused

-- the client answers without a drop
undropped : SettleBehindDrops [] (owed ∷ tells (Client 1) (lines.Given 1 ∷ []) (answers ∷ []) ∷ tells (Server 1) (lines.Given 2 ∷ settles ∷ []) [] ∷ []) → ⊥
undropped h = absurd (drop_in (Server 1) (Client 1) 1 _ h.1.1.0.1.0.drop)

-- the server was given no answer
unanswered : SettleBehindDrops [] (owed ∷ dropped ∷ tells (Server 1) (settles ∷ []) [] ∷ []) → ⊥
unanswered h = let by = h.1.1.0.0.settle.by in absurd cc

-- it wasn't owed
unowed : SettleBehindDrops [] (tells (Server 1) [] (asks ∷ []) ∷ dropped ∷ tells (Server 1) (lines.Given 2 ∷ settles ∷ []) [] ∷ []) → ⊥
unowed h = absurd (owed_in (Server 1) (Client 1) 1 _ h.1.1.0.1.0.drop)

-- another server's
of_another : SettleBehindDrops [] (owed ∷ dropped ∷ tells (Server 2) (lines.Given 2 ∷ settles ∷ []) [] ∷ []) → ⊥
of_another h = let no = h.1.1.0.1.0.own_entry in absurd cc
