-- Where an act that changes something is answered 0, one of its calls changed it.
use Rattle.afs_num.specs.declared.types.Node.TheVariants.{Client}
use Rattle.spec_history.specs.Written.{bytes_in}
use Rattle.spec_history.specs.declared.acts.Written.{Written}
use Rattle.std.proofs.Common.{◌+◌, arith, ◌≡◌, ℕ, ℤ, Bool, true, false, cond, List, [], ◌∷◌, ◌++◌, Option, Some, None, nat_eq, pos, negsuc, refl, sym, ap, subst, ◌∙◌, inl, inr, eq-eqb, ◌⊎◌}
use Rattle.std.specs.Prelude.{◌&&◌, ◌||◌, ⊤, not}
use Rattle.spec_history.specs.declared.acts.Act.{Act}
use Rattle.spec_history.specs.declared.acts.Act.TheVariants as acts
use Rattle.spec_history.specs.declared.acts.Operand.{Operand}
use Rattle.spec_history.specs.declared.acts.Operand.TheVariants as operands
use Rattle.spec_history.specs.declared.acts.Path.{Path}
use Rattle.spec_history.specs.declared.lines.Line.{Line}
use Rattle.spec_history.specs.declared.lines.Line.TheVariants as lines
use Rattle.spec_ideal.specs.Operations.{Caller, Result, changes, no_operation, op, reads as reading_result, refused, the_user, volume_called, volume_changed, is_number}
use Rattle.spec_ideal.specs.Volumes.{Volume}
use Rattle.afs_num.specs.declared.calls.FsCall.{FsCall}
use Rattle.afs_num.specs.declared.calls.FsCall.TheVariants as calls
use Rattle.afs_num.specs.declared.directories.Name.{Name}
use Rattle.afs_num.specs.declared.histories.Actor.{Actor}
use Rattle.afs_num.specs.declared.histories.Body.{Body}
use Rattle.afs_num.specs.declared.histories.Body.TheVariants as bodies
use Rattle.spec_history.specs.declared.scripts.Script.{Script}
use Rattle.afs_num.specs.declared.types.Code.{Code}
use Rattle.afs_num.specs.declared.types.Fid.{Fid}
use Rattle.afs_num.specs.declared.types.Key.{Key}
use Rattle.afs_num.specs.declared.types.Node.{Node}
use Rattle.law_legal.proofs.BaseLaws.{some_of}
use Rattle.law_legal.proofs.BaseWords.{is_passing}
use Rattle.law_legal.proofs.ActNeedsNext.{as_changed}
use Rattle.law_legal.proofs.VolumeOperations.{op_code, op_is, reads_is, shown_reads}
use Rattle.law_legal.specs.Ideal.{set_up_entry, volume_after}
use Rattle.law_legal.specs.Laws.{IsChangingAct, IsMade}
use Rattle.law_legal.specs.Legal.{IsOfClient, as_asked, AreGood, EndsAct, GoodCode, HasChange, IsGood, ChangeIsTold, Legal, LegalAfter, ideal_answer, answer_on, code_given, op_on, IsUnlisted, IsUnheardOf, IsGone}
use Rattle.law_legal.specs.Once.{past_of}
use Rattle.law_legal.specs.Past.{answered_key, lines_of, onto, running}
use Rattle.spec_rows.specs.Going.{stored_whole, asked, Going, Homes, Need, Parted, ReadShown, TakenRead, act_needs, answers, asks_for, at_parent, by_body, call_for, fid_of, first_body, gives_back, in_directory, in_home, is_even, is_last_name, is_root_path, looked_up, next, parted, reads, reads_rights, reads_status, reads_statuses, root_of, step_to, to_object, to_parent, walk, locates, no_entry}
use Rattle.spec_rows.specs.Runs.{Entry}

-- ---- what an act needs that changes something: at its end a change, and no answer 0 before

abbrev IsUndone : Need → Type 0
IsUndone (asks_for call) = volume_changed call ≡ None → ⊥
IsUndone gives_back = ⊥
IsUndone (answers n) = n ≡ 0 → ⊥
IsUndone need = ⊤

-- it is so of what is read, and of what is answered but 0
record OfNeeds (P : Need → Type 0) : Type 0 where
  read : (f : Fid) → P (reads f)
  refused : (n : ℕ) → (n ≡ 0 → ⊥) → P (answers n)
  located : (o : Operand) → P (locates o)

some_code : (n : ℕ) → n + 1 ≡ 0 → ⊥
some_code n e = absurd (omega (arith, e))

of_reading : (P : Need → Type 0) → OfNeeds P → (f : Fid) (more : Body → List ReadShown → Need) (o : Option (TakenRead Body)) → ((b : Body) (rest : List ReadShown) → P (more b rest)) → P (by_body f more o)
of_reading P q f more None w = q.read f
of_reading P q f more (Some t) w = w t.found t.rest

of_even : (P : Need → Type 0) → OfNeeds P → (b : Bool) (need : Need) → P need → P (cond b (answers 20) need)
of_even P q true need w = q.refused 20 (some_code 19)
of_even P q false need w = w

of_step : (P : Need → Type 0) → OfNeeds P → (inner : Bool) (more : Fid → Need) (volume : ℕ) (o : Option (Option Name)) → ((f : Fid) → P (more f)) → P (step_to inner more volume o)
of_step P q inner more volume None w = q.refused 20 (some_code 19)
of_step P q inner more volume (Some None) w = q.refused 2 (some_code 1)
of_step P q inner more volume (Some (Some n)) w = of_even P q (inner && is_even n.vnode) (more (fid_of volume n)) (w (fid_of volume n))

of_walk : (P : Need → Type 0) → OfNeeds P → (all : Bool) (more : Fid → List ReadShown → Need) (names : List (List ℕ)) (rs : List ReadShown) (d : Fid) → ((f : Fid) (rest : List ReadShown) → P (more f rest)) → P (walk all more names rs d)
of_walk P q all more [] rs d w = w d rs
of_walk P q all more (name ∷ names) rs d w =
    of_reading P q d _ (first_body d rs) (λ b rest. of_step P q (all || not (is_last_name names)) (walk all more names rest) d.volume (looked_up name b) (λ f. of_walk P q all more names rest f w))

of_home : (P : Need → Type 0) → OfNeeds P → (o : Operand) (home : Option ℕ) (more : ℕ → Need) → ((id : ℕ) → P (more id)) → P (in_home o home more)
of_home P q o None more w = q.located o
of_home P q o (Some id) more w = w id

of_object : (P : Need → Type 0) → OfNeeds P → (home : Option ℕ) (o : Operand) (rs : List ReadShown) (more : Fid → List ReadShown → Need) → ((f : Fid) (rest : List ReadShown) → P (more f rest)) → P (to_object home o rs more)
of_object P q home (operands.Fid f) rs more w = of_home P q (operands.Fid f) home _ (λ id. w f rs)
of_object P q home (operands.Path p) rs more w = of_home P q (operands.Path p) home _ (λ id. of_walk P q false more p.names rs (root_of id) w)

of_undone : OfNeeds IsUndone
of_undone = record { read = λ f. tt; refused = λ n some. some; located = λ o. tt }

directory_undone : (need : Need) (b : Body) → IsUndone need → IsUndone (in_directory need b)
directory_undone need (bodies.File k) w = λ e. absurd cc
directory_undone need (bodies.Dir k) w = w
directory_undone need (bodies.Link k) w = λ e. absurd cc
directory_undone need bodies.Gone w = λ e. absurd cc

parent_by : (a : Operand) (home : Option ℕ) (o : Option Parted) (rs : List ReadShown) (more : Fid → List ℕ → List ReadShown → Need) → ((f : Fid) (name : List ℕ) (rest : List ReadShown) → IsUndone (more f name rest)) → IsUndone (at_parent a home rs more o)
parent_by a home None rs more w = λ e. absurd cc
parent_by a home (Some p) rs more w =
    of_home IsUndone of_undone a home _ (λ id. of_walk IsUndone of_undone true _ p.front rs (root_of id) (λ d rest. of_reading IsUndone of_undone d _ (first_body d rest) (λ b later. directory_undone (more d p.last later) b (w d p.last later))))

parent_undone : (home : Option ℕ) (p : Path) (rs : List ReadShown) (more : Fid → List ℕ → List ReadShown → Need) → ((f : Fid) (name : List ℕ) (rest : List ReadShown) → IsUndone (more f name rest)) → IsUndone (to_parent home p rs more)
parent_undone home p rs more w = parent_by (operands.Path p) home (parted p.names) rs more w

one_undone : (b : Bool) (need : Need) → IsUndone need → IsUndone (cond b need (answers 22))
one_undone true need w = w
one_undone false need w = λ e. absurd cc

root_undone : (b : Bool) (need : Need) → IsUndone need → IsUndone (cond b (answers 22) need)
root_undone true need w = λ e. absurd cc
root_undone false need w = w

act_undone : (h : Homes) (a : Act) (rs : List ReadShown) → IsChangingAct a → IsUndone (act_needs h a rs)
act_undone h (acts.Close o contents) rs is = of_object IsUndone of_undone h.first o rs _ (λ f rest e. absurd cc)
act_undone h (acts.SetMode o mode) rs is = of_object IsUndone of_undone h.first o rs _ (λ f rest e. absurd cc)
act_undone h (acts.SetAccessList o text) rs is = of_object IsUndone of_undone h.first o rs _ (λ f rest e. absurd cc)
act_undone h (acts.Make p) rs is = parent_undone h.first p rs _ (λ d name rest e. absurd cc)
act_undone h (acts.MakeDirectory p) rs is = parent_undone h.first p rs _ (λ d name rest e. absurd cc)
act_undone h (acts.Symlink p target) rs is = parent_undone h.first p rs _ (λ d name rest e. absurd cc)
act_undone h (acts.Remove p) rs is = parent_undone h.first p rs _ (λ d name rest e. absurd cc)
act_undone h (acts.RemoveDirectory p) rs is = parent_undone h.first p rs _ (λ d name rest e. absurd cc)
act_undone h (acts.Move p q) rs is =
    root_undone (is_root_path p || is_root_path q) _ (parent_undone h.first p rs _ (λ d old rest. parent_undone h.second q rest _ (λ e new later. one_undone (nat_eq d.volume e.volume) _ (λ z. absurd cc))))
act_undone h (acts.Link p q) rs is =
    root_undone (is_root_path q) _ (of_object IsUndone of_undone h.first (operands.Path p) rs _ (λ f rest. parent_undone h.second q rest _ (λ d name later. one_undone (nat_eq f.volume d.volume) _ (λ z. absurd cc))))
act_undone h a rs is = absurd is

-- ---- what a close ends with: its bytes are stored

abbrev IsStore : List ℕ → Need → Type 0
IsStore bytes (asks_for call) = (f : Fid) × (call ≡ stored_whole f bytes)
IsStore bytes gives_back = ⊥
IsStore bytes need = ⊤

close_stores : (g : Going) (o : Operand) (contents : Written) → g.act ≡ acts.Close o contents → IsStore (bytes_in contents) (next g)
close_stores g o contents is =
    subst (λ (a : Act). IsStore (bytes_in contents) (act_needs g.homes a g.reads)) (sym is) (of_object (IsStore (bytes_in contents)) (record { read = λ f. tt; refused = λ n some. tt; located = λ o. tt }) g.homes.first o g.reads _ (λ f rest. (f, refl)))

store_ends : (bytes : List ℕ) (need : Need) → IsStore bytes need → EndsAct need → (f : Fid) × (call_for need ≡ stored_whole f bytes)
store_ends bytes (asks_for call) h e = h
store_ends bytes gives_back h e = absurd h
store_ends bytes (reads f) h e = absurd e
store_ends bytes (reads_status f) h e = absurd e
store_ends bytes (reads_statuses fs) h e = absurd e
store_ends bytes (reads_rights f) h e = absurd e
store_ends bytes (locates o) h e = absurd e
store_ends bytes (answers n) h e = absurd e

-- ---- a changing call that is answered 0 was told

passing_zero : (code : ℕ) → is_passing (pos code) ≡ false → pos code ≡ pos 0 → ⊥
passing_zero code not e = let yes : is_passing (pos code) ≡ true = ap is_passing e in absurd cc

by_result : (id : ℕ) (caller : Caller) (call : FsCall) (v : Volume) (k : Key) (ls : List Line) (r : Result) → volume_called call ≡ Some id → (volume_changed call ≡ None → ⊥) → op id caller call v ≡ r → code_given (Some r) ≡ pos 0 → ChangeIsTold k (Some r) ls → HasChange k ls
by_result id caller call v k ls (refused code) of some is zero told = absurd (passing_zero code (op_code id caller call v code of is) zero)
by_result id caller call v k ls (reading_result shown) of some is zero told = absurd (some (shown_reads call v shown (reads_is id caller call v shown of is)))
by_result id caller call v k ls (changes es shown) of some is zero told = told
by_result id caller call v k ls no_operation of some is zero told = absurd (op_is id caller call v of is)

by_volume : (user : List ℕ) (call : FsCall) (id : ℕ) (o : Option Volume) (k : Key) (ls : List Line) → volume_called call ≡ Some id → (volume_changed call ≡ None → ⊥) → code_given (Some (op_on id (the_user user) call o)) ≡ pos 0 → ChangeIsTold k (Some (op_on id (the_user user) call o)) ls → HasChange k ls
by_volume user call id None k ls of some zero told = absurd cc
by_volume user call id (Some v) k ls of some zero told = by_result id (the_user user) call v k ls (op id (the_user user) call v) of some refl zero told

by_called : (user : List ℕ) (call : FsCall) (past : List Entry) (o : Option ℕ) (k : Key) (ls : List Line) → volume_called call ≡ o → (volume_changed call ≡ None → ⊥) → code_given (answer_on user call o past) ≡ pos 0 → ChangeIsTold k (answer_on user call o past) ls → HasChange k ls
by_called user call past None k ls of some zero told = absurd cc
by_called user call past (Some id) k ls of some zero told = by_volume user call id (volume_after id past) k ls of some zero told

by_call : (user : List ℕ) (call : FsCall) (past : List Entry) (k : Key) (ls : List Line) → (volume_changed call ≡ None → ⊥) → code_given (ideal_answer user call past) ≡ pos 0 → ChangeIsTold k (ideal_answer user call past) ls → HasChange k ls
by_call user (calls.GiveUpCallBacks fids callbacks) past k ls some zero told = absurd (some refl)
by_call user calls.GetTime past k ls some zero told = absurd (some refl)
by_call user (calls.BulkStatus fids) past k ls some zero told = absurd (some refl)
by_call user call past k ls some zero told = by_called user call past (volume_called call) k ls refl some zero told

-- ---- the answer

ending : (need : Need) → IsUndone need → EndsAct need → volume_changed (call_for need) ≡ None → ⊥
ending (reads f) w e = absurd e
ending (reads_status f) w e = absurd e
ending (reads_statuses fs) w e = absurd e
ending (reads_rights f) w e = absurd e
ending (asks_for call) w e = w
ending gives_back w e = absurd w
ending (locates o) w e = absurd e
ending (answers n) w e = absurd e

answer_number : (code : ℤ) (n : ℕ) → code ≡ pos n → code ≡ pos 0 → n ≡ 0
answer_number code n a b = let e : pos n ≡ pos 0 = sym a ∙ b in cc

no_entry_zero : (code : ℤ) → code ≡ pos no_entry → code ≡ pos 0 → ⊥
no_entry_zero code a b = let e : pos no_entry ≡ pos 0 = sym a ∙ b in let f : is_number (pos no_entry) 0 ≡ true = ap (λ (z : ℤ). is_number z 0) e in absurd cc

told_apart : (n k : ℕ) (code : ℤ) → code ≡ pos n → nat_eq n k ≡ false → code ≡ pos k → ⊥
told_apart n k code a ne b = let same : n ≡ k = numbers n k (sym a ∙ b) in let yes : nat_eq n k ≡ true = eq-eqb n k same in let no_ : true ≡ false = sym yes ∙ ne in absurd cc
  where
    numbers : (n k : ℕ) → pos n ≡ pos k → n ≡ k
    numbers n k e = cc

-- of another code that what the location database told is no cause
pub not_sought : (s : Script) (c : Node) (act : Going) (code : ℤ) (past : List Entry) (own : List Line) (n : ℕ) → code ≡ pos n → nat_eq n 103 ≡ false → nat_eq n 111 ≡ false → nat_eq n no_entry ≡ false → IsUnlisted s c act code past own ⊎ (IsUnheardOf s c act code past own ⊎ IsGone s c act code past own) → ⊥
not_sought s c act code past own n e a b d (inl x) = told_apart n no_entry code e d x.is
not_sought s c act code past own n e a b d (inr (inl x)) = let z : pos n ≡ negsuc 0 = sym e ∙ x.is in absurd cc
not_sought s c act code past own n e a b d (inr (inr x)) = elim x.is [ inl y ↦ elim x.refused.gone [ inl z ↦ told_apart n 103 code e a (y.0 ∙ z) | inr z ↦ told_apart n 111 code e b (y.0 ∙ z) ] | inr y ↦ told_apart n no_entry code e d y.0 ]

no_gone : (code : ℤ) → code ≡ pos 103 → code ≡ pos 0 → ⊥
no_gone code a b = let e : pos 103 ≡ pos 0 = sym a ∙ b in absurd cc

no_moved : (code : ℤ) → code ≡ pos 111 → code ≡ pos 0 → ⊥
no_moved code a b = let e : pos 111 ≡ pos 0 = sym a ∙ b in absurd cc

no_room : (code : ℤ) → code ≡ pos 108 → code ≡ pos 0 → ⊥
no_room code a b = let e : pos 108 ≡ pos 0 = sym a ∙ b in absurd cc

no_death : (code : ℤ) → code ≡ negsuc 0 → code ≡ pos 0 → ⊥
no_death code a b = let e : negsuc 0 ≡ pos 0 = sym a ∙ b in absurd cc

-- what was made, by a call of just this act
pub record MadeBy (s : Script) (c : Node) (act : Going) (past : List Entry) (own : List Line) : Type 0 where
  pub made : IsMade c past own
  pub client : (n : ℕ) × (c ≡ Client n)
  pub asks : as_asked made.call ≡ asked act
  pub stores : (o : Operand) (contents : Written) → act.act ≡ acts.Close o contents → (f : Fid) × (asked act ≡ stored_whole f (bytes_in contents))

made : (s : Script) (c : Node) (code : Code) (past : List Entry) (own : List Line) (act : Going) → GoodCode s c code past own → running s c (own ++ lines_of past) ≡ Some act → IsChangingAct act.act → code.0 ≡ pos 0 → (n : ℕ) × (c ≡ Client n) → MadeBy s c act past own
made s c code past own act g runs is zero client =
    let one : g.act ≡ act = some_of g.act act (sym g.runs ∙ runs) in
    let undone : IsUndone (next g.act) = subst (λ (a : Going). IsUndone (next a)) (sym one) (act_undone act.homes act.act act.reads is) in
    elim g.cause [
      | inl x ↦
          let some : volume_changed x.cause.call ≡ None → ⊥ = λ z. ending (next g.act) undone (x.ends zero) (ap volume_changed (sym x.cause.asks) ∙ (as_changed x.cause.call ∙ z)) in
          record {
            made = record {
              key = answered_key x.reply.head;
              node = x.to;
              user = x.cause.user;
              call = x.cause.call;
              called = x.called;
              told = elim x.cause.result [
                | inl y ↦ by_call x.cause.user x.cause.call x.cause.ran.older (answered_key x.reply.head) (own ++ lines_of past) some (y.0 ∙ zero) y.1
                | inr y ↦ absurd (no_room code.0 y.0 zero)
              ];
            };
            client = client;
            asks = x.cause.asks ∙ ap asked one;
            stores = λ o contents is'. store_ends (bytes_in contents) (next act) (close_stores act o contents is') (subst (λ (a : Going). EndsAct (next a)) one (x.ends zero));
          }
      | inr y ↦ elim y [
        | inl x ↦ absurd (subst IsUndone x.by undone (answer_number code.0 x.number x.is zero))
        | inr z ↦ elim z [
          | inl x ↦ absurd (no_death code.0 x.is zero)
          | inr u ↦ elim u [
            | inl x ↦ absurd (subst IsUndone x.by undone)
            | inr w ↦ elim w [
              | inl x ↦ absurd (no_entry_zero code.0 x.is zero)
              | inr t ↦ elim t [
                | inl x ↦ absurd (no_death code.0 x.is zero)
                | inr x ↦ absurd (elim x.is [ inl a ↦ elim x.refused.gone [ inl b ↦ no_gone code.0 (a.0 ∙ b) zero | inr b ↦ no_moved code.0 (a.0 ∙ b) zero ] | inr a ↦ no_entry_zero code.0 a.0 zero ])
              ]
            ]
          ]
        ]
      ]
    ]

client_of : (who : Actor) (c : Node) → IsOfClient who c → (n : ℕ) × (c ≡ Client n)
client_of who (Client n) h = (n, refl)
client_of who c h = absurd h

-- ---- where a line of a legal history stands it is good

pub good_in : (s : Script) (past before after : List Entry) (e : Entry) → LegalAfter s past (before ++ (e ∷ after)) → AreGood s e.actor (past_of past before) [] e.lines
good_in s past [] after e h = h.0.0.0
good_in s past (b ∷ before) after e h = good_in s (b ∷ past) before after e h.1

good_behind : (s : Script) (who : Actor) (past : List Entry) (own first : List Line) (l : Line) (rest : List Line) → AreGood s who past own (first ++ l ∷ rest) → IsGood s who l past (onto own first) rest
good_behind s who past own [] l rest h = h.0
good_behind s who past own (k ∷ first) l rest h = good_behind s who past (k ∷ own) first l rest h.1

pub acknowledged_by : (s : Script) (history before after : List Entry) (e : Entry) (first rest : List Line) (c : Node) (code : Code) (act : Going) → Legal history s → history ≡ before ++ (e ∷ after) → e.lines ≡ first ++ lines.Answer c code ∷ rest
    → running s c (onto [] first ++ lines_of (past_of (set_up_entry s ∷ []) before)) ≡ Some act → IsChangingAct act.act → code.0 ≡ pos 0 → MadeBy s c act (past_of (set_up_entry s ∷ []) before) (onto [] first)
acknowledged_by s history before after e first rest c code act legal split line runs is zero =
    let past : List Entry = past_of (set_up_entry s ∷ []) before in
    let all : AreGood s e.actor past [] (first ++ lines.Answer c code ∷ rest) = subst (AreGood s e.actor past []) line (good_in s (set_up_entry s ∷ []) before after e (subst (LegalAfter s (set_up_entry s ∷ [])) split legal)) in
    let g = good_behind s e.actor past [] first (lines.Answer c code) rest all in
    made s c code past (onto [] first) act g.1 runs is zero (client_of e.actor c g.0.0)

pub acknowledged : (s : Script) (history before after : List Entry) (e : Entry) (first rest : List Line) (c : Node) (code : Code) (act : Going) → Legal history s → history ≡ before ++ (e ∷ after) → e.lines ≡ first ++ lines.Answer c code ∷ rest
    → running s c (onto [] first ++ lines_of (past_of (set_up_entry s ∷ []) before)) ≡ Some act → IsChangingAct act.act → code.0 ≡ pos 0 → IsMade c (past_of (set_up_entry s ∷ []) before) (onto [] first)
acknowledged s history before after e first rest c code act legal split line runs is zero = (acknowledged_by s history before after e first rest c code act legal split line runs is zero).made
