-- The course of an administrator's acts: what it asked under each number of its calls, and how it came from one question to the next.
use Rattle.std.specs.Prelude.{◌≡◌, ◌⊎◌, ◌≤◌, ◌<◌, ⊤, ℕ, zero, suc, List, [], ◌∷◌, ◌++◌, ◌&&◌, nat_eq, Option, Some, None, if◌then◌else◌}
use Rattle.afs_num.specs.declared.messages.Call.{Call}
use Rattle.afs_num.specs.declared.messages.Carried.TheVariants as carried
use Rattle.afs_num.specs.declared.messages.Message.{Message}
use Rattle.afs_num.specs.declared.messages.Reply.{Reply}
use Rattle.afs_num.specs.declared.types.Code.{Code}
use Rattle.afs_num.specs.declared.types.Head.{Head}
use Rattle.afs_num.specs.declared.types.Node.TheVariants.{Admin}
use Rattle.spec_history.specs.declared.scripts.AdminAct.TheVariants as orders
use Rattle.spec_history.specs.declared.scripts.Script.{Script}
use Rattle.spec_adminrows.specs.Acts.{answered, asks_at, begins_with, refused}
use Rattle.spec_adminrows.specs.AdminRow.{errand_of, AdminState}
use Rattle.spec_adminrows.specs.declared.places.Cause.TheVariants as causes
use Rattle.spec_adminrows.specs.declared.places.Place.{Place}
use Rattle.spec_adminrows.specs.declared.places.Place.TheVariants as places
use Rattle.spec_adminrows.specs.declared.turns.Ask.{Ask}
use Rattle.spec_adminrows.specs.declared.turns.Errand.{Errand}
use Rattle.spec_adminrows.specs.declared.turns.Running.{Running}
use Rattle.spec_adminrows.specs.declared.turns.Turn.{Turn}
use Rattle.spec_adminrows.specs.declared.turns.Turn.TheVariants as turns
use Rattle.spec_rows.specs.Runs.{message_at}
use Rattle.spec_runs.specs.NodeRuns.{node_moved, node_start, CellInput, NodeCell}
use Rattle.law_places.specs.Accepting.{cell_behind}

-- ---- questions

-- for which act, in a cell of how many servers, and at which place of the act
pub record Question : Type 0 where
  pub errand : Errand
  pub place : Place

abbrev pub ask_in : Question → Ask
ask_in q = asks_at q.errand q.place

-- what each administrator asked, by its number, its epoch, and the number of the call
abbrev pub Course : Type 0
Course = ℕ → ℕ → ℕ → Question

-- what it asks now
abbrev pub question_now : AdminState → Running → Question
question_now a r = record { errand = errand_of a r.act; place = r.place }

-- ---- from one to the next

abbrev pub LeadsTo : Place → Turn → Type 0
LeadsTo p (turns.Goes q) = q ≡ p
LeadsTo p (turns.Keeps label bytes q) = q ≡ p
LeadsTo p (turns.Ends code) = ⊥
LeadsTo p (turns.Sticks code) = ⊥
LeadsTo p turns.Passes = ⊥

-- its act begins with the question
abbrev pub Begins : Question → Type 0
Begins q = (held : Option (List ℕ)) × LeadsTo q.place (begins_with q.errand.act held)

-- The question before was answered: a reply to it was sent, by whom it was to; and that leads to this one, in the same act.
pub record WasAnswered (sent : List Message) (n epoch number : ℕ) (before q : Question) : Type 0 where
  pub same : q.errand ≡ before.errand
  pub place : ℕ
  pub m : Message
  pub there : message_at sent place ≡ Some m
  pub to : m.head.to ≡ Admin n
  pub in_epoch : m.head.epoch ≡ epoch
  pub of_number : m.head.number ≡ number
  pub callee : m.head.from ≡ (ask_in before).callee
  pub reply : Reply
  pub says : m.carried ≡ carried.Reply reply
  pub leads : LeadsTo q.place (answered before.errand before.place reply)

-- it was refused, or given up
pub record WasRefused (before q : Question) : Type 0 where
  pub same : q.errand ≡ before.errand
  pub code : Code
  pub leads : LeadsTo q.place (refused before.place code)

abbrev pub Follows : List Message → ℕ → ℕ → ℕ → Question → Question → Type 0
Follows sent n epoch number before q = Begins q ⊎ (WasAnswered sent n epoch number before q ⊎ WasRefused before q)

-- Up to this number each question follows from the one before. Under 0 none is asked.
abbrev pub Way : Course → List Message → ℕ → ℕ → ℕ → Type 0
Way course sent n epoch zero = ⊤
Way course sent n epoch (suc k) = Follows sent n epoch k (course n epoch k) (course n epoch (suc k)) × Way course sent n epoch k

-- ---- calls and acts on their course

-- no later than its last call
abbrev pub IsUpTo : ℕ → ℕ → AdminState → Type 0
IsUpTo epoch number a = (epoch < a.epoch) ⊎ ((epoch ≡ a.epoch) × (number ≤ a.last))

-- an administrator's call is the question under its number, whatever boot of its callee it names, and however often it is sent
pub record IsOnCourse (course : Course) (sent : List Message) (n : ℕ) (a : AdminState) (head : Head) (call : Call) : Type 0 where
  pub up_to : IsUpTo head.epoch head.number a
  pub asks : (ask_in (course n head.epoch head.number)).call ≡ call
  pub stamp : head.stamp ≡ (ask_in (course n head.epoch head.number)).stamp
  pub callee : head.to ≡ (ask_in (course n head.epoch head.number)).callee
  pub way : Way course sent n head.epoch head.number

-- the act that runs is at the question under the last number
pub record ActIsOnCourse (course : Course) (n : ℕ) (a : AdminState) (r : Running) : Type 0 where
  pub now : course n a.epoch a.last ≡ question_now a r

-- Each act that runs is at the question under the last number of its administrator, and each call that an administrator ever sent is the
-- question under its number.
pub record AreOnCourse (course : Course) (c : NodeCell) : Type 0 where
  pub ways : (n : ℕ) → Way course c.sent n (c.admins n).epoch (c.admins n).last
  pub acts : (n : ℕ) (r : Running) → (c.admins n).running ≡ Some r → ActIsOnCourse course n (c.admins n) r
  pub calls : (place n : ℕ) (m : Message) (user : List ℕ) (call : Call) → message_at c.sent place ≡ Some m → m.head.from ≡ Admin n → m.carried ≡ carried.Call user call → IsOnCourse course c.sent n (c.admins n) m.head call

-- ---- the course of a run

-- what an administrator asks now stands under the last number of its calls
abbrev pub question_noted : AdminState → Option Running → ℕ → ℕ → Question → Question
question_noted a None epoch number q = q
question_noted a (Some r) epoch number q = if nat_eq epoch a.epoch && nat_eq number a.last then question_now a r else q

abbrev pub course_on : Course → (ℕ → AdminState) → Course
course_on course admins n epoch number = question_noted (admins n) (admins n).running epoch number (course n epoch number)

-- behind these inputs
abbrev pub course_behind : Course → NodeCell → List CellInput → Course
course_behind course c [] = course
course_behind course c (x ∷ xs) = course_behind (course_on course (node_moved c x).cell.admins) (node_moved c x).cell xs

-- at first nothing is asked. What stands here under numbers that no call has is looked at by nothing.
abbrev pub no_course : Course
no_course n epoch number = record { errand = record { act = orders.Recover []; servers = 0 }; place = places.Seeks causes.Asked }

abbrev pub course_in : Script → List CellInput → Course
course_in s inputs = course_behind no_course (node_start s) inputs

-- ---- the law

-- In every run of every script: under each number an administrator asks one question, and asks no other under it ever; and each question
-- follows from the one before.
pub record CallsAreOnCourse : Type 0 where
  pub on : (s : Script) (inputs : List CellInput) → AreOnCourse (course_in s inputs) (cell_behind (node_start s) inputs)
  pub stays : (s : Script) (inputs later : List CellInput) (n epoch number : ℕ) → IsUpTo epoch number ((cell_behind (node_start s) inputs).admins n) → course_in s (inputs ++ later) n epoch number ≡ course_in s inputs n epoch number
