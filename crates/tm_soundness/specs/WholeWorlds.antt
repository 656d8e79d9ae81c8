-- Worlds over answers with an initial section: it runs alone until it is done, its yield leaves it ready, and then
-- the tasks run.
use Rattle.std.proofs.Common.{◌≡◌}
use Rattle.tm_soundness.specs.Shape.{Shape, Content}
use Rattle.tm_soundness.specs.GraphWorlds.{Status, waiting, ready, done}
use Rattle.tm_soundness.specs.Section.{Section, alone}
use Rattle.tm_soundness.specs.Worlds.{Source, World, settled, Step, IsReached}

module _ (P : Shape) (N : Source P) (X : Section P) (O : Source (alone P X)) where
  pub record WholeWorld : Type 0 where
    pub content : P.Cell → Content P.Value
    pub main_answers : O.Answers
    pub main_held : P.Held
    pub main_status : Status P.Mutex
    pub answers : P.Task → N.Answers
    pub held : P.Task → P.Held
    pub status : P.Task → Status P.Mutex

  abbrev pub main_of : WholeWorld → World (alone P X) O
  main_of w = record {
    content = w.content;
    answers = λ _. w.main_answers;
    held = λ _. w.main_held;
    status = λ _. w.main_status;
  }

  abbrev pub tasks_of : WholeWorld → World P N
  tasks_of w = record { content = w.content; answers = w.answers; held = w.held; status = w.status }

  pub record TasksStay (w w' : WholeWorld) : Type 0 where
    pub answers : (i : P.Task) → w'.answers i ≡ w.answers i
    pub held : (i : P.Task) → w'.held i ≡ w.held i
    pub status : (i : P.Task) → w'.status i ≡ w.status i

  pub data WholeStep (w w' : WholeWorld) : Type 0 where
    main_acts : (w.main_status ≡ done → ⊥) → Step (alone P X) O (main_of w) (main_of w')
        → (w'.main_status ≡ waiting → ⊥) → TasksStay w w' → WholeStep w w'
    -- a yield, and ready again at once
    main_yields : (w.main_status ≡ done → ⊥) → (C : World (alone P X) O) → Step (alone P X) O (main_of w) C
        → Step (alone P X) O C (main_of w') → TasksStay w w' → WholeStep w w'
    task_acts : w.main_status ≡ done → Step P N (tasks_of w) (tasks_of w') → w'.main_status ≡ w.main_status
        → WholeStep w w'

  module _ (memory : P.Cell → Content P.Value) where
    pub record IsTasksStart (w : WholeWorld) : Type 0 where
      pub answers : (i : P.Task) → w.answers i ≡ N.none
      pub held : (i : P.Task) (n : P.Mutex) → P.Has (w.held i) n → ⊥
      pub status : (i : P.Task) → w.status i ≡ settled P N (N.next i N.none) waiting

    pub record IsWholeStart (w : WholeWorld) : Type 0 where
      pub content : (c : P.Cell) → w.content c ≡ memory c
      pub answers : w.main_answers ≡ O.none
      pub held : (n : P.Mutex) → P.Has w.main_held n → ⊥
      pub status : w.main_status ≡ settled (alone P X) O (O.next tt O.none) ready
      pub tasks : IsTasksStart w

    pub data IsWholeReached : WholeWorld → Type 0 where
      whole_begins : {w : WholeWorld} → IsWholeStart w → IsWholeReached w
      whole_goes : {w w' : WholeWorld} → IsWholeReached w → WholeStep w w' → IsWholeReached w'

    -- the section runs, and no task has left its start; or it is done, and the tasks run over what it has left
    pub record IsFirstPhase (w : WholeWorld) : Type 0 where
      pub not_done : w.main_status ≡ done → ⊥
      pub reached : IsReached (alone P X) O memory (main_of w)
      pub tasks : IsTasksStart w

    pub record IsSecondPhase (w : WholeWorld) : Type 0 where
      pub is_done : w.main_status ≡ done
      pub left : World (alone P X) O
      pub left_reached : IsReached (alone P X) O memory left
      pub left_done : left.status tt ≡ done
      pub reached : IsReached P N left.content (tasks_of w)
