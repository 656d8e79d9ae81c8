-- All that goes wrong is listed, in the initial section and after it.
use Rattle.std.proofs.Common.{◌≡◌, ◌⊎◌, inl, inr, List}
use Rattle.tm_soundness.specs.Tables.{Tables}
use Rattle.tm_soundness.specs.Shape.{Shape, Content}
use Rattle.tm_soundness.specs.Shaped.{IsShaped}
use Rattle.tm_soundness.specs.Covers.{IsSolution, IsEntered}
use Rattle.tm_soundness.specs.Reports.{IsRaceListed}
use Rattle.tm_soundness.specs.Section.{Section, alone, IsHandover}
use Rattle.tm_soundness.specs.Worlds.{Source, IsLowered, IsIn, IsFault, NextAccesses, NextStores}
use Rattle.tm_soundness.specs.WholeWorlds.{WholeWorld, main_of, tasks_of, IsWholeReached, IsFirstPhase, IsSecondPhase}
use Rattle.tm_soundness.specs.Listing.{ListsAll}
use Rattle.tm_soundness.proofs.Judged.{IsJudged, judged, next_fault_listed, next_race_listed}
use Rattle.tm_soundness.proofs.TwoPhases.{main_judged, left_behind}
use Rattle.tm_soundness.proofs.TwoRuns.{two_phases}

module _ (P : Shape) (X : Section P) (T : Tables P) (U : Tables (alone P X)) (shape : IsShaped P) (sol : IsSolution P T) (main_shape : IsShaped (alone P X)) (main_sol : IsSolution (alone P X) U) (apart : (x : P.AbstractCell) (i : P.Task) → X.owned x → P.owned x i → ⊥)
    (memory : P.Cell → Content P.Value) (main_temps : P.Valuation) (temps : P.Task → P.Valuation) (entered : IsEntered (alone P X) U memory (λ _. main_temps)) (hand : IsHandover P X T U memory main_temps temps)
    (O : Source (alone P X)) (main_lowered : IsLowered (alone P X) O (λ _. main_temps)) (N : Source P) (lowered : IsLowered P N temps) (all : List P.Task) (each : (i : P.Task) → IsIn P N i all) where
  -- while the section runs, what holds of it; after it, what holds of the tasks
  abbrev pub WhileMain : WholeWorld P N X O → Type 0
  WhileMain w = IsJudged (alone P X) U O main_shape main_sol memory (λ _. main_temps) entered main_lowered (main_of P N X O w)

  pub record AfterMain (w : WholeWorld P N X O) : Type 0 where
    pub phase : IsSecondPhase P N X O memory w
    pub judgement : IsJudged P T N shape sol phase.left.content temps (left_behind P X T U shape sol main_shape main_sol apart memory main_temps temps entered hand O main_lowered phase.left phase.left_reached phase.left_done) lowered (tasks_of P N X O w)

  pub whole_judged : (w : WholeWorld P N X O) → IsWholeReached P N X O memory w → WhileMain w ⊎ AfterMain w
  whole_judged w reached = by_phase (two_phases P N X O memory w reached)
    where
      by_phase : IsFirstPhase P N X O memory w ⊎ IsSecondPhase P N X O memory w → WhileMain w ⊎ AfterMain w
      by_phase (inl one) = inl (main_judged P X T U shape sol main_shape main_sol apart memory main_temps temps entered hand O main_lowered (main_of P N X O w) one.reached)
      by_phase (inr two) = inr (record {
        phase = two;
        judgement = judged P T N shape sol two.left.content temps (left_behind P X T U shape sol main_shape main_sol apart memory main_temps temps entered hand O main_lowered two.left two.left_reached two.left_done) lowered all each (tasks_of P N X O w) two.reached;
      })

  pub main_fault_listed : (w : WholeWorld P N X O) → WhileMain w → (k : P.Class) → IsFault (alone P X) O (main_of P N X O w) tt k → (e : X.Edge) × (X.place e ≡ O.place tt w.main_answers) × U.listed e k
  main_fault_listed w now k fault =
      let x = next_fault_listed (alone P X) U O main_shape main_sol memory (λ _. main_temps) entered main_lowered (main_of P N X O w) now tt k fault in
      (x.0, x.2, x.3)

  pub task_fault_listed : (w : WholeWorld P N X O) → AfterMain w → (i : P.Task) (k : P.Class) → IsFault P N (tasks_of P N X O w) i k → (e : P.Edge) × (P.actor e ≡ i) × (P.place e ≡ N.place i (w.answers i)) × T.listed e k
  task_fault_listed w later i k fault =
      next_fault_listed P T N shape sol later.phase.left.content temps (left_behind P X T U shape sol main_shape main_sol apart memory main_temps temps entered hand O main_lowered later.phase.left later.phase.left_reached later.phase.left_done) lowered (tasks_of P N X O w) later.judgement i k fault

  pub task_race_listed : (w : WholeWorld P N X O) → AfterMain w → (i k : P.Task) → (i ≡ k → ⊥) → (c : P.Cell) → NextAccesses P N (tasks_of P N X O w) i c → NextAccesses P N (tasks_of P N X O w) k c
      → NextStores P N (tasks_of P N X O w) i c ⊎ NextStores P N (tasks_of P N X O w) k c
      → (e : P.Edge) × (f : P.Edge) × (P.actor e ≡ i) × (P.actor f ≡ k) × (P.place e ≡ N.place i (w.answers i)) × (P.place f ≡ N.place k (w.answers k)) × IsRaceListed P T e f
  task_race_listed w later i k differ c one two some =
      next_race_listed P T N shape sol later.phase.left.content temps (left_behind P X T U shape sol main_shape main_sol apart memory main_temps temps entered hand O main_lowered later.phase.left later.phase.left_reached later.phase.left_done) lowered (tasks_of P N X O w) later.judgement i k differ c one two some

  -- in each phase all that goes wrong is listed
  pub lists_all : (w : WholeWorld P N X O) → IsWholeReached P N X O memory w → ListsAll P T N X U O w
  lists_all w reached = by_phase (two_phases P N X O memory w reached)
    where
      by_phase : IsFirstPhase P N X O memory w ⊎ IsSecondPhase P N X O memory w → ListsAll P T N X U O w
      by_phase (inl one) = record {
        main_faults = λ not k fault. main_fault_listed w (main_judged P X T U shape sol main_shape main_sol apart memory main_temps temps entered hand O main_lowered (main_of P N X O w) one.reached) k fault;
        faults = λ over. absurd (one.not_done over);
        races = λ over. absurd (one.not_done over);
      }
      by_phase (inr two) =
          let later : AfterMain w = record {
            phase = two;
            judgement = judged P T N shape sol two.left.content temps (left_behind P X T U shape sol main_shape main_sol apart memory main_temps temps entered hand O main_lowered two.left two.left_reached two.left_done) lowered all each (tasks_of P N X O w) two.reached;
          } in
          record {
            main_faults = λ not. absurd (not two.is_done);
            faults = λ over i k fault. task_fault_listed w later i k fault;
            races = λ over i k differ c one second some. task_race_listed w later i k differ c one second some;
          }
