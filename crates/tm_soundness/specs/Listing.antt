-- What an analysis owes, and what the theorem gives for it.
use Rattle.std.proofs.Common.{◌≡◌, ◌⊎◌}
use Rattle.tm_soundness.specs.Shape.{Shape, Content}
use Rattle.tm_soundness.specs.Tables.{Tables}
use Rattle.tm_soundness.specs.GraphWorlds.{GraphWorld, IsGraphReached, done}
use Rattle.tm_soundness.specs.Shaped.{IsShaped}
use Rattle.tm_soundness.specs.Covers.{IsSolution, IsEntered}
use Rattle.tm_soundness.specs.Invariant.{Writers}
use Rattle.tm_soundness.specs.Reports.{IsRaceListed, IsParts}
use Rattle.tm_soundness.specs.Worlds.{Source, World, IsLowered, IsImage, IsFault, NextAccesses, NextStores}
use Rattle.tm_soundness.specs.Section.{Section, alone, IsHandover}
use Rattle.tm_soundness.specs.WholeWorlds.{WholeWorld, main_of, tasks_of}

-- a pair of tables and a store that covers each edge, entered with the memory, for graphs that run as the interpreter
-- says
pub record IsAnalysed (P : Shape) (T : Tables P) (N : Source P) (memory : P.Cell → Content P.Value)
    (temps : P.Task → P.Valuation) : Type 0 where
  pub shape : IsShaped P
  pub solution : IsSolution P T
  pub entered : IsEntered P T memory temps
  pub lowered : IsLowered P N temps

-- a world of the graphs stands for the world over answers, and the parts of the invariant hold in it
pub record IsKept (P : Shape) (T : Tables P) (N : Source P) (memory : P.Cell → Content P.Value)
    (temps : P.Task → P.Valuation) (C : World P N) : Type 0 where
  pub world : GraphWorld P
  pub reached : IsGraphReached P memory temps world
  pub image : IsImage P N C world
  pub writers : Writers P
  pub parts : IsParts P T world writers

-- what occurs in a reached world is listed at its place: in the section while it runs, in the tasks after it
pub record ListsAll (P : Shape) (T : Tables P) (N : Source P) (X : Section P) (U : Tables (alone P X))
    (O : Source (alone P X)) (w : WholeWorld P N X O) : Type 0 where
  pub main_faults : (w.main_status ≡ done → ⊥) → (k : P.Class) → IsFault (alone P X) O (main_of P N X O w) tt k
      → (e : X.Edge) × (X.place e ≡ O.place tt w.main_answers) × U.listed e k
  pub faults : w.main_status ≡ done → (i : P.Task) (k : P.Class) → IsFault P N (tasks_of P N X O w) i k
      → (e : P.Edge) × (P.actor e ≡ i) × (P.place e ≡ N.place i (w.answers i)) × T.listed e k
  pub races : w.main_status ≡ done → (i k : P.Task) → (i ≡ k → ⊥) → (c : P.Cell)
      → NextAccesses P N (tasks_of P N X O w) i c → NextAccesses P N (tasks_of P N X O w) k c
      → NextStores P N (tasks_of P N X O w) i c ⊎ NextStores P N (tasks_of P N X O w) k c
      → (e : P.Edge) × (f : P.Edge) × (P.actor e ≡ i) × (P.actor f ≡ k)
      × (P.place e ≡ N.place i (w.answers i)) × (P.place f ≡ N.place k (w.answers k)) × IsRaceListed P T e f

-- what both analyses owe: for the section alone, for the tasks, and that the tasks enter with what the section leaves
pub record AreAnalysed (P : Shape) (T : Tables P) (N : Source P) (X : Section P) (U : Tables (alone P X))
    (O : Source (alone P X)) (memory : P.Cell → Content P.Value) (main_temps : P.Valuation)
    (temps : P.Task → P.Valuation) : Type 0 where
  pub shape : IsShaped P
  pub solution : IsSolution P T
  pub lowered : IsLowered P N temps
  pub main : IsAnalysed (alone P X) U O memory (λ _. main_temps)
  pub handover : IsHandover P X T U memory main_temps temps
  -- a local cell of the section is no task's
  pub apart : (x : P.AbstractCell) (i : P.Task) → X.owned x → P.owned x i → ⊥
