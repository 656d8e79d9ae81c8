-- All together: a pair that covers each edge by the rows lists all that goes wrong in a reached world over answers.
use Rattle.std.proofs.Common.{◌≡◌, ◌⊎◌, List}
use Rattle.tm_soundness.specs.Tables.{Tables}
use Rattle.tm_soundness.specs.Shape.{Shape, Content, given}
use Rattle.tm_soundness.specs.Shaped.{IsShaped}
use Rattle.tm_soundness.specs.Covers.{IsSolution, IsEntered}
use Rattle.tm_soundness.specs.Reports.{IsRaceListed}
use Rattle.tm_soundness.specs.Rows.{Domain, IsDomain, Store, Table, Finders, IsFinding, IsHearing, IsCovered, IsCollected, IsLively, IsCalculating, IsEntryState, tabled}
use Rattle.tm_soundness.specs.Worlds.{Source, World, IsReached, IsLowered, IsFault, NextAccesses, NextStores, IsIn}
use Rattle.tm_soundness.proofs.FromRows.{from_rows, entered_rows, store_heard}
use Rattle.tm_soundness.proofs.Judged.{IsJudged, judged, next_fault_listed, next_race_listed}

module _ (P : Shape) (D : Domain P) (F : Finders P D) (laws : IsDomain P D) (finding : IsFinding P D F) (hearing : IsHearing P D F) (lively : IsLively P D F) (calculating : IsCalculating P D F)
    (table : Table P D) (st : Store P D) (covered : IsCovered P D F table st) (collected : IsCollected P D F table st) where
  -- the program with what the analyser found
  abbrev pub Found : Tables P
  Found = tabled P D F table (λ j l x v. D.In (st.weak j l x) v) (λ j m x v. D.In (st.sync j m x) v)

  pub found_solution : IsSolution P Found
  found_solution = from_rows P D F laws finding lively calculating table st covered (λ j l x v. D.In (st.weak j l x) v) (λ j m x v. D.In (st.sync j m x) v) (store_heard P D F laws hearing table st collected)

  module _ (shape : IsShaped P) (N : Source P) (memory : P.Cell → Content P.Value) (temps : P.Task → P.Valuation) (some : (c : P.Cell) → P.shared (P.abstract_cell c) → (v : P.Value) × (memory c ≡ given v)) (entry : (i : P.Task) → IsEntryState P D F table memory i)
      (lowered : IsLowered P N temps) (all : List P.Task) (each : (i : P.Task) → IsIn P N i all) where
    found_entered : IsEntered P Found memory temps
    found_entered = entered_rows P D F laws finding lively calculating table st covered (λ j l x v. D.In (st.weak j l x) v) (λ j m x v. D.In (st.sync j m x) v) (store_heard P D F laws hearing table st collected) memory temps some entry

    here : (C : World P N) → IsReached P N memory C → IsJudged P Found N shape found_solution memory temps found_entered lowered C
    here C reached = judged P Found N shape found_solution memory temps found_entered lowered all each C reached

    pub faults_listed : (C : World P N) → IsReached P N memory C → (i : P.Task) (k : P.Class) → IsFault P N C i k → (e : P.Edge) × (P.actor e ≡ i) × (P.place e ≡ N.place i (C.answers i)) × Found.listed e k
    faults_listed C reached i k fault = next_fault_listed P Found N shape found_solution memory temps found_entered lowered C (here C reached) i k fault

    pub races_listed : (C : World P N) → IsReached P N memory C → (i k : P.Task) → (i ≡ k → ⊥) → (c : P.Cell) → NextAccesses P N C i c → NextAccesses P N C k c → NextStores P N C i c ⊎ NextStores P N C k c
        → (e : P.Edge) × (f : P.Edge) × (P.actor e ≡ i) × (P.actor f ≡ k) × (P.place e ≡ N.place i (C.answers i)) × (P.place f ≡ N.place k (C.answers k)) × IsRaceListed P Found e f
    races_listed C reached i k differ c one two some_store = next_race_listed P Found N shape found_solution memory temps found_entered lowered C (here C reached) i k differ c one two some_store
