-- An initial section, which runs alone before the tasks.
use Rattle.std.proofs.Common.{◌≡◌, refl}
use Rattle.tm_soundness.specs.Tables.{Tables}
use Rattle.tm_soundness.specs.Shape.{Shape, Operation, Content, Reads}
use Rattle.tm_soundness.specs.GraphWorlds.{Status, waiting, ready, done, Situation, GraphWorld, at, GraphStep}
use Rattle.tm_soundness.specs.Invariant.{Writers, IsInvariant}

-- its graph and its local cells
pub record Section (P : Shape) : Type 1 where
  pub Node : Type 0
  pub Edge : Type 0
  pub owned : P.AbstractCell → Type 0
  pub from : Edge → Node
  pub to : Edge → Node
  pub operation : Edge → Operation P.Temporary P.Mutex
  pub place : Edge → P.Place
  pub does : Edge → P.Valuation → P.Valuation → Type 0
  pub fails : Edge → P.Valuation → P.Class → Type 0
  pub fits : Edge → P.Cell → Type 0
  pub clears : Edge → P.Cell → Type 0
  pub entry : Node
  pub held : Node → P.Held
  pub found : Node → P.Held
  pub resting : Node → Type 0
  pub ends : Node → Type 0

abbrev pub only : (i j : Unit {0}) → i ≡ j
only i j = refl

-- the section as a program of one task
abbrev pub alone : (P : Shape) → Section P → Shape
alone P X = record {
  Task = Unit {0};
  Mutex = P.Mutex;
  Held = P.Held;
  Cell = P.Cell;
  AbstractCell = P.AbstractCell;
  Temporary = P.Temporary;
  Value = P.Value;
  Valuation = P.Valuation;
  Node = X.Node;
  Edge = X.Edge;
  Class = P.Class;
  Place = P.Place;
  same_task = λ i j. yes (only i j);
  same_mutex = P.same_mutex;
  same_cell = P.same_cell;
  rank = λ _. 0;
  Has = P.Has;
  has = P.has;
  abstract_cell = P.abstract_cell;
  shared = P.shared;
  owned = λ x _. X.owned x;
  in_range = P.in_range;
  cleared = P.cleared;
  value_of = P.value_of;
  put = P.put;
  points = P.points;
  bit = P.bit;
  actor = λ _. tt;
  from = X.from;
  to = X.to;
  operation = X.operation;
  place = X.place;
  does = X.does;
  fails = X.fails;
  lock_class = P.lock_class;
  fits = X.fits;
  clears = X.clears;
  entry = λ _. X.entry;
  held = X.held;
  found = X.found;
  resting = X.resting;
  ends = X.ends;
}

module _ (P : Shape) (X : Section P) where
  pub record WholeGraphWorld : Type 0 where
    pub content : P.Cell → Content P.Value
    pub main : Situation (alone P X)
    pub situation : P.Task → Situation P

  abbrev pub main_part : WholeGraphWorld → GraphWorld (alone P X)
  main_part w = record { content = w.content; situation = λ _. w.main }

  abbrev pub task_part : WholeGraphWorld → GraphWorld P
  task_part w = record { content = w.content; situation = w.situation }

  pub data WholeGraphStep (w w' : WholeGraphWorld) : Type 0 where
    main_moves : (w.main.status ≡ done → ⊥) → (w'.main.status ≡ done → ⊥)
        → GraphStep (alone P X) (main_part w) (main_part w') → ((i : P.Task) → w'.situation i ≡ w.situation i)
        → WholeGraphStep w w'
    main_ends : (q : X.Node) (ρ : P.Valuation) (st : Status P.Mutex) → w.main ≡ at (alone P X) q ρ st
        → (st ≡ done → ⊥) → X.ends q → w'.main ≡ at (alone P X) q ρ done
        → ((c : P.Cell) → w'.content c ≡ w.content c) → ((i : P.Task) → w'.situation i ≡ w.situation i)
        → WholeGraphStep w w'
    task_moves : w.main.status ≡ done → w'.main ≡ w.main → GraphStep P (task_part w) (task_part w')
        → WholeGraphStep w w'

  module _ (memory : P.Cell → Content P.Value) (main_temps : P.Valuation) (temps : P.Task → P.Valuation) where
    pub record IsWholeGraphStart (w : WholeGraphWorld) : Type 0 where
      pub content : (c : P.Cell) → w.content c ≡ memory c
      pub main : w.main ≡ at (alone P X) X.entry main_temps ready
      pub situation : (i : P.Task) → w.situation i ≡ at P (P.entry i) (temps i) waiting

    pub data IsWholeGraphReached : WholeGraphWorld → Type 0 where
      whole_start : {w : WholeGraphWorld} → IsWholeGraphStart w → IsWholeGraphReached w
      whole_after : {w w' : WholeGraphWorld} → IsWholeGraphReached w → WholeGraphStep w w' → IsWholeGraphReached w'

-- T: what the analysis gave for the tasks; U: what it gave for the section
module _ (P : Shape) (X : Section P) (T : Tables P) (U : Tables (alone P X)) (memory : P.Cell
    → Content P.Value) (main_temps : P.Valuation) (temps : P.Task → P.Valuation) where
  -- the entry states of the tasks hold what the end nodes of the section have
  pub record IsHandover : Type 0 where
    pub inside : (i : P.Task) (q : X.Node) (ρ : P.Valuation) → X.ends q → U.inside q ρ → T.inside (P.entry i) (temps i)
    pub shared : (i : P.Task) (q : X.Node) (ρ : P.Valuation) (x : P.AbstractCell) (v : P.Value) → X.ends q
        → U.inside q ρ → P.shared x → U.own q x v → T.own (P.entry i) x v
    pub local : (i : P.Task) (q : X.Node) (ρ : P.Valuation) (c : P.Cell) (v : P.Value) → X.ends q → U.inside q ρ
        → P.owned (P.abstract_cell c) i → Reads P (P.abstract_cell c) (memory c) v
        → T.own (P.entry i) (P.abstract_cell c) v
    pub fresh : (i : P.Task) (x : P.AbstractCell) → T.fresh (P.entry i) x → ⊥
    pub stored : (i : P.Task) (x : P.AbstractCell) → T.stored (P.entry i) x → ⊥
    pub copies : (i : P.Task) (t : P.Temporary) (x : P.AbstractCell) → T.copy (P.entry i) t x → ⊥

  -- before the section is done no task has left its start, and the section is as a task alone
  pub record IsBefore (w : WholeGraphWorld P X) : Type 0 where
    pub not_done : w.main.status ≡ done → ⊥
    pub writers : Writers (alone P X)
    pub invariant : IsInvariant (alone P X) U (main_part P X w) writers
    pub situation : (i : P.Task) → w.situation i ≡ at P (P.entry i) (temps i) waiting
    pub kept : (c : P.Cell) (i : P.Task) → P.owned (P.abstract_cell c) i → w.content c ≡ memory c

  pub record IsAfter (w : WholeGraphWorld P X) : Type 0 where
    pub is_done : w.main.status ≡ done
    pub writers : Writers P
    pub invariant : IsInvariant P T (task_part P X w) writers
