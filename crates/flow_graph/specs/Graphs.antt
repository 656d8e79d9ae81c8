-- Graphs: the edges that leave a node, heads and regions, the cells that are written there, and live temporaries.
use Rattle.std.specs.Prelude.{◌≡◌, ◌⊎◌, ℕ, ◌+◌, ◌==◌, ◌≤◌, ◌<◌, true, if◌then◌else◌, List, [], ◌∷◌, Some}
use Rattle.concrete_values.specs.tm_cint.Operators.{IsComparison}
use Rattle.concrete_values.specs.tm_typed.declared.types.Scalar.{Scalar}
use Rattle.concrete_values.specs.tm_laid.Layouts.{LaidTree, object_at, abstract_at, is_same_scalar}
use Rattle.flow_graph.specs.declared.operations.Test.{Test}
use Rattle.flow_graph.specs.declared.operations.Test.TheVariants as Tests
use Rattle.flow_graph.specs.declared.operations.Into.{Into}
use Rattle.flow_graph.specs.declared.operations.Into.TheVariants as Intos
use Rattle.flow_graph.specs.declared.operations.Operation.{Operation}
use Rattle.flow_graph.specs.declared.operations.Operation.TheVariants as Op
use Rattle.flow_graph.specs.declared.graphs.Edge.{Edge}
use Rattle.flow_graph.specs.Operations.{used, given, opposite}

abbrev pub Edges : Type 0
Edges = List Edge

abbrev pub Among : {A : Type 0} → A → List A → Type 0
Among x [] = ⊥
Among x (y ∷ ys) = (y ≡ x) ⊎ Among x ys

-- the edges that leave a node, in order
abbrev pub leaving : Edges → ℕ → Edges
leaving [] n = []
leaving (e ∷ g) n = if e.from == n then e ∷ leaving g n else leaving g n

-- an edge that leaves this node
pub record Leaves (g : Edges) (node : ℕ) (e : Edge) : Type 0 where
  pub among : Among e g
  pub from : e.from ≡ node

-- ## What leaves one node

-- an operation that can always be gone, answered or failed at
abbrev pub IsSure : Operation → Type 0
IsSure (Op.Assume test) = ⊥
IsSure _ = Unit {0}

-- a test of integers is one of the six comparisons
abbrev pub IsTest : Test → Type 0
IsTest (Tests.Numbers operator of left right) = IsComparison operator
IsTest _ = Unit {0}

abbrev pub IsOpposite : Operation → Operation → Type 0
IsOpposite (Op.Assume test) op = IsTest test × (op ≡ Op.Assume (opposite test))
IsOpposite _ op = ⊥

-- nothing, one operation that is no test, or a test and its opposite
abbrev pub IsFork : Edges → Type 0
IsFork [] = Unit {0}
IsFork (e ∷ []) = IsSure e.op
IsFork (e ∷ f ∷ []) = IsOpposite e.op f.op
IsFork (e ∷ f ∷ more) = ⊥

-- So from a node that a `Lock` leaves nothing else leads, and control that is not stopped can go on in one way.
abbrev pub IsPlain : Edges → Type 0
IsPlain g = (n : ℕ) → IsFork (leaving g n)

-- ## Live temporaries

-- A temporary is live at a node from which some path reaches an edge that uses it before one that gives it.
pub data IsLive (g : Edges) (t : ℕ) : ℕ → Type 0 where
  by_use : (e : Edge) → Among e g → Among t (used e.op) → IsLive g t e.from
  by_flow : (e : Edge) → Among e g → (given e.op ≡ Some t → ⊥) → IsLive g t e.to → IsLive g t e.from

-- ## Heads, regions, and what is written there

-- an edge that leads to a node of equal or smaller number
abbrev pub IsBack : Edge → Type 0
IsBack e = e.to ≤ e.from

-- a head: such an edge leads to it
pub record IsHead (g : Edges) (head : ℕ) : Type 0 where
  pub edge : Edge
  pub among : Among edge g
  pub back : IsBack edge
  pub there : edge.to ≡ head

-- the region of a head: the nodes from it up to the greatest from which such an edge leads to it
pub record IsInRegion (g : Edges) (head node : ℕ) : Type 0 where
  pub edge : Edge
  pub among : Among edge g
  pub back : IsBack edge
  pub there : edge.to ≡ head
  pub from : head ≤ node
  pub until : node ≤ edge.from

-- the abstract cells of an object
abbrev pub IsOfObject : LaidTree → ℕ → ℕ → Type 0
IsOfObject laid object cell = ((object_at laid object).first_abstract ≤ cell)
    × (cell < (object_at laid object).first_abstract + (object_at laid object).abstract_cells)

-- those of a scalar type
abbrev pub IsOfScalar : LaidTree → Scalar → ℕ → Type 0
IsOfScalar laid scalar cell = is_same_scalar (abstract_at laid cell).scalar scalar ≡ true

-- what a store through a pointer writes is known by its type alone
abbrev pub StoresInto : LaidTree → Scalar → Into → ℕ → Type 0
StoresInto laid scalar (Intos.Object object) cell = IsOfObject laid object cell
StoresInto laid scalar Intos.Pointed cell = IsOfScalar laid scalar cell

-- the abstract cells that an operation writes
abbrev pub WritesCell : LaidTree → Operation → ℕ → Type 0
WritesCell laid (Op.Store address value scalar into place) cell = StoresInto laid scalar into cell
WritesCell laid (Op.Clear object) cell = IsOfObject laid object cell
WritesCell laid _ cell = ⊥

-- the cells written in the region of a head: those of the operations on edges that leave its nodes
pub record IsWritten (laid : LaidTree) (g : Edges) (head cell : ℕ) : Type 0 where
  pub edge : Edge
  pub among : Among edge g
  pub inside : IsInRegion g head edge.from
  pub writes : WritesCell laid edge.op cell
