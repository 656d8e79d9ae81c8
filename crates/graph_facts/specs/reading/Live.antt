-- What sweeps over the edges keep, which bring live temporaries from where an edge leads to where it leaves.
use Rattle.std.specs.Prelude.{◌≡◌, ◌⊎◌, ℕ, ◌^◌, ◌<◌, ◌≤◌, Bool, true, false, List, [], length, get_or, sum_by}
use Rattle.std.specs.Prelude.{All, Contains, Some}
use Rattle.std.specs.List.Sorted.{IsStrictlyIncreasing}
use Rattle.flow_graph.specs.declared.graphs.Edge.{Edge}
use Rattle.flow_graph.specs.declared.operations.Operation.{Operation}
use Rattle.flow_graph.specs.Operations.{used, given}
use Rattle.flow_graph.specs.Graphs.{Edges, Among, IsLive}

-- ## One list

pub record IsRisingList (xs : List ℕ) : Type 0 where
  pub rising : IsStrictlyIncreasing xs
  pub small : All (λ x. x < 2 ^ 32) xs

-- the same list, or a longer one
abbrev pub Grew : List ℕ → List ℕ → Type 0
Grew xs ys = (ys ≡ xs) ⊎ (length xs < length ys)

-- these temporaries, and no others, were put into a list
pub record HasPut (P : ℕ → Type 0) (xs ys : List ℕ) : Type 0 where
  pub list : IsRisingList ys
  pub grew : Grew xs ys
  pub kept : (t : ℕ) → Contains xs t → Contains ys t
  pub put : (t : ℕ) → P t → Contains ys t
  pub only : (t : ℕ) → Contains ys t → Contains xs t ⊎ P t

-- what is live behind an operation that does not give it
abbrev pub IsBehind : Operation → List ℕ → ℕ → Type 0
IsBehind op behind t = Contains behind t × (given op ≡ Some t → ⊥)

abbrev pub IsBrought : Operation → List ℕ → ℕ → Type 0
IsBrought op behind t = Among t (used op) ⊎ IsBehind op behind t

-- ## All lists

abbrev pub list_at : List (List ℕ) → ℕ → List ℕ
list_at lists n = get_or lists n []

-- how many temporaries stand in the lists
abbrev pub total : List (List ℕ) → ℕ
total lists = sum_by length lists

-- what stands in the lists is live
pub record ArePartlyLive (g : Edges) (nodes : ℕ) (lists : List (List ℕ)) : Type 0 where
  pub node_count : length lists ≡ nodes
  pub each : (n : ℕ) → n < nodes → IsRisingList (list_at lists n)
  pub live : (n : ℕ) → n < nodes → (t : ℕ) → Contains (list_at lists n) t → IsLive g t n

-- an edge brings no more
abbrev pub IsMet : List (List ℕ) → Edge → Type 0
IsMet lists e = (t : ℕ) → IsBrought e.op (list_at lists e.to) t → Contains (list_at lists e.from) t

abbrev pub HasGrown : Bool → List (List ℕ) → List (List ℕ) → Type 0
HasGrown true old new = total old < total new
HasGrown false old new = new ≡ old

-- an edge was brought along
pub record Brings (g : Edges) (nodes number : ℕ) (more : Bool) (old new : List (List ℕ)) : Type 0 where
  pub partly : ArePartlyLive g nodes new
  pub grown : HasGrown more old new
  pub met : more ≡ false → (d : Edge) → IsMet old (get_or g number d)

-- the edges from this number on were
pub record Sweeps (g : Edges) (nodes number : ℕ) (more : Bool) (old new : List (List ℕ)) : Type 0 where
  pub partly : ArePartlyLive g nodes new
  pub grown : HasGrown more old new
  pub met : more ≡ false → (k : ℕ) (d : Edge) → number ≤ k → k < length g → IsMet old (get_or g k d)
