-- What the addresses in temporaries lead to: a property of single edges, from which it follows that parts and elements
-- are taken within their objects.
use Rattle.std.specs.Prelude.{◌≡◌, ℕ, Some}
use Rattle.layout_laws.specs.tm_laid.Layouts.{LaidTree}
use Rattle.program_shape.specs.concrete_values.declared.values.Pointer.TheVariants.{To}
use Rattle.program_shape.specs.concrete_values.declared.values.Value.{Value}
use Rattle.program_shape.specs.concrete_values.declared.values.Value.TheVariants.{Pointer}
use Rattle.program_shape.specs.concrete_values.declared.values.Answer.{Answer}
use Rattle.program_shape.specs.concrete_values.declared.actions.Next.{Next}
use Rattle.program_shape.specs.concrete_values.Actions.{answer_of}
use Rattle.program_shape.specs.flow_graph.declared.operations.Operation.{Operation}
use Rattle.program_shape.specs.flow_graph.declared.graphs.Edge.{Edge}
use Rattle.program_shape.specs.flow_graph.Graphs.{Edges, Among}
use Rattle.program_shape.specs.flow_graph.Operations.{Temps, used, given, Silent, Asks, effect}
use Rattle.next_action_laws.specs.Actions.{IsPlace}
use Rattle.program_shape.specs.Shape.{IsAddressed}

-- what a temporary holds: an address at which a type stands, or anything
pub data Kind : Type 0 where
  address_of : (type : ℕ) → Kind
  anything : Kind

module _ (laid : LaidTree) (body : ℕ) where
  pub record StandsThere (v : Value) (type : ℕ) : Type 0 where
    pub object : ℕ
    pub offset : ℕ
    pub is : v ≡ Pointer (To object offset)
    pub stands : IsPlace laid body object offset type

  -- a value is of a kind
  abbrev pub IsOfKind : Kind → Value → Type 0
  IsOfKind (address_of type) v = StandsThere v type
  IsOfKind anything v = Unit {0}

  module _ (kinds : ℕ → Kind) where
    -- the temporaries that an operation uses are of their kinds
    abbrev pub AreUsable : Operation → Temps → Type 0
    AreUsable op temps = (t : ℕ) → Among t (used op) → IsOfKind (kinds t) (temps t)

    -- and so is the one that it gives
    abbrev pub IsGiven : Operation → Temps → Type 0
    IsGiven op temps = (t : ℕ) → given op ≡ Some t → IsOfKind (kinds t) (temps t)

    -- Where an operation goes on by itself, or is answered, it gives a value of the kind of its temporary; and where it
    -- takes a part or an element, that is within its object.
    pub record KeepsKinds (op : Operation) : Type 0 where
      pub addressed : (temps temps' : Temps) → AreUsable op temps → effect laid op temps ≡ Silent temps'
          → IsAddressed laid op temps
      pub silent : (temps temps' : Temps) → AreUsable op temps → effect laid op temps ≡ Silent temps'
          → IsGiven op temps'
      pub answered : (temps : Temps) (n : Next) (after : Value → Temps) (a : Answer) (v : Value) → AreUsable op temps
          → effect laid op temps ≡ Asks n after → answer_of laid n a ≡ Some v → IsGiven op (after v)

-- there are kinds of the temporaries of a graph that each of its operations keeps
pub record HasKinds (laid : LaidTree) (body : ℕ) (g : Edges) : Type 0 where
  pub kinds : ℕ → Kind
  pub keeps : (e : Edge) → Among e g → KeepsKinds laid body kinds e.op
