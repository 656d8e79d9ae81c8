-- Initialisers (C99 6.7.8): which cells of an object they give, and what they are.
use Rattle.std.specs.Prelude.{ℕ, suc, ◌+◌, ◌*◌, Bool, true, false, cond, ◌&&◌, not, is_none, nat_lt, List, [], ◌∷◌}
use Rattle.std.specs.Prelude.{◌++◌, slice_get, Option, Some, None, Result, Ok}
use Rattle.tm_trees.specs.tm_terms.declared.places.Place.{Place}
use Rattle.tm_trees.specs.tm_terms.declared.refusals.Kind.TheVariants as Kinds
use Rattle.tm_trees.specs.tm_terms.declared.refusals.Refusal.{Refusal}
use Rattle.tm_trees.specs.tm_terms.ExprTrees.{Tree}
use Rattle.tm_trees.specs.DeclarationTrees.{ValueTree, an_expression, a_list, ValueTrees, no_values, and_value}
use Rattle.tm_typed.specs.declared.types.CType.{CType}
use Rattle.tm_typed.specs.declared.types.CType.TheVariants as Types
use Rattle.tm_typed.specs.declared.scopes.Member.{Member}
use Rattle.tm_typed.specs.declared.scopes.Part.{Part}
use Rattle.tm_typed.specs.Scopes.{Scope, ctype_of, cells_of, structure}
use Rattle.tm_typed.specs.TypeRows.{clipped}
use Rattle.tm_typed.specs.TypedTrees.{Rated}
use Rattle.tm_typed.specs.States.{State}
use Rattle.tm_typed.specs.Evaluation.{typed_in}
use Rattle.tm_typed.specs.Operands.{valued, is_structure, is_null, is_integer, scalar_of, given}
use Rattle.tm_typed.specs.TypedStatements.{GivenTree}
use Rattle.tm_typed.specs.StaticValues.{static_value}
use Rattle.tm_typed.specs.Refusals.{then_with, row, row_unless}

-- ## The parts of an aggregate, in order

abbrev pub part_number : ℕ → ℕ → Part
part_number n c = record { of = record { number = n; constant = false; volatile = false }; cell = c }

abbrev pub part_of : Option Member → Option Part
part_of None = None
part_of (Some m) = Some m.part

abbrev pub part_in : Scope → CType → ℕ → Option Part
part_in scope (Types.Array e n) i = cond (nat_lt i n) (Some (part_number e (clipped (i * cells_of scope e)))) None
part_in scope (Types.Struct k) i = part_of (slice_get (structure scope k).members i)
part_in scope _ i = None

-- the part with this number of an array or a structure
abbrev pub part : Scope → ℕ → ℕ → Option Part
part scope n i = part_in scope (ctype_of scope n) i

abbrev pub is_aggregate_type : CType → Bool
is_aggregate_type (Types.Array e n) = true
is_aggregate_type (Types.Struct k) = true
is_aggregate_type _ = false

abbrev pub is_aggregate : Scope → ℕ → Bool
is_aggregate scope n = is_aggregate_type (ctype_of scope n)

abbrev pub is_aggregate_part : Scope → Option Part → Bool
is_aggregate_part scope None = false
is_aggregate_part scope (Some q) = is_aggregate scope q.of.number

-- ## An expression for an object

-- cells that are given, with the state behind them
abbrev pub Given : Type 0
Given = List GivenTree × State

-- A structure by value is left out. A scalar takes what it would be assigned; one of static storage takes constants
-- alone.
abbrev pub scalar_rules : Bool → State → ℕ → ℕ → Rated → Result Given Refusal
scalar_rules static s n c v =
    row (is_structure v.sort) Kinds.Unsupported v.place
    (row_unless (scalar_of s.scope n) Kinds.Mismatch v.place (λ t.
    row_unless (given s.scope v n) Kinds.Mismatch v.place (λ e.
    row (static && is_none (static_value s e)) Kinds.NotConstant v.place
    (Ok (record { cell = c; scalar = t; value = e } ∷ [], s)))))

-- an expression that stands alone in the braces of an aggregate of aggregates: a folded 0 gives no cell, and so zeroes
-- all
abbrev pub lone_rules : Bool → State → ℕ → ℕ → Rated → Result Given Refusal
lone_rules static s n c v = cond (is_integer v.sort && is_null v.sort) (Ok ([], s)) (scalar_rules static s n c v)

-- ## Values in braces

-- cells behind others
abbrev pub given_behind : List GivenTree → Result Given Refusal → Result Given Refusal
given_behind cells r = then_with r (λ g. Ok (cells ++ g.0, g.1))

-- the one expression in braces
abbrev pub lone : ValueTrees → Option Tree
lone (and_value (an_expression t) no_values) = Some t
lone _ = None

-- the rows of a list: one for a scalar, and `{0}`
abbrev pub list_rules : Bool → State → ℕ → ℕ → Place → Option Part → Option Tree → Result Given Refusal
    → Result Given Refusal
list_rules static s n c p (Some q) (Some t) further =
    cond (is_aggregate s.scope q.of.number)
    (then_with (typed_in s t) (λ o. lone_rules static o.1 q.of.number c (valued o.1.scope o.0))) further
list_rules static s n c p first t further = row (not (is_aggregate s.scope n)) Kinds.Mismatch p further

abbrev mutual
  -- the cells from the cell c on that a value gives to an object of the type n
  pub initial : Bool → State → ℕ → ℕ → ValueTree → Result Given Refusal
  initial static s n c (an_expression t) =
      then_with (typed_in s t) (λ o. scalar_rules static o.1 n c (valued o.1.scope o.0))
  initial static s n c (a_list values p) =
      list_rules static s n c p (part s.scope n 0) (lone values) (initials static s n c 0 values p)

  -- values in braces, for the parts from i on: no more than there are
  pub initials : Bool → State → ℕ → ℕ → ℕ → ValueTrees → Place → Result Given Refusal
  initials static s n c i no_values p = Ok ([], s)
  initials static s n c i (and_value v values) p = row_unless (part s.scope n i) Kinds.Mismatch p (λ q.
      then_with (initial static s q.of.number (clipped (c + q.cell)) v) (λ g.
      given_behind g.0 (initials static g.1 n c (suc i) values p)))
