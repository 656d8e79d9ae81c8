-- The rules of statements, over parts that are typed: which row a statement meets, or else its typed form. Rows are
-- looked at in the order in which they stand.
use Rattle.std.specs.Prelude.{ℕ, ℤ, Bool, true, false, not, ◌||◌, List, [], ◌∷◌, ◌++◌, Option, Some, None, Result, Ok}
use Rattle.std.specs.List.{list_any}
use Rattle.std.specs.Ordering.{int_eq}
use Rattle.tm_trees.specs.tm_cint.declared.int_types.IntType.{IntType}
use Rattle.tm_trees.specs.tm_cint.Conversions.{promoted_type, converted_value}
use Rattle.tm_trees.specs.tm_terms.declared.places.Place.{Place}
use Rattle.tm_trees.specs.tm_terms.declared.refusals.Kind.TheVariants as Kinds
use Rattle.tm_trees.specs.tm_terms.declared.refusals.Refusal.{Refusal}
use Rattle.tm_typed.specs.declared.scopes.Named.{Named}
use Rattle.tm_typed.specs.declared.scopes.Named.TheVariants as Names
use Rattle.tm_typed.specs.declared.operands.Sort.{Sort}
use Rattle.tm_typed.specs.declared.operands.Sort.TheVariants as Sorts
use Rattle.tm_typed.specs.Scopes.{Scope, ctype_of}
use Rattle.tm_typed.specs.TypedTrees.{RvalueTree, Rated}
use Rattle.tm_typed.specs.Refusals.{refused, row, row_unless}
use Rattle.tm_typed.specs.TypeNames.{is_void}
use Rattle.tm_typed.specs.Operands.{is_condition, is_structure, converted, given}
use Rattle.tm_typed.specs.TypedStatements.{TypedTree, breaks, continues, returns}

-- where a statement stands: the type of the function's result, and whether a loop or a `switch` is around it
pub record Around : Type 0 where
  pub result : ℕ
  pub in_loop : Bool
  pub in_switch : Bool

-- in a function's outermost block
abbrev pub in_body : ℕ → Around
in_body result = record { result = result; in_loop = false; in_switch = false }

abbrev pub looping : Around → Around
looping around = record around { in_loop = true }

abbrev pub switching : Around → Around
switching around = record around { in_switch = true }

-- ## Conditions (C99 6.8.4.1, 6.8.5)

-- a condition is an integer or a pointer
abbrev pub condition_rules : Place → Rated → Result RvalueTree Refusal
condition_rules p v = row (not (is_condition v.sort)) Kinds.Mismatch p (Ok v.value)

-- ## `switch` (C99 6.8.4.2)

-- the type in which a `switch` compares, and its value in that type
pub record Selector : Type 0 where
  pub works_in : IntType
  pub value : RvalueTree

-- the expression is an integer, and is promoted
abbrev pub selector_rules : Place → Rated → Sort → Result Selector Refusal
selector_rules p v (Sorts.Integer t f) =
    Ok (record { works_in = promoted_type t; value = converted t (promoted_type t) v })
selector_rules p v _ = refused Kinds.Mismatch p

-- the labels of a `switch` so far: their converted values, and whether a `default` is among them
pub record Labels : Type 0 where
  pub values : List ℤ
  pub has_default : Bool

abbrev pub no_labels : Labels
no_labels = record { values = []; has_default = false }

-- an earlier label has this value
abbrev pub is_labelled : List ℤ → ℤ → Bool
is_labelled labels z = list_any (int_eq z) labels

-- one more label
abbrev pub with_label : Labels → ℤ → Labels
with_label labels z = record labels { values = labels.values ++ z ∷ [] }

-- A label is folded; converted to the type in which the `switch` compares, it equals no earlier one.
abbrev pub label_rules : IntType → List ℤ → Place → Place → Option ℤ → Result ℤ Refusal
label_rules t labels word p value =
    row_unless value Kinds.NotConstant p (λ z.
    row (is_labelled labels (converted_value z t)) Kinds.Redeclared word (Ok (converted_value z t)))

-- a `switch` has one `default`
abbrev pub default_rules : Labels → Place → Result Labels Refusal
default_rules labels word = row labels.has_default Kinds.Redeclared word (Ok (record labels { has_default = true }))

-- ## Jumps (C99 6.8.6)

-- `break` stands in a loop or in a `switch`
abbrev pub break_rules : Around → Place → Result TypedTree Refusal
break_rules around p = row (not (around.in_loop || around.in_switch)) Kinds.Mismatch p (Ok breaks)

-- `continue` stands in a loop
abbrev pub continue_rules : Around → Place → Result TypedTree Refusal
continue_rules around p = row (not around.in_loop) Kinds.Mismatch p (Ok continues)

-- `return;` stands where the function has no result
abbrev pub return_rules : Scope → ℕ → Place → Result TypedTree Refusal
return_rules scope result p = row (not (is_void (ctype_of scope result))) Kinds.Mismatch p (Ok (returns None))

-- `return e;` stands where the function has a result of a type that takes the value; a structure is left out
abbrev pub return_value_rules : Scope → ℕ → Place → Rated → Result TypedTree Refusal
return_value_rules scope result p v =
    row (is_structure v.sort) Kinds.Unsupported p
    (row_unless (given scope v result) Kinds.Mismatch p (λ e. Ok (returns (Some e))))

-- ## `__lock`, `__unlock`: the name of a mutex

abbrev pub mutex_rules : Place → Option Named → Result ℕ Refusal
mutex_rules p None = refused Kinds.Undeclared p
mutex_rules p (Some (Names.Mutex m)) = Ok m
mutex_rules p (Some _) = refused Kinds.Mismatch p
