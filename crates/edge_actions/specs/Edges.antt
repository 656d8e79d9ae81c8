-- How the edge of a graph is an action of the rows, in a layout and for a task at a node.
use Rattle.std.specs.Prelude.{ℕ, ◌+◌, ◌&&◌, nat_le, nat_lt, pos, Bool, true, false, cond, not, Option, Some, None}
use Rattle.std.specs.FinMap as map
use Rattle.strided_dom.specs.Progression.{single}
use Rattle.tm_terms.specs.tm_cint.declared.operators.BinOp.TheVariants.{Eq, Ne}
use Rattle.tm_typed.specs.declared.expressions.Unary.{Unary}
use Rattle.tm_typed.specs.declared.expressions.Unary.TheVariants.{Negate, Complement}
use Rattle.tm_terms.specs.tm_cint.declared.int_types.IntType.{IntType}
use Rattle.tm_laid.specs.Layouts.{LaidTree, laid_tree, object_at, abstract_at, is_alive, stands_at}
use Rattle.flow_graph.specs.concrete_values.declared.values.Pointer.{Pointer}
use Rattle.flow_graph.specs.concrete_values.declared.values.Pointer.TheVariants.{Null, Invalid, To}
use Rattle.flow_graph.specs.concrete_values.declared.values.Value.{Value}
use Rattle.flow_graph.specs.concrete_values.declared.values.Value.TheVariants as Constant
use Rattle.flow_graph.specs.declared.operations.Test.{Test}
use Rattle.flow_graph.specs.declared.operations.Test.TheVariants.{Numbers, Pointers, Truth, Case}
use Rattle.flow_graph.specs.declared.operations.Operation.{Operation}
use Rattle.flow_graph.specs.declared.operations.Operation.TheVariants as Op
use Rattle.pointer_dom.specs.PointerSets.{Pointers as PointerSet, no_pointer, pointer_to}
use Rattle.pointer_dom.specs.Values.{Values}
use Rattle.transfer_rows.specs.interfere_set.Stores.{reader_of}
use Rattle.transfer_rows.specs.StateForms.{only_numbers, only_pointers}
use Rattle.transfer_rows.specs.Actions.{Calculation, constant, copied, negated, complemented, operated, converted}
use Rattle.transfer_rows.specs.Actions.{compared}
use Rattle.transfer_rows.specs.Actions.{part, element, moved, dereferenced, temporary, fixed, Filter, usable}
use Rattle.transfer_rows.specs.Actions.{numbers_compare, pointers_compare, Action, skips, gives, refines, loads}
use Rattle.transfer_rows.specs.Actions.{loads_any, stores, clears, locks, unlocks, yields, probes, Around}
use Rattle.transfer_rows.specs.Accesses.{is_among}
use Rattle.edge_actions.specs.Layouts.{numbers_between, only_invalid, open_value, spots_of, is_shared_cell}
use Rattle.edge_actions.specs.Layouts.{is_smashed_cell}
use Rattle.edge_actions.specs.declared.views.EdgeView.{EdgeView}

-- the null pointer alone
abbrev pub only_null : PointerSet
only_null = record { null = true; invalid = false; objects = map.empty }

-- the pointer to an object of this size; none beyond its end
abbrev pub pointer_within : ℕ → ℕ → ℕ → PointerSet
pointer_within object size offset = cond (nat_le offset size) (pointer_to object size offset) no_pointer

abbrev pub pointer_value : LaidTree → Pointer → PointerSet
pointer_value laid Null = only_null
pointer_value laid Invalid = only_invalid
pointer_value laid (To object offset) = pointer_within object (object_at laid object).cells offset

-- a constant as a set of values
abbrev pub constant_value : LaidTree → Value → Values
constant_value laid (Constant.Number n) = only_numbers (single n)
constant_value laid (Constant.Pointer p) = only_pointers (pointer_value laid p)

abbrev pub unary_of : Unary → IntType → ℕ → Calculation
unary_of Negate t source = negated t source
unary_of Complement t source = complemented t source

-- the address of an object
abbrev pub base_value : LaidTree → ℕ → Values
base_value laid object = only_pointers (pointer_to object (object_at laid object).cells 0)

-- a pointer that is followed, on a call path, to what has the type
abbrev pub followed : LaidTree → ℕ → ℕ → ℕ → Calculation
followed laid path target source =
    dereferenced (is_alive laid path) (λ object offset. stands_at laid object offset target) source

-- a test as a filter: a label, 0 and null are sides of their own. Whether a temporary that is tested for its truth
-- holds pointers, the view of the edge says.
abbrev pub filter_of : Bool → Test → Filter
filter_of pointers (Numbers operator of left right) = numbers_compare operator (temporary left) (temporary right)
filter_of pointers (Pointers equal left right) = pointers_compare equal (temporary left) (temporary right)
filter_of true (Truth holds value) =
    pointers_compare (not holds) (temporary value) (fixed (only_pointers only_null))
filter_of false (Truth holds value) =
    numbers_compare (cond holds Ne Eq) (temporary value) (fixed (only_numbers (single (pos 0))))
filter_of pointers (Case holds label value) =
    numbers_compare (cond holds Eq Ne) (temporary value) (fixed (only_numbers (single label)))

-- what an abstract cell becomes when an object is cleared: nothing is said of those of other objects
abbrev pub cleared_value : LaidTree → ℕ → ℕ → Option Values
cleared_value laid object cell =
    let o = object_at laid object in
    cond (nat_le o.first_abstract cell && nat_lt cell (o.first_abstract + o.abstract_cells))
    (Some (open_value (abstract_at laid cell).scalar)) None

-- The action of an operation: by the layout, the task, whether a temporary that is tested for its truth holds pointers,
-- and the answer of this copy of an edge that probes a mutex.
abbrev pub action_of : LaidTree → ℕ → Bool → Bool → Operation → Action
action_of laid task pointers answer Op.Skip = skips
action_of laid task pointers answer (Op.Const to value) = gives to (constant (constant_value laid value))
action_of laid task pointers answer (Op.Copy to from) = gives to (copied from)
action_of laid task pointers answer (Op.Un to operator of from place) = gives to (unary_of operator of from)
action_of laid task pointers answer (Op.Bin to operator of left right place) =
    gives to (operated operator of left right)
action_of laid task pointers answer (Op.BinPointers to equal left right) = gives to (compared equal left right)
action_of laid task pointers answer (Op.Convert to was of from) = gives to (converted of from)
action_of laid task pointers answer (Op.Base to object) =
    gives to (constant (base_value laid object))
action_of laid task pointers answer (Op.Offset to from cells) = gives to (part cells from)
action_of laid task pointers answer (Op.Index to from count cells by place) = gives to (element count cells from by)
action_of laid task pointers answer (Op.Move to from cells minus by place) = gives to (moved (not minus) cells from by)
action_of laid task pointers answer (Op.Deref to from target path place) =
    gives to (followed laid path target from)
action_of laid task pointers answer (Op.Load to address scalar place) = loads (spots_of laid task scalar) to address
action_of laid task pointers answer (Op.LoadAny to address scalar place) =
    loads_any (spots_of laid task scalar) to address (open_value scalar)
action_of laid task pointers answer (Op.Store address value scalar into place) =
    stores (spots_of laid task scalar) address value
action_of laid task pointers answer (Op.Any to low high) =
    gives to (constant (only_numbers (numbers_between low high)))
action_of laid task pointers answer (Op.Clear object) = clears (cleared_value laid object)
action_of laid task pointers answer (Op.Usable pointer place) = refines (usable pointer)
action_of laid task pointers answer (Op.Assume test) = refines (filter_of pointers test)
action_of laid task pointers answer (Op.Lock mutex place) = locks mutex
action_of laid task pointers answer (Op.Unlock mutex place) = unlocks mutex
action_of laid task pointers answer Op.Yield = yields
action_of laid task pointers answer (Op.Probe to mutex place) = probes mutex to answer

-- the action of an edge
abbrev pub action_at : EdgeView → Action
action_at view = action_of (laid_tree view.laid.now) view.task view.tests_pointer view.answer view.operation

-- the task at the node that an edge leaves
abbrev pub around_of : EdgeView → Around
around_of view = record {
  reader = reader_of view.task view.held view.found view.priorities.now;
  is_shared = is_shared_cell (laid_tree view.laid.now);
  is_smashed = is_smashed_cell (laid_tree view.laid.now);
  is_live = is_among view.live.now;
}
