-- What operations that may fail depend on, and what their operands are.
use Rattle.std.specs.Prelude.{ℕ, zero, suc, Bool, cond, List, [], codes, Option, Some, None}
use Rattle.tm_cint.specs.declared.int_types.IntType.{IntType}
use Rattle.flow_graph.specs.declared.operations.Operation.{Operation}
use Rattle.flow_graph.specs.declared.operations.Operation.TheVariants as Op
use Rattle.notes_json.specs.Words.{binary_text, unary_text}

-- what a pointer and an integer are joined by (C99 6.5.6)
abbrev pub moved_text : Bool → List ℕ
moved_text minus = cond minus (codes "-") (codes "+")

-- its operator as C writes it, or the name of the call; `pointer` where one is compared
unfoldable pub operator_text : Operation → List ℕ
operator_text (Op.Un to operator of from place) = unary_text operator
operator_text (Op.Bin to operator of left right place) = binary_text operator
operator_text (Op.Index to from length cells by place) = codes "[]"
operator_text (Op.Move to from cells minus by place) = moved_text minus
operator_text (Op.Deref to from target path place) = codes "*"
operator_text (Op.Usable pointer place) = codes "pointer"
operator_text (Op.Lock mutex place) = codes "__lock"
operator_text (Op.Unlock mutex place) = codes "__unlock"
operator_text operation = []

-- the type in which it computes
unfoldable pub type_of : Operation → Option IntType
type_of (Op.Un to operator of from place) = Some of
type_of (Op.Bin to operator of left right place) = Some of
type_of operation = None

-- the number of elements of the array, and the number of cells of an element
unfoldable pub length_of : Operation → Option ℕ
length_of (Op.Index to from length cells by place) = Some length
length_of operation = None

unfoldable pub cells_of : Operation → Option ℕ
cells_of (Op.Index to from length cells by place) = Some cells
cells_of (Op.Move to from cells minus by place) = Some cells
cells_of operation = None

-- the mutex that it takes or gives back, and the rule that it may break
unfoldable pub mutex_of : Operation → Option ℕ
mutex_of (Op.Lock mutex place) = Some mutex
mutex_of (Op.Unlock mutex place) = Some mutex
mutex_of operation = None

unfoldable pub rule_text : Operation → List ℕ
rule_text (Op.Lock mutex place) = codes ",\"rule\":\"relock\""
rule_text (Op.Unlock mutex place) = codes ",\"rule\":\"unheld\""
rule_text operation = []

-- what the first of its operands is, and what the second is
unfoldable pub first_role : Operation → List ℕ
first_role (Op.Bin to operator of left right place) = codes "left"
first_role (Op.Index to from length cells by place) = codes "array"
first_role (Op.Move to from cells minus by place) = codes "pointer"
first_role (Op.Deref to from target path place) = codes "pointer"
first_role (Op.Usable pointer place) = codes "pointer"
first_role operation = codes "operand"

unfoldable pub second_role : Operation → List ℕ
second_role (Op.Bin to operator of left right place) = codes "right"
second_role (Op.Index to from length cells by place) = codes "subscript"
second_role (Op.Move to from cells minus by place) = codes "offset"
second_role operation = codes "operand"

-- what an operand is, by its place among them
abbrev pub role_at : Operation → ℕ → List ℕ
role_at operation zero = first_role operation
role_at operation (suc n) = second_role operation
