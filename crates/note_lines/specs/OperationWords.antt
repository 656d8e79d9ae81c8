-- The words of operations: their operators as C writes them, and what else they depend on.
use Rattle.std.specs.Prelude.{ℕ, Bool, cond, List, [], ◌++◌, codes, decimal}
use Rattle.tm_cint.specs.declared.int_types.IntType.{IntType}
use Rattle.tm_terms.specs.declared.tokens.Name.{Name}
use Rattle.flow_graph.specs.declared.operations.Operation.{Operation}
use Rattle.flow_graph.specs.declared.operations.Operation.TheVariants as Op
use Rattle.notes_json.specs.Words.{type_text, binary_text, unary_text}
use Rattle.note_lines.specs.Names.{name_at}

-- ## Operators and types

-- what a pointer and an integer are joined by (C99 6.5.6)
abbrev pub moved_text : Bool → List ℕ
moved_text minus = cond minus (codes " -") (codes " +")

-- OPERATOR in TYPE
abbrev pub typed_text : List ℕ → IntType → List ℕ
typed_text operator of = codes " " ++ (operator ++ (codes " in " ++ type_text of))

-- of LENGTH cells CELLS
abbrev pub elements_text : ℕ → ℕ → List ℕ
elements_text length cells = codes " [] of " ++ (decimal length ++ (codes " cells " ++ decimal cells))

-- cells CELLS
abbrev pub cells_text : ℕ → List ℕ
cells_text cells = codes " cells " ++ decimal cells

-- __lock MUTEX relock, or __unlock MUTEX unheld: the call, the mutex, and the rule that it may break
abbrev pub lock_text : List ℕ → List Name → List ℕ → ℕ → List ℕ → List ℕ
lock_text bytes mutexes call mutex rule = call ++ (name_at bytes mutexes mutex ++ rule)

-- ## Operations

-- Behind a blank the operator, and what else an operation that may fail depends on: the type in which it computes, the
-- length of the array and the cells of an element, or the mutex and the rule that it may break. Of any other operation
-- nothing.
unfoldable pub operation_text : List ℕ → List Name → Operation → List ℕ
operation_text bytes mutexes (Op.Un to operator of from place) = typed_text (unary_text operator) of
operation_text bytes mutexes (Op.Bin to operator of left right place) = typed_text (binary_text operator) of
operation_text bytes mutexes (Op.Index to from length cells by place) = elements_text length cells
operation_text bytes mutexes (Op.Move to from cells minus by place) = moved_text minus ++ cells_text cells
operation_text bytes mutexes (Op.Deref to from target path place) = codes " *"
operation_text bytes mutexes (Op.Usable pointer place) = codes " pointer"
operation_text bytes mutexes (Op.Lock mutex place) =
    lock_text bytes mutexes (codes " __lock ") mutex (codes " relock")
operation_text bytes mutexes (Op.Unlock mutex place) =
    lock_text bytes mutexes (codes " __unlock ") mutex (codes " unheld")
operation_text bytes mutexes operation = []
