-- Parts of the typing of a function, as the code reads them.
use Rattle.std.specs.Prelude.{Option, Result}
use Rattle.tm_terms.specs.declared.refusals.Refusal.{Refusal}
use Rattle.tm_terms.specs.declared.types_named.Storage.{Storage}
use Rattle.tm_trees.specs.FileTrees.{FunctionTree}
use Rattle.tm_typed.specs.declared.specifiers.Said.{Said}
use Rattle.tm_typed.specs.declared.specifiers.Shape.{Shape}
use Rattle.tm_typed.specs.Refusals.{then_with}
use Rattle.tm_typed.specs.States.{in_scope}
use Rattle.tm_typed.specs.Specifiers.{base}
use Rattle.tm_typed.specs.Declarators.{declared_pointers}
use Rattle.tm_typed.specs.StatementTyping.{enter}
use Rattle.tm_typed.specs.Functions.{parameters_in, left_names, names_here, body_begins, function_rules}
use Rattle.tm_typed.specs.Files.{FileState, head_of, with_state, headed}

-- a function whose result has this shape
abbrev pub function_by : FileState → Option Storage → Shape → FunctionTree → Result FileState Refusal
function_by f storage shape g =
    then_with (parameters_in (enter (body_begins f.state)) g.parameters) (λ s.
    let h = head_of g shape s.locals in
    let t = in_scope s (left_names s.scope) in
    then_with (function_rules t h storage shape) (λ u. headed (with_state f t) (names_here s.scope) h g.body))

-- a function behind its specifiers
abbrev pub function_said : FileState → Said → FunctionTree → Result FileState Refusal
function_said f said g =
    let result = declared_pointers f.state (base said) g.pointers in function_by
    (with_state f result.1) said.storage result.0 g
