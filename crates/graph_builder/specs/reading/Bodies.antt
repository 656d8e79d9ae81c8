-- What is built for a body, step by step as the code builds it.
use Rattle.std.specs.Prelude.{ℕ, List, Option, Some, None}
use Rattle.tm_typed.specs.declared.types.CType.{CType}
use Rattle.tm_typed.specs.TypedStatements.{TypedTrees}
use Rattle.tm_laid.specs.Layouts.{LaidTree}
use Rattle.flow_graph.specs.declared.operations.Operation.{Operation}
use Rattle.body_builder.specs.lowering.Table.{is_value_type, plans}
use Rattle.body_builder.specs.lowering.Built.{Building, AfterPart, Sites, Later, place, place_new, plan_piece}
use Rattle.body_builder.specs.lowering.Built.{is_return, nodes_by}
use Rattle.body_builder.specs.lowering.Built.{fallen_piece, result_at, nothing_piece}

-- an operation that gives the value of a call, to the temporary that there is or to a new one
unfoldable pub result_placed : Option ℕ → Operation → Building → Building
result_placed None op b = place_new (λ t. op) b
result_placed (Some r) op b = place op b

-- statements are built, and behind them the end of their function
unfoldable pub ended : (List ℕ → Building → Building) → CType → List ℕ → Option ℕ → Building → AfterPart
ended close t from res b = record {
  at = close from (fallen_piece t res b);
  temp = result_at (is_value_type t) res b;
}

-- the statements of a body, if there is one, and its end
unfoldable pub body_piece : Sites → LaidTree → ℕ → (List ℕ → Building → Building) → CType → Option TypedTrees
    → Building → AfterPart
body_piece call laid path close t None b = nothing_piece b
body_piece call laid path close t (Some ss) b =
    let x = plan_piece call (plans laid path ss) Later None b in
    ended close t (nodes_by is_return x.pending) x.result x.at
