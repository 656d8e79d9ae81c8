use Rattle.std.specs.List.{flat_map}
use Rattle.big_source.specs.GeneratedSources.{declarations, function_line, numbers_below, task_line}
use Rattle.big_source.proofs.LinesSoFar.{in_parts}
use Rattle.big_source.proofs.generated.push_source.Goals as goal

pub returns : goal.returns
returns c =
    let n = c.args.n in
    in_parts _ declarations (flat_map function_line (numbers_below n)) (flat_map (task_line n) (numbers_below 4)) _ _ _
    c.in_ok-push_str.ensures.bytes c.in_ok-push_functions.ensures c.in_ok-push_tasks.ensures
