-- How what is built for a body ends.
use Rattle.std.specs.Prelude.{ℕ, List, if◌then◌else◌, nat_lt, length}
use Rattle.tm_laid.specs.Layouts.{LaidTree}
use Rattle.body_builder.specs.lowering.Built.{Building, function_end, task_end}
use Rattle.graph_builder.specs.declared.ends.End.{End}
use Rattle.graph_builder.specs.declared.ends.End.TheVariants as Ends

abbrev pub closing : End → List ℕ → Building → Building
closing Ends.Function = function_end
closing Ends.Task = task_end

-- the end of a body: that of a task, or as the initial section that of a function
abbrev pub end_of : LaidTree → ℕ → End
end_of laid body = if nat_lt body (length laid.file.tasks) then Ends.Task else Ends.Function
