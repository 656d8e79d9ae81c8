use Rattle.std.proofs.Common.{◌≡◌, ◌++◌, ◌-◌, length}
use Rattle.tm_laid.specs.Layouts.{laid_tree}
use Rattle.source_names.specs.Paths.{calls_back}
use Rattle.source_names.specs.Paths.{lists_of}
use Rattle.source_names.proofs.paths.calls_back.Given as goal

-- the calls so far, and those before them
abbrev pub invariant-loop-step : goal.invariant-loop-step
invariant-loop-step l =
    let all = length l.laid.file.functions.items in
    l.calls.items ++ calls_back (laid_tree l.laid) (lists_of l.places) (all - l._step) l.at ≡ calls_back (laid_tree l.laid) (lists_of l.places) all l.path
