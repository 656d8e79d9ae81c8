use Rattle.std.proofs.Common.{◌≡◌, take, map}
use Rattle.tm_laid.specs.Layouts.{laid_tree}
use Rattle.program_notes.specs.Declarations.{declared_object}
use Rattle.program_notes.proofs.declarations.objects_of.Given as goal

-- the objects so far
abbrev pub invariant-loop-object : goal.invariant-loop-object
invariant-loop-object l =
    l.objects.items ≡ map (declared_object (laid_tree l.laid)) (take l.object-index l.object-items)
