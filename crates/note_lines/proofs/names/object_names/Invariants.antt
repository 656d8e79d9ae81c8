use Rattle.std.proofs.Common.{◌≡◌, take, map}
use Rattle.tm_laid.specs.declared.objects.LaidObject.{LaidObject}
use Rattle.note_lines.proofs.names.object_names.Given as goal

-- the names of the objects so far
abbrev pub invariant-loop-object : goal.invariant-loop-object
invariant-loop-object l =
    l.names.items ≡ map (λ (o : LaidObject). record { name = o.name; place = o.place })
    (take l.object-index l.object-items)
