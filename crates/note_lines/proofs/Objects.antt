-- Where there are no pointers there are no lines of objects.
use Rattle.std.proofs.Common.{◌≡◌, refl, sym, ap, ◌∙◌, ℕ, List, [], ◌∷◌, length, arith}
use Rattle.std.specs.Ordering.{nat_cmp}
use Rattle.std.specs.FinMap.{entries, len-entries, len-empty}
use Rattle.std.specs.List.{flat_map}
use Rattle.pointer_dom.specs.OffsetSets.{OffsetSet}
use Rattle.pointer_dom.specs.PointerSets.{no_pointer}
use Rattle.note_lines.specs.declared.names.ObjectName.{ObjectName}
use Rattle.note_lines.specs.OperandTexts.{object_line, object_lines}

nothing_in : (es : List (ℕ × OffsetSet)) → length es ≡ 0 → es ≡ []
nothing_in [] e = refl
nothing_in (x ∷ es) e = absurd (omega (arith, e))

pub no_lines : (bytes : List ℕ) (objects : List ObjectName) → object_lines bytes objects no_pointer ≡ []
no_lines bytes objects =
    ap (flat_map (object_line bytes objects))
    (nothing_in (entries no_pointer.objects) (sym (len-entries no_pointer.objects) ∙ len-empty nat_cmp OffsetSet))
