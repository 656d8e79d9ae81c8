-- The words of values.
use Rattle.std.specs.Prelude.{ℕ, pos, Bool, true, false, cond, List, [], ◌∷◌, codes}
use Rattle.std.specs.FinMap.{entries}
use Rattle.std.specs.List.{flat_map}
use Rattle.pointer_dom.specs.OffsetSets.{OffsetSet}
use Rattle.pointer_dom.specs.PointerSets.{Pointers}
use Rattle.pointer_dom.specs.Values.{Values}
use Rattle.transfer_rows.specs.StateForms.{is_empty, is_no_value}
use Rattle.certificate_words.specs.Words.{Word, tag, number}
use Rattle.certificate_words.specs.Numbers.{progression_words}

-- 1 where it is so, else 0
abbrev pub bit_word : Bool → Word
bit_word true = number (pos 1)
bit_word false = number (pos 0)

-- O LO HI M: an object, the least and the greatest offset in it, and their stride
abbrev pub object_words : ℕ × OffsetSet → List Word
object_words e = number (pos e.0) ∷ progression_words e.1.offsets

-- p N V: whether null and the invalid pointer are there; and the objects in their order
abbrev pub pointers_words : Pointers → List Word
pointers_words p =
    tag (codes "p") ∷ bit_word p.null ∷ bit_word p.invalid ∷ flat_map object_words (entries p.objects)

-- i LO HI M where there are numbers, else pointers
abbrev pub some_words : Values → List Word
some_words v = cond (is_empty v.numbers) (pointers_words v.pointers) (tag (codes "i") ∷ progression_words v.numbers)

-- e where there is nothing
abbrev pub value_words : Values → List Word
value_words v = cond (is_no_value v) (tag (codes "e") ∷ []) (some_words v)
