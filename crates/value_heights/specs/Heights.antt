-- How high a value stands: how many numbers it has, and of its pointers how much each of them says.
use Rattle.std.specs.Prelude.{ℕ, ◌+◌, Bool, true, false}
use Rattle.pointer_dom.specs.strided_dom.Progression.{Progression, empty, single, row}
use Rattle.pointer_dom.specs.tm_lattice.Heights.{table_height}
use Rattle.pointer_dom.specs.OffsetSets.{OffsetSet}
use Rattle.pointer_dom.specs.PointerSets.{Pointers}
use Rattle.pointer_dom.specs.Values.{Values}

-- how many numbers are in a set
unfoldable pub number_count : Progression → ℕ
number_count empty = 0
number_count (single v) = 1
number_count (row first gap more) = more + 2

-- a flag that is there counts
abbrev pub flag_height : Bool → ℕ
flag_height true = 1
flag_height false = 0

-- the size of the object, and how many offsets in it
abbrev pub offsets_height : OffsetSet → ℕ
offsets_height o = o.size + number_count o.offsets

abbrev pub pointers_height : Pointers → ℕ
pointers_height p = flag_height p.null + flag_height p.invalid + table_height offsets_height p.objects

-- numbers and pointers together
abbrev pub value_height : Values → ℕ
value_height v = number_count v.numbers + pointers_height v.pointers
