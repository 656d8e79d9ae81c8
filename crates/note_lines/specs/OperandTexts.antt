-- The texts of operands: the values that they may have, and the objects to which they may point; and what is wrong
-- with pointers to these.
use Rattle.std.specs.Prelude.{ℕ, pos, Bool, cond, List, [], ◌++◌, codes, decimal}
use Rattle.std.specs.FinMap.{entries}
use Rattle.std.specs.Fmt.{signed_decimal}
use Rattle.std.specs.List.{flat_map}
use Rattle.strided_dom.specs.Progression.{Progression, empty, single, row, first_of, last_of, stride_of}
use Rattle.pointer_dom.specs.OffsetSets.{OffsetSet}
use Rattle.pointer_dom.specs.PointerSets.{Pointers}
use Rattle.pointer_dom.specs.Values.{Values}
use Rattle.tm_terms.specs.declared.places.Place.{Place}
use Rattle.tm_terms.specs.Spelling.{text_of}
use Rattle.tm_terms.specs.Texts.{line_of}
use Rattle.alarm_contexts.specs.declared.flaws.ObjectFlaw.{ObjectFlaw}
use Rattle.program_notes.specs.Flaws.{flaw_text}
use Rattle.note_lines.specs.declared.names.ObjectName.{ObjectName}
use Rattle.tm_terms.specs.Texts.{place_head}
use Rattle.note_lines.specs.RaceTexts.{object_at}

-- a word where it is so, else nothing
abbrev pub word_if : Bool → List ℕ → List ℕ
word_if is word = cond is word []

-- ## Values

-- LEAST GREATEST STRIDE, each behind a blank; the stride of one number is 0
abbrev pub some_numbers_text : Progression → List ℕ
some_numbers_text s = codes " " ++ (signed_decimal (first_of s) ++ (codes " " ++ (signed_decimal (last_of s)
    ++ (codes " " ++ signed_decimal (pos (stride_of s))))))

-- nothing where there is no number
abbrev pub numbers_text : Progression → List ℕ
numbers_text empty = []
numbers_text (single v) = some_numbers_text (single v)
numbers_text (row first gap more) = some_numbers_text (row first gap more)

-- [null] [invalid], each behind a blank
abbrev pub pointers_text : Pointers → List ℕ
pointers_text p = word_if p.null (codes " null") ++ word_if p.invalid (codes " invalid")

-- LINE:COL ROLE [LEAST GREATEST STRIDE] [null] [invalid]
abbrev pub operand_line : Place → List ℕ → Values → List ℕ
operand_line place role v =
    line_of (place_head place ++ (role ++ (numbers_text v.numbers ++ pointers_text v.pointers)))

-- ## Objects

-- of SIZE at
abbrev pub size_text : ℕ → List ℕ
size_text size = codes " of " ++ (decimal size ++ codes " at")

module _ (bytes : List ℕ) (objects : List ObjectName) where
  -- LINE:COL NAME of SIZE at LEAST GREATEST STRIDE: an object where it is declared first, the number of its cells, and
  -- the offsets of the pointers to it
  abbrev pub object_line : ℕ × OffsetSet → List ℕ
  object_line e = (let o = object_at objects e.0 in line_of (place_head o.place ++ (text_of bytes o.name
      ++ (size_text e.1.size ++ numbers_text e.1.offsets))))

  -- those of the objects to which pointers lead, by rising numbers
  abbrev pub object_lines : Pointers → List ℕ
  object_lines p = flat_map object_line (entries p.objects)

  -- LINE:COL NAME bad FLAW: an object where it is declared first, and what is wrong with a pointer to it
  abbrev pub flaw_line : ObjectFlaw → List ℕ
  flaw_line f = (let o = object_at objects f.object in line_of (place_head o.place ++ (text_of bytes o.name
      ++ (codes " bad " ++ flaw_text f.flaw))))

  -- those of some flaws
  abbrev pub flaw_lines : List ObjectFlaw → List ℕ
  flaw_lines flaws = flat_map flaw_line flaws

  -- the line of an operand, and then those of its objects
  abbrev pub operand_text : Place → List ℕ → Values → List ℕ
  operand_text place role v = operand_line place role v ++ object_lines v.pointers
