-- Operands of operations that may fail, as JSON.
use Rattle.std.specs.Prelude.{ℕ, pos, List, [], ◌++◌, codes}
use Rattle.std.specs.Fmt.{signed_decimal}
use Rattle.strided_dom.specs.Progression.{Progression, empty, single, row, first_of, last_of, stride_of}
use Rattle.pointer_dom.specs.OffsetSets.{OffsetSet}
use Rattle.pointer_dom.specs.Values.{Values}
use Rattle.tm_cint.specs.declared.int_types.IntType.{IntType}
use Rattle.notes_json.specs.Pieces.{number_text, word_text, truth_text}
use Rattle.notes_json.specs.Words.{type_text}

-- ## Numbers

-- a text, where there are numbers
abbrev pub unless_empty : Progression → List ℕ → List ℕ
unless_empty empty text = []
unless_empty (single v) text = text
unless_empty (row first gap more) text = text

-- the greatest of them, the least, and their stride, which is 0 where there is one number
abbrev pub some_high : Progression → List ℕ
some_high s = codes "\"hi\":" ++ (signed_decimal (last_of s) ++ codes ",")

abbrev pub some_low : Progression → List ℕ
some_low s = codes "\"lo\":" ++ (signed_decimal (first_of s) ++ codes ",")

abbrev pub some_step : Progression → List ℕ
some_step s = codes ",\"step\":" ++ signed_decimal (pos (stride_of s))

abbrev pub high_text : Progression → List ℕ
high_text s = unless_empty s (some_high s)

abbrev pub low_text : Progression → List ℕ
low_text s = unless_empty s (some_low s)

abbrev pub step_text : Progression → List ℕ
step_text s = unless_empty s (some_step s)

-- {["hi":HIGH,]["lo":LOW,]"role":"ROLE"[,"step":STRIDE],"type":"TYPE"}
abbrev pub number_operand : List ℕ → IntType → Values → List ℕ
number_operand role of v = codes "{" ++ (high_text v.numbers ++ (low_text v.numbers
    ++ (word_text (codes "\"role\":\"") role ++ (step_text v.numbers
    ++ (word_text (codes ",\"type\":\"") (type_text of) ++ codes "}")))))

-- ## Pointers

-- ",["hi":HIGH,]["lo":LOW,]"object":OBJECT,"size":CELLS[,"step":STRIDE]}: the number of an object, how many cells it
-- has, and the offsets of the pointers to it, behind what is wrong with these
abbrev pub offsets_text : ℕ → OffsetSet → List ℕ
offsets_text object o = codes "\"," ++ (high_text o.offsets ++ (low_text o.offsets
    ++ (number_text (codes "\"object\":") object ++ (number_text (codes ",\"size\":") o.size
    ++ (step_text o.offsets ++ codes "}")))))

-- {"invalid":false,"null":false,"objects":[
abbrev pub pointer_front : Values → List ℕ
pointer_front v = (codes "{\"invalid\":" ++ truth_text v.pointers.invalid)
    ++ ((codes ",\"null\":" ++ truth_text v.pointers.null) ++ codes ",\"objects\":[")

-- ],"role":"ROLE","type":"pointer"}
abbrev pub pointer_back : List ℕ → List ℕ
pointer_back role = word_text (codes "],\"role\":\"") role ++ codes ",\"type\":\"pointer\"}"
