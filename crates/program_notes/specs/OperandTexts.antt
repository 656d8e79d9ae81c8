-- Operands as JSON: numbers with their types, and pointers with what is wrong with them.
use Rattle.std.specs.Prelude.{ℕ, ◌==◌, Bool, List, ◌++◌, map, codes, slice_get, Option, Some, None}
use Rattle.std.specs.List.{join_with_byte, filter, enumerate_from}
use Rattle.std.specs.FinMap.{entries}
use Rattle.tm_cint.specs.declared.int_types.IntType.{IntType}
use Rattle.pointer_dom.specs.OffsetSets.{OffsetSet}
use Rattle.pointer_dom.specs.Values.{Values}
use Rattle.flow_graph.specs.declared.operations.Operation.{Operation}
use Rattle.alarm_contexts.specs.declared.flaws.ObjectFlaw.{ObjectFlaw}
use Rattle.notes_json.specs.Pieces.{listed}
use Rattle.notes_json.specs.Operations.{role_at}
use Rattle.notes_json.specs.Operands.{offsets_text, number_operand, pointer_front, pointer_back}
use Rattle.program_notes.specs.Flaws.{flaw_text}

-- ## What is wrong with pointers to an object

abbrev pub is_of : ℕ → ObjectFlaw → Bool
is_of object f = (f.object == object)

abbrev pub one_flaw : ObjectFlaw → List ℕ
one_flaw f = flaw_text f.flaw

-- the flaws of the object, with a bar, which is byte 124, between each and the next one
abbrev pub flaws_text : List ObjectFlaw → ℕ → List ℕ
flaws_text flaws object = join_with_byte 124 (map one_flaw (filter (is_of object) flaws))

-- ## Numbers of objects

-- the number of an object among those that are listed
abbrev pub or_own : ℕ → Option (Option ℕ) → ℕ
or_own object None = object
or_own object (Some None) = object
or_own object (Some (Some n)) = n

abbrev pub number_of : List (Option ℕ) → ℕ → ℕ
number_of numbers object = or_own object (slice_get numbers object)

-- the type at a place, none where there is none
abbrev pub or_no_type : Option (Option IntType) → Option IntType
or_no_type None = None
or_no_type (Some t) = t

abbrev pub type_at : List (Option IntType) → ℕ → Option IntType
type_at types n = or_no_type (slice_get types n)

-- ## Pointers

module _ (numbers : List (Option ℕ)) (flaws : List ObjectFlaw) where
  -- {"bad":"FLAW|..",["hi":HIGH,]["lo":LOW,]"object":OBJECT,"size":CELLS[,"step":STRIDE]}
  abbrev pub pointed_text : ℕ × OffsetSet → List ℕ
  pointed_text e = codes "{\"bad\":\"" ++ (flaws_text flaws e.0 ++ offsets_text (number_of numbers e.0) e.1)

  -- {"invalid":false,"null":false,"objects":[OBJECT,..],"role":"ROLE","type":"pointer"}
  abbrev pub pointer_operand : List ℕ → Values → List ℕ
  pointer_operand role v = (let p = v.pointers in
      pointer_front v ++ (listed pointed_text (entries p.objects) ++ pointer_back role))

  -- ## Operands

  -- one of a type, or a pointer
  abbrev pub typed_operand : List ℕ → Option IntType → Values → List ℕ
  typed_operand role None v = pointer_operand role v
  typed_operand role (Some of) v = number_operand role of v

  -- one with its place among them
  abbrev pub operand_text : Operation → List (Option IntType) → ℕ × Values → List ℕ
  operand_text operation types e = typed_operand (role_at operation e.0) (type_at types e.0) e.1

  abbrev pub operands_text : Operation → List (Option IntType) → List Values → List ℕ
  operands_text operation types operands = listed (operand_text operation types) (enumerate_from 0 operands)
