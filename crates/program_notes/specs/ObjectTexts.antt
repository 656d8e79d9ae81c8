-- Objects as JSON, with the bounds of what they hold.
use Rattle.std.specs.Prelude.{ℕ, ◌==◌, Bool, true, false, List, ◌++◌, length, codes, slice_get, Option, Some, None}
use Rattle.std.specs.List.{filter, find, range_with_len}
use Rattle.tm_terms.specs.Spelling.{text_of}
use Rattle.value_ranges.specs.declared.object_bounds.ObjectBounds.{ObjectBounds}
use Rattle.note_details.specs.declared.objects.MemberBounds.{MemberBounds}
use Rattle.note_details.specs.declared.objects.ObjectDetails.{ObjectDetails}
use Rattle.notes_json.specs.Pieces.{listed, or_nothing}
use Rattle.notes_json.specs.Names.{object_front, line_text, range_text, member_text, object_back}
use Rattle.program_notes.specs.declared.declarations.DeclaredObject.{DeclaredObject}

-- ## Bounds

-- the bounds of an object, if it has any
abbrev pub is_of : ℕ → ObjectBounds → Bool
is_of object b = (b.object == object)

abbrev pub bounds_of : List ObjectBounds → ℕ → Option ObjectBounds
bounds_of bounds object = find (is_of object) bounds

abbrev pub member_object : MemberBounds → List ℕ
member_object m = member_text m.name.items m.low m.high m.volatile

-- "hi":HIGH,"line":LINE,"lo":LOW,"members":[MEMBER,..], or "line":LINE where there are no bounds
abbrev pub bounds_text : ℕ → List MemberBounds → Option ObjectBounds → List ℕ
bounds_text line members None = line_text line
bounds_text line members (Some b) = range_text line b.low b.high ++ (listed member_object members ++ codes "]")

-- ## Objects

-- an object that has a number is listed
abbrev pub has_number : Option (Option ℕ) → Bool
has_number None = false
has_number (Some None) = false
has_number (Some (Some n)) = true

abbrev pub is_listed : List (Option ℕ) → ℕ → Bool
is_listed numbers n = has_number (slice_get numbers n)

abbrev pub listed_below : List (Option ℕ) → ℕ → List ℕ
listed_below numbers n = filter (is_listed numbers) (range_with_len 0 n)

module _ (bytes : List ℕ) where
  -- {"col":COL,["function":"FUNCTION",]["hi":HIGH,]"line":LINE,["lo":LOW,"members":[MEMBER,..],]"name":"NAME",
  -- "size":CELLS,"static":false[,"task":TASK],"type":"TYPE"}
  abbrev pub object_text : Option ObjectBounds → DeclaredObject → ObjectDetails → List ℕ
  object_text bounds o d = (let of = o.of in object_front of.place (text_of bytes o.function) o.task
      ++ (bounds_text of.place.line d.members.items bounds
      ++ object_back (text_of bytes of.name) o.cells o.task d.words.items))

  module _ (bounds : List ObjectBounds) (objects : List DeclaredObject) (details : List ObjectDetails) where
    -- the object with this number among all, if it is declared and has details
    abbrev pub object_at : ℕ → List ℕ
    object_at n = or_nothing (λ o. or_nothing (object_text (bounds_of bounds n) o) (slice_get details n))
        (slice_get objects n)

    -- those that are listed
    abbrev pub objects_text : List (Option ℕ) → List ℕ
    objects_text numbers = listed object_at (listed_below numbers (length numbers))
