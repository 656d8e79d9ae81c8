-- The texts of races by object. Lines, columns and numbers stand in decimal.
use Rattle.std.specs.Prelude.{ℕ, Bool, cond, List, [], ◌++◌, length, codes, decimal, slice_get, Option, Some, None}
use Rattle.std.specs.List.{flat_map}
use Rattle.tm_terms.specs.declared.tokens.Name.{Name}
use Rattle.tm_terms.specs.Spelling.{text_of}
use Rattle.tm_terms.specs.Texts.{line_of}
use Rattle.access_groups.specs.declared.object_access.ObjectAccess.{ObjectAccess}
use Rattle.access_groups.specs.declared.object_access.AccessGroup.{AccessGroup}
use Rattle.note_lines.specs.declared.names.ObjectName.{ObjectName}
use Rattle.tm_terms.specs.Texts.{place_head}
use Rattle.note_lines.specs.Names.{no_name, name_at, names_below}

-- what an access does, and whether it races
abbrev pub kind_text : Bool → List ℕ
kind_text stores = cond stores (codes " stores") (codes " loads")

abbrev pub racing_text : Bool → List ℕ
racing_text racing = cond racing (codes " races") []

abbrev pub no_object : ObjectName
no_object = record { name = no_name; place = record { line = 0; col = 0 } }

abbrev pub or_no_object : Option ObjectName → ObjectName
or_no_object None = no_object
or_no_object (Some o) = o

-- RACES LENGTH
abbrev pub races_text : ℕ → List ℕ
races_text count = codes " RACES " ++ decimal count

-- races N
abbrev pub count_line : ℕ → List ℕ
count_line count = line_of (codes "races " ++ decimal count)

abbrev pub object_at : List ObjectName → ℕ → ObjectName
object_at objects n = or_no_object (slice_get objects n)

module _ (bytes : List ℕ) where
  -- LINE:COL TASK stores|loads holds MUTEX ..
  abbrev pub access_front : List Name → List Name → ObjectAccess → List ℕ
  access_front tasks mutexes a = place_head a.place ++ (name_at bytes tasks a.task ++ (kind_text a.stores
      ++ (codes " holds" ++ names_below bytes mutexes a.held 16)))

  -- free MUTEX .. [races]
  abbrev pub access_back : List Name → ObjectAccess → List ℕ
  access_back mutexes a = codes " free" ++ (names_below bytes mutexes a.free 16 ++ racing_text a.racing)

  abbrev pub access_line : List Name → List Name → ObjectAccess → List ℕ
  access_line tasks mutexes a = line_of (access_front tasks mutexes a ++ access_back mutexes a)

  -- LINE:COL NAME RACES LENGTH, where the object is declared first
  abbrev pub group_head : List ObjectName → AccessGroup → List ℕ
  group_head objects g = (let o = object_at objects g.object in
      line_of (place_head o.place ++ (text_of bytes o.name ++ races_text (length g.accesses.items))))

  module _ (objects : List ObjectName) (tasks mutexes : List Name) where
    -- its head, and the lines of its accesses, in their order
    abbrev pub group_text : AccessGroup → List ℕ
    group_text g = group_head objects g ++ flat_map (access_line tasks mutexes) g.accesses.items

    -- the text of each group, and then their number
    abbrev pub groups_text : List AccessGroup → List ℕ
    groups_text groups = flat_map group_text groups ++ count_line (length groups)
