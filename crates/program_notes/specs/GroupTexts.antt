-- Races by object, as JSON.
use Rattle.std.specs.Prelude.{ℕ, List, [], ◌++◌, codes, slice_get, Option, Some, None, Vec}
use Rattle.std.specs.List.{enumerate_from}
use Rattle.std.specs.declared.alloc.Global.{Global}
use Rattle.access_groups.specs.declared.object_access.ObjectAccess.{ObjectAccess}
use Rattle.access_groups.specs.declared.object_access.AccessGroup.{AccessGroup}
use Rattle.notes_json.specs.Pieces.{listed, number_text}
use Rattle.notes_json.specs.Accesses.{access_text}
use Rattle.program_notes.specs.Guards.{guard_of, guard_text}
use Rattle.program_notes.specs.OperandTexts.{number_of}

-- ## Accesses

-- the member that the access at a place reaches, as it is told
abbrev pub or_no_member : Option (Vec ℕ Global) → List ℕ
or_no_member None = []
or_no_member (Some m) = m.items

abbrev pub member_at : List (Vec ℕ Global) → ℕ → List ℕ
member_at members n = or_no_member (slice_get members n)

-- an access with its place among them
abbrev pub access_object : List (Vec ℕ Global) → ℕ × ObjectAccess → List ℕ
access_object members e =
    (let a = e.1 in access_text a.place a.free a.held a.stores (member_at members e.0) a.racing a.task)

-- ## Groups

abbrev pub or_no_members : Option (Vec (Vec ℕ Global) Global) → List (Vec ℕ Global)
or_no_members None = []
or_no_members (Some ms) = ms.items

abbrev pub members_at : List (Vec (Vec ℕ Global) Global) → ℕ → List (Vec ℕ Global)
members_at members n = or_no_members (slice_get members n)

module _ (numbers : List (Option ℕ)) where
  -- {"accesses":[ACCESS,..],"mutex":MUTEX,"mutex_count":COUNT,"object":OBJECT}
  abbrev pub group_text : List (Vec ℕ Global) → AccessGroup → List ℕ
  group_text members g =
      codes "{\"accesses\":[" ++ (listed (access_object members) (enumerate_from 0 g.accesses.items)
      ++ (guard_text (guard_of g.accesses.items)
      ++ (number_text (codes ",\"object\":") (number_of numbers g.object) ++ codes "}")))

  -- a group with its place among them
  abbrev pub group_object : List (Vec (Vec ℕ Global) Global) → ℕ × AccessGroup → List ℕ
  group_object members e = group_text (members_at members e.0) e.1

  abbrev pub groups_text : List AccessGroup → List (Vec (Vec ℕ Global) Global) → List ℕ
  groups_text groups members = listed (group_object members) (enumerate_from 0 groups)
