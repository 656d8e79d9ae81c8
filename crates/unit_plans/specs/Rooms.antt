-- What brackets make of what stands in them: file scope, the members of a structure, the constants of an enumeration,
-- or a place where nothing of file scope is declared (C99 6.2.1).
use Rattle.std.specs.Prelude.{Bool, true, false, Option, Some, None, if◌then◌else◌}
use Rattle.unit_plans.specs.declared.marks.Mark.{Mark}
use Rattle.unit_plans.specs.declared.marks.Mark.TheVariants as mark
use Rattle.unit_plans.specs.declared.rooms.Lead.{Lead}
use Rattle.unit_plans.specs.declared.rooms.Lead.TheVariants as lead
use Rattle.unit_plans.specs.declared.rooms.Room.{Room}
use Rattle.unit_plans.specs.declared.rooms.Room.TheVariants as room

-- in a body or among parameters
abbrev pub is_local : Room → Bool
is_local room.Inner = true
is_local room.LocalMembers = true
is_local room.Outer = false
is_local room.Members = false
is_local room.Constants = false

abbrev pub is_inner : Room → Bool
is_inner room.Inner = true
is_inner room.LocalMembers = false
is_inner room.Outer = false
is_inner room.Members = false
is_inner room.Constants = false

-- braces behind `struct` have members, those behind `enum` constants; all others are of a body or a value
abbrev pub in_braces : Lead → Room → Room
in_braces lead.Struct r = if is_local r then room.LocalMembers else room.Members
in_braces lead.StructTag r = if is_local r then room.LocalMembers else room.Members
in_braces lead.Enum r = if is_local r then room.Inner else room.Constants
in_braces lead.EnumTag r = if is_local r then room.Inner else room.Constants
in_braces _ r = room.Inner

-- parentheses at file scope have parameters behind the name of a function, and an urgency behind `__task`; others stand
-- round a declarator (C99 6.7.5)
abbrev pub in_parentheses : Lead → Room → Room
in_parentheses l room.Members = room.Members
in_parentheses l room.LocalMembers = room.LocalMembers
in_parentheses l room.Constants = room.Inner
in_parentheses l room.Inner = room.Inner
in_parentheses lead.Declared room.Outer = room.Inner
in_parentheses lead.Task room.Outer = room.Inner
in_parentheses _ room.Outer = room.Outer

-- the room that a token opens, if it opens one: nothing of file scope is declared in a value
abbrev pub opened : Lead → Room → Bool → Mark → Option Room
opened l r in_value mark.OpenBracket = Some room.Inner
opened l r in_value mark.OpenParenthesis = Some (if in_value then room.Inner else in_parentheses l r)
opened l r in_value mark.OpenBrace = Some (if in_value then room.Inner else in_braces l r)
opened l r in_value _ = None
