-- Where a token stands in its declaration, and what it is to the names of its unit (C99 6.2.2, 6.2.3, 6.7, 6.9).
use Rattle.std.specs.Prelude.{Bool, true, false, ℕ, ◌&&◌, ◌||◌, not, nat_lt, Option, Some, None, if◌then◌else◌}
use Rattle.tm_terms.specs.declared.tokens.Token.{Token}
use Rattle.unit_plans.specs.Marks.{ends_member, is_open_brace, is_open_parenthesis}
use Rattle.unit_plans.specs.Rooms.{in_braces, is_inner, is_local}
use Rattle.unit_plans.specs.declared.declarations.Declared.{Declared}
use Rattle.unit_plans.specs.declared.declarations.Declared.TheVariants as declared
use Rattle.unit_plans.specs.declared.declarations.Local.{Local}
use Rattle.unit_plans.specs.declared.declarations.Role.{Role}
use Rattle.unit_plans.specs.declared.declarations.Role.TheVariants as role
use Rattle.unit_plans.specs.declared.declarations.Spot.{Spot}
use Rattle.unit_plans.specs.declared.marks.Mark.{Mark}
use Rattle.unit_plans.specs.declared.marks.Mark.TheVariants as mark
use Rattle.unit_plans.specs.declared.rooms.Lead.{Lead}
use Rattle.unit_plans.specs.declared.rooms.Lead.TheVariants as lead
use Rattle.unit_plans.specs.declared.rooms.Room.{Room}
use Rattle.unit_plans.specs.declared.rooms.Room.TheVariants as room

-- the first token of a declaration
abbrev pub first_spot : ℕ → Spot
first_spot from = record {
  from = from;
  room = room.Outer;
  lead = lead.Other;
  storage = None;
  in_value = false;
  has_body = false;
  declares = true;
  key = None;
  declared = None;
}

-- a brace outside of all brackets opens a body, unless it has members, constants or a value
abbrev pub opens_body : Spot → Bool → Bool
opens_body s outside = outside && not s.in_value && is_inner (in_braces s.lead s.room)

-- without a storage class a function is declared as with `extern`, and an object is defined (C99 6.2.2, 6.9.2)
abbrev pub declared_by : Option Declared → Mark → Declared
declared_by (Some storage) next = storage
declared_by None next = if is_open_parenthesis next then declared.Extern else declared.Defined

-- the name of a member has a name space of its own (C99 6.2.3)
abbrev pub member_or_used : Mark → Role
member_or_used next = if ends_member next then role.None else role.Used

-- an enumeration constant stands first in braces or behind a comma
abbrev pub constant_or_used : Lead → Role
constant_or_used lead.Begin = role.Declared declared.Enumerator
constant_or_used _ = role.Used

-- in a declaration at file scope the name of a type is used, and any other name is declared, but in a value
abbrev pub declared_or_used : Spot → Bool → Mark → Role
declared_or_used s is_type next =
    if s.in_value || is_type then role.Used else role.Declared (declared_by s.storage next)

-- an ordinary name
abbrev pub ordinary_by : Room → Spot → Bool → Mark → Role
ordinary_by room.Members s is_type next = member_or_used next
ordinary_by room.LocalMembers s is_type next = member_or_used next
ordinary_by room.Constants s is_type next = constant_or_used s.lead
ordinary_by room.Outer s is_type next = declared_or_used s is_type next
ordinary_by room.Inner s is_type next = role.Used

-- a tag
abbrev pub tag_by : Room → Mark → Role
tag_by r next =
    if is_open_brace next then (if is_local r then role.OpenedWithin else role.Opened) else role.Tag

-- a name
abbrev pub name_by : Lead → Spot → Bool → Mark → Role
name_by lead.Selector s is_type next = role.None
name_by lead.Struct s is_type next = tag_by s.room next
name_by lead.Enum s is_type next = tag_by s.room next
name_by _ s is_type next = ordinary_by s.room s is_type next

-- the value or the body of what the present declarator declares
abbrev pub defining : Option Token → Role
defining (Some token) = role.Defines token
defining None = role.None

-- what a token is to the names of its unit, by whether it stands outside of all brackets, whether a typedef has
-- declared it, and the token behind it
abbrev pub role_of : Spot → Bool → Bool → Mark → Mark → Role
role_of s outside is_type (mark.Name name) next = name_by s.lead s is_type next
role_of s outside is_type mark.Equal next = if outside then defining s.declared else role.None
role_of s outside is_type mark.OpenBrace next = if opens_body s outside then defining s.declared else role.None
role_of s outside is_type _ next = role.None

-- a declaration ends with a semicolon outside of all brackets, and with the brace that closes a body (C99 6.7, 6.9.1)
abbrev pub ends : Spot → ℕ → Mark → Bool
ends s brackets mark.Semicolon = nat_lt brackets 1
ends s brackets mark.CloseBrace = nat_lt brackets 2 && s.has_body
ends s brackets _ = false

-- what stands right before the next token
abbrev pub lead_behind_role : Role → Lead
lead_behind_role (role.Declared declared.Static) = lead.Declared
lead_behind_role (role.Declared declared.Extern) = lead.Declared
lead_behind_role (role.Declared declared.Defined) = lead.Declared
lead_behind_role (role.Declared declared.Typedef) = lead.Declared
lead_behind_role _ = lead.Other

abbrev pub lead_behind_name : Lead → Role → Lead
lead_behind_name lead.Struct r = lead.StructTag
lead_behind_name lead.Enum r = lead.EnumTag
lead_behind_name _ r = lead_behind_role r

abbrev pub lead_behind : Lead → Role → Mark → Lead
lead_behind l r (mark.Name name) = lead_behind_name l r
lead_behind l r mark.Selector = lead.Selector
lead_behind l r mark.Struct = lead.Struct
lead_behind l r mark.Enum = lead.Enum
lead_behind l r mark.Task = lead.Task
lead_behind l r mark.OpenBrace = lead.Begin
lead_behind l r mark.Comma = lead.Begin
lead_behind l r _ = lead.Other

-- the first of two names, if there are any
abbrev pub first_of : Option Local → Option Local → Option Local
first_of (Some one) other = Some one
first_of None other = other

-- behind a name: the present declarator declares an object, a function or a type by it, and the declaration a type, a
-- constant or a mutex
abbrev pub behind_name : Spot → Token → Role → Option Local → Spot
behind_name s token (role.Declared declared.Static) name = record s { declares = false; declared = Some token }
behind_name s token (role.Declared declared.Defined) name = record s { declares = false; declared = Some token }
behind_name s token (role.Declared declared.Extern) name = record s { declared = Some token }
behind_name s token (role.Declared declared.Typedef) name =
    record s { key = first_of s.key name; declared = Some token }
behind_name s token (role.Declared declared.Mutex) name = record s { key = first_of s.key name }
behind_name s token (role.Declared declared.Enumerator) name = record s { key = first_of s.key name }
behind_name s token role.Opened name = record s { key = first_of s.key name }
behind_name s token _ name = s

-- behind a token outside of all brackets: a value, the next declarator, or a storage class
abbrev pub behind_outside : Spot → Mark → Spot
behind_outside s mark.Equal = record s { in_value = true; declares = false }
behind_outside s mark.Comma = record s { in_value = false; declared = None }
behind_outside s (mark.Storage storage) = record s { storage = Some storage }
behind_outside s _ = s

-- behind the brace that opens a body
abbrev pub behind_body : Spot → Spot
behind_body s = record s { has_body = true; declares = false }

-- behind a token
abbrev pub behind_token : Spot → Bool → Token → Role → Option Local → Mark → Spot
behind_token s outside token r name (mark.Name text) = behind_name s token r name
behind_token s outside token r name mark.OpenBrace = if opens_body s outside then behind_body s else s
behind_token s outside token r name m = if outside then behind_outside s m else s
