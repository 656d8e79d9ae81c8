-- What the tokens of units are: each is looked at behind those that stand before it.
use Rattle.std.specs.Prelude.{Bool, true, false, ℕ, ◌-◌, nat_lt, Option, Some, None, is_some, List, [], ◌∷◌, ◌++◌}
use Rattle.std.specs.Prelude.{length, map, take, slice_index_or, if◌then◌else◌}
use Rattle.tm_terms.specs.declared.tokens.Token.{Token}
use Rattle.unit_plans.specs.Marks.{mark_of}
use Rattle.unit_plans.specs.Names.{first_named, name_in}
use Rattle.unit_plans.specs.Rooms.{opened}
use Rattle.unit_plans.specs.Spots.{behind_token, ends, first_spot, lead_behind, role_of}
use Rattle.unit_plans.specs.declared.declarations.Declared.TheVariants as declared
use Rattle.unit_plans.specs.declared.declarations.Local.{Local}
use Rattle.unit_plans.specs.declared.declarations.Role.{Role}
use Rattle.unit_plans.specs.declared.declarations.Role.TheVariants as role
use Rattle.unit_plans.specs.declared.declarations.Sight.{Sight}
use Rattle.unit_plans.specs.declared.declarations.Spot.{Spot}
use Rattle.unit_plans.specs.declared.marks.Mark.{Mark}
use Rattle.unit_plans.specs.declared.marks.Mark.TheVariants as mark
use Rattle.unit_plans.specs.declared.rooms.Room.{Room}
use Rattle.unit_plans.specs.declared.rooms.Room.TheVariants as room
use Rattle.unit_tokens.specs.Units.{unit_of}

-- where the next token stands: what it stands in, the rooms round that, the outermost first, and what the tokens before
-- it are
pub record Stand : Type 0 where
  pub spot : Spot
  pub rooms : List Room
  pub sights : List Sight

abbrev pub start : Stand
start = record { spot = first_spot 0; rooms = []; sights = [] }

-- the name that a token declares by `typedef` at file scope
abbrev pub typedef_by : Role → Option Local → Option Local
typedef_by (role.Declared declared.Typedef) name = name
typedef_by _ name = None

abbrev pub typedef_of : Sight → Option Local
typedef_of sight = typedef_by sight.role (name_in sight.unit sight.token sight.role)

-- whether a token is a name that a typedef of its unit has declared before it
abbrev pub is_type : List Sight → ℕ → Mark → Bool
is_type sights unit (mark.Name name) =
    is_some (first_named (record { unit = unit; is_tag = false; name = name }) (map typedef_of sights))
is_type sights unit _ = false

abbrev pub closes : Mark → Bool
closes mark.Close = true
closes mark.CloseBrace = true
closes _ = false

-- the rooms round the next token, and the one in which it stands
abbrev pub rooms_behind : List Room → Room → Option Room → Mark → List Room
rooms_behind rooms r (Some opened_room) m = rooms ++ r ∷ []
rooms_behind rooms r None m = if closes m then take (length rooms - 1) rooms else rooms

abbrev pub room_behind : List Room → Room → Option Room → Mark → Room
room_behind rooms r (Some opened_room) m = opened_room
room_behind rooms r None m = if closes m then slice_index_or rooms (length rooms - 1) room.Outer else r

-- what a token is that stands here, in so many brackets
abbrev pub sight_of : ℕ → ℕ → Spot → ℕ → Bool → Token → Mark → Sight
sight_of number unit s brackets is_type token next = record {
  number = number;
  token = token;
  unit = unit;
  spot = s;
  role = role_of s (nat_lt brackets 1) is_type (mark_of token.shape) next;
  ends = ends s brackets (mark_of token.shape);
}

abbrev pub opened_by : Spot → Mark → Option Room
opened_by s m = opened s.lead s.room s.in_value m

abbrev pub next_room : List Room → Sight → Room
next_room rooms sight =
    room_behind rooms sight.spot.room (opened_by sight.spot (mark_of sight.token.shape)) (mark_of sight.token.shape)

abbrev pub next_rooms : List Room → Sight → List Room
next_rooms rooms sight =
    rooms_behind rooms sight.spot.room (opened_by sight.spot (mark_of sight.token.shape)) (mark_of sight.token.shape)

-- where the token behind one stands in the same declaration, but for its room and what stands before it
abbrev pub next_spot : List Room → Sight → Spot
next_spot rooms sight =
    behind_token sight.spot (nat_lt (length rooms) 1) sight.token sight.role (name_in 0 sight.token sight.role)
    (mark_of sight.token.shape)

-- where the token behind one stands in the same declaration
abbrev pub goes_on : List Room → Sight → Spot
goes_on rooms sight = record (next_spot rooms sight) {
  lead = lead_behind sight.spot.lead sight.role (mark_of sight.token.shape);
  room = next_room rooms sight;
}

abbrev pub behind_sight : Stand → Sight → Stand
behind_sight stand sight = record {
  spot = if sight.ends then first_spot (length (stand.sights ++ sight ∷ [])) else goes_on stand.rooms sight;
  rooms = next_rooms stand.rooms sight;
  sights = stand.sights ++ sight ∷ [];
}

abbrev pub sight_by : Stand → ℕ → Token → Mark → Stand
sight_by stand unit token next = behind_sight stand (sight_of (length stand.sights) unit stand.spot (length stand.rooms)
    (is_type stand.sights unit (mark_of token.shape)) token next)

-- one token further
abbrev pub behind : List ℕ → Stand → Token → Mark → Stand
behind borders stand token next = sight_by stand (unit_of borders token.place.line) token next

-- what the next token is to declarations
abbrev pub next_mark : List Token → Mark
next_mark [] = mark.Other
next_mark (token ∷ tokens) = mark_of token.shape

abbrev pub behind_all : List ℕ → Stand → List Token → Stand
behind_all borders stand [] = stand
behind_all borders stand (token ∷ tokens) = behind_all borders (behind borders stand token (next_mark tokens)) tokens

-- what the tokens of units are, by the lines that stand before units
unfoldable pub sights_of : List ℕ → List Token → List Sight
sights_of borders tokens = (behind_all borders start tokens).sights
