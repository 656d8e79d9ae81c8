-- What is found at an edge in one state, and what is found in all of a body.
use Rattle.std.specs.Prelude.{◌≡◌, ◌≢◌, ◌⊎◌, ℕ, ◌<◌, ℤ, pos, ◌+ℤ◌, ◌<ℤ◌, Bool, not, true, List}
use Rattle.std.specs.Prelude.{Contains, Option, Some, None}
use Rattle.tm_cint.specs.declared.int_types.IntType.{IntType}
use Rattle.tm_terms.specs.declared.places.Place.{Place}
use Rattle.tm_typed.specs.declared.types.Scalar.{Scalar}
use Rattle.strided_dom.specs.Progression.{Progression, Has}
use Rattle.strided_dom.specs.Combinations.{IsProduct}
use Rattle.pointer_dom.specs.Values.{Values}
use Rattle.pointer_dom.specs.PointerSets.{Pointers, offsets_at}
use Rattle.pointer_dom.specs.Advances.{IsInteger, directed}
use Rattle.post_recheck.specs.transfer_rows.StateForms.{State, value_of}
use Rattle.path_origins.specs.declared.origins.Form.{Form}
use Rattle.path_origins.specs.declared.origins.Form.TheVariants as Forms
use Rattle.path_origins.specs.declared.origins.Life.{Life}
use Rattle.path_origins.specs.declared.origins.Passing.{Passing}
use Rattle.path_origins.specs.declared.origins.Passed.{Passed}
use Rattle.path_origins.specs.declared.origins.Passed.TheVariants as Passes
use Rattle.edge_origins.specs.declared.origins.Fall.{Fall}
use Rattle.part_extents.specs.declared.extents.Extent.{Extent}
use Rattle.part_extents.specs.Parts.{array_at, is_constant, inside_of}
use Rattle.text_choices.specs.declared.kinds.Kind.{Kind}
use Rattle.text_choices.specs.declared.kinds.Kind.TheVariants as Kinds
use Rattle.text_choices.specs.declared.kinds.Choice.{Choice}
use Rattle.operand_orders.specs.Reached.{SolvedBody, operation_at, origin_at, HasState, IsReached, IsOpen, targets}
use Rattle.operand_orders.specs.reading.Views.{state_at}
use Rattle.open_choices.specs.Unset.{IsUninitialised, FindsUnset}
use Rattle.open_choices.specs.Conversions.{IsBeyond}
use Rattle.open_choices.specs.Enumerations.{HasNegative}
use Rattle.open_choices.specs.Lifetimes.{IsLeftOver}
use Rattle.open_choices.specs.Members.{Meets, Leaves}
use Rattle.open_choices.specs.declared.looks.Look.{Look}
use Rattle.open_choices.specs.declared.looks.Look.TheVariants as Looks
use Rattle.open_choices.specs.reading.Looks.{look_of}
use Rattle.open_choices.specs.reading.Enumerated.{enumerated_look_of, IsNegativeStore, IsNegativeOf, IsNegativeOfBoth}
use Rattle.open_choices.specs.reading.Enumerated.{IsNegativeBranch}

-- this kind is left open at this place, where something holds
abbrev pub IsNew : Kind → Place → Type 0 → Choice → Type 0
IsNew kind place Holds c = Holds × (c ≡ record { place = place; kind = kind })

-- a choice that one of a list leaves open
pub record IsOfSome {X : Type 0} (Opens : X → Choice → Type 0) (xs : List X) (c : Choice) : Type 0 where
  pub one : X
  pub has : Contains xs one
  pub opens : Opens one c

-- a choice that one of the first numbers leaves open
pub record IsOfNumber (Opens : ℕ → Choice → Type 0) (n : ℕ) (c : Choice) : Type 0 where
  pub number : ℕ
  pub below : number < n
  pub opens : Opens number c

-- ## Numbers

pub record HasBeyond (of : IntType) (numbers : Progression) : Type 0 where
  pub number : ℤ
  pub has : Has numbers number
  pub beyond : IsBeyond of number

-- ## Lives

-- none of the lives has an initialiser that the edge is not one of
abbrev pub AreUninitialised : ℕ → List Life → Type 0
AreUninitialised edge lives = (life : Life) → Contains lives life → IsUninitialised edge life

-- ## Pointers

-- a pointer may be at offset 0 of an object
pub record HasBegin (p : Pointers) : Type 0 where
  pub object : ℕ
  pub begin : (let o = offsets_at p object in Has o.offsets (pos 0))

-- of another one than this
pub record HasOtherBegin (p : Pointers) (object : ℕ) : Type 0 where
  pub other : ℕ
  pub apart : object ≢ other
  pub begin : (let o = offsets_at p other in Has o.offsets (pos 0))

-- the type to which a pointer that is moved points
abbrev pub target_of : Form → Option ℕ
target_of (Forms.Move target) = Some target
target_of form = None

-- the steps of a move
abbrev pub IsStep : State → ℕ → Bool → ℕ → ℤ → Type 0
IsStep s cells minus by step = (let v = value_of s by in IsProduct v.numbers (directed (not minus) cells) step)

abbrev pub IsMeeting : State → ℕ → ℕ → Type 0
IsMeeting s left right = (let v = value_of s left in let w = value_of s right in
    Meets v.pointers w.pointers ⊎ Meets w.pointers v.pointers)

-- ## What is looked for

-- a pointer is moved by numbers of integer types
abbrev pub IsCounted : State → Look → Type 0
IsCounted s (Looks.Move source cells minus by place) = (n : ℤ) → (let v = value_of s by in Has v.numbers n)
    → IsInteger n
IsCounted s look = Unit {0}

abbrev pub kind_of : Look → Kind
kind_of Looks.Nothing = Kinds.Unset
kind_of (Looks.Load address scalar place) = Kinds.Unset
kind_of (Looks.Store address scalar place) = Kinds.Const
kind_of (Looks.Conversion of source) = Kinds.Implementation
kind_of (Looks.Shift left place) = Kinds.Implementation
kind_of (Looks.Move source cells minus by place) = Kinds.Member
kind_of (Looks.Use pointer place) = Kinds.Lifetime
kind_of (Looks.Comparison left right) = Kinds.Member
kind_of (Looks.Negative address value scalar) = Kinds.Enum
kind_of (Looks.Unary operator value) = Kinds.Enum
kind_of (Looks.Binary operator left right) = Kinds.Enum
kind_of (Looks.Branch left right) = Kinds.Enum

-- ## Noted

abbrev pub passed_kind : Passed → Kind
passed_kind Passes.Pointer = Kinds.Const
passed_kind Passes.Enumeration = Kinds.Enum

abbrev pub IsPassed : Passing → Choice → Type 0
IsPassed passing c = IsNew (passed_kind passing.passed) passing.place (true ≡ true) c

module _ (b : SolvedBody) where
  -- ## One state

  pub record LoadsUnset (edge : ℕ) (s : State) (scalar : Scalar) (address : ℕ) : Type 0 where
    pub cell : ℕ
    pub target : Contains (targets b scalar address s) cell
    pub finds : FindsUnset b edge s cell

  pub record StoresConstant (s : State) (scalar : Scalar) (address : ℕ) : Type 0 where
    pub cell : ℕ
    pub target : Contains (targets b scalar address s) cell
    pub constant : is_constant b.laid (inside_of b.laid cell) ≡ true

  -- a pointer leads to an object that is not open
  pub record LeadsOut (edge : ℕ) (p : Pointers) : Type 0 where
    pub object : ℕ
    pub offset : ℤ
    pub has : (let o = offsets_at p object in Has o.offsets offset)
    pub closed : IsOpen b edge object → ⊥

  -- one of the steps from an offset of an object leads out of an array
  pub record LeavesArray (object target : ℕ) (array : Extent) (offset : ℕ) (Steps : ℤ → Type 0) : Type 0 where
    pub step : ℤ
    pub by : Steps step
    pub leaves : Leaves b object target array (pos offset +ℤ step)

  -- out of the one into which a pointer at the offset points
  pub record LeavesFrom (object target offset : ℕ) (Steps : ℤ → Type 0) : Type 0 where
    pub array : Extent
    pub is : array_at b.laid object target offset ≡ Some array
    pub leaves : LeavesArray object target array offset Steps

  pub record LeavesIn (object target : ℕ) (offsets : Progression) (Steps : ℤ → Type 0) : Type 0 where
    pub offset : ℕ
    pub has : Has offsets (pos offset)
    pub leaves : LeavesFrom object target offset Steps

  pub record MovesAway (target : ℕ) (p : Pointers) (Steps : ℤ → Type 0) : Type 0 where
    pub object : ℕ
    pub leaves : (let o = offsets_at p object in LeavesIn object target o.offsets Steps)

  pub record IsMovedAway (edge : ℕ) (s : State) (source cells : ℕ) (minus : Bool) (by : ℕ) : Type 0 where
    pub target : ℕ
    pub form : (let o = origin_at b edge in o.form ≡ Forms.Move target)
    pub moves : (let v = value_of s source in MovesAway target v.pointers (IsStep s cells minus by))

  -- the place of what is looked for at an edge
  abbrev pub place_at : ℕ → Look → Place
  place_at edge Looks.Nothing = (let o = origin_at b edge in o.place)
  place_at edge (Looks.Load address scalar place) = place
  place_at edge (Looks.Store address scalar place) = place
  place_at edge (Looks.Conversion of source) = (let o = origin_at b edge in o.place)
  place_at edge (Looks.Shift left place) = place
  place_at edge (Looks.Move source cells minus by place) = place
  place_at edge (Looks.Use pointer place) = place
  place_at edge (Looks.Comparison left right) = (let o = origin_at b edge in o.place)
  place_at edge (Looks.Negative address value scalar) = (let o = origin_at b edge in o.place)
  place_at edge (Looks.Unary operator value) = (let o = origin_at b edge in o.place)
  place_at edge (Looks.Binary operator left right) = (let o = origin_at b edge in o.place)
  place_at edge (Looks.Branch left right) = (let o = origin_at b edge in o.place)

  -- it is there
  abbrev pub Finds : ℕ → State → Look → Type 0
  Finds edge s Looks.Nothing = ⊥
  Finds edge s (Looks.Load address scalar place) = LoadsUnset edge s scalar address
  Finds edge s (Looks.Store address scalar place) = StoresConstant s scalar address
  Finds edge s (Looks.Conversion of source) = (let v = value_of s source in HasBeyond of v.numbers)
  Finds edge s (Looks.Shift left place) = (let v = value_of s left in HasNegative v.numbers)
  Finds edge s (Looks.Move source cells minus by place) = IsMovedAway edge s source cells minus by
  Finds edge s (Looks.Use pointer place) = (let v = value_of s pointer in LeadsOut edge v.pointers)
  Finds edge s (Looks.Comparison left right) = IsMeeting s left right
  Finds edge s (Looks.Negative address value scalar) = IsNegativeStore b s address value scalar
  Finds edge s (Looks.Unary operator value) = IsNegativeOf s operator value
  Finds edge s (Looks.Binary operator left right) = IsNegativeOfBoth s operator left right
  Finds edge s (Looks.Branch left right) = IsNegativeBranch s left right

  abbrev pub IsFound : ℕ → State → Look → Choice → Type 0
  IsFound edge s look c = IsNew (kind_of look) (place_at edge look) (Finds edge s look) c

  -- ## An edge

  -- one of its states leaves the choice open, where this is looked for
  pub record IsOfEdge (edge : ℕ) (look : Look) (c : Choice) : Type 0 where
    pub state : State
    pub has : HasState b edge (operation_at b edge) state
    pub found : IsFound edge state look c

  -- the state that a copy leaves, if there is one, does
  pub record IsOfCopy (edge : ℕ) (look : Look) (copy : ℕ) (c : Choice) : Type 0 where
    pub state : State
    pub is : state_at b copy ≡ Some state
    pub found : IsFound edge state look c

  -- by its operation, and by its form too, for enumerations
  abbrev pub IsOpenAt : ℕ → Choice → Type 0
  IsOpenAt edge c = IsOfEdge edge (look_of (operation_at b edge)) c

  abbrev pub IsEnumeratedAt : ℕ → Choice → Type 0
  IsEnumeratedAt edge c = (let o = origin_at b edge in IsOfEdge edge (enumerated_look_of o.form (operation_at b edge)) c)

  -- each pointer that the edge moves is moved by numbers of integer types
  abbrev pub IsCountedAt : ℕ → Look → Type 0
  IsCountedAt edge look = (s : State) → HasState b edge (operation_at b edge) s → IsCounted s look

  pub record AreCounted : Type 0 where
    pub each : (edge : ℕ) → IsCountedAt edge (look_of (operation_at b edge))

  -- ## What is noted of a body

  abbrev pub IsFallen : Fall → Choice → Type 0
  IsFallen fall c = IsNew Kinds.Unset fall.place (IsReached b fall.edge) c

  abbrev pub IsBegun : Life → Choice → Type 0
  IsBegun life c = IsNew Kinds.Lifetime life.place (IsLeftOver b life) c
