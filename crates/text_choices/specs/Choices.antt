-- What is left open at a place, and lists to which exactly so much is added.
use Rattle.std.specs.Prelude.{◌≡◌, ◌↔◌, ◌⊎◌, ℕ, List, Contains, codes}
use Rattle.tm_terms.specs.declared.places.Place.{Place}
use Rattle.text_choices.specs.declared.kinds.Kind.{Kind}
use Rattle.text_choices.specs.declared.kinds.Kind.TheVariants as Kinds
use Rattle.text_choices.specs.declared.kinds.Choice.{Choice}

-- exactly the choices of which something holds are added
abbrev pub Adds : List Choice → List Choice → (Choice → Type 0) → Type 0
Adds old new is = (c : Choice) → Contains new c ↔ (Contains old c ⊎ is c)

-- a choice of a kind, at a place of which something holds
abbrev pub OfKind : Kind → (Place → Type 0) → Choice → Type 0
OfKind kind is c = (c.kind ≡ kind) × is c.place

-- the word of a kind
abbrev pub word : Kind → List ℕ
word Kinds.Const = codes "CONST"
word Kinds.Enum = codes "ENUM"
word Kinds.Implementation = codes "IMPLEMENTATION"
word Kinds.Layout = codes "LAYOUT"
word Kinds.Lifetime = codes "LIFETIME"
word Kinds.Member = codes "MEMBER"
word Kinds.Order = codes "ORDER"
word Kinds.Pragma = codes "PRAGMA"
word Kinds.Reserved = codes "RESERVED"
word Kinds.Restrict = codes "RESTRICT"
word Kinds.Unset = codes "UNSET"
