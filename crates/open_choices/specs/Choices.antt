-- The list of all choices that a solution of a program leaves open, beside those that its source does.
use Rattle.std.specs.Prelude.{◌≡◌, ◌↔◌, ◌⊎◌, ℕ, ◌<◌, List, [], ◌∷◌, length, Contains, Some, slice_get}
use Rattle.tm_terms.specs.declared.places.Place.{Place}
use Rattle.tm_laid.specs.Layouts.{LaidTree}
use Rattle.interfere_set.specs.Stores.{Interferences}
use Rattle.post_recheck.specs.transfer_rows.StateForms.{State}
use Rattle.post_recheck.specs.table_covers.Solutions.{NodeTable}
use Rattle.post_recheck.specs.program_equations.Programs.{ProgramBodies}
use Rattle.edge_origins.specs.declared.origins.BodyOrigins.{BodyOrigins}
use Rattle.text_choices.specs.declared.kinds.Kind.{Kind}
use Rattle.text_choices.specs.declared.kinds.Kind.TheVariants as Kinds
use Rattle.text_choices.specs.declared.kinds.Choice.{Choice}
use Rattle.text_choices.specs.Texts.{IsPlaceBefore}
use Rattle.operand_orders.specs.Reached.{SolvedBody, solved_body}
use Rattle.operand_orders.specs.Order.{IsOfOrder}
use Rattle.open_choices.specs.Unset.{IsUnset}
use Rattle.open_choices.specs.Conversions.{IsOfImplementation}
use Rattle.open_choices.specs.Constants.{IsConst}
use Rattle.open_choices.specs.Enumerations.{IsOfEnum}
use Rattle.open_choices.specs.Lifetimes.{IsOfLifetime}
use Rattle.open_choices.specs.Members.{IsOfMember}

-- the place of a kind in the order of the words
abbrev pub kind_number : Kind → ℕ
kind_number Kinds.Const = 0
kind_number Kinds.Enum = 1
kind_number Kinds.Implementation = 2
kind_number Kinds.Layout = 3
kind_number Kinds.Lifetime = 4
kind_number Kinds.Member = 5
kind_number Kinds.Order = 6
kind_number Kinds.Pragma = 7
kind_number Kinds.Reserved = 8
kind_number Kinds.Restrict = 9
kind_number Kinds.Unset = 10

abbrev pub IsBefore : Choice → Choice → Type 0
IsBefore a b = IsPlaceBefore a.place b.place ⊎ ((a.place ≡ b.place) × (kind_number a.kind < kind_number b.kind))

abbrev pub AreRising : List Choice → Type 0
AreRising [] = Unit {0}
AreRising (a ∷ []) = Unit {0}
AreRising (a ∷ b ∷ choices) = IsBefore a b × AreRising (b ∷ choices)

-- what the runs of a body leave open
abbrev pub IsOpenByRuns : SolvedBody → Kind → Place → Type 0
IsOpenByRuns b Kinds.Const place = IsConst b place
IsOpenByRuns b Kinds.Enum place = IsOfEnum b place
IsOpenByRuns b Kinds.Implementation place = IsOfImplementation b place
IsOpenByRuns b Kinds.Lifetime place = IsOfLifetime b place
IsOpenByRuns b Kinds.Member place = IsOfMember b place
IsOpenByRuns b Kinds.Order place = IsOfOrder b place
IsOpenByRuns b Kinds.Unset place = IsUnset b place
IsOpenByRuns b kind place = ⊥

abbrev pub IsOfBody : SolvedBody → Choice → Type 0
IsOfBody b c = IsOpenByRuns b c.kind c.place

-- Of a program with the tables and the store of a solution, and what is noted of its bodies. The layout of its source
-- has the objects, the cells and the types of the program's.
module _ (laid : LaidTree) (p : ProgramBodies) (tables : ℕ → NodeTable State) (store : Interferences)
    (origins : List BodyOrigins) where
  -- what the runs of one of the bodies leave open
  pub record IsOfRuns (c : Choice) : Type 0 where
    pub body : ℕ
    pub is : body < length p.bodies
    pub noted : BodyOrigins
    pub there : slice_get origins body ≡ Some noted
    pub opens : IsOfBody (solved_body laid p tables store body noted) c

  -- exactly these choices and those that the runs leave open, in order, each once
  pub record AreChoices (others : Choice → Type 0) (choices : List Choice) : Type 0 where
    pub rising : AreRising choices
    pub exact : (c : Choice) → Contains choices c ↔ (others c ⊎ IsOfRuns c)
