-- What holds of the worlds that are reached.
use Rattle.std.specs.Prelude.{◌≡◌, ℕ, ◌<◌, true, List, length, Option, Ok}
use Rattle.cell_layout.specs.tm_terms.declared.tokens.Name.{Name}
use Rattle.cell_layout.specs.tm_trees.FileTrees.{ItemTree}
use Rattle.cell_layout.specs.tm_typed.Files.{TypedFileTree, IsTyped}
use Rattle.cell_layout.specs.tm_laid.Layouts.{LaidTree, cell_at}
use Rattle.cell_types.specs.concrete_values.declared.values.Value.{Value}
use Rattle.cell_types.specs.concrete_values.Actions.{is_of}
use Rattle.concrete_steps.specs.declared.worlds.Content.TheVariants.{Is}
use Rattle.concrete_steps.specs.Worlds.{World, start, answers_of, next_at}
use Rattle.concrete_steps.specs.Moves.{content_of}
use Rattle.concrete_steps.specs.Occurring.{IsReached}
use Rattle.concrete_steps.specs.NextAction.{next}
use Rattle.next_action_laws.specs.Actions.{Fit, IsProper}
use Rattle.next_action_laws.specs.Laws.{HasLayout}

-- each cell holds a value of its type, or is open
abbrev pub HoldsTypes : LaidTree → World → Type 0
HoldsTypes laid w = (c : ℕ) (v : Value) → content_of w c ≡ Is v → is_of laid (cell_at laid c).scalar v ≡ true

-- Cells hold values of their types, the answers so far fit, and each task's next action is proper.
pub record IsProperWorld (laid : LaidTree) (w : World) : Type 0 where
  pub contents : HoldsTypes laid w
  pub answers : (i : ℕ) → Fit laid (next laid i) (answers_of w i)
  pub actions : (i : ℕ) → i < length laid.bodies → IsProper laid i (next_at laid w i)

-- at the start each cell holds a value of its type, or is open
abbrev pub StartsHold : Type 0
StartsHold =
    (main : Option Name) (items : List ItemTree) (file : TypedFileTree) → IsTyped main items (Ok file)
    → (order : List ℕ) (laid : LaidTree) → HasLayout file order laid → HoldsTypes laid (start laid)

-- every world that is reached is proper
abbrev pub WorldsAreProper : Type 0
WorldsAreProper =
    (main : Option Name) (items : List ItemTree) (file : TypedFileTree) → IsTyped main items (Ok file)
    → (order : List ℕ) (laid : LaidTree) → HasLayout file order laid → (w : World) → IsReached laid w
    → IsProperWorld laid w
