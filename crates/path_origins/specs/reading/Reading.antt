-- What the walk of an expression notes, of the code's own trees. These words do not unfold by themselves: each proof of
-- the walk cites many of them.
use Rattle.std.specs.Prelude.{◌≡◌, ℕ, Bool, true, List}
use Rattle.tm_terms.specs.declared.places.Place.{Place}
use Rattle.tm_typed.specs.declared.types.Qualified.{Qualified}
use Rattle.tm_typed.specs.declared.expressions.Rvalue.{Rvalue}
use Rattle.tm_typed.specs.declared.expressions.Lvalue.{Lvalue}
use Rattle.tm_typed.specs.TypedTrees.{rvalue_tree, lvalue_tree, as_rvalues}
use Rattle.tm_laid.specs.declared.layouts.Laid.{Laid}
use Rattle.tm_laid.specs.Layouts.{laid_tree}
use Rattle.body_builder.specs.concrete_steps.NextAction.{function_at}
use Rattle.path_origins.specs.declared.origins.Form.TheVariants as Forms
use Rattle.path_origins.specs.declared.origins.Notes.{Notes}
use Rattle.path_origins.specs.declared.origins.Span.{Span}
use Rattle.path_origins.specs.declared.types.Given.{Given}
use Rattle.path_origins.specs.declared.walks.Wanted.{Wanted}
use Rattle.path_origins.specs.Opens.{is_among}
use Rattle.path_origins.specs.Shown.{shown, sizes_in}
use Rattle.path_origins.specs.Types.{given, type_of}
use Rattle.path_origins.specs.Noted.{nothing, sequenced, behind, one}
use Rattle.path_origins.specs.Expressions.{walked, addressed, all_arguments}
use Rattle.path_origins.specs.reading.Walks.{IsBehind, by_wanted, operands_added, right_added}

module _ (laid : Laid) (opens : List Place) where
  -- what an expression gives
  unfoldable pub IsGiven : ℕ → Rvalue → Given → Type 0
  IsGiven path r g = g ≡ given (laid_tree laid) (is_among opens) path (rvalue_tree r)

  -- the type of what an lvalue designates
  unfoldable pub IsTyped : ℕ → Lvalue → Qualified → Type 0
  IsTyped path l q = q ≡ type_of (laid_tree laid) (is_among opens) path (lvalue_tree l)

  -- what is noted of an expression that is wanted so stands behind what was noted before
  unfoldable pub IsRead : List ℕ → ℕ → Wanted → Bool → Rvalue → Notes → Notes → Type 0
  IsRead sizes path w used r old new =
      IsBehind old new (by_wanted w (walked (laid_tree laid) (is_among opens) (sizes_in sizes) path used
      (rvalue_tree r)))

  -- the same of an operand that stands against an earlier one with these edges
  unfoldable pub IsReadAgainst : List ℕ → ℕ → Wanted → Rvalue → Place → Span → Span → Notes → Notes → Type 0
  IsReadAgainst sizes path w r p first second old new =
      shown new ≡ operands_added p first second (behind (shown old)
      (by_wanted w (walked (laid_tree laid) (is_among opens) (sizes_in sizes) path true (rvalue_tree r))))

  -- the same of the right side of `op=`, behind what is loaded at a place of a target with these edges
  unfoldable pub IsReadRight : List ℕ → ℕ → Wanted → Rvalue → Place → Place → Span → Notes → Notes → Type 0
  IsReadRight sizes path w r at p edges old new =
      shown new ≡ right_added p edges (shown old) (one at Forms.Load)
      (by_wanted w (walked (laid_tree laid) (is_among opens) (sizes_in sizes) path true (rvalue_tree r)))

  -- the same of a condition, behind which a sequence point stands
  unfoldable pub IsTested : List ℕ → ℕ → Rvalue → Notes → Notes → Type 0
  IsTested sizes path r old new =
      IsBehind old new
      (sequenced (walked (laid_tree laid) (is_among opens) (sizes_in sizes) path true (rvalue_tree r)).fork)

  -- the same of the arguments of a call of a path
  unfoldable pub AreRead : List ℕ → ℕ → ℕ → List Rvalue → Place → Notes → Notes → Type 0
  AreRead sizes path to xs p old new =
      IsBehind old new (sequenced (all_arguments (laid_tree laid) (is_among opens) (sizes_in sizes) path p
      (function_at (laid_tree laid) to).parameters true nothing (as_rvalues xs)))

  -- the same of an address
  unfoldable pub IsAddressed : List ℕ → ℕ → Lvalue → Notes → Notes → Type 0
  IsAddressed sizes path l old new =
      IsBehind old new (addressed (laid_tree laid) (is_among opens) (sizes_in sizes) path (lvalue_tree l))
