-- The cells that an access reaches are of abstract cells that there are, whose types have the same values.
use Rattle.std.specs.Prelude.{◌≡◌, ◌⊎◌, ℕ, zero, suc, ◌+◌, ◌<◌, ◌≤◌, Bool, true, false, cond, List, [], ◌∷◌, ◌++◌}
use Rattle.std.specs.Prelude.{length}
use Rattle.std.specs.Prelude.{refl}
use Rattle.std.proofs.Common.{sym, subst, ◌∙◌, inl, inr, arith}
use Rattle.layout_laws.specs.tm_typed.declared.types.Scalar.{Scalar}
use Rattle.layout_laws.specs.tm_typed.declared.types.Scalar.TheVariants as Scalars
use Rattle.layout_laws.specs.tm_laid.Layouts.{LaidTree, object_at, cell_at, abstract_at, cell_of, abstract_of}
use Rattle.layout_laws.specs.tm_laid.Layouts.{is_same_scalar}
use Rattle.layout_laws.specs.cell_layout.Laws.{IsCellOf}
use Rattle.program_systems.specs.transfer_rows.Actions.{Spot}
use Rattle.program_systems.specs.transfer_rows.Meanings.{IsSpotOf}
use Rattle.program_systems.specs.edge_actions.Layouts.{is_reachable, spot_at, spots_in, spots_before, spots_of}
use Rattle.program_systems.specs.typed_values.Types.{HaveSameValues}
use Rattle.program_systems.specs.state_fits.Fits.{IsSeenCell, SpotsSeen}
use Rattle.program_systems.specs.state_fits.Typed.{SpotsAgree}
use Rattle.operation_laws.proofs.low.next_action_laws.TypePlaces.{same_scalar}

spot_cases : (xs ys : List Spot) (spot : Spot) → IsSpotOf (xs ++ ys) spot → IsSpotOf xs spot ⊎ IsSpotOf ys spot
spot_cases [] ys spot h = inr h
spot_cases (x ∷ xs) ys spot (inl here) = inl (inl here)
spot_cases (x ∷ xs) ys spot (inr more) = elim (spot_cases xs ys spot more) [
  | inl left ↦ inl (inr left)
  | inr right ↦ inr right
]

-- ## What is said of each cell of the type in an object that the task reaches

module _ (laid : LaidTree) (task : ℕ) (scalar : Scalar) (P : Spot → Type 0) (each : (o k : ℕ)
    → is_reachable laid task o ≡ true → o < length laid.objects → k < (object_at laid o).cells
    → is_same_scalar (cell_at laid (cell_of laid o k)).scalar scalar ≡ true
    → P (record { object = o; offset = k; cell = abstract_of laid o k })) where
  -- one that is taken where this holds
  one_has : (x : Spot) (b : Bool) → (b ≡ true → P x) → (spot : Spot) → IsSpotOf (cond b (x ∷ []) []) spot → P spot
  one_has x true h spot (inl here) = subst P (sym here) (h refl)
  one_has x true h spot (inr more) = absurd more
  one_has x false h spot there = absurd there

  object_has : (o n : ℕ) → is_reachable laid task o ≡ true → o < length laid.objects → n ≤ (object_at laid o).cells
      → (spot : Spot) → IsSpotOf (spots_in laid scalar o n) spot → P spot
  object_has o zero r lo le spot there = absurd there
  object_has o (suc n) r lo le spot there =
      elim (spot_cases (spots_in laid scalar o n) (spot_at laid scalar o n) spot there) [
        | inl before ↦ object_has o n r lo (omega (arith, le)) spot before
        | inr here ↦
            one_has (record { object = o; offset = n; cell = abstract_of laid o n })
            (is_same_scalar (cell_at laid (cell_of laid o n)).scalar scalar) (each o n r lo (omega (arith, le))) spot
            here
      ]

  reached_has : (o : ℕ) (b : Bool) → is_reachable laid task o ≡ b → o < length laid.objects → (spot : Spot)
      → IsSpotOf (cond b (spots_in laid scalar o (object_at laid o).cells) []) spot → P spot
  reached_has o true r lo spot there = object_has o (object_at laid o).cells r lo (omega arith) spot there
  reached_has o false r lo spot there = absurd there

  before_has : (n : ℕ) → n ≤ length laid.objects → (spot : Spot) → IsSpotOf (spots_before laid task scalar n) spot
      → P spot
  before_has zero le spot there = absurd there
  before_has (suc n) le spot there =
      elim (spot_cases (spots_before laid task scalar n)
      (cond (is_reachable laid task n) (spots_in laid scalar n (object_at laid n).cells) []) spot there) [
        | inl before ↦ before_has n (omega (arith, le)) spot before
        | inr here ↦ reached_has n (is_reachable laid task n) refl (omega (arith, le)) spot here
      ]

  spots_have : (spot : Spot) → IsSpotOf (spots_of laid task scalar) spot → P spot
  unfolding spots_of
  spots_have spot there = before_has (length laid.objects) (omega arith) spot there

-- ## Types and abstract cells

-- every cell of every object has an abstract cell of its type
abbrev pub AreCells : LaidTree → Type 0
AreCells laid = (o k : ℕ) → o < length laid.objects → k < (object_at laid o).cells → IsCellOf laid o k

-- the abstract cells of every object are among those of the layout
abbrev pub AreAmong : LaidTree → Type 0
AreAmong laid = (o : ℕ) → o < length laid.objects
    → (object_at laid o).first_abstract + (object_at laid o).abstract_cells ≤ length laid.abstract_cells

own_values : (s : Scalar) → HaveSameValues s s
own_values (Scalars.Int t) = refl
own_values (Scalars.Pointer c) = tt

pub spots_agree : (laid : LaidTree) → AreCells laid → (task : ℕ) → SpotsAgree laid task
spots_agree laid are task scalar spot there =
    spots_have laid task scalar (λ x. HaveSameValues (abstract_at laid x.cell).scalar scalar)
    (λ o k r lo lk same.
    let c : IsCellOf laid o k = are o k lo lk in
    subst (λ s. HaveSameValues (abstract_at laid (abstract_of laid o k)).scalar s)
    (c.scalar ∙ same_scalar (cell_at laid (cell_of laid o k)).scalar scalar same)
    (own_values (abstract_at laid (abstract_of laid o k)).scalar)) spot there

-- each is one that the body sees
pub spots_seen : (laid : LaidTree) → AreCells laid → AreAmong laid → (task : ℕ) → SpotsSeen laid task
spots_seen laid are among task scalar spot there =
    spots_have laid task scalar (λ x. IsSeenCell laid task x.cell)
    (λ o k r lo lk same.
    let c : IsCellOf laid o k = are o k lo lk in
    let most = c.most in
    let le = among o lo in record {
      cell = omega (arith, most, le);
      seen = subst (λ object. is_reachable laid task object ≡ true) (sym c.abstract_object) r;
    }) spot there
