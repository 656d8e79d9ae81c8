-- A cell of an object that a task may use is a spot of the accesses of its type.
use Rattle.std.specs.Prelude.{◌≡◌, ◌⊎◌, ℕ, zero, suc, ◌<◌, ◌≤◌, true, cond, List, [], ◌∷◌, ◌++◌}
use Rattle.std.specs.Prelude.{length}
use Rattle.std.proofs.Common.{refl, sym, ap, subst, ◌∙◌, inl, inr, arith}
use Rattle.std.proofs.lemmas.Bool.{eq-eqb, cases_lt}
use Rattle.program_shape.specs.tm_typed.declared.types.Scalar.{Scalar}
use Rattle.program_shape.specs.tm_typed.declared.types.Scalar.TheVariants as Scalars
use Rattle.program_shape.specs.tm_typed.Types.{int_index}
use Rattle.program_shape.specs.tm_laid.Layouts.{LaidTree, object_at, cell_at, cell_of, abstract_of, is_same_scalar}
use Rattle.program_reports.specs.transfer_rows.Actions.{Spot}
use Rattle.program_reports.specs.transfer_rows.Meanings.{IsSpotOf}
use Rattle.program_reports.specs.edge_actions.Layouts.{is_reachable, spot_at, spots_in, spots_before, spots_of}

pub scalar_self : (s : Scalar) → is_same_scalar s s ≡ true
scalar_self (Scalars.Int t) = eq-eqb (int_index t) (int_index t) refl
scalar_self (Scalars.Pointer c) = eq-eqb c c refl

spot_left : (xs ys : List Spot) (spot : Spot) → IsSpotOf xs spot → IsSpotOf (xs ++ ys) spot
spot_left [] ys spot h = absurd h
spot_left (x ∷ xs) ys spot (inl e) = inl e
spot_left (x ∷ xs) ys spot (inr h) = inr (spot_left xs ys spot h)

spot_right : (xs ys : List Spot) (spot : Spot) → IsSpotOf ys spot → IsSpotOf (xs ++ ys) spot
spot_right [] ys spot h = h
spot_right (x ∷ xs) ys spot h = inr (spot_right xs ys spot h)

last_or_less : (n k : ℕ) → n < suc k → (n ≡ k) ⊎ (n < k)
last_or_less n k lt = by_case (cases_lt n k)
  where
    by_case : (n < k) ⊎ (k ≤ n) → (n ≡ k) ⊎ (n < k)
    by_case (inl less) = inr less
    by_case (inr most) = inl (omega (arith, lt, most))

module _ (laid : LaidTree) (task : ℕ) (scalar : Scalar) (object offset : ℕ)
    (reachable : is_reachable laid task object ≡ true) (inside : offset < (object_at laid object).cells)
    (typed : (cell_at laid (cell_of laid object offset)).scalar ≡ scalar) where
  abbrev pub spot : Spot
  spot = record { object = object; offset = offset; cell = abstract_of laid object offset }

  here : IsSpotOf (spot_at laid scalar object offset) spot
  here =
      let same : is_same_scalar (cell_at laid (cell_of laid object offset)).scalar scalar ≡ true =
      ap (λ s. is_same_scalar s scalar) typed ∙ scalar_self scalar in
      subst (λ b. IsSpotOf (cond b (spot ∷ []) []) spot) (sym same) (inl refl)

  in_object : (n : ℕ) → offset < n → IsSpotOf (spots_in laid scalar object n) spot
  in_object zero lt = absurd (omega (arith, lt))
  in_object (suc k) lt = by_case (in_object k) (last_or_less offset k lt)
    where
      by_case : (offset < k → IsSpotOf (spots_in laid scalar object k) spot) → (offset ≡ k) ⊎ (offset < k)
          → IsSpotOf (spots_in laid scalar object (suc k)) spot
      by_case before (inl e) =
          spot_right (spots_in laid scalar object k) (spot_at laid scalar object k) spot
          (subst (λ m. IsSpotOf (spot_at laid scalar object m) spot) e here)
      by_case before (inr less) =
          spot_left (spots_in laid scalar object k) (spot_at laid scalar object k) spot (before less)

  among_objects : (n : ℕ) → object < n → IsSpotOf (spots_before laid task scalar n) spot
  among_objects zero lt = absurd (omega (arith, lt))
  among_objects (suc k) lt = by_case (among_objects k) (last_or_less object k lt)
    where
      by_case : (object < k → IsSpotOf (spots_before laid task scalar k) spot) → (object ≡ k) ⊎ (object < k)
          → IsSpotOf (spots_before laid task scalar (suc k)) spot
      by_case before (inl e) =
          let at : IsSpotOf (cond (is_reachable laid task object)
          (spots_in laid scalar object (object_at laid object).cells) []) spot =
          subst (λ b. IsSpotOf (cond b (spots_in laid scalar object (object_at laid object).cells) []) spot)
          (sym reachable) (in_object (object_at laid object).cells inside) in
          spot_right (spots_before laid task scalar k)
          (cond (is_reachable laid task k) (spots_in laid scalar k (object_at laid k).cells) []) spot
          (subst (λ m. IsSpotOf
          (cond (is_reachable laid task m) (spots_in laid scalar m (object_at laid m).cells) []) spot) e at)
      by_case before (inr less) =
          spot_left (spots_before laid task scalar k)
          (cond (is_reachable laid task k) (spots_in laid scalar k (object_at laid k).cells) []) spot
          (before less)

  pub spot_found : object < length laid.objects → IsSpotOf (spots_of laid task scalar) spot
  unfolding spots_of
  spot_found lt = among_objects (length laid.objects) lt
