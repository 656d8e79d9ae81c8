-- Cells and local objects, one after the other.
use Rattle.std.proofs.Common.{◌≡◌, ℕ, suc, ◌+◌, ◌-◌, ◌<◌, ◌≤◌, List, length, drop, get_or, map, refl, sym, ap, ◌∙◌}
use Rattle.std.proofs.Common.{arith}
use Rattle.std.specs.Prelude.{Bool}
use Rattle.std.proofs.lemmas.List.{drop_more, drop_all}
use Rattle.tm_terms.specs.declared.places.Place.{Place}
use Rattle.tm_typed.specs.declared.types.Scalar.{Scalar}
use Rattle.tm_typed.specs.declared.statements.LocalObject.{LocalObject}
use Rattle.tm_typed.specs.TypedStatements.{GivenTree, local_tree}
use Rattle.tm_laid.specs.Layouts.{LaidTree}
use Rattle.body_builder.specs.concrete_steps.NextAction.{scalar_at, is_given, rest_of}
use Rattle.body_builder.specs.lowering.Table.{is_alone}
use Rattle.body_builder.specs.lowering.Built.{Building}
use Rattle.statement_builder.specs.reading.Locals.{cell_in, cells_in, local_in, locals_in}

module _ (laid : LaidTree) (depth path : ℕ) where
  -- the cells from this one on are left, of so many
  pub record HasCells (o : ℕ) (p : Place) (n k : ℕ) (gs : List GivenTree) (b w : Building) : Type 0 where
    pub left : cells_in laid depth path o p (n - k) k gs b ≡ w

  pub cells_first : (o : ℕ) (p : Place) (n : ℕ) (gs : List GivenTree) (b : Building)
      → HasCells o p n 0 gs b (cells_in laid depth path o p n 0 gs b)
  cells_first o p n gs b =
      let e : n - 0 ≡ n = omega arith in
      record { left = ap (λ m. cells_in laid depth path o p m 0 gs b) e }

  pub cells_more : (o : ℕ) (p : Place) (n k : ℕ) (alone : Bool) (s : Scalar) (found : Bool) (gs hs : List GivenTree)
      (b b1 w : Building) → k < n → alone ≡ is_alone laid path o k → s ≡ scalar_at laid o k → found ≡ is_given k gs
      → hs ≡ rest_of found gs → b1 ≡ cell_in laid depth path alone o p k s found gs b
      → HasCells o p n k gs b w → HasCells o p n (k + 1) hs b1 w
  cells_more o p n k alone s found gs hs b b1 w lt ea es ef eh eb h =
      let one : n - k ≡ suc (n - (k + 1)) = omega arith in
      let next : k + 1 ≡ suc k = omega arith in
      let m = n - (k + 1) in
      let same = eb
      ∙ (ap (λ a. cell_in laid depth path a o p k s found gs b) ea
      ∙ (ap (λ (t : Scalar). cell_in laid depth path (is_alone laid path o k) o p k t found gs b) es
      ∙ ap (λ f. cell_in laid depth path (is_alone laid path o k) o p k (scalar_at laid o k) f gs b) ef)) in
      record {
        left = ap (λ j. cells_in laid depth path o p m j hs b1) next
            ∙ (ap (λ (gs' : List GivenTree). cells_in laid depth path o p m (suc k) gs' b1)
            (eh ∙ ap (λ f. rest_of f gs) ef)
            ∙ (ap (λ (z : Building). cells_in laid depth path o p m (suc k) (rest_of (is_given k gs) gs) z) same
            ∙ (sym (ap (λ j. cells_in laid depth path o p j k gs b) one) ∙ h.left)));
      }

  pub cells_last : (o : ℕ) (p : Place) (n k : ℕ) (gs : List GivenTree) (b w : Building) → n ≤ k
      → HasCells o p n k gs b w → b ≡ w
  cells_last o p n k gs b w le h =
      let none : n - k ≡ 0 = omega arith in
      sym (ap (λ j. cells_in laid depth path o p j k gs b) none) ∙ h.left

  -- the local objects from this one on are left
  pub record HasLocals (xs : List LocalObject) (i : ℕ) (b w : Building) : Type 0 where
    pub left : locals_in laid depth path (map local_tree (drop i xs)) b ≡ w

  pub locals_first : (xs : List LocalObject) (b : Building)
      → HasLocals xs 0 b (locals_in laid depth path (map local_tree xs) b)
  locals_first xs b = record { left = refl }

  pub locals_more : (xs : List LocalObject) (i : ℕ) (d : LocalObject) (b b1 w : Building) → i < length xs
      → b1 ≡ local_in laid depth path (local_tree (get_or xs i d)) b → HasLocals xs i b w → HasLocals xs (i + 1) b1 w
  locals_more xs i d b b1 w lt e h =
      record {
        left = ap (λ (z : Building). locals_in laid depth path (map local_tree (drop (i + 1) xs)) z) e
            ∙ (sym (ap (λ (ys : List LocalObject). locals_in laid depth path (map local_tree ys) b)
            (drop_more xs i d lt)) ∙ h.left);
      }

  pub locals_last : (xs : List LocalObject) (i : ℕ) (b w : Building) → length xs ≤ i → HasLocals xs i b w → b ≡ w
  locals_last xs i b w le h =
      sym (ap (λ (ys : List LocalObject). locals_in laid depth path (map local_tree ys) b) (drop_all i xs le))
      ∙ h.left
