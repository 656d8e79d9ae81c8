-- Cells that are declared `const` or of enumerations, mark by mark, and stores to them.
use Rattle.std.proofs.Common.{◌≡◌, ◌↔◌, ℕ, ◌<◌, ◌≤◌, inl, inr, sym, ap, subst, ◌∙◌, List, length, get_or, Bool, true, false}
use Rattle.std.proofs.Common.{IsTrue, arith}
use Rattle.std.specs.Prelude.{Contains}
use Rattle.std.proofs.lemmas.Bool.{cases_lt}
use Rattle.std.proofs.lemmas.List.{get_or_default, get_or_past}
use Rattle.tm_typed.specs.declared.types.Scalar.{Scalar}
use Rattle.tm_laid.specs.Layouts.{LaidTree, object_at, no_abstract_cell}
use Rattle.tm_laid.specs.declared.cells.AbstractCell.{AbstractCell}
use Rattle.source_names.specs.declared.steps.Inside.{Inside}
use Rattle.part_extents.specs.Parts.{inside_of}
use Rattle.strided_dom.specs.Progression.{Progression}
use Rattle.post_recheck.specs.transfer_rows.StateForms.{State, value_of}
use Rattle.operand_orders.specs.Reached.{SolvedBody, targets}
use Rattle.operand_orders.specs.access_races.reading.Ways.{HasOne}
use Rattle.open_choices.specs.declared.marks.Marks.{Marks}
use Rattle.open_choices.specs.reading.Marks.{IsMarked, AreConstants, AreEnumerated}
use Rattle.open_choices.specs.Enumerations.{HasNegative}
use Rattle.open_choices.specs.reading.Enumerated.{StoresEnumerated, IsNegativeStore}
use Rattle.open_choices.specs.reading.Found.{StoresConstant}

-- where an abstract cell stands
abbrev inside_by : LaidTree → AbstractCell → Inside
inside_by laid a = record { of = (object_at laid a.object).of; cell = a.offset }

module _ (laid : LaidTree) (is : Inside → Bool) (marks : List Bool) where
  -- so many cells have their marks, and what stands in place of others has one
  pub all_marked : (n : ℕ) → length marks ≡ n → ((k : ℕ) → k < n → get_or marks k false ≡ is (inside_of laid k))
      → length laid.abstract_cells ≤ n → (other : Bool) → other ≡ is (inside_by laid no_abstract_cell)
      → (cell : ℕ) → get_or marks cell other ≡ is (inside_of laid cell)
  all_marked n count each all other rest cell = elim (cases_lt cell n) [
    | inl lt ↦ get_or_default marks cell other false (subst (λ m. cell < m) (sym count) lt) ∙ each cell lt
    | inr le ↦ get_or_past marks cell other (subst (λ m. m ≤ cell) (sym count) le) ∙ rest
        ∙ ap (λ a. is (inside_by laid a))
        (sym (get_or_past laid.abstract_cells cell no_abstract_cell (omega (arith, all, le))))
  ]

module _ (b : SolvedBody) (s : State) (scalar : Scalar) (address : ℕ) (xs : List ℕ)
    (are : xs ≡ targets b scalar address s) (marks : Marks) where
  pub constant : AreConstants b.laid marks → HasOne (IsMarked marks) xs ↔ StoresConstant b s scalar address
  constant all = (
    λ h. record {
      cell = h.one;
      target = subst (λ ys. Contains ys h.one) are h.has;
      constant = sym (all.each h.one) ∙ h.is;
    },
    λ l. record {
      one = l.cell;
      has = subst (λ ys. Contains ys l.cell) (sym are) l.target;
      is = all.each l.cell ∙ l.constant;
    },
  )

  pub enumerated : AreEnumerated b.laid marks → HasOne (IsMarked marks) xs ↔ StoresEnumerated b s scalar address
  enumerated all = (
    λ h. record {
      cell = h.one;
      target = subst (λ ys. Contains ys h.one) are h.has;
      enumerated = sym (all.each h.one) ∙ h.is;
    },
    λ l. record {
      one = l.cell;
      has = subst (λ ys. Contains ys l.cell) (sym are) l.target;
      is = all.each l.cell ∙ l.enumerated;
    },
  )

-- ## Stores of negative numbers

module _ (b : SolvedBody) (s : State) (address value : ℕ) (scalar : Scalar) (numbers : Progression)
    (are : (let v = value_of s value in numbers ≡ v.numbers)) (is : Bool) where
  abbrev There : Type 0
  There = IsNegativeStore b s address value scalar

  pub negative_store : HasNegative numbers → (IsTrue is ↔ StoresEnumerated b s scalar address) → IsTrue is ↔ There
  negative_store negative same = (
    λ e. (subst HasNegative are negative, same.0 e),
    λ h. same.1 h.1,
  )

  pub no_negative_store : (HasNegative numbers → ⊥) → There → ⊥
  no_negative_store none h = none (subst HasNegative (sym are) h.0)
