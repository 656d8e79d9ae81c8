-- The loop over the entries of one task.
use Rattle.std.specs.Prelude.{◌≡◌, ℕ, zero, suc, ◌+◌, ◌<◌, Bool, true, false, cond, List, [], ◌∷◌, length, get_or, drop, Some, None, refl}
use Rattle.std.proofs.Common.{sym, ap, ◌∙◌, inl, inr, arith}
use Rattle.std.specs.FinMap.{get, entries}
use Rattle.std.proofs.lemmas.List.{drop_more}
use Rattle.tm_lattice.specs.Tables.{Table}
use Rattle.pointer_dom.specs.Values.{Values, IsValues, joined_values, no_value}
use Rattle.pointer_dom.specs.laws.ValueLaws.{values_order, values_join}
use Rattle.interfere_set.specs.Stores.{joined_onto, joined_all, Reader, is_visible, shown_at, value_or_none}
use Rattle.interfere_set.specs.laws.Joins.{none_is, none_below, IsOf}
use Rattle.interfere_set.specs.laws.Hearing.{IsTaskTable, shown_is}

pub join_none : (v : Values) → IsValues v → joined_values v no_value ≡ v
join_none v v-is =
    let both = values_join.value v no_value v-is none_is in
    values_order.antisymmetric (joined_values v no_value) v both v-is (values_join.least v no_value v v-is none_is v-is (values_order.reflexive v v-is) (none_below v v-is)) (values_join.left v no_value v-is none_is)

module _ {A : Type 0} (part : A → Values) (xs : List A) where
  -- so far the parts of the elements before i are joined
  pub record IsJoinedUpTo (i : ℕ) (v : Values) : Type 0 where
    pub value : IsValues v
    pub rest : joined_onto part v (drop i xs) ≡ joined_all part xs

  pub joined_start : IsJoinedUpTo 0 no_value
  joined_start = record { value = none_is; rest = refl }

  pub joined_next : (i : ℕ) (v : Values) (x : A) → i < length xs → x ≡ get_or xs i x → IsValues (part x) → IsJoinedUpTo i v → IsJoinedUpTo (i + 1) (joined_values v (part x))
  joined_next i v x less is part-is so = record {
    value = values_join.value v (part x) so.value part-is;
    rest = sym (ap (joined_onto part v) (drop_more xs i x less ∙ ap (λ y. y ∷ drop (i + 1) xs) (sym is))) ∙ so.rest;
  }

  pub joined_end : (i : ℕ) (v : Values) → drop i xs ≡ [] → IsJoinedUpTo i v → v ≡ joined_all part xs
  joined_end i v none so = ap (joined_onto part v) (sym none) ∙ so.rest

-- what is shown of an entry
module _ (reader : Reader) (fresh : Bool) (x j : ℕ) (written : Table (Table Values)) (e : ℕ × Table Values) where
  pub shown_is_value : IsTaskTable written → IsOf (entries written) e → IsValues (shown_at reader fresh x j e)
  shown_is_value is h = shown_is reader x fresh j written is e h

  pub shown_some : (v : Values) → is_visible reader fresh j e.0 ≡ true → get e.1 x ≡ Some v → shown_at reader fresh x j e ≡ v
  shown_some v shows at = ap (λ b. cond b (value_or_none (get e.1 x)) no_value) shows ∙ ap value_or_none at

  pub shown_absent : get e.1 x ≡ None → shown_at reader fresh x j e ≡ no_value
  shown_absent at = ap (λ a. cond (is_visible reader fresh j e.0) (value_or_none a) no_value) at ∙ either (is_visible reader fresh j e.0)
    where
      either : (b : Bool) → cond b no_value no_value ≡ no_value
      either true = refl
      either false = refl

  pub shown_hidden : is_visible reader fresh j e.0 ≡ false → shown_at reader fresh x j e ≡ no_value
  shown_hidden hides = ap (λ b. cond b (value_or_none (get e.1 x)) no_value) hides

-- an element at a place is one of the list
pub at_place : {A : Type 0} (xs : List A) (i : ℕ) (x : A) → i < length xs → x ≡ get_or xs i x → IsOf xs x
at_place [] i x less is = absurd (omega (arith, less))
at_place (y ∷ xs) zero x less is = inl is
at_place (y ∷ xs) (suc i) x less is = inr (at_place xs i x (omega (arith, less)) is)
