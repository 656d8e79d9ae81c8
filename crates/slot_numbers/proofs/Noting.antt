-- A number added to lists.
use Rattle.std.proofs.Common.{◌≡◌, ℕ, ◌+◌, ◌<◌, ◌≤◌, ◌==◌, Bool, true, false, ◌||◌, List, [], ◌∷◌, ◌++◌, length, get_or, set, take, drop, refl, sym, ap, ◌∙◌, subst, arith, ◌⊎◌, inl, inr}
use Rattle.std.proofs.lemmas.Bool.{cases_eq, or_cases, eqb-true}
use Rattle.std.proofs.lemmas.List.{get_or-set_same, get_or-set_other, length-set, get_or_default, take_more, take_all, append-nil, drop_all}
use Rattle.std.proofs.lemmas.List.Folds.{list_any-append}
use Rattle.cell_placings.specs.CellLists.{is_in, cells_at}
use Rattle.cell_placings.proofs.Members.{or_right, in_at}
use Rattle.slot_numbers.specs.reading.Building.{AreNoted}

in_either : (xs ys : List ℕ) (x : ℕ) → is_in (xs ++ ys) x ≡ (is_in xs x || is_in ys x)
in_either xs ys x = list_any-append (λ y. y == x) xs ys

or_left : (a b : Bool) → a ≡ true → (a || b) ≡ true
or_left a b e = ap (λ c. c || b) e

only_one : (y x : ℕ) → is_in (y ∷ []) x ≡ true → y ≡ x
only_one y x e =
    elim (or_cases (y == x) false e) [
      | inl h ↦ eqb-true y x h
      | inr h ↦ absurd (let clash : false ≡ true = h in cc)
    ]

pub noted_none : (k : ℕ) (lists : List (List ℕ)) → AreNoted k [] lists lists
noted_none k lists = record {
  each = refl;
  kept = λ i x e. e;
  noted = λ i e. absurd (let clash : false ≡ true = e in cc);
  within = λ i x e. inl e;
}

module _ (k : ℕ) (lists : List (List ℕ)) (at : ℕ) (lt : at < length lists) where
  abbrev after : List (List ℕ)
  after = set lists at (cells_at lists at ++ k ∷ [])

  here : cells_at after at ≡ cells_at lists at ++ k ∷ []
  here = get_or-set_same lists at (cells_at lists at ++ k ∷ []) [] lt

  elsewhere : (i : ℕ) → (i ≡ at → ⊥) → cells_at after i ≡ cells_at lists i
  elsewhere i ne = get_or-set_other lists at i (cells_at lists at ++ k ∷ []) [] ne

  has : (x : ℕ) → is_in (cells_at after at) x ≡ (is_in (cells_at lists at) x || is_in (k ∷ []) x)
  has x = ap (λ ys. is_in ys x) here ∙ in_either (cells_at lists at) (k ∷ []) x

  kept : (i x : ℕ) → is_in (cells_at lists i) x ≡ true → is_in (cells_at after i) x ≡ true
  kept i x e =
      elim (cases_eq at i) [
        | inl s ↦ subst (λ z. is_in (cells_at lists z) x ≡ true → is_in (cells_at after z) x ≡ true) s
            (λ h. has x ∙ or_left (is_in (cells_at lists at) x) (is_in (k ∷ []) x) h) e
        | inr ne ↦ ap (λ ys. is_in ys x) (elsewhere i (λ s. ne (sym s))) ∙ e
      ]

  within : (i x : ℕ) → is_in (cells_at after i) x ≡ true → (is_in (cells_at lists i) x ≡ true) ⊎ (x ≡ k)
  within i x e =
      elim (cases_eq at i) [
        | inl s ↦ subst (λ z. is_in (cells_at after z) x ≡ true → (is_in (cells_at lists z) x ≡ true) ⊎ (x ≡ k)) s
            (λ h. elim (or_cases (is_in (cells_at lists at) x) (is_in (k ∷ []) x) (sym (has x) ∙ h)) [
              | inl b ↦ inl b
              | inr o ↦ inr (sym (only_one k x o))
            ]) e
        | inr ne ↦ inl (sym (ap (λ ys. is_in ys x) (elsewhere i (λ s. ne (sym s)))) ∙ e)
      ]

  pub noted_one : AreNoted k (at ∷ []) lists after
  noted_one = record {
    each = length-set lists at (cells_at lists at ++ k ∷ []);
    kept = kept;
    noted = λ i e.
        subst (λ z. is_in (cells_at after z) k ≡ true) (only_one at i e)
        (has k ∙ or_right (is_in (cells_at lists at) k) (is_in (k ∷ []) k) (in_at (k ∷ []) 0 (omega arith)));
    within = within;
  }

-- as the code changes one list
pub noted_at : (k : ℕ) (lists : List (List ℕ)) (at : ℕ) (d new : List ℕ) → at < length lists
    → new ≡ get_or lists at d ++ k ∷ [] → AreNoted k (at ∷ []) lists (set lists at new)
noted_at k lists at d new lt is =
    subst (λ z. AreNoted k (at ∷ []) lists (set lists at z))
    (ap (λ z. z ++ k ∷ []) (sym (get_or_default lists at d [] lt)) ∙ sym is) (noted_one k lists at lt)

-- a part of the same length put back into a list
pub written_back : (n : ℕ) (old new : List (List ℕ)) → length new ≡ length old → length old ≤ n
    → take n (new ++ drop (length new) old) ≡ new
written_back n old new same le =
    ap (λ z. take n (new ++ z)) (drop_all (length new) old (omega (arith, same)))
    ∙ ap (take n) (append-nil new) ∙ take_all n new (omega (arith, same, le))

-- one more list
noted_more : (k at : ℕ) (sources : List ℕ) (a b c : List (List ℕ)) → AreNoted k sources a b → AreNoted k (at ∷ []) b c
    → AreNoted k (sources ++ at ∷ []) a c
noted_more k at sources a b c one two = record {
  each = two.each ∙ one.each;
  kept = λ i x e. two.kept i x (one.kept i x e);
  noted = λ i e.
      elim (or_cases (is_in sources i) (is_in (at ∷ []) i) (sym (in_either sources (at ∷ []) i) ∙ e)) [
        | inl h ↦ two.kept i k (one.noted i h)
        | inr h ↦ two.noted i h
      ];
  within = λ i x e. elim (two.within i x e) [ inl h ↦ one.within i x h | inr h ↦ inr h ];
}

pub noted_next : (k : ℕ) (sources : List ℕ) (i : ℕ) (a b c : List (List ℕ)) → i < length sources
    → AreNoted k (take i sources) a b → AreNoted k (get_or sources i 0 ∷ []) b c
    → AreNoted k (take (i + 1) sources) a c
noted_next k sources i a b c lt one two =
    subst (λ ss. AreNoted k ss a c) (sym (take_more sources i 0 lt))
    (noted_more k (get_or sources i 0) (take i sources) a b c one two)

pub noted_all : (k : ℕ) (sources : List ℕ) (i : ℕ) (a b : List (List ℕ)) → length sources ≤ i
    → AreNoted k (take i sources) a b → AreNoted k sources a b
noted_all k sources i a b le n = subst (λ ss. AreNoted k ss a b) (take_all i sources le) n
