-- Searches through lists: one of them is such, or none of those so far.
use Rattle.std.proofs.Common.{◌≡◌, ◌↔◌, ◌⊎◌, ℕ, suc, ◌+◌, ◌<◌, ◌≤◌, inl, inr, sym, ap, subst, ◌∙◌, refl, List, [], ◌∷◌}
use Rattle.std.proofs.Common.{length}
use Rattle.std.proofs.Common.{take, get_or, Bool, true, false, cond, IsTrue, Option, Some, None, arith}
use Rattle.std.specs.Prelude.{Contains}
use Rattle.std.specs.FinMap as map
use Rattle.std.specs.FinMap.{find}
use Rattle.std.specs.Ordering.{nat_cmp, eq_by_cmp}
use Rattle.std.proofs.lemmas.Bool.{cases_eq, false≢true}
use Rattle.std.proofs.lemmas.List.{take_all}
use Rattle.std.proofs.lemmas.List.Elements.{Contains-get_or}
use Rattle.tm_lattice.specs.Tables.{Table}
use Rattle.tm_lattice.specs.laws.Keys.{find-here, find-there}
use Rattle.operand_orders.specs.access_races.reading.Ways.{HasOne}
use Rattle.open_choices.proofs.ChoiceLists.{either, front_more, front_none}

module _ {X : Type 0} (Is : X → Type 0) (xs : List X) where
  -- none of the first elements is such
  abbrev pub NoneSo : ℕ → Type 0
  NoneSo i = (x : X) → Contains (take i xs) x → Is x → ⊥

  pub none_yet : NoneSo 0
  none_yet x has is = front_none xs x has

  pub none_more : (i : ℕ) (x : X) → i < length xs → x ≡ get_or xs i x → NoneSo i → (Is x → ⊥) → NoneSo (i + 1)
  none_more i x lt at before not_here y has is =
      either (λ h. before y h is) (λ same. not_here (subst Is (sym (at ∙ same)) is)) ((front_more xs i x lt y).0 has)

  pub none_of_all : (i : ℕ) → length xs ≤ i → NoneSo i → HasOne Is xs → ⊥
  none_of_all i end none h =
      none h.one (subst (λ ys. Contains ys h.one) (sym (take_all i xs end)) h.has) h.is

  pub one_found : (i : ℕ) (x : X) → i < length xs → x ≡ get_or xs i x → Is x → HasOne Is xs
  one_found i x lt at is =
      record { one = x; has = subst (λ z. Contains xs z) (sym at) (Contains-get_or xs i x lt); is = is }

-- what a test finds that is true, and what it does not find that is false
pub is_found : {P : Type 0} → P → IsTrue true ↔ P
is_found {P} h = (λ e. h, λ p. refl)

pub not_found : {P : Type 0} → (P → ⊥) → IsTrue false ↔ P
not_found {P} none = (λ e. absurd (false≢true e), λ p. absurd (none p))

-- a test that fails
pub not_so : {P : Type 0} (b : Bool) → (IsTrue b ↔ P) → b ≡ false → P → ⊥
not_so {P} b is e p = false≢true (sym e ∙ is.1 p)

-- ## Entries of tables

same_value : {V : Type 0} (x y : V) → ◌≡◌ {A = Option V} (Some x) (Some y) → x ≡ y
same_value {V} x y e = cc

-- what a table has at a key is one of its entries
pub found_entry : {V : Type 0} (es : List (ℕ × V)) (key : ℕ) (v : V) → find nat_cmp key es ≡ Some v
    → Contains es (key, v)
found_entry {V} [] key v e = absurd (let f : ◌≡◌ {A = Option V} None (Some v) = e in cc)
found_entry {V} (x ∷ es) key v e =
    elim (cases_eq key x.0) [
      | inl same ↦
          let here : x.1 ≡ v = same_value x.1 v (sym (find-here key x es same) ∙ e) in
          (0, omega arith, λ i. (sym same i, here i))
      | inr differ ↦
          let rest = found_entry es key v (sym (find-there key x es differ) ∙ e) in
          let lt = rest.1 in
          let next : suc rest.0 < suc (length es) = omega (arith, lt) in
          (suc rest.0, next, rest.2)
    ]

pub has_entry : {V : Type 0} (t : Table V) (items : List (ℕ × V)) → items ≡ map.entries t → (key : ℕ) (v : V)
    → map.get t key ≡ Some v → Contains items (key, v)
has_entry {V} t items whole key v e =
    subst (λ es. Contains es (key, v)) (sym whole) (found_entry (map.entries t) key v (sym (map.get-entries t key) ∙ e))
