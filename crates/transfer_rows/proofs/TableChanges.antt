-- What stands at a key of a changed table, and how tables rise with their entries.
use Rattle.std.specs.Prelude.{◌≡◌, ℕ, Bool, true, false, cond, Option, Some, None, refl}
use Rattle.std.proofs.Common.{sym, ap, subst, inl, inr}
use Rattle.std.proofs.lemmas.Bool.{cases_eq}
use Rattle.std.specs.FinMap.{get, insert, retain_keys, get-retain_keys, nat_cmp-IsAntisymmetric}
use Rattle.cell_env.specs.tm_lattice.Tables.{Table, IsEntry, IsTable, IsBelow, IsTableBelow, changed_table}
use Rattle.cell_env.specs.tm_lattice.laws.TableLaws.{get-insert_here, get-insert_there}
use Rattle.cell_env.specs.tm_lattice.laws.SelectedLaws.{changed_at, get-changed_table}

-- what stands at a key of a table that keeps some keys
pub get-kept : {V : Type 0} (t : Table V) (test : ℕ → Bool) (key : ℕ) → get (retain_keys t test) key ≡ cond (test key) (get t key) None
get-kept t test key = get-retain_keys t test key (λ x tied. ap test (sym (nat_cmp-IsAntisymmetric key x tied)))

module _ {V : Type 0} (leq : V → V → Type 0) where
  changed_below : (f g : ℕ → V → V) (key : ℕ) (a b : Option V) → ((v w : V) → a ≡ Some v → b ≡ Some w → leq v w → leq (f key v) (g key w)) → IsBelow leq a b → IsBelow leq (changed_at f key a) (changed_at g key b)
  changed_below f g key None b rises le = tt
  changed_below f g key (Some v) None rises le = absurd le
  changed_below f g key (Some v) (Some w) rises le = rises v w refl refl le

  -- tables rise where each of their entries does
  pub changed_rises : (f g : ℕ → V → V) (s t : Table V) → ((key : ℕ) (v w : V) → get s key ≡ Some v → get t key ≡ Some w → leq v w → leq (f key v) (g key w))
      → IsTableBelow leq s t → IsTableBelow leq (changed_table f s) (changed_table g t)
  changed_rises f g s t rises le key =
      subst (λ at. IsBelow leq at (get (changed_table g t) key)) (sym (get-changed_table f s key))
      (subst (IsBelow leq (changed_at f key (get s key))) (sym (get-changed_table g t key)) (changed_below f g key (get s key) (get t key) (rises key) (le key)))

  pub inserted_rises : (s t : Table V) (k : ℕ) (v w : V) → leq v w → IsTableBelow leq s t → IsTableBelow leq (insert s k v) (insert t k w)
  inserted_rises s t k v w le below key = elim (cases_eq key k) [
    | inl here ↦
        subst (λ at. IsBelow leq at (get (insert t k w) key)) (sym (get-insert_here s k v key here))
        (subst (IsBelow leq (Some v)) (sym (get-insert_here t k w key here)) le)
    | inr there ↦
        subst (λ at. IsBelow leq at (get (insert t k w) key)) (sym (get-insert_there s k v key there))
        (subst (IsBelow leq (get s key)) (sym (get-insert_there t k w key there)) (below key))
  ]

  kept_below : (b : Bool) (x y : Option V) → IsBelow leq x y → IsBelow leq (cond b x None) (cond b y None)
  kept_below true x y le = le
  kept_below false x y le = tt

  pub kept_rises : (s t : Table V) (test : ℕ → Bool) → IsTableBelow leq s t → IsTableBelow leq (retain_keys s test) (retain_keys t test)
  kept_rises s t test below key =
      subst (λ at. IsBelow leq at (get (retain_keys t test) key)) (sym (get-kept s test key))
      (subst (IsBelow leq (cond (test key) (get s key) None)) (sym (get-kept t test key)) (kept_below (test key) (get s key) (get t key) (below key)))

module _ {V : Type 0} (is_value nothing : V → Type 0) where
  changed_entry : (f : ℕ → V → V) (key : ℕ) (a : Option V) → ((v : V) → a ≡ Some v → is_value v → is_value (f key v) × (nothing (f key v) → ⊥)) → IsEntry is_value nothing a → IsEntry is_value nothing (changed_at f key a)
  changed_entry f key None is h = tt
  changed_entry f key (Some v) is h = is v refl h.0

  pub changed_is : (f : ℕ → V → V) (t : Table V) → ((key : ℕ) (v : V) → get t key ≡ Some v → is_value v → is_value (f key v) × (nothing (f key v) → ⊥)) → IsTable is_value nothing t → IsTable is_value nothing (changed_table f t)
  changed_is f t is h key = subst (IsEntry is_value nothing) (sym (get-changed_table f t key)) (changed_entry f key (get t key) (is key) (h key))

  pub inserted_is : (t : Table V) (k : ℕ) (v : V) → is_value v → (nothing v → ⊥) → IsTable is_value nothing t → IsTable is_value nothing (insert t k v)
  inserted_is t k v is some h key = elim (cases_eq key k) [
    | inl here ↦ subst (IsEntry is_value nothing) (sym (get-insert_here t k v key here)) (is, some)
    | inr there ↦ subst (IsEntry is_value nothing) (sym (get-insert_there t k v key there)) (h key)
  ]

  kept_entry : (b : Bool) (x : Option V) → IsEntry is_value nothing x → IsEntry is_value nothing (cond b x None)
  kept_entry true x h = h
  kept_entry false x h = tt

  pub kept_is : (t : Table V) (test : ℕ → Bool) → IsTable is_value nothing t → IsTable is_value nothing (retain_keys t test)
  kept_is t test h key = subst (IsEntry is_value nothing) (sym (get-kept t test key)) (kept_entry (test key) (get t key) (h key))
