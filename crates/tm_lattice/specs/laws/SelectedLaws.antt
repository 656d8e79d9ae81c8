-- Changing each value by its key; and rounding at given keys alone, which is a closure.
use Rattle.std.specs.Prelude.{◌≡◌, ℕ, ◌==◌, Bool, true, false, cond, List, [], ◌∷◌, Option, Some, None, T, refl}
use Rattle.std.proofs.Common.{sym, ap, subst, ◌∙◌, inl, inr}
use Rattle.std.specs.List.{list_any}
use Rattle.std.specs.Ordering.{nat_cmp}
use Rattle.std.proofs.lemmas.Bool.{cases_eq}
use Rattle.std.specs.FinMap.{find, is_sorted, get, entries, get-entries, get-from_sorted, entries_sorted}
use Rattle.tm_lattice.specs.laws.Keys.{AllAbove, AllAbove-rest, is_sorted-rest, is_sorted-cons, find-here, find-there}
use Rattle.tm_lattice.specs.LatticeLaws.{IsOrder, IsClosure, IsLeastNothing}
use Rattle.tm_lattice.specs.Tables.{Table, IsEntry, IsTable, IsBelow, IsTableBelow, changed_entries, changed_table}
use Rattle.tm_lattice.specs.Tables.{rounded_among, selected_table}
use Rattle.tm_lattice.specs.laws.TableLaws.{same_table}

module _ {V : Type 0} (change : ℕ → V → V) where
  -- what stands at a key after the change
  abbrev pub changed_at : ℕ → Option V → Option V
  changed_at key None = None
  changed_at key (Some v) = Some (change key v)

  above_changed : (k : ℕ) (es : List (ℕ × V)) → AllAbove k es → AllAbove k (changed_entries change es)
  above_changed k [] above = tt
  above_changed k (e ∷ es) above = (above.0, above_changed k es above.1)

  pub is_sorted-changed : (es : List (ℕ × V)) → T (is_sorted nat_cmp es)
      → T (is_sorted nat_cmp (changed_entries change es))
  is_sorted-changed [] sorted = tt
  is_sorted-changed (e ∷ es) sorted =
      is_sorted-cons (e.0, change e.0 e.1) (changed_entries change es)
      (above_changed e.0 es (AllAbove-rest e es sorted)) (is_sorted-changed es (is_sorted-rest e es sorted))

  pub find-changed : (key : ℕ) (es : List (ℕ × V)) → find nat_cmp key (changed_entries change es) ≡ changed_at key
      (find nat_cmp key es)
  find-changed key [] = refl
  find-changed key (e ∷ es) = elim (cases_eq key e.0) [
    | inl same ↦
        find-here key (e.0, change e.0 e.1) (changed_entries change es) same
        ∙ ap (λ k. Some (change k e.1)) (sym same) ∙ ap (changed_at key) (sym (find-here key e es same))
    | inr differ ↦ find-there key (e.0, change e.0 e.1) (changed_entries change es) differ ∙ find-changed key es
        ∙ ap (changed_at key) (sym (find-there key e es differ))
  ]

  pub get-changed_table : (t : Table V) (key : ℕ) → get (changed_table change t) key ≡ changed_at key (get t key)
  get-changed_table t key =
      get-from_sorted nat_cmp (changed_entries change (entries t)) key
      (is_sorted-changed (entries t) (entries_sorted t))
      ∙ find-changed key (entries t) ∙ ap (changed_at key) (sym (get-entries t key))

-- a value rounded where a test says so
abbrev pub rounded_where : {V : Type 0} → Bool → (V → V) → V → V
rounded_where b round v = cond b (round v) v

module _ {V M : Type 0} (is_value : V → Type 0) (is_marks : M → Type 0) (leq : V → V → Type 0) (rounded : M → V
    → V) (nothing : V → Type 0) (keys : List ℕ)
    (order : IsOrder is_value leq) (closure : IsClosure is_value is_marks leq rounded)
    (least : IsLeastNothing is_value is_marks leq rounded nothing) where
  abbrev chosen : ℕ → Bool
  chosen key = list_any (λ k. k == key) keys

  abbrev change : M → ℕ → V → V
  change marks = rounded_among (rounded marks) keys

  abbrev At : Option V → Type 0
  At x = IsEntry is_value nothing x

  value : (marks : M) (b : Bool) (v : V) → is_marks marks → is_value v → is_value (rounded_where b (rounded marks) v)
  value marks true v m v-is = closure.value marks v m v-is
  value marks false v m v-is = v-is

  wider : (marks : M) (b : Bool) (v : V) → is_marks marks → is_value v → leq v (rounded_where b (rounded marks) v)
  wider marks true v m v-is = closure.extensive marks v m v-is
  wider marks false v m v-is = order.reflexive v v-is

  rises : (marks : M) (b : Bool) (v w : V) → is_marks marks → is_value v → is_value w → leq v w
      → leq (rounded_where b (rounded marks) v) (rounded_where b (rounded marks) w)
  rises marks true v w m v-is w-is le = closure.monotone marks v w m v-is w-is le
  rises marks false v w m v-is w-is le = le

  twice : (marks : M) (b : Bool) (v : V) → is_marks marks → is_value v
      → rounded_where b (rounded marks) (rounded_where b (rounded marks) v) ≡ rounded_where b (rounded marks) v
  twice marks true v m v-is = closure.idempotent marks v m v-is
  twice marks false v m v-is = refl

  at_value : (marks : M) (key : ℕ) (x : Option V) → is_marks marks → At x → At (changed_at (change marks) key x)
  at_value marks key None m x-is = tt
  at_value marks key (Some v) m x-is =
      let is = value marks (chosen key) v m x-is.0 in (
        is,
        λ none. x-is.1 (subst nothing (order.antisymmetric (change marks key v) v is x-is.0
            (least.below (change marks key v) v is x-is.0 none) (wider marks (chosen key) v m x-is.0)) none),
      )

  at_wider : (marks : M) (key : ℕ) (x : Option V) → is_marks marks → At x
      → IsBelow leq x (changed_at (change marks) key x)
  at_wider marks key None m x-is = tt
  at_wider marks key (Some v) m x-is = wider marks (chosen key) v m x-is.0

  at_rises : (marks : M) (key : ℕ) (x y : Option V) → is_marks marks → At x → At y → IsBelow leq x y
      → IsBelow leq (changed_at (change marks) key x) (changed_at (change marks) key y)
  at_rises marks key None y m x-is y-is le = tt
  at_rises marks key (Some v) None m x-is y-is le = absurd le
  at_rises marks key (Some v) (Some w) m x-is y-is le = rises marks (chosen key) v w m x-is.0 y-is.0 le

  at_twice : (marks : M) (key : ℕ) (x : Option V) → is_marks marks → At x
      → changed_at (change marks) key (changed_at (change marks) key x) ≡ changed_at (change marks) key x
  at_twice marks key None m x-is = refl
  at_twice marks key (Some v) m x-is = ap Some (twice marks (chosen key) v m x-is.0)

  -- rounding at given keys is a closure
  pub selected_closure : IsClosure (IsTable is_value nothing) is_marks (IsTableBelow leq)
      (λ marks. selected_table (rounded marks) keys)
  selected_closure = record {
    value = λ marks t m t-is key. subst At (sym (get-changed_table (change marks) t key))
        (at_value marks key (get t key) m (t-is key));
    extensive = λ marks t m t-is key. subst (IsBelow leq (get t key)) (sym (get-changed_table (change marks) t key))
        (at_wider marks key (get t key) m (t-is key));
    monotone = λ marks s t m s-is t-is le key.
        subst (λ x. IsBelow leq x (get (changed_table (change marks) t) key))
        (sym (get-changed_table (change marks) s key))
        (subst (IsBelow leq (changed_at (change marks) key (get s key)))
        (sym (get-changed_table (change marks) t key)) (at_rises marks key (get s key) (get t key) m (s-is key)
        (t-is key) (le key)));
    idempotent = λ marks t m t-is. same_table _ _ (λ key.
        get-changed_table (change marks) (changed_table (change marks) t) key
        ∙ ap (changed_at (change marks) key) (get-changed_table (change marks) t key)
        ∙ at_twice marks key (get t key) m (t-is key) ∙ sym (get-changed_table (change marks) t key));
  }
