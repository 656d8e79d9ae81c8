-- Keyed tables meet the laws of a lattice, for every lattice of values.
use Rattle.std.specs.Prelude.{◌≡◌, ◌≢◌, ℕ, cond, List, [], ◌∷◌, Option, Some, None, T, refl}
use Rattle.std.proofs.Common.{sym, ap, subst, ◌∙◌, inl, inr}
use Rattle.std.specs.Ordering.{nat_cmp}
use Rattle.std.specs.Cmp.{nat_cmp_total}
use Rattle.std.proofs.lemmas.Bool.{cases_eq}
use Rattle.std.specs.FinMap.{find, is_sorted, get, insert, empty, entries, get-entries, get-insert, get-from_sorted}
use Rattle.std.specs.FinMap.{get-empty, entries_sorted, same_map, nat_cmp-IsAntisymmetric}
use Rattle.std.specs.Option.{option_map}
use Rattle.tm_lattice.specs.laws.Keys.{AllAbove, AllAbove-rest, is_sorted-rest, is_sorted-cons, find-here, find-there}
use Rattle.tm_lattice.specs.laws.Keys.{find_below, same_key, other_key}
use Rattle.tm_lattice.specs.LatticeLaws.{IsOrder, IsJoin, IsClosure, IsLeastNothing}
use Rattle.tm_lattice.specs.Tables.{Table, IsEntry, IsTable, IsBelow, IsTableBelow, joined_value, joined_at}
use Rattle.tm_lattice.specs.Tables.{with_entries, joined_table, rounded_entries, rounded_table}

-- two tables with the same at every key are one
pub same_table : {V : Type 0} (s t : Table V) → ((key : ℕ) → get s key ≡ get t key) → s ≡ t
same_table s t same = same_map nat_cmp_total nat_cmp-IsAntisymmetric s t same

-- what stands at a key after one is written
pub get-insert_here : {V : Type 0} (t : Table V) (k : ℕ) (v : V) (key : ℕ) → key ≡ k → get (insert t k v) key ≡ Some v
get-insert_here t k v key same = get-insert nat_cmp_total t k v key
    ∙ ap (λ b. cond b (Some v) (get t key)) (same_key key k same)

pub get-insert_there : {V : Type 0} (t : Table V) (k : ℕ) (v : V) (key : ℕ) → key ≢ k
    → get (insert t k v) key ≡ get t key
get-insert_there t k v key differ = get-insert nat_cmp_total t k v key
    ∙ ap (λ b. cond b (Some v) (get t key)) (other_key key k differ)

module _ {V : Type 0} (join : V → V → V) where
  pub joined_at_none : (at : Option V) → joined_at join at None ≡ at
  joined_at_none None = refl
  joined_at_none (Some v) = refl

  joined_value_is : (at : Option V) (v : V) → Some (joined_value join at v) ≡ joined_at join at (Some v)
  joined_value_is None v = refl
  joined_value_is (Some old) v = refl

  pub get-with_entries : (t : Table V) (es : List (ℕ × V)) (key : ℕ) → T (is_sorted nat_cmp es)
      → get (with_entries join t es) key ≡ joined_at join (get t key) (find nat_cmp key es)
  get-with_entries t [] key sorted = sym (joined_at_none (get t key))
  get-with_entries t (e ∷ es) key sorted =
      let more = with_entries join t es in
      let value = joined_value join (get more e.0) e.1 in
      let rest : T (is_sorted nat_cmp es) = is_sorted-rest e es sorted in
      elim (cases_eq key e.0) [
        | inl same ↦
            let before : get more key ≡ get t key =
            get-with_entries t es key rest ∙ ap (joined_at join (get t key)) (ap (λ k. find nat_cmp k es) same
            ∙ find_below e.0 es (AllAbove-rest e es sorted)) ∙ joined_at_none (get t key) in
            get-insert_here more e.0 value key same
            ∙ joined_value_is (get more e.0) e.1
            ∙ ap (λ at. joined_at join at (Some e.1)) (ap (get more) (sym same) ∙ before)
            ∙ ap (joined_at join (get t key)) (sym (find-here key e es same))
        | inr differ ↦
            get-insert_there more e.0 value key differ
            ∙ get-with_entries t es key rest
            ∙ ap (joined_at join (get t key)) (sym (find-there key e es differ))
      ]

  pub get-joined_table : (s t : Table V) (key : ℕ) → get (joined_table join s t) key ≡ joined_at join (get s key)
      (get t key)
  get-joined_table s t key = get-with_entries s (entries t) key (entries_sorted t)
      ∙ ap (joined_at join (get s key)) (sym (get-entries t key))

module _ {V : Type 0} (round : V → V) where
  AllAbove-rounded : (k : ℕ) (es : List (ℕ × V)) → AllAbove k es → AllAbove k (rounded_entries round es)
  AllAbove-rounded k [] above = tt
  AllAbove-rounded k (e ∷ es) above = (above.0, AllAbove-rounded k es above.1)

  pub is_sorted-rounded : (es : List (ℕ × V)) → T (is_sorted nat_cmp es)
      → T (is_sorted nat_cmp (rounded_entries round es))
  is_sorted-rounded [] sorted = tt
  is_sorted-rounded (e ∷ es) sorted =
      is_sorted-cons (e.0, round e.1) (rounded_entries round es) (AllAbove-rounded e.0 es (AllAbove-rest e es sorted))
      (is_sorted-rounded es (is_sorted-rest e es sorted))

  pub find-rounded : (key : ℕ) (es : List (ℕ × V)) → find nat_cmp key (rounded_entries round es) ≡ option_map round
      (find nat_cmp key es)
  find-rounded key [] = refl
  find-rounded key (e ∷ es) = elim (cases_eq key e.0) [
    | inl same ↦ find-here key (e.0, round e.1) (rounded_entries round es) same
        ∙ ap (option_map round) (sym (find-here key e es same))
    | inr differ ↦ find-there key (e.0, round e.1) (rounded_entries round es) differ ∙ find-rounded key es
        ∙ ap (option_map round) (sym (find-there key e es differ))
  ]

  pub get-rounded_table : (t : Table V) (key : ℕ) → get (rounded_table round t) key ≡ option_map round (get t key)
  get-rounded_table t key =
      get-from_sorted nat_cmp (rounded_entries round (entries t)) key (is_sorted-rounded (entries t) (entries_sorted t))
      ∙ find-rounded key (entries t) ∙ ap (option_map round) (sym (get-entries t key))

module _ {V M : Type 0} (is_value : V → Type 0) (is_marks : M → Type 0) (leq : V → V → Type 0) (joined : V → V
    → V) (rounded : M → V → V) (nothing : V → Type 0)
    (order : IsOrder is_value leq) (join : IsJoin is_value leq joined)
    (closure : IsClosure is_value is_marks leq rounded)
    (least : IsLeastNothing is_value is_marks leq rounded nothing) where
  abbrev pub Entry : Option V → Type 0
  Entry at = IsEntry is_value nothing at

  abbrev Below : Option V → Option V → Type 0
  Below a b = IsBelow leq a b

  at_reflexive : (a : Option V) → Entry a → Below a a
  at_reflexive None a-is = tt
  at_reflexive (Some v) a-is = order.reflexive v a-is.0

  at_transitive : (a b c : Option V) → Entry a → Entry b → Entry c → Below a b → Below b c → Below a c
  at_transitive None b c a-is b-is c-is le le' = tt
  at_transitive (Some u) None c a-is b-is c-is le le' = absurd le
  at_transitive (Some u) (Some v) None a-is b-is c-is le le' = absurd le'
  at_transitive (Some u) (Some v) (Some w) a-is b-is c-is le le' = order.transitive u v w a-is.0 b-is.0 c-is.0 le le'

  at_antisymmetric : (a b : Option V) → Entry a → Entry b → Below a b → Below b a → a ≡ b
  at_antisymmetric None None a-is b-is le le' = refl
  at_antisymmetric None (Some v) a-is b-is le le' = absurd le'
  at_antisymmetric (Some u) None a-is b-is le le' = absurd le
  at_antisymmetric (Some u) (Some v) a-is b-is le le' = ap Some (order.antisymmetric u v a-is.0 b-is.0 le le')

  -- what lies above a value that is not nothing is not nothing
  pub not_nothing : (u v : V) → is_value u → is_value v → leq u v → (nothing u → ⊥) → nothing v → ⊥
  not_nothing u v u-is v-is le some none = some (subst nothing
      (order.antisymmetric v u v-is u-is (least.below v u v-is u-is none) le) none)

  pub at_joined : (a b : Option V) → Entry a → Entry b → Entry (joined_at joined a b)
  at_joined None b a-is b-is = b-is
  at_joined (Some u) None a-is b-is = a-is
  at_joined (Some u) (Some v) a-is b-is =
      let is = join.value u v a-is.0 b-is.0 in
      (is, not_nothing u (joined u v) a-is.0 is (join.left u v a-is.0 b-is.0) a-is.1)

  at_left : (a b : Option V) → Entry a → Entry b → Below a (joined_at joined a b)
  at_left None b a-is b-is = tt
  at_left (Some u) None a-is b-is = order.reflexive u a-is.0
  at_left (Some u) (Some v) a-is b-is = join.left u v a-is.0 b-is.0

  at_right : (a b : Option V) → Entry a → Entry b → Below b (joined_at joined a b)
  at_right None b a-is b-is = at_reflexive b b-is
  at_right (Some u) None a-is b-is = tt
  at_right (Some u) (Some v) a-is b-is = join.right u v a-is.0 b-is.0

  at_least : (a b c : Option V) → Entry a → Entry b → Entry c → Below a c → Below b c → Below (joined_at joined a b) c
  at_least None b c a-is b-is c-is le le' = le'
  at_least (Some u) None c a-is b-is c-is le le' = le
  at_least (Some u) (Some v) None a-is b-is c-is le le' = absurd le
  at_least (Some u) (Some v) (Some w) a-is b-is c-is le le' = join.least u v w a-is.0 b-is.0 c-is.0 le le'

  pub at_rounded : (marks : M) (a : Option V) → is_marks marks → Entry a → Entry (option_map (rounded marks) a)
  at_rounded marks None m a-is = tt
  at_rounded marks (Some u) m a-is =
      let is = closure.value marks u m a-is.0 in
      (is, not_nothing u (rounded marks u) a-is.0 is (closure.extensive marks u m a-is.0) a-is.1)

  at_extensive : (marks : M) (a : Option V) → is_marks marks → Entry a → Below a (option_map (rounded marks) a)
  at_extensive marks None m a-is = tt
  at_extensive marks (Some u) m a-is = closure.extensive marks u m a-is.0

  at_monotone : (marks : M) (a b : Option V) → is_marks marks → Entry a → Entry b → Below a b
      → Below (option_map (rounded marks) a) (option_map (rounded marks) b)
  at_monotone marks None b m a-is b-is le = tt
  at_monotone marks (Some u) None m a-is b-is le = absurd le
  at_monotone marks (Some u) (Some v) m a-is b-is le = closure.monotone marks u v m a-is.0 b-is.0 le

  at_idempotent : (marks : M) (a : Option V) → is_marks marks → Entry a
      → option_map (rounded marks) (option_map (rounded marks) a) ≡ option_map (rounded marks) a
  at_idempotent marks None m a-is = refl
  at_idempotent marks (Some u) m a-is = ap Some (closure.idempotent marks u m a-is.0)

  abbrev Is : Table V → Type 0
  Is t = IsTable is_value nothing t

  pub table_order : IsOrder Is (IsTableBelow leq)
  table_order = record {
    reflexive = λ s s-is key. at_reflexive (get s key) (s-is key);
    transitive = λ s t u s-is t-is u-is le le' key. at_transitive (get s key) (get t key) (get u key) (s-is key)
        (t-is key) (u-is key) (le key) (le' key);
    antisymmetric = λ s t s-is t-is le le'. same_table s t
        (λ key. at_antisymmetric (get s key) (get t key) (s-is key) (t-is key) (le key) (le' key));
  }

  pub table_join : IsJoin Is (IsTableBelow leq) (joined_table joined)
  table_join = record {
    value = λ s t s-is t-is key. subst Entry (sym (get-joined_table joined s t key))
        (at_joined (get s key) (get t key) (s-is key) (t-is key));
    left = λ s t s-is t-is key. subst (Below (get s key)) (sym (get-joined_table joined s t key))
        (at_left (get s key) (get t key) (s-is key) (t-is key));
    right = λ s t s-is t-is key. subst (Below (get t key)) (sym (get-joined_table joined s t key))
        (at_right (get s key) (get t key) (s-is key) (t-is key));
    least = λ s t u s-is t-is u-is le le' key. subst (λ at. Below at (get u key))
        (sym (get-joined_table joined s t key)) (at_least (get s key) (get t key) (get u key) (s-is key) (t-is key)
        (u-is key) (le key) (le' key));
  }

  pub table_closure : IsClosure Is is_marks (IsTableBelow leq) (λ marks. rounded_table (rounded marks))
  table_closure = record {
    value = λ marks t m t-is key. subst Entry (sym (get-rounded_table (rounded marks) t key))
        (at_rounded marks (get t key) m (t-is key));
    extensive = λ marks t m t-is key. subst (Below (get t key)) (sym (get-rounded_table (rounded marks) t key))
        (at_extensive marks (get t key) m (t-is key));
    monotone = λ marks s t m s-is t-is le key.
        subst (λ at. Below at (get (rounded_table (rounded marks) t) key))
        (sym (get-rounded_table (rounded marks) s key))
        (subst (Below (option_map (rounded marks) (get s key))) (sym (get-rounded_table (rounded marks) t key))
        (at_monotone marks (get s key) (get t key) m (s-is key) (t-is key) (le key)));
    idempotent = λ marks t m t-is. same_table _ _ (λ key.
        get-rounded_table (rounded marks) (rounded_table (rounded marks) t) key
        ∙ ap (option_map (rounded marks)) (get-rounded_table (rounded marks) t key)
        ∙ at_idempotent marks (get t key) m (t-is key)
        ∙ sym (get-rounded_table (rounded marks) t key));
  }

  pub table_nothing : IsLeastNothing Is is_marks (IsTableBelow leq) (λ marks. rounded_table (rounded marks))
      (λ t. t ≡ empty)
  table_nothing = record {
    below = λ s t s-is t-is none key. subst (λ at. Below at (get t key))
        (sym (ap (λ u. get u key) none ∙ get-empty nat_cmp key)) tt;
    rounding = λ marks t m t-is none. same_table _ _ (λ key.
        get-rounded_table (rounded marks) t key ∙ ap (option_map (rounded marks)) (ap (λ u. get u key) none
        ∙ get-empty nat_cmp key) ∙ sym (get-empty nat_cmp key));
  }
