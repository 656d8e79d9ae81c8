-- What the calls of a table do to the list of its entries, and so to the map that it is.
use Rattle.std.proofs.Common.{◌≡◌, ◌≢◌, ℕ, zero, suc, ◌<◌, List, [], ◌∷◌, length, get_or, set, Some, None, T, refl, sym, ap, subst, ◌∙◌, inl, inr, arith}
use Rattle.std.specs.List.{insert}
use Rattle.std.specs.Ordering.{nat_cmp}
use Rattle.std.proofs.lemmas.Bool.{cases_eq}
use Rattle.std.specs.FinMap as fin
use Rattle.std.specs.FinMap.{find, put, is_sorted, get, empty, from_sorted, get-from_sorted, get-empty, entries-from_sorted}
use Rattle.std.proofs.lemmas.List.{get_or_default}
use Rattle.tm_lattice.specs.declared.lattices.Lattice as lattice
use Rattle.tm_lattice.specs.laws.Keys.{find-here, find-there}
use Rattle.tm_lattice.specs.LatticeLaws.{IsOrder, IsJoin, IsClosure, IsLeastNothing}
use Rattle.tm_lattice.specs.Tables.{Table, IsEntry, IsTable, IsBelow, IsTableBelow, joined_value, joined_at, with_entry, joined_table, rounded_entries, rounded_table}
use Rattle.tm_lattice.specs.reading.Listed.{IsListed, IsAt, IsGapFor}
use Rattle.tm_lattice.specs.laws.TableLaws.{same_table, get-insert_here, get-insert_there, get-joined_table, is_sorted-rounded, find-rounded, not_nothing, at_joined, at_rounded}
use Rattle.tm_lattice.proofs.Merging.{merged, sorted_merged, find_merged}
use Rattle.tm_lattice.proofs.Search.{find_at, find_gap, set_at, insert_gap, put_sorted, put_inserts}

module _ {V : Type 0} (is_value nothing : V → Type 0) where
  -- the map of a list of entries has entries that are values and not nothing
  pub table_of : (es : List (ℕ × V)) → IsListed is_value nothing es → IsTable is_value nothing (from_sorted es)
  table_of es listed key = subst (IsEntry is_value nothing) (sym (get-from_sorted nat_cmp es key listed.sorted)) (listed.values key)

  -- one more entry in its place
  pub put_listed : (es : List (ℕ × V)) (k : ℕ) (v : V) → IsListed is_value nothing es → is_value v → (nothing v → ⊥) → IsListed is_value nothing (put nat_cmp k v es)
  put_listed es k v listed is some =
      let sorted = put_sorted es k v listed.sorted in
      let found : (key : ℕ) → find nat_cmp key (put nat_cmp k v es) ≡ get (fin.insert (from_sorted es) k v) key = λ key.
      sym (get-from_sorted nat_cmp (put nat_cmp k v es) key sorted) ∙ ap (λ t. get t key) (put_inserts es k v listed.sorted) in
      record {
        sorted = sorted;
        values = λ key. subst (IsEntry is_value nothing) (sym (found key)) (elim (cases_eq key k) [
          | inl here ↦ subst (IsEntry is_value nothing) (sym (get-insert_here (from_sorted es) k v key here)) (is, some)
          | inr there ↦ subst (IsEntry is_value nothing) (sym (get-insert_there (from_sorted es) k v key there)) (table_of es listed key)
        ]);
      }

module _ {V : Type 0} where
  pub empty_of : (es : List (ℕ × V)) → T (is_sorted nat_cmp es) → length es ≡ 0 → from_sorted {R = nat_cmp} es ≡ empty
  empty_of [] sorted none = same_table _ _ (λ key. get-from_sorted nat_cmp [] key sorted ∙ sym (get-empty nat_cmp key))
  empty_of (e ∷ es) sorted none = absurd (omega arith)

  pub length_of_empty : (es : List (ℕ × V)) → T (is_sorted nat_cmp es) → from_sorted {R = nat_cmp} es ≡ empty → length es ≡ 0
  length_of_empty [] sorted none = refl
  length_of_empty (e ∷ es) sorted none =
      let found : Some e.1 ≡ None = sym (find-here e.0 e es refl) ∙ sym (get-from_sorted nat_cmp (e ∷ es) e.0 sorted) ∙ ap (λ t. get t e.0) none ∙ get-empty nat_cmp e.0 in
      cc

  -- a value joined in where it stands already
  pub kept_entry : (join : V → V → V) (t : Table V) (key : ℕ) (old v : V) → get t key ≡ Some old → join old v ≡ old → t ≡ with_entry join t key v
  kept_entry join t key old v stands absorbed =
      let value : joined_value join (get t key) v ≡ old = ap (λ at. joined_value join at v) stands ∙ absorbed in
      same_table _ _ (λ q. elim (cases_eq q key) [
        | inl here ↦ ap (get t) here ∙ stands ∙ ap Some (sym value) ∙ sym (get-insert_here t key (joined_value join (get t key) v) q here)
        | inr there ↦ sym (get-insert_there t key (joined_value join (get t key) v) q there)
      ])

module _ {V : Type 0} (leq : V → V → Type 0) where
  entry_at : (es : List (ℕ × V)) (k : ℕ) (e : ℕ × V) → k < length es → e ≡ get_or es k e → IsAt es e.0 k
  entry_at es k e within read = record { in_range = within; has_key = λ d. ap (λ (x : ℕ × V). x.0) (get_or_default es k d e within ∙ sym read) }

  each_below : (es other : List (ℕ × V)) → ((k : ℕ) (e : ℕ × V) → k < length es → e ≡ get_or es k e → IsBelow leq (Some e.1) (find nat_cmp e.0 other))
      → (key : ℕ) → IsBelow leq (find nat_cmp key es) (find nat_cmp key other)
  each_below [] other each key = tt
  each_below (e ∷ es) other each key = elim (cases_eq key e.0) [
    | inl here ↦
        subst (λ at. IsBelow leq at (find nat_cmp key other)) (sym (find-here key e es here))
        (subst (λ q. IsBelow leq (Some e.1) (find nat_cmp q other)) (sym here) (each zero e (omega arith) refl))
    | inr there ↦
        subst (λ at. IsBelow leq at (find nat_cmp key other)) (sym (find-there key e es there))
        (each_below es other (λ k f within read. each (suc k) f (omega arith) read) key)
  ]

  -- a table is below another where each of its entries is
  pub table_below : (es other : List (ℕ × V)) → T (is_sorted nat_cmp es) → T (is_sorted nat_cmp other)
      → ((k : ℕ) (e : ℕ × V) → k < length es → e ≡ get_or es k e → IsBelow leq (Some e.1) (find nat_cmp e.0 other))
      → IsTableBelow leq (from_sorted es) (from_sorted other)
  table_below es other sorted sorted' each key =
      subst (IsBelow leq (get (from_sorted es) key)) (sym (get-from_sorted nat_cmp other key sorted'))
      (subst (λ at. IsBelow leq at (find nat_cmp key other)) (sym (get-from_sorted nat_cmp es key sorted)) (each_below es other each key))

  -- and only there
  pub entry_below : (es other : List (ℕ × V)) → T (is_sorted nat_cmp es) → T (is_sorted nat_cmp other) → IsTableBelow leq (from_sorted es) (from_sorted other)
      → (k : ℕ) (e : ℕ × V) → k < length es → e ≡ get_or es k e → IsBelow leq (Some e.1) (find nat_cmp e.0 other)
  entry_below es other sorted sorted' below k e within read =
      let stands : find nat_cmp e.0 es ≡ Some e.1 = find_at es e.0 k e sorted (entry_at es k e within read) ∙ ap (λ (x : ℕ × V). Some x.1) (sym read) in
      subst (λ at. IsBelow leq at (find nat_cmp e.0 other)) (get-from_sorted nat_cmp es e.0 sorted ∙ stands)
      (subst (IsBelow leq (get (from_sorted es) e.0)) (get-from_sorted nat_cmp other e.0 sorted') (below e.0))

module _ {V M : Type 0} (l : lattice.Ghosts V M)
    (order : IsOrder l.is_value l.leq) (join : IsJoin l.is_value l.leq l.joined) (closure : IsClosure l.is_value l.is_marks l.leq l.rounded) (least : IsLeastNothing l.is_value l.is_marks l.leq l.rounded l.nothing) where
  -- a value below another adds l.nothing to it
  absorbed : (old v : V) → l.is_value old → l.is_value v → l.leq v old → l.joined old v ≡ old
  absorbed old v old-is v-is le =
      order.antisymmetric (l.joined old v) old (join.value old v old-is v-is) old-is (join.least old v old old-is v-is old-is (order.reflexive old old-is) le) (join.left old v old-is v-is)

  module _ (es : List (ℕ × V)) (listed : IsListed l.is_value l.nothing es) (key : ℕ) (v : V) (v-is : l.is_value v) (some : l.nothing v → ⊥) where
    abbrev table : Table V
    table = from_sorted es

    module _ (at : ℕ) (e : ℕ × V) (is : IsAt es key at) (read : e ≡ get_or es at e) where
      stands : find nat_cmp key es ≡ Some e.1
      stands = find_at es key at e listed.sorted is ∙ ap (λ (x : ℕ × V). Some x.1) (sym read)

      pub get_here : get table key ≡ Some e.1
      get_here = get-from_sorted nat_cmp es key listed.sorted ∙ stands

      old_is : IsEntry l.is_value l.nothing (Some e.1)
      old_is = subst (IsEntry l.is_value l.nothing) stands (listed.values key)

      pub value_here : l.is_value e.1
      value_here = old_is.0

      written : set es at (key, l.joined e.1 v) ≡ put nat_cmp key (l.joined e.1 v) es
      written = set_at es key at (l.joined e.1 v) listed.sorted is

      pub set_listed : IsListed l.is_value l.nothing (set es at (key, l.joined e.1 v))
      set_listed =
          let new-is = join.value e.1 v old_is.0 v-is in
          let new_some = not_nothing l.is_value l.is_marks l.leq l.joined l.rounded l.nothing order join closure least e.1 (l.joined e.1 v) old_is.0 new-is (join.left e.1 v old_is.0 v-is) old_is.1 in
          subst (IsListed l.is_value l.nothing) (sym written) (put_listed l.is_value l.nothing es key (l.joined e.1 v) listed new-is new_some)

      pub set_joins : from_sorted (set es at (key, l.joined e.1 v)) ≡ with_entry l.joined table key v
      set_joins = ap from_sorted written ∙ put_inserts es key (l.joined e.1 v) listed.sorted ∙ ap (λ x. fin.insert table key (joined_value l.joined x v)) (sym get_here)

      pub keeps : l.leq v e.1 → table ≡ with_entry l.joined table key v
      keeps le = kept_entry l.joined table key e.1 v get_here (absorbed e.1 v old_is.0 v-is le)

      pub set_rises : (l.leq v e.1 → ⊥) → from_sorted (set es at (key, l.joined e.1 v)) ≢ table
      set_rises not_below same =
          let new : get (from_sorted (set es at (key, l.joined e.1 v))) key ≡ Some (l.joined e.1 v) =
          ap (λ t. get t key) (set_joins ∙ ap (λ x. fin.insert table key (joined_value l.joined x v)) get_here) ∙ get-insert_here table key (l.joined e.1 v) key refl in
          let values : Some (l.joined e.1 v) ≡ Some e.1 = sym new ∙ ap (λ t. get t key) same ∙ get_here in
          let value : l.joined e.1 v ≡ e.1 = cc in
          not_below (subst (l.leq v) value (join.right e.1 v old_is.0 v-is))

    module _ (at : ℕ) (gap : IsGapFor es key at) where
      pub get_gap : get table key ≡ None
      get_gap = get-from_sorted nat_cmp es key listed.sorted ∙ find_gap es key at gap

      inserted : insert es at (key, v) ≡ put nat_cmp key v es
      inserted = insert_gap es key at v gap

      pub insert_listed : IsListed l.is_value l.nothing (insert es at (key, v))
      insert_listed = subst (IsListed l.is_value l.nothing) (sym inserted) (put_listed l.is_value l.nothing es key v listed v-is some)

      pub insert_joins : from_sorted (insert es at (key, v)) ≡ with_entry l.joined table key v
      insert_joins = ap from_sorted inserted ∙ put_inserts es key v listed.sorted ∙ ap (λ x. fin.insert table key (joined_value l.joined x v)) (sym get_gap)

      pub insert_rises : from_sorted (insert es at (key, v)) ≢ table
      insert_rises same =
          let new : get (from_sorted (insert es at (key, v))) key ≡ Some v =
          ap (λ t. get t key) (insert_joins ∙ ap (λ x. fin.insert table key (joined_value l.joined x v)) get_gap) ∙ get-insert_here table key v key refl in
          let values : Some v ≡ None = sym new ∙ ap (λ t. get t key) same ∙ get_gap in
          cc

  pub merged_listed : (one other : List (ℕ × V)) → IsListed l.is_value l.nothing one → IsListed l.is_value l.nothing other → IsListed l.is_value l.nothing (merged l.joined one other)
  merged_listed one other listed listed' = record {
    sorted = sorted_merged l.joined one other listed.sorted listed'.sorted;
    values = λ key. subst (IsEntry l.is_value l.nothing) (sym (find_merged l.joined key one other listed.sorted listed'.sorted))
        (at_joined l.is_value l.is_marks l.leq l.joined l.rounded l.nothing order join closure least (find nat_cmp key one) (find nat_cmp key other) (listed.values key) (listed'.values key));
  }

  pub merged_joins : (one other : List (ℕ × V)) → IsListed l.is_value l.nothing one → IsListed l.is_value l.nothing other → from_sorted (merged l.joined one other) ≡ joined_table l.joined (from_sorted one) (from_sorted other)
  merged_joins one other listed listed' = same_table _ _ (λ key.
      get-from_sorted nat_cmp (merged l.joined one other) key (sorted_merged l.joined one other listed.sorted listed'.sorted)
      ∙ find_merged l.joined key one other listed.sorted listed'.sorted
      ∙ ap (λ x. joined_at l.joined x (find nat_cmp key other)) (sym (get-from_sorted nat_cmp one key listed.sorted))
      ∙ ap (joined_at l.joined (get (from_sorted one) key)) (sym (get-from_sorted nat_cmp other key listed'.sorted))
      ∙ sym (get-joined_table l.joined (from_sorted one) (from_sorted other) key))

  pub rounded_listed : (marks : M) (es : List (ℕ × V)) → l.is_marks marks → IsListed l.is_value l.nothing es → IsListed l.is_value l.nothing (rounded_entries (l.rounded marks) es)
  rounded_listed marks es m listed = record {
    sorted = is_sorted-rounded (l.rounded marks) es listed.sorted;
    values = λ key. subst (IsEntry l.is_value l.nothing) (sym (find-rounded (l.rounded marks) key es))
        (at_rounded l.is_value l.is_marks l.leq l.joined l.rounded l.nothing order join closure least marks (find nat_cmp key es) m (listed.values key));
  }

  pub rounded_is : (marks : M) (es : List (ℕ × V)) → IsListed l.is_value l.nothing es → from_sorted (rounded_entries (l.rounded marks) es) ≡ rounded_table (l.rounded marks) (from_sorted es)
  rounded_is marks es listed = ap (λ entries. from_sorted (rounded_entries (l.rounded marks) entries)) (sym (entries-from_sorted nat_cmp es listed.sorted))
