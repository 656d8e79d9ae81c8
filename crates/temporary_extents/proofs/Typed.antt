-- The extent of a temporary lies within its sort, whichever sorts the operations of the graph fit.
use Rattle.std.proofs.Common.{◌≡◌, refl, sym, ap, subst, ◌∙◌, ℕ, zero, suc, ◌<◌, ◌≤◌, ℤ, inl, inr, Bool, true, false}
use Rattle.std.proofs.Common.{List, [], ◌∷◌, length, get_or, replicate, set, Option, Some, None, slice_get, arith, ◌⊎◌}
use Rattle.std.specs.Prelude.{All, ◌≤ℤ◌, int_le, cond}
use Rattle.std.proofs.lemmas.Int.{ints}
use Rattle.std.proofs.lemmas.Bool.{cases_eq, cases_lt, and_parts}
use Rattle.std.proofs.lemmas.Option.{none-some}
use Rattle.std.proofs.lemmas.List.{get_or-set_same, get_or-set_other}
use Rattle.std.proofs.lemmas.List.Elements.{All-head, All-tail}
use Rattle.tm_cint.specs.declared.int_types.IntType.{IntType}
use Rattle.tm_cint.specs.declared.int_types.IntType.TheVariants as Ints
use Rattle.tm_cint.specs.IntTypes.{IsIn, lo_of, hi_of}
use Rattle.tm_cint.specs.Conversions.{represents_all}
use Rattle.tm_typed.specs.declared.types.Scalar.{Scalar}
use Rattle.tm_typed.specs.declared.types.Scalar.TheVariants as Scalars
use Rattle.concrete_values.specs.tm_laid.Layouts.{LaidTree}
use Rattle.concrete_values.specs.declared.values.Value.{Value}
use Rattle.concrete_values.specs.declared.values.Value.TheVariants.{Number, Pointer}
use Rattle.flow_graph.specs.declared.operations.Operation.{Operation}
use Rattle.flow_graph.specs.declared.operations.Operation.TheVariants as Op
use Rattle.flow_graph.specs.declared.graphs.Edge.{Edge}
use Rattle.flow_graph.specs.Operations.{given}
use Rattle.flow_graph.specs.Graphs.{Edges}
use Rattle.pointer_dom.specs.Values.{Values, no_value}
use Rattle.temporary_types.specs.Sorts.{Sort, numbers, pointers, sort_of_scalar, Within, IsOfSort, Gives, GivesTo}
use Rattle.temporary_types.specs.Sorts.{FitsSorts, AreSorts, outcome_type, type_of_some, types_of}
use Rattle.temporary_types.specs.Temporaries.{temporaries_in}
use Rattle.typed_values.specs.Types.{IsOfType}
use Rattle.typed_values.specs.laws.TypeLaws.{none_of_type}
use Rattle.temporary_extents.specs.declared.extents.Extent.{Extent}
use Rattle.temporary_extents.specs.declared.extents.Extent.TheVariants.{Nothing, Between, Pointers}
use Rattle.temporary_extents.specs.Extents.{lesser, greater}
use Rattle.temporary_extents.specs.Extents.{joined_extent, type_extent, scalar_extent, value_extent, extent_at}
use Rattle.temporary_extents.specs.Extents.{given_extent, extended_at, extended, extended_by, extents_of, AreBetween}
use Rattle.temporary_extents.specs.Extents.{IsWithin, extents_in}

-- the extent lies within the sort
abbrev pub IsIn_sort : Sort → Extent → Type 0
IsIn_sort s Nothing = Unit {0}
IsIn_sort (numbers t) (Between low high) = (lo_of t ≤ℤ low) × (high ≤ℤ hi_of t)
IsIn_sort pointers (Between low high) = ⊥
IsIn_sort (numbers t) Pointers = ⊥
IsIn_sort pointers Pointers = Unit {0}

-- each temporary that has a sort has an extent within it, and all others have none
abbrev pub IsKept_at : Option Sort → Extent → Type 0
IsKept_at None Nothing = Unit {0}
IsKept_at None e = ⊥
IsKept_at (Some s) e = IsIn_sort s e

is_le : (p q : ℤ) → int_le p q ≡ true → p ≤ℤ q
is_le p q e = omega (arith, ints)

not_le : (p q : ℤ) → int_le p q ≡ false → q ≤ℤ p
not_le p q e = omega (arith, ints)

least_of : (a b c : ℤ) → c ≤ℤ a → c ≤ℤ b → c ≤ℤ lesser a b
least_of a b c h k = by_test (int_le a b)
  where
    by_test : (t : Bool) → c ≤ℤ cond t a b
    by_test true = h
    by_test false = k

greatest_of : (a b c : ℤ) → a ≤ℤ c → b ≤ℤ c → greater a b ≤ℤ c
greatest_of a b c h k = by_test (int_le a b)
  where
    by_test : (t : Bool) → cond t b a ≤ℤ c
    by_test true = k
    by_test false = h

pub joined_in : (s : Sort) (e f : Extent) → IsIn_sort s e → IsIn_sort s f → IsIn_sort s (joined_extent e f)
unfolding joined_extent
joined_in s Nothing f h k = k
joined_in (numbers t) (Between a b) Nothing h k = h
joined_in (numbers t) (Between a b) (Between c d) h k =
    (least_of a c (lo_of t) h.0 k.0, greatest_of b d (hi_of t) h.1 k.1)
joined_in (numbers t) (Between a b) Pointers h k = h
joined_in pointers (Between a b) f h k = absurd h
joined_in (numbers t) Pointers f h k = absurd h
joined_in pointers Pointers f h k = tt

-- ## What is given

wider : (u : _) (s : Sort) → Within (numbers u) s → IsIn_sort s (type_extent u)
wider u (numbers t) h =
    let p = and_parts (int_le (lo_of t) (lo_of u)) (int_le (hi_of u) (hi_of t)) h in
    (is_le (lo_of t) (lo_of u) p.0, is_le (hi_of u) (hi_of t) p.1)
wider u pointers h = absurd h

around : (s : Sort) → Within pointers s → IsIn_sort s Pointers
around (numbers t) h = absurd h
around pointers h = tt

of_scalar : (c : Scalar) (s : Sort) → Within (sort_of_scalar c) s → IsIn_sort s (scalar_extent c)
of_scalar (Scalars.Int t) s h = wider t s h
of_scalar (Scalars.Pointer class) s h = around s h

of_value : (v : Value) (s : Sort) → IsOfSort s v → IsIn_sort s (value_extent v)
of_value (Number z) (numbers t) h = (h.at_least, h.at_most)
of_value (Number z) pointers h = absurd h
of_value (Pointer p) (numbers t) h = absurd h
of_value (Pointer p) pointers h = tt

of_range : (low high : ℤ) (s : Sort) → IsOfSort s (Number low) → IsOfSort s (Number high)
    → IsIn_sort s (Between low high)
of_range low high (numbers t) h k = (h.at_least, k.at_most)
of_range low high pointers h k = absurd h

within_sort : (own s : Sort) (e : Extent) → Within own s → IsIn_sort own e → IsIn_sort s e
within_sort own s Nothing w h = tt
within_sort (numbers u) (numbers t) (Between low high) w h =
    let p = wider u (numbers t) w in (through (lo_of t) (lo_of u) low p.0 h.0, through high (hi_of u) (hi_of t) h.1 p.1)
  where
    through : (p q r : ℤ) → p ≤ℤ q → q ≤ℤ r → p ≤ℤ r
    through p q r l m = omega (arith, ints)
within_sort (numbers u) pointers (Between low high) w h = absurd w
within_sort pointers s (Between low high) w h = absurd h
within_sort (numbers u) s Pointers w h = absurd h
within_sort pointers s Pointers w h = around s w

-- ## Lists of extents

pub set_past : (l : List Extent) (i : ℕ) (a : Extent) → length l ≤ i → extent_at (set l i a) i ≡ Nothing
set_past [] i a h = refl
set_past (x ∷ l) zero a h = absurd (omega (arith, h))
set_past (x ∷ l) (suc i) a h = set_past l i a (omega (arith, h))

none_given : (count t : ℕ) → extent_at (replicate count Nothing) t ≡ Nothing
none_given zero t = refl
none_given (suc n) zero = refl
none_given (suc n) (suc t) = none_given n t

module _ (laid : LaidTree) (sorts : List Sort) where
  abbrev pub AreKept : List Extent → Type 0
  AreKept known = (t : ℕ) → IsKept_at (slice_get sorts t) (extent_at known t)

  pub kept_some : (o : Option Sort) (e : Extent) (s : Sort) → IsKept_at o e → o ≡ Some s → IsIn_sort s e
  kept_some None e s h k = absurd (none-some s k)
  kept_some (Some r) e s h k = let same : r ≡ s = cc in subst (λ z. IsIn_sort z e) same h

  pub given_in : (known : List Extent) → AreKept known → (op : Operation) (t : ℕ) → given op ≡ Some t → (s : Sort)
      → Gives sorts op s → IsIn_sort s (given_extent known op)
  unfolding given_extent
  given_in known k Op.Skip t e s h = absurd (none-some t e)
  given_in known k (Op.Const to value) t e s h = of_value value s h
  given_in known k (Op.Copy to from) t e s h =
      within_sort h.0 s (extent_at known from) h.2
      (kept_some (slice_get sorts from) (extent_at known from) h.0 (k from) h.1)
  given_in known k (Op.Un to o of from place) t e s h = wider of s h
  given_in known k (Op.Bin to o of left right place) t e s h = wider (outcome_type o of) s h
  given_in known k (Op.BinPointers to equal left right) t e s h = wider Ints.Bool s h
  given_in known k (Op.Convert to was of from) t e s h = wider of s h
  given_in known k (Op.Base to object) t e s h = around s h
  given_in known k (Op.Offset to from cells) t e s h = around s h
  given_in known k (Op.Index to from length' cells by place) t e s h = around s h
  given_in known k (Op.Move to from cells minus by place) t e s h = around s h
  given_in known k (Op.Deref to from target path place) t e s h = around s h
  given_in known k (Op.Load to address scalar place) t e s h = of_scalar scalar s h
  given_in known k (Op.LoadAny to address scalar place) t e s h = of_scalar scalar s h
  given_in known k (Op.Store address value scalar into place) t e s h = absurd (none-some t e)
  given_in known k (Op.Any to low high) t e s h = of_range low high s h.0 h.1
  given_in known k (Op.Clear object) t e s h = absurd (none-some t e)
  given_in known k (Op.Usable pointer place) t e s h = absurd (none-some t e)
  given_in known k (Op.Assume test) t e s h = absurd (none-some t e)
  given_in known k (Op.Lock mutex place) t e s h = absurd (none-some t e)
  given_in known k (Op.Unlock mutex place) t e s h = absurd (none-some t e)
  given_in known k Op.Yield t e s h = absurd (none-some t e)
  given_in known k (Op.Probe to mutex place) t e s h = wider Ints.Bool s h

  pub kept_at : (known : List Extent) → AreKept known → (op : Operation) (o : Option ℕ) → given op ≡ o
      → GivesTo sorts op o → AreKept (extended_at known op o)
  kept_at known k op None q g t = k t
  kept_at known k op (Some u) q g t = by_case (cases_eq t u)
    where
      new : Extent
      new = joined_extent (extent_at known u) (given_extent known op)

      fits : IsIn_sort g.0 new
      fits = joined_in g.0 (extent_at known u) (given_extent known op)
          (kept_some (slice_get sorts u) (extent_at known u) g.0 (k u) g.1) (given_in known k op u q g.0 g.2)

      at_new : (u < length known) ⊎ (length known ≤ u) → IsIn_sort g.0 (extent_at (set known u new) u)
      at_new (inl lt) = subst (IsIn_sort g.0) (sym (get_or-set_same known u new Nothing lt)) fits
      at_new (inr ge) = subst (IsIn_sort g.0) (sym (set_past known u new ge)) tt

      here : IsKept_at (slice_get sorts u) (extent_at (set known u new) u)
      here = subst (λ (z : Option Sort). IsKept_at z (extent_at (set known u new) u)) (sym g.1)
          (at_new (cases_lt u (length known)))

      by_case : (t ≡ u) ⊎ (t ≡ u → ⊥) → IsKept_at (slice_get sorts t) (extent_at (set known u new) t)
      by_case (inl i) = subst (λ y. IsKept_at (slice_get sorts y) (extent_at (set known u new) y)) (sym i) here
      by_case (inr n) =
          subst (IsKept_at (slice_get sorts t)) (sym (get_or-set_other known u t new Nothing n)) (k t)

  kept_by : (known : List Extent) → AreKept known → (graph : Edges) → AreSorts laid sorts graph
      → AreKept (extended_by known graph)
  kept_by known k [] h = k
  kept_by known k (e ∷ graph) h =
      let fits : FitsSorts laid sorts e.op = All-head (λ (x : Edge). FitsSorts laid sorts x.op) e graph h in
      kept_by (extended known e.op) (kept_at known k e.op (given e.op) refl fits.1) graph
      (All-tail (λ (x : Edge). FitsSorts laid sorts x.op) e graph h)

  pub at_first : (count : ℕ) → AreKept (replicate count Nothing)
  at_first count t =
      subst (IsKept_at (slice_get sorts t)) (sym (none_given count t))
      (nothing_kept (slice_get sorts t))
    where
      nothing_kept : (o : Option Sort) → IsKept_at o Nothing
      nothing_kept None = tt
      nothing_kept (Some s) = tt

  typed_by : (o : Option Sort) (e : Extent) (v : Values) → IsKept_at o e → IsWithin laid e v
      → IsOfType laid (type_of_some o) v
  typed_by o Nothing v k h = subst (IsOfType laid (type_of_some o)) (sym h) (none_of_type laid (type_of_some o))
  typed_by None (Between low high) v k h = absurd k
  typed_by None Pointers v k h = absurd k
  typed_by (Some (numbers t)) (Between low high) v k h = (
    record {
      all = λ z p. let b = h.all z p in record {
        at_least = through (lo_of t) low z k.0 b.0;
        at_most = through z high (hi_of t) b.1 k.1;
      };
    },
    h.alone,
  )
    where
      through : (p q r : ℤ) → p ≤ℤ q → q ≤ℤ r → p ≤ℤ r
      through p q r l m = omega (arith, ints)
  typed_by (Some pointers) (Between low high) v k h = absurd k
  typed_by (Some (numbers t)) Pointers v k h = absurd k
  typed_by (Some pointers) Pointers v k h = h

  pub typed : (graph : Edges) → AreSorts laid sorts graph → (temp : ℕ) (v : Values)
      → IsWithin laid (extent_at (extents_in graph) temp) v → IsOfType laid (types_of sorts temp) v
  typed graph h temp v w =
      typed_by (slice_get sorts temp) (extent_at (extents_in graph) temp) v
      (kept_by (replicate (temporaries_in graph) Nothing) (at_first (temporaries_in graph)) graph h temp) w
