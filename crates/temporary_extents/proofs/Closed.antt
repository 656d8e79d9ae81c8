-- Extents are closed where copies are settled.
use Rattle.std.proofs.Common.{◌≡◌, refl, sym, ap, subst, ◌∙◌, ℕ, zero, suc, ◌<◌, ◌≤◌, ℤ, inl, inr, Bool, true, false}
use Rattle.std.proofs.Common.{List, [], ◌∷◌, length, get_or, replicate, set, Option, Some, None, slice_get, arith, ◌⊎◌}
use Rattle.std.specs.Prelude.{All, ◌≤ℤ◌, int_le, cond, max}
use Rattle.std.proofs.lemmas.Int.{ints}
use Rattle.std.proofs.lemmas.Bool.{cases_eq}
use Rattle.std.proofs.lemmas.Option.{none-some}
use Rattle.std.proofs.lemmas.List.{get_or-set_same, get_or-set_other, length-set, length-replicate}
use Rattle.std.proofs.lemmas.List.Elements.{All-head, All-tail}
use Rattle.strided_dom.specs.Progression.{Has, empty}
use Rattle.operator_values.proofs.low.strided_dom.Members.{not_in_empty}
use Rattle.tm_typed.specs.declared.types.Scalar.TheVariants as Scalars
use Rattle.concrete_values.specs.tm_laid.Layouts.{LaidTree}
use Rattle.flow_graph.specs.declared.operations.Operation.{Operation}
use Rattle.flow_graph.specs.declared.operations.Operation.TheVariants as Op
use Rattle.flow_graph.specs.declared.graphs.Edge.{Edge}
use Rattle.flow_graph.specs.Operations.{given}
use Rattle.flow_graph.specs.Graphs.{Edges, Among}
use Rattle.pointer_dom.specs.Values.{Values, no_value}
use Rattle.temporary_types.specs.Sorts.{Sort, numbers, pointers, GivesTo, FitsSorts, AreSorts}
use Rattle.temporary_types.specs.Temporaries.{behind_given, temporaries_in, GivesBelow}
use Rattle.temporary_types.specs.Settled.{NeverGives, IsSettled, AreSettled}
use Rattle.typed_values.specs.laws.TypeLaws.{none_of_type}
use Rattle.temporary_extents.specs.declared.extents.Extent.{Extent}
use Rattle.temporary_extents.specs.declared.extents.Extent.TheVariants.{Nothing, Between, Pointers}
use Rattle.temporary_extents.specs.Extents.{lesser, greater, joined_extent, extent_at, given_extent, extended_at}
use Rattle.temporary_extents.specs.Extents.{extended}
use Rattle.temporary_extents.specs.Extents.{extended_by, extents_in, AreBetween, IsWithin}
use Rattle.temporary_extents.proofs.Typed.{IsIn_sort, IsKept_at, AreKept, kept_some, joined_in, given_in, kept_at}
use Rattle.temporary_extents.proofs.Typed.{at_first}

-- ## Joins

no_less : (a b : ℤ) → lesser a b ≤ℤ a
no_less a b = by_test (int_le a b) refl
  where
    by_test : (t : Bool) → int_le a b ≡ t → cond t a b ≤ℤ a
    by_test true e = omega (arith, ints)
    by_test false e = omega (arith, ints)

no_less_other : (a b : ℤ) → lesser a b ≤ℤ b
no_less_other a b = by_test (int_le a b) refl
  where
    by_test : (t : Bool) → int_le a b ≡ t → cond t a b ≤ℤ b
    by_test true e = omega (arith, ints)
    by_test false e = omega (arith, ints)

no_more : (a b : ℤ) → a ≤ℤ greater a b
no_more a b = by_test (int_le a b) refl
  where
    by_test : (t : Bool) → int_le a b ≡ t → a ≤ℤ cond t b a
    by_test true e = omega (arith, ints)
    by_test false e = omega (arith, ints)

no_more_other : (a b : ℤ) → b ≤ℤ greater a b
no_more_other a b = by_test (int_le a b) refl
  where
    by_test : (t : Bool) → int_le a b ≡ t → b ≤ℤ cond t b a
    by_test true e = omega (arith, ints)
    by_test false e = omega (arith, ints)

through : (p q r : ℤ) → p ≤ℤ q → q ≤ℤ r → p ≤ℤ r
through p q r l m = omega (arith, ints)

module _ (laid : LaidTree) where
  none_within : (e : Extent) (v : Values) → v ≡ no_value → IsWithin laid e v
  none_within e v h = subst (IsWithin laid e) (sym h) (of_none e)
    where
      of_none : (e : Extent) → IsWithin laid e no_value
      of_none Nothing = refl
      of_none (Between low high) = record { all = λ z p. absurd (not_in_empty z p); alone = refl }
      of_none Pointers = none_of_type laid (Scalars.Pointer 0)

  wider_between : (a b c d : ℤ) (v : Values) → c ≤ℤ a → b ≤ℤ d → AreBetween a b v → AreBetween c d v
  wider_between a b c d v l m h = record {
    all = λ z p. let k = h.all z p in (through c a z l k.0, through z b d k.1 m);
    alone = h.alone;
  }

  from_left : (s : Sort) (e f : Extent) (v : Values) → IsIn_sort s e → IsIn_sort s f → IsWithin laid e v
      → IsWithin laid (joined_extent e f) v
  unfolding joined_extent
  from_left s Nothing f v h k w = none_within f v w
  from_left s (Between a b) Nothing v h k w = w
  from_left s (Between a b) (Between c d) v h k w =
      wider_between a b (lesser a c) (greater b d) v (no_less a c) (no_more b d) w
  from_left (numbers t) (Between a b) Pointers v h k w = absurd k
  from_left pointers (Between a b) Pointers v h k w = absurd h
  from_left s Pointers f v h k w = w

  from_right : (s : Sort) (e f : Extent) (v : Values) → IsIn_sort s e → IsIn_sort s f → IsWithin laid f v
      → IsWithin laid (joined_extent e f) v
  unfolding joined_extent
  from_right s Nothing f v h k w = w
  from_right s (Between a b) Nothing v h k w = none_within (Between a b) v w
  from_right s (Between a b) (Between c d) v h k w =
      wider_between c d (lesser a c) (greater b d) v (no_less_other a c) (no_more_other b d) w
  from_right (numbers t) (Between a b) Pointers v h k w = absurd k
  from_right pointers (Between a b) Pointers v h k w = absurd h
  from_right s Pointers Nothing v h k w = none_within Pointers v w
  from_right (numbers t) Pointers (Between c d) v h k w = absurd h
  from_right pointers Pointers (Between c d) v h k w = absurd k
  from_right s Pointers Pointers v h k w = w

-- ## Growth

never_here : (known : List Extent) (op : Operation) (o : Option ℕ) (t : ℕ) → (o ≡ Some t → ⊥)
    → extent_at (extended_at known op o) t ≡ extent_at known t
never_here known op None t h = refl
never_here known op (Some u) t h =
    get_or-set_other known u t (joined_extent (extent_at known u) (given_extent known op)) Nothing
    (λ e. h (ap Some (sym e)))

never_given : (known : List Extent) (graph : Edges) (t : ℕ) → NeverGives graph t
    → extent_at (extended_by known graph) t ≡ extent_at known t
never_given known [] t h = refl
never_given known (e ∷ graph) t h =
    never_given (extended known e.op) graph t h.1 ∙ never_here known e.op (given e.op) t h.0

as_long : (known : List Extent) (op : Operation) (o : Option ℕ) → length (extended_at known op o) ≡ length known
as_long known op None = refl
as_long known op (Some u) = length-set known u (joined_extent (extent_at known u) (given_extent known op))

-- what is given does not depend on what other temporaries hold, but for a copy
same_given : (known final : List Extent) (op : Operation) (graph : Edges) → IsSettled op graph
    → ((t : ℕ) → NeverGives graph t → extent_at final t ≡ extent_at known t)
    → given_extent final op ≡ given_extent known op
unfolding given_extent
same_given known final Op.Skip graph h k = refl
same_given known final (Op.Const to value) graph h k = refl
same_given known final (Op.Copy to from) graph h k = k from h
same_given known final (Op.Un to o of from place) graph h k = refl
same_given known final (Op.Bin to o of left right place) graph h k = refl
same_given known final (Op.BinPointers to equal left right) graph h k = refl
same_given known final (Op.Convert to was of from) graph h k = refl
same_given known final (Op.Base to object) graph h k = refl
same_given known final (Op.Offset to from cells) graph h k = refl
same_given known final (Op.Index to from length' cells by place) graph h k = refl
same_given known final (Op.Move to from cells minus by place) graph h k = refl
same_given known final (Op.Deref to from target path place) graph h k = refl
same_given known final (Op.Load to address scalar place) graph h k = refl
same_given known final (Op.LoadAny to address scalar place) graph h k = refl
same_given known final (Op.Store address value scalar into place) graph h k = refl
same_given known final (Op.Any to low high) graph h k = refl
same_given known final (Op.Clear object) graph h k = refl
same_given known final (Op.Usable pointer place) graph h k = refl
same_given known final (Op.Assume test) graph h k = refl
same_given known final (Op.Lock mutex place) graph h k = refl
same_given known final (Op.Unlock mutex place) graph h k = refl
same_given known final Op.Yield graph h k = refl
same_given known final (Op.Probe to mutex place) graph h k = refl

-- each temporary that edges give is one of those of their graph
behind_some : (o : Option ℕ) (t : ℕ) → o ≡ Some t → behind_given o ≡ suc t
behind_some o t e = ap behind_given e

gives_below : (count : ℕ) (graph : Edges) → temporaries_in graph ≤ count → GivesBelow count graph
gives_below count [] le = tt
gives_below count (e ∷ graph) le = (
  λ t q. below_max (behind_given (given e.op)) (temporaries_in graph) t (behind_some (given e.op) t q) le,
  gives_below count graph (rest (behind_given (given e.op)) (temporaries_in graph) le),
)
  where
    below_max : (a b t : ℕ) → a ≡ suc t → max a b ≤ count → t < count
    below_max a b t same le = omega (arith, same, le)

    rest : (a b : ℕ) → max a b ≤ count → b ≤ count
    rest a b le = omega (arith, le)

module _ (laid : LaidTree) (sorts : List Sort) where
  abbrev Kept : List Extent → Type 0
  Kept known = AreKept laid sorts known

  step_kept : (known : List Extent) → Kept known → (e : Edge) → FitsSorts laid sorts e.op → Kept (extended known e.op)
  step_kept known k e h = kept_at laid sorts known k e.op (given e.op) refl h.1

  -- at the temporary that is given
  given_now : (known : List Extent) → Kept known → (op : Operation) (u : ℕ) → given op ≡ Some u
      → GivesTo sorts op (Some u) → u < length known → (v : Values)
      → IsWithin laid (extent_at known u) v ⊎ IsWithin laid (given_extent known op) v
      → IsWithin laid (extent_at (extended_at known op (Some u)) u) v
  given_now known k op u q g lt v w =
      subst (λ e. IsWithin laid e v)
      (sym (get_or-set_same known u (joined_extent (extent_at known u) (given_extent known op)) Nothing lt)) (by_side w)
    where
      own : IsIn_sort g.0 (extent_at known u)
      own = kept_some laid sorts (slice_get sorts u) (extent_at known u) g.0 (k u) g.1

      more : IsIn_sort g.0 (given_extent known op)
      more = given_in laid sorts known k op u q g.0 g.2

      by_side : IsWithin laid (extent_at known u) v ⊎ IsWithin laid (given_extent known op) v
          → IsWithin laid (joined_extent (extent_at known u) (given_extent known op)) v
      by_side (inl a) = from_left laid g.0 (extent_at known u) (given_extent known op) v own more a
      by_side (inr a) = from_right laid g.0 (extent_at known u) (given_extent known op) v own more a

  grows_at : (known : List Extent) → Kept known → (op : Operation) (o : Option ℕ) → given op ≡ o → GivesTo sorts op o
      → ((t : ℕ) → o ≡ Some t → t < length known) → (t : ℕ) (v : Values) → IsWithin laid (extent_at known t) v
      → IsWithin laid (extent_at (extended_at known op o) t) v
  grows_at known k op None q g b t v w = w
  grows_at known k op (Some u) q g b t v w = by_case (cases_eq t u)
    where
      by_case : (t ≡ u) ⊎ (t ≡ u → ⊥) → IsWithin laid (extent_at (extended_at known op (Some u)) t) v
      by_case (inr n) =
          subst (λ e. IsWithin laid e v)
          (sym (get_or-set_other known u t (joined_extent (extent_at known u) (given_extent known op)) Nothing n)) w
      by_case (inl i) =
          subst (λ y. IsWithin laid (extent_at (extended_at known op (Some u)) y) v) (sym i)
          (given_now known k op u q g (b u refl) v (inl (subst (λ y. IsWithin laid (extent_at known y) v) i w)))

  -- what is behind the first edge
  below_again : (known : List Extent) (op : Operation) (graph : Edges) → GivesBelow (length known) graph
      → GivesBelow (length (extended known op)) graph
  below_again known op graph h = subst (λ n. GivesBelow n graph) (sym (as_long known op (given op))) h

  grows : (known : List Extent) → Kept known → (graph : Edges) → AreSorts laid sorts graph
      → GivesBelow (length known) graph → (t : ℕ) (v : Values) → IsWithin laid (extent_at known t) v
      → IsWithin laid (extent_at (extended_by known graph) t) v
  grows known k [] h b t v w = w
  grows known k (e ∷ graph) h b t v w =
      let fits : FitsSorts laid sorts e.op = All-head (λ (x : Edge). FitsSorts laid sorts x.op) e graph h in
      grows (extended known e.op) (step_kept known k e fits) graph
      (All-tail (λ (x : Edge). FitsSorts laid sorts x.op) e graph h) (below_again known e.op graph b.1) t v
      (grows_at known k e.op (given e.op) refl fits.1 b.0 t v w)

  closed_by : (known : List Extent) → Kept known → (graph : Edges) → AreSorts laid sorts graph → AreSettled graph
      → GivesBelow (length known) graph → (x : Edge) → Among x graph → (t : ℕ) → given x.op ≡ Some t → (v : Values)
      → IsWithin laid (given_extent (extended_by known graph) x.op) v
      → IsWithin laid (extent_at (extended_by known graph) t) v
  closed_by known k [] h s b x a t q v w = absurd a
  closed_by known k (e ∷ graph) h s b x (inr a) t q v w =
      let fits : FitsSorts laid sorts e.op = All-head (λ (y : Edge). FitsSorts laid sorts y.op) e graph h in
      closed_by (extended known e.op) (step_kept known k e fits) graph
      (All-tail (λ (y : Edge). FitsSorts laid sorts y.op) e graph h) s.1 (below_again known e.op graph b.1) x a t q v w
  closed_by known k (e ∷ graph) h s b x (inl i) t q v w =
      let fits : FitsSorts laid sorts e.op = All-head (λ (y : Edge). FitsSorts laid sorts y.op) e graph h in
      let at : given e.op ≡ Some t = ap (λ (y : Edge). given y.op) i ∙ q in
      let final : List Extent = extended_by known (e ∷ graph) in
      let same : given_extent final x.op ≡ given_extent known e.op =
      ap (λ (y : Edge). given_extent final y.op) (sym i)
      ∙ same_given known final e.op (e ∷ graph) s.0 (never_given known (e ∷ graph)) in
      grows (extended known e.op) (step_kept known k e fits) graph
      (All-tail (λ (y : Edge). FitsSorts laid sorts y.op) e graph h) (below_again known e.op graph b.1) t v
      (subst (λ o. IsWithin laid (extent_at (extended_at known e.op o) t) v) (sym at)
      (given_now known k e.op t at (subst (GivesTo sorts e.op) at fits.1) (b.0 t at) v
      (inr (subst (λ z. IsWithin laid z v) same w))))

  pub closed : (graph : Edges) → AreSorts laid sorts graph → AreSettled graph → (e : Edge) → Among e graph → (t : ℕ)
      → given e.op ≡ Some t → (v : Values) → IsWithin laid (given_extent (extents_in graph) e.op) v
      → IsWithin laid (extent_at (extents_in graph) t) v
  closed graph h s =
      closed_by (replicate (temporaries_in graph) Nothing) (at_first laid sorts (temporaries_in graph)) graph h s
      (subst (λ n. GivesBelow n graph) (sym (length-replicate (temporaries_in graph) Nothing))
      (gives_below (temporaries_in graph) graph (omega arith)))
