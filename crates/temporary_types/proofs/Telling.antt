-- Marks tell pointers from numbers.
use Rattle.std.proofs.Common.{◌≡◌, refl, sym, ap, subst, ◌∙◌, ℕ, ◌≤◌, inl, inr, Bool, false, List, [], ◌∷◌}
use Rattle.std.proofs.Common.{◌++◌, length, get_or, replicate, set, Option, Some, None, slice_get, arith, ◌⊎◌}
use Rattle.std.specs.Prelude.{All}
use Rattle.std.proofs.lemmas.Bool.{cases_eq}
use Rattle.std.proofs.lemmas.Option.{none-some, slice_get_within}
use Rattle.std.proofs.lemmas.List.{get_or-set_same, get_or-set_other, length-set, length-replicate, append-nil}
use Rattle.std.proofs.lemmas.List.{append_assoc}
use Rattle.std.proofs.lemmas.List.Elements.{All-head, All-tail}
use Rattle.tm_typed.specs.tm_cint.declared.int_types.IntType.TheVariants as Ints
use Rattle.tm_typed.specs.Types.{is_pointer_scalar}
use Rattle.tm_typed.specs.declared.types.Scalar.{Scalar}
use Rattle.tm_typed.specs.declared.types.Scalar.TheVariants as Scalars
use Rattle.concrete_values.specs.tm_laid.Layouts.{LaidTree}
use Rattle.concrete_values.specs.declared.values.Value.{Value}
use Rattle.concrete_values.specs.declared.values.Value.TheVariants.{Number, Pointer}
use Rattle.flow_graph.specs.declared.operations.Operation.{Operation}
use Rattle.flow_graph.specs.declared.operations.Operation.TheVariants as Op
use Rattle.flow_graph.specs.declared.graphs.Edge.{Edge}
use Rattle.flow_graph.specs.Operations.{given}
use Rattle.flow_graph.specs.Graphs.{Edges, Among}
use Rattle.temporary_types.specs.Sorts.{Sort, numbers, pointers, sort_of_scalar, Within, IsOfSort, Gives, GivesTo}
use Rattle.temporary_types.specs.Sorts.{FitsSorts, AreSorts, outcome_type}
use Rattle.temporary_types.specs.PointerMarks.{is_pointer_value, gives_pointer, marked_at, marked}
use Rattle.temporary_types.specs.PointerMarks.{marked_by, pointer_marks, IsGivenIn, IsCopyOfGiven, CopiesFollow}
use Rattle.temporary_types.specs.PointerMarks.{AreCopiesOfGiven, is_pointers, Tells}

-- ## What one operation gives

within_same : (a b : Sort) → Within a b → is_pointers a ≡ is_pointers b
within_same (numbers t) (numbers u) h = refl
within_same (numbers t) pointers h = absurd h
within_same pointers (numbers u) h = absurd h
within_same pointers pointers h = refl

scalar_same : (c : Scalar) → is_pointer_scalar c ≡ is_pointers (sort_of_scalar c)
scalar_same (Scalars.Int t) = refl
scalar_same (Scalars.Pointer class) = refl

value_same : (v : Value) (s : Sort) → IsOfSort s v → is_pointer_value v ≡ is_pointers s
value_same (Number z) (numbers t) h = refl
value_same (Number z) pointers h = absurd h
value_same (Pointer p) (numbers t) h = absurd h
value_same (Pointer p) pointers h = refl

number_same : (s : Sort) (v : Value) → is_pointer_value v ≡ false → IsOfSort s v → false ≡ is_pointers s
number_same s v e h = sym e ∙ value_same v s h

gives_same : (sorts : List Sort) (marks : List Bool) (before : Edges)
    → ((t : ℕ) → IsGivenIn before t → Tells sorts marks t) → (op : Operation) → IsCopyOfGiven before op → (t : ℕ)
    → given op ≡ Some t → (s : Sort) → Gives sorts op s → gives_pointer marks op ≡ is_pointers s
gives_same sorts marks before k Op.Skip c t e s h = absurd (none-some t e)
gives_same sorts marks before k (Op.Const to value) c t e s h = value_same value s h
gives_same sorts marks before k (Op.Copy to from) c t e s h = k from c h.0 h.1 ∙ within_same h.0 s h.2
gives_same sorts marks before k (Op.Un to o of from place) c t e s h = within_same (numbers of) s h
gives_same sorts marks before k (Op.Bin to o of left right place) c t e s h =
    within_same (numbers (outcome_type o of)) s h
gives_same sorts marks before k (Op.BinPointers to equal left right) c t e s h = within_same (numbers Ints.Bool) s h
gives_same sorts marks before k (Op.Convert to was of from) c t e s h = within_same (numbers of) s h
gives_same sorts marks before k (Op.Base to object) c t e s h = within_same pointers s h
gives_same sorts marks before k (Op.Offset to from cells) c t e s h = within_same pointers s h
gives_same sorts marks before k (Op.Index to from length' cells by place) c t e s h = within_same pointers s h
gives_same sorts marks before k (Op.Move to from cells minus by place) c t e s h = within_same pointers s h
gives_same sorts marks before k (Op.Deref to from target path place) c t e s h = within_same pointers s h
gives_same sorts marks before k (Op.Load to address scalar place) c t e s h =
    scalar_same scalar ∙ within_same (sort_of_scalar scalar) s h
gives_same sorts marks before k (Op.LoadAny to address scalar place) c t e s h =
    scalar_same scalar ∙ within_same (sort_of_scalar scalar) s h
gives_same sorts marks before k (Op.Store address value scalar into place) c t e s h = absurd (none-some t e)
gives_same sorts marks before k (Op.Any to low high) c t e s h = number_same s (Number low) refl h.0
gives_same sorts marks before k (Op.Clear object) c t e s h = absurd (none-some t e)
gives_same sorts marks before k (Op.Usable pointer place) c t e s h = absurd (none-some t e)
gives_same sorts marks before k (Op.Assume test) c t e s h = absurd (none-some t e)
gives_same sorts marks before k (Op.Lock mutex place) c t e s h = absurd (none-some t e)
gives_same sorts marks before k (Op.Unlock mutex place) c t e s h = absurd (none-some t e)
gives_same sorts marks before k Op.Yield c t e s h = absurd (none-some t e)
gives_same sorts marks before k (Op.Probe to mutex place) c t e s h = within_same (numbers Ints.Bool) s h

-- ## One more edge

-- an edge of more edges is one of the first, or the last
among_end : (g : Edges) (e x : Edge) → Among x (g ++ e ∷ []) → Among x g ⊎ (e ≡ x)
among_end [] e x (inl i) = inr i
among_end [] e x (inr a) = absurd a
among_end (y ∷ g) e x (inl i) = inl (inl i)
among_end (y ∷ g) e x (inr a) = elim (among_end g e x a) [ inl b ↦ inl (inr b) | inr i ↦ inr i ]

given_before : (g : Edges) (e : Edge) (t : ℕ) → IsGivenIn (g ++ e ∷ []) t → IsGivenIn g t ⊎ (given e.op ≡ Some t)
given_before g e t h = elim (among_end g e h.edge h.among) [
  | inl a ↦ inl (record { edge = h.edge; among = a; given = h.given })
  | inr i ↦ inr (ap (λ (x : Edge). given x.op) i ∙ h.given)
]

module _ (laid : LaidTree) (sorts : List Sort) (count : ℕ) (inside : length sorts ≤ count) where
  abbrev AllTold : Edges → List Bool → Type 0
  AllTold before marks = (t : ℕ) → IsGivenIn before t → Tells sorts marks t

  told_at : (before : Edges) (e : Edge) (marks : List Bool) (o : Option ℕ) → given e.op ≡ o → length marks ≡ count
      → AllTold before marks → IsCopyOfGiven before e.op → GivesTo sorts e.op o
      → AllTold (before ++ e ∷ []) (marked_at marks e.op o) × (length (marked_at marks e.op o) ≡ count)
  told_at before e marks None q l k c g = (
    λ t d. elim (given_before before e t d) [ inl b ↦ k t b | inr i ↦ absurd (none-some t (sym q ∙ i)) ],
    l,
  )
  told_at before e marks (Some u) q l k c g =
      (λ t d s x. by_case t d s x (cases_eq t u), length-set marks u (gives_pointer marks e.op) ∙ l)
    where
      here : (s : Sort) → slice_get sorts u ≡ Some s
          → get_or (set marks u (gives_pointer marks e.op)) u false ≡ is_pointers s
      here s x =
          let lt = slice_get_within sorts u s x in
          let both : Some g.0 ≡ Some s = sym g.1 ∙ x in
          let same : g.0 ≡ s = cc in
          get_or-set_same marks u (gives_pointer marks e.op) false (omega (arith, lt, l, inside))
          ∙ (gives_same sorts marks before k e.op c u q g.0 g.2 ∙ ap is_pointers same)

      by_case : (t : ℕ) → IsGivenIn (before ++ e ∷ []) t → (s : Sort) → slice_get sorts t ≡ Some s
          → (t ≡ u) ⊎ (t ≡ u → ⊥)
          → get_or (set marks u (gives_pointer marks e.op)) t false ≡ is_pointers s
      by_case t d s x (inl i) =
          subst (λ y. get_or (set marks u (gives_pointer marks e.op)) y false ≡ is_pointers s) (sym i)
          (here s (ap (slice_get sorts) (sym i) ∙ x))
      by_case t d s x (inr n) =
          get_or-set_other marks u t (gives_pointer marks e.op) false n
          ∙ elim (given_before before e t d) as (λ z. get_or marks t false ≡ is_pointers s) [
            | inl b ↦ k t b s x
            | inr i ↦ absurd (n (let y : t ≡ u = cc in y))
          ]

  told_by : (before graph : Edges) (marks : List Bool) → length marks ≡ count → AllTold before marks
      → CopiesFollow before graph → All (λ e. FitsSorts laid sorts e.op) graph
      → AllTold (before ++ graph) (marked_by marks graph)
  told_by before [] marks l k c h =
      subst (λ (g : Edges). AllTold g marks) (sym (append-nil before)) k
  told_by before (e ∷ graph) marks l k c h =
      let fits : FitsSorts laid sorts e.op = All-head (λ (x : Edge). FitsSorts laid sorts x.op) e graph h in
      let r = told_at before e marks (given e.op) refl l k c.0 fits.1 in
      let z = told_by (before ++ e ∷ []) graph (marked marks e.op) r.1 r.0 c.1
      (All-tail (λ (x : Edge). FitsSorts laid sorts x.op) e graph h) in
      subst (λ (g : Edges). AllTold g (marked_by (marked marks e.op) graph))
      (append_assoc before (e ∷ []) graph) z

none_given : (t : ℕ) → IsGivenIn [] t → ⊥
none_given t h = absurd h.among

pub told : (laid : LaidTree) (sorts : List Sort) (graph : Edges) (count : ℕ) → AreSorts laid sorts graph
    → AreCopiesOfGiven graph → length sorts ≤ count → (temp : ℕ) → IsGivenIn graph temp
    → Tells sorts (pointer_marks graph count) temp
told laid sorts graph count h c inside =
    told_by laid sorts count inside [] graph (replicate count false) (length-replicate count false)
    (λ t d. absurd (none_given t d)) c h
