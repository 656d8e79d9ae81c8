-- One more edge stands behind those before it.
use Rattle.std.proofs.Common.{◌≡◌, ◌↔◌, ◌⊎◌, refl, ap, sym, subst, ◌∙◌, inl, ◌-◌, List, [], ◌∷◌, ◌++◌}
use Rattle.std.proofs.Common.{length, Some, arith}
use Rattle.std.specs.Prelude.{Contains, slice_get}
use Rattle.std.proofs.lemmas.List.{length-append}
use Rattle.std.proofs.lemmas.Option.{slice_get_within, get_or_from_slice_get}
use Rattle.std.proofs.lemmas.List.Elements.{Contains-append_left, Contains-push, Contains-push_cases}
use Rattle.access_races.proofs.Joins.{either}
use Rattle.alarm_contexts.specs.declared.alarm_context.ContextEdge.{ContextEdge}
use Rattle.access_races.specs.Rising.{AreRising}
use Rattle.alarm_contexts.specs.Order.{IsEdgeBefore}
use Rattle.alarm_contexts.specs.reading.Merging.{IsLast, IsEdgeAdded}
use Rattle.alarm_contexts.specs.reading.Merging.IsEdgeAdded.{stands, follows}
use Rattle.access_races.proofs.Rising.{none, rising_push, rising_last}
use Rattle.alarm_contexts.proofs.Sorting.{edge_trans}

at_end : {X : Type 0} (front : List X) (x : X) → slice_get (front ++ x ∷ []) (length front) ≡ Some x
at_end [] x = refl
at_end (y ∷ front) x = at_end front x

ends : (front : List ContextEdge) (e : ContextEdge) → IsLast (front ++ e ∷ []) e
ends front e =
    let count = length-append front (e ∷ []) in
    let end : length (front ++ e ∷ []) - 1 ≡ length front = omega (arith, count) in
    subst (λ i. slice_get (front ++ e ∷ []) i ≡ Some e) (sym end) (at_end front e)

last_there : (edges : List ContextEdge) (e : ContextEdge) → IsLast edges e → Contains edges e
last_there edges e h = (
  length edges - 1,
  slice_get_within edges (length edges - 1) e h,
  get_or_from_slice_get edges (length edges - 1) e e h,
)

-- a list has a last element
parted : {X : Type 0} (x : X) (xs : List X) → (front : List X) × (last : X) × (x ∷ xs ≡ front ++ last ∷ [])
parted x [] = ([], x, refl)
parted x (y ∷ ys) = let h = parted y ys in (x ∷ h.0, h.1, ap (λ l. x ∷ l) h.2)

module _ (e : ContextEdge) where
  -- where all are at most this one and it is not the last, all come before it
  all_before : (old : List ContextEdge) → AreRising IsEdgeBefore old
      → ((f : ContextEdge) → Contains old f → IsEdgeBefore f e ⊎ (f ≡ e))
      → (IsLast old e → ⊥) → (f : ContextEdge) → Contains old f → IsEdgeBefore f e
  all_before [] r most other f h = absurd (none f h)
  all_before (x ∷ xs) r most other f h =
      let h' = parted x xs in
      let front = h'.0 in
      let last = h'.1 in
      let is : x ∷ xs ≡ front ++ last ∷ [] = h'.2 in
      let there : Contains (x ∷ xs) last = subst (λ l. Contains l last) (sym is) (Contains-push front last) in
      let before : IsEdgeBefore last e = either (λ b. b)
      (λ s. absurd (other (subst (λ l. IsLast l e) (sym (is ∙ ap (λ z. front ++ z ∷ []) s)) (ends front e))))
      (most last there) in
      either
      (λ o. edge_trans f last e (rising_last IsEdgeBefore front last (subst (AreRising IsEdgeBefore) is r) f o) before)
      (λ s. subst (λ z. IsEdgeBefore z e) s before)
      (Contains-push_cases front last f (subst (λ l. Contains l f) is h))

  pub record AreAdded (old new : List ContextEdge) : Type 0 where
    pub rising : AreRising IsEdgeBefore new
    pub more : (f : ContextEdge) → Contains new f ↔ (Contains old f ⊎ (e ≡ f))

  pub edges_added : (old new : List ContextEdge) → AreRising IsEdgeBefore old
      → ((f : ContextEdge) → Contains old f → IsEdgeBefore f e ⊎ (f ≡ e)) → IsEdgeAdded old e new → AreAdded old new
  edges_added old new r most (stands last new-is) = record {
    rising = subst (AreRising IsEdgeBefore) (sym new-is) r;
    more = λ f. (
      λ c. inl (subst (λ l. Contains l f) new-is c),
      λ h. subst (λ l. Contains l f) (sym new-is) (either (λ o. o)
          (λ s. subst (Contains old) s (last_there old e last)) h),
    );
  }
  edges_added old new r most (follows other new-is) = record {
    rising = subst (AreRising IsEdgeBefore) (sym new-is)
        (rising_push IsEdgeBefore old e r (all_before old r most other));
    more = λ f. (
      λ c. Contains-push_cases old e f (subst (λ l. Contains l f) new-is c),
      λ h. subst (λ l. Contains l f) (sym new-is) (either (λ o. Contains-append_left old (e ∷ []) f o)
          (λ s. subst (Contains (old ++ e ∷ [])) s (Contains-push old e)) h),
    );
  }
