-- The groups with one more object.
use Rattle.std.proofs.Common.{◌≡◌, ℕ, ◌+◌, ◌<◌, ap, sym, subst, ◌∙◌, inl, inr, List, [], ◌∷◌, ◌++◌, length}
use Rattle.std.proofs.Common.{get_or, arith}
use Rattle.std.specs.declared.vec.Vec.{Vec}
use Rattle.std.proofs.lemmas.Bool.{cases_eq}
use Rattle.std.proofs.lemmas.List.{get_or-map}
use Rattle.std.proofs.lemmas.List.Elements.{Contains-append_left, Contains-push, Contains-push_cases}
use Rattle.access_races.proofs.Joins.{either}
use Rattle.access_groups.specs.declared.object_access.ObjectAccess.{ObjectAccess}
use Rattle.access_groups.specs.declared.object_access.AccessGroup.{AccessGroup}
use Rattle.access_races.specs.reading.Ways.{list_at}
use Rattle.access_groups.specs.reading.Merging.{AreMerged, HasRacing}
use Rattle.access_groups.specs.reading.Grouping.{IsGrouped, AreGroupsOf}
use Rattle.access_groups.specs.reading.Grouping.IsGrouped.{none_races, one_races}
use Rattle.access_races.proofs.Rising.{none, rising_push}

abbrev Before : AccessGroup → AccessGroup → Type 0
Before g h = g.object < h.object

module _ {A : Type 0} (lists : List (Vec ObjectAccess A)) where
  -- the list that is read
  pub list_of : (n : ℕ) → n < length lists → (v : Vec ObjectAccess A) → v ≡ get_or lists n v
      → v.items ≡ list_at lists n
  list_of n lt v is = sym (get_or-map (λ (list : Vec ObjectAccess A). list.items) lists n v [] lt
      ∙ ap (λ (list : Vec ObjectAccess A). list.items) (sym is))

  pub groups_none : (groups : List AccessGroup) → groups ≡ [] → AreGroupsOf lists 0 groups
  groups_none groups e = subst (AreGroupsOf lists 0) (sym e) (record {
    below = λ g c. absurd (none g c);
    rising = tt;
    merged = λ g c. absurd (none g c);
    racing = λ g c. absurd (none g c);
    all = λ o lt r. absurd (omega (arith, lt));
  })

  module _ (n : ℕ) (old : List AccessGroup) (h : AreGroupsOf lists n old) where
    unraced : (HasRacing (list_at lists n) → ⊥) → AreGroupsOf lists (n + 1) old
    unraced unracing = record {
      below = λ g c. (let lt = h.below g c in omega (arith, lt));
      rising = h.rising;
      merged = h.merged;
      racing = h.racing;
      all = λ o lt r. elim (cases_eq o n) [
        | inl same ↦ absurd (unracing (subst (λ m. HasRacing (list_at lists m)) same r))
        | inr other ↦ h.all o (omega (arith, lt, other)) r
      ];
    }

    raced : (g : AccessGroup) → g.object ≡ n → AreMerged (list_at lists n) g.accesses.items
        → HasRacing g.accesses.items → AreGroupsOf lists (n + 1) (old ++ g ∷ [])
    raced g is merged racing = record {
      below = λ f c. either (λ o. let lt = h.below f o in omega (arith, lt))
          (λ (s : g ≡ f). subst (λ (z : AccessGroup). z.object < n + 1) s (omega (arith, is)))
          (Contains-push_cases old g f c);
      rising = rising_push Before old g h.rising (λ f c. let lt = h.below f c in omega (arith, lt, is));
      merged = λ f c. either (h.merged f)
          (λ (s : g ≡ f). subst (λ (z : AccessGroup). AreMerged (list_at lists z.object) z.accesses.items) s
          (subst (λ m. AreMerged (list_at lists m) g.accesses.items) (sym is) merged))
          (Contains-push_cases old g f c);
      racing = λ f c. either (h.racing f)
          (λ (s : g ≡ f). subst (λ (z : AccessGroup). HasRacing z.accesses.items) s racing)
          (Contains-push_cases old g f c);
      all = λ o lt r. elim (cases_eq o n) [
        | inl same ↦ (g, Contains-push old g, is ∙ sym same)
        | inr other ↦
            let f = h.all o (omega (arith, lt, other)) r in
            (f.0, Contains-append_left old (g ∷ []) f.0 f.1, f.2)
      ];
    }

    pub groups_more : (noted : List ObjectAccess) → noted ≡ list_at lists n → (new : List AccessGroup)
        → IsGrouped n noted old new → AreGroupsOf lists (n + 1) new
    groups_more noted is new (none_races unracing new-is) =
        subst (AreGroupsOf lists (n + 1)) (sym new-is) (unraced (subst (λ xs. HasRacing xs → ⊥) is unracing))
    groups_more noted is new (one_races g object merged racing new-is) =
        subst (AreGroupsOf lists (n + 1)) (sym new-is)
        (raced g object (subst (λ xs. AreMerged xs g.accesses.items) is merged) racing)
