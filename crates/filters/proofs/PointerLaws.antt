-- What filters by comparisons of pointers mean for the members.
use Rattle.std.proofs.Common.{◌≡◌, ◌≢◌, inl, ⊎_elim, Bool, true, false, Option, Some, None, pos, sym, subst, ◌∙◌, arith}
use Rattle.std.proofs.lemmas.Int.{ints}
use Rattle.std.specs.FinMap as map
use Rattle.strided_dom.specs.Progression.{empty}
use Rattle.strided_dom.proofs.Members.{not_in_empty}
use Rattle.tm_lattice.specs.Tables.{IsBelow}
use Rattle.pointer_dom.specs.OffsetSets.{OffsetSet, IsOffsetsBelow}
use Rattle.pointer_dom.specs.Pointer.{Pointer, null, invalid, to}
use Rattle.pointer_dom.specs.PointerSets.{Pointers, IsPointers, IsPointer, IsPointersBelow, IsMeet, HaveEqualSizes, no_pointer}
use Rattle.pointer_dom.specs.laws.PointerLaws.{pointers_order}
use Rattle.pointer_dom.specs.Selections.{IsHullOfPointers, IsOtherPointer}
use Rattle.pointer_dom.specs.Equality.{IsEqualityOf, IsOnly, HasNoneOrTwo}
use Rattle.pointer_dom.proofs.EqualityFacts.{not_in_none}
use Rattle.pointer_dom.proofs.Meaning.{included, below_from, in_meet, meet_below, meet_greatest}
use Rattle.pointer_dom.proofs.OperationMeaning.{hull_holds, hull_below}
use Rattle.pointer_dom.proofs.ValueFacts.{below_none}
use Rattle.filters.specs.PointerPartners.{MayBeUnequal, ArePointersAssumed}
use Rattle.filters.proofs.PointerFilters.{hull_all, hull_by, unequal_two, unequal_invalid}

not_one : pos 1 ≡ pos 0 → ⊥
not_one e = omega (arith, ints, e)

pub pair_kept : (equal : Bool) (p q left right : Pointers) (x y : Pointer) → ArePointersAssumed equal p q left right → IsPointer p x → IsPointer q y → IsEqualityOf equal x y (pos 1) → IsPointer left x × IsPointer right y
pair_kept true p q left right x y h m n t = ⊎_elim
    (λ e. (
      (in_meet p q left x h.0).1 (m, subst (IsPointer q) (sym e.1) n),
      (in_meet p q right y h.1).1 (subst (IsPointer p) e.1 m, n),
    ))
    (λ e. absurd (not_one e.0)) t
pair_kept false p q left right x y h m n t = ⊎_elim
    (λ e. (
      hull_holds (MayBeUnequal p q) p left x h.0 (record { member = m; partner = y; in_other = n; unequal = inl e.1 }),
      hull_holds (MayBeUnequal q p) q right y h.1 (record { member = n; partner = x; in_other = m; unequal = inl (λ f. e.1 (sym f)) }),
    ))
    (λ e. absurd (not_one e.0)) t

entry_trans : (a b c : Option OffsetSet) → IsBelow (λ o p. IsOffsetsBelow o p) a b → IsBelow (λ o p. IsOffsetsBelow o p) b c → IsBelow (λ o p. IsOffsetsBelow o p) a c
entry_trans None b c h k = tt
entry_trans (Some o) None c h k = absurd h
entry_trans (Some o) (Some p) None h k = absurd k
entry_trans (Some o) (Some p) (Some q) h k = (let le = h.size in let le' = k.size in record { size = omega (arith, le, le'); offsets = record { within = λ v m. k.offsets.within v (h.offsets.within v m) } })

below_trans : (p q r : Pointers) → IsPointersBelow p q → IsPointersBelow q r → IsPointersBelow p r
below_trans p q r h k = record {
  null = λ m. k.null (h.null m);
  invalid = λ m. k.invalid (h.invalid m);
  objects = λ object. entry_trans (map.get p.objects object) (map.get q.objects object) (map.get r.objects object) (h.objects object) (k.objects object);
}

meet_mono : (p q met p' q' met' : Pointers) → IsPointers met → IsMeet p q met → IsMeet p' q' met' → IsPointersBelow p p' → IsPointersBelow q q' → IsPointersBelow met met'
meet_mono p q met p' q' met' met-is h h' k l =
    let b = meet_below p q met met-is h in
    meet_greatest p' q' met' met met-is h' (below_trans met p p' b.0 k) (below_trans met q q' b.1 l)

unequal_more : (p q p' q' : Pointers) → IsPointersBelow p p' → IsPointersBelow q q' → (x : Pointer) → MayBeUnequal p q x → MayBeUnequal p' q' x
unequal_more p q p' q' k l x h = record { member = included p p' x k h.member; partner = h.partner; in_other = included q q' h.partner l h.in_other; unequal = h.unequal }

pub less_left : (equal : Bool) (p q left right p' q' left' right' : Pointers) → IsPointers left → IsPointers right → ArePointersAssumed equal p q left right → ArePointersAssumed equal p' q' left' right' → IsPointersBelow p p' → IsPointersBelow q q' → IsPointersBelow left left' × IsPointersBelow right right'
less_left true p q left right p' q' left' right' left-is right-is h h' k l = (meet_mono p q left p' q' left' left-is h.0 h'.0 k l, meet_mono p q right p' q' right' right-is h.1 h'.1 k l)
less_left false p q left right p' q' left' right' left-is right-is h h' k l = (
  hull_below (MayBeUnequal p q) (MayBeUnequal p' q') p p' left left' (unequal_more p q p' q' k l) left-is k h.0 h'.0,
  hull_below (MayBeUnequal q p) (MayBeUnequal q' p') q q' right right' (unequal_more q p q' p' l k) right-is l h.1 h'.1,
)

hull_within : (p q r : Pointers) → IsPointers p → IsPointers r → IsHullOfPointers (MayBeUnequal p q) p r → IsPointersBelow r p
hull_within p q r p-is r-is h =
    hull_below (MayBeUnequal p q) (IsPointer p) p p r p (λ x m. m.member) r-is (pointers_order.reflexive p p-is) h (hull_all (IsPointer p) p p-is (λ x m. m) (λ x m. m))

pub none_added : (equal : Bool) (p q left right : Pointers) → IsPointers p → IsPointers q → IsPointers left → IsPointers right → ArePointersAssumed equal p q left right → IsPointersBelow left p × IsPointersBelow right q
none_added true p q left right p-is q-is left-is right-is h = ((meet_below p q left left-is h.0).0, (meet_below p q right right-is h.1).1)
none_added false p q left right p-is q-is left-is right-is h = (hull_within p q left p-is left-is h.0, hull_within q p right q-is right-is h.1)

-- sets without members
no_size : (r : Pointers) → HaveEqualSizes r no_pointer
no_size r object o o' e f = absurd (some_none o' (sym f ∙ map.get-empty _ object))
  where
    some_none : (o : OffsetSet) → ◌≡◌ {A = Option OffsetSet} (Some o) None → ⊥
    some_none o e = cc

none_is : (r : Pointers) → IsPointers r → ((x : Pointer) → IsPointer r x → ⊥) → r ≡ no_pointer
none_is r r-is never = below_none r r-is (below_from r no_pointer r-is (no_size r) (λ x m. absurd (never x m)))

hull_never : (P : Pointer → Type 0) (p r : Pointers) → ((x : Pointer) → P x → ⊥) → IsHullOfPointers P p r → (x : Pointer) → IsPointer r x → ⊥
hull_never P p r never h null m = never null (h.null.0 m)
hull_never P p r never h invalid m = never invalid (h.invalid.0 m)
hull_never P p r never h (to object offset) m = not_in_empty _ ((h.objects object).offsets.sound (pos offset) m empty (λ w q. absurd (never (to object q.offset) q.pointer)))

pub none_left : (equal : Bool) (q left right : Pointers) → IsPointers left → IsPointers right → ArePointersAssumed equal no_pointer q left right → (left ≡ no_pointer) × (right ≡ no_pointer)
none_left true q left right left-is right-is h = (
  none_is left left-is (λ x m. not_in_none x ((in_meet no_pointer q left x h.0).0 m).0),
  none_is right right-is (λ x m. not_in_none x ((in_meet no_pointer q right x h.1).0 m).0),
)
none_left false q left right left-is right-is h = (
  none_is left left-is (hull_never (MayBeUnequal no_pointer q) no_pointer left (λ x m. not_in_none x m.member) h.0),
  none_is right right-is (hull_never (MayBeUnequal q no_pointer) q right (λ x m. not_in_none m.partner m.in_other) h.1),
)

pub none_right : (equal : Bool) (p left right : Pointers) → IsPointers left → IsPointers right → ArePointersAssumed equal p no_pointer left right → (left ≡ no_pointer) × (right ≡ no_pointer)
none_right true p left right left-is right-is h = (
  none_is left left-is (λ x m. not_in_none x ((in_meet p no_pointer left x h.0).0 m).1),
  none_is right right-is (λ x m. not_in_none x ((in_meet p no_pointer right x h.1).0 m).1),
)
none_right false p left right left-is right-is h = (
  none_is left left-is (hull_never (MayBeUnequal p no_pointer) p left (λ x m. not_in_none m.partner m.in_other) h.0),
  none_is right right-is (hull_never (MayBeUnequal no_pointer p) no_pointer right (λ x m. not_in_none x m.member) h.1),
)

-- one side by the other
pub one_removed : (p q left right : Pointers) (x : Pointer) → ArePointersAssumed false p q left right → IsOnly q x → x ≢ invalid → IsHullOfPointers (IsOtherPointer p x) p left
one_removed p q left right x h only valid = hull_by (MayBeUnequal p q) (IsOtherPointer p x) p left
    (λ y m. (m.member, λ e. ⊎_elim (λ n. n (e ∙ sym (only.only m.partner m.in_other))) (λ i. valid (sym (only.only m.partner m.in_other) ∙ i)) m.unequal))
    (λ y m. record { member = m.0; partner = x; in_other = only.member; unequal = inl m.1 }) h.0

same_hull : (P : Pointer → Type 0) (p r r' : Pointers) → IsPointers p → IsPointers r → IsPointers r' → IsHullOfPointers P p r → IsHullOfPointers P p r' → r ≡ r'
same_hull P p r r' p-is r-is r'-is h k =
    pointers_order.antisymmetric r r' r-is r'-is (hull_below P P p p r r' (λ x m. m) r-is (pointers_order.reflexive p p-is) h k) (hull_below P P p p r' r (λ x m. m) r'-is (pointers_order.reflexive p p-is) k h)

pub invalid_stays : (p q left right : Pointers) → IsPointers p → IsPointers left → ArePointersAssumed false p q left right → IsOnly q invalid → left ≡ p
invalid_stays p q left right p-is left-is h only = same_hull (MayBeUnequal p q) p left p p-is left-is p-is h.0 (unequal_invalid p q p-is only)

pub two_stay : (p q left right : Pointers) → IsPointers p → IsPointers left → ArePointersAssumed false p q left right → HasNoneOrTwo q → q ≢ no_pointer → left ≡ p
two_stay p q left right p-is left-is h two some = same_hull (MayBeUnequal p q) p left p p-is left-is p-is h.0 (unequal_two p q p-is some two)
