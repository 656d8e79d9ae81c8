-- What a dereference reaches, object by object.
use Rattle.std.proofs.Common.{◌≡◌, ◌↔◌, ⊎_elim, ℕ, Bool, true, false, not, ◌||◌, IsTrue, ℤ, pos, nat_abs, ◌≤ℤ◌, refl, sym, subst, ◌∙◌, arith}
use Rattle.std.proofs.lemmas.Int.{ints}
use Rattle.std.specs.FinMap as map
use Rattle.strided_dom.specs.Progression.{Progression, empty, Has, IsHull, first_of}
use Rattle.strided_dom.proofs.Members.{not_in_empty, some_or_empty}
use Rattle.strided_dom.proofs.Spans.{exactly_same}
use Rattle.tm_lattice.specs.Tables.{Table}
use Rattle.pointer_dom.specs.Offset.{IsOffset, IsOffsetAmong}
use Rattle.pointer_dom.specs.OffsetSets.{OffsetSet, IsOffsetSet, IsOffsetsOf, no_offset}
use Rattle.pointer_dom.specs.Pointer.{Pointer, null, invalid, to}
use Rattle.pointer_dom.specs.PointerSets.{Pointers, IsPointer, offsets_or_none, offsets_at}
use Rattle.pointer_dom.specs.Advances.{IsInHull, IsGiven}
use Rattle.pointer_dom.specs.Selections.{IsOffsetTo, IsHullOfPointers, Reaches, IsTarget, IsStanding, IsStandingIn, AllStandAt, AllStandIn}
use Rattle.pointer_dom.proofs.MeetFacts.{none_met}
use Rattle.pointer_dom.proofs.AdvanceFacts.{hull_weaken, in_hull, from_hull}
use Rattle.pointer_dom.proofs.StepFacts.{none_fails}

not_negative : (v : ℤ) → pos 0 ≤ℤ v → v ≡ pos (nat_abs v)
not_negative v h = omega (arith, ints)

module _ (Alive : ℕ → Type 0) (Stands : ℕ → ℕ → Type 0) where
  pub never_standing : (object : ℕ) (v : ℤ) → IsStandingIn Alive Stands object no_offset v → ⊥
  never_standing object v p = not_in_empty v (p empty (λ w q. absurd (not_in_empty w q.member)))

  pub none_stand : (object : ℕ) → AllStandAt Alive Stands object no_offset
  none_stand object offset m = absurd (not_in_empty _ m)

  module _ (object : ℕ) (o : OffsetSet) where
    pub none_alive : (Alive object → ⊥) → (none : OffsetSet) → none ≡ no_offset → IsOffsetsOf o.size (IsStandingIn Alive Stands object o) none
    none_alive dead none e = subst (IsOffsetsOf o.size (IsStandingIn Alive Stands object o)) (sym e)
        (none_met o.size (IsStandingIn Alive Stands object o) (λ v p. not_in_empty v (p empty (λ w q. absurd (dead q.stands.0)))))

    pub none_reached : (Alive object → ⊥) → (s : Progression) (b : Bool) → s ≡ o.offsets → IsOffsetSet o → (IsTrue b ↔ (s ≡ empty)) → IsTrue b ↔ AllStandAt Alive Stands object o
    none_reached dead s b same o-is h = (
      λ t offset m. absurd (not_in_empty _ (subst (λ x. Has x (pos offset)) (sym same ∙ h.0 t) m)),
      λ all. h.1 (same ∙ ⊎_elim
          (λ some. (let v = first_of o.offsets in let e = not_negative v (o-is.within v some).from in absurd (dead (all (nat_abs v) (subst (λ x. Has o.offsets x) e some)).0)))
          (λ none. none) (some_or_empty o.offsets)),
    )

    module _ (alive : Alive object) where
      more : (v : ℤ) → IsStanding (Stands object) o v → IsStanding (λ offset. Reaches Alive Stands (to object offset)) o v
      more v p = record { offset = p.offset; is = p.is; member = p.member; stands = (alive, p.stands) }

      less : (v : ℤ) → IsStanding (λ offset. Reaches Alive Stands (to object offset)) o v → IsStanding (Stands object) o v
      less v p = record { offset = p.offset; is = p.is; member = p.member; stands = p.stands.1 }

      pub some_alive : (s : Progression) (size : ℕ) (r : OffsetSet) → IsOffsetSet o → size ≡ o.size → IsHull (IsStanding (Stands object) o) s → IsOffsetsOf size (IsOffsetAmong size s) r → IsOffsetsOf o.size (IsStandingIn Alive Stands object o) r
      some_alive s size r o-is size-is hull within = record {
        offsets = record {
          sound = λ v m. hull_weaken (IsStanding (Stands object) o) (IsStanding (λ offset. Reaches Alive Stands (to object offset)) o) more v (in_hull (IsStanding (Stands object) o) s hull v (within.offsets.sound v m).member);
          complete = λ v p. within.offsets.complete v (record {
            member = from_hull (IsStanding (Stands object) o) s hull v (hull_weaken (IsStanding (λ offset. Reaches Alive Stands (to object offset)) o) (IsStanding (Stands object) o) less v p);
            offset = subst (λ n. IsOffset n v) (sym size-is) (o-is.within v (p o.offsets (λ w q. q.member)));
          });
        };
        some = λ h. within.some h ∙ size-is;
        none = within.none;
      }

  -- the whole set
  module _ (p : Pointers) (object : ℕ) where
    abbrev o : OffsetSet
    o = offsets_at p object

    target_from : (v : ℤ) → IsStanding (λ offset. Reaches Alive Stands (to object offset)) o v → IsOffsetTo (IsTarget Alive Stands p) object v
    target_from v q = record { offset = q.offset; is = q.is; pointer = (subst (λ x. Has o.offsets x) q.is q.member, q.stands) }

    from_target : (v : ℤ) → IsOffsetTo (IsTarget Alive Stands p) object v → IsStanding (λ offset. Reaches Alive Stands (to object offset)) o v
    from_target v q = record { offset = q.offset; is = q.is; member = subst (λ x. Has o.offsets x) (sym q.is) q.pointer.0; stands = q.pointer.1 }

    targets_at : (r : OffsetSet) → IsOffsetsOf o.size (IsStandingIn Alive Stands object o) r → IsOffsetsOf o.size (IsInHull (IsOffsetTo (IsTarget Alive Stands p) object)) r
    targets_at r g = record {
      offsets = exactly_same (IsStandingIn Alive Stands object o) (IsInHull (IsOffsetTo (IsTarget Alive Stands p) object)) r.offsets
          (hull_weaken (IsStanding (λ offset. Reaches Alive Stands (to object offset)) o) (IsOffsetTo (IsTarget Alive Stands p) object) target_from)
          (hull_weaken (IsOffsetTo (IsTarget Alive Stands p) object) (IsStanding (λ offset. Reaches Alive Stands (to object offset)) o) from_target) g.offsets;
      some = g.some;
      none = g.none;
    }

  not_true : (b : Bool) → (IsTrue b → ⊥) → b ≡ false
  not_true true h = absurd (h refl)
  not_true false h = refl

  false_not : (b : Bool) → b ≡ false → IsTrue b → ⊥
  false_not true e t = (let f : true ≡ false = e in cc)
  false_not false e t = (let f : false ≡ true = t in cc)

  module _ (p : Pointers) (before : Table OffsetSet) (same : before ≡ p.objects) where
    pub targets_are : (after : Table OffsetSet) (r : Pointers) → IsGiven (IsStandingIn Alive Stands) before after → r ≡ record { null = false; invalid = false; objects = after } → IsHullOfPointers (IsTarget Alive Stands p) p r
    targets_are after r given r-is = subst (IsHullOfPointers (IsTarget Alive Stands p) p) (sym r-is) (record {
      null = (λ t. absurd (false_not false refl t), λ x. absurd x.1);
      invalid = (λ t. absurd (false_not false refl t), λ x. absurd x.1);
      objects = λ object. targets_at p object (offsets_or_none (map.get after object)) (subst (λ t. IsGiven (IsStandingIn Alive Stands) t after) same given object);
    })

    pub all_reach : (null-flag invalid-flag all : Bool) → null-flag ≡ p.null → invalid-flag ≡ p.invalid → (IsTrue all ↔ AllStandIn Alive Stands before) → ((null-flag || invalid-flag || not all) ≡ false) ↔ ((x : Pointer) → IsPointer p x → Reaches Alive Stands x)
    all_reach null-flag invalid-flag all null-is invalid-is all-is =
        let three = none_fails null-flag invalid-flag all in (
          λ e. (let h = three.0 e in reach (sym null-is ∙ h.0) (sym invalid-is ∙ h.1) (subst (AllStandIn Alive Stands) same (all-is.0 h.2))),
          λ f. three.1 (null-is ∙ not_true p.null (f null), invalid-is ∙ not_true p.invalid (f invalid), all-is.1 (subst (AllStandIn Alive Stands) (sym same) (λ object offset m. f (to object offset) m))),
        )
      where
        reach : p.null ≡ false → p.invalid ≡ false → AllStandIn Alive Stands p.objects → (x : Pointer) → IsPointer p x → Reaches Alive Stands x
        reach a b h null m = false_not p.null a m
        reach a b h invalid m = false_not p.invalid b m
        reach a b h (to object offset) m = h object offset m
