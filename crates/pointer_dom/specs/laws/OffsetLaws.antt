-- Sets of offsets meet the laws of a lattice.
use Rattle.std.specs.Prelude.{◌≡◌, ℕ, ◌≤◌, max, List, [], ℤ}
use Rattle.std.proofs.Common.{inl, inr, ⊎_elim, subst, arith}
use Rattle.std.proofs.lemmas.Int.{ints}
use Rattle.strided_dom.specs.Progression.{Progression, empty, Has, IsSubset, IsExactly, IsHull, first_of}
use Rattle.strided_dom.specs.Combinations.{IsInEither}
use Rattle.strided_dom.specs.Rounding.{IsInRounding}
use Rattle.strided_dom.proofs.Members.{not_in_empty, no_member, below_antisym}
use Rattle.strided_dom.proofs.Roundings.{rounding_extensive, rounding_monotone, rounding_idempotent}
use Rattle.tm_lattice.specs.LatticeLaws.{IsOrder, IsJoin, IsClosure, IsLeastNothing}
use Rattle.pointer_dom.specs.Offset.{IsOffset}
use Rattle.pointer_dom.specs.StridedSets.{hull, hull_is, rounding, rounding_is, rounding_within, rounding_within_is}
use Rattle.pointer_dom.specs.OffsetSets.{OffsetSet, IsOffsetSet, HasNoOffset, IsOffsetsBelow, joined_offsets}
use Rattle.pointer_dom.specs.OffsetSets.{rounded_offsets}

-- a description determines one set
pub same_hull : (P : ℤ → Type 0) (r u : Progression) → IsHull P r → IsHull P u → r ≡ u
same_hull P r u h k = below_antisym r u (h.least u k.complete) (k.least r h.complete)

pub same_members : (P : ℤ → Type 0) (r u : Progression) → IsExactly P r → IsExactly P u → r ≡ u
same_members P r u h k = below_antisym r u
    (record { within = λ v p. k.complete v (h.sound v p) }) (record { within = λ v p. h.complete v (k.sound v p) })

pub below_empty : (s t : Progression) → IsSubset s t → t ≡ empty → s ≡ empty
below_empty s t h e = no_member s (λ v p. not_in_empty v (subst (λ x. Has x v) e (h.within v p)))

pub empty_below : (s t : Progression) → s ≡ empty → IsSubset s t
empty_below s t e = record { within = λ v p. absurd (not_in_empty v (subst (λ x. Has x v) e p)) }

pub hull_left : (s t : Progression) → IsSubset s (hull s t)
hull_left s t = record { within = λ v p. (hull_is s t).complete v (inl p) }

pub hull_right : (s t : Progression) → IsSubset t (hull s t)
hull_right s t = record { within = λ v p. (hull_is s t).complete v (inr p) }

pub hull_least : (s t u : Progression) → IsSubset s u → IsSubset t u → IsSubset (hull s t) u
hull_least s t u h k = (hull_is s t).least u (λ v p. ⊎_elim (λ q. h.within v q) (λ q. k.within v q) p)

-- what lies from 0 to a size
offset_up : (size size' : ℕ) (v : ℤ) → size ≤ size' → IsOffset size v → IsOffset size' v
offset_up size size' v le h = record { from = h.from; to = omega (arith, ints, h.to) }

pub offsets_order : IsOrder IsOffsetSet IsOffsetsBelow
offsets_order = record {
  reflexive = λ o o-is. record { size = omega arith; offsets = record { within = λ v p. p } };
  transitive = λ o p q o-is p-is q-is h k. record {
    size = omega (arith, h.size, k.size);
    offsets = record { within = λ v m. k.offsets.within v (h.offsets.within v m) };
  };
  antisymmetric = λ o p o-is p-is h k.
      let sizes : o.size ≡ p.size = omega (arith, h.size, k.size) in
      let sets = below_antisym o.offsets p.offsets h.offsets k.offsets in
      λ i. record { size = sizes i; offsets = sets i };
}

pub offsets_nothing : IsLeastNothing (λ o. IsOffsetSet o) (λ marks. Unit {0}) IsOffsetsBelow rounded_offsets HasNoOffset
offsets_nothing = record {
  below = λ o p o-is p-is none. record {
    size = (let z = o-is.none none in omega (arith, z));
    offsets = empty_below o.offsets p.offsets none;
  };
  rounding = λ marks o m o-is none. no_member _ (λ v p. not_in_empty _
      (subst (λ x. Has x (first_of o.offsets)) none
      ((rounding_within_is o.size marks o.offsets).sound v p).rounding.some));
}

rounded_extensive : (marks : List ℤ) (o : OffsetSet) → IsOffsetSet o → IsOffsetsBelow o (rounded_offsets marks o)
rounded_extensive marks o o-is = record {
  size = omega arith;
  offsets = record {
    within = λ v p. (rounding_within_is o.size marks o.offsets).complete v (record {
      rounding = (rounding_is marks o.offsets).sound v ((rounding_extensive marks o.offsets (rounding marks o.offsets)
          (rounding_is marks o.offsets)).within v p);
      offset = o-is.within v p;
    });
  };
}

-- a rounding moves no number out of the rounding of a greater set
moved : (marks : List ℤ) (s t : Progression) → IsSubset s t → (v : ℤ) → IsInRounding marks s v → IsInRounding marks t v
moved marks s t below v p =
    let r = rounding_is marks s in
    let u = rounding_is marks t in
    u.sound v ((rounding_monotone marks s t (rounding marks s) (rounding marks t) below r u).within v (r.complete v p))

rounded_monotone : (marks : List ℤ) (o p : OffsetSet) → IsOffsetsBelow o p
    → IsOffsetsBelow (rounded_offsets marks o) (rounded_offsets marks p)
rounded_monotone marks o p h = record {
  size = h.size;
  offsets = record {
    within = λ v m. (let q = (rounding_within_is o.size marks o.offsets).sound v m in
        (rounding_within_is p.size marks p.offsets).complete v (record {
          rounding = moved marks o.offsets p.offsets h.offsets v q.rounding;
          offset = offset_up o.size p.size v h.size q.offset;
        }));
  };
}

-- what the rounding of a rounding has, the rounding has
back : (marks : List ℤ) (size : ℕ) (s : Progression) (v : ℤ)
    → Has (rounding_within size marks (rounding_within size marks s)) v → Has (rounding_within size marks s) v
back marks size s v m =
    let r = rounding_is marks s in
    let u = rounding_is marks (rounding marks s) in
    let q = (rounding_within_is size marks (rounding_within size marks s)).sound v m in
    let inner : IsSubset (rounding_within size marks s) (rounding marks s) =
    record { within = λ w p. r.complete w ((rounding_within_is size marks s).sound w p).rounding } in
    let again = moved marks (rounding_within size marks s) (rounding marks s) inner v q.rounding in
    let same = rounding_idempotent marks s (rounding marks s) (rounding marks (rounding marks s)) r u in
    (rounding_within_is size marks s).complete v (record {
      rounding = r.sound v (subst (λ x. Has x v) same (u.complete v again));
      offset = q.offset;
    })

rounded_value : (marks : List ℤ) (o : OffsetSet) → IsOffsetSet o → IsOffsetSet (rounded_offsets marks o)
rounded_value marks o o-is = record {
  within = λ v p. ((rounding_within_is o.size marks o.offsets).sound v p).offset;
  none = λ e. o-is.none (below_empty o.offsets _ (rounded_extensive marks o o-is).offsets e);
}

pub offsets_closure : IsClosure (λ o. IsOffsetSet o) (λ marks. Unit {0}) (λ o p. IsOffsetsBelow o p) rounded_offsets
offsets_closure = record {
  value = λ marks o m o-is. rounded_value marks o o-is;
  extensive = λ marks o m o-is. rounded_extensive marks o o-is;
  monotone = λ marks o p m o-is p-is h. rounded_monotone marks o p h;
  idempotent = λ marks o m o-is.
      let same = below_antisym _ _ (record { within = λ v p. back marks o.size o.offsets v p })
      (rounded_extensive marks (rounded_offsets marks o) (rounded_value marks o o-is)).offsets in
      λ i. record { size = o.size; offsets = same i };
}

-- the hull of offsets has offsets alone: the numbers from the least to the greatest of both do
joined_within : (size : ℕ) (s t : Progression) → ((v : ℤ) → Has s v → IsOffset size v)
    → ((v : ℤ) → Has t v → IsOffset size v) → (v : ℤ) → Has (hull s t) v → IsOffset size v
joined_within size s t h k v p =
    let both = hull s t in
    let cut = rounding_within_is size [] both in
    let keeps : (w : ℤ) → IsInEither s t w → Has (rounding_within size [] both) w = λ w q. cut.complete w (record {
      rounding = (rounding_is [] both).sound w ((rounding_extensive [] both (rounding [] both)
          (rounding_is [] both)).within w ((hull_is s t).complete w q));
      offset = ⊎_elim (λ m. h w m) (λ m. k w m) q;
    }) in
    (cut.sound v (((hull_is s t).least (rounding_within size [] both) keeps).within v p)).offset

pub offsets_join : IsJoin IsOffsetSet IsOffsetsBelow joined_offsets
offsets_join = record {
  value = λ o p o-is p-is. record {
    within = joined_within (max o.size p.size) o.offsets p.offsets
        (λ v m. offset_up o.size (max o.size p.size) v (omega arith) (o-is.within v m))
        (λ v m. offset_up p.size (max o.size p.size) v (omega arith) (p-is.within v m));
    none = λ e. (let z = o-is.none (below_empty o.offsets _ (hull_left o.offsets p.offsets) e) in let z' =
        p-is.none (below_empty p.offsets _ (hull_right o.offsets p.offsets) e) in omega (arith, z, z'));
  };
  left = λ o p o-is p-is. record { size = omega arith; offsets = hull_left o.offsets p.offsets };
  right = λ o p o-is p-is. record { size = omega arith; offsets = hull_right o.offsets p.offsets };
  least = λ o p q o-is p-is q-is h k. record {
    size = omega (arith, h.size, k.size);
    offsets = hull_least o.offsets p.offsets q.offsets h.offsets k.offsets;
  };
}
