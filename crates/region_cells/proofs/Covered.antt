-- The abstract cells of marked objects.
use Rattle.std.proofs.Common.{◌≡◌, sym, ap, subst, ◌∙◌, ℕ, ◌+◌, ◌<◌, ◌≤◌, inl, inr, min, Bool, false, List, length, get_or, arith}
use Rattle.std.specs.Prelude.{replicate}
use Rattle.std.proofs.lemmas.Bool.{cases_eq, false≢true}
use Rattle.std.proofs.lemmas.List.{length-replicate}
use Rattle.tm_laid.specs.declared.objects.LaidObject.{LaidObject}
use Rattle.tm_laid.specs.Layouts.{LaidTree, object_at}
use Rattle.region_cells.specs.reading.Marks.{IsMarked, HasMarked, IsBetween, IsOfMarked, IsOfSome, IsCovering}
use Rattle.region_cells.proofs.Marking.{IsPassed, none_marked, marked_nothing, marked_as, marked_both}

pub cover_all : (first end least cell : ℕ) (old new : List Bool) → least ≡ min end (length old) → least ≤ cell → HasMarked (IsPassed first end cell) old new → HasMarked (IsBetween first end) old new
cover_all first end least cell old new e le h =
    marked_as (IsPassed first end cell) (IsBetween first end) old new (λ s p. (p.0, p.2)) (λ s lt p. (p.0, (let b = p.1 in omega (arith, b, lt, le, e)), p.1)) h

pub object_covered : (laid : LaidTree) (marks : List Bool) (o : ℕ) (of : LaidObject) (old new : List Bool) → of ≡ object_at laid o → IsMarked marks o
    → HasMarked (IsBetween of.first_abstract (of.first_abstract + of.abstract_cells)) old new → HasMarked (IsOfMarked laid marks o) old new
object_covered laid marks o of old new is m h =
    marked_as (IsBetween of.first_abstract (of.first_abstract + of.abstract_cells)) (IsOfMarked laid marks o) old new
    (λ s p. (m, subst (λ (x : LaidObject). (x.first_abstract ≤ s) × (s < x.first_abstract + x.abstract_cells)) is p))
    (λ s lt p. subst (λ (x : LaidObject). (x.first_abstract ≤ s) × (s < x.first_abstract + x.abstract_cells)) (sym is) p.1) h

pub object_passed : (laid : LaidTree) (marks : List Bool) (o : ℕ) (old : List Bool) → get_or marks o false ≡ false → HasMarked (IsOfMarked laid marks o) old old
object_passed laid marks o old e = marked_nothing (IsOfMarked laid marks o) old (λ s p. false≢true (sym e ∙ p.0))

pub objects_none : (laid : LaidTree) (marks covered : List Bool) → HasMarked (IsOfSome laid marks 0) covered covered
objects_none laid marks covered = marked_nothing (IsOfSome laid marks 0) covered (λ s p. let b = p.within in omega (arith, b))

pub objects_more : (laid : LaidTree) (marks : List Bool) (o : ℕ) (old cur new : List Bool) → HasMarked (IsOfSome laid marks o) old cur → HasMarked (IsOfMarked laid marks o) cur new
    → HasMarked (IsOfSome laid marks (o + 1)) old new
objects_more laid marks o old cur new before one =
    marked_both (IsOfSome laid marks o) (IsOfMarked laid marks o) (IsOfSome laid marks (o + 1)) old cur new
    (λ s p. elim (cases_eq p.object o) [
      | inl e ↦ (let P : ℕ → Type 0 = λ k. IsOfMarked laid marks k s in inr (subst P e p.of))
      | inr u ↦ inl (record { object = p.object; within = (let n : p.object ≡ o → ⊥ = u in let b = p.within in omega (arith, n, b)); of = p.of })
    ])
    (λ s p. record { object = p.object; within = (let b = p.within in omega (arith, b)); of = p.of })
    (λ s p. record { object = o; within = omega arith; of = p })
    before one

pub objects_all : (laid : LaidTree) (marks none covered : List Bool) (o : ℕ) → none ≡ replicate (length laid.abstract_cells) false → o ≡ length laid.objects → HasMarked (IsOfSome laid marks o) none covered
    → IsCovering laid marks covered
objects_all laid marks none covered o e at h =
    let len : length none ≡ length laid.abstract_cells = ap length e ∙ length-replicate (length laid.abstract_cells) false in
    let P : ℕ → ℕ → Type 0 = λ n cell. IsOfSome laid marks n cell in
    record {
      count = h.same ∙ len;
      all = λ cell p lt. h.all cell (let Q : ℕ → Type 0 = λ n. P n cell in subst Q (sym at) p) (omega (arith, lt, len));
      only = λ cell m. elim (h.only cell m) [
        | inl a ↦ absurd (none_marked (length laid.abstract_cells) cell none e a)
        | inr p ↦ (let Q : ℕ → Type 0 = λ n. P n cell in subst Q at p)
      ];
    }
