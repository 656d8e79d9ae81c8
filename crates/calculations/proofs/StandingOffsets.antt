-- The offsets of a set, from the first to the last, at which a type stands.
use Rattle.std.specs.Prelude.{◌≡◌, ◌↔◌, ◌⊎◌, ℕ, ◌+◌, ◌<◌, Bool, true, false, IsTrue, ℤ, pos, ◌≤ℤ◌, ◌<ℤ◌, refl}
use Rattle.std.proofs.Common.{sym, ap, subst, ◌∙◌, inl, inr, arith}
use Rattle.std.proofs.lemmas.Int.{ints}
use Rattle.std.proofs.lemmas.Bool.{cases_eq, false≢true}
use Rattle.strided_dom.specs.Progression.{Progression, empty, single, Has, IsHull}
use Rattle.strided_dom.specs.Combinations.{IsInEither}
use Rattle.strided_dom.proofs.Members.{spaced_from, not_in_empty}
use Rattle.pointer_dom.specs.OffsetSets.{OffsetSet, AreEnds}
use Rattle.pointer_dom.specs.Selections.{IsStanding, AllStand}
use Rattle.tm_laid.specs.Layouts.{laid_tree, is_alive}
use Rattle.calculations.specs.declared.dereferences.Followed.{Followed}
use Rattle.calculations.specs.reading.Ends.{Alive, IsStandingBelow, IsStandingUpTo}

-- a test in the code, and what it tests
pub is_so : (a b : Bool) → a ≡ b → IsTrue b → a ≡ true
is_so a b e h = e ∙ h

pub so_is : (a b : Bool) → a ≡ b → a ≡ true → IsTrue b
so_is a b e h = sym e ∙ h

pub alive_so : (f : Followed) (object : ℕ) (b : Bool) → b ≡ is_alive (laid_tree f.laid.now) f.path object → Alive f object → b ≡ true
alive_so f object b e h = is_so b (is_alive (laid_tree f.laid.now) f.path object) e h

pub so_alive : (f : Followed) (object : ℕ) (b : Bool) → b ≡ is_alive (laid_tree f.laid.now) f.path object → b ≡ true → Alive f object
so_alive f object b e h = so_is b (is_alive (laid_tree f.laid.now) f.path object) e h

module _ (o : OffsetSet) (first last : ℕ) (ends : AreEnds o first last) where
  pub from_first : (v : ℤ) → Has o.offsets v → pos first ≤ℤ v
  from_first v h = subst (λ x. x ≤ℤ v) ends.first_is (spaced_from o.offsets v h).from

  pub to_last : (v : ℤ) → Has o.offsets v → v ≤ℤ pos last
  to_last v h = subst (λ x. v ≤ℤ x) ends.last_is (spaced_from o.offsets v h).to

below_more : (n e : ℕ) → n < e + 1 → (n < e) ⊎ (n ≡ e)
below_more n e h = elim (cases_eq n e) [ inl same ↦ inr same | inr differ ↦ inl (omega (arith, h, differ)) ]

hull_for : (P Q : ℤ → Type 0) (s : Progression) → ((v : ℤ) → P v → Q v) → ((v : ℤ) → Q v → P v) → IsHull P s → IsHull Q s
hull_for P Q s forth back h = record { complete = λ v q. h.complete v (back v q); least = λ t all. h.least t (λ v p. all v (forth v p)) }

has_single : (v w : ℤ) → v ≡ w → Has (single w) v
unfolding Has
has_single v w e = e

single_has : (v w : ℤ) → Has (single w) v → v ≡ w
unfolding Has
single_has v w e = e

module _ (There : ℕ → Type 0) (o : OffsetSet) where
  more : (end : ℕ) (v : ℤ) → IsStandingBelow There o end v → IsStandingBelow There o (end + 1) v
  more end v x = record { offset = x.offset; is = x.is; member = x.member; stands = x.stands; below = (let h = x.below in omega (arith, h)) }

  -- no offset is below the first
  pub standing_none : (first : ℕ) → ((v : ℤ) → Has o.offsets v → pos first ≤ℤ v) → IsStandingUpTo There o first empty true
  standing_none first from = record {
    hull = record {
      complete = λ v x. absurd (none x.offset x.below (subst (Has o.offsets) x.is x.member));
      least = λ t all. record { within = λ v h. absurd (not_in_empty v h) };
    };
    all = (λ yes offset below h. absurd (none offset below h), λ all. refl);
  }
    where
      none : (offset : ℕ) → offset < first → Has o.offsets (pos offset) → ⊥
      none offset below h = let least = from (pos offset) h in omega (arith, ints, below, least)

  module _ (end : ℕ) (standing : Progression) (all : Bool) (so : IsStandingUpTo There o end standing all) where
    pub standing_skip : (Has o.offsets (pos end) → ⊥) → IsStandingUpTo There o (end + 1) standing all
    standing_skip absent = record {
      hull = hull_for (IsStandingBelow There o end) (IsStandingBelow There o (end + 1)) standing (more end)
          (λ v x. elim (below_more x.offset end x.below) [
            | inl less ↦ record { offset = x.offset; is = x.is; member = x.member; stands = x.stands; below = less }
            | inr same ↦ absurd (absent (subst (Has o.offsets) (x.is ∙ ap pos same) x.member))
          ]) so.hull;
      all = (
        λ yes offset below h. elim (below_more offset end below) [
          | inl less ↦ so.all.0 yes offset less h
          | inr same ↦ absurd (absent (subst (λ n. Has o.offsets (pos n)) same h))
        ],
        λ every. so.all.1 (λ offset below h. every offset (omega (arith, below)) h),
      );
    }

    pub standing_there : Has o.offsets (pos end) → There end → (wider : Progression) → IsHull (IsInEither standing (single (pos end))) wider
        → IsStandingUpTo There o (end + 1) wider all
    standing_there here stands wider h = record {
      hull = record {
        complete = λ v x. elim (below_more x.offset end x.below) [
          | inl less ↦ h.complete v (inl (so.hull.complete v record { offset = x.offset; is = x.is; member = x.member; stands = x.stands; below = less }))
          | inr same ↦ h.complete v (inr (has_single v (pos end) (x.is ∙ ap pos same)))
        ];
        least = λ t every. h.least t (λ v e. elim e [
          | inl old ↦ (so.hull.least t (λ w x. every w (more end w x))).within v old
          | inr new ↦ (let is = single_has v (pos end) new in every v record { offset = end; is = is; member = subst (Has o.offsets) (sym is) here; stands = stands; below = omega arith })
        ]);
      };
      all = (
        λ yes offset below k. elim (below_more offset end below) [
          | inl less ↦ so.all.0 yes offset less k
          | inr same ↦ subst There (sym same) stands
        ],
        λ every. so.all.1 (λ offset below k. every offset (omega (arith, below)) k),
      );
    }

    pub standing_fails : Has o.offsets (pos end) → (There end → ⊥) → IsStandingUpTo There o (end + 1) standing false
    standing_fails here fails = record {
      hull = hull_for (IsStandingBelow There o end) (IsStandingBelow There o (end + 1)) standing (more end)
          (λ v x. elim (below_more x.offset end x.below) [
            | inl less ↦ record { offset = x.offset; is = x.is; member = x.member; stands = x.stands; below = less }
            | inr same ↦ absurd (fails (subst There same x.stands))
          ]) so.hull;
      all = (λ yes. absurd (false≢true yes), λ every. absurd (fails (every end (omega arith) here)));
    }

    -- no offset is at the end or behind it
    module _ (to : (v : ℤ) → Has o.offsets v → v <ℤ pos end) where
      pub standing_all : IsHull (IsStanding There o) standing
      standing_all = hull_for (IsStandingBelow There o end) (IsStanding There o) standing
          (λ v x. record { offset = x.offset; is = x.is; member = x.member; stands = x.stands })
          (λ v x. let less = subst (λ w. w <ℤ pos end) x.is (to v x.member) in record { offset = x.offset; is = x.is; member = x.member; stands = x.stands; below = omega (arith, ints, less) }) so.hull

      pub all_standing : IsTrue all ↔ AllStand There o
      all_standing = (λ yes offset h. let less = to (pos offset) h in so.all.0 yes offset (omega (arith, ints, less)) h, λ every. so.all.1 (λ offset below h. every offset h))

  -- where there is no offset
  pub nothing_stands : o.offsets ≡ empty → IsHull (IsStanding There o) empty × ((b : Bool) → b ≡ true → IsTrue b ↔ AllStand There o)
  nothing_stands none = (
    record {
      complete = λ v x. absurd (not_in_empty v (subst (λ s. Has s v) none x.member));
      least = λ t all. record { within = λ v h. absurd (not_in_empty v h) };
    },
    λ b yes. (λ h offset k. absurd (not_in_empty (pos offset) (subst (λ s. Has s (pos offset)) none k)), λ all. yes),
  )
