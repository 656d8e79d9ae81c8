-- The loop is a system of equations, and a program whose passes are those of its least tables.
use Rattle.std.specs.Prelude.{◌≡◌, ℕ, zero, suc, ◌<◌, ◌≤◌, Bool, true, false, ◌==◌, max, length, Option, Some, IfSome}
use Rattle.std.specs.Prelude.{refl}
use Rattle.std.proofs.Common.{subst, arith}
use Rattle.tm_lattice.specs.LatticeLaws.{IsOrder, IsJoin, IsClosure, IsLeastNothing}
use Rattle.tm_lattice.specs.declared.passers.Passer as passer
use Rattle.tm_lattice.specs.Fitting.{IsFitting, IsBottom, IsMonotone}
use Rattle.table_covers.specs.Systems.{IsLawfulSystem, from_of, to_of}
use Rattle.table_covers.specs.Whole as whole
use Rattle.table_covers.specs.laws.Iterates as iterates
use Rattle.table_covers.specs.laws.AddedTotals as totals
use Rattle.table_covers.specs.laws.WholeLeast as least
use Rattle.engine_tests.specs.Loops.{IsLevel, IsLower, levels, loop_links, raised_by, rounded_if, is_head, suits}
use Rattle.engine_tests.specs.Loops.{loop_system, loop_table, loop_pass}

pub level_order : IsOrder IsLevel IsLower
level_order = record {
  reflexive = λ v _. omega arith;
  transitive = λ v w x _ _ _ p q. omega arith;
  antisymmetric = λ v w _ _ p q. omega arith;
}

pub level_join : IsJoin IsLevel IsLower max
level_join = record {
  value = λ v w _ _. tt;
  left = λ v w _ _. omega arith;
  right = λ v w _ _. omega arith;
  least = λ v w x _ _ _ p q. omega arith;
}

pub level_closure : IsClosure {M = ℕ} IsLevel (λ _. Unit {0}) IsLower (λ m v. max v m)
level_closure = record {
  value = λ m v _ _. tt;
  extensive = λ m v _ _. omega arith;
  monotone = λ m v w _ _ _ p. omega arith;
  idempotent = λ m v _ _. omega arith;
}

pub level_nothing : IsLeastNothing {M = ℕ} IsLevel (λ _. Unit {0}) IsLower (λ m v. max v m) (λ _. ⊥)
level_nothing = record { below = λ v w _ _ none. absurd none; rounding = λ m v _ _ none. none }

from_within : (e : ℕ) → e < 3 → from_of loop_links e < 3
from_within zero lt = omega arith
from_within (suc zero) lt = omega arith
from_within (suc (suc zero)) lt = omega arith
from_within (suc (suc (suc e))) lt = absurd (omega arith)

to_within : (e : ℕ) → e < 3 → to_of loop_links e < 3
to_within zero lt = omega arith
to_within (suc zero) lt = omega arith
to_within (suc (suc zero)) lt = omega arith
to_within (suc (suc (suc e))) lt = absurd (omega arith)

rounded_fits : (b : Bool) (mark v : ℕ) → v ≤ 9 → rounded_if b mark v ≤ 9
rounded_fits true mark v le = omega arith
rounded_fits false mark v le = le

extensive : (b : Bool) (mark v : ℕ) → v ≤ rounded_if b mark v
extensive true mark v = omega arith
extensive false mark v = omega arith

rising : (b : Bool) (mark v w : ℕ) → v ≤ w → rounded_if b mark v ≤ rounded_if b mark w
rising true mark v w le = omega arith
rising false mark v w le = le

idempotent : (b : Bool) (mark v : ℕ) → rounded_if b mark (rounded_if b mark v) ≡ rounded_if b mark v
idempotent true mark v = omega arith
idempotent false mark v = refl

plain : (b : Bool) (mark v : ℕ) → b ≡ false → rounded_if b mark v ≡ v
plain true mark v e = cc
plain false mark v e = refl

module _ (mark : ℕ) where
  pub loop_lawful : (store : ℕ) → IsLawfulSystem IsLevel IsLower max suits (loop_system mark store)
  loop_lawful store = record {
    some_node = omega arith;
    from_node = from_within;
    to_node = to_within;
    value = λ n v _. tt;
    entry_fits = omega arith;
    after_fits = λ e v lt fit. omega arith;
    joined_fits = λ n v w p q. omega arith;
    outward_fits = λ n v fit. rounded_fits (is_head n) mark v fit;
    monotone = λ e v w lt p q le. omega arith;
    extensive = λ n v fit. extensive (is_head n) mark v;
    rising = λ n v w p q le. rising (is_head n) mark v w le;
    idempotent = λ n v fit. idempotent (is_head n) mark v;
    plain = λ n v e fit. plain (is_head n) mark v e;
    first_plain = refl;
    within = λ n v fit. fit;
    climbs = λ v w _ _ le. le;
    strictly = λ v w _ _ le le'. omega arith;
  }

  table_fits : (store n : ℕ) → n < 3 → IfSome (loop_table mark store n) (suits n)
  table_fits store n lt =
      (iterates.least_is_least levels suits (loop_system mark store) level_order level_join
      (loop_lawful store)).solves.fits n lt

  some_fits : (store e v : ℕ) → e < 3 → loop_table mark store (from_of loop_links e) ≡ Some v → v ≤ 9
  some_fits store e v lt same =
      subst (λ x. IfSome x (suits (from_of loop_links e))) same
      (table_fits store (from_of loop_links e) (from_within e lt))

  pass_fits : (store : ℕ) → loop_pass mark store ≤ 9
  unfolding loop_pass
  pass_fits store =
      totals.total_fits levels (λ s. s ≤ 9) 0 loop_links (λ e v. v) (loop_table mark store) level_order level_join
      (λ s _. tt) (omega arith) (λ s _. omega arith) (λ s t p q. omega arith) (some_fits store) 3 (omega arith)

  pub loop_fitting : IsFitting {M = ℕ} levels 0 1 0 (λ t s. loop_pass mark s) (λ s. s ≤ 9)
  loop_fitting = record {
    marks_are = tt;
    value = λ s _. tt;
    bottom_fits = omega arith;
    passed_fits = λ t s _ _. pass_fits s;
    joined_fits = λ s t p q. omega arith;
    rounded_fits = λ s p. omega arith;
  }

  pub loop_bottom : IsBottom {M = ℕ} levels 0 0
  loop_bottom = record { below = λ s _. omega arith; rounding = refl }

  abbrev passing : passer.Ghosts ℕ ℕ ℕ
  passing = record {
    is_program = λ _. Unit {0};
    task_count = λ _. 1;
    marks_of = λ _. 0;
    least = λ _. 0;
    passed = λ m t s. loop_pass m s;
    fits = λ _ s. s ≤ 9;
  }

  pub loop_whole : whole.IsWholeLawful {C = Unit {0}} levels (λ t. 3) (λ t. loop_links)
      (λ t s e v. Some (raised_by s v))
      (λ _ t. Some 0) (λ t n. rounded_if (is_head n) mark) (λ t. is_head) (λ t. suits) (λ v. v) (λ t n. 9)
      (λ t s e v. v) levels passing mark (λ _ _. Unit {0}) (λ _. Unit {0}) tt (λ t s. loop_table mark s)
  unfolding loop_pass
  loop_whole = record {
    system = λ t s c lt fit begins. loop_lawful s;
    after_rises = λ t s s' e v lt fit fit' le within v-fits. omega arith;
    added_fits = λ t s e v lt fit within v-fits. v-fits;
    added_rises = λ t s s' e v w lt fit fit' le within v-fits w-fits le'. le';
    begins = tt;
    first = λ c begins. tt;
    entry_rises = λ c c' t lt begins begins' le. omega arith;
    least = λ t s lt fit. iterates.least_is_least levels suits (loop_system mark s) level_order level_join
        (loop_lawful s);
    passes = λ t s lt fit. record {
      fits = pass_fits s;
      holds = λ e v within same.
          totals.total_holds levels (λ x. x ≤ 9) 0 loop_links (λ e v. v) (loop_table mark s) level_order level_join
          (λ x _. tt) (omega arith) (λ x _. omega arith) (λ x y p q. omega arith) (some_fits s) 3 e v
          (omega arith) within same;
      least = λ bound b-fits each.
          totals.total_least levels (λ x. x ≤ 9) 0 loop_links (λ e v. v) (loop_table mark s) level_order level_join
          (λ x _. tt) (omega arith) (λ x _. omega arith) (λ x y p q. omega arith) (some_fits s) 3 bound
          (omega arith) b-fits
          (λ e v lt same. each e v lt same);
    };
  }

  pub loop_rises : IsMonotone {M = ℕ} levels 1 (λ t s. loop_pass mark s) (λ s. s ≤ 9)
  loop_rises =
      least.passes_rise {C = Unit {0}} levels (λ t. 3) (λ t. loop_links) (λ t s e v. Some (raised_by s v))
      (λ _ t. Some 0)
      (λ t n. rounded_if (is_head n) mark) (λ t. is_head) (λ t. suits) (λ v. v) (λ t n. 9) (λ t s e v. v)
      levels passing mark (λ _ _. Unit {0}) (λ _. Unit {0}) tt (λ t s. loop_table mark s)
      level_order level_join level_order level_join level_closure loop_fitting loop_bottom loop_whole
