-- Expressions whose parts are built, one after the other.
use Rattle.std.proofs.Common.{◌≡◌, ℕ, ap, subst, ◌∙◌}
use Rattle.std.specs.Prelude.{Bool, Result, IfOk}
use Rattle.tm_lattice.specs.declared.memory.NoMemory.{NoMemory}
use Rattle.tm_typed.specs.declared.types.Scalar.{Scalar}
use Rattle.tm_typed.specs.declared.expressions.Rvalue.{Rvalue}
use Rattle.tm_typed.specs.declared.expressions.Lvalue.{Lvalue}
use Rattle.tm_typed.specs.TypedTrees.{rvalue_tree, lvalue_tree}
use Rattle.tm_laid.specs.Layouts.{LaidTree}
use Rattle.lowering.specs.Built.{Building}
use Rattle.body_builder.specs.declared.expressions.Held.{Held}
use Rattle.body_builder.specs.declared.fragments.Wanted.{Wanted}
use Rattle.body_builder.specs.declared.fragments.Found.{Found}
use Rattle.body_builder.specs.reading.Expressions.{value_at, address_at, Holds}
use Rattle.body_builder.specs.Placing.{Outcome, Given, Finds, Gives}

-- another outcome that is the same
pub found_as : (y z : Outcome) (n : Building) (r : Result Found NoMemory) → y ≡ z → IfOk r (λ x. Finds y n x)
    → IfOk r (λ x. Finds z n x)
found_as y z n r e h = subst (λ (u : Outcome). IfOk r (λ x. Finds u n x)) e h

pub given_as : (y z : Given) (n : Building) (r : Result ℕ NoMemory) → y ≡ z → IfOk r (λ t. Gives y n t)
    → IfOk r (λ t. Gives z n t)
given_as y z n r e h = subst (λ (u : Given). IfOk r (λ t. Gives u n t)) e h

pub same_two : {A B C : Type 0} (k : A → B → C) {a a' : A} {b b' : B} → a ≡ a' → b ≡ b' → k a b ≡ k a' b'
same_two k {a} {a'} {b} {b'} e f = ap (λ x. k x b) e ∙ ap (λ y. k a' y) f

pub same_three : {A B C D : Type 0} (k : A → B → C → D) {a a' : A} {b b' : B} {c c' : C}
    → a ≡ a' → b ≡ b' → c ≡ c' → k a b c ≡ k a' b' c'
same_three k {a} {a'} {b} {b'} {c} {c'} e f g = ap (λ x. k x b c) e ∙ same_two (k a') f g

pub same_four : {A B C D E : Type 0} (k : A → B → C → D → E) {a a' : A} {b b' : B} {c c' : C} {d d' : D}
    → a ≡ a' → b ≡ b' → c ≡ c' → d ≡ d' → k a b c d ≡ k a' b' c' d'
same_four k {a} {a'} {b} {b'} {c} {c'} {d} {d'} e f g h = ap (λ x. k x b c d) e ∙ same_three (k a') f g h

pub same_five : {A B C D E F : Type 0} (k : A → B → C → D → E → F) {a a' : A} {b b' : B} {c c' : C} {d d' : D}
    {e e' : E} → a ≡ a' → b ≡ b' → c ≡ c' → d ≡ d' → e ≡ e' → k a b c d e ≡ k a' b' c' d' e'
same_five k {a} {a'} {b} {b'} {c} {c'} {d} {d'} {e} {e'} x f g h i =
    ap (λ z. k z b c d e) x ∙ same_four (k a') f g h i

pub same_six : {A B C D E F G : Type 0} (k : A → B → C → D → E → F → G) {a a' : A} {b b' : B} {c c' : C} {d d' : D}
    {e e' : E} {f f' : F} → a ≡ a' → b ≡ b' → c ≡ c' → d ≡ d' → e ≡ e' → f ≡ f'
    → k a b c d e f ≡ k a' b' c' d' e' f'
same_six k {a} {a'} {b} {b'} {c} {c'} {d} {d'} {e} {e'} {f} {f'} x g h i j l =
    ap (λ z. k z b c d e f) x ∙ same_five (k a') g h i j l

module _ (laid : LaidTree) (depth path : ℕ) where
  -- the value of the same expression behind the same edges
  pub value_as : (d l : Rvalue) (w : Wanted) (b b' n : Building) (x : Found) → d ≡ l → b ≡ b'
      → Finds (value_at laid depth path (rvalue_tree d) w b) n x
      → Finds (value_at laid depth path (rvalue_tree l) w b') n x
  value_as d l w b b' n x e f h =
      subst (λ (z : Rvalue). Finds (value_at laid depth path (rvalue_tree z) w b') n x) e
      (subst (λ (z : Building). Finds (value_at laid depth path (rvalue_tree d) w z) n x) f h)

  pub address_as : (d l : Lvalue) (b b' n : Building) (t : ℕ) → d ≡ l → b ≡ b'
      → Gives (address_at laid depth path (lvalue_tree d) b) n t
      → Gives (address_at laid depth path (lvalue_tree l) b') n t
  address_as d l b b' n t e f h =
      subst (λ (z : Lvalue). Gives (address_at laid depth path (lvalue_tree z) b') n t) e
      (subst (λ (z : Building). Gives (address_at laid depth path (lvalue_tree d) z) n t) f h)

  pub held_as : (volatile : Bool) (s : Scalar) (d l : Lvalue) (b n : Building) (x : Held) → d ≡ l
      → Holds laid depth path volatile s (lvalue_tree d) b n x → Holds laid depth path volatile s (lvalue_tree l) b n x
  held_as volatile s d l b n x e h =
      subst (λ (z : Lvalue). Holds laid depth path volatile s (lvalue_tree z) b n x) e h
