-- Values with bottom that are there or are cut off.
use Rattle.std.proofs.Common.{◌≡◌, Bool, true, false, cond, Option, Some, None, IfSome, refl}
use Rattle.std.specs.Prelude.{is_some}
use Rattle.sparse_tables.specs.table_covers.tm_lattice.Tables.{IsBelow}
use Rattle.sparse_tables.specs.Fronts.{IsThere}

pub if_cond_option : {A : Type 0} (P : A → Type 0) (b : Bool) (y : Option A) → (b ≡ true → IfSome y P)
    → IfSome (cond b y None) P
if_cond_option P true y h = h refl
if_cond_option P false y h = tt

pub both_hold : {A : Type 0} (P Q : A → Type 0) (y : Option A) → IfSome y P → IfSome y Q → IfSome y (λ a. P a × Q a)
both_hold P Q None h k = tt
both_hold P Q (Some a) h k = (h, k)

pub first_of_both : {A : Type 0} (P Q : A → Type 0) (y : Option A) → IfSome y (λ a. P a × Q a) → IfSome y P
first_of_both P Q None h = tt
first_of_both P Q (Some a) h = h.0

pub is_there : {A : Type 0} (y : Option A) → IsThere y → is_some y ≡ true
is_there None h = absurd h
is_there (Some a) h = refl

pub uncut : {A : Type 0} (leq : A → A → Type 0) (b : Bool) (y z : Option A) → IsBelow leq y (cond b z None)
    → IsBelow leq y z
uncut leq true y z le = le
uncut leq false None z le = tt
uncut leq false (Some a) z le = absurd le

pub cut_below : {A : Type 0} (leq : A → A → Type 0) (b : Bool) (y z : Option A) → IsBelow leq y z
    → IsBelow leq (cond b y None) z
cut_below leq true y z le = le
cut_below leq false y z le = tt
