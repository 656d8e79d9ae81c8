-- What each body leaves open is what the runs of a program do.
use Rattle.std.proofs.Common.{◌≡◌, ◌↔◌, ◌⊎◌, ℕ, zero, suc, ◌<◌, ◌≤◌, [], ◌∷◌, get_or, ap, refl, arith, Result, Ok, Err}
use Rattle.std.proofs.Common.{IfOk, List, length, Option, Some, None, sym, subst, ◌∙◌}
use Rattle.std.specs.Prelude.{Contains, slice_get}
use Rattle.tm_laid.specs.Layouts.{LaidTree}
use Rattle.interfere_set.specs.Stores.{Interferences}
use Rattle.post_recheck.specs.transfer_rows.StateForms.{State}
use Rattle.post_recheck.specs.table_covers.Solutions.{NodeTable}
use Rattle.post_recheck.specs.program_equations.Programs.{ProgramBodies}
use Rattle.edge_origins.specs.declared.origins.BodyOrigins.{BodyOrigins}
use Rattle.text_choices.specs.declared.kinds.Choice.{Choice}
use Rattle.operand_orders.specs.Reached.{solved_body}
use Rattle.open_choices.specs.Choices.{IsOfBody, IsOfRuns}
use Rattle.open_choices.specs.reading.Noted.{IsOfNoted}
use Rattle.open_choices.specs.reading.Found.{IsOfNumber}

module _ (laid : LaidTree) (p : ProgramBodies) (tables : ℕ → NodeTable State) (store : Interferences)
    (origins : List BodyOrigins) where
  pub of_runs : (c : Choice) → IsOfNumber (IsOfNoted laid p tables store origins) (length p.bodies) c
      ↔ IsOfRuns laid p tables store origins c
  of_runs c = (
    λ h. record {
      body = h.number;
      is = h.below;
      noted = h.opens.noted;
      there = h.opens.there;
      opens = h.opens.opens;
    },
    λ h. record {
      number = h.body;
      below = h.is;
      opens = record { noted = h.noted; there = h.there; opens = h.opens };
    },
  )

  module _ (body : ℕ) where
    same_noted : (x y : BodyOrigins) → ◌≡◌ {A = Option BodyOrigins} (Some x) (Some y) → x ≡ y
    same_noted x y e = cc

    pub of_noted : (noted : BodyOrigins) → slice_get origins body ≡ Some noted → (c : Choice)
        → IsOfBody (solved_body laid p tables store body noted) c ↔ IsOfNoted laid p tables store origins body c
    of_noted noted there c = (
      λ h. record { noted = noted; there = there; opens = h },
      λ n. (let same = same_noted noted n.noted (sym there ∙ n.there) in
          subst (λ o. IsOfBody (solved_body laid p tables store body o) c) (sym same) n.opens),
    )

    not_both : (x : BodyOrigins) → ◌≡◌ {A = Option BodyOrigins} None (Some x) → ⊥
    not_both x e = cc

    pub none_noted : slice_get origins body ≡ None → (c : Choice) → IsOfNoted laid p tables store origins body c → ⊥
    none_noted none c h = not_both h.noted (sym none ∙ h.there)

-- what a list has at a number
pub read_there : {X : Type 0} (xs : List X) (n : ℕ) (x : X) → n < length xs → x ≡ get_or xs n x
    → slice_get xs n ≡ Some x
read_there {X} [] n x lt is = absurd (omega (arith, lt))
read_there {X} (y ∷ xs) zero x lt is = ap Some (sym is)
read_there {X} (y ∷ xs) (suc n) x lt is = read_there xs n x (omega (arith, lt)) is

pub read_none : {X : Type 0} (xs : List X) (n : ℕ) → length xs ≤ n → slice_get xs n ≡ None
read_none {X} [] n le = refl
read_none {X} (y ∷ xs) zero le = absurd (omega (arith, le))
read_none {X} (y ∷ xs) (suc n) le = read_none xs n (omega (arith, le))

-- what is put in order is what there was and what is added
pub in_order_all : (mid list : List Choice) (others runs : Choice → Type 0)
    → ((c : Choice) → Contains mid c ↔ (others c ⊎ runs c)) → ((c : Choice) → Contains list c ↔ Contains mid c)
    → (c : Choice) → Contains list c ↔ (others c ⊎ runs c)
in_order_all mid list others runs added same c =
    (λ h. (added c).0 ((same c).0 h), λ h. (same c).1 ((added c).1 h))

pub if_both : {X E : Type 0} (r : Result X E) (P Q R : X → Type 0) → ((x : X) → P x → Q x → R x) → IfOk r P → IfOk r Q
    → IfOk r R
if_both {X} {E} (Ok x) P Q R f p q = f x p q
if_both {X} {E} (Err e) P Q R f p q = p
