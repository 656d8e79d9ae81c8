-- Moves by the steps of a set.
use Rattle.std.proofs.Common.{◌≡◌, ◌↔◌, ℕ, sym, ap, subst, ◌∙◌, Option, Some, None, Bool, not}
use Rattle.strided_dom.specs.Progression.{Progression, Has, IsExactly}
use Rattle.strided_dom.specs.Combinations.{IsProduct}
use Rattle.pointer_dom.specs.PointerSets.{Pointers}
use Rattle.pointer_dom.specs.Advances.{directed}
use Rattle.post_recheck.specs.transfer_rows.StateForms.{State, value_of}
use Rattle.path_origins.specs.declared.origins.Form.{Form}
use Rattle.path_origins.specs.declared.origins.Form.TheVariants as Forms
use Rattle.operand_orders.specs.Reached.{SolvedBody, origin_at}
use Rattle.open_choices.specs.reading.Found.{target_of, IsStep, MovesAway, IsMovedAway}

same_some : (x y : ℕ) → ◌≡◌ {A = Option ℕ} (Some x) (Some y) → x ≡ y
same_some x y e = cc

none_some : (y : ℕ) → ◌≡◌ {A = Option ℕ} None (Some y) → ⊥
none_some y e = cc

moved_form : (form : Form) (target : ℕ) → target_of form ≡ Some target → form ≡ Forms.Move target
moved_form (Forms.Move other) target e = ap Forms.Move (same_some other target e)
moved_form form target e = absurd (none_some target e)

module _ (b : SolvedBody) (edge : ℕ) (s : State) (source cells : ℕ) (minus : Bool) (by target : ℕ)
    (form : target_of (let o = origin_at b edge in o.form) ≡ Some target) (p : Pointers)
    (p-is : p ≡ (let v = value_of s source in v.pointers)) (steps : Progression)
    (exact : IsExactly (IsStep s cells minus by) steps) where
  to_steps : (q : Pointers) → MovesAway b target q (Has steps) → MovesAway b target q (IsStep s cells minus by)
  to_steps q h =
      let inside = h.leaves in
      let away = inside.leaves in record {
        object = h.object;
        leaves = record {
          offset = inside.offset;
          has = inside.has;
          leaves = record {
            array = away.array;
            is = away.is;
            leaves = record {
              step = away.leaves.step;
              by = exact.sound away.leaves.step away.leaves.by;
              leaves = away.leaves.leaves;
            };
          };
        };
      }

  from_steps : (q : Pointers) → MovesAway b target q (IsStep s cells minus by) → MovesAway b target q (Has steps)
  from_steps q h =
      let inside = h.leaves in
      let away = inside.leaves in record {
        object = h.object;
        leaves = record {
          offset = inside.offset;
          has = inside.has;
          leaves = record {
            array = away.array;
            is = away.is;
            leaves = record {
              step = away.leaves.step;
              by = exact.complete away.leaves.step away.leaves.by;
              leaves = away.leaves.leaves;
            };
          };
        };
      }

  pub away : MovesAway b target p (Has steps) ↔ IsMovedAway b edge s source cells minus by
  away = (
    λ h. record {
      target = target;
      form = moved_form (let o = origin_at b edge in o.form) target form;
      moves = to_steps (let v = value_of s source in v.pointers)
          (subst (λ q. MovesAway b target q (Has steps)) p-is h);
    },
    λ m. (let same = same_some m.target target (sym (ap target_of m.form) ∙ form) in
        subst (λ q. MovesAway b target q (Has steps)) (sym p-is) (from_steps (let v = value_of s source in v.pointers)
        (subst (λ t. MovesAway b t (let v = value_of s source in v.pointers) (IsStep s cells minus by)) same m.moves))),
  )
