-- Conditions go by their forms.
use Rattle.std.proofs.Common.{◌≡◌, ℕ, ◌+◌, ◌<◌, refl, ap, sym, subst, ◌∙◌, true, false, Option, Some, None, Ok, Err, option_copied, arith, Bor}
use Rattle.std.specs.Prelude.{option_map}
use Rattle.tm_typed.specs.declared.expressions.Rvalue.{Rvalue}
use Rattle.tm_typed.specs.TypedTrees.{RvalueTree, a_constant, a_folded, a_null, a_load, an_address}
use Rattle.tm_typed.specs.TypedTrees.{a_structure}
use Rattle.tm_typed.specs.TypedTrees.{the_same, a_unary, a_binary, a_comparison_of_pointers, a_move, a_not}
use Rattle.tm_typed.specs.TypedTrees.{an_and}
use Rattle.tm_typed.specs.TypedTrees.{an_or, a_choice, an_assignment, a_compound, a_compound_move}
use Rattle.tm_typed.specs.TypedTrees.{a_unit_step}
use Rattle.tm_typed.specs.TypedTrees.{a_pointer_step, a_function_call, an_input_value, a_probe, a_comma}
use Rattle.tm_typed.specs.TypedTrees.{a_conversion}
use Rattle.tm_typed.specs.TypedTrees.{a_discard, rvalue_tree}
use Rattle.concrete_values.specs.declared.actions.Next.{Next}
use Rattle.task_interpreter.specs.declared.answers.Gave.{Gave}
use Rattle.task_interpreter.specs.reading.Direct.{Seat, run_then, tried, value_ran, branch_ran}
use Rattle.task_interpreter.specs.reading.Sizes.{rvalue_size}
use Rattle.task_interpreter.specs.reading.Lists.{form_in}
use Rattle.task_interpreter.proofs.Steps.{run_ok, run_err}

folded_by : (s : Seat) (t f : RvalueTree) (at : ℕ) → form_in t ≡ Some f → branch_ran s t at ≡ branch_ran s f at
folded_by s (a_folded z e) f at h = let same : e ≡ f = cc in ap (λ x. branch_ran s x at) same
folded_by s (a_constant t z p) f at h = absurd cc
folded_by s (a_null p) f at h = absurd cc
folded_by s (a_load c v l) f at h = absurd cc
folded_by s (an_address l p) f at h = absurd cc
folded_by s (a_structure l) f at h = absurd cc
folded_by s (the_same e p) f at h = absurd cc
folded_by s (a_unary o t e p) f at h = absurd cc
folded_by s (a_binary o t l r p) f at h = absurd cc
folded_by s (a_comparison_of_pointers q l r p) f at h = absurd cc
folded_by s (a_move m c b e i p) f at h = absurd cc
folded_by s (a_not e p) f at h = absurd cc
folded_by s (an_and l r p) f at h = absurd cc
folded_by s (an_or l r p) f at h = absurd cc
folded_by s (a_choice c x y p) f at h = absurd cc
folded_by s (an_assignment c l e p) f at h = absurd cc
folded_by s (a_compound o c t v l e p) f at h = absurd cc
folded_by s (a_compound_move m c k l e p) f at h = absurd cc
folded_by s (a_unit_step k c t v l p) f at h = absurd cc
folded_by s (a_pointer_step k c d l p) f at h = absurd cc
folded_by s (a_function_call g k es p) f at h = absurd cc
folded_by s (an_input_value low high p) f at h = absurd cc
folded_by s (a_probe m p) f at h = absurd cc
folded_by s (a_comma l r p) f at h = absurd cc
folded_by s (a_conversion t u e p) f at h = absurd cc
folded_by s (a_discard e p) f at h = absurd cc

plain_by : (s : Seat) (t : RvalueTree) (at : ℕ) → form_in t ≡ None → branch_ran s t at ≡ run_then (value_ran s t at) (tried s.laid s.answers t)
plain_by s (a_folded z e) at h = absurd cc
plain_by s (a_constant t z p) at h = refl
plain_by s (a_null p) at h = refl
plain_by s (a_load c v l) at h = refl
plain_by s (an_address l p) at h = refl
plain_by s (a_structure l) at h = refl
plain_by s (the_same e p) at h = refl
plain_by s (a_unary o t e p) at h = refl
plain_by s (a_binary o t l r p) at h = refl
plain_by s (a_comparison_of_pointers q l r p) at h = refl
plain_by s (a_move m c true e i p) at h = refl
plain_by s (a_move m c false e i p) at h = refl
plain_by s (a_not e p) at h = refl
plain_by s (an_and l r p) at h = refl
plain_by s (an_or l r p) at h = refl
plain_by s (a_choice c x y p) at h = refl
plain_by s (an_assignment c l e p) at h = refl
plain_by s (a_compound o c t v l e p) at h = refl
plain_by s (a_compound_move m c k l e p) at h = refl
plain_by s (a_unit_step k c t v l p) at h = refl
plain_by s (a_pointer_step k c d l p) at h = refl
plain_by s (a_function_call g k es p) at h = refl
plain_by s (an_input_value low high p) at h = refl
plain_by s (a_probe m p) at h = refl
plain_by s (a_comma l r p) at h = refl
plain_by s (a_conversion t u e p) at h = refl
plain_by s (a_discard e p) at h = refl

size_by : (t f : RvalueTree) → form_in t ≡ Some f → rvalue_size f < rvalue_size t
size_by (a_folded z e) f h = let same : e ≡ f = cc in subst (λ x. rvalue_size x < 4 + rvalue_size e) same (omega arith)
size_by (a_constant t z p) f h = absurd cc
size_by (a_null p) f h = absurd cc
size_by (a_load c v l) f h = absurd cc
size_by (an_address l p) f h = absurd cc
size_by (a_structure l) f h = absurd cc
size_by (the_same e p) f h = absurd cc
size_by (a_unary o t e p) f h = absurd cc
size_by (a_binary o t l r p) f h = absurd cc
size_by (a_comparison_of_pointers q l r p) f h = absurd cc
size_by (a_move m c b e i p) f h = absurd cc
size_by (a_not e p) f h = absurd cc
size_by (an_and l r p) f h = absurd cc
size_by (an_or l r p) f h = absurd cc
size_by (a_choice c x y p) f h = absurd cc
size_by (an_assignment c l e p) f h = absurd cc
size_by (a_compound o c t v l e p) f h = absurd cc
size_by (a_compound_move m c k l e p) f h = absurd cc
size_by (a_unit_step k c t v l p) f h = absurd cc
size_by (a_pointer_step k c d l p) f h = absurd cc
size_by (a_function_call g k es p) f h = absurd cc
size_by (an_input_value low high p) f h = absurd cc
size_by (a_probe m p) f h = absurd cc
size_by (a_comma l r p) f h = absurd cc
size_by (a_conversion t u e p) f h = absurd cc
size_by (a_discard e p) f h = absurd cc

module _ (e : Rvalue) (found : Option (Bor Rvalue)) (is : option_map rvalue_tree (option_copied found) ≡ form_in (rvalue_tree e)) where
  pub folded_branch : (s : Seat) (f : Bor Rvalue) (at : ℕ) → found ≡ Some f → branch_ran s (rvalue_tree e) at ≡ branch_ran s (rvalue_tree f.now) at
  folded_branch s f at h = folded_by s (rvalue_tree e) (rvalue_tree f.now) at (sym is ∙ ap (λ o. option_map rvalue_tree (option_copied o)) h)

  pub form_below : (f : Bor Rvalue) → found ≡ Some f → rvalue_size (rvalue_tree f.now) < rvalue_size (rvalue_tree e)
  form_below f h = size_by (rvalue_tree e) (rvalue_tree f.now) (sym is ∙ ap (λ o. option_map rvalue_tree (option_copied o)) h)

  plain_branch : (s : Seat) (at : ℕ) → found ≡ None → branch_ran s (rvalue_tree e) at ≡ run_then (value_ran s (rvalue_tree e) at) (tried s.laid s.answers (rvalue_tree e))
  plain_branch s at h = plain_by s (rvalue_tree e) at (sym is ∙ ap (λ o. option_map rvalue_tree (option_copied o)) h)

  pub branch_ok : (s : Seat) (at : ℕ) (g : Gave) → found ≡ None → value_ran s (rvalue_tree e) at ≡ Ok g
      → branch_ran s (rvalue_tree e) at ≡ tried s.laid s.answers (rvalue_tree e) g.value g.at
  branch_ok s at g h k = plain_branch s at h ∙ run_ok (value_ran s (rvalue_tree e) at) g (tried s.laid s.answers (rvalue_tree e)) k

  pub branch_err : (s : Seat) (at : ℕ) (n : Next) → found ≡ None → value_ran s (rvalue_tree e) at ≡ Err n → branch_ran s (rvalue_tree e) at ≡ Err n
  branch_err s at n h k = plain_branch s at h ∙ run_err (value_ran s (rvalue_tree e) at) n (tried s.laid s.answers (rvalue_tree e)) k
