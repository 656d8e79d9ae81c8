-- Steps by one: what is built of their parts does what the interpreter does there.
use Rattle.std.proofs.Common.{◌≡◌, ℕ, ◌<◌, Bool, true, false, pos, refl, ◌∙◌, arith}
use Rattle.std.specs.Prelude.{if◌then◌else◌, Some, None}
use Rattle.concrete_steps.specs.tm_cint.declared.int_types.IntType.{IntType}
use Rattle.concrete_steps.specs.tm_cint.declared.int_types.IntType.TheVariants as Ints
use Rattle.concrete_steps.specs.tm_cint.Conversions.{represents_all}
use Rattle.concrete_steps.specs.tm_terms.declared.places.Place.{Place}
use Rattle.concrete_steps.specs.tm_typed.declared.types.Scalar.TheVariants as Scalars
use Rattle.concrete_steps.specs.tm_typed.declared.expressions.Step.{Step as StepBy}
use Rattle.concrete_steps.specs.tm_laid.Layouts.{LaidTree}
use Rattle.concrete_steps.specs.concrete_values.declared.values.Value.{Value}
use Rattle.concrete_steps.specs.concrete_values.declared.values.Value.TheVariants.{Number}
use Rattle.concrete_steps.specs.concrete_values.Operators.{binary}
use Rattle.concrete_steps.specs.concrete_values.Pointers.{moved}
use Rattle.concrete_steps.specs.concrete_values.Actions.{load_at, store_at}
use Rattle.concrete_steps.specs.NextAction.{After, act_then}
use Rattle.concrete_steps.specs.NextAction.{step_operator, step_value}
use Rattle.flow_graph.specs.Operations.{given_by}
use Rattle.flow_graph.specs.declared.operations.Into.{Into}
use Rattle.flow_graph.specs.declared.operations.Operation.TheVariants as Op
use Rattle.lowering.specs.Steps.{operate, Code}
use Rattle.lowering.specs.Table.{conversion}
use Rattle.lowering.specs.Table.{unit_step_with}
use Rattle.lowering.specs.Table.{unit_step_code, moved_code, call_has_value}
use Rattle.lowering.proofs.Meaning.{doing_then, Calls, code_then}
use Rattle.lowering.proofs.Scopes.{HasResult}
use Rattle.lowering.proofs.Scopes.{CodeInScope as CodeScope}
use Rattle.lowering.proofs.Calculations.{applied, applied_conversion, one_converted}

module _ (laid : LaidTree) (path : ℕ) (call : Calls) where
  abbrev CodeInScope : Code → Type 0
  CodeInScope c = CodeScope (call_has_value laid path) c

  pub unit_step_then : (s : StepBy) (cell of : IntType) (volatile : Bool) (i : Into) (lp p : Place) (a : Code)
      (k : Value → After)
      → code_then laid call (unit_step_code s cell of volatile i lp p a) k
      ≡ code_then laid call a (λ z. act_then laid (load_at z (Scalars.Int cell) volatile lp) (λ x.
      doing_then laid (given_by p (binary (step_operator s) of (applied (conversion cell of) x)
      (applied (conversion Ints.Int of) (Number (pos 1))))) (λ v.
      act_then laid (store_at z (Scalars.Int cell) (applied (conversion of cell) v) p)
      (λ u. k (step_value s x (applied (conversion of cell) v))))))
  unit_step_then s cell of volatile i lp p a k = by_case volatile (represents_all of cell) (represents_all of Ints.Int)
      (represents_all cell of) s.postfix
    where
      by_case : (volatile : Bool) (b d f g : Bool) → code_then laid call
          (unit_step_with (if b then None else Some (cell, of)) (if d then None else Some (Ints.Int, of))
          (if f then None else Some (of, cell)) (step_operator s) g cell of volatile i lp p a) k
          ≡ code_then laid call a (λ z. act_then laid (load_at z (Scalars.Int cell) volatile lp) (λ x.
          doing_then laid (given_by p (binary (step_operator s) of (applied (if b then None else Some (cell, of)) x)
          (applied (if d then None else Some (Ints.Int, of)) (Number (pos 1))))) (λ v.
          act_then laid (store_at z (Scalars.Int cell) (applied (if f then None else Some (of, cell)) v) p)
          (λ u. k (if g then x else applied (if f then None else Some (of, cell)) v)))))
      by_case true true true true true = refl
      by_case true true true true false = refl
      by_case true true true false true = refl
      by_case true true true false false = refl
      by_case true true false true true = refl
      by_case true true false true false = refl
      by_case true true false false true = refl
      by_case true true false false false = refl
      by_case true false true true true = refl
      by_case true false true true false = refl
      by_case true false true false true = refl
      by_case true false true false false = refl
      by_case true false false true true = refl
      by_case true false false true false = refl
      by_case true false false false true = refl
      by_case true false false false false = refl
      by_case false true true true true = refl
      by_case false true true true false = refl
      by_case false true true false true = refl
      by_case false true true false false = refl
      by_case false true false true true = refl
      by_case false true false true false = refl
      by_case false true false false true = refl
      by_case false true false false false = refl
      by_case false false true true true = refl
      by_case false false true true false = refl
      by_case false false true false true = refl
      by_case false false true false false = refl
      by_case false false false true true = refl
      by_case false false false true false = refl
      by_case false false false false true = refl
      by_case false false false false false = refl

  pub unit_step_scope : (s : StepBy) (cell of : IntType) (volatile : Bool) (i : Into) (lp p : Place) (a : Code)
      → CodeInScope a → HasResult a
      → CodeInScope (unit_step_code s cell of volatile i lp p a)
  unit_step_scope s cell of volatile i lp p a sa ha = by_case volatile (represents_all of cell)
      (represents_all of Ints.Int) (represents_all cell of) s.postfix
    where
      by_case : (volatile : Bool) (b d f g : Bool)
          → CodeInScope (unit_step_with (if b then None else Some (cell, of)) (if d then None else Some (Ints.Int, of))
          (if f then None else Some (of, cell)) (step_operator s) g cell of volatile i lp p a)
      by_case true true true true true = (
        (
          (sa, ha),
          (
            ((omega arith, tt), tt),
            ((tt, tt), (((omega arith, (omega arith, tt)), tt), (((omega arith, (omega arith, tt)), tt), tt))),
          ),
        ),
        omega arith,
      )
      by_case true true true true false = (
        (
          (sa, ha),
          (
            ((omega arith, tt), tt),
            ((tt, tt), (((omega arith, (omega arith, tt)), tt), (((omega arith, (omega arith, tt)), tt), tt))),
          ),
        ),
        omega arith,
      )
      by_case true true true false true = (
        (
          (sa, ha),
          (
            ((omega arith, tt), tt),
            (
              (tt, tt),
              (
                ((omega arith, (omega arith, tt)), tt),
                (((omega arith, tt), tt), (((omega arith, (omega arith, tt)), tt), tt)),
              ),
            ),
          ),
        ),
        omega arith,
      )
      by_case true true true false false = (
        (
          (sa, ha),
          (
            ((omega arith, tt), tt),
            (
              (tt, tt),
              (
                ((omega arith, (omega arith, tt)), tt),
                (((omega arith, tt), tt), (((omega arith, (omega arith, tt)), tt), tt)),
              ),
            ),
          ),
        ),
        omega arith,
      )
      by_case true true false true true = (
        (
          (sa, ha),
          (
            ((omega arith, tt), tt),
            (
              (tt, tt),
              (
                ((omega arith, tt), tt),
                (((omega arith, (omega arith, tt)), tt), (((omega arith, (omega arith, tt)), tt), tt)),
              ),
            ),
          ),
        ),
        omega arith,
      )
      by_case true true false true false = (
        (
          (sa, ha),
          (
            ((omega arith, tt), tt),
            (
              (tt, tt),
              (
                ((omega arith, tt), tt),
                (((omega arith, (omega arith, tt)), tt), (((omega arith, (omega arith, tt)), tt), tt)),
              ),
            ),
          ),
        ),
        omega arith,
      )
      by_case true true false false true = (
        (
          (sa, ha),
          (
            ((omega arith, tt), tt),
            (
              (tt, tt),
              (
                ((omega arith, tt), tt),
                (
                  ((omega arith, (omega arith, tt)), tt),
                  (((omega arith, tt), tt), (((omega arith, (omega arith, tt)), tt), tt)),
                ),
              ),
            ),
          ),
        ),
        omega arith,
      )
      by_case true true false false false = (
        (
          (sa, ha),
          (
            ((omega arith, tt), tt),
            (
              (tt, tt),
              (
                ((omega arith, tt), tt),
                (
                  ((omega arith, (omega arith, tt)), tt),
                  (((omega arith, tt), tt), (((omega arith, (omega arith, tt)), tt), tt)),
                ),
              ),
            ),
          ),
        ),
        omega arith,
      )
      by_case true false true true true = (
        (
          (sa, ha),
          (
            ((omega arith, tt), tt),
            (
              (tt, tt),
              (
                ((omega arith, tt), tt),
                (((omega arith, (omega arith, tt)), tt), (((omega arith, (omega arith, tt)), tt), tt)),
              ),
            ),
          ),
        ),
        omega arith,
      )
      by_case true false true true false = (
        (
          (sa, ha),
          (
            ((omega arith, tt), tt),
            (
              (tt, tt),
              (
                ((omega arith, tt), tt),
                (((omega arith, (omega arith, tt)), tt), (((omega arith, (omega arith, tt)), tt), tt)),
              ),
            ),
          ),
        ),
        omega arith,
      )
      by_case true false true false true = (
        (
          (sa, ha),
          (
            ((omega arith, tt), tt),
            (
              (tt, tt),
              (
                ((omega arith, tt), tt),
                (
                  ((omega arith, (omega arith, tt)), tt),
                  (((omega arith, tt), tt), (((omega arith, (omega arith, tt)), tt), tt)),
                ),
              ),
            ),
          ),
        ),
        omega arith,
      )
      by_case true false true false false = (
        (
          (sa, ha),
          (
            ((omega arith, tt), tt),
            (
              (tt, tt),
              (
                ((omega arith, tt), tt),
                (
                  ((omega arith, (omega arith, tt)), tt),
                  (((omega arith, tt), tt), (((omega arith, (omega arith, tt)), tt), tt)),
                ),
              ),
            ),
          ),
        ),
        omega arith,
      )
      by_case true false false true true = (
        (
          (sa, ha),
          (
            ((omega arith, tt), tt),
            (
              (tt, tt),
              (
                ((omega arith, tt), tt),
                (
                  ((omega arith, tt), tt),
                  (
                    ((omega arith, (omega arith, tt)), tt),
                    (((omega arith, (omega arith, tt)), tt), tt),
                  ),
                ),
              ),
            ),
          ),
        ),
        omega arith,
      )
      by_case true false false true false = (
        (
          (sa, ha),
          (
            ((omega arith, tt), tt),
            (
              (tt, tt),
              (
                ((omega arith, tt), tt),
                (
                  ((omega arith, tt), tt),
                  (
                    ((omega arith, (omega arith, tt)), tt),
                    (((omega arith, (omega arith, tt)), tt), tt),
                  ),
                ),
              ),
            ),
          ),
        ),
        omega arith,
      )
      by_case true false false false true = (
        (
          (sa, ha),
          (
            ((omega arith, tt), tt),
            (
              (tt, tt),
              (
                ((omega arith, tt), tt),
                (
                  ((omega arith, tt), tt),
                  (
                    ((omega arith, (omega arith, tt)), tt),
                    (((omega arith, tt), tt), (((omega arith, (omega arith, tt)), tt), tt)),
                  ),
                ),
              ),
            ),
          ),
        ),
        omega arith,
      )
      by_case true false false false false = (
        (
          (sa, ha),
          (
            ((omega arith, tt), tt),
            (
              (tt, tt),
              (
                ((omega arith, tt), tt),
                (
                  ((omega arith, tt), tt),
                  (
                    ((omega arith, (omega arith, tt)), tt),
                    (((omega arith, tt), tt), (((omega arith, (omega arith, tt)), tt), tt)),
                  ),
                ),
              ),
            ),
          ),
        ),
        omega arith,
      )
      by_case false true true true true = (
        (
          (sa, ha),
          (
            ((omega arith, tt), tt),
            ((tt, tt), (((omega arith, (omega arith, tt)), tt), (((omega arith, (omega arith, tt)), tt), tt))),
          ),
        ),
        omega arith,
      )
      by_case false true true true false = (
        (
          (sa, ha),
          (
            ((omega arith, tt), tt),
            ((tt, tt), (((omega arith, (omega arith, tt)), tt), (((omega arith, (omega arith, tt)), tt), tt))),
          ),
        ),
        omega arith,
      )
      by_case false true true false true = (
        (
          (sa, ha),
          (
            ((omega arith, tt), tt),
            (
              (tt, tt),
              (
                ((omega arith, (omega arith, tt)), tt),
                (((omega arith, tt), tt), (((omega arith, (omega arith, tt)), tt), tt)),
              ),
            ),
          ),
        ),
        omega arith,
      )
      by_case false true true false false = (
        (
          (sa, ha),
          (
            ((omega arith, tt), tt),
            (
              (tt, tt),
              (
                ((omega arith, (omega arith, tt)), tt),
                (((omega arith, tt), tt), (((omega arith, (omega arith, tt)), tt), tt)),
              ),
            ),
          ),
        ),
        omega arith,
      )
      by_case false true false true true = (
        (
          (sa, ha),
          (
            ((omega arith, tt), tt),
            (
              (tt, tt),
              (
                ((omega arith, tt), tt),
                (((omega arith, (omega arith, tt)), tt), (((omega arith, (omega arith, tt)), tt), tt)),
              ),
            ),
          ),
        ),
        omega arith,
      )
      by_case false true false true false = (
        (
          (sa, ha),
          (
            ((omega arith, tt), tt),
            (
              (tt, tt),
              (
                ((omega arith, tt), tt),
                (((omega arith, (omega arith, tt)), tt), (((omega arith, (omega arith, tt)), tt), tt)),
              ),
            ),
          ),
        ),
        omega arith,
      )
      by_case false true false false true = (
        (
          (sa, ha),
          (
            ((omega arith, tt), tt),
            (
              (tt, tt),
              (
                ((omega arith, tt), tt),
                (
                  ((omega arith, (omega arith, tt)), tt),
                  (((omega arith, tt), tt), (((omega arith, (omega arith, tt)), tt), tt)),
                ),
              ),
            ),
          ),
        ),
        omega arith,
      )
      by_case false true false false false = (
        (
          (sa, ha),
          (
            ((omega arith, tt), tt),
            (
              (tt, tt),
              (
                ((omega arith, tt), tt),
                (
                  ((omega arith, (omega arith, tt)), tt),
                  (((omega arith, tt), tt), (((omega arith, (omega arith, tt)), tt), tt)),
                ),
              ),
            ),
          ),
        ),
        omega arith,
      )
      by_case false false true true true = (
        (
          (sa, ha),
          (
            ((omega arith, tt), tt),
            (
              (tt, tt),
              (
                ((omega arith, tt), tt),
                (((omega arith, (omega arith, tt)), tt), (((omega arith, (omega arith, tt)), tt), tt)),
              ),
            ),
          ),
        ),
        omega arith,
      )
      by_case false false true true false = (
        (
          (sa, ha),
          (
            ((omega arith, tt), tt),
            (
              (tt, tt),
              (
                ((omega arith, tt), tt),
                (((omega arith, (omega arith, tt)), tt), (((omega arith, (omega arith, tt)), tt), tt)),
              ),
            ),
          ),
        ),
        omega arith,
      )
      by_case false false true false true = (
        (
          (sa, ha),
          (
            ((omega arith, tt), tt),
            (
              (tt, tt),
              (
                ((omega arith, tt), tt),
                (
                  ((omega arith, (omega arith, tt)), tt),
                  (((omega arith, tt), tt), (((omega arith, (omega arith, tt)), tt), tt)),
                ),
              ),
            ),
          ),
        ),
        omega arith,
      )
      by_case false false true false false = (
        (
          (sa, ha),
          (
            ((omega arith, tt), tt),
            (
              (tt, tt),
              (
                ((omega arith, tt), tt),
                (
                  ((omega arith, (omega arith, tt)), tt),
                  (((omega arith, tt), tt), (((omega arith, (omega arith, tt)), tt), tt)),
                ),
              ),
            ),
          ),
        ),
        omega arith,
      )
      by_case false false false true true = (
        (
          (sa, ha),
          (
            ((omega arith, tt), tt),
            (
              (tt, tt),
              (
                ((omega arith, tt), tt),
                (
                  ((omega arith, tt), tt),
                  (
                    ((omega arith, (omega arith, tt)), tt),
                    (((omega arith, (omega arith, tt)), tt), tt),
                  ),
                ),
              ),
            ),
          ),
        ),
        omega arith,
      )
      by_case false false false true false = (
        (
          (sa, ha),
          (
            ((omega arith, tt), tt),
            (
              (tt, tt),
              (
                ((omega arith, tt), tt),
                (
                  ((omega arith, tt), tt),
                  (
                    ((omega arith, (omega arith, tt)), tt),
                    (((omega arith, (omega arith, tt)), tt), tt),
                  ),
                ),
              ),
            ),
          ),
        ),
        omega arith,
      )
      by_case false false false false true = (
        (
          (sa, ha),
          (
            ((omega arith, tt), tt),
            (
              (tt, tt),
              (
                ((omega arith, tt), tt),
                (
                  ((omega arith, tt), tt),
                  (
                    ((omega arith, (omega arith, tt)), tt),
                    (((omega arith, tt), tt), (((omega arith, (omega arith, tt)), tt), tt)),
                  ),
                ),
              ),
            ),
          ),
        ),
        omega arith,
      )
      by_case false false false false false = (
        (
          (sa, ha),
          (
            ((omega arith, tt), tt),
            (
              (tt, tt),
              (
                ((omega arith, tt), tt),
                (
                  ((omega arith, tt), tt),
                  (
                    ((omega arith, (omega arith, tt)), tt),
                    (((omega arith, tt), tt), (((omega arith, (omega arith, tt)), tt), tt)),
                  ),
                ),
              ),
            ),
          ),
        ),
        omega arith,
      )

  -- the number 1 in any type
  pub one_stays : (of : IntType) → applied (conversion Ints.Int of) (Number (pos 1)) ≡ Number (pos 1)
  one_stays of = applied_conversion Ints.Int of (Number (pos 1)) ∙ one_converted of

  pub pointer_step_then : (s : StepBy) (cells class : ℕ) (i : Into) (lp p : Place) (a : Code) (k : Value → After)
      → code_then laid call (moved_code s.minus cells class i lp p a (operate (Op.Const 0 (Number (pos 1))))
      (if s.postfix then 1 else 3)) k
      ≡ code_then laid call a (λ z. act_then laid (load_at z (Scalars.Pointer class) false lp) (λ x.
      doing_then laid (given_by p (moved laid s.minus cells x (Number (pos 1))))
      (λ v. act_then laid (store_at z (Scalars.Pointer class) v p) (λ u. k (step_value s x v)))))
  pointer_step_then s cells class i lp p a k = by_case s.postfix
    where
      by_case : (g : Bool) → code_then laid call
          (moved_code s.minus cells class i lp p a (operate (Op.Const 0 (Number (pos 1)))) (if g then 1 else 3)) k
          ≡ code_then laid call a (λ z. act_then laid (load_at z (Scalars.Pointer class) false lp) (λ x.
          doing_then laid (given_by p (moved laid s.minus cells x (Number (pos 1))))
          (λ v. act_then laid (store_at z (Scalars.Pointer class) v p) (λ u. k (if g then x else v)))))
      by_case true = refl
      by_case false = refl

  pub pointer_step_scope : (s : StepBy) (cells class : ℕ) (i : Into) (lp p : Place) (a : Code) → CodeInScope a
      → HasResult a
      → CodeInScope (moved_code s.minus cells class i lp p a (operate (Op.Const 0 (Number (pos 1))))
      (if s.postfix then 1 else 3))
  pointer_step_scope s cells class i lp p a sa ha = (
    (
      (sa, ha),
      (
        ((omega arith, tt), tt),
        ((tt, tt), (((omega arith, (omega arith, tt)), tt), (((omega arith, (omega arith, tt)), tt), tt))),
      ),
    ),
    by_case s.postfix,
  )
    where
      by_case : (g : Bool) → (if g then 1 else 3) < 4
      by_case true = omega arith
      by_case false = omega arith
