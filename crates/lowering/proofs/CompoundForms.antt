-- Compound assignments: what is built of their parts does what the interpreter does there.
use Rattle.std.proofs.Common.{◌≡◌, ℕ, Bool, true, false, refl, ap, arith}
use Rattle.std.specs.Prelude.{if◌then◌else◌, Result, Ok, Err, Some, None}
use Rattle.concrete_steps.specs.tm_cint.declared.Class.{Class}
use Rattle.concrete_steps.specs.tm_cint.declared.int_types.IntType.{IntType}
use Rattle.concrete_steps.specs.tm_cint.declared.operators.BinOp.{BinOp}
use Rattle.concrete_steps.specs.tm_cint.Conversions.{represents_all}
use Rattle.concrete_steps.specs.tm_terms.declared.places.Place.{Place}
use Rattle.concrete_steps.specs.tm_typed.declared.types.Scalar.TheVariants as Scalars
use Rattle.concrete_steps.specs.tm_laid.Layouts.{LaidTree}
use Rattle.concrete_steps.specs.concrete_values.declared.values.Value.{Value}
use Rattle.concrete_steps.specs.concrete_values.Operators.{binary, converted}
use Rattle.concrete_steps.specs.concrete_values.Pointers.{moved}
use Rattle.concrete_steps.specs.concrete_values.Actions.{load_at, store_at}
use Rattle.concrete_steps.specs.NextAction.{After, act_then, result_then}
use Rattle.concrete_steps.specs.NextAction.{converted_result}
use Rattle.flow_graph.specs.Operations.{given_by}
use Rattle.flow_graph.specs.declared.operations.Into.{Into}
use Rattle.lowering.specs.Steps.{value_of, Code}
use Rattle.lowering.specs.Table.{Conversion, conversion}
use Rattle.lowering.specs.Table.{compound_with, compound_code}
use Rattle.lowering.specs.Table.{moved_code, call_has_value}
use Rattle.lowering.proofs.Meaning.{doing_then, Calls, code_then}
use Rattle.lowering.proofs.Scopes.{HasResult}
use Rattle.lowering.proofs.Scopes.{CodeInScope as CodeScope}
use Rattle.lowering.proofs.Calculations.{applied, applied_conversion}

module _ (laid : LaidTree) (path : ℕ) (call : Calls) where
  abbrev CodeInScope : Code → Type 0
  CodeInScope c = CodeScope (call_has_value laid path) c

  pub compound_then : (o : BinOp) (cell of : IntType) (volatile : Bool) (i : Into) (lp p : Place) (a e : Code)
      (ce : Conversion) (k : Value → After)
      → code_then laid call (compound_code o cell of volatile i lp p a e ce) k
      ≡ code_then laid call a (λ z. act_then laid (load_at z (Scalars.Int cell) volatile lp)
      (λ x. code_then laid call e (λ y.
      doing_then laid (given_by p (binary o of (applied (conversion cell of) x) (applied ce y))) (λ v.
      act_then laid (store_at z (Scalars.Int cell) (applied (conversion of cell) v) p)
      (λ u. k (applied (conversion of cell) v))))))
  compound_then o cell of volatile i lp p a e ce k = by_case volatile (represents_all of cell)
      (represents_all cell of) ce
    where
      by_case : (volatile : Bool) (b d : Bool) (ce : Conversion) → code_then laid call
          (compound_with (if b then None else Some (cell, of))
          (if d then None else Some (of, cell)) o cell of volatile i lp p a e ce) k
          ≡ code_then laid call a (λ z. act_then laid (load_at z (Scalars.Int cell) volatile lp)
          (λ x. code_then laid call e (λ y.
          doing_then laid (given_by p (binary o of (applied (if b then None else Some (cell, of)) x) (applied ce y)))
          (λ v.
          act_then laid (store_at z (Scalars.Int cell) (applied (if d then None else Some (of, cell)) v) p)
          (λ u. k (applied (if d then None else Some (of, cell)) v))))))
      by_case true true true None = refl
      by_case true true true (Some c) = refl
      by_case true true false None = refl
      by_case true true false (Some c) = refl
      by_case true false true None = refl
      by_case true false true (Some c) = refl
      by_case true false false None = refl
      by_case true false false (Some c) = refl
      by_case false true true None = refl
      by_case false true true (Some c) = refl
      by_case false true false None = refl
      by_case false true false (Some c) = refl
      by_case false false true None = refl
      by_case false false true (Some c) = refl
      by_case false false false None = refl
      by_case false false false (Some c) = refl

  pub compound_scope : (o : BinOp) (cell of : IntType) (volatile : Bool) (i : Into) (lp p : Place) (a e : Code)
      (ce : Conversion)
      → CodeInScope a → HasResult a → CodeInScope e → HasResult e
      → CodeInScope (compound_code o cell of volatile i lp p a e ce)
  compound_scope o cell of volatile i lp p a e ce sa ha se he = by_case volatile (represents_all of cell)
      (represents_all cell of) ce
    where
      by_case : (volatile : Bool) (b d : Bool) (ce : Conversion)
          → CodeInScope (compound_with (if b then None else Some (cell, of))
          (if d then None else Some (of, cell)) o cell of volatile i lp p a e ce)
      by_case true true true None = (
        (
          (sa, ha),
          (
            ((omega arith, tt), tt),
            ((se, he), (((omega arith, (omega arith, tt)), tt), (((omega arith, (omega arith, tt)), tt), tt))),
          ),
        ),
        omega arith,
      )
      by_case true true true (Some c) = (
        (
          (sa, ha),
          (
            ((omega arith, tt), tt),
            (
              (se, he),
              (
                ((omega arith, tt), tt),
                (((omega arith, (omega arith, tt)), tt), (((omega arith, (omega arith, tt)), tt), tt)),
              ),
            ),
          ),
        ),
        omega arith,
      )
      by_case true true false None = (
        (
          (sa, ha),
          (
            ((omega arith, tt), tt),
            (
              (se, he),
              (
                ((omega arith, (omega arith, tt)), tt),
                (((omega arith, tt), tt), (((omega arith, (omega arith, tt)), tt), tt)),
              ),
            ),
          ),
        ),
        omega arith,
      )
      by_case true true false (Some c) = (
        (
          (sa, ha),
          (
            ((omega arith, tt), tt),
            (
              (se, he),
              (
                ((omega arith, tt), tt),
                (
                  ((omega arith, (omega arith, tt)), tt),
                  (((omega arith, tt), tt), (((omega arith, (omega arith, tt)), tt), tt)),
                ),
              ),
            ),
          ),
        ),
        omega arith,
      )
      by_case true false true None = (
        (
          (sa, ha),
          (
            ((omega arith, tt), tt),
            (
              (se, he),
              (
                ((omega arith, tt), tt),
                (((omega arith, (omega arith, tt)), tt), (((omega arith, (omega arith, tt)), tt), tt)),
              ),
            ),
          ),
        ),
        omega arith,
      )
      by_case true false true (Some c) = (
        (
          (sa, ha),
          (
            ((omega arith, tt), tt),
            (
              (se, he),
              (
                ((omega arith, tt), tt),
                (
                  ((omega arith, tt), tt),
                  (
                    ((omega arith, (omega arith, tt)), tt),
                    (((omega arith, (omega arith, tt)), tt), tt),
                  ),
                ),
              ),
            ),
          ),
        ),
        omega arith,
      )
      by_case true false false None = (
        (
          (sa, ha),
          (
            ((omega arith, tt), tt),
            (
              (se, he),
              (
                ((omega arith, tt), tt),
                (
                  ((omega arith, (omega arith, tt)), tt),
                  (((omega arith, tt), tt), (((omega arith, (omega arith, tt)), tt), tt)),
                ),
              ),
            ),
          ),
        ),
        omega arith,
      )
      by_case true false false (Some c) = (
        (
          (sa, ha),
          (
            ((omega arith, tt), tt),
            (
              (se, he),
              (
                ((omega arith, tt), tt),
                (
                  ((omega arith, tt), tt),
                  (
                    ((omega arith, (omega arith, tt)), tt),
                    (((omega arith, tt), tt), (((omega arith, (omega arith, tt)), tt), tt)),
                  ),
                ),
              ),
            ),
          ),
        ),
        omega arith,
      )
      by_case false true true None = (
        (
          (sa, ha),
          (
            ((omega arith, tt), tt),
            ((se, he), (((omega arith, (omega arith, tt)), tt), (((omega arith, (omega arith, tt)), tt), tt))),
          ),
        ),
        omega arith,
      )
      by_case false true true (Some c) = (
        (
          (sa, ha),
          (
            ((omega arith, tt), tt),
            (
              (se, he),
              (
                ((omega arith, tt), tt),
                (((omega arith, (omega arith, tt)), tt), (((omega arith, (omega arith, tt)), tt), tt)),
              ),
            ),
          ),
        ),
        omega arith,
      )
      by_case false true false None = (
        (
          (sa, ha),
          (
            ((omega arith, tt), tt),
            (
              (se, he),
              (
                ((omega arith, (omega arith, tt)), tt),
                (((omega arith, tt), tt), (((omega arith, (omega arith, tt)), tt), tt)),
              ),
            ),
          ),
        ),
        omega arith,
      )
      by_case false true false (Some c) = (
        (
          (sa, ha),
          (
            ((omega arith, tt), tt),
            (
              (se, he),
              (
                ((omega arith, tt), tt),
                (
                  ((omega arith, (omega arith, tt)), tt),
                  (((omega arith, tt), tt), (((omega arith, (omega arith, tt)), tt), tt)),
                ),
              ),
            ),
          ),
        ),
        omega arith,
      )
      by_case false false true None = (
        (
          (sa, ha),
          (
            ((omega arith, tt), tt),
            (
              (se, he),
              (
                ((omega arith, tt), tt),
                (((omega arith, (omega arith, tt)), tt), (((omega arith, (omega arith, tt)), tt), tt)),
              ),
            ),
          ),
        ),
        omega arith,
      )
      by_case false false true (Some c) = (
        (
          (sa, ha),
          (
            ((omega arith, tt), tt),
            (
              (se, he),
              (
                ((omega arith, tt), tt),
                (
                  ((omega arith, tt), tt),
                  (
                    ((omega arith, (omega arith, tt)), tt),
                    (((omega arith, (omega arith, tt)), tt), tt),
                  ),
                ),
              ),
            ),
          ),
        ),
        omega arith,
      )
      by_case false false false None = (
        (
          (sa, ha),
          (
            ((omega arith, tt), tt),
            (
              (se, he),
              (
                ((omega arith, tt), tt),
                (
                  ((omega arith, (omega arith, tt)), tt),
                  (((omega arith, tt), tt), (((omega arith, (omega arith, tt)), tt), tt)),
                ),
              ),
            ),
          ),
        ),
        omega arith,
      )
      by_case false false false (Some c) = (
        (
          (sa, ha),
          (
            ((omega arith, tt), tt),
            (
              (se, he),
              (
                ((omega arith, tt), tt),
                (
                  ((omega arith, tt), tt),
                  (
                    ((omega arith, (omega arith, tt)), tt),
                    (((omega arith, tt), tt), (((omega arith, (omega arith, tt)), tt), tt)),
                  ),
                ),
              ),
            ),
          ),
        ),
        omega arith,
      )

  -- an operator's result, converted to the type of the cell and stored
  pub stored_law : (of cell : IntType) (r : Result Value Class) (p : Place) (k : Value → After)
      → doing_then laid (given_by p r) (λ v. k (applied (conversion of cell) v)) ≡ result_then
      (converted_result of cell r) p k
  stored_law of cell (Ok v) p k = ap k (applied_conversion of cell v)
  stored_law of cell (Err class) p k = refl

  pub moved_then : (minus : Bool) (cells class : ℕ) (i : Into) (lp p : Place) (a e : Code) (k : Value → After)
      → code_then laid call (moved_code minus cells class i lp p a (value_of e) 3) k
      ≡ code_then laid call a (λ z. act_then laid (load_at z (Scalars.Pointer class) false lp)
      (λ x. code_then laid call e (λ y.
      doing_then laid (given_by p (moved laid minus cells x y))
      (λ v. act_then laid (store_at z (Scalars.Pointer class) v p) (λ u. k v)))))
  moved_then minus cells class i lp p a e k = refl
