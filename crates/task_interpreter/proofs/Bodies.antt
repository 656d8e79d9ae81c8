-- Bodies lie below their calls.
use Rattle.std.proofs.Common.{◌≡◌, ℕ, zero, suc, ◌+◌, ◌-◌, ◌*◌, ◌<◌, ◌≤◌, ap, subst, ◌∙◌, List, [], ◌∷◌, get_or, Result, Ok, Some, None, arith}
use Rattle.tm_typed.specs.declared.files.TypedBody.{TypedBody}
use Rattle.tm_typed.specs.TypedFiles.{typed_body_tree}
use Rattle.tm_typed.specs.Files.{TypedFunctionTree, no_typed_function}
use Rattle.tm_laid.specs.Layouts.{LaidTree, path_at}
use Rattle.concrete_values.specs.declared.values.Answer.{Answer}
use Rattle.concrete_values.specs.declared.actions.Next.{Next}
use Rattle.concrete_values.specs.Values.{nothing}
use Rattle.concrete_steps.specs.Places.{result_type}
use Rattle.concrete_steps.specs.NextAction.{function_at}
use Rattle.task_interpreter.specs.declared.answers.Flow.{Flow}
use Rattle.task_interpreter.specs.reading.Direct.{gave, left_body, code_ran, body_ran, seat}
use Rattle.task_interpreter.specs.reading.Sizes.{code_size, largest, below_calls}
use Rattle.task_interpreter.specs.reading.Lists.{listed_ran, listed_size}
use Rattle.task_interpreter.proofs.Blocks.{body_listed, body_sized}

pub body_none : (laid : LaidTree) (answers : List Answer) (depth path at : ℕ) → depth ≡ 0 → body_ran laid answers depth path at ≡ Ok (gave nothing at)
unfolding body_ran
body_none laid answers depth path at e = ap (λ d. body_ran laid answers d path at) e

-- a body of some depth
body_steps : (laid : LaidTree) (answers : List Answer) (depth path at : ℕ) → 0 < depth
    → body_ran laid answers depth path at ≡ code_ran (seat laid answers (depth - 1) path) (result_type laid (function_at laid path)) (function_at laid path).body at
unfolding body_ran
body_steps laid answers zero path at h = absurd (omega (arith, h))
body_steps laid answers (suc depth) path at h =
    ap (λ d. code_ran (seat laid answers d path) (result_type laid (function_at laid path)) (function_at laid path).body at) (omega arith)

pub no_code : (laid : LaidTree) (answers : List Answer) (depth path at : ℕ) → 0 < depth → (function_at laid path).body ≡ None
    → body_ran laid answers depth path at ≡ Ok (gave nothing at)
no_code laid answers depth path at h e =
    body_steps laid answers depth path at h ∙ ap (λ b. code_ran (seat laid answers (depth - 1) path) (result_type laid (function_at laid path)) b at) e

pub some_code : (laid : LaidTree) (answers : List Answer) (depth path at : ℕ) (b : TypedBody) (r : Result Flow Next) → 0 < depth
    → (function_at laid path).body ≡ Some (typed_body_tree b)
    → listed_ran (seat laid answers (depth - 1) path) b.statements.items at ≡ r
    → body_ran laid answers depth path at ≡ left_body laid answers (result_type laid (function_at laid path)) r
some_code laid answers depth path at b r h e f =
    body_steps laid answers depth path at h
    ∙ ap (λ c. code_ran (seat laid answers (depth - 1) path) (result_type laid (function_at laid path)) c at) e
    ∙ ap (left_body laid answers (result_type laid (function_at laid path))) (body_listed (seat laid answers (depth - 1) path) b.statements.items at ∙ f)

-- a body is no larger than the largest
is_most : (fs : List TypedFunctionTree) (k : ℕ) → code_size (get_or fs k no_typed_function).body ≤ largest fs
is_most [] k = omega arith
is_most (f ∷ fs) zero = omega arith
is_most (f ∷ fs) (suc k) = let below = is_most fs k in omega (arith, below)

below_more : (m r s : ℕ) → s ≤ m → (suc r - 1) * (8 + m) + (s + 7) < suc r * (8 + m)
below_more m r s h = grind (arith, h)

pub body_below : (laid : LaidTree) (path depth : ℕ) (b : TypedBody) → (function_at laid path).body ≡ Some (typed_body_tree b) → 0 < depth
    → below_calls laid (depth - 1) + (listed_size b.statements.items + 7) < below_calls laid depth
unfolding below_calls
body_below laid path zero b e h = absurd (omega (arith, h))
body_below laid path (suc depth) b e h =
    let most = is_most laid.file.functions (path_at laid path).function in
    below_more (largest laid.file.functions) depth (listed_size b.statements.items) (subst (λ n. n ≤ largest laid.file.functions) (ap code_size e ∙ body_sized b.statements.items) most)
