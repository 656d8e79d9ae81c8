-- The parts behind a label.
use Rattle.std.proofs.Common.{◌≡◌, ℕ, zero, suc, ◌+◌, ap, ◌∙◌, true, false, if◌then◌else◌, List, [], ◌∷◌, drop, slice_get, Some, arith}
use Rattle.tm_typed.specs.declared.statements.TypedSwitchPart.{TypedSwitchPart}
use Rattle.tm_typed.specs.TypedStatements.{TypedCases, typed_case, as_typed_cases}
use Rattle.concrete_values.specs.declared.values.Value.{Value}
use Rattle.task_interpreter.specs.reading.Lists.{is_wanted, is_default, case_rest, default_rest}

next : (cs : List TypedSwitchPart) (k : ℕ) (c : TypedSwitchPart) → slice_get cs k ≡ Some c → drop k cs ≡ c ∷ drop (suc k) cs
next [] k c e = cc
next (x ∷ cs) zero c e = let same : x ≡ c = cc in ap (λ z. z ∷ cs) same
next (x ∷ cs) (suc k) c e = next cs k c e

more : (cs : List TypedSwitchPart) (k : ℕ) (c : TypedSwitchPart) → slice_get cs k ≡ Some c → drop k cs ≡ c ∷ drop (k + 1) cs
more cs k c e = let n : suc k ≡ k + 1 = omega arith in next cs k c e ∙ ap (λ i. c ∷ drop i cs) n

pub default_here : (cs : List TypedSwitchPart) (k : ℕ) (c : TypedSwitchPart) → slice_get cs k ≡ Some c → is_default (typed_case c) ≡ true
    → default_rest (as_typed_cases (drop k cs)) ≡ as_typed_cases (drop (k + 1) cs)
default_here cs k c e h =
    ap (λ xs. default_rest (as_typed_cases xs)) (more cs k c e) ∙ ap (λ b. if b then as_typed_cases (drop (k + 1) cs) else default_rest (as_typed_cases (drop (k + 1) cs))) h

pub default_later : (cs : List TypedSwitchPart) (k : ℕ) (c : TypedSwitchPart) → slice_get cs k ≡ Some c → is_default (typed_case c) ≡ false
    → default_rest (as_typed_cases (drop k cs)) ≡ default_rest (as_typed_cases (drop (k + 1) cs))
default_later cs k c e h =
    ap (λ xs. default_rest (as_typed_cases xs)) (more cs k c e) ∙ ap (λ b. if b then as_typed_cases (drop (k + 1) cs) else default_rest (as_typed_cases (drop (k + 1) cs))) h

pub case_here : (v : Value) (other : TypedCases) (cs : List TypedSwitchPart) (k : ℕ) (c : TypedSwitchPart) → slice_get cs k ≡ Some c → is_wanted (typed_case c) v ≡ true
    → case_rest v (as_typed_cases (drop k cs)) other ≡ as_typed_cases (drop (k + 1) cs)
case_here v other cs k c e h =
    ap (λ xs. case_rest v (as_typed_cases xs) other) (more cs k c e) ∙ ap (λ b. if b then as_typed_cases (drop (k + 1) cs) else case_rest v (as_typed_cases (drop (k + 1) cs)) other) h

pub case_later : (v : Value) (other : TypedCases) (cs : List TypedSwitchPart) (k : ℕ) (c : TypedSwitchPart) → slice_get cs k ≡ Some c → is_wanted (typed_case c) v ≡ false
    → case_rest v (as_typed_cases (drop k cs)) other ≡ case_rest v (as_typed_cases (drop (k + 1) cs)) other
case_later v other cs k c e h =
    ap (λ xs. case_rest v (as_typed_cases xs) other) (more cs k c e) ∙ ap (λ b. if b then as_typed_cases (drop (k + 1) cs) else case_rest v (as_typed_cases (drop (k + 1) cs)) other) h
