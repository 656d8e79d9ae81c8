-- Labels and defaults.
use Rattle.std.proofs.Common.{◌≡◌, ℕ, ◌+◌, ◌<◌, ◌≤◌, Bool, true, false, List, length, drop, get_or, sym, ap, ◌∙◌}
use Rattle.std.specs.Prelude.{if◌then◌else◌}
use Rattle.std.proofs.lemmas.List.{drop_more, drop_all}
use Rattle.tm_typed.specs.declared.statements.TypedSwitchPart.{TypedSwitchPart}
use Rattle.tm_typed.specs.TypedStatements.{typed_case, as_typed_cases}
use Rattle.statement_builder.specs.reading.Statements.{is_default, has_default}

-- no default so far
pub default_more : (cs : List TypedSwitchPart) (i : ℕ) (c : TypedSwitchPart) (w : Bool) → i < length cs
    → c ≡ get_or cs i c → is_default (typed_case c) ≡ false → has_default (as_typed_cases (drop i cs)) ≡ w
    → has_default (as_typed_cases (drop (i + 1) cs)) ≡ w
default_more cs i c w lt ec ed h =
    let rest = has_default (as_typed_cases (drop (i + 1) cs)) in
    sym (ap (λ (d : Bool). if d then true else rest)
    (ap (λ (p : TypedSwitchPart). is_default (typed_case p)) (sym ec) ∙ ed))
    ∙ (sym (ap (λ (ps : List TypedSwitchPart). has_default (as_typed_cases ps)) (drop_more cs i c lt)) ∙ h)

pub default_here : (cs : List TypedSwitchPart) (i : ℕ) (c : TypedSwitchPart) (w : Bool) → i < length cs
    → c ≡ get_or cs i c → is_default (typed_case c) ≡ true → has_default (as_typed_cases (drop i cs)) ≡ w → true ≡ w
default_here cs i c w lt ec ed h =
    let rest = has_default (as_typed_cases (drop (i + 1) cs)) in
    sym (ap (λ (d : Bool). if d then true else rest)
    (ap (λ (p : TypedSwitchPart). is_default (typed_case p)) (sym ec) ∙ ed))
    ∙ (sym (ap (λ (ps : List TypedSwitchPart). has_default (as_typed_cases ps)) (drop_more cs i c lt)) ∙ h)

pub default_none : (cs : List TypedSwitchPart) (i : ℕ) (w : Bool) → length cs ≤ i
    → has_default (as_typed_cases (drop i cs)) ≡ w → false ≡ w
default_none cs i w le h =
    sym (ap (λ (ps : List TypedSwitchPart). has_default (as_typed_cases ps)) (drop_all i cs le)) ∙ h
