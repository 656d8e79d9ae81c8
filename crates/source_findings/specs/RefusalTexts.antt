-- The text of a refusal on a scale: a limit is told with its number there.
use Rattle.std.specs.Prelude.{◌≡◌, ℕ, List, ◌++◌, Option, Some, None, codes, decimal}
use Rattle.tm_terms.specs.declared.places.Place.{Place}
use Rattle.tm_terms.specs.declared.refusals.Kind.{Kind}
use Rattle.tm_terms.specs.declared.refusals.Limit.{Limit}
use Rattle.tm_terms.specs.declared.refusals.Refusal.{Refusal}
use Rattle.tm_terms.specs.Texts.{line_of, limit_text, kind_line, refusal_text}
use Rattle.tm_laid.specs.declared.scales.Scale.{Scale}
use Rattle.tm_laid.specs.declared.scales.Scale.TheVariants as Scales
use Rattle.tm_laid.specs.Scales.{number_on}

-- refused Limit NAME NUMBER
abbrev pub limit_line_on : Scale → Limit → List ℕ
limit_line_on scale limit =
    line_of (codes "refused Limit " ++ (limit_text limit ++ (codes " " ++ decimal (number_on scale limit))))

-- the line of a limit where there is one, and otherwise that of the kind
abbrev pub refused_line_on : Scale → Place → Kind → Option Limit → List ℕ
refused_line_on scale place kind None = kind_line place kind
refused_line_on scale place kind (Some limit) = limit_line_on scale limit

-- a refusal
abbrev pub refusal_text_on : Scale → Refusal → List ℕ
refusal_text_on scale refusal = refused_line_on scale refusal.place refusal.kind refusal.limit

-- on the usual scale that is the text of the commands
abbrev pub UsualRefusalsAreToldAlike : Type 0
UsualRefusalsAreToldAlike = (refusal : Refusal) → refusal_text_on Scales.Usual refusal ≡ refusal_text refusal
