-- What is told of a least solution, before it is known of which source it is.
use Rattle.std.specs.Prelude.{◌≡◌, ◌⊎◌, ℕ, ◌<◌, ◌≤◌, List, ◌++◌, get_or, length}
use Rattle.std.specs.List.{flat_map}
use Rattle.tm_terms.specs.declared.places.Place.{Place}
use Rattle.tm_terms.specs.Spelling.{text_of}
use Rattle.solution_lines.specs.SolutionTexts.{waits_text, range_line, dead_text}
use Rattle.program_solutions.specs.tm_laid.Layouts.{no_object}
use Rattle.program_solutions.specs.tm_laid.declared.objects.LaidObject.{LaidObject}
use Rattle.program_solutions.specs.program_equations.Programs.{ProgramBodies}
use Rattle.program_solutions.specs.program_equations.Solutions.{tables_of}
use Rattle.program_solutions.specs.post_recheck.Pairs.{Pair}
use Rattle.lock_waits.specs.Waits.{AreWaits}
use Rattle.value_ranges.specs.declared.object_bounds.ObjectBounds.{ObjectBounds}
use Rattle.value_ranges.specs.Ranges.{AreRanges}
use Rattle.value_ranges.specs.Places.{AreDead}
use Rattle.program_streams.specs.declared.statuses.Status.{Status}
use Rattle.program_streams.specs.declared.statuses.Status.TheVariants.{NoAlarm, Refused}
use Rattle.certificate_check.specs.certificate_texts.Limits.{certificate_limit}
use Rattle.certificate_check.specs.certificate_texts.Sizes.{HasSmallNumbers}
use Rattle.certificate_check.specs.certificate_texts.Certificates.{certificate_text}
use Rattle.certificate_check.specs.VerdictTexts.{too_long_line}
use Rattle.source_findings.specs.Findings.{waits_status}
use Rattle.source_findings.specs.declared.findings.Finding.{Finding}
use Rattle.source_findings.specs.declared.findings.Finding.TheVariants.{Waits, Ranges}

pub record TellsWaitsOf (p : ProgramBodies) (pair : Pair) (status : Status) (text : List ℕ) : Type 0 where
  pub places : List Place
  pub are : AreWaits p (tables_of pair.tables) places
  pub comes : status ≡ waits_status places
  pub is : text ≡ waits_text places

-- the line of an object among these
abbrev pub bounds_line_of : List ℕ → List LaidObject → ObjectBounds → List ℕ
bounds_line_of bytes objects b =
    let o = get_or objects b.object no_object in range_line o.place (text_of bytes o.name) b.low b.high

pub record TellsRangesOf (p : ProgramBodies) (bytes : List ℕ) (pair : Pair) (status : Status) (text : List ℕ)
    : Type 0 where
  pub bounds : List ObjectBounds
  pub dead : List Place
  pub ranges : AreRanges p (tables_of pair.tables) pair.store bounds
  pub places : AreDead p (tables_of pair.tables) dead
  pub comes : status ≡ NoAlarm
  pub is : (let l = p.laid in text ≡ flat_map (bounds_line_of bytes l.objects) bounds ++ dead_text dead)

abbrev pub TellsOf : Finding → ProgramBodies → List ℕ → Pair → Status → List ℕ → Type 0
TellsOf Waits p bytes = TellsWaitsOf p
TellsOf Ranges p bytes = TellsRangesOf p bytes

-- ## Certificates

-- the text of the source and the pair, which is not too long, of a program with small numbers
pub record TellsText (p : ProgramBodies) (bytes : List ℕ) (pair : Pair) (status : Status) (text : List ℕ) : Type 0
  where
    pub small : HasSmallNumbers p
    pub comes : status ≡ NoAlarm
    pub is : text ≡ certificate_text bytes pair
    pub short : length text ≤ certificate_limit

-- it is too long
pub record TellsTooLong (bytes : List ℕ) (pair : Pair) (status : Status) (text : List ℕ) : Type 0 where
  pub comes : status ≡ Refused
  pub long : certificate_limit < length (certificate_text bytes pair)
  pub is : text ≡ too_long_line

abbrev pub TellsCertificateOf : ProgramBodies → List ℕ → Pair → Status → List ℕ → Type 0
TellsCertificateOf p bytes pair status text = TellsText p bytes pair status text ⊎ TellsTooLong bytes pair status text
