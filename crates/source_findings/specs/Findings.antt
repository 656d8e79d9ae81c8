-- What `waits` and `ranges` answer: what the least solution of a source tells of its locks, of its objects and of its
-- places, and what that promises of its runs. The commands are on the usual scale, and notes on whatever scale is asked
-- for.
use Rattle.std.specs.Prelude.{◌≡◌, ℕ, ℤ, List, [], ◌∷◌, ◌++◌, Contains}
use Rattle.std.specs.List.{flat_map}
use Rattle.tm_terms.specs.declared.places.Place.{Place}
use Rattle.tm_terms.specs.declared.refusals.Refusal.{Refusal}
use Rattle.tm_terms.specs.Spelling.{text_of}
use Rattle.tm_terms.specs.Texts.{refusal_text}
use Rattle.solution_lines.specs.SolutionTexts.{waits_text, range_line, dead_text}
use Rattle.program_solutions.specs.tm_laid.declared.scales.Scale.{Scale}
use Rattle.program_solutions.specs.tm_laid.declared.scales.Scale.TheVariants as Scales
use Rattle.program_solutions.specs.tm_laid.Layouts.{LaidTree, object_at}
use Rattle.certificate_check.specs.sound_core.concrete_steps.Worlds.{World, next_at}
use Rattle.certificate_check.specs.sound_core.concrete_steps.Occurring.{IsReached}
use Rattle.program_solutions.specs.program_equations.Programs.{ProgramBodies}
use Rattle.program_solutions.specs.program_equations.Solutions.{tables_of}
use Rattle.program_solutions.specs.post_recheck.Pairs.{Pair}
use Rattle.program_solutions.specs.LeastReports.{IsLeastPair}
use Rattle.lock_waits.specs.Waits.{AreWaits}
use Rattle.value_ranges.specs.declared.object_bounds.ObjectBounds.{ObjectBounds}
use Rattle.value_ranges.specs.Ranges.{AreRanges}
use Rattle.value_ranges.specs.Places.{AreDead}
use Rattle.certificate_check.specs.sound_core.Rings.{IsRing, AllLockAt}
use Rattle.certificate_check.specs.sound_core.Ranges.{HoldsNumber, IsWithin}
use Rattle.certificate_check.specs.sound_core.Places.{ActsAt, MayAct}
use Rattle.certificate_check.specs.source_programs.Sources.{IsAcceptedOn, IsRefused}
use Rattle.program_streams.specs.declared.statuses.Status.{Status}
use Rattle.program_streams.specs.declared.statuses.Status.TheVariants.{NoAlarm, Alarms, Refused, Usage, ReadFault}
use Rattle.program_streams.specs.declared.statuses.Status.TheVariants.{WriteFault, NoMemory}
use Rattle.source_findings.specs.declared.findings.Finding.{Finding}
use Rattle.source_findings.specs.declared.findings.Finding.TheVariants.{Waits, Ranges}

-- the least solution of the program of which the bytes are a source on a scale, with no numbers given as thresholds
pub record SolvesOn (scale : Scale) (bytes : List ℕ) : Type 0 where
  pub program : ProgramBodies
  pub accepted : IsAcceptedOn scale [] bytes program
  pub pair : Pair
  pub least : IsLeastPair program pair

-- that within the limits of the commands
abbrev pub Solves : List ℕ → Type 0
Solves = SolvesOn Scales.Usual

-- ## Circular waits

-- in each world that a run reaches and that has not stopped, each task of each ring of blocked tasks is about to lock at
-- one of the places
abbrev pub ListsRings : LaidTree → List Place → Type 0
ListsRings laid places = (w : World) → IsReached laid w → (tasks : List ℕ) → IsRing laid w tasks
    → AllLockAt laid w places tasks

-- the places of circular waits of the least solution on a scale
pub record FindsWaitsOn (scale : Scale) (bytes : List ℕ) (places : List Place) : Type 0 where
  pub solves : SolvesOn scale bytes
  pub are : (let s = solves in let pair = s.pair in AreWaits s.program (tables_of pair.tables) places)
  pub rings : (let s = solves in let a = s.accepted in ListsRings a.laid places)

-- whether there are any
abbrev pub waits_status : List Place → Status
waits_status [] = NoAlarm
waits_status (place ∷ places) = Alarms

-- what is told of them
pub record TellsWaitsOn (scale : Scale) (bytes : List ℕ) (status : Status) (text : List ℕ) : Type 0 where
  pub places : List Place
  pub finds : FindsWaitsOn scale bytes places
  pub comes : status ≡ waits_status places
  pub is : text ≡ waits_text places

-- that within the limits of the commands
abbrev pub TellsWaits : List ℕ → Status → List ℕ → Type 0
TellsWaits = TellsWaitsOn Scales.Usual

-- ## Ranges and dead places

-- in each world that a run reaches and that has not stopped, each number that an integer cell of an object of static
-- storage holds lies within the bounds that are listed of the object
abbrev pub StaysWithin : ProgramBodies → LaidTree → List ObjectBounds → Type 0
StaysWithin p laid bounds = (w : World) → IsReached laid w → (object cell : ℕ) (n : ℤ) → HoldsNumber p w object cell n
    → IsWithin bounds object n

-- in no such world is the initial section, or a task behind it, about to load, store, lock or unlock at one of the places
abbrev pub ActsNowhere : LaidTree → List Place → Type 0
ActsNowhere laid dead = (w : World) → IsReached laid w → (place : Place) → Contains dead place → (body : ℕ)
    → MayAct laid w body → ActsAt (next_at laid w body) place → ⊥

-- the bounds and the dead places of the least solution on a scale
pub record FindsRangesOn (scale : Scale) (bytes : List ℕ) (bounds : List ObjectBounds) (dead : List Place)
    : Type 0 where
  pub solves : SolvesOn scale bytes
  pub ranges : (let s = solves in let pair = s.pair in AreRanges s.program (tables_of pair.tables) pair.store bounds)
  pub places : (let s = solves in let pair = s.pair in AreDead s.program (tables_of pair.tables) dead)
  pub within : (let s = solves in let a = s.accepted in StaysWithin s.program a.laid bounds)
  pub nowhere : (let s = solves in let a = s.accepted in ActsNowhere a.laid dead)

-- the line of an object: the place and the name of its first declaration, and its bounds
abbrev pub bounds_line : List ℕ → LaidTree → ObjectBounds → List ℕ
bounds_line bytes laid b =
    let o = object_at laid b.object in range_line o.place (text_of bytes o.name) b.low b.high

-- what is told of both
pub record TellsRangesOn (scale : Scale) (bytes : List ℕ) (status : Status) (text : List ℕ) : Type 0 where
  pub bounds : List ObjectBounds
  pub dead : List Place
  pub finds : FindsRangesOn scale bytes bounds dead
  pub comes : status ≡ NoAlarm
  pub is : (let f = finds in let s = f.solves in let a = s.accepted in
      text ≡ flat_map (bounds_line bytes a.laid) bounds ++ dead_text dead)

-- that within the limits of the commands
abbrev pub TellsRanges : List ℕ → Status → List ℕ → Type 0
TellsRanges = TellsRangesOn Scales.Usual

-- ## Both

abbrev pub Tells : Finding → List ℕ → Status → List ℕ → Type 0
Tells Waits = TellsWaits
Tells Ranges = TellsRanges

-- The status and the text that the command answers these bytes with.
abbrev pub HasFinding : Finding → List ℕ → Status → List ℕ → Type 0
HasFinding f bytes NoAlarm text = Tells f bytes NoAlarm text
HasFinding f bytes Alarms text = Tells f bytes Alarms text
HasFinding f bytes Refused text = (refusal : Refusal) × IsRefused bytes refusal × (text ≡ refusal_text refusal)
HasFinding f bytes Usage text = ⊥
HasFinding f bytes ReadFault text = ⊥
HasFinding f bytes WriteFault text = ⊥
HasFinding f bytes NoMemory text = ⊥
