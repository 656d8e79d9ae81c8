-- What the list of assumptions promises of what runs load, store and compare holds, and what it promises of where lives
-- of objects begin.
use Rattle.std.proofs.Common.{◌≡◌, ◌≤◌, ◌^◌, List, length, Option}
use Rattle.sound_tables.specs.tm_laid.Layouts.{LaidTree}
use Rattle.sound_tables.specs.interfere_set.Stores.{Interferences}
use Rattle.sound_tables.specs.transfer_rows.StateForms.{State}
use Rattle.sound_tables.specs.program_equations.Programs.{ProgramBodies, IsProgram}
use Rattle.sound_tables.specs.program_equations.Readings.{read_layout}
use Rattle.sound_tables.specs.program_equations.Solutions.{tables_of as lists_of, IsPair}
use Rattle.sound_core.specs.Sound.{IsProgramFrom}
use Rattle.edge_origins.specs.declared.origins.BodyOrigins.{BodyOrigins}
use Rattle.text_choices.specs.declared.kinds.Choice.{Choice}
use Rattle.open_choices.specs.Choices.{AreChoices}
use Rattle.sound_choices.specs.Accesses.{ListsAccessChoices}
use Rattle.sound_choices.specs.Beginnings.{ListsBeginnings}
use Rattle.sound_choices.proofs.Touched.{touched, reloads, overwrites, constants, ends, compares}
use Rattle.sound_choices.proofs.Waited.{waits_listed}
use Rattle.sound_choices.proofs.Unset.{unset}
use Rattle.sound_choices.proofs.Begun.{beginnings}

pub access_choices_listed : (laid : LaidTree) (p : ProgramBodies) → IsProgramFrom laid p → (is : IsProgram p)
    → length laid.objects ≤ 2 ^ 32 → (tables : List (List (Option State))) (store : Interferences)
    → IsPair p tables store → (seen : LaidTree) → p.laid ≡ read_layout seen → (origins : List BodyOrigins)
    (others : Choice → Type 0) (choices : List Choice) → AreChoices seen p (lists_of tables) store origins others choices
    → ListsAccessChoices laid seen p (lists_of tables) store origins choices
access_choices_listed laid p from is few tables store pair seen read origins others choices are = record {
  touched = touched laid seen p from is few tables store pair read origins others choices are;
  waiting = waits_listed laid seen p from is few tables store pair read origins others choices are;
  reloaded = reloads laid seen p from is few tables store pair read origins others choices are;
  overwritten = overwrites laid seen p from is few tables store pair read origins others choices are;
  constants = constants laid seen p from is few tables store pair read origins others choices are;
  unset = unset laid seen p from is few tables store pair read origins others choices are;
  ends = ends laid seen p from is few tables store pair read origins others choices are;
  compared = compares laid seen p from is few tables store pair read origins others choices are;
}

pub beginnings_listed : (laid : LaidTree) (p : ProgramBodies) → IsProgramFrom laid p → (is : IsProgram p)
    → length laid.objects ≤ 2 ^ 32 → (tables : List (List (Option State))) (store : Interferences)
    → IsPair p tables store → (seen : LaidTree) → p.laid ≡ read_layout seen → (origins : List BodyOrigins)
    (others : Choice → Type 0) (choices : List Choice) → AreChoices seen p (lists_of tables) store origins others choices
    → ListsBeginnings laid seen p (lists_of tables) store origins choices
beginnings_listed laid p from is few tables store pair seen read origins others choices are =
    beginnings laid seen p from is few tables store pair read origins others choices are
