-- What is read of tables.
use Rattle.std.specs.Prelude.{◌≡◌, ℕ, pos, List, [], ◌∷◌, length, get_or, codes, Option, Some, None, IfSome}
use Rattle.tm_laid.specs.Layouts.{LaidTree}
use Rattle.mutex_configs.specs.declared.nodes.ConfiguredNode.{ConfiguredNode}
use Rattle.mutex_configs.specs.Nodes.{entry_node}
use Rattle.transfer_rows.specs.StateForms.{State}
use Rattle.post_recheck.specs.state_fits.Fits.{FitsPlace}
use Rattle.post_recheck.specs.state_fits.Kinds.{InExtents}
use Rattle.temporary_extents.specs.declared.extents.Extent.{Extent}
use Rattle.post_recheck.specs.program_equations.Programs.{ProgramBodies, body_at}
use Rattle.post_recheck.specs.program_equations.Systems.{FitsBody}
use Rattle.certificate_words.specs.Words.{Line}
use Rattle.certificate_parts.specs.Fronts.{line_of, IsNotFront}
use Rattle.certificate_texts.specs.TableLines.{node_lines_of, table_lines}
use Rattle.certificate_reading.specs.States.{IsNotTagged, IsEnd}
use Rattle.certificate_reading.specs.Series.{AllFit, IsRowIn, HasNoRow, AreRowsIn, HasNoRows}

-- ## Nodes

-- the text may stand behind the row of a node: it goes on with that node no more, and with no line of a state
pub record EndsNode (n : ℕ) (text : List ℕ) : Type 0 where
  pub node : IsNotFront (line_of (codes "node") (pos n ∷ [])) text
  pub state : IsEnd text

-- the text may stand behind a table: it goes on with no node, and with no line of a state
pub record EndsTable (text : List ℕ) : Type 0 where
  pub node : IsNotTagged (codes "node") text
  pub state : IsEnd text

module _ (FitsAt : ℕ → State → Type 0) where
  -- a node has a state that fits there, or none
  abbrev pub FitsNode : ℕ → Option State → Type 0
  FitsNode n at = IfSome at (FitsAt n)

  abbrev pub IsReadNode : ℕ → List ℕ → Option (Option State) → List ℕ → Type 0
  IsReadNode n old None new = HasNoRow node_lines_of FitsNode EndsNode EndsTable n old
  IsReadNode n old (Some at) new = IsRowIn node_lines_of FitsNode EndsNode EndsTable n old at new

  abbrev pub AreReadNodes : ℕ → List ℕ → Option (List (Option State)) → List ℕ → Type 0
  AreReadNodes count old None new = HasNoRows node_lines_of FitsNode EndsNode EndsTable count old
  AreReadNodes count old (Some table) new =
      AreRowsIn node_lines_of FitsNode EndsNode EndsTable count old table new

  abbrev pub FitsTable : ℕ → List (Option State) → Type 0
  FitsTable count table = (length table ≡ count) × AllFit node_lines_of FitsNode EndsNode EndsTable 0 table

-- the states that fit a body with this number, by what is known of it
abbrev pub FitsNodes : LaidTree → ℕ → List Extent → List ConfiguredNode → List (List ℕ) → ℕ → State → Type 0
FitsNodes laid task extents nodes live n s =
    let q = get_or nodes n entry_node in FitsPlace laid task (InExtents laid extents) (get_or live q.place []) s

-- ## Tables

abbrev pub lines_of_table : ℕ → List (Option State) → List Line
lines_of_table t table = table_lines (t, table)

abbrev pub EndsAnyTable : ℕ → List ℕ → Type 0
EndsAnyTable t text = EndsTable text

module _ (FitsTableAt : ℕ → List (Option State) → Type 0) where
  abbrev pub IsReadTable : ℕ → List ℕ → Option (List (Option State)) → List ℕ → Type 0
  IsReadTable t old None new = HasNoRow lines_of_table FitsTableAt EndsAnyTable EndsTable t old
  IsReadTable t old (Some table) new = IsRowIn lines_of_table FitsTableAt EndsAnyTable EndsTable t old table new

  abbrev pub AreReadTables : ℕ → List ℕ → Option (List (List (Option State))) → List ℕ → Type 0
  AreReadTables count old None new = HasNoRows lines_of_table FitsTableAt EndsAnyTable EndsTable count old
  AreReadTables count old (Some tables) new =
      AreRowsIn lines_of_table FitsTableAt EndsAnyTable EndsTable count old tables new

-- the table fits the body with this number
abbrev pub FitsBodyTable : ProgramBodies → ℕ → List (Option State) → Type 0
FitsBodyTable p t table = let b = body_at p t in FitsTable (FitsBody b) (length b.nodes) table
