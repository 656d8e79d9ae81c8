-- Tables are read.
use Rattle.std.proofs.Common.{◌≡◌, sym, ap, ◌∙◌, ℕ, ◌+◌, ◌<◌, ◌^◌, pos, List, [], ◌∷◌, ◌++◌}
use Rattle.std.proofs.Common.{Option, Some, None, lit≤, arith}
use Rattle.std.specs.Prelude.{codes}
use Rattle.transfer_rows.specs.StateForms.{State}
use Rattle.tm_laid.specs.Layouts.{LaidTree}
use Rattle.temporary_extents.specs.declared.extents.Extent.{Extent}
use Rattle.post_recheck.specs.state_fits.Fits.{FitsPlace}
use Rattle.post_recheck.specs.state_fits.Kinds.{InExtents}
use Rattle.certificate_words.specs.Words.{number, Line, IsLine, AreLines, line_onto}
use Rattle.certificate_words.proofs.OneText as texts
use Rattle.certificate_parts.specs.Fronts.{line_of, IsNotFront}
use Rattle.certificate_parts.specs.Runs.{lines_onto}
use Rattle.certificate_texts.specs.StateLines.{state_lines}
use Rattle.certificate_texts.specs.TableLines.{node_lines_of}
use Rattle.certificate_reading.specs.States.{IsStateIn, HasNoState}
use Rattle.certificate_reading.specs.Series.{IsRowIn, HasNoRow, rows_from, AreRowsIn, HasNoRows}
use Rattle.certificate_reading.specs.Tables.{EndsNode, EndsTable, EndsAnyTable, FitsNode, FitsTable, lines_of_table}
use Rattle.certificate_reading.specs.Tables.{AreReadNodes, IsReadTable}
use Rattle.certificate_reading.proofs.FirstLetters.{first_differs, other_first, ends_state}

abbrev node_line : ℕ → Line
node_line n = line_of (codes "node") (pos n ∷ [])

abbrev task_line : ℕ → Line
task_line t = line_of (codes "task") (pos t ∷ [])

-- ## Nodes

module _ (FitsAt : ℕ → State → Type 0) where
  abbrev Nodes : ℕ → List (Option State) → List Line
  Nodes = rows_from node_lines_of (FitsNode FitsAt) EndsNode EndsTable

  same_node : (j k : ℕ) → node_line j ≡ node_line k → j ≡ k
  same_node j k e =
      let ws : number (pos j) ∷ [] ≡ number (pos k) ∷ [] = ap (λ (l : Line). l.rest) e in
      let w : number (pos j) ≡ number (pos k) = cc in
      let z : pos j ≡ pos k = cc in
      cc

  node_ends : (k j : ℕ) (us : List (Option State)) (more : List ℕ) → k < j → AreLines (Nodes j us) → EndsTable more
      → EndsNode k (lines_onto (Nodes j us) more)
  node_ends k j [] more l lawful end = record {
    node = record { never = λ rest h e. end.node.never (number (pos k) ∷ []) rest h.1 e };
    state = end.state;
  }
  node_ends k j (None ∷ us) more l lawful end = node_ends k (j + 1) us more (omega (arith, l)) lawful end
  node_ends k j (Some s ∷ us) more l lawful end =
      let rest = lines_onto (state_lines s ++ Nodes (j + 1) us) more in
      record {
        node = record {
          never = λ text h e.
              (let same = same_node j k (texts.line (node_line j) (node_line k) rest text lawful.0 h e).0 in
              omega (arith, l, same));
        };
        state = ends_state (node_line j) rest lawful.0 (first_differs 112 110 [] _ (omega arith))
            (first_differs 102 110 [] _ (omega arith)) (first_differs 115 110 [] _ (omega arith))
            (first_differs 107 110 [] _ (omega arith));
      }

  pub nodes_behind : (k : ℕ) (us : List (Option State)) (more : List ℕ) → AreLines (Nodes (k + 1) us) → EndsTable more
      → EndsNode k (lines_onto (Nodes (k + 1) us) more)
  nodes_behind k us more lawful end = node_ends k (k + 1) us more (omega arith) lawful end

  pub node_none : (n : ℕ) (old new : List ℕ) → IsNotFront (node_line n) old → new ≡ old
      → IsRowIn node_lines_of (FitsNode FitsAt) EndsNode EndsTable n old None new
  node_none n old new none same =
      record { fits = tt; is = sym same; one = by_row }
    where
      by_row : (y : Option State) (more : List ℕ) → FitsNode FitsAt n y → AreLines (node_lines_of n y) → EndsNode n more
          → old ≡ lines_onto (node_lines_of n y) more → more ≡ new
      by_row None more f lawful after e = sym e ∙ sym same
      by_row (Some s) more f lawful after e = absurd (none.never (lines_onto (state_lines s) more) lawful.0 e)

  node_lawful : (n : ℕ) → n < 2 ^ 64 → IsLine (node_line n)
  node_lawful n small = ((lit≤ tt, lit≤ tt, (lit≤ tt, lit≤ tt, (lit≤ tt, lit≤ tt, (lit≤ tt, lit≤ tt, tt)))), (small, tt))

  module _ (n : ℕ) (small : n < 2 ^ 64) (laid : LaidTree) (task : ℕ) (extents : List Extent) (live : List ℕ)
      (old mid : List ℕ) (begins : old ≡ line_onto (node_line n) mid)
      (fits_is : (s : State) → FitsAt n s → FitsPlace laid task (InExtents laid extents) live s) where
    behind_line : (s : State) (more : List ℕ) → AreLines (node_lines_of n (Some s))
        → old ≡ lines_onto (node_lines_of n (Some s)) more → mid ≡ lines_onto (state_lines s) more
    behind_line s more lawful e =
        (texts.line (node_line n) (node_line n) mid (lines_onto (state_lines s) more) lawful.0 lawful.0
        (sym begins ∙ e)).1

    not_none : (more : List ℕ) → EndsNode n more → old ≡ more → ⊥
    not_none more after e = after.node.never mid (node_lawful n small) (sym e ∙ begins)

    pub node_some : (s : State) (new : List ℕ) → FitsAt n s → IsStateIn laid task extents live mid s new
        → IsRowIn node_lines_of (FitsNode FitsAt) EndsNode EndsTable n old (Some s) new
    node_some s new fits state =
        record { fits = fits; is = begins ∙ ap (line_onto (node_line n)) state.is; one = by_row }
      where
        by_row : (y : Option State) (more : List ℕ) → FitsNode FitsAt n y → AreLines (node_lines_of n y)
            → EndsNode n more → old ≡ lines_onto (node_lines_of n y) more → more ≡ new
        by_row None more f lawful after e = absurd (not_none more after e)
        by_row (Some t) more f lawful after e =
            (state.one t more (fits_is t f) lawful.1 after.state (behind_line t more lawful e)).1

    pub node_stuck : HasNoState laid task extents live mid
        → HasNoRow node_lines_of (FitsNode FitsAt) EndsNode EndsTable n old
    node_stuck none = record { never = by_row }
      where
        by_row : (y : Option State) (more : List ℕ) → FitsNode FitsAt n y → AreLines (node_lines_of n y)
            → EndsNode n more → old ≡ lines_onto (node_lines_of n y) more → ⊥
        by_row None more f lawful after e = not_none more after e
        by_row (Some t) more f lawful after e =
            none.never t more (fits_is t f) lawful.1 after.state (behind_line t more lawful e)

-- ## Other conditions

-- a row that may be there by one condition may by another that says the same
pub row_same : {Z : Type 0} (row : ℕ → Z → List Line) (Fits Same : ℕ → Z → Type 0) (After : ℕ → List ℕ → Type 0)
    (End : List ℕ → Type 0) (k : ℕ) (old : List ℕ) (z : Z) (new : List ℕ) → ((y : Z) → Fits k y → Same k y)
    → ((y : Z) → Same k y → Fits k y) → IsRowIn row Fits After End k old z new
    → IsRowIn row Same After End k old z new
row_same row Fits Same After End k old z new to from h =
    record {
      fits = to z h.fits;
      is = h.is;
      one = λ y more f lawful after e. h.one y more (from y f) lawful after e;
    }

pub stuck_same : {Z : Type 0} (row : ℕ → Z → List Line) (Fits Same : ℕ → Z → Type 0) (After : ℕ → List ℕ → Type 0)
    (End : List ℕ → Type 0) (k : ℕ) (old : List ℕ) → ((y : Z) → Same k y → Fits k y)
    → HasNoRow row Fits After End k old → HasNoRow row Same After End k old
stuck_same row Fits Same After End k old from h =
    record { never = λ y more f lawful after e. h.never y more (from y f) lawful after e }

-- ## Tables

module _ (FitsAt : ℕ → State → Type 0) (count t : ℕ) (old mid : List ℕ) where
  abbrev OfTable : ℕ → List (Option State) → Type 0
  OfTable k table = FitsTable FitsAt count table

  pub table_none : IsNotFront (task_line t) old → HasNoRow lines_of_table OfTable EndsAnyTable EndsTable t old
  table_none none =
      record {
        never = λ table more f lawful after e.
            none.never (lines_onto (rows_from node_lines_of (FitsNode FitsAt) EndsNode EndsTable 0 table) more) lawful.0 e;
      }

  module _ (begins : old ≡ line_onto (task_line t) mid) where
    behind_task : (table : List (Option State)) (more : List ℕ) → AreLines (lines_of_table t table)
        → old ≡ lines_onto (lines_of_table t table) more
        → mid ≡ lines_onto (rows_from node_lines_of (FitsNode FitsAt) EndsNode EndsTable 0 table) more
    behind_task table more lawful e =
        (texts.line (task_line t) (task_line t) mid
        (lines_onto (rows_from node_lines_of (FitsNode FitsAt) EndsNode EndsTable 0 table) more) lawful.0 lawful.0
        (sym begins ∙ e)).1

    pub table_some : (table : List (Option State)) (new : List ℕ)
        → AreRowsIn node_lines_of (FitsNode FitsAt) EndsNode EndsTable count mid table new
        → IsRowIn lines_of_table OfTable EndsAnyTable EndsTable t old table new
    table_some table new rows =
        record {
          fits = (rows.counted, rows.fits);
          is = begins ∙ ap (line_onto (task_line t)) rows.is;
          one = λ other more f lawful after e.
              rows.one other more f.0 f.1 lawful.1 after (behind_task other more lawful e);
        }

    pub table_stuck : HasNoRows node_lines_of (FitsNode FitsAt) EndsNode EndsTable count mid
        → HasNoRow lines_of_table OfTable EndsAnyTable EndsTable t old
    table_stuck none =
        record {
          never = λ other more f lawful after e.
              none.never other more f.0 f.1 lawful.1 after (behind_task other more lawful e);
        }

  pub table_read : old ≡ line_onto (task_line t) mid → (new : List ℕ) (found : Option (List (Option State)))
      → AreReadNodes FitsAt count mid found new → IsReadTable OfTable t old found new
  table_read begins new None h = table_stuck begins h
  table_read begins new (Some table) h = table_some begins table new h

-- a further table ends a table
pub tables_behind : (FitsTableAt : ℕ → List (Option State) → Type 0) (k : ℕ) (us : List (List (Option State)))
    (more : List ℕ) → AreLines (rows_from lines_of_table FitsTableAt EndsAnyTable EndsTable (k + 1) us) → EndsTable more
    → EndsAnyTable k (lines_onto (rows_from lines_of_table FitsTableAt EndsAnyTable EndsTable (k + 1) us) more)
tables_behind FitsTableAt k [] more lawful end = end
tables_behind FitsTableAt k (u ∷ us) more lawful end =
    let nodes = rows_from node_lines_of (λ n o. Unit {0}) EndsNode EndsTable 0 u in
    let rest = lines_onto (nodes ++ rows_from lines_of_table FitsTableAt EndsAnyTable EndsTable (k + 1 + 1) us) more in
    record {
      node = other_first (codes "node") (task_line (k + 1)) rest
          (lit≤ tt, lit≤ tt, (lit≤ tt, lit≤ tt, (lit≤ tt, lit≤ tt, (lit≤ tt, lit≤ tt, tt))))
          (first_differs 110 116 _ _ (omega arith)) lawful.0;
      state = ends_state (task_line (k + 1)) rest lawful.0 (first_differs 112 116 [] _ (omega arith))
          (first_differs 102 116 [] _ (omega arith)) (first_differs 115 116 [] _ (omega arith))
          (first_differs 107 116 [] _ (omega arith));
    }
