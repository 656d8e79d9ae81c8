-- What is noted of the edges of statements.
use Rattle.std.specs.Prelude.{ℕ, zero, suc, ◌+◌, Bool, true, false, cond, not, ◌&&◌, List, [], ◌∷◌, ◌++◌, Option, Some}
use Rattle.std.specs.Prelude.{None}
use Rattle.tm_terms.specs.declared.places.Place.{Place}
use Rattle.tm_typed.specs.declared.types.Qualified.{Qualified}
use Rattle.tm_typed.specs.declared.scopes.ObjectNumber.TheVariants as Numbers
use Rattle.tm_typed.specs.TypedTrees.{RvalueTree}
use Rattle.tm_typed.specs.TypedStatements.{GivenTree, LocalInitialiserTree, LocalTree, TypedTree, evaluates, declares}
use Rattle.tm_typed.specs.TypedStatements.{runs_block, branches, branches_else, loops_while, loops_do, loops_for}
use Rattle.tm_typed.specs.TypedStatements.{selects, breaks, continues, returns, locks, unlocks, yields, TypedTrees}
use Rattle.tm_typed.specs.TypedStatements.{no_statements, and_statement, TypedCase, a_label, a_default_label}
use Rattle.tm_typed.specs.TypedStatements.{a_labelled_step, TypedCases, no_typed_cases, and_typed_case}
use Rattle.tm_laid.specs.Layouts.{LaidTree, object_of, object_at}
use Rattle.body_builder.specs.concrete_steps.Places.{rvalue_place, result_type}
use Rattle.body_builder.specs.concrete_steps.NextAction.{function_at, is_given, rest_of}
use Rattle.body_builder.specs.lowering.Table.{is_scalar_object}
use Rattle.path_origins.specs.declared.origins.Form.TheVariants as Forms
use Rattle.path_origins.specs.declared.origins.Span.{Span}
use Rattle.part_extents.specs.Parts.{cell_type}
use Rattle.path_origins.specs.Types.{given, differs}
use Rattle.path_origins.specs.Noted.{Noted, nothing, behind, both, sequenced, scoped, passing_if, one, one_if}
use Rattle.path_origins.specs.Noted.{tests, skips}
use Rattle.path_origins.specs.Expressions.{walked}

-- the place of what no expression gave
abbrev pub nowhere : Place
nowhere = record { line = 0; col = 0 }

-- What is noted of a statement; and how often control leaves it by `break`, by a `continue` that goes to a step or a
-- condition, and by `return`.
pub record Left : Type 0 where
  pub noted : Noted
  pub breaks : ℕ
  pub continues : ℕ
  pub returns : ℕ

abbrev pub goes_on : Noted → Left
goes_on x = record { noted = x; breaks = 0; continues = 0; returns = 0 }

abbrev pub left_behind : Noted → Left → Left
left_behind x s = record s { noted = behind x s.noted }

-- one statement behind another
abbrev pub in_turn : Left → Left → Left
in_turn s r = record {
  noted = behind s.noted r.noted;
  breaks = s.breaks + r.breaks;
  continues = s.continues + r.continues;
  returns = s.returns + r.returns;
}

abbrev pub then_noted : Left → Noted → Left
then_noted s x = record s { noted = behind s.noted x }

module _ (laid : LaidTree) (is_open : Place → Bool) (sizes : ℕ → ℕ) (path : ℕ) where
  abbrev pub skip : Noted
  skip = one nowhere Forms.Skip

  -- full expressions (C99 6.8p4)
  abbrev pub value_of : Bool → RvalueTree → Noted
  value_of used e = sequenced (walked laid is_open sizes path used e).value

  abbrev pub test_of : RvalueTree → Noted
  test_of e = sequenced (walked laid is_open sizes path true e).fork

  abbrev pub effect_of : Option RvalueTree → Noted
  effect_of None = nothing
  effect_of (Some e) = value_of false e

  -- ## Local objects

  -- the value of a cell, which is zero or null unless it is given
  abbrev pub cell_value : Qualified → Place → Bool → List GivenTree → Noted
  cell_value q p true (g ∷ gs) = passing_if (differs (given laid is_open path g.value) (cell_type laid
      (record { of = q; cell = g.cell })))
      (rvalue_place g.value) (walked laid is_open sizes path true g.value).value
  cell_value q p true [] = one p Forms.Constant
  cell_value q p false gs = one p Forms.Constant

  abbrev pub is_first : ℕ → Bool
  is_first zero = true
  is_first (suc k) = false

  abbrev pub cell_stored : ℕ → Qualified → Place → ℕ → List GivenTree → Noted
  cell_stored o q p k gs =
      behind (one p Forms.Base)
      (behind (one_if (not (is_first k && is_scalar_object laid path o)) p Forms.Part)
      (behind (cell_value q p (is_given k gs) gs) (one p Forms.Initialise)))

  -- so many cells from this one on, of which each stands against those before it (C99 6.7.8p23)
  abbrev pub cells_stored : ℕ → Qualified → Place → ℕ → ℕ → List GivenTree → Noted → Noted
  cells_stored o q p zero k gs before = before
  cells_stored o q p (suc n) k gs before =
      let x = cell_stored o q p k gs in
      cells_stored o q p n (suc k) (rest_of (is_given k gs) gs) (cond (is_first k) x (both p before x))

  abbrev pub initialised : ℕ → Option LocalInitialiserTree → Noted
  initialised o None = nothing
  initialised o (Some i) =
      sequenced (cells_stored o (object_at laid o).of i.place (object_at laid o).cells 0 i.given nothing)

  -- the edges of an initialiser, behind the one that clears the object
  abbrev pub initialiser_span : Option LocalInitialiserTree → Noted → Option Span
  initialiser_span None x = None
  initialiser_span (Some i) x = Some (record { first = 1; end = suc x.size })

  abbrev pub declared : LocalTree → Noted
  declared l =
      let o = object_of laid path (Numbers.Local l.object) in
      let x = initialised o l.initialiser in
      let p = (object_at laid o).place in
      let y = behind (one p Forms.Clear) x in
      record y {
        unended = y.unended ++ record {
          object = o;
          place = p;
          begins = 0;
          scope = record { first = 0; end = 1 };
          initialiser = initialiser_span l.initialiser x;
        } ∷ [];
      }

  abbrev pub all_declared : List LocalTree → Noted
  all_declared [] = nothing
  all_declared (l ∷ ls) = behind (declared l) (all_declared ls)

  -- ## Loops and `switch`

  -- where a `continue` goes to a step or a condition, control comes together there
  abbrev pub continued : ℕ → Noted
  continued zero = nothing
  continued (suc n) = skips nowhere (suc (suc n))

  -- the way back to the head, and the exit, to which so many others lead
  abbrev pub closed : ℕ → Left → Left
  closed others s = record {
    noted = behind s.noted (behind (skips nowhere (suc others)) (skips nowhere s.breaks));
    breaks = 0;
    continues = 0;
    returns = s.returns;
  }

  abbrev pub entered : Option RvalueTree → Noted
  entered None = nothing
  entered (Some e) = test_of e

  abbrev pub outs : Option RvalueTree → ℕ
  outs None = 0
  outs (Some e) = 1

  abbrev pub labels_tested : TypedCases → Noted
  labels_tested no_typed_cases = nothing
  labels_tested (and_typed_case (a_label z p) cs) = behind (tests p (Forms.Test false)) (labels_tested cs)
  labels_tested (and_typed_case (a_default_label p) cs) = labels_tested cs
  labels_tested (and_typed_case (a_labelled_step s) cs) = labels_tested cs

  abbrev pub has_default : TypedCases → Bool
  has_default no_typed_cases = false
  has_default (and_typed_case (a_label z p) cs) = has_default cs
  has_default (and_typed_case (a_default_label p) cs) = true
  has_default (and_typed_case (a_labelled_step s) cs) = has_default cs

  abbrev pub exit_of : Bool → Left → Left
  exit_of default s = record {
    noted = behind s.noted (behind (cond default nothing skip) (skips nowhere (suc s.breaks)));
    breaks = 0;
    continues = s.continues;
    returns = s.returns;
  }

  abbrev pub block : Left → Left
  block s = record s { noted = scoped s.noted }

  -- ## Statements

  abbrev pub returned : Option RvalueTree → Noted
  returned None = nothing
  returned (Some e) =
      behind (passing_if (differs (given laid is_open path e) (result_type laid (function_at laid path)))
      (rvalue_place e) (value_of true e)) (one (rvalue_place e) Forms.Copy)

  -- where a `continue` goes to the head of a loop, it makes an edge
  abbrev mutual
    pub statement : Bool → TypedTree → Left
    statement head (evaluates e) = goes_on (effect_of e)
    statement head (declares ls) = goes_on (all_declared ls)
    statement head (runs_block ss) = block (statements head ss)
    statement head (branches c s) = then_noted (left_behind (test_of c) (statement head s)) (skips nowhere 2)
    statement head (branches_else c s r) =
        then_noted (left_behind (test_of c) (in_turn (statement head s) (statement head r))) (skips nowhere 2)
    statement head (loops_while c s) = closed 1 (left_behind (behind skip (test_of c)) (statement true s))
    statement head (loops_do s c) =
        let x = statement false s in
        closed 1 (then_noted (left_behind skip x) (behind (continued x.continues) (test_of c)))
    statement head (loops_for first c step s) =
        let x = statement false s in
        block (in_turn (statement head first)
        (closed (outs c) (then_noted (left_behind (behind skip (entered c)) x)
        (behind (continued x.continues) (effect_of step)))))
    statement head (selects t e cs) =
        block (exit_of (has_default cs) (left_behind (behind (value_of true e) (labels_tested cs)) (cases head cs)))
    statement head breaks = record (goes_on nothing) { breaks = 1 }
    statement true continues = goes_on skip
    statement false continues = record (goes_on nothing) { continues = 1 }
    statement head (returns e) = record (goes_on (returned e)) { returns = 1 }
    statement head (locks m p) = goes_on (one p Forms.Lock)
    statement head (unlocks m p) = goes_on (one p Forms.Unlock)
    statement head yields = goes_on (one nowhere Forms.Yield)

    pub statements : Bool → TypedTrees → Left
    statements head no_statements = goes_on nothing
    statements head (and_statement s ss) = in_turn (statement head s) (statements head ss)

    pub case_of : Bool → TypedCase → Left
    case_of head (a_label z p) = goes_on (behind (one p Forms.Skip) (one p Forms.Skip))
    case_of head (a_default_label p) = goes_on (behind (one p Forms.Skip) (one p Forms.Skip))
    case_of head (a_labelled_step s) = statement head s

    pub cases : Bool → TypedCases → Left
    cases head no_typed_cases = goes_on nothing
    cases head (and_typed_case c cs) = in_turn (case_of head c) (cases head cs)
