-- Where jumps stand, and how the labels of a `switch` are.
use Rattle.std.specs.Prelude.{◌≡◌, ℤ, Bool, true, false, ◌||◌, List, [], ◌∷◌, ◌++◌, Option, Some, None, Result, Ok}
use Rattle.tm_typed.specs.tm_cint.declared.int_types.IntType.{IntType}
use Rattle.tm_typed.specs.tm_cint.IntTypes.{IsIn}
use Rattle.tm_typed.specs.tm_trees.FileTrees.{StatementTree}
use Rattle.tm_typed.specs.States.{State}
use Rattle.tm_typed.specs.TypedStatements.{TypedTree, evaluates, declares, runs_block, branches, branches_else}
use Rattle.tm_typed.specs.TypedStatements.{loops_while, loops_do, loops_for, selects, breaks, continues, returns, locks}
use Rattle.tm_typed.specs.TypedStatements.{unlocks, yields, TypedTrees, no_statements, and_statement, TypedCase}
use Rattle.tm_typed.specs.TypedStatements.{a_label, a_default_label, a_labelled_step, TypedCases, no_typed_cases}
use Rattle.tm_typed.specs.TypedStatements.{and_typed_case}
use Rattle.tm_typed.specs.StatementRules.{Around, looping, switching, Labels, no_labels, with_label, is_labelled}
use Rattle.tm_typed.specs.StatementTyping.{statement_in}

-- ## Jumps (C99 6.8.6)

abbrev mutual
  -- each `break` and each `continue` of the statement stands where it may
  pub ArePlaced : Around → TypedTree → Type 0
  ArePlaced around (evaluates e) = Unit {0}
  ArePlaced around (declares ls) = Unit {0}
  ArePlaced around (runs_block ss) = AreAllPlaced around ss
  ArePlaced around (branches e s) = ArePlaced around s
  ArePlaced around (branches_else e s t) = ArePlaced around s × ArePlaced around t
  ArePlaced around (loops_while e s) = ArePlaced (looping around) s
  ArePlaced around (loops_do s e) = ArePlaced (looping around) s
  ArePlaced around (loops_for f c e s) = ArePlaced around f × ArePlaced (looping around) s
  ArePlaced around (selects t e cs) = AreCasesPlaced (switching around) cs
  ArePlaced around breaks = (around.in_loop || around.in_switch) ≡ true
  ArePlaced around continues = around.in_loop ≡ true
  ArePlaced around (returns e) = Unit {0}
  ArePlaced around (locks m p) = Unit {0}
  ArePlaced around (unlocks m p) = Unit {0}
  ArePlaced around yields = Unit {0}

  pub AreAllPlaced : Around → TypedTrees → Type 0
  AreAllPlaced around no_statements = Unit {0}
  AreAllPlaced around (and_statement s ss) = ArePlaced around s × AreAllPlaced around ss

  pub AreCasesPlaced : Around → TypedCases → Type 0
  AreCasesPlaced around no_typed_cases = Unit {0}
  AreCasesPlaced around (and_typed_case c cs) = IsCasePlaced around c × AreCasesPlaced around cs

  pub IsCasePlaced : Around → TypedCase → Type 0
  IsCasePlaced around (a_label z p) = Unit {0}
  IsCasePlaced around (a_default_label p) = Unit {0}
  IsCasePlaced around (a_labelled_step s) = ArePlaced around s

abbrev pub JumpsStand : Type 0
JumpsStand = (s t : State) (around : Around) (source : StatementTree) (typed : TypedTree)
    → statement_in s around source ≡ Ok (typed, t) → ArePlaced around typed

-- ## Labels (C99 6.8.4.2)

-- the labels behind those before: none equals an earlier one, they lie in the type, and there is one `default`
abbrev pub AreDifferent : IntType → Labels → TypedCases → Type 0
AreDifferent t before no_typed_cases = Unit {0}
AreDifferent t before (and_typed_case (a_label z p) cs) = IsIn t z × (is_labelled before.values z ≡ false)
    × AreDifferent t (with_label before z) cs
AreDifferent t before (and_typed_case (a_default_label p) cs) = (before.has_default ≡ false) × AreDifferent t
    (record before { has_default = true }) cs
AreDifferent t before (and_typed_case (a_labelled_step s) cs) = AreDifferent t before cs

abbrev mutual
  pub HaveLabels : TypedTree → Type 0
  HaveLabels (evaluates e) = Unit {0}
  HaveLabels (declares ls) = Unit {0}
  HaveLabels (runs_block ss) = HaveAllLabels ss
  HaveLabels (branches e s) = HaveLabels s
  HaveLabels (branches_else e s t) = HaveLabels s × HaveLabels t
  HaveLabels (loops_while e s) = HaveLabels s
  HaveLabels (loops_do s e) = HaveLabels s
  HaveLabels (loops_for f c e s) = HaveLabels s
  HaveLabels (selects t e cs) = AreDifferent t no_labels cs × HaveCaseLabels cs
  HaveLabels breaks = Unit {0}
  HaveLabels continues = Unit {0}
  HaveLabels (returns e) = Unit {0}
  HaveLabels (locks m p) = Unit {0}
  HaveLabels (unlocks m p) = Unit {0}
  HaveLabels yields = Unit {0}

  pub HaveAllLabels : TypedTrees → Type 0
  HaveAllLabels no_statements = Unit {0}
  HaveAllLabels (and_statement s ss) = HaveLabels s × HaveAllLabels ss

  pub HaveCaseLabels : TypedCases → Type 0
  HaveCaseLabels no_typed_cases = Unit {0}
  HaveCaseLabels (and_typed_case (a_label z p) cs) = HaveCaseLabels cs
  HaveCaseLabels (and_typed_case (a_default_label p) cs) = HaveCaseLabels cs
  HaveCaseLabels (and_typed_case (a_labelled_step s) cs) = HaveLabels s × HaveCaseLabels cs

abbrev pub LabelsDiffer : Type 0
LabelsDiffer = (s t : State) (around : Around) (source : StatementTree) (typed : TypedTree)
    → statement_in s around source ≡ Ok (typed, t) → HaveLabels typed
