-- The statements of a typed body can be lowered.
use Rattle.std.proofs.Common.{◌≡◌, refl, sym, ap, ◌∙◌, ℕ, Bool, true, false, List, [], ◌∷◌}
use Rattle.std.specs.Prelude.{◌||◌, All, Option, Some, None}
use Rattle.std.proofs.lemmas.Bool.{true≢false}
use Rattle.std.proofs.lemmas.List.Elements.{All-head, All-tail}
use Rattle.call_graph.specs.tm_cint.declared.int_types.IntType.{IntType}
use Rattle.call_graph.specs.tm_typed.Scopes.{ctype_of}
use Rattle.call_graph.specs.tm_typed.TypedTrees.{RvalueTree}
use Rattle.call_graph.specs.tm_typed.TypedStatements.{GivenTree, LocalInitialiserTree, LocalTree, TypedTree, evaluates}
use Rattle.call_graph.specs.tm_typed.TypedStatements.{declares}
use Rattle.call_graph.specs.tm_typed.TypedStatements.{runs_block, branches, branches_else, loops_while, loops_do}
use Rattle.call_graph.specs.tm_typed.TypedStatements.{loops_for}
use Rattle.call_graph.specs.tm_typed.TypedStatements.{selects, breaks, continues, returns, locks, unlocks, yields}
use Rattle.call_graph.specs.tm_typed.TypedStatements.{TypedTrees}
use Rattle.call_graph.specs.tm_typed.TypedStatements.{no_statements, and_statement, a_label, a_default_label}
use Rattle.call_graph.specs.tm_typed.TypedStatements.{a_labelled_step, TypedCases, no_typed_cases, and_typed_case}
use Rattle.call_graph.specs.tm_typed.StatementRules.{Around, looping, switching, Labels, no_labels, with_label}
use Rattle.call_graph.specs.tm_typed.WellTyped.{a_number, Context}
use Rattle.typed_file_laws.specs.typing_laws.Placement.{ArePlaced, AreAllPlaced, AreCasesPlaced, AreDifferent}
use Rattle.typed_file_laws.specs.typing_laws.Placement.{HaveLabels, HaveAllLabels, HaveCaseLabels}
use Rattle.cell_layout.specs.tm_laid.Layouts.{LaidTree}
use Rattle.typed_file_laws.specs.Bodies as Typed
use Rattle.typed_file_laws.specs.Mentions.{Mentions, MayMention, GivenMention, StatementMentions, StatementsMention}
use Rattle.typed_file_laws.specs.Mentions.{CasesMention}
use Rattle.lowering.specs.Table.{is_value_type}
use Rattle.lowering.specs.Lowerable.{Used, AllGiven, IsInitialiser, AllLocals, IsEffect, IsTest, IsReturned}
use Rattle.lowering.specs.Lowerable.{HasNoDefault, HasOneDefault, IsStatement, AreStatements, AreCases}
use Rattle.lowering_laws.proofs.Firsts.{IsFirst, HaveFirsts, HaveAllFirsts, HaveCaseFirsts}
use Rattle.lowering_laws.proofs.Operands.{AreCalled, valued, scalar_used, condition_used}

or_true : (b : Bool) → (b || true) ≡ true
or_true true = refl
or_true false = refl

module _ (laid : LaidTree) (path : ℕ) where
  -- ## Labels

  no_default : (t : IntType) (before : Labels) (cs : TypedCases) → before.has_default ≡ true
      → AreDifferent t before cs → HasNoDefault laid path cs
  no_default t before no_typed_cases e h = tt
  no_default t before (and_typed_case (a_label z p) cs) e h = no_default t (with_label before z) cs e h.2
  no_default t before (and_typed_case (a_default_label p) cs) e h = absurd (true≢false (sym e ∙ h.0))
  no_default t before (and_typed_case (a_labelled_step s) cs) e h = no_default t before cs e h

  one_default : (t : IntType) (before : Labels) (cs : TypedCases) → AreDifferent t before cs
      → HasOneDefault laid path cs
  one_default t before no_typed_cases h = tt
  one_default t before (and_typed_case (a_label z p) cs) h = one_default t (with_label before z) cs h.2
  one_default t before (and_typed_case (a_default_label p) cs) h =
      no_default t (record before { has_default = true }) cs refl h.1
  one_default t before (and_typed_case (a_labelled_step s) cs) h = one_default t before cs h

module _ (laid : LaidTree) (path : ℕ) (w : Context) (result : ℕ) (defined : ℕ → Bool) (calls : List ℕ)
    (called : AreCalled laid path w calls) where
  -- ## Expressions as parts of statements

  tested : (e : RvalueTree) → Typed.IsTest w e → Mentions defined calls e → Used laid path e
  tested e h m = condition_used laid path w defined calls called h.0 e h.1 h.2 m

  may_be_tested : (e : Option RvalueTree) → Typed.IfGiven (Typed.IsTest w) e → MayMention defined calls e
      → IsTest laid path e
  may_be_tested None h m = tt
  may_be_tested (Some e) h m = tested e h m

  effect : (e : Option RvalueTree) → Typed.IfGiven (Typed.IsAnyRvalue w) e → MayMention defined calls e
      → IsEffect laid path e
  effect None h m = tt
  effect (Some e) h m = valued laid path w defined calls called h.0 e h.1 m

  all_given : (gs : List GivenTree) → All (Typed.IsGivenCell w) gs → All (λ g. Mentions defined calls g.value) gs
      → AllGiven laid path gs
  all_given [] h m = tt
  all_given (g ∷ gs) h m =
      let P : GivenTree → Type 0 = λ x. Mentions defined calls x.value in (
        scalar_used laid path w defined calls called g.scalar g.value (All-head (Typed.IsGivenCell w) g gs h)
            (All-head P g gs m),
        all_given gs (All-tail (Typed.IsGivenCell w) g gs h) (All-tail P g gs m),
      )

  initialised : (i : Option LocalInitialiserTree) → Typed.AreGivenBy w i → GivenMention defined calls i
      → IsInitialiser laid path i
  initialised None h m = tt
  initialised (Some i) h m = all_given i.given h m

  all_locals : (ls : List LocalTree) → All (Typed.IsLocal w) ls → All (λ l. GivenMention defined calls l.initialiser) ls
      → AllLocals laid path ls
  all_locals [] h m = tt
  all_locals (l ∷ ls) h m =
      let P : LocalTree → Type 0 = λ x. GivenMention defined calls x.initialiser in
      let is : Typed.IsLocal w l = All-head (Typed.IsLocal w) l ls h in (
        initialised l.initialiser is.given (All-head P l ls m),
        all_locals ls (All-tail (Typed.IsLocal w) l ls h) (All-tail P l ls m),
      )

  abbrev is_valued : Bool
  is_valued = is_value_type (ctype_of w.scope result)

  returned : (e : Option RvalueTree) → Typed.IsReturned w result e → MayMention defined calls e
      → IsReturned laid path is_valued e
  returned None h m = ap is_value_type h
  returned (Some e) h m = scalar_used laid path w defined calls called h.0 e h.2 m

  -- what stands first in a `for`
  first : (br co : Bool) (f : TypedTree) → IsFirst f → Typed.IsStatement w result f → StatementMentions defined calls f
      → IsStatement laid path is_valued br co f
  first br co (evaluates e) i h m = effect e h m
  first br co (declares ls) i h m = all_locals ls h m
  first br co _ i h m = absurd i

  -- ## Statements

  mutual
    statement : (around : Around) (br co : Bool) → (around.in_loop || around.in_switch) ≡ br → around.in_loop ≡ co
        → (s : TypedTree) → Typed.IsStatement w result s → StatementMentions defined calls s → ArePlaced around s
        → HaveLabels s → HaveFirsts s → IsStatement laid path is_valued br co s
    statement around br co b c (evaluates e) h m j l f = effect e h m
    statement around br co b c (declares ls) h m j l f = all_locals ls h m
    statement around br co b c (runs_block ss) h m j l f = statements around br co b c ss h m j l f
    statement around br co b c (branches e s) h m j l f =
        (tested e h.0 m.0, statement around br co b c s h.1 m.1 j l f)
    statement around br co b c (branches_else e s t) h m j l f = (
      tested e h.0 m.0,
      statement around br co b c s h.1 m.1 j.0 l.0 f.0,
      statement around br co b c t h.2 m.2 j.1 l.1 f.1,
    )
    statement around br co b c (loops_while e s) h m j l f =
        (tested e h.0 m.0, statement (looping around) true true refl refl s h.1 m.1 j l f)
    statement around br co b c (loops_do s e) h m j l f =
        (statement (looping around) true true refl refl s h.1 m.0 j l f, tested e h.0 m.1)
    statement around br co b c (loops_for x e d s) h m j l f = (
      first br co x f.0 h.0 m.0,
      may_be_tested e h.1 m.1,
      effect d h.2 m.2,
      statement (looping around) true true refl refl s h.3 m.3 j.1 l f.1,
    )
    statement around br co b c (selects t e cs) h m j l f = (
      condition_used laid path w defined calls called (a_number t) e tt h.0 m.0,
      one_default laid path t no_labels cs l.0,
      cases (switching around) true co (or_true around.in_loop) c cs h.1 m.1 j l.1 f,
    )
    statement around br co b c breaks h m j l f = sym b ∙ j
    statement around br co b c continues h m j l f = sym c ∙ j
    statement around br co b c (returns e) h m j l f = returned e h m
    statement around br co b c (locks n p) h m j l f = tt
    statement around br co b c (unlocks n p) h m j l f = tt
    statement around br co b c yields h m j l f = tt

    pub statements : (around : Around) (br co : Bool) → (around.in_loop || around.in_switch) ≡ br → around.in_loop ≡ co
        → (ss : TypedTrees) → Typed.AreStatements w result ss → StatementsMention defined calls ss
        → AreAllPlaced around ss → HaveAllLabels ss → HaveAllFirsts ss → AreStatements laid path is_valued br co ss
    statements around br co b c no_statements h m j l f = tt
    statements around br co b c (and_statement s ss) h m j l f =
        (statement around br co b c s h.0 m.0 j.0 l.0 f.0, statements around br co b c ss h.1 m.1 j.1 l.1 f.1)

    cases : (around : Around) (br co : Bool) → (around.in_loop || around.in_switch) ≡ br → around.in_loop ≡ co
        → (cs : TypedCases) → Typed.AreParts w result cs → CasesMention defined calls cs → AreCasesPlaced around cs
        → HaveCaseLabels cs → HaveCaseFirsts cs → AreCases laid path is_valued br co cs
    cases around br co b c no_typed_cases h m j l f = tt
    cases around br co b c (and_typed_case (a_label z p) cs) h m j l f =
        (tt, cases around br co b c cs h.1 m.1 j.1 l f.1)
    cases around br co b c (and_typed_case (a_default_label p) cs) h m j l f =
        (tt, cases around br co b c cs h.1 m.1 j.1 l f.1)
    cases around br co b c (and_typed_case (a_labelled_step s) cs) h m j l f =
        (statement around br co b c s h.0 m.0 j.0 l.0 f.0, cases around br co b c cs h.1 m.1 j.1 l.1 f.1)
