-- What is asked of typed trees, of those that are well formed, mention what there is, and have their labels in place.
use Rattle.std.proofs.Common.{◌≡◌, ℕ, ◌<◌, Bool, true, List, [], ◌∷◌}
use Rattle.std.specs.Prelude.{ℤ, All, slice_get, Option, Some, None}
use Rattle.std.proofs.lemmas.List.Elements.{All-nil, All-cons, All-head, All-tail}
use Rattle.call_graph.specs.tm_cint.declared.int_types.IntType.{IntType}
use Rattle.call_graph.specs.tm_cint.declared.int_types.IntType.TheVariants as Ints
use Rattle.call_graph.specs.tm_typed.declared.expressions.Unary.{Unary}
use Rattle.call_graph.specs.tm_typed.declared.scopes.ObjectNumber.TheVariants.{Local}
use Rattle.call_graph.specs.tm_typed.TypedTrees.{RvalueTree, a_constant, a_folded, a_null, a_load, an_address}
use Rattle.call_graph.specs.tm_typed.TypedTrees.{a_structure}
use Rattle.call_graph.specs.tm_typed.TypedTrees.{the_same, a_unary, a_binary, a_comparison_of_pointers, a_move, a_not}
use Rattle.call_graph.specs.tm_typed.TypedTrees.{an_and}
use Rattle.call_graph.specs.tm_typed.TypedTrees.{an_or, a_choice, an_assignment, a_compound, a_compound_move}
use Rattle.call_graph.specs.tm_typed.TypedTrees.{a_unit_step}
use Rattle.call_graph.specs.tm_typed.TypedTrees.{a_pointer_step, a_function_call, an_input_value, a_probe, a_comma}
use Rattle.call_graph.specs.tm_typed.TypedTrees.{a_conversion}
use Rattle.call_graph.specs.tm_typed.TypedTrees.{a_discard, LvalueTree, an_object, an_element, a_pointed_element}
use Rattle.call_graph.specs.tm_typed.TypedTrees.{a_pointed}
use Rattle.call_graph.specs.tm_typed.TypedTrees.{an_arrow, a_part, RvalueTrees, no_rvalues, and_rvalue}
use Rattle.call_graph.specs.tm_typed.TypedStatements.{GivenTree, LocalInitialiserTree, LocalTree, TypedTree, evaluates}
use Rattle.call_graph.specs.tm_typed.TypedStatements.{declares}
use Rattle.call_graph.specs.tm_typed.TypedStatements.{runs_block, branches, branches_else, loops_while, loops_do}
use Rattle.call_graph.specs.tm_typed.TypedStatements.{loops_for}
use Rattle.call_graph.specs.tm_typed.TypedStatements.{selects, breaks, continues, returns, locks, unlocks, yields}
use Rattle.call_graph.specs.tm_typed.TypedStatements.{TypedTrees}
use Rattle.call_graph.specs.tm_typed.TypedStatements.{no_statements, and_statement, a_label, a_default_label}
use Rattle.call_graph.specs.tm_typed.TypedStatements.{a_labelled_step, TypedCases, no_typed_cases, and_typed_case}
use Rattle.call_graph.specs.tm_typed.StatementRules.{Labels, no_labels, with_label}
use Rattle.call_graph.specs.tm_typed.WellTyped.{ValueKind, a_number, a_pointer, kind_of_scalar, Context, IsRvalue}
use Rattle.call_graph.specs.tm_typed.WellTyped.{IsLvalue, AreArguments}
use Rattle.typed_file_laws.specs.typing_laws.Placement.{AreDifferent, HaveLabels, HaveAllLabels, HaveCaseLabels}
use Rattle.typed_file_laws.specs.Lawful.{IsNumber}
use Rattle.typed_file_laws.specs.Bodies as Typed
use Rattle.typed_file_laws.specs.Mentions.{WorksIn, Mentions, LvalueMentions, AllMention, MayMention, GivenMention}
use Rattle.typed_file_laws.specs.Mentions.{StatementMentions, StatementsMention, CasesMention}
use Rattle.lowering.proofs.Demands.{Demands, Asks, LvalueAsks, AllAsk, MayAsk, CellsAsk, LocalAsks, StatementAsks}
use Rattle.lowering.proofs.Demands.{StatementsAsk, CasesAsk}
use Rattle.lowering_laws.proofs.Firsts.{IsFirst, HaveFirsts, HaveAllFirsts, HaveCaseFirsts}

-- What is asked of operators, labels, mutexes, sites and local objects holds of those of typed trees in this context,
-- whose calls are these.
pub record AreKept (d : Demands) (S L : ℕ → Type 0) (w : Context) (calls : List ℕ) : Type 0 where
  pub unary : (o : Unary) (t : IntType) → WorksIn o t → d.unary o t
  pub label : (z : ℤ) → IsNumber z → d.label z
  pub mutex : (m : ℕ) → m < w.mutexes → d.mutex m
  pub site : (s f : ℕ) → slice_get calls s ≡ Some f → S s
  pub local : (k n : ℕ) → w.type_of (Local k) ≡ Some n → L k

module _ (d : Demands) (S L : ℕ → Type 0) (w : Context) (defined : ℕ → Bool) (calls : List ℕ)
    (kept : AreKept d S L w calls) where
  mutual
    asked : (k : ValueKind) (e : RvalueTree) → IsRvalue w k e → Mentions defined calls e → Asks d S L e
    asked k (a_constant t z p) h m = tt
    asked k (a_folded z e) h m = asked (a_number Ints.Int) e h.2 m
    asked k (a_null p) h m = tt
    asked k (a_load s v l) h m = asked_at h.0 l h.3 m.1
    asked k (an_address l p) h m = asked_at h.0 l h.2 m
    asked k (a_structure l) h m = asked_at h.0 l h.2 m
    asked k (the_same e p) h m = asked k e h m
    asked k (a_unary o t e p) h m = (kept.unary o t m.0, asked (a_number t) e h.1 m.1)
    asked k (a_binary o t l r p) h m = (asked (a_number t) l h.3 m.0, asked (a_number h.0) r h.4 m.1)
    asked k (a_comparison_of_pointers b l r p) h m = (asked a_pointer l h.1 m.0, asked a_pointer r h.2 m.1)
    asked k (a_move b c f e i p) h m = (asked a_pointer e h.2 m.0, asked (a_number h.0) i h.3 m.1)
    asked k (a_not e p) h m = asked h.0 e h.3 m
    asked k (an_and l r p) h m = (asked h.0 l h.5 m.0, asked h.1 r h.6 m.1)
    asked k (an_or l r p) h m = (asked h.0 l h.5 m.0, asked h.1 r h.6 m.1)
    asked k (a_choice c x y p) h m = (asked h.0 c h.2 m.0, asked k x h.3 m.1, asked k y h.4 m.2)
    asked k (an_assignment s l e p) h m = (asked_at h.0 l h.3 m.0, asked k e h.4 m.1)
    asked k (a_compound o c t v l e p) h m = (asked_at h.0 l h.5 m.0, asked (a_number h.1) e h.6 m.1)
    asked k (a_compound_move b c n l e p) h m = (asked_at h.0 l h.4 m.0, asked (a_number h.1) e h.5 m.1)
    asked k (a_unit_step s c t v l p) h m = asked_at h.0 l h.3 m
    asked k (a_pointer_step s c n l p) h m = asked_at h.0 l h.3 m
    asked k (a_function_call f site es p) h m = (kept.site site f m.0, all_asked h.0.parameters es h.3 m.1)
    asked k (an_input_value low high p) h m = tt
    asked k (a_probe n p) h m = kept.mutex n h.1
    asked k (a_comma l r p) h m = (asked h.0 l h.1 m.0, asked k r h.2 m.1)
    asked k (a_conversion f t e p) h m = asked (a_number f) e h.1 m
    asked k (a_discard e p) h m = asked h.0 e h.2 m

    asked_at : (n : ℕ) (l : LvalueTree) → IsLvalue w n l → LvalueMentions defined calls l → LvalueAsks d S L l
    asked_at n (an_object o p) h m = tt
    asked_at n (an_element l i s c p) h m = (asked_at h.0 l h.5 m.0, asked (a_number h.1) i h.6 m.1)
    asked_at n (a_pointed_element e i c t p) h m = (asked a_pointer e h.4 m.0, asked (a_number h.0) i h.5 m.1)
    asked_at n (a_pointed e t p) h m = asked a_pointer e h.2 m
    asked_at n (an_arrow e t c p) h m = asked a_pointer e h.3 m
    asked_at n (a_part l c p) h m = asked_at h.0 l h.4 m

    all_asked : (ns : List ℕ) (es : RvalueTrees) → AreArguments w ns es → AllMention defined calls es → AllAsk d S L es
    all_asked ns no_rvalues h m = tt
    all_asked [] (and_rvalue e es) h m = absurd h
    all_asked (n ∷ ns) (and_rvalue e es) h m = (asked (kind_of_scalar h.0) e h.2 m.0, all_asked ns es h.3 m.1)

  given_asked : (gs : List GivenTree) → All (Typed.IsGivenCell w) gs → All (λ g. Mentions defined calls g.value) gs
      → All (λ g. Asks d S L g.value) gs
  given_asked [] h m = All-nil (λ (g : GivenTree). Asks d S L g.value)
  given_asked (g ∷ gs) h m =
      let P : GivenTree → Type 0 = λ x. Mentions defined calls x.value in
      All-cons (λ (x : GivenTree). Asks d S L x.value) g gs
      (asked (kind_of_scalar g.scalar) g.value (All-head (Typed.IsGivenCell w) g gs h) (All-head P g gs m))
      (given_asked gs (All-tail (Typed.IsGivenCell w) g gs h) (All-tail P g gs m))

  cells_asked : (i : Option LocalInitialiserTree) → Typed.AreGivenBy w i → GivenMention defined calls i
      → CellsAsk d S L i
  cells_asked None h m = tt
  cells_asked (Some i) h m = given_asked i.given h m

  locals_asked : (ls : List LocalTree) → All (Typed.IsLocal w) ls
      → All (λ l. GivenMention defined calls l.initialiser) ls → All (LocalAsks d S L) ls
  locals_asked [] h m = All-nil (LocalAsks d S L)
  locals_asked (l ∷ ls) h m =
      let P : LocalTree → Type 0 = λ x. GivenMention defined calls x.initialiser in
      let is : Typed.IsLocal w l = All-head (Typed.IsLocal w) l ls h in
      All-cons (LocalAsks d S L) l ls
      (kept.local l.object is.type is.object, cells_asked l.initialiser is.given (All-head P l ls m))
      (locals_asked ls (All-tail (Typed.IsLocal w) l ls h) (All-tail P l ls m))

  effect_asked : (e : Option RvalueTree) → Typed.IfGiven (Typed.IsAnyRvalue w) e → MayMention defined calls e
      → MayAsk d S L e
  effect_asked None h m = tt
  effect_asked (Some e) h m = asked h.0 e h.1 m

  test_asked : (e : Option RvalueTree) → Typed.IfGiven (Typed.IsTest w) e → MayMention defined calls e → MayAsk d S L e
  test_asked None h m = tt
  test_asked (Some e) h m = asked h.0 e h.2 m

  module _ (result : ℕ) where
    returned_asked : (e : Option RvalueTree) → Typed.IsReturned w result e → MayMention defined calls e
        → MayAsk d S L e
    returned_asked None h m = tt
    returned_asked (Some e) h m = asked (kind_of_scalar h.0) e h.2 m

    -- what stands first in a `for` has no labels
    first_asked : (s : TypedTree) → IsFirst s → Typed.IsStatement w result s → StatementMentions defined calls s
        → StatementAsks d S L s
    first_asked (evaluates e) f h m = effect_asked e h m
    first_asked (declares ls) f h m = locals_asked ls h m
    first_asked _ f h m = absurd f

    mutual
      statement_asked : (s : TypedTree) → Typed.IsStatement w result s → StatementMentions defined calls s
          → HaveLabels s → HaveFirsts s → StatementAsks d S L s
      statement_asked (evaluates e) h m l f = effect_asked e h m
      statement_asked (declares ls) h m l f = locals_asked ls h m
      statement_asked (runs_block ss) h m l f = statements_asked ss h m l f
      statement_asked (branches c s) h m l f = (asked h.0.0 c h.0.2 m.0, statement_asked s h.1 m.1 l f)
      statement_asked (branches_else c s r) h m l f = (
        asked h.0.0 c h.0.2 m.0,
        statement_asked s h.1 m.1 l.0 f.0,
        statement_asked r h.2 m.2 l.1 f.1,
      )
      statement_asked (loops_while c s) h m l f = (asked h.0.0 c h.0.2 m.0, statement_asked s h.1 m.1 l f)
      statement_asked (loops_do s c) h m l f = (statement_asked s h.1 m.0 l f, asked h.0.0 c h.0.2 m.1)
      statement_asked (loops_for first c step s) h m l f = (
        first_asked first f.0 h.0 m.0,
        test_asked c h.1 m.1,
        effect_asked step h.2 m.2,
        statement_asked s h.3 m.3 l f.1,
      )
      statement_asked (selects t e cs) h m l f =
          (asked (a_number t) e h.0 m.0, cases_asked t no_labels cs h.1 m.1 l.0 l.1 f)
      statement_asked breaks h m l f = tt
      statement_asked continues h m l f = tt
      statement_asked (returns e) h m l f = returned_asked e h m
      statement_asked (locks n p) h m l f = kept.mutex n h
      statement_asked (unlocks n p) h m l f = kept.mutex n h
      statement_asked yields h m l f = tt

      pub statements_asked : (ss : TypedTrees) → Typed.AreStatements w result ss → StatementsMention defined calls ss
          → HaveAllLabels ss → HaveAllFirsts ss → StatementsAsk d S L ss
      statements_asked no_statements h m l f = tt
      statements_asked (and_statement s ss) h m l f =
          (statement_asked s h.0 m.0 l.0 f.0, statements_asked ss h.1 m.1 l.1 f.1)

      cases_asked : (t : IntType) (before : Labels) (cs : TypedCases) → Typed.AreParts w result cs
          → CasesMention defined calls cs → AreDifferent t before cs → HaveCaseLabels cs → HaveCaseFirsts cs
          → CasesAsk d S L cs
      cases_asked t before no_typed_cases h m x l f = tt
      cases_asked t before (and_typed_case (a_label z p) cs) h m x l f = (
        kept.label z (record { type = t; within = x.0 }),
        cases_asked t (with_label before z) cs h.1 m.1 x.2 l f.1,
      )
      cases_asked t before (and_typed_case (a_default_label p) cs) h m x l f =
          (tt, cases_asked t (record before { has_default = true }) cs h.1 m.1 x.1 l f.1)
      cases_asked t before (and_typed_case (a_labelled_step s) cs) h m x l f =
          (statement_asked s h.0 m.0 l.0 f.0, cases_asked t before cs h.1 m.1 x l.1 f.1)
