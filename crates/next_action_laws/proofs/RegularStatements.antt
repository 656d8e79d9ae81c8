-- Typed statements are regular.
use Rattle.std.proofs.Common.{◌≡◌, refl, sym, ℕ, Bool, true, not, ◌||◌, List, [], ◌∷◌, ◌++◌, Option, Some, None, arith}
use Rattle.std.specs.Prelude.{ℤ, Result, Ok}
use Rattle.std.proofs.lemmas.Bool.{not-false}
use Rattle.std.proofs.lemmas.List.{append-nil}
use Rattle.std.proofs.lemmas.List.Elements.{All-weaker}
use Rattle.cell_layout.specs.tm_cint.declared.int_types.IntType.{IntType}
use Rattle.cell_layout.specs.tm_cint.IntTypes.{IsIn}
use Rattle.cell_layout.specs.tm_cint.Conversions.{converted_value}
use Rattle.cell_layout.specs.tm_terms.declared.places.Place.{Place}
use Rattle.cell_layout.specs.tm_terms.declared.refusals.Kind.TheVariants as Kinds
use Rattle.cell_layout.specs.tm_terms.declared.refusals.Refusal.{Refusal}
use Rattle.cell_layout.specs.tm_terms.ExprTrees.{Tree, place_of}
use Rattle.cell_layout.specs.tm_trees.FileTrees.{ForFirstTree, by_expression, by_declaration, StatementTree, a_block}
use Rattle.cell_layout.specs.tm_trees.FileTrees.{a_value}
use Rattle.cell_layout.specs.tm_trees.FileTrees.{an_if, an_if_else, a_while, a_do, a_for, a_switch, a_break, a_continue}
use Rattle.cell_layout.specs.tm_trees.FileTrees.{a_return}
use Rattle.cell_layout.specs.tm_trees.FileTrees.{a_lock, an_unlock, a_yield, PartTree, a_local, a_step, PartTrees}
use Rattle.cell_layout.specs.tm_trees.FileTrees.{no_parts}
use Rattle.cell_layout.specs.tm_trees.FileTrees.{and_part, CaseTree, a_case, a_default, a_case_step, CaseTrees}
use Rattle.cell_layout.specs.tm_trees.FileTrees.{no_cases, and_case}
use Rattle.cell_layout.specs.tm_typed.declared.scopes.ObjectNumber.TheVariants as Objects
use Rattle.cell_layout.specs.tm_typed.Scopes.{named}
use Rattle.cell_layout.specs.tm_typed.TypedTrees.{RvalueTree, Rated}
use Rattle.cell_layout.specs.tm_typed.Operands.{valued, given, is_structure}
use Rattle.cell_layout.specs.tm_typed.Refusals.{then_with, row}
use Rattle.cell_layout.specs.tm_typed.States.{State}
use Rattle.cell_layout.specs.tm_typed.Evaluation.{folded_value}
use Rattle.cell_layout.specs.tm_typed.Declarations.{Locals, local_declaration}
use Rattle.cell_layout.specs.tm_typed.TypedStatements.{LocalInitialiserTree, LocalTree, TypedTree, evaluates, declares}
use Rattle.cell_layout.specs.tm_typed.TypedStatements.{runs_block}
use Rattle.cell_layout.specs.tm_typed.TypedStatements.{branches, branches_else, loops_while, loops_do, loops_for}
use Rattle.cell_layout.specs.tm_typed.TypedStatements.{selects, breaks}
use Rattle.cell_layout.specs.tm_typed.TypedStatements.{continues, returns, locks, unlocks, yields, TypedTrees}
use Rattle.cell_layout.specs.tm_typed.TypedStatements.{no_statements}
use Rattle.cell_layout.specs.tm_typed.TypedStatements.{and_statement, TypedCase, a_label, a_default_label}
use Rattle.cell_layout.specs.tm_typed.TypedStatements.{a_labelled_step}
use Rattle.cell_layout.specs.tm_typed.TypedStatements.{TypedCases, no_typed_cases, and_typed_case}
use Rattle.cell_layout.specs.tm_typed.StatementRules.{Around, looping, switching, condition_rules, Selector}
use Rattle.cell_layout.specs.tm_typed.StatementRules.{selector_rules, Labels}
use Rattle.cell_layout.specs.tm_typed.StatementRules.{no_labels, with_label, is_labelled, label_rules, default_rules}
use Rattle.cell_layout.specs.tm_typed.StatementRules.{return_rules}
use Rattle.cell_layout.specs.tm_typed.StatementRules.{return_value_rules, mutex_rules}
use Rattle.cell_layout.specs.tm_typed.StatementTyping.{value_in, condition_in, optional_value_in, optional_condition_in}
use Rattle.cell_layout.specs.tm_typed.StatementTyping.{return_in}
use Rattle.cell_layout.specs.tm_typed.StatementTyping.{selector_in, label_in, first_in, enter, leave, statement_in}
use Rattle.cell_layout.specs.tm_typed.StatementTyping.{part_in}
use Rattle.cell_layout.specs.tm_typed.StatementTyping.{parts_in, case_in, cases_in}
use Rattle.cell_layout.specs.tm_typed.WellTyped.{OnAnswer, Context}
use Rattle.typed_file_laws.specs.Tables.{AreLawfulTables}
use Rattle.typed_file_laws.specs.Lawful.{context, IsLawfulState}
use Rattle.typed_file_laws.proofs.low.c_folds.ConvertedValues.{converted_is_in}
use Rattle.typed_file_laws.proofs.low.typing_laws.Steps.{then_on, then_any}
use Rattle.typed_file_laws.proofs.RuleSteps.{on_row, on_row_unless, some_any}
use Rattle.typed_file_laws.proofs.TableGrowth.{TablesGrow}
use Rattle.typed_file_laws.proofs.StateSteps.{label_noted}
use Rattle.typed_file_laws.proofs.FileSteps.{both}
use Rattle.typed_file_laws.proofs.StatementSteps.{enter_lawful, leaves}
use Rattle.next_action_laws.specs.Regular.{GivesCells, IsRegular, AreRegular, AreRegularParts, IsRegularPart}
use Rattle.next_action_laws.proofs.RegularCells.{cells_stay_given, LocatesCells, declaration_cells}
use Rattle.next_action_laws.proofs.FilledStates.{AreFilledIn, same_objects, Further, further_by, further_none}
use Rattle.next_action_laws.proofs.FilledStates.{further_on}
use Rattle.next_action_laws.proofs.FilledStates.{further_same, evaluated_further}
use Rattle.next_action_laws.proofs.FilledDeclarations.{FurtherLocals, local_declaration_further}

-- ## Regular statements stay so

-- more is found: types stay, and so do the objects of a body
pub record Later (v w : Context) : Type 0 where
  pub lawful : AreLawfulTables v.scope
  pub grown : TablesGrow v.scope w.scope
  pub objects : (k n : ℕ) → v.type_of (Objects.Local k) ≡ Some n → w.type_of (Objects.Local k) ≡ Some n

later_by : (m : ℕ) (s t : State) → IsLawfulState m s → Further m s t → Later (context m s) (context m t)
later_by m s t h c = record {
  lawful = h.tables;
  grown = c.keeps.grown;
  objects = λ k n e. c.keeps.objects (Objects.Local k) n e;
}

given_later : (v w : Context) → Later v w → (k : ℕ) (i : Option LocalInitialiserTree) → GivesCells v k i
    → GivesCells w k i
given_later v w l k None g = tt
given_later v w l k (Some i) g =
    (g.0, l.objects k g.0 g.1, cells_stay_given v.scope w.scope l.lawful l.grown g.0 i.given g.2)

mutual
  pub regular_stays : (v w : Context) → Later v w → (loop switch : Bool) (s : TypedTree) → IsRegular v loop switch s
      → IsRegular w loop switch s
  regular_stays v w l loop switch (evaluates e) h = tt
  regular_stays v w l loop switch (declares ls) h =
      All-weaker (λ (x : LocalTree). GivesCells v x.object x.initialiser)
      (λ (x : LocalTree). GivesCells w x.object x.initialiser) (λ x y. given_later v w l x.object x.initialiser y)
      ls h
  regular_stays v w l loop switch (runs_block ss) h = all_stay v w l loop switch ss h
  regular_stays v w l loop switch (branches c s) h = regular_stays v w l loop switch s h
  regular_stays v w l loop switch (branches_else c s t) h =
      (regular_stays v w l loop switch s h.0, regular_stays v w l loop switch t h.1)
  regular_stays v w l loop switch (loops_while c s) h = regular_stays v w l true switch s h
  regular_stays v w l loop switch (loops_do s c) h = regular_stays v w l true switch s h
  regular_stays v w l loop switch (loops_for f c e s) h =
      (regular_stays v w l loop switch f h.0, regular_stays v w l true switch s h.1)
  regular_stays v w l loop switch (selects t e cs) h = parts_stay v w l loop true cs h
  regular_stays v w l loop switch breaks h = h
  regular_stays v w l loop switch continues h = h
  regular_stays v w l loop switch (returns e) h = tt
  regular_stays v w l loop switch (locks m p) h = tt
  regular_stays v w l loop switch (unlocks m p) h = tt
  regular_stays v w l loop switch yields h = tt

  pub all_stay : (v w : Context) → Later v w → (loop switch : Bool) (ss : TypedTrees) → AreRegular v loop switch ss
      → AreRegular w loop switch ss
  all_stay v w l loop switch no_statements h = tt
  all_stay v w l loop switch (and_statement s ss) h =
      (regular_stays v w l loop switch s h.0, all_stay v w l loop switch ss h.1)

  parts_stay : (v w : Context) → Later v w → (loop switch : Bool) (cs : TypedCases) → AreRegularParts v loop switch cs
      → AreRegularParts w loop switch cs
  parts_stay v w l loop switch no_typed_cases h = tt
  parts_stay v w l loop switch (and_typed_case c cs) h =
      (part_stays v w l loop switch c h.0, parts_stay v w l loop switch cs h.1)

  part_stays : (v w : Context) → Later v w → (loop switch : Bool) (c : TypedCase) → IsRegularPart v loop switch c
      → IsRegularPart w loop switch c
  part_stays v w l loop switch (a_label z p) h = tt
  part_stays v w l loop switch (a_default_label p) h = tt
  part_stays v w l loop switch (a_labelled_step s) h = regular_stays v w l loop switch s h

-- ## Expressions as parts of statements

value_follows : (m : ℕ) (s : State) (t : Tree) → IsLawfulState m s
    → OnAnswer (λ (a : RvalueTree × State). Further m s a.1) (value_in s t)
value_follows m s t h = evaluated_further m s t (λ (a : RvalueTree × State). Further m s a.1) _ h (λ a c o. c)

condition_follows : (m : ℕ) (s : State) (t : Tree) → IsLawfulState m s
    → OnAnswer (λ (a : RvalueTree × State). Further m s a.1) (condition_in s t)
condition_follows m s t h =
    evaluated_further m s t (λ (a : RvalueTree × State). Further m s a.1) _ h (λ a c o.
    then_any (λ (b : RvalueTree × State). Further m s b.1) (condition_rules (place_of t) (valued a.1.scope a.0))
    (λ e. Ok (e, a.1)) (λ e. c))

may_value : (m : ℕ) (s : State) (t : Option Tree) → IsLawfulState m s
    → OnAnswer (λ (a : Option RvalueTree × State). Further m s a.1) (optional_value_in s t)
may_value m s None h = further_none m s h
may_value m s (Some t) h =
    then_on (λ (a : RvalueTree × State). Further m s a.1) (λ (a : Option RvalueTree × State). Further m s a.1)
    (value_in s t) (λ a. Ok (Some a.0, a.1)) (value_follows m s t h) (λ a c. c)

may_test : (m : ℕ) (s : State) (t : Option Tree) → IsLawfulState m s
    → OnAnswer (λ (a : Option RvalueTree × State). Further m s a.1) (optional_condition_in s t)
may_test m s None h = further_none m s h
may_test m s (Some t) h =
    then_on (λ (a : RvalueTree × State). Further m s a.1) (λ (a : Option RvalueTree × State). Further m s a.1)
    (condition_in s t) (λ a. Ok (Some a.0, a.1)) (condition_follows m s t h) (λ a c. c)

selector_follows : (m : ℕ) (s : State) (t : Tree) → IsLawfulState m s
    → OnAnswer (λ (a : Selector × State). Further m s a.1) (selector_in s t)
selector_follows m s t h =
    evaluated_further m s t (λ (a : Selector × State). Further m s a.1) _ h (λ a c o.
    then_any (λ (b : Selector × State). Further m s b.1)
    (selector_rules (place_of t) (valued a.1.scope a.0) (let v : Rated = valued a.1.scope a.0 in v.sort))
    (λ x. Ok (x, a.1)) (λ x. c))

label_is : (t : IntType) (labels : List ℤ) (word p : Place) (value : Option ℤ)
    → OnAnswer (IsIn t) (label_rules t labels word p value)
label_is t labels word p None = tt
label_is t labels word p (Some z) =
    on_row (IsIn t) (is_labelled labels (converted_value z t)) Kinds.Redeclared word (Ok (converted_value z t))
    (λ e. converted_is_in t z)

label_follows : (m : ℕ) (s : State) (t : IntType) (labels : List ℤ) (e : Tree) (p : Place) → IsLawfulState m s
    → OnAnswer (λ (a : ℤ × State). Further m s a.1) (label_in s t labels e p)
label_follows m s t labels e p h = evaluated_further m s e (λ (a : ℤ × State). Further m s a.1) _ h (λ a c o.
    then_on (IsIn t) (λ (a : ℤ × State). Further m s a.1) (label_rules t labels p (place_of e) (folded_value a.0))
    _ (label_is t labels p (place_of e) (folded_value a.0)) (λ z i.
    further_on m s a.1 (record a.1 { labels = a.1.labels ++ z ∷ [] }) c
    (further_same m a.1 (record a.1 { labels = a.1.labels ++ z ∷ [] }) c.lawful
    (label_noted m a.1 z c.lawful (record { type = t; within = i })) refl)))

-- ## Statements

abbrev pub Regular : ℕ → State → Bool → Bool → TypedTree × State → Type 0
Regular m s loop switch a = Further m s a.1 × IsRegular (context m a.1) loop switch a.0

abbrev pub AllRegular : ℕ → State → Bool → Bool → TypedTrees × State → Type 0
AllRegular m s loop switch a = Further m s a.1 × AreRegular (context m a.1) loop switch a.0

abbrev PartRegular : ℕ → State → Bool → Bool → TypedCase × Labels × State → Type 0
PartRegular m s loop switch a = Further m s a.2 × IsRegularPart (context m a.2) loop switch a.0

abbrev PartsRegular : ℕ → State → Bool → Bool → TypedCases × State → Type 0
PartsRegular m s loop switch a = Further m s a.1 × AreRegularParts (context m a.1) loop switch a.0

-- a statement that is none of expressions and states
plain : (m : ℕ) (s : State) (loop switch : Bool) (r : Result TypedTree Refusal) → IsLawfulState m s
    → OnAnswer (IsRegular (context m s) loop switch) r
    → OnAnswer (Regular m s loop switch) (then_with r (λ x. Ok (x, s)))
plain m s loop switch r h i =
    then_on (IsRegular (context m s) loop switch) (Regular m s loop switch) r (λ x. Ok (x, s)) i
    (λ x j. (further_none m s h, j))

jump : (m : ℕ) (s : State) (loop switch : Bool) (b : Bool) (p : Place) (r : TypedTree) → IsLawfulState m s
    → (b ≡ true → IsRegular (context m s) loop switch r)
    → OnAnswer (Regular m s loop switch) (then_with (row (not b) Kinds.Mismatch p (Ok r)) (λ x. Ok (x, s)))
jump m s loop switch b p r h i =
    plain m s loop switch (row (not b) Kinds.Mismatch p (Ok r)) h
    (on_row (IsRegular (context m s) loop switch) (not b) Kinds.Mismatch p (Ok r) (λ e. i (not-false b e)))

returned : (m : ℕ) (s : State) (around : Around) (loop switch : Bool) (t : Option Tree) (p : Place) → IsLawfulState m s
    → OnAnswer (Regular m s loop switch) (return_in s around t p)
returned m s around loop switch None p h =
    plain m s loop switch (return_rules s.scope around.result p) h
    (on_row (IsRegular (context m s) loop switch) _ Kinds.Mismatch p (Ok (returns None)) (λ e. tt))
returned m s around loop switch (Some t) p h =
    evaluated_further m s t (Regular m s loop switch) _ h (λ a c o.
    let v : Rated = valued a.1.scope a.0 in
    then_on (IsRegular (context m a.1) loop switch) (Regular m s loop switch)
    (return_value_rules a.1.scope around.result p v) (λ r. Ok (r, a.1))
    (on_row (IsRegular (context m a.1) loop switch) (is_structure v.sort) Kinds.Unsupported p _ (λ e.
    on_row_unless (λ (x : RvalueTree). Unit {0}) (IsRegular (context m a.1) loop switch)
    (given a.1.scope v around.result) Kinds.Mismatch p _ (some_any (given a.1.scope v around.result)) (λ x i. tt)))
    (λ r i. (c, i)))

declared : (m : ℕ) (s : State) (loop switch : Bool) (r : Result Locals Refusal) → OnAnswer (LocatesCells m s) r
    → OnAnswer (FurtherLocals m s) r
    → OnAnswer (Regular m s loop switch) (then_with r (λ a. Ok (declares a.0, a.1)))
declared m s loop switch r h k =
    then_on (λ (a : Locals). LocatesCells m s a × FurtherLocals m s a) (Regular m s loop switch) r
    (λ a. Ok (declares a.0, a.1)) (both (LocatesCells m s) (FurtherLocals m s) r h k) (λ a c. (c.1, c.0.1))

evaluated : (m : ℕ) (s : State) (loop switch : Bool) (t : Option Tree) → IsLawfulState m s
    → OnAnswer (Regular m s loop switch) (then_with (optional_value_in s t) (λ a. Ok (evaluates a.0, a.1)))
evaluated m s loop switch t h =
    then_on (λ (a : Option RvalueTree × State). Further m s a.1) (Regular m s loop switch) (optional_value_in s t)
    (λ a. Ok (evaluates a.0, a.1)) (may_value m s t h) (λ a c. (c, tt))

first_regular : (m : ℕ) (s : State) (loop switch : Bool) (f : ForFirstTree) → IsLawfulState m s
    → OnAnswer (Regular m s loop switch) (first_in s f)
first_regular m s loop switch (by_expression t) h = evaluated m s loop switch t h
first_regular m s loop switch (by_declaration d) h =
    declared m s loop switch (local_declaration s d) (declaration_cells m s d h)
    (local_declaration_further m s d h)

-- a block begins, and ends
enter_further : (m : ℕ) (s : State) → IsLawfulState m s → AreFilledIn s → AreFilledIn (enter s)
enter_further m s h f =
    same_objects s (enter s) (record {
      lawful = h.tables;
      grown = record {
        more = [];
        types = sym (append-nil s.scope.types);
        count = omega arith;
        structures =
            λ k e. refl;
      };
      types = λ k n e. e;
      more = [];
      uses = sym (append-nil s.uses);
    }) refl f

leave_filled : (m : ℕ) (s t : State) → IsLawfulState m t → AreFilledIn t → AreFilledIn (leave s t)
leave_filled m s t h f =
    same_objects t (leave s t) (record {
      lawful = h.tables;
      grown = record {
        more = [];
        types = sym (append-nil t.scope.types);
        count = omega arith;
        structures =
            λ k e. refl;
      };
      types = λ k n e. e;
      more = [];
      uses = sym (append-nil t.uses);
    }) refl f

further_leaves : (m : ℕ) (s t : State) → IsLawfulState m s → Further m (enter s) t → Further m s (leave s t)
further_leaves m s t h c =
    further_by m s (leave s t) (leaves m s t c.continues)
    (λ f. leave_filled m s t c.lawful (c.filled (enter_further m s h f)))

-- the block's own names are left
left : (m : ℕ) (s t : State) → IsLawfulState m s → Further m (enter s) t → Later (context m t) (context m (leave s t))
left m s t h c =
    record { lawful = c.lawful.tables; grown = same; objects = λ k n e. e }
  where
    same : TablesGrow t.scope (leave s t).scope
    same = record { more = []; types = sym (append-nil t.scope.types); count = omega arith; structures = λ k e. refl }

mutual
  pub statement_regular : (m : ℕ) (s : State) (around : Around) (t : StatementTree) → IsLawfulState m s
      → OnAnswer (Regular m s around.in_loop around.in_switch) (statement_in s around t)
  statement_regular m s around (a_block parts) h =
      then_on (AllRegular m (enter s) around.in_loop around.in_switch) (Regular m s around.in_loop around.in_switch)
      (parts_in (enter s) around parts) (λ b. Ok (runs_block b.0, leave s b.1))
      (all_regular m (enter s) around parts (enter_lawful m s h))
      (λ b c. (
        further_leaves m s b.1 h c.0,
        all_stay (context m b.1) (context m (leave s b.1)) (left m s b.1 h c.0) around.in_loop around.in_switch b.0
            c.1,
      ))
  statement_regular m s around (a_value t) h = evaluated m s around.in_loop around.in_switch t h
  statement_regular m s around (an_if e t) h =
      then_on (λ (a : RvalueTree × State). Further m s a.1) (Regular m s around.in_loop around.in_switch)
      (condition_in s e) _ (condition_follows m s e h) (λ a c.
      then_on (Regular m a.1 around.in_loop around.in_switch) (Regular m s around.in_loop around.in_switch)
      (statement_in a.1 around t) _ (statement_regular m a.1 around t c.lawful) (λ b d.
      (further_on m s a.1 b.1 c d.0, d.1)))
  statement_regular m s around (an_if_else e t u) h =
      let lo : Bool = around.in_loop in let sw : Bool = around.in_switch in
      then_on (λ (a : RvalueTree × State). Further m s a.1) (Regular m s lo sw) (condition_in s e)
      _ (condition_follows m s e h) (λ a c.
      then_on (Regular m a.1 lo sw) (Regular m s lo sw) (statement_in a.1 around t)
      _ (statement_regular m a.1 around t c.lawful) (λ b d.
      then_on (Regular m b.1 lo sw) (Regular m s lo sw) (statement_in b.1 around u)
      _ (statement_regular m b.1 around u d.0.lawful) (λ x f. (
        further_on m s a.1 x.1 c (further_on m a.1 b.1 x.1 d.0 f.0),
        (regular_stays (context m b.1) (context m x.1) (later_by m b.1 x.1 d.0.lawful f.0) lo sw b.0 d.1, f.1),
      ))))
  statement_regular m s around (a_while e t) h =
      then_on (λ (a : RvalueTree × State). Further m s a.1) (Regular m s around.in_loop around.in_switch)
      (condition_in s e) _ (condition_follows m s e h) (λ a c.
      then_on (Regular m a.1 true around.in_switch) (Regular m s around.in_loop around.in_switch)
      (statement_in a.1 (looping around) t) _ (statement_regular m a.1 (looping around) t c.lawful) (λ b d.
      (further_on m s a.1 b.1 c d.0, d.1)))
  statement_regular m s around (a_do t e) h =
      then_on (Regular m s true around.in_switch) (Regular m s around.in_loop around.in_switch)
      (statement_in s (looping around) t) _ (statement_regular m s (looping around) t h) (λ a c.
      then_on (λ (b : RvalueTree × State). Further m a.1 b.1) (Regular m s around.in_loop around.in_switch)
      (condition_in a.1 e) _ (condition_follows m a.1 e c.0.lawful) (λ b d. (
        further_on m s a.1 b.1 c.0 d,
        regular_stays (context m a.1) (context m b.1) (later_by m a.1 b.1 c.0.lawful d) true around.in_switch a.0
            c.1,
      )))
  statement_regular m s around (a_for first e step t) h =
      let lo : Bool = around.in_loop in let sw : Bool = around.in_switch in
      then_on (Regular m (enter s) lo sw) (Regular m s lo sw) (first_in (enter s) first)
      _ (first_regular m (enter s) lo sw first (enter_lawful m s h)) (λ a c.
      then_on (λ (b : Option RvalueTree × State). Further m a.1 b.1) (Regular m s lo sw) (optional_condition_in a.1 e)
      _ (may_test m a.1 e c.0.lawful) (λ b d.
      then_on (λ (x : Option RvalueTree × State). Further m b.1 x.1) (Regular m s lo sw) (optional_value_in b.1 step)
      _ (may_value m b.1 step d.lawful) (λ x f.
      then_on (Regular m x.1 true sw) (Regular m s lo sw) (statement_in x.1 (looping around) t)
      _ (statement_regular m x.1 (looping around) t f.lawful) (λ y g.
      let rest : Further m a.1 y.1 = further_on m a.1 b.1 y.1 d (further_on m b.1 x.1 y.1 f g.0) in
      let all : Further m (enter s) y.1 = further_on m (enter s) a.1 y.1 c.0 rest in
      let behind : Later (context m y.1) (context m (leave s y.1)) = left m s y.1 h all in (
        further_leaves m s y.1 h all,
        (
          regular_stays (context m y.1) (context m (leave s y.1)) behind lo sw a.0
              (regular_stays (context m a.1) (context m y.1) (later_by m a.1 y.1 c.0.lawful rest) lo sw a.0 c.1),
          regular_stays (context m y.1) (context m (leave s y.1)) behind true sw y.0 g.1,
        ),
      )))))
  statement_regular m s around (a_switch t cases) h =
      let lo : Bool = around.in_loop in let sw : Bool = around.in_switch in
      then_on (λ (a : Selector × State). Further m s a.1) (Regular m s lo sw) (selector_in s t)
      _ (selector_follows m s t h) (λ a c.
      then_on (PartsRegular m (enter a.1) lo true) (Regular m s lo sw)
      (cases_in (enter a.1) (switching around) a.0.works_in no_labels cases) _
      (parts_regular m (enter a.1) (switching around) a.0.works_in no_labels cases (enter_lawful m a.1 c.lawful))
      (λ b d. (
        further_on m s a.1 (leave a.1 b.1) c (further_leaves m a.1 b.1 c.lawful d.0),
        parts_stay (context m b.1) (context m (leave a.1 b.1)) (left m a.1 b.1 c.lawful d.0) lo true b.0 d.1,
      )))
  statement_regular m s around (a_break p) h =
      jump m s around.in_loop around.in_switch (around.in_loop || around.in_switch) p breaks h (λ e. e)
  statement_regular m s around (a_continue p) h =
      jump m s around.in_loop around.in_switch around.in_loop p continues h (λ e. e)
  statement_regular m s around (a_return t p) h = returned m s around around.in_loop around.in_switch t p h
  statement_regular m s around (a_lock x q p) h =
      then_any (Regular m s around.in_loop around.in_switch) (mutex_rules q (named s.scope x)) (λ k. Ok (locks k p, s))
      (λ k. (further_none m s h, tt))
  statement_regular m s around (an_unlock x q p) h =
      then_any (Regular m s around.in_loop around.in_switch) (mutex_rules q (named s.scope x))
      (λ k. Ok (unlocks k p, s)) (λ k. (further_none m s h, tt))
  statement_regular m s around (a_yield p) h = (further_none m s h, tt)

  block_part_regular : (m : ℕ) (s : State) (around : Around) (t : PartTree) → IsLawfulState m s
      → OnAnswer (Regular m s around.in_loop around.in_switch) (part_in s around t)
  block_part_regular m s around (a_local d) h =
      declared m s around.in_loop around.in_switch (local_declaration s d) (declaration_cells m s d h)
      (local_declaration_further m s d h)
  block_part_regular m s around (a_step t) h = statement_regular m s around t h

  pub all_regular : (m : ℕ) (s : State) (around : Around) (ts : PartTrees) → IsLawfulState m s
      → OnAnswer (AllRegular m s around.in_loop around.in_switch) (parts_in s around ts)
  all_regular m s around no_parts h = (further_none m s h, tt)
  all_regular m s around (and_part t ts) h =
      let lo : Bool = around.in_loop in let sw : Bool = around.in_switch in
      then_on (Regular m s lo sw) (AllRegular m s lo sw) (part_in s around t) _ (block_part_regular m s around t h)
      (λ a x.
      then_on (AllRegular m a.1 lo sw) (AllRegular m s lo sw) (parts_in a.1 around ts)
      _ (all_regular m a.1 around ts x.0.lawful) (λ b y. (
        further_on m s a.1 b.1 x.0 y.0,
        (regular_stays (context m a.1) (context m b.1) (later_by m a.1 b.1 x.0.lawful y.0) lo sw a.0 x.1, y.1),
      )))

  case_regular : (m : ℕ) (s : State) (around : Around) (t : IntType) (labels : Labels) (c : CaseTree)
      → IsLawfulState m s → OnAnswer (PartRegular m s around.in_loop around.in_switch) (case_in s around t labels c)
  case_regular m s around t labels (a_case e p) h =
      then_on (λ (a : ℤ × State). Further m s a.1) (PartRegular m s around.in_loop around.in_switch)
      (label_in s t labels.values e p) (λ a. Ok (a_label a.0 p, with_label labels a.0, a.1))
      (label_follows m s t labels.values e p h) (λ a c. (c, tt))
  case_regular m s around t labels (a_default p) h =
      then_any (PartRegular m s around.in_loop around.in_switch) (default_rules labels p)
      (λ l. Ok (a_default_label p, l, s)) (λ l. (further_none m s h, tt))
  case_regular m s around t labels (a_case_step u) h =
      then_on (Regular m s around.in_loop around.in_switch) (PartRegular m s around.in_loop around.in_switch)
      (statement_in s around u) (λ a. Ok (a_labelled_step a.0, labels, a.1)) (statement_regular m s around u h)
      (λ a c. c)

  parts_regular : (m : ℕ) (s : State) (around : Around) (t : IntType) (labels : Labels) (cs : CaseTrees)
      → IsLawfulState m s → OnAnswer (PartsRegular m s around.in_loop around.in_switch) (cases_in s around t labels cs)
  parts_regular m s around t labels no_cases h = (further_none m s h, tt)
  parts_regular m s around t labels (and_case c cs) h =
      let lo : Bool = around.in_loop in let sw : Bool = around.in_switch in
      then_on (PartRegular m s lo sw) (PartsRegular m s lo sw) (case_in s around t labels c)
      (λ a. then_with (cases_in a.2 around t a.1 cs) (λ b. Ok (and_typed_case a.0 b.0, b.1)))
      (case_regular m s around t labels c h) (λ a x.
      then_on (PartsRegular m a.2 lo sw) (PartsRegular m s lo sw) (cases_in a.2 around t a.1 cs)
      (λ b. Ok (and_typed_case a.0 b.0, b.1)) (parts_regular m a.2 around t a.1 cs x.0.lawful) (λ b y. (
        further_on m s a.2 b.1 x.0 y.0,
        (part_stays (context m a.2) (context m b.1) (later_by m a.2 b.1 x.0.lawful y.0) lo sw a.0 x.1, y.1),
      )))
