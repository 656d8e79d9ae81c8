-- Specifiers and declarators add no objects of static storage, and use nothing.
use Rattle.std.proofs.Common.{◌≡◌, ℕ, List, [], ◌∷◌, refl, ◌∙◌}
use Rattle.std.specs.Prelude.{ℤ, pos, ◌+ℤ◌, Bool, true, false, cond, not, ◌||◌, is_some, Option, Some, None, Result, Ok}
use Rattle.std.specs.Prelude.{Err}
use Rattle.cell_layout.specs.tm_cint.declared.int_types.IntType.TheVariants as Ints
use Rattle.cell_layout.specs.tm_cint.IntTypes.{is_in}
use Rattle.cell_layout.specs.tm_terms.declared.refusals.Kind.TheVariants as Kinds
use Rattle.cell_layout.specs.tm_terms.declared.refusals.Refusal.{Refusal}
use Rattle.cell_layout.specs.tm_terms.ExprTrees.{Tree, place_of}
use Rattle.cell_layout.specs.tm_trees.declared.declarations.Tag.{Tag}
use Rattle.cell_layout.specs.tm_trees.DeclarationTrees.{LengthTree, DeclaratorTree, a_declared_name, a_nested}
use Rattle.cell_layout.specs.tm_trees.DeclarationTrees.{declared_name}
use Rattle.cell_layout.specs.tm_trees.DeclarationTrees.{EnumeratorTree, SpecifierTree, a_plain, a_struct, an_enum}
use Rattle.cell_layout.specs.tm_trees.DeclarationTrees.{SpecifierTrees}
use Rattle.cell_layout.specs.tm_trees.DeclarationTrees.{no_specifiers, and_specifier, MemberTrees, no_members}
use Rattle.cell_layout.specs.tm_trees.DeclarationTrees.{and_members}
use Rattle.cell_layout.specs.tm_trees.DeclarationTrees.{ValueTree, an_expression, a_list, InitialiserTree}
use Rattle.cell_layout.specs.tm_trees.DeclarationTrees.{InitDeclaratorTree}
use Rattle.cell_layout.specs.tm_typed.declared.types.Qualified.{Qualified}
use Rattle.cell_layout.specs.tm_typed.declared.scopes.Tagged.{Tagged}
use Rattle.cell_layout.specs.tm_typed.declared.scopes.Tagged.TheVariants as Tagging
use Rattle.cell_layout.specs.tm_typed.declared.specifiers.Said.{Said}
use Rattle.cell_layout.specs.tm_typed.declared.specifiers.Shape.{Shape}
use Rattle.cell_layout.specs.tm_typed.declared.uses.Use.{Use}
use Rattle.cell_layout.specs.tm_typed.Scopes.{structure, tagged_here}
use Rattle.cell_layout.specs.tm_typed.TypedTrees.{OperandTree}
use Rattle.cell_layout.specs.tm_typed.Refusals.{then_with}
use Rattle.cell_layout.specs.tm_typed.States.{State, Static}
use Rattle.cell_layout.specs.tm_typed.Typing.{typing}
use Rattle.cell_layout.specs.tm_typed.TypeNames.{type_of_name, prepared}
use Rattle.cell_layout.specs.tm_typed.Evaluation.{measured, folded_value}
use Rattle.cell_layout.specs.tm_typed.Specifiers.{nothing_said, base, word_rules, mentioned}
use Rattle.cell_layout.specs.tm_typed.Declarators.{length_named, length_rules, lengths_behind, lengths_of, declared}
use Rattle.cell_layout.specs.tm_typed.Structures.{declared_place, is_no_object, Layout, no_layout, has_member}
use Rattle.cell_layout.specs.tm_typed.Structures.{member_rules}
use Rattle.cell_layout.specs.tm_typed.Structures.{members_declared, with_structure, opened, completed_structure}
use Rattle.cell_layout.specs.tm_typed.Structures.{completed}
use Rattle.cell_layout.specs.tm_typed.Structures.{opened_tag, opened_by, value_named, is_declared_here}
use Rattle.cell_layout.specs.tm_typed.Structures.{enumerator_rules}
use Rattle.cell_layout.specs.tm_typed.Structures.{enumerators, enumeration_tag, enumeration, structure_said, specifier}
use Rattle.cell_layout.specs.tm_typed.Structures.{specifiers}
use Rattle.cell_layout.specs.tm_typed.Structures.{laid_out, specified}
use Rattle.cell_layout.specs.tm_typed.Declarations.{Declared, count_values, with_count, counted_by, counted}
use Rattle.cell_layout.specs.tm_typed.Declarations.{declared_by}
use Rattle.cell_layout.specs.tm_typed.Declarations.{typedef_rules, tag_rules}
use Rattle.cell_layout.specs.tm_typed.WellTyped.{OnAnswer}
use Rattle.typed_file_laws.proofs.low.typing_laws.Steps.{then_on, then_any}
use Rattle.typed_file_laws.proofs.RuleSteps.{on_row, on_row_unless, some_any}

-- the objects of static storage, and what is used so far
abbrev pub kept_in : State → List Static × List Use
kept_in s = (s.statics, s.uses)

-- they are the same
abbrev pub SameState : State → State → Type 0
SameState s t = kept_in t ≡ kept_in s

-- an answer behind a state in which they are the same
moved : {A : Type 0} (s t : State) (r : Result (A × State) Refusal) → kept_in t ≡ kept_in s
    → OnAnswer (λ (a : A × State). kept_in a.1 ≡ kept_in t) r → OnAnswer (λ (a : A × State). kept_in a.1 ≡ kept_in s) r
moved s t (Err e) same h = tt
moved s t (Ok a) same h = h ∙ same

moved_state : (s t : State) (r : Result State Refusal) → kept_in t ≡ kept_in s → OnAnswer (SameState t) r
    → OnAnswer (SameState s) r
moved_state s t (Err e) same h = tt
moved_state s t (Ok u) same h = h ∙ same

pub measured_same : (s : State) (t : Tree) → OnAnswer (λ (a : OperandTree × State). kept_in a.1 ≡ kept_in s)
    (measured s t)
measured_same s t = then_any (λ (a : OperandTree × State). kept_in a.1 ≡ kept_in s)
    (typing type_of_name (prepared s.scope t) s.site t)
    _ (λ o. refl)

-- ## Declarators

length_same : (s : State) (l : LengthTree) (t : Option Tree) → OnAnswer
    (λ (a : Option ℕ × State). kept_in a.1 ≡ kept_in s) (length_rules s l t)
length_same s l None = refl
length_same s l (Some t) =
    then_on (λ (a : OperandTree × State). kept_in a.1 ≡ kept_in s) (λ (a : Option ℕ × State). kept_in a.1 ≡ kept_in s)
    (measured s t) _ (measured_same s t) (λ a e.
    on_row_unless (λ (n : ℕ). Unit {0}) (λ (a : Option ℕ × State). kept_in a.1 ≡ kept_in s)
    (length_named (folded_value a.0)) Kinds.NotConstant (place_of t) _ (some_any (length_named (folded_value a.0)))
    (λ n i. e))

lengths_same : (s : State) (found : List (Option ℕ)) (ls : List LengthTree)
    → OnAnswer (λ (a : List (Option ℕ) × State). kept_in a.1 ≡ kept_in s) (lengths_behind s found ls)
lengths_same s found [] = refl
lengths_same s found (l ∷ ls) =
    then_on (λ (a : Option ℕ × State). kept_in a.1 ≡ kept_in s)
    (λ (a : List (Option ℕ) × State). kept_in a.1 ≡ kept_in s) (length_rules s l l.value) _
    (length_same s l l.value)
    (λ a e. moved s a.1 (lengths_behind a.1 (a.0 ∷ found) ls) e (lengths_same a.1 (a.0 ∷ found) ls))

all_lengths_same : (s : State) (d : DeclaratorTree) → OnAnswer
    (λ (a : List (Option ℕ) × State). kept_in a.1 ≡ kept_in s) (lengths_of s d)
all_lengths_same s (a_declared_name pointers n p ls) = lengths_same s [] ls
all_lengths_same s (a_nested pointers d ls) =
    then_on (λ (a : List (Option ℕ) × State). kept_in a.1 ≡ kept_in s)
    (λ (a : List (Option ℕ) × State). kept_in a.1 ≡ kept_in s) (lengths_of s d) _ (all_lengths_same s d)
    (λ a e. moved s a.1 (lengths_behind a.1 a.0 ls) e (lengths_same a.1 a.0 ls))

pub declared_same : (s : State) (q : Qualified) (d : DeclaratorTree)
    → OnAnswer (λ (a : Shape × State). kept_in a.1 ≡ kept_in s) (declared s q d)
declared_same s q d = then_on (λ (a : List (Option ℕ) × State). kept_in a.1 ≡ kept_in s)
    (λ (a : Shape × State). kept_in a.1 ≡ kept_in s) (lengths_of s d) _ (all_lengths_same s d) (λ a e. e)

-- ## Specifiers

member_same : (s t : State) (l : Layout) (shape : Shape) (d : DeclaratorTree) → kept_in t ≡ kept_in s
    → OnAnswer (λ (a : Layout × State). kept_in a.1 ≡ kept_in s) (member_rules t l shape d)
member_same s t l shape d e =
    on_row (λ (a : Layout × State). kept_in a.1 ≡ kept_in s) shape.left_out Kinds.Unsupported (declared_place d) _ (λ x.
    on_row (λ (a : Layout × State). kept_in a.1 ≡ kept_in s) (has_member l (declared_name d)) Kinds.Redeclared
    (declared_place d) _ (λ y.
    on_row (λ (a : Layout × State). kept_in a.1 ≡ kept_in s) (is_no_object t.scope shape) Kinds.Mismatch
    (declared_place d) _ (λ z. e)))

members_same : (s : State) (l : Layout) (q : Qualified) (ds : List DeclaratorTree)
    → OnAnswer (λ (a : Layout × State). kept_in a.1 ≡ kept_in s) (members_declared s l q ds)
members_same s l q [] = refl
members_same s l q (d ∷ ds) =
    then_on (λ (a : Shape × State). kept_in a.1 ≡ kept_in s) (λ (a : Layout × State). kept_in a.1 ≡ kept_in s)
    (declared s q d) _ (declared_same s q d) (λ a e.
    then_on (λ (a : Layout × State). kept_in a.1 ≡ kept_in s) (λ (a : Layout × State). kept_in a.1 ≡ kept_in s)
    (member_rules a.1 l a.0 d) _ (member_same s a.1 l a.0 d e) (λ k f.
    moved s k.1 (members_declared k.1 k.0 q ds) f (members_same k.1 k.0 q ds)))

tag_same : (s : State) (t : Tag) (o : Option Tagged) → OnAnswer (λ (a : ℕ × State). kept_in a.1 ≡ kept_in s)
    (opened_tag s t o)
tag_same s t None = refl
tag_same s t (Some (Tagging.Enumeration z)) = tt
tag_same s t (Some (Tagging.Structure k)) = on_row (λ (a : ℕ × State). kept_in a.1 ≡ kept_in s)
    (structure s.scope k).opened Kinds.Redeclared t.place (Ok (k, opened k s)) (λ e. refl)

opens_same : (s : State) (t : Option Tag) → OnAnswer (λ (a : ℕ × State). kept_in a.1 ≡ kept_in s) (opened_by s t)
opens_same s None = refl
opens_same s (Some t) = tag_same s t (tagged_here s.scope t.name)

completed_same : (s : State) (k : ℕ) (l : Layout) → SameState s (completed k l s)
completed_same s k l = by_test (structure s.scope k).complete
  where
    by_test : (b : Bool) → SameState s (cond b s (with_structure k (completed_structure l) s))
    by_test true = refl
    by_test false = refl

enumerator_same : (s : State) (next : ℤ) (e : EnumeratorTree) (t : Option Tree)
    → OnAnswer (λ (a : ℤ × State). kept_in a.1 ≡ kept_in s) (enumerator_rules s next e t)
enumerator_same s next e None =
    on_row (λ (a : ℤ × State). kept_in a.1 ≡ kept_in s) (is_declared_here s e.name) Kinds.Redeclared e.place _ (λ a.
    on_row (λ (a : ℤ × State). kept_in a.1 ≡ kept_in s) (not (is_in Ints.Int next)) Kinds.NotConstant e.place _
    (λ b. refl))
enumerator_same s next e (Some t) =
    then_on (λ (a : OperandTree × State). kept_in a.1 ≡ kept_in s) (λ (a : ℤ × State). kept_in a.1 ≡ kept_in s)
    (measured s t) _ (measured_same s t) (λ a f.
    on_row_unless (λ (n : ℤ). Unit {0}) (λ (a : ℤ × State). kept_in a.1 ≡ kept_in s) (value_named (folded_value a.0))
    Kinds.NotConstant (place_of t) _ (some_any (value_named (folded_value a.0))) (λ z i.
    on_row (λ (a : ℤ × State). kept_in a.1 ≡ kept_in s) (is_declared_here a.1 e.name) Kinds.Redeclared e.place _
    (λ b. f)))

enumerators_same : (s : State) (next : ℤ) (es : List EnumeratorTree) → OnAnswer (SameState s) (enumerators s next es)
enumerators_same s next [] = refl
enumerators_same s next (e ∷ es) =
    then_on (λ (a : ℤ × State). kept_in a.1 ≡ kept_in s) (SameState s) (enumerator_rules s next e e.value) _
    (enumerator_same s next e e.value)
    (λ a f. moved_state s a.1 (enumerators a.1 (a.0 +ℤ pos 1) es) f (enumerators_same a.1 (a.0 +ℤ pos 1) es))

enumeration_tag_same : (s : State) (t : Option Tag) → OnAnswer (SameState s) (enumeration_tag s t)
enumeration_tag_same s None = refl
enumeration_tag_same s (Some t) = on_row (SameState s) (is_some (tagged_here s.scope t.name)) Kinds.Redeclared t.place _
    (λ a. refl)

enumeration_same : (s : State) (t : Option Tag) (es : List EnumeratorTree) → OnAnswer (SameState s) (enumeration s t es)
enumeration_same s t es = then_on (SameState s) (SameState s) (enumeration_tag s t) _ (enumeration_tag_same s t)
    (λ u e. moved_state s u (enumerators u (pos 0) es) e (enumerators_same u (pos 0) es))

mutual
  specifier_same : (s : State) (said : Said) (x : SpecifierTree)
      → OnAnswer (λ (a : Said × State). kept_in a.1 ≡ kept_in s) (specifier s said x)
  specifier_same s said (a_plain spec) =
      then_any (λ (a : Said × State). kept_in a.1 ≡ kept_in s)
      (word_rules (mentioned s.scope spec.word) said spec.place spec.word)
      (λ d. Ok (d, record s { scope = mentioned s.scope spec.word })) (λ d. refl)
  specifier_same s said (an_enum tag es p) = then_on (SameState s) (λ (a : Said × State). kept_in a.1 ≡ kept_in s)
      (enumeration s tag es) _ (enumeration_same s tag es) (λ t e. e)
  specifier_same s said (a_struct tag members p) =
      then_on (λ (a : ℕ × State). kept_in a.1 ≡ kept_in s) (λ (a : Said × State). kept_in a.1 ≡ kept_in s)
      (opened_by s tag) (λ o. then_with (laid_out o.1 no_layout members) (λ a. Ok (structure_said said o.0 a)))
      (opens_same s tag) (λ o e.
      then_on (λ (a : Layout × State). kept_in a.1 ≡ kept_in o.1) (λ (a : Said × State). kept_in a.1 ≡ kept_in s)
      (laid_out o.1 no_layout members) (λ a. Ok (structure_said said o.0 a)) (laid_same o.1 no_layout members)
      (λ a f. completed_same a.1 o.0 a.0 ∙ f ∙ e))

  specifiers_same : (s : State) (said : Said) (xs : SpecifierTrees)
      → OnAnswer (λ (a : Said × State). kept_in a.1 ≡ kept_in s) (specifiers s said xs)
  specifiers_same s said no_specifiers = refl
  specifiers_same s said (and_specifier x xs) =
      then_on (λ (a : Said × State). kept_in a.1 ≡ kept_in s) (λ (a : Said × State). kept_in a.1 ≡ kept_in s)
      (specifier s said x) (λ a. specifiers a.1 a.0 xs) (specifier_same s said x)
      (λ a e. moved s a.1 (specifiers a.1 a.0 xs) e (specifiers_same a.1 a.0 xs))

  laid_same : (s : State) (l : Layout) (members : MemberTrees)
      → OnAnswer (λ (a : Layout × State). kept_in a.1 ≡ kept_in s) (laid_out s l members)
  laid_same s l no_members = refl
  laid_same s l (and_members xs ds members) =
      then_on (λ (a : Said × State). kept_in a.1 ≡ kept_in s) (λ (a : Layout × State). kept_in a.1 ≡ kept_in s)
      (specifiers s nothing_said xs) (λ d. then_with (members_declared d.1 l (base d.0) ds)
      (λ a. laid_out a.1 a.0 members)) (specifiers_same s nothing_said xs) (λ d e.
      then_on (λ (a : Layout × State). kept_in a.1 ≡ kept_in d.1) (λ (a : Layout × State). kept_in a.1 ≡ kept_in s)
      (members_declared d.1 l (base d.0) ds) (λ a. laid_out a.1 a.0 members) (members_same d.1 l (base d.0) ds)
      (λ a f. moved s a.1 (laid_out a.1 a.0 members) (f ∙ e) (laid_same a.1 a.0 members)))

pub specified_same : (s : State) (xs : SpecifierTrees) → OnAnswer (λ (a : Said × State). kept_in a.1 ≡ kept_in s)
    (specified s xs)
specified_same s xs = specifiers_same s nothing_said xs

-- ## Declarations

counted_same : (t : State) (d : Declared) (i : Option InitialiserTree)
    → let a : Declared × State = counted t d i in kept_in a.1 ≡ kept_in t
counted_same t d None = refl
counted_same t d (Some i) = by_value i.value
  where
    by_test : (n : ℕ) (b : Bool) → let a : Declared × State =
        cond b (with_count t d n) (d, t) in kept_in a.1 ≡ kept_in t
    by_test n true = refl
    by_test n false = refl

    by_value : (v : ValueTree) → let a : Declared × State = counted_by t d v in kept_in a.1 ≡ kept_in t
    by_value (an_expression x) = refl
    by_value (a_list vs p) = by_test (count_values vs) d.shape.is_open

pub declared_by_same : (s : State) (said : Said) (d : InitDeclaratorTree)
    → OnAnswer (λ (a : Declared × State). kept_in a.1 ≡ kept_in s) (declared_by s said d)
declared_by_same s said d =
    then_on (λ (a : Shape × State). kept_in a.1 ≡ kept_in s) (λ (a : Declared × State). kept_in a.1 ≡ kept_in s)
    (declared s (base said) d.declarator) _ (declared_same s (base said) d.declarator)
    (λ a e. counted_same a.1 (record {
      name = declared_name d.declarator;
      place = declared_place d.declarator;
      shape =
          a.0;
      initialiser = d.initialiser;
    }) d.initialiser ∙ e)

pub typedef_same : (s t : State) (d : Declared) → SameState s t → OnAnswer (SameState s) (typedef_rules t d)
typedef_same s t d e =
    on_row (SameState s) d.shape.left_out Kinds.Unsupported d.place _ (λ a.
    on_row (SameState s) (is_declared_here t d.name) Kinds.Redeclared d.place _ (λ b.
    on_row (SameState s) (d.shape.mismatch || d.shape.is_open || is_some d.initialiser) Kinds.Mismatch d.place _
    (λ c. e)))

pub tag_rules_same : (s : State) (t : Tag) (o : Option Tagged) → OnAnswer (SameState s) (tag_rules s t o)
tag_rules_same s t None = refl
tag_rules_same s t (Some (Tagging.Structure k)) = refl
tag_rules_same s t (Some (Tagging.Enumeration z)) = tt
