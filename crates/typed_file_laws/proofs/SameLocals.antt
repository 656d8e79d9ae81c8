-- Declarations at file scope add no object to a body.
use Rattle.std.proofs.Common.{◌≡◌, ℕ, suc, List, [], ◌∷◌, ◌++◌, length, refl, ◌∙◌}
use Rattle.std.specs.Prelude.{◌+◌, ℤ, pos, ◌+ℤ◌, Bool, true, false, cond, not, ◌&&◌, ◌||◌, is_some, is_none, Option, Some, None, Result, Ok, Err}
use Rattle.tm_laid.specs.tm_cint.declared.int_types.IntType.TheVariants as Ints
use Rattle.tm_laid.specs.tm_cint.IntTypes.{is_in}
use Rattle.tm_laid.specs.tm_terms.declared.places.Place.{Place}
use Rattle.tm_laid.specs.tm_terms.declared.refusals.Kind.TheVariants as Kinds
use Rattle.tm_laid.specs.tm_terms.declared.refusals.Refusal.{Refusal}
use Rattle.tm_laid.specs.tm_terms.declared.types_named.Storage.{Storage}
use Rattle.tm_laid.specs.tm_terms.ExprTrees.{Tree, place_of}
use Rattle.tm_laid.specs.tm_trees.declared.declarations.Tag.{Tag}
use Rattle.tm_laid.specs.tm_trees.DeclarationTrees.{LengthTree, DeclaratorTree, a_declared_name, a_nested}
use Rattle.tm_laid.specs.tm_trees.DeclarationTrees.{declared_name, EnumeratorTree, SpecifierTree, a_plain, a_struct}
use Rattle.tm_laid.specs.tm_trees.DeclarationTrees.{an_enum, SpecifierTrees, no_specifiers, and_specifier, MemberTrees}
use Rattle.tm_laid.specs.tm_trees.DeclarationTrees.{no_members, and_members, DeclarationTree, ValueTree, an_expression}
use Rattle.tm_laid.specs.tm_trees.DeclarationTrees.{a_list, ValueTrees, no_values, and_value, InitialiserTree}
use Rattle.tm_laid.specs.tm_trees.DeclarationTrees.{InitDeclaratorTree}
use Rattle.tm_laid.specs.tm_typed.declared.types.Qualified.{Qualified}
use Rattle.tm_laid.specs.tm_typed.declared.types.Scalar.{Scalar}
use Rattle.tm_laid.specs.tm_typed.declared.scopes.Named.{Named}
use Rattle.tm_laid.specs.tm_typed.declared.scopes.Part.{Part}
use Rattle.tm_laid.specs.tm_typed.declared.scopes.Tagged.{Tagged}
use Rattle.tm_laid.specs.tm_typed.declared.scopes.Tagged.TheVariants as Tagging
use Rattle.tm_laid.specs.tm_typed.declared.specifiers.Said.{Said}
use Rattle.tm_laid.specs.tm_typed.declared.specifiers.Shape.{Shape}
use Rattle.tm_laid.specs.tm_typed.Scopes.{structure, tagged_here, named_here}
use Rattle.tm_laid.specs.tm_typed.TypedTrees.{RvalueTree, OperandTree, Rated}
use Rattle.tm_laid.specs.tm_typed.Operands.{valued, given, scalar_of, is_structure, is_null, is_integer}
use Rattle.tm_laid.specs.tm_typed.Refusals.{then_with}
use Rattle.tm_laid.specs.tm_typed.States.{State, static, static_type}
use Rattle.tm_laid.specs.tm_typed.StaticValues.{static_value}
use Rattle.tm_laid.specs.tm_typed.Typing.{typing}
use Rattle.tm_laid.specs.tm_typed.TypeNames.{type_of_name, prepared}
use Rattle.tm_laid.specs.tm_typed.Evaluation.{evaluated, typed_in, measured, folded_value}
use Rattle.tm_laid.specs.tm_typed.Specifiers.{nothing_said, base, word_rules, mentioned}
use Rattle.tm_laid.specs.tm_typed.Declarators.{length_named, length_rules, lengths_behind, lengths_of, declared}
use Rattle.tm_laid.specs.tm_typed.Structures.{declared_place, is_no_object, Layout, no_layout, has_member, member_rules}
use Rattle.tm_laid.specs.tm_typed.Structures.{members_declared, with_structure, opened, completed_structure, completed}
use Rattle.tm_laid.specs.tm_typed.Structures.{opened_tag, opened_by, value_named, is_declared_here, enumerator_rules}
use Rattle.tm_laid.specs.tm_typed.Structures.{enumerators, enumeration_tag, enumeration, structure_said, specifier}
use Rattle.tm_laid.specs.tm_typed.Structures.{specifiers, laid_out, specified}
use Rattle.tm_laid.specs.tm_typed.Initialisers.{part, is_aggregate, scalar_rules, lone_rules, given_behind, lone}
use Rattle.tm_laid.specs.tm_typed.Initialisers.{list_rules, initial, initials, Given}
use Rattle.tm_laid.specs.tm_typed.TypeRows.{clipped}
use Rattle.tm_laid.specs.tm_typed.Declarations.{Declared, count_values, with_count, counted_by, counted, declared_by}
use Rattle.tm_laid.specs.tm_typed.Declarations.{typedef_rules, initialised_static, linked, clashes, is_other}
use Rattle.tm_laid.specs.tm_typed.Declarations.{with_linkage, new_static, bound_unless, redeclared, linked_object}
use Rattle.tm_laid.specs.tm_typed.Declarations.{file_object, is_extern, is_typedef, file_rules, file_declared, lone_tag}
use Rattle.tm_laid.specs.tm_typed.Declarations.{tag_rules, file_form, file_declaration}
use Rattle.tm_laid.specs.tm_typed.WellTyped.{OnAnswer}
use Rattle.typing_laws.proofs.Steps.{then_on, then_any}
use Rattle.typed_file_laws.proofs.RuleSteps.{on_row, on_row_unless, some_any}

-- the objects of the body are the same
abbrev Same : {A : Type 0} → State → A × State → Type 0
Same s a = a.1.locals ≡ s.locals

abbrev pub SameState : State → State → Type 0
SameState s t = t.locals ≡ s.locals

-- an answer behind a state with the same objects
moved : {A : Type 0} (s t : State) (r : Result (A × State) Refusal) → t.locals ≡ s.locals → OnAnswer (λ (a : A × State). a.1.locals ≡ t.locals) r → OnAnswer (λ (a : A × State). a.1.locals ≡ s.locals) r
moved s t (Err e) same h = tt
moved s t (Ok a) same h = h ∙ same

moved_state : (s t : State) (r : Result State Refusal) → t.locals ≡ s.locals → OnAnswer (SameState t) r → OnAnswer (SameState s) r
moved_state s t (Err e) same h = tt
moved_state s t (Ok u) same h = h ∙ same

typed_same : (s : State) (t : Tree) → OnAnswer (λ (a : OperandTree × State). a.1.locals ≡ s.locals) (typed_in s t)
typed_same s t = then_any (λ (a : OperandTree × State). a.1.locals ≡ s.locals) (typing type_of_name (prepared s.scope t) s.site t)
    (λ o. Ok (o, evaluated s (prepared s.scope t) t o)) (λ o. refl)

measured_same : (s : State) (t : Tree) → OnAnswer (λ (a : OperandTree × State). a.1.locals ≡ s.locals) (measured s t)
measured_same s t = then_any (λ (a : OperandTree × State). a.1.locals ≡ s.locals) (typing type_of_name (prepared s.scope t) s.site t)
    _ (λ o. refl)

-- ## Declarators

length_same : (s : State) (l : LengthTree) (t : Option Tree) → OnAnswer (λ (a : Option ℕ × State). a.1.locals ≡ s.locals) (length_rules s l t)
length_same s l None = refl
length_same s l (Some t) =
    then_on (λ (a : OperandTree × State). a.1.locals ≡ s.locals) (λ (a : Option ℕ × State). a.1.locals ≡ s.locals) (measured s t) _ (measured_same s t) (λ a e.
    on_row_unless (λ (n : ℕ). Unit {0}) (λ (a : Option ℕ × State). a.1.locals ≡ s.locals) (length_named (folded_value a.0)) Kinds.NotConstant (place_of t) _ (some_any (length_named (folded_value a.0))) (λ n i. e))

lengths_same : (s : State) (found : List (Option ℕ)) (ls : List LengthTree) → OnAnswer (λ (a : List (Option ℕ) × State). a.1.locals ≡ s.locals) (lengths_behind s found ls)
lengths_same s found [] = refl
lengths_same s found (l ∷ ls) =
    then_on (λ (a : Option ℕ × State). a.1.locals ≡ s.locals) (λ (a : List (Option ℕ) × State). a.1.locals ≡ s.locals) (length_rules s l l.value) _ (length_same s l l.value)
    (λ a e. moved s a.1 (lengths_behind a.1 (a.0 ∷ found) ls) e (lengths_same a.1 (a.0 ∷ found) ls))

all_lengths_same : (s : State) (d : DeclaratorTree) → OnAnswer (λ (a : List (Option ℕ) × State). a.1.locals ≡ s.locals) (lengths_of s d)
all_lengths_same s (a_declared_name pointers n p ls) = lengths_same s [] ls
all_lengths_same s (a_nested pointers d ls) =
    then_on (λ (a : List (Option ℕ) × State). a.1.locals ≡ s.locals) (λ (a : List (Option ℕ) × State). a.1.locals ≡ s.locals) (lengths_of s d) _ (all_lengths_same s d)
    (λ a e. moved s a.1 (lengths_behind a.1 a.0 ls) e (lengths_same a.1 a.0 ls))

declared_same : (s : State) (q : Qualified) (d : DeclaratorTree) → OnAnswer (λ (a : Shape × State). a.1.locals ≡ s.locals) (declared s q d)
declared_same s q d = then_on (λ (a : List (Option ℕ) × State). a.1.locals ≡ s.locals) (λ (a : Shape × State). a.1.locals ≡ s.locals) (lengths_of s d) _ (all_lengths_same s d) (λ a e. e)

-- ## Specifiers

member_same : (s t : State) (l : Layout) (shape : Shape) (d : DeclaratorTree) → t.locals ≡ s.locals → OnAnswer (λ (a : Layout × State). a.1.locals ≡ s.locals) (member_rules t l shape d)
member_same s t l shape d e =
    on_row (λ (a : Layout × State). a.1.locals ≡ s.locals) shape.left_out Kinds.Unsupported (declared_place d) _ (λ x.
    on_row (λ (a : Layout × State). a.1.locals ≡ s.locals) (has_member l (declared_name d)) Kinds.Redeclared (declared_place d) _ (λ y.
    on_row (λ (a : Layout × State). a.1.locals ≡ s.locals) (is_no_object t.scope shape) Kinds.Mismatch (declared_place d) _ (λ z. e)))

members_same : (s : State) (l : Layout) (q : Qualified) (ds : List DeclaratorTree) → OnAnswer (λ (a : Layout × State). a.1.locals ≡ s.locals) (members_declared s l q ds)
members_same s l q [] = refl
members_same s l q (d ∷ ds) =
    then_on (λ (a : Shape × State). a.1.locals ≡ s.locals) (λ (a : Layout × State). a.1.locals ≡ s.locals) (declared s q d) _ (declared_same s q d) (λ a e.
    then_on (λ (a : Layout × State). a.1.locals ≡ s.locals) (λ (a : Layout × State). a.1.locals ≡ s.locals) (member_rules a.1 l a.0 d) _ (member_same s a.1 l a.0 d e) (λ k f.
    moved s k.1 (members_declared k.1 k.0 q ds) f (members_same k.1 k.0 q ds)))

tag_same : (s : State) (t : Tag) (o : Option Tagged) → OnAnswer (λ (a : ℕ × State). a.1.locals ≡ s.locals) (opened_tag s t o)
tag_same s t None = refl
tag_same s t (Some (Tagging.Enumeration z)) = tt
tag_same s t (Some (Tagging.Structure k)) = on_row (λ (a : ℕ × State). a.1.locals ≡ s.locals) (structure s.scope k).opened Kinds.Redeclared t.place (Ok (k, opened k s)) (λ e. refl)

opens_same : (s : State) (t : Option Tag) → OnAnswer (λ (a : ℕ × State). a.1.locals ≡ s.locals) (opened_by s t)
opens_same s None = refl
opens_same s (Some t) = tag_same s t (tagged_here s.scope t.name)

completed_same : (s : State) (k : ℕ) (l : Layout) → SameState s (completed k l s)
completed_same s k l = by_test (structure s.scope k).complete
  where
    by_test : (b : Bool) → SameState s (cond b s (with_structure k (completed_structure l) s))
    by_test true = refl
    by_test false = refl

enumerator_same : (s : State) (next : ℤ) (e : EnumeratorTree) (t : Option Tree) → OnAnswer (λ (a : ℤ × State). a.1.locals ≡ s.locals) (enumerator_rules s next e t)
enumerator_same s next e None =
    on_row (λ (a : ℤ × State). a.1.locals ≡ s.locals) (is_declared_here s e.name) Kinds.Redeclared e.place _ (λ a.
    on_row (λ (a : ℤ × State). a.1.locals ≡ s.locals) (not (is_in Ints.Int next)) Kinds.NotConstant e.place _ (λ b. refl))
enumerator_same s next e (Some t) =
    then_on (λ (a : OperandTree × State). a.1.locals ≡ s.locals) (λ (a : ℤ × State). a.1.locals ≡ s.locals) (measured s t) _ (measured_same s t) (λ a f.
    on_row_unless (λ (n : ℤ). Unit {0}) (λ (a : ℤ × State). a.1.locals ≡ s.locals) (value_named (folded_value a.0)) Kinds.NotConstant (place_of t) _ (some_any (value_named (folded_value a.0))) (λ z i.
    on_row (λ (a : ℤ × State). a.1.locals ≡ s.locals) (is_declared_here a.1 e.name) Kinds.Redeclared e.place _ (λ b. f)))

enumerators_same : (s : State) (next : ℤ) (es : List EnumeratorTree) → OnAnswer (SameState s) (enumerators s next es)
enumerators_same s next [] = refl
enumerators_same s next (e ∷ es) =
    then_on (λ (a : ℤ × State). a.1.locals ≡ s.locals) (SameState s) (enumerator_rules s next e e.value) _ (enumerator_same s next e e.value)
    (λ a f. moved_state s a.1 (enumerators a.1 (a.0 +ℤ pos 1) es) f (enumerators_same a.1 (a.0 +ℤ pos 1) es))

enumeration_tag_same : (s : State) (t : Option Tag) → OnAnswer (SameState s) (enumeration_tag s t)
enumeration_tag_same s None = refl
enumeration_tag_same s (Some t) = on_row (SameState s) (is_some (tagged_here s.scope t.name)) Kinds.Redeclared t.place _ (λ a. refl)

enumeration_same : (s : State) (t : Option Tag) (es : List EnumeratorTree) → OnAnswer (SameState s) (enumeration s t es)
enumeration_same s t es = then_on (SameState s) (SameState s) (enumeration_tag s t) _ (enumeration_tag_same s t) (λ u e. moved_state s u (enumerators u (pos 0) es) e (enumerators_same u (pos 0) es))

mutual
  specifier_same : (s : State) (said : Said) (x : SpecifierTree) → OnAnswer (λ (a : Said × State). a.1.locals ≡ s.locals) (specifier s said x)
  specifier_same s said (a_plain spec) =
      then_any (λ (a : Said × State). a.1.locals ≡ s.locals) (word_rules (mentioned s.scope spec.word) said spec.place spec.word) (λ d. Ok (d, record s { scope = mentioned s.scope spec.word })) (λ d. refl)
  specifier_same s said (an_enum tag es p) = then_on (SameState s) (λ (a : Said × State). a.1.locals ≡ s.locals) (enumeration s tag es) _ (enumeration_same s tag es) (λ t e. e)
  specifier_same s said (a_struct tag members p) =
      then_on (λ (a : ℕ × State). a.1.locals ≡ s.locals) (λ (a : Said × State). a.1.locals ≡ s.locals) (opened_by s tag) (λ o. then_with (laid_out o.1 no_layout members) (λ a. Ok (structure_said said o.0 a))) (opens_same s tag) (λ o e.
      then_on (λ (a : Layout × State). a.1.locals ≡ o.1.locals) (λ (a : Said × State). a.1.locals ≡ s.locals) (laid_out o.1 no_layout members) (λ a. Ok (structure_said said o.0 a)) (laid_same o.1 no_layout members)
      (λ a f. completed_same a.1 o.0 a.0 ∙ f ∙ e))

  specifiers_same : (s : State) (said : Said) (xs : SpecifierTrees) → OnAnswer (λ (a : Said × State). a.1.locals ≡ s.locals) (specifiers s said xs)
  specifiers_same s said no_specifiers = refl
  specifiers_same s said (and_specifier x xs) =
      then_on (λ (a : Said × State). a.1.locals ≡ s.locals) (λ (a : Said × State). a.1.locals ≡ s.locals) (specifier s said x) (λ a. specifiers a.1 a.0 xs) (specifier_same s said x)
      (λ a e. moved s a.1 (specifiers a.1 a.0 xs) e (specifiers_same a.1 a.0 xs))

  laid_same : (s : State) (l : Layout) (members : MemberTrees) → OnAnswer (λ (a : Layout × State). a.1.locals ≡ s.locals) (laid_out s l members)
  laid_same s l no_members = refl
  laid_same s l (and_members xs ds members) =
      then_on (λ (a : Said × State). a.1.locals ≡ s.locals) (λ (a : Layout × State). a.1.locals ≡ s.locals) (specifiers s nothing_said xs) (λ d. then_with (members_declared d.1 l (base d.0) ds) (λ a. laid_out a.1 a.0 members)) (specifiers_same s nothing_said xs) (λ d e.
      then_on (λ (a : Layout × State). a.1.locals ≡ d.1.locals) (λ (a : Layout × State). a.1.locals ≡ s.locals) (members_declared d.1 l (base d.0) ds) (λ a. laid_out a.1 a.0 members) (members_same d.1 l (base d.0) ds)
      (λ a f. moved s a.1 (laid_out a.1 a.0 members) (f ∙ e) (laid_same a.1 a.0 members)))

pub specified_same : (s : State) (xs : SpecifierTrees) → OnAnswer (λ (a : Said × State). a.1.locals ≡ s.locals) (specified s xs)
specified_same s xs = specifiers_same s nothing_said xs

-- ## Initialisers

scalar_same : (static : Bool) (s : State) (n c : ℕ) (v : Rated) → OnAnswer (λ (a : Given). a.1.locals ≡ s.locals) (scalar_rules static s n c v)
scalar_same static s n c v =
    on_row (λ (a : Given). a.1.locals ≡ s.locals) (is_structure v.sort) Kinds.Unsupported v.place _ (λ a.
    on_row_unless (λ (t : Scalar). Unit {0}) (λ (a : Given). a.1.locals ≡ s.locals) (scalar_of s.scope n) Kinds.Mismatch v.place _ (some_any (scalar_of s.scope n)) (λ t i.
    on_row_unless (λ (e : RvalueTree). Unit {0}) (λ (a : Given). a.1.locals ≡ s.locals) (given s.scope v n) Kinds.Mismatch v.place _ (some_any (given s.scope v n)) (λ e j.
    on_row (λ (a : Given). a.1.locals ≡ s.locals) (static && is_none (static_value s e)) Kinds.NotConstant v.place _ (λ b. refl))))

lone_same : (static : Bool) (s : State) (n c : ℕ) (v : Rated) → OnAnswer (λ (a : Given). a.1.locals ≡ s.locals) (lone_rules static s n c v)
lone_same static s n c v = by_test (is_integer v.sort && is_null v.sort)
  where
    by_test : (b : Bool) → OnAnswer (λ (a : Given). a.1.locals ≡ s.locals) (cond b (Ok ([], s)) (scalar_rules static s n c v))
    by_test true = refl
    by_test false = scalar_same static s n c v

aggregate_same : (static : Bool) (s : State) (n c : ℕ) (t : Tree) (further : Result Given Refusal) (b : Bool) → OnAnswer (λ (a : Given). a.1.locals ≡ s.locals) further
    → OnAnswer (λ (a : Given). a.1.locals ≡ s.locals) (cond b (then_with (typed_in s t) (λ o. lone_rules static o.1 n c (valued o.1.scope o.0))) further)
aggregate_same static s n c t further true h =
    then_on (λ (a : OperandTree × State). a.1.locals ≡ s.locals) (λ (a : Given). a.1.locals ≡ s.locals) (typed_in s t) _ (typed_same s t)
    (λ o e. moved s o.1 (lone_rules static o.1 n c (valued o.1.scope o.0)) e (lone_same static o.1 n c (valued o.1.scope o.0)))
aggregate_same static s n c t further false h = h

list_same : (static : Bool) (s : State) (n c : ℕ) (p : Place) (q : Option Part) (t : Option Tree) (further : Result Given Refusal) → OnAnswer (λ (a : Given). a.1.locals ≡ s.locals) further → OnAnswer (λ (a : Given). a.1.locals ≡ s.locals) (list_rules static s n c p q t further)
list_same static s n c p (Some q) (Some t) further h = aggregate_same static s q.of.number c t further (is_aggregate s.scope q.of.number) h
list_same static s n c p (Some q) None further h = on_row (λ (a : Given). a.1.locals ≡ s.locals) (not (is_aggregate s.scope n)) Kinds.Mismatch p further (λ a. h)
list_same static s n c p None t further h = on_row (λ (a : Given). a.1.locals ≡ s.locals) (not (is_aggregate s.scope n)) Kinds.Mismatch p further (λ a. h)

mutual
  initial_same : (static : Bool) (s : State) (n c : ℕ) (v : ValueTree) → OnAnswer (λ (a : Given). a.1.locals ≡ s.locals) (initial static s n c v)
  initial_same static s n c (an_expression t) =
      then_on (λ (a : OperandTree × State). a.1.locals ≡ s.locals) (λ (a : Given). a.1.locals ≡ s.locals) (typed_in s t) _ (typed_same s t)
      (λ o e. moved s o.1 (scalar_rules static o.1 n c (valued o.1.scope o.0)) e (scalar_same static o.1 n c (valued o.1.scope o.0)))
  initial_same static s n c (a_list values p) = list_same static s n c p (part s.scope n 0) (lone values) (initials static s n c 0 values p) (initials_same static s n c 0 values p)

  initials_same : (static : Bool) (s : State) (n c i : ℕ) (values : ValueTrees) (p : Place) → OnAnswer (λ (a : Given). a.1.locals ≡ s.locals) (initials static s n c i values p)
  initials_same static s n c i no_values p = refl
  initials_same static s n c i (and_value v values) p =
      on_row_unless (λ (q : Part). Unit {0}) (λ (a : Given). a.1.locals ≡ s.locals) (part s.scope n i) Kinds.Mismatch p _ (some_any (part s.scope n i)) (λ q u.
      then_on (λ (a : Given). a.1.locals ≡ s.locals) (λ (a : Given). a.1.locals ≡ s.locals) (initial static s q.of.number (clipped (c + q.cell)) v) (λ g. given_behind g.0 (initials static g.1 n c (suc i) values p))
      (initial_same static s q.of.number (clipped (c + q.cell)) v)
      (λ g e. then_on (λ (a : Given). a.1.locals ≡ g.1.locals) (λ (a : Given). a.1.locals ≡ s.locals) (initials static g.1 n c (suc i) values p) (λ k. Ok (g.0 ++ k.0, k.1)) (initials_same static g.1 n c (suc i) values p) (λ k f. f ∙ e)))

-- ## Declarations

counted_same : (t : State) (d : Declared) (i : Option InitialiserTree) → let a : Declared × State = counted t d i in a.1.locals ≡ t.locals
counted_same t d None = refl
counted_same t d (Some i) = by_value i.value
  where
    by_test : (n : ℕ) (b : Bool) → let a : Declared × State = cond b (with_count t d n) (d, t) in a.1.locals ≡ t.locals
    by_test n true = refl
    by_test n false = refl

    by_value : (v : ValueTree) → let a : Declared × State = counted_by t d v in a.1.locals ≡ t.locals
    by_value (an_expression x) = refl
    by_value (a_list vs p) = by_test (count_values vs) d.shape.is_open

declared_by_same : (s : State) (said : Said) (d : InitDeclaratorTree) → OnAnswer (λ (a : Declared × State). a.1.locals ≡ s.locals) (declared_by s said d)
declared_by_same s said d =
    then_on (λ (a : Shape × State). a.1.locals ≡ s.locals) (λ (a : Declared × State). a.1.locals ≡ s.locals) (declared s (base said) d.declarator) _ (declared_same s (base said) d.declarator)
    (λ a e. counted_same a.1 (record { name = declared_name d.declarator; place = declared_place d.declarator; shape = a.0; initialiser = d.initialiser }) d.initialiser ∙ e)

typedef_same : (s t : State) (d : Declared) → SameState s t → OnAnswer (SameState s) (typedef_rules t d)
typedef_same s t d e =
    on_row (SameState s) d.shape.left_out Kinds.Unsupported d.place _ (λ a.
    on_row (SameState s) (is_declared_here t d.name) Kinds.Redeclared d.place _ (λ b.
    on_row (SameState s) (d.shape.mismatch || d.shape.is_open || is_some d.initialiser) Kinds.Mismatch d.place _ (λ c. e)))

unless_same : (s : State) (d : Declared) (k : ℕ) (n : Option Named) → SameState s (bound_unless s d k n)
unless_same s d k None = refl
unless_same s d k (Some n) = refl

linked_same : (s : State) (d : Declared) (b : Bool) (o : Option ℕ) → let a : ℕ × State = linked_object s d b o in SameState s a.1
linked_same s d b (Some k) = unless_same (redeclared s d b k) d k (named_here s.scope d.name)
linked_same s d b None = unless_same (with_linkage (new_static s d b) d (length s.statics)) d (length s.statics) (named_here s.scope d.name)

initialised_same : (s : State) (k : ℕ) (i : Option InitialiserTree) → OnAnswer (SameState s) (initialised_static s k i)
initialised_same s k None = refl
initialised_same s k (Some i) = then_on (λ (a : Given). a.1.locals ≡ s.locals) (SameState s) (initial true s (static_type s k).number 0 i.value) _ (initial_same true s (static_type s k).number 0 i.value) (λ g e. e)

file_object_same : (s t : State) (b : Bool) (d : Declared) → SameState s t → OnAnswer (SameState s) (file_object t b d)
file_object_same s t b d e =
    on_row (SameState s) d.shape.left_out Kinds.Unsupported d.place _ (λ x.
    on_row (SameState s) (is_other (named_here t.scope d.name) (linked t d.name) || clashes t d (linked t d.name)) Kinds.Redeclared d.place _ (λ y.
    on_row (SameState s) (is_no_object t.scope d.shape) Kinds.Mismatch d.place _ (λ z.
    let o : ℕ × State = linked_object t d (not b) (linked t d.name) in
    moved_state s o.1 (initialised_static o.1 o.0 d.initialiser) (linked_same t d (not b) (linked t d.name) ∙ e) (initialised_same o.1 o.0 d.initialiser))))

file_rules_same : (s t : State) (storage : Option Storage) (d : Declared) → SameState s t → OnAnswer (SameState s) (file_rules t storage d)
file_rules_same s t storage d e = by_test (is_typedef storage)
  where
    by_test : (b : Bool) → OnAnswer (SameState s) (cond b (typedef_rules t d) (file_object t (is_extern storage && not (is_some d.initialiser)) d))
    by_test true = typedef_same s t d e
    by_test false = file_object_same s t (is_extern storage && not (is_some d.initialiser)) d e

file_declared_same : (s : State) (said : Said) (ds : List InitDeclaratorTree) → OnAnswer (SameState s) (file_declared s said ds)
file_declared_same s said [] = refl
file_declared_same s said (d ∷ ds) =
    then_on (λ (a : Declared × State). a.1.locals ≡ s.locals) (SameState s) (declared_by s said d) _ (declared_by_same s said d) (λ a e.
    then_on (SameState s) (SameState s) (file_rules a.1 said.storage a.0) _ (file_rules_same s a.1 said.storage a.0 e) (λ t f.
    moved_state s t (file_declared t said ds) f (file_declared_same t said ds)))

tag_rules_same : (s : State) (t : Tag) (o : Option Tagged) → OnAnswer (SameState s) (tag_rules s t o)
tag_rules_same s t None = refl
tag_rules_same s t (Some (Tagging.Structure k)) = refl
tag_rules_same s t (Some (Tagging.Enumeration z)) = tt

file_form_same : (s : State) (d : DeclarationTree) (t : Option Tag) → OnAnswer (SameState s) (file_form s d t)
file_form_same s d (Some t) = tag_rules_same s t (tagged_here s.scope t.name)
file_form_same s d None =
    then_on (λ (a : Said × State). a.1.locals ≡ s.locals) (SameState s) (specified s d.specifiers) _ (specified_same s d.specifiers)
    (λ a e. moved_state s a.1 (file_declared a.1 a.0 d.declarators) e (file_declared_same a.1 a.0 d.declarators))

pub file_declaration_same : (s : State) (d : DeclarationTree) → OnAnswer (SameState s) (file_declaration s d)
file_declaration_same s d = file_form_same s d (lone_tag d.specifiers d.declarators)

pub measured_locals : (s : State) (t : Tree) → OnAnswer (λ (a : OperandTree × State). a.1.locals ≡ s.locals) (measured s t)
measured_locals s t = measured_same s t
