-- Functions that are named and used are declared: for declarators, specifiers, initialisers and declarations.
use Rattle.std.proofs.Common.{◌≡◌, ℕ, ◌<◌, List, [], ◌∷◌, ◌++◌, length}
use Rattle.std.specs.Prelude.{ℤ, suc, Bool, true, false, cond, not, All, is_some, Option, Some, None, Result, Ok, Err}
use Rattle.std.proofs.lemmas.List.Elements.{All-push}
use Rattle.tm_typed.specs.tm_terms.declared.places.Place.{Place}
use Rattle.tm_typed.specs.tm_terms.declared.tokens.Name.{Name}
use Rattle.tm_typed.specs.tm_cint.declared.int_types.IntType.TheVariants as Ints
use Rattle.tm_typed.specs.tm_cint.IntTypes.{is_in}
use Rattle.tm_typed.specs.tm_terms.declared.refusals.Kind.{Kind}
use Rattle.tm_typed.specs.tm_terms.declared.refusals.Kind.TheVariants as Kinds
use Rattle.tm_typed.specs.tm_terms.declared.refusals.Refusal.{Refusal}
use Rattle.tm_typed.specs.tm_terms.declared.types_named.PointerWord.{PointerWord}
use Rattle.tm_typed.specs.tm_terms.declared.types_named.Spec.{Spec}
use Rattle.tm_typed.specs.tm_terms.declared.types_named.Storage.{Storage}
use Rattle.tm_typed.specs.tm_terms.declared.types_named.Storage.TheVariants as Storages
use Rattle.tm_typed.specs.tm_terms.ExprTrees.{Tree, place_of}
use Rattle.tm_typed.specs.tm_trees.declared.declarations.Tag.{Tag}
use Rattle.tm_typed.specs.tm_trees.DeclarationTrees.{LengthTree, DeclaratorTree, a_declared_name, a_nested}
use Rattle.tm_typed.specs.tm_trees.DeclarationTrees.{declared_name, EnumeratorTree, SpecifierTree, a_plain, a_struct}
use Rattle.tm_typed.specs.tm_trees.DeclarationTrees.{an_enum, SpecifierTrees, no_specifiers, and_specifier, MemberTrees}
use Rattle.tm_typed.specs.tm_trees.DeclarationTrees.{no_members, and_members, ValueTree, an_expression, a_list}
use Rattle.tm_typed.specs.tm_trees.DeclarationTrees.{ValueTrees, no_values, and_value, InitialiserTree}
use Rattle.tm_typed.specs.tm_trees.DeclarationTrees.{InitDeclaratorTree, DeclarationTree}
use Rattle.tm_typed.specs.declared.types.Qualified.{Qualified}
use Rattle.tm_typed.specs.declared.types.CType.TheVariants as Types
use Rattle.tm_typed.specs.declared.scopes.Named.{Named}
use Rattle.tm_typed.specs.declared.scopes.Named.TheVariants as Names
use Rattle.tm_typed.specs.declared.scopes.ObjectNumber.TheVariants as Objects
use Rattle.tm_typed.specs.declared.scopes.Binding.{Binding}
use Rattle.tm_typed.specs.declared.scopes.Part.{Part}
use Rattle.tm_typed.specs.declared.scopes.Tagged.{Tagged}
use Rattle.tm_typed.specs.declared.scopes.Tagged.TheVariants as Tagging
use Rattle.tm_typed.specs.declared.specifiers.Said.{Said}
use Rattle.tm_typed.specs.declared.specifiers.Shape.{Shape}
use Rattle.tm_typed.specs.Scopes.{Scope, Structure, structure, named, named_here, tagged_here}
use Rattle.tm_typed.specs.States.{State, static, static_type, with_name, with_tag, in_scope}
use Rattle.tm_typed.specs.Evaluation.{typed_in, measured, folded_value}
use Rattle.tm_typed.specs.Refusals.{row, row_unless, then_with}
use Rattle.tm_typed.specs.TypedTrees.{OperandTree, Rated}
use Rattle.tm_typed.specs.TypedStatements.{GivenTree, LocalTree}
use Rattle.tm_typed.specs.TypeNames.{bare, pointed}
use Rattle.tm_typed.specs.TypeRows.{with_type, clipped}
use Rattle.tm_typed.specs.Specifiers.{base, nothing_said, word_rules, mentioned, new_structure, with_struct_tag}
use Rattle.tm_typed.specs.Declarators.{length_named, length_rules, lengths_behind, lengths_of, shaped, whole, shape_in, declared, declared_pointers}
use Rattle.tm_typed.specs.Structures.{Layout, no_layout, is_no_object, has_member, with_member, declared_place, member_rules, members_declared, with_structure, opened, completed_structure, completed, opened_tag, opened_by, value_named, with_enumerator, is_declared_here, enumerator_rules, enumerators, enumeration_tag, are_from_zero, with_enumeration, enumeration, plain_rules, enumeration_said, structure_said, specifier, specifiers, laid_out, specified}
use Rattle.tm_typed.specs.WellTyped.{OnAnswer}
use Rattle.typing_laws.proofs.SameNames.{SameNames, same, same_then, type_same, structure_same, struct_tag_same, mentioned_same, pointed_same, shaped_same}
use Rattle.typing_laws.proofs.Steps.{then_on, then_any}
use Rattle.typing_laws.proofs.WithinUses.{IsNamedBelow, IsWithin, Within, in_same_scope, typed_within, measured_within}

-- ## Rows, and names that are no functions

pub row_on : {A : Type 0} (P : A → Type 0) (b : Bool) (kind : Kind) (p : Place) (further : Result A Refusal) → OnAnswer P further → OnAnswer P (row b kind p further)
row_on P true kind p further h = tt
row_on P false kind p further h = h

pub row_unless_on : {A B : Type 0} (P : B → Type 0) (o : Option A) (kind : Kind) (p : Place) (further : A → Result B Refusal) → ((a : A) → OnAnswer P (further a)) → OnAnswer P (row_unless o kind p further)
row_unless_on P None kind p further h = tt
row_unless_on P (Some a) kind p further h = h a

-- three rows at one place
pub rows_on : {A : Type 0} (P : A → Type 0) (b c d : Bool) (i j k : Kind) (p : Place) (further : Result A Refusal) → OnAnswer P further → OnAnswer P (row b i p (row c j p (row d k p further)))
rows_on P b c d i j k p further h = row_on P b i p (row c j p (row d k p further)) (row_on P c j p (row d k p further) (row_on P d k p further h))

pub named_within : (n : ℕ) (s : State) (m : Name) (x : Named) → IsNamedBelow n x → IsWithin n s → IsWithin n (in_scope s (with_name m x s.scope))
named_within n s m x k h = record {
  functions = h.functions;
  names = All-push (λ b. IsNamedBelow n b.named) s.scope.names (record { name = m; named = x }) h.names k;
  uses = h.uses;
}

-- ## Declarators

length_within : (n : ℕ) (s : State) (l : LengthTree) (t : Option Tree) → IsWithin n s → OnAnswer (Within n) (length_rules s l t)
length_within n s l None h = h
length_within n s l (Some t) h =
    then_on (Within n) (Within n) (measured s t) _ (measured_within n s t h) (λ m k.
    row_unless_on (Within {A = Option ℕ} n) (length_named (folded_value m.0)) Kinds.NotConstant (place_of t) (λ c. Ok (Some c, record m.1 { lengths = m.1.lengths ++ c ∷ [] }))
    (λ c. record { functions = k.functions; names = k.names; uses = k.uses }))

behind_within : (n : ℕ) (s : State) (found : List (Option ℕ)) (ls : List LengthTree) → IsWithin n s → OnAnswer (Within n) (lengths_behind s found ls)
behind_within n s found [] h = h
behind_within n s found (l ∷ ls) h =
    then_on (Within n) (Within n) (length_rules s l l.value) _ (length_within n s l l.value h) (λ m k. behind_within n m.1 (m.0 ∷ found) ls k)

lengths_within : (n : ℕ) (s : State) (d : DeclaratorTree) → IsWithin n s → OnAnswer (Within n) (lengths_of s d)
lengths_within n s (a_declared_name pointers m p ls) h = behind_within n s [] ls h
lengths_within n s (a_nested pointers d ls) h =
    then_on (Within n) (Within n) (lengths_of s d) _ (lengths_within n s d h) (λ m k. behind_within n m.1 m.0 ls k)

pub declared_within : (n : ℕ) (s : State) (q : Qualified) (d : DeclaratorTree) → IsWithin n s → OnAnswer (Within n) (declared s q d)
declared_within n s q d h =
    then_on (Within n) (Within n) (lengths_of s d) _ (lengths_within n s d h)
    (λ m k. in_same_scope n m.1 (shaped (bare q, m.1.scope) d m.0).1 (shaped_same (bare q, m.1.scope) d m.0) k)

pub pointers_within : (n : ℕ) (s : State) (q : Qualified) (words : List PointerWord) → IsWithin n s → IsWithin n (declared_pointers s q words).1
pointers_within n s q words h = in_same_scope n s (pointed (bare q, s.scope) words).1 (pointed_same (bare q) s.scope words) h

-- ## Members

member_within : (n : ℕ) (s : State) (l : Layout) (shape : Shape) (d : DeclaratorTree) → IsWithin n s → OnAnswer (Within n) (member_rules s l shape d)
member_within n s l shape d h =
    rows_on (Within {A = Layout} n) shape.left_out (has_member l (declared_name d)) (is_no_object s.scope shape) Kinds.Unsupported Kinds.Redeclared Kinds.Mismatch (declared_place d)
    (Ok (with_member s.scope l (declared_name d) shape.of, s)) h

members_within : (n : ℕ) (s : State) (l : Layout) (q : Qualified) (ds : List DeclaratorTree) → IsWithin n s → OnAnswer (Within n) (members_declared s l q ds)
members_within n s l q [] h = h
members_within n s l q (d ∷ ds) h =
    then_on (Within n) (Within n) (declared s q d) _ (declared_within n s q d h) (λ m k.
    then_on (Within n) (Within n) (member_rules m.1 l m.0 d) _ (member_within n m.1 l m.0 d k) (λ c j.
    members_within n c.1 c.0 q ds j))

structure_within : (n : ℕ) (k : ℕ) (new : Structure) (s : State) → IsWithin n s → IsWithin n (with_structure k new s)
structure_within n k new s h = record { functions = h.functions; names = h.names; uses = h.uses }

opened_within : (n : ℕ) (k : ℕ) (s : State) → IsWithin n s → IsWithin n (opened k s)
opened_within n k s h = structure_within n k (record (structure s.scope k) { opened = true }) s h

completed_unless : (n : ℕ) (b : Bool) (s t : State) → IsWithin n s → IsWithin n t → IsWithin n (cond b s t)
completed_unless n true s t h k = h
completed_unless n false s t h k = k

completed_within : (n : ℕ) (k : ℕ) (l : Layout) (s : State) → IsWithin n s → IsWithin n (completed k l s)
completed_within n k l s h = completed_unless n (structure s.scope k).complete s (with_structure k (completed_structure l) s) h (structure_within n k (completed_structure l) s h)

opened_tag_within : (n : ℕ) (s : State) (t : Tag) (o : Option Tagged) → IsWithin n s → OnAnswer (Within n) (opened_tag s t o)
opened_tag_within n s t None h =
    opened_within n (length s.scope.structs) (in_scope s (with_struct_tag t.name s.scope)) (in_same_scope n s (with_struct_tag t.name s.scope) (struct_tag_same t.name s.scope) h)
opened_tag_within n s t (Some (Tagging.Enumeration z)) h = tt
opened_tag_within n s t (Some (Tagging.Structure k)) h = row_on (Within {A = ℕ} n) (structure s.scope k).opened Kinds.Redeclared t.place (Ok (k, opened k s)) (opened_within n k s h)

opened_by_within : (n : ℕ) (s : State) (tag : Option Tag) → IsWithin n s → OnAnswer (Within n) (opened_by s tag)
opened_by_within n s None h = opened_within n (length s.scope.structs) (in_scope s (new_structure s.scope)) (in_same_scope n s (new_structure s.scope) (structure_same s.scope) h)
opened_by_within n s (Some t) h = opened_tag_within n s t (tagged_here s.scope t.name) h

-- ## Enumerations

enumerator_within : (n : ℕ) (s : State) (next : ℤ) (e : EnumeratorTree) (t : Option Tree) → IsWithin n s → OnAnswer (Within n) (enumerator_rules s next e t)
enumerator_within n s next e None h =
    row_on (Within {A = ℤ} n) (is_declared_here s e.name) Kinds.Redeclared e.place (row (not (is_in Ints.Int next)) Kinds.NotConstant e.place (Ok (next, with_enumerator s e.name next)))
    (row_on (Within {A = ℤ} n) (not (is_in Ints.Int next)) Kinds.NotConstant e.place (Ok (next, with_enumerator s e.name next)) (named_within n s e.name (Names.Enumerator next) tt h))
enumerator_within n s next e (Some t) h =
    then_on (Within n) (Within n) (measured s t) _ (measured_within n s t h) (λ m k.
    row_unless_on (Within {A = ℤ} n) (value_named (folded_value m.0)) Kinds.NotConstant (place_of t)
    (λ z. row (is_declared_here m.1 e.name) Kinds.Redeclared e.place (Ok (z, with_enumerator m.1 e.name z)))
    (λ z. row_on (Within {A = ℤ} n) (is_declared_here m.1 e.name) Kinds.Redeclared e.place (Ok (z, with_enumerator m.1 e.name z)) (named_within n m.1 e.name (Names.Enumerator z) tt k)))

enumerators_within : (n : ℕ) (s : State) (next : ℤ) (es : List EnumeratorTree) → IsWithin n s → OnAnswer (IsWithin n) (enumerators s next es)
enumerators_within n s next [] h = h
enumerators_within n s next (e ∷ es) h =
    then_on (Within n) (IsWithin n) (enumerator_rules s next e e.value) _ (enumerator_within n s next e e.value h) (λ m k. enumerators_within n m.1 _ es k)

enumeration_tag_within : (n : ℕ) (s : State) (tag : Option Tag) → IsWithin n s → OnAnswer (IsWithin n) (enumeration_tag s tag)
enumeration_tag_within n s None h = h
enumeration_tag_within n s (Some t) h =
    row_on (IsWithin n) (is_some (tagged_here s.scope t.name)) Kinds.Redeclared t.place (Ok (in_scope s (with_tag t.name (Tagging.Enumeration false) s.scope)))
    (record { functions = h.functions; names = h.names; uses = h.uses })

enumeration_within : (n : ℕ) (s : State) (tag : Option Tag) (es : List EnumeratorTree) → IsWithin n s → OnAnswer (IsWithin n) (enumeration s tag es)
enumeration_within n s tag es h = then_on (IsWithin n) (IsWithin n) (enumeration_tag s tag) _ (enumeration_tag_within n s tag h) (λ t k. enumerators_within n t _ es k)

with_enumeration_within : (n : ℕ) (s : State) (tag : Option Tag) (z : Bool) → IsWithin n s → IsWithin n (in_scope s (with_enumeration tag z s.scope))
with_enumeration_within n s None z h = h
with_enumeration_within n s (Some t) false h = h
with_enumeration_within n s (Some t) true h = record { functions = h.functions; names = h.names; uses = h.uses }

-- ## Specifiers

plain_within : (n : ℕ) (s : State) (said : Said) (spec : Spec) → IsWithin n s → OnAnswer (Within n) (plain_rules s said spec)
plain_within n s said spec h =
    then_any (Within n) (word_rules (mentioned s.scope spec.word) said spec.place spec.word) _ (λ d.
    in_same_scope n s (mentioned s.scope spec.word) (mentioned_same s.scope spec.word) h)

mutual
  specifier_within : (n : ℕ) (s : State) (said : Said) (x : SpecifierTree) → IsWithin n s → OnAnswer (Within n) (specifier s said x)
  specifier_within n s said (a_plain spec) h = plain_within n s said spec h
  specifier_within n s said (an_enum tag es p) h = then_on (IsWithin n) (Within n) (enumeration s tag es) _ (enumeration_within n s tag es h)
      (λ t k. with_enumeration_within n t tag (are_from_zero (length s.scope.names) t.scope) k)
  specifier_within n s said (a_struct tag members p) h =
      then_on (Within n) (Within n) (opened_by s tag) _ (opened_by_within n s tag h) (λ o k.
      then_on (Within n) (Within n) (laid_out o.1 no_layout members) _ (laid_out_within n o.1 no_layout members k) (λ m j.
      completed_within n o.0 m.0 m.1 j))

  specifiers_within : (n : ℕ) (s : State) (said : Said) (xs : SpecifierTrees) → IsWithin n s → OnAnswer (Within n) (specifiers s said xs)
  specifiers_within n s said no_specifiers h = h
  specifiers_within n s said (and_specifier x xs) h =
      then_on (Within n) (Within n) (specifier s said x) _ (specifier_within n s said x h) (λ m k. specifiers_within n m.1 m.0 xs k)

  laid_out_within : (n : ℕ) (s : State) (l : Layout) (members : MemberTrees) → IsWithin n s → OnAnswer (Within n) (laid_out s l members)
  laid_out_within n s l no_members h = h
  laid_out_within n s l (and_members xs ds members) h =
      then_on (Within n) (Within n) (specifiers s nothing_said xs) _ (specifiers_within n s nothing_said xs h) (λ d k.
      then_on (Within n) (Within n) (members_declared d.1 l (base d.0) ds) _ (members_within n d.1 l (base d.0) ds k) (λ m j.
      laid_out_within n m.1 m.0 members j))

pub specified_within : (n : ℕ) (s : State) (xs : SpecifierTrees) → IsWithin n s → OnAnswer (Within n) (specified s xs)
specified_within n s xs h = specifiers_within n s nothing_said xs h
