-- Structures and enumerations (C99 6.7.2.1, 6.7.2.2), and so specifiers with everything that stands in their braces.
use Rattle.std.specs.Prelude.{ℕ, ◌+◌, ◌-◌, ◌%◌, min, max, ℤ, pos, negsuc, ◌+ℤ◌, Bool, true, false, cond, ◌||◌, not, is_some}
use Rattle.std.specs.Prelude.{List, [], ◌∷◌, ◌++◌, length, map, drop, slice_set, Option, Some, None, Result, Ok}
use Rattle.std.specs.List.{list_any, list_all}
use Rattle.tm_trees.specs.tm_cint.declared.int_types.IntType.TheVariants as Ints
use Rattle.tm_trees.specs.tm_cint.IntTypes.{is_in}
use Rattle.tm_trees.specs.tm_terms.declared.places.Place.{Place}
use Rattle.tm_trees.specs.tm_terms.declared.tokens.Name.{Name}
use Rattle.tm_trees.specs.tm_terms.declared.refusals.Kind.TheVariants as Kinds
use Rattle.tm_trees.specs.tm_terms.declared.refusals.Refusal.{Refusal}
use Rattle.tm_trees.specs.tm_terms.declared.types_named.Spec.{Spec}
use Rattle.tm_trees.specs.tm_terms.Names.{is_same_name}
use Rattle.tm_trees.specs.tm_terms.ExprTrees.{Tree, place_of}
use Rattle.tm_trees.specs.declared.declarations.Tag.{Tag}
use Rattle.tm_trees.specs.DeclarationTrees.{DeclaratorTree, a_declared_name, a_nested, declared_name, EnumeratorTree}
use Rattle.tm_trees.specs.DeclarationTrees.{SpecifierTree, a_plain, a_struct, an_enum, SpecifierTrees, no_specifiers}
use Rattle.tm_trees.specs.DeclarationTrees.{and_specifier, MemberTrees, no_members, and_members}
use Rattle.tm_typed.specs.declared.types.Qualified.{Qualified}
use Rattle.tm_typed.specs.declared.types.CType.TheVariants as Types
use Rattle.tm_typed.specs.declared.scopes.Named.{Named}
use Rattle.tm_typed.specs.declared.scopes.Named.TheVariants as Names
use Rattle.tm_typed.specs.declared.scopes.Tagged.{Tagged}
use Rattle.tm_typed.specs.declared.scopes.Tagged.TheVariants as Tagging
use Rattle.tm_typed.specs.declared.scopes.Member.{Member}
use Rattle.tm_typed.specs.declared.specifiers.Said.{Said}
use Rattle.tm_typed.specs.declared.specifiers.Shape.{Shape}
use Rattle.tm_typed.specs.Types.{enumeration_number}
use Rattle.tm_typed.specs.Scopes.{Scope, Structure, structure, named_here, tagged_here, is_complete, cells_of}
use Rattle.tm_typed.specs.Scopes.{abstract_cells_of, size_of, tight_size_of, alignment_of}
use Rattle.tm_typed.specs.TypeRows.{number_in, clipped, wrapped}
use Rattle.tm_typed.specs.States.{State, with_name, with_tag}
use Rattle.tm_typed.specs.Evaluation.{measured, folded_value}
use Rattle.tm_typed.specs.Specifiers.{nothing_said, said_type, plain, base, word_rules, mentioned, new_structure}
use Rattle.tm_typed.specs.Specifiers.{with_struct_tag}
use Rattle.tm_typed.specs.Declarators.{declared}
use Rattle.tm_typed.specs.Refusals.{refused, then_with, row, row_unless}

-- the place of the declared name
abbrev pub declared_place : DeclaratorTree → Place
declared_place (a_declared_name pointers n p lengths) = p
declared_place (a_nested pointers d lengths) = declared_place d

-- what may be no object: an array without a length, or of a type whose size is not known
abbrev pub is_no_object : Scope → Shape → Bool
is_no_object scope shape = shape.mismatch || shape.is_open || not (is_complete scope shape.of.number)

-- ## Members, one behind the other

-- the members of a structure so far, with the cells and bytes that they take
pub record Layout : Type 0 where
  pub members : List Member
  pub cells : ℕ
  pub abstract_cells : ℕ
  pub size : ℕ
  pub tight_size : ℕ
  pub alignment : ℕ

abbrev pub no_layout : Layout
no_layout = record { members = []; cells = 0; abstract_cells = 0; size = 0; tight_size = 0; alignment = 1 }

-- the bytes that are left out before a multiple of a, at least 1
abbrev pub padding : ℕ → ℕ → ℕ
padding n a = let b = max 1 a in (b - n % b) % b

-- the next multiple of the alignment, modulo 2^32 as all sizes
abbrev pub aligned : ℕ → ℕ → ℕ
aligned n a = wrapped (n + padding n a)

-- an alignment where that of `long long` is 4
abbrev pub tight : ℕ → ℕ
tight a = min 4 a

-- one more member: it begins at the next cell, and at the next byte that its alignment allows
abbrev pub with_member : Scope → Layout → Name → Qualified → Layout
with_member scope l n q = record {
  members = l.members ++ record { name = n; part = record { of = q; cell = l.cells } } ∷ [];
  cells = clipped (l.cells + cells_of scope q.number);
  abstract_cells = clipped (l.abstract_cells + abstract_cells_of scope q.number);
  size = wrapped (aligned l.size (alignment_of scope q.number) + size_of scope q.number);
  tight_size = wrapped (aligned l.tight_size (tight (alignment_of scope q.number)) + tight_size_of scope q.number);
  alignment = max l.alignment (alignment_of scope q.number);
}

abbrev pub has_member : Layout → Name → Bool
has_member l n = list_any (is_same_name n) (map (λ m. m.name) l.members)

-- members belong to their structure, and are objects of types whose size is known
abbrev pub member_rules : State → Layout → Shape → DeclaratorTree → Result (Layout × State) Refusal
member_rules s l shape d =
    row shape.left_out Kinds.Unsupported (declared_place d)
    (row (has_member l (declared_name d)) Kinds.Redeclared (declared_place d)
    (row (is_no_object s.scope shape) Kinds.Mismatch (declared_place d)
    (Ok (with_member s.scope l (declared_name d) shape.of, s))))

-- the members that one declaration gives
abbrev pub members_declared : State → Layout → Qualified → List DeclaratorTree → Result (Layout × State) Refusal
members_declared s l q [] = Ok (l, s)
members_declared s l q (d ∷ ds) =
    then_with (declared s q d) (λ m. then_with (member_rules m.1 l m.0 d) (λ k. members_declared k.1 k.0 q ds))

-- ## The structure itself

-- the structure with this number is another one now
abbrev pub with_structure : ℕ → Structure → State → State
with_structure k new s = record s { scope = record s.scope { structs = slice_set s.scope.structs k new } }

-- its `{` is read
abbrev pub opened : ℕ → State → State
opened k s = with_structure k (record (structure s.scope k) { opened = true }) s

abbrev pub completed_structure : Layout → Structure
completed_structure l = record {
  opened = true;
  complete = true;
  members = l.members;
  cells = l.cells;
  abstract_cells = l.abstract_cells;
  size = aligned l.size l.alignment;
  tight_size = aligned l.tight_size (tight l.alignment);
  alignment = l.alignment;
}

-- Its `}` is read: its members can be named, and its size is known. A structure has one list of members.
abbrev pub completed : ℕ → Layout → State → State
completed k l s = cond (structure s.scope k).complete s (with_structure k (completed_structure l) s)

abbrev pub opened_tag : State → Tag → Option Tagged → Result (ℕ × State) Refusal
opened_tag s t None = let k = length s.scope.structs in
    Ok (k, opened k (record s { scope = with_struct_tag t.name s.scope }))
opened_tag s t (Some (Tagging.Enumeration z)) = refused Kinds.Redeclared t.place
opened_tag s t (Some (Tagging.Structure k)) =
    row (structure s.scope k).opened Kinds.Redeclared t.place (Ok (k, opened k s))

-- A structure's list of members begins: it completes the structure that its tag names in the present block, which has
-- no list yet, or is a new one (C99 6.7.2.3).
abbrev pub opened_by : State → Option Tag → Result (ℕ × State) Refusal
opened_by s None = let k = length s.scope.structs in Ok (k, opened k (record s { scope = new_structure s.scope }))
opened_by s (Some t) = opened_tag s t (tagged_here s.scope t.name)

-- ## Enumerations

-- the value of a constant: a folded one in `int`, or one more than that before it (C99 6.7.2.2)
abbrev pub value_named : Option ℤ → Option ℤ
value_named None = None
value_named (Some z) = cond (is_in Ints.Int z) (Some z) None

abbrev pub with_enumerator : State → Name → ℤ → State
with_enumerator s n z = record s { scope = with_name n (Names.Enumerator z) s.scope }

abbrev pub is_declared_here : State → Name → Bool
is_declared_here s n = is_some (named_here s.scope n)

abbrev pub enumerator_rules : State → ℤ → EnumeratorTree → Option Tree → Result (ℤ × State) Refusal
enumerator_rules s next e None =
    row (is_declared_here s e.name) Kinds.Redeclared e.place
    (row (not (is_in Ints.Int next)) Kinds.NotConstant e.place
    (Ok (next, with_enumerator s e.name next)))
enumerator_rules s next e (Some t) = then_with (measured s t) (λ m.
    row_unless (value_named (folded_value m.0)) Kinds.NotConstant (place_of t) (λ z.
    row (is_declared_here m.1 e.name) Kinds.Redeclared e.place
    (Ok (z, with_enumerator m.1 e.name z))))

-- constants from this value on
abbrev pub enumerators : State → ℤ → List EnumeratorTree → Result State Refusal
enumerators s next [] = Ok s
enumerators s next (e ∷ es) = then_with (enumerator_rules s next e e.value) (λ m. enumerators m.1 (m.0 +ℤ pos 1) es)

-- the tag of a list of constants is new in the present block
abbrev pub enumeration_tag : State → Option Tag → Result State Refusal
enumeration_tag s None = Ok s
enumeration_tag s (Some t) = row (is_some (tagged_here s.scope t.name)) Kinds.Redeclared t.place
    (Ok (record s { scope = with_tag t.name (Tagging.Enumeration false) s.scope }))

-- whether a name names no negative constant
abbrev pub is_from_zero : Named → Bool
is_from_zero (Names.Enumerator (negsuc n)) = false
is_from_zero _ = true

-- whether all constants are from 0 on among the names of a scope behind so many others
abbrev pub are_from_zero : ℕ → Scope → Bool
are_from_zero before scope = list_all (λ b. is_from_zero b.named) (drop before scope.names)

-- what the tag of an enumeration names from its `}` on
abbrev pub with_enumeration : Option Tag → Bool → Scope → Scope
with_enumeration (Some t) true scope = with_tag t.name (Tagging.Enumeration true) scope
with_enumeration _ _ scope = scope

abbrev pub enumeration : State → Option Tag → List EnumeratorTree → Result State Refusal
enumeration s tag es = then_with (enumeration_tag s tag) (λ t. enumerators t (pos 0) es)

-- ## Specifiers

-- a word, or a tag alone
abbrev pub plain_rules : State → Said → Spec → Result (Said × State) Refusal
plain_rules s said spec = let scope = mentioned s.scope spec.word in
    then_with (word_rules scope said spec.place spec.word) (λ d. Ok (d, record s { scope = scope }))

-- what is said of an enumeration whose constants stand behind so many names
abbrev pub enumeration_said : ℕ → Said → Option Tag → Result State Refusal → Result (Said × State) Refusal
enumeration_said before said tag r = then_with r (λ s. let z = are_from_zero before s.scope in
    Ok (said_type said (plain (enumeration_number z)), record s { scope = with_enumeration tag z s.scope }))

-- what is said of the structure k, whose members are laid out
abbrev pub structure_said : Said → ℕ → Layout × State → Said × State
structure_said said k m = (said_type said (plain (number_in m.1.scope (Types.Struct k))), completed k m.0 m.1)

abbrev mutual
  -- what a specifier says besides what is said so far
  pub specifier : State → Said → SpecifierTree → Result (Said × State) Refusal
  specifier s said (a_plain spec) = plain_rules s said spec
  specifier s said (an_enum tag es p) = enumeration_said (length s.scope.names) said tag (enumeration s tag es)
  specifier s said (a_struct tag members p) = then_with (opened_by s tag) (λ o.
      then_with (laid_out o.1 no_layout members) (λ m. Ok (structure_said said o.0 m)))

  -- specifiers behind others
  pub specifiers : State → Said → SpecifierTrees → Result (Said × State) Refusal
  specifiers s said no_specifiers = Ok (said, s)
  specifiers s said (and_specifier x xs) = then_with (specifier s said x) (λ m. specifiers m.1 m.0 xs)

  -- the members of a structure behind others
  pub laid_out : State → Layout → MemberTrees → Result (Layout × State) Refusal
  laid_out s l no_members = Ok (l, s)
  laid_out s l (and_members xs ds members) = then_with (specifiers s nothing_said xs) (λ d.
      then_with (members_declared d.1 l (base d.0) ds) (λ m. laid_out m.1 m.0 members))

-- what the specifiers of a declaration say
abbrev pub specified : State → SpecifierTrees → Result (Said × State) Refusal
specified s xs = specifiers s nothing_said xs
