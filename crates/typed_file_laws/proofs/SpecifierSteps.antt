-- Specifiers, with structures and enumerations, and declarators keep states lawful.
use Rattle.std.proofs.Common.{◌≡◌, ℕ, ◌<◌, List, [], ◌∷◌, ◌++◌, inl, inr, length, refl, arith}
use Rattle.std.specs.Prelude.{ℤ, pos, ◌+ℤ◌, Bool, true, false, cond, not, ◌||◌, is_some, drop, Option, Some, None, Result, Ok}
use Rattle.std.proofs.lemmas.Bool.{cases_Bool, or_parts, not-false, both_ways}
use Rattle.std.proofs.lemmas.List.Elements.{All-push, All-drop}
use Rattle.tm_laid.specs.tm_cint.declared.int_types.IntType.TheVariants as Ints
use Rattle.tm_laid.specs.tm_cint.IntTypes.{IsIn, is_in}
use Rattle.tm_laid.proofs.low.tm_cint.Ranges.{IsIn-from_test}
use Rattle.tm_laid.specs.tm_terms.declared.tokens.Name.{Name}
use Rattle.tm_laid.specs.tm_terms.declared.refusals.Kind.TheVariants as Kinds
use Rattle.tm_laid.specs.tm_terms.declared.refusals.Refusal.{Refusal}
use Rattle.tm_laid.specs.tm_terms.declared.types_named.Spec.{Spec}
use Rattle.tm_laid.specs.tm_terms.declared.types_named.PointerWord.{PointerWord}
use Rattle.tm_laid.specs.tm_terms.ExprTrees.{Tree, place_of}
use Rattle.tm_laid.specs.tm_trees.declared.declarations.Tag.{Tag}
use Rattle.tm_laid.specs.tm_trees.DeclarationTrees.{LengthTree, DeclaratorTree, a_declared_name, a_nested}
use Rattle.tm_laid.specs.tm_trees.DeclarationTrees.{declared_name, EnumeratorTree, SpecifierTree, a_plain, a_struct}
use Rattle.tm_laid.specs.tm_trees.DeclarationTrees.{an_enum, SpecifierTrees, no_specifiers, and_specifier, MemberTrees}
use Rattle.tm_laid.specs.tm_trees.DeclarationTrees.{no_members, and_members}
use Rattle.tm_laid.specs.tm_typed.declared.types.Qualified.{Qualified}
use Rattle.tm_laid.specs.tm_typed.declared.types.CType.TheVariants as Types
use Rattle.tm_laid.specs.tm_typed.declared.scopes.Named.TheVariants as Names
use Rattle.tm_laid.specs.tm_typed.declared.scopes.TagBinding.{TagBinding}
use Rattle.tm_laid.specs.tm_typed.declared.scopes.Tagged.{Tagged}
use Rattle.tm_laid.specs.tm_typed.declared.scopes.Tagged.TheVariants as Tagging
use Rattle.tm_laid.specs.tm_typed.declared.specifiers.Said.{Said}
use Rattle.tm_laid.specs.tm_typed.declared.specifiers.Shape.{Shape}
use Rattle.tm_laid.specs.tm_typed.Scopes.{Scope, structure, last_declared, tagged_here, is_complete}
use Rattle.tm_laid.specs.tm_typed.TypeRows.{number_in}
use Rattle.tm_laid.specs.tm_typed.TypedTrees.{OperandTree}
use Rattle.tm_laid.specs.tm_typed.Refusals.{then_with}
use Rattle.tm_laid.specs.tm_typed.States.{State, in_scope, with_tag}
use Rattle.tm_laid.specs.tm_typed.Evaluation.{measured, folded_value}
use Rattle.tm_laid.specs.tm_typed.TypeNames.{bare, Made, pointed}
use Rattle.tm_laid.specs.tm_typed.Specifiers.{nothing_said, base, word_rules, mentioned}
use Rattle.tm_laid.specs.tm_typed.Specifiers.{new_structure, with_struct_tag}
use Rattle.tm_laid.specs.tm_typed.Declarators.{shaped, length_named, length_rules, lengths_behind, lengths_of, whole}
use Rattle.tm_laid.specs.tm_typed.Declarators.{shape_in, declared, declared_pointers}
use Rattle.tm_laid.specs.tm_typed.Structures.{declared_place, is_no_object, Layout, no_layout, has_member, member_rules}
use Rattle.tm_laid.specs.tm_typed.Structures.{members_declared, with_structure, opened, completed_structure, completed}
use Rattle.tm_laid.specs.tm_typed.Structures.{opened_tag, opened_by, value_named, with_enumerator, is_declared_here}
use Rattle.tm_laid.specs.tm_typed.Structures.{enumerator_rules, enumerators, enumeration_tag, enumeration, plain_rules}
use Rattle.tm_laid.specs.tm_typed.Structures.{are_from_zero, with_enumeration, enumeration_said, structure_said, specifier, specifiers, laid_out}
use Rattle.tm_laid.specs.tm_typed.Structures.{specified}
use Rattle.tm_laid.specs.tm_typed.WellTyped.{OnAnswer}
use Rattle.typed_file_laws.specs.Tables.{IsType, IsTag, AreLawfulTables}
use Rattle.typed_file_laws.specs.Lawful.{IsLawfulState}
use Rattle.typing_laws.proofs.Steps.{then_on}
use Rattle.typed_file_laws.proofs.RuleSteps.{on_row, OnSome, on_row_unless, some_any, answer_weaker}
use Rattle.typed_file_laws.proofs.TableGrowth.{type_stays}
use Rattle.typed_file_laws.proofs.TableRows.{Follows, follows_none, follows_on}
use Rattle.typed_file_laws.proofs.TableStructures.{new_structure_follows, struct_tag_follows, new_structure_count, struct_tag_count, IsUnknown, new_structure_unknown, struct_tag_unknown, restructured, opening, structure_at, opening_follows, IsLayout, no_members_yet, layout_stays, member_laid, laid_follows}
use Rattle.typed_file_laws.proofs.TypeShapes.{last_stands, some_map, IsSaid, said_stays, enumeration_is_type, base_type, word_said, word_follows, aliases_stay, shaped_makes, bare_makes, stars_make}
use Rattle.typed_file_laws.proofs.StateSteps.{rescoped_lawful, rescoped_grows, Continues, continues_none, continues_on, scope_continues, name_continues, lengths_noted, aliases_stand, Evaluates, measured_continues}

-- ## One step after the other

-- what holds behind a state holds behind an earlier one
pub since : {B : Type 0} (m : ℕ) (s t : State) (behind : B → State) (Q : B → Type 0) (r : Result B Refusal) → Continues m s t
    → OnAnswer (λ (b : B). Continues m t (behind b) × Q b) r → OnAnswer (λ (b : B). Continues m s (behind b) × Q b) r
since m s t behind Q r c h = answer_weaker (λ b. Continues m t (behind b) × Q b) (λ b. Continues m s (behind b) × Q b) r (λ b k. (continues_on m s t (behind b) c k.0, k.1)) h

-- states alone
pub since_state : (m : ℕ) (s t : State) (r : Result State Refusal) → Continues m s t → OnAnswer (Continues m t) r → OnAnswer (Continues m s) r
since_state m s t r c h = answer_weaker (Continues m t) (Continues m s) r (λ u k. continues_on m s t u c k) h

abbrev pub Ends : {A : Type 0} → ℕ → State → A × State → Type 0
Ends m s a = Continues m s a.1

pub since_end : {A : Type 0} (m : ℕ) (s t : State) (r : Result (A × State) Refusal) → Continues m s t → OnAnswer (λ (a : A × State). Continues m t a.1) r → OnAnswer (λ (a : A × State). Continues m s a.1) r
since_end {A} m s t r c h = answer_weaker (λ (a : A × State). Continues m t a.1) (λ (a : A × State). Continues m s a.1) r (λ a k. continues_on m s t a.1 c k) h

pub measured_on : {B : Type 0} (m : ℕ) (s : State) (t : Tree) (Q : B → Type 0) (k : OperandTree × State → Result B Refusal) → IsLawfulState m s
    → ((a : OperandTree × State) → Continues m s a.1 → OnAnswer Q (k a)) → OnAnswer Q (then_with (measured s t) k)
measured_on m s t Q k h f = then_on (Evaluates m s) Q (measured s t) k (measured_continues m s t h) (λ a e. f a e.0)

-- ## Lengths

length_continues : (m : ℕ) (s : State) (l : LengthTree) (t : Option Tree) → IsLawfulState m s → OnAnswer (λ (a : Option ℕ × State). Continues m s a.1) (length_rules s l t)
length_continues m s l None h = continues_none m s h
length_continues m s l (Some t) h =
    measured_on m s t (λ (a : Option ℕ × State). Continues m s a.1) _ h (λ a c.
    on_row_unless (λ (n : ℕ). Unit {0}) (λ (a : Option ℕ × State). Continues m s a.1) (length_named (folded_value a.0)) Kinds.NotConstant (place_of t)
    (λ n. Ok (Some n, record a.1 { lengths = a.1.lengths ++ n ∷ [] })) (some_any (length_named (folded_value a.0)))
    (λ n i. continues_on m s a.1 (record a.1 { lengths = a.1.lengths ++ n ∷ [] }) c (lengths_noted m a.1 (a.1.lengths ++ n ∷ []) c.lawful)))

lengths_continue : (m : ℕ) (s : State) (found : List (Option ℕ)) (ls : List LengthTree) → IsLawfulState m s → OnAnswer (λ (a : List (Option ℕ) × State). Continues m s a.1) (lengths_behind s found ls)
lengths_continue m s found [] h = continues_none m s h
lengths_continue m s found (l ∷ ls) h =
    then_on (λ (a : Option ℕ × State). Continues m s a.1) (λ (a : List (Option ℕ) × State). Continues m s a.1) (length_rules s l l.value)
    (λ a. lengths_behind a.1 (a.0 ∷ found) ls) (length_continues m s l l.value h)
    (λ a c. since_end m s a.1 (lengths_behind a.1 (a.0 ∷ found) ls) c (lengths_continue m a.1 (a.0 ∷ found) ls c.lawful))

all_lengths_continue : (m : ℕ) (s : State) (d : DeclaratorTree) → IsLawfulState m s → OnAnswer (λ (a : List (Option ℕ) × State). Continues m s a.1) (lengths_of s d)
all_lengths_continue m s (a_declared_name pointers n p ls) h = lengths_continue m s [] ls h
all_lengths_continue m s (a_nested pointers d ls) h =
    then_on (λ (a : List (Option ℕ) × State). Continues m s a.1) (λ (a : List (Option ℕ) × State). Continues m s a.1) (lengths_of s d)
    (λ a. lengths_behind a.1 a.0 ls) (all_lengths_continue m s d h)
    (λ a c. since_end m s a.1 (lengths_behind a.1 a.0 ls) c (lengths_continue m a.1 a.0 ls c.lawful))

-- ## Declarators

-- Where nothing is amiss, the state behind a declarator follows, and its type is in the table.
abbrev pub Declares : ℕ → State → Shape × State → Type 0
Declares m s a = a.0.mismatch ≡ false → Continues m s a.1 × IsType a.1.scope a.0.of.number × (a.0.is_open ≡ true → is_complete a.1.scope a.0.of.number ≡ true)

pub declared_continues : (m : ℕ) (s : State) (q : Qualified) (d : DeclaratorTree) → IsLawfulState m s → IsType s.scope q.number → OnAnswer (Declares m s) (declared s q d)
declared_continues m s q d h t =
    then_on (λ (a : List (Option ℕ) × State). Continues m s a.1) (Declares m s) (lengths_of s d)
    (λ a. shape_in a.1 (whole (shaped (bare q, a.1.scope) d a.0))) (all_lengths_continue m s d h)
    (λ a c e.
    let made : Made = shaped (bare q, a.1.scope) d a.0 in
    let y : IsType a.1.scope q.number = type_stays s.scope a.1.scope c.keeps.grown q.number t in
    let f = shaped_makes a.1.scope (bare q, a.1.scope) d a.0 (bare_makes a.1.scope q c.lawful.tables y) e in
    (continues_on m s a.1 (in_scope a.1 made.1) c (scope_continues m a.1 made.1 c.lawful f.0), f.1, f.2))

pub pointers_continue : (m : ℕ) (s : State) (q : Qualified) (ws : List PointerWord) → IsLawfulState m s → IsType s.scope q.number
    → let a : Shape × State = declared_pointers s q ws in Continues m s a.1 × IsType a.1.scope a.0.of.number
pointers_continue m s q ws h t =
    let made : Made = pointed (bare q, s.scope) ws in
    let f = stars_make s.scope q ws h.tables t in
    (scope_continues m s made.1 h f.0, f.1)

-- an object is of a type whose size is known
pub object_parts : (scope : Scope) (shape : Shape) → is_no_object scope shape ≡ false → (shape.mismatch ≡ false) × (shape.is_open ≡ false) × (is_complete scope shape.of.number ≡ true)
object_parts scope shape e =
    let a = or_parts (shape.mismatch || shape.is_open) (not (is_complete scope shape.of.number)) e in
    let b = or_parts shape.mismatch shape.is_open a.0 in
    (b.0, b.1, not-false (is_complete scope shape.of.number) a.1)

-- ## Members

abbrev Lays : ℕ → State → Layout × State → Type 0
Lays m s a = Continues m s a.1 × IsLayout a.1.scope a.0

member_lays : (m : ℕ) (s t : State) (l : Layout) (shape : Shape) (d : DeclaratorTree) → Declares m s (shape, t) → (Continues m s t → IsLayout t.scope l) → OnAnswer (Lays m s) (member_rules t l shape d)
member_lays m s t l shape d h i =
    on_row (Lays m s) shape.left_out Kinds.Unsupported (declared_place d) _ (λ a.
    on_row (Lays m s) (has_member l (declared_name d)) Kinds.Redeclared (declared_place d) _ (λ b.
    on_row (Lays m s) (is_no_object t.scope shape) Kinds.Mismatch (declared_place d) _ (λ e.
    let o = object_parts t.scope shape e in
    let c : Continues m s t = (h o.0).0 in
    (c, member_laid t.scope l (declared_name d) shape.of (i c) o.2))))

members_lay : (m : ℕ) (s : State) (l : Layout) (q : Qualified) (ds : List DeclaratorTree) → IsLawfulState m s → IsLayout s.scope l → IsType s.scope q.number → OnAnswer (Lays m s) (members_declared s l q ds)
members_lay m s l q [] h i t = (continues_none m s h, i)
members_lay m s l q (d ∷ ds) h i t =
    then_on (Declares m s) (Lays m s) (declared s q d) (λ a. then_with (member_rules a.1 l a.0 d) (λ k. members_declared k.1 k.0 q ds)) (declared_continues m s q d h t) (λ a g.
    then_on (Lays m s) (Lays m s) (member_rules a.1 l a.0 d) (λ k. members_declared k.1 k.0 q ds)
    (member_lays m s a.1 l a.0 d g (λ c. layout_stays s.scope a.1.scope c.keeps.grown l i)) (λ k j.
    since m s k.1 (λ (b : Layout × State). b.1) (λ b. IsLayout b.1.scope b.0) (members_declared k.1 k.0 q ds) j.0
    (members_lay m k.1 k.0 q ds j.0.lawful j.1 (type_stays s.scope k.1.scope j.0.keeps.grown q.number t))))

-- ## A structure begins and ends

abbrev Opens : ℕ → State → ℕ × State → Type 0
Opens m s a = Continues m s a.1 × (a.0 < length a.1.scope.structs)

open_new : (m : ℕ) (s : State) (w : Scope) → IsLawfulState m s → Follows s.scope w → (k : ℕ) → k < length w.structs → IsUnknown w k → Opens m s (k, opened k (record s { scope = w }))
open_new m s w h f k l u =
    let x : Scope = restructured w k (opening w k) in
    let g : Follows w x = opening_follows w k f.lawful l u in
    let c : Continues m s (in_scope s x) = scope_continues m s x h (follows_on s.scope w x f g) in
    (c, let e = g.grown.count in omega (arith, l, e))

pub tagged_here_stands : (v : Scope) (n : Name) → AreLawfulTables v → OnSome (IsTag v) (tagged_here v n)
tagged_here_stands v n h =
    some_map (IsTag v) (λ (b : TagBinding). b.tagged) (last_declared (λ (b : TagBinding). b.name) n (drop v.outer_tags v.tags))
    (last_stands (λ (b : TagBinding). IsTag v b.tagged) (λ (b : TagBinding). b.name) n (drop v.outer_tags v.tags) (All-drop (λ (b : TagBinding). IsTag v b.tagged) v.outer_tags v.tags h.tags))

unopened : (v : Scope) → AreLawfulTables v → (k : ℕ) → k < length v.structs → (structure v k).opened ≡ false → IsUnknown v k
unopened v h k l e = elim (cases_Bool (structure v k).complete) [
  | inl c ↦ absurd (both_ways (structure v k).opened e ((structure_at v h k l).opened c))
  | inr c ↦ c
]

tag_opens : (m : ℕ) (s : State) (t : Tag) (o : Option Tagged) → IsLawfulState m s → OnSome (IsTag s.scope) o → OnAnswer (Opens m s) (opened_tag s t o)
tag_opens m s t None h i =
    open_new m s (with_struct_tag t.name s.scope) h (struct_tag_follows s.scope t.name h.tables) (length s.scope.structs)
    (struct_tag_count s.scope t.name) (struct_tag_unknown s.scope t.name)
tag_opens m s t (Some (Tagging.Enumeration z)) h i = tt
tag_opens m s t (Some (Tagging.Structure k)) h i =
    on_row (Opens m s) (structure s.scope k).opened Kinds.Redeclared t.place (Ok (k, opened k s)) (λ e.
    open_new m s s.scope h (follows_none s.scope h.tables) k i (unopened s.scope h.tables k i e))

opens : (m : ℕ) (s : State) (t : Option Tag) → IsLawfulState m s → OnAnswer (Opens m s) (opened_by s t)
opens m s None h =
    open_new m s (new_structure s.scope) h (new_structure_follows s.scope h.tables) (length s.scope.structs) (new_structure_count s.scope) (new_structure_unknown s.scope)
opens m s (Some t) h = tag_opens m s t (tagged_here s.scope t.name) h (tagged_here_stands s.scope t.name h.tables)

completed_by : (m : ℕ) (s : State) (k : ℕ) (l : Layout) (b : Bool) → (structure s.scope k).complete ≡ b → IsLawfulState m s → IsLayout s.scope l → k < length s.scope.structs
    → Continues m s (cond b s (with_structure k (completed_structure l) s))
completed_by m s k l true e h i o = continues_none m s h
completed_by m s k l false e h i o = scope_continues m s (restructured s.scope k (completed_structure l)) h (laid_follows s.scope k l h.tables o e i)

completes : (m : ℕ) (s : State) (k : ℕ) (l : Layout) → IsLawfulState m s → IsLayout s.scope l → k < length s.scope.structs → Continues m s (completed k l s)
completes m s k l h i o = completed_by m s k l (structure s.scope k).complete refl h i o

-- ## Enumerations

value_stands : (o : Option ℤ) → OnSome (IsIn Ints.Int) (value_named o)
value_stands None = tt
value_stands (Some z) = by_test (is_in Ints.Int z) refl
  where
    by_test : (b : Bool) → is_in Ints.Int z ≡ b → OnSome (IsIn Ints.Int) (cond b (Some z) None)
    by_test true e = IsIn-from_test Ints.Int z e
    by_test false e = tt

enumerator_continues : (m : ℕ) (s : State) (next : ℤ) (e : EnumeratorTree) (t : Option Tree) → IsLawfulState m s → OnAnswer (λ (a : ℤ × State). Continues m s a.1) (enumerator_rules s next e t)
enumerator_continues m s next e None h =
    on_row (λ (a : ℤ × State). Continues m s a.1) (is_declared_here s e.name) Kinds.Redeclared e.place _ (λ a.
    on_row (λ (a : ℤ × State). Continues m s a.1) (not (is_in Ints.Int next)) Kinds.NotConstant e.place (Ok (next, with_enumerator s e.name next)) (λ b.
    name_continues m s e.name (Names.Enumerator next) h (IsIn-from_test Ints.Int next (not-false (is_in Ints.Int next) b))))
enumerator_continues m s next e (Some t) h =
    measured_on m s t (λ (a : ℤ × State). Continues m s a.1) _ h (λ a c.
    on_row_unless (IsIn Ints.Int) (λ (a : ℤ × State). Continues m s a.1) (value_named (folded_value a.0)) Kinds.NotConstant (place_of t) _ (value_stands (folded_value a.0)) (λ z i.
    on_row (λ (a : ℤ × State). Continues m s a.1) (is_declared_here a.1 e.name) Kinds.Redeclared e.place (Ok (z, with_enumerator a.1 e.name z)) (λ b.
    continues_on m s a.1 (with_enumerator a.1 e.name z) c (name_continues m a.1 e.name (Names.Enumerator z) c.lawful i))))

enumerators_continue : (m : ℕ) (s : State) (next : ℤ) (es : List EnumeratorTree) → IsLawfulState m s → OnAnswer (Continues m s) (enumerators s next es)
enumerators_continue m s next [] h = continues_none m s h
enumerators_continue m s next (e ∷ es) h =
    then_on (λ (a : ℤ × State). Continues m s a.1) (Continues m s) (enumerator_rules s next e e.value) (λ a. enumerators a.1 (a.0 +ℤ pos 1) es)
    (enumerator_continues m s next e e.value h)
    (λ a c. since_state m s a.1 (enumerators a.1 (a.0 +ℤ pos 1) es) c (enumerators_continue m a.1 (a.0 +ℤ pos 1) es c.lawful))

tagged_follows : (v : Scope) (n : Name) (t : Tagged) → AreLawfulTables v → IsTag v t → Follows v (with_tag n t v)
tagged_follows v n t h i =
    let tags : List TagBinding = v.tags ++ record { name = n; tagged = t } ∷ [] in record {
      lawful = rescoped_lawful v v.names tags v.outer_names v.outer_tags v.functions h (All-push (λ (b : TagBinding). IsTag v b.tagged) v.tags (record { name = n; tagged = t }) h.tags i);
      grown = rescoped_grows v v.names tags v.outer_names v.outer_tags v.functions;
      names = refl;
      outer = refl;
      functions = refl;
    }

enumeration_tag_continues : (m : ℕ) (s : State) (t : Option Tag) → IsLawfulState m s → OnAnswer (Continues m s) (enumeration_tag s t)
enumeration_tag_continues m s None h = continues_none m s h
enumeration_tag_continues m s (Some t) h =
    on_row (Continues m s) (is_some (tagged_here s.scope t.name)) Kinds.Redeclared t.place (Ok (record s { scope = with_tag t.name (Tagging.Enumeration false) s.scope }))
    (λ a. scope_continues m s (with_tag t.name (Tagging.Enumeration false) s.scope) h (tagged_follows s.scope t.name (Tagging.Enumeration false) h.tables tt))

enumeration_continues : (m : ℕ) (s : State) (t : Option Tag) (es : List EnumeratorTree) → IsLawfulState m s → OnAnswer (Continues m s) (enumeration s t es)
enumeration_continues m s t es h =
    then_on (Continues m s) (Continues m s) (enumeration_tag s t) (λ u. enumerators u (pos 0) es) (enumeration_tag_continues m s t h)
    (λ u c. since_state m s u (enumerators u (pos 0) es) c (enumerators_continue m u (pos 0) es c.lawful))

-- ## Specifiers

-- the state behind specifiers follows, and what they say is of its table
abbrev pub Says : ℕ → State → Said × State → Type 0
Says m s a = Continues m s a.1 × IsSaid a.1.scope a.0

plain_says : (m : ℕ) (s : State) (said : Said) (spec : Spec) → IsLawfulState m s → IsSaid s.scope said → OnAnswer (Says m s) (plain_rules s said spec)
plain_says m s said spec h i =
    let w : Scope = mentioned s.scope spec.word in
    let f : Follows s.scope w = word_follows s.scope h.tables spec.word in
    then_on (IsSaid w) (Says m s) (word_rules w said spec.place spec.word) (λ d. Ok (d, record s { scope = w }))
    (word_said w f.lawful (aliases_stay s.scope w f (aliases_stand m s h)) said spec.place spec.word (said_stays s.scope w f.grown said i))
    (λ d k. (scope_continues m s w h f, k))

with_enumeration_follows : (v : Scope) (t : Option Tag) (z : Bool) → AreLawfulTables v → Follows v (with_enumeration t z v)
with_enumeration_follows v None z h = follows_none v h
with_enumeration_follows v (Some t) false h = follows_none v h
with_enumeration_follows v (Some t) true h = tagged_follows v t.name (Tagging.Enumeration true) h tt

enumeration_says : (m n : ℕ) (s : State) (said : Said) (tag : Option Tag) (r : Result State Refusal) → OnAnswer (Continues m s) r → OnAnswer (Says m s) (enumeration_said n said tag r)
enumeration_says m n s said tag r h =
    then_on (Continues m s) (Says m s) r _ h (λ t c.
    let z : Bool = are_from_zero n t.scope in
    let w : Scope = with_enumeration tag z t.scope in
    let f : Follows t.scope w = with_enumeration_follows t.scope tag z c.lawful.tables in (
      continues_on m s t (record t { scope = w }) c (scope_continues m t w c.lawful f),
      enumeration_is_type w f.lawful z,
    ))

-- what a structure's members make of its specifier
structure_says : (m : ℕ) (s : State) (said : Said) (k : ℕ) (a : Layout × State) → Lays m s a → k < length a.1.scope.structs → Says m s (structure_said said k a)
structure_says m s said k a i o =
    let c : Continues m a.1 (completed k a.0 a.1) = completes m a.1 k a.0 i.0.lawful i.1 o in (
      continues_on m s a.1 (completed k a.0 a.1) i.0 c,
      type_stays a.1.scope (completed k a.0 a.1).scope c.keeps.grown (number_in a.1.scope (Types.Struct k)) (i.0.lawful.tables.numbers k o),
    )

mutual
  specifier_says : (m : ℕ) (s : State) (said : Said) (x : SpecifierTree) → IsLawfulState m s → IsSaid s.scope said → OnAnswer (Says m s) (specifier s said x)
  specifier_says m s said (a_plain spec) h i = plain_says m s said spec h i
  specifier_says m s said (an_enum tag es p) h i = enumeration_says m (length s.scope.names) s said tag (enumeration s tag es) (enumeration_continues m s tag es h)
  specifier_says m s said (a_struct tag members p) h i =
      then_on (Opens m s) (Says m s) (opened_by s tag) (λ o. then_with (laid_out o.1 no_layout members) (λ a. Ok (structure_said said o.0 a))) (opens m s tag h) (λ o j.
      then_on (Lays m o.1) (Says m s) (laid_out o.1 no_layout members) (λ a. Ok (structure_said said o.0 a)) (members_are_laid m o.1 no_layout members j.0.lawful (no_members_yet o.1.scope)) (λ a k.
      structure_says m s said o.0 a (continues_on m s o.1 a.1 j.0 k.0, k.1) (let l = j.1 in let e = k.0.keeps.grown.count in omega (arith, l, e))))

  specifiers_say : (m : ℕ) (s : State) (said : Said) (xs : SpecifierTrees) → IsLawfulState m s → IsSaid s.scope said → OnAnswer (Says m s) (specifiers s said xs)
  specifiers_say m s said no_specifiers h i = (continues_none m s h, i)
  specifiers_say m s said (and_specifier x xs) h i =
      then_on (Says m s) (Says m s) (specifier s said x) (λ a. specifiers a.1 a.0 xs) (specifier_says m s said x h i) (λ a j.
      since m s a.1 (λ (b : Said × State). b.1) (λ b. IsSaid b.1.scope b.0) (specifiers a.1 a.0 xs) j.0 (specifiers_say m a.1 a.0 xs j.0.lawful j.1))

  members_are_laid : (m : ℕ) (s : State) (l : Layout) (members : MemberTrees) → IsLawfulState m s → IsLayout s.scope l → OnAnswer (Lays m s) (laid_out s l members)
  members_are_laid m s l no_members h i = (continues_none m s h, i)
  members_are_laid m s l (and_members xs ds members) h i =
      then_on (Says m s) (Lays m s) (specifiers s nothing_said xs) (λ d. then_with (members_declared d.1 l (base d.0) ds) (λ a. laid_out a.1 a.0 members)) (specifiers_say m s nothing_said xs h tt) (λ d j.
      then_on (Lays m d.1) (Lays m s) (members_declared d.1 l (base d.0) ds) (λ a. laid_out a.1 a.0 members)
      (members_lay m d.1 l (base d.0) ds j.0.lawful (layout_stays s.scope d.1.scope j.0.keeps.grown l i) (base_type d.1.scope j.0.lawful.tables d.0 j.1)) (λ a k.
      since m s a.1 (λ (b : Layout × State). b.1) (λ b. IsLayout b.1.scope b.0) (laid_out a.1 a.0 members) (continues_on m s d.1 a.1 j.0 k.0) (members_are_laid m a.1 a.0 members k.0.lawful k.1)))

pub specified_says : (m : ℕ) (s : State) (xs : SpecifierTrees) → IsLawfulState m s → OnAnswer (Says m s) (specified s xs)
specified_says m s xs h = specifiers_say m s nothing_said xs h tt
