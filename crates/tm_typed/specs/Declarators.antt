-- Declarators (C99 6.7.5): which type a declarator makes of the type that its specifiers name.
use Rattle.std.specs.Prelude.{ℕ, ℤ, pos, Bool, true, false, cond, ◌&&◌, ◌||◌, not, nat_le, List, [], ◌∷◌, ◌++◌, length}
use Rattle.std.specs.Prelude.{take, drop, Option, Some, None, Result, Ok}
use Rattle.tm_trees.specs.tm_terms.declared.refusals.Kind.TheVariants as Kinds
use Rattle.tm_trees.specs.tm_terms.declared.refusals.Refusal.{Refusal}
use Rattle.tm_trees.specs.tm_terms.declared.types_named.PointerWord.{PointerWord}
use Rattle.tm_trees.specs.tm_terms.ExprTrees.{Tree, place_of}
use Rattle.tm_trees.specs.DeclarationTrees.{LengthTree, DeclaratorTree, a_declared_name, a_nested}
use Rattle.tm_typed.specs.declared.types.Qualified.{Qualified}
use Rattle.tm_typed.specs.declared.types.CType.TheVariants as Types
use Rattle.tm_typed.specs.declared.specifiers.Shape.{Shape}
use Rattle.tm_typed.specs.Scopes.{Scope, is_complete}
use Rattle.tm_typed.specs.TypeRows.{number_in, with_type}
use Rattle.tm_typed.specs.Rules.{is_volatile_pointer}
use Rattle.tm_typed.specs.TypeNames.{bare, Made, pointed}
use Rattle.tm_typed.specs.States.{State}
use Rattle.tm_typed.specs.Evaluation.{measured, folded_value}
use Rattle.tm_typed.specs.Refusals.{then_with, row_unless}

-- ## The parts of a declarator, from the outside in

-- elements of an array are of a type whose size is known, and have all their lengths (C99 6.7.5.2)
abbrev pub is_no_element : Scope → Shape → Bool
is_no_element scope shape = shape.mismatch || shape.is_open || not (is_complete scope shape.of.number)

-- an array of what was made so far; its qualifiers are the elements' (C99 6.7.3)
abbrev pub array_of : Made → Option ℕ → Made
array_of made None = (record made.0 { is_open = true; mismatch = is_no_element made.1 made.0 }, made.1)
array_of made (Some n) = let t = Types.Array made.0.of.number n in let scope = with_type made.1 t in (
  record made.0 {
    of = record made.0.of { number = number_in scope t };
    is_open = false;
    mismatch =
        is_no_element made.1 made.0;
  },
  scope,
)

abbrev pub arrays_of : Made → List (Option ℕ) → Made
arrays_of made [] = made
arrays_of made (n ∷ lengths) = arrays_of (array_of made n) lengths

-- The type of what is declared, from the outside in: stars, then lengths from the last to the first, then what is
-- enclosed (C99 6.7.5). `lengths` are those of the whole declarator, the last of the text first.
abbrev pub shaped : Made → DeclaratorTree → List (Option ℕ) → Made
shaped made (a_declared_name pointers n p ls) lengths = arrays_of (pointed made pointers) (take (length ls) lengths)
shaped made (a_nested pointers d ls) lengths =
    shaped (arrays_of (pointed made pointers) (take (length ls) lengths)) d (drop (length ls) lengths)

-- ## Lengths, in the order of the text

-- 1 to 65,536 elements
abbrev pub length_named : Option ℤ → Option ℕ
length_named (Some (pos n)) = cond (nat_le 1 n && nat_le n 65536) (Some n) None
length_named _ = None

-- a length that is written is folded and in range; it is kept for later layers
abbrev pub length_rules : State → LengthTree → Option Tree → Result (Option ℕ × State) Refusal
length_rules s l None = Ok (None, s)
length_rules s l (Some t) = then_with (measured s t) (λ m.
    row_unless (length_named (folded_value m.0)) Kinds.NotConstant (place_of t) (λ n.
    Ok (Some n, record m.1 { lengths = m.1.lengths ++ n ∷ [] })))

-- lengths of a declarator behind others, the last of the text first
abbrev pub lengths_behind : State → List (Option ℕ) → List LengthTree → Result (List (Option ℕ) × State) Refusal
lengths_behind s found [] = Ok (found, s)
lengths_behind s found (l ∷ ls) = then_with (length_rules s l l.value) (λ m. lengths_behind m.1 (m.0 ∷ found) ls)

abbrev pub lengths_of : State → DeclaratorTree → Result (List (Option ℕ) × State) Refusal
lengths_of s (a_declared_name pointers n p ls) = lengths_behind s [] ls
lengths_of s (a_nested pointers d ls) = then_with (lengths_of s d) (λ m. lengths_behind m.1 m.0 ls)

-- ## Whole declarators

-- what is declared: a volatile pointer is left out
abbrev pub whole : Made → Made
whole made = (record made.0 { left_out = made.0.left_out || is_volatile_pointer made.1 made.0.of }, made.1)

abbrev pub shape_in : State → Made → Result (Shape × State) Refusal
shape_in s made = Ok (made.0, record s { scope = made.1 })

-- a declarator of the type that specifiers name: its lengths are looked at first
abbrev pub declared : State → Qualified → DeclaratorTree → Result (Shape × State) Refusal
declared s q d = then_with (lengths_of s d) (λ m. shape_in m.1 (whole (shaped (bare q, m.1.scope) d m.0)))

-- stars alone, of a function's result or a parameter without a name
abbrev pub declared_pointers : State → Qualified → List PointerWord → Shape × State
declared_pointers s q words = let made = whole (pointed (bare q, s.scope) words) in
    (made.0, record s { scope = made.1 })
