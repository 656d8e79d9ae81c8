-- Which declarations are left out: a unit has each type, constant and mutex of a header, and the joined text has one
-- (C99 6.2.7).
use Rattle.std.specs.Prelude.{Bool, true, false, ℕ, ◌+◌, ◌-◌, ◌==◌, ◌&&◌, ◌||◌, not, Option, Some, None, is_some, List, [], ◌∷◌}
use Rattle.std.specs.Prelude.{◌++◌, map, take, drop, slice_get, if◌then◌else◌}
use Rattle.tm_terms.specs.contracts.tokens.ShapePartialEq.TheImpl.{eq-value}
use Rattle.unit_plans.specs.Names.{first_named, is_among, name_in}
use Rattle.unit_plans.specs.declared.declarations.Known.{Known}
use Rattle.unit_plans.specs.declared.declarations.Local.{Local}
use Rattle.unit_plans.specs.declared.declarations.Role.{Role}
use Rattle.unit_plans.specs.declared.declarations.Role.TheVariants as role
use Rattle.unit_plans.specs.declared.declarations.Sight.{Sight}

-- the name by which a declaration is known that declares a type, a constant or a mutex, and defines nothing: at its
-- last token
abbrev pub key_of : Sight → Option Local
key_of sight = if sight.ends && sight.spot.declares then sight.spot.key else None

-- whether a declaration at file scope declares the name, or it is a tag with braces behind it
abbrev pub is_declaring : Role → Bool
is_declaring (role.Declared declared) = true
is_declaring role.Opened = true
is_declaring role.OpenedWithin = true
is_declaring _ = false

abbrev pub name_of : Sight → Option Local
name_of sight = name_in sight.unit sight.token sight.role

-- the name that a token declares
abbrev pub declared_name : Sight → Option Local
declared_name sight = if is_declaring sight.role then name_of sight else None

-- declarations are the same token for token
abbrev pub is_same_text : List Sight → List Sight → Bool
is_same_text [] [] = true
is_same_text (one ∷ more) (other ∷ others) = eq-value.it one.token.shape other.token.shape && is_same_text more others
is_same_text _ _ = false

-- what is found so far: the tokens of the declarations that have ended, each with that for which it is left out, and
-- the names that those of them declare which stay
pub record Copies : Type 0 where
  pub knowns : List Known
  pub kept : List (Option Local)

abbrev pub no_copies : Copies
no_copies = record { knowns = []; kept = [] }

-- whether a declaration that stays declares one of the names of these tokens before
abbrev pub is_any_kept : List (Option Local) → List Sight → Bool
is_any_kept kept [] = false
is_any_kept kept (sight ∷ sights) = is_among kept (name_of sight) || is_any_kept kept sights

-- the tokens of the declaration that ends with the token of this number
abbrev pub declaration_to : List Sight → ℕ → Sight → List Sight
declaration_to all number last = take (number + 1 - last.spot.from) (drop last.spot.from all)

-- a declaration may be left out for that of another unit with the same tokens, where its own unit has declared none of
-- its names in a declaration that stays
abbrev pub may_leave : List (Option Local) → List Sight → Sight → List Sight → Sight → Bool
may_leave kept own last others other =
    not (other.unit == last.unit) && (is_same_text others own && not (is_any_kept kept own))

-- the tokens for which those of a declaration are left out, if they are: those of the first declaration with its key
abbrev pub earlier_to : List Sight → List (Option Local) → List Sight → Sight → ℕ → Option Sight → List Sight
earlier_to all kept own last number None = []
earlier_to all kept own last number (Some other) =
    if may_leave kept own last (declaration_to all number other) other then declaration_to all number other else []

abbrev pub earlier_at : List Sight → List (Option Local) → List Sight → Sight → Option ℕ → List Sight
earlier_at all kept own last None = []
earlier_at all kept own last (Some number) = earlier_to all kept own last number (slice_get all number)

abbrev pub earlier_keyed : List Sight → List (Option Local) → List Sight → Sight → Option Local → List Sight
earlier_keyed all kept own last None = []
earlier_keyed all kept own last (Some key) = earlier_at all kept own last (first_named key (map key_of all))

-- one token of a declaration that has ended further
abbrev pub one_added : Copies → Sight → Option Sight → Copies
one_added copies sight like = record {
  knowns = copies.knowns ++ record { sight = sight; like = like } ∷ [];
  kept = copies.kept ++ (if is_some like then None else declared_name sight) ∷ [];
}

-- the tokens of a declaration further, which are left out for others or, where there are none, stay
abbrev pub added : Copies → List Sight → List Sight → Copies
added copies [] others = copies
added copies (sight ∷ sights) [] = added (one_added copies sight None) sights []
added copies (sight ∷ sights) (other ∷ others) = added (one_added copies sight (Some other)) sights others

-- one declaration further, of all tokens
abbrev pub closed : List Sight → Copies → List Sight → Sight → Copies
closed all copies own last = added copies own (earlier_keyed all copies.kept own last (key_of last))

-- all declarations further: some tokens of the present one stand before the others
abbrev pub copies_behind : List Sight → Copies → List Sight → List Sight → Copies
copies_behind all copies own [] = copies
copies_behind all copies own (sight ∷ sights) =
    if sight.ends then copies_behind all (closed all copies (own ++ sight ∷ []) sight) [] sights
    else copies_behind all copies (own ++ sight ∷ []) sights

-- the tokens of units, each with that for which it is left out
unfoldable pub knowns_of : List Sight → List Known
knowns_of sights = (copies_behind sights no_copies [] sights).knowns
