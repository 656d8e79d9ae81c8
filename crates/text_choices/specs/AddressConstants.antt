-- Address constants (C99 6.6p9) in initialisers of static storage. A typed file keeps of them only where they lead, so
-- they are read from the tree again: names, members, `&`, `*`, and sums with numbers that are written.
--
-- In `int a[2]; int *p = &a[3];` the `[` is listed: there the pointer leaves `a`.
use Rattle.std.specs.Prelude.{ℕ, ℤ, pos, ◌+ℤ◌, ◌-ℤ◌, ◌*ℤ◌, ◌+◌, ◌&&◌, ◌||◌, Bool, true, false, cond, List, [], ◌∷◌, ◌++◌}
use Rattle.std.specs.Prelude.{Option, Some, None, option_map, int_le, int_lt}
use Rattle.tm_terms.specs.declared.places.Place.{Place}
use Rattle.tm_terms.specs.declared.tokens.Name.{Name}
use Rattle.tm_terms.specs.declared.exprs.Prefix.TheVariants as Prefixes
use Rattle.tm_terms.specs.declared.exprs.Infix.TheVariants as Infixes
use Rattle.tm_terms.specs.declared.exprs.Binary.{Binary}
use Rattle.tm_terms.specs.declared.exprs.Binary.TheVariants as Binaries
use Rattle.tm_terms.specs.declared.exprs.Access.TheVariants as Accesses
use Rattle.tm_terms.specs.Names.{is_same_name}
use Rattle.tm_terms.specs.ExprTrees.{Tree, a_name, an_integer, a_character, in_parentheses, a_prefix, a_cast, an_infix}
use Rattle.tm_terms.specs.ExprTrees.{a_subscript, a_member}
use Rattle.tm_typed.specs.declared.types.CType.{CType}
use Rattle.tm_typed.specs.declared.types.CType.TheVariants as Types
use Rattle.tm_typed.specs.declared.scopes.Member.{Member}
use Rattle.tm_laid.specs.TypeCells.{entry_of, structure_in, cells_of_type}
use Rattle.tm_laid.specs.Layouts.{LaidTree, stands_at}
use Rattle.part_extents.specs.declared.extents.Extent.{Extent}
use Rattle.part_extents.specs.Parts.{array_at}

-- ## Numbers

-- a number, as far as 64 bits hold it
abbrev pub held : ℤ → Option ℤ
held z = cond (int_le (pos 0 -ℤ pos 9223372036854775808) z && int_le z (pos 9223372036854775807)) (Some z) None

abbrev pub combined : Binary → ℤ → ℤ → Option ℤ
combined Binaries.Add x y = held (x +ℤ y)
combined Binaries.Subtract x y = held (x -ℤ y)
combined Binaries.Multiply x y = held (x *ℤ y)
combined _ x y = None

abbrev pub and_then : {A B : Type 0} → (A → Option B) → Option A → Option B
and_then next None = None
and_then next (Some x) = next x

abbrev pub negated : Option ℤ → Option ℤ
negated = and_then (λ z. held (pos 0 -ℤ z))

-- the number that an expression is, where it is written as one, or as a sum, a difference or a product of such
abbrev pub number_of : Tree → Option ℤ
number_of (an_integer c p) = held (pos c.value)
number_of (a_character v p) = Some v
number_of (in_parentheses e) = number_of e
number_of (a_prefix Prefixes.Plus e p) = number_of e
number_of (a_prefix Prefixes.Minus e p) = negated (number_of e)
number_of (an_infix l (Infixes.Binary operator) p r) =
    and_then (λ x. and_then (combined operator x) (number_of r)) (number_of l)
number_of _ = None

-- ## Where expressions lead

-- A place in an object, the number of the type that stands there, whether it is declared `const`; and whether the
-- pointer there is made by a cast.
pub record Spot : Type 0 where
  pub object : ℕ
  pub offset : ℕ
  pub of : ℕ
  pub constant : Bool
  pub cast : Bool

-- what is read of an expression: where it leads, and the signs at which a pointer leaves its array on the way
pub record Led : Type 0 where
  pub spot : Option Spot
  pub left : List Place

abbrev pub leads : Option Spot → Led
leads s = record { spot = s; left = [] }

abbrev pub by_cast : Spot → Spot
by_cast s = record s { cast = true }

-- a member of what stands there, with the qualifiers of both (C99 6.5.2.3p3)
abbrev pub part_of : Spot → Member → Spot
part_of s m =
    let q = m.part.of in
    record {
      object = s.object;
      offset = s.offset + m.part.cell;
      of = q.number;
      constant = s.constant || q.constant;
      cast = false;
    }

-- the first member with a name
abbrev pub member_named : Name → List Member → Option Member
member_named n [] = None
member_named n (m ∷ ms) = cond (is_same_name m.name n) (Some m) (member_named n ms)

module _ (laid : LaidTree) (named : Name → Place → Option Spot) where
  abbrev pub ctype_at : ℕ → CType
  ctype_at n = (entry_of laid.file n).ctype

  abbrev pub members_at : CType → List Member
  members_at (Types.Struct k) = (structure_in laid.file k).members
  members_at _ = []

  abbrev pub member_of : Name → Spot → Option Spot
  member_of n s = option_map (part_of s) (member_named n (members_at (ctype_at s.of)))

  abbrev pub with_element : CType → Spot → Option Spot
  with_element (Types.Array element length) s = Some (record s { of = element; cast = false })
  with_element _ s = None

  -- an array is the pointer to its first element (C99 6.3.2.1p3)
  abbrev pub first_element : Spot → Option Spot
  first_element s = with_element (ctype_at s.of) s

  -- ## Moves

  abbrev pub target : Spot → ℤ → ℤ
  target s count = pos s.offset +ℤ (count *ℤ pos (cells_of_type laid.file s.of))

  -- outside of an array, or at its end while the type stands there within the object
  abbrev pub is_outside : Spot → ℤ → Option Extent → Bool
  is_outside s to None = false
  is_outside s to (Some array) = int_lt to (pos array.begin) || (int_lt (pos array.end) to
      || (int_le (pos array.end) to && stands_at laid s.object array.end s.of))

  abbrev pub leaves : Spot → ℤ → Bool
  leaves s to = is_outside s to (array_at laid s.object s.of s.offset)

  -- the offset, if there is such a one in 32 bits
  abbrev pub offset_of : ℤ → Option ℕ
  offset_of (pos n) = cond (int_le (pos n) (pos 4294967295)) (Some n) None
  offset_of _ = None

  abbrev pub moved_by : Place → Spot → ℤ → Led
  moved_by p s count = record {
    spot = option_map (λ n. record s { offset = n }) (offset_of (target s count));
    left = cond (leaves s (target s count)) (p ∷ []) [];
  }

  abbrev pub moved_from : Place → Option Spot → Option ℤ → Led
  moved_from p (Some s) (Some count) = moved_by p s count
  moved_from p _ _ = leads None

  -- a pointer is moved by a number, at a sign
  abbrev pub moved : Place → Led → Option ℤ → Led
  moved p led count = (let m = moved_from p led.spot count in record m { left = led.left ++ m.left })

  abbrev pub led_on : (Spot → Option Spot) → Led → Led
  led_on next led = record led { spot = and_then next led.spot }

  -- the left operand of `+` where it is a pointer, or else the right one
  abbrev pub summed : Place → Option Spot → Led → Option ℤ → Led → Option ℤ → Led
  summed p (Some s) l x r y = moved p l y
  summed p None l x r y = (let m = moved p r x in record m { left = l.left ++ m.left })

  abbrev pub as_pointer : Led → Led
  as_pointer led = led_on first_element led

  abbrev mutual
    -- what an expression designates, if it is an object of static storage or a part of one
    pub designated : Tree → Led
    designated (a_name n p) = leads (named n p)
    designated (in_parentheses e) = designated e
    designated (a_subscript e p i) = moved p (pointed e) (number_of i)
    designated (a_member e Accesses.Dot p n q) = led_on (member_of n) (designated e)
    designated (a_member e Accesses.Arrow p n q) = led_on (member_of n) (pointed e)
    designated (a_prefix Prefixes.Dereference e p) = pointed e
    designated _ = leads None

    -- To what an expression points, if it is an address constant; where it designates an array, to its first element.
    pub pointed : Tree → Led
    pointed (a_name n p) = as_pointer (leads (named n p))
    pointed (in_parentheses e) = pointed e
    pointed (a_subscript e p i) = as_pointer (moved p (pointed e) (number_of i))
    pointed (a_member e Accesses.Dot p n q) = as_pointer (led_on (member_of n) (designated e))
    pointed (a_member e Accesses.Arrow p n q) = as_pointer (led_on (member_of n) (pointed e))
    pointed (a_prefix Prefixes.Dereference e p) = as_pointer (pointed e)
    pointed (a_prefix Prefixes.Address e p) = designated e
    pointed (a_cast t e p) = led_on (λ s. Some (by_cast s)) (pointed e)
    pointed (an_infix l (Infixes.Binary Binaries.Add) p r) =
        summed p (pointed l).spot (pointed l) (number_of l) (pointed r) (number_of r)
    pointed (an_infix l (Infixes.Binary Binaries.Subtract) p r) = moved p (pointed l) (negated (number_of r))
    pointed _ = leads None
