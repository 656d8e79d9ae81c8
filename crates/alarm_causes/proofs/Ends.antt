-- Sets of numbers whose ends are values of a type.
use Rattle.std.proofs.Common.{◌≡◌, ℤ, arith}
use Rattle.std.proofs.lemmas.Int.{ints}
use Rattle.strided_dom.specs.Progression.{Progression, Has, empty, IsLeastNumber, IsGreatestNumber}
use Rattle.strided_dom.proofs.Others.{empty_has_none}
use Rattle.tm_cint.specs.IntTypes.{IsIn}
use Rattle.tm_cint.specs.declared.int_types.IntType.{IntType}
use Rattle.transfer_int.specs.Operands.{AreValues}

-- then all numbers between them are
pub between_ends : (t : IntType) (a : Progression) (low high : ℤ) → IsLeastNumber (Has a) low
    → IsGreatestNumber (Has a) high → IsIn t low → IsIn t high → AreValues t a
between_ends t a low high least greatest from to = record {
  all = λ x has. (let more = least.bound x has in let less = greatest.bound x has in
      let first = from.at_least in let last = to.at_most in record {
        at_least = omega (arith, ints, more, first);
        at_most = omega (arith, ints, less, last);
      });
}

-- and so are those of the empty set
pub of_empty : (t : IntType) (a : Progression) → a ≡ empty → AreValues t a
of_empty t a e = record { all = λ x has. absurd (empty_has_none a x e has) }
