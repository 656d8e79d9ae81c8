-- Words of C: types and operators.
use Rattle.std.specs.Prelude.{ℕ, List, codes}
use Rattle.tm_cint.specs.declared.int_types.IntType.{IntType}
use Rattle.tm_cint.specs.declared.int_types.IntType.TheVariants as Types
use Rattle.tm_cint.specs.declared.operators.BinOp.{BinOp}
use Rattle.tm_cint.specs.declared.operators.BinOp.TheVariants as Bins
use Rattle.tm_typed.specs.declared.expressions.Unary.{Unary}
use Rattle.tm_typed.specs.declared.expressions.Unary.TheVariants as Unaries

-- a type (C99 6.7.2), with no more words than it needs
abbrev pub type_text : IntType → List ℕ
type_text Types.Bool = codes "_Bool"
type_text Types.Char = codes "char"
type_text Types.UChar = codes "unsigned char"
type_text Types.Short = codes "short"
type_text Types.UShort = codes "unsigned short"
type_text Types.Int = codes "int"
type_text Types.UInt = codes "unsigned"
type_text Types.Long = codes "long"
type_text Types.ULong = codes "unsigned long"
type_text Types.LLong = codes "long long"
type_text Types.ULLong = codes "unsigned long long"

-- a binary operator (C99 6.5.5 to 6.5.12), and a unary one (C99 6.5.3.3)
abbrev pub binary_text : BinOp → List ℕ
binary_text Bins.Add = codes "+"
binary_text Bins.Sub = codes "-"
binary_text Bins.Mul = codes "*"
binary_text Bins.Div = codes "/"
binary_text Bins.Rem = codes "%"
binary_text Bins.Shl = codes "<<"
binary_text Bins.Shr = codes ">>"
binary_text Bins.And = codes "&"
binary_text Bins.Or = codes "|"
binary_text Bins.Xor = codes "^"
binary_text Bins.Lt = codes "<"
binary_text Bins.Le = codes "<="
binary_text Bins.Gt = codes ">"
binary_text Bins.Ge = codes ">="
binary_text Bins.Eq = codes "=="
binary_text Bins.Ne = codes "!="

abbrev pub unary_text : Unary → List ℕ
unary_text Unaries.Negate = codes "-"
unary_text Unaries.Complement = codes "~"
