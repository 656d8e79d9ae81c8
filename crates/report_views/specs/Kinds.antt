-- What is open at an assumption of each kind, and what to write instead (docs/ASSUMPTIONS.md).
use Rattle.std.specs.Prelude.{ℕ, List, codes}
use Rattle.report_reading.specs.declared.assumptions.AssumptionKind.{AssumptionKind}
use Rattle.report_reading.specs.declared.assumptions.AssumptionKind.TheVariants as Kinds

-- what is open there
abbrev pub kind_sentence : AssumptionKind → List ℕ
kind_sentence Kinds.Const = codes "a pointer loses a const here, or what is declared const may be stored to"
kind_sentence Kinds.Enum =
    codes "gcc and clang may make this enumeration unsigned, and a negative number is another one there"
kind_sentence Kinds.Implementation =
    codes "the result is the choice of the compiler, and gcc and clang choose as the analyser does"
kind_sentence Kinds.Layout = codes "this size is another one where long long is aligned to 4, as on 32-bit x86"
kind_sentence Kinds.Lifetime =
    codes "a pointer may lead to a local object whose block or call has ended, or be left over from an earlier one"
kind_sentence Kinds.Member =
    codes "a pointer may leave the array into which it points, or be compared where an object ends"
kind_sentence Kinds.Order = codes "C leaves open in which order these operands are evaluated, and it matters"
kind_sentence Kinds.Pragma = codes "this line is skipped"
kind_sentence Kinds.Reserved = codes "compilers may put a function of their own in the place of this one"
kind_sentence Kinds.Restrict = codes "this word is skipped, and compilers build on it"
kind_sentence Kinds.Unset = codes "a value may be used that was never stored"

-- what to write instead
abbrev pub kind_help : AssumptionKind → List ℕ
kind_help Kinds.Const = codes "Keep the qualifier, or cast."
kind_help Kinds.Enum = codes "Give it a constant below 0, or cast to int before."
kind_help Kinds.Implementation = codes "Test the value before, or convert it in an unsigned type."
kind_help Kinds.Layout = codes "Write a number, or order the members so that no gap is left."
kind_help Kinds.Lifetime = codes "Declare the object outside, or as static."
kind_help Kinds.Member = codes "Index the object by its name, or let the pointer stay within the array."
kind_help Kinds.Order = codes "Evaluate one of them in a statement before."
kind_help Kinds.Pragma = codes "See that it changes nothing that runs."
kind_help Kinds.Reserved = codes "Give it another name, or declare it static."
kind_help Kinds.Restrict = codes "See that no other pointer leads there."
kind_help Kinds.Unset = codes "Initialise the object where it is declared, or return a value on each way."
