use Rattle.std.proofs.Common.{◌≡◌, ◌++◌, drop}
use Rattle.c_decl_parser.proofs.SpecifierSteps.{counts_of}
use Rattle.c_decl_parser.proofs.specifiers.counted.Given as goal

-- those counted so far and what the others count for
abbrev pub invariant-loop-specifier : goal.invariant-loop-specifier
invariant-loop-specifier l = l.specs.items ++ counts_of (drop l.specifier-index l.specifiers) ≡ counts_of l.specifiers
