use Rattle.std.proofs.Common.{◌≡◌, ◌-◌, List, Option, IfOk, sym, subst, arith}
use Rattle.tm_terms.specs.declared.tokens.Token.{Token}
use Rattle.tm_trees.specs.FileTrees.{ParameterTree, parameter_tree}
use Rattle.c_decl_parser.specs.reading.Parts.{seen}
use Rattle.c_parser.proofs.FileSteps.{parameter_none, parameter_some}
use Rattle.c_parser.proofs.parameters.ParameterReaderPartReader.read.Goals as goal

pub returns-then-allowed-eq0 : goal.returns-then-allowed-eq0
returns-then-allowed-eq0 c = sym (parameter_none c.args.types.now c.args.allowed c.args.tokens.now (omega arith))

pub returns : goal.returns
returns c =
    subst (λ (w : Option (ParameterTree × List Token)). IfOk c.parameter_within.result (λ read. seen parameter_tree read ≡ w)) (sym (parameter_some c.args.types.now c.args.allowed (c.args.allowed - 1) c.args.tokens.now (omega arith))) c.parameter_within.ensures
