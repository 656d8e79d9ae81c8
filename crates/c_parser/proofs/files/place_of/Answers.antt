use Rattle.std.proofs.Common.{◌-◌, ◌<◌, min, length, arith}
use Rattle.tm_terms.specs.declared.tokens.Token.{Token}
use Rattle.tm_terms.specs.declared.tokens.Shape.TheVariants as Shapes
use Rattle.c_parser.proofs.FileSteps.{place_at}
use Rattle.c_parser.proofs.files.place_of.Goals as goal

-- what the code's reading of a slice gives behind its end
abbrev none_there : Token
none_there = record { shape = Shapes.Name record { start = 0; length = 0 }; place = record { line = 0; col = 0 } }

pub returns : goal.returns
returns c = place_at c.args.tokens.now c.min-at.result none_there (omega arith)
