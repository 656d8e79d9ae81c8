use Rattle.std.proofs.Common.{subst, Err, ℕ}
use Rattle.std.specs.Prelude.{IfSome}
use Rattle.std.specs.declared.alloc.Global.{Global}
use Rattle.tm_terms.specs.Spelling.{answer_of, Lexes}
use Rattle.source_programs.proofs.Stations.{lexing_refused, short_enough}
use Rattle.source_programs.proofs.sources.lexed_program.Goals as goal

pub lex-requires : goal.lex-requires
lex-requires c = short_enough c.args.scale _ c.requires

pub returns-in-Err-clause-refused : goal.returns-in-Err-clause-refused
returns-in-Err-clause-refused c =
    lexing_refused c.args.scale c.args.bytes.now c.requires c.in-Err.fail
    (subst (λ n. IfSome (answer_of {A = Global} (Err c.in-Err.fail)) (λ answer. Lexes n c.args.bytes.now answer))
    c.number.ensures c.in-Err.ensures.told)
