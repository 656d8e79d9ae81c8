use Rattle.source_programs.proofs.Stations.{parsing_refused}
use Rattle.source_programs.proofs.sources.parsed_program.Goals as goal

pub returns-in-Err-clause-refused : goal.returns-in-Err-clause-refused
returns-in-Err-clause-refused c =
    parsing_refused c.args.scale c.args.bytes.now c.requires.short c.args.tokens.now c.requires.lexed c.in-Err.fail
    c.in-Err.ensures.told
