use Rattle.std.proofs.Common.{◌≡◌, drop}
use Rattle.source_programs.specs.LaidSources.{main_in}
use Rattle.source_programs.proofs.mains.main_in.Given as goal

-- no token before is a name that is spelled so
abbrev pub invariant-tokens : goal.invariant-tokens
invariant-tokens l = main_in l.bytes (drop l.token-index l.tokens) ≡ main_in l.bytes l.tokens
