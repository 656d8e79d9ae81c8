use Rattle.std.proofs.Common.{◌≡◌, drop}
use Rattle.std.specs.Prelude.{find}
use Rattle.tm_terms.specs.Spelling.{is_unsupported}
use Rattle.c_lexer.proofs.lexing.first_unsupported.Given as goal

abbrev pub invariant-loop-token : goal.invariant-loop-token
invariant-loop-token l = find (λ t. is_unsupported t.shape) l.tokens ≡ find (λ t. is_unsupported t.shape) (drop l.token-index l.tokens)
