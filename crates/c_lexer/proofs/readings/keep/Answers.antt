use Rattle.std.proofs.Common.{◌+◌, [], ◌∷◌, arith}
use Rattle.std.proofs.lemmas.Grind.{common_steps}
use Rattle.tm_terms.specs.Spelling.{token_of}
use Rattle.c_lexer.proofs.KeptLemmas.{kept_with, kept_full}
use Rattle.c_lexer.proofs.readings.keep.Goals as goal

pub returns-in_default-clause-kept : goal.returns-in_default-clause-kept
returns-in_default-clause-kept c =
    let none = kept_with (c.args.most + 1) c.args.tokens.now.items [] (omega (arith, c.args.tokens.now.ok.0)) in
    grind (arith, common_steps, none)

pub returns-then-len-most-clause-kept : goal.returns-then-len-most-clause-kept
returns-then-len-most-clause-kept c =
    kept_full (c.args.most + 1) c.args.tokens.now.items (token_of c.args.place c.args.shape) (omega (arith, c.args.tokens.now.ok.0))

pub returns-in-Ok-clause-kept : goal.returns-in-Ok-clause-kept
returns-in-Ok-clause-kept c =
    let room = kept_with (c.args.most + 1) c.args.tokens.now.items (record { shape = c.in-Some.shape; place = c.args.place } ∷ []) (omega (arith, c.args.tokens.now.ok.0)) in
    grind (arith, common_steps, room)
