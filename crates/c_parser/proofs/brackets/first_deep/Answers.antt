use Rattle.std.proofs.Common.{◌≡◌, ◌+◌, ◌<◌, ◌≤◌, length, drop, sym, ◌∙◌, arith}
use Rattle.std.proofs.lemmas.List.{drop_all}
use Rattle.tm_terms.specs.declared.tokens.Token.{Token}
use Rattle.tm_terms.specs.declared.tokens.Shape.TheVariants as Shapes
use Rattle.c_parser.proofs.BracketSteps.{deep_here, deep_later, deep_none}
use Rattle.c_parser.proofs.brackets.first_deep.Goals as goal

-- what the code's reading of a slice gives behind its end
abbrev none_there : Token
none_there = record { shape = Shapes.Name record { start = 0; length = 0 }; place = record { line = 0; col = 0 } }

pub returns-then-count-gt-MAX_OPEN : goal.returns-then-count-gt-MAX_OPEN
returns-then-count-gt-MAX_OPEN c =
    sym (deep_here c.loop-token.count c.open_behind-count.result c.args.tokens.now c.loop-token.token-index none_there (omega arith) c.open_behind-count.ensures (omega arith)) ∙ c.loop-token.invariant.same

pub loop-token-preserved : goal.loop-token-preserved
loop-token-preserved c = record {
  same = sym (deep_later c.loop-token.count c.open_behind-count.result c.args.tokens.now c.loop-token.token-index none_there (omega arith) c.open_behind-count.ensures (omega arith)) ∙ c.loop-token.invariant.same;
  few = omega arith;
}

pub returns : goal.returns
returns c = sym (deep_none c.loop-token.count (drop c.loop-token.token-index c.args.tokens.now) (drop_all c.loop-token.token-index c.args.tokens.now (omega arith))) ∙ c.loop-token.invariant.same
