use Rattle.std.proofs.Common.{◌≡◌, ◌≤◌, drop}
use Rattle.tm_trees.specs.Parsing.{first_deep}
use Rattle.c_parser.proofs.brackets.first_deep.Given as goal

-- the rest of the tokens gives what the whole gives
abbrev pub invariant-loop-token : goal.invariant-loop-token
invariant-loop-token l = record {
  same : first_deep l.count (drop l.token-index l.tokens) ≡ first_deep 0 l.tokens;
  few : l.count ≤ 200;
}
