use Rattle.std.proofs.Common.{◌≡◌, ◌∙◌, length, sym, arith}
use Rattle.std.proofs.Math.ListN.{length-set}
use Rattle.tm_terms.specs.Spelling.{noted}
use Rattle.c_lexer.proofs.NameLemmas.{names_more, names_all}
use Rattle.c_lexer.proofs.names.tell_names.Goals as goal

pub loop-i-preserved : goal.loop-i-preserved
loop-i-preserved c =
    let table = c.loop-i.invariant.0 in
    let is = c.loop-i.invariant.1 in
    let token = c.index.result.now in (
      noted c.args.bytes.now table token.shape,
      c.in_ok-token.ensures.noted table is,
      c.loop-i.invariant.2 ∙ names_more c.args.bytes.now table c.loop-i.tokens.items c.loop-i.i token c.in_ok-token.token (omega (arith, c.args.tokens.now.ok.0, c.loop-i.invariant.3)) c.index.ensures (c.in_ok-token.ensures.shape table is),
      length-set c.loop-i.tokens.items c.loop-i.i c.in_ok-token.token ∙ c.loop-i.invariant.3,
    )

pub returns : goal.returns
returns c =
    let all : length c.loop-i.tokens.items ≡ c.loop-i.i = omega (arith, c.args.tokens.now.ok.0, c.loop-i.invariant.3) in
    sym (c.loop-i.invariant.2 ∙ names_all c.args.bytes.now c.loop-i.invariant.0 c.loop-i.tokens.items c.loop-i.i all)
