use Rattle.std.proofs.Common.{◌≤◌, length, [], ap, arith}
use Rattle.tm_terms.specs.Spelling.{answer_of, checked}
use Rattle.c_lexer.proofs.AnswerLemmas.{Lexes-too_many, Lexes-kept, length-with_first_names, told_same}
use Rattle.c_lexer.proofs.lexing.answered.Goals as goal

pub returns-then-len-most : goal.returns-then-len-most
returns-then-len-most c =
    let read = c.in-Ok.ensures.whole in
    Lexes-too_many c.args.bytes.now c.args.most read.0 read.1 c.in-Ok.tokens.items read.2 (omega (arith, c.in-Ok.tokens.ok.0))

pub supported-requires : goal.supported-requires
supported-requires c =
    omega (arith, c.in-Ok.tokens.ok.0, c.tell_names.new.tokens.ok.0, ap length c.in-Ok-tell_names.ensures, length-with_first_names c.args.bytes.now [] c.in-Ok.tokens.items)

pub returns-in-Ok-tell_names : goal.returns-in-Ok-tell_names
returns-in-Ok-tell_names c =
    let read = c.in-Ok.ensures.whole in
    let few : length c.in-Ok.tokens.items ≤ c.args.most = omega (arith, c.in-Ok.tokens.ok.0) in
    told_same c.args.most c.args.bytes.now (answer_of c.supported.result) (checked c.args.most c.tell_names.new.tokens.items) c.supported.ensures
    (rw c.in-Ok-tell_names.ensures (Lexes-kept c.args.bytes.now c.args.most read.0 read.1 c.in-Ok.tokens.items read.2 few))
