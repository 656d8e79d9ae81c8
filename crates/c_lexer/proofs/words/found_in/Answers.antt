use Rattle.std.proofs.Common.{ℕ, List, arith}
use Rattle.std.proofs.lemmas.Grind.{common_steps}
use Rattle.std.specs.Borrow.{Bor}
use Rattle.tm_terms.specs.declared.tokens.Word.{Word}
use Rattle.c_lexer.proofs.WordLemmas.{found_behind}
use Rattle.c_lexer.proofs.words.found_in.Goals as goal

pub returns-then-eq : goal.returns-then-eq
returns-then-eq c =
    let behind = found_behind (λ (e : Bor (List ℕ) × Word). e.0.now) (λ e. e.1) c.args.text.now c.args.table.now in
    grind (arith, common_steps, behind)

pub returns : goal.returns
returns c =
    let behind = found_behind (λ (e : Bor (List ℕ) × Word). e.0.now) (λ e. e.1) c.args.text.now c.args.table.now in
    grind (arith, common_steps, behind)
