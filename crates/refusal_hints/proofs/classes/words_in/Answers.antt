use Rattle.std.proofs.Common.{ℕ, List, arith, map}
use Rattle.std.proofs.lemmas.Grind.{common_steps}
use Rattle.std.specs.Borrow.{Bor}
use Rattle.refusal_hints.proofs.Tables.{found_behind}
use Rattle.refusal_hints.proofs.classes.words_in.Goals as goal

pub returns-then-eq : goal.returns-then-eq
returns-then-eq c =
    let behind = found_behind (λ (e : Bor (List ℕ) × Bor (List (Bor (List ℕ)))). e.0.now) (λ e. map (λ w. w.now) e.1.now) c.args.class.now c.args.table.now in
    grind (arith, common_steps, behind)

pub returns : goal.returns
returns c =
    let behind = found_behind (λ (e : Bor (List ℕ) × Bor (List (Bor (List ℕ)))). e.0.now) (λ e. map (λ w. w.now) e.1.now) c.args.class.now c.args.table.now in
    grind (arith, common_steps, behind)
