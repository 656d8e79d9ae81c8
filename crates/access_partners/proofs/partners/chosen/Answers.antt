use Rattle.std.proofs.Common.{◌≤◌, ◌∙◌, ◌++◌, ◌∷◌, [], false, ap, sym, length, get_or, arith}
use Rattle.std.proofs.lemmas.List.{take_all}
use Rattle.access_partners.specs.reading.Accesses.{nothing}
use Rattle.access_partners.specs.reading.Pairs.{kept_by}
use Rattle.access_partners.proofs.Lists.{kept_more}
use Rattle.access_partners.proofs.partners.chosen.Goals as goal

pub loop-at-preserved : goal.loop-at-preserved
loop-at-preserved c =
    let pairs = c.args.pairs.now in
    let accesses = c.args.accesses.now in
    let n = c.loop-at.at in
    c.in_ok-add_if.ensures
    ∙ ap (λ xs. xs ++ kept_by (get_or pairs n false ∷ []) (get_or accesses n nothing ∷ [])) c.loop-at.invariant
    ∙ sym (kept_more pairs accesses nothing n c.loop-at-test.true c.requires)

pub returns : goal.returns
returns c =
    let pairs = c.args.pairs.now in
    let accesses = c.args.accesses.now in
    let end : length accesses ≤ c.loop-at.at = omega arith in
    let end-pairs : length pairs ≤ c.loop-at.at = omega (arith, c.requires, end) in
    let all-pairs = take_all c.loop-at.at pairs end-pairs in
    let all = take_all c.loop-at.at accesses end in
    c.loop-at.invariant ∙ (λ i. kept_by (all-pairs i) (all i))
