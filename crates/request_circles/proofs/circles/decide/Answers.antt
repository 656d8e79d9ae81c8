use Rattle.std.proofs.Common.{◌≡◌, ◌<◌, List, Bool, length, subst, sym, true, false, ◌∙◌, arith}
use Rattle.request_circles.specs.reading.Circles.{HasDecided}
use Rattle.request_circles.proofs.Circling.{decided_not, decided_so}
use Rattle.request_circles.proofs.circles.decide.Goals as goal

pub returns-then-not-has-2 : goal.returns-then-not-has-2
returns-then-not-has-2 c =
    let requests = c.args.requests.now in
    let left = c.args.left.now.marks.items in
    let found = c.args.found.now.marks.items in
    let ahead = c.in_ok-ahead.ahead.marks.items in
    subst (λ (ms : List Bool). HasDecided requests c.args.number left ms found found) (sym c.put.ensures)
    (decided_not requests c.args.number left found c.requires.left ahead c.in_ok-ahead.ensures
    (λ m. let one = c.has-2.ensures.1 m in let clash : false ≡ true = sym c.if-not-has-2.true ∙ one in cc))

pub returns : goal.returns
returns c =
    let requests = c.args.requests.now in
    let left = c.args.left.now.marks.items in
    let found = c.args.found.now.marks.items in
    let ahead = c.in_ok-ahead.ahead.marks.items in
    let back = c.in_ok-back.back.marks.items in
    let lt : c.args.number < length found = omega (arith, c.requires.number, c.requires.found_count) in
    subst (λ (ms : List Bool). HasDecided requests c.args.number left left found ms) (sym c.put-2.ensures)
    (decided_so requests c.args.number left found c.requires.left ahead back c.add_common.new.found.marks.items lt
    c.in_ok-ahead.ensures c.in_ok-back.ensures (c.has-2.ensures.0 c.if-not-has-2.false) c.add_common.ensures)
