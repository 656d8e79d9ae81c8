use Rattle.std.proofs.Common.{◌≡◌, ℕ, ◌<◌, ◌+◌, ◌-◌, List, [], ◌∷◌, ◌++◌, length, false, ap, subst, ◌∙◌, arith}
use Rattle.std.proofs.lemmas.List.{length-append, length-replicate}
use Rattle.request_circles.specs.reading.Searches.{IsSearching}
use Rattle.request_circles.specs.reading.Trims.{marked}
use Rattle.request_circles.proofs.Marks.{count_most, unmarked}
use Rattle.request_circles.proofs.Searching.{empty_by, search_begins, search_goes_on, search_ends, waiting_within}
use Rattle.request_circles.proofs.searches.reached_from.Goals as goal

pub loop-number-init : goal.loop-number-init
loop-number-init c =
    let requests = c.args.requests.now in
    let none = c.in_ok-reached.ensures in
    search_begins requests c.args.left.now.marks.items c.args.ahead c.args.from c.in_ok-reached.reached.marks.items
    (ap length none ∙ length-replicate (length requests) false)
    (unmarked (length requests) c.in_ok-reached.reached.marks.items none) c.push.new.self.items
    (c.in_ok-push.ensures.items ∙ ap (λ (xs : List ℕ). xs ++ c.args.from ∷ []) c.new-waiting.ensures.items)

pub visit_all-requires-clause-from : goal.visit_all-requires-clause-from
visit_all-requires-clause-from c =
    let left = c.args.left.now.marks.items in
    let reached = c.loop-number.reached.marks.items in
    waiting_within c.args.requests.now left c.args.ahead c.args.from reached c.pop.new.self.items c.in-Some.number
    (subst (IsSearching c.args.requests.now left c.args.ahead c.args.from reached) c.in-Some.ensures.items
    c.loop-number.invariant) c.requires

pub loop-number-smaller : goal.loop-number-smaller
loop-number-smaller c =
    let all = length c.args.requests.now in
    let old = c.loop-number.reached.marks.items in
    let new = c.visit_all.new.reached.marks.items in
    let v = c.in_ok-visit_all.ensures in
    let count = v.count in
    let same = v.same in
    let was = c.loop-number.invariant.same in
    let most = count_most new in
    let most_old = count_most old in
    let taken : length c.loop-number.waiting.items ≡ length c.pop.new.self.items + 1 =
    ap length c.in-Some.ensures.items ∙ length-append c.pop.new.self.items (c.in-Some.number ∷ []) in
    let less : all - marked new + length c.visit_all.new.waiting.items
    < all - marked old + length c.loop-number.waiting.items =
    omega (arith, count, same, was, most, most_old, taken) in less

pub loop-number-preserved : goal.loop-number-preserved
loop-number-preserved c =
    let left = c.args.left.now.marks.items in
    let reached = c.loop-number.reached.marks.items in
    search_goes_on c.args.requests.now left c.args.ahead c.args.from reached c.visit_all.new.reached.marks.items
    c.pop.new.self.items c.visit_all.new.waiting.items c.in-Some.number
    (subst (IsSearching c.args.requests.now left c.args.ahead c.args.from reached) c.in-Some.ensures.items
    c.loop-number.invariant) c.in_ok-visit_all.ensures

pub returns : goal.returns
returns c =
    let waiting = c.loop-number.waiting in
    let empty : waiting.items ≡ [] =
    empty_by waiting.items waiting.len (c.pop.new.self.len ≡ 0) (λ (x : ℕ). c.pop.new.self.len + 1 ≡ waiting.len)
    c.pop.result c.in_default.not-Some c.pop.ensures.cases waiting.ok.0 in
    search_ends c.args.requests.now c.args.left.now.marks.items c.args.ahead c.args.from
    c.loop-number.reached.marks.items waiting.items c.loop-number.invariant empty
