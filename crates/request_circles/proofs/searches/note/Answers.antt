use Rattle.std.proofs.Common.{◌≡◌, set, sym, subst, true}
use Rattle.request_circles.specs.reading.Searches.{HasVisited}
use Rattle.request_circles.proofs.Marks.{not_marked}
use Rattle.request_circles.proofs.Searching.{visits_new}
use Rattle.request_circles.proofs.searches.note.Goals as goal

pub returns : goal.returns
returns c =
    let marks = c.args.reached.now.marks.items in
    let waiting = c.args.waiting.now.items in
    let n = c.args.number in
    subst (λ ms. HasVisited (λ k. k ≡ n) marks ms waiting c.push.new.self.items) (sym c.put.ensures)
    (subst (λ ws. HasVisited (λ k. k ≡ n) marks (set marks n true) waiting ws) (sym c.in_ok-push.ensures.items)
    (visits_new marks waiting n c.requires (not_marked c.has.result marks n c.has.ensures c.if-has.false)))
