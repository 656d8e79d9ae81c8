use Rattle.std.proofs.Common.{List, sym, subst, ◌∙◌}
use Rattle.std.specs.Prelude.{Contains}
use Rattle.std.proofs.lemmas.Result.{IfOk-weaker}
use Rattle.std.proofs.lemmas.List.Sorted.{Contains-permutation, IsPermutation-sym}
use Rattle.tm_terms.specs.declared.places.Place.{Place as APlace}
use Rattle.request_circles.specs.declared.requests.Request.{Request as ARequest}
use Rattle.request_circles.specs.Requests.{AreCircularPlaces}
use Rattle.request_circles.specs.Rings.{AreShortestRings}
use Rattle.request_circles.proofs.Same.{same_rings}
use Rattle.request_circles.proofs.rings.shortest_rings.Goals as goal

pub returns : goal.returns
returns c =
    let given = c.args.requests.items in
    let sorted = c.sort.new.self.items in
    let one = c.deref.ensures.value in
    let all = c.deref-2.ensures.value in
    let perm = c.in_ok-sort.ensures.permutation in
    let circular : AreCircularPlaces (Contains c.deref-2.result.now) c.deref-3.result.now =
    subst (λ (ps : List APlace). AreCircularPlaces (Contains c.deref-2.result.now) ps) (sym c.deref-3.ensures.value)
    (subst (λ (xs : List ARequest). AreCircularPlaces (Contains xs) c.in_ok-places.places.items) (one ∙ sym all)
    c.in_ok-places.ensures) in
    IfOk-weaker c.rings_at.result _ _ (λ rings h.
    same_rings (Contains sorted) (Contains given)
    (λ r. (
      λ x. Contains-permutation sorted given r (IsPermutation-sym given sorted perm) x,
      λ y. Contains-permutation given sorted r perm y,
    )) rings.items
    (subst (λ (xs : List ARequest). AreShortestRings (Contains xs) rings.items) all (h circular))) c.rings_at.ensures
