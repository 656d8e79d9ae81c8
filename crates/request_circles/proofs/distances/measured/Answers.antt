use Rattle.std.proofs.Common.{◌≡◌, ℕ, ◌<◌, [], ◌∷◌, ◌++◌, List, length, false, ap, sym, subst, ◌∙◌, rules, arith}
use Rattle.std.specs.Prelude.{Contains, replicate}
use Rattle.std.proofs.lemmas.List.{length-replicate, nil_from_length}
use Rattle.request_circles.specs.reading.Steps.{IsStepLeft}
use Rattle.request_circles.specs.reading.Distances.{HasLevel}
use Rattle.request_circles.proofs.Noting.{unnoted_most, none_of, noting_begins, in_range, noting_goes_on, noting_meets, noting_ends}
use Rattle.request_circles.proofs.distances.measured.Goals as goal

pub loop-alloc-init : goal.loop-alloc-init
loop-alloc-init c =
    let far = c.in_ok-far.far.items in
    let fars : far ≡ replicate (length c.args.requests.now) 0 = search rules in
    let nexts : c.in_ok-next.next.items ≡ replicate (length c.args.requests.now) 0 = search rules in
    let most = unnoted_most far in
    let long : length far ≡ length c.args.requests.now = ap length fars ∙ length-replicate (length c.args.requests.now) 0 in
    record {
      noted = noting_begins c.args.requests.now c.args.left.now.marks.items c.args.end far c.in_ok-next.next.items
          c.push.new.self.items c.requires fars nexts
          (c.in_ok-push.ensures.items ∙ ap (λ (xs : List ℕ). xs ++ c.args.end ∷ []) c.new-frontier.ensures.items);
      bound = λ p. omega (arith, most, long);
    }

pub next_in-requires-clause-frontier : goal.next_in-requires-clause-frontier
next_in-requires-clause-frontier c = λ j h.
    in_range c.args.requests.now c.args.left.now.marks.items c.args.end c.loop-alloc.noted.far.items
    c.loop-alloc.noted.next.items c.loop-alloc.steps c.loop-alloc.frontier.items c.loop-alloc.invariant.noted j
    (subst (λ (xs : List ℕ). Contains xs j) c.deref.ensures.value h)

pub returns-in-Some : goal.returns-in-Some
returns-in-Some c =
    noting_meets c.args.requests.now c.args.left.now.marks.items c.args.end c.loop-alloc.noted.far.items
    c.loop-alloc.noted.next.items c.loop-alloc.steps c.loop-alloc.frontier.items c.loop-alloc.invariant.noted c.requires
    c.in-Some.to (subst (λ (xs : List ℕ). Contains xs c.in-Some.to) c.deref.ensures.value c.in-Some.ensures.0)
    c.in-Some.ensures.1

pub note_level-requires-clause-frontier : goal.note_level-requires-clause-frontier
note_level-requires-clause-frontier c = λ j h.
    in_range c.args.requests.now c.args.left.now.marks.items c.args.end c.loop-alloc.noted.far.items
    c.loop-alloc.noted.next.items c.loop-alloc.steps c.loop-alloc.frontier.items c.loop-alloc.invariant.noted j
    (subst (λ (xs : List ℕ). Contains xs j) c.deref-in-loop-alloc.ensures.value h)

pub loop-alloc-preserved : goal.loop-alloc-preserved
loop-alloc-preserved c =
    let requests = c.args.requests.now in
    let left = c.args.left.now.marks.items in
    let end = c.args.end in
    let far = c.loop-alloc.noted.far.items in
    let next = c.loop-alloc.noted.next.items in
    let new_far = c.note_level.new.noted.far.items in
    let new_next = c.note_level.new.noted.next.items in
    let frontier = c.loop-alloc.frontier.items in
    let found = c.in_ok-frontier.frontier.items in
    let level : HasLevel requests left frontier c.loop-alloc.steps (λ k. k < length requests) far next [] new_far new_next
    found =
    subst (λ (xs : List ℕ). HasLevel requests left xs c.loop-alloc.steps (λ k. k < length requests) far next [] new_far
    new_next found) c.deref-in-loop-alloc.ensures.value c.in_ok-frontier.ensures in
    let unled = none_of c.next_in.result
    ((j : ℕ) → Contains c.deref.result.now j → IsStepLeft requests left false j end → ⊥)
    (λ (j : ℕ). Contains c.deref.result.now j × IsStepLeft requests left false j end)
    c.in_default.not-Some c.next_in.ensures in
    let some : 0 < length frontier = search rules in
    let bound = c.loop-alloc.invariant.bound some in
    let count = level.count in
    record {
      noted = noting_goes_on requests left end far next c.loop-alloc.steps frontier c.loop-alloc.invariant.noted new_far
          new_next found
          (λ j h s. unled j (subst (λ (xs : List ℕ). Contains xs j) (sym c.deref.ensures.value) h) s) level;
      bound = λ p. omega (arith, bound, count, p);
    }

pub returns : goal.returns
returns c =
    let frontier = c.loop-alloc.frontier.items in
    let none : length frontier ≡ 0 = search rules in
    noting_ends c.args.requests.now c.args.left.now.marks.items c.args.end c.loop-alloc.noted.far.items
    c.loop-alloc.noted.next.items c.loop-alloc.steps frontier c.loop-alloc.invariant.noted
    (nil_from_length frontier none)
