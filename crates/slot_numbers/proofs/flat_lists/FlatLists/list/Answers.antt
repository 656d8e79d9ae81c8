use Rattle.std.proofs.Common.{◌≡◌, ◌∙◌, ap, length, arith}
use Rattle.std.specs.Prelude.{slice_range}
use Rattle.slot_numbers.specs.reading.Flat.{start_of}
use Rattle.slot_numbers.proofs.Flat.{counted, list_stands, list_read}
use Rattle.slot_numbers.proofs.flat_lists.FlatLists.list.Goals as goal

pub start_of-start-requires : goal.start_of-start-requires
start_of-start-requires c =
    let all = counted c.self.inside.ends.items c.self.inside.numbers.items c.args.self.now c.self.view_is in
    let same : length c.deref.result.now ≡ length c.self.inside.ends.items = ap length c.deref.ensures.value in
    omega (arith, all, same, c.requires)

pub index-requires : goal.index-requires
index-requires c =
    let all = counted c.self.inside.ends.items c.self.inside.numbers.items c.args.self.now c.self.view_is in
    let same : length c.deref.result.now ≡ length c.self.inside.ends.items = ap length c.deref.ensures.value in
    omega (arith, all, same, c.requires, c.deref.ensures.len)

pub slice_bounds-result-count : goal.slice_bounds-result-count
slice_bounds-result-count c =
    let stands = list_stands c.self.inside.ends.items c.self.inside.numbers.items c.args.self.now c.self.view_is c.args.i
    c.start_of-start.result c.index.result.now c.requires
    (c.start_of-start.ensures ∙ ap (λ es. start_of es c.args.i) c.deref.ensures.value) c.index.ensures c.self.invariant in
    stands.0

pub slice_bounds-result-start : goal.slice_bounds-result-start
slice_bounds-result-start c =
    let stands = list_stands c.self.inside.ends.items c.self.inside.numbers.items c.args.self.now c.self.view_is c.args.i
    c.start_of-start.result c.index.result.now c.requires
    (c.start_of-start.ensures ∙ ap (λ es. start_of es c.args.i) c.deref.ensures.value) c.index.ensures c.self.invariant in
    let begins = stands.0 in
    let ends = stands.1 in
    let same : length c.deref-2.result.now ≡ length c.self.inside.numbers.items = ap length c.deref-2.ensures.value in
    omega (arith, begins, ends, same)

pub slice_bounds-result-end : goal.slice_bounds-result-end
slice_bounds-result-end c =
    let stands = list_stands c.self.inside.ends.items c.self.inside.numbers.items c.args.self.now c.self.view_is c.args.i
    c.start_of-start.result c.index.result.now c.requires
    (c.start_of-start.ensures ∙ ap (λ es. start_of es c.args.i) c.deref.ensures.value) c.index.ensures c.self.invariant in
    let begins = stands.0 in
    let ends = stands.1 in
    let same : length c.deref-2.result.now ≡ length c.self.inside.numbers.items = ap length c.deref-2.ensures.value in
    omega (arith, begins, ends, same)

pub returns : goal.returns
returns c =
    ap (λ xs. slice_range xs c.start_of-start.result c.index.result.now) c.deref-2.ensures.value
    ∙ list_read c.self.inside.ends.items c.self.inside.numbers.items c.args.self.now c.self.view_is c.args.i
    c.start_of-start.result c.index.result.now c.requires
    (c.start_of-start.ensures ∙ ap (λ es. start_of es c.args.i) c.deref.ensures.value) c.index.ensures
