use Rattle.std.proofs.Common.{◌<◌, Option, ap, sym, subst, ◌∙◌}
use Rattle.std.specs.Prelude.{ℕ, slice_get}
use Rattle.text_choices.specs.reading.Named.{last_position, last_at}
use Rattle.text_choices.proofs.Named.{Follows, follows_first, follows_ends, follows_there, follows_found, follows_on, left_before, falls_back}
use Rattle.text_choices.proofs.static_names.StaticNames.last.Goals as goal

pub earlier-init : goal.earlier-init
earlier-init c =
    follows_first c.self.inside.declared.items c.args.name c.args.place c.latest_of-at.result
    (c.latest_of-at.ensures ∙ ap (λ xs. last_position xs c.args.name) (sym c.self.view_is))

pub returns-then-is_not_before : goal.returns-then-is_not_before
returns-then-is_not_before c =
    let ds = c.self.inside.declared.items in
    let i = c.in-Some.number in
    let here = ap (λ xs. slice_get xs i) (sym c.deref.ensures.value) ∙ sym c.entry_at.ensures ∙ c.in-Some-entry_at.is in
    let f = subst (λ (o : Option ℕ). Follows ds c.args.name c.args.place o) c.in-Some.is c.earlier.invariant in
    sym (follows_found ds c.args.name c.args.place i c.in-Some-entry_at.found f here (sym c.is_not_before.ensures ∙ c.if-is_not_before.true))
    ∙ ap (λ xs. last_at xs c.args.name c.args.place) c.self.view_is

pub earlier-smaller : goal.earlier-smaller
earlier-smaller c =
    let ds = c.self.inside.declared.items in
    let i = c.in-Some.number in
    let d = c.in-Some-entry_at.found in
    let here = ap (λ xs. slice_get xs i) (sym c.deref.ensures.value) ∙ sym c.entry_at.ensures ∙ c.in-Some-entry_at.is in
    subst (λ (o : Option ℕ). left_before d.before < left_before o) (sym c.in-Some.is) (falls_back ds i d c.self.invariant.1 here)

pub earlier-preserved : goal.earlier-preserved
earlier-preserved c =
    let ds = c.self.inside.declared.items in
    let i = c.in-Some.number in
    let d = c.in-Some-entry_at.found in
    let here = ap (λ xs. slice_get xs i) (sym c.deref.ensures.value) ∙ sym c.entry_at.ensures ∙ c.in-Some-entry_at.is in
    let f = subst (λ (o : Option ℕ). Follows ds c.args.name c.args.place o) c.in-Some.is c.earlier.invariant in
    follows_on ds c.args.name c.args.place i d c.self.invariant.1 f here (sym c.is_not_before.ensures ∙ c.if-is_not_before.false)

pub returns-in-None : goal.returns-in-None
returns-in-None c =
    let ds = c.self.inside.declared.items in
    let i = c.in-Some.number in
    let gone = ap (λ xs. slice_get xs i) (sym c.deref.ensures.value) ∙ sym c.entry_at.ensures ∙ c.in-None.is in
    let f = subst (λ (o : Option ℕ). Follows ds c.args.name c.args.place o) c.in-Some.is c.earlier.invariant in
    absurd (follows_there ds c.args.name c.args.place i f gone)

pub returns : goal.returns
returns c =
    let ds = c.self.inside.declared.items in
    let f = subst (λ (o : Option ℕ). Follows ds c.args.name c.args.place o) c.in_default.is c.earlier.invariant in
    sym (follows_ends ds c.args.name c.args.place f) ∙ ap (λ xs. last_at xs c.args.name c.args.place) c.self.view_is
