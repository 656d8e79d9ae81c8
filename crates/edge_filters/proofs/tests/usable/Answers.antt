use Rattle.std.proofs.Common.{◌≡◌, ◌∙◌, ap}
use Rattle.std.specs.Option.{option_map}
use Rattle.tm_cint.specs.declared.Class.TheVariants.{Pointer}
use Rattle.transfer_int.specs.declared.outcomes.Classes.{Classes}
use Rattle.edge_effects.specs.calculations.Given.{no_class}
use Rattle.edge_effects.proofs.low.calculations.Calculating.{noted_so, pointer_noted}
use Rattle.edge_effects.specs.calculations.transfer_rows.StateForms.{value_of}
use Rattle.edge_effects.specs.calculations.transfer_rows.Actions.{usable}
use Rattle.edge_effects.specs.calculations.transfer_rows.Rows.{arrived, after_refined}
use Rattle.edge_effects.specs.edge_actions.Edges.{around_of}
use Rattle.edge_filters.proofs.FilterEdges.{filter_is}
use Rattle.edge_filters.proofs.tests.usable.Goals as goal

pub returns : goal.returns
returns c = λ store.
    let around = around_of c.args.view.now in
    let s = c.args.state.now in
    let b = c.in_ok-left.invalid in
    let flag : Classes → Classes = λ k. record k { pointer = b } in
    filter_is around s store c.plain.result (usable c.args.pointer)
    (c.plain.ensures.state ∙ c.in_ok-arrived.ensures
    ∙ ap (option_map (arrived around)) (c.in_ok-through.ensures ∙ ap (after_refined around s c.args.pointer) c.in_ok-left.ensures.value)) c.plain.ensures.added c.plain.ensures.targets
    (λ class. noted_so c.plain.result.classes (record no_class { pointer = b }) b (value_of s c.args.pointer).pointers.invalid class (class ≡ Pointer)
    (c.plain.ensures.classes ∙ ap flag c.no_classes.ensures) c.in_ok-left.ensures.invalid (pointer_noted b class))
