use Rattle.std.proofs.Common.{◌≡◌, ◌∙◌, ◌-◌, ap, sym, drop, take}
use Rattle.tm_typed.specs.Declarators.{arrays_of}
use Rattle.c_specifiers.proofs.NoLengths.{no_first, takes_none, drops_none}
use Rattle.c_specifiers.proofs.declarators.arrays_of.Goals as goal

pub lengths-preserved : goal.lengths-preserved
lengths-preserved c =
    let j = c.lengths.left - 1 in
    let k = c.lengths.left in
    let same = c.in_default.ensures.items in
    let none = no_first c.lengths.lengths.items (same ∙ c.in_default.ensures.rest) in (
      ap (λ xs. arrays_of (c.lengths.made, c.lengths.state.scope) (take j xs)) (sym same)
          ∙ ap (arrays_of (c.lengths.made, c.lengths.state.scope)) (takes_none c.lengths.lengths.items j k none)
          ∙ c.lengths.invariant.0,
      c.lengths.invariant.1,
      ap (drop j) (sym same) ∙ drops_none c.lengths.lengths.items j k none ∙ c.lengths.invariant.2,
    )
