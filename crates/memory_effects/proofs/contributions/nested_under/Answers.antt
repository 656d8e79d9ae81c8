use Rattle.std.proofs.Common.{◌≡◌, ◌∙◌, ap, sym}
use Rattle.std.proofs.lemmas.Bool.{false≢true}
use Rattle.std.specs.FinMap.{insert, empty}
use Rattle.interfere_set.proofs.Entries.{one_entry}
use Rattle.memory_effects.proofs.Contributing.{under_none, under_some}
use Rattle.memory_effects.proofs.contributions.nested_under.Goals.{then-not-is_nothing+in_ok-put+in_ok-put-2, else-not-is_nothing}
use Rattle.memory_effects.proofs.contributions.nested_under.Goals as goal

pub returns : goal.returns
returns c = elim c.if-not-is_nothing.branch [
  | then-not-is_nothing+in_ok-put+in_ok-put-2 w ↦
      let cells = c.args.cells in
      let some : cells ≡ empty → ⊥ = λ none. false≢true (sym w.if-not-is_nothing.true ∙ c.is_nothing.ensures.nothing.1 none) in
      let sets = w.put.new.self in
      let two : sets ≡ insert empty c.args.set cells = w.in_ok-put.ensures.written some ∙ ap (λ t. insert t c.args.set cells) w.new-sets.ensures in
      let three = w.in_ok-put-2.ensures.written (one_entry c.args.set cells sets two) ∙ ap (λ t. insert t c.args.task sets) c.new-nested.ensures in
      w.nested-is ∙ three ∙ ap (insert empty c.args.task) two ∙ under_some c.args.task c.args.set cells some
  | else-not-is_nothing w ↦ w.nested-is ∙ c.new-nested.ensures ∙ sym (under_none c.args.task c.args.set c.args.cells (c.is_nothing.ensures.nothing.0 w.if-not-is_nothing.false))
]
