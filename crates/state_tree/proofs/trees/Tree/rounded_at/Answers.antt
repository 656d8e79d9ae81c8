use Rattle.std.proofs.Common.{◌∙◌, [], ◌∷◌, get_or, ap}
use Rattle.std.proofs.lemmas.List.{take_all}
use Rattle.tm_lattice.specs.Tables.{selected_table}
use Rattle.tm_lattice.proofs.Rounding.{none_selected, more_selected, entries_twice}
use Rattle.state_tree.proofs.trees.Tree.rounded_at.Goals as goal

pub loop-key-init : goal.loop-key-init
loop-key-init g c = c.in_ok-outer.ensures ∙ none_selected (g.V.Lattice.rounded c.args.marks.now) c.args.self.now

pub loop-key-preserved : goal.loop-key-preserved
loop-key-preserved g c =
    let met = g.met.V.Lattice g.world.𝓛 g.world.𝓜 g.world.𝓡 ((λ s x. x), (λ x. x), (λ x. x), λ x. x) in
    let round = g.V.Lattice.rounded c.args.marks.now in
    let key = get_or c.args.keys.now c.loop-key.key-index 0 in
    let twice = entries_twice g.V.Lattice.is_value g.V.Lattice.is_marks g.V.Lattice.leq g.V.Lattice.rounded g.V.Lattice.nothing met.order met.closure met.nothing_laws
    c.args.marks.now c.args.self.now c.requires c.is_nothing-empty.ensures.value in
    c.in_ok-round_entry.ensures ∙ ap (selected_table round (key ∷ [])) c.loop-key.invariant ∙ more_selected round c.args.self.now c.args.keys.now c.loop-key.key-index 0 c.loop-key-test.true twice

pub returns : goal.returns
returns g c = c.loop-key.invariant ∙ ap (λ keys. selected_table (g.V.Lattice.rounded c.args.marks.now) keys c.args.self.now) (take_all c.loop-key.key-index c.args.keys.now c.loop-key-test.false)
