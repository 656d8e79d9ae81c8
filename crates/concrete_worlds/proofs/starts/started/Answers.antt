use Rattle.std.proofs.Common.{ap, sym, subst, ◌∙◌, List, length, map, false, vec_items}
use Rattle.std.proofs.lemmas.List.{length-map}
use Rattle.tm_laid.specs.Layouts.{laid_tree}
use Rattle.concrete_steps.specs.Worlds.{start, start_contents}
use Rattle.graph_positions.specs.declared.runs.Run.{Run}
use Rattle.concrete_worlds.specs.Views.{standing_of}
use Rattle.concrete_worlds.specs.reading.Starts.{BeginSo}
use Rattle.concrete_worlds.proofs.Lists.{none_of, no_answers_of}
use Rattle.concrete_worlds.proofs.Running.{begin, length_standings, running_at_start}
use Rattle.concrete_worlds.proofs.starts.started.Goals as goal

pub start_standings-requires-clause-begin : goal.start_standings-requires-clause-begin
start_standings-requires-clause-begin c =
    subst (λ (runs : List Run). BeginSo (laid_tree c.args.laid.now) runs) (sym c.deref.ensures.value) (begin c.args.laid.now c.args.graphs.now c.args.runs.items c.requires.graphs)

pub returns-clause-running : goal.returns-clause-running
returns-clause-running c =
    let laid = c.args.laid.now in
    let ss = c.in_ok-standings.standings.items in
    let count = sym (length-map ss (standing_of (length laid.file.mutexes.items))) ∙ ap length c.in_ok-standings.ensures ∙ length_standings laid in
    running_at_start laid c.args.graphs.now c.args.runs.items c.requires.worlds ss (map vec_items c.in_ok-answers.answers.items) count
    (c.in_ok-answers.ensures ∙ ap (λ z. map none_of z) c.deref-2.ensures.value) c.requires.graphs

pub returns-clause-world : goal.returns-clause-world
unfolding start
returns-clause-world c =
    let f = standing_of (length c.args.laid.now.file.mutexes.items) in
    let ss = c.in_ok-standings.standings.items in
    ap (λ z. record { contents = z; standings = map f ss; answers = map vec_items c.in_ok-answers.answers.items; stopped = false }) c.in_ok-contents.ensures
    ∙ ap (λ z. record { contents = start_contents (laid_tree c.args.laid.now); standings = map f ss; answers = z; stopped = false })
    (c.in_ok-answers.ensures ∙ ap (λ z. map none_of z) c.deref-2.ensures.value ∙ no_answers_of f ss)
    ∙ ap (λ z. record { contents = start_contents (laid_tree c.args.laid.now); standings = z; answers = map none_of z; stopped = false }) c.in_ok-standings.ensures
