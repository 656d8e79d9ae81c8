use Rattle.std.proofs.Common.{◌≡◌, ◌<◌, ◌≤◌, ◌++◌, [], ◌∷◌, List, length, map, get_or, slice_set, vec_items, ap, sym, ◌∙◌, subst, arith}
use Rattle.tm_laid.specs.Layouts.{laid_tree}
use Rattle.concrete_values.specs.declared.values.Answer.{Answer}
use Rattle.flow_graph.specs.declared.graphs.Graph.{Graph}
use Rattle.graph_positions.specs.declared.runs.Run.{Run}
use Rattle.graph_positions.specs.RunsAfter.{IsRunAfter}
use Rattle.concrete_worlds.specs.Running.{AreRunning}
use Rattle.concrete_worlds.proofs.Lists.{get_ok}
use Rattle.concrete_worlds.proofs.Running.{any_graph, has_graph, told_more, told_same, told_behind}
use Rattle.concrete_worlds.proofs.worlds.World.tell.Goals as goal

pub returns-then-task-len-clause-world : goal.returns-then-task-len-clause-world
returns-then-task-len-clause-world c =
    let w = c.args.self.now in
    let task = c.args.task in
    let answers : List (List Answer) = map vec_items w.answers.items in
    let more : List Answer = get_or answers task [] ++ c.args.answer ∷ [] in
    let behind : length w.runs.items ≤ task = (let h = c.if-task-len.true in let e = c.len.ensures in let d = w.runs.ok.0 in omega (arith, h, e, d)) in
    let noted : map vec_items c.note.new.lists.items ≡ slice_set answers task more =
    get_ok c.note.result (c.note.ensures.room c.in-Ok.ensures.room) c.note.ensures.told
    ∙ ap (λ (xs : List (List Answer)). slice_set xs task (get_or xs task [] ++ c.args.answer ∷ [])) c.reserve_at.ensures.same in
    subst (λ (xs : List (List Answer)). AreRunning w.laid.now w.graphs.now xs w.runs.items) (sym noted) (told_behind w.laid.now w.graphs.now answers w.runs.items c.requires task more behind)

pub answer-requires-clause-position : goal.answer-requires-clause-position
answer-requires-clause-position c =
    let w = c.args.self.now in
    let task = c.args.task in
    let given : Graph = c.index-graphs-task.result in
    let run : Run = c.index_mut.result.now in
    let answers : List (List Answer) = map vec_items w.answers.items in
    let lt : task < length w.runs.items = (let h = c.if-task-len.false in let e = c.len.ensures in let d = w.runs.ok.0 in omega (arith, h, e, d)) in
    let before = subst (λ (r : Run). IsRunAfter (laid_tree w.laid.now) (get_or w.graphs.now task given).edges.items (get_or w.graphs.now task given).nodes (get_or answers task []) r)
    (sym c.index_mut.ensures.value) (c.requires.each task run given lt) in
    (subst (λ (g : Graph). IsRunAfter (laid_tree w.laid.now) g.edges.items g.nodes (get_or answers task []) run) (sym c.index-graphs-task.is) before).position

pub returns-in-Ok-answer-clause-world : goal.returns-in-Ok-answer-clause-world
returns-in-Ok-answer-clause-world c =
    let w = c.args.self.now in
    let task = c.args.task in
    let given : Graph = c.index-graphs-task.result in
    let run : Run = c.index_mut.result.now in
    let run' : Run = c.answer.new.self in
    let answers : List (List Answer) = map vec_items w.answers.items in
    let more : List Answer = get_or answers task [] ++ c.args.answer ∷ [] in
    let lt : task < length w.runs.items = (let h = c.if-task-len.false in let e = c.len.ensures in let d = w.runs.ok.0 in omega (arith, h, e, d)) in
    let has = has_graph w.laid.now w.graphs.now answers w.runs.items c.requires task lt in
    let before = subst (λ (r : Run). IsRunAfter (laid_tree w.laid.now) (get_or w.graphs.now task given).edges.items (get_or w.graphs.now task given).nodes (get_or answers task []) r)
    (sym c.index_mut.ensures.value) (c.requires.each task run given lt) in
    let here = subst (λ (g : Graph). IsRunAfter (laid_tree w.laid.now) g.edges.items g.nodes (get_or answers task []) run) (sym c.index-graphs-task.is) before in
    let after = subst (λ (g : Graph). IsRunAfter (laid_tree w.laid.now) g.edges.items g.nodes more run') c.index-graphs-task.is (c.in-Ok-answer.ensures.more (get_or answers task []) here) in
    let noted : map vec_items c.note-in-Ok-answer.new.lists.items ≡ slice_set answers task more =
    get_ok c.note-in-Ok-answer.result (c.note-in-Ok-answer.ensures.room c.in-Ok.ensures.room) c.note-in-Ok-answer.ensures.told
    ∙ ap (λ (xs : List (List Answer)). slice_set xs task (get_or xs task [] ++ c.args.answer ∷ [])) c.reserve_at.ensures.same in
    subst (λ (xs : List (List Answer)). AreRunning w.laid.now w.graphs.now xs (slice_set w.runs.items task run')) (sym noted)
    (told_more w.laid.now w.graphs.now answers w.runs.items c.requires task lt more run' (any_graph w.laid.now w.graphs.now task given more run' has after))

pub returns-in-Err-answer-clause-world : goal.returns-in-Err-answer-clause-world
returns-in-Err-answer-clause-world c =
    let w = c.args.self.now in
    let task = c.args.task in
    let given : Graph = c.index-graphs-task.result in
    let run : Run = c.index_mut.result.now in
    let run' : Run = c.answer.new.self in
    let answers : List (List Answer) = map vec_items w.answers.items in
    let lt : task < length w.runs.items = (let h = c.if-task-len.false in let e = c.len.ensures in let d = w.runs.ok.0 in omega (arith, h, e, d)) in
    let has = has_graph w.laid.now w.graphs.now answers w.runs.items c.requires task lt in
    let before = subst (λ (r : Run). IsRunAfter (laid_tree w.laid.now) (get_or w.graphs.now task given).edges.items (get_or w.graphs.now task given).nodes (get_or answers task []) r)
    (sym c.index_mut.ensures.value) (c.requires.each task run given lt) in
    let here = subst (λ (g : Graph). IsRunAfter (laid_tree w.laid.now) g.edges.items g.nodes (get_or answers task []) run) (sym c.index-graphs-task.is) before in
    let after = subst (λ (g : Graph). IsRunAfter (laid_tree w.laid.now) g.edges.items g.nodes (get_or answers task []) run') c.index-graphs-task.is
    (c.in-Err-answer.ensures.same (get_or answers task []) here) in
    subst (λ (xs : List (List Answer)). AreRunning w.laid.now w.graphs.now xs (slice_set w.runs.items task run')) (sym c.reserve_at.ensures.same)
    (told_same w.laid.now w.graphs.now answers w.runs.items c.requires task run' lt (any_graph w.laid.now w.graphs.now task given (get_or answers task []) run' has after))
