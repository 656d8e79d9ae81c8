use Rattle.std.proofs.Common.{ℕ, ◌<◌, ◌≤◌, List, length, arith, sym, subst}
use Rattle.std.specs.Prelude.{string_bytes}
use Rattle.tm_terms.specs.declared.refusals.Refusal.{Refusal}
use Rattle.tm_laid.specs.Layouts.{laid_tree}
use Rattle.flow_graph.specs.declared.graphs.Graph.{Graph}
use Rattle.concrete_worlds.specs.Lawful.{HasGraphs}
use Rattle.source_programs.specs.program_graphs.Prepared.{Graphed}
use Rattle.source_programs.specs.LaidSources.{longest_source, IsLaidSource}
use Rattle.source_programs.specs.Sources.{source_limit, IsRefused}
use Rattle.source_replays.specs.Replays.{all_too_long, source_refused}
use Rattle.source_replays.specs.reading.Replies.{IsRefusalLine}
use Rattle.source_replays.proofs.Answered.{has_graphs, has_worlds, refusal_answers, one_ok}
use Rattle.source_replays.proofs.replays.replay.Goals as goal

pub returns-then-bytes : goal.returns-then-bytes
returns-then-bytes c =
    let long : longest_source < length c.args.bytes.now = (let h = c.if-bytes.true in omega (arith, h)) in
    one_ok c.refused.result c.refused.ensures
    (λ reply h. refusal_answers c.args.bytes.now source_limit (all_too_long long) reply.outcome (string_bytes reply.text)
    (subst (λ (r : Refusal). IsRefusalLine r reply.outcome (string_bytes reply.text)) c.too_long.ensures h))

pub replayed-requires-clause-replayable : goal.replayed-requires-clause-replayable
replayed-requires-clause-replayable c = record {
  short = let h = c.if-bytes.false in omega (arith, h);
  source = subst (λ (bytes : List ℕ). IsLaidSource bytes (laid_tree c.in-Ok.program.laid)) c.source_in.ensures c.in-Ok.ensures.source;
  graphed = record { graphs = c.in-Ok.program.graphs.graphs.items; configured = c.in-Ok.program.configured.items };
  prepared = c.in-Ok.ensures.prepared;
}

pub replayed-requires-clause-worlds : goal.replayed-requires-clause-worlds
replayed-requires-clause-worlds c =
    has_worlds c.source_in.result.now c.in-Ok.program.laid c.in-Ok.ensures.source c.in-Ok.ensures.analysable.layable c.laid_files_have_worlds.ensures

pub replayed-requires-clause-graphs : goal.replayed-requires-clause-graphs
replayed-requires-clause-graphs c =
    let graphed : Graphed = record { graphs = c.in-Ok.program.graphs.graphs.items; configured = c.in-Ok.program.configured.items } in
    subst (λ (graphs : List Graph). HasGraphs c.in-Ok.program.laid graphs) (sym c.deref.ensures.value)
    (has_graphs c.source_in.result.now c.in-Ok.program.laid graphed c.in-Ok.ensures.source c.in-Ok.ensures.prepared c.programs_have_graphs.ensures)

pub returns-in-Err-Refused : goal.returns-in-Err-Refused
returns-in-Err-Refused c =
    let short : length c.args.bytes.now ≤ longest_source = (let h = c.if-bytes.false in omega (arith, h)) in
    let r : Refusal = c.in-Err-Refused.refusal in
    let refused : IsRefused c.source_in.result.now r = rw c.in-Err-Refused.field-0-is at c.in-Err-Refused.ensures.refused in
    one_ok c.refused-in-Err-Refused.result c.refused-in-Err-Refused.ensures
    (λ reply h. refusal_answers c.args.bytes.now r (source_refused short (subst (λ (bytes : List ℕ). IsRefused bytes r) c.source_in.ensures refused))
    reply.outcome (string_bytes reply.text) h)
