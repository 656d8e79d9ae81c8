use Rattle.std.proofs.Common.{◌≡◌, ◌<◌, ℕ, length, get_or, ap, sym, subst, ◌∙◌, Some, arith}
use Rattle.std.specs.Prelude.{slice_get}
use Rattle.std.proofs.lemmas.Result.{on_ok_weaker}
use Rattle.tm_laid.specs.Layouts.{laid_tree}
use Rattle.mutex_configs.specs.declared.nodes.EdgeCopy.{EdgeCopy}
use Rattle.post_recheck.specs.program_systems.ProgramFacts.{program_with}
use Rattle.post_recheck.specs.Pairs.{pair_of}
use Rattle.post_recheck.proofs.low.program_systems.Bodies.{is_program, body_count}
use Rattle.post_recheck.proofs.Found.{table_read, tables_counted}
use Rattle.text_choices.specs.Choices.{Adds}
use Rattle.operand_orders.specs.Reached.{SolvedBody}
use Rattle.operand_orders.specs.reading.Views.{AreCopiesBy}
use Rattle.open_choices.specs.Choices.{IsOfBody}
use Rattle.open_choices.specs.reading.Found.{AreCounted}
use Rattle.open_choices.proofs.BodyFacts.{below, are_counted, same_body, few_cells, edges_read, copies_read}
use Rattle.open_choices.proofs.finding.add_body.Goals as goal

pub index-configured-requires : goal.index-configured-requires
index-configured-requires c =
    let count = body_count c.args.program.now c.args.facts.now c.requires.analysable c.requires.facts in
    omega (arith, c.requires.number, count, c.requires.analysable.count, c.args.program.now.configured.ok.0)

pub index-graph-requires : goal.index-graph-requires
index-graph-requires c =
    let count = body_count c.args.program.now c.args.facts.now c.requires.analysable c.requires.facts in
    omega (arith, c.requires.number, count, c.args.program.now.graphs.graphs.ok.0)

pub add_in_body-requires-clause-few : goal.add_in_body-requires-clause-few
add_in_body-requires-clause-few c =
    few_cells (program_with c.args.program.now c.args.facts.now)
    (is_program c.args.program.now c.args.facts.now c.requires.analysable c.requires.facts)
    (pair_of c.args.tables.now c.args.store.now) c.requires.fits c.args.number c.requires.number
    (laid_tree c.args.program.now.laid) c.args.store.now c.args.origins.now

pub add_in_body-requires-clause-indexed : goal.add_in_body-requires-clause-indexed
add_in_body-requires-clause-indexed c =
    let program = c.args.program.now in
    let facts = c.args.facts.now in
    let analysable = c.requires.analysable in
    let computed = c.requires.facts in
    let p = program_with program facts in
    let is = is_program program facts analysable computed in
    let pair = pair_of c.args.tables.now c.args.store.now in
    let fits = c.requires.fits in
    let t = c.args.number in
    let lt = c.requires.number in
    let laid = laid_tree program.laid in
    let store = c.args.store.now in
    let origins = c.args.origins.now in
    let edges = c.deref-edges.ensures.value ∙ edges_read program facts analysable computed t lt c.index-graph.result.now
    c.index-graph.ensures c.index-configured.result.now in
    let copies = c.deref-copies.ensures.value ∙ copies_read program facts analysable computed t lt
    c.index-graph.result.now c.index-configured.result.now c.index-configured.ensures in
    let counted = tables_counted c.args.tables.now t (subst (λ n. t < n) (sym fits.count) lt) in
    let table = sym (table_read c.args.tables.now t c.index-tables-number.result counted
    ∙ ap (λ v. v.items) (sym c.index-tables-number.is) ∙ sym c.deref-table.ensures.value) in
    let same = same_body p is pair fits t lt laid store origins c.deref-edges.result.now c.deref-copies.result.now
    c.deref-table.result.now edges copies table in
    record {
      by_edge = subst (λ ls. AreCopiesBy c.deref-copies.result.now (length c.deref-edges.result.now) ls)
          (sym c.deref.ensures.value) c.in_ok-by_edge.ensures;
      below = subst (λ (b : SolvedBody). (k : ℕ) (copy : EdgeCopy) → slice_get b.copies k ≡ Some copy
          → copy.edge < length b.edges) (sym same) (below p is pair fits t lt laid store origins);
    }

pub add_in_body-requires-clause-counted : goal.add_in_body-requires-clause-counted
add_in_body-requires-clause-counted c =
    let program = c.args.program.now in
    let facts = c.args.facts.now in
    let analysable = c.requires.analysable in
    let computed = c.requires.facts in
    let p = program_with program facts in
    let is = is_program program facts analysable computed in
    let pair = pair_of c.args.tables.now c.args.store.now in
    let fits = c.requires.fits in
    let t = c.args.number in
    let lt = c.requires.number in
    let laid = laid_tree program.laid in
    let store = c.args.store.now in
    let origins = c.args.origins.now in
    let edges = c.deref-edges.ensures.value ∙ edges_read program facts analysable computed t lt c.index-graph.result.now
    c.index-graph.ensures c.index-configured.result.now in
    let copies = c.deref-copies.ensures.value ∙ copies_read program facts analysable computed t lt
    c.index-graph.result.now c.index-configured.result.now c.index-configured.ensures in
    let counted = tables_counted c.args.tables.now t (subst (λ n. t < n) (sym fits.count) lt) in
    let table = sym (table_read c.args.tables.now t c.index-tables-number.result counted
    ∙ ap (λ v. v.items) (sym c.index-tables-number.is) ∙ sym c.deref-table.ensures.value) in
    let same = same_body p is pair fits t lt laid store origins c.deref-edges.result.now c.deref-copies.result.now
    c.deref-table.result.now edges copies table in
    subst AreCounted (sym same) (are_counted p is pair fits t lt laid store origins)

pub returns : goal.returns
returns c =
    let program = c.args.program.now in
    let facts = c.args.facts.now in
    let analysable = c.requires.analysable in
    let computed = c.requires.facts in
    let p = program_with program facts in
    let is = is_program program facts analysable computed in
    let pair = pair_of c.args.tables.now c.args.store.now in
    let fits = c.requires.fits in
    let t = c.args.number in
    let lt = c.requires.number in
    let laid = laid_tree program.laid in
    let store = c.args.store.now in
    let origins = c.args.origins.now in
    let edges = c.deref-edges.ensures.value ∙ edges_read program facts analysable computed t lt c.index-graph.result.now
    c.index-graph.ensures c.index-configured.result.now in
    let copies = c.deref-copies.ensures.value ∙ copies_read program facts analysable computed t lt
    c.index-graph.result.now c.index-configured.result.now c.index-configured.ensures in
    let counted = tables_counted c.args.tables.now t (subst (λ n. t < n) (sym fits.count) lt) in
    let table = sym (table_read c.args.tables.now t c.index-tables-number.result counted
    ∙ ap (λ v. v.items) (sym c.index-tables-number.is) ∙ sym c.deref-table.ensures.value) in
    let same = same_body p is pair fits t lt laid store origins c.deref-edges.result.now c.deref-copies.result.now
    c.deref-table.result.now edges copies table in
    on_ok_weaker c.add_in_body.result (λ h. subst (λ (b : SolvedBody). Adds c.args.choices.now.items
    c.add_in_body.new.choices.items (IsOfBody b)) same h) c.add_in_body.ensures
