use Rattle.std.proofs.Common.{◌∙◌, sym, ap, Some, arith}
use Rattle.task_equations.specs.Equations.{cells_rounded}
use Rattle.body_systems.specs.Facts.{Facts}
use Rattle.body_systems.specs.reading.Indices.{index_from}
use Rattle.body_systems.proofs.Indices.{list_within, list_rounded, none_rounded}
use Rattle.body_systems.proofs.facts.BodyFacts.cells_rounded.Goals as goal

pub index-requires : goal.index-requires
index-requires c =
    let within = list_within c.self.inside.heads.items c.self.inside.written.items c.args.place c.in-Some.head
    c.self.invariant.count
    (ap (λ (f : Facts). index_from 0 f.heads c.args.place) c.self.view_is
    ∙ (sym c.head_index.ensures ∙ c.in-Some.is)) in
    let same = c.self.inside.written.ok.0 in omega (arith, within, same)

pub returns-in-Some : goal.returns-in-Some
returns-in-Some c =
    ap Some c.deref.ensures.value
    ∙ (list_rounded c.self.inside.heads.items c.self.inside.written.items c.args.place c.in-Some.head
    c.index.result.now c.self.invariant.count
    (ap (λ (f : Facts). index_from 0 f.heads c.args.place) c.self.view_is
    ∙ (sym c.head_index.ensures ∙ c.in-Some.is))
    c.index.ensures
    ∙ ap (λ (f : Facts). cells_rounded f.heads f.written c.args.place) c.self.view_is)

pub returns-in-None : goal.returns-in-None
returns-in-None c =
    none_rounded c.args.self.now.heads c.args.self.now.written c.args.place (sym c.head_index.ensures ∙ c.in-None.is)
