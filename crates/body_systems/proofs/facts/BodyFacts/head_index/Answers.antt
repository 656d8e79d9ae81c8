use Rattle.std.proofs.Common.{◌∙◌, ap, sym, subst, List, Option, ℕ}
use Rattle.graph_facts.specs.Lists.{numbers}
use Rattle.body_systems.specs.Facts.{Facts}
use Rattle.body_systems.specs.reading.Indices.{index_from, AreIndices}
use Rattle.body_systems.proofs.Indices.{index_read, no_index_read}
use Rattle.body_systems.proofs.facts.BodyFacts.head_index.Goals as goal

pub returns-in-Some : goal.returns-in-Some
returns-in-Some c =
    let look = c.in-Some.ensures.lookup in
    let heads = c.self.inside.heads.items in
    let written = numbers c.self.inside.written.items in
    index_read heads written c.deref.result.now c.args.place c.in-Some.index.now
    (subst (λ (xs : List (Option ℕ)). AreIndices heads written xs) (sym c.deref.ensures.value) c.self.invariant)
    look.3.0 look.1
    ∙ ap (λ (f : Facts). index_from 0 f.heads c.args.place) c.self.view_is

pub returns-in-None : goal.returns-in-None
returns-in-None c =
    let look = c.in-None.ensures.lookup in
    let heads = c.self.inside.heads.items in
    let written = numbers c.self.inside.written.items in
    no_index_read heads written c.deref.result.now c.args.place
    (subst (λ (xs : List (Option ℕ)). AreIndices heads written xs) (sym c.deref.ensures.value) c.self.invariant)
    look.3
    ∙ ap (λ (f : Facts). index_from 0 f.heads c.args.place) c.self.view_is
