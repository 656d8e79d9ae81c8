use Rattle.std.proofs.Common.{ap, sym, subst, ◌∙◌, Option, IfSome}
use Rattle.std.proofs.lemmas.Bool.{false≢true}
use Rattle.std.proofs.lemmas.Result.{IfOk-weaker}
use Rattle.std.specs.Arc.{arc_value}
use Rattle.interfere_set.specs.Stores.{IsStoreBelow}
use Rattle.program_systems.specs.ReadPrograms.{program_of}
use Rattle.thread_pass.specs.Analyses.{IsStartTable}
use Rattle.thread_pass.specs.Kept.{KeptTable}
use Rattle.thread_pass.specs.Starts.{StartOf, IsTaskStart}
use Rattle.thread_pass.proofs.KeptPasses.{starts, begins, same_below, repeated_added, repeated_over, repeated_visits}
use Rattle.thread_pass.proofs.kept_passes.next_pass.Goals as goal

pub returns-then-below-clause-over : goal.returns-then-below-clause-over
returns-then-below-clause-over c =
    let kept = c.args.kept in
    let under = subst (λ s. IsStoreBelow s kept.store) c.deref.ensures
    (subst (IsStoreBelow c.deref.result.now) (c.deref-2.ensures ∙ ap (λ (k : KeptTable). k.store) c.kept.view_is)
    (c.below.ensures.0 c.if-below.true)) in
    IfOk-weaker c.repeated.result _ _
    (λ r is. repeated_over (program_of c.args.analysis.now) c.args.task (arc_value c.args.store.now) kept c.requires.fits
    c.requires.kept_fits c.requires.kept c.requires.below under r.0 is) c.repeated.ensures.kept

pub returns-then-below-clause-added : goal.returns-then-below-clause-added
returns-then-below-clause-added c =
    let kept = c.args.kept in
    let under = subst (λ s. IsStoreBelow s kept.store) c.deref.ensures
    (subst (IsStoreBelow c.deref.result.now) (c.deref-2.ensures ∙ ap (λ (k : KeptTable). k.store) c.kept.view_is)
    (c.below.ensures.0 c.if-below.true)) in
    IfOk-weaker c.repeated.result _ _
    (λ r is. repeated_added (program_of c.args.analysis.now) c.args.task (arc_value c.args.store.now) kept c.requires.fits
    c.requires.kept_fits c.requires.kept c.requires.below under r.1 is) c.repeated.ensures.added

pub returns-then-below-clause-visits : goal.returns-then-below-clause-visits
returns-then-below-clause-visits c =
    let kept = c.args.kept in
    let under = subst (λ s. IsStoreBelow s kept.store) c.deref.ensures
    (subst (IsStoreBelow c.deref.result.now) (c.deref-2.ensures ∙ ap (λ (k : KeptTable). k.store) c.kept.view_is)
    (c.below.ensures.0 c.if-below.true)) in
    IfOk-weaker c.repeated.result _ _
    (λ r is. repeated_visits (program_of c.args.analysis.now) c.args.task (arc_value c.args.store.now) kept c.requires.fits
    c.requires.kept_fits c.requires.kept c.requires.below under r.0 is) c.repeated.ensures.kept

pub local_from-requires-clause-start : goal.local_from-requires-clause-start
local_from-requires-clause-start c =
    let p = program_of c.args.analysis.now in
    let store = arc_value c.args.store.now in
    subst (λ s. IsStartTable p c.args.task s c.kept.inside.table.items) (sym c.deref-3.ensures)
    (subst (IsStartTable p c.args.task store) (sym (ap (λ (k : KeptTable). k.table) c.kept.view_is))
    (starts p c.args.task store c.args.kept c.requires.fits c.requires.kept_fits c.requires.kept c.requires.below))

pub local_from-requires-clause-begun : goal.local_from-requires-clause-begun
local_from-requires-clause-begun c =
    let p = program_of c.args.analysis.now in
    let store = arc_value c.args.store.now in
    subst (λ s. IfSome c.kept.inside.start (IsTaskStart p c.args.task s)) (sym c.deref-3.ensures)
    (subst (λ (start : Option StartOf). IfSome start (IsTaskStart p c.args.task store))
    (sym (ap (λ (k : KeptTable). k.start) c.kept.view_is))
    (begins p c.args.task store c.args.kept c.requires.fits c.requires.kept_fits c.requires.kept c.requires.below))

-- a kept pass over the same store is answered before
pub returns-clause-same : goal.returns-clause-same
returns-clause-same c =
    let kept = c.args.kept in
    let store = arc_value c.args.store.now in
    IfOk-weaker c.keep.result _ _
    (λ r added same. absurd (false≢true (sym c.if-below.false ∙ c.below.ensures.1
    (subst (λ s. IsStoreBelow s c.deref-2.result.now) (sym c.deref.ensures)
    (subst (IsStoreBelow store) (sym (c.deref-2.ensures ∙ ap (λ (k : KeptTable). k.store) c.kept.view_is))
    (same_below (program_of c.args.analysis.now) c.args.task store kept c.requires.fits c.requires.kept_fits
    c.requires.kept c.requires.below same)))))) c.keep.ensures.added
