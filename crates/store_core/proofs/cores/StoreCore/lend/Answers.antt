use Rattle.std.proofs.Common.{◌≡◌, ◌∷◌, ◌<◌, ℕ, length, set, None, Some, sym, ap, subst, ◌∙◌, arith}
use Rattle.std.specs.Arc.{arc_value}
use Rattle.store_core.specs.Histories.{Read, version_of, IsLent, store_of, store_at, MayRead}
use Rattle.std.specs.Prelude.{slice_get}
use Rattle.store_core.specs.Events.{past_of}
use Rattle.store_core.proofs.Keeping.{past_push, core_read, kept_below, kept_in, kept_set}
use Rattle.store_core.proofs.cores.StoreCore.lend.Goals as goal

pub index_mut-requires : goal.index_mut-requires
index_mut-requires g c =
    let core = c.self.invariant in
    omega (arith, core.loan_count, ap (λ k. k.workers) c.self.view_is, c.requires.may.worker_exists, c.self.inside.loans.ok.0)

pub index_mut-requires-2 : goal.index_mut-requires-2
index_mut-requires-2 g c =
    let core = c.self.invariant in
    let tasks = ap (λ k. g.P.Passer.task_count k.program) c.self.view_is in
    omega (arith, core.slot_count, tasks, c.requires.may.task_exists, c.self.inside.slots.ok.0)

pub invariant_of-self-2 : goal.invariant_of-self-2
invariant_of-self-2 g c =
    let core = c.self.invariant in
    let inside = c.self.inside in
    let grown : past_of c.push.new.self.items ≡ Read c.args.worker c.args.task inside.version ∷ past_of inside.history.items = ap past_of c.in_ok-push.ensures.items ∙ past_push inside.history.items _ in
    let may : MayRead g.P.Store.Lattice g.P.Passer (arc_value inside.program) inside.workers (past_of inside.history.items) c.args.worker c.args.task inside.version =
    subst (λ v. MayRead g.P.Store.Lattice g.P.Passer (arc_value inside.program) inside.workers (past_of inside.history.items) c.args.worker c.args.task v) (sym core.version_is)
    (subst (λ k. MayRead g.P.Store.Lattice g.P.Passer k.program k.workers k.past c.args.worker c.args.task (version_of k.past)) (sym c.self.view_is) c.requires.may) in
    let slot = c.lend-kept.ensures.slot in
    let program = c.in_ok-try_clone.ensures in
    let store = c.in_ok-try_clone-2.ensures in
    rw grown (core_read g.P.Store.Lattice g.P.Passer g.P.Warm.made g.P.Warm.made_over _ _ _ _ _ _ _ _ _ _ _ core may
    (λ i. record { program = program i; task = c.args.task; version = inside.version; store = store i; kept = None })
    (ap (λ s. s.lent) slot) (ap (λ s. s.kept) slot)
    (ap (λ s. s.seen) slot ∙ ap (λ s. s.seen) c.index_mut-2.ensures.value ∙ (core.slots_are c.args.task c.index_mut-2.result.now may.task_exists).seen))

pub returns-clause-lent : goal.returns-clause-lent
returns-clause-lent g c =
    let core = c.self.invariant in
    let inside = c.self.inside in
    let view = c.self.view_is in
    let grown : past_of c.push.new.self.items ≡ Read c.args.worker c.args.task inside.version ∷ past_of inside.history.items = ap past_of c.in_ok-push.ensures.items ∙ past_push inside.history.items _ in
    let present : inside.version ≡ version_of c.args.self.now.past = core.version_is ∙ ap (λ k. version_of k.past) view in
    let slot = c.lend-kept.ensures.slot in
    let exists : c.args.task < length inside.slots.items = omega (arith, core.slot_count, ap (λ k. g.P.Passer.task_count k.program) view, c.requires.may.task_exists) in
    let pasts = grown ∙ ap (λ k. Read c.args.worker c.args.task inside.version ∷ k.past) view in
    let kepts = kept_set inside.slots.items c.args.task c.lend-kept.new.self ∙ ap (λ k. set k.kept c.args.task c.lend-kept.new.self.kept) view ∙ ap (λ s. set c.args.self.now.kept c.args.task s.kept) slot in
    record {
      may = subst (λ v. MayRead g.P.Store.Lattice g.P.Passer c.args.self.now.program c.args.self.now.workers c.args.self.now.past c.args.worker c.args.task v) (sym present) c.requires.may;
      next = c.requires.next;
      program = c.in_ok-program.ensures ∙ ap (λ k. k.program) view;
      present = c.in_ok-store.ensures ∙ core.store_is ∙ ap (λ k. store_of g.P.Store.Lattice g.P.Passer k.program k.past) view;
      kept = ap (λ k. slice_get k.kept c.args.task) (sym view) ∙ kept_in inside.slots.items c.args.task c.index_mut-2.result.now exists ∙ ap (λ s. Some s.kept) (sym c.index_mut-2.ensures.value) ∙ ap Some (sym c.lend-kept.ensures.kept);
      new = λ i. record { program = (view i).program; workers = (view i).workers; past = pasts i; kept = kepts i };
    }

pub invariant_of-loan : goal.invariant_of-loan
invariant_of-loan g c =
    let core = c.self.invariant in
    let laws = c.legal_histories.ensures in
    let exists = subst (λ k. c.args.task < g.P.Passer.task_count k.program) (sym c.self.view_is) c.requires.may.task_exists in
    let fits = subst (g.P.Passer.fits (arc_value c.self.inside.program)) (sym core.store_is) (laws.fits (arc_value c.self.inside.program) c.self.inside.workers (past_of c.self.inside.history.items) core.is_program core.legal) in
    rw (c.in_ok-try_clone.ensures, c.in_ok-try_clone-2.ensures) (core.is_program, exists, fits, tt)

pub invariant_of-result : goal.invariant_of-result
invariant_of-result g c =
    let core = c.self.invariant in
    let laws = c.legal_histories.ensures in
    let program = arc_value c.self.inside.program in
    let past = past_of c.self.inside.history.items in
    let exists : c.args.task < g.P.Passer.task_count program = subst (λ k. c.args.task < g.P.Passer.task_count k.program) (sym c.self.view_is) c.requires.may.task_exists in
    let fits = subst (g.P.Passer.fits program) (sym core.store_is) (laws.fits program c.self.inside.workers past core.is_program core.legal) in
    let not_lent = subst (λ k. IsLent k.past c.args.task → ⊥) (sym c.self.view_is) c.requires.may.not_lent in
    let earlier = λ (v : ℕ). laws.earlier_fits program c.self.inside.workers v past core.is_program core.legal in
    let below = λ (v : ℕ). subst (g.P.Store.Lattice.leq (store_at g.P.Store.Lattice g.P.Passer program past v)) (sym core.store_is) (laws.earlier_below program c.self.inside.workers v past core.is_program core.legal) in
    let kept = kept_below g.P.Store.Lattice g.P.Passer g.P.Warm.made g.P.Warm.made_over program past c.args.task _ (arc_value c.self.inside.store) (core.slots_are c.args.task c.index_mut-2.result.now exists) not_lent earlier below in
    rw (c.in_ok-program.ensures, c.in_ok-store.ensures, c.lend-kept.ensures.kept, c.index_mut-2.ensures.value) (core.is_program, exists, fits, kept)
