use Rattle.std.proofs.Common.{◌≡◌, ◌∷◌, ◌+◌, ◌<◌, length, map, set, true, Some, sym, ap, subst, ◌∙◌, refl, arith}
use Rattle.std.specs.Prelude.{not, ◌==◌, ◌↔◌, if◌then◌else◌}
use Rattle.std.specs.Arc.{arc_value}
use Rattle.store_core.specs.Histories.{Publish, version_of, lent_to, with_added, store_of, store_at, MayPublish}
use Rattle.std.proofs.lemmas.List.{length-map, length-reverse}
use Rattle.store_core.specs.Events.{past_of, plain_event}
use Rattle.store_core.proofs.Pasts.{loan_of}
use Rattle.store_core.proofs.Keeping.{past_push, core_published, kept_set, risen}
use Rattle.store_core.proofs.cores.StoreCore.accept.Given as given
use Rattle.store_core.proofs.cores.StoreCore.accept.Goals as goal

pub next_version-after-requires : goal.next_version-after-requires
next_version-after-requires g c =
    let core = c.self.invariant in
    let events = c.self.inside.history.items in
    let counted = c.legal_histories.ensures.counted (arc_value c.self.inside.program) c.self.inside.workers (past_of events)
    core.is_program core.legal in
    let long : length (past_of events) ≡ length events =
    length-reverse (map plain_event events) ∙ length-map events plain_event in
    omega (arith, counted, core.version_is, long, c.self.inside.history.ok.0)

pub index_mut-requires-2 : goal.index_mut-requires-2
index_mut-requires-2 g c =
    let core = c.self.invariant in
    let brought = c.contribution.inside in
    let same_program : arc_value brought.program ≡ arc_value c.self.inside.program =
    ap (λ b. b.program) c.contribution.view_is ∙ c.requires.program ∙ ap (λ k. k.program) (sym c.self.view_is) in
    let exists : brought.task < g.P.Passer.task_count (arc_value c.self.inside.program) =
    subst (λ p. brought.task < g.P.Passer.task_count p) same_program c.contribution.invariant.1 in
    omega (arith, exists, core.slot_count, c.self.inside.slots.ok.0)

pub index_mut-requires : goal.index_mut-requires
index_mut-requires g c =
    let core = c.self.invariant in
    let past = past_of c.self.inside.history.items in
    let lent : lent_to past c.args.worker ≡ Some (c.args.contribution.task, c.args.version) = ap (λ k. lent_to k.past c.args.worker) c.self.view_is ∙ c.requires.lent in
    let loan = loan_of g.P.Store.Lattice g.P.Passer (arc_value c.self.inside.program) c.self.inside.workers past c.args.worker c.args.contribution.task c.args.version core.legal lent in
    omega (arith, loan.worker_exists, core.loan_count, c.self.inside.loans.ok.0)

-- what is published is legal
published : (g : given.Over) (c : goal.Joined-index_mut-3 g)
    → MayPublish g.P.Store.Lattice g.P.Passer (arc_value c.self.inside.program) c.self.inside.workers (past_of c.self.inside.history.items) c.args.worker c.contribution.inside.task c.args.version c.next_version-after.result (arc_value c.contribution.inside.added)
    × (not c.below-raised.result ≡ not (c.next_version-after.result == version_of (past_of c.self.inside.history.items)))
    × (c.in_ok-next.next ≡ with_added g.P.Store.Lattice g.P.Passer (arc_value c.self.inside.program) (store_of g.P.Store.Lattice g.P.Passer (arc_value c.self.inside.program) (past_of c.self.inside.history.items)) (arc_value c.contribution.inside.added))
    × (arc_value c.contribution.inside.program ≡ arc_value c.self.inside.program)
    × (arc_value c.contribution.inside.store ≡ store_at g.P.Store.Lattice g.P.Passer (arc_value c.self.inside.program) (past_of c.self.inside.history.items) c.args.version)
published g c =
    let core = c.self.invariant in
    let inside = c.self.inside in
    let brought = c.contribution.inside in
    let program = arc_value inside.program in
    let past = past_of inside.history.items in
    let laws = c.legal_histories.ensures in
    let task = c.contribution.inside.task in
    let at = store_at g.P.Store.Lattice g.P.Passer program past c.args.version in
    let now = store_of g.P.Store.Lattice g.P.Passer program past in
    let added = arc_value brought.added in
    let same_program : arc_value brought.program ≡ program = ap (λ b. b.program) c.contribution.view_is ∙ c.requires.program ∙ ap (λ k. k.program) (sym c.self.view_is) in
    let same_store : arc_value brought.store ≡ at = ap (λ b. b.store) c.contribution.view_is ∙ c.requires.store ∙ ap (λ k. store_at g.P.Store.Lattice g.P.Passer k.program k.past c.args.version) (sym c.self.view_is) in
    let lent : lent_to past c.args.worker ≡ Some (task, c.args.version) = ap (λ k. lent_to k.past c.args.worker) c.self.view_is ∙ c.requires.lent ∙ ap (λ b. Some (b.task, c.args.version)) (sym c.contribution.view_is) in
    let loan = loan_of g.P.Store.Lattice g.P.Passer program inside.workers past c.args.worker task c.args.version core.legal lent in
    let is_pass : added ≡ g.P.Passer.passed program task at = c.contribution.invariant.3 ∙ ap (λ p. g.P.Passer.passed p task (arc_value brought.store)) same_program ∙ ap (λ s. g.P.Passer.passed program task s) same_store in
    let new_is : c.in_ok-next.next ≡ with_added g.P.Store.Lattice g.P.Passer program now added =
    c.in_ok-next.ensures ∙ (λ i. with_added g.P.Store.Lattice g.P.Passer (c.deref.ensures i) ((c.deref-2.ensures ∙ core.store_is) i) (c.deref-3.ensures i)) in
    let unraised = laws.unraised program inside.workers task c.args.version past core.is_program core.legal loan.task_exists in
    let b = c.below-raised.result in
    let leq = g.P.Store.Lattice.leq in
    let after_of = λ (x : g.row.P-Store.Denot). with_added g.P.Store.Lattice g.P.Passer program now x in
    let rises = risen g.P.Store.Lattice g.P.Passer g.P.Warm.made g.P.Warm.made_over program b c.next_version-after.result (version_of past) now (after_of added)
    (subst (λ s. (b ≡ true) ↔ leq s now) new_is (subst (λ s. (b ≡ true) ↔ leq c.in_ok-next.next s) (c.deref-4.ensures ∙ core.store_is) c.below-raised.ensures))
    (subst (λ x. (leq (after_of x) now) ↔ (after_of x ≡ now)) (sym is_pass) unraised)
    (c.next_version-after.ensures ∙ ap (λ v. if not b then v + 1 else v) core.version_is) in
    (record { lent = lent; is_pass = is_pass; rises = rises.0 }, rises.1, new_is, same_program, same_store)

pub invariant_of-self-2 : goal.invariant_of-self-2
invariant_of-self-2 g c =
    let core = c.self.invariant in
    let inside = c.self.inside in
    let brought = c.contribution.inside in
    let facts = published g c in
    let after = c.next_version-after.result in
    let grown : past_of c.push.new.self.items ≡ Publish c.args.worker brought.task c.args.version after (arc_value brought.added) ∷ past_of inside.history.items = ap past_of c.in_ok-push.ensures.items ∙ past_push inside.history.items _ in
    let made = subst (λ p. g.P.Warm.made p brought.task brought.kept) facts.3 c.contribution.invariant.4 in
    rw grown (core_published g.P.Store.Lattice g.P.Passer g.P.Warm.made g.P.Warm.made_over _ _ _ _ _ _ _ _ _ _ _ _ _ brought.kept _ core facts.0 (c.in_ok-store.ensures.ok ∙ facts.2) refl made (c.contribution.invariant.5 ∙ facts.4))

pub returns-clause-grown : goal.returns-clause-grown
returns-clause-grown g c =
    let core = c.self.invariant in
    let inside = c.self.inside in
    let brought = c.contribution.inside in
    let facts = published g c in
    let view = c.self.view_is in
    let came = c.contribution.view_is in
    let after = c.next_version-after.result in
    let grown : past_of c.push.new.self.items ≡ Publish c.args.worker brought.task c.args.version after (arc_value brought.added) ∷ past_of inside.history.items = ap past_of c.in_ok-push.ensures.items ∙ past_push inside.history.items _ in
    let pasts = grown ∙ (λ i. Publish c.args.worker (came i).task c.args.version after (came i).added ∷ (view i).past) in
    let kepts = kept_set inside.slots.items brought.task _ ∙ (λ i. set (view i).kept (came i).task (Some (came i).kept)) in
    record {
      read = c.args.version;
      program = c.requires.program;
      over = c.requires.store;
      may = subst (λ k. MayPublish g.P.Store.Lattice g.P.Passer k.program k.workers k.past c.args.worker c.args.contribution.task c.args.version after c.args.contribution.added) view
          (subst (λ b. MayPublish g.P.Store.Lattice g.P.Passer (arc_value inside.program) inside.workers (past_of inside.history.items) c.args.worker b.task c.args.version after b.added) came facts.0);
      raised_is = facts.1 ∙ ap (λ k. not (after == version_of k.past)) view;
      new = λ i. record { program = (view i).program; workers = (view i).workers; past = pasts i; kept = kepts i };
    }
