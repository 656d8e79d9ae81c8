use Rattle.std.proofs.Common.{◌≡◌, sym, ap, subst, ◌∙◌}
use Rattle.std.proofs.lemmas.Bool.{false≢true}
use Rattle.interfere_set.specs.Stores.{IsStoreBelow, joined_store, rounded_store}
use Rattle.thread_pass.specs.program_systems.ReadPrograms.{program_of}
use Rattle.store_limits.specs.Limits.{published}
use Rattle.program_solutions.proofs.turns.passed.Goals as goal

pub returns : goal.returns
returns c =
    let p = program_of c.args.analysis.now in
    let both-is = c.in_ok-join.ensures ∙ ap (joined_store c.args.store.now) c.in_ok-table.ensures.added in
    let after-is : c.in_ok-after.after ≡ published p c.args.task c.args.store.now =
    c.in_ok-after.ensures ∙ ap (λ m. rounded_store m c.in_ok-join.field-0) c.marks.ensures
    ∙ ap (rounded_store p.marks) both-is in
    (c.in_ok-table.ensures.table, c.in_ok-table.ensures.start, after-is, λ low. false≢true (sym c.if-below.false ∙ c.below.ensures.1 low))

pub returns-then-below : goal.returns-then-below
returns-then-below c =
    let p = program_of c.args.analysis.now in
    let both-is = c.in_ok-join.ensures ∙ ap (joined_store c.args.store.now) c.in_ok-table.ensures.added in
    let after-is : c.in_ok-after.after ≡ published p c.args.task c.args.store.now =
    c.in_ok-after.ensures ∙ ap (λ m. rounded_store m c.in_ok-join.field-0) c.marks.ensures
    ∙ ap (rounded_store p.marks) both-is in (
      record {
        least = c.in_ok-table.ensures.table;
        below = subst (λ s. IsStoreBelow s c.args.store.now) after-is (c.below.ensures.0 c.if-below.true);
      },
      c.in_ok-table.ensures.start,
    )
