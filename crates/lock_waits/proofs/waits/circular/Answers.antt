use Rattle.std.proofs.Common.{sym, subst, List}
use Rattle.std.specs.Prelude.{Contains}
use Rattle.std.proofs.lemmas.Result.{IfOk-weaker}
use Rattle.program_reports.specs.post_recheck.program_equations.Solutions.{tables_of}
use Rattle.program_reports.specs.post_recheck.program_systems.ProgramFacts.{program_with}
use Rattle.program_reports.specs.post_recheck.Pairs.{lists_of}
use Rattle.request_circles.specs.declared.requests.Request.{Request as ARequest}
use Rattle.request_circles.proofs.Same.{same_requests}
use Rattle.lock_waits.specs.Waits.{IsRequest}
use Rattle.lock_waits.proofs.waits.circular.Goals as goal

pub returns : goal.returns
returns c =
    IfOk-weaker c.circular_places.result _ _ (λ places h facts are.
    let p = program_with c.args.program.now facts in
    let lists = lists_of c.args.tables.now in
    let all = c.in_ok-requests.ensures facts are in
    let e = c.deref.ensures.value in
    same_requests (Contains c.deref.result.now) (IsRequest p (tables_of lists))
    (λ r. (
      λ x. (all r).0 (subst (λ (xs : List ARequest). Contains xs r) e x),
      λ y. subst (λ (xs : List ARequest). Contains xs r) (sym e) ((all r).1 y),
    )) places.items h) c.circular_places.ensures
