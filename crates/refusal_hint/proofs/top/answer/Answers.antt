use Rattle.std.proofs.Common.{rules, sym, subst}
use Rattle.program_streams.specs.Statuses.{IsWhole}
use Rattle.refusal_hint.proofs.top.answer.Goals as goal

pub returns-in-Ok-clause-told : goal.returns-in-Ok-clause-told
returns-in-Ok-clause-told g c = λ e.
    let taken = c.send.ensures.whole (subst IsWhole (sym e) tt) in
    record { text = c.deref.result.now; read = search rules; appended = search rules }
