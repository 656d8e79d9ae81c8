use Rattle.std.proofs.Common.{ap, rules, ◌<◌, length}
use Rattle.source_marks.specs.Names.{Spelled}
use Rattle.source_marks.proofs.Texts.{name_step}
use Rattle.source_marks.proofs.names.decoded.Goals as goal

pub loop-rest-preserved : goal.loop-rest-preserved
loop-rest-preserved c =
    let same = c.spelled_first-first.ensures in
    let some : 0 < length c.loop-rest.rest.now = search rules in
    name_step c.args.spelled.now c.loop-rest.name.items _ c.loop-rest.rest.now _ c.spelled_first-first.result.byte
    c.spelled_first-first.result.more some (ap (λ (s : Spelled). s.byte) same) (ap (λ (s : Spelled). s.more) same)
    c.loop-rest.invariant c.in_ok-push.ensures.items c.behind-rest.ensures
