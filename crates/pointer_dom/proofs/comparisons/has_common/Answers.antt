use Rattle.std.proofs.Common.{ap, sym, ◌∙◌}
use Rattle.std.proofs.lemmas.Bool.{false≢true}
use Rattle.std.specs.Option.{option_copied}
use Rattle.pointer_dom.specs.PointerSets.{offsets_or_none}
use Rattle.pointer_dom.proofs.CommonFacts.{meet_none, meet_some}
use Rattle.pointer_dom.proofs.comparisons.has_common.Goals as goal

pub returns-in-None : goal.returns-in-None
returns-in-None c = (
  λ e. absurd (false≢true e),
  λ m. absurd (meet_none c.args.offsets.now (offsets_or_none (option_copied c.args.others)) (ap (λ x. (let o = offsets_or_none (option_copied x) in o.offsets)) c.in-None.is) m),
)

pub returns-in-Some : goal.returns-in-Some
returns-in-Some c =
    meet_some c.args.offsets.now (offsets_or_none (option_copied c.args.others)) c.set.result c.set-in-Some.result c.meet.result c.is_empty.result c.set.ensures.value (c.set-in-Some.ensures.value ∙ ap (λ x. (let o = offsets_or_none (option_copied x) in o.offsets)) (sym c.in-Some.is)) c.meet.ensures c.is_empty.ensures
