use Rattle.std.proofs.lemmas.Result.{IfOk-weaker}
use Rattle.text_choices.specs.Texts.{AreOpens}
use Rattle.text_choices.specs.reading.Tokens.{AreOpensAmong}
use Rattle.text_choices.proofs.AllLemmas.{opens_some}
use Rattle.text_choices.proofs.all.opening_places.Goals as goal

pub returns-in-Some : goal.returns-in-Some
returns-in-Some c =
    let known = rw c.in-Some.is at c.in_ok-tokens.ensures in
    let bytes = c.args.bytes.now in
    let tokens = c.in-Some.tokens.items in
    IfOk-weaker c.opens_among.result (λ places. AreOpensAmong tokens places.items) (λ places. AreOpens bytes places.items) (λ places. opens_some bytes tokens places.items known.1)
    (rw c.deref.ensures.value at c.opens_among.ensures)
