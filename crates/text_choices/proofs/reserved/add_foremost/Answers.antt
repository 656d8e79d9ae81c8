use Rattle.text_choices.proofs.reserved.add_foremost.Goals as goal

pub returns-in-Ok : goal.returns-in-Ok
returns-in-Ok c = record {
  kept = c.joined-kept.result;
  joined = c.joined-kept.ensures;
  put = λ n. c.in-Ok.ensures.updates.0 n;
}
