use Rattle.std.proofs.Common.{ap, ◌∙◌, Some}
use Rattle.std.specs.Prelude.{option_map}
use Rattle.refusal_hints.specs.Classes.{classes, is_among}
use Rattle.refusal_hints.proofs.classes.is_listed.Goals as goal

pub returns : goal.returns
unfolding classes
returns c = ap (λ b. Some b) c.is_among.ensures ∙ ap (option_map (λ words. is_among words c.args.word.now)) c.in_ok-words.ensures
