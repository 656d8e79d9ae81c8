use Rattle.std.proofs.lemmas.Bool.Decides.{Decides-eqb}
use Rattle.std.proofs.lemmas.Slice.Eq.{strip_prefix_is}
use Rattle.certificate_texts.specs.reading.Counts.{front}
use Rattle.certificate_texts.proofs.splits.behind_front.Goals as goal

pub returns : goal.returns
returns c = strip_prefix_is Decides-eqb c.args.bytes.now front c.strip_prefix.result c.strip_prefix.ensures.cases
