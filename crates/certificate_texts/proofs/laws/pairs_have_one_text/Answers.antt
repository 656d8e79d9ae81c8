use Rattle.certificate_texts.proofs.Lawful.{lawful_pair}
use Rattle.certificate_texts.proofs.OnePair.{one_pair}
use Rattle.certificate_texts.proofs.OneText.{one_text}
use Rattle.certificate_texts.proofs.laws.pairs_have_one_text.Goals as goal

pub returns : goal.returns
returns c = record { lines = one_pair; lawful = lawful_pair; text = one_text }
