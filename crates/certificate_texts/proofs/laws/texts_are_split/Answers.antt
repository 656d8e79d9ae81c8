use Rattle.certificate_texts.proofs.Splitting.{certificate_split, one_split, split_text}
use Rattle.certificate_texts.proofs.laws.texts_are_split.Goals as goal

pub returns : goal.returns
returns c = record { one = one_split; text = split_text; certificate = certificate_split }
