use Rattle.sound_addresses.proofs.FileKinds.{file_kinds, stay_within}
use Rattle.sound_addresses.proofs.laws.addresses_stay_within.Goals as goal

pub returns : goal.returns
returns c = record { kinds = file_kinds; addresses = stay_within }
