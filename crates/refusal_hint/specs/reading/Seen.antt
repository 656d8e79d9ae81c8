-- What the code holds, as the definitions see it.
use Rattle.refusal_hint.specs.declared.words.Asked.{Asked as AskedCode}
use Rattle.refusal_hint.specs.Words.{Asked}

abbrev pub asked_seen : AskedCode → Asked
asked_seen asked = record { place = asked.place; kind = asked.kind }
