-- What the code holds, as the definitions see it.
use Rattle.std.specs.Prelude.{ℕ, List, Vec}
use Rattle.std.specs.Borrow.{Bor}
use Rattle.std.specs.declared.alloc.Global.{Global}
use Rattle.place_details.specs.declared.details.Sight.{Sight as SightCode}
use Rattle.place_details.specs.Details.{Sight}

abbrev pub sight_seen : SightCode → Sight
sight_seen sight = record { place = sight.place; name = sight.name.now; word = sight.word.now }

abbrev pub front_seen : Vec ℕ Global → List ℕ
front_seen front = front.items

abbrev pub bytes_seen : Bor (List ℕ) → List ℕ
bytes_seen bytes = bytes.now
