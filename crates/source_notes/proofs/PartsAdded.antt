-- Parts behind what stands before.
use Rattle.std.proofs.Common.{◌≡◌, ◌∙◌, ap, ℕ, List, ◌++◌}
use Rattle.std.specs.Prelude.{Result, Ok, Err, OnOk}
use Rattle.program_streams.specs.declared.statuses.Status.{Status}
use Rattle.source_notes.specs.PartTexts.{part_text}
use Rattle.source_notes.specs.reading.PartsTold.{Adds}

-- a text of which this is told is a part
pub added : {A E : Type 0} (Told : Status → List ℕ → Type 0) (r : Result A E) (name before after given text : List ℕ)
    (status : Status) → OnOk r (after ≡ before ++ part_text name status given) → given ≡ text → Told status text
    → OnOk r (Adds Told name before after)
added Told (Ok a) name before after given text status h e t = record {
  part = record { status = status; text = text; told = t };
  is = h ∙ ap (λ z. before ++ part_text name status z) e;
}
added Told (Err e') name before after given text status h e t = tt
