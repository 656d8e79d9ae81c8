use Rattle.std.proofs.Common.{sym, ap, ◌∙◌, []}
use Rattle.certificate_texts.specs.reading.Cuts.{with_lines}
use Rattle.certificate_texts.proofs.Listing.{no_cells}
use Rattle.certificate_texts.proofs.kept.Kept.new.Goals as goal

pub invariant_of-result : goal.invariant_of-result
invariant_of-result c = record {
  told = c.new-2.ensures.items ∙ sym (ap (with_lines []) (no_cells c.new.result c.new.ensures));
}
