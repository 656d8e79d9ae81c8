use Rattle.std.specs.Prelude.{◌≡◌, pos}
use Rattle.filters.specs.strided_dom.Combinations.{IsProduct}
use Rattle.filters.specs.pointer_dom.Advances.{IsElementStep, directed}
use Rattle.operator_values.specs.SetsOfPointers.{offset_by, offset_by_is, offset_by_fits, indexed, indexed_is, indexed_fits, moved, moved_is, moved_fits}
use Rattle.operator_values.proofs.OneAnswer.{one_advance}
use Rattle.operator_values.proofs.pointers.advanced_pointers.Goals as goal

pub returns : goal.returns
returns c = record {
  parts = λ cells p. (offset_by_fits cells p, offset_by_is cells p);
  one_part = λ cells p r p-is r-is h. one_advance (λ step. step ≡ pos cells) p r (offset_by cells p) p-is r-is (offset_by_fits cells p) h (offset_by_is cells p);
  elements = λ n cells s p. (indexed_fits n cells s p, indexed_is n cells s p);
  one_element = λ n cells s p r p-is r-is h. one_advance (IsElementStep n cells s) p r (indexed n cells s p) p-is r-is (indexed_fits n cells s p) h (indexed_is n cells s p);
  moves = λ forward cells counts p. (moved_fits forward cells counts p, moved_is forward cells counts p);
  one_move = λ forward cells counts p r p-is r-is h.
      one_advance (IsProduct counts (directed forward cells)) p r (moved forward cells counts p) p-is r-is (moved_fits forward cells counts p) h (moved_is forward cells counts p);
}
