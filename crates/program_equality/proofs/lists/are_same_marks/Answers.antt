use Rattle.std.proofs.Common.{◌∙◌, sym}
use Rattle.std.proofs.lemmas.Bool.Decides.{Decides-int_eq}
use Rattle.std.proofs.lemmas.Slice.Eq.{slice_eq-Decides}
use Rattle.program_equality.proofs.lists.are_same_marks.Goals as goal

pub returns : goal.returns
returns c =
    let same = slice_eq-Decides Decides-int_eq c.ends.result.now c.ends-2.result.now c.eq.result c.eq.ensures in (
      λ h. sym c.ends.ensures.value ∙ same.0 h ∙ c.ends-2.ensures.value,
      λ e. same.1 (c.ends.ensures.value ∙ e ∙ sym c.ends-2.ensures.value),
    )
