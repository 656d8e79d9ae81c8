-- Pairs that fit one program have one text.
use Rattle.std.proofs.Common.{◌≡◌}
use Rattle.post_recheck.specs.program_equations.Programs.{ProgramBodies, IsProgram}
use Rattle.post_recheck.specs.Pairs.{Pair, FitsPair}
use Rattle.certificate_words.specs.Words.{lines_text}
use Rattle.certificate_words.proofs.OneText.{lines}
use Rattle.certificate_texts.specs.Sizes.{HasSmallNumbers}
use Rattle.certificate_texts.specs.Certificates.{pair_lines}
use Rattle.certificate_texts.proofs.Lawful.{lawful_pair}
use Rattle.certificate_texts.proofs.OnePair.{one_pair}

pub one_text : (p : ProgramBodies) → IsProgram p → HasSmallNumbers p → (pair other : Pair) → FitsPair p pair
    → FitsPair p other → lines_text (pair_lines pair) ≡ lines_text (pair_lines other) → pair ≡ other
one_text p is small pair other fits fits' e =
    one_pair p is pair other fits fits' (lines (pair_lines pair) (pair_lines other) (lawful_pair p is small pair fits)
    (lawful_pair p is small other fits') e)
