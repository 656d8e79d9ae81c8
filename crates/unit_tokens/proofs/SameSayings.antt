-- Tokens that say the same.
use Rattle.std.proofs.Common.{◌≡◌, ◌∙◌, ap, sym, ℕ, List}
use Rattle.std.specs.Prelude.{None}
use Rattle.tm_terms.specs.declared.tokens.Shape.{Shape}
use Rattle.unit_tokens.specs.Sayings.{Says, name_of, said, said_by}

-- tokens that are no names
pub same_others : (joined units : List ℕ) (other shape : Shape) → name_of other ≡ None → name_of shape ≡ None → other ≡ shape
    → said joined other ≡ said units shape
same_others joined units other shape no_new no_name same =
    ap (said_by joined other) no_new ∙ ap Says.Other same ∙ sym (ap (said_by units shape) no_name)
