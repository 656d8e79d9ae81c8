-- Where a comment ends, one byte further.
use Rattle.std.proofs.Common.{◌≡◌, ℕ, ◌+◌, ◌<◌, cond, eqb, ◌&&◌, List, length, get_or, drop, Some, None, ap, ◌∙◌, arith}
use Rattle.std.proofs.lemmas.List.{get_or-drop, at_drop_more}
use Rattle.tm_terms.specs.Lexis.{comment_end}
use Rattle.tm_terms.specs.Splices.{is_spliced_slash}

pub comment_end_more : (k : ℕ) (text : List ℕ) (i : ℕ) → i < length text
    → comment_end (k + i) (drop i text) ≡ cond (eqb (get_or text i 0) 42 && eqb (get_or text (i + 1) 0) 47) (Some (k + i + 2)) (cond (eqb (get_or text i 0) 42 && is_spliced_slash (drop (i + 1) text)) None (comment_end (k + (i + 1)) (drop (i + 1) text)))
comment_end_more k text i h =
    let rest = drop (i + 1) text in
    let hidden = eqb (get_or text i 0) 42 && is_spliced_slash rest in
    let behind : get_or rest 0 0 ≡ get_or text (i + 1) 0 = get_or-drop (i + 1) text 0 0 ∙ ap (λ n. get_or text n 0) (omega arith) in
    let further : k + i + 1 ≡ k + (i + 1) = omega arith in
    at_drop_more (comment_end (k + i)) text i 0 h
    ∙ ap (λ b. cond (eqb (get_or text i 0) 42 && eqb b 47) (Some (k + i + 2)) (cond hidden None (comment_end (k + i + 1) rest))) behind
    ∙ ap (λ n. cond (eqb (get_or text i 0) 42 && eqb (get_or text (i + 1) 0) 47) (Some (k + i + 2)) (cond hidden None (comment_end n rest))) further
