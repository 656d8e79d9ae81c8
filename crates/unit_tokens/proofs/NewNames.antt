-- New names are new.
use Rattle.std.proofs.Common.{◌≡◌, ◌∙◌, ◌+◌, ◌-◌, ◌++◌, ap, arith, drop, drop-drop, length, length-drop, sym, take, ℕ, List, []}
use Rattle.std.proofs.Math.Seq.{drop-append_seam, take-append_seam}
use Rattle.std.proofs.lemmas.List.{append_assoc, append_cancel_right, length-append, take-append-drop}
use Rattle.unit_tokens.specs.Sayings.{Says, with_behind}
use Rattle.unit_tokens.specs.Units.{IsNowhere}

-- a part of the units has no mark that stands nowhere in them
pub no_mark : (units mark before after : List ℕ) (start count : ℕ) → IsNowhere mark units
    → take count (drop start units) ≡ before ++ (mark ++ after) → ⊥
no_mark units mark before after start count is e =
    let text = drop start units in
    let rest = after ++ drop count text in
    let k = start + length before in
    let whole : text ≡ before ++ (mark ++ rest) =
    sym (take-append-drop count text) ∙ ap (λ t. t ++ drop count text) e ∙ append_assoc before (mark ++ after) (drop count text)
    ∙ ap (λ t. before ++ t) (append_assoc mark after (drop count text)) in
    let there : drop k units ≡ mark ++ rest =
    sym (drop-drop (length before) start units) ∙ ap (drop (length before)) whole ∙ drop-append_seam before (mark ++ rest) in
    let here : take (length mark) (drop k units) ≡ mark = ap (take (length mark)) there ∙ take-append_seam mark rest in
    let long : length units - k ≡ length mark + length rest =
    sym (length-drop k units) ∙ ap length there ∙ length-append mark rest in
    is.nowhere k (omega (arith, is.some, long)) here

abbrev named_text : Says → List ℕ
named_text (Says.Named text) = text
named_text (Says.Other s) = []

-- what stands behind two names alike tells them apart no less
pub one_name : (more text other : List ℕ) → with_behind more (Says.Named text) ≡ with_behind more (Says.Named other)
    → text ≡ other
one_name more text other e = append_cancel_right text other more (ap named_text e)
