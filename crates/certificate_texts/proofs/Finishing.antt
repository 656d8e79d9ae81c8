-- The text of a certificate that is written up to the limit.
use Rattle.std.proofs.Common.{◌≡◌, sym, ap, subst, ◌∙◌, ℕ, ◌<◌, ◌≤◌, List, [], ◌∷◌, ◌++◌, length, arith, append_assoc}
use Rattle.std.proofs.Common.{length-append, lit<, lit≤, pos}
use Rattle.std.specs.Prelude.{codes}
use Rattle.std.proofs.lemmas.Fmt.{decimal_digit}
use Rattle.post_recheck.specs.Pairs.{Pair}
use Rattle.certificate_words.specs.Words.{number, line_onto, lines_text}
use Rattle.certificate_texts.specs.StateLines.{numbered, tagged}
use Rattle.certificate_texts.specs.Limits.{certificate_limit}
use Rattle.certificate_texts.specs.Certificates.{head_text, certificate_text, pair_lines}
use Rattle.certificate_texts.specs.reading.Cuts.{with_lines}
use Rattle.certificate_texts.proofs.Cutting.{grows, lines_text-cons, whole, too_long}

-- the first line
first_is : line_onto (tagged (codes "tmcert") (number (pos 1) ∷ [])) [] ≡ codes "tmcert" ++ (32 ∷ 49 ∷ 10 ∷ [])
first_is = ap (λ one. codes "tmcert" ++ (32 ∷ (one ++ (10 ∷ [])))) (decimal_digit 1 (lit< tt))

-- the first two lines
pub begun : (count : ℕ) (a b c : List ℕ) → a ≡ [] → b ≡ with_lines a (numbered (codes "tmcert") 1 ∷ [])
    → c ≡ with_lines b (numbered (codes "source") count ∷ []) → c ≡ head_text count
begun count a b c none one two =
    let first = numbered (codes "tmcert") 1 in
    let second = numbered (codes "source") count in
    let here : b ≡ line_onto first [] =
    one ∙ ap (λ t. with_lines t (first ∷ [])) none ∙ grows certificate_limit [] first (lit≤ tt) in
    let size : length b ≡ 9 = ap length (here ∙ first_is) in
    let fits : length b ≤ certificate_limit = subst (λ n. n ≤ certificate_limit) (sym size) (lit≤ tt) in
    two ∙ grows certificate_limit b second fits ∙ ap (λ t. t ++ line_onto second []) here
    ∙ sym (lines_text-cons first (second ∷ []))

module _ (source : List ℕ) (pair : Pair) where
  -- with the lines behind the source the text is whole
  joined : (head_text (length source) ++ (source ++ (10 ∷ []))) ++ lines_text (pair_lines pair)
      ≡ certificate_text source pair
  joined =
      append_assoc (head_text (length source)) (source ++ (10 ∷ [])) (lines_text (pair_lines pair))
      ∙ ap (λ t. head_text (length source) ++ t) (append_assoc source (10 ∷ []) (lines_text (pair_lines pair)))

  longer : (limit : ℕ) → limit < length source → limit < length (certificate_text source pair)
  longer limit less =
      let rest = 10 ∷ lines_text (pair_lines pair) in
      let one = length-append (head_text (length source)) (source ++ rest) in
      let two = length-append source rest in
      omega (arith, less, one, two)

  pub long_source : certificate_limit < length source → certificate_limit < length (certificate_text source pair)
  long_source less = longer certificate_limit less

  module _ (start final : List ℕ) (begins : start ≡ head_text (length source) ++ (source ++ (10 ∷ [])))
      (goes_on : final ≡ with_lines start (pair_lines pair)) where
    all : start ++ lines_text (pair_lines pair) ≡ certificate_text source pair
    all = ap (λ t. t ++ lines_text (pair_lines pair)) begins ∙ joined

    pub is_text : length final ≤ certificate_limit → final ≡ certificate_text source pair
    is_text fits =
        goes_on
        ∙ whole certificate_limit start (pair_lines pair) (subst (λ t. length t ≤ certificate_limit) goes_on fits) ∙ all

    pub is_too_long : certificate_limit < length final → certificate_limit < length (certificate_text source pair)
    is_too_long less =
        subst (λ t. certificate_limit < length t) all
        (too_long certificate_limit start (pair_lines pair) (subst (λ t. certificate_limit < length t) goes_on less))
