-- Texts that are held: bytes are moved to the front part by part; and what is kept of a text with lines in front are
-- the bytes behind them.
use Rattle.std.proofs.Common.{◌≡◌, refl, sym, ap, ◌∙◌, ℕ, ◌+◌, ◌-◌, ◌≤◌, List, [], ◌++◌, length, take, drop, arith}
use Rattle.std.proofs.Common.{append_assoc, length-append, length-drop, take_at, drop_at, take-add, drop-drop}
use Rattle.std.proofs.lemmas.List.{take-append-le, drop-append-le, length-take-le}
use Rattle.certificate_words.specs.Words.{Line}
use Rattle.certificate_parts.specs.Runs.{lines_onto}
use Rattle.certificate_reading.proofs.RowsAgain.{lines_before, rest_is_short}

-- ## A further part is moved

module _ (given xs front back part : List ℕ) (from moved more count : ℕ) (split : xs ≡ front ++ back)
    (size : length front ≡ moved + from) (most : more ≤ from) (there : more ≤ length back)
    (part_is : part ≡ take more back) (count_is : count ≡ more)
    (done : take moved xs ≡ take moved (drop from given)) (left : drop moved xs ≡ drop moved given) where
  -- with the part behind those that stand where they belong
  abbrev next : List ℕ
  next = (take moved front ++ (part ++ drop count (drop moved front))) ++ back

  abbrev stands : List ℕ
  stands = take moved front ++ take more back

  next_is : next ≡ stands ++ (drop (moved + more) front ++ back)
  next_is =
      ap (λ ys. (take moved front ++ (ys ++ drop count (drop moved front))) ++ back) part_is
      ∙ (ap (λ n. (take moved front ++ (take more back ++ drop n (drop moved front))) ++ back) count_is
      ∙ (ap (λ ys. (take moved front ++ (take more back ++ ys)) ++ back) (drop-drop more moved front)
      ∙ (append_assoc (take moved front) (take more back ++ drop (moved + more) front) back
      ∙ (ap (λ ys. take moved front ++ ys) (append_assoc (take more back) (drop (moved + more) front) back)
      ∙ sym (append_assoc (take moved front) (take more back) (drop (moved + more) front ++ back))))))

  stand_length : length stands ≡ moved + more
  stand_length =
      let a = length-append (take moved front) (take more back) in
      let b = length-take-le moved front (omega (arith, size)) in
      let c = length-take-le more back there in
      omega (arith, a, b, c)

  first_part : take moved front ≡ take moved (drop from given)
  first_part = sym (take-append-le moved front back (omega (arith, size))) ∙ (ap (take moved) (sym split) ∙ done)

  back_is : back ≡ drop moved (drop from given)
  back_is =
      sym (drop_at front back (moved + from) size)
      ∙ (ap (drop (moved + from)) (sym split)
      ∙ (sym (drop-drop from moved xs)
      ∙ (ap (drop from) left
      ∙ (drop-drop from moved given
      ∙ (ap (λ n. drop n given) {x = moved + from} {y = from + moved} (omega arith)
      ∙ sym (drop-drop moved from given))))))

  pub more_done : take (moved + more) next ≡ take (moved + more) (drop from given)
  more_done =
      ap (take (moved + more)) next_is
      ∙ (take_at stands (drop (moved + more) front ++ back) (moved + more) stand_length
      ∙ (ap (λ ys. ys ++ take more back) first_part
      ∙ (ap (λ ys. take moved (drop from given) ++ take more ys) back_is
      ∙ sym (take-add moved more (drop from given)))))

  pub more_left : drop (moved + more) next ≡ drop (moved + more) given
  more_left =
      ap (drop (moved + more)) next_is
      ∙ (drop_at stands (drop (moved + more) front ++ back) (moved + more) stand_length
      ∙ (sym (drop-append-le (moved + more) front back (omega (arith, size, most)))
      ∙ (ap (drop (moved + more)) (sym split)
      ∙ (sym (drop-drop more moved xs) ∙ (ap (drop more) left ∙ drop-drop more moved given)))))

  pub same_size : length next ≡ length xs
  same_size =
      let a = ap length next_is ∙ length-append stands (drop (moved + more) front ++ back) in
      let b = length-append (drop (moved + more) front) back in
      let c = length-drop (moved + more) front in
      let d = ap length split ∙ length-append front back in
      omega (arith, a, b, c, d, stand_length, size, most)

-- ## What is kept

rest_is : (text a rest : List ℕ) → text ≡ a ++ rest → drop (length text - length rest) text ≡ rest
rest_is text a rest e =
    let n : length text ≡ length a + length rest = ap length e ∙ length-append a rest in
    let m : length text - length rest ≡ length a = omega (arith, n) in
    ap (λ k. drop k text) m ∙ (ap (drop (length a)) e ∙ drop_at a rest (length a) refl)

module _ (ls : List Line) (old text new : List ℕ) (same : old ≡ text) (is : old ≡ lines_onto ls new) where
  is_front : text ≡ lines_onto ls [] ++ new
  is_front = sym same ∙ (is ∙ sym (lines_before ls [] new))

  pub kept_short : length new ≤ length text
  kept_short = rest_is_short text (lines_onto ls []) new is_front

  pub kept_rest : drop (length text - length new) text ≡ new
  kept_rest = rest_is text (lines_onto ls []) new is_front
