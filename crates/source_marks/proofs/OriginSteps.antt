-- The origins of lines, one after another.
use Rattle.std.proofs.Common.{◌≡◌, ◌<◌, ◌≤◌, ◌+◌, ◌-◌, ◌∙◌, ◌⊎◌, inl, inr, ℕ, List, [], ◌∷◌, ◌++◌, length, length-append, append_assoc, arith, refl, sym, ap, subst, Option, None, Some}
use Rattle.std.specs.Borrow.{Bor}
use Rattle.std.specs.Prelude.{option_map, option_and_then, slice_get, IfSome}
use Rattle.source_marks.specs.Marks.{after, following, greatest_line, IsBrokenAt, mark_of, mark_text, named, Origin, origins_from}

none_case : (done : List Origin) (next : Option Origin) (rest : Origin → Option (List Origin)) → None ≡ next
    → option_map (λ r. done ++ r) (option_and_then rest next) ≡ None
none_case done None rest e = refl
none_case done (Some next) rest e = cc

-- no origins are made where a mark cannot be read
pub made_none : (made : Option (List Origin)) (done : List Origin) (at : Origin) (line : List ℕ) (lines rest : List (List ℕ))
    → made ≡ option_map (λ r. done ++ r) (origins_from at lines) → lines ≡ line ∷ rest → None ≡ after at line → made ≡ None
made_none made done at line lines rest e parts none =
    e ∙ ap (λ ls. option_map (λ r. done ++ r) (origins_from at ls)) parts
    ∙ none_case done (after at line) (λ n. option_map (λ r. at ∷ r) (origins_from n rest)) none

joined : (done : List Origin) (at : Origin) (rest : Option (List Origin))
    → option_map (λ r. done ++ r) (option_map (λ r. at ∷ r) rest) ≡ option_map (λ r. (done ++ at ∷ []) ++ r) rest
joined done at None = refl
joined done at (Some rest) = ap Some (sym (append_assoc done (at ∷ []) rest))

some_case : (done : List Origin) (at : Origin) (next : Option Origin) (lines : List (List ℕ)) (there : Origin) → Some there ≡ next
    → option_map (λ r. done ++ r) (option_and_then (λ n. option_map (λ r. at ∷ r) (origins_from n lines)) next)
    ≡ option_map (λ r. (done ++ at ∷ []) ++ r) (origins_from there lines)
some_case done at None lines there e = cc
some_case done at (Some next) lines there e =
    joined done at (origins_from next lines)
    ∙ ap (λ n. option_map (λ r. (done ++ at ∷ []) ++ r) (origins_from n lines)) (sym (cc))

-- the origin of a line is made, and those behind it go on from the next
pub made_more : (made : Option (List Origin)) (done done' : List Origin) (at next : Origin) (line : List ℕ) (lines rest : List (List ℕ))
    → made ≡ option_map (λ r. done ++ r) (origins_from at lines) → lines ≡ line ∷ rest → done' ≡ done ++ at ∷ []
    → Some next ≡ after at line → made ≡ option_map (λ r. done' ++ r) (origins_from next rest)
made_more made done done' at next line lines rest e parts pushed there =
    e ∙ ap (λ ls. option_map (λ r. done ++ r) (origins_from at ls)) parts
    ∙ some_case done at (after at line) rest next there
    ∙ ap (λ d. option_map (λ r. d ++ r) (origins_from next rest)) (sym pushed)

-- one line more is behind
pub moved : (all earlier lines rest : List (List ℕ)) (line : List ℕ) (n n' : ℕ) → all ≡ earlier ++ lines → length earlier ≡ n
    → lines ≡ line ∷ rest → n' ≡ n + 1 → (e : List (List ℕ)) × (all ≡ e ++ rest) × (length e ≡ n')
moved all earlier lines rest line n n' parts count split next =
    let longer : length (earlier ++ line ∷ []) ≡ length earlier + 1 = length-append earlier (line ∷ []) in (
      earlier ++ line ∷ [],
      parts ∙ ap (λ ls. earlier ++ ls) split ∙ sym (append_assoc earlier (line ∷ []) rest),
      omega arith,
    )

-- what stands behind a line is shorter
pub shorter_by : (found : Option (Bor (List ℕ))) (behind : Bor (List ℕ)) (n : ℕ) → IfSome found (λ b. length b.now < n)
    → found ≡ Some behind → length behind.now < n
shorter_by None behind n shorter is = cc
shorter_by (Some b) behind n shorter is =
    let same : b ≡ behind = cc in let P : Bor (List ℕ) → Type 0 = λ x. length x.now < n in subst P same shorter

-- the number of a line is small where the text is
pub still_small : (line next rest behind text : ℕ) → (next ≡ line + 1) ⊎ (next ≤ greatest_line) → behind < rest
    → line + rest ≤ greatest_line + text → rest ≤ text → next + behind ≤ greatest_line + text
still_small line next rest behind text by shorter small within = elim by [ inl e ↦ omega arith | inr e ↦ omega arith ]

unmapped : {A B : Type 0} (f : A → B) (o : Option A) → None ≡ option_map f o → o ≡ None
unmapped f None e = refl
unmapped f (Some a) e = cc

broken_by : (at : Origin) (mark : Option (List ℕ)) → None ≡ following at mark
    → (text : List ℕ) × (mark ≡ Some text) × (mark_of text ≡ None)
broken_by at None e = cc
broken_by at (Some text) e = (text, refl, unmapped (λ m. named at.name m.name m.number) (mark_of text) e)

here : (earlier : List (List ℕ)) (line : List ℕ) (more : List (List ℕ)) → slice_get (earlier ++ line ∷ more) (length earlier) ≡ Some line
here [] line more = refl
here (first ∷ earlier) line more = here earlier line more

-- the line behind these earlier ones is a mark that cannot be read
pub is_broken : (lines earlier more : List (List ℕ)) (line : List ℕ) (at : Origin) (n : ℕ) → lines ≡ earlier ++ line ∷ more
    → length earlier + 1 ≡ n → None ≡ after at line → IsBrokenAt lines n
is_broken lines earlier more line at n parts number none =
    let mark = broken_by at (mark_text line) none in
    let back : n - 1 ≡ length earlier = omega arith in
    record {
      line = line;
      text = mark.0;
      counted = omega arith;
      there = ap (λ l. slice_get l (n - 1)) parts ∙ ap (slice_get (earlier ++ line ∷ more)) back ∙ here earlier line more;
      mark = mark.1;
      broken = mark.2;
    }
