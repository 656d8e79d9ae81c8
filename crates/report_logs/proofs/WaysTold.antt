-- What is told of alarms, a value more at a time.
use Rattle.std.proofs.Common.{◌≡◌, ◌+◌, ◌∙◌, ℕ, List, [], ◌∷◌, ◌++◌, Bool, true, false, cond, refl, sym, ap, drop, map, take, append_assoc}
use Rattle.std.specs.Prelude.{filter, sum, take_while}
use Rattle.std.proofs.lemmas.List.{drop-drop}
use Rattle.std.proofs.lemmas.List.Sums.{sum_by-cons, take_while-cons}
use Rattle.json.specs.Token.{Token, end_array}
use Rattle.json.specs.Written.{Written}
use Rattle.serde_json.specs.Data.{Data}
use Rattle.place_details.specs.declared.regions.Region.{Region}
use Rattle.report_reading.specs.Ways.{Way}
use Rattle.report_reading.specs.declared.ways.WayKind.{WayKind}
use Rattle.report_reading.specs.declared.ways.WayKind.TheVariants as Ways
use Rattle.report_views.specs.Shares.{cut}
use Rattle.report_views.specs.Spots.{Spot}
use Rattle.report_logs.specs.Sarif.{WayTold, frame_data, is_call, is_with, is_with_kind, related_data, site_data, stack_here}
use Rattle.report_logs.specs.Sarif.{stacks_data, ways_told}
use Rattle.report_logs.specs.reading.Written.{Appends, Completes, last_tokens, related_tokens, stack_tokens}
use Rattle.report_logs.specs.reading.Written.{value_tokens}
use Rattle.report_logs.proofs.Appending.{ended, more}

further : {A : Type 0} (whole done done' here rest : List A) → whole ≡ done ++ (here ++ rest) → done' ≡ done ++ here
    → whole ≡ done' ++ rest
further whole done done' here rest so_far pushed =
    so_far ∙ sym (append_assoc done here rest) ∙ ap (λ t. t ++ rest) (sym pushed)

-- one thing more that is told stands in its file
pub ways_more : (ways : List Way) (sites : List Spot) (regions : List Region) (i : ℕ) (way : Way) (site : Spot)
    (region : Region) (whole done done' : List WayTold) (told : WayTold) → drop i ways ≡ way ∷ drop (i + 1) ways
    → drop i sites ≡ site ∷ drop (i + 1) sites → drop i regions ≡ region ∷ drop (i + 1) regions
    → whole ≡ done ++ ways_told (drop i ways) (drop i sites) (drop i regions)
    → told ≡ record { kind = way.kind; said = way.said; spot = site; region = region }
    → done' ≡ done ++ told ∷ []
    → whole ≡ done' ++ ways_told (drop (i + 1) ways) (drop (i + 1) sites) (drop (i + 1) regions)
ways_more ways sites regions i way site region whole done done' told one_way one_site one_region so_far is pushed =
    let rest : List WayTold = ways_told (drop (i + 1) ways) (drop (i + 1) sites) (drop (i + 1) regions) in
    further whole done done' (told ∷ []) rest
    (so_far ∙ ap (λ w. done ++ ways_told w (drop i sites) (drop i regions)) one_way
    ∙ ap (λ s. done ++ ways_told (way ∷ drop (i + 1) ways) s (drop i regions)) one_site
    ∙ ap (λ r. done ++ ways_told (way ∷ drop (i + 1) ways) (site ∷ drop (i + 1) sites) r) one_region
    ∙ ap (λ t. done ++ (t ∷ rest)) (sym is))
    pushed

-- a place more may belong to the alarm
related_if : (b : Bool) (way : WayTold) (ways : List WayTold)
    → last_tokens (map site_data (cond b (way ∷ filter is_with ways) (filter is_with ways)))
    ≡ related_tokens b way ++ last_tokens (related_data ways)
related_if true way ways = refl
related_if false way ways = refl

pub related_more : {a b c : Written} {all : List Token} (now later : List WayTold) (way : WayTold) → now ≡ way ∷ later
    → Completes a b all (last_tokens (related_data now)) → Appends b c (related_tokens (is_with_kind way.kind) way)
    → Completes a c all (last_tokens (related_data later))
related_more now later way is so_far wrote =
    more so_far wrote (ap (λ w. last_tokens (related_data w)) is ∙ related_if (is_with_kind way.kind) way later)

-- a call more belongs to the path
pub frame_more : {a b c : Written} {all : List Token} (now later : List WayTold) (call : WayTold) → now ≡ call ∷ later
    → is_call call ≡ true → Completes a b all (last_tokens (map frame_data (take_while is_call now)))
    → Appends b c (value_tokens (frame_data call))
    → Completes a c all (last_tokens (map frame_data (take_while is_call later)))
frame_more now later call is called so_far wrote =
    more so_far wrote
    (ap (λ w. last_tokens (map frame_data (take_while is_call w))) is
    ∙ ap (λ w. last_tokens (map frame_data w)) (take_while-cons is_call call later)
    ∙ ap (λ b. last_tokens (map frame_data (cond b (call ∷ take_while is_call later) []))) called)

-- no call more belongs to it
pub frames_end : {a b c : Written} {all : List Token} (now later : List WayTold) (call : WayTold) → now ≡ call ∷ later
    → is_call call ≡ false → Completes a b all (last_tokens (map frame_data (take_while is_call now)))
    → Appends b c (end_array ∷ []) → Appends a c all
frames_end now later call is called so_far wrote =
    ended so_far wrote
    (ap (λ w. last_tokens (map frame_data (take_while is_call w))) is
    ∙ ap (λ w. last_tokens (map frame_data w)) (take_while-cons is_call call later)
    ∙ ap (λ b. last_tokens (map frame_data (cond b (call ∷ take_while is_call later) []))) called)

-- a call path more may begin
stack_then : (kind : WayKind) (way : WayTold) (behind : List WayTold) (rest : List Data)
    → last_tokens (stack_here kind way behind ++ rest) ≡ stack_tokens kind way behind ++ last_tokens rest
stack_then Ways.With way behind rest = refl
stack_then Ways.Path way behind rest = refl
stack_then Ways.Call way behind rest = refl

pub stack_more : {a b c : Written} {all : List Token} (now later behind : List WayTold) (way : WayTold)
    → now ≡ way ∷ later → behind ≡ later → Completes a b all (last_tokens (stacks_data now))
    → Appends b c (stack_tokens way.kind way behind) → Completes a c all (last_tokens (stacks_data later))
stack_more now later behind way is same so_far wrote =
    more so_far wrote
    (ap (λ w. last_tokens (stacks_data w)) is ∙ stack_then way.kind way later (stacks_data later)
    ∙ ap (λ w. stack_tokens way.kind way w ++ last_tokens (stacks_data later)) (sym same))

-- what the next finding has of it, and what is left for those behind
pub share_at : {A : Type 0} (counts : List ℕ) (items : List A) (i start count : ℕ)
    → drop i counts ≡ count ∷ drop (i + 1) counts
    → cut (drop i counts) (drop start items)
    ≡ take count (drop start items) ∷ cut (drop (i + 1) counts) (drop (start + count) items)
share_at counts items i start count one =
    ap (λ c. cut c (drop start items)) one
    ∙ ap (λ r. take count (drop start items) ∷ cut (drop (i + 1) counts) r) (drop-drop count start items)

pub sum_at : (counts : List ℕ) (i count : ℕ) → drop i counts ≡ count ∷ drop (i + 1) counts
    → sum (drop i counts) ≡ count + sum (drop (i + 1) counts)
sum_at counts i count one = ap sum one ∙ sum_by-cons (λ x. x) count (drop (i + 1) counts)
