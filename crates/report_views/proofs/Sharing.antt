-- What is told of alarms is shared out, finding by finding.
use Rattle.std.proofs.Common.{◌≡◌, ◌∙◌, ℕ, ◌+◌, ◌-◌, ◌<◌, ◌≤◌, List, [], ◌∷◌, ◌++◌, length, map, take, drop, get_or, refl, sym, ap, subst, arith, Result, Err}
use Rattle.std.specs.Prelude.{IsErrOf, option_map, slice_get, sum}
use Rattle.std.proofs.lemmas.List.{append_assoc, drop-drop, drop-map, drop_more, length-drop, take_rest}
use Rattle.std.proofs.lemmas.List.Sums.{sum_by_push}
use Rattle.std.proofs.lemmas.Option.{slice_get-get_or, slice_get-map}
use Rattle.report_reading.specs.declared.ways.Way.{Way as WayCode}
use Rattle.report_reading.specs.reading.Told.{way_seen}
use Rattle.report_views.specs.Causes.{IsStrange}
use Rattle.report_views.specs.Shares.{IsOfNone, leading, shares}
use Rattle.report_views.specs.declared.causes.Cause.{Cause}
use Rattle.report_views.specs.declared.causes.Cause.TheVariants.{StrangeWay}
use Rattle.report_views.specs.declared.spots.Finding.{Finding}
use Rattle.report_views.specs.declared.views.ViewFail.{ViewFail}
use Rattle.report_views.specs.declared.views.ViewFail.TheVariants.{Refused}

-- one finding more has had its turn
pub shares_more : (findings : List Finding) (ways : List WayCode) (i told count : ℕ)
    (finding : Finding) (before : List ℕ)
    → i < length findings → count ≡ leading (get_or findings i finding) (map way_seen (drop told ways))
    → shares findings (map way_seen ways) ≡ before ++ shares (drop i findings) (drop told (map way_seen ways))
    → shares findings (map way_seen ways)
    ≡ (before ++ (count ∷ [])) ++ shares (drop (i + 1) findings) (drop (told + count) (map way_seen ways))
shares_more findings ways i told count finding before lt has so_far =
    let all = map way_seen ways in
    let left = drop told all in
    let others = drop (i + 1) findings in
    let same : leading (get_or findings i finding) left ≡ count =
    ap (leading (get_or findings i finding)) (drop-map way_seen told ways) ∙ sym has in
    so_far ∙ ap (λ fs. before ++ shares fs left) (drop_more findings i finding lt)
    ∙ ap (λ n. before ++ (n ∷ shares others (drop n left))) same
    ∙ ap (λ ws. before ++ (count ∷ shares others ws)) (drop-drop count told all)
    ∙ sym (append_assoc before (count ∷ []) (shares others (drop (told + count) all)))

-- those so far have theirs, and all that these are told of is there
pub counted_more : (findings : List Finding) (ways : List WayCode) (i told count : ℕ)
    (finding : Finding) (before now : List ℕ)
    → i < length findings
    → count ≡ leading (get_or findings i finding) (map way_seen (take (length ways - told) (drop told ways)))
    → count ≤ length (take (length ways - told) (drop told ways)) → now ≡ before ++ (count ∷ [])
    → (told ≡ sum before) × (told ≤ length ways)
    × (shares findings (map way_seen ways) ≡ before ++ shares (drop i findings) (drop told (map way_seen ways)))
    → (told + count ≡ sum now) × (told + count ≤ length ways)
    × (shares findings (map way_seen ways)
    ≡ now ++ shares (drop (i + 1) findings) (drop (told + count) (map way_seen ways)))
counted_more findings ways i told count finding before now lt has most pushed so_far =
    let all = map way_seen ways in
    let rest = take_rest ways told in
    let first : count ≡ leading (get_or findings i finding) (map way_seen (drop told ways)) =
    has ∙ ap (λ ws. leading (get_or findings i finding) (map way_seen ws)) rest in
    let left : length (take (length ways - told) (drop told ways)) ≡ length ways - told =
    ap length rest ∙ length-drop told ways in
    let within = so_far.1 in (
      ap (λ n. n + count) so_far.0 ∙ sym (ap sum pushed ∙ sum_by_push (λ x. x) before count),
      omega (arith, most, left, within),
      shares_more findings ways i told count finding before lt first so_far.2
          ∙ ap (λ counts. counts ++ shares (drop (i + 1) findings) (drop (told + count) all)) (sym pushed),
    )

-- the first way that is left
pub none_of : (findings : List Finding) (ways : List WayCode) (counts : List ℕ) (told : ℕ)
    (way : WayCode) → told < length ways
    → counts ≡ shares findings (map way_seen ways) → told ≡ sum counts
    → IsOfNone findings (map way_seen ways) (get_or ways told way).place
none_of findings ways counts told way lt has all =
    let left = get_or ways told way in
    record {
      way = way_seen left;
      left =
          ap (λ cs. slice_get (map way_seen ways) (sum cs)) (sym has) ∙ ap (slice_get (map way_seen ways)) (sym all)
          ∙ slice_get-map way_seen ways told ∙ ap (option_map way_seen) (slice_get-get_or ways told way lt);
      placed = refl;
    }

-- it is the cause of what is answered
pub strange_of : {T : Type 0} (findings : List Finding) (ways : List WayCode) (counts : List ℕ) (told : ℕ)
    (way : WayCode)
    (answer : Result T ViewFail) (cause : Cause) → told < length ways → counts ≡ shares findings (map way_seen ways)
    → told ≡ sum counts → answer ≡ Err (Refused (StrangeWay (get_or ways told way).place))
    → IsErrOf answer (Refused cause) → IsStrange findings (map way_seen ways) cause
strange_of {T} findings ways counts told way answer cause lt has all is said =
    let same : StrangeWay (get_or ways told way).place ≡ cause = cc in
    subst (IsStrange findings (map way_seen ways)) same (none_of findings ways counts told way lt has all)
