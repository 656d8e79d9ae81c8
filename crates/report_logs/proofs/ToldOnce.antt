-- Each finding is told of once.
use Rattle.std.proofs.Common.{◌≡◌, ◌<◌, ◌+◌, ◌∙◌, ℕ, suc, Option, Some, None, List, [], ◌∷◌, ◌++◌, length, get_or, take, drop, map, add-one, drop-cons, append_assoc}
use Rattle.std.proofs.Common.{arith, refl, sym, ap, length-drop}
use Rattle.std.specs.List.{drop-map, flat_map}
use Rattle.std.proofs.lemmas.List.{length-map, take-append-drop}
use Rattle.std.proofs.lemmas.List.Sums.{sum_by-cons}
use Rattle.std.specs.Borrow.{Bor}
use Rattle.std.specs.Prelude.{String, slice_index_or, string_bytes, sum}
use Rattle.std.specs.declared.alloc.Global.{Global}
use Rattle.json.specs.Token.{Token, begin_array}
use Rattle.json.specs.Written.{Written}
use Rattle.serde_json.specs.Data.{Data, array}
use Rattle.serde_json.specs.View.{items_of}
use Rattle.place_details.specs.reading.Seen.{bytes_seen}
use Rattle.report_views.specs.declared.spots.Spot.{Spot as SpotCode}
use Rattle.report_views.specs.reading.Seen.{spot_seen}
use Rattle.report_logs.specs.reading.Seen.{AreAsMany, told_at}
use Rattle.source_marks.specs.Marks.{Origin}
use Rattle.place_details.specs.Details.{AreDetails, Sight, region_of}
use Rattle.place_details.specs.Fingerprints.{fingerprints_behind}
use Rattle.report_reading.specs.Ways.{Way}
use Rattle.report_views.specs.Shares.{cut, leading, shares, site_of}
use Rattle.report_views.specs.Spots.{Spot, before, spot_of, spots_of}
use Rattle.report_views.specs.declared.spots.Finding.{Finding}
use Rattle.place_details.specs.declared.regions.Region.{Region}
use Rattle.source_marks.specs.Names.{decoded}
use Rattle.report_logs.specs.Laws.{AllTold, AllWaysTold}
use Rattle.report_logs.specs.Logs.{sight_of, sights_of}
use Rattle.report_logs.specs.Sarif.{Told, WayTold, result_data, told_of, ways_told}
use Rattle.report_logs.specs.reading.Written.{Appends, Completes, last_tokens, value_tokens}
use Rattle.report_logs.proofs.Appending.{begun, more}

pub next : {A : Type 0} (xs : List A) (i : ℕ) (d : A) → i < length xs → drop i xs ≡ get_or xs i d ∷ drop (i + 1) xs
next xs i d h = rw (add-one, drop-cons xs i d)

-- the same by an item that is known to stand there
pub at : {A : Type 0} (xs : List A) (i : ℕ) (x : A) → i < length xs → x ≡ slice_index_or xs i x
    → drop i xs ≡ x ∷ drop (i + 1) xs
at xs i x h is = next xs i x h ∙ ap (λ y. y ∷ drop (i + 1) xs) (sym is)

-- what stands in a list of one item
pub alone : {A : Type 0} (xs : List A) (x y : A) → xs ≡ y ∷ [] → x ≡ slice_index_or xs 0 x → x ≡ y
alone xs x y is there = there ∙ ap (λ l. slice_index_or l 0 x) is

pub only : {A B : Type 0} (f : A → B) (xs : List A) (x : A) (y : B) → map f xs ≡ y ∷ [] → x ≡ slice_index_or xs 0 x
    → f x ≡ y
only f [] x y is there = cc
only f (z ∷ xs) x y is there =
    let first : f z ≡ y = cc in ap f there ∙ first

-- a list of values begins
pub values_begun : {a b : Written} (values : List Data) → Appends a b (begin_array ∷ [])
    → Completes a b (value_tokens (array (items_of values))) (last_tokens values)
values_begun values f = begun f refl

-- a value more
pub value_more : {A : Type 0} {a b c : Written} {all : List Token} (f : A → Data) (xs : List A) (i : ℕ) (d : A)
    → i < length xs → Completes a b all (last_tokens (map f (drop i xs)))
    → Appends b c (value_tokens (f (get_or xs i d))) → Completes a c all (last_tokens (map f (drop (i + 1) xs)))
value_more f xs i d h so_far wrote = more so_far wrote (ap (λ r. last_tokens (map f r)) (next xs i d h))

-- what is told of a finding, by its ways
pub with_ways : (told : Told) (spot : Spot) (region : Region) (function fingerprint : List ℕ) (ways ways' : List WayTold)
    → told ≡ record { spot = spot; region = region; function = function; fingerprint = fingerprint; ways = ways }
    → ways ≡ ways'
    → told ≡ record { spot = spot; region = region; function = function; fingerprint = fingerprint; ways = ways' }
with_ways told spot region function fingerprint ways ways' is own =
    is ∙ ap (λ w. record { spot = spot; region = region; function = function; fingerprint = fingerprint; ways = w }) own

-- a result more
pub result_more : {a b c : Written} {all : List Token} (spots spots' : List Spot) (regions regions' : List Region)
    (functions functions' fingerprints fingerprints' : List (List ℕ)) (shared shared' : List (List WayTold)) (told : Told)
    (spot : Spot) (region : Region) (function fingerprint : List ℕ) (ways : List WayTold) → spots ≡ spot ∷ spots'
    → regions ≡ region ∷ regions' → functions ≡ function ∷ functions' → fingerprints ≡ fingerprint ∷ fingerprints'
    → shared ≡ ways ∷ shared'
    → told ≡ record { spot = spot; region = region; function = function; fingerprint = fingerprint; ways = ways }
    → Completes a b all (last_tokens (map result_data (told_of spots regions functions fingerprints shared)))
    → Appends b c (value_tokens (result_data told))
    → Completes a c all (last_tokens (map result_data (told_of spots' regions' functions' fingerprints' shared')))
result_more spots spots' regions regions' functions functions' fingerprints fingerprints' shared shared' told spot region function fingerprint ways one_spot one_region one_function one_print one_share is so_far wrote =
    let rest : List Token = last_tokens (map result_data (told_of spots' regions' functions' fingerprints' shared')) in
    more so_far wrote
    (ap (λ s. last_tokens (map result_data (told_of s regions functions fingerprints shared))) one_spot
    ∙ ap (λ r. last_tokens (map result_data (told_of (spot ∷ spots') r functions fingerprints shared))) one_region
    ∙ ap (λ f. last_tokens (map result_data (told_of (spot ∷ spots') (region ∷ regions') f fingerprints shared))) one_function
    ∙ ap (λ f. last_tokens (map result_data (told_of (spot ∷ spots') (region ∷ regions') (function ∷ functions') f shared))) one_print
    ∙ ap (λ w. last_tokens (map result_data (told_of (spot ∷ spots') (region ∷ regions') (function ∷ functions') (fingerprint ∷ fingerprints') w))) one_share
    ∙ ap (λ t. value_tokens (result_data t) ++ rest) (sym is))

-- ## How many there are

pub as_many_sights : (findings : List Finding) (spots : List Spot) → length findings ≡ length spots
    → length (sights_of findings spots) ≡ length spots
as_many_sights [] [] same = refl
as_many_sights [] (spot ∷ spots) same = absurd (omega arith)
as_many_sights (finding ∷ findings) [] same = absurd (omega arith)
as_many_sights (finding ∷ findings) (spot ∷ spots) same = ap suc (as_many_sights findings spots (omega arith))

as_many_prints : (before fronts : List (List ℕ)) → length (fingerprints_behind before fronts) ≡ length fronts
as_many_prints before [] = refl
as_many_prints before (front ∷ fronts) = ap suc (as_many_prints (before ++ front ∷ []) fronts)

pub record AsMany (count : ℕ) (regions : List Region) (functions fingerprints : List (List ℕ)) : Type 0 where
  pub of_regions : length regions ≡ count
  pub of_functions : length functions ≡ count
  pub of_fingerprints : length fingerprints ≡ count

pub as_many : (folder text lines : List ℕ) (sights : List Sight) (count : ℕ) (regions : List Region)
    (functions fingerprints : List (List ℕ)) → AreDetails folder text lines sights regions functions fingerprints
    → length sights ≡ count → AsMany count regions functions fingerprints
as_many folder text lines sights count regions functions fingerprints details same =
    record {
      of_regions = ap length details.in_lines ∙ length-map sights _ ∙ same;
      of_functions = ap length details.in_functions ∙ length-map sights _ ∙ same;
      of_fingerprints = ap length details.told_again ∙ as_many_prints [] _ ∙ length-map sights _ ∙ same;
    }

-- each finding is told of once, in their order
pub all_told : (spots : List Spot) (regions : List Region) (functions fingerprints : List (List ℕ))
    (shared : List (List WayTold)) → AsMany (length spots) regions functions fingerprints → length shared ≡ length spots
    → map (λ (told : Told). told.spot) (told_of spots regions functions fingerprints shared) ≡ spots
all_told [] regions functions fingerprints shared many same = refl
all_told (spot ∷ spots) [] functions fingerprints shared many same = let none = many.of_regions in absurd (omega arith)
all_told (spot ∷ spots) (region ∷ regions) [] fingerprints shared many same =
    let none = many.of_functions in absurd (omega arith)
all_told (spot ∷ spots) (region ∷ regions) (function ∷ functions) [] shared many same =
    let none = many.of_fingerprints in absurd (omega arith)
all_told (spot ∷ spots) (region ∷ regions) (function ∷ functions) (fingerprint ∷ fingerprints) [] many same =
    absurd (omega arith)
all_told (spot ∷ spots) (region ∷ regions) (function ∷ functions) (fingerprint ∷ fingerprints) (ways ∷ shared) many same =
    let a = many.of_regions in
    let b = many.of_functions in
    let c = many.of_fingerprints in
    ap (λ rest. spot ∷ rest) (all_told spots regions functions fingerprints shared (record {
      of_regions = omega arith;
      of_functions = omega arith;
      of_fingerprints = omega arith;
    }) (omega arith))

-- all that is told stands at findings, in its order
pub all_ways : (spots : List Spot) (regions : List Region) (functions fingerprints : List (List ℕ)) (counts : List ℕ)
    (ways : List WayTold) → AsMany (length spots) regions functions fingerprints → length counts ≡ length spots
    → sum counts ≡ length ways
    → flat_map (λ (told : Told). told.ways) (told_of spots regions functions fingerprints (cut counts ways)) ≡ ways
all_ways [] regions functions fingerprints [] [] many same whole = refl
all_ways [] regions functions fingerprints [] (way ∷ ways) many same whole = absurd (omega arith)
all_ways [] regions functions fingerprints (count ∷ counts) ways many same whole = absurd (omega arith)
all_ways (spot ∷ spots) [] functions fingerprints counts ways many same whole =
    let none = many.of_regions in absurd (omega arith)
all_ways (spot ∷ spots) (region ∷ regions) [] fingerprints counts ways many same whole =
    let none = many.of_functions in absurd (omega arith)
all_ways (spot ∷ spots) (region ∷ regions) (function ∷ functions) [] counts ways many same whole =
    let none = many.of_fingerprints in absurd (omega arith)
all_ways (spot ∷ spots) (region ∷ regions) (function ∷ functions) (fingerprint ∷ fingerprints) [] ways many same whole =
    absurd (omega arith)
all_ways (spot ∷ spots) (region ∷ regions) (function ∷ functions) (fingerprint ∷ fingerprints) (count ∷ counts) ways many same whole =
    let a = many.of_regions in
    let b = many.of_functions in
    let c = many.of_fingerprints in
    let left = length-drop count ways in
    let first : sum (count ∷ counts) ≡ count + sum counts = sum_by-cons (λ x. x) count counts in
    ap (λ rest. take count ways ++ rest) (all_ways spots regions functions fingerprints counts (drop count ways) (record {
      of_regions = omega arith;
      of_functions = omega arith;
      of_fingerprints = omega arith;
    }) (omega arith) (omega arith))
    ∙ take-append-drop count ways

-- the findings that have places are as many as their places
placed_before : (origins : List Origin) (finding : Finding) (rest : Option (List Spot)) (first : Option Spot)
    (count : ℕ) → ((spots : List Spot) → rest ≡ Some spots → length spots ≡ count)
    → (spots : List Spot) → before first rest ≡ Some spots → length spots ≡ suc count
placed_before origins finding None (Some spot) count shorter spots is = cc
placed_before origins finding (Some rest) (Some spot) count shorter spots is =
    let same : spots ≡ spot ∷ rest = cc in ap length same ∙ ap suc (shorter rest refl)
placed_before origins finding rest None count shorter spots is = cc

pub as_many_spots : (origins : List Origin) (findings : List Finding) (spots : List Spot)
    → spots_of origins findings ≡ Some spots → length spots ≡ length findings
as_many_spots origins [] spots is = let same : spots ≡ [] = cc in ap length same
as_many_spots origins (finding ∷ findings) spots is =
    placed_before origins finding (spots_of origins findings) (spot_of origins finding) (length findings)
    (as_many_spots origins findings) spots is

-- how many spots, and what is told of them
spots_many : (origins : List Origin) (findings : List Finding) (spots : List Spot)
    → spots_of origins findings ≡ Some spots → length (sights_of findings spots) ≡ length spots
spots_many origins findings spots placed =
    as_many_sights findings spots (sym (as_many_spots origins findings spots placed))

pub as_many_shares : (findings : List Finding) (ways : List Way) → length (shares findings ways) ≡ length findings
as_many_shares [] ways = refl
as_many_shares (finding ∷ findings) ways = ap suc (as_many_shares findings (drop (leading finding ways) ways))

pub as_many_cut : {A : Type 0} (counts : List ℕ) (items : List A) → length (cut counts items) ≡ length counts
as_many_cut [] items = refl
as_many_cut (count ∷ counts) items = ap suc (as_many_cut counts (drop count items))

pub as_many_ways : (ways : List Way) (sites : List Spot) (regions : List Region) → length sites ≡ length ways
    → length regions ≡ length ways → length (ways_told ways sites regions) ≡ length ways
as_many_ways [] sites regions same many = refl
as_many_ways (way ∷ ways) [] regions same many = absurd (omega arith)
as_many_ways (way ∷ ways) (site ∷ sites) [] same many = absurd (omega arith)
as_many_ways (way ∷ ways) (site ∷ sites) (region ∷ regions) same many =
    ap suc (as_many_ways ways sites regions (omega arith) (omega arith))

-- what is told stands at as many places
pub as_many_sites : (origins : List Origin) (ways : List Way) (sites : List Spot)
    → spots_of origins (map site_of ways) ≡ Some sites → length sites ≡ length ways
as_many_sites origins ways sites sited = as_many_spots origins (map site_of ways) sites sited ∙ length-map ways site_of

pub as_many_told_at : (text lines : List ℕ) (ways : List Way) (sites : List Spot) → length sites ≡ length ways
    → length (told_at text lines ways sites) ≡ length ways
as_many_told_at text lines ways sites same =
    let sighted = as_many_sights (map site_of ways) sites (length-map ways site_of ∙ sym same) in
    as_many_ways ways sites (map (region_of text lines) (sights_of (map site_of ways) sites)) same
    (length-map (sights_of (map site_of ways) sites) _ ∙ sighted ∙ same)

-- the regions of places at which something is told
pub as_many_regions : (text lines : List ℕ) (ways : List Way) (found : List Finding) (sites : List Spot)
    (sights : List Sight) (regions : List Region) → found ≡ map site_of ways → sights ≡ sights_of found sites
    → regions ≡ map (region_of text lines) sights → length found ≡ length sites → length regions ≡ length ways
as_many_regions text lines ways found sites sights regions f s r same =
    ap length r ∙ length-map sights _ ∙ ap length s ∙ as_many_sights found sites same ∙ sym same ∙ ap length f
    ∙ length-map ways site_of

pub told_whole : AllTold
told_whole documents folder name text lines log origins findings ways logged =
    let many = spots_many origins findings logged.spots logged.placed in
    all_told logged.spots logged.written.regions logged.written.functions logged.written.fingerprints
    (cut (shares findings ways) (ways_told ways logged.sites logged.written.site_regions))
    (as_many (decoded folder) text lines (sights_of findings logged.spots) (length logged.spots) logged.written.regions
    logged.written.functions logged.written.fingerprints logged.written.details many)
    (as_many_cut (shares findings ways) (ways_told ways logged.sites logged.written.site_regions)
    ∙ as_many_shares findings ways ∙ sym (as_many_spots origins findings logged.spots logged.placed))

pub ways_whole : AllWaysTold
ways_whole documents folder name text lines log origins findings ways logged all =
    let many = spots_many origins findings logged.spots logged.placed in
    let told = ways_told ways logged.sites logged.written.site_regions in
    let long : length told ≡ length ways =
    ap (λ r. length (ways_told ways logged.sites r)) logged.written.in_lines
    ∙ as_many_told_at text lines ways logged.sites (as_many_sites origins ways logged.sites logged.sited) in
    all_ways logged.spots logged.written.regions logged.written.functions logged.written.fingerprints
    (shares findings ways) told
    (as_many (decoded folder) text lines (sights_of findings logged.spots) (length logged.spots) logged.written.regions
    logged.written.functions logged.written.fingerprints logged.written.details many)
    (as_many_shares findings ways ∙ sym (as_many_spots origins findings logged.spots logged.placed)) (all ∙ sym long)

-- one place more is asked about
pub sights_more : (findings : List Finding) (spots : List Spot) (i : ℕ) (finding : Finding) (spot : Spot)
    (whole done done' : List Sight) (sight : Sight) → drop i findings ≡ finding ∷ drop (i + 1) findings
    → drop i spots ≡ spot ∷ drop (i + 1) spots → whole ≡ done ++ sights_of (drop i findings) (drop i spots)
    → sight ≡ sight_of finding spot → done' ≡ done ++ sight ∷ []
    → whole ≡ done' ++ sights_of (drop (i + 1) findings) (drop (i + 1) spots)
sights_more findings spots i finding spot whole done done' sight one_finding one_spot so_far is pushed =
    let rest : List Sight = sights_of (drop (i + 1) findings) (drop (i + 1) spots) in
    so_far ∙ ap (λ f. done ++ sights_of f (drop i spots)) one_finding
    ∙ ap (λ s. done ++ sights_of (finding ∷ drop (i + 1) findings) s) one_spot
    ∙ ap (λ s. done ++ (s ∷ rest)) (sym is)
    ∙ sym (append_assoc done (sight ∷ []) rest)
    ∙ ap (λ t. t ++ rest) (sym pushed)

-- an item of a list, as what it is seen as
pub item_at : {A B : Type 0} (f : A → B) (xs : List A) (i : ℕ) (d : A) → i < length xs
    → drop i (map f xs) ≡ f (get_or xs i d) ∷ drop (i + 1) (map f xs)
item_at f xs i d h =
    drop-map f i xs ∙ ap (map f) (next xs i d h)
    ∙ ap (λ rest. f (get_or xs i d) ∷ rest) (sym (drop-map f (i + 1) xs))

-- what is told of the findings in their files is told of each
pub as_many_told : (folder text lines : List ℕ) (findings : List Finding) (spots : List SpotCode) (sights : List Sight)
    (regions : List Region) (functions : List (Bor (List ℕ))) (fingerprints : List (String Global))
    → AreDetails folder text lines sights regions (map bytes_seen functions) (map string_bytes fingerprints)
    → sights ≡ sights_of findings (map spot_seen spots) → length findings ≡ length spots
    → AreAsMany (length spots) regions functions fingerprints
as_many_told folder text lines findings spots sights regions functions fingerprints details same as_long =
    let long : length findings ≡ length (map spot_seen spots) = as_long ∙ sym (length-map spots spot_seen) in
    let sighted : length sights ≡ length spots =
    ap length same ∙ as_many_sights findings (map spot_seen spots) long ∙ length-map spots spot_seen in
    let many = as_many folder text lines sights (length spots) regions (map bytes_seen functions)
    (map string_bytes fingerprints) details sighted in
    record {
      of_regions = many.of_regions;
      of_functions = sym (length-map functions bytes_seen) ∙ many.of_functions;
      of_fingerprints = sym (length-map fingerprints string_bytes) ∙ many.of_fingerprints;
    }
