-- Sums that stop above a limit compare with it as the whole counts do.
use Rattle.std.proofs.Common.{◌≡◌, refl, ap, sym, ◌∙◌, ℕ, ◌+◌, ◌<◌, inl, inr, ◌≤◌, min, Bool, true, false, cond, List, [], ◌∷◌, length, map, drop, get_or, arith, None}
use Rattle.std.specs.Prelude.{nat_lt}
use Rattle.std.proofs.lemmas.Bool.{cases_lt, ltb-false, lt-ltb, le-ltb}
use Rattle.std.proofs.lemmas.List.Elements.{All-contains}
use Rattle.tm_terms.specs.declared.refusals.Limit.{Limit}
use Rattle.tm_terms.specs.declared.refusals.Limit.TheVariants as Limits
use Rattle.tm_typed.specs.declared.files.LocalEntry.{LocalEntry}
use Rattle.tm_typed.specs.declared.files.TypedStatic.{TypedStatic}
use Rattle.tm_typed.specs.TypedFiles.{typed_static_tree}
use Rattle.tm_typed.specs.States.{Static}
use Rattle.tm_typed.specs.Files.{TypedFileTree}
use Rattle.tm_laid.specs.declared.scales.Scale.{Scale}
use Rattle.tm_laid.specs.declared.scales.Scale.TheVariants as Scales
use Rattle.tm_laid.specs.CallTrees.{CallTree, a_call_of, CallTrees, no_calls, and_call, weight, weights, one}
use Rattle.tm_laid.specs.Paths.{tree_of, bodies_of, body_trees, locals_of}
use Rattle.tm_laid.specs.TypeCells.{cells_of_type, abstract_cells_of_type}
use Rattle.tm_laid.specs.Objects.{local_objects, static_objects}
use Rattle.tm_laid.specs.Layouts.{summed_types, own_cells, over_objects, laid_count, is_exceeded}
use Rattle.tm_laid.specs.Layable.{IsLayable}
use Rattle.tm_laid.specs.Scales.{large_number, number_on}
use Rattle.cell_layout.specs.reading.Counts.{beyond_number, column_of, of_locals, static_column, of_statics, own_by, total_of, total_in, sum_of, counted_by, AreTotals}
use Rattle.cell_layout.specs.reading.Limits.{IsPathLimit, IsAllWithin}
use Rattle.tm_laid.proofs.Columns.{cells_counted, abstracts_counted}
use Rattle.cell_layout.proofs.StaticSteps.{statics_open}
use Rattle.cell_layout.proofs.Totals.{weights_sum, capped_sums}

capped : (m a b c d : ℕ) → min m a ≡ min m c → min m b ≡ min m d → min m (a + b) ≡ min m (c + d)
capped m a b c d e f = omega (arith, e, f)

mutual
  same_weight : (m : ℕ) (w v : ℕ → ℕ) → ((f : ℕ) → min m (w f) ≡ min m (v f)) → (t : CallTree) → min m (weight w t) ≡ min m (weight v t)
  same_weight m w v h (a_call_of f ts) = capped m (w f) (weights w ts) (v f) (weights v ts) (h f) (same_weights m w v h ts)

  same_weights : (m : ℕ) (w v : ℕ → ℕ) → ((f : ℕ) → min m (w f) ≡ min m (v f)) → (ts : CallTrees) → min m (weights w ts) ≡ min m (weights v ts)
  same_weights m w v h no_calls = refl
  same_weights m w v h (and_call t ts) = capped m (weight w t) (weights w ts) (weight v t) (weights v ts) (same_weight m w v h t) (same_weights m w v h ts)

locals_counted : (file : TypedFileTree) (l : Limit) (m : ℕ) (count : ℕ → ℕ) → ((n : ℕ) → min m (column_of file l n) ≡ min m (count n)) → (p : ℕ) (ls : List LocalEntry)
    → min m (of_locals file l ls) ≡ min m (summed_types count (local_objects p ls))
locals_counted file l m count h p [] = refl
locals_counted file l m count h p (x ∷ xs) =
    capped m (column_of file l x.of.number) (of_locals file l xs) (count x.of.number) (summed_types count (local_objects p xs)) (h x.of.number) (locals_counted file l m count h p xs)

static_counted : (file : TypedFileTree) (l : Limit) (m : ℕ) (count : ℕ → ℕ) → ((n : ℕ) → min m (column_of file l n) ≡ min m (count n)) → (s : Static) (ss : List Static)
    → min m (of_statics file l ss) ≡ min m (summed_types count (static_objects ss)) → (b : Bool) → min m (cond b (column_of file l s.of.number) 0 + of_statics file l ss)
    ≡ min m (summed_types count (cond b (record { name = s.name; place = s.place; of = s.of; owner = None } ∷ static_objects ss) (static_objects ss)))
static_counted file l m count h s ss rest true = capped m (column_of file l s.of.number) (of_statics file l ss) (count s.of.number) (summed_types count (static_objects ss)) (h s.of.number) rest
static_counted file l m count h s ss rest false = omega (arith, rest)

statics_counted : (file : TypedFileTree) (l : Limit) (m : ℕ) (count : ℕ → ℕ) → ((n : ℕ) → min m (column_of file l n) ≡ min m (count n)) → (ss : List Static)
    → min m (of_statics file l ss) ≡ min m (summed_types count (static_objects ss))
statics_counted file l m count h [] = refl
statics_counted file l m count h (s ∷ ss) = static_counted file l m count h s ss (statics_counted file l m count h ss) s.defined

all_weights : (file : TypedFileTree) (l : Limit) → sum_of (total_of file l) (bodies_of file) ≡ weights (own_by file l) (body_trees file)
unfolding total_of
all_weights file l = sym (weights_sum (own_by file l) (tree_of file) (bodies_of file))

over : (file : TypedFileTree) (l : Limit) (m : ℕ) (count : ℕ → ℕ) → ((n : ℕ) → min m (column_of file l n) ≡ min m (count n)) → ((f : ℕ) → own_by file l f ≡ of_locals file l (locals_of file f))
    → min m (counted_by file l) ≡ min m (over_objects file count)
over file l m count h own =
    ap (λ n. min m (of_statics file l file.statics + n)) (all_weights file l)
    ∙ capped m (of_statics file l file.statics) (weights (own_by file l) (body_trees file)) (summed_types count (static_objects file.statics)) (weights (own_cells file count) (body_trees file))
    (statics_counted file l m count h file.statics)
    (same_weights m (own_by file l) (own_cells file count) (λ f. ap (min m) (own f) ∙ locals_counted file l m count h 0 (locals_of file f)) (body_trees file))

no_static : (b : Bool) (n : ℕ) → n ≡ 0 → cond b 0 0 + n ≡ 0
no_static true n e = omega (arith, e)
no_static false n e = omega (arith, e)

no_statics : (file : TypedFileTree) (ss : List Static) → of_statics file Limits.Paths ss ≡ 0
unfolding column_of
no_statics file [] = refl
no_statics file (s ∷ ss) = no_static s.defined (of_statics file Limits.Paths ss) (no_statics file ss)

-- what is counted by the columns is what is laid out
pub counted : (file : TypedFileTree) (order : List ℕ) (l : Limit) → IsLayable file order → IsPathLimit l → min (beyond_number l) (counted_by file l) ≡ min (beyond_number l) (laid_count file l)
unfolding laid_count own_by column_of
counted file order Limits.Paths h p =
    ap (λ n. min 65537 (n + sum_of (total_of file Limits.Paths) (bodies_of file))) (no_statics file file.statics)
    ∙ ap (λ n. min 65537 (0 + n)) (all_weights file Limits.Paths)
    ∙ (let z : 0 + weights (own_by file Limits.Paths) (body_trees file) ≡ weights (own_by file Limits.Paths) (body_trees file) = omega arith in ap (min 65537) z)
    ∙ same_weights 65537 (own_by file Limits.Paths) one (λ f. refl) (body_trees file)
counted file order Limits.Cells h p =
    over file Limits.Cells 65537 (cells_of_type file) (λ n. let e = cells_counted file order h n in omega (arith, e)) (λ f. refl)
counted file order Limits.Abstract h p =
    over file Limits.Abstract 65537 (abstract_cells_of_type file) (λ n. let e = abstracts_counted file order h n in omega (arith, e)) (λ f. refl)
counted file order _ h p = absurd p

lt_capped : (k m x r : ℕ) → k ≤ m → r ≡ min (m + 1) x → nat_lt k r ≡ nat_lt k x
lt_capped k m x r le e = elim (cases_lt k x) [
  | inl lt ↦ lt-ltb k r (omega (arith, le, e, lt)) ∙ sym (lt-ltb k x lt)
  | inr ge ↦ le-ltb k r (omega (arith, le, e, ge)) ∙ sym (le-ltb k x ge)
]

-- what is counted on call paths stops one above its limit
beyond_is : (l : Limit) → IsPathLimit l → beyond_number l ≡ large_number l + 1
beyond_is Limits.Paths p = refl
beyond_is Limits.Cells p = refl
beyond_is Limits.Abstract p = refl
beyond_is Limits.Source p = absurd p
beyond_is Limits.Tokens p = absurd p
beyond_is Limits.Tasks p = absurd p
beyond_is Limits.Mutexes p = absurd p
beyond_is Limits.Nodes p = absurd p
beyond_is Limits.Work p = absurd p

-- no limit is greater than on the large scale
pub not_above : (scale : Scale) (l : Limit) → number_on scale l ≤ large_number l
not_above Scales.Usual Limits.Source = omega arith
not_above Scales.Usual Limits.Tokens = omega arith
not_above Scales.Usual Limits.Tasks = omega arith
not_above Scales.Usual Limits.Mutexes = omega arith
not_above Scales.Usual Limits.Paths = omega arith
not_above Scales.Usual Limits.Cells = omega arith
not_above Scales.Usual Limits.Abstract = omega arith
not_above Scales.Usual Limits.Nodes = omega arith
not_above Scales.Usual Limits.Work = omega arith
not_above Scales.Large l = omega arith

-- what is not exceeded on a scale is not on the large one
pub within_large : (scale : Scale) (file : TypedFileTree) (l : Limit) → is_exceeded scale file l ≡ false → is_exceeded Scales.Large file l ≡ false
within_large scale file l e =
    let a = ltb-false (number_on scale l) (laid_count file l) e in
    let b = not_above scale l in
    le-ltb (large_number l) (laid_count file l) (omega (arith, a, b))

-- a file within the limits of a scale is within those of the large one
pub all_within_large : (scale : Scale) (file : TypedFileTree) → IsAllWithin scale file → IsAllWithin Scales.Large file
all_within_large scale file w = record {
  tasks = within_large scale file Limits.Tasks w.tasks;
  mutexes = within_large scale file Limits.Mutexes w.mutexes;
  paths = within_large scale file Limits.Paths w.paths;
  cells = within_large scale file Limits.Cells w.cells;
  abstract_cells = within_large scale file Limits.Abstract w.abstract_cells;
}

-- the test of a limit
pub tested : (scale : Scale) (file : TypedFileTree) (order : List ℕ) (l : Limit) (totals bodies : List ℕ) (r : ℕ) → IsLayable file order → IsPathLimit l → AreTotals file l totals → bodies ≡ bodies_of file
    → r ≡ min (beyond_number l) (of_statics file l file.statics + sum_of (total_in totals) bodies) → nat_lt (number_on scale l) r ≡ is_exceeded scale file l
tested scale file order l totals bodies r h p found e is =
    lt_capped (number_on scale l) (large_number l) (laid_count file l) r (not_above scale l)
    (is ∙ ap (λ bs. min (beyond_number l) (of_statics file l file.statics + sum_of (total_in totals) bs)) e
    ∙ capped_sums (beyond_number l) (of_statics file l file.statics) 0 0 (total_in totals) (total_of file l) (bodies_of file)
    (λ f c. found f (All-contains (λ g. g < length file.functions) (bodies_of file) f h.bodies c))
    ∙ counted file order l h p ∙ ap (λ n. min n (laid_count file l)) (beyond_is l p))

-- one more object of static storage is counted
pub static_more : (file : TypedFileTree) (l : Limit) (objects : List TypedStatic) (i : ℕ) (object : TypedStatic) (sum one r : ℕ) → i < length objects → object ≡ get_or objects i object
    → one ≡ static_column file l (typed_static_tree object) → r ≡ min (beyond_number l) (sum + one)
    → min (beyond_number l) (r + of_statics file l (drop (i + 1) (map typed_static_tree objects))) ≡ min (beyond_number l) (sum + of_statics file l (drop i (map typed_static_tree objects)))
static_more file l objects i object sum one r lt is e f =
    let m : ℕ = beyond_number l in
    let rest : ℕ = of_statics file l (drop (i + 1) (map typed_static_tree objects)) in
    let opened : of_statics file l (drop i (map typed_static_tree objects)) ≡ one + rest = ap (of_statics file l) (statics_open objects i object lt is) ∙ ap (λ n. n + rest) (sym e) in
    summed m r rest sum one f ∙ ap (λ n. min m (sum + n)) (sym opened)
  where
    summed : (m r rest sum one : ℕ) → r ≡ min m (sum + one) → min m (r + rest) ≡ min m (sum + (one + rest))
    summed m r rest sum one e = omega (arith, e)

-- a count within its limit is exact
pub exact_count : (file : TypedFileTree) (order : List ℕ) (l : Limit) (totals bodies : List ℕ) (r : ℕ) → IsLayable file order → IsPathLimit l → AreTotals file l totals → bodies ≡ bodies_of file
    → is_exceeded Scales.Large file l ≡ false → r ≡ min (beyond_number l) (of_statics file l file.statics + sum_of (total_in totals) bodies) → r ≡ laid_count file l
exact_count file order l totals bodies r h p found e within is =
    let a = ltb-false (large_number l) (laid_count file l) within in
    let b =
    is ∙ ap (λ bs. min (beyond_number l) (of_statics file l file.statics + sum_of (total_in totals) bs)) e
    ∙ capped_sums (beyond_number l) (of_statics file l file.statics) 0 0 (total_in totals) (total_of file l) (bodies_of file)
    (λ f c. found f (All-contains (λ g. g < length file.functions) (bodies_of file) f h.bodies c))
    ∙ counted file order l h p ∙ ap (λ n. min n (laid_count file l)) (beyond_is l p) in
    b ∙ (let z : min (large_number l + 1) (laid_count file l) ≡ laid_count file l = omega (arith, a) in z)
