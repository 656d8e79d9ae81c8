-- The tasks of edges, each once, the flaws of an object and the alarms of a report that are not races, one after the
-- other.
use Rattle.std.proofs.Common.{◌≡◌, refl, sym, ap, ◌∙◌, ℕ, zero, suc, ◌+◌, ◌<◌, ◌≤◌, Bool, true, false, cond, List, []}
use Rattle.std.proofs.Common.{◌∷◌, ◌++◌, length, take, get_or, arith}
use Rattle.std.proofs.lemmas.List.{take_more}
use Rattle.std.proofs.lemmas.List.Elements.{filter_more}
use Rattle.std.specs.List.{filter}
use Rattle.tm_terms.specs.declared.alarms.Alarm.{Alarm}
use Rattle.alarm_contexts.specs.declared.alarm_context.ContextEdge.{ContextEdge}
use Rattle.notes_json.specs.Pieces.{comma_before, listed}
use Rattle.notes_json.specs.reading.Marks.{has_some}
use Rattle.notes_json.proofs.Listed.{passing_more, next_if, others_then}
use Rattle.program_notes.specs.Edges.{is_first}
use Rattle.program_notes.specs.ContextTexts.{task_at, firsts_below, tasks_text}
use Rattle.program_notes.specs.AlarmTexts.{is_race, other_alarms}
use Rattle.program_notes.specs.reading.Choices.{task_if}

-- what is told of the numbers below the next one
pub next_of : {B : Type 0} (f : ℕ → B) (n : ℕ) → f (suc n) ≡ f (n + 1)
next_of f n = (let e : suc n ≡ n + 1 = omega arith in ap f e)

-- ## Tasks

-- the first edge of all is the first of its task
comma_of : (edges : List ContextEdge) (n : ℕ)
    → comma_before n ≡ cond (has_some (firsts_below edges n)) (44 ∷ []) []
comma_of edges zero = refl
comma_of edges (suc n) = refl

pub next_task : (edges : List ContextEdge) (n : ℕ) (o : List ℕ) {p q : List ℕ}
    → p ≡ o ++ listed (task_at edges) (firsts_below edges n) → q ≡ p ++ task_if edges n
    → q ≡ o ++ listed (task_at edges) (firsts_below edges (n + 1))
next_task edges n o {p = p} i j =
    let is = is_first edges n in
    next_if 44 (task_at edges) (firsts_below edges n) (firsts_below edges (n + 1)) n is
    (has_some (firsts_below edges n)) o (passing_more (is_first edges) n) refl i
    (j ∙ ap (λ z. p ++ cond is (z ++ task_at edges n) []) (comma_of edges n))

pub all_tasks : (edges : List ContextEdge) (n : ℕ) (o : List ℕ) {p : List ℕ} → n ≤ length edges → length edges ≤ n
    → p ≡ o ++ listed (task_at edges) (firsts_below edges n) → p ≡ o ++ tasks_text edges
all_tasks edges n o le ge i =
    let e : n ≡ length edges = omega (arith, le, ge) in
    i ∙ ap (λ k. o ++ listed (task_at edges) (firsts_below edges k)) e

-- ## Flaws

-- where there is one of the first, there is one of the next
pub others_stay : {A : Type 0} (p : A → Bool) (xs : List A) (n : ℕ) (others after : Bool) → n < length xs
    → others ≡ has_some (filter p (take n xs)) → others ≡ true → after ≡ true
    → after ≡ has_some (filter p (take (n + 1) xs))
others_stay p [] n others after lt h i j = absurd (omega (arith, lt))
others_stay p (x ∷ xs) n others after lt h i j =
    let y = get_or (x ∷ xs) n x in
    others_then (filter p (take n (x ∷ xs))) (filter p (take (n + 1) (x ∷ xs))) y (p y) others after
    (filter_more p (x ∷ xs) n x lt) h i j

-- ## Alarms

without : (a : Alarm) (is : Bool) → length (cond is [] (a ∷ [])) ≡ cond is 0 1
without a true = refl
without a false = refl

behind : (x : Alarm) (one more : List Alarm) (is : Bool) (k : ℕ) → length more ≡ length one + k
    → length (cond is more (x ∷ more)) ≡ length (cond is one (x ∷ one)) + k
behind x one more true k e = e
behind x one more false k e = omega (arith, e)

others_behind : (report : List Alarm) (a : Alarm)
    → length (other_alarms (report ++ a ∷ [])) ≡ length (other_alarms report) + cond (is_race a) 0 1
others_behind [] a = without a (is_race a) ∙ omega arith
others_behind (x ∷ report) a =
    behind x (other_alarms report) (other_alarms (report ++ a ∷ [])) (is_race x) (cond (is_race a) 0 1)
    (others_behind report a)

-- how many of the first alarms are not races
pub next_other : (report : List Alarm) (n : ℕ) (d : Alarm) (next more after : ℕ) → n < length report
    → next ≡ length (other_alarms (take n report)) → more ≡ cond (is_race (get_or report n d)) 0 1
    → after ≡ next + more → after ≡ length (other_alarms (take (n + 1) report))
next_other report n d next more after lt i j k =
    k ∙ ap (λ m. m + more) i ∙ ap (λ m. length (other_alarms (take n report)) + m) j
    ∙ sym (others_behind (take n report) (get_or report n d))
    ∙ ap (λ list. length (other_alarms list)) (sym (take_more report n d lt))
