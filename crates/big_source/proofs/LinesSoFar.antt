-- What is written after one more function, and after one more number for a task.
use Rattle.std.proofs.Common.{◌≡◌, ℕ, Bool, ◌+◌, ◌%◌, ◌==◌, List, [], ◌∷◌, ◌++◌, zero, suc, refl, ap, sym, ◌∙◌, arith, add-zero, append_assoc, append-nil, cond, true, false}
use Rattle.std.specs.List.{flat_map, filter, range_with_len}
use Rattle.std.proofs.lemmas.Bool.Decides.{Decides-eqb}
use Rattle.std.proofs.lemmas.Grind.{flat_map-append}
use Rattle.std.proofs.lemmas.List.Elements.{filter-append}
use Rattle.big_source.specs.GeneratedSources.{call_text, calls_text, function_line, numbers_below, task_line}

range_more : (a n : ℕ) → range_with_len a (n + 1) ≡ range_with_len a n ++ (a + n) ∷ []
range_more a zero = rw add-zero refl
range_more a (suc n) =
    let e : a + suc n ≡ (a + 1) + n = omega arith in
    let f : suc n + 1 ≡ suc (n + 1) = omega arith in
    rw (f, e) (ap (λ xs. a ∷ xs) (range_more (a + 1) n))

numbers_more : (n : ℕ) → numbers_below (n + 1) ≡ numbers_below n ++ n ∷ []
numbers_more n = let e : 0 + n ≡ n = omega arith in range_more 0 n ∙ ap (λ m. range_with_len 0 n ++ m ∷ []) e

more : (f : ℕ → List ℕ) (n : ℕ) → flat_map f (numbers_below (n + 1)) ≡ flat_map f (numbers_below n) ++ f n
more f n =
    ap (flat_map f) (numbers_more n) ∙ flat_map-append f (numbers_below n) (n ∷ [])
    ∙ ap (λ last. flat_map f (numbers_below n) ++ last) (append-nil (f n))

-- a text that grows by one more line
grown : (start old new so_far line all : List ℕ) → old ≡ start ++ so_far → new ≡ old ++ line → all ≡ so_far ++ line
    → new ≡ start ++ all
grown start old new so_far line all before now whole =
    now ∙ ap (λ text. text ++ line) before ∙ append_assoc start so_far line ∙ ap (λ text. start ++ text) (sym whole)

pub one_more_function : (start old new : List ℕ) (k : ℕ) → old ≡ start ++ flat_map function_line (numbers_below k)
    → new ≡ old ++ function_line k → new ≡ start ++ flat_map function_line (numbers_below (k + 1))
one_more_function start old new k before now = grown start old new _ _ _ before now (more function_line k)

pub one_more_task : (start old new : List ℕ) (n j : ℕ) → old ≡ start ++ flat_map (task_line n) (numbers_below j)
    → new ≡ old ++ task_line n j → new ≡ start ++ flat_map (task_line n) (numbers_below (j + 1))
one_more_task start old new n j before now = grown start old new _ _ _ before now (more (task_line n) j)

-- the call of the function of a number, where it is the task's
abbrev call_if : ℕ → ℕ → List ℕ
call_if k j = cond (k % 4 == j) (call_text k) []

kept : (b : Bool) (k : ℕ) → flat_map call_text (cond b (k ∷ []) []) ≡ cond b (call_text k) []
kept true k = append-nil (call_text k)
kept false k = refl

calls_more : (k j : ℕ) → calls_text (k + 1) j ≡ calls_text k j ++ call_if k j
calls_more k j =
    ap (λ ks. flat_map call_text (filter (λ k. k % 4 == j) ks)) (numbers_more k)
    ∙ ap (flat_map call_text) (filter-append (λ k. k % 4 == j) (numbers_below k) (k ∷ []))
    ∙ flat_map-append call_text _ _
    ∙ ap (λ last. calls_text k j ++ last) (kept (k % 4 == j) k)

kept_none : (b : Bool) (text : List ℕ) → (b ≡ true → ⊥) → cond b text [] ≡ []
kept_none true text never = absurd (never refl)
kept_none false text never = refl

pub one_more_call : (start old new : List ℕ) (k j : ℕ) → old ≡ start ++ calls_text k j → k % 4 ≡ j
    → new ≡ old ++ call_text k → new ≡ start ++ calls_text (k + 1) j
one_more_call start old new k j before here now =
    grown start old new (calls_text k j) (call_text k) _ before now
    (calls_more k j ∙ ap (λ b. calls_text k j ++ cond b (call_text k) []) ((Decides-eqb (k % 4) j).1 here))

pub no_more_call : (start old : List ℕ) (k j : ℕ) → old ≡ start ++ calls_text k j → (k % 4 ≡ j → ⊥)
    → old ≡ start ++ calls_text (k + 1) j
no_more_call start old k j before elsewhere =
    grown start old old (calls_text k j) [] _ before (sym (append-nil old))
    (calls_more k j
    ∙ ap (λ last. calls_text k j ++ last) (kept_none (k % 4 == j) (call_text k) (λ e. elsewhere ((Decides-eqb (k % 4) j).0 e))))

pub in_parts : (start shared functions tasks one two three : List ℕ) → one ≡ start ++ shared → two ≡ one ++ functions
    → three ≡ two ++ tasks → three ≡ start ++ (shared ++ (functions ++ tasks))
in_parts start shared functions tasks one two three first second third =
    third ∙ ap (λ text. text ++ tasks) (second ∙ ap (λ text. text ++ functions) first) ∙ simp append_assoc
