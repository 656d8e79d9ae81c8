-- A file has one answer.
use Rattle.std.proofs.Common.{◌≡◌, ℕ, ◌<◌, List, [], ◌∷◌, ◌++◌, ◌⊎◌, inl, inr, length, get_or, refl, sym, ap, subst, ◌∙◌, arith}
use Rattle.std.specs.Prelude.{All, Option, Some, None, Result, Ok, Err}
use Rattle.std.proofs.lemmas.Bool.{cases_order}
use Rattle.std.proofs.lemmas.List.{get_or_at, get_or_append_left}
use Rattle.tm_typed.specs.tm_terms.declared.places.Place.{Place}
use Rattle.tm_typed.specs.tm_terms.declared.tokens.Name.{Name}
use Rattle.tm_typed.specs.tm_terms.declared.refusals.Kind.TheVariants as Kinds
use Rattle.tm_typed.specs.tm_terms.declared.refusals.Refusal.{Refusal}
use Rattle.tm_typed.specs.tm_trees.FileTrees.{ItemTree}
use Rattle.tm_typed.specs.Refusals.{refused}
use Rattle.tm_typed.specs.CallGraph.{Reaches, IsFirstRecursive, calls_in}
use Rattle.tm_typed.specs.Files.{FileState, TypedFileTree, typed_function, undefined_use, Closes, Ends, IsTyped, items_in, first_file_state}

-- where the first one that reaches itself stands
stands_at : (calls : ℕ → List ℕ) (fs : List ℕ) (f : ℕ) (h : IsFirstRecursive calls fs f) → get_or fs (length h.before) 0 ≡ f
stands_at calls fs f h = ap (λ (xs : List ℕ). get_or xs (length h.before) 0) h.stands ∙ get_or_at h.before f h.after 0 (length h.before) refl

not_before : (calls : ℕ → List ℕ) (fs : List ℕ) (f g : ℕ) (h : IsFirstRecursive calls fs f) (i : IsFirstRecursive calls fs g) → length h.before < length i.before → ⊥
not_before calls fs f g h i l =
    let n : ℕ = length h.before in
    let same : get_or i.before n 0 ≡ f =
    sym (get_or_append_left i.before (g ∷ i.after) 0 n l) ∙ ap (λ (xs : List ℕ). get_or xs n 0) (sym i.stands) ∙ stands_at calls fs f h in
    let P : ℕ → Type 0 = λ x. Reaches calls x x in
    i.none_before n 0 l (subst P (sym same) h.recursive)

first_once : (calls : ℕ → List ℕ) (fs : List ℕ) (f g : ℕ) → IsFirstRecursive calls fs f → IsFirstRecursive calls fs g → f ≡ g
first_once calls fs f g h i =
    elim (cases_order (length h.before) (length i.before)) [
      | inl e ↦ sym (stands_at calls fs f h) ∙ ap (λ (n : ℕ). get_or fs n 0) e ∙ stands_at calls fs g i
      | inr o ↦ elim o [ inl l ↦ absurd (not_before calls fs f g h i l) | inr l ↦ absurd (not_before calls fs g f i h l) ]
    ]

recursive_at : FileState → ℕ → Result TypedFileTree Refusal
recursive_at f k = refused Kinds.Recursive (typed_function f k).place

closes_once : (f : FileState) (main : Option Name) (found : Option Place) (a b : Result TypedFileTree Refusal) → Closes f main found a → Closes f main found b → a ≡ b
unfolding recursive_at
closes_once f main (Some p) a b x y = x ∙ sym y
closes_once f main None a b (inl x) (inl y) = x.answered ∙ ap (recursive_at f) (first_once (calls_in f.calls) f.definitions x.function y.function x.first y.first) ∙ sym y.answered
closes_once f main None a b (inl x) (inr y) = absurd (y.acyclic x.function x.first.recursive)
closes_once f main None a b (inr x) (inl y) = absurd (x.acyclic y.function y.first.recursive)
closes_once f main None a b (inr x) (inr y) = x.answered ∙ sym y.answered

ends_once : (main : Option Name) (r : Result FileState Refusal) (a b : Result TypedFileTree Refusal) → Ends main r a → Ends main r b → a ≡ b
ends_once main (Err e) a b x y = x ∙ sym y
ends_once main (Ok f) a b x y = closes_once f main (undefined_use f) a b x y

pub one_answer : (main : Option Name) (items : List ItemTree) (a b : Result TypedFileTree Refusal) → IsTyped main items a → IsTyped main items b → a ≡ b
one_answer main items a b x y = ends_once main (items_in first_file_state items) a b x y
