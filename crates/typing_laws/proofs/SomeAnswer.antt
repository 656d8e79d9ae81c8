-- A file has an answer.
use Rattle.std.proofs.Common.{List, inl, inr, refl}
use Rattle.std.specs.Prelude.{Option, Some, None, Result, Ok, Err}
use Rattle.tm_typed.specs.tm_terms.declared.places.Place.{Place}
use Rattle.tm_typed.specs.tm_terms.declared.tokens.Name.{Name}
use Rattle.tm_typed.specs.tm_terms.declared.refusals.Kind.TheVariants as Kinds
use Rattle.tm_typed.specs.tm_terms.declared.refusals.Refusal.{Refusal}
use Rattle.tm_typed.specs.tm_trees.FileTrees.{ItemTree}
use Rattle.tm_typed.specs.Refusals.{refused}
use Rattle.tm_typed.specs.WellTyped.{OnAnswer}
use Rattle.tm_typed.specs.Files.{FileState, TypedFileTree, file_of, typed_function, undefined_use, Closes, Ends, IsTyped, items_in, first_file_state}
use Rattle.typing_laws.proofs.Reaching.{first_or_acyclic}
use Rattle.typing_laws.proofs.Definitions.{IsKept, file_kept}

closes : (f : FileState) (main : Option Name) → IsKept f → (found : Option Place) → (answer : Result TypedFileTree Refusal) × Closes f main found answer
closes f main k (Some p) = (refused Kinds.NoBody p, refl)
closes f main k None = elim (first_or_acyclic f.calls f.definitions k.defined) [
  | inl h ↦ (refused Kinds.Recursive (typed_function f h.0).place, inl (record { function = h.0; first = h.1; answered = refl }))
  | inr acyclic ↦ (Ok (file_of f main), inr (record { acyclic = acyclic; answered = refl }))
]

ends : (main : Option Name) (r : Result FileState Refusal) → OnAnswer IsKept r → (answer : Result TypedFileTree Refusal) × Ends main r answer
ends main (Err r) k = (Err r, refl)
ends main (Ok f) k = closes f main k (undefined_use f)

pub some_answer : (main : Option Name) (items : List ItemTree) → (answer : Result TypedFileTree Refusal) × IsTyped main items answer
some_answer main items = ends main (items_in first_file_state items) (file_kept items)
