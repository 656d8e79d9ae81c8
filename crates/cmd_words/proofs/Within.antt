-- A command asks for at most so many workers and functions as there may be.
use Rattle.std.proofs.Common.{◌≡◌, ℕ, ◌&&◌, ◌≤◌, Bool, true, false, List, [], ◌∷◌, cond, codes, lit≤, nat_le, Option, Some, None, option_map, option_and_then, IfSome, inl, inr, ap, sym, ◌∙◌, subst}
use Rattle.std.proofs.lemmas.Bool.Decides.{leb_tells}
use Rattle.std.specs.List.{filter_map}
use Rattle.std.specs.Str.{bytes_eq}
use Rattle.cmd_words.specs.declared.arguments.Argument.{Argument}
use Rattle.cmd_words.specs.declared.commands.Command.{Command}
use Rattle.cmd_words.specs.declared.commands.Command.TheVariants.{Replay, Generate, Waits, Ranges, Certify, Check}
use Rattle.cmd_words.specs.Words.{IsWithin, analyse_of, analyse_words, arguments_of, demo_of, demo_words, from_one, generate_of, named_command, numbers_in, alone, size_by, size_in, workers_asked, workers_by, workers_in}

from_one_within : (most n : ℕ) → IfSome (from_one most n) (λ m. (1 ≤ m) × (m ≤ most))
from_one_within most n = elim (leb_tells 1 n) [
  | inl low ↦ elim (leb_tells n most) [
    | inl high ↦
        let P : Bool → Type 0 = λ b. IfSome (cond b (Some n) None) (λ m. (1 ≤ m) × (m ≤ most)) in
        subst P (sym (ap (λ b. b && nat_le n most) low.0 ∙ high.0)) (low.1, high.1)
    | inr high ↦
        let P : Bool → Type 0 = λ b. IfSome (cond b (Some n) None) (λ m. (1 ≤ m) × (m ≤ most)) in
        subst P (sym (ap (λ b. b && nat_le n most) low.0 ∙ high.0)) tt
  ]
  | inr low ↦
      let P : Bool → Type 0 = λ b. IfSome (cond b (Some n) None) (λ m. (1 ≤ m) × (m ≤ most)) in
      subst P (sym (ap (λ b. b && nat_le n most) low.0)) tt
]

workers_within : (asked : List ℕ) → IfSome (workers_by asked) (λ m. (1 ≤ m) × (m ≤ 16))
workers_within [] = (lit≤ tt, lit≤ tt)
workers_within (n ∷ []) = from_one_within 16 n
workers_within (n ∷ m ∷ more) = tt

size_within : (numbers : List ℕ) → IfSome (size_by numbers) (λ m. (1 ≤ m) × (m ≤ 400))
size_within [] = tt
size_within (n ∷ []) = from_one_within 400 n
size_within (n ∷ m ∷ more) = tt

if_within : (b : Bool) (first second : Option Command) → IfSome first IsWithin → IfSome second IsWithin
    → IfSome (cond b first second) IsWithin
if_within true first second h k = h
if_within false first second h k = k

mapped_within : (most : ℕ) (f : ℕ → Command) → ((n : ℕ) → (1 ≤ n) × (n ≤ most) → IsWithin (f n)) → (o : Option ℕ)
    → IfSome o (λ m. (1 ≤ m) × (m ≤ most)) → IfSome (option_map f o) IsWithin
mapped_within most f all None h = tt
mapped_within most f all (Some n) h = all n h

analyse_within : (arguments : List Argument) → IfSome (analyse_of arguments) IsWithin
analyse_within arguments =
    if_within _ _ None (mapped_within 16 (analyse_words arguments) (λ n h. h) (workers_in arguments)
    (workers_within (filter_map workers_asked arguments))) tt

generate_within : (arguments : List Argument) → IfSome (generate_of arguments) IsWithin
generate_within arguments =
    if_within _ _ None (mapped_within 400 Generate (λ n h. h) (size_in arguments) (size_within (numbers_in arguments))) tt

both_within : (workers size : Option ℕ) → IfSome workers (λ m. (1 ≤ m) × (m ≤ 16)) → IfSome size (λ m. (1 ≤ m) × (m ≤ 400))
    → IfSome (option_and_then (λ n. option_map (demo_words n) size) workers) IsWithin
both_within None size h k = tt
both_within (Some n) size h k = mapped_within 400 (demo_words n) (λ m l. (h, l)) size k

demo_within : (arguments : List Argument) → IfSome (demo_of arguments) IsWithin
demo_within arguments =
    if_within _ _ None (both_within (workers_in arguments) (size_in arguments)
    (workers_within (filter_map workers_asked arguments)) (size_within (numbers_in arguments))) tt

read_within : (f : List Argument → Option Command) → ((arguments : List Argument) → IfSome (f arguments) IsWithin)
    → (read : Option (List Argument)) → IfSome (option_and_then f read) IsWithin
read_within f all None = tt
read_within f all (Some arguments) = all arguments

alone_within : (command : Command) → IsWithin command → (words : List (List ℕ)) → IfSome (alone command words) IsWithin
alone_within command h [] = h
alone_within command h (word ∷ words) = tt

chosen_within : (b : Bool) (command others : Option Command) → IfSome command IsWithin → IfSome others IsWithin
    → IfSome (cond b command others) IsWithin
chosen_within true command others h k = h
chosen_within false command others h k = k

named_within : (name : List ℕ) (words : List (List ℕ)) → IfSome (named_command name words) IsWithin
named_within name words =
    chosen_within (bytes_eq name (codes "analyse")) _ _ (read_within analyse_of analyse_within (arguments_of words))
    (chosen_within (bytes_eq name (codes "replay")) _ _ (alone_within Replay tt words)
    (chosen_within (bytes_eq name (codes "generate")) _ _ (read_within generate_of generate_within (arguments_of words))
    (chosen_within (bytes_eq name (codes "demo")) _ _ (read_within demo_of demo_within (arguments_of words))
    (chosen_within (bytes_eq name (codes "waits")) _ _ (alone_within Waits tt words)
    (chosen_within (bytes_eq name (codes "ranges")) _ _ (alone_within Ranges tt words)
    (chosen_within (bytes_eq name (codes "certify")) _ _ (alone_within Certify tt words)
    (chosen_within (bytes_eq name (codes "check")) _ None (alone_within Check tt words) tt)))))))

pub is_within : (name : List ℕ) (words : List (List ℕ)) (command : Option Command) → command ≡ named_command name words
    → IfSome command IsWithin
is_within name words command same =
    let P : Option Command → Type 0 = λ o. IfSome o IsWithin in subst P (sym same) (named_within name words)
