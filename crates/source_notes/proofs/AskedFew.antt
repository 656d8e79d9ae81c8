-- Notes are asked of 1 to 16 workers.
use Rattle.std.proofs.Common.{ℕ, ◌&&◌, ◌≤◌, List, [], ◌∷◌, codes, lit≤, nat_le, Option, Some, None, option_map, IfSome}
use Rattle.std.specs.Prelude.{option_and_then}
use Rattle.std.specs.Str.{bytes_eq}
use Rattle.std.proofs.lemmas.Bool.{and_parts, leb-true, cond_both}
use Rattle.cmd_words.specs.Numbers.{number_of}
use Rattle.cmd_words.specs.Words.{after_prefix, from_one, workers_named}
use Rattle.tm_laid.specs.declared.scales.Scale.{Scale}
use Rattle.tm_laid.specs.declared.scales.Scale.TheVariants.{Usual, Large}
use Rattle.source_notes.specs.declared.answers.Note.{Note}
use Rattle.source_notes.specs.declared.words.AskedNotes.{AskedNotes}
use Rattle.source_notes.specs.Words.{AsksFew, asked_behind, asked_on, note_of, noted}

abbrev IsFew : ℕ → Type 0
IsFew n = (1 ≤ n) × (n ≤ 16)

from_few : (n : ℕ) → IfSome (from_one 16 n) IsFew
from_few n =
    cond_both (nat_le 1 n && nat_le n 16) (Some n) None (λ o. IfSome o IsFew)
    (λ e. let parts = and_parts (nat_le 1 n) (nat_le n 16) e in (leb-true 1 n parts.0, leb-true n 16 parts.1))
    (λ e. tt)

read_few : (o : Option ℕ) → IfSome (option_and_then (from_one 16) o) IsFew
read_few None = tt
read_few (Some n) = from_few n

workers_few : (word : List ℕ) → IfSome (workers_named word) IsFew
workers_few word = read_few (option_and_then number_of (after_prefix (codes "--workers=") word))

mapped_few : (f : Note → AskedNotes) → ((note : Note) → AsksFew (f note)) → (o : Option Note) → IfSome (option_map f o) AsksFew
mapped_few f each None = tt
mapped_few f each (Some note) = each note

noted_few : (scale : Scale) (n : ℕ) (word : List ℕ) → IsFew n → IfSome (noted scale n word) AsksFew
noted_few scale n word few = mapped_few _ (λ note. few) (note_of word)

by_few : (scale : Scale) (word : List ℕ) (o : Option ℕ) → IfSome o IsFew
    → IfSome (option_and_then (λ n. noted scale n word) o) AsksFew
by_few scale word None few = tt
by_few scale word (Some n) few = noted_few scale n word few

on_few : (scale : Scale) (words : List (List ℕ)) → IfSome (asked_on scale words) AsksFew
on_few scale [] = tt
on_few scale (word ∷ []) = noted_few scale 1 word (lit≤ tt, lit≤ tt)
on_few scale (workers ∷ word ∷ []) = by_few scale word (workers_named workers) (workers_few workers)
on_few scale (workers ∷ word ∷ other ∷ words) = tt

pub behind_few : (words : List (List ℕ)) → IfSome (asked_behind words) AsksFew
behind_few [] = tt
behind_few (first ∷ words) =
    cond_both (bytes_eq first (codes "large")) (asked_on Large words) (asked_on Usual (first ∷ words))
    (λ o. IfSome o AsksFew) (λ e. on_few Large words) (λ e. on_few Usual (first ∷ words))
