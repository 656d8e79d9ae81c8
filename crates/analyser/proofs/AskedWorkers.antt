-- Commands ask for 1 to 16 workers; and those that ask for no workers for one, whose history is not told.
use Rattle.std.proofs.Common.{◌≡◌, ℕ, ◌≤◌, List, [], ◌∷◌, length, Bool, false, refl, arith}
use Rattle.std.specs.Prelude.{◌==◌, ◌&&◌, nat_le, nat_lt, Option, Some, None, option_map}
use Rattle.std.specs.Prelude.{option_and_then, codes}
use Rattle.std.specs.List.{filter_map}
use Rattle.std.specs.Str.{bytes_eq}
use Rattle.std.proofs.lemmas.Bool.{and_parts, or_parts, leb-true, ltb-false, cond_both}
use Rattle.cmd_words.specs.declared.arguments.Argument.{Argument}
use Rattle.cmd_words.specs.declared.commands.Command.{Command}
use Rattle.cmd_words.specs.declared.commands.Command.TheVariants.{Analyse, Replay, Generate, Demo}
use Rattle.cmd_words.specs.declared.commands.Command.TheVariants.{Waits, Ranges, Certify, Check}
use Rattle.cmd_words.specs.Words.{command_of, named_command, analyse_of, analyse_words, demo_of, demo_words, generate_of}
use Rattle.cmd_words.specs.Words.{alone, arguments_of, workers_in, workers_by, from_one, size_in, workers_asked}
use Rattle.cmd_words.specs.Words.{json_count, history_count}
use Rattle.analyser.specs.Headline.{asks_workers as asks}
use Rattle.analyser.specs.reading.Manners.{AreFew, IsAlone, IsServed}

-- none, or a number from 1 to 16
abbrev IsFewOrNone : Option ℕ → Type 0
IsFewOrNone None = Unit {0}
IsFewOrNone (Some n) = (1 ≤ n) × (n ≤ 16)

from_few : (n : ℕ) → IsFewOrNone (from_one 16 n)
from_few n =
    cond_both (nat_le 1 n && nat_le n 16) (Some n) None IsFewOrNone
    (λ e. let parts = and_parts (nat_le 1 n) (nat_le n 16) e in (leb-true 1 n parts.0, leb-true n 16 parts.1))
    (λ e. tt)

by_few : (asked : List ℕ) → IsFewOrNone (workers_by asked)
by_few [] = (omega arith, omega arith)
by_few (n ∷ []) = from_few n
by_few (n ∷ m ∷ more) = tt

analyse_asks : (arguments : List Argument) → IsServed AreFew (analyse_of arguments)
analyse_asks arguments =
    cond_both (nat_le (json_count arguments) 1 && nat_le (history_count arguments) 1)
    (option_map (analyse_words arguments) (workers_in arguments)) None (IsServed AreFew)
    (λ e. with_workers (workers_in arguments) (by_few (filter_map workers_asked arguments))) (λ e. tt)
  where
    with_workers : (workers : Option ℕ) → IsFewOrNone workers → IsServed AreFew (option_map (analyse_words arguments) workers)
    with_workers None few = tt
    with_workers (Some n) few = few

generate_asks : (arguments : List Argument) → IsServed AreFew (generate_of arguments)
generate_asks arguments =
    cond_both (length arguments == 1) (option_map Generate (size_in arguments)) None (IsServed AreFew)
    (λ e. with_size (size_in arguments)) (λ e. tt)
  where
    with_size : (size : Option ℕ) → IsServed AreFew (option_map Generate size)
    with_size None = tt
    with_size (Some n) = tt

demo_asks : (arguments : List Argument) → IsServed AreFew (demo_of arguments)
demo_asks arguments =
    cond_both (json_count arguments == 0 && history_count arguments == 0)
    (option_and_then (λ workers. option_map (demo_words workers) (size_in arguments)) (workers_in arguments)) None
    (IsServed AreFew)
    (λ e. with_workers (size_in arguments) (workers_in arguments) (by_few (filter_map workers_asked arguments)))
    (λ e. tt)
  where
    with_workers : (size workers : Option ℕ) → IsFewOrNone workers
        → IsServed AreFew (option_and_then (λ workers. option_map (demo_words workers) size) workers)
    with_workers size None few = tt
    with_workers None (Some n) few = tt
    with_workers (Some k) (Some n) few = few

-- what is asked for by arguments that are understood
behind : (f : List Argument → Option Command) → ((arguments : List Argument) → IsServed AreFew (f arguments))
    → (o : Option (List Argument)) → IsServed AreFew (option_and_then f o)
behind f each None = tt
behind f each (Some arguments) = each arguments

alone_asks : (command : Command) → IsServed AreFew (Some command) → (words : List (List ℕ)) → IsServed AreFew (alone command words)
alone_asks command h [] = h
alone_asks command h (word ∷ words) = tt

named_asks : (name : List ℕ) (words : List (List ℕ)) → IsServed AreFew (named_command name words)
named_asks name words =
    cond_both (bytes_eq name (codes "analyse")) _ _ (IsServed AreFew)
    (λ e. behind analyse_of analyse_asks (arguments_of words))
    (λ e. cond_both (bytes_eq name (codes "replay")) _ _ (IsServed AreFew) (λ e. alone_asks Replay tt words)
    (λ e. cond_both (bytes_eq name (codes "generate")) _ _ (IsServed AreFew)
    (λ e. behind generate_of generate_asks (arguments_of words))
    (λ e. cond_both (bytes_eq name (codes "demo")) _ _ (IsServed AreFew)
    (λ e. behind demo_of demo_asks (arguments_of words))
    (λ e. cond_both (bytes_eq name (codes "waits")) _ _ (IsServed AreFew) (λ e. alone_asks Waits tt words)
    (λ e. cond_both (bytes_eq name (codes "ranges")) _ _ (IsServed AreFew) (λ e. alone_asks Ranges tt words)
    (λ e. cond_both (bytes_eq name (codes "certify")) _ _ (IsServed AreFew) (λ e. alone_asks Certify tt words)
    (λ e. cond_both (bytes_eq name (codes "check")) _ _ (IsServed AreFew) (λ e. alone_asks Check tt words)
    (λ e. tt))))))))

pub few_served : (words : List (List ℕ)) → IsServed AreFew (command_of words)
few_served [] = tt
few_served (name ∷ words) = named_asks name words

-- ## Commands that ask for no workers

only_one : (n : ℕ) → 1 ≤ n → nat_lt 1 n ≡ false → n ≡ 1
only_one n some one = let most = ltb-false 1 n one in omega (arith, some, most)

pub alone_served : (c : Option Command) → IsServed AreFew c → asks c ≡ false → IsServed IsAlone c
alone_served None few e = tt
alone_served (Some (Analyse w)) few e =
    let parts = or_parts (nat_lt 1 w.workers) w.history e in (only_one w.workers few.0 parts.0, parts.1)
alone_served (Some Replay) few e = tt
alone_served (Some (Generate count)) few e = tt
alone_served (Some (Demo w)) few e = (only_one w.workers few.0 e, refl)
alone_served (Some Waits) few e = tt
alone_served (Some Ranges) few e = tt
alone_served (Some Certify) few e = tt
alone_served (Some Check) few e = tt

-- what serves all manners of a kind serves a command that asks in such a manner
pub served_by : (P Q : ℕ → Bool → Type 0) (c : Option Command) → ((workers : ℕ) (history : Bool) → P workers history → Q workers history)
    → IsServed P c → IsServed Q c
served_by P Q None each h = tt
served_by P Q (Some (Analyse w)) each h = each w.workers w.history h
served_by P Q (Some Replay) each h = tt
served_by P Q (Some (Generate count)) each h = tt
served_by P Q (Some (Demo w)) each h = each w.workers false h
served_by P Q (Some Waits) each h = tt
served_by P Q (Some Ranges) each h = tt
served_by P Q (Some Certify) each h = tt
served_by P Q (Some Check) each h = tt
