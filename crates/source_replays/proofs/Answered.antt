-- How bytes come to their answers.
use Rattle.std.proofs.Common.{◌≡◌, ℕ, refl, sym, ap, subst, ◌∙◌, List, [], ◌∷◌, Option, Some, None, Result, Ok, Err, inl, inr}
use Rattle.std.specs.Prelude.{IfOk, option_map}
use Rattle.tm_terms.specs.declared.places.Place.{Place}
use Rattle.tm_terms.specs.declared.refusals.Refusal.{Refusal}
use Rattle.tm_typed.specs.Files.{TypedFileTree}
use Rattle.tm_typed.specs.TypedFiles.{typed_file_tree}
use Rattle.tm_laid.specs.declared.layouts.Laid.{Laid}
use Rattle.tm_laid.specs.declared.scales.Scale.TheVariants as Scales
use Rattle.tm_laid.specs.Layable.{IsLayable}
use Rattle.tm_laid.specs.Layouts.{LaidTree, laid_tree, layout_of}
use Rattle.layout_laws.proofs.Kept.{limits_kept}
use Rattle.concrete_steps.specs.declared.worlds.Choice.{Choice}
use Rattle.concrete_worlds.specs.Lawful.{HasGraphs, HasWorlds}
use Rattle.concrete_worlds.specs.Laws.{LaidFilesHaveWorlds}
use Rattle.source_programs.specs.program_graphs.Prepared.{Graphed, IsPrepared}
use Rattle.program_worlds.specs.Laws.{ProgramsHaveGraphs}
use Rattle.source_programs.specs.LaidSources.{main_in, IsLaidSource}
use Rattle.replay_lines.specs.declared.endings.Ending.{Ending}
use Rattle.replay_lines.specs.declared.endings.Ending.TheVariants.{Ran, NotAllowed, Stopped}
use Rattle.replay_lines.specs.Choices.{asked_of}
use Rattle.replay_runs.specs.Runs.{IsRun}
use Rattle.source_replays.specs.declared.replays.Outcome.{Outcome}
use Rattle.source_replays.specs.declared.replays.Outcome.TheVariants.{Clean, Found, Refused}
use Rattle.source_replays.specs.Replays.{IsReplayable, IsRefusedReplay, outcome_of, no_replay_text, HasReplay}
use Rattle.source_replays.specs.reading.Replies.{TellsRun, IsRefusalLine}

-- ## The layout of a source has worlds

same_file : (file : TypedFileTree) (laid : LaidTree) → laid ≡ layout_of file → laid.file ≡ file
unfolding layout_of
same_file file laid e = ap (λ (l : LaidTree). l.file) e

pub has_worlds : (bytes : List ℕ) (laid : Laid) → IsLaidSource bytes (laid_tree laid) → IsLayable (typed_file_tree laid.file) laid.file.order.items
    → LaidFilesHaveWorlds → HasWorlds laid
has_worlds bytes laid source layable law =
    let file = source.file in
    let answered = source.answered in
    let kept = limits_kept Scales.Usual file (laid_tree laid) answered in
    let same : typed_file_tree laid.file ≡ file = same_file file (laid_tree laid) kept.whole in
    law Scales.Usual file laid answered (subst (λ (f : TypedFileTree). IsLayable f laid.file.order.items) same layable)

-- ## Its graphs are those along which its tasks go

pub has_graphs : (bytes : List ℕ) (laid : Laid) (graphed : Graphed) → IsLaidSource bytes (laid_tree laid)
    → IsPrepared Scales.Usual (laid_tree laid) (Ok graphed) → ProgramsHaveGraphs → HasGraphs laid graphed.graphs
has_graphs bytes laid graphed source prepared law =
    law Scales.Usual laid graphed.graphs
    (record {
      main = main_in bytes source.tokens;
      items = source.typed.items;
      file = source.file;
      typed = source.typed.typed;
      scale = Scales.Usual;
      answered = source.answered;
    })
    prepared.0

-- ## Answers

pub refusal_answers : (bytes : List ℕ) (r : Refusal) → IsRefusedReplay bytes r → (outcome : Outcome) (text : List ℕ) → IsRefusalLine r outcome text
    → HasReplay bytes outcome text
refusal_answers bytes r refused Clean text h = absurd (let clash : Clean ≡ Refused = h.0 in cc)
refusal_answers bytes r refused Found text h = absurd (let clash : Found ≡ Refused = h.0 in cc)
refusal_answers bytes r refused Refused text h = inl (record { refusal = r; refused = refused; is = h.1 })

pub none_answers : (bytes : List ℕ) (laid : LaidTree) → IsReplayable bytes laid → asked_of bytes ≡ None → (outcome : Outcome) (text : List ℕ) → outcome ≡ Refused
    → text ≡ no_replay_text → HasReplay bytes outcome text
none_answers bytes laid replayable none Clean text e f = absurd (let clash : Clean ≡ Refused = e in cc)
none_answers bytes laid replayable none Found text e f = absurd (let clash : Found ≡ Refused = e in cc)
none_answers bytes laid replayable none Refused text e f = inr (record { laid = laid; replayable = replayable; none = none; is = f })

never_refused : (places : List Place) (ending : Ending) → Refused ≡ outcome_of places ending → ⊥
never_refused [] (Ran count) e = absurd cc
never_refused (p ∷ places) (Ran count) e = absurd cc
never_refused [] (NotAllowed choice) e = absurd cc
never_refused (p ∷ places) (NotAllowed choice) e = absurd cc
never_refused [] (Stopped choice class place) e = absurd cc
never_refused (p ∷ places) (Stopped choice class place) e = absurd cc

module _ (bytes : List ℕ) (laid : LaidTree) (replayable : IsReplayable bytes laid) (choices : List Choice) (asked : asked_of bytes ≡ Some choices)
    (places : List Place) (ending : Ending) (run : IsRun laid choices places ending) where
  pub run_answers : (outcome : Outcome) (text : List ℕ) → TellsRun places ending outcome text → HasReplay bytes outcome text
  run_answers Clean text h = record {
    laid = laid;
    replayable = replayable;
    choices = choices;
    asked = asked;
    places = places;
    ending = ending;
    run = run;
    comes_to = h.0;
    is = h.1;
  }
  run_answers Found text h = record {
    laid = laid;
    replayable = replayable;
    choices = choices;
    asked = asked;
    places = places;
    ending = ending;
    run = run;
    comes_to = h.0;
    is = h.1;
  }
  run_answers Refused text h = absurd (never_refused places ending h.0)

pub one_ok : {A E : Type 0} {P Q : A → Type 0} (r : Result A E) → IfOk r P → ((a : A) → P a → Q a) → IfOk r Q
one_ok (Ok a) p f = f a p
one_ok (Err e) p f = tt

pub both_ok : {A E : Type 0} {P Q R : A → Type 0} (r : Result A E) → IfOk r P → IfOk r Q → ((a : A) → P a → Q a → R a) → IfOk r R
both_ok (Ok a) p q f = f a p q
both_ok (Err e) p q f = tt

pub mapped_some : {A B : Type 0} (f : A → B) (o : Option A) (x : A) (q : Option B) → option_map f o ≡ q → o ≡ Some x → q ≡ Some (f x)
mapped_some f o x q e k = sym e ∙ ap (option_map f) k

pub mapped_none : {A B : Type 0} (f : A → B) (o : Option A) (q : Option B) → option_map f o ≡ q → o ≡ None → q ≡ None
mapped_none f o q e k = sym e ∙ ap (option_map f) k
