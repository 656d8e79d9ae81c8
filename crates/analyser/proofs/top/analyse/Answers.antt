use denote.Exit.{unseen}
use denote.Param.Send.{Quiet-if, sendable}
use mir.Syntax.{of_param}
use Rattle.cmd_words.specs.Words.{command_of, texts_of}
use Rattle.analyser.proofs.AskedWorkers.{few_served, served_by}
use Rattle.analyser.specs.reading.Manners.{AreFew}
use Rattle.analyser.proofs.SoundAnswers.{sound_answers, reported_is_whole}
use Rattle.analyser.proofs.CommandLemmas.{no_usage_line, usage_line, accepted_reported, refused_refused}
use Rattle.analyser.proofs.top.analyse.Goals as goal

-- The solver is a call that may be made of all manners with few workers; it may send the gate to other threads, and
-- share it and the handle with them, as the bounds say.
pub answer_words-requires : goal.answer_words-requires
answer_words-requires g c = record {
  served = served_by AreFew _ (command_of (texts_of c.args.words.now))
      (λ n b few analysis. ((few, (record { owned = c.type_bounds.send-G.owned; leaving = λ k. Quiet-if (k (of_param 1)) unseen unseen (λ x w. tt) (λ x w. tt) }, search (c.type_bounds.sync-R, sendable) depth 20, search (c.type_bounds.sync-G, sendable) depth 20)), λ r h. h.1))
      (few_served (texts_of c.args.words.now));
}

pub returns-clause-sound : goal.returns-clause-sound
returns-clause-sound g c reported asks =
    sound_answers c.args.words.now _ _ _ c.answer_words.result reported asks
    (c.answer_words.ensures.headline (reported_is_whole c.answer_words.result reported))

pub returns-clause-words : goal.returns-clause-words
returns-clause-words g c is e =
    no_usage_line (command_of (texts_of c.args.words.now)) _ _ _ c.answer_words.result c.answer_words.ensures.headline is e

pub returns-clause-usage : goal.returns-clause-usage
returns-clause-usage g c none =
    usage_line (command_of (texts_of c.args.words.now)) _ _ _ c.answer_words.result c.answer_words.ensures.headline
    (λ e. (c.answer_words.ensures.read e).0) none

pub returns-clause-accepted : goal.returns-clause-accepted
returns-clause-accepted g c bytes e a =
    accepted_reported (command_of (texts_of c.args.words.now)) _ _ _ c.answer_words.result
    c.answer_words.ensures.headline bytes e a

pub returns-clause-refused : goal.returns-clause-refused
returns-clause-refused g c bytes e r =
    refused_refused (command_of (texts_of c.args.words.now)) _ _ _ c.answer_words.result
    c.answer_words.ensures.headline bytes e r
