use Rattle.cmd_words.specs.Words.{command_of, texts_of}
use Rattle.analyser.proofs.AskedWorkers.{alone_served, few_served}
use Rattle.analyser.proofs.SoundAnswers.{sound_answers, reported_is_whole}
use Rattle.analyser.proofs.CommandLemmas.{no_usage_line, usage_line, accepted_reported, refused_refused}
use Rattle.analyser.proofs.top.analyse_alone.Goals as goal

pub answer_words-requires : goal.answer_words-requires
answer_words-requires g c = record {
  served = alone_served (command_of (texts_of c.args.words.now)) (few_served (texts_of c.args.words.now)) c.requires.alone;
}

pub returns-clause-sound : goal.returns-clause-sound
returns-clause-sound g c reported asks =
    sound_answers c.args.words.now _ _ _ c.answer_words.result reported asks
    (c.answer_words.ensures.headline (reported_is_whole c.answer_words.result reported))

pub returns-clause-words : goal.returns-clause-words
returns-clause-words g c is e =
    no_usage_line (command_of (texts_of c.args.words.now)) _ _ _ c.answer_words.result c.answer_words.ensures.headline is e

pub returns-clause-usage : goal.returns-clause-usage
returns-clause-usage g c none =
    usage_line (command_of (texts_of c.args.words.now)) _ _ _ c.answer_words.result c.answer_words.ensures.headline
    (λ e. (c.answer_words.ensures.read e).0) none

pub returns-clause-accepted : goal.returns-clause-accepted
returns-clause-accepted g c bytes e a =
    accepted_reported (command_of (texts_of c.args.words.now)) _ _ _ c.answer_words.result
    c.answer_words.ensures.headline bytes e a

pub returns-clause-refused : goal.returns-clause-refused
returns-clause-refused g c bytes e r =
    refused_refused (command_of (texts_of c.args.words.now)) _ _ _ c.answer_words.result
    c.answer_words.ensures.headline bytes e r
