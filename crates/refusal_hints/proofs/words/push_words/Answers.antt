use Rattle.std.proofs.Common.{rules, ◌≡◌, ◌<◌, ◌++◌, ◌∷◌, [], length, take, true, false, ap, ◌∙◌}
use Rattle.refusal_hints.proofs.Pushing.{gap_step, word_step}
use Rattle.refusal_hints.specs.Words.{is_gap, words_of}
use Rattle.refusal_hints.specs.reading.Seen.{words_seen}
use Rattle.refusal_hints.proofs.words.push_words.Goals as goal
use Rattle.refusal_hints.proofs.words.push_words.Goals.{then-not-is_gap+in_ok-push, else-not-is_gap}

pub loop-rest-preserved : goal.loop-rest-preserved
loop-rest-preserved c =
    let some : 0 < length c.loop-rest.rest.now = search rules in
    elim c.if-not-is_gap.branch [
      | then-not-is_gap+in_ok-push w ↦
          let word : is_gap c.loop-rest.rest.now ≡ false = search rules in
          let pushed : words_seen c.if-not-is_gap.words.items
          ≡ words_seen c.loop-rest.words.items ++ take c.piece_length-count.result c.loop-rest.rest.now ∷ [] = search rules in
          word_step _ (words_seen c.loop-rest.words.items) (words_seen c.if-not-is_gap.words.items) c.loop-rest.rest.now
          c.behind-rest.result.now c.piece_length-count.result some c.piece_length-count.ensures.some
          c.piece_length-count.ensures.value word c.loop-rest.invariant pushed c.behind-rest.ensures
      | else-not-is_gap w ↦
          let gap : is_gap c.loop-rest.rest.now ≡ true = search rules in
          let same : words_seen c.loop-rest.words.items ≡ words_seen c.if-not-is_gap.words.items = search rules in
          gap_step _ (words_seen c.loop-rest.words.items) c.loop-rest.rest.now
          c.behind-rest.result.now c.piece_length-count.result some c.piece_length-count.ensures.some
          c.piece_length-count.ensures.value gap c.loop-rest.invariant c.behind-rest.ensures
          ∙ ap (λ ws. ws ++ words_of c.behind-rest.result.now) same
    ]
