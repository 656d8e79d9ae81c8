use Rattle.std.proofs.Common.{ap, ◌+◌, ◌++◌, ◌∙◌, take, map, get_or}
use Rattle.std.proofs.lemmas.List.{take_all}
use Rattle.std.proofs.lemmas.List.Elements.{filter_more}
use Rattle.std.specs.List.{join_with_byte, filter}
use Rattle.notes_json.proofs.Listed.{next_if, others_else}
use Rattle.program_notes.specs.OperandTexts.{is_of, one_flaw}
use Rattle.program_notes.proofs.Firsts.{others_stay}
use Rattle.program_notes.proofs.operand_objects.push_flaws.Goals.{then-others, else-others}
use Rattle.program_notes.proofs.operand_objects.push_flaws.Goals as goal

pub loop-flaw-preserved : goal.loop-flaw-preserved
loop-flaw-preserved c =
    let flaws = c.args.flaws.now in
    let is = is_of c.args.object in
    let i = c.loop-flaw.flaw-index in
    let lt = c.loop-flaw-test.true in
    let others = c.loop-flaw.others in
    let after = c.if-others.others in
    let so_far = c.loop-flaw.invariant in
    let xs = filter is (take i flaws) in
    let ys = filter is (take (i + 1) flaws) in
    record {
      written =
          next_if 124 one_flaw xs ys (get_or flaws i _) (is (get_or flaws i _)) others c.args.text.now.items
          (filter_more is flaws i _ lt) so_far.others so_far.written c.in_ok-push_flaw_if.ensures;
      others = elim c.if-others.branch [
        | then-others w ↦
            others_stay is flaws i others after lt so_far.others w.if-others.true (w.others-is ∙ w.if-others.true)
        | else-others w ↦
            others_else xs ys (get_or flaws i _) (is (get_or flaws i _)) others after (filter_more is flaws i _ lt)
            so_far.others w.if-others.false (w.others-is ∙ w.is_of-others.ensures)
      ];
    }

pub returns : goal.returns
returns c =
    c.loop-flaw.invariant.written
    ∙ ap (λ list. c.args.text.now.items ++ join_with_byte 124 (map one_flaw (filter (is_of c.args.object) list)))
    (take_all c.loop-flaw.flaw-index c.args.flaws.now c.loop-flaw-test.false)
