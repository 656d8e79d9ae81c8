use Rattle.notes_json.specs.Pieces.{place_text}
use Rattle.notes_json.proofs.Listed.{next_listed, all_listed}
use Rattle.program_notes.proofs.lists.push_places.Goals as goal

pub loop-at-preserved : goal.loop-at-preserved
loop-at-preserved c =
    next_listed place_text
    c.args.places.now c.loop-at.at _ c.args.text.now.items c.loop-at-test.true c.loop-at.invariant
    c.in_ok-push_comma.ensures c.in_ok-push_place.ensures

pub returns : goal.returns
returns c =
    all_listed place_text
    c.args.places.now c.loop-at.at c.args.text.now.items c.loop-at-test.false c.loop-at.invariant
