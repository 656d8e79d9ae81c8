use Rattle.program_notes.specs.Paths.{path_text}
use Rattle.std.proofs.Common.{ap, ◌∙◌, ◌++◌}
use Rattle.notes_json.proofs.Listed.{next_listed, all_listed}
use Rattle.program_notes.proofs.path_objects.push_paths.Goals as goal

pub loop-at-preserved : goal.loop-at-preserved
loop-at-preserved c =
    let f = path_text in
    let at = c.loop-at.at in
    let item = c.index-paths-at in
    let told = c.in_ok-push_path.ensures in
    next_listed f c.args.paths.now at item.result c.args.text.now.items c.loop-at-test.true c.loop-at.invariant
    c.in_ok-push_comma.ensures (told ∙ ap (λ x. c.push_comma.new.text.items ++ f x) item.is)

pub returns : goal.returns
returns c =
    all_listed path_text
    c.args.paths.now c.loop-at.at c.args.text.now.items c.loop-at-test.false c.loop-at.invariant
