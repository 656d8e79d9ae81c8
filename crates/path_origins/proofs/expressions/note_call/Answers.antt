use Rattle.std.proofs.Common.{◌∙◌}
use Rattle.tm_laid.specs.Layouts.{laid_tree}
use Rattle.path_origins.specs.Opens.{is_among}
use Rattle.path_origins.specs.Shown.{shown, sizes_in}
use Rattle.path_origins.proofs.Calls.{body_noted}
use Rattle.path_origins.proofs.expressions.note_call.Goals as goal

pub returns : goal.returns
returns c =
    body_noted (laid_tree c.args.here.now.laid.now) (is_among c.args.here.now.opens.now)
    (sizes_in c.args.here.now.sizes.now) c.args.here.now.path c.args.path c.args.count c.size_of.result
    c.len-outer.result
    c.args.used c.args.place (shown c.args.to.now) (shown c.note_stores.new.to) (shown c.note_body.new.to)
    (shown c.end_scopes.new.to) c.size_of.ensures (c.len-outer.ensures
    ∙ c.args.to.now.unended.ok.0) c.in_ok-note_stores.ensures
    c.in_ok-note_body.ensures c.in_ok-end_scopes.ensures
