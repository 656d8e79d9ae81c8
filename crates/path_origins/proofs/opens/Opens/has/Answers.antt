use Rattle.std.proofs.Common.{ap, ◌∙◌}
use Rattle.path_origins.specs.Opens.{is_among}
use Rattle.path_origins.proofs.Among.{among}
use Rattle.path_origins.proofs.opens.Opens.has.Goals as goal

pub returns : goal.returns
returns c =
    c.contains.ensures ∙ among c.self.inside.places.keys c.args.place
    ∙ ap (λ places. is_among places c.args.place) c.self.view_is
