use Rattle.path_origins.proofs.Among.{one_among}
use Rattle.path_origins.proofs.opens.add_place.Goals as goal

pub returns : goal.returns
returns c p = one_among c.args.place p c.args.to.now.keys c.insert.new.self.keys (c.in_ok-insert.ensures.updates.0 p)
