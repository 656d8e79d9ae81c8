use Rattle.mutex_configs.proofs.Grouping.{pushed}
use Rattle.mutex_configs.proofs.groups.push_number.Goals as goal

pub returns : goal.returns
returns c = pushed c.args.groups.now.items c.args.place c.args.number c.index_mut.result.now c.push.new.self
    c.requires c.index_mut.ensures.value c.in_ok-push.ensures.items
