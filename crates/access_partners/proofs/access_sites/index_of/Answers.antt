use Rattle.std.proofs.Common.{arith}
use Rattle.access_partners.proofs.Search.{none_behind}
use Rattle.access_partners.proofs.access_sites.index_of.Goals as goal

pub returns-clause-absent : goal.returns-clause-absent
returns-clause-absent c =
    none_behind c.args.accesses.now c.args.access c.requires c.first_not_before-first.result
    c.first_not_before-first.ensures (omega arith)
