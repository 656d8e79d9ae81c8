use Rattle.std.proofs.Common.{◌∙◌, sym}
use Rattle.std.proofs.lemmas.Bool.{true≢false}
use Rattle.access_partners.proofs.Search.{none_there}
use Rattle.access_partners.proofs.access_sites.index_at.Goals as goal

pub returns-then-is_alike-clause-found : goal.returns-then-is_alike-clause-found
returns-then-is_alike-clause-found c = record {
  within = c.requires.within;
  alike = c.is_alike.ensures.0 c.if-is_alike.true;
}

pub returns-clause-absent : goal.returns-clause-absent
returns-clause-absent c =
    none_there c.args.accesses.now c.args.access c.requires.rising c.args.first c.requires.first c.requires.within
    (λ same. true≢false (sym (c.is_alike.ensures.1 same) ∙ c.if-is_alike.false))
