use Rattle.std.proofs.Common.{subst}
use Rattle.access_groups.specs.declared.site.Site.{Site}
use Rattle.access_partners.specs.Lists.{AreListed}
use Rattle.access_partners.specs.reading.Accesses.{IsCellOf, IsEdgeOf, IsRacingAmong, IsRacingCell, IsRacingEdge}
use Rattle.access_partners.proofs.Lists.{relisted, through}
use Rattle.access_partners.proofs.details.details_of.Goals as goal

pub returns-clause-found : goal.returns-clause-found
returns-clause-found c =
    let ways = c.args.ways.now in
    let sites = c.args.sites.now in
    let rs = c.in_ok-racing_sites.racing_sites.items in
    let Among = λ (x : Site). IsRacingAmong ways x in
    record {
      cells = c.in_ok-cells.ensures;
      racing = relisted (IsCellOf rs) (IsRacingCell ways sites)
          (through Among (λ (x : Site). x.access.cell) rs sites c.in_ok-racing_sites.ensures) c.in_ok-racing.racing.items
          (subst (λ xs. AreListed (IsCellOf xs) c.in_ok-racing.racing.items) c.deref.ensures.value
          c.in_ok-racing.ensures);
      edges = relisted (IsEdgeOf rs) (IsRacingEdge ways sites)
          (through Among (λ (x : Site). x.edge) rs sites c.in_ok-racing_sites.ensures) c.in_ok-edges.edges.items
          (subst (λ xs. AreListed (IsEdgeOf xs) c.in_ok-edges.edges.items) c.deref-2.ensures.value
          c.in_ok-edges.ensures);
    }
