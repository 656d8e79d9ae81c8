use Rattle.std.proofs.Common.{◌≤◌, ◌^◌, ◌↔◌, ℕ, length, take}
use Rattle.std.specs.Prelude.{Contains}
use Rattle.tm_laid.specs.Layouts.{laid_tree}
use Rattle.access_races.specs.reading.Ways.{list_at}
use Rattle.access_groups.specs.declared.site.Site.{Site as ASite}
use Rattle.access_partners.specs.reading.Accesses.{IsSiteTo}
use Rattle.access_partners.proofs.objects.sites_by_object.Given as goal

abbrev pub invariant-loop-site : goal.invariant-loop-site
invariant-loop-site l =
    record {
      small : length l.lists.items ≤ 2 ^ 32;
      sites : (o : ℕ) (x : ASite) → Contains (list_at l.lists.items o) x
          ↔ IsSiteTo (take l.site-index l.sites) (laid_tree l.laid) o x;
    }
