use Rattle.std.proofs.Common.{◌≤◌, ◌^◌, ◌↔◌, ℕ, length, take}
use Rattle.std.specs.Prelude.{Contains}
use Rattle.tm_laid.specs.Layouts.{laid_tree}
use Rattle.access_races.specs.reading.Ways.{list_at}
use Rattle.access_groups.specs.declared.object_access.ObjectAccess.{ObjectAccess as AnObjectAccess}
use Rattle.access_groups.specs.reading.Noted.{IsNotedIn}
use Rattle.access_groups.proofs.noting.noted_by_object.Given as goal

abbrev pub invariant-loop-site : goal.invariant-loop-site
invariant-loop-site l =
    record {
      small : length l.lists.items ≤ 2 ^ 32;
      noted : (o : ℕ) (e : AnObjectAccess) → Contains (list_at l.lists.items o) e
          ↔ IsNotedIn l.ways (laid_tree l.laid) (take l.site-index l.sites) o e;
    }
