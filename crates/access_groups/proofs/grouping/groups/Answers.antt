use Rattle.std.proofs.Common.{◌↔◌, ℕ, length, List, refl, subst, Vec}
use Rattle.std.specs.Prelude.{Contains}
use Rattle.std.specs.declared.alloc.Global.{Global}
use Rattle.std.proofs.lemmas.Result.{IfOk-weaker}
use Rattle.tm_laid.specs.Layouts.{laid_tree}
use Rattle.program_reports.specs.post_recheck.program_equations.Solutions.{tables_of}
use Rattle.program_reports.specs.post_recheck.program_systems.ProgramFacts.{program_with}
use Rattle.program_reports.proofs.low.program_systems.Bodies.{is_program}
use Rattle.program_reports.specs.post_recheck.Pairs.{lists_of}
use Rattle.access_races.specs.declared.accesses.Way.{Way}
use Rattle.access_races.specs.reading.Ways.{list_at}
use Rattle.access_groups.specs.declared.object_access.ObjectAccess.{ObjectAccess}
use Rattle.access_groups.specs.declared.site.Site.{Site}
use Rattle.access_groups.specs.reading.Sites.{IsWayOfSite}
use Rattle.access_groups.specs.reading.Noted.{IsNotedIn}
use Rattle.access_groups.specs.reading.Grouping.{AreGroupsOf}
use Rattle.access_groups.proofs.Exact.{relaid, groups_are}
use Rattle.access_groups.proofs.grouping.groups.Goals as goal

pub returns : goal.returns
returns c =
    let program = c.args.program.now in
    let facts = c.args.facts.now in
    let laid = laid_tree program.laid in
    let sites = c.in_ok-sites.sites.items in
    let ways = c.in_ok-ways.ways.items in
    let lists = c.in_ok-lists.lists.items in
    let ways_are = subst (λ (xs : List Site). (cell : ℕ) (w : Way) → Contains (list_at ways cell) w
    ↔ IsWayOfSite xs cell w) c.deref.ensures.value c.in_ok-ways.ensures in
    let over_ways = subst (λ (ws : List (Vec Way Global)). (o : ℕ) (e : ObjectAccess) → Contains (list_at lists o) e
    ↔ IsNotedIn ws laid c.deref-3.result.now o e) c.deref-2.ensures.value c.in_ok-lists.ensures.exact in
    let lists_are = subst (λ (xs : List Site). (o : ℕ) (e : ObjectAccess) → Contains (list_at lists o) e
    ↔ IsNotedIn ways laid xs o e) c.deref-3.ensures.value over_ways in
    let p = program_with program facts in
    let are : (o : ℕ) (e : ObjectAccess) → Contains (list_at lists o) e ↔ IsNotedIn ways p.laid sites o e = λ o e. (
      λ h. relaid ways laid p.laid refl sites o e ((lists_are o e).0 h),
      λ h. (lists_are o e).1 (relaid ways p.laid laid refl sites o e h),
    ) in
    IfOk-weaker c.groups_of.result _ _
    (λ groups h. groups_are p
    (is_program program facts c.requires.analysable c.requires.facts) (tables_of (lists_of c.args.tables.now)) sites
    c.in_ok-sites.ensures ways ways_are lists are groups.items
    (subst (λ (ls : List (Vec ObjectAccess Global)). AreGroupsOf ls (length ls) groups.items) c.deref-4.ensures.value
    h)) c.groups_of.ensures
