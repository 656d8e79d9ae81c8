use Rattle.std.proofs.Common.{◌↔◌, ℕ, List, Vec, get_or, refl, subst}
use Rattle.std.specs.Prelude.{Contains}
use Rattle.std.specs.declared.alloc.Global.{Global}
use Rattle.std.proofs.lemmas.Result.{IfOk-weaker}
use Rattle.tm_laid.specs.Layouts.{laid_tree}
use Rattle.post_recheck.specs.program_equations.Solutions.{tables_of}
use Rattle.post_recheck.specs.program_systems.ProgramFacts.{program_with}
use Rattle.post_recheck.proofs.low.program_systems.Bodies.{is_program}
use Rattle.post_recheck.specs.Pairs.{lists_of}
use Rattle.access_races.specs.declared.accesses.Way.{Way}
use Rattle.access_races.specs.reading.Ways.{list_at}
use Rattle.access_groups.specs.declared.site.Site.{Site}
use Rattle.access_partners.specs.Lists.{AreEach}
use Rattle.access_groups.specs.reading.Sites.{IsWayOfSite}
use Rattle.access_partners.specs.reading.Accesses.{IsSiteTo}
use Rattle.access_partners.specs.reading.Found.{AreFoundOf}
use Rattle.access_partners.proofs.Lists.{has_at}
use Rattle.access_partners.proofs.Exact.{all_details_are}
use Rattle.access_partners.proofs.tables.access_details.Goals as goal

pub all_details-requires : goal.all_details-requires
all_details-requires c = λ k d lt.
    let groups = c.args.groups.now in
    (c.requires.groups.each (get_or groups k d) (has_at groups k d lt)).rising

pub returns : goal.returns
returns c =
    let program = c.args.program.now in
    let facts = c.args.facts.now in
    let p = program_with program facts in
    let tables = tables_of (lists_of c.args.tables.now) in
    let sites = c.in_ok-sites.sites.items in
    let ways = c.in_ok-ways.ways.items in
    let lists = c.in_ok-by_object.by_object.items in
    let ways_are = subst (λ (xs : List Site). (cell : ℕ) (w : Way) → Contains (list_at ways cell) w
    ↔ IsWayOfSite xs cell w) c.deref.ensures.value c.in_ok-ways.ensures in
    let lists_are = subst (λ (xs : List Site). (o : ℕ) (x : Site) → Contains (list_at lists o) x
    ↔ IsSiteTo xs (laid_tree program.laid) o x) c.deref-2.ensures.value c.in_ok-by_object.ensures in
    IfOk-weaker c.all_details.result _ _
    (λ details h. all_details_are p (is_program program facts c.requires.analysable c.requires.facts) tables sites
    c.in_ok-sites.ensures ways ways_are (laid_tree program.laid) refl lists lists_are c.args.groups.now
    c.requires.groups details.items
    (subst (λ (ls : List (Vec Site Global)). AreEach (AreFoundOf ways ls) c.args.groups.now details.items)
    c.deref-4.ensures.value
    (subst (λ (ws : List (Vec Way Global)). AreEach (AreFoundOf ws c.deref-4.result.now) c.args.groups.now
    details.items) c.deref-3.ensures.value h))) c.all_details.ensures
