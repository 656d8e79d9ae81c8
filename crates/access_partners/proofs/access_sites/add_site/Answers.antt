use Rattle.std.proofs.Common.{◌<◌, refl, subst, length, IfSome, IfNone, arith, rules}
use Rattle.access_races.proofs.Cells.{added}
use Rattle.access_races.proofs.Joins.{pushed}
use Rattle.access_partners.specs.reading.Search.{IsIndex, HasNoIndex}
use Rattle.access_partners.proofs.Search.{added_at, not_added}
use Rattle.access_partners.proofs.access_sites.add_site.Goals as goal

pub returns-in_default : goal.returns-in_default
returns-in_default c =
    not_added c.args.accesses.now c.requires.rising c.args.site c.args.lists.now.items
    (subst (HasNoIndex c.args.accesses.now) c.access_of.ensures
    (subst (λ r. IfNone r (HasNoIndex c.args.accesses.now c.access_of.result)) c.in_default.is
    c.index_of.ensures.absent)) c.requires.count

pub returns : goal.returns
returns c =
    let accesses = c.args.accesses.now in
    let lists = c.args.lists.now.items in
    let at = c.in-Some.at in
    let index = subst (λ e. IsIndex accesses e at) c.access_of.ensures
    (subst (λ r. IfSome r (λ n. IsIndex accesses c.access_of.result n)) c.in-Some.is c.index_of.ensures.found) in
    let within : at < length lists = omega (arith, index.within, c.requires.count) in
    added_at accesses c.requires.rising c.args.site lists _ at index (search rules)
    (added lists lists at within (λ n. refl) c.index_mut.result.now c.push.new.self c.index_mut.ensures.value
    c.args.site
    (pushed c.index_mut.result.now.items c.push.new.self.items c.args.site c.in_ok-push.ensures.items))
