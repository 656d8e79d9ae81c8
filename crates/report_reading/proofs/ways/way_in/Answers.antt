use Rattle.std.proofs.Common.{Some, None}
use Rattle.report_reading.proofs.Told.{class_cut, kind_cut, place_cut, site_cut}
use Rattle.report_reading.proofs.ways.way_in.Goals as goal

pub returns-in_err-place : goal.returns-in_err-place
returns-in_err-place c = λ w can e. absurd (place_cut w c.args.line.now None c.in_err-place.ensures.cases can e)

pub returns-in_err-class : goal.returns-in_err-class
returns-in_err-class c =
    λ w can e.
    let one = place_cut w c.args.line.now (Some (c.in_ok-place.place, c.in_ok-place.behind))
    c.in_ok-place.ensures.cases can e in
    absurd (class_cut w c.in_ok-place.behind.now None c.in_err-class.ensures.cases one.1)

pub returns-in_err-kind : goal.returns-in_err-kind
returns-in_err-kind c =
    λ w can e.
    let one = place_cut w c.args.line.now (Some (c.in_ok-place.place, c.in_ok-place.behind))
    c.in_ok-place.ensures.cases can e in
    let two = class_cut w c.in_ok-place.behind.now (Some (c.in_ok-class.class, c.in_ok-class.behind))
    c.in_ok-class.ensures.cases one.1 in
    absurd (kind_cut w c.in_ok-class.behind.now None c.in_err-kind.ensures.cases two.1)

pub returns-in_err-site : goal.returns-in_err-site
returns-in_err-site c =
    λ w can e.
    let one = place_cut w c.args.line.now (Some (c.in_ok-place.place, c.in_ok-place.behind))
    c.in_ok-place.ensures.cases can e in
    let two = class_cut w c.in_ok-place.behind.now (Some (c.in_ok-class.class, c.in_ok-class.behind))
    c.in_ok-class.ensures.cases one.1 in
    let three = kind_cut w c.in_ok-class.behind.now (Some (c.in_ok-kind.kind, c.in_ok-kind.behind))
    c.in_ok-kind.ensures.cases two.1 in
    absurd (site_cut w c.in_ok-kind.behind.now None c.in_err-site.ensures.cases can three.1)

pub returns : goal.returns
returns c =
    λ w can e.
    let one = place_cut w c.args.line.now (Some (c.in_ok-place.place, c.in_ok-place.behind))
    c.in_ok-place.ensures.cases can e in
    let two = class_cut w c.in_ok-place.behind.now (Some (c.in_ok-class.class, c.in_ok-class.behind))
    c.in_ok-class.ensures.cases one.1 in
    let three = kind_cut w c.in_ok-class.behind.now (Some (c.in_ok-kind.kind, c.in_ok-kind.behind))
    c.in_ok-kind.ensures.cases two.1 in
    let four = site_cut w c.in_ok-kind.behind.now (Some (c.in_ok-site.site, c.in_ok-site.said))
    c.in_ok-site.ensures.cases can three.1 in
    c.told.ensures w can.0 can.1 one.0 two.0 three.0 four.0 four.1
