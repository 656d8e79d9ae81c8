use Rattle.std.proofs.Common.{◌∙◌, ap, take, length, arith}
use Rattle.access_partners.proofs.partners.partners_in.Goals as goal

pub returns : goal.returns
returns c = record {
  counted = let same = ap length c.in_ok-shown.ensures in
      let count = c.len-count.ensures in
      let ok = c.in_ok-shown.shown.ok.0 in
      omega (arith, same, count, ok);
  first_eight = c.truncate.ensures.items ∙ ap (take 8) c.in_ok-shown.ensures;
}
