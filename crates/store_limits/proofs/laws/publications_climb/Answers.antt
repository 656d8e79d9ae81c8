use Rattle.store_limits.proofs.Climbing.{published_fits, published_above, published_nearer, published_same}
use Rattle.store_limits.proofs.laws.publications_climb.Goals as goal

pub returns : goal.returns
returns c = record {
  fits = published_fits;
  above = published_above;
  nearer = published_nearer;
  same = published_same;
}
