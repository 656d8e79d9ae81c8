use Rattle.sparse_rows.specs.laws.Local.{rows_local}
use Rattle.sparse_rows.proofs.laws.rows_look_where_they_may.Goals as goal

pub returns : goal.returns
returns c = λ looks around action s t store may agree. rows_local around looks action s t store may agree
