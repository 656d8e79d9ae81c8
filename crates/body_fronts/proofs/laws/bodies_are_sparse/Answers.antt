use Rattle.body_fronts.specs.laws.SparseBody.{body_is_sparse}
use Rattle.body_fronts.specs.laws.BodySolved.{body_assignment_solves}
use Rattle.body_fronts.proofs.laws.bodies_are_sparse.Goals as goal

pub returns-clause-sparse : goal.returns-clause-sparse
returns-clause-sparse c =
    λ b sorts is tasks store store_fits entry entry_fits chosen chosen_is.
    body_is_sparse b sorts is tasks store store_fits entry entry_fits chosen chosen_is

pub returns-clause-solves : goal.returns-clause-solves
returns-clause-solves c =
    λ b sorts is tasks store store_fits entry entry_fits chosen chosen_is copies fresh pending a least allowed table
    expanded entry_traced traced.
    body_assignment_solves b sorts is tasks store store_fits entry entry_fits chosen chosen_is copies fresh pending a
    allowed table expanded chosen_is.looked entry_traced least traced
