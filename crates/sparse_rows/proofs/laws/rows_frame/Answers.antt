use Rattle.sparse_rows.specs.laws.Frames as frames
use Rattle.sparse_rows.proofs.laws.rows_frame.Goals as goal

pub returns-clause-leaves : goal.returns-clause-leaves
returns-clause-leaves c = λ x around action s store leaves. frames.rows_frame x around action s store leaves

pub returns-clause-carries : goal.returns-clause-carries
returns-clause-carries c = λ x around action s store passes. frames.rows_carry x around action s store passes
