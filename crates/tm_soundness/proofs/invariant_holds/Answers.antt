use Rattle.tm_soundness.specs.Numbered.{Program, Answer, Entries, Interpreter, shape_of, tables_of, source_of, KeepsTheInvariant}
use Rattle.tm_soundness.proofs.Soundness.{parts_hold}
use Rattle.tm_soundness.proofs.Judged.{IsJudged, judged}
use Rattle.tm_soundness.proofs.Tasks.{all_tasks, each_task}
use Rattle.tm_soundness.proofs.invariant_holds.Goals as goal

keeps : (p : Program) (a : Answer) (s : Entries p) (n : Interpreter (shape_of p)) → KeepsTheInvariant p a s n
keeps p a s n memory temps x C reached =
    let P = shape_of p in
    let T = tables_of p a s in
    let N = source_of P n in
    let j : IsJudged P T N x.shape x.solution memory temps x.entered x.lowered C =
    judged P T N x.shape x.solution memory temps x.entered x.lowered (all_tasks p.tasks) (each_task p N) C reached in
    record { world = j.world; reached = j.reached; image = j.image; writers = j.writers; parts = parts_hold P T j.world j.writers j.invariant }

pub returns : goal.returns
returns c = record { law = keeps }
