use Rattle.tm_soundness.specs.Section.{alone}
use Rattle.tm_soundness.specs.Numbered.{Program, Answer, Entries, Interpreter, Main, shape_of, section_of, tables_of, main_tables, source_of, KnowsEveryWorld, KnowsEveryWholeWorld}
use Rattle.tm_soundness.proofs.Known.{known, whole_known}
use Rattle.tm_soundness.proofs.Tasks.{all_tasks, each_task}
use Rattle.tm_soundness.proofs.every_world_is_known.Goals as goal

knows : (p : Program) (a : Answer) (s : Entries p) (n : Interpreter (shape_of p)) → KnowsEveryWorld p a s n
knows p a s n memory temps x C reached =
    let P = shape_of p in
    let N = source_of P n in
    known P (tables_of p a s) N x.shape x.solution memory temps x.entered x.lowered (all_tasks p.tasks) (each_task p N) C reached

knows_whole : (p : Program) (a : Answer) (s : Entries p) (n : Interpreter (shape_of p)) (x : Main) (b : Answer) (o : Interpreter (alone (shape_of p) (section_of p x))) → KnowsEveryWholeWorld p a s n x b o
knows_whole p a s n x b o memory main_temps temps y w reached =
    let P = shape_of p in
    let X = section_of p x in
    let N = source_of P n in
    let O = source_of (alone P X) o in
    whole_known P X (tables_of p a s) (main_tables p x b) y.shape y.solution y.main.shape y.main.solution y.apart memory main_temps temps y.main.entered y.handover O y.main.lowered N y.lowered (all_tasks p.tasks) (each_task p N) w reached

pub returns : goal.returns
returns c = record { plain = knows; with_section = knows_whole }
