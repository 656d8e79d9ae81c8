use Rattle.std.proofs.Common.{None, refl}
use Rattle.tm_typed.specs.declared.files.TypedFile.{TypedFile}
use Rattle.engine_tests.proofs.EmptyFiles.{layable, empty}
use Rattle.engine_tests.proofs.layouts.file.Goals as goal

pub returns : goal.returns
returns c =
    let file : TypedFile = record {
      types = c.new.result;
      structs = c.new-2.result;
      statics = c.new-3.result;
      functions = c.new-4.result;
      calls = c.new-5.result;
      tasks = c.new-6.result;
      mutexes = c.new-7.result;
      main = None;
      lengths = c.new-8.result;
      constants = c.new-9.result;
      labels = c.new-10.result;
      sizes = c.new-11.result;
      order = c.new-12.result;
    } in
    layable file
    (empty file c.new.ensures.items c.new-2.ensures.items c.new-3.ensures.items c.new-4.ensures.items c.new-5.ensures.items c.new-6.ensures.items
    c.new-7.ensures.items c.new-8.ensures.items c.new-9.ensures.items c.new-10.ensures.items c.new-11.ensures.items refl) c.new-12.ensures.items
