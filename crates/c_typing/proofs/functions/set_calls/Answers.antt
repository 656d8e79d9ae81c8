use Rattle.std.proofs.Common.{ℕ}
use Rattle.std.specs.Prelude.{Vec}
use Rattle.std.specs.declared.alloc.Global.{Global}
use Rattle.std.proofs.lemmas.List.{map-set}
use Rattle.c_typing.proofs.functions.set_calls.Goals as goal

pub returns-then-index-calls : goal.returns-then-index-calls
returns-then-index-calls c = map-set (λ (v : Vec ℕ Global). v.items) c.args.calls.now c.args.index c.args.called
