use Rattle.std.proofs.Common.{◌≡◌, drop}
use Rattle.lowering.specs.Built.{stores_piece}
use Rattle.body_builder.specs.Fragments.{tree_in, so_far}
use Rattle.body_builder.proofs.here.Here.stores.Given as goal

-- the arguments that are left, behind those that are stored
abbrev pub invariant-loop-argument : goal.invariant-loop-argument
invariant-loop-argument l =
    stores_piece (tree_in l.self.laid.now) l.path l.number (drop l.argument-index l.arguments) l.place
    (so_far (tree_in l.self.laid.now) l.to)
    ≡ stores_piece (tree_in l.self.laid.now) l.path 0 l.arguments l.place
    (so_far (tree_in l.self.laid.now) l.initial.to)
