use Rattle.std.proofs.Common.{◌≡◌, ◌<◌, ◌∙◌, ap, sym, map, length, arith, get_or, true, List}
use Rattle.std.specs.Prelude.{slice_set}
use Rattle.std.proofs.lemmas.List.{map-set, get_or-map}
use Rattle.tm_typed.specs.declared.scopes.FunctionEntry.{FunctionEntry}
use Rattle.tm_typed.specs.Scopes.{Scope, Function, function_of}
use Rattle.tm_typed.specs.Functions.{function, no_function}
use Rattle.c_scope.proofs.scopes.Scope.define_function.Goals as goal

pub returns-then-index-len : goal.returns-then-index-len
returns-then-index-len c =
    let xs = c.self.inside.functions.items in
    let n = c.args.number in
    let x : FunctionEntry = c.index_mut.result.now in
    let new : FunctionEntry = record x { defined = true } in
    let h : n < length xs = omega (arith, c.if-index-len.true, c.len.ensures) in
    let e = get_or-map function_of xs n x no_function h ∙ ap function_of (sym c.index_mut.ensures.value) in
    let view : List Function → Scope = λ fs. record {
      names = c.self.inside.names;
      tags = c.self.inside.tags;
      outer_names = c.self.inside.outer_names;
      outer_tags = c.self.inside.outer_tags;
      types = c.self.inside.types;
      structs = c.self.inside.structs;
      functions = fs;
    } in
    ap view (map-set function_of xs n new ∙ ap (λ (f : Function). slice_set (map function_of xs) n (record f { defined = true })) (sym e))
    ∙ ap (λ (s : Scope). record s { functions = slice_set s.functions n (record (function s n) { defined = true }) }) c.self.view_is
