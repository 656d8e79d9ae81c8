use Rattle.std.proofs.Common.{true, false, sym, ap, ◌∙◌}
use Rattle.tm_terms.specs.ExprSpelling.{is_type_name_list}
use Rattle.c_expr_parser.proofs.TypeSteps.{type_name_is}
use Rattle.c_expr_parser.proofs.type_names.read_type_name.Goals as goal

pub returns-then-is_type_name_list : goal.returns-then-is_type_name_list
returns-then-is_type_name_list c =
    type_name_is c.args.types.now c.args.tokens.now c.in_ok-specs.specs.items c.in_ok-specs.after_specs.now c.in_ok-pointers.pointers.items c.in_ok-pointers.rest.now true c.in_ok-specs.ensures c.in_ok-pointers.ensures
    (ap is_type_name_list (sym c.deref.ensures.value) ∙ sym c.if-is_type_name_list.ensures)

pub returns : goal.returns
returns c =
    type_name_is c.args.types.now c.args.tokens.now c.in_ok-specs.specs.items c.in_ok-specs.after_specs.now c.in_ok-pointers.pointers.items c.in_ok-pointers.rest.now false c.in_ok-specs.ensures c.in_ok-pointers.ensures
    (ap is_type_name_list (sym c.deref.ensures.value) ∙ sym c.if-is_type_name_list.ensures)
