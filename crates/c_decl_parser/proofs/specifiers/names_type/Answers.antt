use Rattle.std.proofs.Common.{ap, ◌∙◌}
use Rattle.tm_terms.specs.ExprSpelling.{is_type_name_list}
use Rattle.c_decl_parser.proofs.specifiers.names_type.Goals as goal

pub returns : goal.returns
returns c = c.is_type_name_list.ensures ∙ ap is_type_name_list (c.deref.ensures.value ∙ c.in_ok-specs.ensures)
