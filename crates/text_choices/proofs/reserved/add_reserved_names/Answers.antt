use Rattle.std.proofs.Common.{List, length, map, ap, sym, subst, ◌∙◌}
use Rattle.std.specs.Prelude.{OnOk}
use Rattle.indexmap.specs.IndexMap.{get}
use Rattle.tm_terms.specs.Names.{is_same_name}
use Rattle.text_choices.specs.declared.kinds.Kind.TheVariants as Kinds
use Rattle.text_choices.specs.declared.reserved.Declared.{Declared as CodeDeclared}
use Rattle.text_choices.specs.Choices.{Adds, OfKind}
use Rattle.text_choices.specs.Texts.{Declared}
use Rattle.text_choices.specs.reading.Declared.{declared_of, IsReservedAmong}
use Rattle.text_choices.specs.reading.Foremost.{AreForemost}
use Rattle.text_choices.proofs.reserved.add_reserved_names.Goals as goal

pub add_told-requires : goal.add_told-requires
add_told-requires c =
    subst (λ (ds : List CodeDeclared). AreForemost ds (length ds) (get is_same_name c.in_ok-found.found))
    (c.deref.ensures.value ∙ sym c.deref-2.ensures.value) c.in_ok-found.ensures

pub returns : goal.returns
returns c =
    subst (λ (ds : List Declared). OnOk c.add_told.result (Adds c.args.choices.now.items c.add_told.new.choices.items (OfKind Kinds.Reserved (IsReservedAmong c.args.bytes.now ds))))
    (ap (map declared_of) c.deref-2.ensures.value ∙ c.in_ok-declared.ensures) c.add_told.ensures
