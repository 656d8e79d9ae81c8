use Rattle.std.proofs.Common.{◌≡◌, Err, None, Some, IfSome, sym, ap, ◌∙◌, subst}
use Rattle.tm_terms.specs.declared.refusals.Fail.{Fail}
use Rattle.tm_trees.specs.FileTrees.{file_tree}
use Rattle.tm_trees.specs.Parsing.{Parses, too_deep, spells, spells_none, answer_of}
use Rattle.c_parser.specs.reading.Founds.{whole}
use Rattle.c_parser.proofs.FileSound.{file_sound}
use Rattle.c_parser.proofs.FileComplete.{file_complete}
use Rattle.c_parser.proofs.FileSteps.{file_nonempty}
use Rattle.c_parser.proofs.files.parse.Goals as goal

pub place_of-requires : goal.place_of-requires
place_of-requires c = file_nonempty c.args.tokens.now (sym c.in-Ok-Stuck.ensures ∙ ap whole c.in-Ok-Stuck.field-0-is)

pub returns-in-Some : goal.returns-in-Some
returns-in-Some c = record {
  told = subst (λ (f : Fail). IfSome (answer_of (Err f)) (λ answer. Parses c.args.tokens.now answer)) (sym c.refused.ensures) (too_deep (sym c.in-Some.ensures));
}

pub returns-in-Ok-Found : goal.returns-in-Ok-Found
returns-in-Ok-Found c = record {
  told = spells (sym c.in-None.ensures) (file_sound c.args.tokens.now (file_tree c.in-Ok-Found.file) (sym c.in-Ok-Found.ensures ∙ ap whole c.in-Ok-Found.field-0-is));
}

pub returns-in-Ok-Stuck : goal.returns-in-Ok-Stuck
returns-in-Ok-Stuck c =
    let stuck = sym c.in-Ok-Stuck.ensures ∙ ap whole c.in-Ok-Stuck.field-0-is in
    let none = spells_none (sym c.in-None.ensures) (λ items is_file. let e = sym stuck ∙ file_complete c.args.tokens.now items is_file in cc) c.place_of.ensures in
    record { told = subst (λ (f : Fail). IfSome (answer_of (Err f)) (λ answer. Parses c.args.tokens.now answer)) (sym c.refused-in-Ok-Stuck.ensures) none }
