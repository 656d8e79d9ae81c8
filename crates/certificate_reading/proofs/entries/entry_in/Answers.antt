use Rattle.std.proofs.Common.{◌∙◌, ap, ◌∷◌}
use Rattle.tm_laid.specs.Layouts.{laid_tree}
use Rattle.certificate_words.specs.Words.{tag}
use Rattle.certificate_words.specs.Lines.{words_of}
use Rattle.certificate_reading.proofs.EntriesRead.{no_place}
use Rattle.certificate_reading.proofs.StoresRead.{sets_few}
use Rattle.certificate_reading.proofs.entries.entry_in.Goals as goal

pub returns-in_default-place_in : goal.returns-in_default-place_in
returns-in_default-place_in c =
    let laid = laid_tree c.args.laid.now in
    let kind = c.args.kind in
    let numbers = words_of c.in-Some.numbers.now in
    no_place laid kind c.requires.tasks c.requires.cells (sets_few laid kind) (words_of c.args.words.now) numbers
    (c.in-Some.ensures ∙ ap (λ l. tag l ∷ numbers) c.letters_of.ensures) c.in_default-place_in.ensures
