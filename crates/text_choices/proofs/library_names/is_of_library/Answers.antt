use Rattle.text_choices.specs.Library.{library, row_0, row_1, row_2, row_3, row_4, row_5, row_6, row_7, row_8, row_9, row_10, row_11, row_12, row_13, row_14}
use Rattle.text_choices.specs.reading.Words.{words_of}
use Rattle.text_choices.proofs.TableLemmas.{table_is}
use Rattle.text_choices.proofs.library_names.is_of_library.Goals as goal

pub returns : goal.returns
unfolding words_of library row_0 row_1 row_2 row_3 row_4 row_5 row_6 row_7 row_8 row_9 row_10 row_11 row_12 row_13 row_14
returns c = table_is c.args.name.now library c.is_among.result c.is_among.ensures
