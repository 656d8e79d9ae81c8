use Rattle.std.proofs.Common.{◌≡◌, false, List, refl}
use Rattle.tm_terms.specs.declared.tokens.Name.{Name}
use Rattle.tm_terms.specs.declared.tokens.Word.TheVariants as Words
use Rattle.tm_terms.specs.declared.tokens.Token.{Token}
use Rattle.tm_trees.specs.DeclarationSpelling.{ByWord}
use Rattle.tm_trees.specs.FileTrees.{StatementTree, an_if, an_if_else, a_while, a_for}
use Rattle.tm_trees.specs.FileSpelling.{SpellsStatement}
use Rattle.tm_trees.specs.OpenIfs.{ends_with_open_if}
use Rattle.c_parser.proofs.laws.else_to_the_nearest_if.Goals as goal

-- no `else` follows
no_else : (types : List Name) (s : StatementTree) (ts rest after : List Token) → SpellsStatement types s ts rest → ByWord Words.Else rest after → ends_with_open_if s ≡ false
no_else types (an_if c s) ts rest after r by = absurd (r.5 after by)
no_else types (an_if_else c s q) ts rest after r by = no_else types q r.3 rest after r.8 by
no_else types (a_while c s) ts rest after r by = no_else types s r.1 rest after r.4 by
no_else types (a_for first c step s) ts rest after r by = no_else types s r.5 rest after r.12 by
no_else types _ ts rest after r by = refl

pub returns : goal.returns
returns c = λ types c s r ts rest p. no_else types s p.1 p.2 p.3 p.6 p.7
