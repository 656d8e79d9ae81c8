-- Types in words of C: what a type is made of at last stands first, then a star for each pointer, then the lengths of
-- arrays (C99 6.7.6, without the parentheses of a pointer to an array).
use Rattle.std.specs.Prelude.{ℕ, zero, suc, ◌==◌, cond, List, [], ◌++◌, length, get_or, codes}
use Rattle.tm_terms.specs.declared.tokens.Name.{Name}
use Rattle.tm_terms.specs.Spelling.{text_of}
use Rattle.tm_typed.specs.declared.types.CType.{CType}
use Rattle.tm_typed.specs.declared.types.CType.TheVariants as Types
use Rattle.tm_typed.specs.declared.types.Qualified.{Qualified}
use Rattle.tm_typed.specs.Files.{TypedFileTree}
use Rattle.tm_laid.specs.TypeCells.{entry_of}
use Rattle.notes_json.specs.Pieces.{number_text}
use Rattle.notes_json.specs.Words.{type_text}

-- the qualifiers (C99 6.7.3)
abbrev pub qualifier_words : Qualified → List ℕ
qualifier_words of = cond of.constant (codes "const ") [] ++ cond of.volatile (codes "volatile ") []

abbrev pub no_tag : Name
no_tag = record { start = 0; length = 0 }

-- a tag, if there is one
abbrev pub tag_words : List ℕ → Name → List ℕ
tag_words bytes tag = cond (tag.length == 0) [] (codes " " ++ text_of bytes tag)

-- a type of which others are made, where structures have these tags
abbrev pub base_words : List ℕ → List Name → CType → List ℕ
base_words bytes tags Types.Void = codes "void"
base_words bytes tags (Types.Int t) = type_text t
base_words bytes tags (Types.Struct k) = codes "struct" ++ tag_words bytes (get_or tags k no_tag)
base_words bytes tags (Types.Pointer q) = []
base_words bytes tags (Types.Array e n) = []

-- What is read of a type from outside: the lengths of an array, what stands behind them, and the type that is left.
pub record Outside : Type 0 where
  pub lengths : List ℕ
  pub behind : List ℕ
  pub left : Qualified

-- a pointer stands before what is read so far
abbrev pub pointed : Outside → Qualified → Outside
pointed o to = record {
  lengths = [];
  behind = codes " *" ++ (cond o.left.constant (codes "const") [] ++ (o.lengths ++ o.behind));
  left = to;
}

-- the length of an array stands behind those that are read so far
abbrev pub measured : Outside → ℕ → ℕ → Outside
measured o element n = record {
  lengths = o.lengths ++ (number_text (codes "[") n ++ codes "]");
  behind = o.behind;
  left = record { number = element; constant = o.left.constant; volatile = o.left.volatile };
}

abbrev pub one_read : Outside → CType → Outside
one_read o (Types.Pointer to) = pointed o to
one_read o (Types.Array element n) = measured o element n
one_read o Types.Void = o
one_read o (Types.Int t) = o
one_read o (Types.Struct k) = o

-- so many pointers and arrays more are read
abbrev pub all_read : TypedFileTree → ℕ → Outside → Outside
all_read file zero o = o
all_read file (suc depth) o = all_read file depth (one_read o (entry_of file o.left.number).ctype)

abbrev pub nothing_read : Qualified → Outside
nothing_read of = record { lengths = []; behind = []; left = of }

abbrev pub words_of : List ℕ → List Name → TypedFileTree → Outside → List ℕ
words_of bytes tags file o =
    qualifier_words o.left ++ (base_words bytes tags (entry_of file o.left.number).ctype ++ (o.lengths ++ o.behind))

-- the words of a type: none is made of more types than there are
abbrev pub type_words : List ℕ → List Name → TypedFileTree → Qualified → List ℕ
type_words bytes tags file of = words_of bytes tags file (all_read file (length file.types) (nothing_read of))
