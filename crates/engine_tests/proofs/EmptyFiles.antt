-- A file in which nothing stands can be laid out.
use Rattle.std.proofs.Common.{◌≡◌, ◌<◌, ℕ, [], None, sym, subst, arith, refl}
use Rattle.tm_typed.specs.declared.files.TypedFile.{TypedFile}
use Rattle.tm_typed.specs.declared.types.CType.TheVariants as Types
use Rattle.tm_typed.specs.TypedFiles.{typed_file_tree}
use Rattle.tm_typed.specs.Files.{TypedFileTree}
use Rattle.tm_laid.specs.Layable.{IsLayable, HasRanks}

abbrev pub empty_file : TypedFileTree
empty_file = record {
  types = [];
  structs = [];
  statics = [];
  functions = [];
  calls = [];
  tasks = [];
  mutexes = [];
  main = None;
  lengths = [];
  constants = [];
  labels = [];
  sizes = [];
}

-- a file is empty where none of its lists has an element
pub empty : (f : TypedFile) → f.types.items ≡ [] → f.structs.items ≡ [] → f.statics.items ≡ [] → f.functions.items ≡ []
    → f.calls.items ≡ [] → f.tasks.items ≡ [] → f.mutexes.items ≡ [] → f.lengths.items ≡ [] → f.constants.items ≡ []
    → f.labels.items ≡ [] → f.sizes.items ≡ [] → f.main ≡ None → typed_file_tree f ≡ empty_file
empty f types structs statics functions calls tasks mutexes lengths constants labels sizes main = cc

no_array : (element count : ℕ) → Types.Void ≡ Types.Array element count → 0 < 0
no_array element count e = absurd (cc)

ranks : HasRanks empty_file
ranks = record {
  rank = λ n. 0;
  deep = λ n h. absurd (omega (arith, h));
  elements = λ n element count e. no_array element count e;
  members = λ n k e j d h. absurd (omega (arith, h));
}

empty_layable : IsLayable empty_file []
empty_layable = record {
  rows = λ k d h. absurd (omega (arith, h));
  structures = λ k d h. absurd (omega (arith, h));
  ranks = ranks;
  statics = λ k d h. absurd (omega (arith, h));
  locals = λ f k d h. absurd (omega (arith, h));
  graph = refl;
  calls = λ k d h. absurd (omega (arith, h));
  bodies = λ k d h. absurd (omega (arith, h));
  callees_first = tt;
  within = λ k d h. absurd (omega (arith, h));
  whole = λ f h. absurd (omega (arith, h));
}

pub layable : (f : TypedFile) → typed_file_tree f ≡ empty_file → f.order.items ≡ [] → IsLayable (typed_file_tree f) f.order.items
layable f file-is order-is =
    subst (λ t. IsLayable t f.order.items) (sym file-is) (subst (IsLayable empty_file) (sym order-is) empty_layable)
