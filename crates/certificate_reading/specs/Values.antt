-- Values by their words.
use Rattle.std.specs.Prelude.{◌≡◌, ℕ, ℤ, ◌≤ℤ◌, List, map, Option, Some, None}
use Rattle.strided_dom.specs.Progression.{Progression, empty, Has}
use Rattle.tm_laid.specs.declared.objects.LaidObject.{LaidObject}
use Rattle.tm_laid.specs.Layouts.{LaidTree}
use Rattle.pointer_dom.specs.PointerSets.{IsPointers}
use Rattle.pointer_dom.specs.Values.{Values}
use Rattle.post_recheck.specs.typed_values.Types.{AreObjects}
use Rattle.certificate_words.specs.Words.{Word}
use Rattle.certificate_texts.specs.ValueWords.{value_words}

-- the numbers of cells of the objects of a layout
abbrev pub AreSizes : LaidTree → List ℕ → Type 0
AreSizes laid sizes = sizes ≡ map (λ (o : LaidObject). o.cells) laid.objects

-- the words are those of the value, which has the property, and of no other value that has it
pub record IsValueOf (Fits : Values → Type 0) (words : List Word) (v : Values) : Type 0 where
  pub fits : Fits v
  pub is : words ≡ value_words v
  pub one : (w : Values) → Fits w → words ≡ value_words w → w ≡ v

-- the words are those of no value that has the property
pub record IsNoValueOf (Fits : Values → Type 0) (words : List Word) : Type 0 where
  pub never : (w : Values) → Fits w → words ≡ value_words w → ⊥

abbrev pub IsReadValue : (Values → Type 0) → List Word → Option Values → Type 0
IsReadValue Fits words None = IsNoValueOf Fits words
IsReadValue Fits words (Some v) = IsValueOf Fits words v

-- all numbers of the set lie between these
pub record LiesBetween (low high : ℤ) (s : Progression) : Type 0 where
  pub all : (z : ℤ) → Has s z → (low ≤ℤ z) × (z ≤ℤ high)

-- the value is of pointers to objects of the layout
abbrev pub IsPointing : LaidTree → Values → Type 0
IsPointing laid v = (v.numbers ≡ empty) × IsPointers v.pointers × AreObjects laid v.pointers
