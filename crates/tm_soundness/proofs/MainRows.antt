-- The initial section by the rows: it hears no store, and what it adds is left out.
use Rattle.tm_soundness.specs.Tables.{Tables}
use Rattle.tm_soundness.specs.Shape.{Shape}
use Rattle.tm_soundness.specs.Covers.{IsSolution}
use Rattle.tm_soundness.specs.Section.{Section, alone, only}
use Rattle.tm_soundness.specs.Rows.{Domain, IsDomain, Store, Table, Finders, IsFinding, IsCovered, IsLively, IsCalculating, tabled}
use Rattle.tm_soundness.proofs.FromRows.{from_rows, alone_heard}

module _ (P : Shape) (X : Section P) (D : Domain (alone P X)) (F : Finders (alone P X) D) (laws : IsDomain (alone P X) D) (finding : IsFinding (alone P X) D F) (lively : IsLively (alone P X) D F) (calculating : IsCalculating (alone P X) D F)
    (table : Table (alone P X) D) (bottom : Store (alone P X) D) (covered : IsCovered (alone P X) D F table bottom) where
  abbrev pub section_tables : Tables (alone P X)
  section_tables = tabled (alone P X) D F table (λ _ _ _ _. Unit {0}) (λ _ _ _ _. Unit {0})

  pub main_solution : IsSolution (alone P X) section_tables
  main_solution = from_rows (alone P X) D F laws finding lively calculating table bottom covered (λ _ _ _ _. Unit {0}) (λ _ _ _ _. Unit {0}) (alone_heard (alone P X) D F only table bottom)
