-- To which stores null pointers are traced.
use Rattle.std.specs.Prelude.{Bool, Option, IsTrue, IfSome}
use Rattle.value_origins.specs.declared.stores.StoreSite.{StoreSite}

-- Where a load may give the null pointer, the store to which it is traced may store it, if there is such a store.
abbrev pub GivesNull : Bool → Option StoreSite → Type 0
GivesNull null site = IfSome site (λ s. IsTrue null → IsTrue s.values.null)
