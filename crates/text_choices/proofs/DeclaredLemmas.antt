-- What files declare, part by part, and which declaration of a name is told.
use Rattle.std.proofs.Common.{◌≡◌, ℕ, ◌+◌, ◌<◌, Bool, true, false, ◌||◌, List, [], ◌∷◌, ◌++◌, length, get_or, take, drop, map, Option, Some, None, refl, sym, ap, subst, ◌∙◌, arith}
use Rattle.std.specs.Prelude.{◌↔◌, Contains, IsTrue, is_some, codes}
use Rattle.std.proofs.lemmas.List.{at_drop_more, map_more, append_assoc, length-map, get_or-map}
use Rattle.tm_trees.specs.declared.declarations.Specifier.{Specifier}
use Rattle.tm_trees.specs.declared.declarations.InitDeclarator.{InitDeclarator}
use Rattle.tm_trees.specs.declared.files.Item.{Item}
use Rattle.tm_trees.specs.declared.statements.Block.{Block}
use Rattle.tm_terms.specs.declared.places.Place.{Place}
use Rattle.tm_terms.specs.declared.types_named.Storage.{Storage}
use Rattle.tm_terms.specs.Spelling.{text_of}
use Rattle.tm_trees.specs.DeclarationTrees.{SpecifierTrees, and_specifier, specifier_tree, specifier_trees, InitDeclaratorTree, init_declarator_tree}
use Rattle.tm_trees.specs.FileTrees.{ItemTree, item_tree, body_tree}
use Rattle.text_choices.specs.Library.{library}
use Rattle.text_choices.specs.Texts.{Declared, has_storage, objects_of, declared_by, declared_in, IsReservedName, of_library, builtin, synchronised, atomic}
use Rattle.text_choices.specs.declared.kinds.Kind.TheVariants as Kinds
use Rattle.text_choices.specs.declared.kinds.Choice.{Choice}
use Rattle.text_choices.specs.declared.reserved.Declared.{Declared as CodeDeclared}
use Rattle.text_choices.specs.Choices.{Adds, OfKind}
use Rattle.text_choices.specs.reading.Added.{OneBelow}
use Rattle.text_choices.specs.reading.Declared.{declared_of, Yields, IsTold, IsReservedAmong}
use Rattle.text_choices.specs.reading.Foremost.{no_declared, YieldsTo, IsForemost}
use Rattle.text_choices.proofs.Additions.{Adds-same, Adds-one_more}
use Rattle.text_choices.proofs.TokenLemmas.{choice_is}

-- ## Storage classes

pub storage_here : (w : Storage) (xs : List Specifier) (i : ℕ) (s : Specifier) (b : Bool) → i < length xs → s ≡ get_or xs i s
    → ((rest : SpecifierTrees) → has_storage w (and_specifier (specifier_tree s) rest) ≡ (b || has_storage w rest))
    → has_storage w (specifier_trees xs) ≡ has_storage w (specifier_trees (drop i xs))
    → has_storage w (specifier_trees xs) ≡ (b || has_storage w (specifier_trees (drop (i + 1) xs)))
storage_here w xs i s b h is law before =
    before ∙ at_drop_more (λ ys. has_storage w (specifier_trees ys)) xs i s h
    ∙ ap (λ y. has_storage w (and_specifier (specifier_tree y) (specifier_trees (drop (i + 1) xs)))) (sym is)
    ∙ law (specifier_trees (drop (i + 1) xs))

-- ## What is declared, one thing more

objects_more : (internal : Bool) (xs : List InitDeclaratorTree) (d : InitDeclaratorTree) → objects_of internal (xs ++ d ∷ []) ≡ objects_of internal xs ++ objects_of internal (d ∷ [])
objects_more internal [] d = refl
objects_more internal (x ∷ xs) d = ap (λ ys. objects_of internal (x ∷ []) ++ ys) (objects_more internal xs d)

pub objects_step : (internal : Bool) (ds : List InitDeclarator) (i : ℕ) (d : InitDeclarator) (before : List Declared) → i < length ds → d ≡ get_or ds i d
    → (before ++ objects_of internal (map init_declarator_tree (take i ds))) ++ objects_of internal (init_declarator_tree d ∷ [])
    ≡ before ++ objects_of internal (map init_declarator_tree (take (i + 1) ds))
objects_step internal ds i d before h is =
    append_assoc before _ _
    ∙ ap (λ ys. before ++ ys) (sym (ap (objects_of internal) (map_more init_declarator_tree ds i d h ∙ ap (λ y. map init_declarator_tree (take i ds) ++ init_declarator_tree y ∷ []) (sym is)) ∙ objects_more internal (map init_declarator_tree (take i ds)) (init_declarator_tree d)))

items_more : (xs : List ItemTree) (i : ItemTree) → declared_in (xs ++ i ∷ []) ≡ declared_in xs ++ declared_by i
items_more [] i = append_nil (declared_by i)
  where
    append_nil : (ys : List Declared) → ys ++ [] ≡ ys
    append_nil [] = refl
    append_nil (y ∷ ys) = ap (λ zs. y ∷ zs) (append_nil ys)
items_more (x ∷ xs) i = ap (λ ys. declared_by x ++ ys) (items_more xs i) ∙ sym (append_assoc (declared_by x) (declared_in xs) (declared_by i))

pub items_step : (items : List Item) (k : ℕ) (i : Item) → k < length items → i ≡ get_or items k i
    → declared_in (map item_tree (take k items)) ++ declared_by (item_tree i) ≡ declared_in (map item_tree (take (k + 1) items))
items_step items k i h is =
    sym (ap declared_in (map_more item_tree items k i h ∙ ap (λ y. map item_tree (take k items) ++ item_tree y ∷ []) (sym is)) ∙ items_more (map item_tree (take k items)) (item_tree i))

pub some_body : (b : Option Block) → is_some (body_tree b) ≡ is_some b
some_body None = refl
some_body (Some b) = refl

-- ## Names

abbrev pub BeginsWith : List ℕ → List ℕ → Type 0
BeginsWith text front = (rest : List ℕ) × (text ≡ front ++ rest)

pub library_only : (text : List ℕ) → (BeginsWith text (codes "__builtin_") → ⊥) → (BeginsWith text (codes "__sync_") → ⊥) → (BeginsWith text (codes "__atomic_") → ⊥)
    → IsReservedName text → Contains library text
library_only text a b d (of_library h) = h
library_only text a b d (builtin rest e) = absurd (a (rest, e))
library_only text a b d (synchronised rest e) = absurd (b (rest, e))
library_only text a b d (atomic rest e) = absurd (d (rest, e))

-- a front that is given in other words
pub some_front : (text front given : List ℕ) (r : Bool) → given ≡ front → IsTrue r ↔ BeginsWith text given → r ≡ true → BeginsWith text front
some_front text front given r e decides h = let w = decides.0 h in (w.0, w.1 ∙ ap (λ f. f ++ w.0) e)

pub no_front : (text front given : List ℕ) (r : Bool) → given ≡ front → IsTrue r ↔ BeginsWith text given → r ≡ false → BeginsWith text front → ⊥
no_front text front given r e decides h w = let t : r ≡ true = decides.1 (w.0, w.1 ∙ ap (λ f. f ++ w.0) (sym e)) in cc

-- ## Which declaration is told

abbrev pub AllYield : List CodeDeclared → Declared → Type 0
AllYield declared it = (k : ℕ) → k < length declared → Yields it (declared_of (get_or declared k no_declared))

module _ (bytes : List ℕ) (declared : List CodeDeclared) where
  told_is : (it : Declared) → IsReservedName (text_of bytes it.name) → AllYield declared it → IsTold bytes (map declared_of declared) it
  told_is it named yield = record {
    named = named;
    yielded = λ d c.
        let inside : c.0 < length declared = omega (arith, c.1, length-map declared declared_of) in
        let same : declared_of (get_or declared c.0 no_declared) ≡ d = sym (get_or-map declared_of declared c.0 no_declared d inside) ∙ c.2 in
        subst (λ e. Yields it e) same (yield c.0 inside);
  }

  told_yield : (it : Declared) → IsTold bytes (map declared_of declared) it → AllYield declared it
  told_yield it told = λ k inside.
      told.yielded (declared_of (get_or declared k no_declared))
      (k, omega (arith, length-map declared declared_of), get_or-map declared_of declared k no_declared (declared_of (get_or declared k no_declared)) inside)

  -- what is kept of its name decides
  pub told_by : (it : CodeDeclared) (kept : Option CodeDeclared) (b : Bool) → IsForemost declared (length declared) it.name kept
      → IsTrue b ↔ (YieldsTo kept (declared_of it) × IsReservedName (text_of bytes it.name)) → IsTrue b ↔ IsTold bytes (map declared_of declared) (declared_of it)
  told_by it kept b foremost decides = (
    (λ h. let p = decides.0 h in told_is (declared_of it) p.1 ((foremost.decides (declared_of it) refl).0 p.0)),
    (λ t. decides.1 ((foremost.decides (declared_of it) refl).1 (told_yield (declared_of it) t), t.named)),
  )

  -- a name is told at the place of one of the declarations
  pub record ToldAt (k : ℕ) (place : Place) : Type 0 where
    pub it : Declared
    pub stands : get_or (map declared_of declared) k it ≡ it
    pub is : it.place ≡ place
    pub told : IsTold bytes (map declared_of declared) it

  abbrev pub ToldBelow : ℕ → Choice → Type 0
  ToldBelow n = OneBelow n (λ k. OfKind Kinds.Reserved (ToldAt k))

  abbrev Here : ℕ → Bool → Choice → Type 0
  Here k b x = IsTrue b × (x ≡ record { place = (get_or declared k no_declared).place; kind = Kinds.Reserved })

  told_here : (k : ℕ) (b : Bool) → k < length declared → IsTrue b ↔ IsTold bytes (map declared_of declared) (declared_of (get_or declared k no_declared))
      → (x : Choice) → Here k b x → OfKind Kinds.Reserved (ToldAt k) x
  told_here k b inside decides x h =
      let it = declared_of (get_or declared k no_declared) in (
        ap (λ (y : Choice). y.kind) h.1,
        record { it = it; stands = get_or-map declared_of declared k no_declared it inside; is = sym (ap (λ (y : Choice). y.place) h.1); told = decides.0 h.0 },
      )

  here_told : (k : ℕ) (b : Bool) → k < length declared → IsTrue b ↔ IsTold bytes (map declared_of declared) (declared_of (get_or declared k no_declared))
      → (x : Choice) → OfKind Kinds.Reserved (ToldAt k) x → Here k b x
  here_told k b inside decides x h =
      let same : declared_of (get_or declared k no_declared) ≡ h.1.it = sym (get_or-map declared_of declared k no_declared h.1.it inside) ∙ h.1.stands in (
        decides.1 (subst (IsTold bytes (map declared_of declared)) (sym same) h.1.told),
        choice_is x Kinds.Reserved (get_or declared k no_declared).place h.0 (sym h.1.is ∙ sym (ap (λ (y : Declared). y.place) same)),
      )

  pub told_more : (k : ℕ) (b : Bool) (old new newer : List Choice) → k < length declared
      → IsTrue b ↔ IsTold bytes (map declared_of declared) (declared_of (get_or declared k no_declared))
      → Adds old new (ToldBelow k) → Adds new newer (Here k b) → Adds old newer (ToldBelow (k + 1))
  told_more k b old new newer inside decides before here =
      Adds-one_more old new newer k (λ n. OfKind Kinds.Reserved (ToldAt n)) before
      (Adds-same new newer (Here k b) (OfKind Kinds.Reserved (ToldAt k)) (told_here k b inside decides) (here_told k b inside decides) here)

  pub told_all : (n : ℕ) (old new : List Choice) → n ≡ length declared → Adds old new (ToldBelow n)
      → Adds old new (OfKind Kinds.Reserved (IsReservedAmong bytes (map declared_of declared)))
  told_all n old new same h =
      Adds-same old new (ToldBelow n) (OfKind Kinds.Reserved (IsReservedAmong bytes (map declared_of declared)))
      (λ x c. (c.2.0, record { it = c.2.1.it; stands = (c.0, omega (arith, c.1, length-map declared declared_of), c.2.1.stands); is = c.2.1.is; told = c.2.1.told }))
      (λ x c. (c.1.stands.0, omega (arith, c.1.stands.1, length-map declared declared_of), (c.0, record { it = c.1.it; stands = c.1.stands.2; is = c.1.is; told = c.1.told })))
      h
