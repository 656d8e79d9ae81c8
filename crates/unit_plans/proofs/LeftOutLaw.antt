-- What is left out stands in a whole declaration that defines nothing, and that another unit has token for token.
use Rattle.std.proofs.Common.{◌≡◌, ◌∙◌, ℕ, Bool, true, false, cond, refl, sym, ap, subst, List, [], ◌∷◌, ◌++◌, Option, Some, None, append_assoc, inl, inr, ⊎_elim}
use Rattle.std.specs.Prelude.{◌==◌, ◌&&◌, ◌⊎◌, not, map, slice_get}
use Rattle.std.specs.List.{AllByRecursion}
use Rattle.unit_plans.specs.Copies.{Copies, added, closed, copies_behind, declaration_to, earlier_at, earlier_keyed, earlier_to}
use Rattle.unit_plans.specs.Copies.{is_any_kept, is_same_text, key_of, knowns_of, may_leave, no_copies, one_added}
use Rattle.unit_plans.specs.LeftOut.{IsBegin, IsCopy, IsDeclaration, IsLeftRightly}
use Rattle.unit_plans.specs.Names.{first_named}
use Rattle.unit_plans.specs.declared.declarations.Known.{Known}
use Rattle.unit_plans.specs.declared.declarations.Local.{Local}
use Rattle.unit_plans.specs.declared.declarations.Sight.{Sight}

each_more : {X : Type 0} (P : X → Type 0) (xs : List X) (x : X) → AllByRecursion P xs → P x
    → AllByRecursion P (xs ++ x ∷ [])
each_more P [] x all here = (here, tt)
each_more P (y ∷ ys) x all here = (all.0, each_more P ys x all.1 here)

pick : (Q : Copies → Type 0) (b : Bool) (x y : Copies) → (b ≡ true → Q x) → (b ≡ false → Q y) → Q (cond b x y)
pick Q true x y f g = f refl
pick Q false x y f g = g refl

both : (a b : Bool) → (a && b) ≡ true → (a ≡ true) × (b ≡ true)
both true b h = (refl, h)
both false b h = absurd (cc)

not_true : (a : Bool) → not a ≡ true → a ≡ false
not_true true h = absurd (cc)
not_true false h = refl

-- a declaration with a key only declares
key_declares : (a b : Bool) (key : Option Local) (name : Local) → cond (a && b) key None ≡ Some name → b ≡ true
key_declares true true key name h = refl
key_declares true false key name h = absurd (cc)
key_declares false b key name h = absurd (cc)

-- a declaration is left out for nothing, or is a copy
module _ (all : List Sight) (kept : List (Option Local)) (own : List Sight) (last : Sight) where
  -- its key, and the number of the last token of the first declaration that has it
  record IsFirst (key : Local) (number : ℕ) : Type 0 where
    declares : last.spot.declares ≡ true
    keyed : key_of last ≡ Some key
    first : first_named key (map key_of all) ≡ Some number

  to_is : (key : Local) (number : ℕ) (other : Sight) → slice_get all number ≡ Some other → IsFirst key number → (b : Bool)
      → may_leave kept own last (declaration_to all number other) other ≡ b
      → (cond b (declaration_to all number other) [] ≡ []) ⊎ IsCopy all own last
  to_is key number other there is false leaves = inl refl
  to_is key number other there is true leaves =
      let p = both (not (other.unit == last.unit))
      (is_same_text (declaration_to all number other) own && not (is_any_kept kept own)) leaves in
      let q = both (is_same_text (declaration_to all number other) own) (not (is_any_kept kept own)) p.1 in
      inr (record {
        declares = is.declares;
        key = key;
        keyed = is.keyed;
        number = number;
        first = is.first;
        other = other;
        there = there;
        apart = not_true (other.unit == last.unit) p.0;
        same = q.0;
      })

  got_is : (key : Local) (number : ℕ) (got : Option Sight) → slice_get all number ≡ got → IsFirst key number
      → (earlier_to all kept own last number got ≡ []) ⊎ IsCopy all own last
  got_is key number None there is = inl refl
  got_is key number (Some other) there is =
      to_is key number other there is (may_leave kept own last (declaration_to all number other) other) refl

  at_is : (key : Local) (found : Option ℕ) → first_named key (map key_of all) ≡ found → last.spot.declares ≡ true
      → key_of last ≡ Some key → (earlier_at all kept own last found ≡ []) ⊎ IsCopy all own last
  at_is key None first declares keyed = inl refl
  at_is key (Some number) first declares keyed =
      got_is key number (slice_get all number) refl (record { declares = declares; keyed = keyed; first = first })

  keyed_is : (key : Option Local) → key_of last ≡ key
      → (earlier_keyed all kept own last key ≡ []) ⊎ IsCopy all own last
  keyed_is None is = inl refl
  keyed_is (Some name) is =
      at_is name (first_named name (map key_of all)) refl
      (key_declares last.ends last.spot.declares last.spot.key name is) is

-- tokens that are added stay, or are left out as they may be
module _ (P : Known → Type 0) (stays : (sight : Sight) → P (record { sight = sight; like = None })) where
  added_stays : (copies : Copies) (own : List Sight) → AllByRecursion P copies.knowns
      → AllByRecursion P (added copies own []).knowns
  added_stays copies [] each = each
  added_stays copies (sight ∷ sights) each =
      added_stays (one_added copies sight None) sights
      (each_more P copies.knowns (record { sight = sight; like = None }) each (stays sight))

  added_left : (whole before own others : List Sight) (copies : Copies) → whole ≡ before ++ own
      → ((sight other : Sight) (front behind : List Sight) → whole ≡ front ++ sight ∷ behind
      → P (record { sight = sight; like = Some other }))
      → AllByRecursion P copies.knowns → AllByRecursion P (added copies own others).knowns
  added_left whole before [] others copies is left each = each
  added_left whole before (sight ∷ sights) [] copies is left each =
      added_stays (one_added copies sight None) sights
      (each_more P copies.knowns (record { sight = sight; like = None }) each (stays sight))
  added_left whole before (sight ∷ sights) (other ∷ others) copies is left each =
      added_left whole (before ++ sight ∷ []) sights others (one_added copies sight (Some other))
      (is ∙ sym (append_assoc before (sight ∷ []) sights)) left
      (each_more P copies.knowns (record { sight = sight; like = Some other }) each (left sight other before sights is))

stays_rightly : (all : List Sight) (sight : Sight) → IsLeftRightly all (record { sight = sight; like = None })
stays_rightly all sight other h = absurd (cc)

closed_rightly : (all : List Sight) (copies : Copies) (own : List Sight) (last : Sight) → IsDeclaration all own last
    → AllByRecursion (IsLeftRightly all) copies.knowns
    → AllByRecursion (IsLeftRightly all) (closed all copies own last).knowns
closed_rightly all copies own last declaration each =
    ⊎_elim
    (λ none. subst (λ (others : List Sight). AllByRecursion (IsLeftRightly all) (added copies own others).knowns) (sym none)
    (added_stays (IsLeftRightly all) (stays_rightly all) copies own each))
    (λ copy. added_left (IsLeftRightly all) (stays_rightly all) own [] own
    (earlier_keyed all copies.kept own last (key_of last)) copies refl
    (λ sight other front behind member another like. record {
      own = own;
      last = last;
      before = front;
      behind = behind;
      member = member;
      declaration = declaration;
      copy = copy;
    }) each)
    (keyed_is all copies.kept own last (key_of last) refl)

moved : (before own : List Sight) (sight : Sight) (sights : List Sight)
    → before ++ (own ++ sight ∷ sights) ≡ (before ++ (own ++ sight ∷ [])) ++ ([] ++ sights)
moved before own sight sights = sym (simp append_assoc)

copies_rightly : (all before own sights : List Sight) (copies : Copies) → all ≡ before ++ (own ++ sights) → IsBegin before
    → AllByRecursion (λ (sight : Sight). sight.ends ≡ false) own → AllByRecursion (IsLeftRightly all) copies.knowns
    → AllByRecursion (IsLeftRightly all) (copies_behind all copies own sights).knowns
copies_rightly all before own [] copies is begins inside each = each
copies_rightly all before own (sight ∷ sights) copies is begins inside each =
    pick (λ c. AllByRecursion (IsLeftRightly all) c.knowns) sight.ends
    (copies_behind all (closed all copies (own ++ sight ∷ []) sight) [] sights)
    (copies_behind all copies (own ++ sight ∷ []) sights)
    (λ ends. copies_rightly all (before ++ (own ++ sight ∷ [])) [] sights (closed all copies (own ++ sight ∷ []) sight)
    (is ∙ moved before own sight sights)
    (inr (before ++ own, sight, sym (append_assoc before own (sight ∷ [])), ends)) tt
    (closed_rightly all copies (own ++ sight ∷ []) sight (record {
      before = before;
      front = own;
      rest = sights;
      there = is;
      whole = refl;
      begins = begins;
      goes_on = inside;
      ends = ends;
    }) each))
    (λ ends. copies_rightly all before (own ++ sight ∷ []) sights copies
    (is ∙ ap (λ (x : List Sight). before ++ x) (sym (append_assoc own (sight ∷ []) sights))) begins
    (each_more (λ (s : Sight). s.ends ≡ false) own sight inside ends) each)

pub left_rightly : (all : List Sight) → AllByRecursion (IsLeftRightly all) (knowns_of all)
unfolding knowns_of
left_rightly all = copies_rightly all [] [] all no_copies refl (inl refl) tt tt
