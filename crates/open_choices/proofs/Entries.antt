-- What is looked for among the objects of a pointer, entry by entry.
use Rattle.std.proofs.Common.{◌≡◌, ◌≢◌, ◌↔◌, ◌⊎◌, ℕ, ◌<◌, inl, inr, refl, sym, ap, subst, ◌∙◌, List, length, get_or}
use Rattle.std.proofs.Common.{Option}
use Rattle.std.proofs.Common.{Some, None, ℤ, pos}
use Rattle.std.specs.Prelude.{Contains, IfSome}
use Rattle.std.specs.FinMap as map
use Rattle.strided_dom.specs.Progression.{Has, first_of}
use Rattle.strided_dom.proofs.Members.{not_in_empty, some_or_empty}
use Rattle.pointer_dom.specs.OffsetSets.{OffsetSet, IsOffsetSet, HasNoOffset, no_offset}
use Rattle.pointer_dom.specs.PointerSets.{Pointers, IsPointers, offsets_or_none, offsets_at}
use Rattle.pointer_dom.proofs.CommonFacts.{entry_found}
use Rattle.operand_orders.specs.Reached.{SolvedBody, IsOpen}
use Rattle.operand_orders.specs.access_races.reading.Ways.{HasOne}
use Rattle.open_choices.specs.Members.{Meets}
use Rattle.open_choices.specs.reading.Found.{LeadsOut, LeavesIn, MovesAway, HasBegin, HasOtherBegin}
use Rattle.open_choices.proofs.Searching.{has_entry}

-- ## Entries

abbrev pub IsClosed : SolvedBody → ℕ → ℕ × OffsetSet → Type 0
IsClosed b edge e = IsOpen b edge e.0 → ⊥

abbrev pub IsLeaving : SolvedBody → ℕ → (ℤ → Type 0) → ℕ × OffsetSet → Type 0
IsLeaving b target Steps e = LeavesIn b e.0 target e.1.offsets Steps

abbrev pub IsBeginning : ℕ × OffsetSet → Type 0
IsBeginning e = Has e.1.offsets (pos 0)

abbrev pub IsOtherBeginning : ℕ → ℕ × OffsetSet → Type 0
IsOtherBeginning object e = (object ≢ e.0) × Has e.1.offsets (pos 0)

abbrev pub IsEnding : Pointers → ℕ × OffsetSet → Type 0
IsEnding q e = Has e.1.offsets (pos e.1.size) × HasOtherBegin q e.0

found_at : (a : Option OffsetSet) (P : OffsetSet → Type 0) → (P no_offset → ⊥) → P (offsets_or_none a)
    → (o : OffsetSet) × (a ≡ Some o) × P o
found_at None P none h = absurd (none h)
found_at (Some o) P none h = (o, refl, h)

no_members : (n : ℤ) → (let o = no_offset in Has o.offsets n) → ⊥
no_members n h = not_in_empty n h

module _ (p : Pointers) (items : List (ℕ × OffsetSet)) (whole : items ≡ map.entries p.objects) where
  -- an entry is what stands there
  stands : (e : ℕ × OffsetSet) → Contains items e → map.get p.objects e.0 ≡ Some e.1
  stands e (k, lt, at) = entry_found p.objects items k e whole lt (sym at)

  at_entry : (P : OffsetSet → Type 0) (e : ℕ × OffsetSet) → Contains items e → P e.1 → P (offsets_at p e.0)
  at_entry P e has h = subst (λ a. P (offsets_or_none a)) (sym (stands e has)) h

  entry_at : (P : OffsetSet → Type 0) (key : ℕ) → (P no_offset → ⊥) → P (offsets_at p key)
      → (o : OffsetSet) × Contains items (key, o) × P o
  entry_at P key none h =
      let found = found_at (map.get p.objects key) P none h in
      (found.0, has_entry p.objects items whole key found.0 found.1, found.2)

  -- ## Uses

  module _ (b : SolvedBody) (edge : ℕ) where
    some_offset : (o : OffsetSet) → (HasNoOffset o → ⊥) → Has o.offsets (first_of o.offsets)
    some_offset o some = elim (some_or_empty o.offsets) [ inl h ↦ h | inr none ↦ absurd (some none) ]

    pub leads : IsPointers p → HasOne (IsClosed b edge) items → LeadsOut b edge p
    leads is h =
        let there = stands h.one h.has in
        let entry = subst (λ a. IfSome a (λ (o : OffsetSet). IsOffsetSet o × (HasNoOffset o → ⊥))) there (is h.one.0) in
        record {
          object = h.one.0;
          offset = first_of (h.one.1).offsets;
          has = at_entry (λ o. Has o.offsets (first_of (h.one.1).offsets)) h.one h.has (some_offset h.one.1 entry.1);
          closed = h.is;
        }

    pub led : LeadsOut b edge p → HasOne (IsClosed b edge) items
    led h =
        let found = entry_at (λ o. Has o.offsets h.offset) h.object (no_members h.offset) h.has in
        record { one = (h.object, found.0); has = found.1; is = h.closed }

  -- ## Moves

  module _ (b : SolvedBody) (target : ℕ) (Steps : ℤ → Type 0) where
    pub moves : HasOne (IsLeaving b target Steps) items → MovesAway b target p Steps
    moves h = record {
      object = h.one.0;
      leaves = at_entry (λ o. LeavesIn b h.one.0 target o.offsets Steps) h.one h.has h.is;
    }

    pub moved : MovesAway b target p Steps → HasOne (IsLeaving b target Steps) items
    moved h =
        let found = entry_at (λ o. LeavesIn b h.object target o.offsets Steps) h.object
        (λ l. no_members (pos l.offset) l.has) h.leaves in
        record { one = (h.object, found.0); has = found.1; is = found.2 }

  -- ## Beginnings and ends

  pub begins : HasOne IsBeginning items → HasBegin p
  begins h = record { object = h.one.0; begin = at_entry (λ o. Has o.offsets (pos 0)) h.one h.has h.is }

  pub begun : HasBegin p → HasOne IsBeginning items
  begun h =
      let found = entry_at (λ o. Has o.offsets (pos 0)) h.object (no_members (pos 0)) h.begin in
      record { one = (h.object, found.0); has = found.1; is = found.2 }

  module _ (object : ℕ) where
    pub begins_other : HasOne (IsOtherBeginning object) items → HasOtherBegin p object
    begins_other h = record {
      other = h.one.0;
      apart = h.is.0;
      begin = at_entry (λ o. Has o.offsets (pos 0)) h.one h.has h.is.1;
    }

    pub begun_other : HasOtherBegin p object → HasOne (IsOtherBeginning object) items
    begun_other h =
        let found = entry_at (λ o. Has o.offsets (pos 0)) h.other (no_members (pos 0)) h.begin in
        record { one = (h.other, found.0); has = found.1; is = (h.apart, found.2) }

  module _ (q : Pointers) where
    pub meets : HasOne (IsEnding q) items → Meets p q
    meets h = record {
      object = h.one.0;
      other = h.is.1.other;
      apart = h.is.1.apart;
      end = at_entry (λ o. Has o.offsets (pos o.size)) h.one h.has h.is.0;
      begin = h.is.1.begin;
    }

    pub met : Meets p q → HasOne (IsEnding q) items
    met h =
        let found = entry_at (λ o. Has o.offsets (pos o.size)) h.object (no_members (pos 0)) h.end in
        record {
          one = (h.object, found.0);
          has = found.1;
          is = (found.2, record { other = h.other; apart = h.apart; begin = h.begin });
        }

-- one that meets another one meets a beginning
pub meets_begin : (p q : Pointers) → Meets p q → HasBegin q
meets_begin p q h = record { object = h.other; begin = h.begin }
