-- The temporaries that are live where an edge leads.
use Rattle.std.specs.Prelude.{◌≡◌, ℕ, Bool, true, false, cond, List, [], ◌∷◌, ◌++◌, Option, Some, None, refl}
use Rattle.std.proofs.Common.{sym, ap, ◌∙◌, inl, inr}
use Rattle.std.proofs.lemmas.Bool.{cases_eq}
use Rattle.std.specs.Ordering.{nat_cmp}
use Rattle.std.specs.Option.{option_map}
use Rattle.std.specs.FinMap as map
use Rattle.std.specs.FinMap.{get, insert, retain_keys, get-empty}
use Rattle.tm_lattice.specs.Tables.{Table}
use Rattle.tm_lattice.specs.laws.TableLaws.{same_table, get-insert_here, get-insert_there}
use Rattle.tm_lattice.specs.laws.SelectedLaws.{changed_at, get-changed_table}
use Rattle.pointer_dom.specs.Values.{Values, no_value}
use Rattle.calculations.specs.transfer_rows.StateForms.{Temp, Cell, State, is_no_value}
use Rattle.calculations.specs.transfer_rows.Actions.{Around}
use Rattle.calculations.specs.transfer_rows.Accesses.{is_among}
use Rattle.calculations.specs.transfer_rows.Rows.{kept_copy, dropped, given, arrived}
use Rattle.calculations.proofs.low.transfer_rows.TableChanges.{get-kept}
use Rattle.calculations.proofs.low.transfer_rows.Steps.{none_is_none}
use Rattle.edge_effects.proofs.Common.{among_more_here, among_more_there}

module _ {V : Type 0} (before : Table V) where
  -- the table has of these keys what stood there before, and no other keys
  pub record Keeps (live : List ℕ) (after : Table V) : Type 0 where
    pub at : (key : ℕ) → get after key ≡ cond (is_among live key) (get before key) None

  pub keeps_none : Keeps [] map.empty
  keeps_none = record { at = λ key. get-empty nat_cmp key }

  pub keeps_put : (live : List ℕ) (x : ℕ) (v : V) (after : Table V) → get before x ≡ Some v → Keeps live after → Keeps (live ++ x ∷ []) (insert after x v)
  keeps_put live x v after here so = record {
    at = λ key. elim (cases_eq key x) [
      | inl same ↦
          get-insert_here after x v key same ∙ sym (ap (get before) same ∙ here)
          ∙ sym (ap (λ b. cond b (get before key) None) (among_more_here live x key same))
      | inr differ ↦
          get-insert_there after x v key differ ∙ so.at key ∙ sym (ap (λ b. cond b (get before key) None) (among_more_there live x key differ))
    ];
  }

  both_none : (b : Bool) (a : Option V) → a ≡ None → cond b a None ≡ a
  both_none true a none = refl
  both_none false a none = sym none

  pub keeps_skip : (live : List ℕ) (x : ℕ) (after : Table V) → get before x ≡ None → Keeps live after → Keeps (live ++ x ∷ []) after
  keeps_skip live x after none so = record {
    at = λ key. elim (cases_eq key x) [
      | inl same ↦ (let absent = ap (get before) same ∙ none in
          so.at key ∙ both_none (is_among live key) (get before key) absent ∙ sym (ap (λ b. cond b (get before key) None) (among_more_here live x key same)))
      | inr differ ↦ so.at key ∙ sym (ap (λ b. cond b (get before key) None) (among_more_there live x key differ))
    ];
  }

  pub keeps_all : (live : List ℕ) (after : Table V) → Keeps live after → after ≡ retain_keys before (is_among live)
  keeps_all live after so = same_table after (retain_keys before (is_among live)) (λ key. so.at key ∙ sym (get-kept before (is_among live) key))

  -- one key written, where it is kept
  module _ (live : List ℕ) (t : ℕ) (v : V) where
    pub with_kept : is_among live t ≡ true → insert (retain_keys before (is_among live)) t v ≡ retain_keys (insert before t v) (is_among live)
    with_kept sure = same_table (insert (retain_keys before (is_among live)) t v) (retain_keys (insert before t v) (is_among live)) (λ key. elim (cases_eq key t) [
      | inl same ↦
          get-insert_here (retain_keys before (is_among live)) t v key same
          ∙ sym (get-kept (insert before t v) (is_among live) key ∙ ap (λ b. cond b (get (insert before t v) key) None) (ap (is_among live) same ∙ sure) ∙ get-insert_here before t v key same)
      | inr differ ↦
          get-insert_there (retain_keys before (is_among live)) t v key differ ∙ get-kept before (is_among live) key
          ∙ sym (get-kept (insert before t v) (is_among live) key ∙ ap (λ a. cond (is_among live key) a None) (get-insert_there before t v key differ))
    ])

    pub without_kept : is_among live t ≡ false → retain_keys before (is_among live) ≡ retain_keys (insert before t v) (is_among live)
    without_kept never = same_table (retain_keys before (is_among live)) (retain_keys (insert before t v) (is_among live)) (λ key. elim (cases_eq key t) [
      | inl same ↦
          get-kept before (is_among live) key ∙ ap (λ b. cond b (get before key) None) (ap (is_among live) same ∙ never)
          ∙ sym (get-kept (insert before t v) (is_among live) key ∙ ap (λ b. cond b (get (insert before t v) key) None) (ap (is_among live) same ∙ never))
      | inr differ ↦
          get-kept before (is_among live) key
          ∙ sym (get-kept (insert before t v) (is_among live) key ∙ ap (λ a. cond (is_among live key) a None) (get-insert_there before t v key differ))
    ])

-- ---- copies that end

module _ (test : ℕ → Bool) (temps : Table Temp) where
  abbrev ended : ℕ → Temp → Temp
  ended t entry = record entry { copy = kept_copy test entry.copy }

  pub dropped_there : (x : ℕ) (entry kept : Temp) → get temps x ≡ Some entry → kept ≡ record entry { copy = kept_copy test entry.copy } → get (dropped test temps) x ≡ Some kept
  dropped_there x entry kept at is = get-changed_table ended temps x ∙ ap (changed_at ended x) at ∙ ap Some (sym is)

  pub dropped_absent : (x : ℕ) → get temps x ≡ None → get (dropped test temps) x ≡ None
  dropped_absent x at = get-changed_table ended temps x ∙ ap (changed_at ended x) at

-- no copy ends
pub none_dropped : (temps : Table Temp) → dropped (λ x. false) temps ≡ temps
none_dropped temps = same_table (dropped (λ x. false) temps) temps (λ key. get-changed_table (ended (λ x. false) temps) temps key ∙ same_entry key (get temps key))
  where
    same_copy : (c : Option ℕ) → kept_copy (λ x. false) c ≡ c
    same_copy None = refl
    same_copy (Some x) = refl

    same_entry : (key : ℕ) (a : Option Temp) → changed_at (ended (λ x. false) temps) key a ≡ a
    same_entry key None = refl
    same_entry key (Some e) = ap (λ c. Some (record e { copy = c })) (same_copy e.copy)

-- ---- a temporary that is given

pub given_nothing : (around : Around) (s : State) (t : ℕ) (v : Values) (copy : Option ℕ) → v ≡ no_value → None ≡ option_map (arrived around) (given s t v copy)
given_nothing around s t v copy none =
    sym (ap (λ b. option_map (arrived around) (cond b None (Some (record s { temps = insert s.temps t record { value = v; copy = copy } })))) (ap is_no_value none ∙ none_is_none))

pub given_something : (around : Around) (s : State) (t : ℕ) (v : Values) (copy : Option ℕ) (temps : Table Temp) (cells : Table Cell) → is_no_value v ≡ false
    → temps ≡ retain_keys (insert s.temps t record { value = v; copy = copy }) around.is_live → cells ≡ s.cells
    → Some record { temps = temps; cells = cells } ≡ option_map (arrived around) (given s t v copy)
given_something around s t v copy temps cells some temps-is cells-is =
    (λ i. Some record { temps = temps-is i; cells = cells-is i })
    ∙ sym (ap (λ b. option_map (arrived around) (cond b None (Some (record s { temps = insert s.temps t record { value = v; copy = copy } })))) some)

-- the temporaries that are kept, and the cells as they are, are the state where the edge leads
pub arrived_so : (around : Around) (s : State) (temps : Table Temp) → temps ≡ retain_keys (dropped (λ x. false) s.temps) around.is_live
    → (let after : State = record { temps = temps; cells = s.cells } in after ≡ arrived around s)
arrived_so around s temps is = λ i. record { temps = (is ∙ ap (λ t. retain_keys t around.is_live) (none_dropped s.temps)) i; cells = s.cells }
