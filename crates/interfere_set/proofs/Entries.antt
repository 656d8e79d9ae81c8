-- The table of one entry.
use Rattle.std.proofs.Common.{◌≡◌, ℕ, Bool, true, false, cond, Option, Some, None, sym, ap, ◌∙◌, refl}
use Rattle.std.specs.Ordering.{nat_cmp}
use Rattle.std.specs.Cmp.{nat_cmp_total}
use Rattle.std.specs.FinMap.{get, insert, remove, empty, get-empty, get-remove}
use Rattle.tm_lattice.specs.Tables.{Table}
use Rattle.tm_lattice.specs.laws.TableLaws.{same_table, get-insert_here}

-- it is not empty
pub one_entry : {V : Type 0} (key : ℕ) (v : V) (t : Table V) → t ≡ insert empty key v → t ≡ empty → ⊥
one_entry key v t is none =
    let found : Some v ≡ None = sym (get-insert_here empty key v key refl) ∙ ap (λ u. get u key) (sym is ∙ none) ∙ get-empty nat_cmp key in
    cc

-- without an entry there is nothing to take away
absent : {V : Type 0} (b : Bool) (x : Option V) → x ≡ None → cond b None x ≡ None
absent true x is = refl
absent false x is = is

pub none_removed : {V : Type 0} (key : ℕ) (t u : Table V) → t ≡ remove u key → u ≡ empty → t ≡ empty
none_removed key t u is none =
    is ∙ ap (λ s. remove s key) none
    ∙ same_table (remove empty key) empty (λ q. get-remove nat_cmp_total empty key q ∙ absent _ _ (get-empty nat_cmp q) ∙ sym (get-empty nat_cmp q))

-- one within another within a third, where each has its one entry
pub three_entries : {V : Type 0} (task set cell : ℕ) (value : V) (cells : Table V) (sets : Table (Table V)) (nested : Table (Table (Table V)))
    → cells ≡ insert empty cell value → ((cells ≡ empty → ⊥) → sets ≡ insert empty set cells) → ((sets ≡ empty → ⊥) → nested ≡ insert empty task sets)
    → nested ≡ insert empty task (insert empty set (insert empty cell value))
three_entries task set cell value cells sets nested one more most =
    let two = more (one_entry cell value cells one) in
    most (one_entry set cells sets two) ∙ ap (insert empty task) (two ∙ ap (insert empty set) one)
