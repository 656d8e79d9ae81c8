-- What stands at a variable is a lattice where fronts and cells are.
use Rattle.std.proofs.Common.{◌≡◌, Option, Some, None, IfSome, ap, refl}
use Rattle.std.specs.Option.{option_map}
use Rattle.sparse_tables.specs.table_covers.tm_lattice.LatticeLaws.{IsOrder, IsJoin, IsClosure, IsLeastNothing}
use Rattle.sparse_tables.specs.table_covers.tm_lattice.Tables.{IsBelow, joined_at}
use Rattle.front_constraints.specs.declared.standings.Standing.{Standing}
use Rattle.front_constraints.specs.Standings.{HasParts, IsStandingBelow, joined_standing, changed_standing}

-- ## Values with bottom

module _ {A : Type 0} (is_value : A → Type 0) (leq : A → A → Type 0) where
  abbrev IsIn : Option A → Type 0
  IsIn x = IfSome x is_value

  abbrev Below : Option A → Option A → Type 0
  Below x y = IsBelow leq x y

  module _ (order : IsOrder is_value leq) where
    reflexive : (x : Option A) → IsIn x → Below x x
    reflexive None is = tt
    reflexive (Some a) is = order.reflexive a is

    transitive : (x y z : Option A) → IsIn x → IsIn y → IsIn z → Below x y → Below y z → Below x z
    transitive None y z is is' is'' le le' = tt
    transitive (Some a) None z is is' is'' le le' = absurd le
    transitive (Some a) (Some b) None is is' is'' le le' = absurd le'
    transitive (Some a) (Some b) (Some c) is is' is'' le le' = order.transitive a b c is is' is'' le le'

    antisymmetric : (x y : Option A) → IsIn x → IsIn y → Below x y → Below y x → x ≡ y
    antisymmetric None None is is' le le' = refl
    antisymmetric None (Some b) is is' le le' = absurd le'
    antisymmetric (Some a) None is is' le le' = absurd le
    antisymmetric (Some a) (Some b) is is' le le' = ap Some (order.antisymmetric a b is is' le le')

    option_order : IsOrder IsIn Below
    option_order = record { reflexive = reflexive; transitive = transitive; antisymmetric = antisymmetric }

  module _ (order : IsOrder is_value leq) (joined : A → A → A) (join : IsJoin is_value leq joined) where
    value : (x y : Option A) → IsIn x → IsIn y → IsIn (joined_at joined x y)
    value None y is is' = is'
    value (Some a) None is is' = is
    value (Some a) (Some b) is is' = join.value a b is is'

    left : (x y : Option A) → IsIn x → IsIn y → Below x (joined_at joined x y)
    left None y is is' = tt
    left (Some a) None is is' = order.reflexive a is
    left (Some a) (Some b) is is' = join.left a b is is'

    right : (x y : Option A) → IsIn x → IsIn y → Below y (joined_at joined x y)
    right None y is is' = reflexive order y is'
    right (Some a) None is is' = tt
    right (Some a) (Some b) is is' = join.right a b is is'

    least : (x y z : Option A) → IsIn x → IsIn y → IsIn z → Below x z → Below y z → Below (joined_at joined x y) z
    least None y z is is' is'' le le' = le'
    least (Some a) None z is is' is'' le le' = le
    least (Some a) (Some b) None is is' is'' le le' = absurd le
    least (Some a) (Some b) (Some c) is is' is'' le le' = join.least a b c is is' is'' le le'

    option_join : IsJoin IsIn Below (joined_at joined)
    option_join = record { value = value; left = left; right = right; least = least }

  module _ {M : Type 0} (is_marks : M → Type 0) (rounded : M → A
      → A) (closure : IsClosure is_value is_marks leq rounded)
    where
      round_value : (marks : M) (x : Option A) → is_marks marks → IsIn x → IsIn (option_map (rounded marks) x)
      round_value marks None m is = tt
      round_value marks (Some a) m is = closure.value marks a m is

      extensive : (marks : M) (x : Option A) → is_marks marks → IsIn x → Below x (option_map (rounded marks) x)
      extensive marks None m is = tt
      extensive marks (Some a) m is = closure.extensive marks a m is

      monotone : (marks : M) (x y : Option A) → is_marks marks → IsIn x → IsIn y → Below x y
          → Below (option_map (rounded marks) x) (option_map (rounded marks) y)
      monotone marks None y m is is' le = tt
      monotone marks (Some a) None m is is' le = absurd le
      monotone marks (Some a) (Some b) m is is' le = closure.monotone marks a b m is is' le

      idempotent : (marks : M) (x : Option A) → is_marks marks → IsIn x
          → option_map (rounded marks) (option_map (rounded marks) x) ≡ option_map (rounded marks) x
      idempotent marks None m is = refl
      idempotent marks (Some a) m is = ap Some (closure.idempotent marks a m is)

      option_closure : IsClosure IsIn is_marks Below (λ marks. option_map (rounded marks))
      option_closure =
          record { value = round_value; extensive = extensive; monotone = monotone; idempotent = idempotent }

-- ## Fronts and cells side by side

module _ {F D : Type 0} (is_front : F → Type 0) (is_cell : D → Type 0) (front_leq : F → F → Type 0)
    (cell_leq : D → D → Type 0) where
  abbrev IsStanding : Standing F D → Type 0
  IsStanding w = HasParts is_front is_cell w

  abbrev StandingBelow : Standing F D → Standing F D → Type 0
  StandingBelow v w = IsStandingBelow front_leq cell_leq v w

  module _ (front_order : IsOrder is_front front_leq) (cell_order : IsOrder is_cell cell_leq) where
    pub standing_order : IsOrder IsStanding StandingBelow
    standing_order =
        let f = option_order is_front front_leq front_order in
        let c = option_order is_cell cell_leq cell_order in
        record {
          reflexive = λ v is. record {
            front = f.reflexive v.front is.front;
            cell = c.reflexive v.cell is.cell;
          };
          transitive = λ u v w is is' is'' le le'. record {
            front = f.transitive u.front v.front w.front is.front is'.front is''.front le.front le'.front;
            cell = c.transitive u.cell v.cell w.cell is.cell is'.cell is''.cell le.cell le'.cell;
          };
          antisymmetric = λ v w is is' le le'.
              let p = f.antisymmetric v.front w.front is.front is'.front le.front le'.front in
              let q = c.antisymmetric v.cell w.cell is.cell is'.cell le.cell le'.cell in
              λ i. record { front = p i; cell = q i };
        }

    module _ (join_fronts : F → F → F) (join_cells : D → D → D) (front_join : IsJoin is_front front_leq join_fronts)
        (cell_join : IsJoin is_cell cell_leq join_cells) where
      pub standing_join : IsJoin IsStanding StandingBelow (joined_standing join_fronts join_cells)
      standing_join =
          let f = option_join is_front front_leq front_order join_fronts front_join in
          let c = option_join is_cell cell_leq cell_order join_cells cell_join in
          record {
            value = λ v w is is'. record {
              front = f.value v.front w.front is.front is'.front;
              cell = c.value v.cell w.cell is.cell is'.cell;
            };
            left = λ v w is is'. record {
              front = f.left v.front w.front is.front is'.front;
              cell = c.left v.cell w.cell is.cell is'.cell;
            };
            right = λ v w is is'. record {
              front = f.right v.front w.front is.front is'.front;
              cell = c.right v.cell w.cell is.cell is'.cell;
            };
            least = λ u v w is is' is'' le le'. record {
              front = f.least u.front v.front w.front is.front is'.front is''.front le.front le'.front;
              cell = c.least u.cell v.cell w.cell is.cell is'.cell is''.cell le.cell le'.cell;
            };
          }

  module _ {M N : Type 0} (is_front_marks : M → Type 0) (is_cell_marks : N → Type 0) (round_front : M → F → F)
      (round_cell : N → D → D) (front_closure : IsClosure is_front is_front_marks front_leq round_front)
      (cell_closure : IsClosure is_cell is_cell_marks cell_leq round_cell) where
    abbrev AreMarks : M × N → Type 0
    AreMarks marks = is_front_marks marks.0 × is_cell_marks marks.1

    abbrev rounded : M × N → Standing F D → Standing F D
    rounded marks = changed_standing (round_front marks.0) (round_cell marks.1)

    pub standing_closure : IsClosure IsStanding AreMarks StandingBelow rounded
    standing_closure =
        let f = option_closure is_front front_leq is_front_marks round_front front_closure in
        let c = option_closure is_cell cell_leq is_cell_marks round_cell cell_closure in
        record {
          value = λ marks v m is. record {
            front = f.value marks.0 v.front m.0 is.front;
            cell = c.value marks.1 v.cell m.1 is.cell;
          };
          extensive = λ marks v m is. record {
            front = f.extensive marks.0 v.front m.0 is.front;
            cell = c.extensive marks.1 v.cell m.1 is.cell;
          };
          monotone = λ marks v w m is is' le. record {
            front = f.monotone marks.0 v.front w.front m.0 is.front is'.front le.front;
            cell = c.monotone marks.1 v.cell w.cell m.1 is.cell is'.cell le.cell;
          };
          idempotent = λ marks v m is.
              let p = f.idempotent marks.0 v.front m.0 is.front in
              let q = c.idempotent marks.1 v.cell m.1 is.cell in
              λ i. record { front = p i; cell = q i };
        }

    pub standing_nothing : IsLeastNothing IsStanding AreMarks StandingBelow rounded (λ w. ⊥)
    standing_nothing = record {
      below = λ v w is is' h. absurd h;
      rounding = λ marks v m is h. absurd h;
    }
