use Rattle.std.proofs.Common.{◌≡◌, ◌∙◌, OnOk, sym, subst, ap}
use Rattle.std.specs.Arc.{arc_value}
use Rattle.std.specs.Option.{option_map}
use Rattle.std.specs.Prelude.{unwrap_or}
use Rattle.std.specs.Result.{OnErr}
use Rattle.std.specs.FinMap as map
use Rattle.shared_tables.proofs.tables.SharedTable.put.Given.{Over}
use Rattle.shared_tables.proofs.tables.SharedTable.put.Goals as goal
use Rattle.shared_tables.proofs.tables.SharedTable.put.Goals.{in-Some+in_default-get_mut, in_default}

-- the entries that are written in place are those of the table
in_place : (g : Over) (c : goal.After-self-in-Some-get_mut-1 g) → c.in-Some-get_mut.own.now ≡ c.args.self.now
in_place g c = c.in-Some-get_mut.ensures.value
    ∙ ap (λ e. unwrap_or (option_map arc_value e) map.empty) (sym c.in-Some.is) ∙ c.self.view_is

pub returns-in-Some-get_mut-clause-nothing : goal.returns-in-Some-get_mut-clause-nothing
returns-in-Some-get_mut-clause-nothing g c =
    subst (λ t. OnOk c.put.result (g.V.Lattice.nothing c.args.value → c.put.new.self ≡ map.remove t c.args.key))
    (in_place g c) c.put.ensures.nothing

pub returns-in-Some-get_mut-clause-written : goal.returns-in-Some-get_mut-clause-written
returns-in-Some-get_mut-clause-written g c =
    subst (λ t. OnOk c.put.result ((g.V.Lattice.nothing c.args.value → ⊥)
    → c.put.new.self ≡ map.insert t c.args.key c.args.value)) (in_place g c) c.put.ensures.written

pub returns-in-Some-get_mut-clause-err : goal.returns-in-Some-get_mut-clause-err
returns-in-Some-get_mut-clause-err g c =
    subst (λ t. OnErr c.put.result (c.put.new.self ≡ t)) (in_place g c) c.put.ensures.err

-- and so are those that are copied
copied : (g : Over) (c : goal.Joined-self-2 g) → c.in_ok-own.own ≡ c.args.self.now
copied g c = elim c.match-self.branch [
  | in-Some+in_default-get_mut w ↦
      let own = rw w.self-inside-is at c.in_ok-own.ensures in
      own ∙ ap (λ e. unwrap_or (option_map arc_value e) map.empty) (sym w.in-Some.is) ∙ c.self.view_is
  | in_default w ↦
      let own = rw w.self-inside-is at c.in_ok-own.ensures in
      own ∙ c.self.view_is
]

pub returns-clause-nothing : goal.returns-clause-nothing
returns-clause-nothing g c = λ no. c.in_ok-new.ensures.ok ∙ c.in_ok-put.ensures.nothing no
    ∙ ap (λ t. map.remove t c.args.key) (copied g c)

pub returns-clause-written : goal.returns-clause-written
returns-clause-written g c = λ some. c.in_ok-new.ensures.ok ∙ c.in_ok-put.ensures.written some
    ∙ ap (λ t. map.insert t c.args.key c.args.value) (copied g c)
