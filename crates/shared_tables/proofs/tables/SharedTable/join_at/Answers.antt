use Rattle.std.proofs.Common.{◌≡◌, ◌≢◌, ◌∙◌, OnOk, IfOk, MatchBool, sym, subst, ap}
use Rattle.std.specs.Arc.{arc_value}
use Rattle.std.specs.Option.{option_map}
use Rattle.std.specs.Prelude.{unwrap_or}
use Rattle.std.specs.Result.{OnErr}
use Rattle.std.specs.FinMap as map
use Rattle.tm_lattice.specs.Tables.{with_entry}
use Rattle.shared_tables.proofs.tables.SharedTable.join_at.Given.{Over}
use Rattle.shared_tables.proofs.tables.SharedTable.join_at.Goals as goal
use Rattle.shared_tables.proofs.tables.SharedTable.join_at.Goals.{in-Some+in_default-get_mut, in_default}

-- the entries into which the value is joined in place are those of the table
in_place : (g : Over) (c : goal.After-self-in-Some-get_mut-1 g) → c.in-Some-get_mut.own.now ≡ c.args.self.now
in_place g c = c.in-Some-get_mut.ensures.value
    ∙ ap (λ e. unwrap_or (option_map arc_value e) map.empty) (sym c.in-Some.is) ∙ c.self.view_is

pub returns-in-Some-get_mut-clause-nothing : goal.returns-in-Some-get_mut-clause-nothing
returns-in-Some-get_mut-clause-nothing g c =
    subst (λ t. OnOk c.join_at.result (g.V.Lattice.nothing c.args.value.now → c.join_at.new.self ≡ t))
    (in_place g c) c.join_at.ensures.nothing

pub returns-in-Some-get_mut-clause-joined : goal.returns-in-Some-get_mut-clause-joined
returns-in-Some-get_mut-clause-joined g c =
    subst (λ t. OnOk c.join_at.result ((g.V.Lattice.nothing c.args.value.now → ⊥)
    → c.join_at.new.self ≡ with_entry g.V.Lattice.joined t c.args.key c.args.value.now)) (in_place g c)
    c.join_at.ensures.joined

pub returns-in-Some-get_mut-clause-rose : goal.returns-in-Some-get_mut-clause-rose
returns-in-Some-get_mut-clause-rose g c =
    subst (λ t. IfOk c.join_at.result (λ rose. MatchBool rose (c.join_at.new.self ≢ t) (c.join_at.new.self ≡ t)))
    (in_place g c) c.join_at.ensures.rose

pub returns-in-Some-get_mut-clause-err : goal.returns-in-Some-get_mut-clause-err
returns-in-Some-get_mut-clause-err g c =
    subst (λ t. OnErr c.join_at.result (c.join_at.new.self ≡ t)) (in_place g c) c.join_at.ensures.err

-- and so are those that are copied
copied : (g : Over) (c : goal.Joined-self-2 g) → c.in_ok-own.own ≡ c.args.self.now
copied g c = elim c.match-self.branch [
  | in-Some+in_default-get_mut w ↦
      let own = rw w.self-inside-is at c.in_ok-own.ensures in
      own ∙ ap (λ e. unwrap_or (option_map arc_value e) map.empty) (sym w.in-Some.is) ∙ c.self.view_is
  | in_default w ↦
      let own = rw w.self-inside-is at c.in_ok-own.ensures in
      own ∙ c.self.view_is
]

pub returns-clause-nothing : goal.returns-clause-nothing
returns-clause-nothing g c = λ no. c.in_ok-new.ensures.ok ∙ c.in_ok-rose.ensures.nothing no ∙ copied g c

pub returns-clause-joined : goal.returns-clause-joined
returns-clause-joined g c = λ some. c.in_ok-new.ensures.ok ∙ c.in_ok-rose.ensures.joined some
    ∙ ap (λ t. with_entry g.V.Lattice.joined t c.args.key c.args.value.now) (copied g c)

pub returns-clause-rose : goal.returns-clause-rose
returns-clause-rose g c =
    let new = c.in_ok-new.ensures.ok in
    subst (λ t. MatchBool c.in_ok-rose.rose (t ≢ c.args.self.now) (t ≡ c.args.self.now)) (sym new)
    (subst (λ t. MatchBool c.in_ok-rose.rose (c.join_at-2.new.self ≢ t) (c.join_at-2.new.self ≡ t)) (copied g c)
    c.in_ok-rose.ensures.rose)
