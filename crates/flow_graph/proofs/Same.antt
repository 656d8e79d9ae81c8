-- A graph runs in one way alone.
use Rattle.std.proofs.Common.{◌≡◌, ℕ, List, [], ◌∷◌, refl, sym, ◌∙◌, subst}
use Rattle.std.specs.Prelude.{Some, None}
use Rattle.concrete_values.specs.tm_laid.Layouts.{LaidTree}
use Rattle.concrete_values.specs.declared.values.Answer.{Answer}
use Rattle.concrete_values.specs.declared.actions.Next.{Next}
use Rattle.concrete_values.specs.declared.actions.Next.TheVariants.{Spins, Misfit}
use Rattle.concrete_values.specs.Actions.{answer_of}
use Rattle.flow_graph.specs.Graphs.{Edges}
use Rattle.flow_graph.specs.Runs.{Memory, Move, Goes, GoesRound, Awaits, Halts, move, last, Runs, goes, spins, halts}
use Rattle.flow_graph.specs.Runs.{awaits, answered, unfit}
use Rattle.flow_graph.proofs.Positions.{after_goes, after_answer}

-- what a move says of the next action after these answers, where it goes nowhere by itself
abbrev Tells : LaidTree → Move → List Answer → Next → Type 0
Tells laid (Goes node m) answers x = Unit {0}
Tells laid (GoesRound node m) answers x = x ≡ last Spins answers
Tells laid (Awaits n node to) [] x = x ≡ n
Tells laid (Awaits n node to) (a ∷ answers) x = answer_of laid n a ≡ None → x ≡ Misfit
Tells laid (Halts n) answers x = x ≡ last n answers

module _ (laid : LaidTree) (g : Edges) where
  tells : {node : ℕ} {m : Memory} {answers : List Answer} {x : Next} → Runs laid g node m answers x
      → Tells laid (move laid g node m) answers x
  tells {answers = answers} {x = x} (goes e run) = subst (λ z. Tells laid z answers x) (sym e) tt
  tells {answers = answers} {x = x} (spins e) = subst (λ z. Tells laid z answers x) (sym e) refl
  tells {answers = answers} {x = x} (halts e) = subst (λ z. Tells laid z answers x) (sym e) refl
  tells {x = x} (awaits e) = subst (λ z. Tells laid z [] x) (sym e) refl
  tells {x = x} (answered {a = a} {v = v} {answers = more} e f run) =
      subst (λ z. Tells laid z (a ∷ more) x) (sym e) (λ k. absurd (let c : Some v ≡ None = sym f ∙ k in cc))
  tells {x = x} (unfit {a = a} {answers = more} e f) = subst (λ z. Tells laid z (a ∷ more) x) (sym e) (λ k. refl)

  pub same_next : {node : ℕ} {m : Memory} {answers : List Answer} {x y : Next} → Runs laid g node m answers x
      → Runs laid g node m answers y → x ≡ y
  same_next (goes e run) k = same_next run (after_goes laid g e k)
  same_next {answers = answers} {y = y} (spins e) k = sym (subst (λ z. Tells laid z answers y) e (tells k))
  same_next {answers = answers} {y = y} (halts e) k = sym (subst (λ z. Tells laid z answers y) e (tells k))
  same_next {y = y} (awaits e) k = sym (subst (λ z. Tells laid z [] y) e (tells k))
  same_next (answered e f run) k = same_next run (after_answer laid g e f k refl)
  same_next {y = y} (unfit {a = a} {answers = more} e f) k =
      let h = subst (λ z. Tells laid z (a ∷ more) y) e (tells k) in sym (h f)
