use Rattle.std.proofs.Common.{◌≡◌, ◌∙◌, ap, sym, ℕ, Some, None}
use Rattle.graph_facts.proofs.Puts.{put_as, put_nothing}
use Rattle.graph_facts.proofs.live.put_some.Goals as goal

same_some : (x t : ℕ) → Some x ≡ Some t → t ≡ x
same_some x t e = cc

no_some : (t : ℕ) → None ≡ Some t → ⊥
no_some t e = absurd cc

pub returns-in_ok-put-in-Some : goal.returns-in_ok-put-in-Some
returns-in_ok-put-in-Some c =
    let x : ℕ = c.in-Some.temporary in
    put_as (λ t. t ≡ x) (λ t. c.args.temporary ≡ Some t) c.args.list.now.items c.put.new.list.items
    (λ t e. c.in-Some.is ∙ ap Some (sym e)) (λ t e. same_some x t (sym c.in-Some.is ∙ e)) c.in_ok-put-in-Some.ensures

pub returns-in-None : goal.returns-in-None
returns-in-None c = put_nothing (λ t. c.args.temporary ≡ Some t) c.args.list.now.items c.requires (λ t e. no_some t (sym c.in-None.is ∙ e))
