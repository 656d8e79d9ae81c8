use Rattle.std.proofs.Common.{◌∙◌, sym, subst, ℕ, ◌+◌, List, take, get_or}
use Rattle.std.specs.Prelude.{Vec}
use Rattle.std.specs.declared.alloc.Global.{Global}
use Rattle.std.proofs.lemmas.List.{take_more, take_all}
use Rattle.std.proofs.lemmas.Bool.{false≢true}
use Rattle.graph_facts.specs.reading.Live.{HasPut, IsBehind}
use Rattle.graph_facts.proofs.Puts.{behind_none, behind_more, behind_given}
use Rattle.graph_facts.proofs.live.put_others.Goals as goal
use Rattle.graph_facts.proofs.live.put_others.Goals.{then-not-gives+in_ok-put, else-not-gives}

pub loop-temporary-init : goal.loop-temporary-init
loop-temporary-init c = behind_none c.args.operation c.args.list.now.items c.args.temporaries.now c.requires

pub loop-temporary-preserved : goal.loop-temporary-preserved
loop-temporary-preserved c =
    let ts : List ℕ = c.args.temporaries.now in
    let i : ℕ = c.loop-temporary.temporary-index in
    let x : ℕ = get_or ts i 0 in
    let more = take_more ts i 0 c.loop-temporary-test.true in
    let P : Vec ℕ Global → Type 0 = λ v. HasPut (IsBehind c.args.operation (take (i + 1) ts)) c.args.list.now.items v.items in
    elim c.if-not-gives.branch [
      | then-not-gives+in_ok-put w ↦ subst P (sym w.list-is)
          (behind_more c.args.operation (take i ts) (take (i + 1) ts) c.args.list.now.items c.loop-temporary.list.items w.put.new.list.items x more
          (λ e. false≢true (sym w.if-not-gives.true ∙ c.gives.ensures.1 e)) c.loop-temporary.invariant w.in_ok-put.ensures)
      | else-not-gives w ↦ subst P (sym w.list-is)
          (behind_given c.args.operation (take i ts) (take (i + 1) ts) c.args.list.now.items c.loop-temporary.list.items x more (c.gives.ensures.0 w.if-not-gives.false) c.loop-temporary.invariant)
    ]

pub returns : goal.returns
returns c =
    let ts : List ℕ = c.args.temporaries.now in
    let P : List ℕ → Type 0 = λ xs. HasPut (IsBehind c.args.operation xs) c.args.list.now.items c.loop-temporary.list.items in
    subst P (take_all c.loop-temporary.temporary-index ts c.loop-temporary-test.false) c.loop-temporary.invariant
