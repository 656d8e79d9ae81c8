use Rattle.std.proofs.Common.{◌≡◌, ℕ, length, refl, subst, arith}
use Rattle.indexmap.specs.IndexMap.{get}
use Rattle.tm_terms.specs.Names.{is_same_name}
use Rattle.text_choices.specs.reading.Foremost.{AreForemost}
use Rattle.text_choices.proofs.Foremost.{foremost_more}
use Rattle.text_choices.proofs.reserved.foremost_of.Goals as goal

pub loop-it-preserved : goal.loop-it-preserved
loop-it-preserved c =
    foremost_more c.args.declared.now c.loop-it.it-index _ (get is_same_name c.loop-it.found) (get is_same_name c.add_foremost.new.found)
    refl c.in_ok-add_foremost.ensures c.loop-it.invariant

pub returns : goal.returns
returns c =
    let all : c.loop-it.it-index ≡ length c.args.declared.now = omega arith in
    subst (λ (n : ℕ). AreForemost c.args.declared.now n (get is_same_name c.loop-it.found)) all c.loop-it.invariant
