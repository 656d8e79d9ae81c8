use Rattle.std.proofs.Common.{◌≡◌, ◌∙◌, ◌++◌, ◌∷◌, ◌+◌, [], length, sym, ap, subst, rules}
use Rattle.slot_numbers.specs.reading.Flat.{cut_from, AreCuts}
use Rattle.slot_numbers.proofs.Flat.{cut_more, cuts_more}
use Rattle.slot_numbers.proofs.flat_lists.FlatLists.push_list.Goals as goal

pub returns : goal.returns
returns c =
    let end : c.len.result ≡ length c.self.inside.numbers.items + length c.args.list.now = search rules in
    ap (λ es. cut_from 0 es c.extend_from_slice.new.self.items)
    (c.push_reserved.ensures.items ∙ ap (λ es. es ++ c.len.result ∷ []) c.in_ok-reserve.ensures.items)
    ∙ ap (λ ns. cut_from 0 (c.self.inside.ends.items ++ c.len.result ∷ []) ns) c.in_ok-extend_from_slice.ensures.items
    ∙ cut_more c.self.inside.ends.items c.self.inside.numbers.items c.args.list.now c.len.result c.self.invariant end
    ∙ ap (λ ls. ls ++ c.args.list.now ∷ []) c.self.view_is

pub invariant_of-self-2 : goal.invariant_of-self-2
invariant_of-self-2 c =
    let end : c.len.result ≡ length c.self.inside.numbers.items + length c.args.list.now = search rules in
    subst (λ es. AreCuts es c.extend_from_slice.new.self.items)
    (sym (c.push_reserved.ensures.items ∙ ap (λ es. es ++ c.len.result ∷ []) c.in_ok-reserve.ensures.items))
    (subst (λ ns. AreCuts (c.self.inside.ends.items ++ c.len.result ∷ []) ns)
    (sym c.in_ok-extend_from_slice.ensures.items)
    (cuts_more c.self.inside.ends.items c.self.inside.numbers.items c.args.list.now c.len.result c.self.invariant end))
