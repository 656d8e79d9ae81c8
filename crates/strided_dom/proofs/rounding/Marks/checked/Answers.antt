use Rattle.strided_dom.proofs.rounding.Marks.checked.Goals as goal

pub returns-then-not-is_mark_list : goal.returns-then-not-is_mark_list
returns-then-not-is_mark_list c = λ h.
    let test = rw c.as_slice.ensures.value at c.is_mark_list.ensures in
    let t = test.1 h in
    cc
