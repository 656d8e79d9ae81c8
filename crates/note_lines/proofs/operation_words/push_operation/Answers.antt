use Rattle.std.proofs.Common.{◌≡◌, sym, ap, subst, ◌∙◌, ◌++◌}
use Rattle.std.specs.Prelude.{OnOk}
use Rattle.note_lines.specs.OperationWords.{typed_text, operation_text}
use Rattle.note_lines.proofs.operation_words.push_operation.Goals as goal

pub returns-in-Un : goal.returns-in-Un
unfolding operation_text
returns-in-Un c =
    subst (λ x. OnOk c.push_typed.result (c.push_typed.new.text.items ≡ c.args.text.now.items ++ x))
    (ap (λ w. typed_text w c.in-Un.of) c.unary_text.ensures
    ∙ ap (operation_text c.args.bytes.now c.args.mutexes.now) (sym c.in-Un.is))
    c.push_typed.ensures

pub returns-in-Bin : goal.returns-in-Bin
unfolding operation_text
returns-in-Bin c =
    subst (λ x. OnOk c.push_typed-in-Bin.result (c.push_typed-in-Bin.new.text.items ≡ c.args.text.now.items ++ x))
    (ap (λ w. typed_text w c.in-Bin.of) c.binary_text.ensures
    ∙ ap (operation_text c.args.bytes.now c.args.mutexes.now) (sym c.in-Bin.is))
    c.push_typed-in-Bin.ensures

pub returns-in-Index : goal.returns-in-Index
unfolding operation_text
returns-in-Index c =
    subst (λ x. OnOk c.push_elements.result (c.push_elements.new.text.items ≡ c.args.text.now.items ++ x))
    (ap (operation_text c.args.bytes.now c.args.mutexes.now) (sym c.in-Index.is))
    c.push_elements.ensures

pub returns-in-Move : goal.returns-in-Move
unfolding operation_text
returns-in-Move c =
    subst (λ x. OnOk c.push_moved.result (c.push_moved.new.text.items ≡ c.args.text.now.items ++ x))
    (ap (operation_text c.args.bytes.now c.args.mutexes.now) (sym c.in-Move.is))
    c.push_moved.ensures

pub returns-in-Deref : goal.returns-in-Deref
unfolding operation_text
returns-in-Deref c =
    subst (λ x. OnOk c.push_bytes.result (c.push_bytes.new.text.items ≡ c.args.text.now.items ++ x))
    (ap (operation_text c.args.bytes.now c.args.mutexes.now) (sym c.in-Deref.is))
    c.push_bytes.ensures

pub returns-in-Usable : goal.returns-in-Usable
unfolding operation_text
returns-in-Usable c =
    subst (λ x. OnOk c.push_bytes-in-Usable.result (c.push_bytes-in-Usable.new.text.items ≡ c.args.text.now.items ++ x))
    (ap (operation_text c.args.bytes.now c.args.mutexes.now) (sym c.in-Usable.is))
    c.push_bytes-in-Usable.ensures

pub returns-in-Lock : goal.returns-in-Lock
unfolding operation_text
returns-in-Lock c =
    subst (λ x. OnOk c.push_lock.result (c.push_lock.new.text.items ≡ c.args.text.now.items ++ x))
    (ap (operation_text c.args.bytes.now c.args.mutexes.now) (sym c.in-Lock.is))
    c.push_lock.ensures

pub returns-in-Unlock : goal.returns-in-Unlock
unfolding operation_text
returns-in-Unlock c =
    subst (λ x. OnOk c.push_lock-in-Unlock.result (c.push_lock-in-Unlock.new.text.items ≡ c.args.text.now.items ++ x))
    (ap (operation_text c.args.bytes.now c.args.mutexes.now) (sym c.in-Unlock.is))
    c.push_lock-in-Unlock.ensures
