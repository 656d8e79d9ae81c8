use Rattle.std.proofs.Common.{sym, ap, subst, ◌∙◌}
use Rattle.std.proofs.lemmas.Result.{on_ok_weaker}
use Rattle.pointer_dom.specs.PointerSets.{no_pointer}
use Rattle.pointer_dom.specs.Forms.{values_of, IsNormal}
use Rattle.transfer_rows.specs.StateForms.{only_numbers}
use Rattle.certificate_texts.specs.ValueWords.{pointers_words, value_words}
use Rattle.certificate_texts.specs.reading.Pages.{HasWords}
use Rattle.certificate_texts.proofs.Adding.{as_words}
use Rattle.certificate_texts.proofs.Telling.{numbers_words, only_pointers_words}
use Rattle.certificate_texts.proofs.pages.Page.push_value.Goals as goal

pub returns-in-Int : goal.returns-in-Int
returns-in-Int c =
    on_ok_weaker c.push_numbers.result
    (λ (h : HasWords c.args.self.now c.push_numbers.new.self (value_words (only_numbers c.in-Int.numbers))).
    as_words h (ap (λ p. value_words (values_of p)) (sym c.in-Int.is) ∙ ap value_words c.parts.ensures.value)) c.push_numbers.ensures

pub returns-in-Ptr : goal.returns-in-Ptr
returns-in-Ptr c =
    on_ok_weaker c.push_pointers.result
    (λ (h : HasWords c.args.self.now c.push_pointers.new.self (pointers_words c.in-Ptr.pointers)).
    as_words h (sym (only_pointers_words c.in-Ptr.pointers (subst IsNormal c.in-Ptr.is c.parts.ensures.form).1) ∙ ap (λ p. value_words (values_of p)) (sym c.in-Ptr.is) ∙ ap value_words c.parts.ensures.value))
    c.push_pointers.ensures

pub returns-in-Both : goal.returns-in-Both
returns-in-Both c =
    on_ok_weaker c.push_numbers-in-Both.result
    (λ (h : HasWords c.args.self.now c.push_numbers-in-Both.new.self (value_words (only_numbers c.in-Both.numbers))).
    as_words h (numbers_words c.in-Both.numbers no_pointer (subst IsNormal c.in-Both.is c.parts.ensures.form).0
    ∙ sym (numbers_words c.in-Both.numbers c.in-Both.field-1 (subst IsNormal c.in-Both.is c.parts.ensures.form).0) ∙ ap (λ p. value_words (values_of p)) (sym c.in-Both.is) ∙ ap value_words c.parts.ensures.value))
    c.push_numbers-in-Both.ensures
