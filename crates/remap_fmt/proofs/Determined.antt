-- That a call has one answer.
use Rattle.std.proofs.Common.{◌≡◌, ℕ, List, Some, None, sym, ap, ◌∙◌}
use Rattle.vrl_format.specs.Laws.{AnswersAreDetermined as FormatsAreDetermined}
use Rattle.remap_fmt.specs.Answer.{Answer, AnswersAreDetermined, AnswersScript, answer_by, to_bytes, to_text}

one_script : FormatsAreDetermined → (bytes : List ℕ) (a b : Answer) → AnswersScript bytes a
    → AnswersScript bytes b → a ≡ b
one_script formats bytes a b (to_bytes no_text is) (to_bytes other_no_text other_is) =
    is ∙ sym other_is
one_script formats bytes a b (to_bytes no_text is) (to_text is_text found found_is other_is) =
    absurd (is_text no_text)
one_script formats bytes a b (to_text is_text found found_is is) (to_bytes no_text other_is) =
    absurd (is_text no_text)
one_script formats bytes a b (to_text is_text found found_is is)
    (to_text other_text other other_found other_is) =
    is ∙ (ap (answer_by bytes) (formats bytes found other found_is other_found) ∙ sym other_is)

pub one_answer : FormatsAreDetermined → AnswersAreDetermined
one_answer formats None bytes a b is other = is ∙ sym other
one_answer formats (Some name) None a b is other = absurd is
one_answer formats (Some name) (Some bytes) a b is other = one_script formats bytes a b is other
