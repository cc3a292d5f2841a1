-- The functions of texts that never fail keep the law.
use Rattle.std.specs.Prelude.{ℕ, Bool, List, refl}
use Rattle.vrl_builtin.specs.OneTag.{KeepsOneTag}
use Rattle.fn_string.specs.Length.{length_row}
use Rattle.fn_string.specs.Search.{search_row}
use Rattle.fn_string.specs.StrLen.{strlen_row}
use Rattle.fn_string.specs.Truncate.{truncate_row}

pub search-law : (name : List ℕ) (holds : List ℕ → List ℕ → Bool) → KeepsOneTag (search_row name holds)
search-law name holds = record { present = refl; lawful = λ givens arguments setting fit instances. (tt, refl) }

pub length-law : KeepsOneTag length_row
length-law = record { present = refl; lawful = λ givens arguments setting fit instances. (tt, refl) }

pub strlen-law : KeepsOneTag strlen_row
strlen-law = record { present = refl; lawful = λ givens arguments setting fit instances. (tt, refl) }

pub truncate-law : KeepsOneTag truncate_row
truncate-law = record { present = refl; lawful = λ givens arguments setting fit instances. (tt, refl) }
