-- What isn't judged has so many times one thing, gathered part by part: the empty values are null, and nothing is known of the closures.
use Rattle.std.proofs.Common.{arith, ◌≡◌, ℕ, ◌+◌, ◌≤◌, List, ◌++◌, replicate, Result, OnOk, refl, sym, ap, ◌∙◌, append_assoc}
use Rattle.std.proofs.lemmas.List.{replicate-append-replicate}
use Rattle.std.proofs.lemmas.Result.{on_ok_weaker}

-- those of two parts are those of the first and then those of the second
two_repeated : {A : Type 0} (x : A) (before between after : List A) (m n : ℕ) → between ≡ before ++ replicate m x → after ≡ between ++ replicate n x → after ≡ before ++ replicate (m + n) x
two_repeated x before between after m n first second =
    second ∙ ap (λ ts. ts ++ replicate n x) first ∙ append_assoc before (replicate m x) (replicate n x) ∙ ap (λ ts. before ++ ts) (replicate-append-replicate m n x)

pub repeated_behind : {A T E : Type 0} (x : A) (r : Result T E) (before between after : List A) (m n whole : ℕ) → whole ≡ m + n → between ≡ before ++ replicate m x → OnOk r (after ≡ between ++ replicate n x) → OnOk r (after ≡ before ++ replicate whole x)
repeated_behind x r before between after m n whole is first = on_ok_weaker r (λ second. two_repeated x before between after m n first second ∙ ap (λ k. before ++ replicate k x) (sym is))

-- with those of what is left they are all, also behind one part more, which has so many
pub repeated_so_far : {A : Type 0} (x : A) (before after all : List A) (part left whole this : ℕ) → whole ≡ part + left → part ≡ this → after ≡ before ++ replicate this x → before ++ replicate whole x ≡ all → after ++ replicate left x ≡ all
repeated_so_far x before after all part left whole this is has adds so_far =
    two_repeated x before after (after ++ replicate left x) this left adds refl ∙ ap (λ k. before ++ replicate k x) (ap (λ k. k + left) (sym has) ∙ sym is) ∙ so_far

-- what is left is no larger than the whole
pub left_within : (part left whole bound : ℕ) → whole ≡ part + left → whole ≤ bound → left ≤ bound
left_within part left whole bound is within = omega (arith, is, within)
