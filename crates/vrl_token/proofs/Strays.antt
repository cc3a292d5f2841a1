-- Characters that are part of no spelling.
use Rattle.std.proofs.Common.{◌≡◌, ◌≢◌, ℕ, ◌<◌, ◌≤◌, List, [], ◌∷◌, length, drop, inl, inr, refl, subst, arith}
use Rattle.vrl_token.specs.declared.piece.Piece.{Piece}
use Rattle.vrl_token.specs.Faults.{IsMark, IsStart, IsStray, stray}
use Rattle.vrl_token.specs.declared.token.Token.{Token}
use Rattle.vrl_token.specs.declared.token.Token.TheVariants as token
use Rattle.vrl_token.specs.Cuts.{FaultsBefore, IsNoOther, IsSingle, LeavesBehind}
use Rattle.vrl_token.specs.Scan.{HasNoByte}

-- a stray character, and what stands behind it
pub stray_fault : (before : List Piece) (first : ℕ) (behind : List ℕ) (left : ℕ) → IsStray (first ∷ behind) → LeavesBehind behind left → FaultsBefore before (first ∷ behind) 203 left
stray_fault before first behind left is_stray leaves = record {
  rest = leaves.rest;
  is_fault = stray is_stray (record { first = first; behind = behind; others = leaves.others; parts = refl; run = leaves.run }) refl;
  length_is = leaves.length_is;
}

high_no_start : (b : ℕ) → 128 ≤ b → ¬ IsStart b
high_no_start b high start = grind (arith, high, start)

pub high_fault : (before : List Piece) (text behind : List ℕ) (left : ℕ) → 0 < length text → HasNoByte text → behind ≡ drop 1 text → LeavesBehind behind left → FaultsBefore before text 203 left
high_fault before [] behind left some high is leaves = absurd (omega arith)
high_fault before (b ∷ bs) behind left some high is leaves = stray_fault before b bs left (inl (high_no_start b high)) (subst (λ t. LeavesBehind t left) is leaves)

-- a byte with which nothing begins, not even a sign
pub stray_sign : (b : ℕ) → IsNoOther b → ((t : Token) → ¬ IsSingle b t) → (b ≢ 61) → (b ≢ 33) → (b ≢ 60) → (b ≢ 62) → (b ≢ 124) → (b ≢ 63) → (b ≢ 38) → (b ≢ 45) → (b ≢ 123) → (b ≢ 47) → ¬ IsMark b
stray_sign b apart none n61 n33 n60 n62 n124 n63 n38 n45 n123 n47 (inl h) = apart.4 h
stray_sign b apart none n61 n33 n60 n62 n124 n63 n38 n45 n123 n47 (inr (inl h)) = apart.5 h
stray_sign b apart none n61 n33 n60 n62 n124 n63 n38 n45 n123 n47 (inr (inr (inl h))) = apart.6 h
stray_sign b apart none n61 n33 n60 n62 n124 n63 n38 n45 n123 n47 (inr (inr (inr (inl h)))) = apart.7 h
stray_sign b apart none n61 n33 n60 n62 n124 n63 n38 n45 n123 n47 (inr (inr (inr (inr (inl h))))) = n61 h
stray_sign b apart none n61 n33 n60 n62 n124 n63 n38 n45 n123 n47 (inr (inr (inr (inr (inr (inl h)))))) = n124 h
stray_sign b apart none n61 n33 n60 n62 n124 n63 n38 n45 n123 n47 (inr (inr (inr (inr (inr (inr (inl h))))))) = n33 h
stray_sign b apart none n61 n33 n60 n62 n124 n63 n38 n45 n123 n47 (inr (inr (inr (inr (inr (inr (inr (inl h)))))))) = n60 h
stray_sign b apart none n61 n33 n60 n62 n124 n63 n38 n45 n123 n47 (inr (inr (inr (inr (inr (inr (inr (inr (inl h))))))))) = n62 h
stray_sign b apart none n61 n33 n60 n62 n124 n63 n38 n45 n123 n47 (inr (inr (inr (inr (inr (inr (inr (inr (inr (inl h)))))))))) = none token.Plus h
stray_sign b apart none n61 n33 n60 n62 n124 n63 n38 n45 n123 n47 (inr (inr (inr (inr (inr (inr (inr (inr (inr (inr (inl h))))))))))) = n45 h
stray_sign b apart none n61 n33 n60 n62 n124 n63 n38 n45 n123 n47 (inr (inr (inr (inr (inr (inr (inr (inr (inr (inr (inr (inl h)))))))))))) = none token.Times h
stray_sign b apart none n61 n33 n60 n62 n124 n63 n38 n45 n123 n47 (inr (inr (inr (inr (inr (inr (inr (inr (inr (inr (inr (inr (inl h))))))))))))) = n63 h
stray_sign b apart none n61 n33 n60 n62 n124 n63 n38 n45 n123 n47 (inr (inr (inr (inr (inr (inr (inr (inr (inr (inr (inr (inr (inr (inl h)))))))))))))) = n38 h
stray_sign b apart none n61 n33 n60 n62 n124 n63 n38 n45 n123 n47 (inr (inr (inr (inr (inr (inr (inr (inr (inr (inr (inr (inr (inr (inr (inl h))))))))))))))) = none token.OpenParenthesis h
stray_sign b apart none n61 n33 n60 n62 n124 n63 n38 n45 n123 n47 (inr (inr (inr (inr (inr (inr (inr (inr (inr (inr (inr (inr (inr (inr (inr (inl h)))))))))))))))) = none token.CloseParenthesis h
stray_sign b apart none n61 n33 n60 n62 n124 n63 n38 n45 n123 n47 (inr (inr (inr (inr (inr (inr (inr (inr (inr (inr (inr (inr (inr (inr (inr (inr (inl h))))))))))))))))) = apart.8 h
stray_sign b apart none n61 n33 n60 n62 n124 n63 n38 n45 n123 n47 (inr (inr (inr (inr (inr (inr (inr (inr (inr (inr (inr (inr (inr (inr (inr (inr (inr (inl h)))))))))))))))))) = none token.CloseBracket h
stray_sign b apart none n61 n33 n60 n62 n124 n63 n38 n45 n123 n47 (inr (inr (inr (inr (inr (inr (inr (inr (inr (inr (inr (inr (inr (inr (inr (inr (inr (inr (inl h))))))))))))))))))) = n123 h
stray_sign b apart none n61 n33 n60 n62 n124 n63 n38 n45 n123 n47 (inr (inr (inr (inr (inr (inr (inr (inr (inr (inr (inr (inr (inr (inr (inr (inr (inr (inr (inr (inl h)))))))))))))))))))) = none token.CloseBrace h
stray_sign b apart none n61 n33 n60 n62 n124 n63 n38 n45 n123 n47 (inr (inr (inr (inr (inr (inr (inr (inr (inr (inr (inr (inr (inr (inr (inr (inr (inr (inr (inr (inr (inl h))))))))))))))))))))) = none token.Comma h
stray_sign b apart none n61 n33 n60 n62 n124 n63 n38 n45 n123 n47 (inr (inr (inr (inr (inr (inr (inr (inr (inr (inr (inr (inr (inr (inr (inr (inr (inr (inr (inr (inr (inr (inl h)))))))))))))))))))))) = none token.Colon h
stray_sign b apart none n61 n33 n60 n62 n124 n63 n38 n45 n123 n47 (inr (inr (inr (inr (inr (inr (inr (inr (inr (inr (inr (inr (inr (inr (inr (inr (inr (inr (inr (inr (inr (inr (inl h))))))))))))))))))))))) = none token.Separator h
stray_sign b apart none n61 n33 n60 n62 n124 n63 n38 n45 n123 n47 (inr (inr (inr (inr (inr (inr (inr (inr (inr (inr (inr (inr (inr (inr (inr (inr (inr (inr (inr (inr (inr (inr (inr (inl h)))))))))))))))))))))))) = n47 h
stray_sign b apart none n61 n33 n60 n62 n124 n63 n38 n45 n123 n47 (inr (inr (inr (inr (inr (inr (inr (inr (inr (inr (inr (inr (inr (inr (inr (inr (inr (inr (inr (inr (inr (inr (inr (inr h)))))))))))))))))))))))) = apart.9 h

pub no_start : (b : ℕ) → IsNoOther b → ¬ IsMark b → ¬ IsStart b
no_start b apart none start = elim start [ inl blank ↦ apart.1 blank | inr (inl letter) ↦ apart.3 letter | inr (inr (inl digit)) ↦ apart.2 digit | inr (inr (inr mark)) ↦ none mark ]
