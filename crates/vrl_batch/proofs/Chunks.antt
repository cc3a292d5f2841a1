-- What is made of the chunks of a list is made of the list.
use Rattle.std.proofs.Common.{◌≡◌, ℕ, suc, ◌+◌, ◌*◌, ◌/◌, ◌%◌, ◌<◌, ◌≤◌, min, List, [], ◌∷◌, ◌++◌, length, map, take, drop, get_or, Result, Ok, IfOk, sym, ap, ◌∙◌, append_assoc, append-nil, subst, ⊎_elim, div-add-mod', mod-lt, eq-zero-or-pos, add-mul, one-mul, suc-mul, zero-mul, drop-drop, take-add, take_all, arith}
use Rattle.std.proofs.lemmas.Grind.{flat_map-append}
use Rattle.std.proofs.lemmas.List.{get_or-map, length-map, map-append}
use Rattle.std.specs.List.{flat_map}
use Rattle.vrl_value.specs.declared.memory.Memory.{Memory}
use Rattle.vrl_batch.specs.Outs.{Joins}
use Rattle.vrl_batch.specs.declared.line.Line.{Line}
use Rattle.vrl_batch.specs.declared.work.LineOut.{LineOut}

-- so many chunks hold all
spans : (count len size : ℕ) → 0 < size → count ≡ len / size + min 1 (len % size) → len ≤ count * size
spans count len size some is =
    let whole : len / size * size + len % size ≡ len = div-add-mod' len size in
    let part : len % size < size = mod-lt len some in
    ⊎_elim
    (λ none. let e : count ≡ len / size = omega (arith, is, none) in let w = ap (λ n. n * size) e in omega (arith, w, whole, none))
    (λ more. let e : count ≡ len / size + 1 = omega (arith, is, more) in let w = ap (λ n. n * size) e ∙ add-mul (len / size) 1 size in let o = one-mul size in omega (arith, w, o, whole, part))
    (eq-zero-or-pos (len % size))

-- one part more
pub joins-more : (parts rest : List (Result (List LineOut) Memory)) (part : Result (List LineOut) Memory) (outs all all_after : List LineOut) → Joins parts (part ∷ rest) all → part ≡ Ok outs → all_after ≡ all ++ outs → Joins parts rest all_after
joins-more parts rest part outs all all_after joins is added = record {
  given = joins.given ++ outs ∷ [];
  parts_are =
      joins.parts_are
      ∙ ap (λ x. map Ok joins.given ++ x ∷ rest) is
      ∙ sym (append_assoc (map Ok joins.given) (Ok outs ∷ []) rest)
      ∙ ap (λ x. x ++ rest) (sym (map-append Ok joins.given (outs ∷ [])));
  outs_are =
      added
      ∙ ap (λ x. x ++ outs) joins.outs_are
      ∙ ap (λ x. flat_map (λ p. p) joins.given ++ x) (sym (append-nil outs))
      ∙ sym (flat_map-append (λ p. p) joins.given (outs ∷ []));
}

module _ (f : Line → LineOut) (size : ℕ) where
  flat_chunks : (given : List (List LineOut)) (xs : List Line) → ((n : ℕ) → n < length given → get_or given n [] ≡ map f (take size (drop (n * size) xs))) → flat_map (λ part. part) given ≡ map f (take (length given * size) xs)
  flat_chunks [] xs each = ap (λ n. map f (take n xs)) (sym (zero-mul size))
  flat_chunks (g ∷ given) xs each =
      let first : g ≡ map f (take size xs) = each 0 (omega arith) ∙ ap (λ n. map f (take size (drop n xs))) (zero-mul size) in
      let later = flat_chunks given (drop size xs) (λ n below. each (suc n) (omega (arith, below)) ∙ ap (λ k. map f (take size (drop k xs))) (next_start n) ∙ ap (λ ys. map f (take size ys)) (sym (drop-drop (n * size) size xs))) in
      ap (λ x. x ++ flat_map (λ part. part) given) first
      ∙ ap (λ x. map f (take size xs) ++ x) later
      ∙ sym (map-append f (take size xs) (take (length given * size) (drop size xs)))
      ∙ ap (map f) (sym (take-add size (length given * size) xs))
      ∙ ap (λ n. map f (take n xs)) (sym (next_start (length given)))
    where
      next_start : (n : ℕ) → suc n * size ≡ size + n * size
      next_start n = suc-mul n size ∙ omega arith

  abbrev ok : List LineOut → Result (List LineOut) Memory
  ok = Ok

  -- the results of all chunks, one after another, are those of the lines
  pub chunks-made : (lines : List Line) (parts : List (Result (List LineOut) Memory)) (outs : List LineOut) → Joins parts [] outs → ((n : ℕ) → n < length parts → IfOk (get_or parts n (Ok [])) (λ made. made ≡ map f (take size (drop (n * size) lines))))
      → 0 < size → length parts ≡ length lines / size + min 1 (length lines % size) → outs ≡ map f lines
  chunks-made lines parts outs joins each some count =
      let given = joins.given in
      let parts_are : parts ≡ map ok given = joins.parts_are ∙ append-nil (map ok given) in
      let as_many : length parts ≡ length given = ap length parts_are ∙ length-map given ok in
      let all = spans (length given) (length lines) size some (sym as_many ∙ count) in
      joins.outs_are
      ∙ flat_chunks given lines (λ n below. subst (λ r. IfOk r (λ made. made ≡ map f (take size (drop (n * size) lines)))) (ap (λ ps. get_or ps n (Ok [])) parts_are ∙ get_or-map ok given n [] (Ok []) below) (each n (omega (arith, below, as_many))))
      ∙ ap (map f) (take_all (length given * size) lines all)
