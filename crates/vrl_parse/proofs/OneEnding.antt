-- A program has one ending at given words.
use Rattle.std.proofs.Common.{◌≡◌, ℕ, Option, Some, List, refl, sym, ap, ◌∙◌, subst}
use Rattle.vrl_diag.specs.declared.diagnostic.Span.{Span}
use Rattle.vrl_syntax.specs.declared.root.Op.{Op}
use Rattle.vrl_word.specs.Words.{Word}
use Rattle.vrl_parse.specs.Descent.{Piece, sign_word, target_word, name_word, key_word, function_word, path_word, literal_word, template_word, suffix_word, operator_word, Said, Says, Takes, takes, Lacks, Rule, Meaning, Program, Ending, took, refused, Runs, ran, refuses, taken, untaken, seen, unseen, chosen, gone, not_gone}

one_operator : {a : Option (ℕ × Op)} {n : ℕ} {v u : Op} → a ≡ Some (n, v) → a ≡ Some (n, u) → v ≡ u
one_operator {n = n} {v = v} {u = u} f g =
    let one : ℕ × Op = (n, v) in
    let two : ℕ × Op = (n, u) in
    let pairs : one ≡ two = cc in
    ap (λ p. p.1) pairs

-- a word says one thing
one_saying : (k : Piece) (w : Word) (v u : Said k) → Says k w v → Says k w u → v ≡ u
one_saying (sign_word t) w v u f g = refl
one_saying target_word w v u f g = cc
one_saying name_word w v u f g = cc (f.is, g.is)
one_saying key_word w v u f g = cc (f.is, g.is)
one_saying function_word w v u f g = cc
one_saying path_word w v u f g = cc
one_saying literal_word w v u f g = cc
one_saying template_word w v u f g = cc
one_saying suffix_word w v u f g = cc (f.is, g.is)
one_saying (operator_word n) w v u f g = one_operator f g

retaken : {r : Rule} {k : Piece} (p : Said k → Span → Program (Meaning r)) {ws vs us : List Word} {v u : Said k} {s t : Span} {o : Ending (Meaning r)} → Takes k ws v s vs → Takes k ws u t us → Runs r (p u t) us o → Runs r (p v s) vs o
retaken {r = r} {k = k} p {o = o} (takes {w} {ws} v f) (takes u g) run = subst (λ x. Runs r (p x w.span) ws o) (one_saying k w u v g f) run

no_taking : {k : Piece} {ws vs : List Word} {v : Said k} {s : Span} → Takes k ws v s vs → ¬ Lacks k ws
no_taking (takes v f) lack = lack v f

regone : {r : Rule} (q : Rule) (p : Meaning q → Program (Meaning r)) {x y : Meaning q} {vs us : List Word} {o : Ending (Meaning r)} → took x vs ≡ took y us → Runs r (p y) us o → Runs r (p x) vs o
regone {r = r} q p {x = x} {y = y} {vs = vs} {us = us} {o = o} same run =
    let answers : y ≡ x = cc in
    let rests : us ≡ vs = cc in
    subst (λ z. Runs r (p z) vs o) answers (subst (λ ts. Runs r (p y) ts o) rests run)

pub one_ending : {r : Rule} {p : Program (Meaning r)} {ws : List Word} {a b : Ending (Meaning r)} → Runs r p ws a → Runs r p ws b → a ≡ b
one_ending ran ran = refl
one_ending refuses refuses = refl
one_ending (taken {p = p} t one) (taken u two) = one_ending one (retaken p t u two)
one_ending (taken t one) (untaken lack two) = absurd (no_taking t lack)
one_ending (untaken lack one) (taken t two) = absurd (no_taking t lack)
one_ending (untaken lack one) (untaken other two) = one_ending one two
one_ending (seen s one) (seen t two) = one_ending one two
one_ending (seen s one) (unseen other two) = absurd (other s)
one_ending (unseen other one) (seen s two) = absurd (other s)
one_ending (unseen s one) (unseen t two) = one_ending one two
one_ending {r = r} {ws = ws} {b = b} (chosen {p = p} e one) (chosen f two) = one_ending one (subst (λ a. Runs r (p a) ws b) (sym f ∙ e) two)
one_ending (gone {q = q} {p = p} inner one) (gone other two) = one_ending one (regone q p (one_ending inner other) two)
one_ending (gone inner one) (not_gone other) =
    let same = one_ending inner other in
    cc
one_ending (not_gone inner) (gone other two) =
    let same = one_ending inner other in
    cc
one_ending (not_gone {vs = vs} inner) (not_gone {vs = us} other) =
    let same = one_ending inner other in
    let rests : vs ≡ us = cc in
    ap (λ ts. refused ts) rests
