-- What a run takes and where it stops depends on the words that it takes and on the next one alone.
use Rattle.std.specs.Prelude.{codes, bytes_eq}
use Rattle.std.proofs.Common.{arith, ◌≡◌, ◌≤◌, ◌+◌, ℕ, zero, suc, Some, List, [], ◌∷◌, ◌++◌, if◌then◌else◌, length, refl, sym, ap, ◌∙◌, subst}
use Rattle.std.proofs.lemmas.List.{append_assoc}
use Rattle.vrl_diag.specs.declared.diagnostic.Span.{Span}
use Rattle.vrl_path.specs.declared.path.Step.{Step}
use Rattle.vrl_syntax.specs.Stores.{metadata}
use Rattle.vrl_syntax.specs.Tree.{Exprs}
use Rattle.vrl_syntax.specs.declared.root.Root.{Root}
use Rattle.vrl_syntax.specs.declared.root.Root.TheVariants as root
use Rattle.vrl_syntax.specs.declared.root.Target.{Target}
use Rattle.vrl_syntax.specs.declared.root.Target.TheVariants as target
use Rattle.vrl_token.specs.declared.token.Token.{Token}
use Rattle.vrl_token.specs.declared.token.Token.TheVariants as token
use Rattle.vrl_word.specs.Words.{Word, path_of, target_at}
use Rattle.vrl_parse.specs.Grammar.{IsScript}
use Rattle.vrl_parse.specs.Descent.{Piece, sign_word, target_word, name_word, path_word, Said, Says, takes, Lacks, Look, at_end, next, before, expression_end, tightest, Begins, Sees, Operand, a_negation, a_call, an_array, a_group, an_object, a_block, an_if, a_path, a_template, a_literal, operand_at, operand_program, Rule, script, item, single, level, chain, operand, parts, pairs, arguments, argument, closing, names, more_names, braces, arms, Meaning, Program, done, refuse, take, look, by_operand, go, program_of, Ending, took, refused, Runs, ran, refuses, taken, untaken, seen, unseen, chosen, gone, not_gone}
use Rattle.vrl_parse.specs.FirstWords.{Holds}
use Rattle.vrl_parse.proofs.Beginnings.{path_operand_of}
use Rattle.vrl_parse.proofs.Descended.{script_is_taken}
use Rattle.vrl_parse.proofs.OneEnding.{one_ending}
use Rattle.vrl_parse.proofs.Spelled.{Front}

-- the words before which a run stops
abbrev pub left : {A : Type 0} → Ending A → List Word
left (took x vs) = vs
left (refused vs) = vs

-- the same end before other words
abbrev pub moved : {A : Type 0} → Ending A → List Word → Ending A
moved (took x vs) ts = took x ts
moved (refused vs) ts = refused ts

-- both have a first word, which is the same
pub data Alike : List Word → List Word → Type 0 where
  alike : {w : Word} {vs ts : List Word} → Alike (w ∷ vs) (w ∷ ts)

alike_back : {vs ts : List Word} → Alike vs ts → Alike ts vs
alike_back alike = alike

alike_behind : (us : List Word) {vs ts : List Word} → Alike vs ts → Alike (us ++ vs) (us ++ ts)
alike_behind [] same = same
alike_behind (u ∷ us) same = alike

pub no_alike : {vs ts : List Word} → Alike vs ts → ¬ (ts ≡ [])
no_alike alike none = cc

-- ---- what the first word decides

lacks_alike : (k : Piece) {vs ts : List Word} → Alike vs ts → Lacks k vs → Lacks k ts
lacks_alike k alike lack = lack

holds_alike : (k : Piece) {vs ts : List Word} → Alike vs ts → Holds k vs → Holds k ts
holds_alike k alike h = h

begins_alike : (t : Token) {vs ts : List Word} → Alike vs ts → Begins t vs → Begins t ts
begins_alike t alike b = b

operand_alike : {vs ts : List Word} → Alike vs ts → operand_at vs ≡ operand_at ts
operand_alike alike = refl

-- two words are looked at, of which the first isn't among those that are taken
abbrev Passes : Look → List Word → Type 0
Passes (before k t) [] = ⊥
Passes l us = Unit {0}

sees_alike : (l : Look) (us : List Word) {vs ts : List Word} → Alike vs ts → Passes l us → Sees l (us ++ vs) → Sees l (us ++ ts)
sees_alike at_end [] alike far s = s
sees_alike at_end (u ∷ us) same far s = s
sees_alike (next t) [] alike far s = s
sees_alike (next t) (u ∷ us) same far s = s
sees_alike (before k t) [] same far s = absurd far
sees_alike (before k t) (u ∷ []) same far s = (s.0, s.1, begins_alike t same s.2)
sees_alike (before k t) (u ∷ v ∷ us) same far s = s
sees_alike expression_end [] alike far s = s
sees_alike expression_end (u ∷ us) same far s = s
sees_alike (tightest n) us same far s = s

-- ---- behind a look at two words the first one is taken

shorter : {r : Rule} {p : Program (Meaning r)} {ws : List Word} {o : Ending (Meaning r)} → Runs r p ws o → length (left o) ≤ length ws
shorter ran = omega arith
shorter refuses = omega arith
shorter (taken (takes v is) run) = let few = shorter run in omega (arith, few)
shorter (untaken lack run) = shorter run
shorter (seen s run) = shorter run
shorter (unseen s run) = shorter run
shorter (chosen e run) = shorter run
shorter (gone inner run) =
    let few = shorter inner in
    let fewer = shorter run in
    omega (arith, few, fewer)
shorter (not_gone inner) = shorter inner

-- a first word that says so is taken
abbrev Eats : (r : Rule) (k : Piece) → Program (Meaning r) → Type 0
Eats r k p = (w : Word) (vs : List Word) (o : Ending (Meaning r)) (v : Said k) → Says k w v → Runs r p (w ∷ vs) o → length (left o) ≤ length vs

eats_expect : (r : Rule) (k j : Piece) {p : Said j → Span → Program (Meaning r)} → ((w : Word) (v : Said k) → Says k w v → (u : Said j) × Says j w u) → Eats r k (take j p refuse)
eats_expect r k j step w vs o v is (taken (takes u f) run) = shorter run
eats_expect r k j step w vs o v is (untaken lack run) = absurd (lack (step w v is).0 (step w v is).1)

eats_take : (r : Rule) (k : Piece) {j : Piece} {p : Said j → Span → Program (Meaning r)} {q : Program (Meaning r)} → Eats r k q → Eats r k (take j p q)
eats_take r k eats w vs o v is (taken (takes u f) run) = shorter run
eats_take r k eats w vs o v is (untaken lack run) = eats w vs o v is run

eats_look : (r : Rule) (k : Piece) {l : Look} {p q : Program (Meaning r)} → Eats r k p → ((ws : List Word) → ¬ Sees l ws → Eats r k q) → Eats r k (look l p q)
eats_look r k first second w vs o v is (seen s run) = first w vs o v is run
eats_look r k first second w vs o v is (unseen s run) = second (w ∷ vs) s w vs o v is run

eats_go : (r : Rule) (k : Piece) {q : Rule} {p : Meaning q → Program (Meaning r)} → Eats q k (program_of q) → Eats r k (go q p)
eats_go r k eats w vs o v is (gone {x = x} {vs = us} inner run) =
    let few = eats w vs (took x us) v is inner in
    let fewer = shorter run in
    omega (arith, few, fewer)
eats_go r k eats w vs o v is (not_gone {vs = us} inner) = eats w vs (refused us) v is inner

path_target : (t : Token) (s : Span) {x : Root × List Step} → path_of t ≡ Some x → (y : Target) × (target_at t s ≡ Some y)
path_target (token.Name n) s e = (if bytes_eq n (codes "_") then target.Nowhere else target.Place s (root.Name n) [], refl)
path_target (token.NamePath n path) s e = (target.Place s (root.Name n) path, refl)
path_target (token.EventPath path) s e = (target.Place s root.Event path, refl)
path_target (token.MetadataPath path) s e = (target.Place s metadata path, refl)
path_target t s e = let nothing : ⊥ = cc in absurd nothing

eats_target : (r : Rule) {p : Said target_word → Span → Program (Meaning r)} → Eats r path_word (take target_word p refuse)
eats_target r = eats_expect r path_word target_word (λ w v is. path_target w.token w.span is)

eats_read : Eats operand path_word (operand_program a_path)
eats_read = eats_expect operand path_word path_word (λ w v is. (v, is))

eats_operand : Eats operand path_word (program_of operand)
eats_operand w vs o v is (chosen {a = a} e run) =
    let path : a ≡ a_path = sym e ∙ path_operand_of w.token is in
    eats_read w vs o v is (subst (λ b. Runs operand (operand_program b) (w ∷ vs) o) path run)

-- so many levels before the tightest
eats_level : (d n : ℕ) → d + n ≡ 8 → Eats (level n) path_word (program_of (level n))
eats_level zero n is = eats_look (level n) path_word (eats_go (level n) path_word eats_operand) (λ ws other. let same : n ≡ 8 = omega (arith, is) in absurd (other same))
eats_level (suc d) n is =
    eats_look (level n) path_word (eats_go (level n) path_word eats_operand) (λ ws other. eats_go (level n) path_word (eats_level d (suc n) (omega (arith, is))))

eats_loosest : Eats (level 0) path_word (program_of (level 0))
eats_loosest = eats_level 8 0 (omega arith)

-- an expression that is no assignment
eats_expression : {p q : Said (sign_word token.Return) → Span → Program (Meaning single)} {goes : Meaning (level 0) → Program (Meaning single)} → Eats single path_word (take (sign_word token.Return) p (take (sign_word token.Abort) q (go (level 0) goes)))
eats_expression = eats_take single path_word (eats_take single path_word (eats_go single path_word eats_loosest))

eats_single : Eats single path_word (program_of single)
eats_single = eats_look single path_word (eats_target single) (λ _ _. eats_look single path_word (eats_target single) (λ _ _. eats_expression))

-- ---- each look at two words has that behind it

abbrev Guards : (r : Rule) → Look → Program (Meaning r) → Program (Meaning r) → Type 0
Guards r (before k t) p q = Eats r k p × Eats r k q
Guards r l p q = Unit {0}

abbrev Fair : (r : Rule) → Program (Meaning r) → Type 0
Fair r (done x) = Unit {0}
Fair r refuse = Unit {0}
Fair r (take k p q) = ((v : Said k) (s : Span) → Fair r (p v s)) × Fair r q
Fair r (look l p q) = Guards r l p q × Fair r p × Fair r q
Fair r (by_operand p) = (a : Operand) → Fair r (p a)
Fair r (go q p) = (x : Meaning q) → Fair r (p x)

operand_fair : (a : Operand) → Fair operand (operand_program a)
operand_fair a_negation = ((λ _ _ _. tt), tt)
operand_fair a_call = ((λ _ _. ((λ _ _ _. ((λ _ _. (tt, (λ _. tt), ((λ _ _. tt), tt))), tt)), tt)), tt)
operand_fair an_array = ((λ _ _ _. ((λ _ _. ((λ _ _. tt), tt)), tt)), tt)
operand_fair a_group = ((λ _ _ _. ((λ _ _. ((λ _ _. tt), tt)), tt)), tt)
operand_fair an_object = ((λ _ _ _. ((λ _ _. tt), tt)), tt)
operand_fair a_block = λ _. tt
operand_fair an_if = ((λ _ _ _. tt), tt)
operand_fair a_path = ((λ _ _. tt), tt)
operand_fair a_template = ((λ _ _. tt), tt)
operand_fair a_literal = ((λ _ _. tt), tt)

rule_fair : (r : Rule) → Fair r (program_of r)
rule_fair script = ((λ _ _ _. tt), (tt, tt, (tt, tt, λ _. ((λ _ _ _. tt), tt))))
rule_fair item = (
  (eats_target item, eats_go item path_word eats_single),
  ((λ _ _. ((λ _ _. ((λ _ _. ((λ _ _ _. tt), tt)), tt)), tt)), tt),
  λ _. tt,
)
rule_fair single = (
  (eats_target single, eats_look single path_word (eats_target single) (λ _ _. eats_expression)),
  ((λ _ _. ((λ _ _ _. tt), tt)), tt),
  (
    (eats_target single, eats_expression),
    ((λ _ _. ((λ _ _ _. tt), tt)), tt),
    ((λ _ _ _. tt), ((λ _ _. (tt, tt, λ _. tt)), λ _. tt)),
  ),
)
rule_fair (level n) = (tt, (λ _. tt), λ _ _. tt)
rule_fair (chain n x) = ((λ _ _ _ _. tt), tt)
rule_fair operand = operand_fair
rule_fair parts = (tt, tt, λ _. ((λ _ _ _. tt), tt))
rule_fair pairs = (tt, tt, ((λ _ _. ((λ _ _ _. ((λ _ _ _. tt), tt)), tt)), tt))
rule_fair arguments = (tt, tt, λ _. ((λ _ _ _. tt), tt))
rule_fair argument = (
  (eats_expect argument name_word name_word (λ w v is. (v, is)), λ w vs o v is run. eats_go argument path_word eats_single w vs o (root.Name v, []) (ap path_of is.is) run),
  ((λ _ _. ((λ _ _ _. tt), tt)), tt),
  λ _. tt,
)
rule_fair closing = ((λ _ _. ((λ _ _ _. ((λ _ _ _. tt), tt)), tt)), tt)
rule_fair names = ((λ _ _ _. tt), tt)
rule_fair more_names = ((λ _ _. ((λ _ _ _. tt), tt)), tt)
rule_fair braces = ((λ _ _ _. ((λ _ _. tt), tt)), tt)
rule_fair arms = λ _ _. ((λ _ _. ((λ _ _ _. tt), λ _. tt)), tt)

-- ---- a run before other words

-- nothing was taken, so the first word doesn't say so
untouched : {r : Rule} {p : Program (Meaning r)} {o : Ending (Meaning r)} (k : Piece) (ws : List Word) → Eats r k p → Runs r p ws o → ws ≡ left o → ¬ Holds k ws
untouched k [] eats run same h = h
untouched {o = o} k (w ∷ ws) eats run same h =
    let few = eats w ws o h.0 h.1 run in
    let long : suc (length ws) ≡ length (left o) = ap length same in
    let wrong : ⊥ = omega (arith, few, long) in
    wrong

holds_before : (k : Piece) (t : Token) (ws : List Word) → Sees (before k t) ws → Holds k ws
holds_before k t [] s = s
holds_before k t (w ∷ ws) s = (s.0, s.1)

seen_passes : (r : Rule) (p q : Program (Meaning r)) {o : Ending (Meaning r)} (l : Look) (us ws : List Word) → Guards r l p q → Runs r p ws o → ws ≡ us ++ left o → Sees l ws → Passes l us
seen_passes r p q (before k t) [] ws guards run split s = untouched k ws guards.0 run split (holds_before k t ws s)
seen_passes r p q l us ws guards run split s = tt

unseen_passes : (r : Rule) (p q : Program (Meaning r)) {o : Ending (Meaning r)} (l : Look) (us ws : List Word) {ts : List Word} → Guards r l p q → Runs r q ws o → ws ≡ us ++ left o → Alike ts (left o) → Sees l (us ++ ts) → Passes l us
unseen_passes r p q (before k t) [] ws {ts} guards run split same s = untouched k ws guards.1 run split (subst (Holds k) (sym split) (holds_alike k same (holds_before k t ts s)))
unseen_passes r p q l us ws guards run split same s = tt

-- with the words that it takes it ends so before any words that begin as those before which it stopped
abbrev EndsBefore : (r : Rule) → Program (Meaning r) → Ending (Meaning r) → List Word → Type 0
EndsBefore r p o us = (ts : List Word) → Alike (left o) ts → Runs r p (us ++ ts) (moved o ts)

ahead : {r : Rule} {p : Program (Meaning r)} {ws : List Word} {o : Ending (Meaning r)} → Fair r p → Runs r p ws o → Front ws (left o) (EndsBefore r p o)
ahead fair ran = record { words = []; parts = refl; told = λ ts same. ran }
ahead fair refuses = record { words = []; parts = refl; told = λ ts same. refuses }
ahead fair (taken (takes {w} v is) run) =
    let front = ahead (fair.0 v w.span) run in
    record { words = w ∷ front.words; parts = ap (λ ts. w ∷ ts) front.parts; told = λ ts same. taken (takes v is) (front.told ts same) }
ahead fair (untaken {k = k} lack run) =
    let front = ahead fair.1 run in
    record { words = front.words; parts = front.parts; told = λ ts same. untaken (lacks_alike k (alike_behind front.words same) (subst (Lacks k) front.parts lack)) (front.told ts same) }
ahead {r = r} {ws = ws} fair (seen {l = l} {p = p} {q = q} s run) =
    let front = ahead fair.1 run in
    record {
      words = front.words;
      parts = front.parts;
      told = λ ts same. seen (sees_alike l front.words same (seen_passes r p q l front.words ws fair.0 run front.parts s) (subst (Sees l) front.parts s)) (front.told ts same);
    }
ahead {r = r} {ws = ws} fair (unseen {l = l} {p = p} {q = q} s run) =
    let front = ahead fair.2 run in
    record {
      words = front.words;
      parts = front.parts;
      told = λ ts same. unseen (λ now. s (subst (Sees l) (sym front.parts) (sees_alike l front.words (alike_back same) (unseen_passes r p q l front.words ws fair.0 run front.parts (alike_back same) now) now))) (front.told ts same);
    }
ahead fair (chosen {a = a} e run) =
    let front = ahead (fair a) run in
    record { words = front.words; parts = front.parts; told = λ ts same. chosen (sym (operand_alike (alike_behind front.words same)) ∙ ap operand_at (sym front.parts) ∙ e) (front.told ts same) }
ahead {r = r} {o = o} fair (gone {q = q} {p = p} {x = x} {vs = vs} inner run) =
    let first = ahead (rule_fair q) inner in
    let second = ahead (fair x) run in
    record {
      words = first.words ++ second.words;
      parts = first.parts ∙ ap (λ ts. first.words ++ ts) second.parts ∙ sym (append_assoc first.words second.words (left o));
      told = λ ts same. subst (λ us. Runs r (go q p) us (moved o ts)) (sym (append_assoc first.words second.words ts))
          (gone (first.told (second.words ++ ts) (subst (λ us. Alike us (second.words ++ ts)) (sym second.parts) (alike_behind second.words same))) (second.told ts same));
    }
ahead fair (not_gone {q = q} inner) =
    let first = ahead (rule_fair q) inner in
    record { words = first.words; parts = first.parts; told = λ ts same. not_gone (first.told ts same) }

-- ---- no script begins with what a script took and the next word

no_script_at : (o : Ending Exprs) (us ts : List Word) (es : Exprs) → Alike (left o) ts → Runs script (program_of script) us (moved o ts) → ¬ IsScript us es
no_script_at (took x vs) us ts es same run is =
    let one = one_ending run (script_is_taken is) in
    let none : ts ≡ [] = cc in
    no_alike same none
no_script_at (refused vs) us ts es same run is =
    let one = one_ending run (script_is_taken is) in
    cc

-- none is of the words that were taken and of others that begin with the word before which it stopped
abbrev pub BeginsNone : List Word → List Word → Type 0
BeginsNone vs us = (ts : List Word) (es : Exprs) → Alike vs ts → ¬ IsScript (us ++ ts) es

pub script_goes_no_further : {ws : List Word} (o : Ending Exprs) → Runs script (program_of script) ws o → Front ws (left o) (BeginsNone (left o))
script_goes_no_further o run =
    let front = ahead (rule_fair script) run in
    record { words = front.words; parts = front.parts; told = λ ts es same. no_script_at o (front.words ++ ts) ts es same (front.told ts same) }
