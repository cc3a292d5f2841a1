-- What the rules take is of the grammar.
use Rattle.std.proofs.Common.{◌≡◌, ℕ, Bool, Some, List, [], ◌∷◌, ◌++◌, refl, sym, ap, ◌∙◌, subst}
use Rattle.std.proofs.lemmas.List.{append-nil, append_assoc}
use Rattle.vrl_syntax.specs.Tree.{expr, Exprs, Args, call, no_closure, closure}
use Rattle.vrl_token.specs.declared.token.Token.TheVariants as token
use Rattle.vrl_word.specs.Words.{Word, function_of, name_span, over}
use Rattle.vrl_parse.specs.Grammar.{Is, AreNames, one_name, more_names as more_than_one_name, IsScript, no_items, separator, last_item, more_items, IsItem, both_targets, single as single_item, IsSingle, assigned, merged, returned, aborted, aborted_with, coalesce, IsLevel, tighter, joined, tightest as tightest_level, IsUnary, negated, primary, a_literal as literal_operand, a_template as template_operand, a_path as path_operand, without_suffix, with_suffix, with_closure, an_object as object_operand, a_block as block_operand, an_if as if_operand, MayHaveSuffix, a_call as call_operand, an_array as array_operand, a_group as group_operand, called, AreArgs, no_arguments, last_argument, more_arguments, IsArg, named, unnamed, IsClosure, a_closure, AreSingles, no_singles, last_single, more_singles, ArePairs, no_parts, last_pair, more_pairs, IsBlock, a_script, AreArms, last_arm, with_else, more_arms}
use Rattle.vrl_parse.specs.Descent.{Said, Says, takes, Sees, Operand, a_negation, a_call, an_array, a_group, an_object, a_block, an_if, a_path, a_template, a_literal, operand_program, Rule, script, item, single, level, chain, operand, parts, pairs, arguments, argument, closing, names, more_names, braces, arms, Meaning, Program, done, refuse, take, look, by_operand, go, program_of, took, Runs, ran, taken, untaken, seen, unseen, chosen, gone, RuleTakes}

-- what the grammar says of the words that a rule took
abbrev pub Spells : (r : Rule) → List Word → Meaning r → Type 0
Spells script ws x = IsScript ws x
Spells item ws x = IsItem ws x
Spells single ws x = IsSingle ws x
Spells (level n) ws x = IsLevel n ws x
Spells (chain n left) ws x = (us : List Word) → IsLevel n us left → IsLevel n (us ++ ws) x
Spells operand ws x = IsUnary ws x
Spells parts ws x = AreSingles ws x
Spells pairs ws x = ArePairs ws x
Spells arguments ws x = AreArgs ws x
Spells argument ws x = IsArg ws x.0 x.1 x.2
Spells closing ws x = IsClosure ws (closure x.0 x.1 x.2) x.2
Spells names ws x = AreNames ws x
Spells more_names ws x = (w : Word) (n : List ℕ) → Is (token.Name n) w → AreNames (w ∷ ws) (n ∷ x)
Spells braces ws x = IsBlock ws x.0 x.1
Spells arms ws x = AreArms ws x.0 x.1 x.2

-- whatever the program answers is so with the words that it takes
abbrev pub Keeps : {A : Type 0} → Program A → (List Word → A → Type 0) → Type 0
Keeps (done x) holds = holds [] x
Keeps refuse holds = Unit {0}
Keeps (take k p q) holds = ((w : Word) (v : Said k) → Says k w v → Keeps (p v w.span) (λ ts. holds (w ∷ ts))) × Keeps q holds
Keeps (look l p q) holds = ((ws : List Word) → Sees l ws → Keeps p holds) × Keeps q holds
Keeps (by_operand p) holds = (a : Operand) → Keeps (p a) holds
Keeps (go r p) holds = (us : List Word) (x : Meaning r) → Spells r us x → Keeps (p x) (λ ts. holds (us ++ ts))

-- words that are so stand before the rest
pub record Front (ws rest : List Word) (holds : List Word → Type 0) : Type 0 where
  pub words : List Word
  pub parts : ws ≡ words ++ rest
  pub told : holds words

pub add_word : {w : Word} {ws rest : List Word} {P : List Word → Type 0} → Front ws rest (λ ts. P (w ∷ ts)) → Front (w ∷ ws) rest P
add_word {w = w} f = record { words = w ∷ f.words; parts = ap (λ ts. w ∷ ts) f.parts; told = f.told }

add_words : (us : List Word) {ws rest : List Word} {P : List Word → Type 0} → Front ws rest (λ ts. P (us ++ ts)) → Front (us ++ ws) rest P
add_words us {rest = rest} f = record { words = us ++ f.words; parts = ap (λ ts. us ++ ts) f.parts ∙ sym (append_assoc us f.words rest); told = f.told }

pub kept : ((q : Rule) → Keeps (program_of q) (Spells q)) → {r : Rule} {p : Program (Meaning r)} {ws vs : List Word} {x : Meaning r} → (holds : List Word → Meaning r → Type 0) → Keeps p holds → Runs r p ws (took x vs) → Front ws vs (λ ts. holds ts x)
kept law holds h ran = record { words = []; parts = refl; told = h }
kept law holds h (taken (takes {w} v f) run) = add_word (kept law (λ ts. holds (w ∷ ts)) (h.0 w v f) run)
kept law holds h (untaken lack run) = kept law holds h.1 run
kept law holds h (seen {ws = ws} s run) = kept law holds (h.0 ws s) run
kept law holds h (unseen s run) = kept law holds h.1 run
kept law holds h (chosen {a = a} e run) = kept law holds (h a) run
kept law {vs = vs} {x = x} holds h (gone {q = q} {x = y} inner run) =
    let front = kept law (Spells q) (law q) inner in
    subst (λ ts. Front ts vs (λ us. holds us x)) (sym front.parts) (add_words front.words (kept law (λ ts. holds (front.words ++ ts)) (h front.words y front.told) run))

operand_keeps : (a : Operand) → Keeps (operand_program a) IsUnary
operand_keeps a_negation = ((λ w _ is us e h. rw append-nil (negated is h)), tt)
operand_keeps a_call = (
  (λ w f is. (
    (λ o _ io. λ us gs h. (
      (λ c _ ic. (
        (λ ws _ vs k hk. rw (append-nil, ← append_assoc us (c ∷ []) vs) (primary (with_closure (called is io h ic) hk))),
        (
          (λ x p ix. rw (← append_assoc us (c ∷ []) (x ∷ [])) (primary (with_suffix (a_call_of is io h ic) ix))),
          primary (without_suffix (a_call_of is io h ic)),
        ),
      )),
      tt,
    )),
    tt,
  )),
  tt,
)
  where
    a_call_of : {w o c : Word} {f : List ℕ × Bool} {ws : List Word} {gs : Args} → function_of w.token ≡ Some f → Is token.OpenParenthesis o → AreArgs ws gs → Is token.CloseParenthesis c → MayHaveSuffix (w ∷ o ∷ ws ++ c ∷ []) (expr (over w.span c.span) (call f.0 (name_span w.span f.1) f.1 gs no_closure))
    a_call_of is io h ic = call_operand (called is io h ic)
operand_keeps an_array = (
  (λ o _ io. λ us es h. (
    (λ c _ ic. (
      (λ x p ix. rw (← append_assoc us (c ∷ []) (x ∷ [])) (primary (with_suffix (array_operand io h ic) ix))),
      primary (without_suffix (array_operand io h ic)),
    )),
    tt,
  )),
  tt,
)
operand_keeps a_group = (
  (λ o _ io. λ us e h. (
    (λ c _ ic. (
      (λ x p ix. rw (← append_assoc us (c ∷ []) (x ∷ [])) (primary (with_suffix (group_operand io h ic) ix))),
      primary (without_suffix (group_operand io h ic)),
    )),
    tt,
  )),
  tt,
)
operand_keeps an_object = ((λ o _ io. λ us ps h. ((λ c _ ic. primary (object_operand io h ic)), tt)), tt)
operand_keeps a_block = λ us b h. rw append-nil (primary (block_operand h))
operand_keeps an_if = ((λ w _ is. λ us a h. rw append-nil (primary (if_operand is h))), tt)
operand_keeps a_path = ((λ w p is. primary (path_operand is)), tt)
operand_keeps a_template = ((λ w e is. primary (template_operand is)), tt)
operand_keeps a_literal = ((λ w v is. primary (literal_operand is)), tt)

pub rule_keeps : (r : Rule) → Keeps (program_of r) (Spells r)
rule_keeps script = (
  (λ w _ is us es h. rw append-nil (separator is h)),
  (
    (λ _ _. no_items),
    (
      (λ _ _. no_items),
      (λ us e h. ((λ w _ is vs es hs. rw append-nil (more_items h is hs)), rw append-nil (last_item h))),
    ),
  ),
)
rule_keeps item = (
  (λ _ _. ((λ w t is. ((λ c _ ic. ((λ v u iu. ((λ q _ iq. λ us e h. rw append-nil (both_targets is ic iu iq h)), tt)), tt)), tt)), tt)),
  (λ us e h. rw append-nil (single_item h)),
)
rule_keeps single = (
  (λ _ _. ((λ w t is. ((λ q _ iq. λ us e h. rw append-nil (assigned is iq h)), tt)), tt)),
  (
    (λ _ _. ((λ w t is. ((λ q _ iq. λ us e h. rw append-nil (merged is iq h)), tt)), tt)),
    (
      (λ w _ is us e h. rw append-nil (returned is h)),
      (
        (λ w _ is. ((λ _ _. aborted is), (λ us e h. rw append-nil (aborted_with is h)))),
        (λ us e h. rw append-nil (coalesce h)),
      ),
    ),
  ),
)
rule_keeps (level n) = (
  (λ ws e us x h. rw (append-nil, e) (tightest_level h)),
  (λ us left h vs x hs. rw append-nil (hs us (tighter h))),
)
rule_keeps (chain n left) = (
  (λ w o is us right h vs x hs ls hl. rw (append-nil, ← append_assoc ls (w ∷ us) vs) (hs (ls ++ w ∷ us) (joined w hl is h))),
  (λ ls hl. rw append-nil hl),
)
rule_keeps operand = operand_keeps
rule_keeps parts = (
  (λ _ _. no_singles),
  (λ us e h. ((λ c _ ic vs es hs. rw append-nil (more_singles h ic hs)), rw append-nil (last_single h))),
)
rule_keeps pairs = (
  (λ _ _. no_parts),
  ((λ k key ik. ((λ c _ ic. λ us e h. ((λ d _ id vs ps hs. rw append-nil (more_pairs ik ic h id hs)), rw append-nil (last_pair ik ic h))), tt)), tt),
)
rule_keeps arguments = (
  (λ _ _. no_arguments),
  (λ us a h. ((λ c _ ic vs gs hs. rw append-nil (more_arguments h ic hs)), rw append-nil (last_argument h))),
)
rule_keeps argument = (
  (λ _ _. ((λ w n is. ((λ c _ ic. λ us e h. rw append-nil (named is ic h)), tt)), tt)),
  (λ us e h. rw append-nil (unnamed h)),
)
rule_keeps closing =
    ((λ a _ ia. ((λ o _ io. λ us ns h. ((λ c _ ic. λ vs b hb. rw append-nil (a_closure ia io h ic hb)), tt)), tt)), tt)
rule_keeps names = ((λ w n is. λ us ns h. rw append-nil (h w n is)), tt)
rule_keeps more_names = (
  (λ c _ ic. ((λ v m iv. λ us ns h w n is. rw append-nil (more_than_one_name is ic (h v m iv))), tt)),
  (λ w n is. one_name is),
)
rule_keeps braces = ((λ o _ io. λ us es h. ((λ c _ ic. a_script io h ic), tt)), tt)
rule_keeps arms = λ us e h vs b hb. (
  (λ l _ il. (
    (λ i _ ii ws a ha. rw append-nil (more_arms h hb il ii ha)),
    (λ ws c hc. rw append-nil (with_else h hb il hc)),
  )),
  rw append-nil (last_arm h hb),
)

-- the words of a script that is taken
pub script_is_spelled : {ws vs : List Word} {es : Exprs} → RuleTakes script ws es vs → Front ws vs (λ us. IsScript us es)
script_is_spelled run = kept rule_keeps (Spells script) (rule_keeps script) run
