-- Words whose tokens may stand behind those before them, where words of a sort stand.
use Rattle.std.proofs.Common.{◌≡◌, refl, sym, ap, ◌∙◌, subst, true, List, [], ◌∷◌, ◌++◌}
use Rattle.std.proofs.lemmas.List.{append_assoc}
use Rattle.vrl_token.specs.Brackets.{open_behind}
use Rattle.vrl_token.specs.declared.token.Token.{Token}
use Rattle.vrl_word.specs.Words.{Word}
use Rattle.vrl_parse.specs.Grammar.{Is}
use Rattle.vrl_format.proofs.Joining.{may_follow}

-- each of the words may stand behind these tokens and the words before it
abbrev pub WordsJoined : List Token → List Word → Type 0
WordsJoined before [] = Unit {0}
WordsJoined before (w ∷ ws) = (may_follow before w.token ≡ true) × WordsJoined (w.token ∷ before) ws

-- the tokens before the place behind the words
abbrev pub behind_words : List Token → List Word → List Token
behind_words before [] = before
behind_words before (w ∷ ws) = behind_words (w.token ∷ before) ws

-- The words may stand behind tokens of the first sort, tokens of the second sort stand before the
-- place behind them, and they close the brackets that they open.
pub record Part (S E : List Token → Type 0) (ws : List Word) : Type 0 where
  pub joined : (before : List Token) → S before → WordsJoined before ws
  pub ends : (before : List Token) → S before → E (behind_words before ws)
  pub balanced : (before : List Token) → open_behind (behind_words before ws) ≡ open_behind before

pub nothing : (S E : List Token → Type 0) → ((before : List Token) → S before → E before) → Part S E []
nothing S E step = record { joined = λ before s. tt; ends = step; balanced = λ before. refl }

-- ---- one word

of_token : (S E : List Token → Type 0) (w : Word) → ((before : List Token) → S before → may_follow before w.token ≡ true)
    → ((before : List Token) → S before → E (w.token ∷ before)) → ((before : List Token) → open_behind (w.token ∷ before) ≡ open_behind before) → Part S E (w ∷ [])
of_token S E w follows ends stays = record { joined = λ before s. (follows before s, tt); ends = ends; balanced = stays }

pub one : (S E : List Token → Type 0) (t : Token) {w : Word} → Is t w → ((before : List Token) → S before → may_follow before t ≡ true)
    → ((before : List Token) → S before → E (t ∷ before)) → ((before : List Token) → open_behind (t ∷ before) ≡ open_behind before) → Part S E (w ∷ [])
one S E t {w = w} is follows ends stays = of_token S E w
    (λ before s. subst (λ u. may_follow before u ≡ true) (sym is.is) (follows before s))
    (λ before s. subst (λ u. E (u ∷ before)) (sym is.is) (ends before s))
    (λ before. subst (λ u. open_behind (u ∷ before) ≡ open_behind before) (sym is.is) (stays before))

-- ---- words behind words

joined_both : (before : List Token) (us vs : List Word) → WordsJoined before us → WordsJoined (behind_words before us) vs → WordsJoined before (us ++ vs)
joined_both before [] vs first second = second
joined_both before (u ∷ us) vs first second = (first.0, joined_both (u.token ∷ before) us vs first.1 second)

behind_both : (before : List Token) (us vs : List Word) → behind_words before (us ++ vs) ≡ behind_words (behind_words before us) vs
behind_both before [] vs = refl
behind_both before (u ∷ us) vs = behind_both (u.token ∷ before) us vs

pub both : {S M E : List Token → Type 0} {us vs : List Word} → Part S M us → Part M E vs → Part S E (us ++ vs)
both {E = E} {us = us} {vs = vs} p q = record {
  joined = λ before s. joined_both before us vs (p.joined before s) (q.joined (behind_words before us) (p.ends before s));
  ends = λ before s. subst E (sym (behind_both before us vs)) (q.ends (behind_words before us) (p.ends before s));
  balanced = λ before. ap open_behind (behind_both before us vs) ∙ q.balanced (behind_words before us) ∙ p.balanced before;
}

-- ---- sorts

pub sorted : {S S2 E E2 : List Token → Type 0} {ws : List Word} → ((before : List Token) → S2 before → S before) → ((before : List Token) → E before → E2 before) → Part S E ws → Part S2 E2 ws
sorted {ws = ws} first last p = record {
  joined = λ before s. p.joined before (first before s);
  ends = λ before s. last (behind_words before ws) (p.ends before (first before s));
  balanced = p.balanced;
}

-- ---- words in brackets

wrapped_joined : (before : List Token) (o c : Token) {u v : Word} (ws : List Word) → Is o u → Is c v → may_follow before o ≡ true → WordsJoined (o ∷ before) ws → may_follow (behind_words (o ∷ before) ws) c ≡ true → WordsJoined before (u ∷ ws ++ v ∷ [])
wrapped_joined before o c {u = u} {v = v} ws opens closes first inner last = (
  subst (λ t. may_follow before t ≡ true) (sym opens.is) first,
  joined_both (u.token ∷ before) ws (v ∷ []) (subst (λ t. WordsJoined (t ∷ before) ws) (sym opens.is) inner) (
    subst (λ t. may_follow (behind_words (t ∷ before) ws) v.token ≡ true) (sym opens.is) (subst (λ t. may_follow (behind_words (o ∷ before) ws) t ≡ true) (sym closes.is) last),
    tt,
  ),
)

wrapped_behind : (before : List Token) (o c : Token) {u v : Word} (ws : List Word) → Is o u → Is c v → behind_words before (u ∷ ws ++ v ∷ []) ≡ c ∷ behind_words (o ∷ before) ws
wrapped_behind before o c {u = u} {v = v} ws opens closes =
    behind_both (u.token ∷ before) ws (v ∷ []) ∙ ap (λ t. t ∷ behind_words (u.token ∷ before) ws) closes.is ∙ ap (λ t. c ∷ behind_words (t ∷ before) ws) opens.is

-- The sorts are those before the opening bracket, behind it, before the closing one, and behind it.
pub wrapped : (S I R E : List Token → Type 0) (o c : Token) {u v : Word} {ws : List Word} → Is o u → Is c v
    → ((before : List Token) → S before → may_follow before o ≡ true) → ((before : List Token) → S before → I (o ∷ before))
    → ((before inner : List Token) → R inner → open_behind inner ≡ open_behind (o ∷ before) → may_follow inner c ≡ true)
    → ((inner : List Token) → E (c ∷ inner))
    → ((before inner : List Token) → open_behind inner ≡ open_behind (o ∷ before) → open_behind (c ∷ inner) ≡ open_behind before)
    → Part I R ws → Part S E (u ∷ ws ++ v ∷ [])
wrapped S I R E o c {u = u} {v = v} {ws = ws} opens closes first inside last ends closed p = record {
  joined = λ before s. wrapped_joined before o c ws opens closes (first before s) (p.joined (o ∷ before) (inside before s))
      (last before (behind_words (o ∷ before) ws) (p.ends (o ∷ before) (inside before s)) (p.balanced (o ∷ before)));
  ends = λ before s. subst E (sym (wrapped_behind before o c ws opens closes)) (ends (behind_words (o ∷ before) ws));
  balanced = λ before. ap open_behind (wrapped_behind before o c ws opens closes) ∙ closed before (behind_words (o ∷ before) ws) (p.balanced (o ∷ before));
}

-- words in brackets, and others behind them
pub wrapped_then : {S E : List Token → Type 0} (u v : Word) (ws vs : List Word) → Part S E ((u ∷ ws ++ v ∷ []) ++ vs) → Part S E (u ∷ ws ++ v ∷ vs)
wrapped_then {S = S} {E = E} u v ws vs p = subst (λ us. Part S E (u ∷ us)) (append_assoc ws (v ∷ []) vs) p
