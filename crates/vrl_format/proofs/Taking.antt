-- What a part of a script is read to is read from words that are alike: they are taken from the front
-- of a list, of which the rest is alike what stands behind the part.
use Rattle.std.proofs.Common.{◌≡◌, Bool, true, false, List, [], ◌∷◌, ◌++◌, not, refl, sym, ap, ◌∙◌, subst, true≢false}
use Rattle.std.proofs.lemmas.List.{append_assoc}
use Rattle.vrl_token.specs.declared.token.Token.{Token}
use Rattle.vrl_token.specs.declared.token.Token.TheVariants as token
use Rattle.vrl_word.specs.Words.{Word}
use Rattle.vrl_parse.specs.Grammar.{Is}
use Rattle.vrl_format.specs.Apart.{ends_block}
use Rattle.vrl_format.specs.Pieces.{braces_behind}
use Rattle.vrl_format.proofs.Marks.{Front, inner, after_token, marks, is_separator, mark_is, mark_none, first_is, rest_is, none_is_some, first_apart}

-- the same word but for its place
pub record Same (v w : Word) : Type 0 where
  pub token : v.token ≡ w.token
  pub number : v.number ≡ w.number

abbrev pub Alike : List Bool → List Word → List Word → Type 0
Alike braces us vs = marks braces inner us ≡ marks braces inner vs

-- the first word of a list is this one, and the rest is alike
pub record First (braces : List Bool) (f : Front) (w : Word) (vs us : List Word) : Type 0 where
  pub word : Word
  pub rest : List Word
  pub parts : us ≡ word ∷ rest
  pub same : Same word w
  pub alike : marks braces f rest ≡ marks braces f vs

first_of_alike : (braces : List Bool) (w : Word) (vs us : List Word) → ends_block braces w.token ≡ false
    → marks braces inner us ≡ record { apart = false; token = w.token; number = w.number } ∷ marks (braces_behind w.token braces) (after_token w.token) vs
    → First (braces_behind w.token braces) (after_token w.token) w vs us
first_of_alike braces w vs [] goes_on is = absurd (none_is_some is)
first_of_alike braces w vs (u ∷ us) goes_on is = by (is_separator u.token) refl
  where
    by : (b : Bool) → is_separator u.token ≡ b → First (braces_behind w.token braces) (after_token w.token) w vs (u ∷ us)
    by true such =
        let flag : false ≡ not (ends_block braces w.token) =
        first_apart braces us _ _ (sym (mark_none braces inner (λ b g. marks b g us) u.token u.number such) ∙ is) in
        absurd (true≢false (sym (flag ∙ ap not goes_on)))
    by false other =
        let both = sym (mark_is braces inner (λ b g. marks b g us) u.token u.number other) ∙ is in
        let head = first_is both in
        let same : u.token ≡ w.token = ap (λ m. m.token) head in
        record {
          word = u;
          rest = us;
          parts = refl;
          same = record { token = same; number = ap (λ m. m.number) head };
          alike = ap (λ t. marks (braces_behind t braces) (after_token t) us) (sym same) ∙ rest_is both;
        }

first_taken : (braces : List Bool) (w : Word) (vs us : List Word) → is_separator w.token ≡ false → ends_block braces w.token ≡ false
    → Alike braces us (w ∷ vs) → First (braces_behind w.token braces) (after_token w.token) w vs us
first_taken braces w vs us other goes_on is =
    first_of_alike braces w vs us goes_on (is ∙ mark_is braces inner (λ b g. marks b g vs) w.token w.number other)

-- a sign
pub sign_taken : (t : Token) (braces : List Bool) (w : Word) (vs us : List Word) → Is t w → is_separator t ≡ false → ends_block braces t ≡ false
    → Alike braces us (w ∷ vs) → First (braces_behind t braces) (after_token t) w vs us
sign_taken t braces w vs us is other goes_on alike =
    subst (λ u. First (braces_behind u braces) (after_token u) w vs us) is.is
    (first_taken braces w vs us (ap is_separator is.is ∙ other) (ap (ends_block braces) is.is ∙ goes_on) alike)

-- the same sign
pub sign_again : (t : Token) (v w : Word) → Is t w → Same v w → Is t v
sign_again t v w is same = record { is = same.token ∙ is.is }

-- ---- words that are no separators and no braces of blocks and objects

abbrev pub plain : Token → Bool
plain token.Separator = false
plain token.OpenBlock = false
plain token.OpenObject = false
plain token.CloseBrace = false
plain t = true

record Steady (braces : List Bool) (t : Token) : Type 0 where
  no_separator : is_separator t ≡ false
  no_end : ends_block braces t ≡ false
  braces_stay : braces_behind t braces ≡ braces
  front : after_token t ≡ inner

steady : (braces : List Bool) (t : Token) → plain t ≡ true → Steady braces t
steady braces token.Separator is = absurd (true≢false (sym is))
steady braces token.OpenBlock is = absurd (true≢false (sym is))
steady braces token.OpenObject is = absurd (true≢false (sym is))
steady braces token.CloseBrace is = absurd (true≢false (sym is))
steady braces t is = record { no_separator = refl; no_end = refl; braces_stay = refl; front = refl }

plain_taken : (braces : List Bool) (w : Word) (vs us : List Word) → plain w.token ≡ true → Alike braces us (w ∷ vs) → First braces inner w vs us
plain_taken braces w vs us is alike =
    let s = steady braces w.token is in
    subst (λ b. First b inner w vs us) s.braces_stay
    (subst (λ f. First (braces_behind w.token braces) f w vs us) s.front (first_taken braces w vs us s.no_separator s.no_end alike))

-- ---- words that are taken

pub record Took (braces : List Bool) (zs us : List Word) (P : List Word → Type 0) : Type 0 where
  pub words : List Word
  pub rest : List Word
  pub parts : us ≡ words ++ rest
  pub alike : Alike braces rest zs
  pub told : P words

-- of each list that is alike these words and what stands behind them, words are taken that are so
pub record Takes (ws : List Word) (P : List Word → Type 0) : Type 0 where
  pub take : (braces : List Bool) (zs us : List Word) → Alike braces us (ws ++ zs) → Took braces zs us P

pub takes_none : {P : List Word → Type 0} → P [] → Takes [] P
takes_none p = record { take = λ braces zs us alike. record { words = []; rest = us; parts = refl; alike = alike; told = p } }

pub takes_as : {ws : List Word} {P Q : List Word → Type 0} → Takes ws P → ((ts : List Word) → P ts → Q ts) → Takes ws Q
takes_as t f = record {
  take = λ braces zs us alike.
      let one = t.take braces zs us alike in
      record { words = one.words; rest = one.rest; parts = one.parts; alike = one.alike; told = f one.words one.told };
}

pub takes_word : {ws : List Word} {Q : List Word → Type 0} (w : Word) → plain w.token ≡ true
    → ((v : Word) → Same v w → Takes ws (λ ts. Q (v ∷ ts))) → Takes (w ∷ ws) Q
takes_word {ws = ws} {Q = Q} w is on = record {
  take = λ braces zs us alike.
      let f = plain_taken braces w (ws ++ zs) us is alike in
      let t = (on f.word f.same).take braces zs f.rest f.alike in
      record { words = f.word ∷ t.words; rest = t.rest; parts = f.parts ∙ ap (λ x. f.word ∷ x) t.parts; alike = t.alike; told = t.told };
}

pub takes_sign : {ws : List Word} {Q : List Word → Type 0} (t : Token) {w : Word} → Is t w → plain t ≡ true
    → ((v : Word) → Is t v → Takes ws (λ ts. Q (v ∷ ts))) → Takes (w ∷ ws) Q
takes_sign {Q = Q} t {w = w} is steady on = takes_word {Q = Q} w (ap plain is.is ∙ steady) (λ v same. on v (sign_again t v w is same))

pub takes_both : {P Q : List Word → Type 0} (ws vs : List Word) → Takes ws P
    → ((ts : List Word) → P ts → Takes vs (λ us. Q (ts ++ us))) → Takes (ws ++ vs) Q
takes_both {Q = Q} ws vs t on = record {
  take = λ braces zs us alike.
      let one = t.take braces (vs ++ zs) us (alike ∙ ap (marks braces inner) (append_assoc ws vs zs)) in
      let two = (on one.words one.told).take braces zs one.rest one.alike in
      record {
        words = one.words ++ two.words;
        rest = two.rest;
        parts = one.parts ∙ ap (λ x. one.words ++ x) two.parts ∙ sym (append_assoc one.words two.words two.rest);
        alike = two.alike;
        told = two.told;
      };
}

-- what stands between the braces of an object
pub takes_object : {P Q : List Word → Type 0} {o c : Word} (ws : List Word) → Is token.OpenObject o → Takes ws P → Is token.CloseBrace c
    → ((p q : Word) (ts : List Word) → Is token.OpenObject p → P ts → Is token.CloseBrace q → Q (p ∷ ts ++ q ∷ [])) → Takes (o ∷ ws ++ c ∷ []) Q
takes_object {P = P} {Q = Q} {o = o} {c = c} ws opens t closes on = record {
  take = λ braces zs us alike.
      let f : First (false ∷ braces) inner o ((ws ++ c ∷ []) ++ zs) us =
      sign_taken token.OpenObject braces o ((ws ++ c ∷ []) ++ zs) us opens refl refl alike in
      let one = t.take (false ∷ braces) (c ∷ zs) f.rest (f.alike ∙ ap (marks (false ∷ braces) inner) (append_assoc ws (c ∷ []) zs)) in
      closed braces zs us f one (sign_taken token.CloseBrace (false ∷ braces) c zs one.rest closes refl refl one.alike);
}
  where
    closed : (braces : List Bool) (zs us : List Word) (f : First (false ∷ braces) inner o ((ws ++ c ∷ []) ++ zs) us)
        (one : Took (false ∷ braces) (c ∷ zs) f.rest P) → First braces inner c zs one.rest → Took braces zs us Q
    closed braces zs us f one g = record {
      words = f.word ∷ one.words ++ g.word ∷ [];
      rest = g.rest;
      parts = f.parts ∙ ap (λ x. f.word ∷ x)
          (one.parts ∙ ap (λ x. one.words ++ x) g.parts ∙ sym (append_assoc one.words (g.word ∷ []) g.rest));
      alike = g.alike;
      told = on f.word g.word one.words (sign_again token.OpenObject f.word o opens f.same) one.told
          (sign_again token.CloseBrace g.word c closes g.same);
    }

-- ---- what is read

-- the words are read to a part that is the same but for places
pub record ReadAs {A B : Type 0} (X : List Word → A → Type 0) (f : A → B) (want : B) (ts : List Word) : Type 0 where
  pub tree : A
  pub is : X ts tree
  pub same : f tree ≡ want
