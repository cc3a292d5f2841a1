-- The items of a script, with the separators between them.
use Rattle.std.proofs.Common.{◌≡◌, Bool, true, false, not, List, [], ◌∷◌, ◌++◌, refl, sym, ap, ◌∙◌, subst, true≢false}
use Rattle.std.proofs.lemmas.List.{append-nil, append_assoc}
use Rattle.vrl_diag.specs.declared.diagnostic.Span.{Span}
use Rattle.vrl_syntax.specs.Tree.{Expr, Exprs, no_exprs, exprs}
use Rattle.vrl_token.specs.declared.token.Token.{Token}
use Rattle.vrl_token.specs.declared.token.Token.TheVariants as token
use Rattle.vrl_word.specs.Words.{Word, over}
use Rattle.vrl_parse.specs.Grammar.{Is, IsBlock, a_script, IsItem, IsScript, no_items, separator, last_item, more_items}
use Rattle.vrl_format.specs.Apart.{ends_block}
use Rattle.vrl_format.specs.Pieces.{braces_behind}
use Rattle.vrl_format.specs.Unplaced.{unplaced, unplaced_exprs}
use Rattle.vrl_format.proofs.FirstWords.{starts, Begins, begins_more, item_begins}
use Rattle.vrl_format.proofs.Marks.{Front, edge, inner, behind_separator, mark_is, mark_none, marks, after_token, is_separator, separator_is, first_is, rest_is, none_is_some, alike_at_edge}
use Rattle.vrl_format.proofs.Taking.{Alike, First, ReadAs, sign_again, sign_taken, Takes, Took}

-- ---- separators

abbrev Separators : List Word → Type 0
Separators [] = Unit {0}
Separators (w ∷ ws) = Is token.Separator w × Separators ws

-- the list begins with no separator
abbrev pub Sealed : List Word → Type 0
Sealed [] = Unit {0}
Sealed (w ∷ ws) = is_separator w.token ≡ false

-- a script stands where nothing is behind it, or the brace that ends its block
abbrev pub Ends : List Bool → List Word → Type 0
Ends braces [] = Unit {0}
Ends [] (w ∷ ws) = ⊥
Ends (true ∷ around) (w ∷ ws) = Is token.CloseBrace w
Ends (false ∷ around) (w ∷ ws) = ⊥

ends_sealed : (braces : List Bool) (zs : List Word) → Ends braces zs → Sealed zs
ends_sealed braces [] ends = tt
ends_sealed [] (w ∷ ws) ends = absurd ends
ends_sealed (true ∷ around) (w ∷ ws) ends = ap is_separator ends.is
ends_sealed (false ∷ around) (w ∷ ws) ends = absurd ends

started : (t : Token) → starts t ≡ true → is_separator t ≡ false
started token.Separator is = absurd (true≢false (sym is))
started t is = refl

goes_on : (braces : List Bool) (t : Token) → starts t ≡ true → ends_block braces t ≡ false
goes_on braces token.CloseBrace is = absurd (true≢false (sym is))
goes_on braces t is = refl

begins_sealed : (ws : List Word) → Begins ws → Sealed ws
begins_sealed [] begins = tt
begins_sealed (w ∷ ws) begins = started w.token begins

-- before no separator it makes no difference whether an edge is
sealed_same : (braces : List Bool) (us : List Word) → Sealed us → marks braces inner us ≡ marks braces edge us
sealed_same braces [] other = refl
sealed_same braces (u ∷ us) other =
    mark_is braces inner (λ b g. marks b g us) u.token u.number other
    ∙ sym (mark_is braces edge (λ b g. marks b g us) u.token u.number other)

-- the separators at the front of a list at an edge, and the rest
record Stripped (braces : List Bool) (us : List Word) : Type 0 where
  separators : List Word
  rest : List Word
  parts : us ≡ separators ++ rest
  are : Separators separators
  sealed : Sealed rest
  same : marks braces inner rest ≡ marks braces edge us

strip : (braces : List Bool) (us : List Word) → Stripped braces us
strip braces [] = record { separators = []; rest = []; parts = refl; are = tt; sealed = tt; same = refl }
strip braces (u ∷ us) = by (is_separator u.token) refl (strip braces us)
  where
    by : (b : Bool) → is_separator u.token ≡ b → Stripped braces us → Stripped braces (u ∷ us)
    by true is s = record {
      separators = u ∷ s.separators;
      rest = s.rest;
      parts = ap (λ x. u ∷ x) s.parts;
      are = (record { is = separator_is u.token is }, s.are);
      sealed = s.sealed;
      same = s.same ∙ sym (mark_none braces edge (λ b g. marks b g us) u.token u.number is);
    }
    by false other s = record { separators = []; rest = u ∷ us; parts = refl; are = tt; sealed = other; same = sealed_same braces (u ∷ us) other }

-- separators before what a script ends with
record Closing (braces : List Bool) (zs us : List Word) : Type 0 where
  separators : List Word
  rest : List Word
  parts : us ≡ separators ++ rest
  are : Separators separators
  sealed : Sealed rest
  alike : Alike braces rest zs

closing : (braces : List Bool) (f g : Front) (zs us : List Word) → Ends braces zs → marks braces f us ≡ marks braces g zs → Closing braces zs us
closing braces f g zs us ends is =
    let s = strip braces us in
    record {
      separators = s.separators;
      rest = s.rest;
      parts = s.parts;
      are = s.are;
      sealed = s.sealed;
      alike = s.same ∙ alike_at_edge braces f g us zs is ∙ sym (sealed_same braces zs (ends_sealed braces zs ends));
    }

-- ---- the grammar

separators_script : (ss : List Word) → Separators ss → IsScript ss no_exprs
separators_script [] are = no_items
separators_script (s ∷ ss) are = separator are.0 (separators_script ss are.1)

separators_before : (ss : List Word) {ws : List Word} {es : Exprs} → Separators ss → IsScript ws es → IsScript (ss ++ ws) es
separators_before [] are it = it
separators_before (s ∷ ss) are it = separator are.0 (separators_before ss are.1 it)

separators_behind : (ss : List Word) {ws : List Word} {e : Expr} → Separators ss → IsItem ws e → IsScript (ws ++ ss) (exprs e no_exprs)
separators_behind [] {ws = ws} {e = e} are it = subst (λ ts. IsScript ts (exprs e no_exprs)) (sym (append-nil ws)) (last_item it)
separators_behind (s ∷ ss) are it = more_items it are.0 (separators_script ss are.1)

-- ---- scripts that are taken

abbrev pub AsScript : Exprs → List Word → Type 0
AsScript x ts = ReadAs IsScript unplaced_exprs x ts

abbrev pub AsItem : Expr → List Word → Type 0
AsItem x ts = ReadAs IsItem unplaced x ts

abbrev pub AsBlock : Exprs → List Word → Type 0
AsBlock x ts = ReadAs {A = Exprs × Span} (λ us a. IsBlock us a.0 a.1) (λ a. unplaced_exprs a.0) x ts

pub record TookScript (braces : List Bool) (zs us : List Word) (x : Exprs) : Type 0 where
  pub took : Took braces zs us (AsScript x)
  pub sealed : Sealed took.rest

-- where a script begins at an edge, and what stands behind it ends it
pub record TakesScript (ws : List Word) (x : Exprs) : Type 0 where
  pub take : (braces : List Bool) (zs us : List Word) → Ends braces zs → marks braces edge us ≡ marks braces edge (ws ++ zs) → TookScript braces zs us x

pub takes_no_items : TakesScript [] no_exprs
takes_no_items = record {
  take = λ braces zs us ends is.
      let c = closing braces edge edge zs us ends is in
      record {
        took = record {
          words = c.separators;
          rest = c.rest;
          parts = c.parts;
          alike = c.alike;
          told = record { tree = no_exprs; is = separators_script c.separators c.are; same = refl };
        };
        sealed = c.sealed;
      };
}

pub takes_separator : {w : Word} (ws : List Word) {x : Exprs} → Is token.Separator w → TakesScript ws x → TakesScript (w ∷ ws) x
takes_separator {w = w} ws is rest = record {
  take = λ braces zs us ends same.
      rest.take braces zs us ends (same ∙ mark_none braces edge (λ b g. marks b g (ws ++ zs)) w.token w.number (ap is_separator is.is));
}

-- what stands behind an item: with it, the words are read to a script that begins with the item
record Behind (braces : List Bool) (zs us : List Word) (x : Exprs) : Type 0 where
  words : List Word
  rest : List Word
  parts : us ≡ words ++ rest
  alike : Alike braces rest zs
  sealed : Sealed rest
  told : (ts : List Word) (e : Expr) → IsItem ts e → AsScript (exprs (unplaced e) x) (ts ++ words)

-- no item: separators alone
closed : (braces : List Bool) (g : Front) (zs us : List Word) → Ends braces zs → marks braces inner us ≡ marks braces g zs → Behind braces zs us no_exprs
closed braces g zs us ends is =
    let c = closing braces inner g zs us ends is in
    record {
      words = c.separators;
      rest = c.rest;
      parts = c.parts;
      alike = c.alike;
      sealed = c.sealed;
      told = λ ts e it. record { tree = exprs e no_exprs; is = separators_behind c.separators c.are it; same = refl };
    }

-- an item, and what stands behind it
takes_item : {ws : List Word} {y : Expr} → Begins ws → Takes ws (AsItem y) → (braces : List Bool) (zs us vs : List Word) (x : Exprs)
    → marks braces edge us ≡ marks braces edge (ws ++ vs) → ((ts : List Word) → Alike braces ts vs → Behind braces zs ts x)
    → TookScript braces zs us (exprs y x)
takes_item {ws = ws} begins item braces zs us vs x is behind =
    let s = strip braces us in
    let one = item.take braces vs s.rest
    (s.same ∙ is ∙ sym (sealed_same braces (ws ++ vs) (begins_sealed (ws ++ vs) (begins_more ws vs begins)))) in
    let two = behind one.rest one.alike in
    let script = two.told one.words one.told.tree one.told.is in
    record {
      took = record {
        words = s.separators ++ (one.words ++ two.words);
        rest = two.rest;
        parts = s.parts ∙ ap (λ t. s.separators ++ t) (one.parts ∙ ap (λ t. one.words ++ t) two.parts ∙ sym (append_assoc one.words two.words two.rest))
            ∙ sym (append_assoc s.separators (one.words ++ two.words) two.rest);
        alike = two.alike;
        told = record {
          tree = script.tree;
          is = separators_before s.separators s.are script.is;
          same = script.same ∙ ap (λ e. exprs e x) one.told.same;
        };
      };
      sealed = two.sealed;
    }

pub takes_last_item : {ws : List Word} {y : Expr} → Begins ws → Takes ws (AsItem y) → TakesScript ws (exprs y no_exprs)
takes_last_item begins item = record {
  take = λ braces zs us ends is.
      takes_item begins item braces zs us zs no_exprs is (λ ts alike. closed braces inner zs ts ends alike);
}

-- ---- behind a separator

-- where one list begins with a word behind a separator, the other begins with a separator
not_apart : (braces : List Bool) (xs us : List Word) → Begins xs → Sealed us → marks braces inner us ≡ marks braces behind_separator xs → ⊥
not_apart braces [] us begins sealed is = begins
not_apart braces (x ∷ xs) [] begins sealed is =
    none_is_some (is ∙ mark_is braces behind_separator (λ b g. marks b g xs) x.token x.number (started x.token begins))
not_apart braces (x ∷ xs) (u ∷ us) begins sealed is =
    let both = sym (mark_is braces inner (λ b g. marks b g us) u.token u.number sealed) ∙ is
    ∙ mark_is braces behind_separator (λ b g. marks b g xs) x.token x.number (started x.token begins) in
    let flag : false ≡ not (ends_block braces x.token) = ap (λ m. m.apart) (first_is both) in
    true≢false (sym (flag ∙ ap not (goes_on braces x.token begins)))

record NothingLeft (braces : List Bool) (vs zs : List Word) (es : Exprs) : Type 0 where
  none : es ≡ no_exprs
  same : marks braces behind_separator (vs ++ zs) ≡ marks braces behind_separator zs

-- so where the other doesn't, no item stands behind the separator
nothing_left : {vs : List Word} {es : Exprs} → IsScript vs es → (braces : List Bool) (zs us : List Word) → Sealed us
    → marks braces inner us ≡ marks braces behind_separator (vs ++ zs) → NothingLeft braces vs zs es
nothing_left no_items braces zs us sealed is = record { none = refl; same = refl }
nothing_left (separator {w = w} {ws = ws} sign it) braces zs us sealed is =
    let step = mark_none braces behind_separator (λ b g. marks b g (ws ++ zs)) w.token w.number (ap is_separator sign.is) in
    let left = nothing_left it braces zs us sealed (is ∙ step) in
    record { none = left.none; same = step ∙ left.same }
nothing_left (last_item {ws = ws} it) braces zs us sealed is =
    absurd (not_apart braces (ws ++ zs) us (begins_more ws zs (item_begins it)) sealed is)
nothing_left (more_items {ws = ws} {vs = vs} {w = w} it sign rest) braces zs us sealed is =
    absurd (not_apart braces ((ws ++ w ∷ vs) ++ zs) us (begins_more (ws ++ w ∷ vs) zs (begins_more ws (w ∷ vs) (item_begins it))) sealed is)

left_closed : {vs : List Word} {es : Exprs} → IsScript vs es → (braces : List Bool) (zs us : List Word) → Ends braces zs → Sealed us
    → marks braces inner us ≡ marks braces behind_separator (vs ++ zs) → Behind braces zs us (unplaced_exprs es)
left_closed it braces zs us ends sealed is =
    let left = nothing_left it braces zs us sealed is in
    subst (λ es. Behind braces zs us (unplaced_exprs es)) (sym left.none) (closed braces behind_separator zs us ends (is ∙ left.same))

items_behind : {vs : List Word} {es : Exprs} → IsScript vs es → TakesScript vs (unplaced_exprs es) → (braces : List Bool) (zs us : List Word)
    → Ends braces zs → marks braces inner us ≡ marks braces behind_separator (vs ++ zs) → Behind braces zs us (unplaced_exprs es)
items_behind it script braces zs [] ends is = left_closed it braces zs [] ends tt is
items_behind {vs = vs} {es = es} it script braces zs (u ∷ us) ends is = by (is_separator u.token) refl
  where
    by : (b : Bool) → is_separator u.token ≡ b → Behind braces zs (u ∷ us) (unplaced_exprs es)
    by false other = left_closed it braces zs (u ∷ us) ends other is
    by true such =
        let behind = sym (mark_none braces inner (λ b g. marks b g us) u.token u.number such) ∙ is in
        let t = script.take braces zs us ends (alike_at_edge braces behind_separator behind_separator us (vs ++ zs) behind) in
        record {
          words = u ∷ t.took.words;
          rest = t.took.rest;
          parts = ap (λ x. u ∷ x) t.took.parts;
          alike = t.took.alike;
          sealed = t.sealed;
          told = λ ts e item. record {
            tree = exprs e t.took.told.tree;
            is = more_items item (record { is = separator_is u.token such }) t.took.told.is;
            same = ap (λ x. exprs (unplaced e) x) t.took.told.same;
          };
        }

pub takes_more_items : {w : Word} {y : Expr} {es : Exprs} (ws vs : List Word) → Begins ws → Takes ws (AsItem y) → Is token.Separator w
    → IsScript vs es → TakesScript vs (unplaced_exprs es) → TakesScript (ws ++ w ∷ vs) (exprs y (unplaced_exprs es))
takes_more_items {w = w} {es = es} ws vs begins item sign it script = record {
  take = λ braces zs us ends is.
      takes_item begins item braces zs us (w ∷ (vs ++ zs)) (unplaced_exprs es)
      (is ∙ ap (marks braces edge) (append_assoc ws (w ∷ vs) zs))
      (λ ts alike. items_behind it script braces zs ts ends
      (alike ∙ mark_none braces inner (λ b g. marks b g (vs ++ zs)) w.token w.number (ap is_separator sign.is)));
}

-- ---- blocks

pub takes_block : {o c : Word} {x : Exprs} (ws : List Word) → Is token.OpenBlock o → TakesScript ws x → Is token.CloseBrace c → Takes (o ∷ ws ++ c ∷ []) (AsBlock x)
takes_block {o = o} {c = c} {x = x} ws opens script closes = record {
  take = λ braces zs us alike.
      let f : First (true ∷ braces) edge o ((ws ++ c ∷ []) ++ zs) us =
      sign_taken token.OpenBlock braces o ((ws ++ c ∷ []) ++ zs) us opens refl refl alike in
      let one = script.take (true ∷ braces) (c ∷ zs) f.rest closes
      (f.alike ∙ ap (marks (true ∷ braces) edge) (append_assoc ws (c ∷ []) zs)) in
      closed_block braces zs us f one.took one.sealed;
}
  where
    -- the brace that ends the block, where no separator stands before it
    brace_taken : (braces : List Bool) (zs us : List Word) → Sealed us → Alike (true ∷ braces) us (c ∷ zs) → First braces inner c zs us
    brace_taken braces zs us sealed is = end_of us sealed (is ∙ mark_is (true ∷ braces) inner (λ b g. marks b g zs) c.token c.number (ap is_separator closes.is))
      where
        end_of : (us : List Word) → Sealed us
            → marks (true ∷ braces) inner us ≡ record { apart = false; token = c.token; number = c.number } ∷ marks (braces_behind c.token (true ∷ braces)) (after_token c.token) zs
            → First braces inner c zs us
        end_of [] sealed is = absurd (none_is_some is)
        end_of (u ∷ us) sealed is =
            let both = sym (mark_is (true ∷ braces) inner (λ b g. marks b g us) u.token u.number sealed) ∙ is in
            let same : u.token ≡ c.token = ap (λ m. m.token) (first_is both) in
            record {
              word = u;
              rest = us;
              parts = refl;
              same = record { token = same; number = ap (λ m. m.number) (first_is both) };
              alike = ap (λ t. marks (braces_behind t (true ∷ braces)) (after_token t) us) (sym (same ∙ closes.is))
                  ∙ rest_is both ∙ ap (λ t. marks (braces_behind t (true ∷ braces)) (after_token t) zs) closes.is;
            }

    closed_block : (braces : List Bool) (zs us : List Word) (f : First (true ∷ braces) edge o ((ws ++ c ∷ []) ++ zs) us)
        (one : Took (true ∷ braces) (c ∷ zs) f.rest (AsScript x)) → Sealed one.rest → Took braces zs us (AsBlock x)
    closed_block braces zs us f one sealed =
        let g = brace_taken braces zs one.rest sealed one.alike in
        record {
          words = f.word ∷ one.words ++ g.word ∷ [];
          rest = g.rest;
          parts = f.parts ∙ ap (λ t. f.word ∷ t)
              (one.parts ∙ ap (λ t. one.words ++ t) g.parts ∙ sym (append_assoc one.words (g.word ∷ []) g.rest));
          alike = g.alike;
          told = record {
            tree = (one.told.tree, over f.word.span g.word.span);
            is = a_script (sign_again token.OpenBlock f.word o opens f.same) one.told.is (sign_again token.CloseBrace g.word c closes g.same);
            same = one.told.same;
          };
        }
